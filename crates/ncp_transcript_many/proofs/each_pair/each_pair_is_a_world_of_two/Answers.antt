use Rattle.ncp_transcript_many.proofs.EachPair.{each-pair, pair-seen}
use Rattle.ncp_transcript_many.proofs.each_pair.each_pair_is_a_world_of_two.Goals as goal

pub returns-clause-run : goal.returns-clause-run
returns-clause-run c = each-pair

pub returns-clause-seen : goal.returns-clause-seen
returns-clause-seen c ns m t a b i j differ = pair-seen ns m t a b i j differ
