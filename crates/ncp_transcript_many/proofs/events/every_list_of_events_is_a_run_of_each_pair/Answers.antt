use Rattle.ncp_transcript_many.proofs.EveryPair.{events-pairs, events-seen}
use Rattle.ncp_transcript_many.proofs.events.every_list_of_events_is_a_run_of_each_pair.Goals as goal

pub returns-clause-run : goal.returns-clause-run
returns-clause-run c = events-pairs

pub returns-clause-seen : goal.returns-clause-seen
returns-clause-seen c events notes ns a b good fits are i j differ = events-seen events notes ns good fits are a b i j differ
