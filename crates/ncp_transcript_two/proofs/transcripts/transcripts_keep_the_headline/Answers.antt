use Rattle.ncp_transcript_two.specs.World.{swap}
use Rattle.ncp_transcript_two.specs.Watch.{turn}
use Rattle.ncp_transcript_two.specs.Seen.{seen}
use Rattle.ncp_transcript_two.specs.OfRules.{histories_of}
use Rattle.ncp_transcript_two.proofs.Carried.{got-begins, got-held, got-within, counterpart-over}
use Rattle.ncp_transcript_two.proofs.Underway.{amounts-carried, parted-carried, no-reset-carried}
use Rattle.ncp_transcript_two.proofs.Headlines.{watched-all, none-is-refused}
use Rattle.ncp_transcript_two.proofs.transcripts.transcripts_keep_the_headline.Goals as goal

pub returns-clause-beginning : goal.returns-clause-beginning
returns-clause-beginning c = λ ns w pair is s. (let t = watched-all ns w is in let p = histories_of ns w in (got-begins pair s (seen w) p t, got-begins pair s (swap (seen w)) (turn p) (counterpart-over (seen w) p t)))

pub returns-clause-held : goal.returns-clause-held
returns-clause-held c = λ ns w pair is s. (let t = watched-all ns w is in let p = histories_of ns w in (got-held pair s (seen w) p t, got-held pair s (swap (seen w)) (turn p) (counterpart-over (seen w) p t)))

pub returns-clause-allocation : goal.returns-clause-allocation
returns-clause-allocation c = λ ns w pair is s. (let t = watched-all ns w is in let p = histories_of ns w in (got-within pair s (seen w) p t, got-within pair s (swap (seen w)) (turn p) (counterpart-over (seen w) p t)))

pub returns-clause-amounts : goal.returns-clause-amounts
returns-clause-amounts c = λ ns w pair is s. (let t = watched-all ns w is in let p = histories_of ns w in (amounts-carried pair s (seen w) p t, amounts-carried pair s (swap (seen w)) (turn p) (counterpart-over (seen w) p t)))

pub returns-clause-parted : goal.returns-clause-parted
returns-clause-parted c = λ ns w pair is s. (let t = watched-all ns w is in let p = histories_of ns w in (parted-carried pair s (seen w) p t, parted-carried pair s (swap (seen w)) (turn p) (counterpart-over (seen w) p t)))

pub returns-clause-resets : goal.returns-clause-resets
returns-clause-resets c = λ ns w is. (let t = watched-all ns w is in let p = histories_of ns w in (no-reset-carried (seen w) p t, no-reset-carried (swap (seen w)) (turn p) (counterpart-over (seen w) p t)))

pub returns-clause-refused : goal.returns-clause-refused
returns-clause-refused c = none-is-refused
