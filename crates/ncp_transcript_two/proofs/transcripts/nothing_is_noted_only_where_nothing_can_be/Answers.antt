use Rattle.ncp_transcript_two.proofs.Impossible.{moves-vain, out-vain, called-vain, came-vain, answered-vain}
use Rattle.ncp_transcript_two.proofs.transcripts.nothing_is_noted_only_where_nothing_can_be.Goals as goal

pub returns-clause-moves : goal.returns-clause-moves
returns-clause-moves c = moves-vain

pub returns-clause-out : goal.returns-clause-out
returns-clause-out c = out-vain

pub returns-clause-called : goal.returns-clause-called
returns-clause-called c = λ side before after w h. called-vain before after w side h

pub returns-clause-came : goal.returns-clause-came
returns-clause-came c = λ side link before after w h. came-vain before after w side link h

pub returns-clause-answered : goal.returns-clause-answered
returns-clause-answered c = λ side link before after w h. answered-vain before after w side link h
