use Rattle.ncp_transcript_many.proofs.InVain.{nothing-vain, out-vain, called-vain, came-vain, answered-vain}
use Rattle.ncp_transcript_many.proofs.transcripts.nothing_of_many_is_noted_only_where_nothing_can_be.Goals as goal

pub returns-clause-nothing : goal.returns-clause-nothing
returns-clause-nothing c = nothing-vain

pub returns-clause-out : goal.returns-clause-out
returns-clause-out c = out-vain

pub returns-clause-called : goal.returns-clause-called
returns-clause-called c = λ host before after m is. called-vain before after m host is

pub returns-clause-came : goal.returns-clause-came
returns-clause-came c = λ from to link before after m is. came-vain before after m from to link is

pub returns-clause-answered : goal.returns-clause-answered
returns-clause-answered c = λ from to link before after m is. answered-vain before after m from to link is
