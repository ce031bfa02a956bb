use Rattle.ncp_play_program.proofs.program.trace.Goals as goal

pub returns-in-Some-clause-does : goal.returns-in-Some-clause-does
returns-in-Some-clause-does g c = rw c.in-Some.is c.trace_text.ensures.does

pub returns-in-None-clause-does : goal.returns-in-None-clause-does
returns-in-None-clause-does g c = rw c.in-None.is c.trace_lines.ensures.does
