use Rattle.ncp_play_program.proofs.program.conclude.Goals as goal

pub returns-in-Err-clause-output : goal.returns-in-Err-clause-output
returns-in-Err-clause-output g c = rw c.in-Err.is (c.tell-untold.result, c.tell-untold.ensures.output, c.tell-untold.ensures.mark)
