use Rattle.ncp_play_world.proofs.recorder.record_world.Goals as goal

pub returns-clause-output : goal.returns-clause-output
returns-clause-output g c = c.play_script.ensures.output

pub returns-clause-many : goal.returns-clause-many
returns-clause-many g c = c.play_script.ensures.many
