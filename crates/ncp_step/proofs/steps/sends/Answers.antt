use Rattle.ncp_step.proofs.steps.sends.Goals as goal

pub returns-clause-subnet : goal.returns-clause-subnet
returns-clause-subnet g c = c.pass_on.ensures
