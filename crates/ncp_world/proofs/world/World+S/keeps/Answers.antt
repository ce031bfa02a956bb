use Rattle.ncp_world.proofs.world.World+S.keeps.Goals as goal

pub returns-clause-within_budget : goal.returns-clause-within_budget
returns-clause-within_budget g c = c.moves_are_bounded.ensures.work c.args.self.now.notes c.args.self.now.hosts c.transcript-notes.ensures.run
