use Rattle.ncp_world.proofs.many.Many+S.keeps.Goals as goal

pub returns-clause-within_budget : goal.returns-clause-within_budget
returns-clause-within_budget g c = c.what_moves_between_two_of_many_is_bounded.ensures.work c.args.self.now.notes c.args.self.now.hosts c.transcript-notes.ensures.run
