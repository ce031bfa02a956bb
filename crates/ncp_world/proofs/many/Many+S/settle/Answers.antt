use Rattle.ncp_world.proofs.many.Many+S.settle.Goals as goal

pub returns-in_err-gone_on-clause-within : goal.returns-in_err-gone_on-clause-within
returns-in_err-gone_on-clause-within g c =
    c.what_happens_among_many_is_within_the_work.ensures.within c.args.self.now c.go_on_to_the_end-gone_on.new.self c.transcript-before.ensures.run c.go_on_to_the_end-gone_on.ensures.made

pub returns-clause-within : goal.returns-clause-within
returns-clause-within g c =
    c.what_happens_among_many_is_within_the_work.ensures.within c.args.self.now c.go_on_to_the_end-gone_on.new.self c.transcript-before.ensures.run c.go_on_to_the_end-gone_on.ensures.made
