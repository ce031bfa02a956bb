use Rattle.std.proofs.Common.{inl, inr, refl, rules, sym, ◌∙◌, subst}
use Rattle.ncp_play_program.specs.Orders.{streams_of, Does}
use Rattle.ncp_play_program.proofs.Statuses.{after_fault}
use Rattle.ncp_play_program.proofs.program.run_command_line.Goals as goal

pub returns-clause-obeyed : goal.returns-clause-obeyed
returns-clause-obeyed g c =
    let before = streams_of (g.S.Source.left c.args.source.now) (g.S.Source.has_failed c.args.source.now) (g.W.Sink.written c.args.sink.now) (g.W.Sink.has_failed c.args.sink.now) in
    let now = streams_of (g.S.Source.left c.carry_out-answer.new.source) (g.S.Source.has_failed c.carry_out-answer.new.source) (g.W.Sink.written c.carry_out-answer.new.sink) (g.W.Sink.has_failed c.carry_out-answer.new.sink) in
    let answer = c.carry_out-answer.result in
    inl (c.in-Ok.ensures.kinds, answer, subst (λ order. Does before answer now order) c.in-Ok.ensures.named c.carry_out-answer.ensures.does, c.conclude.ensures.output, c.conclude.ensures.status)

pub returns-clause-read_failed : goal.returns-clause-read_failed
returns-clause-read_failed g c = λ e. c.conclude.ensures.status ∙ after_fault c.carry_out-answer.result (c.carry_out-answer.ensures.read_failed e)

pub returns-clause-write_failed : goal.returns-clause-write_failed
returns-clause-write_failed g c = λ e. c.conclude.ensures.status ∙ after_fault c.carry_out-answer.result (c.carry_out-answer.ensures.write_failed e)

pub returns-in-Err-clause-obeyed : goal.returns-in-Err-clause-obeyed
returns-in-Err-clause-obeyed g c = inr (c.in-Err.error, c.in-Err.ensures.kinds, search rules, refl, refl)

pub returns-in-Err-clause-read_failed : goal.returns-in-Err-clause-read_failed
returns-in-Err-clause-read_failed g c = λ e. absurd (cc (sym e ∙ c.requires.source_clean))

pub returns-in-Err-clause-write_failed : goal.returns-in-Err-clause-write_failed
returns-in-Err-clause-write_failed g c = λ e. absurd (cc (sym e ∙ c.requires.sink_clean))
