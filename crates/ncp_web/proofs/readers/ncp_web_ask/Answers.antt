use Rattle.std.proofs.Common.{Option, inr, subst}
use Rattle.ncp_web.specs.declared.handle.held.BoxedSession.{BoxedSession}
use Rattle.ncp_web.specs.Readings.{asked_by_line_of, Asks, AsksHeld}
use Rattle.ncp_web.proofs.readers.ncp_web_ask.Goals as goal

pub returns-clause-asked : goal.returns-clause-asked
returns-clause-asked c =
    let line = c.args.line.now in let answer = c.ask-asked.result in let text = c.ask-asked.new.sink.written in
    let asked = subst (λ (held : BoxedSession). Asks (asked_by_line_of held.stage line) answer text) c.deref.ensures c.ask-asked.ensures in
    inr (subst (λ (s : Option BoxedSession). AsksHeld line c.code_of_asking.result s c.args.out.now c.copy_out.new.out c.copy_out.result) c.in-Some.ensures.held
    (answer, text, asked, c.code_of_asking.ensures, (c.copy_out.ensures.count, c.copy_out.ensures.front, c.copy_out.ensures.rest)))
