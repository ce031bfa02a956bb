use Rattle.std.proofs.Common.{Option, inr, sym, ap, ◌∙◌, subst}
use Rattle.ncp_wire.specs.declared.command.Command.{Command}
use Rattle.ncp_web.specs.declared.handle.held.BoxedSession.{BoxedSession}
use Rattle.ncp_web.specs.Readings.{waiting_in, WaitsHeld, RendersWaiting}
use Rattle.ncp_web.proofs.readers.ncp_web_waiting.Goals as goal

pub returns-clause-waits : goal.returns-clause-waits
returns-clause-waits c =
    let queued = c.args.queued.now in let code = c.code_of_saying.result in
    let before = c.args.out.now in let now = c.copy_out.new.out in let written = c.copy_out.result in
    let waits = sym c.in-Some-waiting.is ∙ c.waiting_at-waiting.ensures ∙ ap (λ (held : BoxedSession). waiting_in held.stage queued) c.deref.ensures in
    inr (subst (λ (s : Option BoxedSession). WaitsHeld queued code s before now written) c.in-Some.ensures.held
    (subst (λ (w : Option Command). RendersWaiting w code before now written) waits
    (c.render_command-said.result, c.render_command-said.new.sink.written, c.render_command-said.ensures, c.code_of_saying.ensures, (c.copy_out.ensures.count, c.copy_out.ensures.front, c.copy_out.ensures.rest))))
