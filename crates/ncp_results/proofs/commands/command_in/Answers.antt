use Rattle.std.proofs.Common.{◌≡◌, ℕ, Bool, true, if◌then◌else◌, [], Option, Result, slice_get, sym, ap, ◌∙◌}
use Rattle.ncp_numbers.specs.Bytes.{bytes_of}
use Rattle.ncp_leader.specs.declared.fault.MessageFault.{MessageFault}
use Rattle.ncp_leader.specs.Message.{Message}
use Rattle.ncp_wire.specs.declared.command.Command.{Command}
use Rattle.ncp_control.specs.Reading.{commands_in}
use Rattle.ncp_results.specs.Commands.{control_bytes, is_control_message}
use Rattle.ncp_results.proofs.ControlTexts.{nothing, other, in_text}
use Rattle.ncp_results.proofs.commands.command_in.Goals as goal

abbrev found_in : ℕ → Result Message MessageFault → Option Command
found_in place message = slice_get (commands_in (control_bytes message)) place

pub returns-in_default : goal.returns-in_default
returns-in_default c = nothing c.args.place ∙ ap (found_in c.args.place) (sym c.in_default.is ∙ c.read_regular_in.ensures.exact)

pub returns-then-not-is_control : goal.returns-then-not-is_control
returns-then-not-is_control c =
    other c.in-Ok.message c.args.place (sym c.is_control.ensures ∙ c.if-not-is_control.true) ∙ ap (found_in c.args.place) (sym c.in-Ok.is ∙ c.read_regular_in.ensures.exact)

pub returns : goal.returns
returns c =
    let control : true ≡ is_control_message c.in-Ok.message = sym c.if-not-is_control.false ∙ c.is_control.ensures in
    let text = ap (λ text. slice_get (commands_in (bytes_of text)) c.args.place) c.text.ensures.text in
    let is = ap (λ (control : Bool). slice_get (commands_in (if control then bytes_of c.in-Ok.message.text else [])) c.args.place) control in
    c.command_at.ensures ∙ in_text (bytes_of c.text.result) c.args.place ∙ text ∙ is ∙ ap (found_in c.args.place) (sym c.in-Ok.is ∙ c.read_regular_in.ensures.exact)
