use Rattle.std.proofs.Common.{◌≡◌, Bool, true, if◌then◌else◌, [], Result, sym, ap, ◌∙◌}
use Rattle.ncp_numbers.specs.Bytes.{bytes_of}
use Rattle.ncp_leader.specs.declared.fault.MessageFault.{MessageFault}
use Rattle.ncp_leader.specs.Message.{Message}
use Rattle.ncp_control.specs.Reading.{commands_in}
use Rattle.ncp_results.specs.Commands.{control_bytes, is_control_message}
use Rattle.ncp_results.specs.Unacknowledged.{has_reset_among}
use Rattle.ncp_results.proofs.ControlTexts.{no_reset_of_nothing, no_reset_of_other}
use Rattle.ncp_results.proofs.commands.has_reset.Goals as goal

abbrev among : Result Message MessageFault → Bool
among message = has_reset_among (commands_in (control_bytes message))

pub returns-in_default : goal.returns-in_default
returns-in_default c = no_reset_of_nothing ∙ ap among (sym c.in_default.is ∙ c.read_regular_in.ensures.exact)

pub returns-then-not-is_control : goal.returns-then-not-is_control
returns-then-not-is_control c =
    no_reset_of_other c.in-Ok.regular (sym c.is_control.ensures ∙ c.if-not-is_control.true) ∙ ap among (sym c.in-Ok.is ∙ c.read_regular_in.ensures.exact)

pub returns : goal.returns
returns c =
    let control : true ≡ is_control_message c.in-Ok.regular = sym c.if-not-is_control.false ∙ c.is_control.ensures in
    let text = ap (λ text. has_reset_among (commands_in (bytes_of text))) c.text.ensures.text in
    let is = ap (λ (control : Bool). has_reset_among (commands_in (if control then bytes_of c.in-Ok.regular.text else []))) control in
    c.has_reset_at.ensures ∙ text ∙ is ∙ ap among (sym c.in-Ok.is ∙ c.read_regular_in.ensures.exact)
