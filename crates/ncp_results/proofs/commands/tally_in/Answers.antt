use Rattle.std.proofs.Common.{◌≡◌, Bool, true, if◌then◌else◌, [], Result, sym, ap, ◌∙◌}
use Rattle.ncp_numbers.specs.Bytes.{bytes_of}
use Rattle.ncp_leader.specs.declared.fault.MessageFault.{MessageFault}
use Rattle.ncp_leader.specs.Message.{Message}
use Rattle.ncp_control.specs.Reading.{commands_in}
use Rattle.ncp_results.specs.declared.commands.Tally.{Tally}
use Rattle.ncp_results.specs.Commands.{control_bytes, is_control_message, no_tally, command_tally_from}
use Rattle.ncp_results.proofs.ControlTexts.{no_tally_of_nothing, no_tally_of_other}
use Rattle.ncp_results.proofs.commands.tally_in.Goals as goal

abbrev among : Result Message MessageFault → Tally
among message = command_tally_from no_tally (commands_in (control_bytes message))

pub returns-in_default : goal.returns-in_default
returns-in_default c = c.no_tally.ensures ∙ no_tally_of_nothing ∙ ap among (sym c.in_default.is ∙ c.read_regular_in.ensures.exact)

pub returns-then-not-is_control : goal.returns-then-not-is_control
returns-then-not-is_control c =
    c.no_tally-then-not-is_control.ensures ∙ no_tally_of_other c.in-Ok.message (sym c.is_control.ensures ∙ c.if-not-is_control.true) ∙ ap among (sym c.in-Ok.is ∙ c.read_regular_in.ensures.exact)

pub returns : goal.returns
returns c =
    let control : true ≡ is_control_message c.in-Ok.message = sym c.if-not-is_control.false ∙ c.is_control.ensures in
    let text = ap (λ text. command_tally_from no_tally (commands_in (bytes_of text))) c.text.ensures.text in
    let is = ap (λ (control : Bool). command_tally_from no_tally (commands_in (if control then bytes_of c.in-Ok.message.text else []))) control in
    c.tally_at.ensures ∙ text ∙ is ∙ ap among (sym c.in-Ok.is ∙ c.read_regular_in.ensures.exact)
