-- What a reader meets at a place of a control text is the command there, or none.
use Rattle.std.proofs.Common.{◌≡◌, ℕ, zero, suc, List, [], ◌∷◌, Bool, false, if◌then◌else◌, Option, None, Some, Ok, slice_get, refl, sym, ap, ◌∙◌}
use Rattle.ncp_wire.specs.declared.command.Command.{Command}
use Rattle.ncp_wire.specs.declared.fault.CommandFault.{CommandFault}
use Rattle.ncp_control.specs.Texts.{items_of}
use Rattle.ncp_control.specs.Reading.{commands_within, commands_in, fault_in}
use Rattle.ncp_numbers.specs.Bytes.{bytes_of}
use Rattle.ncp_leader.specs.Message.{Message}
use Rattle.ncp_results.specs.Commands.{is_control_message, control_bytes, command_of, no_tally, command_tally_from}
use Rattle.ncp_results.specs.Unacknowledged.{has_reset_among}

at_place : (commands : List Command) (fault : Option CommandFault) (place : ℕ) → command_of (slice_get (items_of commands fault) place) ≡ slice_get commands place
at_place [] None place = refl
at_place [] (Some fault) zero = refl
at_place [] (Some fault) (suc place) = refl
at_place (command ∷ commands) fault zero = refl
at_place (command ∷ commands) fault (suc place) = at_place commands fault place

-- where there is no control text, there is no command
pub nothing : (place : ℕ) → None ≡ slice_get (commands_in []) place
unfolding commands_within
nothing place = refl

pub other : (m : Message) (place : ℕ) → is_control_message m ≡ false → None ≡ slice_get (commands_in (control_bytes (Ok m))) place
other m place e = nothing place ∙ ap (λ (control : Bool). slice_get (commands_in (if control then bytes_of m.text else [])) place) (sym e)

pub in_text : (bytes : List ℕ) (place : ℕ) → command_of (slice_get (items_of (commands_in bytes) (fault_in bytes)) place) ≡ slice_get (commands_in bytes) place
in_text bytes place = at_place (commands_in bytes) (fault_in bytes) place

pub no_tally_of_nothing : no_tally ≡ command_tally_from no_tally (commands_in [])
unfolding commands_within
no_tally_of_nothing = refl

pub no_tally_of_other : (m : Message) → is_control_message m ≡ false → no_tally ≡ command_tally_from no_tally (commands_in (control_bytes (Ok m)))
no_tally_of_other m e = no_tally_of_nothing ∙ ap (λ (control : Bool). command_tally_from no_tally (commands_in (if control then bytes_of m.text else []))) (sym e)

pub no_reset_of_nothing : false ≡ has_reset_among (commands_in [])
unfolding commands_within
no_reset_of_nothing = refl

pub no_reset_of_other : (m : Message) → is_control_message m ≡ false → false ≡ has_reset_among (commands_in (control_bytes (Ok m)))
no_reset_of_other m e = no_reset_of_nothing ∙ ap (λ (control : Bool). has_reset_among (commands_in (if control then bytes_of m.text else []))) (sym e)
