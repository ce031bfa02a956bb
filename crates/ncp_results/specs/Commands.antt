-- The commands of a message, one by one, as its receiver may read them (NIC 8246, control messages:
-- regular messages on link 0, with bytes of 8 bits).
use Rattle.std.specs.Prelude.{ℕ, Bool, ◌==◌, ◌&&◌, if◌then◌else◌, List, [], ◌∷◌, slice_get, Option, None, Some, Result, Ok, Err}
use Rattle.ncp_numbers.specs.Bytes.{bytes_of}
use Rattle.ncp_leader.specs.declared.fault.MessageFault.{MessageFault}
use Rattle.ncp_leader.specs.Message.{Message, message_in}
use Rattle.ncp_wire.specs.declared.command.Command.{Command}
use Rattle.ncp_wire.specs.declared.command.Command.TheVariants as command
use Rattle.ncp_wire.specs.declared.fault.CommandFault.{CommandFault}
use Rattle.ncp_control.specs.Texts.{items_of}
use Rattle.ncp_control.specs.Reading.{commands_in, fault_in}
use Rattle.ncp_peer.specs.Counting.{one_more}
use Rattle.ncp_results.specs.declared.commands.Tally.{Tally}

abbrev pub is_control_message : Message → Bool
is_control_message m = m.leader.kind == 0 && m.leader.link == 0 && m.size == 8

-- the text of a control message, as bytes; empty for any other bits
abbrev pub control_bytes : Result Message MessageFault → List ℕ
control_bytes (Ok m) = if is_control_message m then bytes_of m.text else []
control_bytes (Err fault) = []

abbrev pub control_text : List Bool → List ℕ
control_text bits = control_bytes (message_in bits)

-- the command at an index from 0
abbrev pub command_of_message : List Bool → ℕ → Option Command
command_of_message bits place = slice_get (commands_in (control_text bits)) place

-- an item of a control text is a command, or the fault after the commands
abbrev pub command_of : Option (Result Command CommandFault) → Option Command
command_of None = None
command_of (Some (Ok command)) = Some command
command_of (Some (Err fault)) = None

-- the commands of a control text, and its fault after them
abbrev pub items_read : List Bool → List (Result Command CommandFault)
items_read text = items_of (commands_in (bytes_of text)) (fault_in (bytes_of text))

-- The numbers of ERRs and of RSTs among commands. Each stays at its maximum (NIC 8246, ERR and RST).

abbrev pub no_tally : Tally
no_tally = record { errors = 0; resets = 0 }

abbrev pub command_tallied : Command → Tally → Tally
command_tallied (command.Err code bytes) t = record t { errors = one_more t.errors }
command_tallied command.Rst t = record t { resets = one_more t.resets }
command_tallied other t = t

abbrev pub command_tally_from : Tally → List Command → Tally
command_tally_from t [] = t
command_tally_from t (c ∷ cs) = command_tally_from (command_tallied c t) cs

-- the tally of a control message; zero for any other bits
abbrev pub command_tally_of : List Bool → Tally
command_tally_of bits = command_tally_from no_tally (commands_in (control_text bits))
