-- What a regular message carries (NIC 8246): commands on link 0, a text on the link of a connection.
use Rattle.std.specs.Prelude.{ℕ, ◌==◌, not, ◌||◌, nat_lt, Bool, List, Result, if◌then◌else◌}
use Rattle.ncp_numbers.specs.Bytes.{bytes_of}
use Rattle.ncp_leader.specs.Message.{Message}
use Rattle.ncp_wire.specs.declared.command.Command.{Command}
use Rattle.ncp_wire.specs.declared.fault.CommandFault.{CommandFault}
use Rattle.ncp_control.specs.Texts.{items_of}
use Rattle.ncp_control.specs.Reading.{commands_in, fault_in}
use Rattle.ncp_interface.specs.declared.message_class.MessageClass.{MessageClass}
use Rattle.ncp_interface.specs.declared.message_class.MessageClass.TheVariants.{Stop, Text, Control}

-- link 1, and those over 71, carry neither control nor a connection
abbrev pub is_unused : ℕ → Bool
is_unused link = link == 1 || nat_lt 71 link

-- What a regular message carries: the text of a connection, a control text, or nothing that is read
-- (`Stop`). It is nothing if the link is unused, or is 0 with a byte size other than 8.
abbrev pub message_class : Message → MessageClass
message_class message =
    if is_unused message.leader.link then Stop
    else if not (message.leader.link == 0) then Text
    else if message.size == 8 then Control
    else Stop

-- the commands of a control text, then its fault
abbrev pub items_said : List Bool → List (Result Command CommandFault)
items_said text = items_of (commands_in (bytes_of text)) (fault_in (bytes_of text))
