-- The messages that bits received by a host can cause.
use Rattle.std.specs.Prelude.{ℕ, ◌+◌, ◌==◌, Bool, if◌then◌else◌, List, Option, None, Some, Result, Ok, Err}
use Rattle.ncp_numbers.specs.Bytes.{bytes_of}
use Rattle.ncp_leader.specs.declared.leader.Leader.{Leader}
use Rattle.ncp_leader.specs.declared.fault.MessageFault.{MessageFault}
use Rattle.ncp_leader.specs.Message.{Message, message_in}
use Rattle.ncp_wire.specs.declared.fault.CommandFault.{CommandFault}
use Rattle.ncp_control.specs.Reading.{commands_in, fault_in}
use Rattle.ncp_peer.specs.PeerState.{control_link}
use Rattle.ncp_peer.specs.Hearing.{control_size, is_wrong_link, regular}
use Rattle.ncp_proof_progress.specs.Work.{causes_all}

abbrev pub fault_brings : Option CommandFault → ℕ
fault_brings None = 0
fault_brings (Some fault) = 1

-- a control text: the messages its commands cause, and one for its fault
abbrev pub control_brings : Message → ℕ
control_brings m = if m.size == control_size then causes_all (commands_in (bytes_of m.text)) + fault_brings (fault_in (bytes_of m.text)) else 0

abbrev pub message_brings : ℕ → Result Message MessageFault → ℕ
message_brings on (Err fault) = 0
message_brings on (Ok m) = if is_wrong_link on then 0 else if on == control_link then control_brings m else 1

abbrev pub bits_bring : Leader → List Bool → ℕ
bits_bring leader bits = if leader.kind == regular then message_brings leader.link (message_in bits) else 0
