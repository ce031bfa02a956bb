-- Messages and commands written to the front of a buffer of C. The buffer needs room for the longest one:
-- `SHORT_BUFFER` is the first refusal, and then nothing changes.
use Rattle.std.specs.Prelude.{◌≡◌, ℕ, Bool, List, length, Option, None, Some, Result, Ok, Err}
use Rattle.ncp_wire.specs.declared.command.Command.{Command}
use Rattle.ncp_wire.specs.declared.command.TheConstants.{LONGEST_COMMAND}
use Rattle.ncp_model.specs.declared.call_fault.CallFault.{CallFault}
use Rattle.ncp_model.specs.Peers.{Take}
use Rattle.ncp_host.specs.Host.{Host, state_of}
use Rattle.ncp_peer.specs.PeerCalls.{waiting_at, kept_for}
use Rattle.ncp_host.specs.Calls.{take_reply}
use Rattle.ncp_peer.specs.Readiness.{IsNext}
use Rattle.ncp_host.specs.Turns.{next_output}
use Rattle.ncp_subnet.specs.Subnet.{Subnet}
use Rattle.ncp_embed.specs.declared.handle.held.BoxedHost.{BoxedHost}
use Rattle.ncp_embed.specs.declared.net.carried.BoxedSubnet.{BoxedSubnet}
use Rattle.ncp_results.specs.declared.codes.TheConstants.{LONGEST_MESSAGE, SHORT_BUFFER}
use Rattle.ncp_embed.specs.declared.which.ConnectionId.{ConnectionId}
use Rattle.ncp_embed.specs.Which.{of_which}
use Rattle.ncp_embed.specs.Connected.{host_called}
use Rattle.ncp_embed.specs.Exports.{held, code_in, host_changed_in, any_of, with_room, over, bytes_saved, message_over, size_of_message, command_over, size_of_command}
use Rattle.ncp_embed.specs.SubnetExports.{changed_in}

-- a code, if there is room
abbrev pub message_code : List ℕ → ℕ → ℕ
message_code out code = with_room LONGEST_MESSAGE out SHORT_BUFFER code

abbrev pub command_code : List ℕ → ℕ → ℕ
command_code out code = with_room LONGEST_COMMAND out SHORT_BUFFER code

-- the host, or the subnet, after a change, if there is room
abbrev pub host_with_room : List ℕ → (Host → Host) → Option BoxedHost → Option BoxedHost
host_with_room out after at = with_room LONGEST_MESSAGE out at (host_changed_in after at)

abbrev pub subnet_with_room : List ℕ → (Subnet → Subnet) → Option BoxedSubnet → Option BoxedSubnet
subnet_with_room out after at = with_room LONGEST_MESSAGE out at (changed_in after at)

-- the message that was found, if any, and its number of bits
abbrev pub message_put : Option (List Bool) → List ℕ → List ℕ
message_put found out = with_room LONGEST_MESSAGE out out (any_of message_over found out)

abbrev pub bits_put : Option (List Bool) → List ℕ → ℕ → ℕ
bits_put found out bits = with_room LONGEST_MESSAGE out bits (any_of size_of_message found bits)

-- the command that was found, if any, and its number of bytes
abbrev pub command_put : Option Command → List ℕ → List ℕ
command_put found out = with_room LONGEST_COMMAND out out (any_of command_over found out)

abbrev pub bytes_put : Option Command → List ℕ → ℕ → ℕ
bytes_put found out bytes = with_room LONGEST_COMMAND out bytes (any_of size_of_command found bytes)

-- a lookup in a host, if there is a host, and in a subnet, if there is one
abbrev pub found_in_host : {A : Type 0} → (Host → Option A) → Option BoxedHost → Option A
found_in_host reply None = None
found_in_host reply (Some at) = reply at.host

abbrev pub found_in_net : {A : Type 0} → (Subnet → Option A) → Option BoxedSubnet → Option A
found_in_net reply None = None
found_in_net reply (Some at) = reply at.subnet

-- the command at an index of the queue for a peer, and the message kept on a link to it
abbrev pub waiting_returned : ℕ → ℕ → Host → Option Command
waiting_returned peer place h = waiting_at (state_of h peer) place

abbrev pub kept_returned : ℕ → ℕ → Host → Option (List Bool)
kept_returned peer link h = kept_for (state_of h peer) link

-- the message that is sent next is the first ready one
abbrev pub FirstIsReady : Option BoxedHost → Type 0
FirstIsReady at = (h : Host) → at ≡ Some (held h) → IsNext (next_output h) h.peers

-- a call that takes text: its code, the host after it, and the text, if it is not refused
abbrev pub code_of_take : ConnectionId → ℕ → List ℕ → Option BoxedHost → ℕ
code_of_take which bytes out at = message_code out (code_in (of_which take_reply which bytes) at)

abbrev pub host_after_take : ConnectionId → ℕ → List ℕ → Option BoxedHost → Option BoxedHost
host_after_take which bytes out at = with_room LONGEST_MESSAGE out at (host_called which (Take bytes) at)

abbrev pub answer_if_ok : {A : Type 0} → Result A CallFault → Option A
answer_if_ok (Ok answer) = Some answer
answer_if_ok (Err fault) = None

abbrev pub taken_text : ConnectionId → ℕ → Option BoxedHost → Option (List Bool)
taken_text which bytes at = found_in_host (λ h. answer_if_ok (of_which take_reply which bytes h)) at

-- a host as bytes, of any length
abbrev pub saved_over : Option BoxedHost → List ℕ → List ℕ
saved_over at out = over (bytes_saved at) (length (bytes_saved at)) out
