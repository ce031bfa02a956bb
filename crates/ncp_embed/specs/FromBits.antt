-- The effects of the first bits of a buffer of C: they are received by a host, given to a connection, or
-- read. If they are invalid, nothing changes.
use Rattle.std.specs.Prelude.{ℕ, Bool, List, Option, None, Result, Ok, Err}
use Rattle.ncp_bits.specs.declared.bits.BitsFault.{BitsFault}
use Rattle.ncp_bits.specs.Bits.{read_bytes}
use Rattle.ncp_wire.specs.declared.command.Command.{Command}
use Rattle.ncp_model.specs.Peers.{Give}
use Rattle.ncp_host.specs.Arrivals.{after_received}
use Rattle.ncp_embed.specs.declared.handle.held.BoxedHost.{BoxedHost}
use Rattle.ncp_results.specs.declared.returned.Arrived.{Arrived}
use Rattle.ncp_embed.specs.declared.which.ConnectionId.{ConnectionId}
use Rattle.ncp_results.specs.Commands.{command_of_message}
use Rattle.ncp_embed.specs.Connected.{code_of_call, host_called}
use Rattle.ncp_embed.specs.Exports.{host_changed_in, code_of_bits, after_bits_read, code_if_any, arrived_in}
use Rattle.ncp_embed.specs.Buffers.{command_code}

-- received by the host: the host after it, and the result

abbrev pub host_after_bits : Result (List Bool) BitsFault → Option BoxedHost → Option BoxedHost
host_after_bits read at = after_bits_read read (λ came. host_changed_in (after_received came) at) at

abbrev pub arrived_from_bits : Result (List Bool) BitsFault → Option BoxedHost → Arrived → Arrived
arrived_from_bits read at out = after_bits_read read (λ came. arrived_in came at out) out

-- given to the connection between two sockets

abbrev pub code_of_give : ConnectionId → List ℕ → ℕ → Option BoxedHost → ℕ
code_of_give which bytes bits at = code_of_bits (read_bytes bytes bits) (λ text. code_of_call which (Give text) at)

abbrev pub host_after_give : ConnectionId → List ℕ → ℕ → Option BoxedHost → Option BoxedHost
host_after_give which bytes bits at = after_bits_read (read_bytes bytes bits) (λ text. host_called which (Give text) at) at

-- a message of which one command is read

abbrev pub code_of_command : Result (List Bool) BitsFault → ℕ → List ℕ → ℕ
code_of_command read place out = code_of_bits read (λ came. command_code out (code_if_any (command_of_message came place)))

abbrev pub command_read : Result (List Bool) BitsFault → ℕ → Option Command
command_read (Ok came) place = command_of_message came place
command_read (Err fault) place = None
