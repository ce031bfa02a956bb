-- Calls on a host that allocate.
use Rattle.std.specs.Prelude.{ℕ, Result}
use Rattle.ncp_model.specs.declared.pair.Pair.{Pair}
use Rattle.ncp_model.specs.declared.call_fault.CallFault.{CallFault}
use Rattle.ncp_model.specs.Peers.{PairCall}
use Rattle.ncp_host.specs.Host.{Host}
use Rattle.ncp_peer.specs.PeerCalls.{DoneOrNoMemory}
use Rattle.ncp_host.specs.Calls.{call_reply, after_call_to}

-- a call on a connection is done, or on allocation failure changes nothing
abbrev pub AsksOrNoMemory : ℕ → Pair → PairCall → Result (Unit {0}) CallFault → Host → Host → Type 0
AsksOrNoMemory peer pair call result before now =
    DoneOrNoMemory (call_reply peer pair call before) (after_call_to peer pair call before) result before now
