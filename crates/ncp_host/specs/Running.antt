-- What can happen to a host: calls of its user, received bits, and sent messages, in any order.
use Rattle.std.specs.Prelude.{◌≡◌, ℕ, Bool, true, List, length}
use Rattle.std.specs.List.{zip}
use Rattle.ncp_model.specs.declared.pair.Pair.{Pair}
use Rattle.ncp_model.specs.Peers.{PairCall}
use Rattle.ncp_peer.specs.PeerState.{PeerState}
use Rattle.ncp_host.specs.Host.{Host, are_peers}
use Rattle.ncp_host.specs.Calls.{after_call_to, after_reset, after_echo, after_wake}
use Rattle.ncp_host.specs.Arrivals.{after_received}
use Rattle.ncp_host.specs.Turns.{after_next_output}
use Rattle.ncp_peer.specs.Soundness.{AreWell}

-- A call refused on allocation failure leaves the host unchanged, and so does a reader: neither is a
-- step.
pub data HostStep : Type 0 where
  Calls : (number : ℕ) → (pair : Pair) → (call : PairCall) → HostStep
  Resets : (number : ℕ) → HostStep
  Echoes : (number : ℕ) → (byte : ℕ) → HostStep
  Wakes : (number : ℕ) → HostStep
  Receives : (bits : List Bool) → HostStep
  Sends : HostStep

abbrev pub after_step : HostStep → Host → Host
after_step (Calls number pair call) h = after_call_to number pair call h
after_step (Resets number) h = after_reset number h
after_step (Echoes number byte) h = after_echo number byte h
after_step (Wakes number) h = after_wake number h
after_step (Receives bits) h = after_received bits h
after_step Sends h = after_next_output h

-- An invariant of all that a host keeps: the numbers of its peers and the state of each, in the same
-- order. It holds for a new host, and each step preserves it.
pub record IsKept (me : ℕ) (ns : List ℕ) (ss : List PeerState) : Type 0 where
  pub beside : length ss ≡ length ns
  pub peers : are_peers me ns ≡ true
  pub well : AreWell (zip ns ss)
