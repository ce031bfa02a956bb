-- Lookups for the user: the connections with a peer by index, the room of each in bits, and the pair that
-- a link identifies. A lookup changes nothing, and is answered whether or not the host is up with the
-- peer.
use Rattle.std.specs.Prelude.{ℕ, Bool, Option, Result, Ok}
use Rattle.ncp_slot.specs.Slot.{is_held}
use Rattle.ncp_slot.specs.Slots.{slot_at}
use Rattle.ncp_model.specs.declared.pair.Pair.{Pair}
use Rattle.ncp_model.specs.declared.call_fault.CallFault.{CallFault}
use Rattle.ncp_conn.specs.declared.record.Role.{Role}
use Rattle.ncp_conn.specs.declared.record.Record.{Record}
use Rattle.ncp_conn.specs.Listing.{connection_in, room_of, pair_demuxed_to}
use Rattle.ncp_host.specs.Host.{Host, state_of, if_known}
use Rattle.ncp_peer.specs.PeerCalls.{room_answer}

abbrev pub connection_returned : ℕ → ℕ → Host → Result (Option (Pair × Record)) CallFault
connection_returned number place h = if_known (state_of h number) (λ s. Ok (connection_in place s.peer.ends))

abbrev pub room_returned : ℕ → Pair → Host → Result ℕ CallFault
room_returned number pair h = if_known (state_of h number) (λ s. room_answer (room_of pair s.peer.ends))

-- whether the message on a link is held, so that a wake is needed (this profile's rule)
abbrev pub held_returned : ℕ → ℕ → Host → Result Bool CallFault
held_returned number on h = if_known (state_of h number) (λ s. Ok (is_held (slot_at s.slots on)))

abbrev pub pair_returned : ℕ → Role → ℕ → Host → Result (Option Pair) CallFault
pair_returned number end on h = if_known (state_of h number) (λ s. Ok (pair_demuxed_to end on s.peer.ends))
