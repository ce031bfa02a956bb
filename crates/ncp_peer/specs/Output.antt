-- What a host sends next to a peer: the first message that is ready, on link 0, then on links 2 to 71. A
-- message sent again is identical to the one sent before.
use Rattle.std.specs.Prelude.{ℕ, ◌==◌, Bool, if◌then◌else◌, List, [], ◌∷◌, Option, None, Some}
use Rattle.ncp_numbers.specs.Bytes.{bits_of_bytes}
use Rattle.ncp_leader.specs.declared.leader.Leader.{Leader}
use Rattle.ncp_leader.specs.Message.{message_bits, message_with}
use Rattle.ncp_wire.specs.declared.command.Command.{Command}
use Rattle.ncp_wire.specs.Spelling.{spellings}
use Rattle.ncp_slot.specs.declared.slot.Slot.TheVariants.{Empty, Ready, Travelling, Held}
use Rattle.ncp_slot.specs.Slots.{LinkSlot, slot_at, with_slot, data_links}
use Rattle.ncp_model.specs.Effect.{answer}
use Rattle.ncp_model.specs.Ends.{cut_in}
use Rattle.ncp_model.specs.Sending.{next_commands}
use Rattle.ncp_model.specs.Peers as peers
use Rattle.ncp_model.specs.Peers.{Peer}
use Rattle.ncp_peer.specs.PeerState.{PeerState, control_link}
use Rattle.ncp_peer.specs.Hearing.{regular, control_size}

-- the leader of a message to a peer
abbrev pub leader_to : ℕ → ℕ → Leader
leader_to number on = record { flags = 0; kind = regular; host = number; link = on; low = 0 }

abbrev pub message_to : ℕ → ℕ → ℕ → List Bool → List Bool
message_to number on size text = message_bits (message_with (leader_to number on) size text)

-- the control message of these commands, if there are any
abbrev pub control_message : ℕ → List Command → Option (List Bool)
control_message number [] = None
control_message number (c ∷ cs) = Some (message_to number control_link control_size (bits_of_bytes (spellings (c ∷ cs))))

-- the message of a text, if there is one
abbrev pub text_message : ℕ → ℕ → Option (ℕ × List Bool) → Option (List Bool)
text_message number on None = None
text_message number on (Some text) = Some (message_to number on text.0 text.1)

-- the new message for an empty slot
abbrev pub made_on : ℕ → ℕ → Peer → Option (List Bool)
made_on number on p =
    if on == control_link
    then control_message number (next_commands p.phase.waiting)
    else text_message number on (answer (cut_in on p.ends))

abbrev pub after_made : ℕ → Peer → Peer
after_made on p = if on == control_link then peers.peer_sends p else peers.cuts on p

abbrev pub output_by : LinkSlot → ℕ → ℕ → Peer → Option (List Bool)
output_by Empty number on p = made_on number on p
output_by (Ready message) number on p = Some message
output_by (Travelling message) number on p = None
output_by (Held message) number on p = None

abbrev pub after_by : LinkSlot → ℕ → Peer → Peer
after_by Empty on p = after_made on p
after_by (Ready message) on p = p
after_by (Travelling message) on p = p
after_by (Held message) on p = p

-- the message that is ready on a link, if any
abbrev pub output_on : ℕ → ℕ → PeerState → Option (List Bool)
output_on number on s = output_by (slot_at s.slots on) number on s.peer

-- the state after it was sent
abbrev pub after_output : ℕ → List Bool → PeerState → PeerState
after_output on message s = record s { slots = with_slot s.slots on (Travelling message); peer = after_by (slot_at s.slots on) on s.peer }

abbrev pub after_output_on : ℕ → Option (List Bool) → PeerState → PeerState
after_output_on on None s = s
after_output_on on (Some message) s = after_output on message s

-- the links in their order
abbrev pub links : List ℕ
links = control_link ∷ data_links

-- the first of these links with a ready message
abbrev pub first_or : ℕ → Option (List Bool) → Option (ℕ × List Bool) → Option (ℕ × List Bool)
first_or on None rest = rest
first_or on (Some message) rest = Some (on, message)

unfoldable pub first_output : ℕ → List ℕ → PeerState → Option (ℕ × List Bool)
first_output number [] s = None
first_output number (on ∷ ons) s = first_or on (output_on number on s) (first_output number ons s)

abbrev pub next_of : ℕ → PeerState → Option (ℕ × List Bool)
next_of number s = first_output number links s

abbrev pub after_next : Option (ℕ × List Bool) → PeerState → PeerState
after_next None s = s
after_next (Some out) s = after_output out.0 out.1 s

-- its message
abbrev pub message_on : Option (ℕ × List Bool) → Option (List Bool)
message_on None = None
message_on (Some out) = Some out.1
