-- Messages and commands underway (queued or in flight) from a host, as the slots and the subnet define
-- them, and their relation to a connection between the two hosts. Each is stated for the direction from
-- this host to that one.
use Rattle.std.specs.Prelude.{◌≡◌, ℕ, Bool, true, List, [], ◌++◌, length, Option, None, Some, Result, Ok, Err}
use Rattle.std.specs.FinMap.{get}
use Rattle.ncp_numbers.specs.Bytes.{bytes_of}
use Rattle.ncp_leader.specs.declared.fault.MessageFault.{MessageFault}
use Rattle.ncp_leader.specs.Message.{Message, message_in}
use Rattle.ncp_wire.specs.declared.command.Command.{Command}
use Rattle.ncp_control.specs.Reading.{commands_in}
use Rattle.ncp_slot.specs.declared.slot.Slot.TheVariants.{Empty, Ready, Travelling, Held}
use Rattle.ncp_slot.specs.Slots.{LinkSlot, slot_at}
use Rattle.ncp_model.specs.declared.pair.Pair.{Pair}
use Rattle.std.specs.List.{filter}
use Rattle.ncp_model.specs.Phase.{up, is_reset}
use Rattle.ncp_model.specs.Endpoint.{Endpoint, is_open, or_new}
use Rattle.ncp_proof_machine.specs.Hosts.{past_of}
use Rattle.ncp_proof_headline.specs.Headline.{total_on}
use Rattle.ncp_peer.specs.PeerState.{PeerState}
use Rattle.ncp_transcript_two.specs.Subnet.{Holds, Free, Accepted, Delivered, Lost, Dead, TransitByLink}
use Rattle.ncp_transcript_two.specs.World.{World}
use Rattle.ncp_transcript_two.specs.Watch.{Both}
use Rattle.ncp_model.specs.Pairs.{counterpart}
use Rattle.ncp_model.specs.declared.amounts.Amount.{Amount}
use Rattle.ncp_model.specs.Amounts.{amount, ◌⊕◌, allowance, granted, returned}

-- the text of a message, and the commands of a control message

abbrev pub text_read : Result Message MessageFault → List Bool
text_read (Ok m) = m.text
text_read (Err fault) = []

abbrev pub text_of : List Bool → List Bool
text_of m = text_read (message_in m)

abbrev pub commands_of : List Bool → List Command
commands_of m = commands_in (bytes_of (text_of m))

-- the undelivered message of a link
abbrev pub not_come : LinkSlot → Holds → Option (List Bool)
not_come Empty h = None
not_come (Ready m) h = Some m
not_come (Held m) h = Some m
not_come (Travelling m) Free = None
not_come (Travelling m) (Accepted n) = Some n
not_come (Travelling m) Delivered = None
not_come (Travelling m) Lost = Some m
not_come (Travelling m) Dead = Some m

abbrev pub commands_out : Option (List Bool) → List Command
commands_out None = []
commands_out (Some m) = commands_of m

-- the undelivered commands: those of the control message, then the queued ones
abbrev pub underway : PeerState → TransitByLink → List Command
underway s u = commands_out (not_come (slot_at s.slots 0) (u 0)) ++ s.peer.phase.waiting

abbrev pub how_many : Option (List Bool) → ℕ
how_many None = 0
how_many (Some m) = 1

abbrev pub bits_out : Option (List Bool) → List Bool
bits_out None = []
bits_out (Some m) = text_of m

abbrev pub amount_out : Option (List Bool) → Amount
amount_out t = amount (how_many t) (length (bits_out t))

-- the two ends of a pair, and the text underway on its link

abbrev pub sender_at : Pair → World → Endpoint
sender_at pair v = or_new (get v.this.peer.ends pair)

abbrev pub receiver_at : Pair → World → Endpoint
receiver_at pair v = or_new (get v.that.peer.ends (counterpart pair))

abbrev pub text_out : Pair → World → Option (List Bool)
text_out pair v = not_come (slot_at v.this.slots (sender_at pair v).link) (v.going (sender_at pair v).link)

abbrev pub BothOpen : Pair → World → Type 0
BothOpen pair v = (is_open (sender_at pair v) ≡ true) × (is_open (receiver_at pair v) ≡ true)

-- While both ends are open: the receiver's outstanding allocation is the sum of the sender's counters and
-- the amounts of ALL, the text and RET underway on its link.

abbrev pub granted_on : Pair → World → Amount
granted_on pair v = total_on (sender_at pair v).link granted (underway v.that v.coming)

abbrev pub returned_on : Pair → World → Amount
returned_on pair v = total_on (sender_at pair v).link returned (underway v.this v.going)

abbrev pub AmountsAgree : Pair → World → Type 0
AmountsAgree pair v = BothOpen pair v
    → allowance (receiver_at pair v) ≡ allowance (sender_at pair v) ⊕ granted_on pair v ⊕ amount_out (text_out pair v) ⊕ returned_on pair v

-- and all text given was got, is underway, or is stored at the sender
abbrev pub Parted : Pair → World → Both → Type 0
Parted pair v p = BothOpen pair v
    → (past_of p.this pair).given ≡ (past_of p.that (counterpart pair)).got ++ (bits_out (text_out pair v) ++ (sender_at pair v).stored)

-- while both hosts are up, no RST or RRP is underway from this one
abbrev pub NoResetUnderway : World → Type 0
NoResetUnderway v = up v.this.peer.phase ≡ true → up v.that.peer.phase ≡ true → filter is_reset (underway v.this v.going) ≡ []
