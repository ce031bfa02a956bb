-- One slot: at most one unacknowledged message of a link. A host has at most one unanswered message on a
-- link (BBN 1822, section 3).
use Rattle.std.specs.Prelude.{Bool, true, false, Option, Some, None}
use Rattle.ncp_slot.specs.declared.slot.Slot.{Slot}
use Rattle.ncp_slot.specs.declared.slot.Slot.TheVariants.{Empty, Ready, Travelling, Held}
use Rattle.ncp_wire.specs.declared.answer.Answer.{Answer}
use Rattle.ncp_wire.specs.declared.answer.Answer.TheVariants.{Rfnm, Incomplete, Dead}

-- a message is put in; only an empty slot accepts it (BBN 1822, section 3)
abbrev pub put_in : {M : Type 0} → M → Slot M → Slot M
put_in message Empty = Ready message
put_in message (Ready kept) = Ready kept
put_in message (Travelling kept) = Travelling kept
put_in message (Held kept) = Held kept

-- the ready message is sent (BBN 1822, section 3)
abbrev pub handed_out : {M : Type 0} → Slot M → Slot M
handed_out Empty = Empty
handed_out (Ready message) = Travelling message
handed_out (Travelling message) = Travelling message
handed_out (Held message) = Held message

-- an answer arrives: after Ready For Next Message the slot is empty, after Incomplete Transmission the
-- message is ready again (BBN 1822, section 3), after Destination Dead it is held (this profile)
abbrev pub answered : {M : Type 0} → Answer → Slot M → Slot M
answered Rfnm (Travelling message) = Empty
answered Incomplete (Travelling message) = Ready message
answered Dead (Travelling message) = Held message
answered answer Empty = Empty
answered answer (Ready message) = Ready message
answered answer (Held message) = Held message

-- the user asks for the held message (this profile)
abbrev pub woken : {M : Type 0} → Slot M → Slot M
woken Empty = Empty
woken (Ready message) = Ready message
woken (Travelling message) = Travelling message
woken (Held message) = Ready message

-- the message that is to be sent (BBN 1822, section 3)
abbrev pub ready_message : {M : Type 0} → Slot M → Option M
ready_message Empty = None
ready_message (Ready message) = Some message
ready_message (Travelling message) = None
ready_message (Held message) = None

-- the unacknowledged message, in any state (this profile)
abbrev pub kept_message : {M : Type 0} → Slot M → Option M
kept_message Empty = None
kept_message (Ready message) = Some message
kept_message (Travelling message) = Some message
kept_message (Held message) = Some message

-- there is no message (BBN 1822, section 3)
abbrev pub is_empty : {M : Type 0} → Slot M → Bool
is_empty Empty = true
is_empty (Ready message) = false
is_empty (Travelling message) = false
is_empty (Held message) = false

-- a message is to be sent (BBN 1822, section 3)
abbrev pub is_ready : {M : Type 0} → Slot M → Bool
is_ready Empty = false
is_ready (Ready message) = true
is_ready (Travelling message) = false
is_ready (Held message) = false

-- a message was sent and has no answer yet (BBN 1822, section 3)
abbrev pub is_travelling : {M : Type 0} → Slot M → Bool
is_travelling Empty = false
is_travelling (Ready message) = false
is_travelling (Travelling message) = true
is_travelling (Held message) = false

-- a message is held, since its destination was dead (this profile)
abbrev pub is_held : {M : Type 0} → Slot M → Bool
is_held Empty = false
is_held (Ready message) = false
is_held (Travelling message) = false
is_held (Held message) = true
