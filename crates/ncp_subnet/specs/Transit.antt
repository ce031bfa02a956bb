-- The state of one link from one host to another: at most one unanswered message (BBN 1822, section 3: a
-- host has one message unanswered on a link).
use Rattle.std.specs.Prelude.{ℕ, Bool, true, false, Option, Some, None}
use Rattle.ncp_subnet.specs.declared.transit.Transit.{Transit}
use Rattle.ncp_subnet.specs.declared.transit.Transit.TheVariants.{Free, Accepted, Delivered, Lost, Dead}
use Rattle.ncp_leader.specs.declared.kinds.TheConstants.{RFNM, DESTINATION_DEAD, INCOMPLETE}

-- a message is accepted only if none is in transit
abbrev pub accepted : {M : Type 0} → M → Transit M → Transit M
accepted message Free = Accepted message
accepted message (Accepted other) = Accepted other
accepted message Delivered = Delivered
accepted message Lost = Lost
accepted message Dead = Dead

-- a message that has not arrived is delivered, is lost, or has a dead destination (this profile: the
-- caller decides which)
abbrev pub if_accepted : {M : Type 0} → Transit M → Transit M → Transit M
if_accepted becomes Free = Free
if_accepted becomes (Accepted message) = becomes
if_accepted becomes Delivered = Delivered
if_accepted becomes Lost = Lost
if_accepted becomes Dead = Dead

abbrev pub delivered : {M : Type 0} → Transit M → Transit M
delivered transit = if_accepted Delivered transit

abbrev pub lost : {M : Type 0} → Transit M → Transit M
lost transit = if_accepted Lost transit

abbrev pub dead : {M : Type 0} → Transit M → Transit M
dead transit = if_accepted Dead transit

-- a message that was delivered or will not be is answered, and the next may be accepted
abbrev pub transit_answered : {M : Type 0} → Transit M → Transit M
transit_answered Free = Free
transit_answered (Accepted message) = Accepted message
transit_answered Delivered = Free
transit_answered Lost = Free
transit_answered Dead = Free

-- the type of the answer: Ready For Next Message if the message was delivered, Incomplete Transmission if
-- it was lost, Destination Dead if its destination was dead; none while it may still arrive
abbrev pub answer_kind : {M : Type 0} → Transit M → Option ℕ
answer_kind Free = None
answer_kind (Accepted message) = None
answer_kind Delivered = Some RFNM
answer_kind Lost = Some INCOMPLETE
answer_kind Dead = Some DESTINATION_DEAD

-- the message that has not arrived
abbrev pub accepted_message : {M : Type 0} → Transit M → Option M
accepted_message Free = None
accepted_message (Accepted message) = Some message
accepted_message Delivered = None
accepted_message Lost = None
accepted_message Dead = None

abbrev pub is_free : {M : Type 0} → Transit M → Bool
is_free Free = true
is_free (Accepted message) = false
is_free Delivered = false
is_free Lost = false
is_free Dead = false

abbrev pub is_accepted : {M : Type 0} → Transit M → Bool
is_accepted Free = false
is_accepted (Accepted message) = true
is_accepted Delivered = false
is_accepted Lost = false
is_accepted Dead = false

abbrev pub is_delivered : {M : Type 0} → Transit M → Bool
is_delivered Free = false
is_delivered (Accepted message) = false
is_delivered Delivered = true
is_delivered Lost = false
is_delivered Dead = false
