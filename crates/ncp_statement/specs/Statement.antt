-- What two hosts guarantee their users, as a property of the notes of a transcript: the record
-- `Headline`, at the end. No rule, table or link slot of a host is named here, and the state of a link
-- (`link_state`) is computed from the notes. Side A is the host with number `a`, side B the host with
-- number `b`. The fields of `Headline`:
--
-- - `taken_is_prefix`: whenever `take` returns, all that it returned since the receiver's last ask is a
--   prefix of the bits given at the other host by then: each bit once, in order.
-- - `within_allowance`: the receiver's user never takes more bits than it allocated since that ask.
-- - `delivers`: the subnet delivers each message once and whole and then answers RFNM, or does not
--   deliver it and answers Incomplete Transmission or Destination Dead. At most one message of a side is
--   unanswered on each link.
-- - `in_order`: the messages that arrive on a link are a prefix of those sent there, at most one message
--   shorter. A message sent after an answer other than RFNM counts as a retransmission, not as a further
--   message.
-- - `accepted_by_subnet`: the subnet accepts each message that is sent. It has none to deliver, lose or
--   answer only if, by the notes, that move is impossible.
-- - `each_command_read`: each control message that arrives is read to its last command.
-- - `no_protocol_error`: no control message that is sent has an ERR, and no text arrives over its
--   allocation, in bytes of the wrong size, or for a connection that is not open.
--
-- Proved over `Subnet`, for every transcript: any calls, deliveries, losses and answers, in any order.
-- Over another subnet `delivers` is the premise, and `accepted_by_subnet` is empty
-- (`ncp_proof_statement`). That no bits of a peer make a host fault is the contract of `Host::receive`.
use Rattle.std.specs.Prelude.{◌≡◌, ◌≤◌, ℕ, ◌+◌, ◌==◌, Bool, true, false, ◌&&◌, if◌then◌else◌, List, [], ◌∷◌, ◌++◌, length}
use Rattle.std.specs.List.{list_any}
use Rattle.ncp_subnet.specs.Messages.{link_in}
use Rattle.ncp_subnet.specs.declared.transit.Transit.TheVariants as transits
use Rattle.ncp_subnet.specs.Ways.{OnLink}
use Rattle.ncp_wire.specs.declared.command.Command.{Command}
use Rattle.ncp_wire.specs.declared.command.Command.TheVariants as commands
use Rattle.ncp_model.specs.declared.outcomes.Took.TheVariants as took
use Rattle.ncp_model.specs.declared.pair.Pair.{Pair}
use Rattle.ncp_model.specs.Pairs.{same, counterpart}
use Rattle.ncp_peer.specs.declared.received.Received.{Received}
use Rattle.ncp_peer.specs.declared.received.Received.TheVariants as received
use Rattle.ncp_transcript.specs.declared.call.Call.{Call}
use Rattle.ncp_transcript.specs.declared.call.Call.TheVariants as calls
use Rattle.ncp_transcript.specs.declared.note.HostNote.{HostNote}
use Rattle.ncp_transcript.specs.declared.note.HostNote.TheVariants as of_host
use Rattle.ncp_transcript_two.specs.declared.side.Side.{Side}
use Rattle.ncp_transcript_two.specs.declared.side.Side.TheVariants.{A, B}
use Rattle.ncp_transcript_two.specs.declared.note.Move.{Move}
use Rattle.ncp_transcript_two.specs.declared.note.Note.{Note}
use Rattle.ncp_transcript_two.specs.declared.note.Note.TheVariants as notes
use Rattle.ncp_transcript_two.specs.Between.{other}
use Rattle.ncp_transcript_two.specs.Honest.{MessageEvent, Sent, Arrives, Other, Clear, answer_event, if_on, HonestFrom, sent_from, messages_coming, IsPrefixWithin}
use Rattle.ncp_transcript_two.specs.Underway.{commands_of}
use Rattle.ncp_transcript_two.specs.Impossible.{IsImpossible}

-- 1. User events on a pair of sockets.

pub data UserEvent : Type 0 where
  Asked : UserEvent  -- an accepted `ask_send` or `ask_receive`
  Gave : (text : List Bool) → UserEvent  -- an accepted `give`
  TookBits : (text : List Bool) → UserEvent  -- the bits that `take` returned
  AllowedBits : (bits : ℕ) → UserEvent  -- an accepted `allocate`
  CalledBack : UserEvent  -- an accepted `call_back`
  Closed : UserEvent  -- an accepted `close`
  OtherEvent : UserEvent

abbrev pub on_pair : Bool → UserEvent → UserEvent
on_pair true u = u
on_pair false u = OtherEvent

-- the user event of an accepted call on a pair
abbrev pub user_event_by : Pair → Call → UserEvent
user_event_by pair (calls.AskSend peer local remote size room) = on_pair (same pair (record { local = local; remote = remote })) Asked
user_event_by pair (calls.AskReceive peer local remote room) = on_pair (same pair (record { local = local; remote = remote })) Asked
user_event_by pair (calls.Give peer p text) = on_pair (same pair p) (Gave text)
user_event_by pair (calls.Allocate peer p messages bits) = on_pair (same pair p) (AllowedBits bits)
user_event_by pair (calls.CallBack peer p messages bits) = on_pair (same pair p) CalledBack
user_event_by pair (calls.Close peer p) = on_pair (same pair p) Closed
user_event_by pair other = OtherEvent

-- a refused call is no user event
abbrev pub user_event_of : Pair → HostNote → UserEvent
user_event_of pair (of_host.Done call) = user_event_by pair call
user_event_of pair (of_host.Took peer p bytes text) = on_pair (same pair p) (TookBits text)
user_event_of pair other = OtherEvent

abbrev pub is_same : Side → Side → Bool
is_same A A = true
is_same B B = true
is_same a b = false

-- the user event that a note shows for a pair at one side
abbrev pub user_event_at : Side → Pair → Note → UserEvent
user_event_at side pair (notes.Called by note) = if is_same side by then user_event_of pair note else OtherEvent
user_event_at side pair other = OtherEvent

-- those of all notes, one for each
abbrev pub user_events : Side → Pair → List Note → List UserEvent
user_events side pair [] = []
user_events side pair (n ∷ ns) = user_event_at side pair n ∷ user_events side pair ns

-- The bits given: the texts of the gives since the last ask that precedes the last give. An ask alone
-- does not reset them: until the next give, bits given before the ask still count, since they may still
-- arrive.
abbrev pub given_from : Bool → List Bool → List UserEvent → List Bool
given_from anew given [] = given
given_from anew given (Asked ∷ us) = given_from true given us
given_from true given (Gave text ∷ us) = given_from false text us
given_from false given (Gave text ∷ us) = given_from false (given ++ text) us
given_from anew given (u ∷ us) = given_from anew given us

-- the bits given on a pair at one side, by these notes
abbrev pub given : Side → Pair → List Note → List Bool
given side pair ns = given_from true [] (user_events side pair ns)

-- The bits taken: the texts that `take` returned since the last ask.
abbrev pub taken_from : List Bool → List UserEvent → List Bool
taken_from taken [] = taken
taken_from taken (Asked ∷ us) = taken_from [] us
taken_from taken (TookBits text ∷ us) = taken_from (taken ++ text) us
taken_from taken (u ∷ us) = taken_from taken us

-- the bits taken on a pair at one side, by these notes
abbrev pub taken : Side → Pair → List Note → List Bool
taken side pair ns = taken_from [] (user_events side pair ns)

-- The number of bits allocated since the last ask.
abbrev pub allowed_from : ℕ → List UserEvent → ℕ
allowed_from allowed [] = allowed
allowed_from allowed (Asked ∷ us) = allowed_from 0 us
allowed_from allowed (AllowedBits bits ∷ us) = allowed_from (allowed + bits) us
allowed_from allowed (u ∷ us) = allowed_from allowed us

-- the number of bits allocated on a pair at one side, by these notes
abbrev pub allowed : Side → Pair → List Note → ℕ
allowed side pair ns = allowed_from 0 (user_events side pair ns)

-- Whenever `take` returns a text, the bits taken since the last ask, this text included, are a prefix of
-- the bits given at the other host by then.
abbrev pub TakenIsPrefix : List Note → Type 0
TakenIsPrefix ns = (before after : List Note) (side : Side) (peer : ℕ) (pair : Pair) (bytes : ℕ) (text : List Bool) → ns ≡ before ++ notes.Called side (of_host.Took peer pair bytes text) ∷ after
    → (rest : List Bool) × (given (other side) (counterpart pair) before ≡ (taken side pair before ++ text) ++ rest)

-- At most as many bits are taken as were allocated.
abbrev pub WithinAllowance : List Note → Type 0
WithinAllowance ns = (side : Side) (pair : Pair) → length (taken side pair ns) ≤ allowed side pair ns

-- 2. Message events of one side on one link.

-- the message event that a note shows for the messages that one side sends on one link
abbrev pub message_event_of : Side → ℕ → Note → MessageEvent
message_event_of side on (notes.Out by (of_host.Out m)) = if_on (is_same side by && link_in m == on) (Sent m)
message_event_of side on (notes.Came by link (of_host.In m received_as)) = if_on (is_same side by && link == on) (Arrives m)
message_event_of side on (notes.Answered by link (of_host.Answered peer l how received_as)) = if_on (is_same side by && link == on) (answer_event how)
message_event_of side on n = Other

-- those of all notes, one for each
abbrev pub message_events_of : Side → ℕ → List Note → List MessageEvent
message_events_of side on [] = []
message_events_of side on (n ∷ ns) = message_event_of side on n ∷ message_events_of side on ns

-- the number of the host of a side
abbrev pub number : ℕ → ℕ → Side → ℕ
number a b A = a
number a b B = b

-- The subnet is honest (`HonestFrom`). Each message arrives once, whole, with its source in the leader,
-- and is then answered by RFNM, or it does not arrive and gets another answer. No message is sent on a
-- link before the last one is answered. The last one may still be in flight or unanswered.
abbrev pub Delivers : ℕ → ℕ → List Note → Type 0
Delivers a b ns = (side : Side) (on : ℕ) → HonestFrom (number a b side) Clear (message_events_of side on ns)

-- The messages that arrived on a link are a prefix of those sent there, at most one shorter. A message
-- sent after an answer other than RFNM counts as a retransmission, not as a further message
-- (`sent_from`).
abbrev pub InOrder : ℕ → ℕ → List Note → Type 0
InOrder a b ns = (side : Side) (on : ℕ) → IsPrefixWithin 1 (messages_coming (message_events_of side on ns)) (sent_from (number a b side) true (message_events_of side on ns))

-- The state of a link, by the notes: `Accepted` with the last message sent until it arrives, is lost or
-- finds its destination dead; then `Delivered`, `Lost` or `Dead` until the answer; `Free` otherwise.
abbrev pub link_state_after : Side → ℕ → Note → OnLink → OnLink
link_state_after side on (notes.Out by (of_host.Out m)) has = if is_same side by && link_in m == on then transits.Accepted m else has
link_state_after side on (notes.Came by link note) has = if is_same side by && link == on then transits.Delivered else has
link_state_after side on (notes.Lost by link) has = if is_same side by && link == on then transits.Lost else has
link_state_after side on (notes.FoundDead by link) has = if is_same side by && link == on then transits.Dead else has
link_state_after side on (notes.Answered by link note) has = if is_same side by && link == on then transits.Free else has
link_state_after side on n has = has

abbrev pub link_state_from : Side → ℕ → OnLink → List Note → OnLink
link_state_from side on has [] = has
link_state_from side on has (n ∷ ns) = link_state_from side on (link_state_after side on n has) ns

abbrev pub link_state : Side → ℕ → List Note → OnLink
link_state side on ns = link_state_from side on transits.Free ns

-- The subnet accepts each message that is sent. A note `Nothing` (the subnet had no message for a move on
-- a link) appears only if the state of that link, by the notes before, makes the move impossible.
abbrev pub AcceptsEveryOutput : List Note → Type 0
AcceptsEveryOutput ns = (before after : List Note) (side : Side) (link : ℕ) (wanted : Move) → ns ≡ before ++ notes.Nothing side link wanted ∷ after → IsImpossible wanted (link_state side link before)

-- 3. Commands and protocol errors.

-- The note of a control message that arrives has the number of its commands: all of them were read.
abbrev pub ReadsAll : Note → Type 0
ReadsAll (notes.Came by link (of_host.In m received_as)) = (link == 0) ≡ true → received_as ≡ received.Control (length (commands_of m))
ReadsAll n = Unit {0}

abbrev pub is_err : Command → Bool
is_err (commands.Err code bytes) = true
is_err c = false

-- a text over its allocation, in bytes of the wrong size, or for a connection that is not open;
-- `HasNoProtocolError` rules these out for each arrival, and an ERR for each control message that is sent
abbrev pub is_protocol_error : Received → Bool
is_protocol_error (received.Text took.Over) = true
is_protocol_error (received.Text took.WrongSize) = true
is_protocol_error (received.Text took.NotOpen) = true
is_protocol_error r = false

-- no control message that is sent has an ERR, and no arrival is a protocol error
abbrev pub HasNoProtocolError : Note → Type 0
HasNoProtocolError (notes.Out by (of_host.Out m)) = (link_in m == 0) ≡ true → list_any is_err (commands_of m) ≡ false
HasNoProtocolError (notes.Came by link (of_host.In m received_as)) = is_protocol_error received_as ≡ false
HasNoProtocolError n = Unit {0}

-- each note has a property
abbrev pub Each : (Note → Type 0) → List Note → Type 0
Each P [] = Unit {0}
Each P (n ∷ ns) = P n × Each P ns

-- The headline, for the notes of two hosts with the numbers `a` and `b`.
pub record Headline (a b : ℕ) (ns : List Note) : Type 0 where
  pub taken_is_prefix : TakenIsPrefix ns
  pub within_allowance : WithinAllowance ns
  pub delivers : Delivers a b ns
  pub in_order : InOrder a b ns
  pub accepted_by_subnet : AcceptsEveryOutput ns
  pub each_command_read : Each ReadsAll ns
  pub no_protocol_error : Each HasNoProtocolError ns
