-- The effect of a user's call on an endpoint. Before these rules the host checks whether the peer is
-- known, and whether the host is up with it (Phase). After them it allocates the store of a request; if
-- that fails, nothing has happened. Refusals are listed in the order of their checks; the list and its
-- order are this profile's rule.
use Rattle.std.specs.Prelude.{ℕ, ◌+◌, ◌*◌, ◌/◌, ◌%◌, min, ◌==◌, Bool, true, not, ◌&&◌, ◌||◌, nat_le, nat_lt, if◌then◌else◌, List, [], ◌++◌, length, take, drop, Option, None, Some, Result, Ok, Err}
use Rattle.ncp_wire.specs.declared.command.Command.{Command}
use Rattle.ncp_wire.specs.declared.command.Command.TheVariants.{Rts, Str, All, Gvb, Inr, Ins}
use Rattle.ncp_model.specs.declared.pair.Pair.{Pair}
use Rattle.ncp_model.specs.declared.call_fault.CallFault.{CallFault}
use Rattle.ncp_model.specs.declared.call_fault.CallFault.TheVariants.{BadSex, BadSize, BadRoom, NoEntry, AlreadyAsked, Closing, NotOpen, WrongEnd, NotWhole, Busy, NoRoom, TooMuch, TableFull, QueueFull}
use Rattle.ncp_model.specs.declared.limits.TheConstants.{MAX_OWN, MAX_TEXT, MAX_MESSAGES}
use Rattle.ncp_model.specs.Pairs.{sends, receives}
use Rattle.ncp_model.specs.Endpoint.{Endpoint, or_new, is_closing}
use Rattle.ncp_model.specs.Effect.{Effect, Stays, Becomes, met, leaves, closing, is_room}

-- A call is refused for the first reason that holds; if none does, it has its effect.

abbrev pub refuse : CallFault → Bool → Result (Unit {0}) CallFault
refuse fault holds = if holds then Err fault else Ok tt

infixl 10 ◌>>◌
abbrev pub ◌>>◌ : {A : Type 0} → Result (Unit {0}) CallFault → Result A CallFault → Result A CallFault
(Ok _) >> next = next
(Err fault) >> next = Err fault

abbrev pub unless_refused : {A : Type 0} → Result (Unit {0}) CallFault → Effect (Result A CallFault) → Effect (Result A CallFault)
unless_refused (Ok _) act = act
unless_refused (Err fault) act = Stays (Err fault)

-- a call at a pair with an endpoint; refused if there is none
abbrev pub at_entry : {A : Type 0} → (Endpoint → Effect (Result A CallFault)) → Option Endpoint → Effect (Result A CallFault)
at_entry act None = Stays (Err NoEntry)
at_entry act (Some e) = act e

-- own: the number of endpoints with a local request; full: the queue has no room for a call's command

-- Whether a local request may be made: the checks of the endpoint, then also of the table and the queue,
-- then all.

-- the endpoint has no local request yet, and is not closing
abbrev pub end_to_ask : Endpoint → Result (Unit {0}) CallFault
end_to_ask e = do
  refuse AlreadyAsked (e.asked && not (is_closing e))
  refuse Closing (is_closing e)

-- and the table has room for another request, the queue for its command
abbrev pub may_ask : ℕ → Bool → Option Endpoint → Result (Unit {0}) CallFault
may_ask own full before = do
  end_to_ask (or_new before)
  refuse TableFull (nat_le MAX_OWN own)
  refuse QueueFull full

abbrev pub may_ask_send : Pair → ℕ → ℕ → ℕ → Bool → Option Endpoint → Result (Unit {0}) CallFault
may_ask_send pair of_size with_room own full before = do
  refuse BadSex (not (sends pair))
  refuse BadSize (of_size == 0)
  refuse BadRoom (not (is_room with_room))
  may_ask own full before

abbrev pub may_ask_receive : Pair → ℕ → ℕ → Bool → Option Endpoint → Result (Unit {0}) CallFault
may_ask_receive pair with_room own full before = do
  refuse BadSex (not (receives pair))
  refuse BadRoom (not (is_room with_room))
  may_ask own full before

-- The request to send: STR with the sender's byte size (NIC 8246, STR).

abbrev pub asked_to_send : ℕ → ℕ → Endpoint → Endpoint
asked_to_send of_size with_room e = met (record e { asked = true; size = of_size; room = with_room; stored = [] })

abbrev pub ask_send : Pair → ℕ → ℕ → ℕ → Bool → Option Endpoint → Effect (Result Command CallFault)
ask_send pair of_size with_room own full before =
    unless_refused (may_ask_send pair of_size with_room own full before)
    (Becomes (asked_to_send of_size with_room (or_new before)) (Ok (Str pair.local pair.remote of_size)))

-- The request to receive: RTS with the link that the receiver chooses (NIC 8246, RTS).

abbrev pub asked_to_receive : ℕ → ℕ → Endpoint → Endpoint
asked_to_receive on with_room e = met (record e { asked = true; link = on; room = with_room; stored = [] })

-- on: the lowest link that no receiving endpoint uses
abbrev pub ask_receive : Pair → ℕ → ℕ → ℕ → Bool → Option Endpoint → Effect (Result Command CallFault)
ask_receive pair with_room on own full before =
    unless_refused (may_ask_receive pair with_room own full before)
    (Becomes (asked_to_receive on with_room (or_new before)) (Ok (Rts pair.local pair.remote on)))

-- Closing (NIC 8246, CLS). While its text is unacknowledged, a sender's CLS is deferred: this profile's
-- rule.

abbrev pub may_close : Pair → Bool → Endpoint → Result (Unit {0}) CallFault
may_close pair full e = do
  refuse Closing (e.left || (e.leaving && sends pair))
  refuse QueueFull full

abbrev pub close_end : Pair → Bool → Endpoint → Effect (Result (Option Command) CallFault)
close_end pair full e =
    unless_refused (may_close pair full e)
    (if sends pair && e.busy then Becomes (record e { leaving = true; stored = [] }) (Ok None)
    else Becomes (leaves e) (Ok (Some (closing pair))))

abbrev pub close : Pair → Bool → Option Endpoint → Effect (Result (Option Command) CallFault)
close pair full = at_entry (close_end pair full)

-- Giving text, allocating, calling back and interrupting need an open connection: both requests were
-- made, and the endpoint is not closing.

abbrev pub may_use : Endpoint → Result (Unit {0}) CallFault
may_use e = do
  refuse Closing (is_closing e)
  refuse NotOpen (not (e.asked && e.heard))

abbrev pub may_send_on : Pair → Endpoint → Result (Unit {0}) CallFault
may_send_on pair e = do
  may_use e
  refuse WrongEnd (not (sends pair))

abbrev pub may_receive_on : Pair → Endpoint → Result (Unit {0}) CallFault
may_receive_on pair e = do
  may_use e
  refuse WrongEnd (not (receives pair))

-- Given text is appended to the stored text. It is a whole number of bytes: this profile's rule.

-- the store has room for it after the stored text
abbrev pub fits : List Bool → Endpoint → Bool
fits text e = nat_le (length e.stored + length text) e.room

abbrev pub may_give : Pair → List Bool → Endpoint → Result (Unit {0}) CallFault
may_give pair text e = do
  may_send_on pair e
  refuse NotWhole (not (length text % e.size == 0))
  refuse NoRoom (not (fits text e))

abbrev pub give_end : Pair → List Bool → Endpoint → Effect (Result (Unit {0}) CallFault)
give_end pair text e = unless_refused (may_give pair text e) (Becomes (record e { stored = e.stored ++ text }) (Ok tt))

abbrev pub give : Pair → List Bool → Option Endpoint → Effect (Result (Unit {0}) CallFault)
give pair text = at_entry (give_end pair text)

-- Taking removes held text from its front, in whole bytes: as many as are asked for, are held, and fit
-- one message. A leaving receiver still yields its text, and makes its CLS once that is all taken: this
-- profile's rule.

abbrev pub may_take : Pair → Endpoint → Result (Unit {0}) CallFault
may_take pair e = do
  refuse Closing e.left
  refuse NotOpen (not e.opened)
  refuse WrongEnd (not (receives pair))

-- the number of bits that a `take` of `bytes` bytes removes
abbrev pub bits_to_take : ℕ → Endpoint → ℕ
bits_to_take bytes e = min bytes (min (length e.stored / e.size) (MAX_TEXT / e.size)) * e.size

abbrev pub emptied : Endpoint → ℕ → Bool
emptied e count = length (drop count e.stored) == 0

abbrev pub take_bits : Pair → ℕ → Endpoint → Effect (Result (List Bool × Option Command) CallFault)
take_bits pair count e =
    if e.leaving && emptied e count
    then Becomes (leaves e) (Ok (take count e.stored, Some (closing pair)))
    else Becomes (record e { stored = drop count e.stored }) (Ok (take count e.stored, None))

abbrev pub take_end : Pair → ℕ → Endpoint → Effect (Result (List Bool × Option Command) CallFault)
take_end pair bytes e = unless_refused (may_take pair e) (take_bits pair (bits_to_take bytes e) e)

abbrev pub take_held : Pair → ℕ → Option Endpoint → Effect (Result (List Bool × Option Command) CallFault)
take_held pair bytes = at_entry (take_end pair bytes)

-- Allocating: ALL adds to the outstanding allocation (NIC 8246, ALL). It needs an open connection, so no
-- text is sent before both requests have been received.

-- the outstanding, held and added bits exceed the store, or the messages exceed the limit of their
-- counter
abbrev pub is_too_much : ℕ → ℕ → Endpoint → Bool
is_too_much more_messages more_bits e =
    nat_lt e.room (e.bits + length e.stored + more_bits) || nat_lt MAX_MESSAGES (e.messages + more_messages)

abbrev pub may_allocate : Pair → ℕ → ℕ → Bool → Endpoint → Result (Unit {0}) CallFault
may_allocate pair more_messages more_bits full e = do
  may_receive_on pair e
  refuse TooMuch (is_too_much more_messages more_bits e)
  refuse QueueFull full

abbrev pub allocate_end : Pair → ℕ → ℕ → Bool → Endpoint → Effect (Result Command CallFault)
allocate_end pair more_messages more_bits full e =
    unless_refused (may_allocate pair more_messages more_bits full e)
    (Becomes (record e { messages = e.messages + more_messages; bits = e.bits + more_bits }) (Ok (All e.link more_messages more_bits)))

abbrev pub allocate : Pair → ℕ → ℕ → Bool → Option Endpoint → Effect (Result Command CallFault)
allocate pair more_messages more_bits full = at_entry (allocate_end pair more_messages more_bits full)

-- Calling back: GVB asks for parts of the counters, and RET answers it (NIC 8246, GVB). One at a time is
-- this profile's rule.

abbrev pub may_call_back : Pair → Bool → Endpoint → Result (Unit {0}) CallFault
may_call_back pair full e = do
  may_receive_on pair e
  refuse Busy e.recall
  refuse QueueFull full

abbrev pub call_back_end : Pair → ℕ → ℕ → Bool → Endpoint → Effect (Result Command CallFault)
call_back_end pair of_messages of_bits full e =
    unless_refused (may_call_back pair full e)
    (Becomes (record e { recall = true }) (Ok (Gvb e.link of_messages of_bits)))

abbrev pub call_back : Pair → ℕ → ℕ → Bool → Option Endpoint → Effect (Result Command CallFault)
call_back pair of_messages of_bits full = at_entry (call_back_end pair of_messages of_bits full)

-- Interrupts: INS from a sender, INR from a receiver (NIC 8246, INR and INS).

abbrev pub may_interrupt : Bool → Endpoint → Result (Unit {0}) CallFault
may_interrupt full e = do
  may_use e
  refuse QueueFull full

abbrev pub interrupting : Pair → Endpoint → Command
interrupting pair e = if sends pair then Ins e.link else Inr e.link

abbrev pub interrupt_end : Pair → Bool → Endpoint → Effect (Result Command CallFault)
interrupt_end pair full e = unless_refused (may_interrupt full e) (Becomes e (Ok (interrupting pair e)))

abbrev pub interrupt : Pair → Bool → Option Endpoint → Effect (Result Command CallFault)
interrupt pair full = at_entry (interrupt_end pair full)
