-- Events at the two ends of one connection, from socket 3 to socket 2 on link 2, and their histories.
use Rattle.std.specs.Prelude.{◌≡◌, true, false, List, [], ◌∷◌, ◌++◌, Bool}
use Rattle.ncp_model.specs.declared.pair.Pair.{Pair}
use Rattle.ncp_model.specs.Pairs.{receives}
use Rattle.ncp_model.specs.Amounts.{amount}
use Rattle.ncp_model.specs.EndpointEvents.{EndpointEvent, Outcome, Asks_to_send, Asks_to_receive, Gives, Takes, Allocates, Calls_back, Rts_comes, Str_comes, All_comes, Ret_comes, Text_goes_out, Is_cleared}
use Rattle.ncp_model.specs.InUse.{three_bytes}
use Rattle.ncp_model.specs.RowFacts.{text_arrives}
use Rattle.ncp_model.specs.Rows.{ones}
use Rattle.ncp_proof_endpoint.specs.Histories.{PairHistory, EndpointWithHistory, no_past, watch}
use Rattle.ncp_proof_endpoint.specs.Books.{Suit}

-- it holds for each receiving endpoint, after all events that suit it
abbrev pub OfReceivingEnds : (EndpointWithHistory → Type 0) → Type 0
OfReceivingEnds holds = (pair : Pair) (whats : List EndpointEvent) → receives pair ≡ true → Suit pair whats → holds (watch pair whats)

-- the sender's end opens; then: a byte is given; three bytes are given, and the two allocated are sent
abbrev pub sender_opens : List EndpointEvent
sender_opens = Asks_to_send 8 64 0 false ∷ Rts_comes 2 false 0 ∷ []

abbrev pub gives_a_byte : List EndpointEvent
gives_a_byte = sender_opens ++ Gives (ones 8) ∷ []

abbrev pub sends_two_bytes : List EndpointEvent
sends_two_bytes = sender_opens ++ All_comes 2 2 16 ∷ Gives three_bytes ∷ Text_goes_out ∷ []

-- the sender's end opens by its own request, which is the second, and is cleared with a byte stored
abbrev pub cleared_with_a_byte : List EndpointEvent
cleared_with_a_byte = Str_comes 8 0 ∷ gives_a_byte ++ Is_cleared ∷ []

-- the receiver's request; then: its end opens; two messages and 16 bits are allocated
abbrev pub receiver_asks : EndpointEvent
receiver_asks = Asks_to_receive 64 2 0 false

abbrev pub receiver_opens : List EndpointEvent
receiver_opens = receiver_asks ∷ Str_comes 8 0 ∷ []

abbrev pub receiver_allocates : List EndpointEvent
receiver_allocates = receiver_opens ++ Allocates 2 16 false ∷ []

-- two bytes arrive, and are taken; then: a RET arrives before the take; all is called back, and returned
abbrev pub takes_two_bytes : List EndpointEvent
takes_two_bytes = receiver_allocates ++ text_arrives 8 (ones 16) ∷ Takes 100 ∷ []

abbrev pub takes_after_a_ret : List EndpointEvent
takes_after_a_ret = receiver_allocates ++ text_arrives 8 (ones 16) ∷ Ret_comes 2 1 0 ∷ Takes 100 ∷ []

abbrev pub calls_all_back : List EndpointEvent
calls_all_back = receiver_allocates ++ Calls_back 128 128 false ∷ Ret_comes 2 2 16 ∷ []

-- after the take its ask is refused, and it is cleared; then: it is cleared, and asks again
abbrev pub asks_and_is_cleared : List EndpointEvent
asks_and_is_cleared = takes_two_bytes ++ receiver_asks ∷ Is_cleared ∷ []

abbrev pub is_cleared_and_asks : List EndpointEvent
is_cleared_and_asks = takes_two_bytes ++ Is_cleared ∷ receiver_asks ∷ []

-- an allocation beyond the store, a RET beyond the grant, a text beyond the allocation, and text given:
-- all are refused
abbrev pub all_refused : List EndpointEvent
all_refused = receiver_opens ++ Allocates 2 65 false ∷ Ret_comes 2 1 0 ∷ text_arrives 8 (ones 16) ∷ Gives (ones 8) ∷ []

-- these bits were given; then: two messages and 16 bits were allocated; a text of two bytes was got; all
-- was returned
abbrev pub giving : List Bool → PairHistory
giving bits = record no_past { given = bits }

abbrev pub two_granted : PairHistory
two_granted = record no_past { granted = amount 2 16 }

abbrev pub two_got : PairHistory
two_got = record two_granted { got = ones 16; used_messages = 1 }

abbrev pub two_returned : PairHistory
two_returned = record two_granted { returned = amount 2 16 }

-- a call that was accepted, as a history has it; and a history with these calls
abbrev pub accepted : EndpointEvent → EndpointEvent × Outcome
accepted what = (what, Outcome.Accepted)

abbrev pub having_called : List (EndpointEvent × Outcome) → PairHistory → PairHistory
having_called calls past = record past { calls = calls }

-- the calls of the receiver's user, up to the allocation
abbrev pub calls_to_allocate : List (EndpointEvent × Outcome)
calls_to_allocate = accepted receiver_asks ∷ accepted (Allocates 2 16 false) ∷ []

-- the calls of the sender's user that open and give
abbrev pub calls_to_give : List Bool → List (EndpointEvent × Outcome)
calls_to_give bits = accepted (Asks_to_send 8 64 0 false) ∷ accepted (Gives bits) ∷ []

abbrev pub calls_to_take : List (EndpointEvent × Outcome)
calls_to_take = calls_to_allocate ++ (Takes 100, Outcome.Took_out (ones 16)) ∷ []
