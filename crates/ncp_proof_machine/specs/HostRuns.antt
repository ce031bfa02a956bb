-- Example schedules of two hosts. Socket 3 of this host sends to socket 2 of that one.
use Rattle.std.specs.Prelude.{List, [], ◌∷◌, ◌++◌}
use Rattle.ncp_model.specs.declared.pair.Pair.{Pair}
use Rattle.ncp_proof_machine.specs.Resets.{Party, This, That}
use Rattle.ncp_model.specs.Rows.{outward, inward, ones, zero_bits}
use Rattle.ncp_proof_machine.specs.Hosts.{NodeEvent, NodeStep, Calls_reset, Calls, Calls_echo, Falls, Sends, Sends_text, Hears, Hears_text, Loses, Loses_text, Dies, Text_dies, Is_answered, Text_is_answered, Wakes, Ask_to_send, Ask_to_receive, Close, Give, Take, Allocate, Call_back, Interrupt}

abbrev pub by : Party → NodeStep → NodeEvent
by side step = record { side = side; step = step }

-- the other side
abbrev pub peer : Party → Party
peer This = That
peer That = This

-- a control message of a host: up to ten commands are sent, received and answered
abbrev pub message : Party → List NodeEvent
message side = by side (Sends 9) ∷ by (peer side) Hears ∷ by side Is_answered ∷ []

-- a host resets, and its peer answers
abbrev pub comes_up : Party → List NodeEvent
comes_up side = by side Calls_reset ∷ message side ++ message (peer side)

-- both ask for the connection, and it opens at both ends
abbrev pub opens_both : List NodeEvent
opens_both = by This (Calls outward (Ask_to_send 8 64)) ∷ by That (Calls inward (Ask_to_receive 64)) ∷ message That ++ message This

-- the receiver allocates two messages and 16 bits, and the sender's user gives three bytes
abbrev pub allocates_and_gives : List NodeEvent
allocates_and_gives = by That (Calls inward (Allocate 2 16)) ∷ message That ++ by This (Calls outward (Give (ones 16 ++ zero_bits 8))) ∷ []

-- a text is sent on link 2; then: it arrives with its leader and prefix; it is answered
abbrev pub text_goes : List NodeEvent
text_goes = by This (Sends_text 2) ∷ []

abbrev pub text_is_heard : List NodeEvent
text_is_heard = by That (Hears_text 2 (zero_bits 72)) ∷ []

abbrev pub text_answered_on_2 : List NodeEvent
text_answered_on_2 = by This (Text_is_answered 2) ∷ []

-- both hosts are up, the connection is open, two bytes are sent, the third is stored; then: the two
-- arrive and are taken
abbrev pub with_text_out : List NodeEvent
with_text_out = comes_up This ++ opens_both ++ allocates_and_gives ++ text_goes

abbrev pub got_and_taken : List NodeEvent
got_and_taken = with_text_out ++ text_is_heard ++ text_answered_on_2 ++ by That (Calls inward (Take 100)) ∷ []

-- the text is lost, answered as lost, and sent again
abbrev pub loses_text : List NodeEvent
loses_text = by This (Loses_text 2) ∷ by This (Text_is_answered 2) ∷ by This (Sends_text 2) ∷ []

abbrev pub lost_twice : List NodeEvent
lost_twice = with_text_out ++ loses_text ++ loses_text ++ text_is_heard ++ text_answered_on_2

-- its destination is dead: it is held, and not sent until a wake
abbrev pub held_back : List NodeEvent
held_back = with_text_out ++ by This (Text_dies 2) ∷ by This (Text_is_answered 2) ∷ by This (Sends_text 2) ∷ []

abbrev pub woken_again : List NodeEvent
woken_again = held_back ++ by This Wakes ∷ by This (Sends_text 2) ∷ text_is_heard ++ text_answered_on_2

-- that host asks to receive, and both reset before its RTS is sent
abbrev pub both_reset : List NodeEvent
both_reset =
    comes_up This ++ by That (Calls inward (Ask_to_receive 64)) ∷ by This Calls_reset ∷ by That Calls_reset
    ∷ message This ++ message That ++ message This ++ message That

-- that host resets while a text is unacknowledged: its RST arrives, and then the text
abbrev pub reset_under_text : List NodeEvent
reset_under_text = with_text_out ++ by That Calls_reset ∷ message That ++ text_is_heard

-- the RRP is made after the text was answered; then: that host asks to receive again
abbrev pub reset_over : List NodeEvent
reset_over = reset_under_text ++ text_answered_on_2 ++ message This

abbrev pub asks_again : List NodeEvent
asks_again = reset_over ++ by That (Calls inward (Ask_to_receive 64)) ∷ []

-- the receiver closes while a text is unacknowledged: the text is late, and the sender's CLS follows its
-- RFNM
abbrev pub closed_by_receiver : List NodeEvent
closed_by_receiver = with_text_out ++ by That (Calls inward Close) ∷ message That ++ text_is_heard

abbrev pub over_by_receiver : List NodeEvent
over_by_receiver = closed_by_receiver ++ text_answered_on_2 ++ message This

-- the sender closes while a text is unacknowledged: the text is got, and taken after the CLS arrived
abbrev pub closed_by_sender : List NodeEvent
closed_by_sender = with_text_out ++ by This (Calls outward Close) ∷ text_is_heard ++ text_answered_on_2 ++ message This

abbrev pub over_by_sender : List NodeEvent
over_by_sender = closed_by_sender ++ by That (Calls inward (Take 100)) ∷ message That

-- and the connection opens again, on the same link
abbrev pub opened_again : List NodeEvent
opened_again = over_by_receiver ++ opens_both

-- a ledger with all its terms: the text is unacknowledged, a second ALL is queued, and a RET answers a
-- GVB
abbrev pub calls_back_under_text : List NodeEvent
calls_back_under_text =
    with_text_out ++ by That (Calls inward (Call_back 128 0)) ∷ message That ++ by That (Calls inward (Allocate 3 24)) ∷ []

-- the sender's host resets while its text is in flight: the text received stays got while the receiver is
-- live
abbrev pub sender_cleared : List NodeEvent
sender_cleared = with_text_out ++ by This Calls_reset ∷ text_is_heard

-- a text finds its destination dead, and is held; that host resets, and gets its answer after the text
-- was woken, delivered, and answered
abbrev pub held_past_reset : List NodeEvent
held_past_reset = held_back ++ by That Calls_reset ∷ message That

abbrev pub up_after_held : List NodeEvent
up_after_held = held_past_reset ++ by This Wakes ∷ text_goes ++ text_is_heard ++ text_answered_on_2 ++ message This

-- the connection opens again on the same link, and other bits are given
abbrev pub opened_after_held : List NodeEvent
opened_after_held =
    up_after_held ++ opens_both ++ by That (Calls inward (Allocate 2 16)) ∷ message That ++ by This (Calls outward (Give (zero_bits 16))) ∷ text_goes ++ text_is_heard ++ text_answered_on_2

-- a second connection, from socket 5 to socket 4, on the next link; its text is unacknowledged when that
-- host resets
abbrev pub other_outward : Pair
other_outward = record { local = 5; remote = 4 }

abbrev pub other_inward : Pair
other_inward = record { local = 4; remote = 5 }

abbrev pub opens_another : List NodeEvent
opens_another =
    comes_up This ++ opens_both ++ by This (Calls other_outward (Ask_to_send 8 64)) ∷ by That (Calls other_inward (Ask_to_receive 64)) ∷ message That ++ message This

abbrev pub reset_under_other_text : List NodeEvent
reset_under_other_text =
    opens_another ++ by That (Calls other_inward (Allocate 2 16)) ∷ message That ++ by This (Calls other_outward (Give (ones 16))) ∷ by This (Sends_text 3) ∷ by That Calls_reset ∷ message That

-- this host asks to send; its control message is lost, answered as lost, and sent again
abbrev pub request_goes : List NodeEvent
request_goes = comes_up This ++ by This (Calls outward (Ask_to_send 8 64)) ∷ by This (Sends 9) ∷ []

abbrev pub request_lost : List NodeEvent
request_lost = request_goes ++ by This Loses ∷ by This Is_answered ∷ []

abbrev pub request_again : List NodeEvent
request_again = request_lost ++ message This

-- its destination is dead: it is held, and not sent until a wake
abbrev pub request_held : List NodeEvent
request_held = request_goes ++ by This Dies ∷ by This Is_answered ∷ message This

abbrev pub request_woken : List NodeEvent
request_woken = request_held ++ by This Wakes ∷ message This

-- this host asks for an echo; then: that one answers
abbrev pub echo_asks : List NodeEvent
echo_asks = comes_up This ++ by This (Calls_echo 65) ∷ []

abbrev pub echo_comes_back : List NodeEvent
echo_comes_back = echo_asks ++ message This ++ message That

-- this host goes down while its connection is open and its echo is awaited
abbrev pub open_with_echo : List NodeEvent
open_with_echo = comes_up This ++ opens_both ++ by This (Calls_echo 65) ∷ []

abbrev pub fallen : List NodeEvent
fallen = open_with_echo ++ by This Falls ∷ []

-- the sender's user interrupts, and the receiver's does
abbrev pub both_interrupt : List NodeEvent
both_interrupt = comes_up This ++ opens_both ++ by This (Calls outward Interrupt) ∷ by That (Calls inward Interrupt) ∷ message This ++ message That

-- both have asked, and the receiver's request is in flight to the sender; then: the sender's to the
-- receiver
abbrev pub meets : List NodeEvent
meets = comes_up This ++ by This (Calls outward (Ask_to_send 8 64)) ∷ by That (Calls inward (Ask_to_receive 64)) ∷ by That (Sends 9) ∷ []

abbrev pub met_and_heard : List NodeEvent
met_and_heard = meets ++ by This Hears ∷ []

abbrev pub meets_there : List NodeEvent
meets_there = met_and_heard ++ by That Is_answered ∷ by This (Sends 9) ∷ []

abbrev pub met_there : List NodeEvent
met_there = meets_there ++ by That Hears ∷ []
