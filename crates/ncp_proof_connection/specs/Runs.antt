-- Worked runs of the connection from socket 3 to the peer's socket 2.
use Rattle.std.specs.Prelude.{false, List, [], ◌∷◌, ◌++◌}
use Rattle.ncp_model.specs.Texts.{Rfnm, Incomplete}
use Rattle.ncp_model.specs.EndpointEvents.{EndpointEvent}
use Rattle.ncp_model.specs.Rows.{ones, zero_bits}
use Rattle.ncp_proof_connection.specs.Connections.{ConnectionEvent, Sender_calls, Receiver_calls, Comes_to_sender, Comes_to_receiver, Text_goes_out, Text_comes, Text_is_answered}
use Rattle.ncp_proof_connection.specs.Clearings.{Change, Occurs, Sender_is_cleared, Receiver_is_cleared, Starts_empty}

-- both ask, with bytes of 8 bits and link 2, and both requests arrive
abbrev pub opening : List ConnectionEvent
opening = Sender_calls (EndpointEvent.Asks_to_send 8 64 0 false) ∷ Receiver_calls (EndpointEvent.Asks_to_receive 64 2 0 false) ∷ Comes_to_sender 0 ∷ Comes_to_receiver 0 ∷ []

-- two messages and 16 bits are allocated, three bytes are given, and two are sent
abbrev pub text_sent : List ConnectionEvent
text_sent = opening ++ Receiver_calls (EndpointEvent.Allocates 2 16 false) ∷ Comes_to_sender 0 ∷ Sender_calls (EndpointEvent.Gives (ones 16 ++ zero_bits 8)) ∷ Text_goes_out ∷ []

-- it is lost once, delivered, and acknowledged
abbrev pub text_got : List ConnectionEvent
text_got = text_sent ++ Text_is_answered Incomplete ∷ Text_comes (zero_bits 72) ∷ Text_is_answered Rfnm ∷ []

-- the CLS arrives at a busy sender, which makes its own after the RFNM; the text is late
abbrev pub receiver_closes : List ConnectionEvent
receiver_closes = text_sent ++ Receiver_calls (EndpointEvent.Closes false) ∷ Comes_to_sender 0 ∷ Text_comes (zero_bits 72) ∷ Text_is_answered Rfnm ∷ Comes_to_receiver 0 ∷ []

-- the sender's CLS is pending until the RFNM; the receiver makes its own when all text is taken
abbrev pub sender_closes : List ConnectionEvent
sender_closes = text_sent ++ Sender_calls (EndpointEvent.Closes false) ∷ Text_comes (zero_bits 72) ∷ Text_is_answered Rfnm ∷ Comes_to_receiver 0 ∷ Receiver_calls (EndpointEvent.Takes 9) ∷ Comes_to_sender 0 ∷ []

-- calling back, and an interrupt in each direction
abbrev pub called_back : List ConnectionEvent
called_back = text_got ++ Receiver_calls (EndpointEvent.Allocates 1 8 false) ∷ Comes_to_sender 0 ∷ Receiver_calls (EndpointEvent.Calls_back 64 128 false) ∷ Receiver_calls (EndpointEvent.Interrupts false) ∷ Comes_to_sender 0 ∷ Comes_to_sender 0 ∷ Sender_calls (EndpointEvent.Interrupts false) ∷ Comes_to_receiver 0 ∷ Comes_to_receiver 0 ∷ []

abbrev pub occur_all : List ConnectionEvent → List Change
occur_all [] = []
occur_all (e ∷ es) = Occurs e ∷ occur_all es

-- the receiver's host is cleared while a text is unacknowledged
abbrev pub receiver_cleared : List Change
receiver_cleared = occur_all text_sent ++ Receiver_is_cleared 0 ∷ []

-- then the text is dropped and acknowledged, the sender's host is cleared too, and a connection opens
-- again
abbrev pub opened_empty : List Change
opened_empty = receiver_cleared ++ Occurs (Text_comes (zero_bits 72)) ∷ Occurs (Text_is_answered Rfnm) ∷ Sender_is_cleared 0 ∷ Starts_empty ∷ occur_all opening
