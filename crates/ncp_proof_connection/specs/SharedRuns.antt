-- A worked run of two connections.
use Rattle.std.specs.Prelude.{false, List, [], ◌∷◌}
use Rattle.ncp_model.specs.declared.pair.Pair.{Pair}
use Rattle.ncp_model.specs.EndpointEvents.{EndpointEvent}
use Rattle.ncp_model.specs.Rows.{outward}
use Rattle.ncp_proof_connection.specs.Connections.{Sender_calls, Receiver_calls}
use Rattle.ncp_proof_connection.specs.Sharing.{Shared_event, On, Next_to_senders, Next_to_receivers}

-- a second connection, from socket 5 to socket 4, with link 3: its requests are in the same lists
abbrev pub second : Pair
second = record { local = 5; remote = 4 }

abbrev pub two_open : List Shared_event
two_open = On outward (Sender_calls (EndpointEvent.Asks_to_send 8 64 0 false)) ∷ On second (Sender_calls (EndpointEvent.Asks_to_send 36 64 0 false))
    ∷ On outward (Receiver_calls (EndpointEvent.Asks_to_receive 64 2 0 false)) ∷ On second (Receiver_calls (EndpointEvent.Asks_to_receive 64 3 0 false))
    ∷ Next_to_senders 0 ∷ Next_to_receivers 0 ∷ Next_to_senders 0 ∷ Next_to_receivers 0 ∷ []
