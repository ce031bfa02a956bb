-- A connection whose hosts may be cleared at any moment: by a reset, by an RST received, by going down
-- (NIC 8246, RST and RRP). A host that was cleared is silent, and drops all arrivals, until both were
-- cleared and the connection starts again, from empty.
use Rattle.std.specs.Prelude.{◌≡◌, ℕ, Bool, true, false, ◌||◌, if◌then◌else◌, List, [], ◌∷◌, take, drop}
use Rattle.ncp_model.specs.declared.pair.Pair.{Pair}
use Rattle.ncp_model.specs.Endpoint.{is_live}
use Rattle.ncp_model.specs.Texts.{Answer, Rfnm}
use Rattle.ncp_model.specs.EndpointEvents.{EndpointEvent}
use Rattle.ncp_proof_connection.specs.Connections.{Text, No_text, Away, Here, Connection, new_connection, sender_does, receiver_does, ConnectionEvent, Sender_calls, Receiver_calls, Comes_to_sender, Comes_to_receiver, Text_goes_out, Text_comes, Text_is_answered, occurs}
use Rattle.ncp_proof_connection.specs.Ledger.{is_text_out}

pub record Hosted : Type 0 where
  pub connection : Connection
  pub sends : Bool  -- the sender's host was not cleared since the last start
  pub receives : Bool

abbrev pub new_hosted : Hosted
new_hosted = record { connection = new_connection; sends = true; receives = true }

-- whether the event is at the sender's host, or at the receiver's
abbrev pub is_at_sender : ConnectionEvent → Bool
is_at_sender (Sender_calls what) = true
is_at_sender (Receiver_calls what) = false
is_at_sender (Comes_to_sender by_peer) = true
is_at_sender (Comes_to_receiver by_peer) = false
is_at_sender Text_goes_out = true
is_at_sender (Text_comes head) = false
is_at_sender (Text_is_answered how) = true

-- a text after its arrival
abbrev pub text_dropped : Text → Text
text_dropped (Away on of_size bits) = Here on
text_dropped text = text

-- a text after its answer
abbrev pub text_over : Answer → Text → Text
text_over Rfnm (Here on) = No_text
text_over how text = text

-- at a host that was cleared: arrivals are dropped, and nothing else happens
abbrev pub misses : ConnectionEvent → Connection → Connection
misses (Sender_calls what) w = w
misses (Receiver_calls what) w = w
misses (Comes_to_sender by_peer) w = record w { to_sender = drop 1 w.to_sender }
misses (Comes_to_receiver by_peer) w = record w { to_receiver = drop 1 w.to_receiver }
misses Text_goes_out w = w
misses (Text_comes head) w = record w { text = text_dropped w.text }
misses (Text_is_answered how) w = record w { text = text_over how w.text }

-- A host that is cleared has no end. Of the commands it made, the first `on_line` stay in flight; the
-- rest were queued, and are struck. An unacknowledged text stays.
pub data Change : Type 0 where
  Occurs : (event : ConnectionEvent) → Change
  Sender_is_cleared : (on_line : ℕ) → Change
  Receiver_is_cleared : (on_line : ℕ) → Change
  Starts_empty : Change  -- both hosts were cleared, and no text is unacknowledged

abbrev pub starts_empty : Text → Hosted → Hosted
starts_empty No_text h =
    if h.sends || h.receives then h else record { connection = record h.connection { to_receiver = []; to_sender = [] }; sends = true; receives = true }
starts_empty text h = h

abbrev pub changes : Pair → Change → Hosted → Hosted
changes pair (Occurs e) h =
    record h { connection = if (if is_at_sender e then h.sends else h.receives) then occurs pair e h.connection else misses e h.connection }
changes pair (Sender_is_cleared n) h =
    record h { connection = record (sender_does pair EndpointEvent.Is_cleared h.connection) { to_receiver = take n h.connection.to_receiver }; sends = false }
changes pair (Receiver_is_cleared n) h =
    record h { connection = record (receiver_does pair EndpointEvent.Is_cleared h.connection) { to_sender = take n h.connection.to_sender }; receives = false }
changes pair Starts_empty h = starts_empty h.connection.text h

abbrev pub change_from : Pair → List Change → Hosted → Hosted
change_from pair [] h = h
change_from pair (c ∷ more) h = change_from pair more (changes pair c h)

abbrev pub change : Pair → List Change → Hosted
change pair cs = change_from pair cs new_hosted

-- while a text is unacknowledged, the end at each host that was not cleared has opened
abbrev pub OutStaysOpened : Hosted → Type 0
OutStaysOpened h =
    is_text_out h.connection.text ≡ true
    → (h.sends ≡ true → is_live h.connection.sender.end ≡ true) × (h.receives ≡ true → is_live h.connection.receiver.end ≡ true)
