-- Any number of connections from one host to another, whose commands share the two lists underway (queued
-- or in flight). Each is named by its pair as at the sender's host. Either host may be cleared, that is,
-- drop all its endpoints and queued commands, at any moment.
use Rattle.std.specs.Prelude.{◌≡◌, ℕ, Bool, true, false, nat_lt, if◌then◌else◌, List, [], ◌∷◌, ◌++◌, take}
use Rattle.ncp_wire.specs.declared.command.Command.{Command}
use Rattle.ncp_model.specs.declared.pair.Pair.{Pair}
use Rattle.ncp_model.specs.declared.limits.TheConstants.{MAX_BY_PEER}
use Rattle.ncp_model.specs.Pairs.{sends, counterpart, same}
use Rattle.ncp_model.specs.Endpoint.{or_new}
use Rattle.ncp_model.specs.Ends.{hears_link, uses_link}
use Rattle.ncp_model.specs.EndpointEvents.{EndpointEvent}
use Rattle.ncp_proof_endpoint.specs.Histories.{EndpointWithHistory, watches}
use Rattle.ncp_proof_connection.specs.Connections.{Text, No_text, Connection, no_end, ConnectionEvent, Receiver_calls, Comes_to_sender, Comes_to_receiver}
use Rattle.ncp_proof_connection.specs.Clearings.{Hosted, Occurs, changes}

-- A command underway, with the connection for which it was made. The theorems on links and sockets prove
-- that a host finds this connection by the link or the sockets that the command names.
pub record Tagged : Type 0 where
  pub pair : Pair
  pub command : Command

pub record Shared : Type 0 where
  pub sender : Pair → EndpointWithHistory
  pub receiver : Pair → EndpointWithHistory
  pub text : Pair → Text
  pub violated : Pair → Bool
  pub to_receivers : List Tagged
  pub to_senders : List Tagged
  pub sends : Bool  -- the senders' host was not cleared since the last start
  pub receives : Bool

abbrev pub new_shared : Shared
new_shared = record {
  sender = λ p. no_end;
  receiver = λ p. no_end;
  text = λ p. No_text;
  violated = λ p. false;
  to_receivers = [];
  to_senders = [];
  sends = true;
  receives = true;
}

abbrev pub set_at_pair : {A : Type 0} → Pair → A → (Pair → A) → Pair → A
set_at_pair q a f p = if same q p then a else f p

-- the commands of one connection, in order
abbrev pub only : Pair → List Tagged → List Command
only p [] = []
only p (c ∷ cs) = if same c.pair p then c.command ∷ only p cs else only p cs

abbrev pub tag : Pair → List Command → List Tagged
tag q [] = []
tag q (c ∷ cs) = record { pair = q; command = c } ∷ tag q cs

-- one connection by itself; then: with the state of its hosts
abbrev pub connection_at : Pair → Shared → Connection
connection_at p s = record { sender = s.sender p; receiver = s.receiver p; to_receiver = only p s.to_receivers; to_sender = only p s.to_senders; text = s.text p; violated = s.violated p }

abbrev pub hosted_at : Pair → Shared → Hosted
hosted_at p s = record { connection = connection_at p s; sends = s.sends; receives = s.receives }

-- the same, with only these commands underway
abbrev pub bringing : Pair → List Command → List Command → Shared → Hosted
bringing p to_receiver to_sender s = record {
  connection = record { sender = s.sender p; receiver = s.receiver p; to_receiver = to_receiver; to_sender = to_sender; text = s.text p; violated = s.violated p };
  sends = s.sends;
  receives = s.receives;
}

-- the state with this connection; the commands it made are appended to those underway
abbrev pub put_hosted : Pair → Hosted → Shared → Shared
put_hosted q h s = record s {
  sender = set_at_pair q h.connection.sender s.sender;
  receiver = set_at_pair q h.connection.receiver s.receiver;
  text = set_at_pair q h.connection.text s.text;
  violated = set_at_pair q h.connection.violated s.violated;
  to_receivers = s.to_receivers ++ tag q h.connection.to_receiver;
  to_senders = s.to_senders ++ tag q h.connection.to_sender;
}

-- The connections in the other direction have their commands in the same two lists: these are data of the
-- events here.
pub data Shared_event : Type 0 where
  On : (pair : Pair) → (event : ConnectionEvent) → Shared_event  -- any event but the arrival of a command
  Next_to_senders : (by_peer : ℕ) → Shared_event  -- the first command underway arrives
  Next_to_receivers : (by_peer : ℕ) → Shared_event
  Other_to_senders : (command : Tagged) → Shared_event
  Other_to_receivers : (command : Tagged) → Shared_event
  Senders_are_cleared : (on_line : ℕ) → Shared_event
  Receivers_are_cleared : (on_line : ℕ) → Shared_event
  All_start_empty : Shared_event

abbrev pub next_to_senders : ℕ → List Tagged → Shared → Shared
next_to_senders by_peer [] s = s
next_to_senders by_peer (c ∷ rest) s =
    if sends c.pair
    then put_hosted c.pair (changes c.pair (Occurs (Comes_to_sender by_peer)) (bringing c.pair [] (c.command ∷ []) s)) (record s { to_senders = rest })
    else record s { to_senders = rest }

abbrev pub next_to_receivers : ℕ → List Tagged → Shared → Shared
next_to_receivers by_peer [] s = s
next_to_receivers by_peer (c ∷ rest) s =
    if sends c.pair
    then put_hosted c.pair (changes c.pair (Occurs (Comes_to_receiver by_peer)) (bringing c.pair (c.command ∷ []) [] s)) (record s { to_receivers = rest })
    else record s { to_receivers = rest }

abbrev pub shared_occurs : Shared_event → Shared → Shared
shared_occurs (On q e) s = if sends q then put_hosted q (changes q (Occurs e) (bringing q [] [] s)) s else s
shared_occurs (Next_to_senders n) s = if nat_lt n MAX_BY_PEER then next_to_senders n s.to_senders s else s
shared_occurs (Next_to_receivers n) s = if nat_lt n MAX_BY_PEER then next_to_receivers n s.to_receivers s else s
shared_occurs (Other_to_senders c) s = if sends c.pair then s else record s { to_senders = s.to_senders ++ c ∷ [] }
shared_occurs (Other_to_receivers c) s = if sends c.pair then s else record s { to_receivers = s.to_receivers ++ c ∷ [] }
shared_occurs (Senders_are_cleared n) s = record s { sender = λ p. watches p EndpointEvent.Is_cleared (s.sender p); to_receivers = take n s.to_receivers; sends = false }
shared_occurs (Receivers_are_cleared n) s = record s { receiver = λ p. watches (counterpart p) EndpointEvent.Is_cleared (s.receiver p); to_senders = take n s.to_senders; receives = false }
shared_occurs All_start_empty s = record s { to_receivers = []; to_senders = []; sends = true; receives = true }

abbrev pub shared_from : List Shared_event → Shared → Shared
shared_from [] s = s
shared_from (e ∷ more) s = shared_from more (shared_occurs e s)

abbrev pub shared : List Shared_event → Shared
shared events = shared_from events new_shared

-- the sending end of this connection heard this link; then: its receiving end asked with it
abbrev pub hears_at : Shared → ℕ → Pair → Bool
hears_at s on p = hears_link on (p, or_new (s.sender p).end)

abbrev pub uses_at : Shared → ℕ → Pair → Bool
uses_at s on p = uses_link on (counterpart p, or_new (s.receiver p).end)

-- A receiver asks with a link that no receiving end uses, even one that has left. All connections start
-- again, from empty, only if both hosts were cleared and no text is unacknowledged.
abbrev pub MayHappen : Shared_event → Shared → Type 0
MayHappen (On q (Receiver_calls (EndpointEvent.Asks_to_receive with_room on own full))) s = (p : Pair) → uses_at s on p ≡ true → ⊥
MayHappen All_start_empty s = (s.sends ≡ false) × (s.receives ≡ false) × ((p : Pair) → s.text p ≡ No_text)
MayHappen e s = Unit {0}

abbrev pub AllMayHappen : List Shared_event → Shared → Type 0
AllMayHappen [] s = Unit {0}
AllMayHappen (e ∷ more) s = MayHappen e s × AllMayHappen more (shared_occurs e s)
