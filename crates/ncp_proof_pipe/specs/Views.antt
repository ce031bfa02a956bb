-- Two endpoints of a pair of sockets, and the unacknowledged text, as a pipe.
use Rattle.std.specs.Prelude.{◌&&◌, ◌||◌, ◌≡◌, ◌≤◌, ℕ, suc, ◌+◌, ◌-◌, Bool, true, false, if◌then◌else◌, List, [], ◌∷◌, ◌++◌, length, Option, None, Some}
use Rattle.ncp_model.specs.Endpoint.{Endpoint, is_closing, or_new}
use Rattle.ncp_model.specs.declared.pair.Pair.{Pair}
use Rattle.ncp_model.specs.Pairs.{same, counterpart}
use Rattle.ncp_proof_connection.specs.Sharing.{Shared, Shared_event, On, connection_at, shared_occurs}
use Rattle.ncp_model.specs.EndpointEvents.{EndpointEvent, Outcome, happens}
use Rattle.ncp_proof_connection.specs.Connections.{Connection, ConnectionEvent, Sender_calls, Receiver_calls, is_call}
use Rattle.ncp_proof_connection.specs.Ledger.{text_bits}
use Rattle.ncp_proof_endpoint.specs.Histories.{is_outcome_accepted}
use Rattle.ncp_pipe.specs.Pipe.{Stage, Closed, Asked, Open, Closing, Pipe, Step, is_on, is_open, IsRun}
use Rattle.ncp_pipe.specs.Pipe as pipes
use Rattle.ncp_pipe.specs.Accounts.{user_steps}

abbrev pub stage_of : Endpoint → Stage
stage_of e = if is_closing e then Closing else if e.opened then Open else if e.asked then Asked else Closed

abbrev pub stage : Option Endpoint → Stage
stage None = Closed
stage (Some e) = stage_of e

-- what the pipe shows of an endpoint
pub record EndView : Type 0 where
  pub at : Stage
  pub stored : List Bool
  pub bits : ℕ

abbrev pub sender_view : Option Endpoint → EndView
sender_view o = record { at = stage o; stored = if is_on (stage o) then (or_new o).stored else []; bits = 0 }

abbrev pub receiver_view : Option Endpoint → EndView
receiver_view o = record { at = stage o; stored = (or_new o).stored; bits = if is_on (stage o) then (or_new o).bits else 0 }

-- the pipe, with the bits of the text that is not yet delivered, and whether nothing was sent since the sender asked
abbrev pub pipe_of_views : EndView → EndView → List Bool → Bool → Pipe
pipe_of_views s r out fresh = record {
  sender = s.at;
  receiver = r.at;
  queued = s.stored;
  in_flight = if is_open r.at then out else [];
  held = r.stored;
  allowed = r.bits;
  fresh = fresh;
}

-- if nothing was sent, the store has all that was given; else less
abbrev pub FreshAt : Stage → List Bool → List Bool → Bool → Type 0
FreshAt at stored given fresh =
    (at ≡ Asked → fresh ≡ true) × (at ≡ Open → (length stored ≤ length given) × (fresh ≡ false → suc (length stored) ≤ length given))

-- the step of the user of an endpoint in an event with its outcome

abbrev pub if_accepted : Outcome → Step → List Step
if_accepted o s = if is_outcome_accepted o then s ∷ [] else []

abbrev pub sender_step : EndpointEvent → Outcome → List Step
sender_step (EndpointEvent.Asks_to_send of_size with_room own full) o = if_accepted o pipes.Asks_to_send
sender_step (EndpointEvent.Gives text) o = if_accepted o (pipes.Gives text)
sender_step (EndpointEvent.Closes full) o = if_accepted o pipes.Closes_sender
sender_step what o = []

abbrev pub if_took : Outcome → List Step
if_took (Outcome.Took_out text) = pipes.Takes text ∷ []
if_took o = []

abbrev pub receiver_step : EndpointEvent → Outcome → List Step
receiver_step (EndpointEvent.Asks_to_receive with_room on own full) o = if_accepted o pipes.Asks_to_receive
receiver_step (EndpointEvent.Takes bytes) o = if_took o
receiver_step (EndpointEvent.Allocates m bits full) o = if_accepted o (pipes.Allows bits)
receiver_step (EndpointEvent.Calls_back m bits full) o = if_accepted o pipes.Calls_back
receiver_step (EndpointEvent.Closes full) o = if_accepted o pipes.Closes_receiver
receiver_step what o = []

-- calls that use an open connection: of the sender's user, and of the receiver's

abbrev pub is_sender_use : EndpointEvent → Bool
is_sender_use (EndpointEvent.Gives text) = true
is_sender_use what = false

abbrev pub is_receiver_use : EndpointEvent → Bool
is_receiver_use (EndpointEvent.Allocates m bits full) = true
is_receiver_use (EndpointEvent.Calls_back m bits full) = true
is_receiver_use what = false

abbrev pub is_use : EndpointEvent → Bool
is_use what = is_sender_use what || is_receiver_use what

-- all events but the sending and the arrival of a text
abbrev pub is_of_sender : EndpointEvent → Bool
is_of_sender EndpointEvent.Text_goes_out = false
is_of_sender (EndpointEvent.Text_comes head of_size text) = false
is_of_sender what = true

-- all events but the arrival of a text, and those of a sender alone
abbrev pub is_of_receiver : EndpointEvent → Bool
is_of_receiver (EndpointEvent.Text_comes head of_size text) = false
is_of_receiver EndpointEvent.Text_goes_out = false
is_of_receiver (EndpointEvent.All_comes on a b) = false
is_of_receiver (EndpointEvent.Gvb_comes on a b) = false
is_of_receiver (EndpointEvent.Inr_comes on) = false
is_of_receiver what = true

-- the ways in which an event changes a sender's endpoint and what was given, each with the step of its user; a sender
-- leaves only when a CLS comes, and is cut only when its host is cleared
pub data SenderDid (what : EndpointEvent) (s z : EndView) (given now : List Bool) : List Step → Type 0 where
  Sender_stayed : s.at ≡ z.at → s.stored ≡ z.stored → given ≡ now → SenderDid what s z given now []
  Sender_did_ask : s.at ≡ Closed → z.at ≡ Asked → z.stored ≡ [] → SenderDid what s z given now (pipes.Asks_to_send ∷ [])
  Sender_did_ask_and_open : s.at ≡ Closed → z.at ≡ Open → z.stored ≡ [] → SenderDid what s z given now (pipes.Asks_to_send ∷ [])
  Sender_did_open : s.at ≡ Asked → z.at ≡ Open → s.stored ≡ [] → z.stored ≡ [] → SenderDid what s z given now []
  Sender_did_give : (text : List Bool) → s.at ≡ Open → z.at ≡ Open → z.stored ≡ s.stored ++ text → now ≡ given ++ text → SenderDid what s z given now (pipes.Gives text ∷ [])
  Sender_did_close : z.at ≡ Closing → z.stored ≡ [] → SenderDid what s z given now (pipes.Closes_sender ∷ [])
  Sender_did_leave : what ≡ EndpointEvent.Cls_comes → is_on s.at ≡ true → z.at ≡ Closing → z.stored ≡ [] → SenderDid what s z given now []
  Sender_did_leave_and_end : what ≡ EndpointEvent.Cls_comes → is_on s.at ≡ true → z.at ≡ Closed → z.stored ≡ [] → SenderDid what s z given now []
  Sender_did_end : s.at ≡ Closing → z.at ≡ Closed → z.stored ≡ [] → SenderDid what s z given now []
  Sender_was_cut : what ≡ EndpointEvent.Is_cleared → z.at ≡ Closed → z.stored ≡ [] → SenderDid what s z given now []

-- the same of a receiver's
pub data ReceiverDid (what : EndpointEvent) (r z : EndView) : List Step → Type 0 where
  Receiver_stayed : r ≡ z → ReceiverDid what r z []
  Receiver_did_ask : r.at ≡ Closed → z ≡ record { at = Asked; stored = []; bits = 0 } → ReceiverDid what r z (pipes.Asks_to_receive ∷ [])
  Receiver_did_ask_and_open : r.at ≡ Closed → z ≡ record { at = Open; stored = []; bits = 0 } → ReceiverDid what r z (pipes.Asks_to_receive ∷ [])
  Receiver_did_open : r.at ≡ Asked → z ≡ record r { at = Open } → ReceiverDid what r z []
  Receiver_did_take : (text rest : List Bool) → r.stored ≡ text ++ rest → z ≡ record r { stored = rest } → ReceiverDid what r z (pipes.Takes text ∷ [])
  Receiver_did_take_and_end : (text : List Bool) → r.at ≡ Closing → r.stored ≡ text → z ≡ record { at = Closed; stored = []; bits = 0 } → ReceiverDid what r z (pipes.Takes text ∷ [])
  Receiver_did_allow : (bits : ℕ) → r.at ≡ Open → z ≡ record r { bits = r.bits + bits } → ReceiverDid what r z (pipes.Allows bits ∷ [])
  Receiver_did_call_back : r.at ≡ Open → r ≡ z → ReceiverDid what r z (pipes.Calls_back ∷ [])
  Receiver_did_return : (bits : ℕ) → bits ≤ r.bits → z ≡ record r { bits = r.bits - bits } → ReceiverDid what r z []
  Receiver_did_close : z ≡ record { at = Closing; stored = []; bits = 0 } → ReceiverDid what r z (pipes.Closes_receiver ∷ [])
  Receiver_did_close_and_end : z ≡ record { at = Closed; stored = []; bits = 0 } → ReceiverDid what r z (pipes.Closes_receiver ∷ [])
  Receiver_did_leave : what ≡ EndpointEvent.Cls_comes → is_on r.at ≡ true → z ≡ record r { at = Closing; bits = 0 } → ReceiverDid what r z []
  Receiver_did_leave_and_end : what ≡ EndpointEvent.Cls_comes → is_on r.at ≡ true → z ≡ record { at = Closed; stored = []; bits = 0 } → ReceiverDid what r z []
  Receiver_did_end : r.at ≡ Closing → z ≡ record { at = Closed; stored = []; bits = 0 } → ReceiverDid what r z []
  Receiver_was_cut : what ≡ EndpointEvent.Is_cleared → z ≡ record { at = Closed; stored = []; bits = 0 } → ReceiverDid what r z []

-- steps of the pipe lead from `p` to these views; `users` are those of the users among them
pub record Moves (p : Pipe) (users : List Step) (s r : EndView) (out given : List Bool) : Type 0 where
  pub fresh : Bool
  pub steps : List Step
  pub run : IsRun p steps (pipe_of_views s r out fresh)
  pub of_users : user_steps steps ≡ users
  pub still : FreshAt s.at s.stored given fresh

-- the pipe of a connection
abbrev pub pipe_of : Connection → Bool → Pipe
pipe_of w fresh = pipe_of_views (sender_view w.sender.end) (receiver_view w.receiver.end) (text_bits w.text) fresh

abbrev pub FreshOn : Connection → Bool → Type 0
FreshOn w fresh = FreshAt (stage w.sender.end) (sender_view w.sender.end).stored w.sender.past.given fresh

-- steps lead from `p` to the pipe of this connection
abbrev pub MovesTo : Pipe → List Step → Connection → Type 0
MovesTo p users w = Moves p users (sender_view w.sender.end) (receiver_view w.receiver.end) (text_bits w.text) w.sender.past.given

-- the users' steps in an event of a connection, while the host is up
abbrev pub event_steps : Pair → Bool → Bool → ConnectionEvent → Connection → List Step
event_steps pair a b (Sender_calls what) w = if a && is_call what then sender_step what (happens pair what w.sender.end).outcome else []
event_steps pair a b (Receiver_calls what) w = if b && is_call what then receiver_step what (happens (counterpart pair) what w.receiver.end).outcome else []
event_steps pair a b event w = []

-- the same among many connections, of one pair
abbrev pub shared_steps : Pair → Shared_event → Shared → List Step
shared_steps p (On q e) s = if same q p then event_steps p s.sends s.receives e (connection_at p s) else []
shared_steps p e s = []

abbrev pub user_steps_from : Pair → List Shared_event → Shared → List Step
user_steps_from p [] s = []
user_steps_from p (e ∷ es) s = shared_steps p e s ++ user_steps_from p es (shared_occurs e s)
