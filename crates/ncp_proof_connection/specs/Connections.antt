-- One connection between two hosts that stay up: an end at the sender's host and one at the receiver's,
-- the commands underway (queued or in flight) between them, and at most one unacknowledged text. Each
-- event at an end appends the commands it makes to those underway. A control link keeps order (BBN 1822,
-- section 3), so the commands of each host arrive in the order in which they were made.
use Rattle.std.specs.Prelude.{◌≡◌, ℕ, Bool, true, false, ◌||◌, nat_lt, if◌then◌else◌, List, [], ◌∷◌, ◌++◌, Option, None, Some}
use Rattle.ncp_wire.specs.declared.command.Command.{Command}
use Rattle.ncp_wire.specs.declared.command.Command.TheVariants.{Rts, Str, Cls, All, Gvb, Ret, Inr, Ins}
use Rattle.ncp_model.specs.declared.pair.Pair.{Pair}
use Rattle.ncp_model.specs.declared.limits.TheConstants.{MAX_BY_PEER}
use Rattle.ncp_model.specs.Endpoint.{Endpoint, or_new}
use Rattle.ncp_model.specs.Effect.{is_data_link}
use Rattle.ncp_model.specs.Texts.{Answer, Rfnm, Incomplete, Dead}
use Rattle.ncp_model.specs.EndpointEvents.{EndpointEvent, Outcome, Transition, happens, is_violation}
use Rattle.ncp_proof_endpoint.specs.Histories.{EndpointWithHistory, no_past, watches}
use Rattle.ncp_model.specs.Pairs.{counterpart}

-- the one text that may be unacknowledged, from its sending to its RFNM (BBN 1822, section 3: a link
-- takes one message at a time)
pub data Text : Type 0 where
  No_text : Text
  Away : (on : ℕ) → (of_size : ℕ) → (bits : List Bool) → Text  -- it was sent on this link and has not arrived
  Here : (on : ℕ) → Text  -- it arrived and has had no RFNM

pub record Connection : Type 0 where
  pub sender : EndpointWithHistory  -- the endpoint at the sender's host, with the history of the pair
  pub receiver : EndpointWithHistory
  pub to_receiver : List Command  -- underway: made, and not received
  pub to_sender : List Command
  pub text : Text
  pub violated : Bool  -- an endpoint made an ERR for its peer's command, or refused its text

abbrev pub no_end : EndpointWithHistory
no_end = record { end = None; past = no_past }

abbrev pub new_connection : Connection
new_connection = record { sender = no_end; receiver = no_end; to_receiver = []; to_sender = []; text = No_text; violated = false }

-- the unacknowledged text after this outcome at a sender's end with this link
abbrev pub text_after_outcome : ℕ → Outcome → Text → Text
text_after_outcome on (Outcome.Sent of_size bits) text = Away on of_size bits
text_after_outcome on outcome text = text

-- An event at an end. The pair is named as at the sender's host. The commands made become underway.

abbrev pub sender_does : Pair → EndpointEvent → Connection → Connection
sender_does pair what w =
    let did : Transition = happens pair what w.sender.end in
    record w {
      sender = watches pair what w.sender;
      to_receiver = w.to_receiver ++ did.made;
      text = text_after_outcome (or_new w.sender.end).link did.outcome w.text;
      violated = w.violated || is_violation did.outcome;
    }

abbrev pub receiver_does : Pair → EndpointEvent → Connection → Connection
receiver_does pair what w =
    let did : Transition = happens (counterpart pair) what w.receiver.end in
    record w {
      receiver = watches (counterpart pair) what w.receiver;
      to_sender = w.to_sender ++ did.made;
      violated = w.violated || is_violation did.outcome;
    }

-- a user's call; a receiver asks with a data link
abbrev pub is_call : EndpointEvent → Bool
is_call (EndpointEvent.Asks_to_send of_size with_room own full) = true
is_call (EndpointEvent.Asks_to_receive with_room on own full) = is_data_link on
is_call (EndpointEvent.Closes full) = true
is_call (EndpointEvent.Gives text) = true
is_call (EndpointEvent.Takes bytes) = true
is_call (EndpointEvent.Allocates of_messages of_bits full) = true
is_call (EndpointEvent.Calls_back of_messages of_bits full) = true
is_call (EndpointEvent.Interrupts full) = true
is_call what = false

-- The event of a command at the end for which it was made. That an RTS names no link that another sending
-- end has heard is proved in `sharing::links_lead_home`. `by_peer` is the number of ends that exist by the
-- peer's request alone.
abbrev pub command_comes : ℕ → Command → Option EndpointEvent
command_comes by_peer (Rts receive send on) = Some (EndpointEvent.Rts_comes on false by_peer)
command_comes by_peer (Str send receive of_size) = Some (EndpointEvent.Str_comes of_size by_peer)
command_comes by_peer (Cls my your) = Some EndpointEvent.Cls_comes
command_comes by_peer (All on of_messages of_bits) = Some (EndpointEvent.All_comes on of_messages of_bits)
command_comes by_peer (Gvb on of_messages of_bits) = Some (EndpointEvent.Gvb_comes on of_messages of_bits)
command_comes by_peer (Ret on of_messages of_bits) = Some (EndpointEvent.Ret_comes on of_messages of_bits)
command_comes by_peer (Inr on) = Some (EndpointEvent.Inr_comes on)
command_comes by_peer (Ins on) = Some (EndpointEvent.Ins_comes on)
command_comes by_peer c = None

-- Events. A host that would answer Full goes down, which is a clearing and no event here: so a command
-- arrives only while fewer than 64 ends exist by the peer's request alone.
pub data ConnectionEvent : Type 0 where
  Sender_calls : (what : EndpointEvent) → ConnectionEvent
  Receiver_calls : (what : EndpointEvent) → ConnectionEvent
  Comes_to_sender : (by_peer : ℕ) → ConnectionEvent  -- the first command underway
  Comes_to_receiver : (by_peer : ℕ) → ConnectionEvent
  Text_goes_out : ConnectionEvent
  Text_comes : (head : List Bool) → ConnectionEvent  -- with this leader and prefix
  Text_is_answered : (how : Answer) → ConnectionEvent

abbrev pub sender_hears : Pair → Option EndpointEvent → Connection → Connection
sender_hears pair None w = w
sender_hears pair (Some what) w = sender_does pair what w

abbrev pub receiver_hears : Pair → Option EndpointEvent → Connection → Connection
receiver_hears pair None w = w
receiver_hears pair (Some what) w = receiver_does pair what w

abbrev pub comes_to_sender : Pair → ℕ → List Command → Connection → Connection
comes_to_sender pair by_peer [] w = w
comes_to_sender pair by_peer (c ∷ rest) w = sender_hears pair (command_comes by_peer c) (record w { to_sender = rest })

abbrev pub comes_to_receiver : Pair → ℕ → List Command → Connection → Connection
comes_to_receiver pair by_peer [] w = w
comes_to_receiver pair by_peer (c ∷ rest) w = receiver_hears pair (command_comes by_peer c) (record w { to_receiver = rest })

abbrev pub text_comes : Pair → List Bool → Text → Connection → Connection
text_comes pair head No_text w = w
text_comes pair head (Away on of_size bits) w = receiver_does pair (EndpointEvent.Text_comes head of_size bits) (record w { text = Here on })
text_comes pair head (Here on) w = w

-- A delivered text is answered by RFNM. One that is not delivered is answered so; it is still
-- unacknowledged, and is sent again.
abbrev pub text_is_answered : Pair → Answer → Text → Connection → Connection
text_is_answered pair Rfnm (Here on) w = sender_does pair (EndpointEvent.Is_answered Rfnm) (record w { text = No_text })
text_is_answered pair Incomplete (Away on of_size bits) w = sender_does pair (EndpointEvent.Is_answered Incomplete) w
text_is_answered pair Dead (Away on of_size bits) w = sender_does pair (EndpointEvent.Is_answered Dead) w
text_is_answered pair how text w = w

abbrev pub occurs : Pair → ConnectionEvent → Connection → Connection
occurs pair (Sender_calls what) w = if is_call what then sender_does pair what w else w
occurs pair (Receiver_calls what) w = if is_call what then receiver_does pair what w else w
occurs pair (Comes_to_sender by_peer) w = if nat_lt by_peer MAX_BY_PEER then comes_to_sender pair by_peer w.to_sender w else w
occurs pair (Comes_to_receiver by_peer) w = if nat_lt by_peer MAX_BY_PEER then comes_to_receiver pair by_peer w.to_receiver w else w
occurs pair Text_goes_out w = sender_does pair EndpointEvent.Text_goes_out w
occurs pair (Text_comes head) w = text_comes pair head w.text w
occurs pair (Text_is_answered how) w = text_is_answered pair how w.text w

-- the arrival is accepted, or late
abbrev pub is_in_order : Outcome → Bool
is_in_order Outcome.Accepted = true
is_in_order Outcome.Admitted = true
is_in_order Outcome.Late = true
is_in_order outcome = false

-- the command has this event, with an outcome in order; a command without an event is never underway
abbrev pub ComesInOrder : Pair → Option EndpointEvent → Option Endpoint → Type 0
ComesInOrder pair None end = ⊥
ComesInOrder pair (Some what) end = is_in_order (happens pair what end).outcome ≡ true

-- the connection after a list of events, in order
abbrev pub occur_from : Pair → List ConnectionEvent → Connection → Connection
occur_from pair [] w = w
occur_from pair (e ∷ more) w = occur_from pair more (occurs pair e w)

abbrev pub occur : Pair → List ConnectionEvent → Connection
occur pair events = occur_from pair events new_connection
