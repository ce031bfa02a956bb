-- Two hosts with their connections, and the links between them: all possible events. Each step is defined
-- once, for "this host" and "that host". Every rule is one of an end, of a phase, or of a message on a
-- link.
use Rattle.std.specs.Prelude.{ℕ, zero, suc, ◌==◌, Bool, true, false, ◌&&◌, ◌||◌, if◌then◌else◌, List, [], ◌∷◌, Option, None, Some}
use Rattle.std.specs.FinMap.{FinMap, empty, get, insert}
use Rattle.ncp_wire.specs.declared.command.Command.{Command}
use Rattle.ncp_wire.specs.declared.command.Command.TheVariants.{Rst, Rrp}
use Rattle.ncp_model.specs.declared.pair.Pair.{Pair}
use Rattle.ncp_wire.specs.declared.links.TheConstants.{FIRST_LINK, DATA_LINKS}
use Rattle.ncp_model.specs.Pairs.{pair_cmp}
use Rattle.ncp_model.specs.Endpoint.{Endpoint}
use Rattle.ncp_model.specs.Effect.{answer, made_if_any, made_by_call}
use Rattle.ncp_model.specs.Texts.{made_by_text, Rfnm}
use Rattle.ncp_model.specs.Ends.{Ends, sender_on, receiver_on, pair_of, demux_command, hear, text_in, cut_in, answered_in, map_after_at, no_ends, put}
use Rattle.ncp_model.specs.EndpointEvents.{EndpointEvent, Transition, happens, of_hearing, outcome_of_text, is_violation}
use Rattle.ncp_model.specs.Demux.{comes}
use Rattle.ncp_proof_endpoint.specs.Histories.{PairHistory, no_past, adds, opens, reopened}
use Rattle.ncp_model.specs.Echo.{Echoes, no_echoes, echo_answer, echo_asked, purge_echo}
use Rattle.ncp_model.specs.Phase.{new_phase, is_resetting, Reaction}
use Rattle.ncp_model.specs.Sending.{is_full}
use Rattle.ncp_model.specs.Peers.{Peer, kept, kept_echoes, reaction}
pub use Rattle.ncp_model.specs.Peers.{PairCall, Ask_to_send, Ask_to_receive, Close, Give, Take, Allocate, Call_back, Interrupt, called, is_full_up, echo_replies, echoes_after}
pub use Rattle.ncp_slot.specs.Slot.{is_empty}
use Rattle.ncp_proof_machine.specs.Delivery.{Slot, Empty, Ready, Travelling, Held, MessageTransit, Accepted, Delivered, Lost, Dead, Link, idle, out, undelivered, link_answered, woken}
use Rattle.ncp_proof_machine.specs.Resets.{ResetHost, is_up, anew, host_resets, host_settles, host_falls, host_makes_all, host_hears, Party, ResetStep, ResetWorld, reset_steps}

-- the text of a message on a data link
pub record TextOut : Type 0 where
  pub of_size : ℕ
  pub bits : List Bool

-- the histories of all pairs
abbrev pub Pasts : Type 0
Pasts = FinMap pair_cmp PairHistory

abbrev pub or_no_past : Option PairHistory → PairHistory
or_no_past None = no_past
or_no_past (Some past) = past

abbrev pub past_of : Pasts → Pair → PairHistory
past_of pasts pair = or_no_past (get pasts pair)

pub record Node : Type 0 where
  pub host : ResetHost  -- its phase, and the commands queued, made and received
  pub ends : Ends
  pub echoes : Echoes
  pub control : Link (List Command)  -- its control message, unacknowledged
  pub texts : ℕ → Link TextOut  -- on each data link, its unacknowledged text
  pub pasts : Pasts  -- a history variable, as the next
  pub violated : Bool  -- an ERR was made, or a text refused as one that the peer may not send

abbrev pub new_node : Node
new_node = record { host = anew new_phase; ends = no_ends; echoes = no_echoes; control = idle; texts = λ _. idle; pasts = empty; violated = false }

-- Data links are quiet if on each of them the last text sent, if any, was acknowledged.

unfoldable pub all_empty : (ℕ → Link TextOut) → ℕ → ℕ → Bool
all_empty texts zero from = true
all_empty texts (suc many) from = is_empty (texts from).slot && all_empty texts many (suc from)

-- links 2 to 71
abbrev pub quiet : Node → Bool
quiet n = all_empty n.texts DATA_LINKS FIRST_LINK

abbrev pub set_link : ℕ → Link TextOut → (ℕ → Link TextOut) → ℕ → Link TextOut
set_link on link texts k = if k == on then link else texts k

-- A clearing removes all ends, and ends the echo. Unacknowledged texts stay on the data links.

abbrev pub node_cleared : ResetHost → Node → Node
node_cleared h n = record n { host = h; ends = no_ends; echoes = purge_echo n.echoes }

-- the ends of a host that made commands: these, or none if it has gone down meanwhile
abbrev pub node_kept : ResetHost → Ends → Ends
node_kept h m = kept h.phase m

abbrev pub node_kept_echoes : ResetHost → Echoes → Echoes
node_kept_echoes h s = kept_echoes h.phase s

-- the history of a pair after an event
abbrev pub past_after : Option Endpoint → EndpointEvent → Transition → PairHistory → PairHistory
past_after before what did past = adds what did.outcome (if opens before did.after then reopened past else past)

abbrev pub pasts_after : Pair → EndpointEvent → Ends → Pasts → Pasts
pasts_after pair what m pasts = insert pasts pair (past_after (get m pair) what (happens pair what (get m pair)) (past_of pasts pair))

-- the histories after an event on the pair that a look-up found, if any
abbrev pub pasts_after_at : Option Pair → Option EndpointEvent → Ends → Pasts → Pasts
pasts_after_at (Some pair) (Some what) m pasts = pasts_after pair what m pasts
pasts_after_at pair what m pasts = pasts

-- A user's calls, while the host is up. A call may look up the other ends and the queued commands.

abbrev pub happens_at : Pair → EndpointEvent → Node → Node
happens_at pair what n =
    let did : Transition = happens pair what (get n.ends pair) in
    let host : ResetHost = host_makes_all did.made n.host in
    record n {
      host = host;
      ends = node_kept host (put n.ends pair did.after);
      echoes = node_kept_echoes host n.echoes;
      pasts = pasts_after pair what n.ends n.pasts;
      violated = n.violated || is_violation did.outcome;
    }

abbrev pub node_calls : Pair → PairCall → Node → Node
node_calls pair call n = if is_up n.host then happens_at pair (called call (is_full n.host.phase) n.ends) n else n

abbrev pub node_echo_called : ℕ → Node → Node
node_echo_called byte n =
    let host : ResetHost = host_makes_all (made_by_call (echo_answer byte (is_full n.host.phase) n.echoes)) n.host in
    record n { host = host; ends = node_kept host n.ends; echoes = node_kept_echoes host (echo_asked (is_full n.host.phase) n.echoes) }

abbrev pub node_calls_echo : ℕ → Node → Node
node_calls_echo byte n = if is_up n.host then node_echo_called byte n else n

abbrev pub node_calls_reset : Node → Node
node_calls_reset n = if is_resetting n.host.phase then n else node_cleared (host_resets (quiet n) n.host) n

-- A command received. A command that names a link acts on the end that the link identifies.

-- a host's state for its peer, without history variables: its phase, ends and echo
abbrev pub peer_of : Node → Peer
peer_of n = record { phase = n.host.phase; ends = n.ends; echoes = n.echoes }

abbrev pub node_reaction : Command → Node → Reaction
node_reaction c n = reaction (quiet n) c (peer_of n)

abbrev pub node_hears_other : Command → Node → Node
node_hears_other c n =
    let host : ResetHost = host_hears c (node_reaction c n) n.host in
    record n {
      host = host;
      ends = node_kept host (map_after_at n.ends (demux_command c n.ends) (hear c n.ends));
      echoes = node_kept_echoes host (echoes_after c n.echoes);
      pasts = pasts_after_at (demux_command c n.ends) (comes c n.ends) n.ends n.pasts;
      violated = n.violated || is_violation (of_hearing (answer (hear c n.ends)));
    }

abbrev pub node_hears : Command → Node → Node
node_hears Rst n = node_cleared (host_hears Rst (node_reaction Rst n) n.host) n
node_hears Rrp n = record n { host = host_hears Rrp (node_reaction Rrp n) n.host }
node_hears c n = if is_up n.host then node_hears_other c n else n

abbrev pub node_hears_all : List Command → Node → Node
node_hears_all [] n = n
node_hears_all (c ∷ cs) n = node_hears_all cs (node_hears c n)

-- A text received on a link, with its leader and prefix. It is dropped while the host is not up.

abbrev pub node_takes_text : ℕ → List Bool → TextOut → Node → Node
node_takes_text on head t n =
    let took = text_in on t.of_size t.bits n.ends in
    let host : ResetHost = host_makes_all (made_by_text head t.bits (answer took)) n.host in
    record n {
      host = host;
      ends = node_kept host (map_after_at n.ends (pair_of (receiver_on on n.ends)) took);
      echoes = node_kept_echoes host n.echoes;
      pasts = pasts_after_at (pair_of (receiver_on on n.ends)) (Some (EndpointEvent.Text_comes head t.of_size t.bits)) n.ends n.pasts;
      violated = n.violated || is_violation (outcome_of_text (answer took));
    }

abbrev pub node_hears_text : ℕ → List Bool → TextOut → Node → Node
node_hears_text on head t n = if is_up n.host then node_takes_text on head t n else n

-- A text is sent: one that is ready, or one cut from the stored text of an open sender on the link.

abbrev pub node_goes_out : ℕ → TextOut → Node → Node
node_goes_out on t n = record n { texts = set_link on (out t) n.texts }

abbrev pub node_cuts : ℕ → Option (ℕ × List Bool) → Node → Node
node_cuts on None n = n
node_cuts on (Some text) n =
    node_goes_out on (record { of_size = text.0; bits = text.1 }) (record n { ends = map_after_at n.ends (pair_of (sender_on on n.ends)) (cut_in on n.ends) })

abbrev pub node_sends_text : ℕ → Slot TextOut → Node → Node
node_sends_text on Empty n = node_cuts on (answer (cut_in on n.ends)) n
node_sends_text on (Ready t) n = node_goes_out on t n
node_sends_text on (Travelling t) n = n
node_sends_text on (Held t) n = n

-- The answer to a text. An RFNM frees the sender, while the host is up; a leaving sender makes its CLS;
-- then the host settles.

abbrev pub node_settles : Node → Node
node_settles n = record n { host = host_settles (quiet n) n.host }

abbrev pub node_frees : ℕ → Node → Node
node_frees on n =
    let act = answered_in on Rfnm n.ends in
    let host : ResetHost = host_makes_all (made_if_any (answer act)) n.host in
    record n {
      host = host;
      ends = if is_up n.host then node_kept host (map_after_at n.ends (pair_of (sender_on on n.ends)) act) else n.ends;
      echoes = if is_up n.host then node_kept_echoes host n.echoes else n.echoes;
      texts = set_link on idle n.texts;
    }

abbrev pub text_answered : ℕ → Slot TextOut → MessageTransit TextOut → Node → Node
text_answered on (Travelling t) Delivered n = node_settles (node_frees on n)
text_answered on slot s n = record n { texts = set_link on (link_answered slot s) n.texts }

-- the answer to a control message; after an RFNM the host settles
abbrev pub control_answered : Slot (List Command) → MessageTransit (List Command) → Node → Node
control_answered (Travelling m) Delivered n = node_settles (record n { control = idle })
control_answered slot s n = record n { control = link_answered slot s }

pub record TwoNodes : Type 0 where
  pub this : Node
  pub that : Node

abbrev pub nodes_swapped : TwoNodes → TwoNodes
nodes_swapped w = record { this = w.that; that = w.this }

-- the hosts, their queues and control links only
abbrev pub base : TwoNodes → ResetWorld
base w = record { this = w.this.host; that = w.that.host; going = w.this.control; coming = w.that.control }

-- a step of the control link from this host
abbrev pub node_moved : ResetWorld → Node → Node
node_moved b n = record n { host = b.this; control = b.going }

abbrev pub undelivered_text : MessageTransit TextOut → ℕ → Node → Node
undelivered_text as_what on n = record n { texts = set_link on (record (n.texts on) { subnet = undelivered as_what (n.texts on).subnet }) n.texts }

-- a text is delivered, and heard
abbrev pub node_text_comes : ℕ → List Bool → MessageTransit TextOut → TwoNodes → TwoNodes
node_text_comes on head (Accepted t) w = record {
  this = node_hears_text on head t w.this;
  that = record w.that { texts = set_link on (record (w.that.texts on) { subnet = Delivered }) w.that.texts };
}
node_text_comes on head subnet w = w

-- a control message is delivered, and heard
abbrev pub message_comes : MessageTransit (List Command) → TwoNodes → TwoNodes
message_comes (Accepted m) w = record {
  this = node_hears_all m w.this;
  that = record w.that { control = record w.that.control { subnet = Delivered } };
}
message_comes subnet w = w

-- a step of this host
pub data NodeStep : Type 0 where
  Calls_reset : NodeStep
  Calls : (pair : Pair) → (call : PairCall) → NodeStep
  Calls_echo : (byte : ℕ) → NodeStep
  Falls : NodeStep
  Sends : (n : ℕ) → NodeStep  -- the ready control message, or the first n + 1 queued commands
  Sends_text : (on : ℕ) → NodeStep
  Hears : NodeStep  -- the control message in flight to it
  Hears_text : (on : ℕ) → (head : List Bool) → NodeStep  -- the text in flight to it, with this leader and prefix
  Loses : NodeStep  -- the subnet loses its control message in flight
  Loses_text : (on : ℕ) → NodeStep
  Dies : NodeStep  -- its destination is dead
  Text_dies : (on : ℕ) → NodeStep
  Is_answered : NodeStep
  Text_is_answered : (on : ℕ) → NodeStep
  Wakes : NodeStep  -- the user asks for all held messages

abbrev pub node_steps : NodeStep → TwoNodes → TwoNodes
node_steps Calls_reset w = record w { this = node_calls_reset w.this }
node_steps (Calls pair call) w = record w { this = node_calls pair call w.this }
node_steps (Calls_echo byte) w = record w { this = node_calls_echo byte w.this }
node_steps Falls w = record w { this = node_cleared (host_falls w.this.host) w.this }
node_steps (Sends n) w = record w { this = node_moved (reset_steps (ResetStep.Sends n) (base w)) w.this }
node_steps (Sends_text on) w = record w { this = node_sends_text on (w.this.texts on).slot w.this }
node_steps Hears w = message_comes w.that.control.subnet w
node_steps (Hears_text on head) w = node_text_comes on head (w.that.texts on).subnet w
node_steps Loses w = record w { this = node_moved (reset_steps ResetStep.Loses (base w)) w.this }
node_steps (Loses_text on) w = record w { this = undelivered_text Lost on w.this }
node_steps Dies w = record w { this = node_moved (reset_steps ResetStep.Dies (base w)) w.this }
node_steps (Text_dies on) w = record w { this = undelivered_text Dead on w.this }
node_steps Is_answered w = record w { this = control_answered w.this.control.slot w.this.control.subnet w.this }
node_steps (Text_is_answered on) w = record w { this = text_answered on (w.this.texts on).slot (w.this.texts on).subnet w.this }
node_steps Wakes w = record w {
  this = record w.this {
    control = record w.this.control { slot = woken w.this.control.slot };
    texts = λ on. record { slot = woken (w.this.texts on).slot; subnet = (w.this.texts on).subnet };
  };
}

pub record NodeEvent : Type 0 where
  pub side : Party
  pub step : NodeStep

abbrev pub node_at : Party → NodeStep → TwoNodes → TwoNodes
node_at Party.This step w = node_steps step w
node_at Party.That step w = nodes_swapped (node_steps step (nodes_swapped w))

abbrev pub run_from : List NodeEvent → TwoNodes → TwoNodes
run_from [] w = w
run_from (e ∷ es) w = run_from es (node_at e.side e.step w)

abbrev pub start : TwoNodes
start = record { this = new_node; that = new_node }

-- a whole schedule
abbrev pub run : List NodeEvent → TwoNodes
run es = run_from es start
