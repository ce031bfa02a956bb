-- The state of a host of two for its peer, without history variables: each step of the host is a step of
-- that state.
use Rattle.std.specs.Prelude.{◌≡◌, ℕ, ◌+◌, List, [], ◌∷◌, Bool, drop, length}
use Rattle.ncp_wire.specs.declared.command.Command.{Command}
use Rattle.ncp_model.specs.declared.pair.Pair.{Pair}
use Rattle.ncp_wire.specs.declared.links.TheConstants.{FIRST_LINK, DATA_LINKS}
use Rattle.ncp_model.specs.Sending.{next_commands}
use Rattle.ncp_proof_machine.specs.Delivery.{Slot, Empty, Travelling, MessageTransit, Accepted, Delivered, Link, idle, out}
use Rattle.ncp_proof_machine.specs.Resets.{host_falls}
use Rattle.ncp_proof_machine.specs.Hosts.{Node, TextOut, TwoNodes, set_link, all_empty, peer_of, quiet, node_cleared, node_calls, node_calls_echo, node_calls_reset, node_hears, node_hears_all, node_hears_text, node_sends_text, node_frees, node_settles, NodeStep, Calls_reset, Calls, Calls_echo, Falls, Sends, Sends_text, Hears, Hears_text, Is_answered, Text_is_answered, node_steps}
use Rattle.ncp_model.specs.Peers.{Peer, PairCall, calls, calls_echo, calls_reset, cuts, falls, frees, hears, hears_text, peer_sends, settles}

abbrev pub CallsAgree : Type 0
CallsAgree = (pair : Pair) (call : PairCall) (n : Node) → peer_of (node_calls pair call n) ≡ calls pair call (peer_of n)

abbrev pub EchoesAgree : Type 0
EchoesAgree = (byte : ℕ) (n : Node) → peer_of (node_calls_echo byte n) ≡ calls_echo byte (peer_of n)

abbrev pub ResetsAgree : Type 0
ResetsAgree = (n : Node) → peer_of (node_calls_reset n) ≡ calls_reset (quiet n) (peer_of n)

abbrev pub FallsAgree : Type 0
FallsAgree = (n : Node) → peer_of (node_cleared (host_falls n.host) n) ≡ falls (peer_of n)

abbrev pub HearsAgree : Type 0
HearsAgree = (c : Command) (n : Node) → peer_of (node_hears c n) ≡ hears (quiet n) c (peer_of n)

abbrev pub TextsAgree : Type 0
TextsAgree = (on : ℕ) (head : List Bool) (t : TextOut) (n : Node) → peer_of (node_hears_text on head t n) ≡ hears_text on head t.of_size t.bits (peer_of n)

abbrev pub FreesAgree : Type 0
FreesAgree = (on : ℕ) (n : Node) → peer_of (node_frees on n) ≡ frees on (peer_of n)

abbrev pub SettlesAgree : Type 0
SettlesAgree = (n : Node) → peer_of (node_settles n) ≡ settles (quiet n) (peer_of n)

-- a whole message, one command after another
abbrev pub hears_each : Bool → List Command → Peer → Peer
hears_each quiet [] p = p
hears_each quiet (c ∷ cs) p = hears_each quiet cs (hears quiet c p)

abbrev pub HearingAgrees : Type 0
HearingAgrees = (cs : List Command) (n : Node) → peer_of (node_hears_all cs n) ≡ hears_each (quiet n) cs (peer_of n)

-- a text is cut only if its link has none; sending a ready one again leaves the sender unchanged
abbrev pub cuts_where : Slot TextOut → ℕ → Peer → Peer
cuts_where Empty on p = cuts on p
cuts_where slot on p = p

abbrev pub CutsAgree : Type 0
CutsAgree = (on : ℕ) (slot : Slot TextOut) (n : Node) → peer_of (node_sends_text on slot n) ≡ cuts_where slot on (peer_of n)

-- The control message sent takes the commands of the host's next message, if the step gives their number.
abbrev pub SendsAgree : Type 0
SendsAgree = (n : ℕ) (w : TwoNodes) → w.this.control.slot ≡ Empty → n + 1 ≡ length (next_commands w.this.host.phase.waiting)
    → (peer_of (node_steps (Sends n) w).this ≡ peer_sends (peer_of w.this)) × ((node_steps (Sends n) w).this.control ≡ out (next_commands w.this.host.phase.waiting))

-- The links of a host, besides its state for its peer.

pub record Links : Type 0 where
  pub control : Link (List Command)
  pub texts : ℕ → Link TextOut

abbrev pub links_of : Node → Links
links_of n = record { control = n.control; texts = n.texts }

-- links 2 to 71
abbrev pub are_quiet : Links → Bool
are_quiet k = all_empty k.texts DATA_LINKS FIRST_LINK

-- The host's state for its peer after each step, given its own links and those of the other.

abbrev pub takes_commands : Slot (List Command) → ℕ → Peer → Peer
takes_commands Empty n p = record p { phase = record p.phase { waiting = drop (n + 1) p.phase.waiting } }
takes_commands slot n p = p

abbrev pub hears_message : MessageTransit (List Command) → Bool → Peer → Peer
hears_message (Accepted m) quiet p = hears_each quiet m p
hears_message subnet quiet p = p

abbrev pub hears_coming : ℕ → List Bool → MessageTransit TextOut → Peer → Peer
hears_coming on head (Accepted t) p = hears_text on head t.of_size t.bits p
hears_coming on head subnet p = p

abbrev pub control_taken : Slot (List Command) → MessageTransit (List Command) → Bool → Peer → Peer
control_taken (Travelling m) Delivered quiet p = settles quiet p
control_taken slot subnet quiet p = p

abbrev pub text_taken : ℕ → Slot TextOut → MessageTransit TextOut → Bool → Peer → Peer
text_taken on (Travelling t) Delivered quiet p = settles quiet (frees on p)
text_taken on slot subnet quiet p = p

abbrev pub peer_after : NodeStep → Links → Links → Peer → Peer
peer_after Calls_reset own others p = calls_reset (are_quiet own) p
peer_after (Calls pair call) own others p = calls pair call p
peer_after (Calls_echo byte) own others p = calls_echo byte p
peer_after Falls own others p = falls p
peer_after (Sends n) own others p = takes_commands own.control.slot n p
peer_after (Sends_text on) own others p = cuts_where (own.texts on).slot on p
peer_after Hears own others p = hears_message others.control.subnet (are_quiet own) p
peer_after (Hears_text on head) own others p = hears_coming on head (others.texts on).subnet p
peer_after Is_answered own others p = control_taken own.control.slot own.control.subnet (are_quiet own) p
peer_after (Text_is_answered on) own others p =
    text_taken on (own.texts on).slot (own.texts on).subnet (are_quiet (record own { texts = set_link on idle own.texts })) p
peer_after step own others p = p

abbrev pub StepsAgree : Type 0
StepsAgree = (step : NodeStep) (w : TwoNodes) → peer_of (node_steps step w).this ≡ peer_after step (links_of w.this) (links_of w.that) (peer_of w.this)

-- no step of a host changes the other's state
abbrev pub OtherNodeStays : Type 0
OtherNodeStays = (step : NodeStep) (w : TwoNodes) → peer_of (node_steps step w).that ≡ peer_of w.that
