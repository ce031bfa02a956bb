-- A measure of the message events two hosts can still cause. A message that is not sent yet counts three:
-- for its sending, its delivery and its answer.
use Rattle.std.specs.Prelude.{◌≡◌, ℕ, zero, suc, ◌+◌, ◌*◌, ◌≤◌, Bool, true, false, List, [], ◌∷◌, Option, None, Some}
use Rattle.std.specs.FinMap.{get}
use Rattle.ncp_wire.specs.declared.command.Command.{Command}
use Rattle.ncp_wire.specs.declared.links.TheConstants.{FIRST_LINK, DATA_LINKS}
use Rattle.ncp_model.specs.Effect.{answer, is_data_link}
use Rattle.ncp_model.specs.Ends.{cut_in}
use Rattle.ncp_slot.specs.Slot.{ready_message}
use Rattle.ncp_proof_machine.specs.Delivery.{Slot, Empty, Ready, Travelling, Held, MessageTransit, Free, Accepted, Delivered, Lost, Dead, Link, answer_of_transit}
use Rattle.ncp_proof_machine.specs.Resets.{Party, This, That}
use Rattle.ncp_proof_machine.specs.Hosts.{TextOut, Node, TwoNodes, nodes_swapped, NodeEvent, node_at, node_steps, peer_of, NodeStep, Calls_reset, Calls, Calls_echo, Sends, Sends_text, Hears, Hears_text, Loses, Loses_text, Dies, Text_dies, Is_answered, Text_is_answered, Wakes}
use Rattle.ncp_proof_machine.specs.Moving.{put_if_any, first_waiting, as_text}
use Rattle.ncp_proof_progress.specs.Work.{causes_all, peer_work, call_budget}

-- the messages a text causes when it arrives: an ERR may answer it
abbrev pub text_causes : TextOut → ℕ
text_causes t = 1

-- A message on its link is sent, delivered, and answered. A held message is woken first; a lost one, or
-- one to a dead destination, is answered and starts again.
abbrev pub message_work : {M : Type 0} → (M → ℕ) → Slot M → MessageTransit M → ℕ
message_work r Empty s = 0
message_work r (Ready m) s = 3 + 3 * r m
message_work r (Held m) s = 4 + 3 * r m
message_work r (Travelling m) (Accepted c) = 2 + 3 * r c
message_work r (Travelling m) Delivered = 1
message_work r (Travelling m) Lost = 4 + 3 * r m
message_work r (Travelling m) Dead = 5 + 3 * r m
message_work r (Travelling m) Free = 0

abbrev pub control_work : Link (List Command) → ℕ
control_work k = message_work causes_all k.slot k.subnet

abbrev pub text_work : Link TextOut → ℕ
text_work k = message_work text_causes k.slot k.subnet

-- the work of `many` links, beginning at `from`
unfoldable pub texts_work : (ℕ → Link TextOut) → ℕ → ℕ → ℕ
texts_work texts zero from = 0
texts_work texts (suc many) from = text_work (texts from) + texts_work texts many (suc from)

abbrev pub node_work : Node → ℕ
node_work n = 3 * peer_work (peer_of n) + control_work n.control + texts_work n.texts DATA_LINKS FIRST_LINK

abbrev pub work : TwoNodes → ℕ
work w = node_work w.this + node_work w.that

-- slot and subnet fit: the subnet has the message that travels, and no other
abbrev pub SlotFits : {M : Type 0} → Slot M → MessageTransit M → Type 0
SlotFits (Travelling m) (Accepted c) = c ≡ m
SlotFits (Travelling m) Delivered = Unit {0}
SlotFits (Travelling m) Lost = Unit {0}
SlotFits (Travelling m) Dead = Unit {0}
SlotFits (Travelling m) Free = ⊥
SlotFits slot Free = Unit {0}
SlotFits slot s = ⊥

abbrev pub NodeFits : Node → Type 0
NodeFits n = record { control : SlotFits n.control.slot n.control.subnet; texts : (on : ℕ) → SlotFits (n.texts on).slot (n.texts on).subnet }

-- texts use links 2 to 71
abbrev pub IsOnDataLink : NodeStep → Type 0
IsOnDataLink (Sends_text on) = is_data_link on ≡ true
IsOnDataLink (Hears_text on head) = is_data_link on ≡ true
IsOnDataLink (Loses_text on) = is_data_link on ≡ true
IsOnDataLink (Text_dies on) = is_data_link on ≡ true
IsOnDataLink (Text_is_answered on) = is_data_link on ≡ true
IsOnDataLink step = Unit {0}

-- the messages that a step moves: at most one, and for a wake as many as are held

abbrev pub one_if_any : {A : Type 0} → Option A → ℕ
one_if_any None = 0
one_if_any (Some a) = 1

abbrev pub one_if_accepted : {M : Type 0} → MessageTransit M → ℕ
one_if_accepted (Accepted m) = 1
one_if_accepted s = 0

abbrev pub one_if_told : {M : Type 0} → Slot M → MessageTransit M → ℕ
one_if_told (Travelling m) s = one_if_any (answer_of_transit s)
one_if_told slot s = 0

abbrev pub one_if_held : {M : Type 0} → Slot M → ℕ
one_if_held (Held m) = 1
one_if_held slot = 0

-- the number of held texts on `many` links, beginning at `from`
unfoldable pub held_texts : (ℕ → Link TextOut) → ℕ → ℕ → ℕ
held_texts texts zero from = 0
held_texts texts (suc many) from = one_if_held (texts from).slot + held_texts texts many (suc from)

abbrev pub moved : NodeStep → TwoNodes → ℕ
moved (Sends n) w = one_if_any (ready_message (put_if_any (first_waiting n w.this.host.phase.waiting) w.this.control.slot))
moved (Sends_text on) w = one_if_any (ready_message (put_if_any (as_text (answer (cut_in on w.this.ends))) (w.this.texts on).slot))
moved Hears w = one_if_accepted w.that.control.subnet
moved (Hears_text on head) w = one_if_accepted (w.that.texts on).subnet
moved Loses w = one_if_accepted w.this.control.subnet
moved (Loses_text on) w = one_if_accepted (w.this.texts on).subnet
moved Dies w = one_if_accepted w.this.control.subnet
moved (Text_dies on) w = one_if_accepted (w.this.texts on).subnet
moved Is_answered w = one_if_told w.this.control.slot w.this.control.subnet
moved (Text_is_answered on) w = one_if_told (w.this.texts on).slot (w.this.texts on).subnet
moved Wakes w = one_if_held w.this.control.slot + held_texts w.this.texts DATA_LINKS FIRST_LINK
moved step w = 0

-- the work that a step may add
abbrev pub allows : NodeStep → TwoNodes → ℕ
allows Calls_reset w = 6
allows (Calls pair call) w = 3 * call_budget call (get w.this.ends pair)
allows (Calls_echo byte) w = 6
allows Loses w = 3 * one_if_accepted w.this.control.subnet
allows (Loses_text on) w = 3 * one_if_accepted (w.this.texts on).subnet
allows Dies w = 4 * one_if_accepted w.this.control.subnet
allows (Text_dies on) w = 4 * one_if_accepted (w.this.texts on).subnet
allows step w = 0

abbrev pub BothFit : TwoNodes → Type 0
BothFit w = record { this : NodeFits w.this; that : NodeFits w.that }

-- the work after a step, plus its moves, is at most the work before it, plus its allowance
abbrev pub StepPaid : NodeStep → TwoNodes → Type 0
StepPaid step w = work (node_steps step w) + moved step w ≤ work w + allows step w

-- over a whole schedule: the messages moved, and the work that calls, losses and dead destinations may
-- add

abbrev pub moved_at : Party → NodeStep → TwoNodes → ℕ
moved_at This step w = moved step w
moved_at That step w = moved step (nodes_swapped w)

abbrev pub allows_at : Party → NodeStep → TwoNodes → ℕ
allows_at This step w = allows step w
allows_at That step w = allows step (nodes_swapped w)

unfoldable pub messages_moved : List NodeEvent → TwoNodes → ℕ
messages_moved [] w = 0
messages_moved (e ∷ es) w = moved_at e.side e.step w + messages_moved es (node_at e.side e.step w)

unfoldable pub messages_allowed : List NodeEvent → TwoNodes → ℕ
messages_allowed [] w = 0
messages_allowed (e ∷ es) w = allows_at e.side e.step w + messages_allowed es (node_at e.side e.step w)

abbrev pub AllOnLinks : List NodeEvent → Type 0
AllOnLinks [] = Unit {0}
AllOnLinks (e ∷ es) = IsOnDataLink e.step × AllOnLinks es

-- the steps of messages, except a wake
abbrev pub is_of_messages : NodeStep → Bool
is_of_messages (Sends n) = true
is_of_messages (Sends_text on) = true
is_of_messages Hears = true
is_of_messages (Hears_text on head) = true
is_of_messages Loses = true
is_of_messages (Loses_text on) = true
is_of_messages Dies = true
is_of_messages (Text_dies on) = true
is_of_messages Is_answered = true
is_of_messages (Text_is_answered on) = true
is_of_messages step = false

-- this host's state for its peer, and the links of both, are unchanged
abbrev pub Stays : TwoNodes → TwoNodes → Type 0
Stays x w = record {
  peer : peer_of x.this ≡ peer_of w.this;
  control : x.this.control ≡ w.this.control;
  texts : (on : ℕ) → x.this.texts on ≡ w.this.texts on;
  coming : x.that.control ≡ w.that.control;
  coming_texts : (on : ℕ) → x.that.texts on ≡ w.that.texts on;
}
