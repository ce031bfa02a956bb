-- Meant for other crates too: they cite what is public here.
--
-- The links of a host move as slots do, and nothing else changes a link.
use Rattle.std.proofs.Common.{◌≡◌, ℕ, ◌+◌, ◌==◌, take, Bool, true, false, if◌then◌else◌, List, [], ◌∷◌, Option, None, Some, refl, sym, ap, ◌∙◌, arith}
use Rattle.std.proofs.lemmas.Bool.{eqb-true}
use Rattle.ncp_wire.specs.declared.command.Command.{Command}
use Rattle.ncp_model.specs.Effect.{answer}
use Rattle.ncp_model.specs.Ends.{cut_in}
use Rattle.ncp_model.specs.Phase.{is_resetting}
use Rattle.ncp_model.specs.Sending.{is_full}
use Rattle.ncp_proof_machine.specs.Delivery.{Slot, Empty, Ready, Travelling, Held, MessageTransit, Free, Accepted, Delivered, Lost, Dead, Link, link_answered, undelivered, idle, out}
use Rattle.ncp_proof_machine.specs.Resets.{is_up, host_resets, ResetWorld, reset_sends}
use Rattle.ncp_proof_machine.specs.Hosts.{Node, TextOut, TwoNodes, base, quiet, set_link, node_cleared, called, happens_at, node_echo_called, node_calls_reset, node_takes_text, node_cuts, node_sends_text, text_answered, control_answered, node_text_comes, message_comes, Calls_reset, Calls, Calls_echo, Falls, Sends, Sends_text, Hears, Hears_text, Loses, Loses_text, Dies, Text_dies, Is_answered, Text_is_answered, Wakes}
use Rattle.ncp_proof_machine.specs.Moving.{link_sent, answered_by, transit_delivered, first_waiting, as_text, ControlMoves, TextsMove, ControlIsHeard, TextsAreHeard}
use Rattle.ncp_proof_machine.proofs.HostsBase.{hears_all-control, hears_all-texts}

-- both nodes have the same links
abbrev Unmoved : Node → Node → Type 0
Unmoved n m = (m.control ≡ n.control) × (m.texts ≡ n.texts)

either : (b : Bool) (n m o : Node) → Unmoved n m → Unmoved n o → Unmoved n (if b then m else o)
either true n m o p q = p
either false n m o p q = q

resetting : (n : Node) → Unmoved n (node_calls_reset n)
resetting n = either (is_resetting n.host.phase) n n (node_cleared (host_resets (quiet n) n.host) n) (refl, refl) (refl, refl)

hearing_text : (on : ℕ) (head : List Bool) (subnet : MessageTransit TextOut) (w : TwoNodes) → Unmoved w.this (node_text_comes on head subnet w).this
hearing_text on head (Accepted t) w = either (is_up w.this.host) w.this (node_takes_text on head t w.this) w.this (refl, refl) (refl, refl)
hearing_text on head Free w = (refl, refl)
hearing_text on head Delivered w = (refl, refl)
hearing_text on head Lost w = (refl, refl)
hearing_text on head Dead w = (refl, refl)

hearing : (subnet : MessageTransit (List Command)) (w : TwoNodes) → Unmoved w.this (message_comes subnet w).this
hearing (Accepted m) w = (hears_all-control m w.this, hears_all-texts m w.this)
hearing Free w = (refl, refl)
hearing Delivered w = (refl, refl)
hearing Lost w = (refl, refl)
hearing Dead w = (refl, refl)

-- The control link.

sending : (slot : Slot (List Command)) (q : List Command) (n : ℕ) (a : ResetWorld) → a.going.slot ≡ slot → a.this.phase.waiting ≡ q → (reset_sends slot q n a).going ≡ link_sent (first_waiting n q) slot a.going.subnet
sending (Ready m) [] n a e f = refl
sending (Ready m) (c ∷ cs) n a e f = refl
sending (Travelling m) [] n a e f = ap (λ (s : Slot (List Command)). (let k : Link (List Command) = record { slot = s; subnet = a.going.subnet } in k)) e
sending (Travelling m) (c ∷ cs) n a e f = ap (λ (s : Slot (List Command)). (let k : Link (List Command) = record { slot = s; subnet = a.going.subnet } in k)) e
sending (Held m) [] n a e f = ap (λ (s : Slot (List Command)). (let k : Link (List Command) = record { slot = s; subnet = a.going.subnet } in k)) e
sending (Held m) (c ∷ cs) n a e f = ap (λ (s : Slot (List Command)). (let k : Link (List Command) = record { slot = s; subnet = a.going.subnet } in k)) e
sending Empty [] n a e f = ap (λ (s : Slot (List Command)). (let k : Link (List Command) = record { slot = s; subnet = a.going.subnet } in k)) e
sending Empty (c ∷ cs) n a e f = ap (λ (cs : List Command). out (take (n + 1) cs)) f

answering : {M : Type 0} (slot : Slot M) (subnet : MessageTransit M) → link_answered slot subnet ≡ answered_by slot subnet
answering slot subnet = grind arith

control-answering : (slot : Slot (List Command)) (subnet : MessageTransit (List Command)) (n : Node) → (control_answered slot subnet n).control ≡ answered_by slot subnet
control-answering (Travelling m) Delivered n = refl
control-answering slot subnet n = answering slot subnet

pub control_moves : ControlMoves
control_moves Calls_reset w = (resetting w.this).0
control_moves (Calls pair call) w = (either (is_up w.this.host) w.this (happens_at pair (called call (is_full w.this.host.phase) w.this.ends) w.this) w.this (refl, refl) (refl, refl)).0
control_moves (Calls_echo byte) w = (either (is_up w.this.host) w.this (node_echo_called byte w.this) w.this (refl, refl) (refl, refl)).0
control_moves Falls w = refl
control_moves (Sends n) w = sending w.this.control.slot w.this.host.phase.waiting n (base w) refl refl
control_moves (Sends_text on) w = text_out on (w.this.texts on).slot
  where
    cutting : (on : ℕ) (o : Option (ℕ × List Bool)) → (node_cuts on o w.this).control ≡ w.this.control
    cutting on None = refl
    cutting on (Some text) = refl

    text_out : (on : ℕ) (slot : Slot TextOut) → (node_sends_text on slot w.this).control ≡ w.this.control
    text_out on Empty = cutting on (answer (cut_in on w.this.ends))
    text_out on (Ready t) = refl
    text_out on (Travelling t) = refl
    text_out on (Held t) = refl
control_moves Hears w = (hearing w.that.control.subnet w).0
control_moves (Hears_text on head) w = (hearing_text on head (w.that.texts on).subnet w).0
control_moves Loses w = refl
control_moves (Loses_text on) w = refl
control_moves Dies w = refl
control_moves (Text_dies on) w = refl
control_moves Is_answered w = control-answering w.this.control.slot w.this.control.subnet w.this
control_moves (Text_is_answered on) w = told on (w.this.texts on).slot (w.this.texts on).subnet
  where
    told : (on : ℕ) (slot : Slot TextOut) (subnet : MessageTransit TextOut) → (text_answered on slot subnet w.this).control ≡ w.this.control
    told on (Travelling t) Delivered = refl
    told on slot subnet = refl
control_moves Wakes w = refl

-- The data links.

-- the link that a step names, and any other
there : (texts : ℕ → Link TextOut) (link on : ℕ) (f : Link TextOut → Link TextOut) (k : Link TextOut) → f (texts link) ≡ k → set_link link k texts on ≡ (if on == link then f (texts on) else texts on)
there texts link on f k e = go (on == link) refl
  where
    go : (b : Bool) → (on == link) ≡ b → (if b then k else texts on) ≡ (if b then f (texts on) else texts on)
    go true q = sym e ∙ ap (λ (i : ℕ). f (texts i)) (sym (eqb-true on link q))
    go false q = refl

-- where the link that it names stays too
nowhere : (texts : ℕ → Link TextOut) (link on : ℕ) (f : Link TextOut → Link TextOut) → f (texts link) ≡ texts link → texts on ≡ (if on == link then f (texts on) else texts on)
nowhere texts link on f e = go (on == link) refl
  where
    go : (b : Bool) → (on == link) ≡ b → texts on ≡ (if b then f (texts on) else texts on)
    go true q = sym (ap (λ (i : ℕ). f (texts i)) (eqb-true on link q) ∙ (e ∙ ap texts (sym (eqb-true on link q))))
    go false q = refl

abbrev sends_on : Option TextOut → Link TextOut → Link TextOut
sends_on o k = link_sent o k.slot k.subnet

abbrev with_slot : Link TextOut → Slot TextOut → Link TextOut
with_slot k s = record { slot = s; subnet = k.subnet }

ready : (o : Option TextOut) (t : TextOut) (k : Link TextOut) → k.slot ≡ Ready t → sends_on o k ≡ out t
ready None t k e = ap (λ (s : Slot TextOut). link_sent None s k.subnet) e
ready (Some u) t k e = ap (λ (s : Slot TextOut). link_sent (Some u) s k.subnet) e

kept : (o : Option TextOut) (s : Slot TextOut) (k : Link TextOut) → k.slot ≡ s → link_sent o s k.subnet ≡ with_slot k s → sends_on o k ≡ k
kept o s k e f = ap (λ (x : Slot TextOut). link_sent o x k.subnet) e ∙ (f ∙ ap (with_slot k) (sym e))

travelling : (o : Option TextOut) (t : TextOut) (b : MessageTransit TextOut) → (link_sent o (Travelling t) b ≡ record { slot = Travelling t; subnet = b }) × (link_sent o (Held t) b ≡ record { slot = Held t; subnet = b })
travelling None t b = (refl, refl)
travelling (Some u) t b = (refl, refl)

cutting_on : (link on : ℕ) (o : Option (ℕ × List Bool)) (n : Node) → (n.texts link).slot ≡ Empty → (node_cuts link o n).texts on ≡ (if on == link then sends_on (as_text o) (n.texts on) else n.texts on)
cutting_on link on None n e = nowhere n.texts link on (sends_on None) (kept None Empty (n.texts link) e refl)
cutting_on link on (Some text) n e =
    let t : TextOut = record { of_size = text.0; bits = text.1 } in
    there n.texts link on (sends_on (Some t)) (out t) (ap (λ (s : Slot TextOut). link_sent (Some t) s (n.texts link).subnet) e)

sending_on : (link on : ℕ) (slot : Slot TextOut) (n : Node) → (n.texts link).slot ≡ slot → (node_sends_text link slot n).texts on ≡ (if on == link then sends_on (as_text (answer (cut_in link n.ends))) (n.texts on) else n.texts on)
sending_on link on Empty n e = cutting_on link on (answer (cut_in link n.ends)) n e
sending_on link on (Ready t) n e = let o = as_text (answer (cut_in link n.ends)) in there n.texts link on (sends_on o) (out t) (ready o t (n.texts link) e)
sending_on link on (Travelling t) n e = let o = as_text (answer (cut_in link n.ends)) in nowhere n.texts link on (sends_on o) (kept o (Travelling t) (n.texts link) e (travelling o t (n.texts link).subnet).0)
sending_on link on (Held t) n e = let o = as_text (answer (cut_in link n.ends)) in nowhere n.texts link on (sends_on o) (kept o (Held t) (n.texts link) e (travelling o t (n.texts link).subnet).1)

abbrev answers_on : Link TextOut → Link TextOut
answers_on k = answered_by k.slot k.subnet

telling_on : (link on : ℕ) (slot : Slot TextOut) (subnet : MessageTransit TextOut) (n : Node) → (n.texts link).slot ≡ slot → (n.texts link).subnet ≡ subnet → (text_answered link slot subnet n).texts on ≡ (if on == link then answers_on (n.texts on) else n.texts on)
telling_on link on (Travelling t) Delivered n e f = there n.texts link on answers_on idle (ap (λ (s : Slot TextOut). answered_by s (n.texts link).subnet) e ∙ ap (answered_by (Travelling t)) f)
telling_on link on slot subnet n e f = there n.texts link on answers_on (link_answered slot subnet) (ap (λ (s : Slot TextOut). answered_by s (n.texts link).subnet) e ∙ (ap (answered_by slot) f ∙ sym (answering slot subnet)))

at : {A : Type 0} {f g : ℕ → A} (on : ℕ) → f ≡ g → f on ≡ g on
at on e = ap (λ h. h on) e

pub texts_move : TextsMove
texts_move Calls_reset w on = at on (resetting w.this).1
texts_move (Calls pair call) w on = at on (either (is_up w.this.host) w.this (happens_at pair (called call (is_full w.this.host.phase) w.this.ends) w.this) w.this (refl, refl) (refl, refl)).1
texts_move (Calls_echo byte) w on = at on (either (is_up w.this.host) w.this (node_echo_called byte w.this) w.this (refl, refl) (refl, refl)).1
texts_move Falls w on = refl
texts_move (Sends n) w on = refl
texts_move (Sends_text link) w on = sending_on link on (w.this.texts link).slot w.this refl
texts_move Hears w on = at on (hearing w.that.control.subnet w).1
texts_move (Hears_text link head) w on = at on (hearing_text link head (w.that.texts link).subnet w).1
texts_move Loses w on = refl
texts_move (Loses_text link) w on = there w.this.texts link on (λ (k : Link TextOut). record k { subnet = undelivered Lost k.subnet }) (record (w.this.texts link) { subnet = undelivered Lost (w.this.texts link).subnet }) refl
texts_move Dies w on = refl
texts_move (Text_dies link) w on = there w.this.texts link on (λ (k : Link TextOut). record k { subnet = undelivered Dead k.subnet }) (record (w.this.texts link) { subnet = undelivered Dead (w.this.texts link).subnet }) refl
texts_move Is_answered w on = at on (told w.this.control.slot w.this.control.subnet)
  where
    told : (slot : Slot (List Command)) (subnet : MessageTransit (List Command)) → (control_answered slot subnet w.this).texts ≡ w.this.texts
    told (Travelling m) Delivered = refl
    told slot subnet = refl
texts_move (Text_is_answered link) w on = telling_on link on (w.this.texts link).slot (w.this.texts link).subnet w.this refl refl
texts_move Wakes w on = refl

-- The other's links.

come : (subnet : MessageTransit (List Command)) (w : TwoNodes) → w.that.control.subnet ≡ subnet → (message_comes subnet w).that.control ≡ record w.that.control { subnet = transit_delivered subnet }
come subnet w e = grind arith

text_come : (subnet : MessageTransit TextOut) (link : ℕ) (head : List Bool) (w : TwoNodes) → (node_text_comes link head subnet w).that.control ≡ w.that.control
text_come subnet link head w = grind arith

pub control_is_heard : ControlIsHeard
control_is_heard Hears w = come w.that.control.subnet w refl
control_is_heard (Hears_text link head) w = text_come (w.that.texts link).subnet link head w
control_is_heard step w = refl

abbrev comes_on : Link TextOut → Link TextOut
comes_on k = record k { subnet = transit_delivered k.subnet }

abbrev with_subnet : Link TextOut → MessageTransit TextOut → Link TextOut
with_subnet k b = record { slot = k.slot; subnet = b }

coming_on : (subnet : MessageTransit TextOut) (link on : ℕ) (head : List Bool) (w : TwoNodes) → (w.that.texts link).subnet ≡ subnet → (node_text_comes link head subnet w).that.texts on ≡ (if on == link then comes_on (w.that.texts on) else w.that.texts on)
coming_on (Accepted t) link on head w e = there w.that.texts link on comes_on (record (w.that.texts link) { subnet = Delivered }) (ap (λ (b : MessageTransit TextOut). with_subnet (w.that.texts link) (transit_delivered b)) e)
coming_on Free link on head w e = nowhere w.that.texts link on comes_on (ap (λ (b : MessageTransit TextOut). with_subnet (w.that.texts link) (transit_delivered b)) e ∙ ap (with_subnet (w.that.texts link)) (sym e))
coming_on Delivered link on head w e = nowhere w.that.texts link on comes_on (ap (λ (b : MessageTransit TextOut). with_subnet (w.that.texts link) (transit_delivered b)) e ∙ ap (with_subnet (w.that.texts link)) (sym e))
coming_on Lost link on head w e = nowhere w.that.texts link on comes_on (ap (λ (b : MessageTransit TextOut). with_subnet (w.that.texts link) (transit_delivered b)) e ∙ ap (with_subnet (w.that.texts link)) (sym e))
coming_on Dead link on head w e = nowhere w.that.texts link on comes_on (ap (λ (b : MessageTransit TextOut). with_subnet (w.that.texts link) (transit_delivered b)) e ∙ ap (with_subnet (w.that.texts link)) (sym e))

messages_come : (subnet : MessageTransit (List Command)) (w : TwoNodes) (on : ℕ) → (message_comes subnet w).that.texts on ≡ w.that.texts on
messages_come subnet w on = grind arith

pub texts_are_heard : TextsAreHeard
texts_are_heard Hears w on = messages_come w.that.control.subnet w on
texts_are_heard (Hears_text link head) w on = coming_on (w.that.texts link).subnet link on head w refl
texts_are_heard step w on = refl
