-- A step of messages that moves none changes nothing.
use Rattle.std.proofs.Common.{◌≡◌, ℕ, ◌+◌, ◌*◌, ◌==◌, Bool, true, false, cond, List, [], ◌∷◌, drop, Option, Some, None, refl, sym, ap, subst, ◌∙◌, add-one, arith}
use Rattle.std.proofs.lemmas.Bool.{eqb-true}
use Rattle.ncp_wire.specs.declared.command.Command.{Command}
use Rattle.ncp_model.specs.declared.pair.Pair.{Pair}
use Rattle.ncp_model.specs.Endpoint.{Endpoint}
use Rattle.ncp_model.specs.Effect.{answer, Effect}
use Rattle.ncp_model.specs.Ends.{Ends, sender_on, pair_of, cut_at, cut_in, map_after_at}
use Rattle.ncp_model.specs.Texts.{can_send, cut_bits, bytes_to_send}
use Rattle.ncp_model.specs.Peers.{Peer, cuts}
use Rattle.ncp_slot.specs.Slot.{ready_message}
use Rattle.ncp_proof_machine.specs.Delivery.{Slot, Empty, Ready, Travelling, Held, MessageTransit, Free, Accepted, Delivered, Lost, Dead, Link, undelivered}
use Rattle.ncp_proof_machine.specs.Hosts.{TextOut, TwoNodes, peer_of, NodeStep, Sends, Sends_text, Hears, Hears_text, Loses, Loses_text, Dies, Text_dies, Is_answered, Text_is_answered, node_steps}
use Rattle.ncp_proof_machine.specs.Seen.{takes_commands, cuts_where, hears_message, hears_coming, control_taken, text_taken, peer_after, links_of}
use Rattle.ncp_proof_machine.specs.Moving.{put_if_any, first_waiting, as_text, link_sent, control_link_after, text_link_after, control_heard, text_heard, answered_by, transit_delivered}
use Rattle.ncp_proof_machine.proofs.Seeing.{steps_agree}
use Rattle.ncp_proof_machine.proofs.Moves.{control_moves, texts_move, control_is_heard, texts_are_heard}
use Rattle.ncp_proof_progress.specs.HostsWork.{moved, one_if_any, one_if_accepted, one_if_told, is_of_messages, Stays}

abbrev same : {M : Type 0} → Slot M → MessageTransit M → Link M
same slot s = record { slot = slot; subnet = s }

sent-still : {M : Type 0} (m : Option M) (slot : Slot M) (s : MessageTransit M) → one_if_any (ready_message (put_if_any m slot)) ≡ 0 → link_sent m slot s ≡ record { slot = slot; subnet = s }
sent-still None Empty s e = refl
sent-still (Some m) Empty s e = absurd (omega (arith, e))
sent-still None (Ready k) s e = absurd (omega (arith, e))
sent-still (Some m) (Ready k) s e = absurd (omega (arith, e))
sent-still None (Travelling k) s e = refl
sent-still (Some m) (Travelling k) s e = refl
sent-still None (Held k) s e = refl
sent-still (Some m) (Held k) s e = refl

told-still : {M : Type 0} (slot : Slot M) (s : MessageTransit M) → one_if_told slot s ≡ 0 → answered_by slot s ≡ record { slot = slot; subnet = s }
told-still (Travelling k) Free e = refl
told-still (Travelling k) (Accepted m) e = refl
told-still (Travelling k) Delivered e = absurd (omega (arith, e))
told-still (Travelling k) Lost e = absurd (omega (arith, e))
told-still (Travelling k) Dead e = absurd (omega (arith, e))
told-still Empty Free e = refl
told-still Empty (Accepted m) e = refl
told-still Empty Delivered e = refl
told-still Empty Lost e = refl
told-still Empty Dead e = refl
told-still (Ready k) Free e = refl
told-still (Ready k) (Accepted m) e = refl
told-still (Ready k) Delivered e = refl
told-still (Ready k) Lost e = refl
told-still (Ready k) Dead e = refl
told-still (Held k) Free e = refl
told-still (Held k) (Accepted m) e = refl
told-still (Held k) Delivered e = refl
told-still (Held k) Lost e = refl
told-still (Held k) Dead e = refl

failed-still : {M : Type 0} (as_what s : MessageTransit M) → one_if_accepted s ≡ 0 → undelivered as_what s ≡ s
failed-still as_what (Accepted m) e = absurd (omega (arith, e))
failed-still as_what Free e = refl
failed-still as_what Delivered e = refl
failed-still as_what Lost e = refl
failed-still as_what Dead e = refl

come-still : {M : Type 0} (s : MessageTransit M) → one_if_accepted s ≡ 0 → transit_delivered s ≡ s
come-still (Accepted m) e = absurd (omega (arith, e))
come-still Free e = refl
come-still Delivered e = refl
come-still Lost e = refl
come-still Dead e = refl

no-cut : (on : ℕ) (m : Ends) → answer (cut_in on m) ≡ None → map_after_at m (pair_of (sender_on on m)) (cut_in on m) ≡ m
no-cut on m e = go (sender_on on m) e
  where
    at : (p : Pair × Endpoint) (b : Bool) → answer (cond b (cut_bits (bytes_to_send p.1 * p.1.size) p.1) (Effect.Stays None)) ≡ None → map_after_at m (Some p.0) (cond b (cut_bits (bytes_to_send p.1 * p.1.size) p.1) (Effect.Stays None)) ≡ m
    at p true e = absurd (cc e)
    at p false e = refl

    go : (o : Option (Pair × Endpoint)) → answer (cut_at o) ≡ None → map_after_at m (pair_of o) (cut_at o) ≡ m
    go None e = refl
    go (Some p) e = at p (can_send p.0 p.1) e

-- what this host keeps

taken-still : (slot : Slot (List Command)) (n : ℕ) (q : List Command) (p : Peer) → p.phase.waiting ≡ q → one_if_any (ready_message (put_if_any (first_waiting n q) slot)) ≡ 0 → takes_commands slot n p ≡ p
taken-still Empty n [] p w e =
    let f : drop (n + 1) p.phase.waiting ≡ p.phase.waiting = ap (drop (n + 1)) w ∙ ap (λ (i : ℕ). drop {A = Command} i []) (add-one n) ∙ sym w in
    ap (λ (cs : List Command). (let r : Peer = record p { phase = record p.phase { waiting = cs } } in r)) f
taken-still Empty n (c ∷ cs) p w e = absurd (omega (arith, e))
taken-still (Ready m) n q p w e = refl
taken-still (Travelling m) n q p w e = refl
taken-still (Held m) n q p w e = refl

cut-still : (slot : Slot TextOut) (on : ℕ) (p : Peer) → one_if_any (ready_message (put_if_any (as_text (answer (cut_in on p.ends))) slot)) ≡ 0 → cuts_where slot on p ≡ p
cut-still Empty on p e = go (answer (cut_in on p.ends)) refl e
  where
    go : (o : Option (ℕ × List Bool)) → answer (cut_in on p.ends) ≡ o → one_if_any (ready_message (put_if_any (as_text o) Empty)) ≡ 0 → cuts on p ≡ p
    go None d e = ap (λ (m : Ends). (let r : Peer = record p { ends = m } in r)) (no-cut on p.ends d)
    go (Some t) d e = absurd (omega (arith, e))
cut-still (Ready t) on p e = refl
cut-still (Travelling t) on p e = refl
cut-still (Held t) on p e = refl

heard-still : (s : MessageTransit (List Command)) (quiet : Bool) (p : Peer) → one_if_accepted s ≡ 0 → hears_message s quiet p ≡ p
heard-still (Accepted m) quiet p e = absurd (omega (arith, e))
heard-still Free quiet p e = refl
heard-still Delivered quiet p e = refl
heard-still Lost quiet p e = refl
heard-still Dead quiet p e = refl

text-still : (on : ℕ) (head : List Bool) (s : MessageTransit TextOut) (p : Peer) → one_if_accepted s ≡ 0 → hears_coming on head s p ≡ p
text-still on head (Accepted m) p e = absurd (omega (arith, e))
text-still on head Free p e = refl
text-still on head Delivered p e = refl
text-still on head Lost p e = refl
text-still on head Dead p e = refl

control-taken-still : (slot : Slot (List Command)) (s : MessageTransit (List Command)) (quiet : Bool) (p : Peer) → one_if_told slot s ≡ 0 → control_taken slot s quiet p ≡ p
control-taken-still (Travelling m) Delivered quiet p e = absurd (omega (arith, e))
control-taken-still (Travelling m) Free quiet p e = refl
control-taken-still (Travelling m) (Accepted c) quiet p e = refl
control-taken-still (Travelling m) Lost quiet p e = refl
control-taken-still (Travelling m) Dead quiet p e = refl
control-taken-still Empty s quiet p e = refl
control-taken-still (Ready m) s quiet p e = refl
control-taken-still (Held m) s quiet p e = refl

text-taken-still : (on : ℕ) (slot : Slot TextOut) (s : MessageTransit TextOut) (quiet : Bool) (p : Peer) → one_if_told slot s ≡ 0 → text_taken on slot s quiet p ≡ p
text-taken-still on (Travelling m) Delivered quiet p e = absurd (omega (arith, e))
text-taken-still on (Travelling m) Free quiet p e = refl
text-taken-still on (Travelling m) (Accepted c) quiet p e = refl
text-taken-still on (Travelling m) Lost quiet p e = refl
text-taken-still on (Travelling m) Dead quiet p e = refl
text-taken-still on Empty s quiet p e = refl
text-taken-still on (Ready m) s quiet p e = refl
text-taken-still on (Held m) s quiet p e = refl

-- one link among all
one-link : (link on : ℕ) (x k : Link TextOut) → ((on ≡ link) → x ≡ k) → cond (on == link) x k ≡ k
one-link link on x k h = go (on == link) refl
  where
    go : (b : Bool) → (on == link) ≡ b → cond b x k ≡ k
    go true t = h (eqb-true on link t)
    go false t = refl

abbrev Still : NodeStep → TwoNodes → Type 0
Still step w = Stays (node_steps step w) w

still : (step : NodeStep) (w : TwoNodes)
    → peer_after step (links_of w.this) (links_of w.that) (peer_of w.this) ≡ peer_of w.this
    → control_link_after step w.this.host.phase.waiting w.this.control ≡ w.this.control
    → ((on : ℕ) → text_link_after step on w.this.ends (w.this.texts on) ≡ w.this.texts on)
    → control_heard step w.that.control ≡ w.that.control
    → ((on : ℕ) → text_heard step on (w.that.texts on) ≡ w.that.texts on)
    → Still step w
still step w p c t d u = record {
  peer = steps_agree step w ∙ p;
  control = control_moves step w ∙ c;
  texts = λ on. texts_move step w on ∙ t on;
  coming = control_is_heard step w ∙ d;
  coming_texts = λ on. texts_are_heard step w on ∙ u on;
}

pub step-still : (step : NodeStep) (w : TwoNodes) → is_of_messages step ≡ true → moved step w ≡ 0 → Still step w
step-still (Sends n) w m e = still (Sends n) w (taken-still w.this.control.slot n w.this.host.phase.waiting (peer_of w.this) refl e) (sent-still (first_waiting n w.this.host.phase.waiting) w.this.control.slot w.this.control.subnet e) (λ on. refl) refl (λ on. refl)
step-still (Sends_text link) w m e = still (Sends_text link) w (cut-still (w.this.texts link).slot link (peer_of w.this) e) refl
    (λ on. one-link link on (link_sent (as_text (answer (cut_in link w.this.ends))) (w.this.texts on).slot (w.this.texts on).subnet) (w.this.texts on) (λ s. sent-still (as_text (answer (cut_in link w.this.ends))) (w.this.texts on).slot (w.this.texts on).subnet (subst (λ (i : ℕ). one_if_any (ready_message (put_if_any (as_text (answer (cut_in link w.this.ends))) (w.this.texts i).slot)) ≡ 0) (sym s) e))) refl (λ on. refl)
step-still Hears w m e = still Hears w (heard-still w.that.control.subnet _ (peer_of w.this) e) refl (λ on. refl) (ap (λ (s : MessageTransit (List Command)). same w.that.control.slot s) (come-still w.that.control.subnet e)) (λ on. refl)
step-still (Hears_text link head) w m e = still (Hears_text link head) w (text-still link head (w.that.texts link).subnet (peer_of w.this) e) refl (λ on. refl) refl
    (λ on. one-link link on (record (w.that.texts on) { subnet = transit_delivered (w.that.texts on).subnet }) (w.that.texts on) (λ s. ap (λ (t : MessageTransit TextOut). same (w.that.texts on).slot t) (come-still (w.that.texts on).subnet (subst (λ (i : ℕ). one_if_accepted (w.that.texts i).subnet ≡ 0) (sym s) e))))
step-still Loses w m e = still Loses w refl (ap (λ (s : MessageTransit (List Command)). same w.this.control.slot s) (failed-still Lost w.this.control.subnet e)) (λ on. refl) refl (λ on. refl)
step-still (Loses_text link) w m e = still (Loses_text link) w refl refl
    (λ on. one-link link on (record (w.this.texts on) { subnet = undelivered Lost (w.this.texts on).subnet }) (w.this.texts on) (λ s. ap (λ (t : MessageTransit TextOut). same (w.this.texts on).slot t) (failed-still Lost (w.this.texts on).subnet (subst (λ (i : ℕ). one_if_accepted (w.this.texts i).subnet ≡ 0) (sym s) e)))) refl (λ on. refl)
step-still Dies w m e = still Dies w refl (ap (λ (s : MessageTransit (List Command)). same w.this.control.slot s) (failed-still Dead w.this.control.subnet e)) (λ on. refl) refl (λ on. refl)
step-still (Text_dies link) w m e = still (Text_dies link) w refl refl
    (λ on. one-link link on (record (w.this.texts on) { subnet = undelivered Dead (w.this.texts on).subnet }) (w.this.texts on) (λ s. ap (λ (t : MessageTransit TextOut). same (w.this.texts on).slot t) (failed-still Dead (w.this.texts on).subnet (subst (λ (i : ℕ). one_if_accepted (w.this.texts i).subnet ≡ 0) (sym s) e)))) refl (λ on. refl)
step-still Is_answered w m e = still Is_answered w (control-taken-still w.this.control.slot w.this.control.subnet _ (peer_of w.this) e) (told-still w.this.control.slot w.this.control.subnet e) (λ on. refl) refl (λ on. refl)
step-still (Text_is_answered link) w m e = still (Text_is_answered link) w (text-taken-still link (w.this.texts link).slot (w.this.texts link).subnet _ (peer_of w.this) e) refl
    (λ on. one-link link on (answered_by (w.this.texts on).slot (w.this.texts on).subnet) (w.this.texts on) (λ s. told-still (w.this.texts on).slot (w.this.texts on).subnet (subst (λ (i : ℕ). one_if_told (w.this.texts i).slot (w.this.texts i).subnet ≡ 0) (sym s) e))) refl (λ on. refl)
step-still step w m e = absurd (cc m)
