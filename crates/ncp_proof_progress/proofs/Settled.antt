-- Meant for other crates too: they cite what is public here.
--
-- Where nothing moves any more, nothing is left.
use Rattle.std.proofs.Common.{◌≡◌, ℕ, zero, suc, ◌+◌, ◌==◌, ◌≤◌, ◌<◌, ◌&&◌, Bool, true, false, List, [], ◌∷◌, Option, Some, None, refl, ap, ◌∙◌, subst, arith}
use Rattle.std.proofs.lemmas.Bool.{eqb-true, both_ways, eq-eqb}
use Rattle.ncp_wire.specs.declared.command.Command.{Command}
use Rattle.ncp_slot.specs.Slot.{is_empty, ready_message}
use Rattle.ncp_wire.specs.declared.links.TheConstants.{FIRST_LINK, DATA_LINKS}
use Rattle.ncp_model.specs.Effect.{answer, is_data_link}
use Rattle.ncp_model.specs.Ends.{cut_in}
use Rattle.ncp_proof_machine.specs.Resets.{Party, This, That}
use Rattle.ncp_proof_machine.specs.Delivery.{Slot, Empty, Ready, Travelling, Held, MessageTransit, Free, Accepted, Delivered, Lost, Dead, Link, idle}
use Rattle.ncp_proof_machine.specs.Hosts.{TextOut, TwoNodes, nodes_swapped, quiet, all_empty, NodeStep, Calls_reset, Sends, Sends_text, Loses, Loses_text, Is_answered, Text_is_answered, Wakes, NodeEvent, node_at, run_from, run, start}
use Rattle.ncp_proof_machine.specs.HostRuns.{by, comes_up}
use Rattle.ncp_proof_machine.specs.Moving.{put_if_any, first_waiting, as_text}
use Rattle.ncp_proof_machine.proofs.Standing.{nothing_out}
use Rattle.ncp_proof_progress.specs.HostsWork.{SlotFits, NodeFits, BothFit, IsOnDataLink, moved, moved_at, held_texts, one_if_any, one_if_accepted, one_if_told, one_if_held}
use Rattle.ncp_proof_progress.proofs.HostsWork.{at-fit, start-fits}
use Rattle.ncp_proof_progress.specs.Idle.{ResetsWait, IsSettledInModel, IsIdle}
use Rattle.ncp_proof_progress.proofs.ResetsWait.{ever-wait}

-- a link on which nothing can move has nothing, and nothing could be put in
link-idle : {M : Type 0} (o : Option M) (slot : Slot M) (s : MessageTransit M) → SlotFits slot s → one_if_any (ready_message (put_if_any o slot)) ≡ 0 → one_if_accepted s ≡ 0 → one_if_told slot s ≡ 0 → one_if_held slot ≡ 0 → (slot ≡ Empty) × (s ≡ Free) × (o ≡ None)
link-idle None Empty Free f a b c d = (refl, refl, refl)
link-idle (Some m) Empty Free f a b c d = absurd (omega (arith, a))
link-idle None (Ready k) Free f a b c d = absurd (omega (arith, a))
link-idle (Some m) (Ready k) Free f a b c d = absurd (omega (arith, a))
link-idle o (Held k) Free f a b c d = absurd (omega (arith, d))
link-idle o (Travelling k) Free f a b c d = absurd f
link-idle o (Travelling k) (Accepted m) f a b c d = absurd (omega (arith, b))
link-idle o (Travelling k) Delivered f a b c d = absurd (omega (arith, c))
link-idle o (Travelling k) Lost f a b c d = absurd (omega (arith, c))
link-idle o (Travelling k) Dead f a b c d = absurd (omega (arith, c))
link-idle o slot s f a b c d = absurd f

the-link : {M : Type 0} (k : Link M) → k.slot ≡ Empty → k.subnet ≡ Free → k ≡ idle
the-link k a b = ap (λ (s : Slot _). (let l : Link _ = record { slot = s; subnet = k.subnet } in l)) a ∙ ap (λ (u : MessageTransit _). (let l : Link _ = record { slot = Empty; subnet = u } in l)) b

none-waits : (q : List Command) → first_waiting 0 q ≡ None → q ≡ []
none-waits [] e = refl
none-waits (c ∷ cs) e = absurd (cc e)

no-text : (o : Option (ℕ × List Bool)) → as_text o ≡ None → o ≡ None
no-text None e = refl
no-text (Some t) e = absurd (cc e)

none-held : (texts : ℕ → Link TextOut) (many from on : ℕ) → held_texts texts many from ≡ 0 → from ≤ on → on < from + many → one_if_held (texts on).slot ≡ 0
unfolding held_texts
none-held texts zero from on e l h = absurd (omega (arith, l, h))
none-held texts (suc many) from on e l h = go (from == on) refl (λ j m i. none-held texts many (suc from) on j m i)
  where
    go : (b : Bool) → (from == on) ≡ b → (held_texts texts many (suc from) ≡ 0 → suc from ≤ on → on < suc from + many → one_if_held (texts on).slot ≡ 0) → one_if_held (texts on).slot ≡ 0
    go true t rest = let i : from ≡ on = eqb-true from on t in let j : one_if_held (texts from).slot ≡ 0 = omega (arith, e) in subst (λ (k : ℕ). one_if_held (texts k).slot ≡ 0) i j
    go false t rest =
        let j : held_texts texts many (suc from) ≡ 0 = omega (arith, e) in
        let d : (from ≡ on) → ⊥ = λ i. both_ways (from == on) t (eq-eqb from on i) in
        let m : suc from ≤ on = omega (arith, l, d) in
        rest j m (omega (arith, h))

true-both : (a b : Bool) → a ≡ true → b ≡ true → (a && b) ≡ true
true-both true true p q = refl
true-both true false p q = q
true-both false b p q = p

all-are : (texts : ℕ → Link TextOut) (many from : ℕ) → ((on : ℕ) → from ≤ on → on < from + many → is_empty (texts on).slot ≡ true) → all_empty texts many from ≡ true
unfolding all_empty
all-are texts zero from h = refl
all-are texts (suc many) from h =
    true-both (is_empty (texts from).slot) (all_empty texts many (suc from)) (h from (omega arith) (omega arith))
    (all-are texts many (suc from) (λ on l m. h on (omega (arith, l)) (omega (arith, m))))

in-range : (on : ℕ) → FIRST_LINK ≤ on → on < FIRST_LINK + DATA_LINKS → is_data_link on ≡ true
in-range on l h = grind arith

at-least : (on : ℕ) → is_data_link on ≡ true → FIRST_LINK ≤ on
at-least on h = grind arith

at-most : (on : ℕ) → is_data_link on ≡ true → on < FIRST_LINK + DATA_LINKS
at-most on h = grind arith

-- one host, where no step of it moves anything
one-idle : (w : TwoNodes) → NodeFits w.this → ResetsWait w.this → ((step : NodeStep) → IsOnDataLink step → moved step w ≡ 0) → IsIdle w.this
one-idle w f r h = record {
  control = the-link w.this.control link.0 link.1;
  texts = λ on d. the-link (w.this.texts on) (text on d).0 (text on d).1;
  waiting = none-waits w.this.host.phase.waiting link.2;
  sendable = λ on d. no-text (answer (cut_in on w.this.ends)) (text on d).2;
  want = r.want still;
  owe = r.owe still;
}
  where
    held : one_if_held w.this.control.slot + held_texts w.this.texts DATA_LINKS FIRST_LINK ≡ 0
    held = h Wakes tt

    none : held_texts w.this.texts DATA_LINKS FIRST_LINK ≡ 0
    none = let e = held in omega (arith, e)

    control-none : one_if_held w.this.control.slot ≡ 0
    control-none = let e = held in omega (arith, e)

    link : (w.this.control.slot ≡ Empty) × (w.this.control.subnet ≡ Free) × (first_waiting 0 w.this.host.phase.waiting ≡ None)
    link = link-idle (first_waiting 0 w.this.host.phase.waiting) w.this.control.slot w.this.control.subnet f.control (h (Sends 0) tt) (h Loses tt) (h Is_answered tt) control-none

    text : (on : ℕ) → is_data_link on ≡ true → ((w.this.texts on).slot ≡ Empty) × ((w.this.texts on).subnet ≡ Free) × (as_text (answer (cut_in on w.this.ends)) ≡ None)
    text on d = link-idle (as_text (answer (cut_in on w.this.ends))) (w.this.texts on).slot (w.this.texts on).subnet (f.texts on) (h (Sends_text on) d) (h (Loses_text on) d) (h (Text_is_answered on) d)
        (none-held w.this.texts DATA_LINKS FIRST_LINK on none (at-least on d) (at-most on d))

    still : quiet w.this ≡ true
    still = all-are w.this.texts DATA_LINKS FIRST_LINK (λ on l m. ap (λ (s : Slot TextOut). is_empty s) (text on (in-range on l m)).0)

run-fits : (es : List NodeEvent) (w : TwoNodes) → BothFit w → BothFit (run_from es w)
run-fits [] w b = b
run-fits (e ∷ es) w b = run-fits es (node_at e.side e.step w) (at-fit e.side e.step w b)

pub ever-idle : (es : List NodeEvent) → IsSettledInModel (run es) → IsIdle (run es).this × IsIdle (run es).that
ever-idle es s =
    let b = run-fits es start start-fits in
    let r = ever-wait es in
    (one-idle (run es) b.this r.0 (s This), one-idle (nodes_swapped (run es)) b.that r.1 (s That))

-- there is such a world: where two hosts begin

start-still : (step : NodeStep) → moved step start ≡ 0
unfolding held_texts
start-still (Sends n) = refl
start-still (Sends_text on) = ap (λ (o : Option (ℕ × List Bool)). one_if_any (ready_message (put_if_any (as_text o) Empty))) (nothing_out on)
start-still Wakes = refl
start-still step = refl

pub start-settled : IsSettledInModel start
start-settled This step l = start-still step
start-settled That step l = start-still step

-- where they have come up
up-still : (side : Party) (step : NodeStep) → moved_at side step (run (comes_up This)) ≡ 0
unfolding held_texts all_empty
up-still This (Sends n) = refl
up-still That (Sends n) = refl
up-still This (Sends_text on) = ap (λ (o : Option (ℕ × List Bool)). one_if_any (ready_message (put_if_any (as_text o) Empty))) (nothing_out on)
up-still That (Sends_text on) = ap (λ (o : Option (ℕ × List Bool)). one_if_any (ready_message (put_if_any (as_text o) Empty))) (nothing_out on)
up-still This Wakes = refl
up-still That Wakes = refl
up-still This step = refl
up-still That step = refl

pub up-settled : IsSettledInModel (run (comes_up This))
up-settled side step l = up-still side step

-- and not where an RST waits
pub asked-unsettled : IsSettledInModel (run (by This Calls_reset ∷ [])) → ⊥
unfolding all_empty
asked-unsettled s = let h = s This (Sends 0) tt in absurd (omega (arith, h))
