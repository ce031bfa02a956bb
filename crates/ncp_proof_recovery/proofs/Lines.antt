-- What is on a control link, and that it stays there while a message goes out, is lost or is woken.
use Rattle.std.proofs.Common.{◌≡◌, ℕ, ◌+◌, Bool, List, [], ◌∷◌, take, drop, refl, sym, ap, ◌∙◌, subst}
use Rattle.ncp_wire.specs.declared.command.Command.{Command}
use Rattle.ncp_proof_machine.specs.Delivery.{Slot, Empty, Ready, Travelling, Held, MessageTransit, Free, Accepted, Delivered, Lost, Dead, Link, undelivered, woken}
use Rattle.ncp_proof_machine.specs.Resets.{ResetHost, on_line, ResetWorld, reset_sends}
use Rattle.ncp_proof_machine.proofs.ResetRuns.{Tied}
use Rattle.ncp_proof_machine.specs.Hosts.{TextOut, Node, node_text_comes, TwoNodes, NodeStep, Hears, Hears_text, node_steps}

abbrev pub line : Link (List Command) → List Command
line l = on_line l.slot l.subnet

-- The control link.

module _ (R : ResetHost → List Command → Type 0) (front : (i : ℕ) (h : ResetHost) → R h [] → R (record h { phase = record h.phase { waiting = drop i h.phase.waiting } }) (take i h.phase.waiting)) where
  pub sent-line : (b : ResetWorld) (s : Slot (List Command)) (t : MessageTransit (List Command)) (q : List Command) (i : ℕ) → Tied s t → R b.this (on_line s t)
      → let a = reset_sends s q i (record b { going = record { slot = s; subnet = t } }) in
      R a.this (line a.going)
  sent-line b (Ready c) Free q i e p = p
  sent-line b (Travelling c) t q i e p = p
  sent-line b (Held c) t q i e p = p
  sent-line b Empty t [] i e p = p
  sent-line b Empty Free (c ∷ cs) i e p = front (i + 1) b.this p
  sent-line b s t q i e p = absurd e

module _ (what : MessageTransit (List Command)) (same : (c : List Command) → on_line (Travelling c) what ≡ c) where
  pub undelivered-line : (s : Slot (List Command)) (t : MessageTransit (List Command)) → Tied s t → on_line s (undelivered what t) ≡ on_line s t
  undelivered-line (Travelling c) (Accepted d) e = same c ∙ sym e
  undelivered-line Empty (Accepted d) e = absurd e
  undelivered-line (Ready c) (Accepted d) e = absurd e
  undelivered-line (Held c) (Accepted d) e = absurd e
  undelivered-line s Free e = refl
  undelivered-line s Delivered e = refl
  undelivered-line s Lost e = refl
  undelivered-line s Dead e = refl

pub woken-line : (s : Slot (List Command)) (t : MessageTransit (List Command)) → Tied s t → on_line (woken s) t ≡ on_line s t
woken-line (Held c) Free e = refl
woken-line (Held c) (Accepted d) e = absurd e
woken-line (Held c) Delivered e = absurd e
woken-line (Held c) Lost e = absurd e
woken-line (Held c) Dead e = absurd e
woken-line Empty t e = refl
woken-line (Ready c) t e = refl
woken-line (Travelling c) t e = refl

-- Of the other host such a step changes at most what the subnet has of its texts.

module _ (P : Node → Type 0) (on_texts : (n : Node) (links : ℕ → Link TextOut) → P n → P (record n { texts = links })) where
  text-other : (on : ℕ) (head : List Bool) (s : MessageTransit TextOut) (w : TwoNodes) → P w.that → P (node_text_comes on head s w).that
  text-other on head (Accepted u) w p = on_texts w.that _ p
  text-other on head Free w p = p
  text-other on head Delivered w p = p
  text-other on head Lost w p = p
  text-other on head Dead w p = p

  pub step-other : (step : NodeStep) (w : TwoNodes) → (step ≡ Hears → ⊥) → P w.that → P (node_steps step w).that
  step-other Hears w n p = absurd (n refl)
  step-other (Hears_text on head) w n p = text-other on head (w.that.texts on).subnet w p
  step-other step w n p = p

-- A message that comes.

pub heard-line : (s : Slot (List Command)) (t : MessageTransit (List Command)) (d : List Command) → t ≡ Accepted d → Tied s t → (on_line s t ≡ d) × (on_line s Delivered ≡ [])
heard-line s t d e h = let p = go s (subst (Tied s) e h) in (ap (on_line s) e ∙ p.0, p.1)
  where
    go : (s : Slot (List Command)) → Tied s (Accepted d) → (on_line s (Accepted d) ≡ d) × (on_line s Delivered ≡ [])
    go (Travelling c) h = (refl, refl)
    go Empty h = absurd h
    go (Ready c) h = absurd h
    go (Held c) h = absurd h
