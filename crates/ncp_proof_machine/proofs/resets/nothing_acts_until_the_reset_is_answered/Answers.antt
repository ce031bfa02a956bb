use Rattle.std.proofs.Common.{◌≡◌, ℕ, Bool, true, false, List, [], ◌∷◌, refl, ap, ◌∙◌}
use Rattle.std.specs.List.{list_any}
use Rattle.ncp_wire.specs.declared.command.Command.{Command}
use Rattle.ncp_model.specs.Phase.{is_rrp, Reaction}
use Rattle.ncp_proof_machine.specs.Resets.{ResetHost, host_resets, host_makes, ResetWorld, ResetStep, Resets, Makes, Settles, Sends, Hears, reset_sends, reset_comes, reset_steps}
use Rattle.ncp_proof_machine.specs.Delivery.{Slot, Empty, Ready, Travelling, Held, MessageTransit, Free, Accepted, Delivered, Lost, Dead}
use Rattle.ncp_proof_machine.proofs.Waiting.{silent, settling, resetting, waiting, idle, sends-wait}
use Rattle.ncp_proof_machine.proofs.resets.nothing_acts_until_the_reset_is_answered.Goals as goal

-- that host is left as it is

sends-that : (s : Slot (List Command)) (q : List Command) (n : ℕ) (w : ResetWorld) → (reset_sends s q n w).that ≡ w.that
sends-that (Ready m) q n w = refl
sends-that (Travelling m) q n w = refl
sends-that (Held m) q n w = refl
sends-that Empty [] n w = refl
sends-that Empty (c ∷ cs) n w = refl

comes-that : (t : MessageTransit (List Command)) (rs : List Reaction) (w : ResetWorld) → (reset_comes t rs w).that ≡ w.that
comes-that Free rs w = refl
comes-that (Accepted m) rs w = refl
comes-that Delivered rs w = refl
comes-that Lost rs w = refl
comes-that Dead rs w = refl

steps-that : (step : ResetStep) (w : ResetWorld) → (reset_steps step w).that ≡ w.that
steps-that (Sends n) w = sends-that w.going.slot w.this.phase.waiting n w
steps-that (Hears rs) w = comes-that w.coming.subnet rs w
steps-that step w = refl

-- the waiting ends where an RRP comes

abbrev Ends : ResetWorld → Type 0
Ends w = (m : List Command) × (w.coming.subnet ≡ Accepted m) × (list_any is_rrp m ≡ true)

ends : (t : MessageTransit (List Command)) (rs : List Reaction) (w : ResetWorld) → w.this.phase.wait ≡ true → (reset_comes t rs w).this.phase.wait ≡ false → (m : List Command) × (t ≡ Accepted m) × (list_any is_rrp m ≡ true)
ends Free rs w a b = absurd (cc (a, b))
ends Delivered rs w a b = absurd (cc (a, b))
ends Lost rs w a b = absurd (cc (a, b))
ends Dead rs w a b = absurd (cc (a, b))
ends (Accepted m) rs w a b = go (list_any is_rrp m) refl
  where
    go : (t : Bool) → list_any is_rrp m ≡ t → (n : List Command) × (Accepted m ≡ Accepted n) × (list_any is_rrp n ≡ true)
    go true e = (m, refl, e)
    go false e = let k = waiting m rs w.this a e in absurd (cc (k, b))

until : (step : ResetStep) (w : ResetWorld) → w.this.phase.wait ≡ true → (reset_steps step w).this.phase.wait ≡ false → Ends w
until (Resets quiet) w a b = let k : (host_resets quiet w.this).phase.wait ≡ true = ap (λ (h : ResetHost). h.phase.wait) (resetting quiet w.this a) ∙ a in absurd (cc (k, b))
until (Makes c) w a b = let k : (host_makes c w.this).phase.wait ≡ true = ap (λ (h : ResetHost). h.phase.wait) (silent c w.this a) ∙ a in absurd (cc (k, b))
until (Settles quiet) w a b = let k = settling quiet w.this.phase a in absurd (cc (k, b))
until (Sends n) w a b = let k = sends-wait w.going.slot w.this.phase.waiting n w in absurd (cc (k, a, b))
until (Hears rs) w a b = ends w.coming.subnet rs w a b
until step w a b = absurd (cc (a, b))

pub returns-clause-until : goal.returns-clause-until
returns-clause-until c = until

pub returns-clause-each : goal.returns-clause-each
returns-clause-each c = steps-that

pub returns-clause-waits : goal.returns-clause-waits
returns-clause-waits c = waiting

pub returns-clause-idle : goal.returns-clause-idle
returns-clause-idle c = idle

pub returns-clause-silent : goal.returns-clause-silent
returns-clause-silent c = silent
