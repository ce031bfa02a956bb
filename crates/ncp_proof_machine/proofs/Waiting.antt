-- Meant for other crates too: they cite what is public here.
--
-- A host that waits for an RRP is not up, and goes on waiting.
use Rattle.std.proofs.Common.{◌≡◌, ℕ, Bool, true, false, List, [], ◌∷◌, refl, ap, ◌∙◌, arith}
use Rattle.std.specs.List.{list_any}
use Rattle.ncp_wire.specs.declared.command.Command.{Command}
use Rattle.ncp_wire.specs.declared.command.Command.TheVariants.{Rst, Rrp}
use Rattle.ncp_model.specs.Phase.{Phase, is_rrp, is_reset, phase_settles, owes_answer, Reaction}
use Rattle.ncp_proof_machine.specs.Resets.{ResetHost, is_up, host_resets, host_makes, host_makes_all, host_hears_other, host_hears, no_reaction, host_hears_all, ResetWorld, reset_sends}
use Rattle.ncp_proof_machine.specs.Delivery.{Slot, Empty, Ready, Travelling, Held}

pub down : (h : ResetHost) → h.phase.wait ≡ true → is_up h ≡ false
down h w = grind arith

pub silent : (c : Command) (h : ResetHost) → h.phase.wait ≡ true → host_makes c h ≡ h
silent c h w = let d = down h w in grind arith

pub silent_all : (cs : List Command) (h : ResetHost) → h.phase.wait ≡ true → host_makes_all cs h ≡ h
silent_all [] h w = refl
silent_all (c ∷ cs) h w = ap (host_makes_all cs) (silent c h w) ∙ silent_all cs h w

pub settling : (quiet : Bool) (p : Phase) → p.wait ≡ true → (phase_settles quiet p).wait ≡ true
settling quiet p w = grind arith

pub resetting : (quiet : Bool) (h : ResetHost) → h.phase.wait ≡ true → host_resets quiet h ≡ h
resetting quiet h w = grind arith

idle_other : (c : Command) (r : Reaction) (h : ResetHost) → h.phase.wait ≡ true → host_hears_other c r h ≡ h
idle_other c r h w = let d = down h w in grind arith

hearing : (c : Command) (r : Reaction) (h : ResetHost) → h.phase.wait ≡ true → is_rrp c ≡ false → (host_hears c r h).phase.wait ≡ true
hearing Rst r h w n = settling r.quiet (owes_answer h.phase) w
hearing Rrp r h w n = absurd (cc n)
hearing c r h w n = ap (λ (g : ResetHost). g.phase.wait) (idle_other c r h w) ∙ w

pub waiting : (cs : List Command) (rs : List Reaction) (h : ResetHost) → h.phase.wait ≡ true → list_any is_rrp cs ≡ false → (host_hears_all cs rs h).phase.wait ≡ true
waiting [] rs h w n = w
waiting (c ∷ cs) [] h w n = let a : is_rrp c ≡ false = grind arith in let b : list_any is_rrp cs ≡ false = grind arith in waiting cs [] (host_hears c no_reaction h) (hearing c no_reaction h w a) b
waiting (c ∷ cs) (r ∷ rs) h w n = let a : is_rrp c ≡ false = grind arith in let b : list_any is_rrp cs ≡ false = grind arith in waiting cs rs (host_hears c r h) (hearing c r h w a) b

idle_one : (c : Command) (r : Reaction) (h : ResetHost) → h.phase.wait ≡ true → is_reset c ≡ false → host_hears c r h ≡ h
idle_one Rst r h w n = absurd (cc n)
idle_one Rrp r h w n = absurd (cc n)
idle_one c r h w n = idle_other c r h w

pub idle : (cs : List Command) (rs : List Reaction) (h : ResetHost) → h.phase.wait ≡ true → list_any is_reset cs ≡ false → host_hears_all cs rs h ≡ h
idle [] rs h w n = refl
idle (c ∷ cs) [] h w n =
    let a : is_reset c ≡ false = grind arith in let b : list_any is_reset cs ≡ false = grind arith in
    ap (host_hears_all cs []) (idle_one c no_reaction h w a) ∙ idle cs [] h w b
idle (c ∷ cs) (r ∷ rs) h w n =
    let a : is_reset c ≡ false = grind arith in let b : list_any is_reset cs ≡ false = grind arith in
    ap (host_hears_all cs rs) (idle_one c r h w a) ∙ idle cs rs h w b

pub sends-wait : (s : Slot (List Command)) (q : List Command) (n : ℕ) (w : ResetWorld) → (reset_sends s q n w).this.phase.wait ≡ w.this.phase.wait
sends-wait (Ready m) q n w = refl
sends-wait (Travelling m) q n w = refl
sends-wait (Held m) q n w = refl
sends-wait Empty [] n w = refl
sends-wait Empty (c ∷ cs) n w = refl
