-- Of the commands that wait: the RST and the RRP stand before all others, and which of the two leads.
use Rattle.std.proofs.Common.{◌≡◌, ℕ, zero, suc, ◌+◌, ◌<◌, ◌≤◌, ◌==◌, nat_le, get_or, replicate, Bool, true, false, if◌then◌else◌, List, [], ◌∷◌, ◌++◌, refl, arith}
use Rattle.std.proofs.lemmas.Bool.{leb-true}
use Rattle.ncp_wire.specs.declared.command.Command.{Command}
use Rattle.ncp_model.specs.Phase.{is_rst, is_other}
use Rattle.ncp_model.proofs.ResetLists.{rsts, rrps, others, purged, rsts-append, rrps-append, others-append, others-purged, purged_none}

-- ---- numbers and rows

pub itself : (i : ℕ) → (i == i) ≡ true
itself i = grind arith

pub at_least : (i j : ℕ) → nat_le i j ≡ true → i ≤ j
at_least i j e = leb-true i j e

pub none_of : (i : ℕ) → (0 < i → ⊥) → i ≡ 0
none_of zero f = refl
none_of (suc i) f = absurd (f (omega arith))

pub replicated : {A : Type 0} (count at : ℕ) (x : A) → get_or (replicate count x) at x ≡ x
replicated zero at x = refl
replicated (suc count) zero x = refl
replicated (suc count) (suc at) x = replicated count at x

-- ---- the commands that wait

-- the number of RSTs and RRPs after another command
abbrev pub behind : List Command → ℕ
behind [] = 0
behind (c ∷ u) = if is_other c then rsts u + rrps u else behind u

-- an RST is the first
abbrev pub leads : List Command → Bool
leads [] = false
leads (c ∷ u) = is_rst c

pub behind-none : (u : List Command) → rsts u ≡ 0 → rrps u ≡ 0 → behind u ≡ 0
behind-none [] r p = refl
behind-none (c ∷ u) r p = let k = behind-none u in grind arith

pub behind-calm : (u : List Command) → others u ≡ [] → behind u ≡ 0
behind-calm [] e = refl
behind-calm (c ∷ u) e = let k = behind-calm u in grind arith

pub behind-more : (u : List Command) (c : Command) → is_other c ≡ true → behind u ≡ 0 → behind (u ++ c ∷ []) ≡ 0
behind-more [] c o e = grind arith
behind-more (d ∷ u) c o e = let k = behind-more u c o in let r = rsts-append u (c ∷ []) in let p = rrps-append u (c ∷ []) in grind arith

pub behind-reset : (u : List Command) (c : Command) → is_other c ≡ false → others u ≡ [] → behind (u ++ c ∷ []) ≡ 0
behind-reset u c o e = behind-calm (u ++ c ∷ []) (let a = others-append u (c ∷ []) in grind arith)

pub behind-purged : (u : List Command) → behind (purged u) ≡ 0
behind-purged u = behind-calm (purged u) (others-purged u)

pub leads-some : (u : List Command) → leads u ≡ true → 0 < rsts u
leads-some [] e = absurd (cc)
leads-some (c ∷ u) e = grind arith

pub leads-more : (u : List Command) (c : Command) → is_rst c ≡ false → leads (u ++ c ∷ []) ≡ leads u
leads-more [] c o = o
leads-more (d ∷ u) c o = refl

-- an RST after an RRP does not lead
pub leads-rst : (u : List Command) (c : Command) → rsts u ≡ 0 → 0 < rrps u → leads (u ++ c ∷ []) ≡ false
leads-rst [] c r p = absurd (omega arith)
leads-rst (d ∷ u) c r p = grind arith

pub leads-purged : (u : List Command) → behind u ≡ 0 → leads (purged u) ≡ leads u
leads-purged [] e = refl
leads-purged (c ∷ u) e = go (is_other c) refl
  where
    go : (b : Bool) → is_other c ≡ b → leads (purged (c ∷ u)) ≡ leads (c ∷ u)
    go true o = let n = purged_none u (grind arith) (grind arith) in grind arith
    go false o = grind arith
