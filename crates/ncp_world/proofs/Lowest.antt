-- The first of some numbers that passes, and where none does.
use Rattle.std.proofs.Common.{◌≡◌, ℕ, zero, suc, ◌+◌, ◌≤◌, ◌<◌, Bool, true, false, if◌then◌else◌, List, Option, None, Some, is_some, refl, sym, ap, ◌∙◌, arith}
use Rattle.ncp_wire.specs.declared.links.TheConstants.{LAST_LINK}
use Rattle.ncp_world.specs.Lowest.{first_passing, lowest_kept}

first-is : (test : ℕ → Bool) (many from at : ℕ) → from ≤ at → at < from + many → test at ≡ true → ((lower : ℕ) → from ≤ lower → lower < at → test lower ≡ false) → first_passing test many from ≡ Some at
unfolding first_passing
first-is test zero from at low high passes below = absurd (omega (arith, low, high))
first-is test (suc many) from at low high passes below = go (test from) refl (first-is test many (suc from) at)
  where
    go : (b : Bool) → test from ≡ b → (suc from ≤ at → at < suc from + many → test at ≡ true → ((lower : ℕ) → suc from ≤ lower → lower < at → test lower ≡ false) → first_passing test many (suc from) ≡ Some at)
        → (if b then Some from else first_passing test many (suc from)) ≡ Some at
    go true e rest =
        let apart : from < at → ⊥ = λ l. cc (sym e ∙ below from (omega arith) l) in
        let same : from ≡ at = grind (arith, apart, low) in
        ap (λ (n : ℕ). Some n) same
    go false e rest =
        let apart : from ≡ at → ⊥ = λ same. cc (sym e ∙ ap test same ∙ passes) in
        let above : suc from ≤ at = grind (arith, apart, low) in
        rest above (omega (arith, high)) passes (λ lower a b. below lower (omega (arith, a)) b)

first-none : (test : ℕ → Bool) (many from : ℕ) → ((at : ℕ) → from ≤ at → at < from + many → test at ≡ false) → first_passing test many from ≡ None
unfolding first_passing
first-none test zero from none = refl
first-none test (suc many) from none =
    let no : test from ≡ false = none from (omega arith) (omega arith) in
    rw no (first-none test many (suc from) (λ at l h. none at (omega (arith, l)) (omega (arith, h))))

of-none : {A : Type 0} (o : Option A) → o ≡ None → is_some o ≡ false
of-none o e = ap is_some e

-- the link that keeps a message, where none below does
pub lowest_is : (kept : ℕ → Option (List Bool)) (link : ℕ) → link ≤ LAST_LINK → is_some (kept link) ≡ true → ((lower : ℕ) → lower < link → kept lower ≡ None) → lowest_kept kept ≡ Some link
lowest_is kept link l has below = first-is (λ (on : ℕ). is_some (kept on)) (LAST_LINK + 1) 0 link (omega arith) (omega (arith, l)) has (λ lower a b. of-none (kept lower) (below lower b))

-- no link keeps one
pub lowest_none : (kept : ℕ → Option (List Bool)) → ((link : ℕ) → link ≤ LAST_LINK → kept link ≡ None) → lowest_kept kept ≡ None
lowest_none kept none = first-none (λ (on : ℕ). is_some (kept on)) (LAST_LINK + 1) 0 (λ at l h. of-none (kept at) (none at (omega (arith, h))))

-- a host that is not there keeps none
pub none_there : (kept : ℕ → Option (List Bool)) → ((link : ℕ) → kept link ≡ None) → None ≡ lowest_kept kept
none_there kept none = sym (lowest_none kept (λ link l. none link))
