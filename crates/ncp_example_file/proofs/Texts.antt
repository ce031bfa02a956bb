-- A text taken that is as long as the only text given is that text.
use Rattle.std.proofs.Common.{◌≡◌, ◌≤◌, ℕ, suc, ◌+◌, Bool, List, [], ◌∷◌, ◌++◌, length, refl, sym, ap, ◌∙◌, subst, arith}
use Rattle.std.proofs.lemmas.List.{append-nil, length-append}
use Rattle.ncp_pipe.specs.Accounts.{ArePrefixes, Nothing_taken, Passed_over, Prefix}

none : (t : List Bool) → length t ≤ 0 → t ≡ []
none [] h = refl
none (b ∷ t) h = absurd (omega arith)

front : (t rest : List Bool) → [] ≡ t ++ rest → t ≡ []
front [] rest e = refl
front (b ∷ t) rest e = absurd (cc e)

of-none : (t : List Bool) (ts : List (List Bool)) → ArePrefixes (t ∷ ts) [] → t ≡ []
of-none t ts (Nothing_taken k) = refl

of-empty : (t : List Bool) (ts : List (List Bool)) → ArePrefixes (t ∷ ts) ([] ∷ []) → t ≡ []
of-empty t ts (Nothing_taken k) = refl
of-empty t ts (Passed_over k) = of-none t ts k
of-empty t ts (Prefix rest e k) = front t rest e

longer : (n m : ℕ) → n + suc m ≤ n → ⊥
longer n m h = absurd (omega arith)

all-of-it : (t rest g : List Bool) → g ≡ t ++ rest → length g ≤ length t → g ≡ t
all-of-it t [] g e h = e ∙ append-nil t
all-of-it t (b ∷ rest) g e h = absurd (longer (length t) (length rest) (subst (λ (n : ℕ). n ≤ length t) (ap length e ∙ length-append t (b ∷ rest)) h))

pub whole : (t g : List Bool) → ArePrefixes (t ∷ [] ∷ []) (g ∷ [] ∷ []) → length g ≤ length t → g ≡ t
whole t g (Nothing_taken k) h = none g h
whole t g (Passed_over k) h =
    let e : t ≡ [] = of-empty t ([] ∷ []) k in
    none g (subst (λ (x : List Bool). length g ≤ length x) e h) ∙ sym e
whole t g (Prefix rest e k) h = all-of-it t rest g e h
