-- Beginnings of texts, one after the other.
use Rattle.std.proofs.Common.{◌≡◌, ℕ, suc, ◌+◌, Bool, List, [], ◌∷◌, ◌++◌, length, refl, sym, ap, ◌∙◌, subst, arith}
use Rattle.std.proofs.lemmas.List.{append_assoc, length-append}
use Rattle.ncp_pipe.specs.Accounts.{ArePrefixes, Over, Nothing_taken, Passed_over, Prefix}

-- without the last that was taken
pub tail : (t : List Bool) (ts gs : List (List Bool)) → ArePrefixes (t ∷ ts) gs → ArePrefixes ts gs
tail t ts gs (Nothing_taken k) = k
tail t ts (g ∷ gs) (Passed_over k) = Passed_over (tail t ts gs k)
tail t ts (g ∷ gs) (Prefix rest e k) = Passed_over k

-- less of it
pub shrink : (t u : List Bool) (ts gs : List (List Bool)) → ArePrefixes ((t ++ u) ∷ ts) gs → ArePrefixes (t ∷ ts) gs
shrink t u ts gs k = go (t ++ u) gs refl k
  where
    none : (xs ys : List Bool) → xs ++ ys ≡ [] → xs ≡ []
    none [] ys e = refl
    none (x ∷ xs) ys e = absurd (cc e)

    go : (v : List Bool) (gs : List (List Bool)) → t ++ u ≡ v → ArePrefixes (v ∷ ts) gs → ArePrefixes (t ∷ ts) gs
    go v gs e (Nothing_taken k) = subst (λ (x : List Bool). ArePrefixes (x ∷ ts) gs) (sym (none t u e)) (Nothing_taken k)
    go v (g ∷ gs) e (Passed_over k) = Passed_over (go v gs e k)
    go v (g ∷ gs) e (Prefix rest f k) = Prefix (u ++ rest) (f ∙ ap (λ (x : List Bool). x ++ rest) (sym e) ∙ append_assoc t u rest) k

-- more is given
pub grow : (g more : List Bool) (ts gs : List (List Bool)) → ArePrefixes ts (g ∷ gs) → ArePrefixes ts ((g ++ more) ∷ gs)
grow g more [] gs Over = Over
grow g more ([] ∷ ts) gs (Nothing_taken k) = Nothing_taken (grow g more ts gs k)
grow g more ts gs (Passed_over k) = Passed_over k
grow g more (t ∷ ts) gs (Prefix rest e k) = Prefix (rest ++ more) (ap (λ (x : List Bool). x ++ more) e ∙ append_assoc t rest more) k

longer : (n m w : ℕ) → w ≡ suc n + (m + w) → ⊥
longer n m w e = absurd (omega (arith, e))

pub empty-front : (t more w : List Bool) → w ≡ t ++ (more ++ w) → t ≡ []
empty-front [] more w e = refl
empty-front (x ∷ t) more w e = absurd (longer (length t) (length more) (length w) (ap length e ∙ length-append (x ∷ t) (more ++ w) ∙ ap (λ (n : ℕ). suc (length t) + n) (length-append more w)))
