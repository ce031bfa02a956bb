-- Names that are all different, by a test.
use Rattle.std.proofs.Common.{◌≡◌, ◌≢◌, ◌<◌, ◌&&◌, ℕ, zero, suc, Bool, true, false, not, List, [], ◌∷◌, length, get_or, nat_eq, refl, sym, ap, ◌∙◌, arith}
use Rattle.std.specs.Cmp.Lexicographic.{pointwise}
use Rattle.std.specs.List.{AllPairs, list_all}
use Rattle.std.proofs.lemmas.Bool.{eq-eqb}

abbrev pub Entry : Type 0
Entry = List ℕ × List ℕ

-- whether no two names of a table are the same
abbrev pub are_unequal : List Entry → Bool
are_unequal [] = true
are_unequal (entry ∷ rest) = list_all (λ other. not (pointwise nat_eq entry.0 other.0)) rest && are_unequal rest

pub both : (a b : Bool) → (a && b) ≡ true → (a ≡ true) × (b ≡ true)
both true b h = (refl, h)
both false b h = absurd cc

pub same_self : (xs : List ℕ) → pointwise nat_eq xs xs ≡ true
same_self [] = refl
same_self (x ∷ xs) = rw (eq-eqb x x refl) (same_self xs)

differ : (xs ys : List ℕ) → not (pointwise nat_eq xs ys) ≡ true → xs ≡ ys → ⊥
differ xs ys h e =
    let tie : pointwise nat_eq xs ys ≡ true = ap (λ l. pointwise nat_eq xs l) (sym e) ∙ same_self xs in
    let counterpart : not (pointwise nat_eq xs ys) ≡ false = ap not tie in
    absurd cc

pub unequal : (xs ys : List ℕ) → false ≡ pointwise nat_eq xs ys → xs ≡ ys → ⊥
unequal xs ys h e =
    let tie : pointwise nat_eq xs ys ≡ true = ap (λ l. pointwise nat_eq xs l) (sym e) ∙ same_self xs in absurd cc

distinct_from : (entry : Entry) (rest : List Entry) (j : ℕ) (d : Entry) → j < length rest → list_all (λ other. not (pointwise nat_eq entry.0 other.0)) rest ≡ true → entry.0 ≡ (get_or rest j d).0 → ⊥
distinct_from entry [] j d h t e = absurd (omega arith)
distinct_from entry (other ∷ rest) zero d h t e = differ entry.0 other.0 (both (not (pointwise nat_eq entry.0 other.0)) (list_all (λ one. not (pointwise nat_eq entry.0 one.0)) rest) t).0 e
distinct_from entry (other ∷ rest) (suc j) d h t e =
    distinct_from entry rest j d (omega arith) (both (not (pointwise nat_eq entry.0 other.0)) (list_all (λ one. not (pointwise nat_eq entry.0 one.0)) rest) t).1 e

pub pairs_distinct : (xs : List Entry) → are_unequal xs ≡ true → AllPairs (λ one other. one.0 ≢ other.0) xs
pairs_distinct [] t i j d before within = absurd (omega arith)
pairs_distinct (entry ∷ rest) t zero zero d before within = absurd (omega arith)
pairs_distinct (entry ∷ rest) t zero (suc j) d before within = distinct_from entry rest j d (omega arith) (both (list_all (λ other. not (pointwise nat_eq entry.0 other.0)) rest) (are_unequal rest) t).0
pairs_distinct (entry ∷ rest) t (suc i) zero d before within = absurd (omega arith)
pairs_distinct (entry ∷ rest) t (suc i) (suc j) d before within = pairs_distinct rest (both (list_all (λ other. not (pointwise nat_eq entry.0 other.0)) rest) (are_unequal rest) t).1 i j d (omega arith) (omega arith)
