-- A fold over the numbers from 0 on.
use Rattle.std.proofs.Common.{◌≡◌, ℕ, zero, suc, ◌+◌, List, [], ◌∷◌, ◌++◌, refl, sym, ap, ◌∙◌, arith}
use Rattle.std.specs.List.{fold, range_with_len}

pushed : {A B : Type 0} (f : B → A → B) (b : B) (xs : List A) (x : A) → fold f b (xs ++ x ∷ []) ≡ f (fold f b xs) x
pushed f b [] x = refl
pushed f b (y ∷ xs) x = pushed f (f b y) xs x

longer : (a n : ℕ) → range_with_len a (suc n) ≡ range_with_len a n ++ (a + n) ∷ []
longer a zero = ap (λ (k : ℕ). k ∷ []) (let e : a ≡ a + zero = omega arith in e)
longer a (suc n) =
    let next : suc a ≡ a + 1 = omega arith in
    let last : suc a + n ≡ a + suc n = omega arith in
    ap (λ (xs : List ℕ). a ∷ xs) (
    ap (λ (k : ℕ). range_with_len k (suc n)) (sym next) ∙ longer (suc a) n ∙ ap (λ (k : ℕ). range_with_len (suc a) n ++ k ∷ []) last ∙ ap (λ (k : ℕ). range_with_len k n ++ (a + suc n) ∷ []) next)

pub one_more : {B : Type 0} (f : B → ℕ → B) (b : B) (n : ℕ) → fold f b (range_with_len 0 (n + 1)) ≡ f (fold f b (range_with_len 0 n)) n
one_more f b n =
    ap (λ (k : ℕ). fold f b (range_with_len 0 k)) (let e : n + 1 ≡ suc n = omega arith in e) ∙ ap (fold f b) (longer 0 n) ∙ pushed f b (range_with_len 0 n) (0 + n)
    ∙ ap (λ (k : ℕ). f (fold f b (range_with_len 0 n)) k) (let e : 0 + n ≡ n = omega arith in e)
