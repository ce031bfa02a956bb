-- Lists that are copied item by item.
use Rattle.std.proofs.Common.{◌≡◌, ◌≤◌, ℕ, ◌+◌, ◌-◌, List, [], ◌∷◌, ◌++◌, length, drop, ap, ◌∙◌, arith}
use Rattle.std.proofs.lemmas.List.{append_assoc, length-append}
use Rattle.circular_buffer.specs.Buffer.{keep_last}

-- an item that fits behind the others is kept with them
pub one_kept : {A : Type 0} (copied left all : List A) (x : A) (capacity : ℕ) → copied ++ x ∷ left ≡ all → length all ≤ capacity → keep_last capacity (copied ++ x ∷ []) ++ left ≡ all
one_kept copied left all x capacity is fits =
    let long : length (copied ++ x ∷ left) ≡ length copied + length (x ∷ left) = length-append copied (x ∷ left) in
    let short : length (copied ++ x ∷ []) ≡ length copied + 1 = length-append copied (x ∷ []) in
    let same : length (copied ++ x ∷ left) ≡ length all = ap length is in
    let none : length (copied ++ x ∷ []) - capacity ≡ 0 = omega (arith, long, short, same, fits) in
    ap (λ (n : ℕ). drop n (copied ++ x ∷ []) ++ left) none ∙ append_assoc copied (x ∷ []) left ∙ is
