-- Bits that are the same.
use Rattle.std.proofs.Common.{◌≡◌, ℕ, ◌+◌, ◌-◌, ◌≤◌, Bool, List, ◌++◌, length, take, drop, slice_range, sym, ap, ◌∙◌, arith}
use Rattle.std.proofs.lemmas.List.{length-take-le, length-drop}
use Rattle.std.proofs.lemmas.Bool.Decides.{same_from_decides}
use Rattle.std.proofs.Math.Bool.{beq}
use Rattle.std.proofs.Math.Seq.{take-add}
use Rattle.std.specs.Bool.{Decides}
use Rattle.std.specs.Cmp.{booleans_Decides}
use Rattle.std.specs.Cmp.Lexicographic.{pointwise, pointwise_decides}
use Rattle.ncp_numbers.specs.Numbers.{number_of, bits_of}
use Rattle.ncp_numbers.proofs.Numbers.{bits_of-number_of}

-- as many bits that spell the same number are the same
pub same_number : (xs ys : List Bool) → length xs ≡ length ys → number_of xs ≡ number_of ys → xs ≡ ys
same_number xs ys l n =
    sym (bits_of-number_of xs)
    ∙ ap (λ (k : ℕ). bits_of (length xs) k) n
    ∙ ap (λ (width : ℕ). bits_of width (number_of ys)) l
    ∙ bits_of-number_of ys

-- what is the same so far, and a run more
pub same_further : (xs ys : List Bool) (at width : ℕ) → length xs ≡ length ys → at + width ≤ length xs → take at xs ≡ take at ys → number_of (slice_range xs at (at + width)) ≡ number_of (slice_range ys at (at + width)) → take (at + width) xs ≡ take (at + width) ys
same_further xs ys at width l h so_far n =
    let w : at + width - at ≡ width = omega arith in
    let left : length (drop at xs) ≡ length xs - at = length-drop at xs in
    let right : length (drop at ys) ≡ length ys - at = length-drop at ys in
    let long : length (take width (drop at xs)) ≡ width = length-take-le width (drop at xs) (omega arith) in
    let wide : length (take width (drop at ys)) ≡ width = length-take-le width (drop at ys) (omega arith) in
    let number : number_of (take width (drop at xs)) ≡ number_of (take width (drop at ys)) =
    ap (λ (k : ℕ). number_of (take k (drop at xs))) (sym w) ∙ n ∙ ap (λ (k : ℕ). number_of (take k (drop at ys))) w in
    take-add at width xs
    ∙ ap (λ (front : List Bool). front ++ take width (drop at xs)) so_far
    ∙ ap (λ (more : List Bool). take at ys ++ more) (same_number (take width (drop at xs)) (take width (drop at ys)) (long ∙ sym wide) number)
    ∙ sym (take-add at width ys)

-- what decides whether lists of bits are the same says what the test of each pair says
pub tested : (xs ys : List Bool) (r : Bool) → Decides r (xs ≡ ys) → r ≡ pointwise beq xs ys
tested xs ys r d = same_from_decides r (pointwise beq xs ys) d (pointwise_decides booleans_Decides xs ys)
