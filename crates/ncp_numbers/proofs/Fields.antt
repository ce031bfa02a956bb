-- Numbers that stand in a row in a list of bits.
use Rattle.std.proofs.Common.{◌≡◌, ℕ, ◌+◌, ◌^◌, ◌<◌, ◌≤◌, Bool, List, ◌++◌, length, take, drop, slice_range, sym, ap, ◌∙◌, arith}
use Rattle.std.proofs.lemmas.List.{length-take-le, length-drop, drop-drop, take-append-drop}
use Rattle.std.proofs.Math.Nat.{mod-eq_of_lt}
use Rattle.ncp_numbers.specs.Numbers.{number_of, bits_of}
use Rattle.ncp_numbers.proofs.Numbers.{bits_of-number_of, number_of-bits_of}

-- what is left at a place begins with the bits of the number that is read there
pub field_rest : (bits : List Bool) (at width : ℕ) → at + width ≤ length bits → drop at bits ≡ bits_of width (number_of (slice_range bits at (at + width))) ++ drop (at + width) bits
field_rest bits at width h =
    let s : slice_range bits at (at + width) ≡ take width (drop at bits) = ap (λ (n : ℕ). take n (drop at bits)) (omega arith) in
    let l : length (take width (drop at bits)) ≡ width = length-take-le width (drop at bits) (simp length-drop (omega arith)) in
    let n : bits_of width (number_of (slice_range bits at (at + width))) ≡ take width (drop at bits) =
    ap (λ xs. bits_of width (number_of xs)) s ∙ ap (λ (k : ℕ). bits_of k (number_of (take width (drop at bits)))) (sym l) ∙ bits_of-number_of (take width (drop at bits)) in
    sym (ap (λ xs. xs ++ drop (at + width) bits) n ∙ ap (λ xs. take width (drop at bits) ++ xs) (sym (drop-drop width at bits)) ∙ take-append-drop width (drop at bits))

-- a number that fits is spelled by its bits
pub number_of-fitting : (width number : ℕ) → number < 2 ^ width → number_of (bits_of width number) ≡ number
number_of-fitting width number h = number_of-bits_of width number ∙ mod-eq_of_lt h
