-- The first bits of a text, zeros for what is not there.
use Rattle.std.proofs.Common.{◌≡◌, ℕ, zero, suc, ◌+◌, ◌-◌, ◌≤◌, Bool, false, List, ◌++◌, take, length, inl, inr, refl, sym, ap, ◌∙◌, arith, min}
use Rattle.std.specs.Prelude.{replicate, slice_range}
use Rattle.std.proofs.lemmas.Bool.{cases_lt}
use Rattle.std.proofs.lemmas.List.{append-nil, take-append-le}
use Rattle.std.proofs.Math.Seq.{take-append-add, take-length}
use Rattle.ncp_numbers.specs.Numbers.{bits_of}

zeros : (w : ℕ) → w ≤ 8 → bits_of w 0 ≡ take w (replicate 8 false)
unfolding bits_of
zeros zero h = refl
zeros (suc zero) h = refl
zeros (suc (suc zero)) h = refl
zeros (suc (suc (suc zero))) h = refl
zeros (suc (suc (suc (suc zero)))) h = refl
zeros (suc (suc (suc (suc (suc zero))))) h = refl
zeros (suc (suc (suc (suc (suc (suc zero)))))) h = refl
zeros (suc (suc (suc (suc (suc (suc (suc zero))))))) h = refl
zeros (suc (suc (suc (suc (suc (suc (suc (suc zero)))))))) h = refl
zeros (suc (suc (suc (suc (suc (suc (suc (suc (suc w))))))))) h = absurd (omega arith)

many : (text : List Bool) → 8 ≤ length text → take 8 text ++ bits_of 0 0 ≡ take 8 (text ++ replicate 8 false)
unfolding bits_of
many text h = append-nil (take 8 text) ∙ sym (take-append-le 8 text (replicate 8 false) h)

few : (text : List Bool) (n : ℕ) → length text + n ≡ 8 → take (length text) text ++ bits_of n 0 ≡ take 8 (text ++ replicate 8 false)
few text n h =
    ap (λ xs. xs ++ bits_of n 0) (take-length text)
    ∙ ap (λ xs. text ++ xs) (zeros n (omega arith))
    ∙ sym (take-append-add text (replicate 8 false) n)
    ∙ ap (λ k. take k (text ++ replicate 8 false)) h

first : (text : List Bool) (k : ℕ) → slice_range text 0 (0 + k) ≡ take k text
first text k = let e : (0 + k) - 0 ≡ k = omega arith in ap (λ j. take j text) e

pub shown : (text : List Bool) (k : ℕ) → k ≡ min (length text) 8 → slice_range text 0 (0 + k) ++ bits_of (8 - k) 0 ≡ take 8 (text ++ replicate 8 false)
shown text k e = ap (λ xs. xs ++ bits_of (8 - k) 0) (first text k) ∙ elim (cases_lt 8 (length text)) [
  | inl h ↦ let k8 : k ≡ 8 = omega arith in let z : 8 - k ≡ 0 = omega arith in ap (λ j. take j text ++ bits_of (8 - k) 0) k8 ∙ ap (λ j. take 8 text ++ bits_of j 0) z ∙ many text (omega arith)
  | inr h ↦ let kl : k ≡ length text = omega arith in ap (λ j. take j text ++ bits_of (8 - j) 0) kl ∙ few text (8 - length text) (omega arith)
]
