-- Shifted numbers, and the bits in front of a place and behind it.
use Rattle.std.proofs.Common.{◌≡◌, ℕ, suc, zero, ◌+◌, ◌*◌, ◌/◌, ◌%◌, ◌-◌, ◌^◌, ◌<◌, ◌≤◌, Bool, true, false, eqb, bit_or, List, [], ◌∷◌, ◌++◌, length, take, drop, refl, sym, ap, ◌∙◌, arith}
use Rattle.std.proofs.lemmas.List.{length-append}
use Rattle.std.proofs.lemmas.Nat.{pow-add, shl-shr, shr-shr, field_of, mod-pow-add, or_shifted, pow_pos, shr_split, shr_below, shl_below, shl_whole, mod-mul-add}
use Rattle.std.proofs.Math.Nat.{mod-eq_of_lt}
use Rattle.ncp_numbers.specs.Numbers.{number_of, bits_of, bit_of}
use Rattle.ncp_numbers.proofs.Numbers.{length-bits_of, number_of-bits_of, bits_of-low}

-- the last bits of a number
pub drop-bits_of : (s w v : ℕ) → drop s (bits_of (s + w) v) ≡ bits_of w v
unfolding bits_of
drop-bits_of zero w v = ap (λ (k : ℕ). bits_of k v) (omega arith)
drop-bits_of (suc s) w v = let e : suc s + w ≡ suc (s + w) = omega arith in rw e (drop-bits_of s w v)

-- the lowest bits of a number are those of its rest
pub bits_of-mod : (w v : ℕ) → bits_of w (v % 2 ^ w) ≡ bits_of w v
bits_of-mod w v =
    let n : w + 0 ≡ w = omega arith in
    let e : v % 2 ^ w + v / 2 ^ w * 2 ^ (w + 0) ≡ v = rw n (omega (arith, shr_split v w)) in
    sym (bits_of-low w 0 (v / 2 ^ w) (v % 2 ^ w)) ∙ ap (bits_of w) e

-- the first bits of a number
pub take-bits_of : (n m v : ℕ) → take n (bits_of (n + m) v) ≡ bits_of n (v / 2 ^ m)
unfolding bits_of
take-bits_of zero m v = refl
take-bits_of (suc n) m v =
    let e : v / 2 ^ (n + m) ≡ v / 2 ^ m / 2 ^ n = ap (λ (k : ℕ). v / 2 ^ k) (omega arith) ∙ sym (shr-shr v m n) in
    let s : suc n + m ≡ suc (n + m) = omega arith in
    rw s (ap (λ (k : ℕ). eqb (k % 2) 1 ∷ take n (bits_of (n + m) v)) e ∙ ap (λ bits. bit_of (v / 2 ^ m) n ∷ bits) (take-bits_of n m v))

-- one number's bits behind another's
pub number_of-append : (xs ys : List Bool) → number_of (xs ++ ys) ≡ number_of xs * 2 ^ length ys + number_of ys
unfolding number_of
number_of-append [] ys = omega arith
number_of-append (true ∷ xs) ys =
    let h : number_of (xs ++ ys) ≡ number_of xs * 2 ^ length ys + number_of ys = number_of-append xs ys in
    rw (length-append xs ys, h, pow-add 2 (length xs) (length ys)) (omega arith)
number_of-append (false ∷ xs) ys =
    let h : number_of (xs ++ ys) ≡ number_of xs * 2 ^ length ys + number_of ys = number_of-append xs ys in
    omega arith

-- the number that some bits of a number spell
pub number_of-part : (s n m v : ℕ) → number_of (take n (drop s (bits_of (s + (n + m)) v))) ≡ v / 2 ^ m % 2 ^ n
number_of-part s n m v = ap (λ bits. number_of (take n bits)) (drop-bits_of s (n + m) v) ∙ ap number_of (take-bits_of n m v) ∙ number_of-bits_of n (v / 2 ^ m)

-- a byte's bits from a place on, by two shifts
pub shifted_part : (byte skip count : ℕ) → skip + count ≤ 8 → byte * 2 ^ skip % 2 ^ 8 / 2 ^ (8 - count) ≡ number_of (take count (drop skip (bits_of 8 byte)))
shifted_part byte skip count h =
    let a : 8 ≡ count + (8 - count) = omega arith in
    let b : 8 - count ≡ skip + (8 - skip - count) = omega arith in
    let d : skip + (count + (8 - skip - count)) ≡ 8 = omega arith in
    ap (λ (k : ℕ). byte * 2 ^ skip % 2 ^ k / 2 ^ (8 - count)) a
    ∙ field_of (byte * 2 ^ skip) count (8 - count)
    ∙ ap (λ (k : ℕ). byte * 2 ^ skip / 2 ^ k % 2 ^ count) b
    ∙ ap (λ (k : ℕ). k % 2 ^ count) (sym (shr-shr (byte * 2 ^ skip) skip (8 - skip - count)) ∙ ap (λ (k : ℕ). k / 2 ^ (8 - skip - count)) (shl-shr byte skip))
    ∙ sym (number_of-part skip count (8 - skip - count) byte)
    ∙ ap (λ (k : ℕ). number_of (take count (drop skip (bits_of k byte)))) d

-- a bound by an equal power
pub ap_lt : (n j k : ℕ) → j ≡ k → n < 2 ^ j → n < 2 ^ k
ap_lt n j k e h = rw e at h

-- what a shift to the left leaves
pub shl-mod : (v s n : ℕ) → v * 2 ^ s % 2 ^ (n + s) ≡ v % 2 ^ n * 2 ^ s
shl-mod v s n =
    let none : v * 2 ^ s % 2 ^ s ≡ 0 = ap (λ (k : ℕ). k % 2 ^ s) (omega arith) ∙ mod-mul-add v (2 ^ s) 0 (pow_pos s) in
    mod-pow-add (v * 2 ^ s) n s ∙ ap (λ (k : ℕ). k % 2 ^ n * 2 ^ s + v * 2 ^ s % 2 ^ s) (shl-shr v s) ∙ ap (λ (k : ℕ). v % 2 ^ n * 2 ^ s + k) none ∙ omega arith

-- a byte that begins behind the first of two, by two shifts
pub shifted_across : (first second skip : ℕ) → second < 2 ^ 8 → skip ≤ 8 → bit_or (first * 2 ^ skip % 2 ^ 8) (second / 2 ^ (8 - skip)) ≡ number_of (drop skip (bits_of 8 first) ++ take skip (bits_of 8 second))
shifted_across first second skip small h =
    let a : 8 ≡ (8 - skip) + skip = omega arith in
    let b : skip + (8 - skip) ≡ 8 = omega arith in
    let low : second / 2 ^ (8 - skip) < 2 ^ skip = shr_below second skip (8 - skip) (ap_lt second 8 (skip + (8 - skip)) (sym b) small) in
    let front : first * 2 ^ skip % 2 ^ 8 ≡ first % 2 ^ (8 - skip) * 2 ^ skip = ap (λ (k : ℕ). first * 2 ^ skip % 2 ^ k) a ∙ shl-mod first skip (8 - skip) in
    let high : number_of (drop skip (bits_of 8 first)) ≡ first % 2 ^ (8 - skip) = ap (λ (k : ℕ). number_of (drop skip (bits_of k first))) (sym b) ∙ ap number_of (drop-bits_of skip (8 - skip) first) ∙ number_of-bits_of (8 - skip) first in
    let tail : take skip (bits_of 8 second) ≡ bits_of skip (second / 2 ^ (8 - skip)) = ap (λ (k : ℕ). take skip (bits_of k second)) (sym b) ∙ take-bits_of skip (8 - skip) second in
    let last : number_of (take skip (bits_of 8 second)) ≡ second / 2 ^ (8 - skip) = ap number_of tail ∙ number_of-bits_of skip (second / 2 ^ (8 - skip)) ∙ mod-eq_of_lt low in
    let long : length (take skip (bits_of 8 second)) ≡ skip = ap length tail ∙ length-bits_of skip (second / 2 ^ (8 - skip)) in
    ap (λ (k : ℕ). bit_or k (second / 2 ^ (8 - skip))) front
    ∙ or_shifted (first % 2 ^ (8 - skip)) skip (second / 2 ^ (8 - skip)) low
    ∙ sym (
    number_of-append (drop skip (bits_of 8 first)) (take skip (bits_of 8 second))
    ∙ ap (λ (k : ℕ). k * 2 ^ length (take skip (bits_of 8 second)) + number_of (take skip (bits_of 8 second))) high
    ∙ ap (λ (k : ℕ). first % 2 ^ (8 - skip) * 2 ^ k + number_of (take skip (bits_of 8 second))) long
    ∙ ap (λ (k : ℕ). first % 2 ^ (8 - skip) * 2 ^ skip + k) last)

-- a byte's first bits, the bits of a number behind them, and zeros
pub shifted_join : (byte kept number count : ℕ) → byte < 2 ^ 8 → kept + count ≤ 8 → number < 2 ^ count
    → bit_or (byte / 2 ^ (8 - kept) * 2 ^ (8 - kept) % 2 ^ 8) (number * 2 ^ (8 - kept - count) % 2 ^ 8) ≡ number_of (take kept (bits_of 8 byte)) * 2 ^ (8 - kept) + number * 2 ^ (8 - kept - count)
shifted_join byte kept number count small h fits =
    let b : kept + (8 - kept) ≡ 8 = omega arith in
    let e : count + (8 - kept - count) ≡ 8 - kept = omega arith in
    let high : byte / 2 ^ (8 - kept) < 2 ^ kept = shr_below byte kept (8 - kept) (ap_lt byte 8 (kept + (8 - kept)) (sym b) small) in
    let front : byte / 2 ^ (8 - kept) * 2 ^ (8 - kept) % 2 ^ 8 ≡ byte / 2 ^ (8 - kept) * 2 ^ (8 - kept) = shl_whole (byte / 2 ^ (8 - kept)) kept (8 - kept) 8 high (omega arith) in
    let back : number * 2 ^ (8 - kept - count) % 2 ^ 8 ≡ number * 2 ^ (8 - kept - count) = shl_whole number count (8 - kept - count) 8 fits (omega arith) in
    let low : number * 2 ^ (8 - kept - count) < 2 ^ (8 - kept) = ap_lt (number * 2 ^ (8 - kept - count)) (count + (8 - kept - count)) (8 - kept) e (shl_below number count (8 - kept - count) fits) in
    let spelled : number_of (take kept (bits_of 8 byte)) ≡ byte / 2 ^ (8 - kept) =
    ap (λ (k : ℕ). number_of (take kept (bits_of k byte))) (sym b) ∙ ap number_of (take-bits_of kept (8 - kept) byte) ∙ number_of-bits_of kept (byte / 2 ^ (8 - kept)) ∙ mod-eq_of_lt high in
    ap (λ (k : ℕ). bit_or k (number * 2 ^ (8 - kept - count) % 2 ^ 8)) front
    ∙ ap (bit_or (byte / 2 ^ (8 - kept) * 2 ^ (8 - kept))) back
    ∙ or_shifted (byte / 2 ^ (8 - kept)) (8 - kept) (number * 2 ^ (8 - kept - count)) low
    ∙ ap (λ (k : ℕ). k * 2 ^ (8 - kept) + number * 2 ^ (8 - kept - count)) (sym spelled)
