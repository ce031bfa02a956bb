-- The number that bits spell, and the bits of a number.
use Rattle.std.proofs.Common.{◌≡◌, ℕ, suc, zero, ◌+◌, ◌*◌, ◌/◌, ◌%◌, ◌^◌, ◌<◌, ◌≤◌, Bool, true, false, cond, eqb, bit_and, ◌-◌, add-one, take, get_or, slice_range, replicate, List, [], ◌∷◌, ◌++◌, length, ◌⊎◌, inl, inr, refl, sym, ap, ◌∙◌, arith}
use Rattle.std.proofs.lemmas.List.{length_push, length-take, take_more, append_assoc, append-nil}
use Rattle.std.proofs.lemmas.Nat.{mod-pow-add, mod_below, and_mask, pow-add, pow_pos, div-mul-add}
use Rattle.std.proofs.Math.Nat.{add-mul-div_right, div-eq_of_lt}
use Rattle.std.proofs.Math.Pow.{pow_mono}
use Rattle.std.specs.Int.{from_bool}
use Rattle.ncp_numbers.specs.Numbers.{number_of, bits_of, bit_of}

pub pow-suc : (n : ℕ) → 2 ^ suc n ≡ 2 * 2 ^ n
pow-suc n = omega arith

-- one bit more doubles what was there
pub number_of-push : (bits : List Bool) (bit : Bool) → number_of (bits ++ bit ∷ []) ≡ 2 * number_of bits + cond bit 1 0
unfolding number_of
number_of-push [] true = refl
number_of-push [] false = refl
number_of-push (true ∷ bits) bit =
    let h : number_of (bits ++ bit ∷ []) ≡ 2 * number_of bits + cond bit 1 0 = number_of-push bits bit in
    let p : 2 ^ length (bits ++ bit ∷ []) ≡ 2 * 2 ^ length bits = rw (length_push, add-one) (pow-suc (length bits)) in
    omega arith
number_of-push (false ∷ bits) bit =
    let h : number_of (bits ++ bit ∷ []) ≡ 2 * number_of bits + cond bit 1 0 = number_of-push bits bit in
    omega arith

pub number_of-fits : (bits : List Bool) → number_of bits < 2 ^ length bits
unfolding number_of
number_of-fits [] = omega arith
number_of-fits (true ∷ bits) =
    let h : number_of bits < 2 ^ length bits = number_of-fits bits in
    let p : 2 ^ length (true ∷ bits) ≡ 2 * 2 ^ length bits = pow-suc (length bits) in
    omega arith
number_of-fits (false ∷ bits) =
    let h : number_of bits < 2 ^ length bits = number_of-fits bits in
    let p : 2 ^ length (false ∷ bits) ≡ 2 * 2 ^ length bits = pow-suc (length bits) in
    omega arith

pub length-bits_of : (width number : ℕ) → length (bits_of width number) ≡ width
unfolding bits_of
length-bits_of zero number = refl
length-bits_of (suc width) number = ap suc (length-bits_of width number)

-- a bit and its weight
weighs : (bit weight : ℕ) → bit < 2 → cond (eqb bit 1) weight 0 ≡ bit * weight
weighs zero weight h = omega arith
weighs (suc zero) weight h = omega arith
weighs (suc (suc n)) weight h = absurd (omega arith)

-- what the bits of a number spell
pub number_of-bits_of : (width number : ℕ) → number_of (bits_of width number) ≡ number % 2 ^ width
unfolding number_of bits_of
number_of-bits_of zero number = omega arith
number_of-bits_of (suc width) number =
    let h : number_of (bits_of width number) ≡ number % 2 ^ width = number_of-bits_of width number in
    rw (length-bits_of width number, h, weighs (number / 2 ^ width % 2) (2 ^ width) (mod_below _ 2 (omega arith)))
    (let e : suc width ≡ 1 + width = omega arith in rw e (sym (mod-pow-add number 1 width)))

byte_of_bit : (bit : Bool) → cond bit 1 0 ≡ from_bool bit
byte_of_bit true = refl
byte_of_bit false = refl

-- the next bit of a run
pub number_of-more : (bits : List Bool) (i : ℕ) → i < length bits → number_of (take (i + 1) bits) ≡ 2 * number_of (take i bits) + from_bool (get_or bits i false)
number_of-more bits i h =
    ap number_of (take_more bits i false h) ∙ number_of-push (take i bits) (get_or bits i false)
    ∙ ap (λ (n : ℕ). 2 * number_of (take i bits) + n) (byte_of_bit (get_or bits i false))

pub number_of-below : (bits : List Bool) (k : ℕ) → length bits ≤ k → number_of bits < 2 ^ k
number_of-below bits k h =
    let fits : number_of bits < 2 ^ length bits = number_of-fits bits in
    let more : 2 ^ length bits ≤ 2 ^ k = pow_mono h in
    omega arith

-- a front of a run fits as well
pub number_of-front : (bits : List Bool) (i k : ℕ) → length bits ≤ k → number_of (take i bits) < 2 ^ k
number_of-front bits i k h = number_of-below (take i bits) k (simp length-take (omega arith))

pub number_of_range : (bits : List Bool) (at width : ℕ) → number_of (slice_range bits at (at + width)) < 2 ^ width
number_of_range bits at width = number_of-below (slice_range bits at (at + width)) width (simp length-take (omega arith))

-- the loop that takes a number apart, one bit on
pub bits_of-more : (items : List Bool) (left value : ℕ) → 0 < left → (items ++ (eqb (bit_and (value / 2 ^ (left - 1)) 1) 1) ∷ []) ++ bits_of (left - 1) value ≡ items ++ bits_of left value
unfolding bits_of
bits_of-more items zero value h = absurd (omega arith)
bits_of-more items (suc left) value h =
    let e : suc left - 1 ≡ left = omega arith in
    rw (e, and_mask (value / 2 ^ left) 1, append_assoc) refl

pub bits_of-none : (items : List Bool) (left value : ℕ) → left ≤ 0 → items ≡ items ++ bits_of left value
unfolding bits_of
bits_of-none items zero value h = sym (append-nil items)
bits_of-none items (suc left) value h = absurd (omega arith)

suc_first : (a b : ℕ) → suc a + b ≡ suc b + a
suc_first a b = omega arith

suc_second : (a b : ℕ) → suc a + b ≡ a + suc b
suc_second a b = omega arith

-- what lies above the bits of a number
pub bits_of-low : (width more a r : ℕ) → bits_of width (r + a * 2 ^ (width + more)) ≡ bits_of width r
unfolding bits_of
bits_of-low zero more a r = refl
bits_of-low (suc width) more a r =
    let e : a * 2 ^ (suc width + more) ≡ (2 * (a * 2 ^ more)) * 2 ^ width = rw (suc_first width more, pow-add 2 (suc more) width, pow-suc more) (omega arith) in
    let q : (r + a * 2 ^ (suc width + more)) / 2 ^ width ≡ r / 2 ^ width + 2 * (a * 2 ^ more) = ap (λ (n : ℕ). (r + n) / 2 ^ width) e ∙ add-mul-div_right r (2 * (a * 2 ^ more)) (pow_pos width) in
    let b : bit_of (r + a * 2 ^ (suc width + more)) width ≡ bit_of r width = ap (λ (n : ℕ). eqb (n % 2) 1) q ∙ ap (λ (n : ℕ). eqb n 1) (omega arith) in
    let t : bits_of width (r + a * 2 ^ (suc width + more)) ≡ bits_of width r = ap (λ (n : ℕ). bits_of width (r + a * 2 ^ n)) (suc_second width more) ∙ bits_of-low width (suc more) a r in
    ap (λ bit. bit ∷ bits_of width (r + a * 2 ^ (suc width + more))) b ∙ ap (λ bits. bit_of r width ∷ bits) t

-- a number in more bits than it needs: zeros in front
pub bits_of-wide : (more width v : ℕ) → v < 2 ^ width → bits_of (more + width) v ≡ replicate more false ++ bits_of width v
unfolding bits_of
bits_of-wide zero width v h = ap (λ (n : ℕ). bits_of n v) (omega arith)
bits_of-wide (suc more) width v h =
    let e : suc more + width ≡ suc (more + width) = omega arith in
    let room : 2 ^ width ≤ 2 ^ (more + width) = pow_mono (omega arith) in
    let none : v / 2 ^ (more + width) ≡ 0 = div-eq_of_lt (omega arith) in
    rw e (ap (λ (n : ℕ). eqb (n % 2) 1 ∷ bits_of (more + width) v) none ∙ ap (λ bits. false ∷ bits) (bits_of-wide more width v h))

-- a number of so many bits in any width
pub bits_of-spelled : (width least spelled v : ℕ) → (spelled ≡ width) ⊎ (spelled ≡ least) → spelled ≤ width → v < 2 ^ least → replicate (width - spelled) false ++ bits_of spelled v ≡ bits_of width v
bits_of-spelled width least spelled v (inl e) h fits =
    let none : width - spelled ≡ 0 = omega arith in
    rw (none, e) refl
bits_of-spelled width least spelled v (inr e) h fits =
    let whole : width - least + least ≡ width = omega arith in
    rw e (sym (bits_of-wide (width - least) least v fits) ∙ ap (λ (n : ℕ). bits_of n v) whole)

-- bits are those of the number that they spell
pub bits_of-number_of : (bits : List Bool) → bits_of (length bits) (number_of bits) ≡ bits
unfolding bits_of number_of
bits_of-number_of [] = refl
bits_of-number_of (true ∷ bits) =
    let fits : number_of bits < 2 ^ length bits = number_of-fits bits in
    let q : (2 ^ length bits + number_of bits) / 2 ^ length bits ≡ 1 = ap (λ (n : ℕ). n / 2 ^ length bits) (omega arith) ∙ div-mul-add 1 (2 ^ length bits) (number_of bits) fits in
    let none_more : 2 ^ (length bits + 0) ≡ 2 ^ length bits = ap (λ (n : ℕ). 2 ^ n) (omega arith) in
    let t : bits_of (length bits) (2 ^ length bits + number_of bits) ≡ bits = ap (bits_of (length bits)) (omega (arith, none_more)) ∙ bits_of-low (length bits) 0 1 (number_of bits) ∙ bits_of-number_of bits in
    ap (λ (n : ℕ). eqb (n % 2) 1 ∷ bits_of (length bits) (2 ^ length bits + number_of bits)) q ∙ ap (λ xs. true ∷ xs) t
bits_of-number_of (false ∷ bits) =
    let fits : number_of bits < 2 ^ length bits = number_of-fits bits in
    let z : 0 + number_of bits ≡ number_of bits = omega arith in
    let q : number_of bits / 2 ^ length bits ≡ 0 = ap (λ (n : ℕ). n / 2 ^ length bits) (omega arith) ∙ div-mul-add 0 (2 ^ length bits) (number_of bits) fits in
    rw z (ap (λ (n : ℕ). eqb (n % 2) 1 ∷ bits_of (length bits) (number_of bits)) q ∙ ap (λ xs. false ∷ xs) (bits_of-number_of bits))
