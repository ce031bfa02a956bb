-- Bytes in hexadecimal, a block of sixteen at a time.
use Rattle.std.proofs.Common.{◌≡◌, ℕ, zero, suc, ◌+◌, ◌*◌, ◌/◌, ◌%◌, ◌<◌, ◌≤◌, Bool, true, ◌&&◌, eqb, bit_and, w8, Fits, List, [], ◌∷◌, ◌++◌, map, length, get_or, take, drop, take-take, refl, sym, ap, ◌∙◌, subst, inl, inr, arith, take-add}
use Rattle.std.proofs.lemmas.Bool.{and_parts, cases_lt, eqb-true}
use Rattle.std.proofs.lemmas.Nat.{and_mask}
use Rattle.std.proofs.lemmas.List.{get_or-map, length-map, ext_get_or, length-take-le, take-append-drop, take_all}
use Rattle.std.proofs.lemmas.List.Concat.{flat_map-append}
use Rattle.std.proofs.lemmas.Simd.{Each1-get_or, SwzOk, SwzOk-from_below, below_from_Fits, swz_l, length-swz_l, get_or-swz_l_below, pick_l_whole, length-chunk, take_more_put_chunk}
use Rattle.std.proofs.Math.Seq.{take-append_seam}
use lib.Lanes.{Each1, pick_l, put_chunk, chunk}
use Rattle.ncp_play_buffer.specs.Lines.{hex_digit, hex_byte, hex_of}
use Rattle.ncp_play_buffer.specs.declared.hex.TheConstants.{DIGITS}

-- ---- the digits

-- the first n entries of the table are the digits of their indices
abbrev holds_digits : ℕ → Bool
holds_digits zero = true
holds_digits (suc n) = eqb (get_or DIGITS n 0) (hex_digit n) && holds_digits n

pub digit_below : (n k : ℕ) → holds_digits n ≡ true → k < n → get_or DIGITS k 0 ≡ hex_digit k
digit_below zero k h lt = absurd (omega arith)
digit_below (suc n) k h lt =
    let parts = and_parts (eqb (get_or DIGITS n 0) (hex_digit n)) (holds_digits n) h in
    elim (cases_lt k n) [
      | inl below ↦ digit_below n k parts.1 below
      | inr top ↦
          let e : n ≡ k = omega arith in
          subst (λ (m : ℕ). get_or DIGITS m 0 ≡ hex_digit m) e (eqb-true (get_or DIGITS n 0) (hex_digit n) parts.0)
    ]

-- ---- a block

abbrev pub IsBlock : List ℕ → Type 0
IsBlock bytes = (length bytes ≡ 16) × Each1 (Fits w8) bytes

-- numbers below 16, one for each byte
module _ (number : ℕ → ℕ) (small : (byte : ℕ) → byte < 256 → number byte < 16) where
  below : (bytes : List ℕ) → Each1 (λ byte. byte < 256) bytes → Each1 (λ n. n < 16) (map number bytes)
  below [] h = tt
  below (byte ∷ bytes) h = (small byte h.0, below bytes h.1)

  pub can_look_up : (bytes places : List ℕ) → IsBlock bytes → places ≡ map number bytes → SwzOk w8 16 16 0 places
  can_look_up bytes places block is =
      let long : length places ≡ 16 = ap length is ∙ length-map bytes number ∙ block.0 in
      SwzOk-from_below w8 16 1 16 0 places refl (omega (arith, long))
      (subst (λ (ns : List ℕ). Each1 (λ n. n < 16) ns) (sym is) (below bytes (below_from_Fits w8 bytes block.1)))

  pub looked_up : (bytes places : List ℕ) → IsBlock bytes → places ≡ map number bytes → swz_l w8 16 DIGITS 0 places ≡ map (λ byte. hex_digit (number byte)) bytes
  looked_up bytes places block is =
      let long : length places ≡ 16 = ap length is ∙ length-map bytes number ∙ block.0 in
      let count = length-swz_l w8 16 DIGITS 0 places in
      ext_get_or 0 _ _ (count ∙ long ∙ sym (length-map bytes (λ byte. hex_digit (number byte)) ∙ block.0)) (λ i h.
      let within : i < length bytes = omega (arith, count, block.0) in
      let at : get_or places i 0 ≡ number (get_or bytes i 0) = ap (λ ns. get_or ns i 0) is ∙ get_or-map number bytes i 0 0 within in
      let byte = Each1-get_or (λ byte. byte < 256) bytes i 0 within (below_from_Fits w8 bytes block.1) in
      let place : get_or places i 0 < 16 = omega (arith, small (get_or bytes i 0) byte) in
      let same : 16 * ((0 + i) / 16) + get_or places i 0 ≡ number (get_or bytes i 0) = omega (arith, block.0) in
      get_or-swz_l_below w8 16 DIGITS 0 places i (omega (arith, long, block.0)) place
      ∙ ap (λ k. get_or DIGITS k 0) same
      ∙ digit_below 16 (number (get_or bytes i 0)) refl (small (get_or bytes i 0) byte)
      ∙ sym (get_or-map (λ byte. hex_digit (number byte)) bytes i 0 0 within))

pub masked : (bytes : List ℕ) → map (λ byte. bit_and byte 15) bytes ≡ map (λ byte. byte % 16) bytes
masked [] = refl
masked (byte ∷ bytes) = λ i. and_mask byte 4 i ∷ masked bytes i

-- the order of the digits: the first digits of a block have the indices from 0, the second ones from 16
abbrev pub side_by_side : List ℕ
side_by_side = 0 ∷ 16 ∷ 1 ∷ 17 ∷ 2 ∷ 18 ∷ 3 ∷ 19 ∷ 4 ∷ 20 ∷ 5 ∷ 21 ∷ 6 ∷ 22 ∷ 7 ∷ 23 ∷ 8 ∷ 24 ∷ 9 ∷ 25 ∷ 10 ∷ 26 ∷ 11 ∷ 27 ∷ 12 ∷ 28 ∷ 13 ∷ 29 ∷ 14 ∷ 30 ∷ 15 ∷ 31 ∷ []

pub woven : (bytes : List ℕ) → length bytes ≡ 16 → pick_l 0 (map (λ byte. hex_digit (byte / 16)) bytes ++ map (λ byte. hex_digit (byte % 16)) bytes) side_by_side ≡ hex_of bytes
woven bytes long =
    subst (λ (bs : List ℕ). pick_l 0 (map (λ byte. hex_digit (byte / 16)) bs ++ map (λ byte. hex_digit (byte % 16)) bs) side_by_side ≡ hex_of bs)
    (pick_l_whole 0 bytes 16 long) refl

-- ---- block by block

length-hex : (bytes : List ℕ) → length (hex_of bytes) ≡ 2 * length bytes
length-hex [] = refl
length-hex (byte ∷ bytes) = omega (arith, length-hex bytes)

pub block_written : (out bytes digits : List ℕ) (at : ℕ) → at + 16 ≤ length bytes → length out ≡ 2 * length bytes → take (2 * at) out ≡ hex_of (take at bytes) → digits ≡ hex_of (chunk at 16 bytes)
    → take (2 * (at + 16)) (put_chunk (2 * at) out digits) ≡ hex_of (take (at + 16) bytes)
block_written out bytes digits at within room front is =
    let long : length digits ≡ 32 = ap length is ∙ length-hex (chunk at 16 bytes) ∙ ap (λ m. 2 * m) (length-chunk at 16 bytes within) in
    take_more_put_chunk (2 * at) out digits (2 * (at + 16)) (omega (arith, long)) (omega arith)
    ∙ (λ i. front i ++ is i)
    ∙ sym (flat_map-append hex_byte (take at bytes) (chunk at 16 bytes))
    ∙ ap hex_of (sym (take-add at 16 bytes))

-- a prefix of the bytes written is the digits of a prefix of the bytes
pub front_written : (out bytes : List ℕ) (at more : ℕ) → at ≤ more → more ≤ length bytes → take (2 * more) out ≡ hex_of (take more bytes) → take (2 * at) out ≡ hex_of (take at bytes)
front_written out bytes at more less within front =
    let split : take at bytes ++ drop at (take more bytes) ≡ take more bytes = ap (λ xs. xs ++ drop at (take more bytes)) (sym (take-take at more bytes less)) ∙ take-append-drop at (take more bytes) in
    let long : length (hex_of (take at bytes)) ≡ 2 * at = length-hex (take at bytes) ∙ ap (λ m. 2 * m) (length-take-le at bytes (omega arith)) in
    sym (take-take (2 * at) (2 * more) out (omega arith))
    ∙ ap (take (2 * at)) (front ∙ ap hex_of (sym split) ∙ flat_map-append hex_byte (take at bytes) (drop at (take more bytes)))
    ∙ ap (λ m. take m (hex_of (take at bytes) ++ hex_of (drop at (take more bytes)))) (sym long)
    ∙ take-append_seam (hex_of (take at bytes)) (hex_of (drop at (take more bytes)))

-- and if that prefix is everything, all digits are written
pub all_written : (out bytes : List ℕ) (count : ℕ) → count ≡ length bytes → length out ≡ 2 * length bytes → take (2 * count) out ≡ hex_of (take count bytes) → out ≡ hex_of bytes
all_written out bytes count is room front = sym (take_all (2 * count) out (omega arith)) ∙ front ∙ ap hex_of (take_all count bytes (omega arith))
