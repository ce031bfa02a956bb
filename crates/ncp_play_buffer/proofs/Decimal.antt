-- Numbers in decimal.
use Rattle.std.proofs.Common.{◌≡◌, ℕ, zero, suc, ◌+◌, ◌*◌, ◌/◌, ◌%◌, ◌^◌, ◌<◌, ◌≤◌, Bool, true, false, ◌&&◌, eqb, nat_lt, if◌then◌else◌, List, [], ◌∷◌, ◌++◌, length, get_or, set, take, drop, take-take, refl, sym, ap, ◌∙◌, subst, inl, inr, arith}
use Rattle.std.specs.Fmt.{decimal}
use Rattle.std.proofs.Math.Seq.{take-append_seam, take-append-add}
use Rattle.std.proofs.lemmas.Bool.{and_parts, cases_lt, eqb-true, lt-ltb, le-ltb}
use Rattle.std.proofs.lemmas.List.{length-append, length-take-le, length-drop, take_at, take_more_set, append_assoc}
use Rattle.std.proofs.lemmas.Fmt.{decimal_step, decimal_digit}
use Rattle.std.proofs.lemmas.Simd.{put_chunk_is}
use borrow.Rule.Slice.PartMut.{mid_of, post_of, put_mid}
use Rattle.std.specs.Simd.Lanes.{put_chunk}
use Rattle.ncp_play_buffer.specs.declared.out_buffer.TheConstants.{BYTE_NUMBERS}

length-long : (n : ℕ) → 10 ≤ n → n < 2 ^ 64 → length (decimal n) ≡ length (decimal (n / 10)) + 1
length-long n h k = ap length (decimal_step n h k) ∙ length-append (decimal (n / 10)) ((48 + n % 10) ∷ [])

pub length-one : (n : ℕ) → n < 10 → length (decimal n) ≡ 1
length-one n h = ap length (decimal_digit n h)

pub length-two : (n : ℕ) → 10 ≤ n → n < 100 → length (decimal n) ≡ 2
length-two n h k = length-long n h (omega arith) ∙ ap (λ (len : ℕ). len + 1) (length-one (n / 10) (omega arith))

pub length-three : (n : ℕ) → 100 ≤ n → n < 1000 → length (decimal n) ≡ 3
length-three n h k = length-long n (omega arith) (omega arith) ∙ ap (λ (len : ℕ). len + 1) (length-two (n / 10) (omega arith) (omega arith))

pub length-four : (n : ℕ) → 1000 ≤ n → n < 10000 → length (decimal n) ≡ 4
length-four n h k = length-long n (omega arith) (omega arith) ∙ ap (λ (len : ℕ). len + 1) (length-three (n / 10) (omega arith) (omega arith))

-- four digits less
pub length-more : (n : ℕ) → 10000 ≤ n → n < 2 ^ 64 → length (decimal n) ≡ 4 + length (decimal (n / 10000))
length-more n h k =
    let less : n / 10 / 10 / 10 / 10 ≡ n / 10000 = omega arith in
    let fourth = length-long n (omega arith) k in
    let third = length-long (n / 10) (omega arith) (omega arith) in
    let second = length-long (n / 10 / 10) (omega arith) (omega arith) in
    let first = length-long (n / 10 / 10 / 10) (omega arith) (omega arith) in
    let same = ap (λ (m : ℕ). length (decimal m)) less in
    omega arith

-- eight digits less
pub length-much-more : (n : ℕ) → 100000000 ≤ n → n < 2 ^ 64 → length (decimal n) ≡ 8 + length (decimal (n / 100000000))
length-much-more n h k =
    let less : n / 10000 / 10000 ≡ n / 100000000 = omega arith in
    let second = length-more n (omega arith) k in
    let first = length-more (n / 10000) (omega arith) (omega arith) in
    let same = ap (λ (m : ℕ). length (decimal m)) less in
    omega arith

-- ---- a number in which only the last digit changes

pub some_digit : (n : ℕ) → n < 2 ^ 64 → 0 < length (decimal n)
some_digit n h =
    elim (cases_lt n 10) [
      | inl small ↦ omega (arith, length-one n small)
      | inr large ↦ omega (arith, length-long n large h)
    ]

pub last_digit : (digits : List ℕ) (at n m : ℕ) → n / 10 ≡ m / 10 → n < 2 ^ 64 → m < 2 ^ 64 → at + 1 ≤ length digits → take (at + 1) digits ≡ decimal n
    → take (at + 1) (set digits at (48 + m % 10)) ≡ decimal m
last_digit digits at n m same h k within is =
    let long : at + 1 ≡ length (decimal n) = sym (length-take-le (at + 1) digits within) ∙ ap length is in
    elim (cases_lt n 10) [
      | inl small ↦
          let alone : at ≡ 0 = omega (arith, length-one n small) in
          let digit : 48 + m % 10 ≡ 48 + m = omega arith in
          take_more_set digits at (48 + m % 10) (omega arith)
          ∙ ap (λ (i : ℕ). take i digits ++ ((48 + m % 10) ∷ [])) alone
          ∙ ap (λ (d : ℕ). d ∷ []) digit ∙ sym (decimal_digit m (omega arith))
      | inr large ↦
          let front = decimal (n / 10) in
          let more : at ≡ length front = omega (arith, length-long n large h) in
          let kept : take at digits ≡ front =
          sym (take-take at (at + 1) digits (omega arith)) ∙ ap (take at) (is ∙ decimal_step n large h)
          ∙ ap (λ (i : ℕ). take i (front ++ ((48 + n % 10) ∷ []))) more ∙ take-append_seam front ((48 + n % 10) ∷ []) in
          take_more_set digits at (48 + m % 10) (omega arith)
          ∙ ap (λ (ds : List ℕ). ds ++ ((48 + m % 10) ∷ [])) (kept ∙ ap decimal same)
          ∙ sym (decimal_step m (omega arith) k)
    ]

-- ---- blocks appended by a prefix

pub cut_piece : (out page piece : List ℕ) (len long count : ℕ) → length page ≡ len → count ≤ long → take (len + long) out ≡ page ++ piece → take (len + count) out ≡ page ++ take count piece
cut_piece out page piece len long count is less whole =
    sym (take-take (len + count) (len + long) out (omega arith))
    ∙ ap (take (len + count)) whole
    ∙ subst (λ (l : ℕ). take (l + count) (page ++ piece) ≡ page ++ take count piece) is (take-append-add page piece count)

-- a block that is written after a buffer's bytes, of which a prefix counts
pub block_begins : (bytes page block : List ℕ) (len room long count : ℕ) → len + room ≤ length bytes → long ≤ room → take len bytes ≡ page → length block ≡ long → count ≤ long
    → take (len + count) (put_mid len room bytes (put_chunk 0 (mid_of len room bytes) block)) ≡ page ++ take count block
block_begins bytes page block len room long count inside fits is whole less =
    let part = mid_of len room bytes in
    let tail = drop (length block) part in
    let post = post_of len room bytes in
    let within : length part ≡ room = length-take-le room (drop len bytes) (omega (arith, length-drop len bytes)) in
    let put : put_chunk 0 part block ≡ block ++ tail = put_chunk_is 0 part block (omega (arith, within, whole)) in
    let front : length (take len bytes) ≡ len = length-take-le len bytes (omega arith) in
    let split : put_mid len room bytes (put_chunk 0 part block) ≡ (take len bytes ++ block) ++ (tail ++ post) =
    ap (λ (xs : List ℕ). take len bytes ++ (xs ++ post)) put
    ∙ ap (λ (xs : List ℕ). take len bytes ++ xs) (append_assoc block tail post) ∙ sym (append_assoc (take len bytes) block (tail ++ post)) in
    cut_piece (put_mid len room bytes (put_chunk 0 part block)) page block len long count (sym (ap length is) ∙ front) less
    (ap (take (len + long)) split ∙ take_at (take len bytes ++ block) (tail ++ post) (len + long) (omega (arith, length-append (take len bytes) block, front, whole)) ∙ ap (λ (xs : List ℕ). xs ++ block) is)

-- ---- the numbers of a byte

abbrev digits_of : ℕ → List ℕ
digits_of n =
    if nat_lt n 10 then (48 + n) ∷ []
    else if nat_lt n 100 then (48 + n / 10) ∷ (48 + n % 10) ∷ []
    else (48 + n / 10 / 10) ∷ (48 + n / 10 % 10) ∷ (48 + n % 10) ∷ []

digits_are : (n : ℕ) → n < 256 → decimal n ≡ digits_of n
digits_are n h =
    elim (cases_lt n 10) [
      | inl one ↦ rw (lt-ltb n 10 one) (decimal_digit n one)
      | inr more ↦
          elim (cases_lt n 100) [
            | inl two ↦ rw (le-ltb n 10 more, lt-ltb n 100 two, decimal_step n more (omega arith), decimal_digit (n / 10) (omega arith)) refl
            | inr three ↦ rw (le-ltb n 10 more, le-ltb n 100 three, decimal_step n more (omega arith), decimal_step (n / 10) (omega arith) (omega arith), decimal_digit (n / 10 / 10) (omega arith)) refl
          ]
    ]

abbrev same : List ℕ → List ℕ → Bool
same [] [] = true
same [] (y ∷ ys) = false
same (x ∷ xs) [] = false
same (x ∷ xs) (y ∷ ys) = eqb x y && same xs ys

same-true : (xs ys : List ℕ) → same xs ys ≡ true → xs ≡ ys
same-true [] [] h = refl
same-true [] (y ∷ ys) h = absurd cc
same-true (x ∷ xs) [] h = absurd cc
same-true (x ∷ xs) (y ∷ ys) h =
    let parts = and_parts (eqb x y) (same xs ys) h in
    λ i. eqb-true x y parts.0 i ∷ same-true xs ys parts.1 i

-- four bytes of the table
abbrev row : ℕ → List ℕ
row n = get_or BYTE_NUMBERS (4 * n) 0 ∷ get_or BYTE_NUMBERS (4 * n + 1) 0 ∷ get_or BYTE_NUMBERS (4 * n + 2) 0 ∷ get_or BYTE_NUMBERS (4 * n + 3) 0 ∷ []

-- each of the first n rows of the table begins with the digits of its number
abbrev are_held : ℕ → Bool
are_held zero = true
are_held (suc n) = same (take (length (digits_of n)) (row n)) (digits_of n) && are_held n

held_at : (n k : ℕ) → are_held n ≡ true → k < n → take (length (digits_of k)) (row k) ≡ digits_of k
held_at zero k h lt = absurd (omega arith)
held_at (suc n) k h lt =
    let parts = and_parts (same (take (length (digits_of n)) (row n)) (digits_of n)) (are_held n) h in
    elim (cases_lt k n) [
      | inl below ↦ held_at n k parts.1 below
      | inr top ↦
          let e : n ≡ k = omega arith in
          subst (λ (m : ℕ). take (length (digits_of m)) (row m) ≡ digits_of m) e (same-true _ _ parts.0)
    ]

pub byte_known : (n : ℕ) → n < 256 → take (length (decimal n)) (row n) ≡ decimal n
byte_known n h =
    let is = digits_are n h in
    subst (λ (digits : List ℕ). take (length digits) (row n) ≡ digits) (sym is) (held_at 256 n refl h)
