-- Bits that are written behind other bits.
use Rattle.std.proofs.Common.{◌≡◌, ℕ, ◌+◌, ◌*◌, ◌-◌, ◌^◌, ◌<◌, ◌≤◌, Bool, false, List, [], ◌∷◌, ◌++◌, length, take, drop, get_or, set, suc, zero, Ok, replicate, min, ◌⊎◌, inl, inr, refl, sym, ap, ◌∙◌, arith}
use Rattle.std.proofs.lemmas.List.{length-append, length-replicate, take_all, take_at, drop_at, take-take, drop-take, drop_all, length-take-le, length-drop, take-append-drop, drop-append-le, append_assoc, append-nil, take_more_set, length-set}
use Rattle.std.specs.List.{list_any}
use Rattle.std.proofs.lemmas.List.Concat.{flat_map-append}
use Rattle.std.proofs.lemmas.List.FromFn.{length-map-range_with_len}
use Rattle.std.proofs.lemmas.Bool.{cases_lt}
use Rattle.std.proofs.lemmas.Nat.{pow-add}
use Rattle.std.proofs.Math.Seq.{take-add}
use Rattle.ncp_numbers.specs.Numbers.{number_of, bits_of}
use Rattle.ncp_numbers.specs.Bytes.{byte_bits, bits_of_bytes, bytes_for, spare_for, byte_of, bytes_of}
use Rattle.ncp_bits.specs.Bits.{read_bytes}
use Rattle.ncp_bits.specs.Packed.{bit_run}
use Rattle.ncp_numbers.proofs.Numbers.{bits_of-number_of}
use Rattle.ncp_bits.proofs.Enough.{read_bytes-ok}
use Rattle.ncp_numbers.proofs.Bytes.{length-bits_of_bytes, number_of-zeros}
use Rattle.ncp_numbers.proofs.Packing.{bits_of_bytes-bytes_of}
use Rattle.ncp_numbers.proofs.Shifts.{number_of-append}
use Rattle.ncp_bits.proofs.Runs.{length-byte_bits, run_in_byte}

pub length-bytes_of : (bits : List Bool) → length (bytes_of bits) ≡ bytes_for (length bits)
unfolding bytes_of
length-bytes_of bits = length-map-range_with_len (λ place. byte_of (drop (8 * place) bits)) 0 (bytes_for (length bits))

-- the bits of the first bytes
pub bits-take : (bytes : List ℕ) (k : ℕ) → k ≤ length bytes → bits_of_bytes (take k bytes) ≡ take (8 * k) (bits_of_bytes bytes)
bits-take bytes k h =
    let l : length (bits_of_bytes (take k bytes)) ≡ 8 * k = length-bits_of_bytes (take k bytes) ∙ ap (λ (n : ℕ). 8 * n) (length-take-le k bytes h) in
    sym (
    ap (take (8 * k)) (ap bits_of_bytes (sym (take-append-drop k bytes)) ∙ flat_map-append byte_bits (take k bytes) (drop k bytes))
    ∙ take_at (bits_of_bytes (take k bytes)) (bits_of_bytes (drop k bytes)) (8 * k) l)

-- the bits of bytes up to the last of some in the middle
pub bits-front : (front mid rest : List ℕ) (n : ℕ) → n ≡ length front + length mid → take (8 * n) (bits_of_bytes (front ++ (mid ++ rest))) ≡ bits_of_bytes front ++ bits_of_bytes mid
bits-front front mid rest n h =
    let l : length (bits_of_bytes (front ++ mid)) ≡ 8 * n = length-bits_of_bytes (front ++ mid) ∙ ap (λ (k : ℕ). 8 * k) (length-append front mid ∙ sym h) in
    ap (λ (bytes : List ℕ). take (8 * n) (bits_of_bytes bytes)) (sym (append_assoc front mid rest))
    ∙ ap (take (8 * n)) (flat_map-append byte_bits (front ++ mid) rest)
    ∙ take_at (bits_of_bytes (front ++ mid)) (bits_of_bytes rest) (8 * n) l
    ∙ flat_map-append byte_bits front mid

-- a part behind whole bytes
pub written_aligned : (out tail old post : List ℕ) (part : List Bool) (at first : ℕ) → at ≡ 8 * first → first ≤ length out → tail ≡ bytes_of part ++ old
    → take (8 * bytes_for (at + length part)) (bits_of_bytes (take first out ++ (tail ++ post))) ≡ (take at (bits_of_bytes out) ++ part) ++ replicate (spare_for (at + length part)) false
written_aligned out tail old post part at first is_at inside is_tail =
    let front : length (take first out) ≡ first = length-take-le first out inside in
    let back : length (bytes_of part) ≡ bytes_for (length part) = length-bytes_of part in
    let all : bytes_for (at + length part) ≡ length (take first out) + length (bytes_of part) = omega arith in
    let spare : spare_for (length part) ≡ spare_for (at + length part) = omega arith in
    ap (λ (bytes : List ℕ). take (8 * bytes_for (at + length part)) (bits_of_bytes (take first out ++ bytes))) (ap (λ (bytes : List ℕ). bytes ++ post) is_tail ∙ append_assoc (bytes_of part) old post)
    ∙ bits-front (take first out) (bytes_of part) (old ++ post) (bytes_for (at + length part)) all
    ∙ ap (λ bits. bits ++ bits_of_bytes (bytes_of part)) (bits-take out first inside ∙ ap (λ (k : ℕ). take k (bits_of_bytes out)) (sym is_at))
    ∙ ap (λ bits. take at (bits_of_bytes out) ++ bits) (bits_of_bytes-bytes_of part ∙ ap (λ (k : ℕ). part ++ replicate k false) spare)
    ∙ sym (append_assoc (take at (bits_of_bytes out)) part (replicate (spare_for (at + length part)) false))

-- a byte of some bits, some others and zeros
pub joined_bits : (front back : List Bool) (byte spare : ℕ) → length front + length back + spare ≡ 8 → byte ≡ number_of front * 2 ^ (length back + spare) + number_of back * 2 ^ spare → byte_bits byte ≡ (front ++ back) ++ replicate spare false
unfolding byte_bits
joined_bits front back byte spare eight is_byte =
    let long : length ((front ++ back) ++ replicate spare false) ≡ 8 = simp (length-append, length-replicate) (omega arith) in
    let spelled : number_of ((front ++ back) ++ replicate spare false) ≡ byte =
    number_of-zeros (front ++ back) spare ∙ ap (λ (k : ℕ). k * 2 ^ spare) (number_of-append front back) ∙ sym (is_byte ∙ rw (pow-add 2 (length back) spare) (omega arith)) in
    ap (bits_of 8) (sym spelled) ∙ ap (λ (k : ℕ). bits_of k (number_of ((front ++ back) ++ replicate spare false))) (sym long) ∙ bits_of-number_of ((front ++ back) ++ replicate spare false)

-- what was written, up to the last bit of it
pub run_after : (ws old : List ℕ) (part : List Bool) (at : ℕ) → at ≤ 8 * length old
    → take (8 * bytes_for (at + length part)) (bits_of_bytes ws) ≡ (take at (bits_of_bytes old) ++ part) ++ replicate (spare_for (at + length part)) false → bit_run ws 0 (at + length part) ≡ bit_run old 0 at ++ part
unfolding bit_run
run_after ws old part at inside written =
    let n = at + length part in
    let l : length (bits_of_bytes old) ≡ 8 * length old = length-bits_of_bytes old in
    let front : length (take at (bits_of_bytes old)) ≡ at = length-take-le at (bits_of_bytes old) (omega arith) in
    let long : length (take at (bits_of_bytes old) ++ part) ≡ n = length-append (take at (bits_of_bytes old)) part ∙ omega arith in
    sym (take-take n (8 * bytes_for n) (bits_of_bytes ws) (omega arith)) ∙ ap (take n) written ∙ take_at (take at (bits_of_bytes old) ++ part) (replicate (spare_for n) false) n long

-- the same of a run that begins anywhere
pub run_written : (ws old : List ℕ) (part : List Bool) (from len : ℕ) → from + len ≤ 8 * length old → bit_run ws 0 (from + len + length part) ≡ bit_run old 0 (from + len) ++ part → bit_run ws from (len + length part) ≡ bit_run old from len ++ part
unfolding bit_run
run_written ws old part from len inside written =
    let l : length (bits_of_bytes old) ≡ 8 * length old = length-bits_of_bytes old in
    let front : length (take (from + len) (bits_of_bytes old)) ≡ from + len = length-take-le (from + len) (bits_of_bytes old) (omega arith) in
    let whole : from + (len + length part) ≡ from + len + length part = omega arith in
    sym (drop-take from (len + length part) (bits_of_bytes ws))
    ∙ ap (λ (k : ℕ). drop from (take k (bits_of_bytes ws))) whole
    ∙ ap (drop from) written
    ∙ drop-append-le from (take (from + len) (bits_of_bytes old)) part (omega arith)
    ∙ ap (λ bits. bits ++ part) (drop-take from len (bits_of_bytes old))

-- the bits up to a place inside a byte
pub take_inside : (out : List ℕ) (first kept : ℕ) → first < length out → kept ≤ 8 → take (8 * first + kept) (bits_of_bytes out) ≡ bits_of_bytes (take first out) ++ take kept (byte_bits (get_or out first 0))
unfolding bit_run
take_inside out first kept inside few =
    take-add (8 * first) kept (bits_of_bytes out)
    ∙ ap (λ bits. bits ++ take kept (drop (8 * first) (bits_of_bytes out))) (sym (bits-take out first (omega arith)))
    ∙ ap (λ bits. bits_of_bytes (take first out) ++ bits) (ap (λ (k : ℕ). take kept (drop k (bits_of_bytes out))) (omega arith) ∙ run_in_byte out first 0 kept inside (omega arith))

-- the bytes up to one that was written, and what they spell
pub bits_set : (out : List ℕ) (first byte : ℕ) → first < length out → bits_of_bytes (take (first + 1) (set out first byte)) ≡ bits_of_bytes (take first out) ++ byte_bits byte
bits_set out first byte inside =
    ap bits_of_bytes (take_more_set out first byte inside) ∙ flat_map-append byte_bits (take first out) (byte ∷ []) ∙ ap (λ bits. bits_of_bytes (take first out) ++ bits) (append-nil (byte_bits byte))

regroup : (a b d e z : List Bool) → (a ++ ((b ++ d) ++ [])) ++ (e ++ z) ≡ ((a ++ b) ++ (d ++ e)) ++ z
regroup a b d e z = simp (append_assoc, append-nil)

module _ (out tail old post : List ℕ) (part : List Bool) (first kept count byte : ℕ) (inside : first < length out) (some : 0 < kept) (few : kept < 8) (front : count ≤ length part) (fits : kept + count ≤ 8)
    (is_byte : byte ≡ number_of (take kept (byte_bits (get_or out first 0))) * 2 ^ (8 - kept) + number_of (take count part) * 2 ^ (8 - kept - count))
    (is_tail : tail ≡ bytes_of (drop count part) ++ old) where
  -- the byte at hand, filled up
  byte_filled : byte_bits byte ≡ (take kept (byte_bits (get_or out first 0)) ++ take count part) ++ replicate (8 - kept - count) false
  byte_filled =
      let b : length (byte_bits (get_or out first 0)) ≡ 8 = length-byte_bits (get_or out first 0) in
      let a : length (take kept (byte_bits (get_or out first 0))) ≡ kept = length-take-le kept (byte_bits (get_or out first 0)) (omega arith) in
      let c : length (take count part) ≡ count = length-take-le count part front in
      let e : 8 - kept ≡ length (take count part) + (8 - kept - count) = omega arith in
      joined_bits (take kept (byte_bits (get_or out first 0))) (take count part) byte (8 - kept - count) (omega arith)
      (is_byte ∙ ap (λ (k : ℕ). number_of (take kept (byte_bits (get_or out first 0))) * 2 ^ k + number_of (take count part) * 2 ^ (8 - kept - count)) e)

  -- what is written: the bits in front, those that fill the byte up, zeros, the other bits, and zeros
  written_pieces : (n : ℕ) → n ≡ first + 1 + bytes_for (length part - count) → take (8 * n) (bits_of_bytes (take (first + 1) (set out first byte) ++ (tail ++ post)))
      ≡ (bits_of_bytes (take first out) ++ ((take kept (byte_bits (get_or out first 0)) ++ take count part) ++ replicate (8 - kept - count) false)) ++ (drop count part ++ replicate (spare_for (length part - count)) false)
  written_pieces n is_n =
      let rest : length (drop count part) ≡ length part - count = length-drop count part in
      let back : length (bytes_of (drop count part)) ≡ bytes_for (length part - count) = length-bytes_of (drop count part) ∙ ap bytes_for rest in
      let ahead : length (take (first + 1) (set out first byte)) ≡ first + 1 = length-take-le (first + 1) (set out first byte) (simp length-set (omega arith)) in
      ap (λ (bytes : List ℕ). take (8 * n) (bits_of_bytes (take (first + 1) (set out first byte) ++ bytes))) (ap (λ (bytes : List ℕ). bytes ++ post) is_tail ∙ append_assoc (bytes_of (drop count part)) old post)
      ∙ bits-front (take (first + 1) (set out first byte)) (bytes_of (drop count part)) (old ++ post) n (omega arith)
      ∙ ap (λ bits. bits ++ bits_of_bytes (bytes_of (drop count part))) (bits_set out first byte inside ∙ ap (λ bits. bits_of_bytes (take first out) ++ bits) byte_filled)
      ∙ ap (λ bits. (bits_of_bytes (take first out) ++ ((take kept (byte_bits (get_or out first 0)) ++ take count part) ++ replicate (8 - kept - count) false)) ++ bits)
      (bits_of_bytes-bytes_of (drop count part) ∙ ap (λ (k : ℕ). drop count part ++ replicate (spare_for k) false) rest)

  -- a part that fills the byte up
  pub written_over : kept + count ≡ 8
      → take (8 * bytes_for (8 * first + kept + length part)) (bits_of_bytes (take (first + 1) (set out first byte) ++ (tail ++ post))) ≡ (take (8 * first + kept) (bits_of_bytes out) ++ part) ++ replicate (spare_for (8 * first + kept + length part)) false
  written_over full =
      let none : 8 - kept - count ≡ 0 = omega arith in
      let spare : spare_for (length part - count) ≡ spare_for (8 * first + kept + length part) = omega arith in
      let all : bytes_for (8 * first + kept + length part) ≡ first + 1 + bytes_for (length part - count) = omega arith in
      written_pieces (bytes_for (8 * first + kept + length part)) all
      ∙ ap (λ (k : ℕ). (bits_of_bytes (take first out) ++ ((take kept (byte_bits (get_or out first 0)) ++ take count part) ++ replicate k false)) ++ (drop count part ++ replicate (spare_for (length part - count)) false)) none
      ∙ ap (λ (k : ℕ). (bits_of_bytes (take first out) ++ ((take kept (byte_bits (get_or out first 0)) ++ take count part) ++ [])) ++ (drop count part ++ replicate k false)) spare
      ∙ regroup (bits_of_bytes (take first out)) (take kept (byte_bits (get_or out first 0))) (take count part) (drop count part) (replicate (spare_for (8 * first + kept + length part)) false)
      ∙ ap (λ bits. (bits ++ (take count part ++ drop count part)) ++ replicate (spare_for (8 * first + kept + length part)) false) (sym (take_inside out first kept inside (omega arith)))
      ∙ ap (λ bits. (take (8 * first + kept) (bits_of_bytes out) ++ bits) ++ replicate (spare_for (8 * first + kept + length part)) false) (take-append-drop count part)

  -- a part that ends inside the byte
  pub written_within : count ≡ length part
      → take (8 * bytes_for (8 * first + kept + length part)) (bits_of_bytes (take (first + 1) (set out first byte) ++ (tail ++ post))) ≡ (take (8 * first + kept) (bits_of_bytes out) ++ part) ++ replicate (spare_for (8 * first + kept + length part)) false
  written_within full =
      let none : spare_for (length part - count) ≡ 0 = omega arith in
      let spare : 8 - kept - count ≡ spare_for (8 * first + kept + length part) = omega arith in
      let all : bytes_for (8 * first + kept + length part) ≡ first + 1 + bytes_for (length part - count) = omega arith in
      let whole : take count part ≡ part = take_all count part (omega arith) in
      let rest : drop count part ≡ [] = drop_all count part (omega arith) in
      written_pieces (bytes_for (8 * first + kept + length part)) all
      ∙ ap (λ (k : ℕ). (bits_of_bytes (take first out) ++ ((take kept (byte_bits (get_or out first 0)) ++ take count part) ++ replicate (8 - kept - count) false)) ++ (drop count part ++ replicate k false)) none
      ∙ ap (λ bits. (bits_of_bytes (take first out) ++ ((take kept (byte_bits (get_or out first 0)) ++ take count part) ++ replicate (8 - kept - count) false)) ++ (bits ++ [])) rest
      ∙ append-nil (bits_of_bytes (take first out) ++ ((take kept (byte_bits (get_or out first 0)) ++ take count part) ++ replicate (8 - kept - count) false))
      ∙ ap (λ bits. bits_of_bytes (take first out) ++ ((take kept (byte_bits (get_or out first 0)) ++ bits) ++ replicate (8 - kept - count) false)) whole
      ∙ ap (λ (k : ℕ). bits_of_bytes (take first out) ++ ((take kept (byte_bits (get_or out first 0)) ++ part) ++ replicate k false)) spare
      ∙ sym (append_assoc (bits_of_bytes (take first out)) (take kept (byte_bits (get_or out first 0)) ++ part) (replicate (spare_for (8 * first + kept + length part)) false))
      ∙ ap (λ bits. bits ++ replicate (spare_for (8 * first + kept + length part)) false) (sym (append_assoc (bits_of_bytes (take first out)) (take kept (byte_bits (get_or out first 0))) part))
      ∙ ap (λ bits. (bits ++ part) ++ replicate (spare_for (8 * first + kept + length part)) false) (sym (take_inside out first kept inside (omega arith)))

  -- a part behind a byte that is not full
  pub written_across : (count ≡ length part) ⊎ (kept + count ≡ 8)
      → take (8 * bytes_for (8 * first + kept + length part)) (bits_of_bytes (take (first + 1) (set out first byte) ++ (tail ++ post))) ≡ (take (8 * first + kept) (bits_of_bytes out) ++ part) ++ replicate (spare_for (8 * first + kept + length part)) false
  written_across ends = elim ends [ inl within ↦ written_within within | inr over ↦ written_over over ]

  -- the same, with the place in one number
  pub written_at : (at : ℕ) → 8 * first + kept ≡ at → (count ≡ length part) ⊎ (kept + count ≡ 8)
      → take (8 * bytes_for (at + length part)) (bits_of_bytes (take (first + 1) (set out first byte) ++ (tail ++ post))) ≡ (take at (bits_of_bytes out) ++ part) ++ replicate (spare_for (at + length part)) false
  written_at at e ends = let h = written_across ends in rw e at h

-- the lesser of two is one of them
pub min_is : (a b n : ℕ) → n ≡ min a b → (n ≡ a) ⊎ (n ≡ b)
min_is a b n e = elim (cases_lt a b) [ inl h ↦ inl (omega arith) | inr h ↦ inr (omega arith) ]

no_bit_set : (k : ℕ) → list_any (λ (bit : Bool). bit) (replicate k false) ≡ false
no_bit_set zero = refl
no_bit_set (suc k) = no_bit_set k

-- bytes that were written are read as the bits that they were written of
pub read_bytes-bytes_of : (bits : List Bool) → length bits ≤ 8192 → read_bytes (bytes_of bits) (length bits) ≡ Ok bits
read_bytes-bytes_of bits h =
    let used = bytes_for (length bits) in
    let spare = replicate (spare_for (length bits)) false in
    let long : length (bytes_of bits) ≡ used = length-bytes_of bits in
    let back : bits_of_bytes (bytes_of bits) ≡ bits ++ spare = bits_of_bytes-bytes_of bits in
    let whole : take used (bytes_of bits) ≡ bytes_of bits = take_all used (bytes_of bits) (omega arith) in
    let none : list_any (λ (bit : Bool). bit) (drop (length bits) (bits_of_bytes (take used (bytes_of bits)))) ≡ false =
    ap (λ bytes. list_any (λ (bit : Bool). bit) (drop (length bits) (bits_of_bytes bytes))) whole
    ∙ ap (λ xs. list_any (λ (bit : Bool). bit) (drop (length bits) xs)) back
    ∙ ap (list_any (λ (bit : Bool). bit)) (drop_at bits spare (length bits) refl)
    ∙ no_bit_set (spare_for (length bits)) in
    read_bytes-ok (bytes_of bits) (length bits) used h refl (omega arith) none
    ∙ ap Ok (ap (take (length bits)) back ∙ take_at bits spare (length bits) refl)
