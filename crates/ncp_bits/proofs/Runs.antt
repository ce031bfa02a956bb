-- Runs of bits in bytes.
use Rattle.std.proofs.Common.{◌≡◌, ℕ, suc, zero, ◌+◌, ◌*◌, ◌/◌, ◌%◌, ◌-◌, ◌^◌, ◌<◌, ◌≤◌, Bool, true, false, eqb, bit_and, bit_or, Fits, List, [], ◌∷◌, ◌++◌, length, take, drop, get_or, slice_range, replicate, not, Ok, refl, sym, ap, ◌∙◌, arith}
use Rattle.std.proofs.lemmas.List.{take_all, take-take, drop-take, length-take-le, length-drop, drop-drop, take-append-le, drop-append-le, take-append-drop, get_or-take, get_or-drop, append-nil, take-replicate, replicate-append-replicate}
use Rattle.std.specs.List.{list_any}
use Rattle.std.specs.Int.{w8, w64, to_be_bytes}
use Rattle.std.proofs.lemmas.List.Concat.{flat_map-append, get_or-flat_map}
use Rattle.std.proofs.lemmas.Nat.{and_mask, pow_pos, or_shifted, shl_whole}
use Rattle.std.proofs.Math.Nat.{mod-eq_of_lt}
use Rattle.std.proofs.lemmas.Bool.{ne_eqb}
use Rattle.std.proofs.Math.Seq.{drop-cons, take-add}
use Rattle.ncp_numbers.specs.Numbers.{number_of, bits_of, bit_of}
use Rattle.ncp_numbers.specs.Bytes.{byte_bits, bits_of_bytes, bytes_for, byte_of}
use Rattle.ncp_bits.specs.Bits.{read_bytes}
use Rattle.ncp_bits.specs.Packed.{bit_run, IsPart, HoldsBits, HoldsRun}
use Rattle.ncp_numbers.proofs.Numbers.{length-bits_of, number_of-bits_of, number_of-below}
use Rattle.ncp_bits.proofs.Enough.{read_bytes-ok}
use Rattle.ncp_numbers.proofs.Bytes.{length-bits_of_bytes, bits_of_bytes-more, byte_of-long, byte_of-short, take-bits_of_bytes}
use Rattle.ncp_numbers.proofs.Packing.{drop-bits_of_bytes}
use Rattle.ncp_numbers.proofs.Shifts.{drop-bits_of, take-bits_of, bits_of-mod, number_of-append}

pub length-byte_bits : (byte : ℕ) → length (byte_bits byte) ≡ 8
unfolding byte_bits
length-byte_bits byte = length-bits_of 8 byte

-- the bit at a place of a number
pub get_or-bits_of : (width number place : ℕ) → place < width → get_or (bits_of width number) place false ≡ bit_of number (width - 1 - place)
unfolding bits_of
get_or-bits_of zero number place h = absurd (omega arith)
get_or-bits_of (suc width) number zero h = ap (bit_of number) (omega arith)
get_or-bits_of (suc width) number (suc place) h = get_or-bits_of width number place (omega arith) ∙ ap (bit_of number) (omega arith)

-- the bit at a place of bytes
pub get_or-bits_of_bytes : (bytes : List ℕ) (place : ℕ) → place < 8 * length bytes → get_or (bits_of_bytes bytes) place false ≡ eqb (bit_and (get_or bytes (place / 8) 0 / 2 ^ (7 - place % 8)) 1) 1
unfolding byte_bits
get_or-bits_of_bytes bytes place h =
    let l : length (bits_of_bytes (take (place / 8) bytes)) ≡ 8 * (place / 8) = length-bits_of_bytes (take (place / 8) bytes) ∙ ap (λ (n : ℕ). 8 * n) (length-take-le (place / 8) bytes (omega arith)) in
    let e : place ≡ length (bits_of_bytes (take (place / 8) bytes)) + place % 8 = omega arith in
    let b : length (byte_bits (get_or bytes (place / 8) 0)) ≡ 8 = length-bits_of 8 (get_or bytes (place / 8) 0) in
    ap (λ (n : ℕ). get_or (bits_of_bytes bytes) n false) e
    ∙ get_or-flat_map byte_bits bytes (place / 8) (place % 8) 0 false (omega arith) (omega arith)
    ∙ get_or-bits_of 8 (get_or bytes (place / 8) 0) (place % 8) (omega arith)
    ∙ ap (λ (n : ℕ). eqb n 1) (sym (and_mask (get_or bytes (place / 8) 0 / 2 ^ (7 - place % 8)) 1))

pub length-run : (bytes : List ℕ) (from len : ℕ) → from + len ≤ 8 * length bytes → length (bit_run bytes from len) ≡ len
unfolding bit_run
length-run bytes from len h =
    let l : length (bits_of_bytes bytes) ≡ 8 * length bytes = length-bits_of_bytes bytes in
    length-take-le len (drop from (bits_of_bytes bytes)) (simp length-drop (omega arith))

pub run_none : (bytes : List ℕ) (from : ℕ) → bit_run bytes from 0 ≡ []
unfolding bit_run
run_none bytes from = refl

pub get_or-run : (bytes : List ℕ) (from len place : ℕ) → place < len → get_or (bit_run bytes from len) place false ≡ get_or (bits_of_bytes bytes) (from + place) false
unfolding bit_run
get_or-run bytes from len place h = get_or-take len (drop from (bits_of_bytes bytes)) place false h ∙ get_or-drop from (bits_of_bytes bytes) place false

-- what is left of a run
pub drop-run : (bytes : List ℕ) (from len at : ℕ) → at ≤ len → drop at (bit_run bytes from len) ≡ bit_run bytes (from + at) (len - at)
unfolding bit_run
drop-run bytes from len at h =
    ap (λ (n : ℕ). drop at (take n (drop from (bits_of_bytes bytes)))) (omega arith)
    ∙ drop-take at (len - at) (drop from (bits_of_bytes bytes))
    ∙ ap (take (len - at)) (drop-drop at from (bits_of_bytes bytes))

pub take-run : (bytes : List ℕ) (from len n : ℕ) → n ≤ len → take n (bit_run bytes from len) ≡ bit_run bytes from n
unfolding bit_run
take-run bytes from len n h = take-take n len (drop from (bits_of_bytes bytes)) h

-- a part of a run
pub part-run : (bytes : List ℕ) (from len at n : ℕ) → at + n ≤ len → take n (drop at (bit_run bytes from len)) ≡ bit_run bytes (from + at) n
part-run bytes from len at n h = ap (take n) (drop-run bytes from len at (omega arith)) ∙ take-run bytes (from + at) (len - at) n (omega arith)

pub range-run : (bytes : List ℕ) (from len at n : ℕ) → at + n ≤ len → slice_range (bit_run bytes from len) at (at + n) ≡ bit_run bytes (from + at) n
range-run bytes from len at n h = ap (λ (k : ℕ). take k (drop at (bit_run bytes from len))) (omega arith) ∙ part-run bytes from len at n h

-- a run in two
pub run_split : (bytes : List ℕ) (from a b : ℕ) → bit_run bytes from (a + b) ≡ bit_run bytes from a ++ bit_run bytes (from + a) b
unfolding bit_run
run_split bytes from a b = take-add a b (drop from (bits_of_bytes bytes)) ∙ ap (λ xs. take a (drop from (bits_of_bytes bytes)) ++ take b xs) (drop-drop a from (bits_of_bytes bytes))

-- bytes in front of a run
pub run-drop : (bytes : List ℕ) (k from len : ℕ) → k ≤ length bytes → bit_run (drop k bytes) from len ≡ bit_run bytes (8 * k + from) len
unfolding bit_run
run-drop bytes k from len h = ap (λ xs. take len (drop from xs)) (sym (drop-bits_of_bytes bytes k h)) ∙ ap (take len) (drop-drop from (8 * k) (bits_of_bytes bytes))

-- bytes behind a run
pub run-append : (xs ys : List ℕ) (from len : ℕ) → from + len ≤ 8 * length xs → bit_run (xs ++ ys) from len ≡ bit_run xs from len
unfolding bit_run
run-append xs ys from len h =
    let l : length (bits_of_bytes xs) ≡ 8 * length xs = length-bits_of_bytes xs in
    ap (λ bits. take len (drop from bits)) (flat_map-append byte_bits xs ys)
    ∙ ap (take len) (drop-append-le from (bits_of_bytes xs) (bits_of_bytes ys) (omega arith))
    ∙ take-append-le len (drop from (bits_of_bytes xs)) (bits_of_bytes ys) (simp length-drop (omega arith))

pub run-take : (bytes : List ℕ) (k from len : ℕ) → k ≤ length bytes → from + len ≤ 8 * k → bit_run (take k bytes) from len ≡ bit_run bytes from len
run-take bytes k from len h i =
    let l : length (take k bytes) ≡ k = length-take-le k bytes h in
    sym (run-append (take k bytes) (drop k bytes) from len (omega arith)) ∙ ap (λ xs. bit_run xs from len) (take-append-drop k bytes)

-- all bits of bytes
pub run_all : (bytes : List ℕ) (len : ℕ) → 8 * length bytes ≤ len → bit_run bytes 0 len ≡ bits_of_bytes bytes
unfolding bit_run
run_all bytes len h = take_all len (bits_of_bytes bytes) (let l : length (bits_of_bytes bytes) ≡ 8 * length bytes = length-bits_of_bytes bytes in omega arith)

-- a run inside one byte
pub run_in_byte : (bytes : List ℕ) (k skip n : ℕ) → k < length bytes → skip + n ≤ 8 → bit_run bytes (8 * k + skip) n ≡ take n (drop skip (byte_bits (get_or bytes k 0)))
unfolding bit_run
run_in_byte bytes k skip n h i =
    let b : length (byte_bits (get_or bytes k 0)) ≡ 8 = length-byte_bits (get_or bytes k 0) in
    ap (take n) (sym (drop-drop skip (8 * k) (bits_of_bytes bytes)))
    ∙ ap (λ xs. take n (drop skip xs)) (drop-bits_of_bytes bytes k (omega arith) ∙ ap bits_of_bytes (drop-cons bytes k 0 h))
    ∙ ap (take n) (drop-append-le skip (byte_bits (get_or bytes k 0)) (bits_of_bytes (drop (suc k) bytes)) (omega arith))
    ∙ take-append-le n (drop skip (byte_bits (get_or bytes k 0))) (bits_of_bytes (drop (suc k) bytes)) (simp length-drop (omega arith))

-- the number of some bytes and one more
pub number_of_bytes-more : (bytes : List ℕ) (i number byte : ℕ) → length bytes ≤ 8 → i < length bytes → Fits w8 (get_or bytes i 0) → byte ≡ get_or bytes i 0 → number ≡ number_of (bits_of_bytes (take i bytes))
    → bit_or (number * 256 % 18446744073709551616) byte ≡ number_of (bits_of_bytes (take (i + 1) bytes))
number_of_bytes-more bytes i number byte few h small b n =
    let fits : byte < 2 ^ 8 = omega arith in
    let long : length (bits_of_bytes (take i bytes)) ≡ 8 * i = length-bits_of_bytes (take i bytes) ∙ ap (λ (k : ℕ). 8 * k) (length-take-le i bytes (omega arith)) in
    let below : number < 2 ^ (8 * i) = rw n (number_of-below (bits_of_bytes (take i bytes)) (8 * i) (omega arith)) in
    let same : number_of (bits_of 8 byte) ≡ byte = number_of-bits_of 8 byte ∙ mod-eq_of_lt fits in
    ap (λ (k : ℕ). bit_or k byte) (shl_whole number (8 * i) 8 64 below (omega arith))
    ∙ or_shifted number 8 byte fits
    ∙ ap (λ (k : ℕ). k * 2 ^ 8 + byte) n
    ∙ ap (λ (k : ℕ). number_of (bits_of_bytes (take i bytes)) * 2 ^ 8 + k) (sym same)
    ∙ ap (λ (k : ℕ). number_of (bits_of_bytes (take i bytes)) * 2 ^ k + number_of (bits_of 8 byte)) (sym (length-bits_of 8 byte))
    ∙ sym (number_of-append (bits_of_bytes (take i bytes)) (bits_of 8 byte))
    ∙ ap (λ (k : ℕ). number_of (bits_of_bytes (take i bytes) ++ bits_of 8 k)) b
    ∙ ap number_of (bits_of_bytes-more [] bytes i h)

-- a run of whole bytes
pub run_of_bytes : (bytes : List ℕ) (from width : ℕ) → from % 8 ≡ 0 → width % 8 ≡ 0 → from + width ≤ 8 * length bytes → bits_of_bytes (slice_range bytes (from / 8) (from / 8 + width / 8)) ≡ bit_run bytes from width
run_of_bytes bytes from width a b h =
    let count : from / 8 + width / 8 - from / 8 ≡ width / 8 = omega arith in
    let inside : width / 8 ≤ length (drop (from / 8) bytes) = simp length-drop (omega arith) in
    let long : length (take (width / 8) (drop (from / 8) bytes)) ≡ width / 8 = length-take-le (width / 8) (drop (from / 8) bytes) inside in
    ap (λ (k : ℕ). bits_of_bytes (take k (drop (from / 8) bytes))) count
    ∙ sym (run_all (take (width / 8) (drop (from / 8) bytes)) width (omega arith))
    ∙ run-take (drop (from / 8) bytes) (width / 8) 0 width inside (omega arith)
    ∙ run-drop bytes (from / 8) 0 width (omega arith)
    ∙ ap (λ (k : ℕ). bit_run bytes k width) (omega arith)

-- a whole byte
pub run_of_byte : (bytes : List ℕ) (k : ℕ) → k < length bytes → bit_run bytes (8 * k) 8 ≡ byte_bits (get_or bytes k 0)
run_of_byte bytes k h =
    let b : length (byte_bits (get_or bytes k 0)) ≡ 8 = length-byte_bits (get_or bytes k 0) in
    ap (λ (n : ℕ). bit_run bytes n 8) (omega arith) ∙ run_in_byte bytes k 0 8 h (omega arith) ∙ take_all 8 (byte_bits (get_or bytes k 0)) (omega arith)

-- a byte's worth of bits across two bytes
pub run_across : (bytes : List ℕ) (k skip : ℕ) → k + 1 < length bytes → skip ≤ 8 → bit_run bytes (8 * k + skip) 8 ≡ drop skip (byte_bits (get_or bytes k 0)) ++ take skip (byte_bits (get_or bytes (k + 1) 0))
run_across bytes k skip h i =
    let b : length (byte_bits (get_or bytes k 0)) ≡ 8 = length-byte_bits (get_or bytes k 0) in
    let front : bit_run bytes (8 * k + skip) (8 - skip) ≡ drop skip (byte_bits (get_or bytes k 0)) = run_in_byte bytes k skip (8 - skip) (omega arith) (omega arith) ∙ take_all (8 - skip) (drop skip (byte_bits (get_or bytes k 0))) (simp length-drop (omega arith)) in
    let back : bit_run bytes (8 * k + skip + (8 - skip)) skip ≡ take skip (byte_bits (get_or bytes (k + 1) 0)) = ap (λ (n : ℕ). bit_run bytes n skip) (omega arith) ∙ run_in_byte bytes (k + 1) 0 skip h (omega arith) in
    ap (bit_run bytes (8 * k + skip)) (omega arith)
    ∙ run_split bytes (8 * k + skip) (8 - skip) skip
    ∙ ap (λ xs. xs ++ bit_run bytes (8 * k + skip + (8 - skip)) skip) front
    ∙ ap (λ xs. drop skip (byte_bits (get_or bytes k 0)) ++ xs) back

-- the byte at a place of a run, and its last
pub byte_of-run : (bytes : List ℕ) (from len k : ℕ) → 8 * k + 8 ≤ len → from + len ≤ 8 * length bytes → number_of (bit_run bytes (8 * k + from) 8) ≡ byte_of (drop (8 * k) (bit_run bytes from len))
byte_of-run bytes from len k h inside =
    let l : length (bit_run bytes from len) ≡ len = length-run bytes from len inside in
    let place : from + 8 * k ≡ 8 * k + from = omega arith in
    sym (
    byte_of-long (drop (8 * k) (bit_run bytes from len)) (simp length-drop (omega arith))
    ∙ ap number_of (part-run bytes from len (8 * k) 8 h ∙ ap (λ (n : ℕ). bit_run bytes n 8) place))

pub last_of-run : (bytes : List ℕ) (from len k rest : ℕ) → rest < 8 → len ≡ 8 * k + rest → from + len ≤ 8 * length bytes → number_of (bit_run bytes (8 * k + from) rest) * 2 ^ (8 - rest) ≡ byte_of (drop (8 * k) (bit_run bytes from len))
last_of-run bytes from len k rest few is_len inside =
    let l : length (bit_run bytes from len) ≡ len = length-run bytes from len inside in
    let place : from + 8 * k ≡ 8 * k + from = omega arith in
    let left : len - 8 * k ≡ rest = omega arith in
    let short : length (drop (8 * k) (bit_run bytes from len)) ≡ rest = length-drop (8 * k) (bit_run bytes from len) ∙ omega arith in
    sym (
    byte_of-short (drop (8 * k) (bit_run bytes from len)) (omega arith)
    ∙ ap (λ (n : ℕ). number_of (drop (8 * k) (bit_run bytes from len)) * 2 ^ (8 - n)) short
    ∙ ap (λ bits. number_of bits * 2 ^ (8 - rest)) (drop-run bytes from len (8 * k) (omega arith) ∙ ap (bit_run bytes (from + 8 * k)) left ∙ ap (λ (n : ℕ). bit_run bytes n rest) place))

-- how many bits a part, a bit string and a store have that are seen as these
pub length-part : {bytes : List ℕ} {skip len : ℕ} {bits : List Bool} → IsPart bytes skip len → bit_run bytes skip len ≡ bits → len ≡ length bits
length-part {bytes} {skip} {len} h seen = sym (length-run bytes skip len h.inside) ∙ ap length seen

pub length-packed : {bytes : List ℕ} {len : ℕ} {bits : List Bool} → HoldsBits bytes len → bit_run bytes 0 len ≡ bits → len ≡ length bits
length-packed {bytes} {len} h seen = sym (length-run bytes 0 len (omega (arith, h.inside))) ∙ ap length seen

pub length-held : {bytes : List ℕ} {from len capacity : ℕ} {bits : List Bool} → HoldsRun bytes from len capacity → bit_run bytes from len ≡ bits → len ≡ length bits
length-held {bytes} {from} {len} h seen = sym (length-run bytes from len h.inside) ∙ ap length seen

-- whether a bit is set, by the number that they spell
pub any_set : (bits : List Bool) → not (eqb (number_of bits) 0) ≡ list_any (λ bit. bit) bits
unfolding number_of
any_set [] = refl
any_set (true ∷ bits) =
    let some : 0 < 2 ^ length bits = pow_pos (length bits) in
    ap not (ne_eqb (2 ^ length bits + number_of bits) 0 (λ e. omega arith))
any_set (false ∷ bits) =
    let e : 0 + number_of bits ≡ number_of bits = omega arith in
    ap (λ (n : ℕ). not (eqb n 0)) e ∙ any_set bits

-- the bits of the bytes used are what was read
pub read_packed : (bytes : List ℕ) (len used : ℕ) → len ≤ 8192 → used ≡ bytes_for len → used ≤ length bytes → list_any (λ bit. bit) (drop len (bits_of_bytes (take used bytes))) ≡ false → read_bytes bytes len ≡ Ok (bit_run (take used bytes) 0 len)
unfolding bit_run
read_packed bytes len used small is_used long none =
    read_bytes-ok bytes len used small is_used long none ∙ ap Ok (sym (take-bits_of_bytes bytes len used long (omega arith)))

-- bytes of zero
bits_of_zeros : (n : ℕ) → bits_of_bytes (replicate n 0) ≡ replicate (8 * n) false
unfolding byte_bits bits_of
bits_of_zeros zero = refl
bits_of_zeros (suc n) =
    let more : replicate 8 false ++ replicate (8 * n) false ≡ replicate (8 * suc n) false = replicate-append-replicate 8 (8 * n) false ∙ ap (λ (k : ℕ). replicate k false) (omega arith) in
    ap (λ bits. replicate 8 false ++ bits) (bits_of_zeros n) ∙ more

pub run-zeros : (n len : ℕ) → len ≤ 8 * n → bit_run (replicate n 0) 0 len ≡ replicate len false
unfolding bit_run
run-zeros n len h = ap (take len) (bits_of_zeros n) ∙ take-replicate len (8 * n) false h

-- one byte more of a number
byte_more : (b v : ℕ) (rest : List Bool) → rest ≡ bits_of b v → byte_bits (v / 2 ^ b % 256) ++ rest ≡ bits_of (8 + b) v
unfolding byte_bits
byte_more b v rest h =
    ap (λ bits. bits_of 8 (v / 2 ^ b % 256) ++ bits) h
    ∙ ap (λ bits. bits ++ bits_of b v) (bits_of-mod 8 (v / 2 ^ b) ∙ sym (take-bits_of 8 b v))
    ∙ ap (λ bits. take 8 (bits_of (8 + b) v) ++ bits) (sym (drop-bits_of 8 b v))
    ∙ take-append-drop 8 (bits_of (8 + b) v)

last_byte : (v : ℕ) → byte_bits (v % 256) ++ [] ≡ bits_of 8 v
unfolding byte_bits
last_byte v = append-nil (bits_of 8 (v % 256)) ∙ bits_of-mod 8 v

-- the last bits of a number's eight bytes
pub run-number : (value width : ℕ) → width ≤ 64 → bit_run (to_be_bytes w64 value) (64 - width) width ≡ bits_of width value
unfolding bit_run
run-number value width h =
    let whole : 64 - width + width ≡ 64 = omega arith in
    let bits : bits_of_bytes (to_be_bytes w64 value) ≡ bits_of 64 value =
    byte_more 56 value _ (byte_more 48 value _ (byte_more 40 value _ (byte_more 32 value _ (byte_more 24 value _ (byte_more 16 value _ (byte_more 8 value _ (last_byte value))))))) in
    ap (λ xs. take width (drop (64 - width) xs)) (bits ∙ ap (λ (n : ℕ). bits_of n value) (sym whole))
    ∙ ap (take width) (drop-bits_of (64 - width) width value)
    ∙ take_all width (bits_of width value) (simp length-bits_of (omega arith))
