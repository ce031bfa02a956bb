-- The bytes of a text, read from its bits.
use Rattle.std.proofs.Common.{◌≡◌, ℕ, suc, zero, ◌+◌, ◌*◌, ◌-◌, ◌%◌, ◌^◌, ◌<◌, ◌≤◌, min, Bool, true, false, List, [], ◌∷◌, ◌++◌, length, take, drop, get_or, replicate, slice_range, refl, sym, ap, ◌∙◌, arith}
use Rattle.std.specs.List.{All}
use Rattle.std.proofs.lemmas.List.{append-nil, length-append, length-take-le, length-drop, length-take, take-append-drop, take_all, take-take, drop-drop, drop-take, take-replicate, get_or-take, get_or-drop, take_min}
use Rattle.std.proofs.lemmas.List.Elements.{All-from_get_or, All-drop, All-take}
use Rattle.std.proofs.lemmas.List.FromFn.{get_or-map-range_with_len, length-map-range_with_len}
use Rattle.std.proofs.lemmas.Nat.{pow-add}
use Rattle.ncp_numbers.specs.Numbers.{number_of}
use Rattle.ncp_numbers.specs.Bytes.{bits_of_bytes, bytes_for, byte_of, bytes_of}
use Rattle.ncp_numbers.proofs.Bytes.{byte_of-fits, byte_of-long, length-bits_of_bytes, take-bits_of_bytes}
use Rattle.ncp_numbers.proofs.Packing.{drop-bits_of_bytes, bytes_of-bits_of_bytes, bits_of_bytes-bytes_of}
use Rattle.ncp_wire.specs.Spelling.{IsByte, padded}
use Rattle.ncp_control.specs.Reading.{short_at, word_at}

-- ---- how many bytes there are, and that they are bytes

pub length-bytes_of : (bits : List Bool) → length (bytes_of bits) ≡ bytes_for (length bits)
unfolding bytes_of
length-bytes_of bits = length-map-range_with_len (λ offset. byte_of (drop (8 * offset) bits)) 0 (bytes_for (length bits))

-- eight bits a byte, where there are whole ones
pub length_whole : (bits : List Bool) → length bits % 8 ≡ 0 → 8 * length (bytes_of bits) ≡ length bits
length_whole bits whole = let l : length (bytes_of bits) ≡ bytes_for (length bits) = length-bytes_of bits in omega arith

get_or-bytes_of : (bits : List Bool) (offset : ℕ) → offset < bytes_for (length bits) → get_or (bytes_of bits) offset 0 ≡ byte_of (drop (8 * offset) bits)
unfolding bytes_of
get_or-bytes_of bits offset h = get_or-map-range_with_len (λ offset. byte_of (drop (8 * offset) bits)) 0 (bytes_for (length bits)) offset offset 0 h (omega arith)

pub bytes_are_small : (bits : List Bool) → All IsByte (bytes_of bits)
bytes_are_small bits =
    All-from_get_or IsByte (bytes_of bits) 0 (λ offset h.
    let l : length (bytes_of bits) ≡ bytes_for (length bits) = length-bytes_of bits in
    let e : get_or (bytes_of bits) offset 0 ≡ byte_of (drop (8 * offset) bits) = get_or-bytes_of bits offset (omega arith) in
    let fits : byte_of (drop (8 * offset) bits) < 256 = byte_of-fits (drop (8 * offset) bits) in
    omega arith)

-- ---- numbers in a text

number_of-append : (xs ys : List Bool) → number_of (xs ++ ys) ≡ number_of xs * 2 ^ length ys + number_of ys
unfolding number_of
number_of-append [] ys = omega arith
number_of-append (true ∷ xs) ys =
    let h : number_of (xs ++ ys) ≡ number_of xs * 2 ^ length ys + number_of ys = number_of-append xs ys in
    rw (length-append xs ys, pow-add 2 (length xs) (length ys)) (omega arith)
number_of-append (false ∷ xs) ys = let h : number_of (xs ++ ys) ≡ number_of xs * 2 ^ length ys + number_of ys = number_of-append xs ys in omega arith

-- a byte at a place
pub number_of-byte : (bits : List Bool) (offset : ℕ) → 8 * offset + 8 ≤ length bits → number_of (slice_range bits (8 * offset) (8 * offset + 8)) ≡ get_or (bytes_of bits) offset 0
number_of-byte bits offset h =
    let size : 8 * offset + 8 - 8 * offset ≡ 8 = omega arith in
    ap (λ n. number_of (take n (drop (8 * offset) bits))) size
    ∙ sym (byte_of-long (drop (8 * offset) bits) (simp length-drop (omega arith)))
    ∙ sym (get_or-bytes_of bits offset (omega arith))

-- a byte, and the number behind it
number_of-more : (bits : List Bool) (offset width : ℕ) → 8 * offset + (8 + width) ≤ length bits → number_of (slice_range bits (8 * offset) (8 * offset + (8 + width))) ≡ get_or (bytes_of bits) offset 0 * 2 ^ width + number_of (slice_range bits (8 * (offset + 1)) (8 * (offset + 1) + width))
number_of-more bits offset width h =
    let xs = drop (8 * offset) bits in
    let size : 8 * offset + 8 - 8 * offset ≡ 8 = omega arith in
    let all : 8 * offset + (8 + width) - 8 * offset ≡ 8 + width = omega arith in
    let behind : width ≡ 8 * (offset + 1) + width - 8 * (offset + 1) = omega arith in
    let there : 8 * offset + 8 ≡ 8 * (offset + 1) = omega arith in
    let first : number_of (take 8 xs) ≡ get_or (bytes_of bits) offset 0 = ap (λ n. number_of (take n xs)) (sym size) ∙ number_of-byte bits offset (omega arith) in
    let l : length (take width (drop 8 xs)) ≡ width = length-take-le width (drop 8 xs) (simp (length-drop, length-drop) (omega arith)) in
    let next : drop 8 xs ≡ drop (8 * (offset + 1)) bits = drop-drop 8 (8 * offset) bits ∙ ap (λ n. drop n bits) there in
    let parts : take (8 + width) xs ≡ take 8 xs ++ take width (drop 8 xs) =
    sym (take-append-drop 8 (take (8 + width) xs))
    ∙ ap (λ ys. ys ++ drop 8 (take (8 + width) xs)) (take-take 8 (8 + width) xs (omega arith))
    ∙ ap (λ ys. take 8 xs ++ ys) (drop-take 8 width xs) in
    ap (λ n. number_of (take n xs)) all
    ∙ ap number_of parts
    ∙ number_of-append (take 8 xs) (take width (drop 8 xs))
    ∙ ap (λ n. number_of (take 8 xs) * 2 ^ n + number_of (take width (drop 8 xs))) l
    ∙ ap (λ n. n * 2 ^ width + number_of (take width (drop 8 xs))) first
    ∙ ap (λ ys. get_or (bytes_of bits) offset 0 * 2 ^ width + number_of (take width ys)) next
    ∙ ap (λ n. get_or (bytes_of bits) offset 0 * 2 ^ width + number_of (take n (drop (8 * (offset + 1)) bits))) behind

-- a byte of a field
in_field : (bytes : List ℕ) (offset size k : ℕ) → k < size → get_or (slice_range bytes offset (offset + size)) k 0 ≡ get_or bytes (offset + k) 0
in_field bytes offset size k h = get_or-take (offset + size - offset) (drop offset bytes) k 0 (omega arith) ∙ get_or-drop offset bytes k 0

pub number_of-short : (bits : List Bool) (offset : ℕ) → 8 * offset + 16 ≤ length bits → number_of (slice_range bits (8 * offset) (8 * offset + 16)) ≡ short_at (bytes_of bits) offset
number_of-short bits offset h =
    let bytes = bytes_of bits in
    let a : number_of (slice_range bits (8 * offset) (8 * offset + 16)) ≡ get_or bytes offset 0 * 2 ^ 8 + number_of (slice_range bits (8 * (offset + 1)) (8 * (offset + 1) + 8)) = number_of-more bits offset 8 h in
    let b : number_of (slice_range bits (8 * (offset + 1)) (8 * (offset + 1) + 8)) ≡ get_or bytes (offset + 1) 0 = number_of-byte bits (offset + 1) (omega arith) in
    let x : get_or (slice_range bytes offset (offset + 2)) 0 0 ≡ get_or bytes offset 0 = in_field bytes offset 2 0 (omega arith) ∙ ap (λ n. get_or bytes n 0) (omega arith) in
    let y : get_or (slice_range bytes offset (offset + 2)) 1 0 ≡ get_or bytes (offset + 1) 0 = in_field bytes offset 2 1 (omega arith) in
    omega arith

pub number_of-word : (bits : List Bool) (offset : ℕ) → 8 * offset + 32 ≤ length bits → number_of (slice_range bits (8 * offset) (8 * offset + 32)) ≡ word_at (bytes_of bits) offset
number_of-word bits offset h =
    let bytes = bytes_of bits in
    let a : number_of (slice_range bits (8 * offset) (8 * offset + 32)) ≡ get_or bytes offset 0 * 2 ^ 24 + number_of (slice_range bits (8 * (offset + 1)) (8 * (offset + 1) + 24)) = number_of-more bits offset 24 h in
    let b : number_of (slice_range bits (8 * (offset + 1)) (8 * (offset + 1) + 24)) ≡ get_or bytes (offset + 1) 0 * 2 ^ 16 + number_of (slice_range bits (8 * (offset + 1 + 1)) (8 * (offset + 1 + 1) + 16)) = number_of-more bits (offset + 1) 16 (omega arith) in
    let d : number_of (slice_range bits (8 * (offset + 1 + 1)) (8 * (offset + 1 + 1) + 16)) ≡ get_or bytes (offset + 1 + 1) 0 * 2 ^ 8 + number_of (slice_range bits (8 * (offset + 1 + 1 + 1)) (8 * (offset + 1 + 1 + 1) + 8)) = number_of-more bits (offset + 1 + 1) 8 (omega arith) in
    let e : number_of (slice_range bits (8 * (offset + 1 + 1 + 1)) (8 * (offset + 1 + 1 + 1) + 8)) ≡ get_or bytes (offset + 1 + 1 + 1) 0 = number_of-byte bits (offset + 1 + 1 + 1) (omega arith) in
    let x : get_or (slice_range bytes offset (offset + 4)) 0 0 ≡ get_or bytes offset 0 = in_field bytes offset 4 0 (omega arith) ∙ ap (λ n. get_or bytes n 0) (omega arith) in
    let y : get_or (slice_range bytes offset (offset + 4)) 1 0 ≡ get_or bytes (offset + 1) 0 = in_field bytes offset 4 1 (omega arith) in
    let z : get_or (slice_range bytes offset (offset + 4)) 2 0 ≡ get_or bytes (offset + 1 + 1) 0 = in_field bytes offset 4 2 (omega arith) ∙ ap (λ n. get_or bytes n 0) (omega arith) in
    let w : get_or (slice_range bytes offset (offset + 4)) 3 0 ≡ get_or bytes (offset + 1 + 1 + 1) 0 = in_field bytes offset 4 3 (omega arith) ∙ ap (λ n. get_or bytes n 0) (omega arith) in
    omega arith

-- ---- runs of whole bytes

-- whole bytes are the bits of their bytes
whole_bytes : (bits : List Bool) → length bits % 8 ≡ 0 → bits_of_bytes (bytes_of bits) ≡ bits
whole_bytes bits whole =
    bits_of_bytes-bytes_of bits
    ∙ ap (λ n. bits ++ replicate n false) (let e : 8 * bytes_for (length bits) - length bits ≡ 0 = omega arith in e)
    ∙ append-nil bits

-- the bytes behind a place
pub bytes_of-drop : (bits : List Bool) (offset : ℕ) → length bits % 8 ≡ 0 → 8 * offset ≤ length bits → bytes_of (drop (8 * offset) bits) ≡ drop offset (bytes_of bits)
bytes_of-drop bits offset whole h =
    let l : 8 * length (bytes_of bits) ≡ length bits = length_whole bits whole in
    ap (λ xs. bytes_of (drop (8 * offset) xs)) (sym (whole_bytes bits whole))
    ∙ ap bytes_of (drop-bits_of_bytes (bytes_of bits) offset (omega arith))
    ∙ bytes_of-bits_of_bytes (drop offset (bytes_of bits)) (All-drop IsByte offset (bytes_of bits) (bytes_are_small bits))

-- the first bytes
pub bytes_of-take : (bits : List Bool) (count : ℕ) → length bits % 8 ≡ 0 → 8 * count ≤ length bits → bytes_of (take (8 * count) bits) ≡ take count (bytes_of bits)
bytes_of-take bits count whole h =
    let bytes = bytes_of bits in
    let l : 8 * length bytes ≡ length bits = length_whole bits whole in
    let few : length (bits_of_bytes (take count bytes)) ≡ 8 * count = length-bits_of_bytes (take count bytes) ∙ ap (λ n. 8 * n) (length-take-le count bytes (omega arith)) in
    ap (λ xs. bytes_of (take (8 * count) xs)) (sym (whole_bytes bits whole))
    ∙ ap bytes_of (sym (take-bits_of_bytes bytes (8 * count) count (omega arith) (omega arith)) ∙ take_all (8 * count) (bits_of_bytes (take count bytes)) (omega arith))
    ∙ bytes_of-bits_of_bytes (take count bytes) (All-take IsByte count bytes (bytes_are_small bits))

-- what was written over zeros
written_over : (count more : ℕ) (bytes : List ℕ) → count ≤ more → take count bytes ++ drop (length (take count bytes)) (replicate count 0) ≡ take count (bytes ++ replicate more 0)
written_over zero more bytes h = refl
written_over (suc count) more [] h = sym (take-replicate (suc count) more 0 h)
written_over (suc count) more (byte ∷ bytes) h = ap (λ xs. byte ∷ xs) (written_over count more bytes (omega arith))

pub written : (count : ℕ) (bytes : List ℕ) → take count bytes ++ drop (length (take count bytes)) (replicate count 0) ≡ padded count bytes
written count bytes = written_over count count bytes (omega arith)

-- the next bytes from a place, zeros after the end
pub data_of : (bits : List Bool) (offset count shown used : ℕ) → length bits % 8 ≡ 0 → 8 * offset ≤ length bits → shown ≡ min (length bits - 8 * offset) (8 * count) → used ≡ bytes_for shown
    → bytes_of (slice_range bits (8 * offset) (8 * offset + shown)) ++ drop used (replicate count 0) ≡ padded count (drop offset (bytes_of bits))
data_of bits offset count shown used whole h is_shown is_used =
    let bytes = drop offset (bytes_of bits) in
    let rest = drop (8 * offset) bits in
    let all : 8 * length (bytes_of bits) ≡ length bits = length_whole bits whole in
    let l : length bytes ≡ length (bytes_of bits) - offset = length-drop offset (bytes_of bits) in
    let lr : length rest ≡ length bits - 8 * offset = length-drop (8 * offset) bits in
    let few : 8 * offset + shown - 8 * offset ≡ 8 * min count (length bytes) = omega arith in
    let used_few : used ≡ length (take count bytes) = simp length-take (omega arith) in
    ap (λ n. bytes_of (take n rest) ++ drop used (replicate count 0)) few
    ∙ ap (λ xs. xs ++ drop used (replicate count 0)) (
    bytes_of-take rest (min count (length bytes)) (omega arith) (omega arith)
    ∙ ap (take (min count (length bytes))) (bytes_of-drop bits offset whole h)
    ∙ take_min count bytes)
    ∙ ap (λ n. take count bytes ++ drop n (replicate count 0)) used_few
    ∙ written count bytes
