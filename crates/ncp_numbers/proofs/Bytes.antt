-- Bytes as bits.
use Rattle.std.proofs.Common.{◌≡◌, ℕ, suc, zero, ◌+◌, ◌*◌, ◌-◌, ◌<◌, ◌≤◌, Bool, true, false, List, [], ◌∷◌, ◌++◌, length, take, drop, get_or, refl, sym, ap, ◌∙◌, arith}
use Rattle.std.specs.List.{range_with_len}
use Rattle.std.proofs.Common.{◌^◌, replicate, map}
use Rattle.std.proofs.lemmas.List.{take_more, append_assoc, append-nil, length-append, length-take-le, take-append-le, take-append-drop, length-replicate, take-replicate, length-take, get_or-take}
use Rattle.std.proofs.lemmas.Nat.{pow-add}
use Rattle.std.proofs.Math.Seq.{take-append-add}
use Rattle.std.proofs.lemmas.List.FromFn.{fill_by_all}
use Rattle.std.proofs.lemmas.List.Concat.{flat_map-append}
use Rattle.ncp_numbers.specs.Numbers.{bits_of, number_of}
use Rattle.ncp_numbers.specs.Bytes.{byte_bits, bits_of_bytes, bytes_for, byte_of, bytes_of}
use Rattle.ncp_numbers.proofs.Numbers.{length-bits_of, number_of-below}

length-byte_bits : (byte : ℕ) → length (byte_bits byte) ≡ 8
unfolding byte_bits
length-byte_bits byte = length-bits_of 8 byte

pub length-bits_of_bytes : (bytes : List ℕ) → length (bits_of_bytes bytes) ≡ 8 * length bytes
length-bits_of_bytes [] = refl
length-bits_of_bytes (byte ∷ bytes) =
    let h : length (bits_of_bytes bytes) ≡ 8 * length bytes = length-bits_of_bytes bytes in
    let b : length (byte_bits byte) ≡ 8 = length-byte_bits byte in
    simp length-append (omega arith)

-- the bits of one byte more
pub bits_of_bytes-more : (items : List Bool) (bytes : List ℕ) (i : ℕ) → i < length bytes → (items ++ bits_of_bytes (take i bytes)) ++ bits_of 8 (get_or bytes i 0) ≡ items ++ bits_of_bytes (take (i + 1) bytes)
unfolding byte_bits
bits_of_bytes-more items bytes i h =
    rw (take_more bytes i 0 h, flat_map-append byte_bits (take i bytes) (get_or bytes i 0 ∷ []), append_assoc, append-nil (bits_of 8 (get_or bytes i 0))) refl

-- the first bits are in the first bytes
pub take-bits_of_bytes : (bytes : List ℕ) (len used : ℕ) → used ≤ length bytes → len ≤ 8 * used → take len (bits_of_bytes (take used bytes)) ≡ take len (bits_of_bytes bytes)
take-bits_of_bytes bytes len used h room =
    let l : length (bits_of_bytes (take used bytes)) ≡ 8 * used = length-bits_of_bytes (take used bytes) ∙ ap (λ n. 8 * n) (length-take-le used bytes h) in
    let e : bits_of_bytes bytes ≡ bits_of_bytes (take used bytes) ++ bits_of_bytes (drop used bytes) = ap bits_of_bytes (sym (take-append-drop used bytes)) ∙ flat_map-append byte_bits (take used bytes) (drop used bytes) in
    sym (ap (take len) e ∙ take-append-le len (bits_of_bytes (take used bytes)) (bits_of_bytes (drop used bytes)) (omega arith))

zeros : (k : ℕ) → number_of (replicate k false) ≡ 0
unfolding number_of
zeros zero = refl
zeros (suc k) = let h : number_of (replicate k false) ≡ 0 = zeros k in omega arith

-- zeros behind a number double it
pub number_of-zeros : (bits : List Bool) (k : ℕ) → number_of (bits ++ replicate k false) ≡ number_of bits * 2 ^ k
unfolding number_of
number_of-zeros [] k = zeros k ∙ omega arith
number_of-zeros (true ∷ bits) k =
    let h : number_of (bits ++ replicate k false) ≡ number_of bits * 2 ^ k = number_of-zeros bits k in
    let l : length (bits ++ replicate k false) ≡ length bits + k = simp (length-append, length-replicate) refl in
    rw (l, h, pow-add 2 (length bits) k) (omega arith)
number_of-zeros (false ∷ bits) k = let h : number_of (bits ++ replicate k false) ≡ number_of bits * 2 ^ k = number_of-zeros bits k in omega arith

pub byte_of-fits : (bits : List Bool) → byte_of bits < 256
unfolding byte_of
byte_of-fits bits = number_of-below (take 8 (bits ++ replicate 8 false)) 8 (simp length-take (omega arith))

pub byte_of-long : (bits : List Bool) → 8 ≤ length bits → byte_of bits ≡ number_of (take 8 bits)
unfolding byte_of
byte_of-long bits h = ap number_of (take-append-le 8 bits (replicate 8 false) h)

pub byte_of-short : (bits : List Bool) → length bits < 8 → byte_of bits ≡ number_of bits * 2 ^ (8 - length bits)
unfolding byte_of
byte_of-short bits h =
    let e : 8 ≡ length bits + (8 - length bits) = omega arith in
    ap number_of (
    ap (λ n. take n (bits ++ replicate 8 false)) e
    ∙ take-append-add bits (replicate 8 false) (8 - length bits)
    ∙ ap (λ xs. bits ++ xs) (take-replicate (8 - length bits) 8 false (omega arith)))
    ∙ number_of-zeros bits (8 - length bits)

-- what was written byte by byte
pub bytes_of-written : (bits : List Bool) (out was : List ℕ) (used : ℕ) → used ≡ bytes_for (length bits) → used ≤ length out → ((k : ℕ) → k < used → get_or out k 0 ≡ byte_of (drop (8 * k) bits)) → drop used out ≡ drop used was → out ≡ bytes_of bits ++ drop used was
unfolding bytes_of
bytes_of-written bits out was used is_used long each rest =
    let front : take used out ≡ map (λ place. byte_of (drop (8 * place) bits)) (range_with_len 0 used) =
    fill_by_all (λ place. byte_of (drop (8 * place) bits)) (take used out) used 0 (length-take-le used out long) (λ k h. get_or-take used out k 0 h ∙ each k h) in
    sym (take-append-drop used out) ∙ ap (λ xs. xs ++ drop used out) front ∙ ap (λ xs. map (λ place. byte_of (drop (8 * place) bits)) (range_with_len 0 used) ++ xs) rest
    ∙ ap (λ n. map (λ place. byte_of (drop (8 * place) bits)) (range_with_len 0 n) ++ drop used was) is_used
