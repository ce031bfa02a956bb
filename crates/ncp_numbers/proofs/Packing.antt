-- Bytes and their bits undo each other.
use Rattle.std.proofs.Common.{◌≡◌, ℕ, suc, zero, ◌+◌, ◌*◌, ◌^◌, ◌<◌, ◌≤◌, Bool, false, List, [], ◌∷◌, ◌++◌, length, take, drop, get_or, replicate, refl, sym, ap, ◌∙◌, arith}
use Rattle.std.specs.List.{All}
use Rattle.std.proofs.lemmas.List.{append_assoc, length-append, length-replicate, length-take-le, length-drop, take_at, take-append-drop, drop_at, drop-append-le, replicate-append-replicate, take-replicate}
use Rattle.std.proofs.lemmas.List.Elements.{All-nil, All-cons, All-get_or}
use Rattle.std.proofs.lemmas.List.FromFn.{fill_by_all}
use Rattle.std.proofs.lemmas.List.Concat.{flat_map-append}
use Rattle.std.proofs.Math.Seq.{drop-cons}
use Rattle.ncp_numbers.specs.Numbers.{number_of, bits_of}
use Rattle.ncp_numbers.specs.Bytes.{byte_bits, bits_of_bytes, bytes_for, spare_for, byte_of, bytes_of}
use Rattle.ncp_numbers.proofs.Numbers.{length-bits_of, bits_of-number_of, number_of-fits}
use Rattle.ncp_numbers.proofs.Fields.{number_of-fitting}
use Rattle.ncp_numbers.proofs.Bytes.{length-bits_of_bytes, byte_of-long}

-- the bits behind the first bytes are those of the other bytes
pub drop-bits_of_bytes : (bytes : List ℕ) (k : ℕ) → k ≤ length bytes → drop (8 * k) (bits_of_bytes bytes) ≡ bits_of_bytes (drop k bytes)
drop-bits_of_bytes bytes k h =
    let front : length (bits_of_bytes (take k bytes)) ≡ 8 * k = length-bits_of_bytes (take k bytes) ∙ ap (λ n. 8 * n) (length-take-le k bytes h) in
    ap (λ xs. drop (8 * k) (bits_of_bytes xs)) (sym (take-append-drop k bytes))
    ∙ ap (drop (8 * k)) (flat_map-append byte_bits (take k bytes) (drop k bytes))
    ∙ drop_at (bits_of_bytes (take k bytes)) (bits_of_bytes (drop k bytes)) (8 * k) front

-- the first byte of some bytes' bits
byte_of-bits : (byte : ℕ) (bytes : List ℕ) → byte < 256 → byte_of (bits_of_bytes (byte ∷ bytes)) ≡ byte
unfolding byte_bits
byte_of-bits byte bytes h =
    let l : length (bits_of 8 byte) ≡ 8 = length-bits_of 8 byte in
    byte_of-long (bits_of 8 byte ++ bits_of_bytes bytes) (simp length-append (omega arith))
    ∙ ap number_of (take_at (bits_of 8 byte) (bits_of_bytes bytes) 8 l)
    ∙ number_of-fitting 8 byte h

-- a byte, read from the bits
byte_at : (bytes : List ℕ) (k : ℕ) → All (λ byte. byte < 256) bytes → k < length bytes → byte_of (drop (8 * k) (bits_of_bytes bytes)) ≡ get_or bytes k 0
byte_at bytes k small h =
    ap byte_of (drop-bits_of_bytes bytes k (omega arith) ∙ ap bits_of_bytes (drop-cons bytes k 0 h))
    ∙ byte_of-bits (get_or bytes k 0) (drop (suc k) bytes) (All-get_or (λ byte. byte < 256) bytes k 0 h small)

-- bytes are those of bits, if each is
bytes_of-each : (bytes : List ℕ) (bits : List Bool) → length bytes ≡ bytes_for (length bits) → ((k : ℕ) → k < length bytes → byte_of (drop (8 * k) bits) ≡ get_or bytes k 0) → bytes_of bits ≡ bytes
unfolding bytes_of
bytes_of-each bytes bits long each =
    sym (fill_by_all (λ place. byte_of (drop (8 * place) bits)) bytes (bytes_for (length bits)) 0 long (λ k h. sym (each k (let e : length bytes ≡ bytes_for (length bits) = long in omega arith))))

pub bytes_of-bits_of_bytes : (bytes : List ℕ) → All (λ byte. byte < 256) bytes → bytes_of (bits_of_bytes bytes) ≡ bytes
bytes_of-bits_of_bytes bytes small =
    let long : length (bits_of_bytes bytes) ≡ 8 * length bytes = length-bits_of_bytes bytes in
    bytes_of-each bytes (bits_of_bytes bytes) (omega arith) (λ k h. byte_at bytes k small h)

-- so many bytes' worth of bits are the bits of some bytes
bytes_exist : (n : ℕ) (bits : List Bool) → length bits ≡ 8 * n → (bytes : List ℕ) × (bits ≡ bits_of_bytes bytes) × All (λ byte. byte < 256) bytes
unfolding byte_bits
bytes_exist zero [] h = ([], refl, All-nil (λ byte. byte < 256))
bytes_exist zero (bit ∷ bits) h = absurd (omega arith)
bytes_exist (suc n) bits h =
    let front : length (take 8 bits) ≡ 8 = length-take-le 8 bits (omega arith) in
    let rest = bytes_exist n (drop 8 bits) (simp length-drop (omega arith)) in
    let first : bits_of 8 (number_of (take 8 bits)) ≡ take 8 bits = ap (λ k. bits_of k (number_of (take 8 bits))) (sym front) ∙ bits_of-number_of (take 8 bits) in
    let fits : number_of (take 8 bits) < 2 ^ length (take 8 bits) = number_of-fits (take 8 bits) in (
      number_of (take 8 bits) ∷ rest.0,
      sym (take-append-drop 8 bits) ∙ ap (λ xs. xs ++ drop 8 bits) (sym first) ∙ ap (λ xs. bits_of 8 (number_of (take 8 bits)) ++ xs) rest.1,
      All-cons (λ byte. byte < 256) _ rest.0 (let e : 2 ^ length (take 8 bits) ≡ 256 = ap (λ k. 2 ^ k) front in omega arith) rest.2,
    )

take_padded : (bits : List Bool) (n j k : ℕ) → n ≤ j → n ≤ k → take n (bits ++ replicate j false) ≡ take n (bits ++ replicate k false)
take_padded [] n j k h i = take-replicate n j false h ∙ sym (take-replicate n k false i)
take_padded (bit ∷ bits) zero j k h i = refl
take_padded (bit ∷ bits) (suc n) j k h i = ap (λ xs. bit ∷ xs) (take_padded bits n j k (omega arith) (omega arith))

-- zeros behind bits do not change their first byte
byte_of-padded : (bits : List Bool) (k : ℕ) → byte_of (bits ++ replicate k false) ≡ byte_of bits
unfolding byte_of
byte_of-padded bits k =
    ap (λ xs. number_of (take 8 xs)) (append_assoc bits (replicate k false) (replicate 8 false))
    ∙ ap (λ xs. number_of (take 8 (bits ++ xs))) (replicate-append-replicate k 8 false)
    ∙ ap number_of (take_padded bits 8 (k + 8) 8 (omega arith) (omega arith))

pub bits_of_bytes-bytes_of : (bits : List Bool) → bits_of_bytes (bytes_of bits) ≡ bits ++ replicate (spare_for (length bits)) false
bits_of_bytes-bytes_of bits =
    let spare = spare_for (length bits) in
    let padded : length (bits ++ replicate spare false) ≡ 8 * bytes_for (length bits) = simp (length-append, length-replicate) (omega arith) in
    let some = bytes_exist (bytes_for (length bits)) (bits ++ replicate spare false) padded in
    let long : 8 * length some.0 ≡ 8 * bytes_for (length bits) = sym (length-bits_of_bytes some.0) ∙ ap length (sym some.1) ∙ padded in
    ap bits_of_bytes (
    bytes_of-each some.0 bits (omega arith) (λ k h.
    sym (byte_of-padded (drop (8 * k) bits) spare)
    ∙ ap byte_of (sym (drop-append-le (8 * k) bits (replicate spare false) (omega arith)) ∙ ap (drop (8 * k)) some.1)
    ∙ byte_at some.0 k some.2 h))
    ∙ sym some.1
