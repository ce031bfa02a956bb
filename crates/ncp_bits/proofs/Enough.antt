-- Bytes of which the first are read.
use Rattle.std.proofs.Common.{◌≡◌, ℕ, ◌*◌, ◌≤◌, false, List, ◌++◌, length, take, drop, ltb, Ok, refl, sym, ap, ◌∙◌, arith}
use Rattle.std.specs.List.{list_any}
use Rattle.std.proofs.lemmas.List.{length-append, take-append-le}
use Rattle.std.proofs.lemmas.Bool.{le-ltb}
use Rattle.std.proofs.lemmas.List.Concat.{flat_map-append}
use Rattle.ncp_numbers.specs.Bytes.{byte_bits, bits_of_bytes, bytes_for}
use Rattle.ncp_numbers.proofs.Bytes.{length-bits_of_bytes}
use Rattle.ncp_bits.specs.Bits.{read_bytes}

-- bytes that are long enough, with no bit set behind the wanted ones
pub read_bytes-ok : (bytes : List ℕ) (len used : ℕ) → len ≤ 8192 → used ≡ bytes_for len → used ≤ length bytes → list_any (λ bit. bit) (drop len (bits_of_bytes (take used bytes))) ≡ false → read_bytes bytes len ≡ Ok (take len (bits_of_bytes bytes))
read_bytes-ok bytes len used small is_used long none =
    let a : ltb 8192 len ≡ false = le-ltb 8192 len small in
    let b : ltb (length bytes) (bytes_for len) ≡ false = le-ltb _ _ (omega arith) in
    let d : list_any (λ bit. bit) (drop len (bits_of_bytes (take (bytes_for len) bytes))) ≡ false = ap (λ n. list_any (λ bit. bit) (drop len (bits_of_bytes (take n bytes)))) (sym is_used) ∙ none in
    rw (a, b, d) refl

-- bytes behind the last byte used are not looked at
pub read_bytes-append : (piece rest : List ℕ) (len : ℕ) → length piece ≡ bytes_for len → read_bytes (piece ++ rest) len ≡ read_bytes piece len
read_bytes-append piece rest len h =
    let a : ltb (length (piece ++ rest)) (bytes_for len) ≡ false = le-ltb _ _ (simp length-append (omega arith)) in
    let b : ltb (length piece) (bytes_for len) ≡ false = le-ltb _ _ (omega arith) in
    let d : take (bytes_for len) (piece ++ rest) ≡ take (bytes_for len) piece = take-append-le (bytes_for len) piece rest (omega arith) in
    let l : length (bits_of_bytes piece) ≡ 8 * length piece = length-bits_of_bytes piece in
    let e : take len (bits_of_bytes (piece ++ rest)) ≡ take len (bits_of_bytes piece) =
    ap (take len) (flat_map-append byte_bits piece rest) ∙ take-append-le len (bits_of_bytes piece) (bits_of_bytes rest) (omega arith) in
    rw (a, b, d, e) refl
