-- Bits that are written in pieces of whole bytes.
use Rattle.std.proofs.Common.{◌≡◌, ◌≤◌, ◌<◌, ℕ, ◌+◌, ◌*◌, Bool, false, List, ◌++◌, length, take, drop, replicate, sym, ap, ap₂, ◌∙◌, arith}
use Rattle.std.proofs.lemmas.List.{append_assoc, append-nil, length-append, length-take-le, take-append-drop}
use Rattle.std.proofs.lemmas.List.Elements.{All-append}
use Rattle.std.proofs.lemmas.Grind.{flat_map-append}
use Rattle.ncp_numbers.specs.Bytes.{bytes_of, bits_of_bytes, byte_bits, bytes_for, spare_for}
use Rattle.ncp_bits.proofs.Joins.{length-bytes_of}
use Rattle.ncp_numbers.proofs.Packing.{bytes_of-bits_of_bytes, bits_of_bytes-bytes_of}
use Rattle.ncp_wire.specs.Spelling.{IsByte}
use Rattle.ncp_control.proofs.Text.{bytes_are_small}

pub bytes_joined : (a b xs : List Bool) (k : ℕ) → length a ≡ 8 * k → a ++ b ≡ xs → bytes_of a ++ bytes_of b ≡ bytes_of xs
bytes_joined a b xs k len e =
    let total : length xs ≡ length a + length b = sym (ap length e) ∙ length-append a b in
    let none : spare_for (length a) ≡ 0 = omega (arith, len) in
    let same : spare_for (length b) ≡ spare_for (length xs) = omega (arith, len, total) in
    let first : bits_of_bytes (bytes_of a) ≡ a = bits_of_bytes-bytes_of a ∙ ap (λ n. a ++ replicate n false) none ∙ append-nil a in
    let second : bits_of_bytes (bytes_of b) ≡ b ++ replicate (spare_for (length xs)) false = bits_of_bytes-bytes_of b ∙ ap (λ n. b ++ replicate n false) same in
    let bits : bits_of_bytes (bytes_of a ++ bytes_of b) ≡ bits_of_bytes (bytes_of xs) =
    flat_map-append byte_bits (bytes_of a) (bytes_of b)
    ∙ ap₂ (λ (x y : List Bool). x ++ y) first second
    ∙ sym (append_assoc a b (replicate (spare_for (length xs)) false))
    ∙ ap (λ (ys : List Bool). ys ++ replicate (spare_for (length xs)) false) e
    ∙ sym (bits_of_bytes-bytes_of xs) in
    sym (bytes_of-bits_of_bytes (bytes_of a ++ bytes_of b) (All-append IsByte (bytes_of a) (bytes_of b) (bytes_are_small a) (bytes_are_small b)))
    ∙ ap bytes_of bits ∙ bytes_of-bits_of_bytes (bytes_of xs) (bytes_are_small xs)

-- one piece is taken out and written
pub piece_more : (held : List Bool) (out now all : List ℕ) → 8192 ≤ length held → now ≡ out ++ bytes_of (take 8192 held) → out ++ bytes_of held ≡ all → now ++ bytes_of (drop 8192 held) ≡ all
piece_more held out now all l is e =
    ap (λ (w : List ℕ). w ++ bytes_of (drop 8192 held)) is
    ∙ append_assoc out (bytes_of (take 8192 held)) (bytes_of (drop 8192 held))
    ∙ ap (λ (w : List ℕ). out ++ w) (bytes_joined (take 8192 held) (drop 8192 held) held 1024 (length-take-le 8192 held l) (take-append-drop 8192 held))
    ∙ e

-- Some of the bits of a value are in a store, and the others are left to be read.
pub record Midway (held : List Bool) (left : ℕ) (now : List ℕ) (bits : List Bool) (rest : List ℕ) : Type 0 where
  pub todo : List Bool
  pub joined : held ++ todo ≡ bits
  pub many : left ≡ length todo
  pub bytes : now ≡ bytes_of todo ++ rest

-- the first piece of what is left
pub record FirstPiece (todo : List Bool) (now rest : List ℕ) : Type 0 where
  pub many : 8192 ≡ length (take 8192 todo)
  pub count : length (bytes_of (take 8192 todo)) ≡ 1024
  pub bytes : now ≡ bytes_of (take 8192 todo) ++ (bytes_of (drop 8192 todo) ++ rest)

pub first_piece : (todo : List Bool) (now rest : List ℕ) → 8192 < length todo → now ≡ bytes_of todo ++ rest → FirstPiece todo now rest
first_piece todo now rest more is =
    let long : length (take 8192 todo) ≡ 8192 = length-take-le 8192 todo (omega (arith, more)) in
    record {
      many = sym long;
      count = length-bytes_of (take 8192 todo) ∙ ap bytes_for long;
      bytes = is
          ∙ ap (λ (w : List ℕ). w ++ rest) (sym (bytes_joined (take 8192 todo) (drop 8192 todo) todo 1024 long (take-append-drop 8192 todo)))
          ∙ append_assoc (bytes_of (take 8192 todo)) (bytes_of (drop 8192 todo)) rest;
    }

-- and there is room for it
pub piece_fits : (held todo bits : List Bool) (room : ℕ) → held ++ todo ≡ bits → length bits ≤ room → length held + length todo ≤ room
piece_fits held todo bits room joined fits = let n : length held + length todo ≡ length bits = sym (length-append held todo) ∙ ap length joined in omega (arith, n, fits)

pub piece_goes_on : (held todo bits now : List Bool) → held ++ todo ≡ bits → now ≡ held ++ take 8192 todo → now ++ drop 8192 todo ≡ bits
piece_goes_on held todo bits now joined is =
    ap (λ (xs : List Bool). xs ++ drop 8192 todo) is ∙ append_assoc held (take 8192 todo) (drop 8192 todo) ∙ ap (λ (xs : List Bool). held ++ xs) (take-append-drop 8192 todo) ∙ joined
