-- Messages as bytes.
use Rattle.std.proofs.Common.{◌≡◌, ℕ, ◌*◌, ◌<◌, ◌≤◌, Bool, true, cond, ltb, List, [], ◌∷◌, ◌++◌, length, take, drop, replicate, false, Ok, Err, refl, sym, ap, ◌∙◌, arith, All}
use Rattle.std.specs.List.{list_any}
use Rattle.std.proofs.lemmas.List.{take_at, drop_all, append-nil, length-drop, length-take-le, take-append-drop, take-take}
use Rattle.std.proofs.lemmas.List.Elements.{All-map, All-take}
use Rattle.std.proofs.lemmas.Bool.{ltb-false}
use Rattle.ncp_numbers.specs.Bytes.{bits_of_bytes, bytes_for, spare_for, bytes_of}
use Rattle.ncp_bits.specs.Bits.{read_bytes, spare_bits}
use Rattle.ncp_bits.specs.declared.bits.BitsFault.TheVariants.{TooLong, ShortBytes, SpareNotZero}
use Rattle.ncp_bits.specs.declared.bits.TheConstants.{MAX_BITS}
use Rattle.ncp_numbers.proofs.Bytes.{length-bits_of_bytes, byte_of-fits}
use Rattle.ncp_numbers.proofs.Packing.{bits_of_bytes-bytes_of, bytes_of-bits_of_bytes}
use Rattle.ncp_bits.proofs.Joins.{read_bytes-bytes_of, length-bytes_of, bits-take}
use Rattle.ncp_transcript.specs.Packed.{bits_in, IsExact}

-- the bytes of bits are read as these bits
pub bits_in-bytes_of : (bits : List Bool) → bits_in (bytes_of bits) (length bits) ≡ bits
bits_in-bytes_of bits =
    ap (take (length bits)) (bits_of_bytes-bytes_of bits)
    ∙ take_at bits (replicate (spare_for (length bits)) false) (length bits) refl

pub packed : (bytes : List ℕ) (bits : List Bool) → bytes ≡ bytes_of bits → bits_in bytes (length bits) ≡ bits
packed bytes bits e = ap (λ (bs : List ℕ). bits_in bs (length bits)) e ∙ bits_in-bytes_of bits

pub exact : (bytes : List ℕ) (count : ℕ) (bits : List Bool) → bytes ≡ bytes_of bits → count ≡ length bits → count ≤ MAX_BITS → IsExact bytes count
exact bytes count bits e l h =
    let it : bits_in bytes count ≡ bits = ap (bits_in bytes) l ∙ packed bytes bits e in
    record { packed = e ∙ ap bytes_of (sym it); len = l ∙ ap length (sym it); fits = h }

pub read_exact : (bytes : List ℕ) (count : ℕ) → IsExact bytes count → read_bytes bytes count ≡ Ok (bits_in bytes count)
read_exact bytes count e =
    ap (λ (bs : List ℕ). read_bytes bs count) e.packed
    ∙ ap (read_bytes (bytes_of (bits_in bytes count))) e.len
    ∙ read_bytes-bytes_of (bits_in bytes count) (rw (← e.len) e.fits)

-- bytes that were written over others, which were as many
pub written : (now out was rest : List ℕ) (bits : List Bool) (count used : ℕ) → now ≡ take count (out ++ rest) → out ≡ bytes_of bits ++ drop used was → length was ≡ count → used ≡ bytes_for (length bits) → count ≡ bytes_for (length bits) → now ≡ bytes_of bits
written now out was rest bits count used e over w u n =
    let is : out ≡ bytes_of bits = over ∙ ap (λ (more : List ℕ). bytes_of bits ++ more) (drop_all used was (omega arith)) ∙ append-nil (bytes_of bits) in
    let l : length (bytes_of bits) ≡ count = length-bytes_of bits ∙ sym n in
    e ∙ ap (λ (bytes : List ℕ). take count (bytes ++ rest)) is ∙ take_at (bytes_of bits) rest count l

-- ---- bytes that are kept

all_false : (xs : List Bool) → list_any (λ bit. bit) xs ≡ false → xs ≡ replicate (length xs) false
all_false [] h = refl
all_false (true ∷ xs) h = let e : ⊥ = cc in absurd e
all_false (false ∷ xs) h = ap (λ zs. false ∷ zs) (all_false xs h)

tests_passed : {A : Type 0} (b c d : Bool) (x m : A) → cond b (Err TooLong) (cond c (Err ShortBytes) (cond d (Err SpareNotZero) (Ok x))) ≡ Ok m → (b ≡ false) × (c ≡ false) × (d ≡ false) × (x ≡ m)
tests_passed false false false x m h = let e : x ≡ m = cc in (refl, refl, refl, e)
tests_passed true c d x m h = let e : ⊥ = cc in absurd e
tests_passed false true d x m h = let e : ⊥ = cc in absurd e
tests_passed false false true x m h = let e : ⊥ = cc in absurd e

bytes_fit : (bits : List Bool) → All (λ byte. byte < 256) (bytes_of bits)
unfolding bytes_of
bytes_fit bits = All-map (λ byte. byte < 256) _ _ (λ k d less. byte_of-fits _)

-- bytes whose spare bits are zero are those of their bits
no_spare : (bytes : List ℕ) (count : ℕ) → All (λ byte. byte < 256) bytes → length bytes ≡ bytes_for count → list_any (λ bit. bit) (drop count (bits_of_bytes bytes)) ≡ false → (count ≡ length (bits_in bytes count)) × (bytes ≡ bytes_of (bits_in bytes count))
no_spare bytes count small l spare =
    let bits = bits_in bytes count in
    let all : length (bits_of_bytes bytes) ≡ 8 * length bytes = length-bits_of_bytes bytes in
    let long : length bits ≡ count = length-take-le count (bits_of_bytes bytes) (omega arith) in
    let many : length (drop count (bits_of_bytes bytes)) ≡ spare_for (length bits) = simp length-drop (omega (arith, all, l, long)) in
    let zeros : drop count (bits_of_bytes bytes) ≡ replicate (spare_for (length bits)) false = all_false (drop count (bits_of_bytes bytes)) spare ∙ ap (λ n. replicate n false) many in
    let same : bits_of_bytes bytes ≡ bits_of_bytes (bytes_of bits) = sym (take-append-drop count (bits_of_bytes bytes)) ∙ ap (λ zs. bits ++ zs) zeros ∙ sym (bits_of_bytes-bytes_of bits) in
    (sym long, sym (bytes_of-bits_of_bytes bytes small) ∙ ap bytes_of same ∙ bytes_of-bits_of_bytes (bytes_of bits) (bytes_fit bits))

-- the bytes that bits were read from, but for those behind them
pub kept : (bytes : List ℕ) (count : ℕ) (bits : List Bool) → All (λ byte. byte < 256) bytes → read_bytes bytes count ≡ Ok bits → IsExact (take (bytes_for count) bytes) count × (bits_in (take (bytes_for count) bytes) count ≡ bits)
kept bytes count bits small read =
    let passed = tests_passed (ltb 8192 count) (ltb (length bytes) (bytes_for count)) (list_any (λ bit. bit) (spare_bits bytes count)) (take count (bits_of_bytes bytes)) bits read in
    let fits : count ≤ 8192 = ltb-false 8192 count passed.0 in
    let inside : bytes_for count ≤ length bytes = ltb-false (length bytes) (bytes_for count) passed.1 in
    let whole = no_spare (take (bytes_for count) bytes) count (All-take (λ byte. byte < 256) (bytes_for count) bytes small) (length-take-le (bytes_for count) bytes inside) passed.2 in
    let front : bits_in (take (bytes_for count) bytes) count ≡ bits =
    ap (take count) (bits-take bytes (bytes_for count) inside) ∙ take-take count (8 * bytes_for count) (bits_of_bytes bytes) (omega arith) ∙ passed.3 in
    (record { packed = whole.1; len = whole.0; fits = fits }, front)
