-- What was read of bytes is what they were written of.
use Rattle.std.proofs.Common.{◌≡◌, ℕ, suc, ◌+◌, ◌*◌, ◌-◌, ◌/◌, ◌%◌, ◌↔◌, ◌<◌, ◌≤◌, Bool, true, false, cond, eqb, ltb, List, [], ◌∷◌, ◌++◌, length, take, drop, replicate, Some, None, Result, Ok, Err, refl, sym, ap, ◌∙◌, arith, All, subst}
use Rattle.std.specs.List.{list_any}
use Rattle.std.proofs.Math.Seq.{take-append_seam, take-length}
use Rattle.std.proofs.lemmas.List.{append_assoc, length-drop, length-take-le, take-append-drop, drop_at}
use Rattle.std.proofs.lemmas.List.Elements.{All-map, All-take, All-drop}
use Rattle.std.proofs.lemmas.Bool.{ltb-false, ne_eqb}
use Rattle.byteorder.specs.Endian.{big_number, big_bytes}
use Rattle.ncp_numbers.specs.Numbers.{bits_of, number_of}
use Rattle.ncp_numbers.specs.Bytes.{byte_bits, bits_of_bytes, bytes_for, bytes_of}
use Rattle.ncp_bits.specs.Bits.{read_bytes, spare_bits}
use Rattle.ncp_bits.specs.declared.bits.BitsFault.{BitsFault}
use Rattle.ncp_bits.specs.declared.bits.BitsFault.TheVariants as bits
use Rattle.ncp_numbers.proofs.Numbers.{length-bits_of, number_of-bits_of}
use Rattle.ncp_bits.proofs.Enough.{read_bytes-append}
use Rattle.ncp_numbers.proofs.Bytes.{length-bits_of_bytes, byte_of-fits}
use Rattle.ncp_bits.proofs.Joins.{length-bytes_of, read_bytes-bytes_of}
use Rattle.ncp_play_files.specs.declared.file.FileFault.{FileFault}
use Rattle.ncp_play_files.specs.declared.file.FileFault.TheVariants.{Truncated, TooLong, SpareNotZero}
use Rattle.ncp_play_files.specs.File.{next_record, next_of_record, record_bytes}
use Rattle.ncp_play_files.specs.Reasons.{first_fault_of, reasons_at}
use Rattle.ncp_play_files.proofs.Files.{next_none, next_read}
use Rattle.ncp_play_files.proofs.Contents.{two_at_least, read_fits, record_read, next_record-written}

-- ---- bytes with the same bits

length-byte : (byte : ℕ) → length (byte_bits byte) ≡ 8
unfolding byte_bits
length-byte byte = length-bits_of 8 byte

same_byte : (a b : ℕ) → a < 256 → b < 256 → byte_bits a ≡ byte_bits b → a ≡ b
unfolding byte_bits
same_byte a b h k e =
    let x : number_of (bits_of 8 a) ≡ a % 256 = number_of-bits_of 8 a in
    let y : number_of (bits_of 8 b) ≡ b % 256 = number_of-bits_of 8 b in
    let z : number_of (bits_of 8 a) ≡ number_of (bits_of 8 b) = ap number_of e in
    omega (arith, x, y, z)

same_bits : (xs ys : List ℕ) → All (λ byte. byte < 256) xs → All (λ byte. byte < 256) ys → bits_of_bytes xs ≡ bits_of_bytes ys → xs ≡ ys
same_bits [] [] h k e = refl
same_bits [] (y ∷ ys) h k e = let l : 8 * 0 ≡ 8 * length (y ∷ ys) = sym (length-bits_of_bytes []) ∙ ap length e ∙ length-bits_of_bytes (y ∷ ys) in absurd (omega (arith, l))
same_bits (x ∷ xs) [] h k e = let l : 8 * length (x ∷ xs) ≡ 8 * 0 = sym (length-bits_of_bytes (x ∷ xs)) ∙ ap length e ∙ length-bits_of_bytes [] in absurd (omega (arith, l))
same_bits (x ∷ xs) (y ∷ ys) h k e =
    let a : take 8 (byte_bits x ++ bits_of_bytes xs) ≡ byte_bits x = ap (λ n. take n (byte_bits x ++ bits_of_bytes xs)) (sym (length-byte x)) ∙ take-append_seam (byte_bits x) (bits_of_bytes xs) in
    let b : take 8 (byte_bits y ++ bits_of_bytes ys) ≡ byte_bits y = ap (λ n. take n (byte_bits y ++ bits_of_bytes ys)) (sym (length-byte y)) ∙ take-append_seam (byte_bits y) (bits_of_bytes ys) in
    let c : drop 8 (byte_bits x ++ bits_of_bytes xs) ≡ bits_of_bytes xs = drop_at (byte_bits x) (bits_of_bytes xs) 8 (length-byte x) in
    let d : drop 8 (byte_bits y ++ bits_of_bytes ys) ≡ bits_of_bytes ys = drop_at (byte_bits y) (bits_of_bytes ys) 8 (length-byte y) in
    let first : x ≡ y = same_byte x y (h 0 x (omega arith)) (k 0 y (omega arith)) (sym a ∙ ap (take 8) e ∙ b) in
    let rest : xs ≡ ys = same_bits xs ys (λ n z less. h (suc n) z (omega arith)) (λ n z less. k (suc n) z (omega arith)) (sym c ∙ ap (drop 8) e ∙ d) in
    ap (λ n. n ∷ xs) first ∙ ap (λ zs. y ∷ zs) rest

-- ---- bits that were read

all_false : (xs : List Bool) → list_any (λ bit. bit) xs ≡ false → xs ≡ replicate (length xs) false
all_false [] h = refl
all_false (true ∷ xs) h = let e : ⊥ = cc in absurd e
all_false (false ∷ xs) h = ap (λ zs. false ∷ zs) (all_false xs h)

tests_passed : {A : Type 0} (b c d : Bool) (x m : A) → cond b (Err bits.TooLong) (cond c (Err bits.ShortBytes) (cond d (Err bits.SpareNotZero) (Ok x))) ≡ Ok m → (b ≡ false) × (c ≡ false) × (d ≡ false) × (x ≡ m)
tests_passed false false false x m h = let e : x ≡ m = cc in (refl, refl, refl, e)
tests_passed true c d x m h = let e : ⊥ = cc in absurd e
tests_passed false true d x m h = let e : ⊥ = cc in absurd e
tests_passed false false true x m h = let e : ⊥ = cc in absurd e

-- bytes that were read whole are the bits of the message, and zeros
exact_bits : (xs : List ℕ) (len : ℕ) (message : List Bool) → length xs ≡ bytes_for len → read_bytes xs len ≡ Ok message → (len ≤ 8 * length xs) → (length message ≡ len) × (bits_of_bytes xs ≡ message ++ replicate (8 * length xs - len) false)
exact_bits xs len message l h room =
    let passed = tests_passed (ltb 8192 len) (ltb (length xs) (bytes_for len)) (list_any (λ bit. bit) (spare_bits xs len)) (take len (bits_of_bytes xs)) message h in
    let all : length (bits_of_bytes xs) ≡ 8 * length xs = length-bits_of_bytes xs in
    let whole : take (bytes_for len) xs ≡ xs = ap (λ n. take n xs) (sym l) ∙ take-length xs in
    let spare : list_any (λ bit. bit) (drop len (bits_of_bytes xs)) ≡ false = ap (λ ys. list_any (λ bit. bit) (drop len (bits_of_bytes ys))) (sym whole) ∙ passed.2 in
    let zeros = all_false (drop len (bits_of_bytes xs)) spare in
    let many : length (drop len (bits_of_bytes xs)) ≡ 8 * length xs - len = simp length-drop (ap (λ n. n - len) all) in (
      ap length (sym passed.3) ∙ length-take-le len (bits_of_bytes xs) (omega arith),
      sym (take-append-drop len (bits_of_bytes xs)) ∙ ap (λ ys. ys ++ drop len (bits_of_bytes xs)) passed.3 ∙ ap (λ ys. message ++ ys) (zeros ∙ ap (λ n. replicate n false) many),
    )

bytes_fit : (message : List Bool) → All (λ byte. byte < 256) (bytes_of message)
unfolding bytes_of
bytes_fit message = All-map (λ byte. byte < 256) _ _ (λ k d less. byte_of-fits _)

room_for : (len : ℕ) → len ≤ 8 * bytes_for len
room_for len = omega arith

-- bytes that were read whole are the bytes of the message
read_exactly : (xs : List ℕ) (len : ℕ) (message : List Bool) → All (λ byte. byte < 256) xs → length xs ≡ bytes_for len → len ≤ 8192 → read_bytes xs len ≡ Ok message → (length message ≡ len) × (xs ≡ bytes_of message)
read_exactly xs len message fit l small h =
    let one = exact_bits xs len message l h (omega (arith, room_for len, l)) in
    let long : length (bytes_of message) ≡ bytes_for len = length-bytes_of message ∙ ap bytes_for one.0 in
    let again : read_bytes (bytes_of message) len ≡ Ok message = ap (read_bytes (bytes_of message)) (sym one.0) ∙ read_bytes-bytes_of message (omega (arith, one.0)) in
    let other = exact_bits (bytes_of message) len message long again (omega (arith, room_for len, long)) in
    let same : 8 * length xs - len ≡ 8 * length (bytes_of message) - len = ap (λ n. 8 * n - len) (l ∙ sym long) in
    (one.0, same_bits xs (bytes_of message) fit (bytes_fit message) (one.1 ∙ ap (λ n. message ++ replicate n false) same ∙ sym other.1))

small_enough : (xs : List ℕ) (len : ℕ) (message : List Bool) → read_bytes xs len ≡ Ok message → len ≤ 8192
small_enough xs len message h = ltb-false _ _ (tests_passed (ltb 8192 len) (ltb (length xs) (bytes_for len)) (list_any (λ bit. bit) (spare_bits xs len)) (take len (bits_of_bytes xs)) message h).0

-- ---- a record

length_again : (bytes : List ℕ) → All (λ byte. byte < 256) bytes → 2 ≤ length bytes → take 2 bytes ≡ big_bytes 2 (big_number 2 bytes)
length_again [] h k = absurd (omega arith)
length_again (a ∷ []) h k = absurd (omega arith)
length_again (a ∷ b ∷ rest) h k =
    let x : a < 256 = h 0 a (omega arith) in
    let y : b < 256 = h 1 b (omega arith) in
    let first : a ≡ (a * 256 + b) / 256 % 256 = omega arith in
    let second : b ≡ (a * 256 + b) % 256 = omega arith in
    let number : a * 256 + b ≡ big_number 2 (a ∷ b ∷ rest) = omega arith in
    ap (λ n. n ∷ b ∷ []) first ∙ ap (λ n. (a * 256 + b) / 256 % 256 ∷ n ∷ []) second ∙ ap (big_bytes 2) number

-- a record that was read is the written form of its message
pub record_is_written : (bytes rest : List ℕ) (message : List Bool) → All (λ byte. byte < 256) bytes → next_record bytes ≡ Ok (Some (message, rest)) → (length message ≤ 8192) × (bytes ≡ record_bytes message ++ rest)
record_is_written bytes rest message fit h =
    let two = two_at_least bytes rest message h in
    let len = big_number 2 bytes in
    let read = record_read len (drop 2 bytes) rest message (read_bytes (drop 2 bytes) len) (sym (next_read bytes two) ∙ h) in
    let fits = read_fits (drop 2 bytes) len message read.0 in
    let used = bytes_for len in
    let piece = take used (drop 2 bytes) in
    let long : length piece ≡ used = length-take-le used (drop 2 bytes) fits in
    let behind : piece ++ rest ≡ drop 2 bytes = ap (λ xs. piece ++ xs) read.1 ∙ take-append-drop used (drop 2 bytes) in
    let small = small_enough (drop 2 bytes) len message read.0 in
    let again : read_bytes piece len ≡ Ok message = sym (read_bytes-append piece rest len long) ∙ ap (λ xs. read_bytes xs len) behind ∙ read.0 in
    let exact = read_exactly piece len message (All-take (λ byte. byte < 256) used (drop 2 bytes) (All-drop (λ byte. byte < 256) 2 bytes fit)) long small again in
    let head : take 2 bytes ≡ big_bytes 2 (length message) = length_again bytes fit two ∙ ap (big_bytes 2) (sym exact.0) in (
      omega (arith, exact.0, small),
      sym (take-append-drop 2 bytes) ∙ ap (λ xs. xs ++ drop 2 bytes) head ∙ ap (λ xs. big_bytes 2 (length message) ++ xs) (sym behind) ∙ ap (λ xs. big_bytes 2 (length message) ++ (xs ++ rest)) exact.1
          ∙ sym (append_assoc (big_bytes 2 (length message)) (bytes_of message) rest),
    )

pub record_exactly : (bytes rest : List ℕ) (message : List Bool) → All (λ byte. byte < 256) bytes → (next_record bytes ≡ Ok (Some (message, rest))) ↔ ((length message ≤ 8192) × (bytes ≡ record_bytes message ++ rest))
record_exactly bytes rest message fit = (record_is_written bytes rest message fit, λ h. ap next_record h.1 ∙ next_record-written message rest h.0)

-- ---- where none begins

next_some : (bytes : List ℕ) → 0 < length bytes
    → next_record bytes ≡ cond (ltb (length bytes) 2) (Err Truncated) (next_of_record (big_number 2 bytes) (drop 2 bytes) (read_bytes (drop 2 bytes) (big_number 2 bytes)))
next_some bytes h = let none : eqb (length bytes) 0 ≡ false = ne_eqb _ 0 (λ z. omega arith) in rw none refl

never_none : (b : Bool) (len : ℕ) (bytes : List ℕ) (r : Result (List Bool) BitsFault) → cond b (Err Truncated) (next_of_record len bytes r) ≡ Ok None → ⊥
never_none true len bytes r h = let e : ⊥ = cc in e
never_none false len bytes (Ok m) h = let e : ⊥ = cc in e
never_none false len bytes (Err fault) h = let e : ⊥ = cc in e

pub record_ends : (bytes : List ℕ) → (next_record bytes ≡ Ok None) ↔ (bytes ≡ [])
record_ends [] = (λ h. refl, λ h. next_none [] refl)
record_ends (a ∷ bytes) = (
  (λ h. absurd (never_none (ltb (length (a ∷ bytes)) 2) (big_number 2 (a ∷ bytes)) (drop 2 (a ∷ bytes)) (read_bytes (drop 2 (a ∷ bytes)) (big_number 2 (a ∷ bytes))) (sym (next_some (a ∷ bytes) (omega arith)) ∙ h))),
  λ h. let e : ⊥ = cc in absurd e,
)

judged : (a b c d : Bool) (len : ℕ) (bytes : List ℕ) (m : List Bool) (fault : FileFault)
    → (cond a (Err Truncated) (next_of_record len bytes (cond b (Err bits.TooLong) (cond c (Err bits.ShortBytes) (cond d (Err bits.SpareNotZero) (Ok m))))) ≡ Err fault)
    ↔ (first_fault_of ((Truncated, a) ∷ (TooLong, b) ∷ (Truncated, c) ∷ (SpareNotZero, d) ∷ []) ≡ Some fault)
judged true b c d len bytes m fault = (λ h. cc, λ h. cc)
judged false true c d len bytes m fault = (λ h. cc, λ h. cc)
judged false false true d len bytes m fault = (λ h. cc, λ h. cc)
judged false false false true len bytes m fault = (λ h. cc, λ h. cc)
judged false false false false len bytes m fault = (λ h. absurd (let e : ⊥ = cc in e), λ h. absurd (let e : ⊥ = cc in e))

pub record_judged : (bytes : List ℕ) (fault : FileFault) → 0 < length bytes → (next_record bytes ≡ Err fault) ↔ (first_fault_of (reasons_at bytes) ≡ Some fault)
record_judged bytes fault h =
    let behind = drop 2 bytes in
    let len = big_number 2 bytes in
    subst (λ next. (next ≡ Err fault) ↔ (first_fault_of (reasons_at bytes) ≡ Some fault)) (sym (next_some bytes h))
    (judged (ltb (length bytes) 2) (ltb 8192 len) (ltb (length behind) (bytes_for len)) (list_any (λ bit. bit) (spare_bits behind len)) len behind (take len (bits_of_bytes behind)) fault)
