-- What bytes behind a header hold.
use Rattle.std.proofs.Common.{◌≡◌, ℕ, suc, zero, ◌+◌, ◌<◌, ◌≤◌, Bool, true, false, cond, ltb, List, [], ◌∷◌, ◌++◌, length, take, drop, slice_range, Option, Some, None, Result, Ok, Err, refl, sym, ap, ◌∙◌, arith, subst}
use Rattle.std.proofs.lemmas.List.{length-append, length-drop, drop-drop, take-append-drop, length-take-le, append_assoc, drop_at}
use Rattle.std.proofs.lemmas.Bool.{ltb-false}
use Rattle.std.proofs.Math.ListN.{drop_of_length-le}
use Rattle.byteorder.specs.Endian.{big_number, big_bytes}
use Rattle.byteorder.specs.Numbers.{big_from-append, big_number-reads_back}
use Rattle.ncp_numbers.specs.Bytes.{bytes_for, bytes_of}
use Rattle.ncp_bits.specs.Bits.{read_bytes}
use Rattle.ncp_bits.specs.declared.bits.BitsFault.{BitsFault}
use Rattle.ncp_bits.specs.declared.bits.BitsFault.TheVariants as bits
use Rattle.ncp_bits.proofs.Enough.{read_bytes-append}
use Rattle.ncp_bits.proofs.Joins.{length-bytes_of, read_bytes-bytes_of}
use Rattle.ncp_play_files.specs.declared.file.FileFault.{FileFault}
use Rattle.ncp_play_files.specs.File.{next_record, next_of_record, ending, HoldsBy, HoldsMessages, record_bytes}
use Rattle.ncp_play_files.specs.Steps.{Reader}
use Rattle.ncp_play_files.proofs.Files.{next_read, next_whole, following_record}

-- ---- a record at the front

pub two_at_least : (bytes rest : List ℕ) (message : List Bool) → next_record bytes ≡ Ok (Some (message, rest)) → 2 ≤ length bytes
two_at_least [] rest message h = let e : ⊥ = cc in absurd e
two_at_least (a ∷ []) rest message h = let e : ⊥ = cc in absurd e
two_at_least (a ∷ b ∷ bytes) rest message h = omega arith

not_short : {A : Type 0} (b c d : Bool) (x m : A) → cond b (Err bits.TooLong) (cond c (Err bits.ShortBytes) (cond d (Err bits.SpareNotZero) (Ok x))) ≡ Ok m → c ≡ false
not_short b false d x m h = refl
not_short true true d x m h = let e : ⊥ = cc in absurd e
not_short false true d x m h = let e : ⊥ = cc in absurd e

pub read_fits : (bytes : List ℕ) (len : ℕ) (message : List Bool) → read_bytes bytes len ≡ Ok message → bytes_for len ≤ length bytes
read_fits bytes len message h = ltb-false _ _ (not_short (ltb 8192 len) (ltb (length bytes) (bytes_for len)) _ _ message h)

pub record_read : (len : ℕ) (bytes rest : List ℕ) (message : List Bool) (r : Result (List Bool) BitsFault) → next_of_record len bytes r ≡ Ok (Some (message, rest)) → (r ≡ Ok message) × (rest ≡ drop (bytes_for len) bytes)
record_read len bytes rest message (Ok m) h =
    let pair : ◌≡◌ {A = List Bool × List ℕ} (m, drop (bytes_for len) bytes) (message, rest) = cc in
    (ap (λ p. Ok p.0) pair, sym (ap (λ p. p.1) pair))
record_read len bytes rest message (Err fault) h = let e : ⊥ = cc in absurd e

-- a record is its own bytes, whatever follows
pub next_record-front : (bytes rest : List ℕ) (message : List Bool) → next_record bytes ≡ Ok (Some (message, rest))
    → (front : List ℕ) × (bytes ≡ front ++ rest) × ((tail : List ℕ) → next_record (front ++ tail) ≡ Ok (Some (message, tail))) × (2 ≤ length front)
next_record-front bytes rest message h =
    let two = two_at_least bytes rest message h in
    let len = big_number 2 bytes in
    let read = record_read len (drop 2 bytes) rest message (read_bytes (drop 2 bytes) len) (sym (next_read bytes two) ∙ h) in
    let fits = read_fits (drop 2 bytes) len message read.0 in
    let inside : 2 + bytes_for len ≤ length bytes = omega (arith, simp length-drop at fits) in
    let front = take (2 + bytes_for len) bytes in
    let long : length front ≡ 2 + bytes_for len = length-take-le (2 + bytes_for len) bytes inside in
    let behind : rest ≡ drop (2 + bytes_for len) bytes = read.1 ∙ drop-drop (bytes_for len) 2 bytes ∙ ap (λ n. drop n bytes) (omega arith) in
    let whole : bytes ≡ front ++ rest = sym (take-append-drop (2 + bytes_for len) bytes) ∙ ap (λ xs. front ++ xs) (sym behind) in
    let number : len ≡ big_number 2 front = ap (big_number 2) whole ∙ big_from-append 2 front rest (omega arith) in
    let again = record_read len (drop 2 (front ++ rest)) rest message (read_bytes (slice_range front 2 (2 + bytes_for len)) len)
    (sym (next_whole front rest len (omega arith) number (omega arith)) ∙ ap next_record (sym whole) ∙ h) in (
      front,
      whole,
      (λ tail.
          next_whole front tail len (omega arith) number (omega arith) ∙ ap (next_of_record len (drop 2 (front ++ tail))) again.0
          ∙ ap (λ xs. Ok (Some (message, xs))) (following_record front tail len (omega arith) ∙ ap (λ xs. xs ++ tail) (drop_of_length-le front (omega arith)))),
      omega arith,
    )

-- ---- all records

-- what is read is a record at the front, whatever follows
abbrev pub IsFront : {X : Type 0} → Reader X → Type 0
IsFront {X} next = (bytes rest : List ℕ) (first : X) → next bytes ≡ Ok (Some (first, rest))
    → (front : List ℕ) × (bytes ≡ front ++ rest) × ((tail : List ℕ) → next (front ++ tail) ≡ Ok (Some (first, tail))) × (0 < length front)

pub record_front : IsFront next_record
record_front bytes rest message h = let f = next_record-front bytes rest message h in (f.0, f.1, f.2, omega (arith, f.3))

module _ {X : Type 0} (next : Reader X) (front : IsFront next) where
  by_next : (n : ℕ) (bytes : List ℕ) → length bytes < suc n → (r : Result (Option (X × List ℕ)) FileFault) → next bytes ≡ r
      → ((rest : List ℕ) → length rest < n → (records : List X) × (fault : Option FileFault) × HoldsBy next rest records fault)
      → (records : List X) × (fault : Option FileFault) × HoldsBy next bytes records fault
  by_next n bytes h (Ok None) e more = ([], None, e)
  by_next n bytes h (Ok (Some (first, rest))) e more =
      let f = front bytes rest first e in
      let behind = more rest (omega (arith, f.3, simp length-append at (ap length f.1))) in
      (first ∷ behind.0, behind.1, (rest, e, behind.2))
  by_next n bytes h (Err fault) e more = ([], Some fault, e)

  by_within : (n : ℕ) (bytes : List ℕ) → length bytes < n → (records : List X) × (fault : Option FileFault) × HoldsBy next bytes records fault
  by_within zero bytes h = absurd (omega arith)
  by_within (suc n) bytes h = by_next n bytes h (next bytes) refl (by_within n)

  -- bytes hold some records, and end or have a fault behind them
  pub by_some : (bytes : List ℕ) → (records : List X) × (fault : Option FileFault) × HoldsBy next bytes records fault
  by_some bytes = by_within (suc (length bytes)) bytes (omega arith)

  -- and those of more bytes begin with them
  pub by_longer : (given rest : List ℕ) (records : List X) (fault : Option FileFault) → HoldsBy next given records fault
      → (more : List X) × (last : Option FileFault) × HoldsBy next (given ++ rest) (records ++ more) last
  by_longer given rest [] fault h = by_some (given ++ rest)
  by_longer given rest (first ∷ records) fault h =
      let longer = by_longer h.0 rest records fault h.2 in
      let f = front given h.0 first h.1 in
      (longer.0, longer.1, (h.0 ++ rest, ap (λ xs. next (xs ++ rest)) f.1 ∙ ap next (append_assoc f.0 h.0 rest) ∙ f.2 (h.0 ++ rest), longer.2))

pub holds_some : (bytes : List ℕ) → (messages : List (List Bool)) × (fault : Option FileFault) × HoldsMessages bytes messages fault
holds_some bytes = by_some next_record record_front bytes

-- ---- one reading

module _ {X : Type 0} where
  ends_once : (fault other : Option FileFault) (r : Result (Option (X × List ℕ)) FileFault) → r ≡ ending fault → r ≡ ending other → fault ≡ other
  ends_once None None r h k = refl
  ends_once None (Some f) r h k = let e : ⊥ = cc in absurd e
  ends_once (Some f) None r h k = let e : ⊥ = cc in absurd e
  ends_once (Some f) (Some g) r h k = let e : f ≡ g = cc in ap Some e

  -- no record stands where the file ends
  never_both : (fault : Option FileFault) (first : X) (rest : List ℕ) (r : Result (Option (X × List ℕ)) FileFault) → r ≡ ending fault → r ≡ Ok (Some (first, rest)) → ⊥
  never_both None first rest r h k = let e : ⊥ = cc in e
  never_both (Some f) first rest r h k = let e : ⊥ = cc in e

  -- one record stands there
  same_record : (first other : X) (rest more : List ℕ) (r : Result (Option (X × List ℕ)) FileFault) → r ≡ Ok (Some (first, rest)) → r ≡ Ok (Some (other, more)) → (first ≡ other) × (rest ≡ more)
  same_record first other rest more r h k =
      let pair : ◌≡◌ {A = X × List ℕ} (first, rest) (other, more) = cc in
      (ap (λ p. p.0) pair, ap (λ p. p.1) pair)

module _ {X : Type 0} (next : Reader X) where
  pub by_once : (bytes : List ℕ) (records others : List X) (fault other : Option FileFault) → HoldsBy next bytes records fault → HoldsBy next bytes others other → (records ≡ others) × (fault ≡ other)
  by_once bytes [] [] fault other h k = (refl, ends_once fault other (next bytes) h k)
  by_once bytes [] (second ∷ others) fault other h k = absurd (never_both fault second k.0 (next bytes) h k.1)
  by_once bytes (first ∷ records) [] fault other h k = absurd (never_both other first h.0 (next bytes) k h.1)
  by_once bytes (first ∷ records) (second ∷ others) fault other h k =
      let same = same_record first second h.0 k.0 (next bytes) h.1 k.1 in
      let rest = by_once h.0 records others fault other h.2 (subst (λ xs. HoldsBy next xs others other) (sym same.1) k.2) in
      (ap (λ m. m ∷ records) same.0 ∙ ap (λ ms. second ∷ ms) rest.0, rest.1)

pub holds_once : (bytes : List ℕ) (messages others : List (List Bool)) (fault other : Option FileFault) → HoldsMessages bytes messages fault → HoldsMessages bytes others other → (messages ≡ others) × (fault ≡ other)
holds_once bytes messages others fault other h k = by_once next_record bytes messages others fault other h k

-- ---- written files

length-record : (message : List Bool) (rest : List ℕ) → length (record_bytes message ++ rest) ≡ 2 + bytes_for (length message) + length rest
length-record message rest = let l : length (bytes_of message) ≡ bytes_for (length message) = length-bytes_of message in simp length-append (omega arith)

-- a record that was written is read, whatever stands behind it
pub next_record-written : (message : List Bool) (rest : List ℕ) → length message ≤ 8192 → next_record (record_bytes message ++ rest) ≡ Ok (Some (message, rest))
next_record-written message rest h =
    let len = length message in
    let bytes = record_bytes message ++ rest in
    let long : length (bytes_of message) ≡ bytes_for len = length-bytes_of message in
    let number : big_number 2 bytes ≡ len = ap (big_number 2) (append_assoc (big_bytes 2 len) (bytes_of message) rest) ∙ big_number-reads_back 2 len (bytes_of message ++ rest) (omega arith) in
    let behind : drop 2 bytes ≡ bytes_of message ++ rest = ap (drop 2) (append_assoc (big_bytes 2 len) (bytes_of message) rest) ∙ drop_at (big_bytes 2 len) (bytes_of message ++ rest) 2 refl in
    next_read bytes (omega (arith, length-record message rest))
    ∙ ap (λ n. next_of_record n (drop 2 bytes) (read_bytes (drop 2 bytes) n)) number
    ∙ ap (λ xs. next_of_record len xs (read_bytes xs len)) behind
    ∙ ap (next_of_record len (bytes_of message ++ rest)) (read_bytes-append (bytes_of message) rest len long ∙ read_bytes-bytes_of message h)
    ∙ ap (λ xs. Ok (Some (message, xs))) (drop_at (bytes_of message) rest (bytes_for len) long)
