-- Headers and records at the front of bytes.
use Rattle.std.proofs.Common.{◌≡◌, ◌≢◌, ℕ, ◌+◌, ◌<◌, ◌≤◌, Bool, true, false, eqb, ltb, List, [], ◌∷◌, ◌++◌, length, take, drop, slice_range, Option, Some, None, Result, Ok, Err, refl, sym, ap, ◌∙◌, arith, codes}
use Rattle.std.specs.Str.{bytes_eq}
use Rattle.std.specs.Io.KnownBytes.{IsAtEnd}
use Rattle.std.proofs.lemmas.Slice.Eq.{bytes_eq-Decides}
use Rattle.std.proofs.lemmas.List.{append_assoc, append-nil, length-append, length-take, length-take-le, length-drop, take-append-le, take-append-drop, take-take, drop-append-le, drop-drop}
use Rattle.std.proofs.lemmas.Bool.{le-ltb, lt-ltb, ne_eqb}
use Rattle.byteorder.specs.Endian.{big_number}
use Rattle.byteorder.specs.Numbers.{big_from-append}
use Rattle.ncp_numbers.specs.Bytes.{bytes_for}
use Rattle.ncp_bits.specs.Bits.{read_bytes}
use Rattle.ncp_bits.specs.declared.bits.BitsFault.{BitsFault}
use Rattle.ncp_bits.specs.declared.bits.BitsFault.TheVariants as bits
use Rattle.ncp_bits.proofs.Enough.{read_bytes-append}
use Rattle.ncp_play_files.specs.declared.file.FileFault.{FileFault}
use Rattle.ncp_play_files.specs.declared.file.FileFault.TheVariants.{BadHeader, Truncated, TooLong, SpareNotZero, ReadFailed, WriteFailed, BadDirection, Mixed}
use Rattle.ncp_play_files.specs.File.{version_of, one_direction, direction_of, next_record, next_of_record, fault_of_bits}
use Rattle.ncp_play_buffer.specs.InBuffers.{read_measure}
use Rattle.ncp_play_stream.specs.Streams.{RemainingInput}
use Rattle.ncp_play_files.specs.Steps.{CutOff, StandsWhole, HasFaultInFront, ReadsRecord}

-- ---- the bytes ahead

pub ahead_at_end : (window bytes : List ℕ) (left : Option (List ℕ)) → RemainingInput window left bytes → IsAtEnd left → bytes ≡ window
ahead_at_end window bytes None h k = let e : ⊥ = cc in absurd e
ahead_at_end window bytes (Some xs) h k =
    let e : h.0 ≡ [] = let f : xs ≡ h.0 = cc in sym f ∙ k in
    sym h.2 ∙ ap (λ ys. window ++ ys) e ∙ append-nil window

-- bytes that were used up are not left to be done
pub effort_dropped : (reads count : ℕ) (window left : List ℕ) → left ≡ drop count window → read_measure reads left ≤ read_measure reads window
effort_dropped reads count window left e = omega (arith, length-drop count window, ap length e)

pub effort_shorter : (reads : ℕ) (window left : List ℕ) → length left < length window → read_measure reads left < read_measure reads window
effort_shorter reads window left h = omega arith

-- ---- headers

false_unless : (b : Bool) → (b ≡ true → ⊥) → b ≡ false
false_unless false h = refl
false_unless true h = absurd (h refl)

unlike : (xs ys : List ℕ) → length xs < length ys → bytes_eq xs ys ≡ false
unlike xs ys h = false_unless (bytes_eq xs ys) (λ e. let same : xs ≡ ys = (bytes_eq-Decides xs ys).0 e in let l : length xs ≡ length ys = ap length same in omega arith)

-- fewer than four bytes are no header
pub version_of-short : (bytes : List ℕ) → length bytes < 4 → version_of bytes ≡ None
version_of-short bytes h =
    let l : length (take 4 bytes) < 4 = simp length-take (omega arith) in
    rw (unlike (take 4 bytes) (codes "NCPH") l, unlike (take 4 bytes) (codes "NCPI") l, unlike (take 4 bytes) (codes "NCPJ") l) refl

pub direction_of-short : (bytes : List ℕ) → length bytes < 4 → direction_of bytes ≡ None
direction_of-short bytes h = ap one_direction (version_of-short bytes h)

-- a header is its first four bytes
pub version_of-take : (bytes : List ℕ) → version_of (take 4 bytes) ≡ version_of bytes
version_of-take bytes = rw (take-take 4 4 bytes (omega arith)) refl

pub version_of-append : (bytes rest : List ℕ) → 4 ≤ length bytes → version_of (bytes ++ rest) ≡ version_of bytes
version_of-append bytes rest h = rw (take-append-le 4 bytes rest h) refl

-- ---- records

-- a record's bytes are read behind its length
pub next_read : (bytes : List ℕ) → 2 ≤ length bytes → next_record bytes ≡ next_of_record (big_number 2 bytes) (drop 2 bytes) (read_bytes (drop 2 bytes) (big_number 2 bytes))
next_read bytes h =
    let none : eqb (length bytes) 0 ≡ false = ne_eqb _ 0 (λ z. omega arith) in
    let short : ltb (length bytes) 2 ≡ false = le-ltb _ _ h in
    rw (none, short) refl

pub next_none : (bytes : List ℕ) → length bytes ≡ 0 → next_record bytes ≡ Ok None
next_none bytes h = rw h refl

pub next_cut : (bytes : List ℕ) → length bytes ≢ 0 → length bytes < 2 → next_record bytes ≡ Err Truncated
next_cut bytes h k =
    let none : eqb (length bytes) 0 ≡ false = ne_eqb _ 0 h in
    rw (none, lt-ltb (length bytes) 2 k) refl

pub next_too_long : (bytes : List ℕ) (len : ℕ) → 2 ≤ length bytes → len ≡ big_number 2 bytes → 8192 < len → next_record bytes ≡ Err TooLong
next_too_long bytes len h e k =
    let long : ltb 8192 (big_number 2 bytes) ≡ true = ap (ltb 8192) (sym e) ∙ lt-ltb 8192 len k in
    next_read bytes h ∙ (rw long refl)

-- the bytes of a record are not all there
pub next_short : (bytes : List ℕ) (len : ℕ) → 2 ≤ length bytes → len ≡ big_number 2 bytes → len ≤ 8192 → length bytes < 2 + bytes_for len → next_record bytes ≡ Err Truncated
next_short bytes len h e small k =
    let fits : ltb 8192 (big_number 2 bytes) ≡ false = ap (ltb 8192) (sym e) ∙ le-ltb 8192 len small in
    let short : ltb (length (drop 2 bytes)) (bytes_for (big_number 2 bytes)) ≡ true = ap (λ n. ltb (length (drop 2 bytes)) (bytes_for n)) (sym e) ∙ lt-ltb _ _ (simp length-drop (omega arith)) in
    next_read bytes h ∙ (rw (fits, short) refl)

-- the first bytes of a record, and what stands behind them
pub next_whole : (bytes rest : List ℕ) (len : ℕ) → 2 ≤ length bytes → len ≡ big_number 2 bytes → 2 + bytes_for len ≤ length bytes
    → next_record (bytes ++ rest) ≡ next_of_record len (drop 2 (bytes ++ rest)) (read_bytes (slice_range bytes 2 (2 + bytes_for len)) len)
next_whole bytes rest len h e k =
    let used = bytes_for len in
    let front : length (take used (drop 2 bytes)) ≡ used = length-take-le used (drop 2 bytes) (simp length-drop (omega arith)) in
    let number : big_number 2 (bytes ++ rest) ≡ len = big_from-append 2 bytes rest h ∙ sym e in
    let behind : drop 2 (bytes ++ rest) ≡ take used (drop 2 bytes) ++ (drop used (drop 2 bytes) ++ rest) =
    drop-append-le 2 bytes rest h ∙ ap (λ xs. xs ++ rest) (sym (take-append-drop used (drop 2 bytes))) ∙ append_assoc (take used (drop 2 bytes)) (drop used (drop 2 bytes)) rest in
    let range : slice_range bytes 2 (2 + used) ≡ take used (drop 2 bytes) = ap (λ n. take n (drop 2 bytes)) (omega arith) in
    next_read (bytes ++ rest) (simp length-append (omega arith))
    ∙ ap (λ n. next_of_record n (drop 2 (bytes ++ rest)) (read_bytes (drop 2 (bytes ++ rest)) n)) number
    ∙ ap (λ xs. next_of_record len (drop 2 (bytes ++ rest)) (read_bytes xs len)) behind
    ∙ ap (next_of_record len (drop 2 (bytes ++ rest))) (read_bytes-append (take used (drop 2 bytes)) (drop used (drop 2 bytes) ++ rest) len front ∙ ap (λ xs. read_bytes xs len) (sym range))

-- what a record that was read leaves
pub following_record : (bytes rest : List ℕ) (len : ℕ) → 2 + bytes_for len ≤ length bytes → drop (bytes_for len) (drop 2 (bytes ++ rest)) ≡ drop (2 + bytes_for len) bytes ++ rest
following_record bytes rest len h =
    drop-drop (bytes_for len) 2 (bytes ++ rest) ∙ ap (λ n. drop n (bytes ++ rest)) (omega arith) ∙ drop-append-le (2 + bytes_for len) bytes rest h

-- ---- reads that failed

-- fewer than two bytes are no whole record
pub cut_in_length : (window bytes : List ℕ) (left : Option (List ℕ)) → length window < 2 → RemainingInput window left bytes → CutOff bytes window left
cut_in_length [] bytes left h k = (None, tt, next_none [] refl, k)
cut_in_length (first ∷ window) bytes left h k = (Some Truncated, refl, next_cut (first ∷ window) (λ e. omega arith) h, k)

pub cut_in_bytes : (window bytes : List ℕ) (left : Option (List ℕ)) (len : ℕ) → 2 ≤ length window → len ≡ big_number 2 window → len ≤ 8192 → length window < 2 + bytes_for len → RemainingInput window left bytes → CutOff bytes window left
cut_in_bytes window bytes left len h e small k a = (Some Truncated, refl, next_short window len h e small k, a)

-- the length stays when more comes
pub number_grows : (was more now : List ℕ) → now ≡ was ++ more → 2 ≤ length was → big_number 2 now ≡ big_number 2 was
number_grows was more now e h = ap (big_number 2) e ∙ big_from-append 2 was more h

-- a record that stands in a window is the next one, as its message's bytes are read
pub record_told : (window piece bytes : List ℕ) (left : Option (List ℕ)) (len : ℕ) (read : Result (List Bool) BitsFault) → StandsWhole window len → RemainingInput window left bytes → piece ≡ slice_range window 2 (2 + bytes_for len)
    → read ≡ read_bytes piece len → next_record bytes ≡ next_of_record len (drop 2 bytes) read
record_told window piece bytes left len read h a p r =
    ap next_record (sym a.2) ∙ next_whole window a.0 len (omega (arith, h.inside)) h.number h.inside
    ∙ ap (λ xs. next_of_record len (drop 2 xs) (read_bytes (slice_range window 2 (2 + bytes_for len)) len)) a.2
    ∙ ap (next_of_record len (drop 2 bytes)) (sym (r ∙ ap (λ xs. read_bytes xs len) p))

-- and what stands behind it
pub record_after : (window skipped bytes : List ℕ) (left : Option (List ℕ)) (len : ℕ) → StandsWhole window len → skipped ≡ drop (2 + bytes_for len) window → RemainingInput window left bytes → RemainingInput skipped left (drop (bytes_for len) (drop 2 bytes))
record_after window skipped bytes left len h e a =
    (a.0, a.1, ap (λ xs. xs ++ a.0) e ∙ sym (following_record window a.0 len h.inside) ∙ ap (λ xs. drop (bytes_for len) (drop 2 xs)) a.2)

-- a fault of its bits
pub printed_fault : (bytes : List ℕ) (fault : BitsFault) → next_record bytes ≡ Err (fault_of_bits fault) → HasFaultInFront bytes (fault_of_bits fault)
printed_fault bytes bits.TooLong h = h
printed_fault bytes bits.ShortBytes h = h
printed_fault bytes bits.SpareNotZero h = h

-- and as it is read
pub fault_read : (bytes window : List ℕ) (message : List Bool) (left : Option (List ℕ)) (fault : FileFault) → HasFaultInFront bytes fault → ReadsRecord bytes (Err fault) message window left
fault_read bytes window message left BadHeader h = h
fault_read bytes window message left Truncated h = h
fault_read bytes window message left TooLong h = h
fault_read bytes window message left SpareNotZero h = h
fault_read bytes window message left BadDirection h = h
fault_read bytes window message left Mixed h = h
fault_read bytes window message left ReadFailed h = absurd h
fault_read bytes window message left WriteFailed h = absurd h
