-- The text of one connection: bits that are said, one record after the other, and then their bytes.
use Rattle.std.proofs.Common.{◌≡◌, inl, inr, ◌+◌, ◌-◌, ◌*◌, ◌/◌, ◌%◌, ◌<◌, ℕ, Bool, false, List, [], ◌∷◌, ◌++◌, length, take, drop, replicate, Option, Some, None, Result, Ok, Err, refl, sym, ap, ◌∙◌, subst, arith}
use Rattle.std.specs.Prelude.{is_some, option_map, slice_range}
use Rattle.std.specs.List.{All, range_with_len}
use Rattle.std.proofs.Math.Seq.{take-append-add, drop-append-add}
use Rattle.std.proofs.lemmas.List.{append_assoc, append-nil, length-append, length-drop, length-take-le, take-append-drop, take_all}
use Rattle.std.proofs.lemmas.List.Elements.{All-map, All-append}
use Rattle.std.proofs.lemmas.List.Concat.{flat_map-append}
use Rattle.ncp_numbers.specs.Bytes.{byte_bits, bits_of_bytes, bytes_for, spare_for, byte_of, bytes_of}
use Rattle.ncp_numbers.proofs.Bytes.{byte_of-fits}
use Rattle.ncp_numbers.proofs.Packing.{bytes_of-bits_of_bytes, bits_of_bytes-bytes_of}
use Rattle.ncp_play_files.specs.declared.file.FileFault.{FileFault}
use Rattle.ncp_play_files.specs.declared.file.FileFault.TheVariants.{BadHeader, Truncated, TooLong, SpareNotZero, ReadFailed, WriteFailed, BadDirection, Mixed}
use Rattle.ncp_play_files.specs.declared.version.Version.{Version}
use Rattle.ncp_play_files.specs.declared.version.Version.TheVariants.{One, Two}
use Rattle.ncp_play_files.specs.declared.pass.FileEnd.{FileEnd}
use Rattle.ncp_play_files.specs.declared.pass.FileEnd.TheVariants.{Whole, CutOff}
use Rattle.ncp_play_files.specs.File.{version_of}
use Rattle.ncp_play_files.specs.Versions.{Recorded}
use Rattle.ncp_play_files.specs.Writing.{WritesAll}
use Rattle.ncp_play_files.specs.Passes.{end_at, text_from, state_from, whole_text, PassHolds, PrintsAs, PrintsCut, PrintsPrefix, Passes}
use Rattle.ncp_play_buffer.specs.Lines.{number_after}
use Rattle.ncp_follow.specs.declared.follower.Follower.{Follower}
use Rattle.ncp_follow.specs.Followed.{silent}
use Rattle.ncp_play_follow.specs.FollowedTexts.{heard_alone, said_by, said_in, is_there, IsThere, whole_bits, bits_left_over, TextState, text_pass, SaidAs, TextAs, TextCut, TextPrefix, FollowsText}

-- ---- bytes

bytes_are_small : (bits : List Bool) → All (λ byte. byte < 256) (bytes_of bits)
unfolding bytes_of
bytes_are_small bits =
    All-map (λ byte. byte < 256) (λ place. byte_of (drop (8 * place) bits)) (range_with_len 0 (bytes_for (length bits))) (λ i place h. byte_of-fits _)

-- the bytes of bits behind whole bytes
pub bytes_after : (front back : List Bool) → length front % 8 ≡ 0 → bytes_of (front ++ back) ≡ bytes_of front ++ bytes_of back
bytes_after front back whole =
    let none : spare_for (length front) ≡ 0 = omega arith in
    let all : length (front ++ back) ≡ length front + length back = length-append front back in
    let spare : spare_for (length back) ≡ spare_for (length (front ++ back)) = omega arith in
    let rest = replicate (spare_for (length (front ++ back))) false in
    let same : bits_of_bytes (bytes_of (front ++ back)) ≡ bits_of_bytes (bytes_of front ++ bytes_of back) =
    bits_of_bytes-bytes_of (front ++ back)
    ∙ append_assoc front back rest
    ∙ sym (
    flat_map-append byte_bits (bytes_of front) (bytes_of back)
    ∙ ap (λ (bits : List Bool). bits ++ bits_of_bytes (bytes_of back)) (bits_of_bytes-bytes_of front ∙ ap (λ (k : ℕ). front ++ replicate k false) none ∙ append-nil front)
    ∙ ap (λ (bits : List Bool). front ++ bits) (bits_of_bytes-bytes_of back ∙ ap (λ (k : ℕ). back ++ replicate k false) spare)) in
    sym (bytes_of-bits_of_bytes (bytes_of (front ++ back)) (bytes_are_small (front ++ back)))
    ∙ ap bytes_of same
    ∙ bytes_of-bits_of_bytes (bytes_of front ++ bytes_of back) (All-append (λ byte. byte < 256) (bytes_of front) (bytes_of back) (bytes_are_small front) (bytes_are_small back))

-- ---- whole bytes and spare bits

-- behind whole bytes
whole_after : (front bits : List Bool) → length front % 8 ≡ 0 → (whole_bits (front ++ bits) ≡ front ++ whole_bits bits) × (bits_left_over (front ++ bits) ≡ bits_left_over bits)
whole_after front bits whole =
    let all : length (front ++ bits) ≡ length front + length bits = length-append front bits in
    let count : 8 * (length (front ++ bits) / 8) ≡ length front + 8 * (length bits / 8) = omega (arith, whole, all) in (
      ap (λ (n : ℕ). take n (front ++ bits)) count ∙ take-append-add front bits (8 * (length bits / 8)),
      ap (λ (n : ℕ). drop n (front ++ bits)) count ∙ drop-append-add front bits (8 * (length bits / 8)),
    )

whole_len : (bits : List Bool) → length (whole_bits bits) % 8 ≡ 0
whole_len bits =
    let n : length (whole_bits bits) ≡ 8 * (length bits / 8) = length-take-le (8 * (length bits / 8)) bits (omega arith) in
    omega (arith, n)

pub both_parts : (bits : List Bool) → whole_bits bits ++ bits_left_over bits ≡ bits
both_parts bits = take-append-drop (8 * (length bits / 8)) bits

-- bits that come in two parts
pub in_two : (spare first second : List Bool)
    → (bytes_of (whole_bits (spare ++ first)) ++ bytes_of (whole_bits (bits_left_over (spare ++ first) ++ second)) ≡ bytes_of (whole_bits (spare ++ (first ++ second))))
    × (bits_left_over (bits_left_over (spare ++ first) ++ second) ≡ bits_left_over (spare ++ (first ++ second)))
in_two spare first second =
    let one = spare ++ first in
    let front = whole_bits one in let rest = bits_left_over one ++ second in
    let all : front ++ rest ≡ spare ++ (first ++ second) =
    sym (append_assoc front (bits_left_over one) second) ∙ ap (λ (xs : List Bool). xs ++ second) (both_parts one) ∙ append_assoc spare first second in
    let after = whole_after front rest (whole_len one) in (
      sym (bytes_after front (whole_bits rest) (whole_len one)) ∙ ap bytes_of (sym after.0) ∙ ap (λ (xs : List Bool). bytes_of (whole_bits xs)) all,
      sym after.1 ∙ ap bits_left_over all,
    )

-- a run of bits, and those behind it
pub two_parts : (bits : List Bool) (n m : ℕ) → n + m ≡ length bits → slice_range bits 0 (0 + n) ++ slice_range bits n (n + m) ≡ bits
two_parts bits n m e =
    let first : 0 + n - 0 ≡ n = omega arith in
    let rest : length (drop n bits) ≡ length bits - n = length-drop n bits in
    ap (λ (k : ℕ). take k bits ++ slice_range bits n (n + m)) first
    ∙ ap (λ (xs : List Bool). take n bits ++ xs) (take_all (n + m - n) (drop n bits) (omega (arith, rest, e)))
    ∙ take-append-drop n bits

-- the run of whole bytes, and the run after it
pub front_run : (bits : List Bool) (len : ℕ) → len ≡ length bits → slice_range bits 0 (0 + 8 * (len / 8)) ≡ whole_bits bits
front_run bits len e = let n : 0 + 8 * (len / 8) - 0 ≡ 8 * (length bits / 8) = omega (arith, e) in ap (λ (k : ℕ). take k bits) n

pub back_run : (bits : List Bool) (len all : ℕ) → len ≡ length bits → all ≡ length bits → slice_range bits (8 * (len / 8)) (8 * (len / 8) + (all - 8 * (len / 8))) ≡ bits_left_over bits
back_run bits len all e f =
    let at = 8 * (len / 8) in
    let rest : length (drop at bits) ≡ length bits - at = length-drop at bits in
    take_all (at + (all - at) - at) (drop at bits) (omega (arith, rest, e, f)) ∙ ap (λ (n : ℕ). drop (8 * (n / 8)) bits) e

-- ---- records

abbrev state_of : ℕ → Follower → List Bool → TextState
state_of wanted follower spare = record { wanted = wanted; follower = silent wanted follower; spare = spare }

module _ (wanted : ℕ) where
  -- the bytes of all bits that are said
  all_bytes : (number : ℕ) (follower : Follower) (spare : List Bool) (records : List Recorded)
      → text_from text_pass number (state_of wanted follower spare) records ++ bytes_of (state_from text_pass number (state_of wanted follower spare) records).spare ≡ bytes_of (spare ++ said_in wanted follower number records)
  all_bytes number follower spare [] = ap bytes_of (sym (append-nil spare))
  all_bytes number follower spare (seen ∷ records) =
      let said = said_by wanted follower number seen in
      let bits = spare ++ said in
      let next = heard_alone wanted follower number seen in
      let more = said_in wanted next (number_after number) records in
      let state : TextState = state_of wanted next (bits_left_over bits) in
      append_assoc (bytes_of (whole_bits bits)) (text_from text_pass (number_after number) state records) (bytes_of (state_from text_pass (number_after number) state records).spare)
      ∙ ap (λ (xs : List ℕ). bytes_of (whole_bits bits) ++ xs) (all_bytes (number_after number) next (bits_left_over bits) records)
      ∙ sym (bytes_after (whole_bits bits) (bits_left_over bits ++ more) (whole_len bits))
      ∙ ap bytes_of (sym (append_assoc (whole_bits bits) (bits_left_over bits) more) ∙ ap (λ (xs : List Bool). xs ++ more) (both_parts bits) ∙ append_assoc spare said more)

  is_known : (number : ℕ) (follower : Follower) (spare : List Bool) (records : List Recorded) → text_pass.good (state_from text_pass number (state_of wanted follower spare) records) ≡ is_there wanted follower number records
  is_known number follower spare [] = refl
  is_known number follower spare (seen ∷ records) = is_known (number_after number) (heard_alone wanted follower number seen) (bits_left_over (spare ++ said_by wanted follower number seen)) records

  module _ (follower : Follower) where
    -- ---- files

    said_by_file : (bytes : List ℕ) (fault : Option FileFault) (records : List Recorded) (o : Option Version) → version_of bytes ≡ o → PassHolds text_pass bytes records fault → SaidAs wanted follower bytes (said_in wanted follower 1 records) fault
    said_by_file bytes fault records None e h = let held = rw e at h in rw e (ap (said_in wanted follower 1) held.0, held.1)
    said_by_file bytes fault records (Some (One direction)) e h = let held = rw e at h in rw e (ap (said_in wanted follower 1) held.0, held.1)
    said_by_file bytes fault records (Some Two) e h = let held = rw e at h in rw e (records, held, refl)

    text_as : (bytes text : List ℕ) (fault : Option FileFault) (ends : FileEnd) (records : List Recorded) → PassHolds text_pass bytes records fault → text ≡ whole_text text_pass (state_of wanted follower []) records ends → TextAs wanted follower bytes text fault
    text_as bytes text fault ends records h t = (said_in wanted follower 1 records, said_by_file bytes fault records (version_of bytes) refl h, t ∙ all_bytes 1 follower [] records)

    text_cut : (given text : List ℕ) → PrintsCut text_pass (state_of wanted follower []) given text → TextCut wanted follower given text
    text_cut given text h = (h.1, h.2, text_as given text h.1 CutOff h.0 h.3 h.4)

    there_by : (bytes : List ℕ) (records : List Recorded) (good : Bool) (o : Option Version) → version_of bytes ≡ o → PassHolds text_pass bytes records None → good ≡ is_there wanted follower 1 records → IsThere wanted follower bytes good
    there_by bytes records good None e h g = let held = rw e at h in absurd (let f : ⊥ = cc (held.1) in f)
    there_by bytes records good (Some (One direction)) e h g = let held = rw e at h in absurd (let f : ⊥ = cc (held.1) in f)
    there_by bytes records good (Some Two) e h g = let held = rw e at h in (records, held, g)

    module _ (bytes was : List ℕ) (left written : Option (List ℕ)) where
      written_all : (fault : Option FileFault) → WritesAll (PrintsAs text_pass (state_of wanted follower [])) bytes was written fault → WritesAll (TextAs wanted follower) bytes was written fault
      written_all fault h = (h.0, text_as bytes h.0 fault (end_at fault) h.1.0 h.1.1 h.1.2, h.2)

      written_part : PrintsPrefix text_pass (state_of wanted follower []) bytes was written → TextPrefix wanted follower bytes was written
      written_part (inl h) = (bytes, [], h.0, h.1, h.2, sym (append-nil bytes), text_as bytes (h.0 ++ h.1) h.2 (end_at h.2) h.3.0 h.3.1 h.3.2, h.4)
      written_part (inr h) = (h.0, h.1, h.2, h.3, h.5.1, h.4, text_as h.0 (h.2 ++ h.3) h.5.1 CutOff h.5.0 h.5.3 h.5.4, h.6)

      by_result : (r : Result Bool FileFault) → Passes text_pass (state_of wanted follower []) bytes was left written r → FollowsText wanted follower bytes was left written r
      by_result (Ok good) h = (
        written_all None (whole_text text_pass (state_of wanted follower []) h.0 Whole, (h.0, h.1, refl), h.2),
        there_by bytes h.0 good (version_of bytes) refl h.1 (h.3 ∙ is_known 1 follower [] h.0),
      )
      by_result (Err BadHeader) h = written_all _ h
      by_result (Err Truncated) h = written_all _ h
      by_result (Err TooLong) h = written_all _ h
      by_result (Err SpareNotZero) h = written_all _ h
      by_result (Err BadDirection) h = written_all _ h
      by_result (Err Mixed) h = written_all _ h
      by_result (Err ReadFailed) h = (h.0, h.1, h.2, h.3, h.4, text_cut h.0 h.2 h.5, h.6)
      by_result (Err WriteFailed) h = written_part h

      pub follows_text : (r : Result Bool FileFault) (known : Follower) (spare : List Bool) → known ≡ silent wanted follower → spare ≡ [] → Passes text_pass (record { wanted = wanted; follower = known; spare = spare }) bytes was left written r → FollowsText wanted follower bytes was left written r
      follows_text r known spare e s h =
          by_result r (subst (λ (xs : List Bool). Passes text_pass (state_of wanted follower xs) bytes was left written r) s (subst (λ (f : Follower). Passes text_pass (record { wanted = wanted; follower = f; spare = spare }) bytes was left written r) e h))
