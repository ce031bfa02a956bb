-- Counting records, one after the other.
use Rattle.std.proofs.Common.{◌≡◌, ◌≢◌, ℕ, Bool, true, false, eqb, List, [], ◌∷◌, ◌++◌, take, drop, Option, Some, None, Result, Ok, Err, refl, sym, ap, ◌∙◌, subst}
use Rattle.std.proofs.lemmas.List.{append_assoc}
use Rattle.std.proofs.lemmas.Bool.{ne_eqb}
use Rattle.ncp_play_files.specs.declared.file.FileFault.{FileFault}
use Rattle.ncp_play_files.specs.declared.file.FileFault.TheVariants.{BadHeader, Truncated, TooLong, SpareNotZero, ReadFailed, WriteFailed, BadDirection, Mixed}
use Rattle.ncp_leader.specs.declared.leader.Leader.{Leader}
use Rattle.ncp_leader.specs.Message.{message_in}
use Rattle.ncp_play_files.specs.declared.tally.RecordClass.TheVariants.{Other}
use Rattle.ncp_play_files.specs.declared.tally.Totals.{Totals}
use Rattle.ncp_play_files.specs.declared.version.Version.{Version}
use Rattle.ncp_play_files.specs.File.{version_of, HoldsBy}
use Rattle.ncp_play_files.specs.Versions.{Recorded, next_in}
use Rattle.ncp_play_files.specs.Steps.{ReadsVersion, Stops}
use Rattle.ncp_play_files.specs.Checked.{record_class_of_message, record_class_after, record_class_of_record, is_short, is_of_type_0, is_faulty, is_bad, totals_of}
use Rattle.ncp_play_files.specs.Tallies.{totals_with, totals_from, TotalsFrom, no_messages, TotalsFile}
use Rattle.ncp_play_files.proofs.Counts.{count_from, from_none, from_all}
use Rattle.ncp_play_files.proofs.Files.{version_of-short}
use Rattle.ncp_play_files.proofs.Placing.{in_front}
use Rattle.ncp_play_files.proofs.Progress.{after_version, inside_cut}

-- ---- one message

pub regular_judged : (message : List Bool) (leader : Leader) → leader.kind ≡ 0 → record_class_of_message (message_in message) ≡ record_class_after message (Ok leader)
regular_judged message leader h = rw h refl

pub other_judged : (message : List Bool) (leader : Leader) → leader.kind ≢ 0 → Other ≡ record_class_after message (Ok leader)
other_judged message leader h = let other : eqb leader.kind 0 ≡ false = ne_eqb _ 0 h in rw other refl

-- ---- the counts

totals_from_is : (tally : Totals) (records : List Recorded) → totals_from tally records ≡ record {
  messages = count_from (λ found. true) tally.messages records;
  short = count_from (λ found. is_short (record_class_of_record found)) tally.short records;
  regular = count_from (λ found. is_of_type_0 (record_class_of_record found)) tally.regular records;
  faults = count_from (λ found. is_faulty (record_class_of_record found)) tally.faults records;
  bad = count_from (λ found. is_bad (record_class_of_record found)) tally.bad records;
}
totals_from_is tally [] = refl
totals_from_is tally (found ∷ records) = totals_from_is (totals_with tally (record_class_of_record found)) records

pub totals_from-none : (records : List Recorded) → totals_from no_messages records ≡ totals_of records
totals_from-none records =
    totals_from_is no_messages records ∙ rw (from_all records, from_none (λ found. is_short (record_class_of_record found)) records, from_none (λ found. is_of_type_0 (record_class_of_record found)) records, from_none (λ found. is_faulty (record_class_of_record found)) records, from_none (λ found. is_bad (record_class_of_record found)) records) refl

-- ---- the records

pub totals_more : (version : Version) (bytes rest : List ℕ) (found : Recorded) (tally : Totals) (r : Result Totals FileFault) (left : Option (List ℕ)) → next_in version bytes ≡ Ok (Some (found, rest))
    → TotalsFrom version rest (totals_with tally (record_class_of_record found)) r left → TotalsFrom version bytes tally r left
totals_more version bytes rest found tally (Ok counted) left h k = (found ∷ k.0, (rest, h, k.1), k.2)
totals_more version bytes rest found tally (Err BadHeader) left h k = (found ∷ k.0, (rest, h, k.1))
totals_more version bytes rest found tally (Err Truncated) left h k = (found ∷ k.0, (rest, h, k.1))
totals_more version bytes rest found tally (Err TooLong) left h k = (found ∷ k.0, (rest, h, k.1))
totals_more version bytes rest found tally (Err SpareNotZero) left h k = (found ∷ k.0, (rest, h, k.1))
totals_more version bytes rest found tally (Err BadDirection) left h k = (found ∷ k.0, (rest, h, k.1))
totals_more version bytes rest found tally (Err Mixed) left h k = (found ∷ k.0, (rest, h, k.1))
totals_more version bytes rest found tally (Err ReadFailed) left h k =
    let front = in_front version bytes rest found h in (
      front.0 ++ k.0,
      k.1,
      found ∷ k.2,
      k.3,
      front.1 ∙ ap (λ xs. front.0 ++ xs) k.4 ∙ sym (append_assoc front.0 k.0 k.1),
      k.5,
      k.6,
      (k.0, front.2 k.0, k.7),
    )
totals_more version bytes rest found tally (Err WriteFailed) left h k = k

pub totals_fault : (version : Version) (bytes : List ℕ) (left : Option (List ℕ)) (tally : Totals) (fault : FileFault) → Stops (next_in version) bytes left fault → TotalsFrom version bytes tally (Err fault) left
totals_fault version bytes left tally BadHeader h = ([], h)
totals_fault version bytes left tally Truncated h = ([], h)
totals_fault version bytes left tally TooLong h = ([], h)
totals_fault version bytes left tally SpareNotZero h = ([], h)
totals_fault version bytes left tally BadDirection h = ([], h)
totals_fault version bytes left tally Mixed h = ([], h)
totals_fault version bytes left tally ReadFailed h = (h.0, h.1, [], h.2, h.3, h.4, h.5, h.6)
totals_fault version bytes left tally WriteFailed h = h

pub totals_end : (version : Version) (bytes : List ℕ) (tally : Totals) (left : Option (List ℕ)) → next_in version bytes ≡ Ok None → TotalsFrom version bytes tally (Ok tally) left
totals_end version bytes tally left h = ([], h, refl)

-- ---- the file

pub file_no_header : (bytes window : List ℕ) (left : Option (List ℕ)) (fault : FileFault) → ReadsVersion bytes (Err fault) window left → TotalsFile bytes (Err fault) left
file_no_header bytes window left BadHeader h = ([], rw h.1 (refl, refl))
file_no_header bytes window left Truncated h = let e : ⊥ = cc (h.0) in absurd e
file_no_header bytes window left TooLong h = let e : ⊥ = cc (h.0) in absurd e
file_no_header bytes window left SpareNotZero h = let e : ⊥ = cc (h.0) in absurd e
file_no_header bytes window left BadDirection h = let e : ⊥ = cc (h.0) in absurd e
file_no_header bytes window left Mixed h = let e : ⊥ = cc (h.0) in absurd e
file_no_header bytes window left ReadFailed h =
    let e : version_of window ≡ None = version_of-short window h.0 in (window, h.1.0, [], Some BadHeader, sym h.1.2, h.1.1, h.0, rw e (refl, refl))
file_no_header bytes window left WriteFailed h = h

pub file_counted : (bytes : List ℕ) (version : Version) (r : Result Totals FileFault) (left : Option (List ℕ)) → version_of bytes ≡ Some version → TotalsFrom version (drop 4 bytes) no_messages r left → TotalsFile bytes r left
file_counted bytes version (Ok counted) left h k = (k.0, rw h k.1, k.2 ∙ totals_from-none k.0)
file_counted bytes version (Err BadHeader) left h k = (k.0, rw h k.1)
file_counted bytes version (Err Truncated) left h k = (k.0, rw h k.1)
file_counted bytes version (Err TooLong) left h k = (k.0, rw h k.1)
file_counted bytes version (Err SpareNotZero) left h k = (k.0, rw h k.1)
file_counted bytes version (Err BadDirection) left h k = (k.0, rw h k.1)
file_counted bytes version (Err Mixed) left h k = (k.0, rw h k.1)
file_counted bytes version (Err ReadFailed) left h k =
    let behind = after_version bytes k.0 k.1 version h k.4 in
    (take 4 bytes ++ k.0, k.1, k.2, k.3, behind.0, k.5, inside_cut (take 4 bytes ++ k.0) k.3 k.6, rw behind.1 (subst (λ xs. HoldsBy (next_in version) xs k.2 k.3) (sym behind.2) k.7))
file_counted bytes version (Err WriteFailed) left h k = k
