-- Showing a file: its header, and the lines of its records.
use Rattle.std.proofs.Common.{◌≡◌, ℕ, List, [], ◌∷◌, ◌++◌, drop, Option, Some, None, refl, sym, ap, ◌∙◌, subst}
use Rattle.std.proofs.lemmas.List.{append_assoc, append-nil}
use Rattle.ncp_play_files.specs.declared.file.FileFault.{FileFault}
use Rattle.ncp_play_files.specs.declared.file.FileFault.TheVariants.{BadHeader}
use Rattle.ncp_play_files.specs.declared.version.Version.{Version}
use Rattle.ncp_play_files.specs.File.{version_of}
use Rattle.ncp_play_files.specs.Versions.{Recorded, next_in}
use Rattle.ncp_play_buffer.specs.Lines.{number_after}
use Rattle.ncp_play_files.specs.Lines.{lines_printed_from, record_lines, record_lines_from}
use Rattle.ncp_play_files.specs.declared.pass.FileEnd.{FileEnd}
use Rattle.ncp_play_files.specs.declared.pass.FileEnd.TheVariants.{CutOff}
use Rattle.ncp_play_files.specs.Passes.{end_at, text_from, whole_text, PassHolds, PrintsAs, PrintsCut}
use Rattle.ncp_play_files.specs.Shown.{ShownAs, ShownCut, show_pass}
use Rattle.ncp_play_files.specs.Steps.{RecordTelling}
use Rattle.ncp_play_files.proofs.Contents.{by_some, by_longer}
use Rattle.ncp_play_files.proofs.Placing.{in_front}
use Rattle.ncp_play_files.proofs.Progress.{longer_header}

-- ---- the pass of `show`

told_lines : (number : ℕ) (records : List Recorded) → text_from show_pass number tt records ≡ record_lines_from number records
told_lines number [] = refl
told_lines number (seen ∷ records) = ap (λ xs. record_lines number seen ++ xs) (told_lines (number_after number) records)

all_lines : (text : List ℕ) (records : List Recorded) (ends : FileEnd) → text ≡ whole_text show_pass tt records ends → text ≡ record_lines_from 1 records
all_lines text records ends h = h ∙ append-nil (text_from show_pass 1 tt records) ∙ told_lines 1 records

shown_by : (bytes text : List ℕ) (fault : Option FileFault) (ends : FileEnd) (records : List Recorded) (o : Option Version) → version_of bytes ≡ o → PassHolds show_pass bytes records fault → text ≡ whole_text show_pass tt records ends → ShownAs bytes text fault
shown_by bytes text fault ends records None e h t =
    let none = rw e at h in
    rw e (all_lines text records ends t ∙ ap (record_lines_from 1) none.0, none.1)
shown_by bytes text fault ends records (Some version) e h t = let held = rw e at h in rw e (records, held, all_lines text records ends t)

pub shown_as : (bytes text : List ℕ) (fault : Option FileFault) → PrintsAs show_pass tt bytes text fault → ShownAs bytes text fault
shown_as bytes text fault h = shown_by bytes text fault (end_at fault) h.0 (version_of bytes) refl h.1 h.2

pub shown_cut : (given text : List ℕ) → PrintsCut show_pass tt given text → ShownCut given text
shown_cut given text h = (h.1, h.2, shown_by given text h.1 CutOff h.0 (version_of given) refl h.3 h.4)

-- ---- lines of the bytes that came are a beginning of the lines of all bytes

pub printed_longer : {X : Type 0} (lines : RecordTelling X) (number : ℕ) (records more : List X) → (rest : List ℕ) × (lines_printed_from lines number (records ++ more) ≡ lines_printed_from lines number records ++ rest)
printed_longer lines number [] more = (lines_printed_from lines number more, refl)
printed_longer lines number (first ∷ records) more =
    let longer = printed_longer lines (number_after number) records more in
    (longer.0, ap (λ xs. lines number first ++ xs) longer.1 ∙ sym (append_assoc (lines number first) _ longer.0))

shown_some : (bytes : List ℕ) (o : Option Version) → version_of bytes ≡ o → (text : List ℕ) × (fault : Option FileFault) × ShownAs bytes text fault
shown_some bytes None h = ([], Some BadHeader, rw h (refl, refl))
shown_some bytes (Some version) h = let held = by_some (next_in version) (in_front version) (drop 4 bytes) in (record_lines_from 1 held.0, held.1, rw h (held.0, held.2, refl))

longer_by : (given rest text : List ℕ) (fault : Option FileFault) (o : Option Version) → version_of given ≡ o → ShownAs given text fault → (more : List ℕ) × (last : Option FileFault) × ShownAs (given ++ rest) (text ++ more) last
longer_by given rest text fault None e h =
    let none = rw e at h in
    let some = shown_some (given ++ rest) (version_of (given ++ rest)) refl in
    (some.0, some.1, subst (λ xs. ShownAs (given ++ rest) (xs ++ some.0) some.1) (sym none.0) some.2)
longer_by given rest text fault (Some version) e h =
    let shown = rw e at h in
    let head = longer_header given rest version e in
    let longer = by_longer (next_in version) (in_front version) (drop 4 given) rest shown.0 fault shown.1 in
    let lines = printed_longer record_lines 1 shown.0 longer.0 in (
      lines.0,
      longer.1,
      rw head.0 (
        shown.0 ++ longer.0,
        rw head.1 longer.2,
        ap (λ xs. xs ++ lines.0) shown.2 ∙ sym lines.1,
      ),
    )

pub shown_longer : (given rest text : List ℕ) → ShownCut given text → (more : List ℕ) × (last : Option FileFault) × ShownAs (given ++ rest) (text ++ more) last
shown_longer given rest text h = longer_by given rest text h.0 (version_of given) refl h.2
