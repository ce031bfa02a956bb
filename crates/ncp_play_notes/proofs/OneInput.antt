-- One more note that is rendered.
use Rattle.std.proofs.Common.{◌≡◌, ℕ, ◌-◌, true, false, List, [], ◌∷◌, ◌++◌, length, get_or, Option, Result, Ok, Err, sym, ap, ◌∙◌, subst, arith}
use Rattle.std.proofs.Math.Seq.{get_or-append_seam}
use Rattle.std.proofs.lemmas.List.{length-append}
use Rattle.std.specs.Result.{OnOk, OnErr, is_err}
use Rattle.ncp_transcript.specs.declared.note.HostNote.{HostNote}
use Rattle.ncp_play_stream.specs.Streams.{SaidSoFar, WritesText, WritesPrefixOf}
use Rattle.ncp_play_notes.specs.declared.heading.LinePrefix.{LinePrefix}
use Rattle.ncp_play_notes.specs.NoteLines.{note_lines, next_line_prefix, lines_from}
use Rattle.ncp_play_notes.specs.Playing.{Tells, PrintsPrefixOf}
use Rattle.ncp_play_notes.proofs.MoreNotes.{lines_from-one, line_prefix_after-one}

module _ (was : List ℕ) (first heading : LinePrefix) (before : List HostNote) (note : HostNote) (page : List ℕ) (written : Option (List ℕ)) (told : Tells was first before heading page written) where
  -- the lines of one note more
  more : lines_from first before ++ note_lines heading note ≡ lines_from first (before ++ note ∷ [])
  more = ap (λ h. lines_from first before ++ note_lines h note) told.0 ∙ sym (lines_from-one first before note)

  pub prints_one : (page' : List ℕ) (written' : Option (List ℕ)) → WritesText page written (note_lines heading note) page' written' → Tells was first (before ++ note ∷ []) (next_line_prefix heading) page' written'
  prints_one page' written' says = (
    ap next_line_prefix told.0 ∙ sym (line_prefix_after-one first before note),
    subst (λ text. SaidSoFar was page' written' text) more (says was (lines_from first before) told.1),
  )

  pub prints_one_broken : (written' : Option (List ℕ)) → WritesPrefixOf page written (note_lines heading note) written' → PrintsPrefixOf was first (before ++ note ∷ []) written'
  prints_one_broken written' says = (says.0, subst (λ text. SaidSoFar was says.0 written' text) more (says.1 was (lines_from first before) told.1))

-- the last of notes
pub last_note : (notes before : List HostNote) (note it : HostNote) → notes ≡ before ++ note ∷ [] → it ≡ get_or notes (length notes - 1) it → it ≡ note
last_note notes before note it e at =
    let place : length notes - 1 ≡ length before = ap (λ xs. length xs - 1) e ∙ simp length-append (omega arith) in
    at ∙ ap (λ n. get_or notes n it) place ∙ ap (λ xs. get_or xs (length before) it) e ∙ get_or-append_seam before note [] it

-- a property of the Ok case, if the result is no error
pub on_no_error : {E : Type 0} (P : Type 0) (r : Result Unit E) → OnOk r P → is_err r ≡ false → P
on_no_error P (Ok done) h e = h
on_no_error P (Err fault) h e = let f : ⊥ = cc in absurd f

-- a property of the Err case, if it is one
pub on_error : {T E : Type 0} (P : Type 0) (r : Result T E) → OnErr r P → is_err r ≡ true → P
on_error P (Ok done) h e = let f : ⊥ = cc in absurd f
on_error P (Err fault) h e = h
