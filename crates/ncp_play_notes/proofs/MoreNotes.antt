-- The lines of notes after others.
use Rattle.std.proofs.Common.{◌≡◌, List, [], ◌∷◌, ◌++◌, refl, ap, sym, ◌∙◌}
use Rattle.std.proofs.lemmas.List.{append_assoc, append-nil}
use Rattle.ncp_transcript.specs.declared.note.HostNote.{HostNote}
use Rattle.ncp_play_notes.specs.declared.heading.LinePrefix.{LinePrefix}
use Rattle.ncp_play_notes.specs.NoteLines.{note_lines, next_line_prefix, lines_from, line_prefix_after}

pub lines_from-append : (heading : LinePrefix) (notes more : List HostNote) → lines_from heading (notes ++ more) ≡ lines_from heading notes ++ lines_from (line_prefix_after heading notes) more
lines_from-append heading [] more = refl
lines_from-append heading (note ∷ notes) more =
    ap (λ lines. note_lines heading note ++ lines) (lines_from-append (next_line_prefix heading) notes more)
    ∙ sym (append_assoc (note_lines heading note) (lines_from (next_line_prefix heading) notes) (lines_from (line_prefix_after (next_line_prefix heading) notes) more))

-- one note more
pub lines_from-one : (heading : LinePrefix) (notes : List HostNote) (note : HostNote) → lines_from heading (notes ++ note ∷ []) ≡ lines_from heading notes ++ note_lines (line_prefix_after heading notes) note
lines_from-one heading notes note =
    lines_from-append heading notes (note ∷ [])
    ∙ ap (λ lines. lines_from heading notes ++ lines) (append-nil (note_lines (line_prefix_after heading notes) note))

pub line_prefix_after-one : (heading : LinePrefix) (notes : List HostNote) (note : HostNote) → line_prefix_after heading (notes ++ note ∷ []) ≡ next_line_prefix (line_prefix_after heading notes)
line_prefix_after-one heading [] note = refl
line_prefix_after-one heading (one ∷ notes) note = line_prefix_after-one (next_line_prefix heading) notes note
