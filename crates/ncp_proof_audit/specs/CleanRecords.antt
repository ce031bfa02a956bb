-- The output and the result of `audit` for a file, with and without `--standard`; and the recordings of
-- hosts with the subnet between them.
use Rattle.std.specs.Prelude.{◌≡◌, ℕ, Bool, true, false, List, [], Option, None}
use Rattle.ncp_play_files.specs.declared.file.FileFault.{FileFault}
use Rattle.ncp_play_audit.specs.Audited.{AuditedAs, HasVerdict}
use Rattle.ncp_play_world_lines.specs.Recorded.{file_of_notes, file_of_many_notes}
use Rattle.ncp_transcript_two.specs.declared.note.Note.{Note}
use Rattle.ncp_transcript_two.specs.Between.{Hosts}
use Rattle.ncp_transcript_two.specs.Transcript.{IsTranscript}
use Rattle.ncp_transcript_many.specs.declared.many_note.ManyNote.{ManyNote}
use Rattle.ncp_transcript_many.specs.Network.{Network}
use Rattle.ncp_transcript_many.specs.ManyTranscript.{IsManyTranscript}
use Rattle.ncp_monitor.specs.Judged.{new_monitor}

-- it writes no line for the file, which has no fault
abbrev pub WritesNoLine : List ℕ → Type 0
WritesNoLine file =
    (standard : Bool) (text : List ℕ) (fault : Option FileFault) → AuditedAs standard (new_monitor false) file text fault
    → (text ≡ []) × (fault ≡ None)

-- it returns that there is no finding
abbrev pub AnswersNoFinding : List ℕ → Type 0
AnswersNoFinding file = (standard good : Bool) → HasVerdict standard (new_monitor false) file good → good ≡ true

-- a property of each file of the notes of two to eight hosts
abbrev pub EachFileOfMany : (List ℕ → Type 0) → Type 0
EachFileOfMany IsSo = (notes : List ManyNote) (now : Network) → IsManyTranscript notes now → IsSo (file_of_many_notes notes)

-- and of two
abbrev pub EachFileOfTwo : (List ℕ → Type 0) → Type 0
EachFileOfTwo IsSo =
    (notes : List Note) (w : Hosts) → IsTranscript notes w
    → IsSo (file_of_notes (record { a = w.number_a; b = w.number_b }) notes)
