-- The notes of one host among those of a world: its calls, its output, and its arrivals.
use Rattle.std.specs.Prelude.{List, [], ◌∷◌, ◌++◌}
use Rattle.ncp_transcript.specs.declared.note.HostNote.{HostNote}
use Rattle.ncp_transcript_two.specs.declared.side.Side.{Side}
use Rattle.ncp_transcript_two.specs.declared.side.Side.TheVariants.{A, B}
use Rattle.ncp_transcript_two.specs.declared.note.Note.{Note}
use Rattle.ncp_transcript_two.specs.declared.note.Note.TheVariants as notes
use Rattle.ncp_transcript_two.specs.Between.{other}

-- a note of one side, if it is the side asked for
abbrev pub if_same : Side → Side → HostNote → List HostNote
if_same A A note = note ∷ []
if_same B B note = note ∷ []
if_same side by note = []

-- the delivery of a message is a note of the receiving host; losses and dead destinations are notes of no
-- host
abbrev pub notes_at_side : Side → Note → List HostNote
notes_at_side side (notes.Called by note) = if_same side by note
notes_at_side side (notes.Out by note) = if_same side by note
notes_at_side side (notes.Came by link note) = if_same side (other by) note
notes_at_side side (notes.Answered by link note) = if_same side by note
notes_at_side side rest = []

abbrev pub notes_at : Side → List Note → List HostNote
notes_at side [] = []
notes_at side (note ∷ rest) = notes_at_side side note ++ notes_at side rest
