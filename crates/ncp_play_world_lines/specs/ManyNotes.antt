-- The lines of a note of two to eight hosts, as functions of the note and its number (this profile).
use Rattle.std.specs.Prelude.{ℕ, List, [], Some, codes}
use Rattle.ncp_play_notes.specs.declared.heading.LinePrefix.{LinePrefix}
use Rattle.ncp_play_notes.specs.declared.heading.LineHost.TheVariants as speakers
use Rattle.ncp_play_notes.specs.NoteLines.{note_lines}
use Rattle.ncp_transcript_two.specs.declared.note.Move.{Move}
use Rattle.ncp_transcript_two.specs.declared.note.Move.TheVariants as moves
use Rattle.ncp_transcript_many.specs.declared.many_event.ManyEvent.{ManyEvent}
use Rattle.ncp_transcript_many.specs.declared.many_event.ManyEvent.TheVariants as events
use Rattle.ncp_transcript_many.specs.declared.many_note.ManyNote.{ManyNote}
use Rattle.ncp_transcript_many.specs.declared.many_note.ManyNote.TheVariants as many
use Rattle.ncp_play_world_lines.specs.declared.move_line.Moved.{Moved}
use Rattle.ncp_play_world_lines.specs.MoveLines.{came_words, answer_words, move_line}

-- the prefix of a line of a host
abbrev pub line_prefix_at : ℕ → ℕ → LinePrefix
line_prefix_at number host = record { number = number; speaker = speakers.Number host }

-- a move of a message on a link from one host to another
abbrev pub moved_among : ℕ → ℕ → ℕ → Move → ℕ → Moved
moved_among number from to wanted link = record { heading = line_prefix_at number from; to = Some to; wanted = wanted; link = link }

-- the line of an impossible move; calls and outputs of unknown hosts have none, since no script asks for
-- them
abbrev pub impossible_line : ℕ → ManyEvent → List ℕ
impossible_line number (events.Deliver from to link) = move_line (moved_among number from to moves.Deliver link) (codes "nothing")
impossible_line number (events.Lose from to link) = move_line (moved_among number from to moves.Lose link) (codes "nothing")
impossible_line number (events.Dead from to link) = move_line (moved_among number from to moves.Dead link) (codes "nothing")
impossible_line number (events.Answer from to link) = move_line (moved_among number from to moves.Answer link) (codes "nothing")
impossible_line number (events.Call host call) = []
impossible_line number (events.Out host) = []

-- the line of a note about the subnet
abbrev pub many_subnet_line : ℕ → ManyNote → List ℕ
many_subnet_line number (many.Came from to link note) = move_line (moved_among number from to moves.Deliver link) (came_words note)
many_subnet_line number (many.Lost from to link) = move_line (moved_among number from to moves.Lose link) (codes "ok")
many_subnet_line number (many.FoundDead from to link) = move_line (moved_among number from to moves.Dead link) (codes "ok")
many_subnet_line number (many.Answered from to link note) = move_line (moved_among number from to moves.Answer link) (answer_words note)
many_subnet_line number (many.Nothing event) = impossible_line number event
many_subnet_line number (many.Called host note) = []
many_subnet_line number (many.Out host note) = []

-- the note of a host has the lines of a host
abbrev pub many_note_lines : ℕ → ManyNote → List ℕ
many_note_lines number (many.Called host note) = note_lines (line_prefix_at number host) note
many_note_lines number (many.Out host note) = note_lines (line_prefix_at number host) note
many_note_lines number note = many_subnet_line number note
