-- The lines of a note of two hosts, as functions of the note and its number (this profile).
use Rattle.std.specs.Prelude.{ℕ, List, [], None, codes}
use Rattle.ncp_play_notes.specs.declared.heading.LinePrefix.{LinePrefix}
use Rattle.ncp_play_notes.specs.declared.heading.LineHost.TheVariants as speakers
use Rattle.ncp_play_notes.specs.NoteLines.{note_lines}
use Rattle.ncp_transcript_two.specs.declared.side.Side.{Side}
use Rattle.ncp_transcript_two.specs.declared.note.Move.{Move}
use Rattle.ncp_transcript_two.specs.declared.note.Move.TheVariants as moves
use Rattle.ncp_transcript_two.specs.declared.note.Note.{Note}
use Rattle.ncp_transcript_two.specs.declared.note.Note.TheVariants as notes
use Rattle.ncp_play_world_lines.specs.declared.move_line.Moved.{Moved}
use Rattle.ncp_play_world_lines.specs.Moves.{letter_of}
use Rattle.ncp_play_world_lines.specs.MoveLines.{came_words, answer_words, move_line}

-- the prefix of a line of a side
abbrev pub line_prefix_of : ℕ → Side → LinePrefix
line_prefix_of number side = record { number = number; speaker = speakers.Side (letter_of side) }

-- a move of a side's message on a link
abbrev pub moved_by : ℕ → Side → Move → ℕ → Moved
moved_by number side wanted link = record { heading = line_prefix_of number side; to = None; wanted = wanted; link = link }

-- the line of a note about the subnet
abbrev pub subnet_line : ℕ → Note → List ℕ
subnet_line number (notes.Came side link note) = move_line (moved_by number side moves.Deliver link) (came_words note)
subnet_line number (notes.Lost side link) = move_line (moved_by number side moves.Lose link) (codes "ok")
subnet_line number (notes.FoundDead side link) = move_line (moved_by number side moves.Dead link) (codes "ok")
subnet_line number (notes.Answered side link note) = move_line (moved_by number side moves.Answer link) (answer_words note)
subnet_line number (notes.Nothing side link wanted) = move_line (moved_by number side wanted link) (codes "nothing")
subnet_line number (notes.Called side note) = []
subnet_line number (notes.Out side note) = []

-- the note of a host has the lines of a host
abbrev pub world_note_lines : ℕ → Note → List ℕ
world_note_lines number (notes.Called side note) = note_lines (line_prefix_of number side) note
world_note_lines number (notes.Out side note) = note_lines (line_prefix_of number side) note
world_note_lines number note = subnet_line number note
