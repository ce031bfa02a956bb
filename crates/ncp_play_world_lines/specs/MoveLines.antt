-- The line of a move of a message in the subnet (this profile).
use Rattle.std.specs.Prelude.{ℕ, List, [], ◌++◌, Option, None, Some, codes}
use Rattle.ncp_wire.specs.declared.answer.Answer.{Answer}
use Rattle.ncp_wire.specs.declared.answer.Answer.TheVariants as answers
use Rattle.ncp_transcript.specs.declared.note.HostNote.{HostNote}
use Rattle.ncp_transcript.specs.declared.note.HostNote.TheVariants as host_notes
use Rattle.ncp_play_buffer.specs.Lines.{field}
use Rattle.ncp_play_notes.specs.Arrived.{received_words}
use Rattle.ncp_play_notes.specs.NoteLines.{front}
use Rattle.ncp_play_world_lines.specs.declared.move_line.Moved.{Moved}
use Rattle.ncp_play_world_lines.specs.Moves.{word_of_move}

-- the outcome of a message, as its receiver noted it
abbrev pub came_words : HostNote → List ℕ
came_words (host_notes.In message received) = received_words received
came_words (host_notes.Answered peer link answer received) = received_words received
came_words other = []

abbrev pub answer_word : Answer → List ℕ
answer_word answers.Rfnm = codes "rfnm"
answer_word answers.Incomplete = codes "incomplete"
answer_word answers.Dead = codes "dead"

-- the answer, as the sender noted it
abbrev pub answer_words : HostNote → List ℕ
answer_words (host_notes.Answered peer link answer received) = answer_word answer
answer_words other = []

-- the destination, if lines name it; of two hosts it is the other
abbrev pub destination : Option ℕ → List ℕ
destination None = []
destination (Some to) = field (codes " ") to

-- the line of a move up to its outcome
abbrev pub move_front : Moved → List ℕ
move_front moved =
    front moved.heading ++ codes " " ++ word_of_move moved.wanted ++ destination moved.to ++ field (codes " ") moved.link ++ codes " "

abbrev pub move_line : Moved → List ℕ → List ℕ
move_line moved outcome = move_front moved ++ outcome ++ codes "\n"
