-- The words of a script of two hosts that a script of one lacks (this profile): its sides, and the moves
-- of messages in the subnet.
use Rattle.std.specs.Prelude.{ℕ, List, [], ◌∷◌, Option, Some, None, codes, if◌then◌else◌}
use Rattle.std.specs.Str.{bytes_eq}
use Rattle.ncp_transcript_two.specs.declared.side.Side.{Side}
use Rattle.ncp_transcript_two.specs.declared.side.Side.TheVariants.{A, B}
use Rattle.ncp_transcript_two.specs.declared.note.Move.{Move}
use Rattle.ncp_transcript_two.specs.declared.note.Move.TheVariants.{Deliver, Lose, Dead, Answer}

-- the letter of a side
abbrev pub letter_of : Side → ℕ
letter_of A = 97
letter_of B = 98

-- the side that a word names
abbrev pub side_named : List ℕ → Option Side
side_named word = if bytes_eq (codes "a") word then Some A else if bytes_eq (codes "b") word then Some B else None

-- the word of a move
abbrev pub word_of_move : Move → List ℕ
word_of_move Deliver = codes "deliver"
word_of_move Lose = codes "lose"
word_of_move Dead = codes "dead"
word_of_move Answer = codes "answer"

abbrev pub all_moves : List Move
all_moves = Deliver ∷ Lose ∷ Dead ∷ Answer ∷ []

-- the move among these that a word names
abbrev pub move_among : List Move → List ℕ → Option Move
move_among [] word = None
move_among (wanted ∷ moves) word = if bytes_eq (word_of_move wanted) word then Some wanted else move_among moves word

-- the move that a word names
abbrev pub move_named : List ℕ → Option Move
move_named word = move_among all_moves word
