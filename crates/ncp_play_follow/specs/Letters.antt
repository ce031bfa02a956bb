-- A text as letters: its bytes as ASCII characters, or by their numbers.
use Rattle.std.specs.Prelude.{ℕ, ◌==◌, Bool, List, [], ◌++◌, length, codes, if◌then◌else◌}
use Rattle.std.specs.List.{flat_map}
use Rattle.ncp_numbers.specs.Bytes.{bytes_of}
use Rattle.ncp_play_explain.specs.Spelling.{spelled}
use Rattle.ncp_play_buffer.specs.Lines.{field}
use Rattle.ncp_follow.specs.declared.connection.Connection.{Connection}

-- the bytes of a text that is not empty, each spelled
abbrev pub letters_word : List Bool → List ℕ
letters_word text = if length text == 0 then [] else codes " " ++ flat_map spelled (bytes_of text)

-- bytes of eight bits as letters; for others their size
abbrev pub letters_words : ℕ → List Bool → List ℕ
letters_words size text = if size == 8 then letters_word text else field (codes " size=") size

unfoldable pub letters_line : Connection → List ℕ
letters_line connection = codes "  letters" ++ letters_words connection.size connection.text ++ codes "\n"
