-- A message's type as `show` prints it.
use Rattle.std.specs.Prelude.{ℕ, List, ◌++◌, codes}
use Rattle.ncp_play_files.specs.declared.file.Direction.{Direction}
use Rattle.ncp_play_files.specs.Lines.{kind_name}

-- the name of a type, with the words before and after it
abbrev pub type_words : Direction → ℕ → List ℕ
type_words direction kind = codes " " ++ kind_name direction kind ++ codes " host="
