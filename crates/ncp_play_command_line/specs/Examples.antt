-- Worked command lines.
use Rattle.std.specs.Prelude.{◌==◌, ℕ, List}
use Rattle.std.specs.List.{slice_split}
use Rattle.clap.specs.Walk.{Text}

-- the words of a command line as a shell splits it without quoting: at each space
abbrev pub typed : List ℕ → List Text
typed line = slice_split (λ byte. byte == 32) line
