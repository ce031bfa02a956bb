-- The prefix property of the page at every moment, not only when `take` returns.
use Rattle.std.specs.Prelude.{◌≡◌, Bool, List, ◌++◌}
use Rattle.ncp_model.specs.declared.pair.Pair.{Pair}
use Rattle.ncp_model.specs.Pairs.{counterpart}
use Rattle.ncp_transcript_two.specs.declared.side.Side.{Side}
use Rattle.ncp_transcript_two.specs.declared.note.Note.{Note}
use Rattle.ncp_transcript_two.specs.Between.{other}
use Rattle.ncp_statement.specs.Statement.{given, taken}

-- The bits taken at one host since the last ask are a prefix of those given at the other: for every pair,
-- whether its endpoints exist or not.
abbrev pub TakenBegins : List Note → Type 0
TakenBegins ns = (side : Side) (pair : Pair) → (rest : List Bool) × (given side pair ns ≡ taken (other side) (counterpart pair) ns ++ rest)
