-- The headline for each two of two to eight hosts.
use Rattle.std.specs.Prelude.{◌≡◌, ◌≢◌, ℕ, true, List}
use Rattle.ncp_transcript_many.specs.declared.many_note.ManyNote.{ManyNote}
use Rattle.ncp_transcript_many.specs.Network.{Network, is_there}
use Rattle.ncp_transcript_many.specs.Pairs.{notes_between}
use Rattle.ncp_statement.specs.Statement.{Headline}
use Rattle.ncp_proof_statement.specs.Moments.{TakenBegins}

-- `Headline` for the notes that name both
abbrev pub HeadlineOfEachTwo : List ManyNote → Network → Type 0
HeadlineOfEachTwo ns m = (a b : ℕ) → is_there a m ≡ true → is_there b m ≡ true → a ≢ b → Headline a b (notes_between a b ns)

-- `TakenBegins` for the notes that name both
abbrev pub TakenBeginsOfEachTwo : List ManyNote → Network → Type 0
TakenBeginsOfEachTwo ns m = (a b : ℕ) → is_there a m ≡ true → is_there b m ≡ true → a ≢ b → TakenBegins (notes_between a b ns)
