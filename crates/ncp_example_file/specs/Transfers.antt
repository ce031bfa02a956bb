-- What each part of a transfer adds to the accounts of its two users.
use Rattle.std.specs.Prelude.{◌≡◌, ℕ, Bool, List, take}
use Rattle.ncp_transcript_two.specs.declared.side.Side.TheVariants.{A, B}
use Rattle.ncp_transcript_two.specs.declared.note.Note.{Note}
use Rattle.ncp_example_file.specs.declared.transfer.TheConstants.{SENDER, RECEIVER}
use Rattle.ncp_example_file.specs.Accounts.{all_given, all_taken, HasGiven, MissesAtMost}

-- if that many bits of a file were given before, these are given now
abbrev pub GivesOn : List Bool → ℕ → ℕ → List Note → List Note → Type 0
GivesOn file given now before after = HasGiven A SENDER (take given file) before → HasGiven A SENDER (take now file) after

-- if the receiver missed that many bits at most before, it misses these at most now
abbrev pub TakesOn : ℕ → ℕ → List Note → List Note → Type 0
TakesOn missing left before after = (size : ℕ) → MissesAtMost missing size B RECEIVER before → MissesAtMost left size B RECEIVER after

abbrev pub GivesNothing : List Note → List Note → Type 0
GivesNothing before after = all_given A SENDER after ≡ all_given A SENDER before

abbrev pub TakesNothing : List Note → List Note → Type 0
TakesNothing before after = all_taken B RECEIVER after ≡ all_taken B RECEIVER before
