-- What a reader takes from the bytes of a saved host.
use Rattle.std.specs.Prelude.{◌≡◌, ⊤, ℕ, List, ◌++◌, length, Result, Ok}
use Rattle.std.specs.Result.{MatchResult}
use Rattle.ncp_saved.specs.declared.reader.Unread.{Unread}
use Rattle.ncp_saved.specs.declared.reader.Unread.TheVariants.{OutOfMemory}
use Rattle.ncp_wire.specs.declared.command.Command.{Command}
use Rattle.ncp_wire.specs.declared.command.Command.TheVariants.{Err}
use Rattle.ncp_wire.specs.declared.command.TheConstants.{ERROR_DATA}

-- of the bytes of a value, with any after them: the value, and those are left
abbrev pub ReadsBack : {A : Type 0} → (A → List ℕ) → List ℕ → Result A Unread → List ℕ → Type 0
ReadsBack {A} saved before result after = (value : A) (rest : List ℕ) → before ≡ saved value ++ rest → (result ≡ Ok value) × (after ≡ rest)

-- the result has a property, or an allocation failed
abbrev pub OrNoMemory : {A : Type 0} → Result A Unread → (A → Type 0) → Type 0
OrNoMemory result Property = MatchResult result Property (λ fault. fault ≡ OutOfMemory)

-- an ERR has all bytes of its data
abbrev pub HasItsData : Command → Type 0
HasItsData (Err code bytes) = length bytes ≡ ERROR_DATA
HasItsData command = ⊤
