-- The quantifiers over texts, commands and faults that the laws of control texts use.
use Rattle.std.specs.Prelude.{◌≡◌, ℕ, List, ◌∷◌, ◌++◌, All, Some}
use Rattle.ncp_wire.specs.declared.command.Command.{Command}
use Rattle.ncp_wire.specs.declared.fault.CommandFault.{CommandFault}
use Rattle.ncp_wire.specs.Spelling.{spelling, spellings, IsByte, IsCommand}
use Rattle.ncp_control.specs.Texts.{Reads, NoneBegins}
use Rattle.ncp_control.specs.Reading.{fault_in}

-- for every two commands whose spellings start the same text, and the bytes after each
abbrev pub OfOneText : (Command → Command → List ℕ → List ℕ → Type 0) → Type 0
OfOneText holds =
    (one other : Command) (more rest : List ℕ) → IsCommand one → IsCommand other → spelling one ++ more ≡ spelling other ++ rest → holds one other more rest

-- for every reading of a text: its bytes, the bytes left, and the commands
abbrev pub OfReadings : (List ℕ → List ℕ → List Command → Type 0) → Type 0
OfReadings holds =
    (bytes rest : List ℕ) (commands : List Command) → All IsByte bytes → Reads bytes commands rest → holds bytes rest commands

-- for every text, and commands whose joined spellings are a prefix of it
abbrev pub OfBeginnings : (List ℕ → List Command → Type 0) → Type 0
OfBeginnings holds =
    (bytes more : List ℕ) (others : List Command) → All IsCommand others → bytes ≡ spellings others ++ more → holds bytes others

-- for every list of commands; also followed by bytes that start no command
abbrev pub OfSpelled : (List Command → Type 0) → Type 0
OfSpelled holds = (commands : List Command) → All IsCommand commands → holds commands

abbrev pub OfSpelledBefore : (List Command → List ℕ → Type 0) → Type 0
OfSpelledBefore holds =
    (commands : List Command) (tail : List ℕ) → All IsCommand commands → All IsByte tail → NoneBegins tail → holds commands tail

-- for the fault of every text; for all bytes that start no command, as an opcode and the bytes after it
abbrev pub OfFaults : (CommandFault → Type 0) → Type 0
OfFaults holds = (bytes : List ℕ) (fault : CommandFault) → All IsByte bytes → fault_in bytes ≡ Some fault → holds fault

abbrev pub OfUnread : (ℕ → List ℕ → Type 0) → Type 0
OfUnread holds = (opcode : ℕ) (left : List ℕ) → All IsByte (opcode ∷ left) → NoneBegins (opcode ∷ left) → holds opcode left

-- these bytes are a prefix of a command's spelling
abbrev pub BeginACommand : List ℕ → Type 0
BeginACommand bytes = (command : Command) × (more : List ℕ) × IsCommand command × (spelling command ≡ bytes ++ more)
