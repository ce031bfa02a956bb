-- The meaning of a control text: the longest list of commands whose joined spellings are a prefix of it,
-- and at most one fault after them. The codes and the data of a fault are this profile's.
use Rattle.std.specs.Prelude.{ℕ, ◌≡◌, ◌≢◌, ⊤, nat_lt, List, [], ◌∷◌, ◌++◌, map, All, Option, Some, None, Result, Ok, if◌then◌else◌}
use Rattle.std.specs.Option.{option_to_list}
use Rattle.std.specs.declared.result.Result.TheVariants.{Err as Fault}
use Rattle.ncp_wire.specs.Spelling.{spelling, spellings, IsCommand, padded}
use Rattle.ncp_wire.specs.declared.command.Command.{Command}
use Rattle.ncp_wire.specs.declared.fault.CommandFault.{CommandFault}

-- no command's spelling is a prefix of these bytes
abbrev pub NoneBegins : List ℕ → Type 0
NoneBegins bytes = (command : Command) (more : List ℕ) → IsCommand command → bytes ≢ spelling command ++ more

-- a control text is these commands and a rest that starts no further command
pub record Reads (bytes : List ℕ) (commands : List Command) (rest : List ℕ) : Type 0 where
  pub joined : bytes ≡ spellings commands ++ rest
  pub each : All IsCommand commands
  pub longest : NoneBegins rest

-- the fault of the rest: code 1 for an opcode over 13, else 2 for a command that is cut short. Its data
-- are the ten bytes from that opcode on, padded with zeros
abbrev pub fault_of : List ℕ → Option CommandFault
fault_of [] = None
fault_of (opcode ∷ bytes) = Some (record { code = if nat_lt 13 opcode then 1 else 2; bytes = padded 10 (opcode ∷ bytes) })

-- the items of a text: the commands, then the fault, if there is one
abbrev pub items_of : List Command → Option CommandFault → List (Result Command CommandFault)
items_of commands fault = map Ok commands ++ map Fault (option_to_list fault)

-- the commands among items, and the fault after them
abbrev pub commands_among : List (Result Command CommandFault) → List Command
commands_among [] = []
commands_among (Ok command ∷ items) = command ∷ commands_among items
commands_among (Fault fault ∷ items) = commands_among items

abbrev pub fault_among : List (Result Command CommandFault) → Option CommandFault
fault_among [] = None
fault_among (Ok command ∷ items) = fault_among items
fault_among (Fault fault ∷ items) = Some fault

-- nothing follows a fault
abbrev pub EndsAtFault : List (Result Command CommandFault) → Type 0
EndsAtFault [] = ⊤
EndsAtFault (Ok command ∷ items) = EndsAtFault items
EndsAtFault (Fault fault ∷ items) = items ≡ []
