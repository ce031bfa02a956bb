-- Reading a control text, as functions of its bytes. The laws of this crate prove that this is the one
-- reading of a text.
use Rattle.std.specs.Prelude.{ℕ, ◌+◌, ◌==◌, nat_le, zero, suc, List, [], ◌∷◌, length, drop, slice_index, slice_range, slice_get, Option, Some, None, Result, option_and_then, if◌then◌else◌}
use Rattle.std.specs.Option.{option_map_or}
use Rattle.std.specs.Int.{from_be_bytes, w16, w32}
use Rattle.ncp_wire.specs.Spelling.{spelling, spellings}
use Rattle.ncp_control.specs.Texts.{fault_of, items_of}
use Rattle.ncp_wire.specs.declared.command.Command.{Command}
use Rattle.ncp_wire.specs.declared.command.Command.TheVariants.{Nop, Rts, Str, Cls, All as Allocate, Gvb, Ret, Inr, Ins, Eco, Erp, Err, Rst, Rrp}
use Rattle.ncp_wire.specs.declared.fault.CommandFault.{CommandFault}

-- the number of bytes of a command, by its opcode, from 0 to 13
abbrev pub sizes : List ℕ
sizes = 1 ∷ 10 ∷ 10 ∷ 9 ∷ 8 ∷ 4 ∷ 8 ∷ 2 ∷ 2 ∷ 2 ∷ 2 ∷ 12 ∷ 1 ∷ 1 ∷ []

abbrev pub size_of : ℕ → Option ℕ
size_of opcode = slice_get sizes opcode

-- the one-, two- and four-byte numbers at an offset
abbrev pub byte_at : List ℕ → ℕ → ℕ
byte_at bytes offset = slice_index bytes offset

abbrev pub short_at : List ℕ → ℕ → ℕ
short_at bytes offset = from_be_bytes w16 (slice_range bytes offset (offset + 2))

abbrev pub word_at : List ℕ → ℕ → ℕ
word_at bytes offset = from_be_bytes w32 (slice_range bytes offset (offset + 4))

-- the command with this opcode and the fields in these bytes
unfoldable pub command_with : ℕ → List ℕ → Command
command_with opcode bytes =
    if opcode == 0 then Nop
    else if opcode == 1 then Rts (word_at bytes 1) (word_at bytes 5) (byte_at bytes 9)
    else if opcode == 2 then Str (word_at bytes 1) (word_at bytes 5) (byte_at bytes 9)
    else if opcode == 3 then Cls (word_at bytes 1) (word_at bytes 5)
    else if opcode == 4 then Allocate (byte_at bytes 1) (short_at bytes 2) (word_at bytes 4)
    else if opcode == 5 then Gvb (byte_at bytes 1) (byte_at bytes 2) (byte_at bytes 3)
    else if opcode == 6 then Ret (byte_at bytes 1) (short_at bytes 2) (word_at bytes 4)
    else if opcode == 7 then Inr (byte_at bytes 1)
    else if opcode == 8 then Ins (byte_at bytes 1)
    else if opcode == 9 then Eco (byte_at bytes 1)
    else if opcode == 10 then Erp (byte_at bytes 1)
    else if opcode == 11 then Err (byte_at bytes 1) (slice_range bytes 2 12)
    else if opcode == 12 then Rst
    else Rrp

-- the command with which bytes start, if there is one
unfoldable pub command_at : List ℕ → Option Command
command_at [] = None
command_at (opcode ∷ bytes) =
    option_and_then (λ size. if nat_le size (length (opcode ∷ bytes)) then Some (command_with opcode (opcode ∷ bytes)) else None) (size_of opcode)

-- the first commands of a text, at most as many as the first argument
unfoldable pub commands_within : ℕ → List ℕ → List Command
commands_within zero bytes = []
commands_within (suc more) bytes = option_map_or (λ command. command ∷ commands_within more (drop (length (spelling command)) bytes)) (command_at bytes) []

-- the commands of a text
abbrev pub commands_in : List ℕ → List Command
commands_in bytes = commands_within (length bytes) bytes

-- the bytes left after them
abbrev pub rest_in : List ℕ → List ℕ
rest_in bytes = drop (length (spellings (commands_in bytes))) bytes

-- the fault of a text, if it has one
abbrev pub fault_in : List ℕ → Option CommandFault
fault_in bytes = fault_of (rest_in bytes)

-- the items of a text: its commands, then its fault
unfoldable pub items_in : List ℕ → List (Result Command CommandFault)
items_in bytes = items_of (commands_in bytes) (fault_in bytes)
