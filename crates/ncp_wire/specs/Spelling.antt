-- The commands of the Host/Host Protocol as bytes (NIC 8246, control commands).
-- That ERR carries ten bytes of data is this profile's.
use Rattle.std.specs.Prelude.{ℕ, ◌≡◌, ◌<◌, ◌^◌, ⊤, List, [], ◌∷◌, ◌++◌, length, take, replicate, All}
use Rattle.std.specs.List.{flat_map}
use Rattle.std.specs.Int.{to_be_bytes, w16, w32}
use Rattle.ncp_wire.specs.declared.command.Command.{Command}
use Rattle.ncp_wire.specs.declared.command.Command.TheVariants.{Nop, Rts, Str, Cls, All as Allocate, Gvb, Ret, Inr, Ins, Eco, Erp, Err, Rst, Rrp}

-- the opcode, then the fields in order, numbers most significant byte first
abbrev pub spelling : Command → List ℕ
spelling Nop = 0 ∷ []
spelling (Rts receive send link) = 1 ∷ to_be_bytes w32 receive ++ to_be_bytes w32 send ++ link ∷ []
spelling (Str send receive size) = 2 ∷ to_be_bytes w32 send ++ to_be_bytes w32 receive ++ size ∷ []
spelling (Cls my your) = 3 ∷ to_be_bytes w32 my ++ to_be_bytes w32 your
spelling (Allocate link messages bits) = 4 ∷ link ∷ to_be_bytes w16 messages ++ to_be_bytes w32 bits
spelling (Gvb link fm fb) = 5 ∷ link ∷ fm ∷ fb ∷ []
spelling (Ret link messages bits) = 6 ∷ link ∷ to_be_bytes w16 messages ++ to_be_bytes w32 bits
spelling (Inr link) = 7 ∷ link ∷ []
spelling (Ins link) = 8 ∷ link ∷ []
spelling (Eco byte) = 9 ∷ byte ∷ []
spelling (Erp byte) = 10 ∷ byte ∷ []
spelling (Err code bytes) = 11 ∷ code ∷ bytes
spelling Rst = 12 ∷ []
spelling Rrp = 13 ∷ []

-- the joined spellings of commands
abbrev pub spellings : List Command → List ℕ
spellings commands = flat_map spelling commands

abbrev pub IsByte : ℕ → Type 0
IsByte number = number < 2 ^ 8

abbrev pub IsSocket : ℕ → Type 0
IsSocket number = number < 2 ^ 32

-- each field fits its width
abbrev pub IsCommand : Command → Type 0
IsCommand Nop = ⊤
IsCommand (Rts receive send link) = IsSocket receive × IsSocket send × IsByte link
IsCommand (Str send receive size) = IsSocket send × IsSocket receive × IsByte size
IsCommand (Cls my your) = IsSocket my × IsSocket your
IsCommand (Allocate link messages bits) = IsByte link × (messages < 2 ^ 16) × (bits < 2 ^ 32)
IsCommand (Gvb link fm fb) = IsByte link × IsByte fm × IsByte fb
IsCommand (Ret link messages bits) = IsByte link × (messages < 2 ^ 16) × (bits < 2 ^ 32)
IsCommand (Inr link) = IsByte link
IsCommand (Ins link) = IsByte link
IsCommand (Eco byte) = IsByte byte
IsCommand (Erp byte) = IsByte byte
IsCommand (Err code bytes) = IsByte code × (length bytes ≡ 10) × All IsByte bytes
IsCommand Rst = ⊤
IsCommand Rrp = ⊤

-- the first `count` bytes, padded with zeros
abbrev pub padded : ℕ → List ℕ → List ℕ
padded count bytes = take count (bytes ++ replicate count 0)

-- the data of an ERR about a command: its bytes, padded to ten with zeros
abbrev pub error_data : Command → List ℕ
error_data command = padded 10 (spelling command)

-- the ERR with this code about a command
abbrev pub error_of : ℕ → Command → Command
error_of code command = Err code (error_data command)
