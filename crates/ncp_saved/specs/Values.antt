-- The values of a saved host as bytes, in this profile's layout.
use Rattle.std.specs.Prelude.{◌≡◌, refl, ℕ, ◌/◌, ◌%◌, Bool, true, false, if◌then◌else◌, List, [], ◌∷◌, ◌++◌, length, Option, None, Some}
use Rattle.ncp_numbers.specs.Numbers.{number_of}
use Rattle.ncp_numbers.specs.Bytes.{bytes_of, byte_of}
use Rattle.ncp_wire.specs.declared.command.Command.{Command}
use Rattle.ncp_wire.specs.declared.command.Command.TheVariants.{Nop, Rts, Str, Cls, All, Gvb, Ret, Inr, Ins, Eco, Erp, Err, Rst, Rrp}
use Rattle.ncp_model.specs.declared.pair.Pair.{Pair}
use Rattle.ncp_model.specs.declared.outcomes.Error.{Error}

-- A number in two and in four bytes, most significant first; a flag in one, 1 if it is set.

abbrev pub two_bytes : ℕ → List ℕ
two_bytes n = n / 256 ∷ n % 256 ∷ []

abbrev pub four_bytes : ℕ → List ℕ
four_bytes n = two_bytes (n / 65536) ++ two_bytes (n % 65536)

abbrev pub mark : Bool → ℕ
mark set = if set then 1 else 0

-- a list: a 1 before each item, and a 0 at the end
unfoldable pub listed : {A : Type 0} → (A → List ℕ) → List A → List ℕ
listed saved [] = 0 ∷ []
listed saved (x ∷ xs) = 1 ∷ saved x ++ listed saved xs

-- the number of bits, then the bits as whole bytes, padded with zeros
unfoldable pub bits_saved : List Bool → List ℕ
bits_saved bits = four_bytes (length bits) ++ bytes_of bits

-- a command: its opcode, then its fields in order; the data of an ERR after their number of bytes
unfoldable pub command_saved : Command → List ℕ
command_saved Nop = 0 ∷ []
command_saved (Rts receive send link) = 1 ∷ four_bytes receive ++ four_bytes send ++ link ∷ []
command_saved (Str send receive size) = 2 ∷ four_bytes send ++ four_bytes receive ++ size ∷ []
command_saved (Cls my your) = 3 ∷ four_bytes my ++ four_bytes your
command_saved (All link messages bits) = 4 ∷ link ∷ two_bytes messages ++ four_bytes bits
command_saved (Gvb link fm fb) = 5 ∷ link ∷ fm ∷ fb ∷ []
command_saved (Ret link messages bits) = 6 ∷ link ∷ two_bytes messages ++ four_bytes bits
command_saved (Inr link) = 7 ∷ link ∷ []
command_saved (Ins link) = 8 ∷ link ∷ []
command_saved (Eco byte) = 9 ∷ byte ∷ []
command_saved (Erp byte) = 10 ∷ byte ∷ []
command_saved (Err code bytes) = 11 ∷ code ∷ length bytes ∷ bytes
command_saved Rst = 12 ∷ []
command_saved Rrp = 13 ∷ []

-- an error: its code, the number of bytes of its data, and the data
unfoldable pub error_saved : Error → List ℕ
error_saved e = e.code ∷ length e.bytes ∷ e.bytes

-- the byte of the last ERP that answered an echo: a 1 and the byte, or a 0 if there was none
unfoldable pub echoed_saved : Option ℕ → List ℕ
echoed_saved None = 0 ∷ []
echoed_saved (Some byte) = 1 ∷ byte ∷ []

-- the sockets of a connection, here and there
unfoldable pub pair_saved : Pair → List ℕ
pair_saved pair = four_bytes pair.local ++ four_bytes pair.remote

-- By hand: a number, a flag, and bits.

pub number_by_hand : four_bytes 16909060 ≡ 1 ∷ 2 ∷ 3 ∷ 4 ∷ []
number_by_hand = refl

pub mark_by_hand : mark true ≡ 1
mark_by_hand = refl

pub bits_by_hand : bits_saved (true ∷ false ∷ true ∷ []) ≡ 0 ∷ 0 ∷ 0 ∷ 3 ∷ 160 ∷ []
unfolding bits_saved bytes_of byte_of number_of
bits_by_hand = refl

-- an opcode, two sockets, and a link or a size
abbrev pub request_saved : ℕ → ℕ → ℕ → ℕ → List ℕ
request_saved opcode first second last = opcode ∷ four_bytes first ++ four_bytes second ++ last ∷ []
