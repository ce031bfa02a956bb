-- A message file: four header bytes, then records to the end. The record of a message is its number of
-- bits in two bytes, the most significant first, and then these bits in bytes, with spare bits zero.
use Rattle.std.specs.Prelude.{◌≡◌, ◌<◌, ℕ, ◌==◌, Bool, List, [], ◌∷◌, ◌++◌, take, drop, Option, Some, None, Result, Ok, Err, length, nat_lt, codes, if◌then◌else◌}
use Rattle.std.specs.Str.{bytes_eq}
use Rattle.byteorder.specs.Endian.{big_number, big_bytes}
use Rattle.ncp_numbers.specs.Bytes.{bytes_for, bytes_of}
use Rattle.ncp_bits.specs.Bits.{read_bytes}
use Rattle.ncp_bits.specs.declared.bits.BitsFault.{BitsFault}
use Rattle.ncp_bits.specs.declared.bits.BitsFault.TheVariants as bits
use Rattle.ncp_play_files.specs.declared.file.Direction.{Direction}
use Rattle.ncp_play_files.specs.declared.file.Direction.TheVariants.{ToImp, FromImp}
use Rattle.ncp_play_files.specs.declared.file.FileFault.{FileFault}
use Rattle.ncp_play_files.specs.declared.file.FileFault.TheVariants.{BadHeader, Truncated, TooLong, SpareNotZero, ReadFailed, WriteFailed, BadDirection, Mixed}
use Rattle.ncp_play_files.specs.declared.version.Version.{Version}
use Rattle.ncp_play_files.specs.declared.version.Version.TheVariants.{One, Two}

-- the version that the header of a file names, if any
abbrev pub version_of : List ℕ → Option Version
version_of bytes =
    if bytes_eq (take 4 bytes) (codes "NCPH") then Some (One ToImp)
    else if bytes_eq (take 4 bytes) (codes "NCPI") then Some (One FromImp)
    else if bytes_eq (take 4 bytes) (codes "NCPJ") then Some Two
    else None

-- the one direction of a file of version 1
abbrev pub one_direction : Option Version → Option Direction
one_direction None = None
one_direction (Some (One direction)) = Some direction
one_direction (Some Two) = None

-- the direction that a header of version 1 names, if any
abbrev pub direction_of : List ℕ → Option Direction
direction_of bytes = one_direction (version_of bytes)

-- a fault of bits, as a fault of a file
abbrev pub fault_of_bits : BitsFault → FileFault
fault_of_bits bits.TooLong = TooLong
fault_of_bits bits.ShortBytes = Truncated
fault_of_bits bits.SpareNotZero = SpareNotZero

-- a record and the bytes after it, or none
abbrev pub Next : Type 0
Next = Option (List Bool × List ℕ)

-- the record with these bytes after its length, and the bytes after the record
abbrev pub next_of_record : ℕ → List ℕ → Result (List Bool) BitsFault → Result Next FileFault
next_of_record len bytes (Ok message) = Ok (Some (message, drop (bytes_for len) bytes))
next_of_record len bytes (Err fault) = Err (fault_of_bits fault)

-- the record or the fault at the front of bytes
abbrev pub next_record : List ℕ → Result Next FileFault
next_record bytes =
    if length bytes == 0 then Ok None
    else if nat_lt (length bytes) 2 then Err Truncated
    else next_of_record (big_number 2 bytes) (drop 2 bytes) (read_bytes (drop 2 bytes) (big_number 2 bytes))

-- the result at the end of a file
abbrev pub ending : {A : Type 0} → Option FileFault → Result (Option A) FileFault
ending None = Ok None
ending (Some fault) = Err fault

-- bytes hold these records, each read by `next`, followed by their end or by this fault
abbrev pub HoldsBy : {X : Type 0} → (List ℕ → Result (Option (X × List ℕ)) FileFault) → List ℕ → List X → Option FileFault → Type 0
HoldsBy next bytes [] fault = next bytes ≡ ending fault
HoldsBy next bytes (first ∷ more) fault =
    (rest : List ℕ) × (next bytes ≡ Ok (Some (first, rest))) × HoldsBy next rest more fault

-- bytes after a header of version 1 hold these messages, followed by their end or by this fault
abbrev pub HoldsMessages : List ℕ → List (List Bool) → Option FileFault → Type 0
HoldsMessages bytes messages fault = HoldsBy next_record bytes messages fault

-- bytes end between records, or inside their header or a record, and have no other fault
abbrev pub IsCut : List ℕ → Option FileFault → Type 0
IsCut bytes None = Unit {0}
IsCut bytes (Some BadHeader) = length bytes < 4
IsCut bytes (Some Truncated) = Unit {0}
IsCut bytes (Some TooLong) = ⊥
IsCut bytes (Some SpareNotZero) = ⊥
IsCut bytes (Some ReadFailed) = ⊥
IsCut bytes (Some WriteFailed) = ⊥
IsCut bytes (Some BadDirection) = ⊥
IsCut bytes (Some Mixed) = ⊥

-- the number of bits of a message in 16 bits, then its bytes, with spare bits zero
abbrev pub record_bytes : List Bool → List ℕ
record_bytes message = big_bytes 2 (length message) ++ bytes_of message

-- ---- names

-- the names that a program prints
abbrev pub name_of_fault : FileFault → List ℕ
name_of_fault BadHeader = codes "BadHeader"
name_of_fault Truncated = codes "Truncated"
name_of_fault TooLong = codes "TooLong"
name_of_fault SpareNotZero = codes "SpareNotZero"
name_of_fault ReadFailed = codes "ReadFailed"
name_of_fault WriteFailed = codes "WriteFailed"
name_of_fault BadDirection = codes "BadDirection"
name_of_fault Mixed = codes "Mixed"
