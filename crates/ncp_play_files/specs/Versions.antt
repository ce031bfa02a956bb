-- The two versions of a message file. In version 1 the header names the direction of all messages. In
-- version 2 each record begins with a byte for its direction and the number of the host at whose
-- interface the message was captured.
use Rattle.std.specs.Prelude.{◌≡◌, ◌≤◌, ℕ, ◌==◌, Bool, List, [], ◌∷◌, ◌++◌, Option, Some, None, Result, Ok, Err, length, codes, if◌then◌else◌}
use Rattle.std.specs.List.{flat_map}
use Rattle.ncp_bits.specs.declared.bits.TheConstants.{MAX_BITS}
use Rattle.ncp_play_files.specs.declared.file.Direction.{Direction}
use Rattle.ncp_play_files.specs.declared.file.Direction.TheVariants.{ToImp, FromImp}
use Rattle.ncp_play_files.specs.declared.file.FileFault.{FileFault}
use Rattle.ncp_play_files.specs.declared.file.FileFault.TheVariants.{Truncated, BadDirection}
use Rattle.ncp_play_files.specs.declared.version.Version.{Version}
use Rattle.ncp_play_files.specs.declared.version.Version.TheVariants.{One, Two}
use Rattle.ncp_play_files.specs.declared.version.CapturePoint.{CapturePoint}
use Rattle.ncp_play_files.specs.File.{Next, next_record, record_bytes}

-- a record: the capture point of a message (its direction and its host), and the message
pub record Recorded : Type 0 where
  pub capture_point : CapturePoint
  pub message : List Bool

-- the capture point of each message of a file of version 1, which names no host
abbrev pub capture_point_without_host : Direction → CapturePoint
capture_point_without_host direction = record { direction = direction; at = None }

-- a capture point at the interface of a host
abbrev pub placed : Direction → ℕ → CapturePoint
placed direction host = record { direction = direction; at = Some host }

-- ---- reading

-- the byte of a direction: the last of the header in version 1
abbrev pub byte_of_direction : Direction → ℕ
byte_of_direction ToImp = 72
byte_of_direction FromImp = 73

-- the direction that a byte names, if any
abbrev pub direction_by : ℕ → Option Direction
direction_by byte =
    if byte == 72 then Some ToImp
    else if byte == 73 then Some FromImp
    else None

-- a record and the bytes after it, or none
abbrev pub NextRecorded : Type 0
NextRecorded = Option (Recorded × List ℕ)

-- the record of a message with this capture point; `none` is the result if no message begins
abbrev pub recorded : CapturePoint → Result NextRecorded FileFault → Result Next FileFault → Result NextRecorded FileFault
recorded capture_point none (Ok None) = none
recorded capture_point none (Ok (Some (message, rest))) = Ok (Some (record { capture_point = capture_point; message = message }, rest))
recorded capture_point none (Err fault) = Err fault

-- the byte of a direction has to be followed by the number of a host
abbrev pub capture_point_toward : Option Direction → List ℕ → Result (Option (CapturePoint × List ℕ)) FileFault
capture_point_toward None bytes = Err BadDirection
capture_point_toward (Some direction) [] = Err Truncated
capture_point_toward (Some direction) (host ∷ bytes) = Ok (Some (placed direction host, bytes))

-- the capture point or the fault at the front of bytes
abbrev pub next_capture_point : List ℕ → Result (Option (CapturePoint × List ℕ)) FileFault
next_capture_point [] = Ok None
next_capture_point (byte ∷ bytes) = capture_point_toward (direction_by byte) bytes

-- a capture point has to be followed by a message
abbrev pub after_capture_point : Result (Option (CapturePoint × List ℕ)) FileFault → Result NextRecorded FileFault
after_capture_point (Ok None) = Ok None
after_capture_point (Ok (Some (capture_point, bytes))) = recorded capture_point (Err Truncated) (next_record bytes)
after_capture_point (Err fault) = Err fault

-- the record or the fault at the front of bytes
abbrev pub next_in : Version → List ℕ → Result NextRecorded FileFault
next_in (One direction) bytes = recorded (capture_point_without_host direction) (Ok None) (next_record bytes)
next_in Two bytes = after_capture_point (next_capture_point bytes)

-- ---- written files

abbrev pub header_of : Version → List ℕ
header_of (One ToImp) = codes "NCPH"
header_of (One FromImp) = codes "NCPI"
header_of Two = codes "NCPJ"

-- the bytes before a message: its direction and its host, if the host is named
abbrev pub capture_point_bytes : Direction → Option ℕ → List ℕ
capture_point_bytes direction None = []
capture_point_bytes direction (Some host) = byte_of_direction direction ∷ host ∷ []

abbrev pub bytes_with_capture_point : CapturePoint → List Bool → List ℕ
bytes_with_capture_point capture_point message = capture_point_bytes capture_point.direction capture_point.at ++ record_bytes message

abbrev pub bytes_of_record : Recorded → List ℕ
bytes_of_record written = bytes_with_capture_point written.capture_point written.message

-- a record that a file of this version can have: in version 1 it has the direction of the file and names
-- no host; in version 2 it names one
abbrev pub IsOf : Version → Recorded → Type 0
IsOf (One direction) written = (written.capture_point ≡ capture_point_without_host direction) × (length written.message ≤ MAX_BITS)
IsOf Two written = (host : ℕ) × (written.capture_point ≡ placed written.capture_point.direction host) × (length written.message ≤ MAX_BITS)

-- a file of these records
abbrev pub file_bytes : Version → List Recorded → List ℕ
file_bytes version written = header_of version ++ flat_map bytes_of_record written
