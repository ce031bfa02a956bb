-- What `convert` writes: a file of version 1 as version 2, each message at the interface of the given
-- host; and a file of version 2 as version 1, if all messages have one direction and are at that host.
use Rattle.std.specs.Prelude.{◌≡◌, ◌<◌, ℕ, ◌==◌, ◌&&◌, Bool, true, false, List, [], ◌∷◌, ◌++◌, length, drop, Option, Some, None, Result, Ok, Err, MatchOption, if◌then◌else◌}
use Rattle.std.specs.List.{flat_map}
use Rattle.ncp_play_files.specs.declared.file.Direction.{Direction}
use Rattle.ncp_play_files.specs.declared.file.Direction.TheVariants.{ToImp, FromImp}
use Rattle.ncp_play_files.specs.declared.file.FileFault.{FileFault}
use Rattle.ncp_play_files.specs.declared.file.FileFault.TheVariants.{BadHeader, ReadFailed, Mixed}
use Rattle.ncp_play_files.specs.declared.version.Version.{Version}
use Rattle.ncp_play_files.specs.declared.version.Version.TheVariants.{One, Two}
use Rattle.ncp_play_files.specs.declared.version.CapturePoint.{CapturePoint}
use Rattle.ncp_play_files.specs.File.{Next, version_of, HoldsBy, IsCut}
use Rattle.ncp_play_files.specs.Versions.{NextRecorded, capture_point_without_host, placed, direction_by, next_in, header_of, bytes_with_capture_point}
use Rattle.ncp_play_files.specs.Writing.{Writes}

-- ---- the two versions

-- the direction that a byte names; toward the IMP if it names none
abbrev pub or_to_imp : Option Direction → Direction
or_to_imp None = ToImp
or_to_imp (Some direction) = direction

-- the direction of a file: in version 2 that of its first record, and toward the IMP without records
abbrev pub direction_after : Version → List ℕ → Direction
direction_after (One direction) bytes = direction
direction_after Two [] = ToImp
direction_after Two (byte ∷ bytes) = or_to_imp (direction_by byte)

-- the other version, for a file of this direction
abbrev pub other_version : Version → Direction → Version
other_version (One from) direction = Two
other_version Two direction = One direction

-- the capture point of a message in a file of this version, given the direction of the file and its host
abbrev pub capture_point_in : Version → Direction → ℕ → CapturePoint
capture_point_in (One from) direction host = capture_point_without_host direction
capture_point_in Two direction host = placed direction host

-- ---- the messages that are converted

abbrev pub same_direction : Direction → Direction → Bool
same_direction ToImp ToImp = true
same_direction ToImp FromImp = false
same_direction FromImp ToImp = false
same_direction FromImp FromImp = true

abbrev pub same_host : Option ℕ → Option ℕ → Bool
same_host None None = true
same_host None (Some host) = false
same_host (Some host) None = false
same_host (Some host) (Some other) = host == other

abbrev pub same_capture_point : CapturePoint → CapturePoint → Bool
same_capture_point one other = same_direction one.direction other.direction && same_host one.at other.at

-- the message of a record, if it has this capture point
abbrev pub next_of_capture_point : CapturePoint → Result NextRecorded FileFault → Result Next FileFault
next_of_capture_point capture_point (Ok None) = Ok None
next_of_capture_point capture_point (Ok (Some (found, rest))) = if same_capture_point found.capture_point capture_point then Ok (Some (found.message, rest)) else Err Mixed
next_of_capture_point capture_point (Err fault) = Err fault

-- the message or the fault at the front of bytes; a record without another fault is `Mixed` if it has
-- another capture point
abbrev pub next_at : Version → CapturePoint → List ℕ → Result Next FileFault
next_at version capture_point bytes = next_of_capture_point capture_point (next_in version bytes)

-- the converted messages after a header, and the fault that follows them, if any
abbrev pub HoldsAt : Version → ℕ → List ℕ → List (List Bool) → Option FileFault → Type 0
HoldsAt version host bytes messages fault =
    HoldsBy (next_at version (capture_point_in version (direction_after version bytes) host)) bytes messages fault

-- ---- the written file

-- the records of messages that all have this capture point
abbrev pub bytes_of_all_at : CapturePoint → List (List Bool) → List ℕ
bytes_of_all_at capture_point messages = flat_map (bytes_with_capture_point capture_point) messages

-- a file of these messages; its header is written with the first of them or at the end, so nothing
-- precedes a fault at the first record
abbrev pub file_to : Version → CapturePoint → List (List Bool) → Option FileFault → List ℕ
file_to version capture_point [] None = header_of version
file_to version capture_point [] (Some fault) = []
file_to version capture_point (message ∷ messages) fault = header_of version ++ bytes_of_all_at capture_point (message ∷ messages)

-- the messages of a file of one version as one of the other
abbrev pub converted : Version → Direction → ℕ → List (List Bool) → Option FileFault → List ℕ
converted version direction host messages fault =
    let other = other_version version direction in file_to other (capture_point_in other direction host) messages fault

-- the output for a file, and its first fault, if any
abbrev pub ConvertedAs : ℕ → List ℕ → List ℕ → Option FileFault → Type 0
ConvertedAs host bytes text fault =
    MatchOption (version_of bytes) ((text ≡ []) × (fault ≡ Some BadHeader)) (λ version.
    (messages : List (List Bool)) × HoldsAt version host (drop 4 bytes) messages fault
    × (text ≡ converted version (direction_after version (drop 4 bytes)) host messages fault))

-- the output for the bytes before a failed read: the records complete in them; nothing if they end inside
-- the header
abbrev pub ConvertedCut : ℕ → List ℕ → List ℕ → Type 0
ConvertedCut host given text =
    MatchOption (version_of given) ((length given < 4) × (text ≡ [])) (λ version.
    (messages : List (List Bool)) × (fault : Option FileFault) × IsCut given fault × HoldsAt version host (drop 4 given) messages fault
    × (text ≡ converted version (direction_after version (drop 4 given)) host messages (Some ReadFailed)))

-- the output for a file, by the result
abbrev pub Converted : ℕ → List ℕ → List ℕ → Option (List ℕ) → Option (List ℕ) → Result Unit FileFault → Type 0
Converted host bytes was left written result = Writes (ConvertedAs host) (ConvertedCut host) bytes was left written result
