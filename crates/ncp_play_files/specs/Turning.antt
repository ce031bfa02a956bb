-- The input read and the text rendered by the parts of `convert`.
use Rattle.std.specs.Prelude.{◌≡◌, ℕ, Bool, true, false, List, ◌++◌, Option, Some, None, Result, Ok, Err}
use Rattle.ncp_play_files.specs.declared.file.Direction.{Direction}
use Rattle.ncp_play_files.specs.declared.file.FileFault.{FileFault}
use Rattle.ncp_play_files.specs.declared.file.FileFault.TheVariants.{ReadFailed}
use Rattle.ncp_play_files.specs.declared.version.Version.{Version}
use Rattle.ncp_play_files.specs.declared.version.CapturePoint.{CapturePoint}
use Rattle.ncp_play_files.specs.Results.{MatchFault}
use Rattle.ncp_play_files.specs.File.{HoldsBy}
use Rattle.ncp_play_files.specs.Versions.{bytes_with_capture_point}
use Rattle.ncp_play_files.specs.Converted.{direction_after, file_to}
use Rattle.ncp_play_files.specs.Steps.{Reader, Stops, IsInside}
use Rattle.ncp_play_stream.specs.Streams.{RemainingInput, SaidSoFar}

-- this message was read, or the bytes end, or no record was read
abbrev pub ReadsMessage : Reader (List Bool) → List ℕ → Result Bool FileFault → List Bool → List ℕ → Option (List ℕ) → Type 0
ReadsMessage next bytes (Ok true) message window left = (rest : List ℕ) × (next bytes ≡ Ok (Some (message, rest))) × RemainingInput window left rest
ReadsMessage next bytes (Ok false) message window left = next bytes ≡ Ok None
ReadsMessage next bytes (Err fault) message window left = Stops next bytes left fault

-- the direction of the remaining messages was found, and none of them was consumed; or a read failed
-- before them
abbrev pub FindsDirection : Version → List ℕ → Result Direction FileFault → List ℕ → Option (List ℕ) → Type 0
FindsDirection version bytes (Ok direction) window left = (direction ≡ direction_after version bytes) × RemainingInput window left bytes
FindsDirection version bytes (Err fault) window left = MatchFault (λ f. ⊥) (left ≡ Some bytes) ⊥ fault

-- the bytes written for a message: its record with this capture point
abbrev pub message_printed : CapturePoint → ℕ → List Bool → List ℕ
message_printed capture_point number message = bytes_with_capture_point capture_point message

-- the file of these messages was rendered
abbrev pub RendersMessages : Version → CapturePoint → Reader (List Bool) → List ℕ → List ℕ → Option FileFault → Option FileFault → List ℕ → Option (List ℕ) → Type 0
RendersMessages to capture_point next bytes was ends fault page written =
    (messages : List (List Bool)) × HoldsBy next bytes messages ends × SaidSoFar was page written (file_to to capture_point messages fault)

-- the text rendered for the messages after a header, by the result
abbrev pub RendersTurned : Version → CapturePoint → Reader (List Bool) → List ℕ → List ℕ → Result Unit FileFault → Option (List ℕ) → List ℕ → Option (List ℕ) → Type 0
RendersTurned to capture_point next bytes was (Ok done) left page written = RendersMessages to capture_point next bytes was None None page written
RendersTurned to capture_point next bytes was (Err fault) left page written =
    MatchFault (λ f. RendersMessages to capture_point next bytes was (Some f) (Some f) page written)
    ((given : List ℕ) × (rest : List ℕ) × (ends : Option FileFault) × (bytes ≡ given ++ rest) × (left ≡ Some rest) × IsInside ends
    × RendersMessages to capture_point next given was ends (Some ReadFailed) page written)
    ((ends : Option FileFault) × (lost : List ℕ) × RendersMessages to capture_point next bytes was ends ends lost written) fault
