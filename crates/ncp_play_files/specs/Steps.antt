-- The effect of the parts of `show` and `convert` on the remaining input and on the text rendered so far
-- (written or in the out buffer).
use Rattle.std.specs.Prelude.{◌≡◌, ◌+◌, ◌<◌, ◌≤◌, not, ℕ, Bool, true, false, List, length, drop, ◌++◌, Option, Some, None, Result, Ok, Err}
use Rattle.byteorder.specs.Endian.{big_number}
use Rattle.ncp_numbers.specs.Bytes.{bytes_for}
use Rattle.ncp_bits.specs.declared.bits.TheConstants.{MAX_BITS}
use Rattle.ncp_play_files.specs.declared.file.Direction.{Direction}
use Rattle.ncp_play_files.specs.declared.file.FileFault.{FileFault}
use Rattle.ncp_play_files.specs.declared.file.FileFault.TheVariants.{BadHeader, Truncated, WriteFailed}
use Rattle.ncp_play_files.specs.Results.{MatchFault, is_write}
use Rattle.ncp_play_files.specs.declared.version.Version.{Version}
use Rattle.ncp_play_files.specs.declared.version.CapturePoint.{CapturePoint}
use Rattle.ncp_play_files.specs.declared.version.Found.{Found}
use Rattle.ncp_play_files.specs.File.{direction_of, version_of, next_record, ending, HoldsBy}
use Rattle.ncp_play_files.specs.Versions.{NextRecorded, recorded, next_in}
use Rattle.ncp_play_files.specs.Lines.{lines_printed_from}
use Rattle.ncp_play_files.specs.Writing.{TextReported, PrintedCut}
use Rattle.ncp_play_stream.specs.declared.source.TheConstants.{LEAST_PIECE}
use Rattle.ncp_play_stream.specs.Pieces.{lost_pieces, unpaid}
use Rattle.ncp_play_stream.specs.Streams.{RemainingInput, SaidSoFar}

-- a read failed inside the header: no byte is lost
abbrev pub CutInHeader : List ℕ → List ℕ → Option (List ℕ) → Type 0
CutInHeader bytes window left = (length window < 4) × RemainingInput window left bytes

-- a header was read; or the bytes begin with none, or a read failed
abbrev pub ReadsVersion : List ℕ → Result Version FileFault → List ℕ → Option (List ℕ) → Type 0
ReadsVersion bytes (Ok version) window left = (version_of bytes ≡ Some version) × RemainingInput window left (drop 4 bytes)
ReadsVersion bytes (Err fault) window left =
    MatchFault (λ f. (f ≡ BadHeader) × (version_of bytes ≡ None)) (CutInHeader bytes window left) ⊥ fault

-- a header of version 1 was read; or the bytes begin with none, or a read failed
abbrev pub ReadsHeader : List ℕ → Result Direction FileFault → List ℕ → Option (List ℕ) → Type 0
ReadsHeader bytes (Ok direction) window left = (direction_of bytes ≡ Some direction) × RemainingInput window left (drop 4 bytes)
ReadsHeader bytes (Err fault) window left =
    MatchFault (λ f. (f ≡ BadHeader) × (direction_of bytes ≡ None)) (CutInHeader bytes window left) ⊥ fault

-- bytes end between records, or inside a record
abbrev pub IsInside : Option FileFault → Type 0
IsInside None = Unit {0}
IsInside (Some fault) = fault ≡ Truncated

-- a read failed: no byte is lost, and the bytes in the in buffer are no complete record
abbrev pub CutOff : List ℕ → List ℕ → Option (List ℕ) → Type 0
CutOff bytes window left =
    (fault : Option FileFault) × IsInside fault × (next_record window ≡ ending fault) × RemainingInput window left bytes

-- the in buffer begins with a complete record, whose message has `len` bits
pub record StandsWhole (window : List ℕ) (len : ℕ) : Type 0 where
  pub number : len ≡ big_number 2 window
  pub fits : len ≤ MAX_BITS
  pub inside : 2 + bytes_for len ≤ length window

-- a record may follow and no byte was lost; or the bytes end, or begin with this fault, or a read failed
abbrev pub FindsRecord : List ℕ → Result (Option ℕ) FileFault → List ℕ → Option (List ℕ) → Type 0
FindsRecord bytes (Ok (Some len)) window left = RemainingInput window left bytes
FindsRecord bytes (Ok None) window left = next_record bytes ≡ Ok None
FindsRecord bytes (Err fault) window left = MatchFault (λ f. next_record bytes ≡ Err f) (CutOff bytes window left) ⊥ fault

-- the bytes begin with this fault of a record; no read or write has failed
abbrev pub HasFaultInFront : List ℕ → FileFault → Type 0
HasFaultInFront bytes fault = MatchFault (λ f. next_record bytes ≡ Err f) ⊥ ⊥ fault

-- the message of `len` bits of the first record was found, or the bytes begin with this fault
abbrev pub FindsMessage : List ℕ → ℕ → Result (List Bool) FileFault → Type 0
FindsMessage bytes len (Ok message) = next_record bytes ≡ Ok (Some (message, drop (bytes_for len) (drop 2 bytes)))
FindsMessage bytes len (Err fault) = HasFaultInFront bytes fault

-- this message was taken, or the bytes begin with this fault
abbrev pub TakesRecord : List ℕ → Result Unit FileFault → List Bool → List ℕ → Option (List ℕ) → Type 0
TakesRecord bytes (Ok done) message window left =
    (rest : List ℕ) × (next_record bytes ≡ Ok (Some (message, rest))) × RemainingInput window left rest
TakesRecord bytes (Err fault) message window left = HasFaultInFront bytes fault

-- this message was read; or the bytes end, or begin with this fault, or a read failed
abbrev pub ReadsRecord : List ℕ → Result Bool FileFault → List Bool → List ℕ → Option (List ℕ) → Type 0
ReadsRecord bytes (Ok true) message window left =
    (rest : List ℕ) × (next_record bytes ≡ Ok (Some (message, rest))) × RemainingInput window left rest
ReadsRecord bytes (Ok false) message window left = next_record bytes ≡ Ok None
ReadsRecord bytes (Err fault) message window left = MatchFault (λ f. next_record bytes ≡ Err f) (CutOff bytes window left) ⊥ fault

-- ---- records of both versions

-- the reader of the record at the front of bytes, and the lines for a record with its number
abbrev pub Reader : Type 0 → Type 0
Reader X = List ℕ → Result (Option (X × List ℕ)) FileFault

abbrev pub RecordTelling : Type 0 → Type 0
RecordTelling X = ℕ → X → List ℕ

-- a read failed: no byte is lost, and those before the failure are no complete record
abbrev pub StopsShort : {X : Type 0} → Reader X → List ℕ → Option (List ℕ) → Type 0
StopsShort next bytes left =
    (given : List ℕ) × (rest : List ℕ) × (fault : Option FileFault) × (bytes ≡ given ++ rest) × (left ≡ Some rest) × IsInside fault
    × (next given ≡ ending fault)

-- no record was read: the bytes begin with this fault, or a read failed
abbrev pub Stops : {X : Type 0} → Reader X → List ℕ → Option (List ℕ) → FileFault → Type 0
Stops next bytes left fault = MatchFault (λ f. next bytes ≡ Err f) (StopsShort next bytes left) ⊥ fault

-- this record was read, or the bytes end, or no record was read (`Stops`)
abbrev pub ReadsOne : {X : Type 0} → Reader X → List ℕ → Result (Option X) FileFault → List ℕ → Option (List ℕ) → Type 0
ReadsOne next bytes (Ok (Some first)) window left = (rest : List ℕ) × (next bytes ≡ Ok (Some (first, rest))) × RemainingInput window left rest
ReadsOne next bytes (Ok None) window left = next bytes ≡ Ok None
ReadsOne next bytes (Err fault) window left = Stops next bytes left fault

-- a record with this capture point was found, whose message is still to be taken; or the bytes end, or no
-- record was read
abbrev pub FindsNext : Version → List ℕ → Result (Option Found) FileFault → List ℕ → Option (List ℕ) → Type 0
FindsNext version bytes (Ok (Some found)) window left =
    (behind : List ℕ) × (none : Result NextRecorded FileFault) × (next_in version bytes ≡ recorded found.capture_point none (next_record behind)) × RemainingInput window left behind
FindsNext version bytes (Ok None) window left = next_in version bytes ≡ Ok None
FindsNext version bytes (Err fault) window left = Stops (next_in version) bytes left fault

-- this message with this capture point was read, or the bytes end, or no record was read
abbrev pub ReadsNext : Version → List ℕ → Result (Option CapturePoint) FileFault → List Bool → List ℕ → Option (List ℕ) → Type 0
ReadsNext version bytes (Ok (Some capture_point)) message window left =
    (rest : List ℕ) × (next_in version bytes ≡ Ok (Some (record { capture_point = capture_point; message = message }, rest))) × RemainingInput window left rest
ReadsNext version bytes (Ok None) message window left = next_in version bytes ≡ Ok None
ReadsNext version bytes (Err fault) message window left = Stops (next_in version) bytes left fault

-- nothing was rendered, since no record begins
abbrev pub EndsWith : {X : Type 0} → Reader X → List ℕ → Option FileFault → List ℕ → List ℕ → List ℕ → Option (List ℕ) → Type 0
EndsWith next bytes fault was said page written = (next bytes ≡ ending fault) × SaidSoFar was page written said

-- the lines of the next record were rendered
abbrev pub RendersRecord : {X : Type 0} → Reader X → RecordTelling X → ℕ → List ℕ → List ℕ → List ℕ → List ℕ → Option (List ℕ) → List ℕ → Option (List ℕ) → Type 0
RendersRecord {X} next lines number bytes was said window left page written =
    (first : X) × (rest : List ℕ) × (next bytes ≡ Ok (Some (first, rest))) × RemainingInput window left rest
    × SaidSoFar was page written (said ++ lines number first)

-- a prefix of them was written
abbrev pub BreaksRecord : {X : Type 0} → Reader X → RecordTelling X → ℕ → List ℕ → List ℕ → List ℕ → Option (List ℕ) → Type 0
BreaksRecord {X} next lines number bytes was said written =
    (first : X) × (rest : List ℕ) × (lost : List ℕ) × (next bytes ≡ Ok (Some (first, rest)))
    × SaidSoFar was lost written (said ++ lines number first)

-- the lines of the next record were rendered, or there is none, or the bytes begin with a fault
abbrev pub RendersNext : {X : Type 0} → Reader X → RecordTelling X → ℕ → List ℕ → List ℕ → List ℕ → Result Bool FileFault → List ℕ → Option (List ℕ) → List ℕ → Option (List ℕ) → Type 0
RendersNext next lines number bytes was said (Ok true) window left page written = RendersRecord next lines number bytes was said window left page written
RendersNext next lines number bytes was said (Ok false) window left page written = EndsWith next bytes None was said page written
RendersNext next lines number bytes was said (Err fault) window left page written =
    MatchFault (λ f. EndsWith next bytes (Some f) was said page written) (StopsShort next bytes left × SaidSoFar was page written said)
    (BreaksRecord next lines number bytes was said written) fault

-- the lines of all records were rendered, and then the bytes end or have this fault
abbrev pub RendersLines : {X : Type 0} → Reader X → RecordTelling X → ℕ → List ℕ → List ℕ → List ℕ → Option FileFault → List ℕ → Option (List ℕ) → Type 0
RendersLines {X} next lines number bytes was said fault page written =
    (records : List X) × HoldsBy next bytes records fault × SaidSoFar was page written (said ++ lines_printed_from lines number records)

-- the lines of the records that were complete before a read failed were rendered
abbrev pub RendersCut : {X : Type 0} → Reader X → RecordTelling X → ℕ → List ℕ → List ℕ → List ℕ → Option (List ℕ) → List ℕ → Option (List ℕ) → Type 0
RendersCut next lines number bytes was said left page written =
    (given : List ℕ) × (rest : List ℕ) × (fault : Option FileFault) × (bytes ≡ given ++ rest) × (left ≡ Some rest) × IsInside fault
    × RendersLines next lines number given was said fault page written

-- a prefix was written
abbrev pub BreaksLines : {X : Type 0} → Reader X → RecordTelling X → ℕ → List ℕ → List ℕ → List ℕ → Option (List ℕ) → Type 0
BreaksLines next lines number bytes was said written =
    (fault : Option FileFault) × (lost : List ℕ) × RendersLines next lines number bytes was said fault lost written

-- the lines rendered for records from this number on, by the result
abbrev pub RendersFrom : {X : Type 0} → Reader X → RecordTelling X → ℕ → List ℕ → List ℕ → List ℕ → Result Unit FileFault → Option (List ℕ) → List ℕ → Option (List ℕ) → Type 0
RendersFrom next lines number bytes was said (Ok done) left page written = RendersLines next lines number bytes was said None page written
RendersFrom next lines number bytes was said (Err fault) left page written =
    MatchFault (λ f. RendersLines next lines number bytes was said (Some f) page written) (RendersCut next lines number bytes was said left page written)
    (BreaksLines next lines number bytes was said written) fault

-- ---- before waiting for input

-- the text rendered before is unchanged; after a failed write a prefix of it is written
abbrev pub LetsOut : List ℕ → Option (List ℕ) → Result Unit FileFault → List ℕ → Option (List ℕ) → Type 0
LetsOut page written (Ok done) page' written' = (was : List ℕ) (said : List ℕ) → SaidSoFar was page written said → SaidSoFar was page' written' said
LetsOut page written (Err fault) page' written' =
    (fault ≡ WriteFailed) × (lost : List ℕ) × ((was : List ℕ) (said : List ℕ) → SaidSoFar was page written said → SaidSoFar was lost written' said)

-- the lines of the next record were rendered, or there is none; or this was the end: a fault, or a write
-- that failed
abbrev pub RendersOn : {X : Type 0} → Reader X → RecordTelling X → ℕ → List ℕ → List ℕ → List ℕ → Result Bool FileFault → List ℕ → Option (List ℕ) → List ℕ → Option (List ℕ) → Type 0
RendersOn next lines number bytes was said (Ok more) window left page written = RendersNext next lines number bytes was said (Ok more) window left page written
RendersOn next lines number bytes was said (Err fault) window left page written = RendersFrom next lines number bytes was said (Err fault) left page written

-- whether nothing was rendered, since the bytes end or begin with a fault
abbrev pub said_nothing : Result Bool FileFault → Bool
said_nothing (Ok more) = not more
said_nothing (Err fault) = not (is_write fault)

-- the bound on the written bytes that are not accounted for
abbrev pub unpaid_after : Result Bool FileFault → List ℕ → ℕ
unpaid_after (Ok true) page = 0
unpaid_after (Ok false) page = unpaid false page
unpaid_after (Err fault) page = unpaid (is_write fault) page

-- a write before waiting may be shorter than a piece; if a write fails, two may be
abbrev pub unpaid_out : Result Unit FileFault → Bool → ℕ
unpaid_out (Ok done) true = LEAST_PIECE
unpaid_out (Ok done) false = 0
unpaid_out (Err fault) waits = lost_pieces true

-- ---- files

-- the whole text of a file was rendered
abbrev pub RendersFile : TextReported → List ℕ → List ℕ → Option FileFault → List ℕ → Option (List ℕ) → Type 0
RendersFile told bytes was fault page written = (text : List ℕ) × told bytes text fault × SaidSoFar was page written text

-- the text of the bytes before a failed read was rendered
abbrev pub RendersCutFile : PrintedCut → List ℕ → List ℕ → Option (List ℕ) → List ℕ → Option (List ℕ) → Type 0
RendersCutFile cut bytes was left page written =
    (given : List ℕ) × (rest : List ℕ) × (text : List ℕ) × (bytes ≡ given ++ rest) × (left ≡ Some rest) × cut given text × SaidSoFar was page written text

-- a prefix of the text of a file was written
abbrev pub BreaksFile : TextReported → List ℕ → List ℕ → Option (List ℕ) → Type 0
BreaksFile told bytes was written = (fault : Option FileFault) × (lost : List ℕ) × RendersFile told bytes was fault lost written

-- the text rendered for a file, by the result
abbrev pub RendersOfFile : TextReported → PrintedCut → List ℕ → List ℕ → Result Unit FileFault → Option (List ℕ) → List ℕ → Option (List ℕ) → Type 0
RendersOfFile told cut bytes was (Ok done) left page written = RendersFile told bytes was None page written
RendersOfFile told cut bytes was (Err fault) left page written =
    MatchFault (λ f. RendersFile told bytes was (Some f) page written) (RendersCutFile cut bytes was left page written) (BreaksFile told bytes was written) fault
