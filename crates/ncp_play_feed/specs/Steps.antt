-- The effects of a feed's parts.
use Rattle.std.specs.Prelude.{◌≡◌, ◌⊎◌, ◌+◌, ℕ, Bool, true, false, List, [], ◌∷◌, ◌++◌, length, map, replicate, drop, Option, Some, None, Result, Ok, Err}
use Rattle.ncp_transcript.specs.declared.input.Input.TheVariants as inputs
use Rattle.ncp_transcript.specs.declared.note.HostNote.{HostNote}
use Rattle.ncp_transcript.specs.declared.note.HostNote.TheVariants as notes
use Rattle.ncp_transcript.specs.Alone.{Alone, IsHostStep, AreHostSteps}
use Rattle.ncp_play_stream.specs.declared.source.TheConstants.{LEAST_PIECE}
use Rattle.ncp_play_stream.specs.Pieces.{lost_pieces}
use Rattle.ncp_play_stream.specs.Streams.{RemainingInput}
use Rattle.ncp_play_files.specs.declared.file.Direction.{Direction}
use Rattle.ncp_play_files.specs.declared.file.Direction.TheVariants.{ToImp, FromImp}
use Rattle.ncp_play_files.specs.declared.file.FileFault.{FileFault}
use Rattle.ncp_play_files.specs.declared.file.FileFault.TheVariants.{BadHeader}
use Rattle.ncp_play_files.specs.File.{direction_of, next_record, HoldsMessages}
use Rattle.ncp_play_files.specs.Results.{MatchFault}
use Rattle.ncp_play_files.specs.Steps.{CutInHeader, CutOff, IsInside}
use Rattle.ncp_play_notes.specs.declared.fault.PlayFault.{PlayFault}
use Rattle.ncp_play_notes.specs.declared.fault.PlayFault.TheVariants.{BadLine, LineTooLong, BadHosts, Feed, ReadFailed, WriteFailed, OutOfMemory}
use Rattle.ncp_play_notes.specs.Faults.{is_play_write}
use Rattle.ncp_play_feed.specs.Feeds.{Came, all_output}

-- no header of a file from an IMP
abbrev pub IsOtherHeader : Option Direction → Type 0
IsOtherHeader (Some FromImp) = ⊥
IsOtherHeader (Some ToImp) = Unit {0}
IsOtherHeader None = Unit {0}

-- the header of a file from an IMP was read, or the header is another
abbrev pub ReadsFeedHeader : List ℕ → Result Unit FileFault → List ℕ → Option (List ℕ) → Type 0
ReadsFeedHeader bytes (Ok done) window left = (direction_of bytes ≡ Some FromImp) × RemainingInput window left (drop 4 bytes)
ReadsFeedHeader bytes (Err fault) window left = MatchFault (λ f. (f ≡ BadHeader) × IsOtherHeader (direction_of bytes)) (CutInHeader bytes window left) ⊥ fault

-- ---- messages that arrive

-- the next message was received, or there is none; or the next record has a fault, or allocation failed,
-- and nothing has happened; or the message was received, and a write failed
abbrev pub HearsNext : List ℕ → Alone → Result Bool PlayFault → Alone → List ℕ → Option (List ℕ) → Type 0
HearsNext bytes before (Ok true) now window left =
    (message : List Bool) × (rest : List ℕ) × (next_record bytes ≡ Ok (Some (message, rest))) × RemainingInput window left rest × IsHostStep (inputs.In message) before now
HearsNext bytes before (Ok false) now window left = (next_record bytes ≡ Ok None) × (now ≡ before)
HearsNext bytes before (Err (Feed fault)) now window left = MatchFault (λ f. next_record bytes ≡ Err f) (CutOff bytes window left) ⊥ fault × (now ≡ before)
HearsNext bytes before (Err OutOfMemory) now window left = (message : List Bool) × (rest : List ℕ) × (next_record bytes ≡ Ok (Some (message, rest))) × (now ≡ before)
HearsNext bytes before (Err WriteFailed) now window left =
    (message : List Bool) × (rest : List ℕ) × (next_record bytes ≡ Ok (Some (message, rest))) × IsHostStep (inputs.In message) before now
HearsNext bytes before (Err ReadFailed) now window left = ⊥
HearsNext bytes before (Err BadHosts) now window left = ⊥
HearsNext bytes before (Err (BadLine line)) now window left = ⊥
HearsNext bytes before (Err (LineTooLong line)) now window left = ⊥

-- these messages were received, and then the bytes end, with this fault or none
abbrev pub Hears : List ℕ → Option FileFault → Alone → Alone → Type 0
Hears bytes fault before now = (messages : List (List Bool)) × HoldsMessages bytes messages fault × Came messages before now

-- the same for the bytes that were read before a read failed
abbrev pub HearsCut : List ℕ → Option (List ℕ) → Alone → Alone → Type 0
HearsCut bytes left before now =
    (given : List ℕ) × (rest : List ℕ) × (fault : Option FileFault) × (bytes ≡ given ++ rest) × (left ≡ Some rest) × IsInside fault × Hears given fault before now

-- a prefix of the messages was received
abbrev pub HearsFirst : List ℕ → Alone → Alone → Type 0
HearsFirst bytes before now =
    (messages : List (List Bool)) × (more : List (List Bool)) × (fault : Option FileFault) × HoldsMessages bytes (messages ++ more) fault × Came messages before now

abbrev pub HearsFrom : List ℕ → Alone → Result Unit PlayFault → Alone → Option (List ℕ) → Type 0
HearsFrom bytes before (Ok done) now left = Hears bytes None before now
HearsFrom bytes before (Err (Feed fault)) now left = MatchFault (λ f. Hears bytes (Some f) before now) (HearsCut bytes left before now) ⊥ fault
HearsFrom bytes before (Err OutOfMemory) now left = HearsFirst bytes before now
HearsFrom bytes before (Err WriteFailed) now left = HearsFirst bytes before now
HearsFrom bytes before (Err ReadFailed) now left = ⊥
HearsFrom bytes before (Err BadHosts) now left = ⊥
HearsFrom bytes before (Err (BadLine line)) now left = ⊥
HearsFrom bytes before (Err (LineTooLong line)) now left = ⊥

-- the next message was received, or there is none; or the feed ends here: with a fault, an allocation
-- failure, or a failed write
abbrev pub HearsOn : List ℕ → Alone → Result Bool PlayFault → Alone → List ℕ → Option (List ℕ) → Type 0
HearsOn bytes before (Ok more) now window left = HearsNext bytes before (Ok more) now window left
HearsOn bytes before (Err fault) now window left = HearsFrom bytes before (Err fault) now left

-- the bytes that written pieces do not account for (see `PaidBy`), by the result: a write before waiting
-- for input may be less than a piece
abbrev pub unpaid_after_feeding : Result Bool PlayFault → ℕ
unpaid_after_feeding (Ok true) = 0
unpaid_after_feeding (Ok false) = LEAST_PIECE
unpaid_after_feeding (Err fault) = LEAST_PIECE + lost_pieces (is_play_write fault)

-- ---- messages that are sent

-- the host was asked for output once, with this note
abbrev pub AskedForOutput : HostNote → Alone → Alone → Type 0
AskedForOutput note before now = IsHostStep inputs.Out before now × (now.notes ≡ before.notes ++ note ∷ [])

-- a message was sent
abbrev pub SentOne : Alone → Alone → Type 0
SentOne before now = (message : List Bool) × AskedForOutput (notes.Out message) before now

-- a message was sent, or there was none to send; or allocation failed, and nothing has happened; or the
-- host was asked, and a write failed
abbrev pub SendsNext : Alone → Result Bool PlayFault → Alone → Type 0
SendsNext before (Ok true) now = SentOne before now
SendsNext before (Ok false) now = AskedForOutput notes.Nothing before now
SendsNext before (Err OutOfMemory) now = now ≡ before
SendsNext before (Err WriteFailed) now = SentOne before now ⊎ AskedForOutput notes.Nothing before now
SendsNext before (Err (Feed fault)) now = ⊥
SendsNext before (Err ReadFailed) now = ⊥
SendsNext before (Err BadHosts) now = ⊥
SendsNext before (Err (BadLine line)) now = ⊥
SendsNext before (Err (LineTooLong line)) now = ⊥

-- the host was asked for output, once for each of these notes
abbrev pub AskedFor : List HostNote → Alone → Alone → Type 0
AskedFor asked before now = AreHostSteps (replicate (length asked) inputs.Out) before now × (now.notes ≡ before.notes ++ asked)

-- these messages were sent, and then there was nothing to send
abbrev pub SentAll : Alone → Alone → Type 0
SentAll before now = (sent : List (List Bool)) × AskedFor (all_output sent) before now

-- these messages were sent
abbrev pub SentSome : Alone → Alone → Type 0
SentSome before now = (sent : List (List Bool)) × AskedFor (map notes.Out sent) before now

abbrev pub SendsFrom : Alone → Result Unit PlayFault → Alone → Type 0
SendsFrom before (Ok done) now = SentAll before now
SendsFrom before (Err OutOfMemory) now = SentSome before now
SendsFrom before (Err WriteFailed) now = SentSome before now ⊎ SentAll before now
SendsFrom before (Err (Feed fault)) now = ⊥
SendsFrom before (Err ReadFailed) now = ⊥
SendsFrom before (Err BadHosts) now = ⊥
SendsFrom before (Err (BadLine line)) now = ⊥
SendsFrom before (Err (LineTooLong line)) now = ⊥

-- ---- notes

-- whether a note is of a sent message
abbrev pub is_output_note : HostNote → Bool
is_output_note (notes.Out message) = true
is_output_note (notes.Refused call fault) = false
is_output_note (notes.Done call) = false
is_output_note (notes.Took peer pair bytes text) = false
is_output_note (notes.State peer pair r) = false
is_output_note (notes.Phase peer flags) = false
is_output_note (notes.Echoed peer byte) = false
is_output_note (notes.Errors peer errors) = false
is_output_note (notes.Counts peer counts) = false
is_output_note (notes.Waiting peer place command) = false
is_output_note (notes.Kept peer link message) = false
is_output_note (notes.Ignored ignored) = false
is_output_note notes.Nothing = false
is_output_note (notes.In message received) = false
is_output_note (notes.Answered peer link answer received) = false
