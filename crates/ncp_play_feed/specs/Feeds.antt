-- A feed (this profile): a message file from an IMP. The host receives each of its messages up to the
-- file's first fault; without a fault it is then asked for output until it has none.
use Rattle.std.specs.Prelude.{◌≡◌, ◌⊎◌, ℕ, Bool, List, [], ◌∷◌, ◌++◌, drop, length, map, replicate, Option, Some, None, Result, Ok, Err}
use Rattle.ncp_transcript.specs.declared.input.Input.TheVariants as inputs
use Rattle.ncp_transcript.specs.declared.note.HostNote.{HostNote}
use Rattle.ncp_transcript.specs.declared.note.HostNote.TheVariants as notes
use Rattle.ncp_transcript.specs.Alone.{Alone, AreHostSteps}
use Rattle.ncp_play_files.specs.declared.file.Direction.{Direction}
use Rattle.ncp_play_files.specs.declared.file.Direction.TheVariants.{ToImp, FromImp}
use Rattle.ncp_play_files.specs.declared.file.FileFault.{FileFault}
use Rattle.ncp_play_files.specs.declared.file.FileFault.TheVariants.{BadHeader}
use Rattle.ncp_play_files.specs.File.{direction_of, HoldsMessages, IsCut}
use Rattle.ncp_play_files.specs.Results.{MatchFault}
use Rattle.ncp_play_notes.specs.declared.fault.PlayFault.{PlayFault}
use Rattle.ncp_play_notes.specs.declared.fault.PlayFault.TheVariants.{BadLine, LineTooLong, BadHosts, Feed, ReadFailed, WriteFailed, OutOfMemory}

-- ---- the file

-- the messages after a header: only a file from an IMP is fed
abbrev pub HoldsAfter : Option Direction → List ℕ → List (List Bool) → Option FileFault → Type 0
HoldsAfter (Some FromImp) bytes messages fault = HoldsMessages bytes messages fault
HoldsAfter (Some ToImp) bytes messages fault = (messages ≡ []) × (fault ≡ Some BadHeader)
HoldsAfter None bytes messages fault = (messages ≡ []) × (fault ≡ Some BadHeader)

-- the messages of a feed before its first fault, and that fault, if there is one
abbrev pub FeedHolds : List ℕ → List (List Bool) → Option FileFault → Type 0
FeedHolds bytes messages fault = HoldsAfter (direction_of bytes) (drop 4 bytes) messages fault

-- ---- the host

-- these messages were received
abbrev pub Came : List (List Bool) → Alone → Alone → Type 0
Came messages before now = AreHostSteps (map inputs.In messages) before now

-- these messages were received, and then the host was asked for output, once for each of these notes,
-- which are the last
abbrev pub CameAndAsked : List (List Bool) → List HostNote → Alone → Alone → Type 0
CameAndAsked messages asked before now =
    AreHostSteps (map inputs.In messages ++ replicate (length asked) inputs.Out) before now × ((front : List HostNote) × (now.notes ≡ front ++ asked))

-- the notes of these sent messages, and then that there was nothing to send
abbrev pub all_output : List (List Bool) → List HostNote
all_output sent = map notes.Out sent ++ notes.Nothing ∷ []

-- each message of the feed was received, and the host was asked for output until it had none
abbrev pub FeedsAll : List ℕ → Alone → Alone → Type 0
FeedsAll bytes before now = (messages : List (List Bool)) × (sent : List (List Bool)) × FeedHolds bytes messages None × CameAndAsked messages (all_output sent) before now

-- each message before the fault was received
abbrev pub FeedsTo : List ℕ → FileFault → Alone → Alone → Type 0
FeedsTo bytes fault before now = (messages : List (List Bool)) × FeedHolds bytes messages (Some fault) × Came messages before now

-- a read failed: no byte is lost, the bytes read before it have no fault except that they may be
-- truncated, and each complete message in them was received
abbrev pub FeedsRead : List ℕ → Option (List ℕ) → Alone → Alone → Type 0
FeedsRead bytes left before now =
    (given : List ℕ) × (rest : List ℕ) × (messages : List (List Bool)) × (fault : Option FileFault)
    × (bytes ≡ given ++ rest) × (left ≡ Some rest) × IsCut given fault × FeedHolds given messages fault × Came messages before now

-- a prefix of the feed's messages was received
abbrev pub FeedsFirst : List ℕ → Alone → Alone → Type 0
FeedsFirst bytes before now =
    (messages : List (List Bool)) × (more : List (List Bool)) × (fault : Option FileFault) × FeedHolds bytes (messages ++ more) fault × Came messages before now

-- all messages of the feed were received, and then these messages were sent; more may be ready
abbrev pub FeedsOut : List ℕ → Alone → Alone → Type 0
FeedsOut bytes before now = (messages : List (List Bool)) × (sent : List (List Bool)) × FeedHolds bytes messages None × CameAndAsked messages (map notes.Out sent) before now

-- the effect on the host, by the result
abbrev pub FeedDoes : List ℕ → Alone → Result Unit PlayFault → Alone → Option (List ℕ) → Type 0
FeedDoes bytes before (Ok done) now left = FeedsAll bytes before now
FeedDoes bytes before (Err (Feed fault)) now left = MatchFault (λ f. FeedsTo bytes f before now) (FeedsRead bytes left before now) ⊥ fault
FeedDoes bytes before (Err OutOfMemory) now left = FeedsFirst bytes before now ⊎ FeedsOut bytes before now
FeedDoes bytes before (Err WriteFailed) now left = FeedsFirst bytes before now ⊎ (FeedsOut bytes before now ⊎ FeedsAll bytes before now)
FeedDoes bytes before (Err ReadFailed) now left = ⊥
FeedDoes bytes before (Err BadHosts) now left = ⊥
FeedDoes bytes before (Err (BadLine line)) now left = ⊥
FeedDoes bytes before (Err (LineTooLong line)) now left = ⊥
