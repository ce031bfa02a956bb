-- The output of a player of one host, and its effect for one input.
use Rattle.std.specs.Prelude.{◌≡◌, ℕ, List, Option, Result, Ok, Err}
use Rattle.ncp_transcript.specs.declared.input.Input.{Input}
use Rattle.ncp_transcript.specs.declared.note.HostNote.{HostNote}
use Rattle.ncp_transcript.specs.Alone.{Alone, IsHostStep}
use Rattle.ncp_play_stream.specs.Streams.{SaidSoFar}
use Rattle.ncp_play_notes.specs.declared.fault.PlayFault.{PlayFault}
use Rattle.ncp_play_notes.specs.declared.fault.PlayFault.TheVariants.{BadLine, LineTooLong, BadHosts, Feed, ReadFailed, WriteFailed, OutOfMemory}
use Rattle.ncp_play_notes.specs.declared.heading.LinePrefix.{LinePrefix}
use Rattle.ncp_play_notes.specs.NoteLines.{lines_from, line_prefix_after}

-- since the sink held `was`, exactly the lines of these notes were rendered; the next note has this
-- prefix
abbrev pub Tells : List ℕ → LinePrefix → List HostNote → LinePrefix → List ℕ → Option (List ℕ) → Type 0
Tells was first notes heading page written = (heading ≡ line_prefix_after first notes) × SaidSoFar was page written (lines_from first notes)

-- a prefix of these lines was written
abbrev pub PrintsPrefixOf : List ℕ → LinePrefix → List HostNote → Option (List ℕ) → Type 0
PrintsPrefixOf was first notes written = (lost : List ℕ) × SaidSoFar was lost written (lines_from first notes)

-- ---- one input

-- the effect of playing one input, by the result: the input was applied, also when a write failed; on
-- allocation failure nothing has happened
abbrev pub Does : Input → Alone → Result Unit PlayFault → Alone → Type 0
Does input before (Ok done) now = IsHostStep input before now
Does input before (Err OutOfMemory) now = now ≡ before
Does input before (Err WriteFailed) now = IsHostStep input before now
Does input before (Err (Feed fault)) now = ⊥
Does input before (Err ReadFailed) now = ⊥
Does input before (Err BadHosts) now = ⊥
Does input before (Err (BadLine line)) now = ⊥
Does input before (Err (LineTooLong line)) now = ⊥

-- ---- output

-- the lines of all notes were rendered; after a failed write a prefix of them is written
abbrev pub PrintsAs : {X : Type 0} → List ℕ → LinePrefix → List HostNote → Result X PlayFault → LinePrefix → List ℕ → Option (List ℕ) → Type 0
PrintsAs was first notes (Ok x) heading page written = Tells was first notes heading page written
PrintsAs was first notes (Err WriteFailed) heading page written = PrintsPrefixOf was first notes written
PrintsAs was first notes (Err OutOfMemory) heading page written = Tells was first notes heading page written
PrintsAs was first notes (Err (Feed fault)) heading page written = Tells was first notes heading page written
PrintsAs was first notes (Err ReadFailed) heading page written = Tells was first notes heading page written
PrintsAs was first notes (Err BadHosts) heading page written = Tells was first notes heading page written
PrintsAs was first notes (Err (BadLine line)) heading page written = Tells was first notes heading page written
PrintsAs was first notes (Err (LineTooLong line)) heading page written = Tells was first notes heading page written
