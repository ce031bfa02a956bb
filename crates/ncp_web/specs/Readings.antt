-- Readings of the hosts of a session, which are unchanged.
use Rattle.std.specs.Prelude.{◌≡◌, ◌⊎◌, ℕ, ◌+◌, nat_lt, slice_get, if◌then◌else◌, Bool, List, [], ◌++◌, length, drop, Option, None, Some, Result, Ok, Err}
use Rattle.ncp_host.specs.Host.{Host}
use Rattle.ncp_transcript.specs.declared.call.Call.{Call}
use Rattle.ncp_transcript.specs.declared.call.Call.TheVariants as calls
use Rattle.ncp_transcript.specs.declared.note.HostNote.{HostNote}
use Rattle.ncp_transcript.specs.declared.note.HostNote.TheVariants as host_notes
use Rattle.ncp_transcript.specs.Answers.{answer_to}
use Rattle.ncp_transcript_two.specs.declared.event.Event.{Event}
use Rattle.ncp_transcript_two.specs.declared.event.Event.TheVariants as events
use Rattle.ncp_transcript_two.specs.declared.note.Note.{Note}
use Rattle.ncp_transcript_two.specs.declared.note.Note.TheVariants as notes
use Rattle.ncp_transcript_two.specs.declared.side.Side.{Side}
use Rattle.ncp_transcript_two.specs.Between.{host_of}
use Rattle.ncp_transcript_two.specs.Ledgers.{ledger_of}
use Rattle.ncp_world.specs.ManyLedgers.{many_ledger}
use Rattle.ncp_model.specs.declared.pair.Pair.{Pair}
use Rattle.ncp_wire.specs.declared.command.Command.{Command}
use Rattle.ncp_host.specs.Host.{state_of}
use Rattle.ncp_peer.specs.PeerCalls.{waiting_at, kept_for}
use Rattle.ncp_host.specs.Calls.{sockets}
use Rattle.ncp_transcript_many.specs.Numbered.{thing_in}
use Rattle.ncp_transcript_many.specs.declared.many_event.ManyEvent.{ManyEvent}
use Rattle.ncp_transcript_many.specs.declared.many_event.ManyEvent.TheVariants as many_events
use Rattle.ncp_transcript_many.specs.declared.many_note.ManyNote.{ManyNote}
use Rattle.ncp_transcript_many.specs.declared.many_note.ManyNote.TheVariants as many_notes
use Rattle.ncp_play_script.specs.Words.{words_of}
use Rattle.ncp_play_world_lines.specs.WorldLines.{world_line_of}
use Rattle.ncp_play_world_lines.specs.ManyLines.{many_line_of}
use Rattle.ncp_play_world_lines.specs.WorldNotes.{world_note_lines}
use Rattle.ncp_play_world_lines.specs.ManyNotes.{many_note_lines}
use Rattle.ncp_play_world.specs.Traces.{position_of_line}
use Rattle.ncp_play_world.specs.WorldRules.{StagedWorld}
use Rattle.ncp_play_world.specs.ManyRules.{StagedMany}
use Rattle.ncp_web.specs.declared.stage.SessionHosts.{SessionHosts}
use Rattle.ncp_web.specs.declared.stage.SessionHosts.TheVariants.{Two, Many}
use Rattle.ncp_web.specs.declared.stage.Refusal.{Refusal}
use Rattle.ncp_web.specs.declared.stage.Refusal.TheVariants.{NoLine, NoMemory, Full}
use Rattle.ncp_web.specs.declared.transit.TransitState.{TransitState}
use Rattle.ncp_web.specs.TransitStates.{transit_state_between, transit_state_among}
use Rattle.ncp_play_stream.specs.declared.source.Failed.{Failed}
use Rattle.ncp_play_files.specs.Lines.{item_line}
use Rattle.ncp_web.specs.declared.answer.TheConstants.{DONE, NO_MEMORY, NO_SESSION, NOTHING, FULL, LONGEST_MESSAGE}
use Rattle.ncp_web.specs.declared.handle.held.BoxedSession.{BoxedSession}
use Rattle.ncp_web.specs.Bytes.{IsFront}
use Rattle.ncp_web.specs.Sessions.{note_number, side_at, host_of_stage, code_of_refusal}
use Rattle.ncp_numbers.specs.Bytes.{bytes_of, bytes_for}
use Rattle.ncp_model.specs.declared.amounts.Amount.{Amount}
use Rattle.ncp_transcript_two.specs.declared.ledger.Ledger.{Ledger}
use Rattle.ncp_web.specs.declared.lent.Queued.{Queued}
use Rattle.ncp_web.specs.declared.lent.LinkBetween.{LinkBetween}
use Rattle.ncp_web.specs.declared.lent.Sender.{Sender}
use Rattle.ncp_web.specs.declared.readers.AmountRepr.{AmountRepr}
use Rattle.ncp_web.specs.declared.readers.LedgerRepr.{LedgerRepr}

-- the answer to a call that reads connections, flags, echo or counts of a host; none for another call
abbrev pub reading_of : Call → Host → Option HostNote
reading_of (calls.State peer pair) h = Some (answer_to (calls.State peer pair) h)
reading_of (calls.Phase peer) h = Some (answer_to (calls.Phase peer) h)
reading_of (calls.Echoed peer) h = Some (answer_to (calls.Echoed peer) h)
reading_of (calls.Counts peer) h = Some (answer_to (calls.Counts peer) h)
reading_of calls.Ignored h = Some (answer_to calls.Ignored h)
reading_of call h = None

-- the numbers of a ledger
abbrev pub quantity_of : Amount → AmountRepr
quantity_of it = record { messages = it.messages; bits = it.bits }

abbrev pub books_of : Ledger → LedgerRepr
books_of it = record { outstanding = quantity_of it.outstanding; counters = quantity_of it.counters; all = quantity_of it.all; text = quantity_of it.text; ret = quantity_of it.ret }

-- a message written to the front of a buffer
abbrev pub message_over : List Bool → List ℕ → List ℕ
message_over message out = bytes_of message ++ drop (bytes_for (length message)) out

-- The lines of a reading as the next event of a script. Any other line has none.

abbrev pub read_as : {N : Type 0} → (ℕ → N → List ℕ) → ℕ → (HostNote → N) → Option HostNote → Option (List ℕ)
read_as lines told called None = None
read_as lines told called (Some note) = Some (lines (note_number (told + 1)) (called note))

abbrev pub asked_of_two : StagedWorld → Option Event → Option (List ℕ)
asked_of_two s (Some (events.Call side call)) = read_as world_note_lines (length s.traces) (notes.Called side) (reading_of call (host_of side s.hosts.hosts))
asked_of_two s event = None

-- of an optional host
abbrev pub read_of_host : {A : Type 0} → (Host → Option A) → Option Host → Option A
read_of_host read None = None
read_of_host read (Some h) = read h

abbrev pub asked_of_many : StagedMany → Option ManyEvent → Option (List ℕ)
asked_of_many s (Some (many_events.Call host call)) = read_as many_note_lines (length s.traces) (many_notes.Called host) (read_of_host (reading_of call) (thing_in s.hosts.hosts.hosts host))
asked_of_many s event = None

abbrev pub asked_by_line_of : SessionHosts → List ℕ → Option (List ℕ)
asked_by_line_of (Two s) line = asked_of_two s.hosts (world_line_of s.first.hosts (words_of line))
asked_by_line_of (Many s) line = asked_of_many s.hosts (many_line_of s.first.hosts (words_of line))

-- the text written for a reading, by its result; an allocation may fail
abbrev pub Asks : Option (List ℕ) → Result Unit Refusal → List ℕ → Type 0
Asks asked (Ok done) text = asked ≡ Some text
Asks asked (Err NoLine) text = (asked ≡ None) × (text ≡ [])
Asks asked (Err NoMemory) text = text ≡ []
Asks asked (Err Full) text = (more : List ℕ) × (asked ≡ Some (text ++ more))

abbrev pub waiting_in : SessionHosts → Queued → Option Command
waiting_in stage it = read_of_host (λ h. waiting_at (state_of h it.peer) it.place) (host_of_stage it.host stage)

abbrev pub kept_in : SessionHosts → LinkBetween → Option (List Bool)
kept_in stage it = read_of_host (λ h. kept_for (state_of h it.peer) it.link) (host_of_stage it.host stage)

-- the sent or received message of a note

abbrev pub message_noted : HostNote → Option (List Bool)
message_noted (host_notes.Out message) = Some message
message_noted (host_notes.In message received) = Some message
message_noted note = None

abbrev pub message_of_two : Note → Option (List Bool)
message_of_two (notes.Out side note) = message_noted note
message_of_two (notes.Came side link note) = message_noted note
message_of_two note = None

abbrev pub message_of_many : ManyNote → Option (List Bool)
message_of_many (many_notes.Out host note) = message_noted note
message_of_many (many_notes.Came sender peer link note) = message_noted note
message_of_many note = None

-- of an optional note
abbrev pub of_note : {A N : Type 0} → (N → Option A) → Option N → Option A
of_note read None = None
of_note read (Some note) = read note

-- of the note at an optional index
abbrev pub of_index : {A N : Type 0} → (N → Option A) → List N → Option ℕ → Option A
of_index read noted None = None
of_index read noted (Some place) = of_note read (slice_get noted place)

-- of the event with this line number
abbrev pub message_of_line : SessionHosts → ℕ → Option (List Bool)
message_of_line (Two s) number = of_index message_of_two s.hosts.hosts.notes (position_of_line s.hosts.traces number)
message_of_line (Many s) number = of_index message_of_many s.hosts.hosts.notes (position_of_line s.hosts.traces number)

-- the ledger of a sender; of two hosts its peer is the other
abbrev pub ledger_at_side : Option Side → Pair → SessionHosts → Option Ledger
ledger_at_side None pair stage = None
ledger_at_side (Some side) pair (Two s) = ledger_of side pair s.hosts.hosts.hosts
ledger_at_side (Some side) pair (Many s) = None

abbrev pub ledger_of_stage : SessionHosts → Sender → Option Ledger
ledger_of_stage (Two s) it = ledger_at_side (side_at s.first.hosts it.host) (sockets it.local it.remote) (Two s)
ledger_of_stage (Many s) it = many_ledger it.host it.peer (sockets it.local it.remote) s.hosts.hosts.hosts

-- The state of the last message from a host to a peer on a link.

abbrev pub transit_state_in : SessionHosts → LinkBetween → TransitState
transit_state_in (Two s) it = transit_state_between (side_at s.first.hosts it.host) (side_at s.first.hosts it.peer) it.link s.hosts.hosts.hosts
transit_state_in (Many s) it = transit_state_among it.host it.peer it.link s.hosts.hosts.hosts

-- ---- of a handle

-- a refusal before any other check, with nothing written
abbrev pub IsRefused : ℕ → ℕ → List ℕ → List ℕ → ℕ → Type 0
IsRefused code result out out' written = (result ≡ code) × (out' ≡ out) × (written ≡ 0)

abbrev pub code_of_asking : Result Unit Refusal → ℕ
code_of_asking (Ok done) = DONE
code_of_asking (Err refusal) = code_of_refusal refusal

-- a reading is written to the front of a buffer, or as many bytes as the buffer has could not be
-- allocated
abbrev pub AsksHeld : List ℕ → ℕ → Option BoxedSession → List ℕ → List ℕ → ℕ → Type 0
AsksHeld line result None out out' written = IsRefused NO_SESSION result out out' written
AsksHeld line result (Some s) out out' written =
    (answer : Result Unit Refusal) × (text : List ℕ) × Asks (asked_by_line_of s.stage line) answer text × (result ≡ code_of_asking answer) × IsFront text out out' written

abbrev pub AsksSession : List ℕ → ℕ → Option BoxedSession → List ℕ → List ℕ → ℕ → Type 0
AsksSession line result session out out' written = IsRefused NO_MEMORY result out out' written ⊎ AsksHeld line result session out out' written

-- an optional part of a session: the code, and the output if the part exists

abbrev pub found_in : {A : Type 0} → (SessionHosts → Option A) → Option BoxedSession → Option A
found_in read None = None
found_in read (Some s) = read s.stage

abbrev pub code_if_any : {A : Type 0} → Option A → ℕ
code_if_any None = NOTHING
code_if_any (Some found) = DONE

abbrev pub code_found : {A : Type 0} → (SessionHosts → Option A) → Option BoxedSession → ℕ
code_found read None = NO_SESSION
code_found read (Some s) = code_if_any (read s.stage)

abbrev pub written_if_any : {A B : Type 0} → (A → B) → Option A → B → B
written_if_any form None before = before
written_if_any form (Some found) before = form found

-- a buffer without room for the longest message is refused before any other check, and nothing changes
abbrev pub with_room : {A : Type 0} → List ℕ → A → A → A
with_room out short answer = if nat_lt (length out) LONGEST_MESSAGE then short else answer

-- lines were written, or a prefix of them
abbrev pub IsWritten : List ℕ → Result Unit Failed → List ℕ → Type 0
IsWritten lines (Ok done) text = text ≡ lines
IsWritten lines (Err failed) text = (more : List ℕ) × (text ++ more ≡ lines)

abbrev pub code_of_saying : Result Unit Failed → ℕ
code_of_saying (Ok done) = DONE
code_of_saying (Err failed) = FULL

-- a queued command is written as its line to the front of a buffer
abbrev pub RendersWaiting : Option Command → ℕ → List ℕ → List ℕ → ℕ → Type 0
RendersWaiting None result out out' written = IsRefused NOTHING result out out' written
RendersWaiting (Some command) result out out' written =
    (answer : Result Unit Failed) × (text : List ℕ) × IsWritten (item_line (Ok command)) answer text × (result ≡ code_of_saying answer) × IsFront text out out' written

abbrev pub WaitsHeld : Queued → ℕ → Option BoxedSession → List ℕ → List ℕ → ℕ → Type 0
WaitsHeld queued result None out out' written = IsRefused NO_SESSION result out out' written
WaitsHeld queued result (Some s) out out' written = RendersWaiting (waiting_in s.stage queued) result out out' written

abbrev pub WaitsSession : Queued → ℕ → Option BoxedSession → List ℕ → List ℕ → ℕ → Type 0
WaitsSession queued result session out out' written = IsRefused NO_MEMORY result out out' written ⊎ WaitsHeld queued result session out out' written
