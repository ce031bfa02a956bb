-- The records at the interfaces of two to eight hosts with the subnet between them, in one file, as `ncp
-- record` writes it; and the findings of an audit of it.
use Rattle.std.specs.Prelude.{◌≡◌, ◌≢◌, ◌≤◌, ◌<◌, ℕ, Bool, false, List, [], ◌∷◌, ◌++◌, length, map, None}
use Rattle.ncp_bits.specs.declared.bits.TheConstants.{MAX_BITS}
use Rattle.ncp_leader.specs.declared.kinds.TheConstants.{RFNM, DESTINATION_DEAD, INCOMPLETE}
use Rattle.ncp_subnet.specs.Messages.{answer_bits}
use Rattle.ncp_wire.specs.declared.answer.Answer.{Answer}
use Rattle.ncp_transcript.specs.declared.note.HostNote.{HostNote}
use Rattle.ncp_transcript_two.specs.declared.event.Event.{Event}
use Rattle.ncp_transcript_two.specs.Between.{new_hosts}
use Rattle.ncp_transcript_two.specs.Transcript.{Noted_world, new_world, AreSteps}
use Rattle.ncp_transcript_many.specs.declared.many_note.ManyNote.{ManyNote}
use Rattle.ncp_transcript_many.specs.Network.{Network}
use Rattle.ncp_transcript_many.specs.ManyHappening.{by_numbers}
use Rattle.ncp_transcript_many.specs.ManyTranscript.{IsManyTranscript}
use Rattle.ncp_monitor.specs.declared.finding.Rule.{Rule}
use Rattle.ncp_interface.specs.declared.imp_direction.ImpDirection.{ImpDirection}
use Rattle.ncp_interface.specs.declared.imp_direction.ImpDirection.TheVariants.{FromImp}
use Rattle.ncp_monitor.specs.Judged.{new_monitor}
use Rattle.ncp_interface.specs.Notices.{notice_of}
use Rattle.ncp_proof_monitor.specs.Worlds.{goes_from, world_file}
use Rattle.ncp_proof_monitor_messages.specs.Files.{findings_in, found_by}

-- the type of an answer (BBN 1822, section 3)
abbrev pub answer_type : Answer → ℕ
answer_type Answer.Rfnm = RFNM
answer_type Answer.Incomplete = INCOMPLETE
answer_type Answer.Dead = DESTINATION_DEAD

-- the record of a note at the receiving host: bits, or an answer to its message to this peer on this link
abbrev pub came_at : ℕ → HostNote → List (ℕ × ImpDirection × List Bool)
came_at host (HostNote.In bits received) = (host, FromImp, bits) ∷ []
came_at host (HostNote.Answered peer link answer received) = (host, FromImp, answer_bits (answer_type answer) peer link) ∷ []
came_at host note = []

-- the records of a note: a sent message at its sender, a delivered one at its receiver, an answer at the
-- host that it answers
abbrev pub passing : ManyNote → List (ℕ × ImpDirection × List Bool)
passing (ManyNote.Called host note) = []
passing (ManyNote.Out host note) = goes_from host note
passing (ManyNote.Came from to link note) = came_at to note
passing (ManyNote.Lost from to link) = []
passing (ManyNote.FoundDead from to link) = []
passing (ManyNote.Answered from to link note) = came_at from note
passing (ManyNote.Nothing event) = []

-- the records of all notes, in order
abbrev pub many_file : List ManyNote → List (ℕ × ImpDirection × List Bool)
many_file [] = []
many_file (note ∷ rest) = passing note ++ many_file rest

-- each record fits a message file: its host number is one byte, and its message has at most 8,192 bits
abbrev pub AllFit : List (ℕ × ImpDirection × List Bool) → Type 0
AllFit [] = Unit {0}
AllFit (one ∷ more) = (one.0 < 256) × (length one.2 ≤ MAX_BITS) × AllFit more

-- none is an interface reset of an IMP, or the refusal of a message
abbrev pub NoneNoticed : List (ℕ × ImpDirection × List Bool) → Type 0
NoneNoticed [] = Unit {0}
NoneNoticed (one ∷ more) = (notice_of one.1 one.2 ≡ None) × NoneNoticed more

abbrev pub RecordsFit : Type 0
RecordsFit = (notes : List ManyNote) (now : Network) → IsManyTranscript notes now → AllFit (many_file notes)

-- Two hosts form a world of two: the file of their notes, with their numbers instead of their sides, has
-- the records of its events at both interfaces.
abbrev pub FileOfTwo : Type 0
FileOfTwo =
    (a b : ℕ) (given : List Event) (now : Noted_world)
    → a ≢ b → a < 256 → b < 256 → AreSteps given (new_world a b) now
    → many_file (map (by_numbers a b) now.notes) ≡ world_file given now.notes (new_hosts a b)

-- For two to eight hosts with the subnet between them, and for any calls and any events of the subnet in
-- any order, no finding in the file of all interfaces is by one of these rules: neither against a host
-- nor against the subnet.
abbrev pub NothingFoundAmongMany : (Rule → Bool) → Type 0
NothingFoundAmongMany judged = (notes : List ManyNote) (now : Network) → IsManyTranscript notes now → found_by judged (findings_in (new_monitor false) (many_file notes)) ≡ []
