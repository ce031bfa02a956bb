-- The records of the notes of two hosts, and of two to eight: each message sent, at its sender; each
-- message received, at its receiver; and each answer, at the host that receives it.
use Rattle.std.specs.Prelude.{ℕ, Bool, List, [], Option, Some, None, option_to_list}
use Rattle.std.specs.List.{flat_map}
use Rattle.ncp_leader.specs.declared.kinds.TheConstants.{RFNM, DESTINATION_DEAD, INCOMPLETE}
use Rattle.ncp_subnet.specs.Messages.{answer_bits}
use Rattle.ncp_wire.specs.declared.answer.Answer.{Answer}
use Rattle.ncp_wire.specs.declared.answer.Answer.TheVariants as answers
use Rattle.ncp_play_files.specs.declared.file.Direction.{Direction}
use Rattle.ncp_play_files.specs.declared.file.Direction.TheVariants.{ToImp, FromImp}
use Rattle.ncp_play_files.specs.declared.version.Version.TheVariants.{Two}
use Rattle.ncp_play_files.specs.Versions.{Recorded, placed, bytes_of_record, file_bytes}
use Rattle.ncp_play_script.specs.declared.first_lines.TwoHosts.{TwoHosts}
use Rattle.ncp_transcript.specs.declared.note.HostNote.{HostNote}
use Rattle.ncp_transcript.specs.declared.note.HostNote.TheVariants as host_notes
use Rattle.ncp_transcript_two.specs.declared.side.Side.{Side}
use Rattle.ncp_transcript_two.specs.declared.side.Side.TheVariants.{A, B}
use Rattle.ncp_transcript_two.specs.declared.note.Note.{Note}
use Rattle.ncp_transcript_two.specs.declared.note.Note.TheVariants as notes
use Rattle.ncp_transcript_two.specs.Between.{other}
use Rattle.ncp_transcript_many.specs.declared.many_note.ManyNote.{ManyNote}
use Rattle.ncp_transcript_many.specs.declared.many_note.ManyNote.TheVariants as many

-- the number of a side's host
abbrev pub host_number_of : TwoHosts → Side → ℕ
host_number_of hosts A = hosts.a
host_number_of hosts B = hosts.b

-- the type of an answer (BBN 1822, section 3)
abbrev pub kind_of_answer : Answer → ℕ
kind_of_answer answers.Rfnm = RFNM
kind_of_answer answers.Incomplete = INCOMPLETE
kind_of_answer answers.Dead = DESTINATION_DEAD

-- the record of a message at the interface of a host
abbrev pub record_at : Direction → ℕ → List Bool → Recorded
record_at direction host message = record { capture_point = placed direction host; message = message }

-- the message sent by a host
abbrev pub recorded_from : ℕ → HostNote → Option Recorded
recorded_from host (host_notes.Out message) = Some (record_at ToImp host message)
recorded_from host other = None

-- the bits that a host received, or an answer to a message to this peer on this link
abbrev pub came_to : ℕ → HostNote → Option Recorded
came_to host (host_notes.In message received) = Some (record_at FromImp host message)
came_to host (host_notes.Answered peer link answer received) = Some (record_at FromImp host (answer_bits (kind_of_answer answer) peer link))
came_to host other = None

-- the record of a note, if it has one
abbrev pub recorded_of : TwoHosts → Note → Option Recorded
recorded_of hosts (notes.Out side note) = recorded_from (host_number_of hosts side) note
recorded_of hosts (notes.Came side link note) = came_to (host_number_of hosts (other side)) note
recorded_of hosts (notes.Answered side link note) = came_to (host_number_of hosts side) note
recorded_of hosts (notes.Called side note) = None
recorded_of hosts (notes.Lost side link) = None
recorded_of hosts (notes.FoundDead side link) = None
recorded_of hosts (notes.Nothing side link wanted) = None

-- the record of a note of two to eight hosts, if it has one
abbrev pub record_of_many : ManyNote → Option Recorded
record_of_many (many.Out host note) = recorded_from host note
record_of_many (many.Came from to link note) = came_to to note
record_of_many (many.Answered from to link note) = came_to from note
record_of_many (many.Called host note) = None
record_of_many (many.Lost from to link) = None
record_of_many (many.FoundDead from to link) = None
record_of_many (many.Nothing event) = None

-- the bytes of a record, or none
abbrev pub bytes_if : Option Recorded → List ℕ
bytes_if None = []
bytes_if (Some recorded) = bytes_of_record recorded

abbrev pub note_bytes : TwoHosts → Note → List ℕ
note_bytes hosts note = bytes_if (recorded_of hosts note)

abbrev pub many_note_bytes : ManyNote → List ℕ
many_note_bytes note = bytes_if (record_of_many note)

-- the records of notes, in order
abbrev pub records_of : TwoHosts → List Note → List Recorded
records_of hosts notes = flat_map (λ note. option_to_list (recorded_of hosts note)) notes

-- the file of these notes: one of version 2
abbrev pub file_of_notes : TwoHosts → List Note → List ℕ
file_of_notes hosts notes = file_bytes Two (records_of hosts notes)

-- the same for two to eight hosts
abbrev pub records_of_many : List ManyNote → List Recorded
records_of_many notes = flat_map (λ note. option_to_list (record_of_many note)) notes

abbrev pub file_of_many_notes : List ManyNote → List ℕ
file_of_many_notes notes = file_bytes Two (records_of_many notes)
