-- What a reading is answered.
use Rattle.std.proofs.Common.{◌≡◌, ◌+◌, ℕ, length, Option, Some, ap, ◌∙◌}
use Rattle.ncp_host.specs.Host.{Host}
use Rattle.ncp_transcript.specs.declared.call.Call.{Call}
use Rattle.ncp_transcript.specs.declared.note.HostNote.{HostNote}
use Rattle.ncp_transcript_two.specs.declared.side.Side.{Side}
use Rattle.ncp_transcript_two.specs.declared.event.Event.{Event}
use Rattle.ncp_transcript_two.specs.declared.event.Event.TheVariants as events
use Rattle.ncp_transcript_two.specs.declared.note.Note.TheVariants as notes
use Rattle.ncp_transcript_two.specs.Between.{host_of}
use Rattle.ncp_transcript_many.specs.declared.many_event.ManyEvent.{ManyEvent}
use Rattle.ncp_transcript_many.specs.declared.many_event.ManyEvent.TheVariants as many_events
use Rattle.ncp_transcript_many.specs.declared.many_note.ManyNote.TheVariants as many_notes
use Rattle.ncp_transcript_many.specs.Numbered.{thing_in}
use Rattle.ncp_play_world.specs.WorldRules.{StagedWorld}
use Rattle.ncp_play_world.specs.ManyRules.{StagedMany}
use Rattle.ncp_play_world_lines.specs.WorldNotes.{world_note_lines}
use Rattle.ncp_play_world_lines.specs.ManyNotes.{many_note_lines}
use Rattle.ncp_web.specs.Sessions.{note_number}
use Rattle.ncp_web.specs.Readings.{reading_of, read_as, read_of_host, asked_of_two, asked_of_many}

pub reads_two : (s : StagedWorld) (event : Option Event) (side : Side) (call : Call) (note : HostNote) → event ≡ Some (events.Call side call) → reading_of call (host_of side s.hosts.hosts) ≡ Some note
    → asked_of_two s event ≡ Some (world_note_lines (note_number (length s.traces + 1)) (notes.Called side note))
reads_two s event side call note is read = ap (asked_of_two s) is ∙ ap (read_as world_note_lines (length s.traces) (notes.Called side)) read

pub reads_many : (s : StagedMany) (event : Option ManyEvent) (host : ℕ) (call : Call) (h : Host) (note : HostNote) → event ≡ Some (many_events.Call host call) → thing_in s.hosts.hosts.hosts host ≡ Some h → reading_of call h ≡ Some note
    → asked_of_many s event ≡ Some (many_note_lines (note_number (length s.traces + 1)) (many_notes.Called host note))
reads_many s event host call h note is found read =
    ap (asked_of_many s) is ∙ ap (λ (o : Option Host). read_as many_note_lines (length s.traces) (many_notes.Called host) (read_of_host (reading_of call) o)) found
    ∙ ap (read_as many_note_lines (length s.traces) (many_notes.Called host)) read
