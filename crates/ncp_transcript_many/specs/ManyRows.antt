-- Names for the notes in the examples (Examples).
use Rattle.std.specs.Prelude.{ℕ, false}
use Rattle.ncp_phase.specs.declared.flags.Flags.{Flags}
use Rattle.ncp_peer.specs.declared.received.Received.TheVariants as received
use Rattle.ncp_transcript.specs.declared.call.Call.TheVariants as calls
use Rattle.ncp_transcript.specs.declared.note.HostNote.{HostNote}
use Rattle.ncp_transcript.specs.declared.note.HostNote.TheVariants as of_host
use Rattle.ncp_proof_runs.specs.RunRows.{down_alone}
use Rattle.ncp_transcript_two.specs.declared.side.Side.{Side}
use Rattle.ncp_transcript_two.specs.declared.side.Side.TheVariants.{A}
use Rattle.ncp_transcript_two.specs.declared.note.Note.{Note}
use Rattle.ncp_transcript_two.specs.declared.note.Note.TheVariants as notes
use Rattle.ncp_transcript_many.specs.Examples.{rst_with}

-- an RST from host 1 arrives; then, a host's flags for host 1: it is down, or no flag is set
abbrev pub rst_from_1 : HostNote
rst_from_1 = of_host.In (rst_with 1) (received.Control 1)

abbrev pub down_with_1 : HostNote
down_with_1 = of_host.Phase 1 down_alone

abbrev pub none_set : Flags
none_set = record { down = false; want = false; owe = false; wait = false }

abbrev pub up_with_1 : HostNote
up_with_1 = of_host.Phase 1 none_set

-- at a side, a reset of a peer is done; then its RST is sent
abbrev pub reset_by : Side → ℕ → Note
reset_by side peer = notes.Called side (of_host.Done (calls.Reset peer))

abbrev pub rst_goes : Side → ℕ → Note
rst_goes side peer = notes.Out side (of_host.Out (rst_with peer))

-- the RST of host 1 arrives
abbrev pub rst_comes : Note
rst_comes = notes.Came A 0 rst_from_1
