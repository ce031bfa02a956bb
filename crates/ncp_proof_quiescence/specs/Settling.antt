-- Spontaneous events of two hosts, without a user's request or a loss: messages are sent, delivered and
-- answered, and held messages are woken.
use Rattle.std.specs.Prelude.{◌≡◌, ◌≤◌, ◌+◌, ℕ, Bool, true, false, List, [], ◌∷◌, ◌++◌, length}
use Rattle.ncp_slot.specs.Slots.{slot_at}
use Rattle.ncp_proof_machine.specs.Hosts.{TwoNodes}
use Rattle.ncp_peer.specs.PeerState.{PeerState}
use Rattle.ncp_transcript.specs.declared.call.Call.{Call}
use Rattle.ncp_transcript.specs.declared.note.HostNote.{HostNote}
use Rattle.ncp_transcript_two.specs.Subnet.{TransitByLink}
use Rattle.ncp_transcript_two.specs.Tie.{Refines}
use Rattle.ncp_transcript_two.specs.declared.side.Side.{Side}
use Rattle.ncp_transcript_two.specs.declared.event.Event.{Event}
use Rattle.ncp_transcript_two.specs.declared.note.Note.{Note}
use Rattle.ncp_transcript_two.specs.Between.{Hosts, other, side_number, host_of, transit_of, hosts_after_note, hosts_after_notes}
use Rattle.ncp_transcript_two.specs.Happening.{Noted}
use Rattle.ncp_transcript_two.specs.Transcript.{IsSaid, began, Noted_world}
use Rattle.ncp_transcript_two.specs.Seen.{had_for, seen}
use Rattle.ncp_proof_progress.specs.HostsWork.{work}
use Rattle.ncp_proof_quiescence.specs.NotesWork.{notes_move, notes_allow}
use Rattle.ncp_proof_quiescence.specs.Settled.{is_held, IsStill, IsSettled}

-- the state of the host of a side for the other; then: its messages in transit
abbrev pub had_at : Side → Hosts → PeerState
had_at side w = had_for (side_number (other side) w) (host_of side w)

abbrev pub flow_of : Side → Hosts → TransitByLink
flow_of side w on = transit_of side on w

-- no message of a side is ready, in transit or held
abbrev pub IsStillAt : Side → Hosts → Type 0
IsStillAt side w = IsStill (side_number (other side) w) (had_at side w) (flow_of side w)

-- The note of a spontaneous event: a message is sent, delivered, or answered; or a host wakes held
-- messages, of which there is at least one.
abbrev pub ByItself : Note → Hosts → Type 0
ByItself (Note.Out side (HostNote.Out message)) w = Unit {0}
ByItself (Note.Came side link note) w = Unit {0}
ByItself (Note.Answered side link note) w = Unit {0}
ByItself (Note.Called side (HostNote.Done (Call.Wake peer))) w = (on : ℕ) × (is_held (slot_at (had_at side w).slots on) ≡ true)
ByItself note w = ⊥

-- a list of notes of spontaneous events, each as the rules define it
abbrev pub AllByThemselves : List Note → Hosts → Type 0
AllByThemselves [] w = Unit {0}
AllByThemselves (note ∷ rest) w = IsSaid note w × ByItself note w × AllByThemselves rest (hosts_after_note note w)

-- a world performed one such event
abbrev pub GoesOnce : Noted_world → Noted_world → Type 0
GoesOnce before now =
    (note : Note) × IsSaid note before.hosts × ByItself note before.hosts × (now.notes ≡ before.notes ++ note ∷ []) × (now.hosts ≡ hosts_after_note note before.hosts)

-- it performed one; or only a call can cause an event, and it is unchanged
abbrev pub GoesOrQuiescent : Bool → Noted_world → Noted_world → Type 0
GoesOrQuiescent true before now = GoesOnce before now
GoesOrQuiescent false before now = (now ≡ before) × IsSettled (seen before.hosts)

-- the same for the messages of the host of one side
abbrev pub GoesOrQuiescentAt : Side → Bool → Noted_world → Noted_world → Type 0
GoesOrQuiescentAt side true before now = GoesOnce before now
GoesOrQuiescentAt side false before now = (now ≡ before) × IsStillAt side before.hosts

-- it performed such events only
abbrev pub GoesOn : Noted_world → Noted_world → Type 0
GoesOn before now =
    (made : List Note) × AllByThemselves made before.hosts × (now.notes ≡ before.notes ++ made) × (now.hosts ≡ hosts_after_notes made before.hosts)

-- the number of them is at most the work that was left; what past calls, losses and dead destinations
-- allow bounds that work
abbrev pub IsWithinWork : Noted_world → Noted_world → Type 0
IsWithinWork before now =
    (x : TwoNodes) × Refines x (seen before.hosts) × (notes_move before.notes + work x ≤ notes_allow before.notes (began before.hosts))
    × (length now.notes ≤ length before.notes + work x)

-- A note that reports nothing: no link was ready, or the subnet had no message to which the event
-- applies.
abbrev pub says_nothing : Note → Bool
says_nothing (Note.Out side HostNote.Nothing) = true
says_nothing (Note.Nothing side link wanted) = true
says_nothing note = false

-- an event was tried: it happened and its note reports it, or its note would report nothing and the world
-- is unchanged
abbrev pub IsTried : Event → Bool → Noted_world → Noted_world → Type 0
IsTried event true before now =
    (note : Note) × Noted event note before.hosts × (says_nothing note ≡ false) × (now.notes ≡ before.notes ++ note ∷ []) × (now.hosts ≡ hosts_after_note note before.hosts)
IsTried event false before now = (note : Note) × Noted event note before.hosts × (says_nothing note ≡ true) × (now ≡ before)
