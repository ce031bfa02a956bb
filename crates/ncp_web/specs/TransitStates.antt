-- The state of the last message from one host to another on a link. The subnet has it, and the notes
-- report its changes. It is proved for every transcript that the state by the notes is the one in the
-- subnet.
use Rattle.std.specs.Prelude.{ℕ, ◌==◌, Bool, true, false, ◌&&◌, if◌then◌else◌, List, [], ◌∷◌, Option, None, Some, unwrap_or, Result, Ok, Err}
use Rattle.ncp_leader.specs.declared.leader.Leader.{Leader}
use Rattle.ncp_leader.specs.declared.leader.Short.{Short}
use Rattle.ncp_leader.specs.declared.kinds.TheConstants.{REGULAR}
use Rattle.ncp_leader.specs.Leader.{leader_in}
use Rattle.ncp_subnet.specs.declared.transit.Transit.TheVariants as transits
use Rattle.ncp_subnet.specs.Ways.{OnLink}
use Rattle.ncp_subnet.specs.Subnet.{transit_at}
use Rattle.ncp_transcript.specs.declared.note.HostNote.{HostNote}
use Rattle.ncp_transcript.specs.declared.note.HostNote.TheVariants as host_notes
use Rattle.ncp_transcript_two.specs.declared.side.Side.{Side}
use Rattle.ncp_transcript_two.specs.declared.side.Side.TheVariants.{A, B}
use Rattle.ncp_transcript_two.specs.declared.note.Note.{Note}
use Rattle.ncp_transcript_two.specs.declared.note.Note.TheVariants as notes
use Rattle.ncp_transcript_two.specs.Between.{Hosts, transit_of}
use Rattle.ncp_transcript_many.specs.Network.{Network}
use Rattle.ncp_transcript_many.specs.ManyHappening.{are_two}
use Rattle.ncp_transcript_many.specs.declared.many_note.ManyNote.{ManyNote}
use Rattle.ncp_transcript_many.specs.declared.many_note.ManyNote.TheVariants as many_notes
use Rattle.ncp_web.specs.declared.transit.TransitState.{TransitState}
use Rattle.ncp_web.specs.declared.transit.TransitState.TheVariants.{Free, Underway, Delivered, Lost, Dead}

-- the state of a message in the subnet
abbrev pub transit_state_of : OnLink → TransitState
transit_state_of transits.Free = Free
transit_state_of (transits.Accepted message) = Underway
transit_state_of transits.Delivered = Delivered
transit_state_of transits.Lost = Lost
transit_state_of transits.Dead = Dead

-- its number, as returned to a page
abbrev pub number_of_transit_state : TransitState → ℕ
number_of_transit_state Free = 0
number_of_transit_state Underway = 1
number_of_transit_state Delivered = 2
number_of_transit_state Lost = 3
number_of_transit_state Dead = 4

-- between two hosts by their sides, and between two of many: if they are not two hosts, nothing is
-- underway
abbrev pub transit_state_between : Option Side → Option Side → ℕ → Hosts → TransitState
transit_state_between (Some A) (Some B) link w = transit_state_of (transit_of A link w)
transit_state_between (Some B) (Some A) link w = transit_state_of (transit_of B link w)
transit_state_between sender peer link w = Free

abbrev pub transit_state_among : ℕ → ℕ → ℕ → Network → TransitState
transit_state_among sender peer link m = if are_two sender peer m then transit_state_of (transit_at m.subnet sender peer link) else Free

-- ---- by the notes

-- the leader of a sent message: the subnet takes only regular messages
abbrev pub regular_leader : Result Leader Short → Option Leader
regular_leader (Err short) = None
regular_leader (Ok leader) = if leader.kind == REGULAR then Some leader else None

abbrev pub leader_out : HostNote → Option Leader
leader_out (host_notes.Out message) = regular_leader (leader_in message)
leader_out note = None

abbrev pub is_leader_on : ℕ → Option Leader → Bool
is_leader_on link None = false
is_leader_on link (Some leader) = leader.link == link

abbrev pub is_to : ℕ → ℕ → Option Leader → Bool
is_to host link None = false
is_to host link (Some leader) = leader.host == host && leader.link == link

abbrev pub is_same_side : Side → Side → Bool
is_same_side A A = true
is_same_side A B = false
is_same_side B A = false
is_same_side B B = true

-- this state, if a note reports it for this link
abbrev pub transit_state_if : Bool → TransitState → Option TransitState
transit_state_if so transit_state = if so then Some transit_state else None

-- the state that a note reports for the last message of a side on a link
abbrev pub transit_state_printed : Side → ℕ → Note → Option TransitState
transit_state_printed sender link (notes.Called side note) = None
transit_state_printed sender link (notes.Out side note) = transit_state_if (is_same_side side sender && is_leader_on link (leader_out note)) Underway
transit_state_printed sender link (notes.Came side on note) = transit_state_if (is_same_side side sender && on == link) Delivered
transit_state_printed sender link (notes.Lost side on) = transit_state_if (is_same_side side sender && on == link) Lost
transit_state_printed sender link (notes.FoundDead side on) = transit_state_if (is_same_side side sender && on == link) Dead
transit_state_printed sender link (notes.Answered side on note) = transit_state_if (is_same_side side sender && on == link) Free
transit_state_printed sender link (notes.Nothing side on wanted) = None

-- the state that a note of many hosts reports for the last message from one to another
abbrev pub transit_state_printed_of_many : ℕ → ℕ → ℕ → ManyNote → Option TransitState
transit_state_printed_of_many sender peer link (many_notes.Called host note) = None
transit_state_printed_of_many sender peer link (many_notes.Out host note) = transit_state_if (host == sender && is_to peer link (leader_out note)) Underway
transit_state_printed_of_many sender peer link (many_notes.Came from to on note) = transit_state_if ((from == sender && to == peer) && on == link) Delivered
transit_state_printed_of_many sender peer link (many_notes.Lost from to on) = transit_state_if ((from == sender && to == peer) && on == link) Lost
transit_state_printed_of_many sender peer link (many_notes.FoundDead from to on) = transit_state_if ((from == sender && to == peer) && on == link) Dead
transit_state_printed_of_many sender peer link (many_notes.Answered from to on note) = transit_state_if ((from == sender && to == peer) && on == link) Free
transit_state_printed_of_many sender peer link (many_notes.Nothing event) = None

-- the last note that reports a state counts
abbrev pub last_printed : {N : Type 0} → (N → Option TransitState) → List N → TransitState → TransitState
last_printed says [] before = before
last_printed says (note ∷ more) before = last_printed says more (unwrap_or (says note) before)
