-- Two hosts, each with the other as its peer, and the subnet between them, as the code represents them;
-- and the state that notes lead to. A side is a name for the number of a host.
use Rattle.std.specs.Prelude.{ℕ, Bool, ◌==◌, ◌&&◌, nat_le, if◌then◌else◌, List, [], ◌∷◌, length}
use Rattle.ncp_leader.specs.declared.leader.TheConstants.{LEADER_BITS}
use Rattle.ncp_leader.specs.Leader.{leader_at}
use Rattle.ncp_leader.specs.declared.kinds.TheConstants.{REGULAR}
use Rattle.ncp_subnet.specs.declared.transit.Transit.TheVariants.{Accepted, Delivered, Lost, Dead, Free}
use Rattle.ncp_subnet.specs.Transit.{is_free}
use Rattle.ncp_subnet.specs.Messages.{host_in, link_in}
use Rattle.ncp_subnet.specs.Ways.{OnLink}
use Rattle.ncp_subnet.specs.Subnet.{Subnet, has_way, transit_at, with_transit, new_subnet}
use Rattle.ncp_host.specs.Host.{Host, new_host}
use Rattle.ncp_transcript.specs.After as transcripts
use Rattle.ncp_transcript.specs.declared.note.HostNote.{HostNote}
use Rattle.ncp_transcript.specs.declared.note.HostNote.TheVariants as host_notes
use Rattle.ncp_transcript_two.specs.declared.side.Side.{Side}
use Rattle.ncp_transcript_two.specs.declared.side.Side.TheVariants.{A, B}
use Rattle.ncp_transcript_two.specs.declared.note.Note.{Note}
use Rattle.ncp_transcript_two.specs.declared.note.Note.TheVariants as notes

-- two hosts with their numbers, and the subnet between them
pub record Hosts : Type 0 where
  pub number_a : ℕ
  pub number_b : ℕ
  pub a : Host
  pub b : Host
  pub subnet : Subnet

-- new hosts with two numbers, and nothing in transit
abbrev pub new_hosts : ℕ → ℕ → Hosts
new_hosts a b = record { number_a = a; number_b = b; a = new_host a (b ∷ []); b = new_host b (a ∷ []); subnet = new_subnet (a ∷ b ∷ []) }

-- the other side
abbrev pub other : Side → Side
other A = B
other B = A

-- the host number that a side names
abbrev pub side_number : Side → Hosts → ℕ
side_number A w = w.number_a
side_number B w = w.number_b

abbrev pub host_of : Side → Hosts → Host
host_of A w = w.a
host_of B w = w.b

abbrev pub with_host : Side → Host → Hosts → Hosts
with_host A h w = record w { a = h }
with_host B h w = record w { b = h }

-- the transit state of a link of a side
abbrev pub transit_of : Side → ℕ → Hosts → OnLink
transit_of side link w = transit_at w.subnet (side_number side w) (side_number (other side) w) link

abbrev pub with_transit_of : Side → ℕ → OnLink → Hosts → Hosts
with_transit_of side link transit w = record w { subnet = with_transit w.subnet (side_number side w) (side_number (other side) w) link transit }

-- The subnet accepts a message of a host if it is regular, the subnet carries messages from that host to
-- its destination, and nothing is in transit on its link. Otherwise the subnet is unchanged.

abbrev pub is_regular : List Bool → Bool
is_regular message = nat_le LEADER_BITS (length message) && (leader_at message).kind == REGULAR

abbrev pub is_taken : Subnet → ℕ → List Bool → Bool
is_taken subnet from message =
    is_regular message && has_way subnet from (host_in message) && is_free (transit_at subnet from (host_in message) (link_in message))

unfoldable pub accepted_from : ℕ → List Bool → Subnet → Subnet
accepted_from from message subnet =
    if is_taken subnet from message then with_transit subnet from (host_in message) (link_in message) (Accepted message) else subnet

-- the subnet after the note of a host's output
abbrev pub subnet_after_out : ℕ → HostNote → Subnet → Subnet
subnet_after_out from (host_notes.Out message) subnet = accepted_from from message subnet
subnet_after_out from other subnet = subnet

-- the hosts after a note of the host of a side
abbrev pub host_notes_it : Side → HostNote → Hosts → Hosts
host_notes_it side note w = with_host side (transcripts.after_note note (host_of side w)) w

abbrev pub sent_out : Side → HostNote → Hosts → Hosts
sent_out side note w = record (host_notes_it side note w) { subnet = subnet_after_out (side_number side w) note w.subnet }

-- the hosts after a note of the world
abbrev pub hosts_after_note : Note → Hosts → Hosts
hosts_after_note (notes.Called side note) w = host_notes_it side note w
hosts_after_note (notes.Out side note) w = sent_out side note w
hosts_after_note (notes.Came side link note) w = host_notes_it (other side) note (with_transit_of side link Delivered w)
hosts_after_note (notes.Lost side link) w = with_transit_of side link Lost w
hosts_after_note (notes.FoundDead side link) w = with_transit_of side link Dead w
hosts_after_note (notes.Answered side link note) w = host_notes_it side note (with_transit_of side link Free w)
hosts_after_note (notes.Nothing side link wanted) w = w

-- the hosts after a list of notes, in order
abbrev pub hosts_after_notes : List Note → Hosts → Hosts
hosts_after_notes [] w = w
hosts_after_notes (note ∷ rest) w = hosts_after_notes rest (hosts_after_note note w)
