-- Two to eight hosts, each with the others as its peers, and the subnet between them; and the state that
-- notes lead to. Any two of them with the subnet are a world of two (`Hosts`), one at each side.
use Rattle.std.specs.Prelude.{ℕ, ◌==◌, Bool, not, ◌&&◌, nat_le, List, [], ◌∷◌, length, map, Option, None, Some}
use Rattle.std.specs.List.{filter}
use Rattle.ncp_subnet.specs.declared.transit.Transit.TheVariants.{Delivered, Lost, Dead, Free}
use Rattle.ncp_subnet.specs.Ways.{OnLink}
use Rattle.ncp_subnet.specs.Subnet.{Subnet, with_transit, new_subnet}
use Rattle.ncp_host.specs.Host.{Host, is_one_of, are_distinct, new_host}
use Rattle.ncp_transcript.specs.declared.note.HostNote.{HostNote}
use Rattle.ncp_transcript.specs.After as transcripts
use Rattle.ncp_transcript_two.specs.Between.{Hosts, subnet_after_out}
use Rattle.ncp_transcript_many.specs.declared.limits.TheConstants.{MAX_HOSTS}
use Rattle.ncp_transcript_many.specs.declared.many_note.ManyNote.{ManyNote}
use Rattle.ncp_transcript_many.specs.declared.many_note.ManyNote.TheVariants as many
use Rattle.ncp_transcript_many.specs.Numbered.{thing_in, at_thing}

pub record Network : Type 0 where
  pub hosts : List (ℕ × Host)  -- by their numbers, in the order in which they were given
  pub subnet : Subnet

abbrev pub numbers_in : Network → List ℕ
numbers_in m = map (λ x. x.0) m.hosts

abbrev pub is_there : ℕ → Network → Bool
is_there number m = is_one_of number (numbers_in m)

-- two to eight distinct numbers (this profile's limit)
abbrev pub are_hosts : List ℕ → Bool
are_hosts ns = nat_le 2 (length ns) && nat_le (length ns) MAX_HOSTS && are_distinct ns

-- the other numbers, in their order
abbrev pub others : ℕ → List ℕ → List ℕ
others number ns = filter (λ n. not (n == number)) ns

-- new hosts with these numbers, and nothing in transit
abbrev pub new_network : List ℕ → Network
new_network ns = record { hosts = map (λ n. (n, new_host n (others n ns))) ns; subnet = new_subnet ns }

-- the host with a number; an absent one is a new host without peers

abbrev pub host_or_none : ℕ → Option Host → Host
host_or_none number None = new_host number []
host_or_none number (Some h) = h

abbrev pub host_at : ℕ → Network → Host
host_at number m = host_or_none number (thing_in m.hosts number)

-- two of them as a world of two, with the first at side A
abbrev pub between : ℕ → ℕ → Network → Hosts
between a b m = record { number_a = a; number_b = b; a = host_at a m; b = host_at b m; subnet = m.subnet }

-- a world of two as a network of two hosts
abbrev pub network_of : Hosts → Network
network_of w = record { hosts = (w.number_a, w.a) ∷ (w.number_b, w.b) ∷ []; subnet = w.subnet }

-- the network after a note of one host
abbrev pub host_notes : ℕ → HostNote → Network → Network
host_notes number note m = record m { hosts = at_thing number (transcripts.after_note note) m.hosts }

-- the network with this transit state on a link
abbrev pub put_transit : ℕ → ℕ → ℕ → OnLink → Network → Network
put_transit from to link transit m = record m { subnet = with_transit m.subnet from to link transit }

-- the network after a note
abbrev pub after_many : ManyNote → Network → Network
after_many (many.Called host note) m = host_notes host note m
after_many (many.Out host note) m = record (host_notes host note m) { subnet = subnet_after_out host note m.subnet }
after_many (many.Came from to link note) m = host_notes to note (put_transit from to link Delivered m)
after_many (many.Lost from to link) m = put_transit from to link Lost m
after_many (many.FoundDead from to link) m = put_transit from to link Dead m
after_many (many.Answered from to link note) m = host_notes from note (put_transit from to link Free m)
after_many (many.Nothing event) m = m

-- the network after a list of notes, in order
abbrev pub after_many_notes : List ManyNote → Network → Network
after_many_notes [] m = m
after_many_notes (note ∷ rest) m = after_many_notes rest (after_many note m)
