-- The subnet between hosts: a finite map from a sender, a destination and a link to the transit there
-- (BBN 1822, section 3). The set of hosts and the order of the refusals are this profile's.
use Rattle.std.specs.Prelude.{◌≡◌, ◌≢◌, ℕ, suc, ◌==◌, Bool, false, not, ◌&&◌, List, [], ◌∷◌, map, unwrap_or}
use Rattle.std.specs.List.{list_any}
use Rattle.std.specs.declared.cmp.Ordering.{Ordering}
use Rattle.std.specs.Ordering.{nat_cmp, ordering_then}
use Rattle.std.specs.FinMap.{FinMap, empty, get, insert}
use Rattle.ncp_subnet.specs.declared.fault.SubnetFault.{SubnetFault}
use Rattle.ncp_subnet.specs.declared.fault.SubnetFault.TheVariants.{NotRegular, NoHost, Occupied}
use Rattle.ncp_subnet.specs.declared.transit.Transit.TheVariants.{Free}
use Rattle.ncp_subnet.specs.Messages.{IsRegular, host_in, link_in}
use Rattle.ncp_subnet.specs.Ways.{OnLink, OneWay, free_ways}

-- the place of a message in transit
pub record TransitKey : Type 0 where
  pub from : ℕ
  pub to : ℕ
  pub link : ℕ

abbrev pub place : ℕ → ℕ → ℕ → TransitKey
place from to link = record { from = from; to = to; link = link }

-- by the sender, then by the destination, then by the link
abbrev pub place_cmp : TransitKey → TransitKey → Ordering
place_cmp a b = ordering_then (nat_cmp a.from b.from) (ordering_then (nat_cmp a.to b.to) (nat_cmp a.link b.link))

abbrev pub InTransit : Type 0
InTransit = FinMap place_cmp OnLink

-- the ways that carry messages, each from one host to another, and the transits
pub record Subnet : Type 0 where
  pub ways : List (ℕ × ℕ)
  pub in_transit : InTransit

-- the subnet carries messages from one host to another
abbrev pub has_way : Subnet → ℕ → ℕ → Bool
has_way subnet from to = list_any (λ way. way.0 == from && way.1 == to) subnet.ways

-- the host is one of these
abbrev pub is_one_of : ℕ → List ℕ → Bool
is_one_of host hosts = list_any (λ other. other == host) hosts

-- the two are of these hosts, and differ
abbrev pub are_two_of : List ℕ → ℕ → ℕ → Bool
are_two_of hosts from to = is_one_of from hosts && is_one_of to hosts && not (from == to)

-- the transit on a link: free if the map has none
unfoldable pub on : InTransit → ℕ → ℕ → ℕ → OnLink
on in_transit from to link = unwrap_or (get in_transit (place from to link)) Free

unfoldable pub put_in_transit : InTransit → ℕ → ℕ → ℕ → OnLink → InTransit
put_in_transit in_transit from to link transit = insert in_transit (place from to link) transit

abbrev pub transit_at : Subnet → ℕ → ℕ → ℕ → OnLink
transit_at subnet from to link = on subnet.in_transit from to link

-- the subnet with this transit there
abbrev pub with_transit : Subnet → ℕ → ℕ → ℕ → OnLink → Subnet
with_transit subnet from to link transit = record subnet { in_transit = put_in_transit subnet.in_transit from to link transit }

-- the transits elsewhere are unchanged
abbrev pub OthersStayInTransit : Subnet → Subnet → ℕ → ℕ → ℕ → Type 0
OthersStayInTransit old new from to link =
    (sender destination other : ℕ) → ¬ ((sender ≡ from) × (destination ≡ to) × (other ≡ link))
    → transit_at new sender destination other ≡ transit_at old sender destination other

-- Why a host's message is not accepted.
abbrev pub Refuses : Subnet → ℕ → List Bool → SubnetFault → Type 0
Refuses subnet from message NotRegular = ¬ IsRegular message
Refuses subnet from message NoHost = has_way subnet from (host_in message) ≡ false
Refuses subnet from message Occupied = transit_at subnet from (host_in message) (link_in message) ≢ Free

-- the order of the checks
abbrev pub refusals : List SubnetFault
refusals = NotRegular ∷ NoHost ∷ Occupied ∷ []

-- ways in a row, as a map
abbrev pub links_in : ℕ → ℕ → ℕ → List OnLink → InTransit → InTransit
links_in from to link [] others = others
links_in from to link (transit ∷ links) others = put_in_transit (links_in from to (suc link) links others) from to link transit

abbrev pub ways_in : List OneWay → InTransit
ways_in [] = empty
ways_in (way ∷ ways) = links_in way.from way.to 0 way.links (ways_in ways)

abbrev pub hosts_of : OneWay → ℕ × ℕ
hosts_of way = (way.from, way.to)

unfoldable pub subnet_in : List OneWay → Subnet
subnet_in ways = record { ways = map hosts_of ways; in_transit = ways_in ways }

-- a new subnet: nothing is in transit
unfoldable pub new_subnet : List ℕ → Subnet
new_subnet hosts = subnet_in (free_ways hosts)
