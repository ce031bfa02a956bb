-- The ways between the hosts of a subnet, as the code keeps them in a row: for each the two hosts, and
-- the transit on each link, in the order of the links.
use Rattle.std.specs.Prelude.{ℕ, ◌==◌, Bool, not, ◌&&◌, List, map, replicate, get_or, slice_set}
use Rattle.std.specs.List.{filter, flat_map}
use Rattle.ncp_subnet.specs.declared.transit.Transit.{Transit}
use Rattle.ncp_subnet.specs.declared.transit.Transit.TheVariants.{Free}
use Rattle.ncp_subnet.specs.declared.way.TheConstants.{LINKS}

abbrev pub OnLink : Type 0
OnLink = Transit (List Bool)

pub record OneWay : Type 0 where
  pub from : ℕ
  pub to : ℕ
  pub links : List OnLink

abbrev pub way_leads : ℕ → ℕ → OneWay → Bool
way_leads from to way = way.from == from && way.to == to

-- nothing is in transit
abbrev pub free_way : ℕ → ℕ → OneWay
free_way from to = record { from = from; to = to; links = replicate LINKS Free }

abbrev pub on_link : OneWay → ℕ → OnLink
on_link way link = get_or way.links link Free

abbrev pub with_link : OneWay → ℕ → OnLink → OneWay
with_link way link transit = record way { links = slice_set way.links link transit }

-- the ways from one host to the others, and between all of some hosts
abbrev pub free_ways_from : ℕ → List ℕ → List OneWay
free_ways_from from hosts = map (λ to. free_way from to) (filter (λ to. not (to == from)) hosts)

abbrev pub free_ways : List ℕ → List OneWay
free_ways hosts = flat_map (λ from. free_ways_from from hosts) hosts
