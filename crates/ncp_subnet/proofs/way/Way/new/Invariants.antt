use Rattle.std.proofs.Common.{◌≡◌, ◌≤◌, vec_len, vec_capacity, replicate}
use Rattle.ncp_subnet.specs.declared.transit.Transit.TheVariants.{Free}
use Rattle.ncp_subnet.specs.declared.way.TheConstants.{LINKS}
use Rattle.ncp_subnet.proofs.way.Way.new.Given as goal

abbrev pub invariant-loop-link : goal.invariant-loop-link
invariant-loop-link l = record {
  len : vec_len l.links ≡ l._link;
  room : LINKS ≤ vec_capacity l.links;
  free : l.links.items ≡ replicate l._link Free;
}
