use Rattle.std.proofs.Common.{◌≡◌, ◌≤◌, vec_len, vec_capacity, replicate, false}
use Rattle.ncp_monitor.specs.declared.views.TheConstants.{VIEWS}
use Rattle.ncp_monitor.proofs.host_pairs.HostPairs.new.Given as goal

abbrev pub invariant-loop-place : goal.invariant-loop-place
invariant-loop-place l = record {
  len : vec_len l.all ≡ l._place;
  room : VIEWS ≤ vec_capacity l.all;
  new : l.all.items ≡ replicate l._place false;
}
