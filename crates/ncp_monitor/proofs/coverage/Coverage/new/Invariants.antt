use Rattle.std.proofs.Common.{◌≡◌, ◌≤◌, vec_len, vec_capacity, replicate}
use Rattle.ncp_monitor.specs.declared.views.TheConstants.{VIEWS}
use Rattle.ncp_monitor.specs.Coverage.{nothing_passed}
use Rattle.ncp_monitor.proofs.coverage.Coverage.new.Given as goal

abbrev pub invariant-loop-place : goal.invariant-loop-place
invariant-loop-place l = record {
  len : vec_len l.all ≡ l._place;
  room : VIEWS ≤ vec_capacity l.all;
  new : l.all.items ≡ replicate l._place nothing_passed;
}
