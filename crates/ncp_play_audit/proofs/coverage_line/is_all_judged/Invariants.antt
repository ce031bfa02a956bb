use Rattle.std.proofs.Common.{◌≡◌, true, take}
use Rattle.std.specs.List.{list_all}
use Rattle.ncp_monitor.specs.Coverage.{is_excused}
use Rattle.ncp_play_audit.specs.CoverageLines.{all_places, unjudged_at}
use Rattle.ncp_play_audit.proofs.coverage_line.is_all_judged.Given as goal

abbrev pub invariant-loop-place : goal.invariant-loop-place
invariant-loop-place l = list_all (λ place. is_excused (unjudged_at l.monitor l.coverage place)) (take l.place all_places) ≡ true
