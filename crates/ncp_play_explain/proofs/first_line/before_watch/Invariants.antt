-- The word is one of those that are left, or none.
use Rattle.std.proofs.Common.{◌≡◌, ◌+◌, drop, map}
use Rattle.ncp_play_explain.specs.Hosts.{before_watch}
use Rattle.ncp_play_explain.proofs.first_line.before_watch.Given as goal

abbrev pub invariant-loop-place : goal.invariant-loop-place
invariant-loop-place l = before_watch (map (λ word. word.now) l.words) ≡ l.place + before_watch (drop l.place (map (λ word. word.now) l.words))
