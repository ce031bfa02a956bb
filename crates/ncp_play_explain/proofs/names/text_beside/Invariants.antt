-- No name that was looked at is this one.
use Rattle.std.proofs.Common.{◌≢◌, ℕ, List, All, map, take}
use Rattle.ncp_play_explain.proofs.names.text_beside.Given as goal

abbrev pub invariant-loop-known : goal.invariant-loop-known
invariant-loop-known l = All (λ (entry : List ℕ × List ℕ). entry.0 ≢ l.name) (take l.known-index (map (λ entry. (entry.0.now, entry.1.now)) l.names))
