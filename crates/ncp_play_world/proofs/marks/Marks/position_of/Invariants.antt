use Rattle.std.proofs.Common.{◌≡◌, ◌≤◌, ◌+◌, drop}
use Rattle.ncp_play_world.specs.Traces.{marked_place}
use Rattle.ncp_play_world.proofs.marks.Marks.position_of.Given as goal

-- the marks that are left say the same of what is left of the number
abbrev pub invariant-loop-mark : goal.invariant-loop-mark
invariant-loop-mark l = record {
  same : marked_place l.self.marks.items l.self.since 0 l.line ≡ marked_place (drop l.mark-index l.mark-items) l.self.since l.before l.left;
  within : l.before + l.left ≤ l.line;
}
