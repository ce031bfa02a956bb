use Rattle.std.proofs.Common.{◌≡◌}
use Rattle.ncp_world.specs.Next.{next_between}
use Rattle.ncp_world.proofs.Settling.{StillBefore}
use Rattle.ncp_world.proofs.Following.{NoneBefore}
use Rattle.ncp_world.proofs.recorded.Recorded.go_on_to_others.Given as goal

-- nothing has happened, since nothing to those before this place can
abbrev pub invariant-loop-place : goal.invariant-loop-place
invariant-loop-place g l = record {
  same : l.self ≡ l.initial.self;
  still : StillBefore g.H.AnyHosts.kind l.fn.at l.fn.from l.place l.initial.self.hosts;
  none : NoneBefore (next_between g.H.AnyHosts.kind l.fn.at l.fn.from l.initial.self.hosts) (g.H.AnyHosts.kind.names l.initial.self.hosts) l.place;
}
