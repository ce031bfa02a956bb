use Rattle.std.proofs.Common.{◌≡◌}
use Rattle.ncp_world.specs.Next.{next_at}
use Rattle.ncp_world.proofs.Settling.{AllStillBefore}
use Rattle.ncp_world.proofs.Following.{NoneBefore}
use Rattle.ncp_world.proofs.recorded.Recorded.go_on_once.Given as goal

-- nothing has happened, since nothing from those before this place can
abbrev pub invariant-loop-at : goal.invariant-loop-at
invariant-loop-at g l = record {
  same : l.self ≡ l.initial.self;
  still : AllStillBefore g.H.AnyHosts.kind l.at l.initial.self.hosts;
  none : NoneBefore (next_at g.H.AnyHosts.kind l.initial.self.hosts) (g.H.AnyHosts.kind.names l.initial.self.hosts) l.at;
}
