use Rattle.std.proofs.Common.{◌-◌, ◌^◌, length}
use Rattle.ncp_world.specs.Next.{RunsOn}
use Rattle.ncp_world.proofs.recorded.Recorded.go_on_to_the_end.Given as goal

abbrev pub invariant-loop : goal.invariant-loop
invariant-loop g l = record {
  on : g.H.AnyHosts.kind.GoesOn l.initial.self l.self;
  next : RunsOn g.H.AnyHosts.kind l.initial.self l.self;
}

-- there is room for so many notes yet
abbrev pub decreases-loop : goal.decreases-loop
decreases-loop g l = 2 ^ 64 - length l.self.notes
