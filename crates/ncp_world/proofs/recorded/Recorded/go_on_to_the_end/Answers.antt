use Rattle.std.proofs.Common.{Bool, subst}
use Rattle.ncp_world.specs.Kinds.{GoOrRest}
use Rattle.ncp_world.specs.Next.{next_by_itself, Takes}
use Rattle.ncp_world.proofs.Following.{run-further}
use Rattle.ncp_world.proofs.recorded.Recorded.go_on_to_the_end.Goals as goal

pub loop-preserved : goal.loop-preserved
loop-preserved g c =
    let kind = g.H.AnyHosts.kind in let w = c.args.self.now in let now = c.loop.self in let after = c.go_on_in_room.new.self in
    record {
      on = g.met.H.AnyHosts.goes_further w now after c.loop.invariant.on (subst (λ (more : Bool). GoOrRest kind more now after) c.if-branch.true c.in_ok-go_on_in_room.ensures.on);
      next = run-further kind w now after c.loop.invariant.next (subst (λ (more : Bool). Takes kind (next_by_itself kind now.hosts) more now after) c.if-branch.true c.in_ok-go_on_in_room.ensures.next);
    }
