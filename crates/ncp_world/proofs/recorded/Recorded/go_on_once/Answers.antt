use Rattle.std.proofs.Common.{◌≡◌, ◌<◌, Bool, length, subst, arith}
use Rattle.ncp_transcript_two.specs.Transcript.{Noted_hosts}
use Rattle.ncp_world.specs.Next.{next_at, Takes}
use Rattle.ncp_world.proofs.Following.{within, hosts-go, hosts-rest}
use Rattle.ncp_world.proofs.recorded.Recorded.go_on_once.Goals as goal

pub returns-then-branch-clause-next : goal.returns-then-branch-clause-next
returns-then-branch-clause-next g c =
    let kind = g.H.AnyHosts.kind in let at = c.loop-at.at in let now = c.loop-at.self in let after = c.go_on_at.new.self in let it = c.in_ok-go_on_at.ensures.next in
    hosts-go kind at it.0 c.args.self.now now after c.loop-at.invariant.none it.1 c.loop-at.invariant.same (subst (λ (more : Bool). Takes kind (next_at kind now.hosts at it.0) more now after) c.if-branch.true it.2)

pub returns-clause-on : goal.returns-clause-on
returns-clause-on g c =
    let kind = g.H.AnyHosts.kind in let w = c.args.self.now in
    let count = subst (λ (x : Noted_hosts _ _). c.count-at-end.result ≡ length (kind.names x.hosts)) c.self.view_is c.count-at-end.ensures in (
      c.loop-at.invariant.same,
      g.met.H.AnyHosts.settles w.hosts (λ i j from to two.
          let inside = within (kind.names w.hosts) i from two.0 in
          let before : i < c.loop-at.at = omega (arith, inside, count, c.loop-at-test.false) in
          c.loop-at.invariant.still i before j from to two),
    )

pub returns-clause-next : goal.returns-clause-next
returns-clause-next g c =
    let kind = g.H.AnyHosts.kind in let w = c.args.self.now in
    let count = subst (λ (x : Noted_hosts _ _). c.count-at-end.result ≡ length (kind.names x.hosts)) c.self.view_is c.count-at-end.ensures in
    let last : c.loop-at.at ≡ length (kind.names w.hosts) = omega (arith, count, c.loop-at.auto.at-end, c.loop-at-test.false) in
    hosts-rest kind c.loop-at.at w c.loop-at.self last c.loop-at.invariant.none c.loop-at.invariant.same
