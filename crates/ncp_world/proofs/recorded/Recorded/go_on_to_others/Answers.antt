use Rattle.std.proofs.Common.{◌≡◌, ◌<◌, Bool, length, Some, sym, ◌∙◌, subst, arith}
use Rattle.std.proofs.lemmas.Option.{same_Some}
use Rattle.std.specs.Prelude.{slice_get}
use Rattle.ncp_transcript_two.specs.Transcript.{Noted_hosts}
use Rattle.ncp_world.specs.Next.{next_to, Takes}
use Rattle.ncp_world.proofs.Following.{within, others-go, others-rest}
use Rattle.ncp_world.proofs.recorded.Recorded.go_on_to_others.Goals as goal

pub returns-then-branch-clause-next : goal.returns-then-branch-clause-next
returns-then-branch-clause-next g c =
    let kind = g.H.AnyHosts.kind in let at = c.args.at in let from = c.args.from in let to = c.name_at-to.result in let place = c.loop-place.place in let w = c.args.self.now in let now = c.loop-place.self in
    let same = c.loop-place.invariant.same in
    let there = subst (λ (x : Noted_hosts _ _). slice_get (kind.names x.hosts) place ≡ Some to) same (subst (λ (x : Noted_hosts _ _). slice_get (kind.names x.hosts) place ≡ Some to) c.self-in-loop-place.view_is c.name_at-to.ensures) in
    others-go kind at place from to w now c.go_on_to.new.self c.loop-place.invariant.none there c.if-place-at.false same
    (subst (λ (more : Bool). Takes kind (next_to kind from to now.hosts) more now c.go_on_to.new.self) c.if-branch.true c.in_ok-go_on_to.ensures.next)

pub returns-clause-on : goal.returns-clause-on
returns-clause-on g c =
    let kind = g.H.AnyHosts.kind in let w = c.args.self.now in let same = c.loop-place.invariant.same in
    let count = subst (λ (x : Noted_hosts _ _). c.count-place-end.result ≡ length (kind.names x.hosts)) c.self.view_is c.count-place-end.ensures in (
      same,
      λ j other to two.
          let inside = within (kind.names w.hosts) j to two.1 in
          let before : j < c.loop-place.place = omega (arith, inside, count, c.loop-place-test.false) in
          subst (λ name. kind.IsStill name to w.hosts) (same_Some c.args.from other (sym c.requires.from ∙ two.0)) (c.loop-place.invariant.still j to before two.1 two.2),
    )

pub returns-clause-next : goal.returns-clause-next
returns-clause-next g c =
    let kind = g.H.AnyHosts.kind in let w = c.args.self.now in
    let count = subst (λ (x : Noted_hosts _ _). c.count-place-end.result ≡ length (kind.names x.hosts)) c.self.view_is c.count-place-end.ensures in
    let last : c.loop-place.place ≡ length (kind.names w.hosts) = omega (arith, count, c.loop-place.auto.place-end, c.loop-place-test.false) in
    others-rest kind c.args.at c.loop-place.place c.args.from w c.loop-place.self last c.loop-place.invariant.none c.loop-place.invariant.same
