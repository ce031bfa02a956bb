use Rattle.std.proofs.Common.{◌≡◌, Bool, true, false, Option, Some, sym, subst}
use Rattle.std.specs.Prelude.{slice_get}
use Rattle.ncp_transcript_two.specs.Transcript.{Noted_hosts}
use Rattle.ncp_world.specs.Next.{next_to_others, next_at, Takes}
use Rattle.ncp_world.proofs.Settling.{tried-so}
use Rattle.ncp_world.proofs.Following.{if-ok, tried-says, happened, next-out, next-kept}
use Rattle.ncp_world.proofs.recorded.Recorded.go_on_at.Goals as goal

pub returns-then-branch-clause-on : goal.returns-then-branch-clause-on
returns-then-branch-clause-on g c =
    let kind = g.H.AnyHosts.kind in
    g.met.H.AnyHosts.out_goes c.name_at-from.result c.args.self.now c.attempt.new.self
    (tried-so kind (kind.out c.name_at-from.result) c.out.result c.args.self.now c.attempt.new.self c.in_ok-attempt.field-0 true c.out.ensures c.in_ok-attempt.ensures.tried c.if-branch.true)

pub returns-then-branch-clause-next : goal.returns-then-branch-clause-next
returns-then-branch-clause-next g c =
    let kind = g.H.AnyHosts.kind in let from = c.name_at-from.result in let w = c.args.self.now in
    let here = subst (λ (x : Noted_hosts _ _). slice_get (kind.names x.hosts) c.args.at ≡ Some from) c.self.view_is c.name_at-from.ensures in
    let tried = tried-so kind (kind.out from) c.out.result w c.attempt.new.self c.in_ok-attempt.field-0 true c.out.ensures c.in_ok-attempt.ensures.tried c.if-branch.true in
    let ready = tried-says kind (kind.out from) true (kind.ready from w.hosts) w c.attempt.new.self (λ note. g.met.H.AnyHosts.out_says c.args.at from note w.hosts here) tried in
    (from, here, happened kind (kind.out from) (next_at kind w.hosts c.args.at from) w c.attempt.new.self (next-out kind w.hosts c.args.at from (sym ready)) tried)

pub returns-clause-next : goal.returns-clause-next
returns-clause-next g c =
    let kind = g.H.AnyHosts.kind in let from = c.name_at-from.result in let w = c.args.self.now in let at = c.args.at in let now = c.go_on_to_others.new.self in
    let here = subst (λ (x : Noted_hosts _ _). slice_get (kind.names x.hosts) at ≡ Some from) c.self.view_is c.name_at-from.ensures in
    let tried = tried-so kind (kind.out from) c.out.result w c.attempt.new.self c.in_ok-attempt.field-0 false c.out.ensures c.in_ok-attempt.ensures.tried c.if-branch.false in
    let ready = tried-says kind (kind.out from) false (kind.ready from w.hosts) w c.attempt.new.self (λ note. g.met.H.AnyHosts.out_says at from note w.hosts here) tried in
    if-ok (λ (more : Bool). Takes kind (next_to_others kind at from c.attempt.new.self.hosts) more c.attempt.new.self now)
    (λ (more : Bool). (name : _) × (slice_get (kind.names w.hosts) at ≡ Some name) × Takes kind (next_at kind w.hosts at name) more w now) c.go_on_to_others.result
    (λ more takes. (
      from,
      here,
      subst (λ (next : Option _). Takes kind next more w now) (sym (next-kept kind w.hosts at from (sym ready))) (subst (λ (x : Noted_hosts _ _). Takes kind (next_to_others kind at from x.hosts) more x now) tried.3 takes),
    ))
    c.go_on_to_others.ensures.next
