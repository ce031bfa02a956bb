use Rattle.std.proofs.Common.{◌≡◌, Bool, true, false, None, Some, is_some, refl, sym, subst}
use Rattle.ncp_subnet.specs.Transit.{is_accepted, answer_kind}
use Rattle.ncp_transcript_two.specs.Transcript.{Noted_hosts}
use Rattle.ncp_world.specs.Lowest.{lowest_kept}
use Rattle.ncp_world.specs.Kinds.{IsTriedOf, GoOnce}
use Rattle.ncp_world.specs.Next.{next_to, Takes}
use Rattle.ncp_world.proofs.Settling.{tried-so}
use Rattle.ncp_world.proofs.Following.{if-ok, tried-says, happened, next-delivers, next-answers, next-rests, goes-by-wake}
use Rattle.ncp_world.proofs.recorded.Recorded.go_on_to.Goals as goal

pub returns-then-branch-clause-on : goal.returns-then-branch-clause-on
returns-then-branch-clause-on g c =
    let kind = g.H.AnyHosts.kind in
    g.met.H.AnyHosts.deliver_goes c.args.from c.args.to c.in-Some.link c.args.self.now c.attempt.new.self
    (tried-so kind (kind.deliver c.args.from c.args.to c.in-Some.link) c.deliver.result c.args.self.now c.attempt.new.self c.in_ok-attempt.field-0 true c.deliver.ensures c.in_ok-attempt.ensures.tried c.if-branch.true)

pub returns-then-branch-2-clause-on : goal.returns-then-branch-2-clause-on
returns-then-branch-2-clause-on g c =
    let kind = g.H.AnyHosts.kind in
    let come = tried-so kind (kind.deliver c.args.from c.args.to c.in-Some.link) c.deliver.result c.args.self.now c.attempt.new.self c.in_ok-attempt.field-0 false c.deliver.ensures c.in_ok-attempt.ensures.tried c.if-branch.false in
    subst (λ (w : Noted_hosts _ _). GoOnce kind w c.attempt-2.new.self) come.3
    (g.met.H.AnyHosts.answer_goes c.args.from c.args.to c.in-Some.link c.attempt.new.self c.attempt-2.new.self
    (tried-so kind (kind.answer c.args.from c.args.to c.in-Some.link) c.answer.result c.attempt.new.self c.attempt-2.new.self c.in_ok-attempt-2.field-0 true c.answer.ensures c.in_ok-attempt-2.ensures.tried c.if-branch-2.true))

-- ---- the event is the next

pub returns-in_default-clause-next : goal.returns-in_default-clause-next
returns-in_default-clause-next g c =
    let kind = g.H.AnyHosts.kind in let from = c.args.from in let to = c.args.to in
    (next-rests kind from to c.args.self.now.hosts (subst (λ (x : Noted_hosts _ _). None ≡ lowest_kept (kind.kept from to x.hosts)) c.self.view_is c.in_default.ensures.lowest), refl)

pub returns-then-branch-clause-next : goal.returns-then-branch-clause-next
returns-then-branch-clause-next g c =
    let kind = g.H.AnyHosts.kind in let from = c.args.from in let to = c.args.to in let link = c.in-Some.link in let w = c.args.self.now in let two = c.requires.two in
    let run = subst (λ (x : Noted_hosts _ _). kind.IsTranscript x.notes x.hosts) c.self.view_is c.self.invariant in
    let lowest = subst (λ (x : Noted_hosts _ _). Some link ≡ lowest_kept (kind.kept from to x.hosts)) c.self.view_is c.in-Some.ensures.lowest in
    let event = kind.deliver from to link in
    let tried = tried-so kind event c.deliver.result w c.attempt.new.self c.in_ok-attempt.field-0 true c.deliver.ensures c.in_ok-attempt.ensures.tried c.if-branch.true in
    let there = tried-says kind event true (is_accepted (kind.transit from to w.hosts link)) w c.attempt.new.self (λ note. g.met.H.AnyHosts.deliver_says two.0 two.1 link from to w.notes note w.hosts run two.2) tried in
    happened kind event (next_to kind from to w.hosts) w c.attempt.new.self (next-delivers kind from to w.hosts link lowest (sym there)) tried

pub returns-then-branch-2-clause-next : goal.returns-then-branch-2-clause-next
returns-then-branch-2-clause-next g c =
    let kind = g.H.AnyHosts.kind in let from = c.args.from in let to = c.args.to in let link = c.in-Some.link in let w = c.args.self.now in let two = c.requires.two in
    let run = subst (λ (x : Noted_hosts _ _). kind.IsTranscript x.notes x.hosts) c.self.view_is c.self.invariant in
    let lowest = subst (λ (x : Noted_hosts _ _). Some link ≡ lowest_kept (kind.kept from to x.hosts)) c.self.view_is c.in-Some.ensures.lowest in
    let come = tried-so kind (kind.deliver from to link) c.deliver.result w c.attempt.new.self c.in_ok-attempt.field-0 false c.deliver.ensures c.in_ok-attempt.ensures.tried c.if-branch.false in
    let event = kind.answer from to link in
    let told = tried-so kind event c.answer.result c.attempt.new.self c.attempt-2.new.self c.in_ok-attempt-2.field-0 true c.answer.ensures c.in_ok-attempt-2.ensures.tried c.if-branch-2.true in
    let tried = subst (λ (x : Noted_hosts _ _). IsTriedOf kind event true x c.attempt-2.new.self) come.3 told in
    let there = tried-says kind event true (is_some (answer_kind (kind.transit from to w.hosts link))) w c.attempt-2.new.self (λ note. g.met.H.AnyHosts.answer_says two.0 two.1 link from to w.notes note w.hosts run two.2) tried in
    happened kind event (next_to kind from to w.hosts) w c.attempt-2.new.self (next-answers kind from to w.hosts link lowest (sym there)) tried

pub returns-clause-next : goal.returns-clause-next
returns-clause-next g c =
    let kind = g.H.AnyHosts.kind in let from = c.args.from in let to = c.args.to in let link = c.in-Some.link in let w = c.args.self.now in let two = c.requires.two in
    let run = subst (λ (x : Noted_hosts _ _). kind.IsTranscript x.notes x.hosts) c.self.view_is c.self.invariant in
    let lowest = subst (λ (x : Noted_hosts _ _). Some link ≡ lowest_kept (kind.kept from to x.hosts)) c.self.view_is c.in-Some.ensures.lowest in
    let kept = subst (λ (x : Noted_hosts _ _). is_some (kind.kept from to x.hosts link) ≡ true) c.self.view_is c.in-Some.ensures.some in
    let come = tried-so kind (kind.deliver from to link) c.deliver.result w c.attempt.new.self c.in_ok-attempt.field-0 false c.deliver.ensures c.in_ok-attempt.ensures.tried c.if-branch.false in
    let told = tried-so kind (kind.answer from to link) c.answer.result c.attempt.new.self c.attempt-2.new.self c.in_ok-attempt-2.field-0 false c.answer.ensures c.in_ok-attempt-2.ensures.tried c.if-branch-2.false in
    let answered = subst (λ (x : Noted_hosts _ _). IsTriedOf kind (kind.answer from to link) false x c.attempt-2.new.self) come.3 told in
    let called : c.wake-wake.result ≡ kind.wake from to c.attempt-2.new.self.hosts = subst (λ (x : Noted_hosts _ _). c.wake-wake.result ≡ kind.wake from to x.hosts) c.self-2.view_is c.wake-wake.ensures in
    if-ok (λ (done : Bool). IsTriedOf kind c.wake-wake.result done c.attempt-2.new.self c.attempt-3.new.self) (λ (more : Bool). Takes kind (next_to kind from to w.hosts) more w c.attempt-3.new.self) c.attempt-3.result
    (λ done tried. goes-by-wake kind from to link w c.attempt.new.self c.attempt-2.new.self c.attempt-3.new.self c.wake-wake.result done lowest
    (λ note. g.met.H.AnyHosts.deliver_says two.0 two.1 link from to w.notes note w.hosts run two.2)
    (λ note. g.met.H.AnyHosts.answer_says two.0 two.1 link from to w.notes note w.hosts run two.2)
    (λ did after woken. (g.met.H.AnyHosts.wake_goes two.0 two.1 link from to did w after run two.2 c.requires.none kept (come.0, come.1, come.2) (answered.0, answered.1, answered.2) woken).0) come told called tried)
    c.attempt-3.ensures.tried
