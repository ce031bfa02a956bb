use Rattle.std.proofs.Common.{◌≡◌, ◌<◌, ◌^◌, true, false, List, length, sym, ap, subst, ◌∙◌, arith}
use Rattle.std.proofs.lemmas.Result.{IfOk-from_err}
use Rattle.ncp_transcript_two.specs.Transcript.{Noted_hosts}
use Rattle.ncp_play_world_lines.specs.declared.settling.Directive.TheVariants as deeds
use Rattle.ncp_play_world.specs.declared.marks.Mark.{Mark}
use Rattle.ncp_play_world.specs.Traces.{traces_of}
use Rattle.ncp_play_world.specs.HostsRules.{PartOf}
use Rattle.ncp_play_world.proofs.Staging.{staged, on_err, on_part, on_all, rest_part, rest_all, still_all, still_staged, same_staged, room_so}
use Rattle.ncp_play_world.proofs.log.Log.go_on.Goals as goal

pub returns-then-branch-clause-part : goal.returns-then-branch-clause-part
returns-then-branch-clause-part g c =
    subst (λ (marks : List Mark). PartOf g.H.AnyHosts.kind deeds.Settle c.args.left true c.args.self.now (staged g.H.AnyHosts.kind c.go_on_once.new.self marks)) (sym c.noted.ensures.marks)
    (on_part g.H.AnyHosts.kind c.self.inside.hosts c.self.inside.marks.marks.items c.self.inside.marks.since c.self.invariant c.args.self.now c.self.view_is c.args.left c.in_ok-go_on_once.field-0 c.go_on_once.new.self c.if-branch.true c.in_ok-go_on_once.ensures.on
    c.in_ok-go_on_once.ensures.next)

pub returns-then-branch-clause-room : goal.returns-then-branch-clause-room
returns-then-branch-clause-room g c = λ _.
    let told = ap length c.transcript.ensures.notes in
    let many = c.count_of-notes.ensures.count in
    let fits = c.count_of-notes.ensures.room in
    let counted = c.count-words.ensures.count in
    let few = c.count-words.ensures.room in
    let notes : length c.go_on_once.new.self.notes < 2 ^ 63 = omega (arith, told, many, fits) in
    let marks : length c.self.inside.marks.marks.items < 2 ^ 63 = omega (arith, counted, few) in
    subst (λ (marks : List Mark). length (traces_of c.go_on_once.new.self.notes marks) < 2 ^ 64) (sym c.noted.ensures.marks) (room_so c.go_on_once.new.self.notes c.self.inside.marks.marks.items notes marks)

pub invariant_of-self-2 : goal.invariant_of-self-2
invariant_of-self-2 g c =
    rest_all g.H.AnyHosts.kind c.self.inside.hosts c.self.inside.marks.marks.items c.self.inside.marks.since c.self.invariant c.args.self.now c.self.view_is c.args.left c.in_ok-go_on_once.field-0 c.go_on_once.new.self c.settled.new.self.marks.items c.settled.new.self.since
    c.if-branch.false c.in_ok-go_on_once.ensures.on c.in_ok-settled.ensures.marks c.in_ok-settled.ensures.since

pub returns-clause-part : goal.returns-clause-part
returns-clause-part g c =
    subst (λ (marks : List Mark). PartOf g.H.AnyHosts.kind deeds.Settle c.args.left false c.args.self.now (staged g.H.AnyHosts.kind c.go_on_once.new.self marks)) (sym c.in_ok-settled.ensures.marks)
    (rest_part g.H.AnyHosts.kind c.self.inside.hosts c.self.inside.marks.marks.items c.self.inside.marks.since c.self.invariant c.args.self.now c.self.view_is c.args.left c.in_ok-go_on_once.field-0 c.go_on_once.new.self c.if-branch.false c.in_ok-go_on_once.ensures.on
    c.in_ok-go_on_once.ensures.next)

pub invariant_of-self-then-branch : goal.invariant_of-self-then-branch
invariant_of-self-then-branch g c =
    on_all g.H.AnyHosts.kind c.self.inside.hosts c.self.inside.marks.marks.items c.self.inside.marks.since c.self.invariant c.args.self.now c.self.view_is c.in_ok-go_on_once.field-0 c.go_on_once.new.self c.noted.new.self.marks.items c.noted.new.self.since
    c.if-branch.true c.in_ok-go_on_once.ensures.on c.noted.ensures.marks c.noted.ensures.since

pub returns-then-branch-clause-err : goal.returns-then-branch-clause-err
returns-then-branch-clause-err g c = tt

pub returns-clause-room : goal.returns-clause-room
returns-clause-room g c = λ e. absurd (cc e)

pub returns-clause-err : goal.returns-clause-err
returns-clause-err g c = tt

-- ---- without memory all stays

pub invariant_of-self : goal.invariant_of-self
invariant_of-self g c = c.self.invariant ∙ ap (λ (x : Noted_hosts _ _). length x.notes) (sym c.in_err-go_on_once.ensures.err)

pub returns-in_err-go_on_once-clause-part : goal.returns-in_err-go_on_once-clause-part
returns-in_err-go_on_once-clause-part g c = IfOk-from_err c.from_residual.result (λ more. PartOf g.H.AnyHosts.kind deeds.Settle c.args.left more c.args.self.now (staged g.H.AnyHosts.kind c.go_on_once.new.self c.self.inside.marks.marks.items)) c.from_residual.ensures.0

pub returns-in_err-go_on_once-clause-room : goal.returns-in_err-go_on_once-clause-room
returns-in_err-go_on_once-clause-room g c = IfOk-from_err c.from_residual.result (λ more. more ≡ true → length (traces_of c.go_on_once.new.self.notes c.self.inside.marks.marks.items) < 2 ^ 64) c.from_residual.ensures.0

pub returns-in_err-go_on_once-clause-err : goal.returns-in_err-go_on_once-clause-err
returns-in_err-go_on_once-clause-err g c = on_err c.from_residual.result (same_staged g.H.AnyHosts.kind c.self.inside.hosts c.self.inside.marks.marks.items c.self.inside.marks.since c.self.invariant c.args.self.now c.self.view_is c.go_on_once.new.self c.in_err-go_on_once.ensures.err)

pub invariant_of-self-in_err-settled : goal.invariant_of-self-in_err-settled
invariant_of-self-in_err-settled g c =
    still_all g.H.AnyHosts.kind c.self.inside.hosts c.self.inside.marks.marks.items c.self.inside.marks.since c.self.invariant c.args.self.now c.self.view_is c.in_ok-go_on_once.field-0 c.go_on_once.new.self c.settled.new.self.marks.items c.settled.new.self.since
    c.if-branch.false c.in_ok-go_on_once.ensures.on c.in_err-settled.ensures.err.0 c.in_err-settled.ensures.err.1

pub returns-in_err-settled-clause-part : goal.returns-in_err-settled-clause-part
returns-in_err-settled-clause-part g c = IfOk-from_err c.from_residual-in_err-settled.result (λ more. PartOf g.H.AnyHosts.kind deeds.Settle c.args.left more c.args.self.now (staged g.H.AnyHosts.kind c.go_on_once.new.self c.settled.new.self.marks.items)) c.from_residual-in_err-settled.ensures.0

pub returns-in_err-settled-clause-room : goal.returns-in_err-settled-clause-room
returns-in_err-settled-clause-room g c = IfOk-from_err c.from_residual-in_err-settled.result (λ more. more ≡ true → length (traces_of c.go_on_once.new.self.notes c.settled.new.self.marks.items) < 2 ^ 64) c.from_residual-in_err-settled.ensures.0

pub returns-in_err-settled-clause-err : goal.returns-in_err-settled-clause-err
returns-in_err-settled-clause-err g c =
    on_err c.from_residual-in_err-settled.result (still_staged g.H.AnyHosts.kind c.self.inside.hosts c.self.inside.marks.marks.items c.self.inside.marks.since c.self.invariant c.args.self.now c.self.view_is c.in_ok-go_on_once.field-0 c.go_on_once.new.self c.settled.new.self.marks.items c.if-branch.false c.in_ok-go_on_once.ensures.on c.in_err-settled.ensures.err.0)
