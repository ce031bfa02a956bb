use Rattle.std.proofs.Common.{false, List, length, sym, ap, subst, ◌∙◌}
use Rattle.std.proofs.lemmas.Result.{IfOk-from_err}
use Rattle.ncp_transcript_two.specs.Transcript.{Noted_hosts}
use Rattle.ncp_play_world_lines.specs.declared.settling.Directive.TheVariants as deeds
use Rattle.ncp_play_world.specs.declared.marks.Mark.{Mark}
use Rattle.ncp_play_world.specs.HostsRules.{PartOf}
use Rattle.ncp_play_world.proofs.Staging.{staged, on_err, event_part, event_all, same_staged}
use Rattle.ncp_play_world.proofs.log.Log.step.Goals as goal

pub returns-clause-part : goal.returns-clause-part
returns-clause-part g c =
    subst (λ (marks : List Mark). PartOf g.H.AnyHosts.kind (deeds.Event c.args.event.now) 0 false c.args.self.now (staged g.H.AnyHosts.kind c.happen.new.self marks)) (sym c.noted.ensures.marks)
    (event_part g.H.AnyHosts.kind c.self.inside.hosts c.self.inside.marks.marks.items c.self.inside.marks.since c.self.invariant c.args.self.now c.self.view_is c.args.event.now c.happen.new.self c.in_ok-happen.ensures.step)

pub returns-clause-err : goal.returns-clause-err
returns-clause-err g c = tt

pub invariant_of-self-2 : goal.invariant_of-self-2
invariant_of-self-2 g c =
    event_all g.H.AnyHosts.kind c.self.inside.hosts c.self.inside.marks.marks.items c.self.inside.marks.since c.self.invariant c.args.self.now c.self.view_is c.args.event.now c.happen.new.self c.noted.new.self.marks.items c.noted.new.self.since
    c.in_ok-happen.ensures.step c.noted.ensures.marks c.noted.ensures.since

-- ---- without memory all stays

pub invariant_of-self : goal.invariant_of-self
invariant_of-self g c = c.self.invariant ∙ ap (λ (x : Noted_hosts _ _). length x.notes) (sym c.in_err-happen.ensures.err)

pub returns-in_err-happen-clause-part : goal.returns-in_err-happen-clause-part
returns-in_err-happen-clause-part g c = IfOk-from_err c.from_residual.result (λ done. PartOf g.H.AnyHosts.kind (deeds.Event c.args.event.now) 0 false c.args.self.now (staged g.H.AnyHosts.kind c.happen.new.self c.self.inside.marks.marks.items)) c.from_residual.ensures.0

pub returns-in_err-happen-clause-err : goal.returns-in_err-happen-clause-err
returns-in_err-happen-clause-err g c = on_err c.from_residual.result (same_staged g.H.AnyHosts.kind c.self.inside.hosts c.self.inside.marks.marks.items c.self.inside.marks.since c.self.invariant c.args.self.now c.self.view_is c.happen.new.self c.in_err-happen.ensures.err)
