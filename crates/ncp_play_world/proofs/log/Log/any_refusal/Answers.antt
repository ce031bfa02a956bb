use Rattle.std.proofs.Common.{ap, ◌∙◌}
use Rattle.std.specs.List.{list_any}
use Rattle.ncp_play_world.proofs.Staging.{refused_so, run_so}
use Rattle.ncp_play_world.proofs.log.Log.any_refusal.Goals as goal

pub returns-clause-refusal : goal.returns-clause-refusal
returns-clause-refusal g c =
    c.any_refusal.ensures ∙ ap (list_any g.H.Scripted.refused) c.transcript.ensures.notes
    ∙ refused_so g.H.AnyHosts.kind c.self.inside.hosts c.self.inside.marks.marks.items c.self.inside.marks.since c.self.invariant c.args.self.now c.self.view_is g.H.Scripted.refused

pub returns-clause-run : goal.returns-clause-run
returns-clause-run g c = run_so g.H.AnyHosts.kind c.self.inside.hosts c.self.inside.marks.marks.items c.self.inside.marks.since c.self.invariant c.args.self.now c.self.view_is c.transcript.ensures.run
