use Rattle.std.proofs.Common.{◌≡◌, suc, ap, ◌∙◌, arith}
use Rattle.ncp_play_world.specs.Traces.{position_of_line}
use Rattle.ncp_play_world.proofs.Staging.{place_so}
use Rattle.ncp_play_world.proofs.log.Log.position_of.Goals as goal

pub returns : goal.returns
returns g c =
    let line = c.in_ok-checked_sub.field-0 in
    let some = c.in_ok-checked_sub.ensures.0 in
    let one = c.in_ok-checked_sub.ensures.1 in
    let same : suc line ≡ c.args.number = omega (arith, some, one) in
    c.position_of.ensures ∙ place_so g.H.AnyHosts.kind c.self.inside.hosts c.self.inside.marks.marks.items c.self.inside.marks.since c.self.invariant c.args.self.now c.self.view_is line ∙ ap (position_of_line c.args.self.now.traces) same
