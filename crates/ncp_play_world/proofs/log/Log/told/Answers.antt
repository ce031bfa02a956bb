use Rattle.std.proofs.Common.{length, ap, arith}
use Rattle.ncp_play_world.proofs.Staging.{printed_so}
use Rattle.ncp_play_world.proofs.log.Log.told.Goals as goal

pub returns : goal.returns
returns g c =
    let told = ap length c.transcript.ensures.notes in
    let notes = c.count_of.ensures.count in
    let marks = c.count.ensures.count in
    let all = printed_so g.H.AnyHosts.kind c.self.inside.hosts c.self.inside.marks.marks.items c.self.inside.marks.since c.self.invariant c.args.self.now c.self.view_is in
    omega (arith, told, notes, marks, all)
