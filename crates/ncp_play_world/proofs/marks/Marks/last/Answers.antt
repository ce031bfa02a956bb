use Rattle.std.proofs.Common.{◌≡◌, ◌-◌, List, length, ap, ◌∙◌, arith}
use Rattle.std.specs.Prelude.{slice_get}
use Rattle.ncp_play_world.specs.declared.marks.Mark.{Mark}
use Rattle.ncp_play_world.proofs.Traces.{last_of_all}
use Rattle.ncp_play_world.proofs.marks.Marks.last.Goals as goal

pub returns : goal.returns
returns c =
    let over = c.if-self-gt0.false in
    let none : c.args.self.now.since ≡ 0 = omega (arith, over) in
    last_of_all c.args.self.now.marks.items c.args.self.now.since c.in_ok-mark.mark.now
    (c.in_ok-mark.ensures.value ∙ ap (λ (marks : List Mark). slice_get marks (length marks - 1)) c.deref.ensures.value) none
