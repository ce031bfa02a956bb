use Rattle.std.proofs.Common.{◌∙◌, sym, ap}
use Rattle.ncp_play_files.specs.Checked.{record_class_after}
use Rattle.ncp_play_files.proofs.Totalling.{regular_judged, other_judged}
use Rattle.ncp_play_files.proofs.tally.judge.Goals as goal

pub returns-in-Err : goal.returns-in-Err
returns-in-Err c = ap (record_class_after c.args.message.now) (sym c.in-Err.is ∙ c.read_leader_in.ensures.exact)

pub returns-then-leader-eq-REGULAR : goal.returns-then-leader-eq-REGULAR
returns-then-leader-eq-REGULAR c =
    c.judge_regular.ensures ∙ regular_judged c.args.message.now c.in-Ok.leader c.if-leader-eq-REGULAR.true ∙ ap (record_class_after c.args.message.now) (sym c.in-Ok.is ∙ c.read_leader_in.ensures.exact)

pub returns-else-leader-eq-REGULAR : goal.returns-else-leader-eq-REGULAR
returns-else-leader-eq-REGULAR c =
    other_judged c.args.message.now c.in-Ok.leader c.if-leader-eq-REGULAR.false ∙ ap (record_class_after c.args.message.now) (sym c.in-Ok.is ∙ c.read_leader_in.ensures.exact)
