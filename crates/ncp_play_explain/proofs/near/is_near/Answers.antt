-- Near words, by what is counted.
use Rattle.std.proofs.Common.{arith, ◌≤◌, ◌+◌, ◌-◌}
use Rattle.std.proofs.lemmas.Bool.{leb-true, le-leb}
use Rattle.ncp_play_explain.proofs.Nearness.{counted_is_near, near_is_counted}
use Rattle.ncp_play_explain.proofs.near.is_near.Goals as goal

pub returns-then-few-clause-near : goal.returns-then-few-clause-near
returns-then-few-clause-near c = λ t.
    counted_is_near c.args.most c.args.word.now c.args.known.now c.common_front.result c.common_end.result c.min-shorter.result c.max-longer.result c.min-front.result
    c.min-end.result c.min-shorter.ensures c.max-longer.ensures c.common_front.ensures c.common_end.ensures c.min-front.ensures c.min-end.ensures
    (omega arith) (leb-true 2 (c.min-front.result + c.min-end.result) t)

pub returns-then-few-clause-far : goal.returns-then-few-clause-far
returns-then-few-clause-far c = λ n.
    le-leb 2 (c.min-front.result + c.min-end.result)
    (near_is_counted c.args.most c.args.word.now c.args.known.now c.common_front.result c.common_end.result c.min-shorter.result c.max-longer.result c.min-front.result
    c.min-end.result c.min-shorter.ensures c.max-longer.ensures c.common_front.ensures c.common_end.ensures c.min-front.ensures c.min-end.ensures n).1

pub returns-else-few-clause-far : goal.returns-else-few-clause-far
returns-else-few-clause-far c = λ n.
    let h : c.max-longer.result - (c.min-front.result + c.min-end.result) ≤ c.args.most =
    (near_is_counted c.args.most c.args.word.now c.args.known.now c.common_front.result c.common_end.result c.min-shorter.result c.max-longer.result c.min-front.result
    c.min-end.result c.min-shorter.ensures c.max-longer.ensures c.common_front.ensures c.common_end.ensures c.min-front.ensures c.min-end.ensures n).0 in
    absurd (omega arith)
