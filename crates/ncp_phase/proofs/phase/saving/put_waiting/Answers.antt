use Rattle.std.proofs.Common.{◌≤◌, ◌++◌, length, sym, ◌∙◌, arith}
use Rattle.std.proofs.lemmas.Result.{on_ok_weaker}
use Rattle.ncp_saved.specs.Values.{listed, command_saved}
use Rattle.ncp_saved.proofs.Rows.{past, row_more, row_end}
use Rattle.ncp_phase.proofs.phase.saving.put_waiting.Goals.{else-loop-place-test, then-loop-place-test+in_default}
use Rattle.ncp_phase.proofs.phase.saving.put_waiting.Goals as goal

pub loop-place-preserved : goal.loop-place-preserved
loop-place-preserved c = row_more command_saved c.args.waiting.now c.loop-place.place c.in-Some.command c.loop-place.out.items c.put_waiter.new.out.items (c.args.out.now.items ++ listed command_saved c.args.waiting.now) (sym c.in-Some.ensures) c.in_ok-put_waiter.ensures c.loop-place.invariant

pub returns : goal.returns
returns c =
    let none_left : length c.args.waiting.now ≤ c.loop-place.place = elim c.loop-place-test.branch [
      | else-loop-place-test w ↦ let n = w.loop-place-test.false in let l = c.len-place-end.ensures.len in omega (arith, n, l)
      | then-loop-place-test+in_default w ↦ past c.args.waiting.now c.loop-place.place (sym w.get.ensures ∙ w.in_default.is)
    ] in
    on_ok_weaker c.put_byte.result (row_end command_saved c.args.waiting.now c.loop-place.place c.loop-place.out.items c.put_byte.new.out.items (c.args.out.now.items ++ listed command_saved c.args.waiting.now) none_left c.loop-place.invariant) c.put_byte.ensures
