use Rattle.std.proofs.Common.{◌≤◌, ◌++◌, length, sym, ◌∙◌, ap, arith}
use Rattle.std.specs.Option.{option_copied}
use Rattle.std.proofs.lemmas.Result.{on_ok_weaker}
use Rattle.ncp_saved.specs.Values.{listed, error_saved}
use Rattle.ncp_saved.proofs.Rows.{past, row_more, row_end}
use Rattle.ncp_phase.proofs.echoes.saving.put_errors.Goals.{else-loop-place-test, then-loop-place-test+in_default}
use Rattle.ncp_phase.proofs.echoes.saving.put_errors.Goals as goal

pub loop-place-preserved : goal.loop-place-preserved
loop-place-preserved c = row_more error_saved c.args.errors.now.items c.loop-place.place c.in-Some.error.now c.loop-place.out.items c.put_error_after.new.out.items (c.args.out.now.items ++ listed error_saved c.args.errors.now.items) (sym c.in-Some.ensures) c.in_ok-put_error_after.ensures c.loop-place.invariant

pub returns : goal.returns
returns c =
    let none_left : length c.args.errors.now.items ≤ c.loop-place.place = elim c.loop-place-test.branch [
      | else-loop-place-test w ↦ let n = w.loop-place-test.false in let l = c.len-place-end.ensures.len in omega (arith, n, l)
      | then-loop-place-test+in_default w ↦ past c.args.errors.now.items c.loop-place.place (sym w.get.ensures ∙ ap option_copied w.in_default.is)
    ] in
    on_ok_weaker c.put_byte.result (row_end error_saved c.args.errors.now.items c.loop-place.place c.loop-place.out.items c.put_byte.new.out.items (c.args.out.now.items ++ listed error_saved c.args.errors.now.items) none_left c.loop-place.invariant) c.put_byte.ensures
