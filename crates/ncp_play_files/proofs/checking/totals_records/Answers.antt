use Rattle.std.proofs.Common.{◌∙◌, Ok, Err, is_some, refl, subst, ap, arith}
use Rattle.std.proofs.Math.Bool.{or-false}
use Rattle.std.proofs.lemmas.Result.{err_from_is_err_and}
use Rattle.ncp_play_files.specs.Tallies.{totals_with, put_together, TotalsFrom}
use Rattle.ncp_play_files.proofs.Totalling.{totals_more, totals_fault, totals_end}
use Rattle.ncp_play_files.proofs.checking.totals_records.Goals as goal

pub loop-record_class-init : goal.loop-record_class-init
loop-record_class-init g c = record {
  told = λ bytes a. (bytes, a, λ r left h. subst (λ tally. TotalsFrom (g.R.Records.version c.args.records) bytes tally r left) c.new-counts.ensures h);
  reads = omega arith;
  mark = refl;
  same_inlet = (refl, refl);
}

pub returns-in_err-record_class-clause-output : goal.returns-in_err-record_class-clause-output
returns-in_err-record_class-clause-output g c = λ bytes a.
    let p = err_from_is_err_and c.from_residual.result c.from_residual.ensures.1 in
    let before = c.loop-record_class.invariant.told bytes a in
    rw (p.1, p.2) (
    before.2 (Err c.in_err-record_class.field-0.0) (g.S.Source.left c.judge_on.new.input.source.now) (
    totals_fault (g.R.Records.version c.args.records) before.0 (g.S.Source.left c.judge_on.new.input.source.now) (put_together c.loop-record_class.counts) c.in_err-record_class.field-0.0 (c.in_err-record_class.ensures.output before.0 before.1)))

pub loop-record_class-preserved : goal.loop-record_class-preserved
loop-record_class-preserved g c = record {
  told = λ bytes a.
      let before = c.loop-record_class.invariant.told bytes a in
      let judged = rw c.in-Some.is at (c.in_ok-record_class.ensures.output before.0 before.1) in
      let counted = c.count.ensures ∙ ap (totals_with (put_together c.loop-record_class.counts)) judged.3 in (
        judged.1,
        judged.4,
        λ r left h.
            before.2 r left (
            totals_more (g.R.Records.version c.args.records) before.0 judged.1 judged.0 (put_together c.loop-record_class.counts) r left judged.2
            (subst (λ tally. TotalsFrom (g.R.Records.version c.args.records) judged.1 tally r left) counted h)),
      );
  reads = let taken = c.in_ok-record_class.ensures.taken (ap is_some c.in-Some.is) in omega (arith, taken, c.loop-record_class.invariant.reads);
  mark = c.in_ok-record_class.ensures.mark ∙ or-false _ ∙ c.loop-record_class.invariant.mark;
  same_inlet = (c.in_ok-record_class.ensures.same_inlet.0 ∙ c.loop-record_class.invariant.same_inlet.0, c.in_ok-record_class.ensures.same_inlet.1 ∙ c.loop-record_class.invariant.same_inlet.1);
}

pub returns-clause-output : goal.returns-clause-output
returns-clause-output g c = λ bytes a.
    let before = c.loop-record_class.invariant.told bytes a in
    let none = rw c.in_default.is at (c.in_ok-record_class.ensures.output before.0 before.1) in
    let left = g.S.Source.left c.judge_on.new.input.source.now in
    rw c.tally.ensures (before.2 (Ok (put_together c.loop-record_class.counts)) left (totals_end (g.R.Records.version c.args.records) before.0 (put_together c.loop-record_class.counts) left none))
