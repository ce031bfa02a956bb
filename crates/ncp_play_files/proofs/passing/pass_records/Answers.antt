use Rattle.std.proofs.Common.{◌∙◌, ◌++◌, ℕ, Ok, Err, refl, subst, arith, le_refl}
use Rattle.std.proofs.Math.Bool.{or-false}
use Rattle.std.proofs.lemmas.Result.{err_from_is_err_and}
use Rattle.ncp_play_buffer.specs.Lines.{number_after}
use Rattle.ncp_play_files.specs.PassSteps.{PassesFrom}
use Rattle.ncp_play_files.proofs.PassProgress.{pass_end, pass_more}
use Rattle.ncp_play_files.proofs.passing.pass_records.Goals as goal

pub loop-number-init : goal.loop-number-init
loop-number-init g c =
    let rules = g.P.Pass.rules in let state = rules.state c.args.pass.now in
    record {
      told = λ bytes was said a k. (
        bytes,
        said,
        a,
        k,
        λ r last left page written h. subst (λ (n : ℕ). PassesFrom rules (g.R.Records.version c.args.records) n state bytes was said r last left page written) c.first-number.ensures h,
      );
      closes = refl;
      reads = omega arith;
      source_mark = refl;
      writes = omega arith;
      unprompted = λ _. le_refl _;
      sink_mark = refl;
      same_inlet = (refl, refl);
      same_outlet = (refl, refl);
    }

pub returns-in_err-pass_on-clause-output : goal.returns-in_err-pass_on-clause-output
returns-in_err-pass_on-clause-output g c = λ bytes was said a k.
    let p = err_from_is_err_and c.from_residual.result c.from_residual.ensures.1 in
    let left = g.S.Source.left c.pass_on.new.input.source.now in let written = g.W.Sink.written c.pass_on.new.out.sink.now in
    let before = c.loop-number.invariant.told bytes was said a k in
    let one = c.in_err-pass_on.ensures.output before.0 was before.1 before.2 before.3 in
    rw (p.1, p.2) (
    before.4 (Err c.in_err-pass_on.field-0.0) (g.P.Pass.rules.state c.pass_on.new.pass) left c.pass_on.new.out.page.now written one)

pub loop-number-preserved : goal.loop-number-preserved
loop-number-preserved g c =
    let rules = g.P.Pass.rules in let version = g.R.Records.version c.args.records in
    let number = c.loop-number.number in let state = rules.state c.loop-number.pass in
    record {
      told = λ bytes was said a k.
          let before = c.loop-number.invariant.told bytes was said a k in
          let one = rw c.if-branch.true at (c.in_ok-pass_on.ensures.output before.0 was before.1 before.2 before.3) in
          let more = before.1 ++ rules.lines number state one.0 in (
            one.1,
            more,
            one.3,
            one.5,
            λ r last left page written h.
                before.4 r last left page written (
                pass_more rules version number state before.0 one.1 was before.1 one.0 last page left written r one.2
                (subst (λ (s : rules.State). PassesFrom rules version (number_after number) s one.1 was more r last left page written) one.4
                (subst (λ (n : ℕ). PassesFrom rules version n (rules.state c.pass_on.new.pass) one.1 was more r last left page written) c.advance.ensures h))),
          );
      closes = c.in_ok-pass_on.ensures.closes ∙ c.loop-number.invariant.closes;
      reads = let taken = c.in_ok-pass_on.ensures.taken c.if-branch.true in omega (arith, taken, c.loop-number.invariant.reads);
      source_mark = c.in_ok-pass_on.ensures.source_mark ∙ or-false _ ∙ c.loop-number.invariant.source_mark;
      writes = let one = rw c.if-branch.true at c.in_ok-pass_on.ensures.writes in omega (arith, one, c.loop-number.invariant.writes);
      unprompted = λ h. let one = c.in_ok-pass_on.ensures.unprompted h in let before = c.loop-number.invariant.unprompted h in omega (arith, one, before);
      sink_mark = c.in_ok-pass_on.ensures.sink_mark ∙ or-false _ ∙ c.loop-number.invariant.sink_mark;
      same_inlet = (c.in_ok-pass_on.ensures.same_inlet.0 ∙ c.loop-number.invariant.same_inlet.0, c.in_ok-pass_on.ensures.same_inlet.1 ∙ c.loop-number.invariant.same_inlet.1);
      same_outlet = (c.in_ok-pass_on.ensures.same_outlet.0 ∙ c.loop-number.invariant.same_outlet.0, c.in_ok-pass_on.ensures.same_outlet.1 ∙ c.loop-number.invariant.same_outlet.1);
    }

pub returns-clause-output : goal.returns-clause-output
returns-clause-output g c = λ bytes was said a k.
    let rules = g.P.Pass.rules in
    let left = g.S.Source.left c.pass_on.new.input.source.now in let written = g.W.Sink.written c.pass_on.new.out.sink.now in
    let before = c.loop-number.invariant.told bytes was said a k in
    let one = rw c.if-branch.false at (c.in_ok-pass_on.ensures.output before.0 was before.1 before.2 before.3) in
    let now = rules.state c.pass_on.new.pass in
    before.4 (Ok tt) now left c.pass_on.new.out.page.now written
    (pass_end rules (g.R.Records.version c.args.records) c.loop-number.number (rules.state c.loop-number.pass) now before.0 was before.1 c.pass_on.new.input.window.now c.pass_on.new.out.page.now left written one)

pub returns-in_err-pass_on-clause-writes : goal.returns-in_err-pass_on-clause-writes
returns-in_err-pass_on-clause-writes g c =
    let p = err_from_is_err_and c.from_residual.result c.from_residual.ensures.1 in
    rw (p.1, p.2) (omega (arith, c.in_err-pass_on.ensures.writes, c.loop-number.invariant.writes))

pub returns-clause-writes : goal.returns-clause-writes
returns-clause-writes g c = let one = rw c.if-branch.false at c.in_ok-pass_on.ensures.writes in omega (arith, one, c.loop-number.invariant.writes)
