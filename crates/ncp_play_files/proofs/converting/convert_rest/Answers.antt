use Rattle.std.proofs.Common.{◌∙◌, ◌++◌, Ok, Err, arith}
use Rattle.std.proofs.Math.Bool.{or-false}
use Rattle.std.proofs.lemmas.Result.{err_from_is_err_and}
use Rattle.ncp_play_buffer.specs.Lines.{number_after}
use Rattle.ncp_play_files.specs.Converted.{next_at}
use Rattle.ncp_play_files.specs.Turning.{message_printed}
use Rattle.ncp_play_files.proofs.Turned.{at_front}
use Rattle.ncp_play_files.proofs.Progress.{from_end, from_more}
use Rattle.ncp_play_files.proofs.converting.convert_rest.Goals as goal

pub returns-in_err-convert_on-clause-output : goal.returns-in_err-convert_on-clause-output
returns-in_err-convert_on-clause-output g c = λ number bytes was said a k.
    let p = err_from_is_err_and c.from_residual.result c.from_residual.ensures.1 in
    let left = g.S.Source.left c.convert_on.new.input.source.now in let written = g.W.Sink.written c.convert_on.new.out.sink.now in
    let turn = c.args.turn in
    let before = c.loop-records.invariant.told bytes was said a k in
    rw (p.1, p.2) (
    before.4 (Err c.in_err-convert_on.field-0.0) left c.convert_on.new.out.page.now written
    (λ n. c.in_err-convert_on.ensures.output n before.0 was before.1 before.2 before.3)
    number)

pub loop-records-preserved : goal.loop-records-preserved
loop-records-preserved g c =
    let turn = c.args.turn in
    record {
      told = λ bytes was said a k.
          let before = c.loop-records.invariant.told bytes was said a k in
          let one = rw c.if-branch.true at (c.in_ok-convert_on.ensures.output 1 before.0 was before.1 before.2 before.3) in
          let more = before.1 ++ message_printed turn.given 1 one.0 in (
            one.1,
            more,
            one.3,
            one.4,
            λ r left page written h.
                before.4 r left page written
                (λ n. from_more (next_at turn.from turn.wanted) (at_front turn.from turn.wanted) (message_printed turn.given) n before.0 one.1 was before.1 page left written one.0 r one.2 (h (number_after n))),
          );
      reads = let taken = c.in_ok-convert_on.ensures.taken c.if-branch.true in omega (arith, taken, c.loop-records.invariant.reads);
      source_mark = c.in_ok-convert_on.ensures.source_mark ∙ or-false _ ∙ c.loop-records.invariant.source_mark;
      writes = let one = rw c.if-branch.true at c.in_ok-convert_on.ensures.writes in omega (arith, one, c.loop-records.invariant.writes);
      sink_mark = c.in_ok-convert_on.ensures.sink_mark ∙ or-false _ ∙ c.loop-records.invariant.sink_mark;
      same_inlet = (c.in_ok-convert_on.ensures.same_inlet.0 ∙ c.loop-records.invariant.same_inlet.0, c.in_ok-convert_on.ensures.same_inlet.1 ∙ c.loop-records.invariant.same_inlet.1);
      same_outlet = (c.in_ok-convert_on.ensures.same_outlet.0 ∙ c.loop-records.invariant.same_outlet.0, c.in_ok-convert_on.ensures.same_outlet.1 ∙ c.loop-records.invariant.same_outlet.1);
    }

pub returns-clause-output : goal.returns-clause-output
returns-clause-output g c = λ number bytes was said a k.
    let left = g.S.Source.left c.convert_on.new.input.source.now in let written = g.W.Sink.written c.convert_on.new.out.sink.now in
    let turn = c.args.turn in
    let before = c.loop-records.invariant.told bytes was said a k in
    before.4 (Ok tt) left c.convert_on.new.out.page.now written
    (λ n.
    from_end (next_at turn.from turn.wanted) (at_front turn.from turn.wanted) (message_printed turn.given) n before.0 was before.1 c.convert_on.new.input.window.now c.convert_on.new.out.page.now left written
    (rw c.if-branch.false at (c.in_ok-convert_on.ensures.output n before.0 was before.1 before.2 before.3)))
    number

pub returns-in_err-convert_on-clause-writes : goal.returns-in_err-convert_on-clause-writes
returns-in_err-convert_on-clause-writes g c =
    let p = err_from_is_err_and c.from_residual.result c.from_residual.ensures.1 in
    rw (p.1, p.2) (omega (arith, c.in_err-convert_on.ensures.writes, c.loop-records.invariant.writes))

pub returns-clause-writes : goal.returns-clause-writes
returns-clause-writes g c = let one = rw c.if-branch.false at c.in_ok-convert_on.ensures.writes in omega (arith, one, c.loop-records.invariant.writes)
