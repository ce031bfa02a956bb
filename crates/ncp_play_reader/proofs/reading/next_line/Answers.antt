use Rattle.std.proofs.Common.{◌≡◌, ◌-◌, ◌||◌, true, false, length, sym, ap, ◌∙◌, le_trans, arith}
use Rattle.std.proofs.Math.Bool.{or-false}
use Rattle.std.proofs.lemmas.List.{length-drop}
use Rattle.ncp_play_reader.proofs.Pieces.{moved, goes_with, ends_with, none_left, last_left, fails, failed_line, no_text, some_text, effort_ends, effort_goes}
use Rattle.ncp_play_reader.proofs.reading.next_line.Goals as goal

pub returns-in_err-need-clause-output : goal.returns-in_err-need-clause-output
returns-in_err-need-clause-output g c = λ bytes ahead.
    let left = g.S.Source.left in
    let before = c.loop-line.invariant.told bytes ahead in
    let under = moved bytes c.loop-line.line c.loop-line.window c.need.new.self (left c.loop-line.source) (left c.need.new.source) c.in_err-need.ensures.moved before in
    failed_line bytes c.loop-line.line c.need.new.self (left c.need.new.source) c.from_residual.result c.from_residual.ensures.0
    (fails bytes c.loop-line.line c.need.new.self (left c.need.new.source) under c.in_err-need.ensures.err)

pub returns-in-Some-clause-output : goal.returns-in-Some-clause-output
returns-in-Some-clause-output g c = λ bytes ahead.
    let left = g.S.Source.left in
    let before = c.loop-line.invariant.told bytes ahead in
    let under = moved bytes c.loop-line.line c.loop-line.window c.need.new.self (left c.loop-line.source) (left c.need.new.source) c.in_ok-need.ensures.moved before in
    ends_with bytes c.loop-line.line c.take.new.self c.need.new.self c.unread.result.now c.skip.new.self (left c.need.new.source) c.in-Some.used under c.unread.ensures.bytes c.in-Some.ensures.line
    c.in-Some.ensures.used c.skip.ensures

pub loop-line-preserved : goal.loop-line-preserved
loop-line-preserved g c =
    record {
      told = λ bytes ahead.
          let left = g.S.Source.left in
          let before = c.loop-line.invariant.told bytes ahead in
          let under = moved bytes c.loop-line.line c.loop-line.window c.need.new.self (left c.loop-line.source) (left c.need.new.source) c.in_ok-need.ensures.moved before in
          goes_with bytes c.loop-line.line c.take.new.self c.need.new.self c.unread.result.now c.skip-in-None.new.self (left c.need.new.source) (length c.unread-in-None.result.now) under c.unread.ensures.bytes
          c.in-None.ensures.line c.in-None.ensures.used (ap length c.unread-in-None.ensures.bytes) c.skip-in-None.ensures;
      read_measure =
          let count = length c.unread-in-None.result.now in
          let shorter : length c.skip-in-None.new.self ≡ length c.need.new.self - count = ap length c.skip-in-None.ensures ∙ length-drop count c.need.new.self in
          let one = c.in_ok-need.ensures.read_measure in
          omega (arith, one, shorter, c.loop-line.invariant.read_measure);
      mark = c.in_ok-need.ensures.mark ∙ or-false _ ∙ c.loop-line.invariant.mark;
    }

pub returns-then-is_empty-clause-output : goal.returns-then-is_empty-clause-output
returns-then-is_empty-clause-output g c = λ bytes ahead.
    let left = g.S.Source.left in
    let before = c.loop-line.invariant.told bytes ahead in
    let under = moved bytes c.loop-line.line c.loop-line.window c.need.new.self (left c.loop-line.source) (left c.need.new.source) c.in_ok-need.ensures.moved before in
    let at = c.in_ok-need.ensures.short c.if-branch.false in
    let none = no_text c.text.result.now c.loop-line.line c.text.ensures c.if-is_empty.ensures in
    none_left bytes c.loop-line.line c.need.new.self (left c.need.new.source) under at.0 at.1 none

pub returns-clause-output : goal.returns-clause-output
returns-clause-output g c = λ bytes ahead.
    let left = g.S.Source.left in
    let before = c.loop-line.invariant.told bytes ahead in
    let under = moved bytes c.loop-line.line c.loop-line.window c.need.new.self (left c.loop-line.source) (left c.need.new.source) c.in_ok-need.ensures.moved before in
    let at = c.in_ok-need.ensures.short c.if-branch.false in
    let some = some_text c.text.result.now c.loop-line.line c.text.ensures c.if-is_empty.ensures in
    last_left bytes c.loop-line.line c.need.new.self (left c.need.new.source) under at.0 at.1 some

pub returns-in_err-need-clause-mark : goal.returns-in_err-need-clause-mark
returns-in_err-need-clause-mark g c =
    c.in_err-need.ensures.mark ∙ ap (λ b. b || true) c.loop-line.invariant.mark ∙ ap (λ failed. g.S.Source.has_failed c.args.source.now || failed) (sym c.from_residual.ensures.0)

pub returns-in-Some-clause-read_measure : goal.returns-in-Some-clause-read_measure
returns-in-Some-clause-read_measure g c = λ found.
    effort_ends (g.S.Source.reads c.need.new.source) _ c.in-Some.used c.need.new.self c.unread.result.now c.skip.new.self c.unread.ensures.bytes c.in-Some.ensures.used c.skip.ensures
    (le_trans c.in_ok-need.ensures.read_measure c.loop-line.invariant.read_measure)

pub returns-in-Some-clause-mark : goal.returns-in-Some-clause-mark
returns-in-Some-clause-mark g c = c.in_ok-need.ensures.mark ∙ ap (λ b. b || false) c.loop-line.invariant.mark

pub loop-line-smaller : goal.loop-line-smaller
loop-line-smaller g c =
    effort_goes (g.S.Source.reads c.need.new.source) _ c.need.new.self c.skip-in-None.new.self (length c.unread-in-None.result.now) (c.in_ok-need.ensures.there c.if-branch.true) (ap length c.unread-in-None.ensures.bytes) c.skip-in-None.ensures
    c.in_ok-need.ensures.read_measure

pub returns-then-is_empty-clause-mark : goal.returns-then-is_empty-clause-mark
returns-then-is_empty-clause-mark g c = c.in_ok-need.ensures.mark ∙ ap (λ b. b || false) c.loop-line.invariant.mark

pub returns-clause-mark : goal.returns-clause-mark
returns-clause-mark g c = c.in_ok-need.ensures.mark ∙ ap (λ b. b || false) c.loop-line.invariant.mark
