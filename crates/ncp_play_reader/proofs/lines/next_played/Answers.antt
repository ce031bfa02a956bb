use Rattle.std.proofs.Common.{◌∙◌, ◌||◌, true, false, Ok, refl, sym, ap, lt_of_lt_of_le, arith}
use Rattle.std.proofs.Math.Bool.{or-false}
use Rattle.ncp_play_script.specs.declared.line_buffer.LineKind.TheVariants as kinds
use Rattle.ncp_play_reader.specs.declared.lines.Lines.{Lines}
use Rattle.ncp_play_reader.specs.declared.lines.NextLine.TheVariants.{Over, TooLong, Played}
use Rattle.ncp_play_reader.proofs.Nexts.{read_some, none_to_read, goes_with_lf, reads_skipped, skipped_last, next_failed, next_is}
use Rattle.ncp_play_reader.proofs.lines.next_played.Goals as goal

pub returns-in_err-ended-clause-output : goal.returns-in_err-ended-clause-output
returns-in_err-ended-clause-output g c = λ bytes ahead.
    let left = g.S.Source.left c.next_line.new.source in
    let before = c.loop-ended.invariant.told bytes ahead in
    let lines : Lines = record { window = c.next_line.new.window; line = c.next_line.new.line; number = c.loop-ended.lines.number } in
    before.2 c.from_residual.result lines left (next_failed c.loop-ended.lines.number before.0 c.from_residual.result lines left c.from_residual.ensures.0 (c.in_err-ended.ensures.output before.0 before.1))

pub loop-ended-preserved : goal.loop-ended-preserved
loop-ended-preserved g c =
    record {
      told = λ bytes ahead.
          let left = g.S.Source.left c.next_line.new.source in
          let before = c.loop-ended.invariant.told bytes ahead in
          let first = c.loop-ended.lines.number in
          let read = read_some before.0 c.in_ok-ended.field-0 c.in-Some.ended c.next_line.new.line c.next_line.new.window left c.in-Some.is (c.in_ok-ended.ensures.output before.0 before.1) in
          let kind = sym read.3 ∙ sym c.kind.ensures ∙ c.in-Skipped.is in (
            read.0.behind,
            read.5,
            λ r lines left h. before.2 r lines left (reads_skipped first before.0 read.0 read.1 (read.2 ∙ c.if-ended.true) kind r lines left (rw c.saturating_add-lines.ensures at h)),
          );
      read_measure = let less = c.in_ok-ended.ensures.read_measure (goes_with_lf c.in_ok-ended.field-0 c.in-Some.ended c.in-Some.is c.if-ended.true) in omega (arith, less, c.loop-ended.invariant.read_measure);
      mark = c.in_ok-ended.ensures.mark ∙ or-false _ ∙ c.loop-ended.invariant.mark;
    }

pub returns-in-Skipped-2-clause-output : goal.returns-in-Skipped-2-clause-output
returns-in-Skipped-2-clause-output g c = λ bytes ahead.
    let left = g.S.Source.left c.next_line.new.source in
    let before = c.loop-ended.invariant.told bytes ahead in
    let first = c.loop-ended.lines.number in
    let read = read_some before.0 c.in_ok-ended.field-0 c.in-Some.ended c.next_line.new.line c.next_line.new.window left c.in-Some.is (c.in_ok-ended.ensures.output before.0 before.1) in
    let kind = sym read.3 ∙ sym c.kind.ensures ∙ c.in-Skipped-2.is in
    let lines : Lines = record { window = c.next_line.new.window; line = c.next_line.new.line; number = first } in
    before.2 (Ok Over) lines left (skipped_last first before.0 read.0 read.1 (read.2 ∙ c.if-ended.false) kind)

pub returns-in-TooLong-clause-output : goal.returns-in-TooLong-clause-output
returns-in-TooLong-clause-output g c = λ bytes ahead.
    let left = g.S.Source.left c.next_line.new.source in
    let before = c.loop-ended.invariant.told bytes ahead in
    let first = c.loop-ended.lines.number in
    let read = read_some before.0 c.in_ok-ended.field-0 c.in-Some.ended c.next_line.new.line c.next_line.new.window left c.in-Some.is (c.in_ok-ended.ensures.output before.0 before.1) in
    let kind = sym read.3 ∙ sym c.kind.ensures ∙ c.in-TooLong.is in
    let lines : Lines = record { window = c.next_line.new.window; line = c.next_line.new.line; number = c.saturating_add-lines.result } in
    before.2 (Ok (TooLong first)) lines left (read.0, (next_is first before.0 read.0 read.1 kinds.TooLong kind (λ it others. refl), kind, c.saturating_add-lines.ensures, read.5))

pub returns-in-Played-clause-output : goal.returns-in-Played-clause-output
returns-in-Played-clause-output g c = λ bytes ahead.
    let left = g.S.Source.left c.next_line.new.source in
    let before = c.loop-ended.invariant.told bytes ahead in
    let first = c.loop-ended.lines.number in
    let read = read_some before.0 c.in_ok-ended.field-0 c.in-Some.ended c.next_line.new.line c.next_line.new.window left c.in-Some.is (c.in_ok-ended.ensures.output before.0 before.1) in
    let kind = sym read.3 ∙ sym c.kind.ensures ∙ c.in-Played.is in
    let lines : Lines = record { window = c.next_line.new.window; line = c.next_line.new.line; number = c.saturating_add-lines.result } in
    before.2 (Ok (Played first c.in-Some.ended)) lines left
    (read.0, (next_is first before.0 read.0 read.1 kinds.Played kind (λ it others. refl), kind, c.saturating_add-lines.ensures, read.5), read.2, read.4 kind)

pub returns-clause-output : goal.returns-clause-output
returns-clause-output g c = λ bytes ahead.
    let left = g.S.Source.left c.next_line.new.source in
    let before = c.loop-ended.invariant.told bytes ahead in
    let first = c.loop-ended.lines.number in
    let lines : Lines = record { window = c.next_line.new.window; line = c.next_line.new.line; number = first } in
    before.2 (Ok Over) lines left (none_to_read first before.0 c.next_line.new.line c.next_line.new.window c.in_ok-ended.field-0 left c.in_default.not-Some (c.in_ok-ended.ensures.output before.0 before.1))

pub returns-in_err-ended-clause-mark : goal.returns-in_err-ended-clause-mark
returns-in_err-ended-clause-mark g c =
    c.in_err-ended.ensures.mark ∙ ap (λ b. b || true) c.loop-ended.invariant.mark ∙ ap (λ failed. g.S.Source.has_failed c.args.source.now || failed) (sym c.from_residual.ensures.0)

pub loop-ended-smaller : goal.loop-ended-smaller
loop-ended-smaller g c = c.in_ok-ended.ensures.read_measure (goes_with_lf c.in_ok-ended.field-0 c.in-Some.ended c.in-Some.is c.if-ended.true)

pub returns-in-Skipped-2-clause-mark : goal.returns-in-Skipped-2-clause-mark
returns-in-Skipped-2-clause-mark g c = c.in_ok-ended.ensures.mark ∙ ap (λ b. b || false) c.loop-ended.invariant.mark

pub returns-in-TooLong-clause-mark : goal.returns-in-TooLong-clause-mark
returns-in-TooLong-clause-mark g c = c.in_ok-ended.ensures.mark ∙ ap (λ b. b || false) c.loop-ended.invariant.mark

pub returns-in-Played-clause-read_measure : goal.returns-in-Played-clause-read_measure
returns-in-Played-clause-read_measure g c = λ goes.
    lt_of_lt_of_le (c.in_ok-ended.ensures.read_measure (goes_with_lf c.in_ok-ended.field-0 c.in-Some.ended c.in-Some.is goes)) c.loop-ended.invariant.read_measure

pub returns-in-Played-clause-mark : goal.returns-in-Played-clause-mark
returns-in-Played-clause-mark g c = c.in_ok-ended.ensures.mark ∙ ap (λ b. b || false) c.loop-ended.invariant.mark

pub returns-clause-mark : goal.returns-clause-mark
returns-clause-mark g c = c.in_ok-ended.ensures.mark ∙ ap (λ b. b || false) c.loop-ended.invariant.mark
