use Rattle.std.proofs.Common.{◌≡◌, ◌≢◌, ◌<◌, ◌++◌, ◌||◌, true, length, sym, ap, ◌∙◌, le_trans, arith}
use Rattle.std.proofs.Math.Bool.{or-false}
use Rattle.std.proofs.lemmas.List.{length-append}
use Rattle.std.proofs.lemmas.Bool.{eqb-false}
use Rattle.std.proofs.lemmas.Bool.Decides.{nat_tests}
use Rattle.byteorder.specs.Endian.{big_number}
use Rattle.byteorder.specs.Numbers.{big_from-append}
use Rattle.std.proofs.lemmas.Result.{err_from_is_err_and}
use Rattle.ncp_play_files.specs.File.{next_record}
use Rattle.ncp_play_files.proofs.Files.{ahead_at_end, next_none, next_cut, next_too_long, next_short, cut_in_length, cut_in_bytes, number_grows}
use Rattle.ncp_play_files.proofs.file.need_parts.Goals as goal

pub returns-in_err-need-clause-output : goal.returns-in_err-need-clause-output
returns-in_err-need-clause-output g c = λ bytes a.
    let p = err_from_is_err_and c.from_residual.result c.from_residual.ensures.1 in
    rw (p.1, p.2) (cut_in_length c.need.new.self bytes (g.S.Source.left c.need.new.source) c.in_err-need.ensures.err (c.in_err-need.ensures.moved bytes a))

pub returns-then-is_empty-clause-output : goal.returns-then-is_empty-clause-output
returns-then-is_empty-clause-output g c = λ bytes a.
    let whole = ahead_at_end c.need.new.self bytes (g.S.Source.left c.need.new.source) (c.in_ok-need.ensures.moved bytes a) (c.in_ok-need.ensures.short c.if-not-branch.true).1 in
    let none : length c.unread.result.now ≡ 0 = grind (arith, nat_tests, c.if-is_empty.ensures) in
    next_none bytes (ap length (whole ∙ sym c.unread.ensures.bytes) ∙ none)

pub returns-else-is_empty-clause-output : goal.returns-else-is_empty-clause-output
returns-else-is_empty-clause-output g c = λ bytes a.
    let short = c.in_ok-need.ensures.short c.if-not-branch.true in
    let whole = ahead_at_end c.need.new.self bytes (g.S.Source.left c.need.new.source) (c.in_ok-need.ensures.moved bytes a) short.1 in
    let some : length c.unread.result.now ≢ 0 = eqb-false _ _ (sym c.if-is_empty.ensures) in
    let same : length bytes ≡ length c.unread.result.now = ap length (whole ∙ sym c.unread.ensures.bytes) in
    let less : length bytes < 2 = omega (arith, short.0, ap length whole) in
    next_cut bytes (λ e. some (sym same ∙ e)) less

pub returns-in_err-len-clause-output : goal.returns-in_err-len-clause-output
returns-in_err-len-clause-output g c = λ bytes a.
    let p = err_from_is_err_and c.from_residual-in_err-len.result c.from_residual-in_err-len.ensures.1 in
    let ahead = c.in_ok-need.ensures.moved bytes a in
    let there = c.in_ok-need.ensures.there c.if-not-branch.false in
    let len : big_number 2 c.unread-2.result.now ≡ big_number 2 c.need.new.self = ap (big_number 2) c.unread-2.ensures.bytes in
    rw (p.1, p.2, c.in_err-len.ensures.err.0) (
    ap next_record (sym ahead.2)
    ∙ next_too_long (c.need.new.self ++ ahead.0) (big_number 2 c.unread-2.result.now) (simp length-append (omega arith)) (len ∙ sym (big_from-append 2 c.need.new.self ahead.0 there)) c.in_err-len.ensures.err.1)

pub returns-in_err-len-clause-mark : goal.returns-in_err-len-clause-mark
returns-in_err-len-clause-mark g c =
    let p = err_from_is_err_and c.from_residual-in_err-len.result c.from_residual-in_err-len.ensures.1 in
    rw (p.1, p.2) (c.in_ok-need.ensures.mark ∙ ap (λ b. g.S.Source.has_failed c.args.input.now.source.now || b) (sym c.in_err-len.ensures.read))

pub returns-in_err-len-clause-other : goal.returns-in_err-len-clause-other
returns-in_err-len-clause-other g c =
    let p = err_from_is_err_and c.from_residual-in_err-len.result c.from_residual-in_err-len.ensures.1 in
    rw (p.1, p.2) c.in_err-len.ensures.write

pub returns-in_err-need-2-clause-output : goal.returns-in_err-need-2-clause-output
returns-in_err-need-2-clause-output g c = λ bytes a.
    let p = err_from_is_err_and c.from_residual-in_err-need-2.result c.from_residual-in_err-need-2.ensures.1 in
    let there = c.in_ok-need.ensures.there c.if-not-branch.false in
    let grows = c.in_err-need-2.ensures.grows in
    let len : c.in_ok-len.len ≡ big_number 2 c.need.new.self = c.in_ok-len.ensures.ok.0 ∙ ap (big_number 2) c.unread-2.ensures.bytes in
    rw (p.1, p.2) (
    cut_in_bytes c.need-2.new.self bytes (g.S.Source.left c.need-2.new.source) c.in_ok-len.len
    (omega (arith, simp length-append at (ap length grows.1)))
    (len ∙ sym (number_grows c.need.new.self grows.0 c.need-2.new.self grows.1 there)) c.in_ok-len.ensures.ok.1
    (omega (arith, c.in_err-need-2.ensures.err, c.div_ceil.ensures))
    (c.in_err-need-2.ensures.moved bytes (c.in_ok-need.ensures.moved bytes a)))

pub returns-then-not-branch-2-clause-output : goal.returns-then-not-branch-2-clause-output
returns-then-not-branch-2-clause-output g c = λ bytes a.
    let there = c.in_ok-need.ensures.there c.if-not-branch.false in
    let grows = c.in_ok-need-2.ensures.grows in
    let short = c.in_ok-need-2.ensures.short c.if-not-branch-2.true in
    let len : c.in_ok-len.len ≡ big_number 2 c.need.new.self = c.in_ok-len.ensures.ok.0 ∙ ap (big_number 2) c.unread-2.ensures.bytes in
    ap next_record (ahead_at_end c.need-2.new.self bytes (g.S.Source.left c.need-2.new.source) (c.in_ok-need-2.ensures.moved bytes (c.in_ok-need.ensures.moved bytes a)) short.1)
    ∙ next_short c.need-2.new.self c.in_ok-len.len (omega (arith, simp length-append at (ap length grows.1)))
    (len ∙ sym (number_grows c.need.new.self grows.0 c.need-2.new.self grows.1 there)) c.in_ok-len.ensures.ok.1 (omega (arith, short.0, c.div_ceil.ensures))

pub returns-in_err-need-2-clause-mark : goal.returns-in_err-need-2-clause-mark
returns-in_err-need-2-clause-mark g c =
    let p = err_from_is_err_and c.from_residual-in_err-need-2.result c.from_residual-in_err-need-2.ensures.1 in
    rw (p.1, p.2) (c.in_err-need-2.ensures.mark ∙ ap (λ b. b || true) (c.in_ok-need.ensures.mark ∙ or-false _))

pub returns-in_err-need-2-clause-reads : goal.returns-in_err-need-2-clause-reads
returns-in_err-need-2-clause-reads g c = le_trans (c.in_ok-need.ensures.taken c.if-not-branch.false) c.in_err-need-2.ensures.reads

pub returns-in_err-need-2-clause-read_measure : goal.returns-in_err-need-2-clause-read_measure
returns-in_err-need-2-clause-read_measure g c = le_trans c.in_err-need-2.ensures.read_measure c.in_ok-need.ensures.read_measure

pub returns-then-not-branch-2-clause-mark : goal.returns-then-not-branch-2-clause-mark
returns-then-not-branch-2-clause-mark g c = c.in_ok-need-2.ensures.mark ∙ or-false _ ∙ c.in_ok-need.ensures.mark

pub returns-then-not-branch-2-clause-reads : goal.returns-then-not-branch-2-clause-reads
returns-then-not-branch-2-clause-reads g c = le_trans (c.in_ok-need.ensures.taken c.if-not-branch.false) c.in_ok-need-2.ensures.reads

pub returns-then-not-branch-2-clause-read_measure : goal.returns-then-not-branch-2-clause-read_measure
returns-then-not-branch-2-clause-read_measure g c = le_trans c.in_ok-need-2.ensures.read_measure c.in_ok-need.ensures.read_measure

pub returns-clause-output : goal.returns-clause-output
returns-clause-output g c = λ bytes a. c.in_ok-need-2.ensures.moved bytes (c.in_ok-need.ensures.moved bytes a)

pub returns-clause-mark : goal.returns-clause-mark
returns-clause-mark g c = c.in_ok-need-2.ensures.mark ∙ or-false _ ∙ c.in_ok-need.ensures.mark

pub returns-clause-reads : goal.returns-clause-reads
returns-clause-reads g c = le_trans (c.in_ok-need.ensures.taken c.if-not-branch.false) c.in_ok-need-2.ensures.reads

pub returns-clause-taken : goal.returns-clause-taken
returns-clause-taken g c = λ found. le_trans (c.in_ok-need.ensures.taken c.if-not-branch.false) (c.in_ok-need-2.ensures.taken c.if-not-branch-2.false)

pub returns-clause-read_measure : goal.returns-clause-read_measure
returns-clause-read_measure g c = le_trans c.in_ok-need-2.ensures.read_measure c.in_ok-need.ensures.read_measure

pub returns-in_err-need-2-clause-lowers : goal.returns-in_err-need-2-clause-lowers
returns-in_err-need-2-clause-lowers g c = le_trans c.in_err-need-2.ensures.lowers c.in_ok-need.ensures.lowers

pub returns-then-not-branch-2-clause-lowers : goal.returns-then-not-branch-2-clause-lowers
returns-then-not-branch-2-clause-lowers g c = le_trans c.in_ok-need-2.ensures.lowers c.in_ok-need.ensures.lowers

pub returns-clause-lowers : goal.returns-clause-lowers
returns-clause-lowers g c = le_trans c.in_ok-need-2.ensures.lowers c.in_ok-need.ensures.lowers

pub returns-clause-unread : goal.returns-clause-unread
returns-clause-unread g c = λ found same.
    let second : g.S.Source.reads c.need-2.new.source ≡ g.S.Source.reads c.need.new.source = omega (arith, same, c.in_ok-need-2.ensures.lowers, c.in_ok-need.ensures.lowers) in
    let first : g.S.Source.reads c.need.new.source ≡ g.S.Source.reads c.args.input.now.source.now = omega (arith, same, c.in_ok-need-2.ensures.lowers, c.in_ok-need.ensures.lowers) in
    c.in_ok-need-2.ensures.unread second ∙ c.in_ok-need.ensures.unread first
