use Rattle.std.proofs.Common.{◌≡◌, ◌++◌, ◌∙◌, ◌||◌, true, None, Some, Ok, drop, slice_index_or, refl, sym, ap, le_trans, arith}
use Rattle.std.proofs.Math.Bool.{or-false}
use Rattle.std.proofs.lemmas.Result.{err_from_is_err_and}
use Rattle.ncp_play_files.specs.Versions.{placed, direction_by, next_capture_point}
use Rattle.ncp_play_files.specs.declared.file.FileFault.TheVariants.{Truncated}
use Rattle.ncp_play_files.proofs.Files.{ahead_at_end, effort_dropped}
use Rattle.ncp_play_files.proofs.Placing.{capture_point_none, first_stays, longer, capture_point_bad, capture_point_cut, capture_point_read}
use Rattle.ncp_play_files.proofs.version.read_capture_point.Goals as goal

pub returns-in_err-need-clause-output : goal.returns-in_err-need-clause-output
returns-in_err-need-clause-output g c = λ bytes a.
    let p = err_from_is_err_and c.from_residual.result c.from_residual.ensures.1 in
    let ahead = c.in_err-need.ensures.moved bytes a in
    rw (p.1, p.2) (c.need.new.self, ahead.0, None, sym ahead.2, ahead.1, tt, capture_point_none c.need.new.self c.in_err-need.ensures.err)

pub returns-then-not-branch-clause-output : goal.returns-then-not-branch-clause-output
returns-then-not-branch-clause-output g c = λ bytes a.
    let short = c.in_ok-need.ensures.short c.if-not-branch.true in
    ap next_capture_point (ahead_at_end c.need.new.self bytes (g.S.Source.left c.need.new.source) (c.in_ok-need.ensures.moved bytes a) short.1) ∙ capture_point_none c.need.new.self short.0

pub returns-in_default-clause-output : goal.returns-in_default-clause-output
returns-in_default-clause-output g c = λ bytes a.
    let ahead = c.in_ok-need.ensures.moved bytes a in
    let named : direction_by (slice_index_or c.need.new.self 0 0) ≡ None = ap (λ w. direction_by (slice_index_or w 0 0)) (sym c.unread.ensures.bytes) ∙ sym c.direction_by.ensures ∙ c.in_default.is in
    ap next_capture_point (sym ahead.2) ∙ capture_point_bad c.need.new.self ahead.0 (c.in_ok-need.ensures.there c.if-not-branch.false) named

pub returns-in_err-need-2-clause-output : goal.returns-in_err-need-2-clause-output
returns-in_err-need-2-clause-output g c = λ bytes a.
    let p = err_from_is_err_and c.from_residual-in_err-need-2.result c.from_residual-in_err-need-2.ensures.1 in
    let ahead = c.in_err-need-2.ensures.moved bytes (c.in_ok-need.ensures.moved bytes a) in
    let there = c.in_ok-need.ensures.there c.if-not-branch.false in
    let grows = c.in_err-need-2.ensures.grows in
    let named : direction_by (slice_index_or c.need.new.self 0 0) ≡ Some c.in-Some.direction = ap (λ w. direction_by (slice_index_or w 0 0)) (sym c.unread.ensures.bytes) ∙ sym c.direction_by.ensures ∙ c.in-Some.is in
    let first = ap direction_by (first_stays c.need.new.self grows.0 c.need-2.new.self grows.1 there) ∙ named in
    rw (p.1, p.2) (c.need-2.new.self, ahead.0, Some Truncated, sym ahead.2, ahead.1, refl, capture_point_cut c.need-2.new.self c.in-Some.direction (longer c.need.new.self grows.0 c.need-2.new.self grows.1 there) c.in_err-need-2.ensures.err first)

pub returns-then-not-branch-2-clause-output : goal.returns-then-not-branch-2-clause-output
returns-then-not-branch-2-clause-output g c = λ bytes a.
    let short = c.in_ok-need-2.ensures.short c.if-not-branch-2.true in
    let there = c.in_ok-need.ensures.there c.if-not-branch.false in
    let grows = c.in_ok-need-2.ensures.grows in
    let named : direction_by (slice_index_or c.need.new.self 0 0) ≡ Some c.in-Some.direction = ap (λ w. direction_by (slice_index_or w 0 0)) (sym c.unread.ensures.bytes) ∙ sym c.direction_by.ensures ∙ c.in-Some.is in
    let first = ap direction_by (first_stays c.need.new.self grows.0 c.need-2.new.self grows.1 there) ∙ named in
    ap next_capture_point (ahead_at_end c.need-2.new.self bytes (g.S.Source.left c.need-2.new.source) (c.in_ok-need-2.ensures.moved bytes (c.in_ok-need.ensures.moved bytes a)) short.1)
    ∙ capture_point_cut c.need-2.new.self c.in-Some.direction (longer c.need.new.self grows.0 c.need-2.new.self grows.1 there) short.0 first

pub returns-clause-output : goal.returns-clause-output
returns-clause-output g c = λ bytes a.
    let ahead = c.in_ok-need-2.ensures.moved bytes (c.in_ok-need.ensures.moved bytes a) in
    let there = c.in_ok-need.ensures.there c.if-not-branch.false in
    let grows = c.in_ok-need-2.ensures.grows in
    let named : direction_by (slice_index_or c.need.new.self 0 0) ≡ Some c.in-Some.direction = ap (λ w. direction_by (slice_index_or w 0 0)) (sym c.unread.ensures.bytes) ∙ sym c.direction_by.ensures ∙ c.in-Some.is in
    let first = ap direction_by (first_stays c.need.new.self grows.0 c.need-2.new.self grows.1 there) ∙ named in (
      drop 2 c.need-2.new.self ++ ahead.0,
      ap next_capture_point (sym ahead.2) ∙ capture_point_read c.need-2.new.self ahead.0 c.in-Some.direction (c.in_ok-need-2.ensures.there c.if-not-branch-2.false) first
          ∙ ap (λ w. Ok (Some (placed c.in-Some.direction (slice_index_or w 1 0), drop 2 c.need-2.new.self ++ ahead.0))) (sym c.unread-2.ensures.bytes),
      (ahead.0, ahead.1, ap (λ w. w ++ ahead.0) c.skip.ensures),
    )

pub returns-in_err-need-2-clause-mark : goal.returns-in_err-need-2-clause-mark
returns-in_err-need-2-clause-mark g c =
    let p = err_from_is_err_and c.from_residual-in_err-need-2.result c.from_residual-in_err-need-2.ensures.1 in
    rw (p.1, p.2) (c.in_err-need-2.ensures.mark ∙ ap (λ b. b || true) (c.in_ok-need.ensures.mark ∙ or-false _))

pub returns-in_err-need-2-clause-reads : goal.returns-in_err-need-2-clause-reads
returns-in_err-need-2-clause-reads g c = le_trans (c.in_ok-need.ensures.taken c.if-not-branch.false) c.in_err-need-2.ensures.reads

pub returns-in_err-need-2-clause-read_measure : goal.returns-in_err-need-2-clause-read_measure
returns-in_err-need-2-clause-read_measure g c = le_trans c.in_err-need-2.ensures.read_measure c.in_ok-need.ensures.read_measure

pub returns-then-not-branch-2-clause-mark : goal.returns-then-not-branch-2-clause-mark
returns-then-not-branch-2-clause-mark g c = c.in_ok-need-2.ensures.mark ∙ or-false _ ∙ c.in_ok-need.ensures.mark

pub returns-then-not-branch-2-clause-reads : goal.returns-then-not-branch-2-clause-reads
returns-then-not-branch-2-clause-reads g c = le_trans (c.in_ok-need.ensures.taken c.if-not-branch.false) c.in_ok-need-2.ensures.reads

pub returns-then-not-branch-2-clause-read_measure : goal.returns-then-not-branch-2-clause-read_measure
returns-then-not-branch-2-clause-read_measure g c = le_trans c.in_ok-need-2.ensures.read_measure c.in_ok-need.ensures.read_measure

pub returns-clause-mark : goal.returns-clause-mark
returns-clause-mark g c = c.in_ok-need-2.ensures.mark ∙ or-false _ ∙ c.in_ok-need.ensures.mark

pub returns-clause-reads : goal.returns-clause-reads
returns-clause-reads g c = le_trans (c.in_ok-need.ensures.taken c.if-not-branch.false) c.in_ok-need-2.ensures.reads

pub returns-clause-taken : goal.returns-clause-taken
returns-clause-taken g c = λ found. le_trans (c.in_ok-need.ensures.taken c.if-not-branch.false) (c.in_ok-need-2.ensures.taken c.if-not-branch-2.false)

pub returns-clause-read_measure : goal.returns-clause-read_measure
returns-clause-read_measure g c =
    le_trans (effort_dropped (g.S.Source.reads c.need-2.new.source) 2 c.need-2.new.self c.skip.new.self c.skip.ensures) (le_trans c.in_ok-need-2.ensures.read_measure c.in_ok-need.ensures.read_measure)

pub returns-in_err-need-2-clause-lowers : goal.returns-in_err-need-2-clause-lowers
returns-in_err-need-2-clause-lowers g c = le_trans c.in_err-need-2.ensures.lowers c.in_ok-need.ensures.lowers

pub returns-then-not-branch-2-clause-lowers : goal.returns-then-not-branch-2-clause-lowers
returns-then-not-branch-2-clause-lowers g c = le_trans c.in_ok-need-2.ensures.lowers c.in_ok-need.ensures.lowers

pub returns-clause-lowers : goal.returns-clause-lowers
returns-clause-lowers g c = le_trans c.in_ok-need-2.ensures.lowers c.in_ok-need.ensures.lowers

pub returns-clause-unread : goal.returns-clause-unread
returns-clause-unread g c = λ found same.
    let second : g.S.Source.reads c.need-2.new.source ≡ g.S.Source.reads c.need.new.source = omega (arith, same, c.in_ok-need-2.ensures.lowers, c.in_ok-need.ensures.lowers) in
    let first : g.S.Source.reads c.need.new.source ≡ g.S.Source.reads c.args.input.now.source.now = omega (arith, same, c.in_ok-need-2.ensures.lowers, c.in_ok-need.ensures.lowers) in
    c.skip.ensures ∙ ap (λ w. drop 2 w) (c.in_ok-need-2.ensures.unread second ∙ c.in_ok-need.ensures.unread first)
