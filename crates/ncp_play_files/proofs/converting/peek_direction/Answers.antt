use Rattle.std.proofs.Common.{◌∙◌, slice_index_or, sym, ap}
use Rattle.std.proofs.lemmas.Result.{err_from_is_err_and}
use Rattle.ncp_play_files.specs.declared.version.Version.TheVariants.{Two}
use Rattle.ncp_play_files.specs.Versions.{direction_by}
use Rattle.ncp_play_files.specs.Converted.{or_to_imp, direction_after}
use Rattle.ncp_play_files.proofs.Files.{ahead_at_end}
use Rattle.ncp_play_files.proofs.Turned.{direction_none, direction_first, none_there}
use Rattle.ncp_play_files.proofs.converting.peek_direction.Goals as goal

pub returns-in_err-need-clause-output : goal.returns-in_err-need-clause-output
returns-in_err-need-clause-output g c = λ bytes a.
    let p = err_from_is_err_and c.from_residual.result c.from_residual.ensures.1 in
    rw (p.1, p.2) (none_there c.need.new.self bytes (g.S.Source.left c.need.new.source) c.in_err-need.ensures.err (c.in_err-need.ensures.moved bytes a))

pub returns-then-not-branch-clause-output : goal.returns-then-not-branch-clause-output
returns-then-not-branch-clause-output g c = λ bytes a.
    let short = c.in_ok-need.ensures.short c.if-not-branch.true in
    let ahead = c.in_ok-need.ensures.moved bytes a in
    (direction_none c.need.new.self short.0 ∙ ap (direction_after Two) (sym (ahead_at_end c.need.new.self bytes (g.S.Source.left c.need.new.source) ahead short.1)), ahead)

pub returns-in-Some-clause-output : goal.returns-in-Some-clause-output
returns-in-Some-clause-output g c = λ bytes a.
    let ahead = c.in_ok-need.ensures.moved bytes a in
    let there = c.in_ok-need.ensures.there c.if-not-branch.false in (
      ap or_to_imp (sym c.in-Some.is ∙ c.direction_by.ensures ∙ ap (λ w. direction_by (slice_index_or w 0 0)) c.unread.ensures.bytes)
          ∙ direction_first c.need.new.self ahead.0 there ∙ ap (direction_after Two) ahead.2,
      ahead,
    )

pub returns-in-None-clause-output : goal.returns-in-None-clause-output
returns-in-None-clause-output g c = λ bytes a.
    let ahead = c.in_ok-need.ensures.moved bytes a in
    let there = c.in_ok-need.ensures.there c.if-not-branch.false in (
      ap or_to_imp (sym c.in-None.is ∙ c.direction_by.ensures ∙ ap (λ w. direction_by (slice_index_or w 0 0)) c.unread.ensures.bytes)
          ∙ direction_first c.need.new.self ahead.0 there ∙ ap (direction_after Two) ahead.2,
      ahead,
    )
