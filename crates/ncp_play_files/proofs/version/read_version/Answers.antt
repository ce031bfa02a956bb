use Rattle.std.proofs.Common.{◌++◌, drop, take, refl, sym, ap, ◌∙◌}
use Rattle.std.proofs.lemmas.List.{drop-append-le}
use Rattle.std.proofs.lemmas.Result.{err_from_is_err_and}
use Rattle.ncp_play_files.specs.File.{version_of}
use Rattle.ncp_play_files.proofs.Files.{ahead_at_end, version_of-short, version_of-take, version_of-append}
use Rattle.ncp_play_files.proofs.version.read_version.Goals as goal

pub returns-in_err-need-clause-output : goal.returns-in_err-need-clause-output
returns-in_err-need-clause-output g c = λ bytes a.
    let p = err_from_is_err_and c.from_residual.result c.from_residual.ensures.1 in
    rw (p.1, p.2) (c.in_err-need.ensures.err, c.in_err-need.ensures.moved bytes a)

pub returns-then-not-branch-clause-output : goal.returns-then-not-branch-clause-output
returns-then-not-branch-clause-output g c = λ bytes a.
    let short = c.in_ok-need.ensures.short c.if-not-branch.true in
    (refl, ap version_of (ahead_at_end c.need.new.self bytes (g.S.Source.left c.need.new.source) (c.in_ok-need.ensures.moved bytes a) short.1) ∙ version_of-short c.need.new.self short.0)

pub returns-in_default-clause-output : goal.returns-in_default-clause-output
returns-in_default-clause-output g c = λ bytes a.
    let ahead = c.in_ok-need.ensures.moved bytes a in (
      refl,
      ap version_of (sym ahead.2) ∙ version_of-append c.need.new.self ahead.0 (c.in_ok-need.ensures.there c.if-not-branch.false) ∙ sym (version_of-take c.need.new.self)
          ∙ ap (λ w. version_of (take 4 w)) (sym c.unread.ensures.bytes) ∙ sym c.version_in.ensures ∙ c.in_default.is,
    )

pub returns-clause-output : goal.returns-clause-output
returns-clause-output g c = λ bytes a.
    let ahead = c.in_ok-need.ensures.moved bytes a in
    let there = c.in_ok-need.ensures.there c.if-not-branch.false in (
      ap version_of (sym ahead.2) ∙ version_of-append c.need.new.self ahead.0 there ∙ sym (version_of-take c.need.new.self)
          ∙ ap (λ w. version_of (take 4 w)) (sym c.unread.ensures.bytes) ∙ sym c.version_in.ensures ∙ c.in-Some.is,
      (ahead.0, ahead.1, ap (λ w. w ++ ahead.0) c.skip.ensures ∙ sym (drop-append-le 4 c.need.new.self ahead.0 there) ∙ ap (drop 4) ahead.2),
    )
