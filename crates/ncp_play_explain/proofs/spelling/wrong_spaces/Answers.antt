-- A gap, where neither a space in front nor a remark was found.
use Rattle.std.proofs.Common.{◌≡◌, false, codes, nat_eq, inr, sym, ◌∙◌}
use Rattle.std.specs.List.{starts_with}
use Rattle.std.proofs.lemmas.Bool.{false≢true}
use Rattle.std.proofs.lemmas.Str.Pattern.{starts_text}
use Rattle.ncp_play_explain.proofs.spelling.wrong_spaces.Goals as goal

pub returns-then-has_wide_gap-clause-printed : goal.returns-then-has_wide_gap-clause-printed
returns-then-has_wide_gap-clause-printed c =
    let front : starts_with nat_eq c.args.line.now (codes " ") ≡ false = sym (starts_text c.starts_with.result (codes " ") c.args.line.now c.starts_with.ensures.cases) ∙ c.if-starts_with.false in
    rw front (inr (λ remark. false≢true (sym c.if-has_part.false ∙ c.has_part.ensures.1 remark), c.has_wide_gap.ensures.0 c.if-has_wide_gap.true, c.in_ok-format-3.ensures.ok))
