-- No two spaces follow one another, so the gap is at the end.
use Rattle.std.proofs.Common.{codes, inl, inr, sym, ◌∙◌}
use Rattle.std.proofs.lemmas.Bool.{false≢true}
use Rattle.std.proofs.lemmas.Str.Pattern.{ends_text}
use Rattle.ncp_play_explain.proofs.spelling.has_wide_gap.Goals as goal

pub returns-else-has_part : goal.returns-else-has_part
returns-else-has_part c =
    let end = ends_text c.ends_with.result (codes " ") c.args.text.now c.ends_with.ensures.cases in
    (λ t. inr (sym end ∙ t), λ gap. elim gap [ inl s ↦ absurd (false≢true (sym c.if-has_part.false ∙ c.has_part.ensures.1 s)) | inr e ↦ end ∙ e ])
