use Rattle.std.proofs.Common.{◌++◌, decimal, List, ℕ, ap, ◌∙◌}
use Rattle.std.proofs.lemmas.List.{append_assoc}
use Rattle.ncp_play_buffer.proofs.field.push_field.Goals as goal

pub returns-clause-bytes : goal.returns-clause-bytes
returns-clause-bytes c =
    c.push_decimal.ensures.bytes
    ∙ ap (λ (page : List ℕ). page ++ decimal c.args.number) c.push_text.ensures.bytes
    ∙ append_assoc c.args.page.now c.args.name.now (decimal c.args.number)
