use Rattle.std.proofs.Common.{◌++◌, ℕ, List, ap, ◌∙◌, codes}
use Rattle.std.proofs.lemmas.List.{append_assoc}
use Rattle.ncp_play_buffer.specs.Lines.{field}
use Rattle.ncp_play_follow.specs.ConnectionLines.{of_words, shown_words}
use Rattle.ncp_play_follow.proofs.connection_line.push_shown.Goals as goal

pub returns-clause-bytes : goal.returns-clause-bytes
unfolding shown_words
returns-clause-bytes c =
    let of : List ℕ = of_words c.args.shown c.args.said in
    c.push_of.ensures.bytes ∙ ap (λ (zs : List ℕ). zs ++ of) c.push_field.ensures.bytes ∙ append_assoc c.args.page.now (field (codes "  text bits=") c.args.shown) of
