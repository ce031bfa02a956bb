use Rattle.std.proofs.Common.{ℕ, ◌++◌, codes, ap, ◌∙◌}
use Rattle.ncp_play_buffer.specs.Lines.{field}
use Rattle.ncp_play_audit.proofs.Words.{word_by_word}
use Rattle.ncp_play_audit.proofs.rule_words.push_text_size.Goals as goal

pub returns-clause-bytes : goal.returns-clause-bytes
returns-clause-bytes c =
    word_by_word c.args.page.now c.push_field.new.page c.push_field-2.new.page c.push_field-3.new.page
    (field (codes "text-size link=") c.args.link) (field (codes " size=") c.args.size) (field (codes " of=") c.args.asked)
    (c.push_field.ensures.bytes ∙ ap (λ (n : ℕ). c.args.page.now ++ field (codes "text-size link=") n) c.from.ensures)
    (c.push_field-2.ensures.bytes ∙ ap (λ (n : ℕ). c.push_field.new.page ++ field (codes " size=") n) c.from-2.ensures)
    (c.push_field-3.ensures.bytes ∙ ap (λ (n : ℕ). c.push_field-2.new.page ++ field (codes " of=") n) c.from-3.ensures)
