use Rattle.std.proofs.Common.{ℕ, ◌++◌, codes, ap, ◌∙◌}
use Rattle.ncp_play_buffer.specs.Lines.{field}
use Rattle.ncp_play_audit.specs.FindingLines.{unopened_word}
use Rattle.ncp_play_audit.proofs.Words.{word_and_pair}
use Rattle.ncp_play_audit.proofs.rule_words.push_text_not_open.Goals as goal

pub returns-clause-bytes : goal.returns-clause-bytes
returns-clause-bytes c =
    word_and_pair c.args.page.now c.push_field.new.page c.push_unopened.new.page
    (field (codes "text-not-open link=") c.args.link) (codes " ") (unopened_word c.args.why)
    (c.push_field.ensures.bytes ∙ ap (λ (n : ℕ). c.args.page.now ++ field (codes "text-not-open link=") n) c.from.ensures) c.push_unopened.ensures.bytes
