use Rattle.std.proofs.Common.{ℕ, ◌++◌, codes, ap, ◌∙◌}
use Rattle.ncp_play_buffer.specs.Lines.{field}
use Rattle.ncp_play_audit.specs.FindingLines.{two_amounts_of}
use Rattle.ncp_play_audit.proofs.Words.{two_words}
use Rattle.ncp_play_audit.proofs.rule_words.push_text_over.Goals as goal

pub returns-clause-bytes : goal.returns-clause-bytes
returns-clause-bytes c =
    two_words c.args.page.now c.push_field.new.page c.push_amounts_of.new.page
    (field (codes "text-over link=") c.args.link) (two_amounts_of 1 c.args.messages c.args.bits c.args.of_bits)
    (c.push_field.ensures.bytes ∙ ap (λ (n : ℕ). c.args.page.now ++ field (codes "text-over link=") n) c.from.ensures) c.push_amounts_of.ensures.bytes
