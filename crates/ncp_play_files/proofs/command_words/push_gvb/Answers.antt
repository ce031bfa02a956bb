use Rattle.std.proofs.Common.{◌++◌, ◌∙◌, ℕ, codes, ap}
use Rattle.ncp_play_buffer.specs.Lines.{field}
use Rattle.ncp_play_stream.proofs.Saying.{three_pushed}
use Rattle.ncp_play_files.proofs.command_words.push_gvb.Goals as goal

pub returns-clause-bytes : goal.returns-clause-bytes
returns-clause-bytes c =
    three_pushed c.args.page.now (field (codes "GVB link=") c.args.link) (field (codes " fm=") c.args.fm) (field (codes " fb=") c.args.fb) c.push_field.new.page c.push_field-2.new.page c.push_field-3.new.page (c.push_field.ensures.bytes ∙ ap (λ (n : ℕ). c.args.page.now ++ field (codes "GVB link=") n) c.from.ensures)
    (c.push_field-2.ensures.bytes ∙ ap (λ (n : ℕ). c.push_field.new.page ++ field (codes " fm=") n) c.from-2.ensures)
    (c.push_field-3.ensures.bytes ∙ ap (λ (n : ℕ). c.push_field-2.new.page ++ field (codes " fb=") n) c.from-3.ensures)
