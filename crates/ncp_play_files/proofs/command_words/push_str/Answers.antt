use Rattle.std.proofs.Common.{◌++◌, ◌∙◌, ℕ, codes, ap}
use Rattle.ncp_play_buffer.specs.Lines.{field}
use Rattle.ncp_play_stream.proofs.Saying.{three_pushed}
use Rattle.ncp_play_files.proofs.command_words.push_str.Goals as goal

pub returns-clause-bytes : goal.returns-clause-bytes
returns-clause-bytes c =
    three_pushed c.args.page.now (field (codes "STR send=") c.args.send) (field (codes " receive=") c.args.receive) (field (codes " size=") c.args.size) c.push_field.new.page c.push_field-2.new.page c.push_field-3.new.page c.push_field.ensures.bytes
    c.push_field-2.ensures.bytes
    (c.push_field-3.ensures.bytes ∙ ap (λ (n : ℕ). c.push_field-2.new.page ++ field (codes " size=") n) c.from.ensures)
