use Rattle.std.proofs.Common.{◌++◌, ℕ, ap, ◌∙◌, codes, length}
use Rattle.ncp_play_buffer.specs.Lines.{field}
use Rattle.ncp_play_files.specs.Lines.{text_word}
use Rattle.ncp_play_stream.proofs.Saying.{three_pushed}
use Rattle.ncp_play_files.proofs.detail.push_text_line.Goals as goal

pub returns : goal.returns
returns c =
    three_pushed c.args.page.now (field (codes "  text bits=") (length c.args.text.now)) (text_word c.args.text.now) (codes "\n") c.push_field.new.page c.push_text_word.new.page c.push.new.self
    (c.push_field.ensures.bytes ∙ ap (λ (n : ℕ). c.args.page.now ++ field (codes "  text bits=") n) c.len.ensures.len) c.push_text_word.ensures.bytes c.push.ensures.bytes
