use Rattle.std.proofs.Common.{◌++◌, ℕ, ap, ◌∙◌, codes, length}
use Rattle.ncp_play_files.specs.Lines.{text_word}
use Rattle.ncp_play_stream.proofs.Saying.{three_pushed}
use Rattle.ncp_play_follow.specs.ConnectionLines.{shown_words}
use Rattle.ncp_play_follow.proofs.connection_line.push_said_text.Goals as goal

pub returns-clause-bytes : goal.returns-clause-bytes
returns-clause-bytes c =
    three_pushed c.args.page.now (shown_words (length c.args.text.now) c.args.said) (text_word c.args.text.now) (codes "\n") c.push_shown.new.page c.push_text_word.new.page c.push.new.self
    (c.push_shown.ensures.bytes ∙ ap (λ (n : ℕ). c.args.page.now ++ shown_words n c.args.said) c.len.ensures.len) c.push_text_word.ensures.bytes c.push.ensures.bytes
