use Rattle.std.proofs.Common.{◌++◌, ◌∙◌, ℕ, codes, ap}
use Rattle.ncp_play_buffer.specs.Lines.{field}
use Rattle.ncp_play_stream.proofs.Saying.{three_pushed}
use Rattle.ncp_play_files.proofs.command_words.push_rts.Goals as goal

pub returns-clause-bytes : goal.returns-clause-bytes
returns-clause-bytes c =
    three_pushed c.args.page.now (field (codes "RTS receive=") c.args.receive) (field (codes " send=") c.args.send) (field (codes " link=") c.args.link) c.push_field.new.page c.push_field-2.new.page c.push_field-3.new.page c.push_field.ensures.bytes
    c.push_field-2.ensures.bytes
    (c.push_field-3.ensures.bytes ∙ ap (λ (n : ℕ). c.push_field-2.new.page ++ field (codes " link=") n) c.from.ensures)
