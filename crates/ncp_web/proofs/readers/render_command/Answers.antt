use Rattle.std.proofs.Common.{◌∙◌, ℕ, List, ◌++◌, Ok, ap}
use Rattle.ncp_play_files.specs.Lines.{item_line}
use Rattle.ncp_web.proofs.Said.{line_written}
use Rattle.ncp_web.proofs.readers.render_command.Goals as goal

pub returns : goal.returns
returns c =
    let line = c.push_item.ensures ∙ ap (λ (it : List ℕ). it ++ item_line (Ok c.args.command.now)) c.new-page.ensures in
    line_written (item_line (Ok c.args.command.now)) c.push_item.new.page c.args.sink.now.written c.flush.new.self c.flush.new.sink.written c.flush.result line c.requires.empty c.flush.ensures.ok c.flush.ensures.err
