use Rattle.std.proofs.Common.{codes}
use Rattle.ncp_play_stream.proofs.Saying.{three_pushed}
use Rattle.ncp_play_world_lines.specs.MoveLines.{move_front}
use Rattle.ncp_play_world_lines.proofs.move_line.push_move_line.Goals as goal

pub returns : goal.returns
returns c =
    three_pushed c.args.page.now (move_front c.args.moved) c.args.outcome.now (codes "\n")
    c.push_move.new.page c.push_text.new.self c.push.new.self c.push_move.ensures.bytes c.push_text.ensures.bytes c.push.ensures.bytes
