use Rattle.std.proofs.Common.{codes}
use Rattle.ncp_play_stream.proofs.Saying.{three_pushed}
use Rattle.ncp_play_world_lines.specs.MoveLines.{answer_words, move_front}
use Rattle.ncp_play_world_lines.proofs.move_line.push_answered_line.Goals as goal

pub returns : goal.returns
returns c =
    three_pushed c.args.page.now (move_front c.args.moved) (answer_words c.args.note.now) (codes "\n")
    c.push_move.new.page c.push_answered.new.page c.push.new.self c.push_move.ensures.bytes c.push_answered.ensures.bytes c.push.ensures.bytes
