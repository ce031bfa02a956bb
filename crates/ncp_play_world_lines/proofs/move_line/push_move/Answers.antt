use Rattle.std.proofs.Common.{◌++◌, codes, ap, ◌∙◌}
use Rattle.ncp_play_buffer.specs.Lines.{field}
use Rattle.ncp_play_notes.specs.NoteLines.{front}
use Rattle.ncp_play_notes.proofs.Appended.{six_appended}
use Rattle.ncp_play_world_lines.specs.Moves.{word_of_move}
use Rattle.ncp_play_world_lines.specs.MoveLines.{destination}
use Rattle.ncp_play_world_lines.proofs.move_line.push_move.Goals as goal

pub returns-clause-bytes : goal.returns-clause-bytes
returns-clause-bytes c =
    six_appended c.args.page.now c.push_front.new.page c.push.new.self c.push_word.new.page c.push_destination.new.page c.push_field.new.page c.push-2.new.self
    (front c.args.moved.heading) (codes " ") (word_of_move c.args.moved.wanted) (destination c.args.moved.to) (field (codes " ") c.args.moved.link) (codes " ")
    c.push_front.ensures.bytes c.push.ensures.bytes c.push_word.ensures.bytes c.push_destination.ensures.bytes
    (c.push_field.ensures.bytes ∙ ap (λ link. c.push_destination.new.page ++ field (codes " ") link) c.from.ensures) c.push-2.ensures.bytes
