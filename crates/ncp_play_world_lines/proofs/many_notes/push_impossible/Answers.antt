use Rattle.std.proofs.Common.{◌++◌, codes, sym, ap, ◌∙◌}
use Rattle.ncp_transcript_many.specs.declared.many_event.ManyEvent.{ManyEvent}
use Rattle.ncp_play_world_lines.specs.ManyNotes.{impossible_line}
use Rattle.ncp_play_world_lines.proofs.MoveLines.{is_line_of}
use Rattle.ncp_play_world_lines.proofs.many_notes.push_impossible.Goals as goal

pub returns-in-Deliver : goal.returns-in-Deliver
returns-in-Deliver c =
    is_line_of c.push_move_line.new.page c.args.page.now (codes "nothing") c.moved_among.result _ c.push_move_line.ensures c.moved_among.ensures
    ∙ ap (λ (event : ManyEvent). c.args.page.now ++ impossible_line c.args.number event) (sym c.in-Deliver.is)

pub returns-in-Lose : goal.returns-in-Lose
returns-in-Lose c =
    is_line_of c.push_move_line-in-Lose.new.page c.args.page.now (codes "nothing") c.moved_among-in-Lose.result _ c.push_move_line-in-Lose.ensures c.moved_among-in-Lose.ensures
    ∙ ap (λ (event : ManyEvent). c.args.page.now ++ impossible_line c.args.number event) (sym c.in-Lose.is)

pub returns-in-Dead : goal.returns-in-Dead
returns-in-Dead c =
    is_line_of c.push_move_line-in-Dead.new.page c.args.page.now (codes "nothing") c.moved_among-in-Dead.result _ c.push_move_line-in-Dead.ensures c.moved_among-in-Dead.ensures
    ∙ ap (λ (event : ManyEvent). c.args.page.now ++ impossible_line c.args.number event) (sym c.in-Dead.is)

pub returns-in-Answer : goal.returns-in-Answer
returns-in-Answer c =
    is_line_of c.push_move_line-in-Answer.new.page c.args.page.now (codes "nothing") c.moved_among-in-Answer.result _ c.push_move_line-in-Answer.ensures c.moved_among-in-Answer.ensures
    ∙ ap (λ (event : ManyEvent). c.args.page.now ++ impossible_line c.args.number event) (sym c.in-Answer.is)
