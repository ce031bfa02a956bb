use Rattle.std.proofs.Common.{◌++◌, codes, sym, ap, ◌∙◌}
use Rattle.ncp_transcript_two.specs.declared.note.Note.{Note}
use Rattle.ncp_play_world_lines.specs.MoveLines.{came_words, answer_words}
use Rattle.ncp_play_world_lines.specs.WorldNotes.{subnet_line}
use Rattle.ncp_play_world_lines.proofs.MoveLines.{is_line_of}
use Rattle.ncp_play_world_lines.proofs.world_notes.push_subnet_line.Goals as goal

pub returns-in-Came : goal.returns-in-Came
returns-in-Came c =
    is_line_of c.push_came_line.new.page c.args.page.now (came_words c.in-Came.note) c.moved_by.result _ c.push_came_line.ensures c.moved_by.ensures
    ∙ ap (λ (note : Note). c.args.page.now ++ subnet_line c.args.number note) (sym c.in-Came.is)

pub returns-in-Lost : goal.returns-in-Lost
returns-in-Lost c =
    is_line_of c.push_move_line.new.page c.args.page.now (codes "ok") c.moved_by-in-Lost.result _ c.push_move_line.ensures c.moved_by-in-Lost.ensures
    ∙ ap (λ (note : Note). c.args.page.now ++ subnet_line c.args.number note) (sym c.in-Lost.is)

pub returns-in-FoundDead : goal.returns-in-FoundDead
returns-in-FoundDead c =
    is_line_of c.push_move_line-in-FoundDead.new.page c.args.page.now (codes "ok") c.moved_by-in-FoundDead.result _ c.push_move_line-in-FoundDead.ensures c.moved_by-in-FoundDead.ensures
    ∙ ap (λ (note : Note). c.args.page.now ++ subnet_line c.args.number note) (sym c.in-FoundDead.is)

pub returns-in-Answered : goal.returns-in-Answered
returns-in-Answered c =
    is_line_of c.push_answered_line.new.page c.args.page.now (answer_words c.in-Answered.note) c.moved_by-in-Answered.result _ c.push_answered_line.ensures c.moved_by-in-Answered.ensures
    ∙ ap (λ (note : Note). c.args.page.now ++ subnet_line c.args.number note) (sym c.in-Answered.is)

pub returns-in-Nothing : goal.returns-in-Nothing
returns-in-Nothing c =
    is_line_of c.push_move_line-in-Nothing.new.page c.args.page.now (codes "nothing") c.moved_by-in-Nothing.result _ c.push_move_line-in-Nothing.ensures c.moved_by-in-Nothing.ensures
    ∙ ap (λ (note : Note). c.args.page.now ++ subnet_line c.args.number note) (sym c.in-Nothing.is)
