use Rattle.std.proofs.Common.{◌++◌, codes, sym, ap, ◌∙◌}
use Rattle.ncp_transcript_many.specs.declared.many_note.ManyNote.{ManyNote}
use Rattle.ncp_play_world_lines.specs.MoveLines.{came_words, answer_words}
use Rattle.ncp_play_world_lines.specs.ManyNotes.{many_subnet_line}
use Rattle.ncp_play_world_lines.proofs.MoveLines.{is_line_of}
use Rattle.ncp_play_world_lines.proofs.many_notes.push_subnet_line.Goals as goal

pub returns-in-Came : goal.returns-in-Came
returns-in-Came c =
    is_line_of c.push_came_line.new.page c.args.page.now (came_words c.in-Came.note) c.moved_among.result _ c.push_came_line.ensures c.moved_among.ensures
    ∙ ap (λ (note : ManyNote). c.args.page.now ++ many_subnet_line c.args.number note) (sym c.in-Came.is)

pub returns-in-Lost : goal.returns-in-Lost
returns-in-Lost c =
    is_line_of c.push_move_line.new.page c.args.page.now (codes "ok") c.moved_among-in-Lost.result _ c.push_move_line.ensures c.moved_among-in-Lost.ensures
    ∙ ap (λ (note : ManyNote). c.args.page.now ++ many_subnet_line c.args.number note) (sym c.in-Lost.is)

pub returns-in-FoundDead : goal.returns-in-FoundDead
returns-in-FoundDead c =
    is_line_of c.push_move_line-in-FoundDead.new.page c.args.page.now (codes "ok") c.moved_among-in-FoundDead.result _ c.push_move_line-in-FoundDead.ensures c.moved_among-in-FoundDead.ensures
    ∙ ap (λ (note : ManyNote). c.args.page.now ++ many_subnet_line c.args.number note) (sym c.in-FoundDead.is)

pub returns-in-Answered : goal.returns-in-Answered
returns-in-Answered c =
    is_line_of c.push_answered_line.new.page c.args.page.now (answer_words c.in-Answered.note) c.moved_among-in-Answered.result _ c.push_answered_line.ensures c.moved_among-in-Answered.ensures
    ∙ ap (λ (note : ManyNote). c.args.page.now ++ many_subnet_line c.args.number note) (sym c.in-Answered.is)

pub returns-in-Nothing : goal.returns-in-Nothing
returns-in-Nothing c = c.push_impossible.ensures ∙ ap (λ (note : ManyNote). c.args.page.now ++ many_subnet_line c.args.number note) (sym c.in-Nothing.is)
