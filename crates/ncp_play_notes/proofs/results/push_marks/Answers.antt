use Rattle.std.proofs.Common.{◌++◌, codes, ap, ◌∙◌}
use Rattle.ncp_play_buffer.specs.Lines.{field}
use Rattle.ncp_play_notes.specs.Results.{flag}
use Rattle.ncp_play_notes.proofs.Appended.{six_appended}
use Rattle.ncp_play_notes.proofs.results.push_marks.Goals as goal

pub returns-clause-bytes : goal.returns-clause-bytes
returns-clause-bytes c =
    let known = c.args.known.now in
    six_appended c.args.page.now c.push_field.new.page c.push_field-2.new.page c.push_field-3.new.page c.push_field-4.new.page c.push_field-5.new.page c.push_field-6.new.page
    (flag (codes " asked=") known.asked) (flag (codes " heard=") known.heard) (flag (codes " opened=") known.opened) (flag (codes " leaving=") known.leaving) (flag (codes " left=") known.left) (flag (codes " cls=") known.cls)
    (c.push_field.ensures.bytes ∙ ap (λ set. c.args.page.now ++ field (codes " asked=") set) c.from.ensures)
    (c.push_field-2.ensures.bytes ∙ ap (λ set. c.push_field.new.page ++ field (codes " heard=") set) c.from-2.ensures)
    (c.push_field-3.ensures.bytes ∙ ap (λ set. c.push_field-2.new.page ++ field (codes " opened=") set) c.from-3.ensures)
    (c.push_field-4.ensures.bytes ∙ ap (λ set. c.push_field-3.new.page ++ field (codes " leaving=") set) c.from-4.ensures)
    (c.push_field-5.ensures.bytes ∙ ap (λ set. c.push_field-4.new.page ++ field (codes " left=") set) c.from-5.ensures)
    (c.push_field-6.ensures.bytes ∙ ap (λ set. c.push_field-5.new.page ++ field (codes " cls=") set) c.from-6.ensures)
