use Rattle.std.proofs.Common.{codes}
use Rattle.ncp_play_buffer.specs.Lines.{field}
use Rattle.ncp_play_notes.proofs.Appended.{seven_appended}
use Rattle.ncp_play_notes.proofs.results.push_counts.Goals as goal

pub returns-clause-bytes : goal.returns-clause-bytes
returns-clause-bytes c =
    let counts = c.args.counts.now in
    seven_appended c.args.page.now c.push_field.new.page c.push_field-2.new.page c.push_field-3.new.page c.push_field-4.new.page c.push_field-5.new.page c.push_field-6.new.page c.push_field-7.new.page
    (field (codes " ok stray=") counts.stray) (field (codes " faults=") counts.faults) (field (codes " wrong-link=") counts.wrong_link) (field (codes " wrong-size=") counts.wrong_size)
    (field (codes " not-up=") counts.not_up) (field (codes " late=") counts.late) (field (codes " over=") counts.over)
    c.push_field.ensures.bytes c.push_field-2.ensures.bytes c.push_field-3.ensures.bytes c.push_field-4.ensures.bytes c.push_field-5.ensures.bytes c.push_field-6.ensures.bytes c.push_field-7.ensures.bytes
