use Rattle.std.proofs.Common.{Bool, ◌++◌, codes, ap, ◌∙◌}
use Rattle.ncp_play_buffer.specs.Lines.{field}
use Rattle.ncp_play_notes.specs.Results.{field_known, is_link_known, is_size_known}
use Rattle.ncp_play_notes.proofs.Appended.{six_appended}
use Rattle.ncp_play_notes.proofs.results.push_numbers.Goals as goal

pub returns-clause-bytes : goal.returns-clause-bytes
returns-clause-bytes c =
    let r = c.args.known.now in let page = c.args.page.now in let page2 = c.push_if_known.new.page in
    six_appended page page2 c.push_if_known-2.new.page c.push_field.new.page c.push_field-2.new.page c.push_field-3.new.page c.push_field-4.new.page
    (field_known (codes " link=") (is_link_known r.end r) r.link) (field_known (codes " size=") (is_size_known r.end r) r.size)
    (field (codes " messages=") r.messages) (field (codes " bits=") r.bits) (field (codes " stored=") r.stored) (field (codes " interrupts=") r.interrupts)
    (c.push_if_known.ensures.bytes ∙ ap (λ (known : Bool). page ++ field_known (codes " link=") known c.from.result) c.is_link_known.ensures ∙ ap (λ link. page ++ field_known (codes " link=") (is_link_known r.end r) link) c.from.ensures)
    (c.push_if_known-2.ensures.bytes ∙ ap (λ (known : Bool). page2 ++ field_known (codes " size=") known c.from-2.result) c.is_size_known.ensures ∙ ap (λ size. page2 ++ field_known (codes " size=") (is_size_known r.end r) size) c.from-2.ensures)
    (c.push_field.ensures.bytes ∙ ap (λ messages. c.push_if_known-2.new.page ++ field (codes " messages=") messages) c.from-3.ensures)
    c.push_field-2.ensures.bytes c.push_field-3.ensures.bytes c.push_field-4.ensures.bytes
