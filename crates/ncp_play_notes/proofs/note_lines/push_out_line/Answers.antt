use Rattle.std.proofs.Common.{Result, length, ◌++◌, codes, ap, ◌∙◌}
use Rattle.ncp_leader.specs.declared.leader.Leader.{Leader}
use Rattle.ncp_leader.specs.declared.leader.Short.{Short}
use Rattle.ncp_leader.specs.Leader.{leader_in}
use Rattle.ncp_play_buffer.specs.Lines.{field}
use Rattle.ncp_play_notes.specs.NoteLines.{front, toward}
use Rattle.ncp_play_notes.proofs.Appended.{five_appended}
use Rattle.ncp_play_notes.proofs.note_lines.push_out_line.Goals as goal

pub returns : goal.returns
returns c =
    let message = c.args.message.now in
    five_appended c.args.page.now c.push_front.new.page c.push_text.new.self c.push_toward.new.page c.push_field.new.page c.push.new.self
    (front c.args.heading) (codes " out") (toward (leader_in message)) (field (codes " bits=") (length message)) (codes "\n")
    c.push_front.ensures.bytes c.push_text.ensures.bytes
    (c.push_toward.ensures.bytes ∙ ap (λ (leader : Result Leader Short). c.push_text.new.self ++ toward leader) c.read_leader_in.ensures.exact)
    (c.push_field.ensures.bytes ∙ ap (λ bits. c.push_toward.new.page ++ field (codes " bits=") bits) c.len.ensures.len)
    c.push.ensures.bytes
