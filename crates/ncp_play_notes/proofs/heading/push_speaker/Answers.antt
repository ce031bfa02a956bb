use Rattle.std.proofs.Common.{◌∷◌, [], ◌++◌, codes, sym, ap, ◌∙◌}
use Rattle.ncp_play_buffer.specs.Lines.{field}
use Rattle.ncp_play_notes.specs.declared.heading.LineHost.{LineHost}
use Rattle.ncp_play_notes.specs.NoteLines.{speaker_word}
use Rattle.ncp_play_notes.proofs.Appended.{two_appended}
use Rattle.ncp_play_notes.proofs.heading.push_speaker.Goals as goal

pub returns-in-Side-clause-bytes : goal.returns-in-Side-clause-bytes
returns-in-Side-clause-bytes c =
    two_appended c.args.page.now c.push.new.self c.push-in-Side.new.self (codes " ") (c.in-Side.letter ∷ []) c.push.ensures.bytes c.push-in-Side.ensures.bytes
    ∙ ap (λ (speaker : LineHost). c.args.page.now ++ speaker_word speaker) (sym c.in-Side.is)

pub returns-in-Number-clause-bytes : goal.returns-in-Number-clause-bytes
returns-in-Number-clause-bytes c =
    c.push_field.ensures.bytes ∙ ap (λ number. c.args.page.now ++ field (codes " ") number) c.from.ensures ∙ ap (λ (speaker : LineHost). c.args.page.now ++ speaker_word speaker) (sym c.in-Number.is)
