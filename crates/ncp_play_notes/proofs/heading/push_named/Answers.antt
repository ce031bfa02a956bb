use Rattle.std.proofs.Common.{codes}
use Rattle.ncp_play_script.specs.Verbs.{word_of_verb}
use Rattle.ncp_play_notes.specs.NoteLines.{front, peer_word}
use Rattle.ncp_play_notes.proofs.Appended.{four_appended}
use Rattle.ncp_play_notes.proofs.heading.push_named.Goals as goal

pub returns-clause-bytes : goal.returns-clause-bytes
returns-clause-bytes c =
    four_appended c.args.page.now c.push_front.new.page c.push.new.self c.push_verb.new.page c.push_peer.new.page (front c.args.heading) (codes " ") (word_of_verb c.args.verb) (peer_word c.args.heading.speaker c.args.peer)
    c.push_front.ensures.bytes c.push.ensures.bytes c.push_verb.ensures.bytes c.push_peer.ensures.bytes
