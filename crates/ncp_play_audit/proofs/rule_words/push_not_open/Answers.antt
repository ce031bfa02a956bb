use Rattle.std.proofs.Common.{codes}
use Rattle.ncp_play_files.specs.Lines.{command_words}
use Rattle.ncp_play_audit.specs.FindingLines.{unopened_word}
use Rattle.ncp_play_audit.proofs.Words.{two_pairs}
use Rattle.ncp_play_audit.proofs.rule_words.push_not_open.Goals as goal

pub returns-clause-bytes : goal.returns-clause-bytes
returns-clause-bytes c =
    two_pairs c.args.page.now c.push_named.new.page c.push_unopened.new.page
    (codes "not-open ") (command_words c.args.command.now) (codes " ") (unopened_word c.args.why)
    c.push_named.ensures.bytes c.push_unopened.ensures.bytes
