use Rattle.std.proofs.Common.{◌++◌, codes}
use Rattle.ncp_play_files.specs.Lines.{command_words}
use Rattle.ncp_play_audit.specs.FindingLines.{two_amounts_of}
use Rattle.ncp_play_audit.proofs.Words.{two_words}
use Rattle.ncp_play_audit.proofs.rule_words.push_over_limit.Goals as goal

pub returns-clause-bytes : goal.returns-clause-bytes
returns-clause-bytes c =
    two_words c.args.page.now c.push_named.new.page c.push_amounts_of.new.page
    (codes "over-limit " ++ command_words c.args.command.now) (two_amounts_of c.args.messages 65535 c.args.bits 65536)
    c.push_named.ensures.bytes c.push_amounts_of.ensures.bytes
