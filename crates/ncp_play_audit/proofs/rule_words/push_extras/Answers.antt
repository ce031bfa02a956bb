use Rattle.std.proofs.Common.{codes}
use Rattle.ncp_play_buffer.specs.Lines.{field}
use Rattle.ncp_play_audit.proofs.Words.{two_pairs}
use Rattle.ncp_play_audit.proofs.rule_words.push_extras.Goals as goal

pub returns-clause-bytes : goal.returns-clause-bytes
returns-clause-bytes c =
    two_pairs c.args.page.now c.push_numbers.new.page c.push_lengths.new.page
    (field (codes "extras flags=") c.args.flags) (field (codes " low=") c.args.low) (field (codes " text=") c.args.text) (field (codes " rest=") c.args.rest)
    c.push_numbers.ensures.bytes c.push_lengths.ensures.bytes
