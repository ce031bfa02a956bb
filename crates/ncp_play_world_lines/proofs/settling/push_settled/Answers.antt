use Rattle.std.proofs.Common.{codes, decimal}
use Rattle.ncp_play_notes.proofs.Appended.{four_appended}
use Rattle.ncp_play_world_lines.proofs.settling.push_settled.Goals as goal

pub returns : goal.returns
returns c =
    four_appended c.args.page.now c.push_decimal.new.self c.push_text.new.self c.push_long.new.self c.push.new.self (decimal c.args.number) (codes " settle ") (decimal c.args.many) (codes "\n") c.push_decimal.ensures.bytes
    c.push_text.ensures.bytes c.push_long.ensures.bytes c.push.ensures.bytes
