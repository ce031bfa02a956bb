use Rattle.std.proofs.Common.{sym, ◌∙◌}
use Rattle.ncp_host.specs.Host.{state_of}
use Rattle.ncp_results.proofs.EachLink.{on_control_link, on_data_links}
use Rattle.ncp_results.proofs.unacknowledged.is_any_unacknowledged.Goals as goal

pub returns-then-is_unacknowledged : goal.returns-then-is_unacknowledged
returns-then-is_unacknowledged c = on_control_link (state_of c.args.host.now c.args.peer) (sym c.is_unacknowledged.ensures ∙ c.if-is_unacknowledged.true)

pub returns : goal.returns
returns c = c.is_text_unacknowledged.ensures ∙ on_data_links (state_of c.args.host.now c.args.peer) (sym c.is_unacknowledged.ensures ∙ c.if-is_unacknowledged.false)
