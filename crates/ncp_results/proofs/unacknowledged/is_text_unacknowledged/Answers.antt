use Rattle.std.proofs.Common.{sym, ◌∙◌, arith}
use Rattle.ncp_slot.specs.Slots.{data_links}
use Rattle.ncp_host.specs.Host.{state_of}
use Rattle.ncp_results.specs.Unacknowledged.{is_any_unacknowledged}
use Rattle.ncp_results.proofs.EachLink.{found_here, not_here, found_nowhere}
use Rattle.ncp_results.proofs.unacknowledged.is_text_unacknowledged.Goals as goal

pub returns-then-is_unacknowledged : goal.returns-then-is_unacknowledged
returns-then-is_unacknowledged c =
    found_here c.loop-link.link (state_of c.args.host.now c.args.peer) (is_any_unacknowledged data_links (state_of c.args.host.now c.args.peer)) (omega arith) (sym c.is_unacknowledged.ensures ∙ c.if-is_unacknowledged.true) c.loop-link.invariant

pub loop-link-preserved : goal.loop-link-preserved
loop-link-preserved c =
    not_here c.loop-link.link (state_of c.args.host.now c.args.peer) (is_any_unacknowledged data_links (state_of c.args.host.now c.args.peer)) (omega arith) (sym c.is_unacknowledged.ensures ∙ c.if-is_unacknowledged.false) c.loop-link.invariant

pub returns : goal.returns
returns c =
    found_nowhere c.loop-link.link (state_of c.args.host.now c.args.peer) (is_any_unacknowledged data_links (state_of c.args.host.now c.args.peer)) (omega arith) c.loop-link.invariant
