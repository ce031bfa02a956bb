use Rattle.ncp_slot.proofs.Places.{is_quiet-tells}
use Rattle.ncp_slot.proofs.laws.quiet_links_are_empty.Goals as goal

pub returns : goal.returns
returns c = is_quiet-tells
