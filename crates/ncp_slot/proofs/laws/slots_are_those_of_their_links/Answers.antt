use Rattle.ncp_slot.proofs.Links.{same_slots}
use Rattle.ncp_slot.proofs.laws.slots_are_those_of_their_links.Goals as goal

pub returns : goal.returns
returns c = same_slots
