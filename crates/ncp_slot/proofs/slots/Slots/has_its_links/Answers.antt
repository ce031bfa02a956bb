use Rattle.std.specs.Box.{boxed_slice_items}
use Rattle.std.proofs.Common.{◌≡◌, subst}
use Rattle.ncp_slot.specs.Slots.{LinkSlots}
use Rattle.ncp_slot.specs.Links.{HasItsLinks}
use Rattle.ncp_slot.proofs.Links.{has_its_links}
use Rattle.ncp_slot.proofs.slots.Slots.has_its_links.Goals as goal

pub returns : goal.returns
returns c = subst HasItsLinks c.self.view_is (has_its_links (boxed_slice_items c.self.inside.slots) c.self.invariant)
