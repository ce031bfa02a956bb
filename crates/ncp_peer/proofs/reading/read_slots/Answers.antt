use Rattle.ncp_slot.proofs.Links.{same_slots}
use Rattle.ncp_peer.proofs.reading.read_slots.Goals as goal

pub returns : goal.returns
returns c = record {
  reads = λ all rest fit e.
      let read = c.read_each_slot.ensures.reads all rest fit c.in_ok-slots.ensures.each e in
      (same_slots c.read_each_slot.new.slots all c.has_its_links.ensures fit.links read.1, read.2);
}
