use Rattle.std.proofs.Common.{◌++◌, List, ℕ, ap, ◌∙◌, arith}
use Rattle.std.proofs.lemmas.List.{append_assoc}
use Rattle.ncp_slot.specs.Slots.{slot_at, data_links}
use Rattle.ncp_peer.specs.SavedPeer.{slot_saved, slots_on, slots_saved}
use Rattle.ncp_peer.proofs.SlotRows.{slot_more, slot_end}
use Rattle.ncp_peer.proofs.peer.saving.put_slots.Goals as goal

pub loop-link-init : goal.loop-link-init
loop-link-init c = ap (λ (w : List ℕ). w ++ slots_on data_links c.args.slots.now) c.in_ok-put_slot.ensures ∙ append_assoc c.args.out.now.items (slot_saved (slot_at c.args.slots.now 0)) (slots_on data_links c.args.slots.now)

pub loop-link-preserved : goal.loop-link-preserved
loop-link-preserved c = slot_more c.args.slots.now c.loop-link.link c.loop-link.out.items c.put_slot-in-loop-link.new.out.items (c.args.out.now.items ++ slots_saved c.args.slots.now) (omega arith) c.in_ok-put_slot-2.ensures c.loop-link.invariant

pub returns : goal.returns
returns c = slot_end c.args.slots.now c.loop-link.link c.loop-link.out.items (c.args.out.now.items ++ slots_saved c.args.slots.now) (omega arith) c.loop-link.invariant
