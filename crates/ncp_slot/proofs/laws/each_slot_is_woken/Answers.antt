use Rattle.ncp_slot.proofs.Waking.{slot_at-all_woken}
use Rattle.ncp_slot.proofs.laws.each_slot_is_woken.Goals as goal

pub returns : goal.returns
returns c = slot_at-all_woken
