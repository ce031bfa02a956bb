use Rattle.std.proofs.Common.{refl}
use Rattle.ncp_peer.proofs.peer.Peer.with.Goals as goal

pub invariant_of-result : goal.invariant_of-result
invariant_of-result g c = record {
  has_kept = λ on low high full. c.all.ensures on high;
  has_ready = λ on high ready. c.all-2.ensures on high;
}

pub returns : goal.returns
returns g c = record { well = (record { ends = c.is_well.ensures.agree c.if-not-is_well.false; down = c.requires }, c.is_well.ensures.fit c.if-not-is_well.false); takes = λ a l s. refl }
