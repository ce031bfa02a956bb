use Rattle.std.proofs.Common.{ap}
use Rattle.ncp_bits.specs.Store.{Stored}
use Rattle.ncp_bits.proofs.Runs.{length-held}
use Rattle.ncp_bits.proofs.packed_store.PackedStoreBitStore.len.Goals as goal

pub returns : goal.returns
returns c = length-held c.self.invariant (ap (λ (store : Stored). store.held) c.self.view_is)
