use Rattle.std.specs.Box.{boxed_slice_items}
use Rattle.std.proofs.Common.{arith}
use Rattle.ncp_bits.proofs.Runs.{run_none}
use Rattle.ncp_bits.proofs.packed_store.PackedStoreBitStore.clear.Goals as goal

pub invariant_of-self : goal.invariant_of-self
invariant_of-self c = record { fits = omega arith; inside = omega arith; room = c.self.invariant.room; counted = c.self.invariant.counted }

pub returns-clause-held : goal.returns-clause-held
returns-clause-held c = run_none (boxed_slice_items c.self.inside.bytes) 0
