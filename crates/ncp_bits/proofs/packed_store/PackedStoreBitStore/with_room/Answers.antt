use Rattle.std.specs.Box.{boxed_slice_items}
use Rattle.std.proofs.Common.{refl}
use Rattle.ncp_bits.proofs.Runs.{run_none}
use Rattle.ncp_bits.proofs.packed_store.PackedStoreBitStore.with_room.Goals as goal

pub returns-clause-held : goal.returns-clause-held
returns-clause-held c = run_none (boxed_slice_items c.into_boxed_slice.result) 0

pub returns-clause-capacity : goal.returns-clause-capacity
returns-clause-capacity c = refl
