use Rattle.std.proofs.Common.{◌≡◌, ap, length, arith}
use Rattle.ncp_bits.specs.Store.{Stored}
use Rattle.ncp_bits.proofs.Runs.{length-held}
use Rattle.ncp_bits.proofs.packed_store.PackedStoreBitStore.room.Goals as goal

pub returns : goal.returns
returns c =
    let l : c.self.inside.len ≡ length c.args.self.now.held = length-held c.self.invariant (ap (λ (store : Stored). store.held) c.self.view_is) in
    let size : c.self.inside.capacity ≡ c.args.self.now.capacity = ap (λ (store : Stored). store.capacity) c.self.view_is in
    omega (arith, c.self.invariant.fits)
