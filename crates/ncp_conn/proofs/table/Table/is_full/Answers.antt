use Rattle.std.proofs.Common.{◌≡◌, ◌-◌, ap, arith, nat_le, length}
use Rattle.std.specs.List.{count_by}
use Rattle.slab.specs.Slab.{values, slab_len}
use Rattle.slab.proofs.DrainLemmas.{length-values}
use Rattle.ncp_model.specs.declared.limits.TheConstants.{MAX_BY_PEER}
use Rattle.ncp_model.specs.Ends.{count, is_by_peer}
use Rattle.ncp_conn.proofs.Counts.{count_both}
use Rattle.ncp_conn.proofs.Tables.{sum_is}
use Rattle.ncp_conn.proofs.table.Table.is_full.Goals as goal

pub overflow_sub-result : goal.overflow_sub-result
overflow_sub-result g c =
    let l : slab_len c.self.inside.entries.slab ≡ length (values c.self.inside.entries.slab) = length-values c.self.inside.entries.slab.slots in
    let b = count_both (values c.self.inside.entries.slab) in
    let n = c.len.ensures in
    let o = c.own_requests.ensures in
    omega (arith, l, b, n, o)

pub returns : goal.returns
returns g c =
    let l : slab_len c.self.inside.entries.slab ≡ length (values c.self.inside.entries.slab) = length-values c.self.inside.entries.slab.slots in
    let b = count_both (values c.self.inside.entries.slab) in
    let n = c.len.ensures in
    let o = c.own_requests.ensures in
    let m : count is_by_peer c.args.self.now ≡ count_by is_by_peer (values c.self.inside.entries.slab) = sum_is c.self.inside.entries c.args.self.now c.self.view_is c.self.invariant is_by_peer in
    let e : c.len.result - c.own_requests.result ≡ count is_by_peer c.args.self.now = omega (arith, l, b, n, o, m) in
    ap (nat_le MAX_BY_PEER) e
