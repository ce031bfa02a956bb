use Rattle.std.proofs.Common.{◌≤◌, ◌++◌, length, sym, ◌∙◌, arith}
use Rattle.std.specs.FinMap.{entries, get}
use Rattle.std.proofs.lemmas.Result.{on_ok_weaker}
use Rattle.ncp_model.specs.Endpoint.{or_new}
use Rattle.ncp_conn.proofs.Listing.{place_has_record}
use Rattle.ncp_saved.specs.Values.{listed}
use Rattle.ncp_peer.specs.SavedPeer.{connection_saved}
use Rattle.ncp_saved.proofs.Rows.{past, row_more, row_end}
use Rattle.ncp_peer.proofs.Connecting.{no_more, stands, stands_none}
use Rattle.ncp_peer.proofs.association.saving.put_connections.Goals.{else-loop-place-test, then-loop-place-test+in_default}
use Rattle.ncp_peer.proofs.association.saving.put_connections.Goals as goal

pub put_connection-requires : goal.put_connection-requires
put_connection-requires g c = place_has_record c.args.table.now c.loop-place.place c.in-Some.pair c.in-Some.told (sym c.in-Some.ensures)

pub loop-place-preserved : goal.loop-place-preserved
loop-place-preserved g c = row_more connection_saved (entries c.args.table.now) c.loop-place.place (c.in-Some.pair, or_new (get c.args.table.now c.in-Some.pair)) c.loop-place.out.items c.put_connection.new.out.items (c.args.out.now.items ++ listed connection_saved (entries c.args.table.now)) (stands c.args.table.now c.loop-place.place c.in-Some.pair c.in-Some.told (sym c.in-Some.ensures)) c.in_ok-put_connection.ensures c.loop-place.invariant

pub returns : goal.returns
returns g c =
    let none_left : length (entries c.args.table.now) ≤ c.loop-place.place = elim c.loop-place-test.branch [
      | else-loop-place-test w ↦ no_more c.args.table.now c.loop-place.place (let n = w.loop-place-test.false in omega (arith, n)) c.keeps_its_limits.ensures.own c.keeps_its_limits.ensures.by_peer
      | then-loop-place-test+in_default w ↦ past (entries c.args.table.now) c.loop-place.place (stands_none c.args.table.now c.loop-place.place (sym w.connection_at.ensures ∙ w.in_default.is))
    ] in
    on_ok_weaker c.put_byte.result (row_end connection_saved (entries c.args.table.now) c.loop-place.place c.loop-place.out.items c.put_byte.new.out.items (c.args.out.now.items ++ listed connection_saved (entries c.args.table.now)) none_left c.loop-place.invariant) c.put_byte.ensures
