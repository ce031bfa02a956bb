use Rattle.std.proofs.Common.{◌≤◌, ◌<◌, ◌++◌, length, get_or, refl, arith}
use Rattle.std.specs.List.{zip}
use Rattle.std.proofs.lemmas.Result.{on_ok_weaker}
use Rattle.std.proofs.lemmas.Option.{slice_get-get_or, slice_get_read}
use Rattle.ncp_saved.specs.Values.{listed}
use Rattle.ncp_host.specs.Saved.{peer_saved}
use Rattle.ncp_saved.proofs.Rows.{row_more, row_end}
use Rattle.ncp_peer.proofs.Connecting.{beside, no_more_beside}
use Rattle.ncp_host.proofs.host.saving.put_peers.Goals as goal

pub loop-place-preserved : goal.loop-place-preserved
loop-place-preserved g c =
    let inside : c.loop-place.place < length c.args.numbers.now = omega arith in
    let inside_too : c.loop-place.place < length c.args.peers.now = let same = c.requires in omega (arith, same, inside) in
    let at = slice_get-get_or c.args.numbers.now c.loop-place.place 0 inside in
    let there = slice_get_read c.args.peers.now (length c.args.peers.now) c.loop-place.place c.index-peers-place.result refl inside_too c.index-peers-place.is in
    row_more peer_saved (zip c.args.numbers.now c.args.peers.now) c.loop-place.place (get_or c.args.numbers.now c.loop-place.place 0, c.index-peers-place.result) c.loop-place.out.items c.put_peer.new.out.items (c.args.out.now.items ++ listed peer_saved (zip c.args.numbers.now c.args.peers.now))
    (beside c.args.numbers.now c.args.peers.now c.loop-place.place (get_or c.args.numbers.now c.loop-place.place 0) c.index-peers-place.result at there)
    c.in_ok-put_peer.ensures c.loop-place.invariant

pub returns : goal.returns
returns g c =
    let none_left : length (zip c.args.numbers.now c.args.peers.now) ≤ c.loop-place.place = no_more_beside c.args.numbers.now c.args.peers.now c.loop-place.place (omega arith) in
    on_ok_weaker c.put_byte.result (row_end peer_saved (zip c.args.numbers.now c.args.peers.now) c.loop-place.place c.loop-place.out.items c.put_byte.new.out.items (c.args.out.now.items ++ listed peer_saved (zip c.args.numbers.now c.args.peers.now)) none_left c.loop-place.invariant) c.put_byte.ensures
