use Rattle.std.proofs.Common.{◌≡◌, ◌<◌, ◌-◌, ◌++◌, List, Bool, length, ap, ◌∙◌, arith}
use Rattle.std.proofs.lemmas.List.{length-drop}
use Rattle.ncp_numbers.specs.Bytes.{bytes_of}
use Rattle.ncp_saved.proofs.Pieces.{piece_more}
use Rattle.ncp_saved.proofs.writing.put_store.Goals as goal

pub loop-out-smaller : goal.loop-out-smaller
loop-out-smaller g c =
    let many : 8192 < length (g.S.BitStore.held c.loop-out.store) = let n = c.loop-out-test.true in let l = c.len.ensures in omega (arith, n, l) in
    let left : length (g.S.BitStore.held c.take.new.self) ≡ length (g.S.BitStore.held c.loop-out.store) - 8192 = ap (λ (xs : List Bool). length xs) c.take.ensures.held ∙ length-drop 8192 (g.S.BitStore.held c.loop-out.store) in
    omega (arith, many, left)

pub loop-out-preserved : goal.loop-out-preserved
loop-out-preserved g c =
    let many : 8192 < length (g.S.BitStore.held c.loop-out.store) = let n = c.loop-out-test.true in let l = c.len.ensures in omega (arith, n, l) in
    ap (λ (xs : List Bool). c.put_whole.new.out.items ++ bytes_of xs) c.take.ensures.held
    ∙ piece_more (g.S.BitStore.held c.loop-out.store) c.loop-out.out.items c.put_whole.new.out.items (c.args.out.now.items ++ bytes_of (g.S.BitStore.held c.args.store.now)) (omega (arith, many))
    (c.in_ok-put_whole.ensures ∙ ap (λ (xs : List Bool). c.loop-out.out.items ++ bytes_of xs) c.take.ensures.bits) c.loop-out.invariant
