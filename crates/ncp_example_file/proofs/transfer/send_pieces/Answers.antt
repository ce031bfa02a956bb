use Rattle.std.proofs.Common.{◌≡◌, length, arith}
use Rattle.ncp_example_file.proofs.Transferring.{begins, goes-on, all-said}
use Rattle.ncp_example_file.proofs.transfer.send_pieces.Goals as goal

pub loop-round-init : goal.loop-round-init
loop-round-init g c = begins c.args.file.now c.len-missing.result c.args.world.now.notes c.len-missing.ensures.len c.requires.given c.requires.taken

pub returns-then-missing-eq0 : goal.returns-then-missing-eq0
returns-then-missing-eq0 g c h =
    let e : c.loop-round.given ≡ length c.args.file.now = omega arith in
    let f : c.loop-round.missing ≡ 0 = omega arith in
    all-said c.args.file.now c.loop-round.given c.loop-round.missing c.loop-round.world.notes e f c.loop-round.invariant

pub loop-round-preserved : goal.loop-round-preserved
loop-round-preserved g c =
    goes-on c.args.file.now c.loop-round.given c.loop-round.missing c.in_ok-given.given c.in_ok-missing.missing c.loop-round.world.notes c.give_piece.new.world.notes c.allow.new.world.notes c.settle.new.world.notes c.take_held.new.world.notes
    c.loop-round.invariant c.in_ok-given.ensures.given c.in_ok-given.ensures.within c.in_ok-given.ensures.taken c.in_ok-allow.ensures c.in_ok-settle.ensures c.in_ok-missing.ensures.given c.in_ok-missing.ensures.taken
