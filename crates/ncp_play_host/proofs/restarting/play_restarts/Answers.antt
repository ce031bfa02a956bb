use Rattle.std.proofs.Common.{◌<◌, ◌∙◌, get_or, Err, arith}
use Rattle.std.proofs.Math.Bool.{or-false}
use Rattle.std.proofs.lemmas.Result.{err_from_is_err_and}
use Rattle.ncp_play_host.proofs.Incompletes.{peers_on_from, peers_not_from}
use Rattle.ncp_play_host.proofs.restarting.play_restarts.Goals as goal

pub returns-in_err-play_restart-clause-events : goal.returns-in_err-play_restart-clause-events
returns-in_err-play_restart-clause-events g c =
    let p = err_from_is_err_and c.from_residual.result c.from_residual.ensures.1 in
    let fault = c.in_err-play_restart.field-0.0 in
    let now = c.play_restart.new.alone in
    rw (p.1, p.2) (c.loop-peer.invariant.events (Err fault) now (peers_not_from c.args.peers.now c.loop-peer.peer-index c.loop-peer.alone now fault (omega arith) c.in_err-play_restart.ensures.events))

pub returns-in_err-play_restart-clause-output : goal.returns-in_err-play_restart-clause-output
returns-in_err-play_restart-clause-output g c = λ was first tells.
    let p = err_from_is_err_and c.from_residual.result c.from_residual.ensures.1 in
    rw (p.1, p.2) (c.in_err-play_restart.ensures.output was first (c.loop-peer.invariant.told was first tells))

pub loop-peer-preserved : goal.loop-peer-preserved
loop-peer-preserved g c =
    let n : get_or c.args.peers.now c.loop-peer.peer-index 0 < 256 = let fits = c.type_inv.peers c.loop-peer.peer-index in omega arith in
    record {
      events = λ r now does.
          c.loop-peer.invariant.events r now (peers_on_from c.args.peers.now c.loop-peer.peer-index c.loop-peer.alone c.play_restart.new.alone (omega arith) n c.in_ok-play_restart.ensures.events r now does);
      told = λ was first tells. c.in_ok-play_restart.ensures.output was first (c.loop-peer.invariant.told was first tells);
      mark = c.in_ok-play_restart.ensures.mark ∙ or-false _ ∙ c.loop-peer.invariant.mark;
      same_outlet = (c.in_ok-play_restart.ensures.same_outlet.0 ∙ c.loop-peer.invariant.same_outlet.0, c.in_ok-play_restart.ensures.same_outlet.1 ∙ c.loop-peer.invariant.same_outlet.1);
    }
