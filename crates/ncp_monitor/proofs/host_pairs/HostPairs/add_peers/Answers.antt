use Rattle.std.proofs.Common.{◌≡◌, ℕ, Bool, List, sym, ap, ◌∙◌, arith}
use Rattle.std.specs.List.{fold, range_with_len}
use Rattle.ncp_monitor.specs.declared.views.TheConstants.{HOSTS}
use Rattle.ncp_monitor.specs.Resets.{doubting_peer}
use Rattle.ncp_monitor.proofs.Counting.{one_more}
use Rattle.ncp_monitor.proofs.host_pairs.HostPairs.add_peers.Goals as goal

pub loop-place-preserved : goal.loop-place-preserved
loop-place-preserved c =
    let f = doubting_peer c.args.at c.args.views.now in
    c.add_peer.ensures ∙ ap (λ (pairs : List Bool). f pairs c.loop-place.place) c.loop-place.invariant ∙ sym (one_more f c.args.self.now c.loop-place.place)

pub returns : goal.returns
returns c =
    let all : c.loop-place.place ≡ HOSTS = omega (arith, c.loop-place-test.false, c.loop-place.auto.place-end) in
    c.loop-place.invariant ∙ ap (λ (n : ℕ). fold (doubting_peer c.args.at c.args.views.now) c.args.self.now (range_with_len 0 n)) all
