use Rattle.std.proofs.Common.{◌≡◌, true, is_some, sym, rules, arith}
use Rattle.ncp_host.specs.Host.{state_of}
use Rattle.ncp_peer.specs.PeerCalls.{kept_for}
use Rattle.ncp_world.proofs.Lowest.{lowest_is}
use Rattle.ncp_world.proofs.keeping.first_kept.Goals as goal

pub returns-then-is_some-clause-lowest : goal.returns-then-is_some-clause-lowest
returns-then-is_some-clause-lowest g c =
    let has : is_some (kept_for (state_of c.args.host.now c.args.peer) c.loop-link.link) ≡ true = search rules in
    sym (lowest_is (kept_for (state_of c.args.host.now c.args.peer)) c.loop-link.link (omega arith) has c.loop-link.invariant)
