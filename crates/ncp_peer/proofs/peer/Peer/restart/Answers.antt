use Rattle.std.proofs.Common.{sym, ap, ◌∙◌, arith}
use Rattle.ncp_slot.specs.Slots.{data_links}
use Rattle.ncp_peer.specs.PeerState.{PeerState}
use Rattle.ncp_peer.specs.GivingUp.{gives_up_all, restarts}
use Rattle.ncp_peer.proofs.GivingUp.{given_up_more, given_up_here, given_up_last}
use Rattle.ncp_peer.proofs.peer.Peer.restart.Goals as goal

pub loop-link-init : goal.loop-link-init
loop-link-init g c = ap (λ (s : PeerState). gives_up_all data_links s) c.give_up.ensures ∙ sym (given_up_more 0 data_links c.args.self.now)

pub loop-link-preserved : goal.loop-link-preserved
loop-link-preserved g c = given_up_here c.loop-link.link c.loop-link.self c.give_up-in-loop-link.new.self (restarts c.args.self.now) (omega arith) c.give_up-in-loop-link.ensures c.loop-link.invariant

pub returns : goal.returns
returns g c = given_up_last c.loop-link.link c.loop-link.self (restarts c.args.self.now) (omega arith) c.loop-link.invariant
