use Rattle.std.proofs.Common.{◌≡◌, Option, None, Some, refl, sym, ap, subst, ◌∙◌}
use Rattle.ncp_peer.specs.PeerState.{PeerState}
use Rattle.ncp_host.specs.Host.{Host, state_of}
use Rattle.ncp_host.specs.Arrivals.{OthersStay}
use Rattle.ncp_peer.specs.Output.{links}
use Rattle.ncp_peer.specs.GivingUp.{restarts}
use Rattle.ncp_host.specs.Restarting.{after_restart}
use Rattle.ncp_host.proofs.Touching.{others_stay, numbers_stay}
use Rattle.ncp_host.proofs.Restarting.{all_come, none_come, state_at, is_given_up}
use Rattle.ncp_host.proofs.laws.a_restart_changes_slots_alone.Goals as goal

pub returns-clause-peer : goal.returns-clause-peer
returns-clause-peer c number h s small known =
    (restarts s, ap (λ (x : Host). state_of x number) (all_come number links h s small refl known) ∙ state_at h.peers number restarts s known, is_given_up s)

pub returns-clause-others : goal.returns-clause-others
returns-clause-others c number h small = go (state_of h number) refl
  where
    go : (o : Option PeerState) → state_of h number ≡ o → OthersStay number h (after_restart number h)
    go (Some s) known = subst (OthersStay number h) (sym (all_come number links h s small refl known)) (record {
      me = refl;
      numbers = numbers_stay h.peers number restarts;
      others = λ other d. others_stay h.peers number other restarts d;
      ignored = refl;
    })
    go None none = subst (OthersStay number h) (sym (none_come number links h none)) (record { me = refl; numbers = refl; others = λ other d. refl; ignored = refl })
