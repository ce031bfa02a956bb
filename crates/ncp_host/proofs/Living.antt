-- What is true of a host is true after each step.
use Rattle.std.proofs.Common.{◌≡◌, ℕ, List, Bool, true, length, replicate, Result, Ok, refl, sym, ap, subst, ◌∙◌}
use Rattle.std.specs.List.{zip}
use Rattle.ncp_leader.specs.declared.leader.Leader.{Leader}
use Rattle.ncp_leader.specs.declared.leader.Short.{Short}
use Rattle.ncp_leader.specs.Leader.{leader_in}
use Rattle.ncp_host.specs.declared.ignored.Ignored.{Ignored}
use Rattle.std.proofs.lemmas.List.{length-replicate}
use Rattle.ncp_peer.specs.PeerState.{PeerState, new_state}
use Rattle.ncp_host.specs.Host.{Host, are_peers}
use Rattle.ncp_host.specs.Arrivals.{after_with, after_hearing}
use Rattle.ncp_host.specs.Turns.{after_turn}
use Rattle.ncp_host.proofs.Peering.{new_beside}
use Rattle.ncp_host.specs.Running.{HostStep, Receives, Sends, after_step, IsKept}
use Rattle.ncp_peer.specs.Soundness.{AreWell}
use Rattle.ncp_host.proofs.FirstReady.{step-well, new-well}

pub lives_on : (step : HostStep) (before now : Host) → AreWell before.peers → now ≡ after_step step before → AreWell now.peers
lives_on step before now well is = subst (λ (h : Host). AreWell h.peers) (sym is) (step-well step before well)

abbrev host_of : ℕ → List ℕ → List PeerState → Ignored → Host
host_of me ns ss ignored = record { me = me; peers = zip ns ss; ignored = ignored }

module _ (me : ℕ) (ns : List ℕ) (ss : List PeerState) (ignored : Ignored) (kept : IsKept me ns ss) where
  pub kept_on : (step : HostStep) (before : Host) (now : List PeerState) (ignored_now : Ignored) → host_of me ns ss ignored ≡ before → length now ≡ length ss → host_of me ns now ignored_now ≡ after_step step before → IsKept me ns now
  kept_on step before now ignored_now is long happened = record {
    beside = long ∙ kept.beside;
    peers = kept.peers;
    well = lives_on step before (host_of me ns now ignored_now) (subst (λ (h : Host). AreWell h.peers) is kept.well) happened;
  }

  -- bits came that have a leader
  pub heard : (leader : Leader) (bits : List Bool) (before : Host) (now : List PeerState) (ignored_now : Ignored) → ◌≡◌ {A = Result Leader Short} (Ok leader) (leader_in bits)
      → host_of me ns ss ignored ≡ before → length now ≡ length ss → host_of me ns now ignored_now ≡ after_hearing leader bits before → IsKept me ns now
  heard leader bits before now ignored_now there is long happened = kept_on (Receives bits) before now ignored_now is long (happened ∙ ap (λ (r : Result Leader Short). after_with r bits before) there)

  -- what is next went out, if anything was
  pub sent : (ns_there : List ℕ) (ss_there after now : List PeerState) → ns_there ≡ ns → ss_there ≡ ss → zip ns_there after ≡ after_turn (zip ns_there ss_there) → length after ≡ length ss_there → now ≡ after → IsKept me ns now
  sent ns_there ss_there after now same_ns same_ss counterpart long is =
      let turned_here : zip ns after ≡ after_turn (zip ns ss) =
      ap (λ (xs : List ℕ). zip xs after) (sym same_ns) ∙ counterpart ∙ ap (λ (xs : List ℕ). after_turn (zip xs ss_there)) same_ns ∙ ap (λ (xs : List PeerState). after_turn (zip ns xs)) same_ss in
      kept_on Sends (host_of me ns ss ignored) now ignored refl (ap (λ (xs : List PeerState). length xs) is ∙ long ∙ ap (λ (xs : List PeerState). length xs) same_ss)
      (ap (λ (xs : List PeerState). host_of me ns xs ignored) is ∙ ap (λ (ps : List (ℕ × PeerState)). let h : Host = record { me = me; peers = ps; ignored = ignored } in h) turned_here)

-- a new host is well
pub new_kept : (me : ℕ) (peers ns : List ℕ) (ss : List PeerState) → are_peers me peers ≡ true → ns ≡ peers → ss ≡ replicate (length peers) new_state → IsKept me ns ss
new_kept me peers ns ss good is new =
    subst (λ (xs : List ℕ). IsKept me xs ss) (sym is) (subst (λ (xs : List PeerState). IsKept me peers xs) (sym new) first)
  where
    first : IsKept me peers (replicate (length peers) new_state)
    first = record {
      beside = length-replicate (length peers) new_state;
      peers = good;
      well = subst AreWell (sym (new_beside peers new_state)) (new-well peers);
    }
