-- What bits do to a host, and an answer to what it has for a peer, from what their parts did.
use Rattle.std.proofs.Common.{◌≡◌, Bool, true, false, if◌then◌else◌, List, Option, sym, ap, ◌∙◌}
use Rattle.ncp_leader.specs.declared.leader.Leader.{Leader}
use Rattle.ncp_peer.specs.declared.received.Received.{Received}
use Rattle.ncp_peer.specs.declared.received.Received.TheVariants as received
use Rattle.ncp_peer.specs.PeerState.{PeerState}
use Rattle.ncp_peer.specs.Hearing.{is_kind}
use Rattle.ncp_host.specs.Host.{Host, state_of}
use Rattle.ncp_host.specs.Arrivals.{one_other, received_from, after_from, received_under, after_hearing}

-- bits with a leader come to a host
module _ (leader : Leader) (bits : List Bool) (h : Host) where
  pub other_received : is_kind leader.kind ≡ false → received.Other leader.kind ≡ received_under leader bits h
  other_received k = sym (ap (λ b. if b then received_from (state_of h leader.host) leader bits else received.Other leader.kind) k)

  pub other_heard : (now : Host) → is_kind leader.kind ≡ false → now ≡ one_other h → now ≡ after_hearing leader bits h
  other_heard now k e = e ∙ sym (ap (λ b. if b then after_from (state_of h leader.host) leader bits h else one_other h) k)

  -- the host of the leader is no peer, or is one
  pub from_received : (o : Option PeerState) (r : Received) → is_kind leader.kind ≡ true → state_of h leader.host ≡ o → r ≡ received_from o leader bits → r ≡ received_under leader bits h
  from_received o r k is e =
      e ∙ sym (ap (λ x. received_from x leader bits) is) ∙ sym (ap (λ b. if b then received_from (state_of h leader.host) leader bits else received.Other leader.kind) k)

  pub from_heard : (o : Option PeerState) (now : Host) → is_kind leader.kind ≡ true → state_of h leader.host ≡ o → now ≡ after_from o leader bits h → now ≡ after_hearing leader bits h
  from_heard o now k is e =
      e ∙ sym (ap (λ x. after_from x leader bits h) is) ∙ sym (ap (λ b. if b then after_from (state_of h leader.host) leader bits h else one_other h) k)
