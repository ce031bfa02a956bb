-- Where no message is ready, taking the next changes nothing.
use Rattle.std.proofs.Common.{◌≡◌, ℕ, Bool, List, [], ◌∷◌, Option, None, Some, refl, ap}
use Rattle.ncp_peer.specs.PeerState.{PeerState}
use Rattle.ncp_peer.specs.Output.{next_of}
use Rattle.ncp_host.specs.Host.{Host}
use Rattle.ncp_host.specs.Turns.{message_in_turn, after_turn, first_goes, first_message, next_output, after_next_output}

turn_stays : (ps : List (ℕ × PeerState)) → message_in_turn ps ≡ None → after_turn ps ≡ ps
unfolding message_in_turn after_turn
turn_stays [] e = refl
turn_stays (p ∷ ps) e = go (next_of p.0 p.1) (turn_stays ps) e
  where
    go : (o : Option (ℕ × List Bool)) → (message_in_turn ps ≡ None → after_turn ps ≡ ps) → first_message o (message_in_turn ps) ≡ None → first_goes o p ps (after_turn ps) ≡ p ∷ ps
    go None rest e = ap (λ (qs : List (ℕ × PeerState)). p ∷ qs) (rest e)
    go (Some out) rest e = absurd (cc e)

pub output_stays : (h : Host) → next_output h ≡ None → after_next_output h ≡ h
output_stays h e = ap (λ (ps : List (ℕ × PeerState)). record h { peers = ps }) (turn_stays h.peers e)
