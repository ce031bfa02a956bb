-- What a host sends next: the message to the first of its peers that has one ready, in the order in which
-- the peers were given (this project's own rule, its profile). The other peers are unchanged.
use Rattle.std.specs.Prelude.{ℕ, Bool, List, [], ◌∷◌, Option, None, Some}
use Rattle.ncp_peer.specs.PeerState.{PeerState}
use Rattle.ncp_peer.specs.Output.{next_of, after_output}
use Rattle.ncp_host.specs.Host.{Host}

abbrev pub first_goes : Option (ℕ × List Bool) → ℕ × PeerState → List (ℕ × PeerState) → List (ℕ × PeerState) → List (ℕ × PeerState)
first_goes None p ps rest = p ∷ rest
first_goes (Some out) p ps rest = (p.0, after_output out.0 out.1 p.1) ∷ ps

abbrev pub first_message : Option (ℕ × List Bool) → Option (List Bool) → Option (List Bool)
first_message None rest = rest
first_message (Some out) rest = Some out.1

-- the message that is sent next, if any
unfoldable pub message_in_turn : List (ℕ × PeerState) → Option (List Bool)
message_in_turn [] = None
message_in_turn (p ∷ ps) = first_message (next_of p.0 p.1) (message_in_turn ps)

-- the peers after it
unfoldable pub after_turn : List (ℕ × PeerState) → List (ℕ × PeerState)
after_turn [] = []
after_turn (p ∷ ps) = first_goes (next_of p.0 p.1) p ps (after_turn ps)

abbrev pub next_output : Host → Option (List Bool)
next_output h = message_in_turn h.peers

abbrev pub after_next_output : Host → Host
after_next_output h = record h { peers = after_turn h.peers }
