-- The one peer whose state a note may change.
use Rattle.std.specs.Prelude.{ℕ, List, [], ◌∷◌, Bool, Option, None, Some, Result, Ok, Err}
use Rattle.ncp_leader.specs.declared.leader.Leader.{Leader}
use Rattle.ncp_leader.specs.declared.leader.Short.{Short}
use Rattle.ncp_leader.specs.Leader.{leader_in}
use Rattle.ncp_peer.specs.PeerState.{PeerState}
use Rattle.ncp_peer.specs.Output.{next_of}
use Rattle.ncp_host.specs.Host.{Host}
use Rattle.ncp_transcript.specs.declared.call.Call.{Call}
use Rattle.ncp_transcript.specs.declared.note.HostNote.{HostNote}
use Rattle.ncp_transcript.specs.declared.note.HostNote.TheVariants as notes
use Rattle.ncp_transcript.specs.Asked.{asked_in, peer_asked}

-- the peer of a call's request, if it has one
abbrev pub peer_touched : Call → Option ℕ
peer_touched call = peer_asked (asked_in call)

-- the host named in a leader
abbrev pub sender_of : Result Leader Short → Option ℕ
sender_of (Err short) = None
sender_of (Ok leader) = Some leader.host

-- the first peer with a ready message
abbrev pub first_peer : Option (ℕ × List Bool) → ℕ → Option ℕ → Option ℕ
first_peer None number rest = rest
first_peer (Some out) number rest = Some number

abbrev pub next_peer : List (ℕ × PeerState) → Option ℕ
next_peer [] = None
next_peer (p ∷ ps) = first_peer (next_of p.0 p.1) p.0 (next_peer ps)

abbrev pub touched : HostNote → Host → Option ℕ
touched (notes.Done call) h = peer_touched call
touched (notes.Took peer pair bytes text) h = Some peer
touched (notes.Out message) h = next_peer h.peers
touched (notes.In message received) h = sender_of (leader_in message)
touched (notes.Answered peer link answer received) h = Some peer
touched other h = None
