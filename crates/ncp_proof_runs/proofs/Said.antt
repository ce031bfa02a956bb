-- What the notes of a peer say of what is kept for it before each: a message that goes out to it is the one
-- that is ready on the link of its leader, and what comes from it and what is taken is answered by the rules.
use Rattle.std.proofs.Common.{◌≡◌, ℕ, Bool, true, List, [], ◌∷◌, Some, Result, Ok, Err, None, Option}
use Rattle.ncp_leader.specs.declared.leader.Leader.{Leader}
use Rattle.ncp_leader.specs.declared.leader.Short.{Short}
use Rattle.ncp_leader.specs.Leader.{leader_in}
use Rattle.ncp_leader.specs.Message.{message_in}
use Rattle.ncp_model.specs.Peers.{Take, comes_of, reply_of_take}
use Rattle.ncp_peer.specs.declared.received.Received.{Received}
use Rattle.ncp_peer.specs.PeerState.{PeerState}
use Rattle.ncp_peer.specs.Hearing.{message_received, answer_received}
use Rattle.ncp_peer.specs.Output.{leader_to, links, output_on}
use Rattle.ncp_host.specs.Host.{is_one_of}
use Rattle.ncp_transcript.specs.declared.note.HostNote.{HostNote}
use Rattle.ncp_proof_runs.specs.Peers.{note_for}
use Rattle.ncp_transcript.specs.Asked.{Asked, asked_in, reply_to, as_done}

pub record IsOut (n : ℕ) (message : List Bool) (s : PeerState) : Type 0 where
  pub on : ℕ
  pub a_link : is_one_of on links ≡ true
  pub leader : leader_in message ≡ Ok (leader_to n on)
  pub ready : output_on n on s ≡ Some message

abbrev pub IsIn : Result Leader Short → List Bool → Received → PeerState → Type 0
IsIn (Err short) bits told s = ⊥
IsIn (Ok leader) bits told s = told ≡ message_received leader.link (message_in bits) s

-- what was done was not refused
abbrev pub IsDone : Option (ℕ × Asked) → PeerState → Type 0
IsDone None s = Unit {0}
IsDone (Some (peer, asked)) s = as_done (reply_to asked s) ≡ Ok tt

abbrev pub IsSaidOf : ℕ → HostNote → PeerState → Type 0
IsSaidOf n (HostNote.Done call) s = IsDone (asked_in call) s
IsSaidOf n (HostNote.Took peer pair bytes text) s = reply_of_take (comes_of pair (Take bytes) s.peer) ≡ Ok text
IsSaidOf n (HostNote.Out message) s = IsOut n message s
IsSaidOf n (HostNote.In message told) s = IsIn (leader_in message) message told s
IsSaidOf n (HostNote.Answered peer link answer told) s = told ≡ answer_received link s
IsSaidOf n other s = Unit {0}

abbrev pub IsRunOf : ℕ → List HostNote → PeerState → Type 0
IsRunOf n [] s = Unit {0}
IsRunOf n (note ∷ rest) s = IsSaidOf n note s × IsRunOf n rest (note_for note s)
