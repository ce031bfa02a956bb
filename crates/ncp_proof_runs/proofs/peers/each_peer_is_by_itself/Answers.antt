use Rattle.std.proofs.Common.{List, Some, sym, ap, ◌∙◌}
use Rattle.ncp_peer.specs.PeerState.{new_state}
use Rattle.ncp_transcript.specs.declared.note.HostNote.{HostNote}
use Rattle.ncp_proof_runs.specs.Peers.{notes_for}
use Rattle.ncp_proof_runs.proofs.EachPeer.{each_peer}
use Rattle.ncp_proof_runs.proofs.Alone.{alone}
use Rattle.ncp_proof_runs.proofs.peers.each_peer_is_by_itself.Goals as goal

pub returns-clause-kept : goal.returns-clause-kept
returns-clause-kept c me ns all n from e = (each_peer me ns all n from e).state

pub returns-clause-alone : goal.returns-clause-alone
returns-clause-alone c = alone

pub returns-clause-others : goal.returns-clause-others
returns-clause-others c me ns one n from e you ms other m from_too e_too same =
    (each_peer me ns one n from e).state ∙ ap (λ (xs : List HostNote). Some (notes_for xs new_state)) same ∙ sym (each_peer you ms other m from_too e_too).state
