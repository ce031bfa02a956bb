use Rattle.std.proofs.Common.{List, Some, sym, ap, ◌∙◌}
use Rattle.ncp_peer.specs.PeerState.{new_state}
use Rattle.ncp_transcript.specs.declared.note.HostNote.{HostNote}
use Rattle.ncp_proof_runs.specs.Peers.{notes_for}
use Rattle.ncp_proof_runs.proofs.Begun.{peer_told}
use Rattle.ncp_proof_runs.proofs.transcripts.peers_are_distinct.Goals as goal

pub returns : goal.returns
returns g c n e m f same =
    peer_told c.args.one.now.notes c.args.one.now.host n c.transcript-notes.ensures.run e
    ∙ ap (λ (xs : List HostNote). Some (notes_for xs new_state)) same
    ∙ sym (peer_told c.args.other.now.notes c.args.other.now.host m c.transcript-others.ensures.run f)
