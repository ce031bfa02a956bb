-- Where nothing moves any more no echo is awaited; so it is of transcripts.
use Rattle.std.proofs.Common.{◌≡◌, Bool, true, false, List, refl, sym, ap, ◌∙◌, subst}
use Rattle.ncp_model.specs.Phase.{up}
use Rattle.ncp_model.specs.Peers.{Peer}
use Rattle.ncp_proof_machine.specs.Hosts.{NodeEvent, TwoNodes, nodes_swapped, run, peer_of}
use Rattle.ncp_peer.specs.PeerState.{PeerState}
use Rattle.ncp_transcript_two.specs.declared.note.Note.{Note}
use Rattle.ncp_transcript_two.specs.Between.{Hosts}
use Rattle.ncp_transcript_two.specs.Transcript.{IsTranscript}
use Rattle.ncp_transcript_two.specs.Seen.{seen}
use Rattle.ncp_transcript_two.proofs.Headlines.{of-model}
use Rattle.ncp_proof_headline.proofs.HostsHeld.{Ever, ever, ever-swapped}
use Rattle.ncp_proof_progress.specs.Idle.{IsSettledInModel}
use Rattle.ncp_proof_progress.proofs.Settled.{ever-idle}
use Rattle.ncp_proof_progress.proofs.AtRest.{none-going, none-coming}
use Rattle.ncp_proof_quiescence.proofs.OfModel.{settled-of}
use Rattle.ncp_proof_recovery.specs.Echoes.{NoneAwaits, EchoesAreAnswered}
use Rattle.ncp_proof_recovery.proofs.Lines.{line}
use Rattle.ncp_proof_recovery.proofs.EchoUnderway.{echoing-counterpart}
use Rattle.ncp_proof_recovery.proofs.EchoSteps.{EchoesLive, ever-echoes, none-awaited}

pub settled-echoes : (es : List NodeEvent) → IsSettledInModel (run es) → NoneAwaits (run es)
settled-echoes es s u v =
    let w : TwoNodes = run es in
    let t : Ever w = ever es in
    let i = ever-idle es s in
    let r : EchoesLive w.this w.that = ever-echoes es in
    let q : EchoesLive w.that w.this = echoing-counterpart w.this.echoes.awaited w.that.echoes.awaited w.this.host w.that.host (line w.this.control) (line w.that.control) r in
    let going = none-going w t i.0 i.1 in
    let coming = none-coming w t i.0 i.1 in
    (none-awaited w r going coming u v, none-awaited (nodes_swapped w) q coming going v u)

pub transcript-echoes : (ns : List Note) (w : Hosts) → IsTranscript ns w → EchoesAreAnswered ns w
transcript-echoes ns w t s u v =
    let m = of-model ns w t in
    let a = ap (λ (p : Peer). up p.phase) m.1.this.peer in
    let b = ap (λ (p : Peer). up p.phase) m.1.that.peer in
    let r = settled-echoes m.0 (settled-of (run m.0) (seen w) m.1 s) (sym a ∙ u) (sym b ∙ v) in
    (ap (λ (p : Peer). p.echoes.awaited) m.1.this.peer ∙ r.0, ap (λ (p : Peer). p.echoes.awaited) m.1.that.peer ∙ r.1)
