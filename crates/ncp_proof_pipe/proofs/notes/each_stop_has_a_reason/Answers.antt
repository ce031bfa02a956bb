use Rattle.std.proofs.Common.{◌≡◌, true, false, List, ◌∙◌, arith}
use Rattle.std.specs.FinMap.{get}
use Rattle.ncp_model.specs.declared.pair.Pair.{Pair}
use Rattle.ncp_model.specs.Pairs.{sends, receives, counterpart}
use Rattle.ncp_peer.specs.PeerState.{new_state}
use Rattle.ncp_transcript.specs.declared.note.HostNote.{HostNote}
use Rattle.ncp_proof_runs.specs.Acts.{acts_of}
use Rattle.ncp_transcript_two.specs.declared.side.Side.TheVariants.{A, B}
use Rattle.ncp_proof_promises.proofs.MadeWalking.{ours}
use Rattle.ncp_proof_statement.proofs.GoingOn.{Own}
use Rattle.ncp_proof_pipe.proofs.Noting.{sender-noted, receiver-noted, sender-acts-noted, receiver-acts-noted}
use Rattle.ncp_proof_pipe.proofs.Clearing.{all-explained}
use Rattle.ncp_proof_pipe.proofs.Closing.{all-closes}
use Rattle.ncp_proof_pipe.proofs.Stopping.{acts-to-end, Told, stopping}
use Rattle.ncp_proof_pipe.proofs.notes.each_stop_has_a_reason.Goals as goal

counterpart-receives : (pair : Pair) → sends pair ≡ true → receives (counterpart pair) ≡ true
counterpart-receives pair s = grind arith

told : (pair : Pair) (notes : List HostNote) → Told pair (acts_of pair notes) notes
told pair notes = (all-explained pair notes new_state false (λ x. absurd (cc x)), all-closes pair notes new_state)

pub returns : goal.returns
returns c ns w t A pair s =
    let x = (c.transcripts_are_pipes.ensures ns w pair t s).0 in
    let back : Pair = counterpart pair in
    let r : receives back ≡ true = counterpart-receives pair s in
    let k = stopping c.each_side_may_stop_as_its_account_says.ensures pair back s r (get (ours A w).peer.ends pair) (get (ours B w).peer.ends back) (acts_of pair (Own ns w t A)) (acts_of back (Own ns w t B)) (acts-to-end ns w t A pair) (acts-to-end ns w t B back) (Own ns w t A) (Own ns w t B) (told pair (Own ns w t A)) (told back (Own ns w t B))
    x.0 _ _ x.2 x.1 x.3 (x.4 ∙ sender-noted ns w t A pair s) (x.5 ∙ receiver-noted ns w t B back r) (sender-acts-noted ns w t A pair s) (receiver-acts-noted ns w t B back r) in
    (k.0, (x.1, x.2, k.1, k.2, k.3), k.4, k.5)
returns c ns w t B pair s =
    let x = (c.transcripts_are_pipes.ensures ns w pair t s).1 in
    let back : Pair = counterpart pair in
    let r : receives back ≡ true = counterpart-receives pair s in
    let k = stopping c.each_side_may_stop_as_its_account_says.ensures pair back s r (get (ours B w).peer.ends pair) (get (ours A w).peer.ends back) (acts_of pair (Own ns w t B)) (acts_of back (Own ns w t A)) (acts-to-end ns w t B pair) (acts-to-end ns w t A back) (Own ns w t B) (Own ns w t A) (told pair (Own ns w t B)) (told back (Own ns w t A))
    x.0 _ _ x.2 x.1 x.3 (x.4 ∙ sender-noted ns w t B pair s) (x.5 ∙ receiver-noted ns w t A back r) (sender-acts-noted ns w t B pair s) (receiver-acts-noted ns w t A back r) in
    (k.0, (x.1, x.2, k.1, k.2, k.3), k.4, k.5)
