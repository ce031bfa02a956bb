use Rattle.std.proofs.Common.{◌≡◌, ℕ, List, ◌∷◌, ◌++◌}
use Rattle.ncp_transcript_two.specs.declared.side.Side.{Side}
use Rattle.ncp_transcript_two.specs.declared.note.Note.{Note}
use Rattle.ncp_transcript_many.proofs.EachPair.{for-two}
use Rattle.ncp_proof_quiescence.specs.Settled.{IsSettled}
use Rattle.ncp_proof_recovery.specs.Notes.{NothingIsAsked, reset_done, AreNew}
use Rattle.ncp_proof_recovery.proofs.InNotes.{reset-recovers-in}
use Rattle.ncp_proof_recovery.proofs.notes.resets_recover.Goals as goal

pub returns-clause-two : goal.returns-clause-two
returns-clause-two c = reset-recovers-in

pub returns-clause-many : goal.returns-clause-many
returns-clause-many c =
    for-two (λ ns h v. (before quiet : List Note) (side : Side) (peer : ℕ) → ns ≡ before ++ reset_done side peer ∷ quiet → NothingIsAsked quiet → IsSettled v → AreNew v) reset-recovers-in
