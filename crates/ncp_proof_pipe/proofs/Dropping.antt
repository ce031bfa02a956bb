-- What the notes of a subnet leave as it is, and what follows for each bit.
use Rattle.std.proofs.Common.{◌≡◌, List, [], ◌∷◌, ◌++◌, refl, ap, ◌∙◌, subst}
use Rattle.ncp_model.specs.declared.pair.Pair.{Pair}
use Rattle.ncp_model.specs.Pairs.{counterpart}
use Rattle.ncp_transcript.specs.declared.note.HostNote.{HostNote}
use Rattle.ncp_proof_runs.specs.Peers.{notes_of_peer}
use Rattle.ncp_transcript_two.specs.World.{World}
use Rattle.ncp_transcript_two.specs.declared.side.Side.{Side}
use Rattle.ncp_transcript_two.specs.declared.note.Note.{Note}
use Rattle.ncp_transcript_two.specs.declared.note.Note.TheVariants as notes
use Rattle.ncp_transcript_two.specs.Between.{other}
use Rattle.ncp_transcript_two.specs.Sides.{notes_at_side, notes_at}
use Rattle.ncp_statement.specs.Statement.{UserEvent, OtherEvent, user_event_at, user_events}
use Rattle.ncp_proof_statement.specs.Notes.{without_subnet}
use Rattle.ncp_pipe.specs.Pipe.{Step}
use Rattle.ncp_pipe.specs.Accounts.{OfEachRun, ArePrefixes, texts_taken, texts_given}
use Rattle.ncp_proof_pipe.specs.Noted.{sender_did, receiver_did, steps_by, from_side, told_by, ArePipes, ArePipesWithReasons, TakenOnce}
use Rattle.ncp_proof_pipe.specs.Stops.{AreSenderStops, AreReceiverStops}
use Rattle.ncp_proof_pipe.proofs.Sides.{prefixes-of-sides}

module _ (did : UserEvent → List Step) (quiet : did OtherEvent ≡ []) (side : Side) (pair : Pair) where
  abbrev Rest : List Note → List Step
  Rest ns = steps_by did (user_events side pair ns)

  same-steps : (ns : List Note) → Rest ns ≡ Rest (without_subnet ns)
  same-steps [] = refl
  same-steps (notes.Lost by link ∷ ns) = ap (λ (l : List Step). l ++ Rest ns) quiet ∙ same-steps ns
  same-steps (notes.FoundDead by link ∷ ns) = ap (λ (l : List Step). l ++ Rest ns) quiet ∙ same-steps ns
  same-steps (notes.Nothing by link wanted ∷ ns) = ap (λ (l : List Step). l ++ Rest ns) quiet ∙ same-steps ns
  same-steps (notes.Called by hn ∷ ns) = ap (λ (l : List Step). did (user_event_at side pair (notes.Called by hn)) ++ l) (same-steps ns)
  same-steps (notes.Out by hn ∷ ns) = ap (λ (l : List Step). did (user_event_at side pair (notes.Out by hn)) ++ l) (same-steps ns)
  same-steps (notes.Came by link hn ∷ ns) = ap (λ (l : List Step). did (user_event_at side pair (notes.Came by link hn)) ++ l) (same-steps ns)
  same-steps (notes.Answered by link hn ∷ ns) = ap (λ (l : List Step). did (user_event_at side pair (notes.Answered by link hn)) ++ l) (same-steps ns)

-- a subnet's notes are of no host
same-notes : (side : Side) (ns : List Note) → notes_at side ns ≡ notes_at side (without_subnet ns)
same-notes side [] = refl
same-notes side (notes.Lost by link ∷ ns) = same-notes side ns
same-notes side (notes.FoundDead by link ∷ ns) = same-notes side ns
same-notes side (notes.Nothing by link wanted ∷ ns) = same-notes side ns
same-notes side (notes.Called by hn ∷ ns) = ap (λ (l : List HostNote). notes_at_side side (notes.Called by hn) ++ l) (same-notes side ns)
same-notes side (notes.Out by hn ∷ ns) = ap (λ (l : List HostNote). notes_at_side side (notes.Out by hn) ++ l) (same-notes side ns)
same-notes side (notes.Came by link hn ∷ ns) = ap (λ (l : List HostNote). notes_at_side side (notes.Came by link hn) ++ l) (same-notes side ns)
same-notes side (notes.Answered by link hn ∷ ns) = ap (λ (l : List HostNote). notes_at_side side (notes.Answered by link hn) ++ l) (same-notes side ns)

same-told : (v : World) (side : Side) (ns : List Note) → told_by v side ns ≡ told_by v side (without_subnet ns)
same-told v side ns = ap (λ (l : List HostNote). notes_of_peer (from_side side v).there l) (same-notes side ns)

-- pipes by all notes are pipes by those of the hosts
pub pipes-kept : (v : World) (ns : List Note) → ArePipesWithReasons v ns → ArePipesWithReasons v (without_subnet ns)
pipes-kept v ns k side pair s =
    let x = k side pair s in (
      x.0,
      (x.1.0, x.1.1, x.1.2, x.1.3 ∙ same-steps sender_did refl side pair ns, x.1.4 ∙ same-steps receiver_did refl (other side) (counterpart pair) ns),
      subst (AreSenderStops pair x.0) (same-told v side ns) x.2,
      subst (AreReceiverStops (counterpart pair) x.0) (same-told v (other side) ns) x.3,
    )

pub as-pipes : (v : World) (ns : List Note) → ArePipesWithReasons v ns → ArePipes v ns
as-pipes v ns k side pair s = let x = k side pair s in (x.0, x.1)

-- of pipes each bit is taken once
pub once : (v : World) (ns : List Note) → OfEachRun (λ steps q. ArePrefixes (texts_taken steps) (texts_given steps)) → ArePipes v ns → TakenOnce ns
once v ns law k side pair s =
    let x = k side pair s in
    prefixes-of-sides x.0 _ _ x.1.3 x.1.4 (law x.0 _ x.1.2)
