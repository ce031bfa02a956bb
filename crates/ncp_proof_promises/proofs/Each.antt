-- What holds of each step of the rules holds of each note of a transcript.
use Rattle.std.proofs.Common.{◌≡◌, List, [], ◌∷◌, ◌++◌, Option, None, Some, refl, subst}
use Rattle.ncp_proof_machine.specs.Resets.{Party, This, That}
use Rattle.ncp_proof_machine.specs.Hosts.{TwoNodes, nodes_swapped}
use Rattle.ncp_transcript_two.specs.World.{World, swap, NoteBody, WorldEvent, moves, at, step, world_run_from, notes_from, WorldNote, WorldStep}
use Rattle.ncp_transcript_two.specs.Tie.{Refines, IsMove, AreEvents, IsOfModel}
use Rattle.ncp_transcript_two.specs.declared.note.Note.{Note}
use Rattle.ncp_transcript_two.specs.Between.{Hosts, hosts_after_note}
use Rattle.ncp_transcript_two.specs.Transcript.{IsRun, began, IsTranscript}
use Rattle.ncp_transcript_two.specs.Seen.{seen, as_rules, body_of, side_of, notes_of}
use Rattle.ncp_transcript_two.proofs.Ties.{tied-swapped}
use Rattle.ncp_transcript_two.proofs.Runs.{run-ties}
use Rattle.ncp_transcript_two.proofs.SeenSteps.{Stand}
use Rattle.ncp_transcript_two.proofs.SeenRuns.{Follows, follows}
use Rattle.ncp_transcript_two.proofs.Headlines.{watched-all}
use Rattle.ncp_proof_promises.specs.EachNote.{OnSide, OfBody, OfEachNote}
use Rattle.ncp_transcript_two.proofs.SeenRuns.{stand-after}
use Rattle.ncp_transcript_two.proofs.Headlines.{stands}

-- the beginning of a transcript is one for which the model stands
pub begins-tied : (ns : List Note) (w : Hosts) → IsTranscript ns w → IsOfModel (seen (began w))
begins-tied ns w t =
    let first = watched-all [] (began w) (record { differ = t.differ; fits_a = t.fits_a; fits_b = t.fits_b; run = tt; state = refl }) in
    (first.0, first.1)

-- the step of a note, and the rest
pub tied-after : (note : Note) (w : Hosts) → Follows (note ∷ []) w (seen w) → IsOfModel (seen w) → IsOfModel (seen (hosts_after_note note w))
tied-after note w f m = subst IsOfModel f.state (run-ties f.events (seen w) f.are m)

module _ (P : NoteBody → World → World → Type 0) (holds : (st : WorldStep) (x : TwoNodes) (v : World) → IsMove st → Refines x v → P (moves st v).1 v (moves st v).0) where
  on-side : (e : WorldEvent) (v : World) → IsMove e.step → IsOfModel v → OnSide P e.side (step e v).1.told v (step e v).0
  on-side e v ok m = go e.side
    where
      go : (side : Party) → OnSide P side (at side e.step v).1 v (at side e.step v).0
      go This = holds e.step m.0 v ok m.1
      go That = holds e.step (nodes_swapped m.0) (swap v) ok (tied-swapped m.0 v m.1)

  of-one : (side : Party) (v : World) → IsOfModel v → (o : Option NoteBody) (es : List WorldEvent) → AreEvents es → notes_from es v ≡ notes_of side o ++ [] → OfBody P side o v (world_run_from es v)
  of-one side v m None [] ok e = refl
  of-one side v m None (x ∷ es) ok e = absurd (cc e)
  of-one side v m (Some t) [] ok e = absurd (cc e)
  of-one side v m (Some t) (x ∷ []) ok e =
      let is : (step x v).1 ≡ (let n : WorldNote = record { side = side; told = t } in n) = cc e in
      subst (λ (n : WorldNote). OnSide P n.side n.told v (step x v).0) is (on-side x v ok.0 m)
  of-one side v m (Some t) (x ∷ y ∷ es) ok e = absurd (cc e)

  each : (ns : List Note) (w : Hosts) → IsRun ns w → Stand w → IsOfModel (seen w) → OfEachNote P ns w
  each [] w r k m = tt
  each (note ∷ ns) w r k m =
      let f : Follows (note ∷ []) w (seen w) = follows (note ∷ []) w (r.0, tt) k m in (
        subst (OfBody P (as_rules (side_of note)) (body_of note) (seen w)) f.state (of-one (as_rules (side_of note)) (seen w) m (body_of note) f.events f.are f.said),
        each ns (hosts_after_note note w) r.1 (stand-after note w k) (tied-after note w f m),
      )

  -- of a whole transcript
  pub of-each-note : (ns : List Note) (w : Hosts) → IsTranscript ns w → OfEachNote P ns (began w)
  of-each-note ns w t = each ns (began w) t.run (stands ns w t) (begins-tied ns w t)
