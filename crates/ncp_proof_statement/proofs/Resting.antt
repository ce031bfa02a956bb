-- What is seen of the world in which two hosts by themselves are is what their notes say.
use Rattle.std.proofs.Common.{◌≡◌, ℕ, List, [], ◌∷◌, ◌++◌, Option, refl, sym, ap, ◌∙◌, subst}
use Rattle.std.specs.FinMap.{get}
use Rattle.ncp_model.specs.declared.pair.Pair.{Pair}
use Rattle.ncp_model.specs.Pairs.{counterpart}
use Rattle.ncp_proof_endpoint.specs.Histories.{PairHistory}
use Rattle.ncp_proof_machine.specs.Hosts.{past_of}
use Rattle.ncp_transcript.specs.declared.note.HostNote.{HostNote}
use Rattle.ncp_transcript.specs.declared.note.HostNote.TheVariants as of_host
use Rattle.ncp_proof_runs.specs.Peers.{notes_of_peer}
use Rattle.ncp_proof_runs.specs.Histories.{past_so_far}
use Rattle.ncp_transcript_two.specs.World.{World}
use Rattle.ncp_transcript_two.specs.declared.side.Side.{Side}
use Rattle.ncp_transcript_two.specs.declared.side.Side.TheVariants.{A, B}
use Rattle.ncp_transcript_two.specs.declared.note.Note.{Note}
use Rattle.ncp_transcript_two.specs.declared.note.Note.TheVariants as notes
use Rattle.ncp_transcript_two.specs.Seen.{had_for, seen}
use Rattle.ncp_transcript_two.specs.Sides.{if_same, notes_at_side, notes_at}
use Rattle.ncp_transcript_two.specs.OfRules.{histories_of}
use Rattle.ncp_proof_progress.specs.Finished.{PairFinished}
use Rattle.ncp_proof_quiescence.specs.Settled.{IsSettled, EndsFinished, AreFinished}
use Rattle.ncp_proof_statement.specs.Notes.{SidedNotes, notes_by, as_note, as_notes, without_subnet}
use Rattle.ncp_proof_statement.specs.HonestRuns.{WorldOf}
use Rattle.ncp_proof_statement.specs.Finished.{seen_of, AreFinishedBy}

-- The notes of each host are those that it noted.

kept-at : (side : Side) (ns : List Note) → notes_at side ns ≡ notes_at side (without_subnet ns)
kept-at side [] = refl
kept-at side (notes.Called by hn ∷ ns) = ap (λ (xs : List HostNote). notes_at_side side (notes.Called by hn) ++ xs) (kept-at side ns)
kept-at side (notes.Out by hn ∷ ns) = ap (λ (xs : List HostNote). notes_at_side side (notes.Out by hn) ++ xs) (kept-at side ns)
kept-at side (notes.Came by link hn ∷ ns) = ap (λ (xs : List HostNote). notes_at_side side (notes.Came by link hn) ++ xs) (kept-at side ns)
kept-at side (notes.Answered by link hn ∷ ns) = ap (λ (xs : List HostNote). notes_at_side side (notes.Answered by link hn) ++ xs) (kept-at side ns)
kept-at side (notes.Lost by link ∷ ns) = kept-at side ns
kept-at side (notes.FoundDead by link ∷ ns) = kept-at side ns
kept-at side (notes.Nothing by link wanted ∷ ns) = kept-at side ns

one-at : (side by : Side) (hn : HostNote) → notes_at_side side (as_note by hn) ≡ if_same side by hn
one-at side by (of_host.Refused call fault) = refl
one-at side by (of_host.Done call) = refl
one-at side by (of_host.Took peer pair bytes text) = refl
one-at side by (of_host.State peer pair r) = refl
one-at side by (of_host.Phase peer flags) = refl
one-at side by (of_host.Echoed peer byte) = refl
one-at side by (of_host.Errors peer errors) = refl
one-at side by (of_host.Counts peer counts) = refl
one-at side by (of_host.Waiting peer place command) = refl
one-at side by (of_host.Kept peer link message) = refl
one-at side by (of_host.Ignored ignored) = refl
one-at side by (of_host.Out m) = refl
one-at side by of_host.Nothing = refl
one-at side A (of_host.In m told) = refl
one-at side B (of_host.In m told) = refl
one-at side by (of_host.Answered peer link how told) = refl

all-at : (side : Side) (ns : SidedNotes) → notes_at side (as_notes ns) ≡ notes_by side ns
all-at side [] = refl
all-at side (n ∷ ns) = ap (λ (xs : List HostNote). xs ++ notes_at side (as_notes ns)) (one-at side n.0 n.1) ∙ ap (λ (xs : List HostNote). if_same side n.0 n.1 ++ xs) (all-at side ns)

module _ (a b : ℕ) (ns : SidedNotes) (k : WorldOf a b ns) where
  pub seen-is : seen k.world ≡ seen_of a b ns
  seen-is = λ i. record {
    here = k.number_a i;
    there = k.number_b i;
    this = had_for (k.number_b i) (k.host_a i);
    that = had_for (k.number_a i) (k.host_b i);
    going = λ on. k.links A on i;
    coming = λ on. k.links B on i;
  }

  pub notes-are : (side : Side) → notes_at side k.more ≡ notes_by side ns
  notes-are side = kept-at side k.more ∙ ap (notes_at side) k.notes ∙ all-at side ns

  abbrev ThisPast : Type 0
  ThisPast = (pair : Pair) → past_of (histories_of k.more k.world).this pair ≡ past_so_far pair (notes_of_peer k.world.number_b (notes_at A k.more))

  abbrev ThatPast : Type 0
  ThatPast = (pair : Pair) → past_of (histories_of k.more k.world).that pair ≡ past_so_far pair (notes_of_peer k.world.number_a (notes_at B k.more))

  module _ (here : ThisPast) (there : ThatPast) where
    pub this-past : (pair : Pair) → past_of (histories_of k.more k.world).this pair ≡ past_so_far pair (notes_of_peer b (notes_by A ns))
    this-past pair = here pair ∙ (λ i. past_so_far pair (notes_of_peer (k.number_b i) (notes-are A i)))

    pub that-past : (pair : Pair) → past_of (histories_of k.more k.world).that pair ≡ past_so_far pair (notes_of_peer a (notes_by B ns))
    that-past pair = there pair ∙ (λ i. past_so_far pair (notes_of_peer (k.number_a i) (notes-are B i)))

    pub finished : EndsFinished k.more k.world → IsSettled (seen_of a b ns) → AreFinishedBy a b ns
    finished ends still =
        let f : AreFinished (seen_of a b ns) (histories_of k.more k.world) = subst (λ (v : World). AreFinished v (histories_of k.more k.world)) seen-is (ends (subst IsSettled (sym seen-is) still)) in
        record {
          this = f.this;
          that = f.that;
          going = λ u v pair s. moved pair (get (seen_of a b ns).this.peer.ends pair) (get (seen_of a b ns).that.peer.ends (counterpart pair)) _ _ _ _ (this-past pair) (that-past (counterpart pair)) (f.pairs u v pair s).0;
          coming = λ u v pair s. moved pair (get (seen_of a b ns).that.peer.ends pair) (get (seen_of a b ns).this.peer.ends (counterpart pair)) _ _ _ _ (that-past pair) (this-past (counterpart pair)) (f.pairs u v pair s).1;
        }
      where
        moved : (pair : Pair) (s r : Option _) (p q x y : PairHistory) → p ≡ x → q ≡ y → PairFinished pair s r p.given q.got → PairFinished pair s r x.given y.got
        moved pair s r p q x y e f k = subst (λ (u : PairHistory). PairFinished pair s r u.given y.got) e (subst (λ (u : PairHistory). PairFinished pair s r p.given u.got) f k)
