-- Two hosts for which only a call can still cause an event. Their state is computed from their notes
-- alone.
use Rattle.std.specs.Prelude.{◌≡◌, ℕ, true, [], ◌∷◌}
use Rattle.std.specs.FinMap.{get}
use Rattle.ncp_model.specs.declared.pair.Pair.{Pair}
use Rattle.ncp_model.specs.Pairs.{sends, counterpart}
use Rattle.ncp_model.specs.Phase.{up}
use Rattle.ncp_host.specs.Host.{Host, new_host}
use Rattle.ncp_transcript.specs.After.{after_notes}
use Rattle.ncp_proof_runs.specs.Peers.{notes_of_peer}
use Rattle.ncp_proof_runs.specs.Histories.{past_so_far}
use Rattle.ncp_transcript_two.specs.World.{World}
use Rattle.ncp_transcript_two.specs.declared.side.Side.TheVariants.{A, B}
use Rattle.ncp_transcript_two.specs.Seen.{had_for}
use Rattle.ncp_statement.specs.Statement.{link_state}
use Rattle.ncp_proof_progress.specs.Finished.{PairFinished}
use Rattle.ncp_proof_quiescence.specs.Settled.{HasNothingLeft}
use Rattle.ncp_proof_statement.specs.Notes.{SidedNotes, notes_by, as_notes, mutual_notes}

-- each host in the state after its notes; each link in the state that the notes of both determine
abbrev pub seen_of : ℕ → ℕ → SidedNotes → World
seen_of a b ns = record {
  here = a;
  there = b;
  this = had_for b (after_notes (notes_by A ns) (new_host a (b ∷ [])));
  that = had_for a (after_notes (notes_by B ns) (new_host b (a ∷ [])));
  going = λ on. link_state A on (as_notes ns);
  coming = λ on. link_state B on (as_notes ns);
}

-- Neither host has anything left to do. If both are up, each pair is finished, in both directions.
pub record AreFinishedBy (a b : ℕ) (ns : SidedNotes) : Type 0 where
  pub this : HasNothingLeft (seen_of a b ns).this
  pub that : HasNothingLeft (seen_of a b ns).that
  pub going : up (seen_of a b ns).this.peer.phase ≡ true → up (seen_of a b ns).that.peer.phase ≡ true → (pair : Pair) → sends pair ≡ true
      → PairFinished pair (get (seen_of a b ns).this.peer.ends pair) (get (seen_of a b ns).that.peer.ends (counterpart pair)) (past_so_far pair (notes_of_peer b (notes_by A ns))).given (past_so_far (counterpart pair) (notes_of_peer a (notes_by B ns))).got
  pub coming : up (seen_of a b ns).this.peer.phase ≡ true → up (seen_of a b ns).that.peer.phase ≡ true → (pair : Pair) → sends pair ≡ true
      → PairFinished pair (get (seen_of a b ns).that.peer.ends pair) (get (seen_of a b ns).this.peer.ends (counterpart pair)) (past_so_far pair (notes_of_peer a (notes_by B ns))).given (past_so_far (counterpart pair) (notes_of_peer b (notes_by A ns))).got

-- the same for two hosts among others: the state that each has for the other, and the notes of each that
-- name the other
abbrev pub seen_between : Host → Host → SidedNotes → World
seen_between x y ns = record {
  here = x.me;
  there = y.me;
  this = had_for y.me x;
  that = had_for x.me y;
  going = λ on. link_state A on (as_notes (mutual_notes x.me y.me ns));
  coming = λ on. link_state B on (as_notes (mutual_notes x.me y.me ns));
}
