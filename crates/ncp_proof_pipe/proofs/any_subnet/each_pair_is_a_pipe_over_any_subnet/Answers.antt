use Rattle.std.proofs.Common.{◌≡◌, ℕ, List, subst}
use Rattle.ncp_transcript_two.specs.World.{World}
use Rattle.ncp_transcript_two.specs.declared.note.Note.{Note}
use Rattle.ncp_transcript_two.specs.Seen.{seen}
use Rattle.ncp_proof_statement.specs.Notes.{SidedNotes, as_notes, mutual_notes}
use Rattle.ncp_proof_statement.specs.HonestRuns.{IsHonestRun, WorldOf}
use Rattle.ncp_proof_statement.specs.Finished.{seen_of}
use Rattle.ncp_proof_pipe.specs.Noted.{ArePipesWithReasons}
use Rattle.ncp_proof_pipe.proofs.Dropping.{pipes-kept}
use Rattle.ncp_proof_pipe.proofs.any_subnet.each_pair_is_a_pipe_over_any_subnet.Goals as goal

-- in a world that has the notes of the hosts
in-world : (a b : ℕ) (ns : SidedNotes) (k : WorldOf a b ns) → seen k.world ≡ seen_of a b ns → ArePipesWithReasons (seen k.world) k.more → ArePipesWithReasons (seen_of a b ns) (as_notes ns)
in-world a b ns k is p =
    subst (λ (v : World). ArePipesWithReasons v (as_notes ns)) is
    (subst (λ (xs : List Note). ArePipesWithReasons (seen k.world) xs) k.notes (pipes-kept (seen k.world) k.more p))

pub returns-clause-alone : goal.returns-clause-alone
returns-clause-alone c a b ns t =
    let k : WorldOf a b ns = c.any_honest_subnet_is_that_of_a_world.ensures a b ns t in
    in-world a b ns k (c.what_is_seen_of_their_world_is_in_their_notes.ensures.seen a b ns k) (c.each_stop_has_a_reason.ensures k.more k.world k.is)

pub returns-clause-among : goal.returns-clause-among
returns-clause-among c x y ns t =
    let own : SidedNotes = mutual_notes x.me y.me ns in
    let two : IsHonestRun x.me y.me own = c.two_among_others_are_two_by_themselves.ensures.alone x y ns t in
    let k : WorldOf x.me y.me own = c.any_honest_subnet_is_that_of_a_world.ensures x.me y.me own two in
    subst (λ (v : World). ArePipesWithReasons v (as_notes own)) (c.two_among_others_are_two_by_themselves.ensures.seen x y ns t)
    (in-world x.me y.me own k (c.what_is_seen_of_their_world_is_in_their_notes.ensures.seen x.me y.me own k) (c.each_stop_has_a_reason.ensures k.more k.world k.is))
