use Rattle.std.proofs.Common.{◌≡◌, Bool, true, false, List, [], ◌∷◌}
use Rattle.ncp_transcript_two.specs.declared.side.Side.TheVariants.{A}
use Rattle.ncp_statement.specs.Examples.{out_pair}
use Rattle.ncp_proof_statement.proofs.moments.wrong_moments_are_seen.Goals as goal

none_of : (xs : List Bool) → [] ≡ true ∷ xs → ⊥
none_of xs e = absurd (cc)

other_first : (ys xs : List Bool) → true ∷ ys ≡ false ∷ xs → ⊥
other_first ys xs e = absurd (cc)

other_last : (xs : List Bool) → false ∷ [] ≡ true ∷ xs → ⊥
other_last xs e = absurd (cc)

pub returns-clause-first : goal.returns-clause-first
returns-clause-first c t = let k = t A out_pair in none_of k.0 k.1

pub returns-clause-order : goal.returns-clause-order
returns-clause-order c t = let k = t A out_pair in other_first (false ∷ []) k.0 k.1

pub returns-clause-from_empty : goal.returns-clause-from_empty
returns-clause-from_empty c t = let k = t A out_pair in other_last k.0 k.1
