use Rattle.std.proofs.Common.{◌≡◌, Bool, true, false, List, [], ◌∷◌, refl, arith}
use Rattle.ncp_transcript_two.specs.declared.side.Side.TheVariants.{B}
use Rattle.ncp_statement.specs.Examples.{in_pair, asks_send, asks_receive, noted_give, noted_take}
use Rattle.ncp_statement.proofs.Moments.{each-take}
use Rattle.ncp_statement.proofs.examples.wrong_takes_are_seen.Goals as goal

none_of : (xs : List Bool) → [] ≡ true ∷ xs → ⊥
none_of xs e = absurd (cc)

other_first : (xs : List Bool) → true ∷ false ∷ [] ≡ false ∷ xs → ⊥
other_first xs e = absurd (cc)

too_many : (xs : List Bool) → true ∷ [] ≡ true ∷ true ∷ xs → ⊥
too_many xs e = absurd (cc)

pub returns-clause-good : goal.returns-clause-good
returns-clause-good c before after side peer pair bytes text e =
    each-take [] (asks_send ∷ asks_receive ∷ noted_give (true ∷ []) ∷ noted_give (false ∷ []) ∷ noted_take (true ∷ []) ∷ noted_take (false ∷ []) ∷ []) before after side peer pair bytes text e
    (tt, (tt, (tt, (tt, ((false ∷ [], refl), (([], refl), tt))))))

pub returns-clause-first : goal.returns-clause-first
returns-clause-first c t = let k = t (asks_send ∷ asks_receive ∷ []) (noted_give (true ∷ []) ∷ []) B 1 in_pair 1 (true ∷ []) refl in none_of k.0 k.1

pub returns-clause-order : goal.returns-clause-order
returns-clause-order c t = let k = t (asks_send ∷ asks_receive ∷ noted_give (true ∷ []) ∷ noted_give (false ∷ []) ∷ []) [] B 1 in_pair 1 (false ∷ []) refl in other_first k.0 k.1

pub returns-clause-twice : goal.returns-clause-twice
returns-clause-twice c t = let k = t (asks_send ∷ asks_receive ∷ noted_give (true ∷ []) ∷ noted_take (true ∷ []) ∷ []) [] B 1 in_pair 1 (true ∷ []) refl in too_many k.0 k.1

pub returns-clause-beyond : goal.returns-clause-beyond
returns-clause-beyond c t = absurd (omega (arith, t B in_pair))
