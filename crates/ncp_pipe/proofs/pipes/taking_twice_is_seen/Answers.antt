use Rattle.std.proofs.Common.{◌≡◌, Bool, true, false, List, [], ◌∷◌, ◌++◌, refl}
use Rattle.ncp_pipe.specs.Accounts.{ArePrefixes, Over, Nothing_taken, Passed_over, Prefix}
use Rattle.ncp_pipe.proofs.pipes.taking_twice_is_seen.Goals as goal

-- nothing was given
at-none : (b : Bool) (xs : List (List Bool)) (t : List Bool) (ts : List (List Bool)) → xs ≡ (b ∷ t) ∷ ts → ArePrefixes xs [] → ⊥
at-none b [] t ts e k = absurd (cc e)
at-none b ([] ∷ xs) t ts e (Nothing_taken k) = absurd (cc e)
at-none b ((_ ∷ _) ∷ xs) t ts e k = elim k [ ]

apart : (b : Bool) (rest : List Bool) → [] ≡ (b ∷ []) ++ rest → ⊥
apart b rest e = absurd (cc e)

differ : (rest : List Bool) → false ∷ [] ≡ (true ∷ []) ++ rest → ⊥
differ rest e = absurd (cc e)

not-twice : ArePrefixes ((true ∷ []) ∷ (true ∷ []) ∷ []) ((true ∷ []) ∷ []) → ⊥
not-twice (Passed_over k) = at-none true _ [] ((true ∷ []) ∷ []) refl k
not-twice (Prefix rest e k) = at-none true _ [] [] refl k

not-counterpart : ArePrefixes ((true ∷ []) ∷ (false ∷ []) ∷ []) ((true ∷ []) ∷ []) → ⊥
not-counterpart (Passed_over k) = at-none true _ [] ((false ∷ []) ∷ []) refl k
not-counterpart (Prefix rest e k) = at-none false _ [] [] refl k

pub returns-clause-once : goal.returns-clause-once
returns-clause-once c = Prefix [] refl Over

pub returns-clause-later : goal.returns-clause-later
returns-clause-later c = Passed_over (Prefix [] refl Over)

pub returns-clause-twice : goal.returns-clause-twice
returns-clause-twice c k = not-twice k

pub returns-clause-again : goal.returns-clause-again
returns-clause-again c (Passed_over k) = not-twice k
returns-clause-again c (Prefix rest e k) = apart true rest e

pub returns-clause-order : goal.returns-clause-order
returns-clause-order c (Passed_over k) = not-counterpart k
returns-clause-order c (Prefix rest e k) = differ rest e
