use Rattle.std.proofs.Common.{◌≡◌, Bool, true, false, List, [], ◌∷◌, length, sym, ap, ◌∙◌, arith}
use Rattle.std.proofs.lemmas.Bool.{both_ways}
use Rattle.ncp_pipe.specs.Pipe.{is_open, is_on}
use Rattle.ncp_pipe.proofs.pipes.what_a_pipe_does_not_do.Goals as goal

none : (rest : List Bool) → [] ≡ true ∷ rest → ⊥
none rest e = absurd (cc e)

other-bit : (rest : List Bool) → false ∷ [] ≡ true ∷ rest → ⊥
other-bit rest e = absurd (cc e)

pub returns-clause-taken : goal.returns-clause-taken
returns-clause-taken c p q e (rest, h, i) = none rest (sym e ∙ h)

pub returns-clause-other : goal.returns-clause-other
returns-clause-other c p q e (rest, h, i) = other-bit rest (sym e ∙ h)

pub returns-clause-allowed : goal.returns-clause-allowed
returns-clause-allowed c p q a f (o, l, e) = absurd (omega (arith, l, a, ap length f))

pub returns-clause-queued : goal.returns-clause-queued
returns-clause-queued c p q bits w (o, f, l, m, e) = absurd (omega (arith, l, m, ap length w))

pub returns-clause-asks : goal.returns-clause-asks
returns-clause-asks c p q r (o, s, e) = absurd (both_ways (is_open p.receiver) s (ap is_open r))

pub returns-clause-opens : goal.returns-clause-opens
returns-clause-opens c p q s f (a, n, e) = absurd (both_ways p.fresh f (n (ap is_on s)))

pub returns-clause-unasked_sender : goal.returns-clause-unasked_sender
returns-clause-unasked_sender c p q s (a, e) = absurd (both_ways (is_on p.sender) (ap is_on s) (ap is_on a))

pub returns-clause-unasked_receiver : goal.returns-clause-unasked_receiver
returns-clause-unasked_receiver c p q r (a, n, e) = absurd (both_ways (is_on p.receiver) (ap is_on r) (ap is_on a))

pub returns-clause-gives : goal.returns-clause-gives
returns-clause-gives c p q text s (o, e) = absurd (both_ways (is_open p.sender) (ap is_open s) (ap is_open o))
