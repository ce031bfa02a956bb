use Rattle.std.proofs.Common.{◌≡◌, ◌+◌, refl, ap, arith}
use Rattle.ncp_model.specs.declared.amounts.Amount.{Amount}
use Rattle.ncp_world.proofs.laws.books_that_are_off_are_seen.Goals as goal

pub returns-clause-good : goal.returns-clause-good
returns-clause-good c = refl

pub returns-clause-messages : goal.returns-clause-messages
returns-clause-messages c n other e = let k : n + 1 + 1 ≡ 3 = ap (λ (a : Amount). a.messages) e in other (omega (arith, k))

pub returns-clause-bits : goal.returns-clause-bits
returns-clause-bits c n other e = let k : n + 20 + 24 ≡ 60 = ap (λ (a : Amount). a.bits) e in other (omega (arith, k))

pub returns-clause-outstanding : goal.returns-clause-outstanding
returns-clause-outstanding c pair notes w l e = (omega (arith, ap (λ (a : Amount). a.messages) e.0), omega (arith, ap (λ (a : Amount). a.bits) e.0))

pub returns-clause-counters : goal.returns-clause-counters
returns-clause-counters c pair notes w l e = (omega (arith, ap (λ (a : Amount). a.messages) e.1), omega (arith, ap (λ (a : Amount). a.bits) e.1))
