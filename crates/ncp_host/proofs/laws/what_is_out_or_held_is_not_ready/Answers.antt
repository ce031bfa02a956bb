use Rattle.std.proofs.Common.{◌≡◌, ℕ, suc, true, List, length, nat_lt, refl, ap, ◌∙◌, arith}
use Rattle.ncp_wire.specs.declared.command.Command.{Command}
use Rattle.ncp_host.proofs.laws.what_is_out_or_held_is_not_ready.Goals as goal

pub returns-clause-again : goal.returns-clause-again
returns-clause-again c message on p = refl

pub returns-clause-out : goal.returns-clause-out
returns-clause-out c message on p = refl

pub returns-clause-held : goal.returns-clause-held
returns-clause-held c message on p = refl

some : (n : ℕ) → nat_lt 0 (suc n) ≡ true
some n = grind arith

pub returns-clause-waits : goal.returns-clause-waits
returns-clause-waits c p first rest e = ap (λ (cs : List Command). nat_lt 0 (length cs)) e ∙ some (length rest)

pub returns-clause-none : goal.returns-clause-none
returns-clause-none c p e = ap (λ (cs : List Command). nat_lt 0 (length cs)) e
