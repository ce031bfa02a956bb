use Rattle.std.proofs.Common.{◌≤◌, [], refl, arith}
use Rattle.ncp_pipe.proofs.pipes.pipes_run.Goals as goal

one : 1 ≤ 1
one = omega arith

one-of-two : 1 ≤ 2
one-of-two = omega arith

pub returns-clause-opens : goal.returns-clause-opens
returns-clause-opens c = (_, (_, (refl, refl, refl), (_, (refl, refl), (_, (refl, refl), (_, (refl, (λ e. refl), refl), refl)))))

pub returns-clause-comes : goal.returns-clause-comes
returns-clause-comes c = (_, (_, (refl, refl, refl), (_, (refl, refl), (_, (refl, refl), (_, (refl, (λ e. refl), refl), (_, (refl, refl), (_, (refl, refl), (_, (refl, refl, one, one-of-two, refl), (_, (refl, one, refl), refl)))))))))

pub returns-clause-again : goal.returns-clause-again
returns-clause-again c = (_, (_, (refl, refl, refl), (_, (refl, refl), (_, (refl, refl), (_, (refl, (λ e. refl), refl), (_, (refl, refl), (_, (refl, refl), (_, (refl, refl, one, one-of-two, refl), (_, (refl, one, refl), (_, ([], refl, refl), (_, refl, (_, refl, (_, (refl, refl, refl), (_, (refl, refl), (_, (refl, refl), (_, (refl, (λ e. refl), refl), refl))))))))))))))))
