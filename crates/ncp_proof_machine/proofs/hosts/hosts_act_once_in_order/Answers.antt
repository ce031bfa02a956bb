use Rattle.std.proofs.Common.{◌≡◌, List, true, false, subst, sym}
use Rattle.ncp_proof_machine.specs.Resets.{is_up, Agrees, Silent, ResetEvent, ResetWorld, reset_run}
use Rattle.ncp_proof_machine.specs.Hosts.{NodeEvent, run, base}
use Rattle.ncp_proof_machine.proofs.ResetRuns.{agrees, agrees_back, silent, silent_back}
use Rattle.ncp_proof_machine.proofs.HostsBase.{projected}
use Rattle.ncp_proof_machine.proofs.hosts.hosts_act_once_in_order.Goals as goal

-- what holds of the reset machine holds of the hosts
on_base : (P : ResetWorld → Type 0) → ((es : List ResetEvent) → P (reset_run es)) → (events : List NodeEvent) → P (base (run events))
on_base P holds events = let p = projected events in subst P (sym p.1) (holds p.0)

pub returns-clause-projected : goal.returns-clause-projected
returns-clause-projected c = projected

pub returns-clause-there : goal.returns-clause-there
returns-clause-there c = on_base (λ (w : ResetWorld). is_up w.this ≡ true → is_up w.that ≡ true → Agrees w.this w.going w.that) agrees

pub returns-clause-back : goal.returns-clause-back
returns-clause-back c = on_base (λ (w : ResetWorld). is_up w.this ≡ true → is_up w.that ≡ true → Agrees w.that w.coming w.this) agrees_back

pub returns-clause-silent : goal.returns-clause-silent
returns-clause-silent c = on_base (λ (w : ResetWorld). is_up w.this ≡ false → Silent w.this) silent

pub returns-clause-silent_too : goal.returns-clause-silent_too
returns-clause-silent_too c = on_base (λ (w : ResetWorld). is_up w.that ≡ false → Silent w.that) silent_back
