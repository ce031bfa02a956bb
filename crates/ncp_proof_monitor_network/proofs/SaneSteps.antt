-- The invariant of the flow is preserved by everything that may be sent.
use Rattle.std.proofs.Common.{ℕ, Bool, List, [], ◌∷◌}
use Rattle.ncp_wire.specs.declared.command.Command.{Command}
use Rattle.ncp_proof_monitor_network.proofs.Said.{Said, TextLegal, Legal, after_said_by, after_text_by, without_owed, LegalRun, after_run}
use Rattle.ncp_proof_monitor_network.proofs.UsersSaid.{fit_step, fit_text}
use Rattle.ncp_proof_monitor_network.proofs.OwesSteps.{owes_step, owes_text, owes_forgotten}
use Rattle.ncp_proof_monitor_network.proofs.ConsistentViews.{Sane}

pub sane_step : (s : Bool) (c : Command) (x : Said) → Legal s c x → Sane x → Sane (after_said_by s c x)
sane_step s c x l k = record { fit = fit_step s c x l k.fit; owes = owes_step s x k.owes c l }

pub sane_run : (s : Bool) (cs : List Command) (x : Said) → LegalRun s cs x → Sane x → Sane (after_run s cs x)
sane_run s [] x l k = k
sane_run s (c ∷ cs) x (l, ls) k = sane_run s cs (after_said_by s c x) ls (sane_step s c x l k)

pub sane_text : (s : Bool) (link size bits : ℕ) (x : Said) → TextLegal s link size bits x → Sane x → Sane (after_text_by s link bits x)
sane_text s link size bits x t k = record { fit = fit_text s link size bits x t k.fit; owes = owes_text s x k.owes link bits }

pub sane_forgotten : (x : Said) → Sane x → Sane (without_owed x)
sane_forgotten x k = record {
  fit = record { sexed = k.fit.sexed; unopened = k.fit.unopened; used = k.fit.used; user = k.fit.user };
  owes = owes_forgotten x k.owes;
}
