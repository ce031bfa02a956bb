-- Counts of what was received from one peer. Each count stays at its maximum. What is counted is this
-- profile's rule.
use Rattle.std.specs.Prelude.{ℕ, ◌+◌, min, Bool, true, false, if◌then◌else◌}
use Rattle.ncp_wire.specs.declared.command.Command.{Command}
use Rattle.ncp_wire.specs.declared.command.Command.TheVariants.{Erp, Rst, Rrp}
use Rattle.ncp_model.specs.declared.limits.TheConstants.{MAX_COUNT}
use Rattle.ncp_model.specs.declared.outcomes.Heard.{Heard}
use Rattle.ncp_model.specs.declared.outcomes.Heard.TheVariants as heard
use Rattle.ncp_model.specs.declared.outcomes.Took.{Took}
use Rattle.ncp_model.specs.declared.outcomes.Took.TheVariants as took
use Rattle.ncp_model.specs.Effect.{answer}
use Rattle.ncp_model.specs.Ends.{hear}
use Rattle.ncp_model.specs.Echo.{is_stray_erp}
use Rattle.ncp_model.specs.Phase.{up, is_stray_rrp}
use Rattle.ncp_model.specs.Peers.{Peer}
use Rattle.ncp_peer.specs.declared.counts.Counts.{Counts}

abbrev pub one_more : ℕ → ℕ
one_more n = min (n + 1) MAX_COUNT

abbrev pub one_more_if : Bool → ℕ → ℕ
one_more_if it n = if it then one_more n else n

abbrev pub no_counts : Counts
no_counts = record { stray = 0; faults = 0; wrong_link = 0; wrong_size = 0; not_up = 0; late = 0; over = 0 }

abbrev pub is_late : Heard → Bool
is_late heard.Late = true
is_late answer_given = false

-- the counts after a command received while up: a late command is counted, and an ERP that answers no
-- echo
abbrev pub counts_while_up : Command → Peer → Counts → Counts
counts_while_up (Erp byte) p n = record n { stray = one_more_if (is_stray_erp p.echoes) n.stray }
counts_while_up c p n = record n { late = one_more_if (is_late (answer (hear c p.ends))) n.late }

-- the counts after any command: an RRP that the host did not expect is counted; while not up, so is every
-- other command except RST
abbrev pub counts_after : Command → Peer → Counts → Counts
counts_after Rst p n = n
counts_after Rrp p n = record n { stray = one_more_if (is_stray_rrp p.phase) n.stray }
counts_after c p n = if up p.phase then counts_while_up c p n else record n { not_up = one_more n.not_up }

-- the counts after the fault of a control text
abbrev pub counts_after_fault : Peer → Counts → Counts
counts_after_fault p n = record n { not_up = one_more_if (if up p.phase then false else true) n.not_up }

-- the counts after a text with this result
abbrev pub is_late_text : Took → Bool
is_late_text took.Late = true
is_late_text other = false

abbrev pub is_wrong_size : Took → Bool
is_wrong_size took.WrongSize = true
is_wrong_size other = false

abbrev pub is_over_allocation : Took → Bool
is_over_allocation took.Over = true
is_over_allocation other = false

abbrev pub counts_of_text : Took → Counts → Counts
counts_of_text t n = record n {
  late = one_more_if (is_late_text t) n.late;
  wrong_size = one_more_if (is_wrong_size t) n.wrong_size;
  over = one_more_if (is_over_allocation t) n.over;
}
