-- The facts about two hosts, from the observations of each at its own interface and at that of the other,
-- besides the facts about their phases.
use Rattle.std.proofs.Common.{◌≡◌, false, List}
use Rattle.ncp_wire.specs.declared.command.Command.{Command}
use Rattle.ncp_transcript_two.specs.Between.{Hosts}
use Rattle.ncp_transcript_two.specs.Seen.{seen}
use Rattle.ncp_transcript_two.proofs.SeenRuns.{counterpart}
use Rattle.ncp_monitor.specs.declared.monitor.Monitor.{Monitor}
use Rattle.ncp_monitor.specs.Tables.{view_in}
use Rattle.ncp_proof_monitor_messages.proofs.Both.{Both, turn_both}
use Rattle.ncp_proof_monitor_messages.proofs.Counts.{line}
use Rattle.ncp_proof_monitor_host.proofs.FlowWalk.{AllSpoken}
use Rattle.ncp_proof_monitor_network.proofs.ConsistentViews.{Afloat}
use Rattle.ncp_proof_monitor_network.proofs.Floats.{floats}
use Rattle.ncp_proof_monitor_network.proofs.Sessions.{SessionInvariant, turn_parley}

abbrev pub SessionOf : Hosts → Monitor → List Command → List Command → Afloat → Afloat → Type 0
SessionOf w monitor going coming =
    SessionInvariant w.number_a w.number_b (view_in monitor.views w.number_a w.number_b) (view_in monitor.views w.number_b w.number_a) monitor.conn_tables going coming

pub record SessionInvariants (w : Hosts) (monitor : Monitor) : Type 0 where
  pub talks_a : AllSpoken w.number_a w.a monitor
  pub talks_b : AllSpoken w.number_b w.b monitor
  pub parley : monitor.full ≡ false → monitor.conn_tables.full ≡ false
      → SessionOf w monitor (line (seen w).this (seen w).going) (line (seen w).that (seen w).coming) (floats (seen w).this (seen w).going) (floats (seen w).that (seen w).coming)

turn_parleys : (w : Hosts) (monitor : Monitor) → SessionInvariants w monitor → SessionInvariants (counterpart w) monitor
turn_parleys w monitor k = record {
  talks_a = k.talks_b;
  talks_b = k.talks_a;
  parley = λ f r.
      turn_parley w.number_a w.number_b (view_in monitor.views w.number_a w.number_b) (view_in monitor.views w.number_b w.number_a) monitor.conn_tables (line (seen w).this (seen w).going) (line (seen w).that (seen w).coming)
      (floats (seen w).this (seen w).going) (floats (seen w).that (seen w).coming) (k.parley f r);
}

-- with what is known of the phases
abbrev pub Known : Hosts → Monitor → Type 0
Known w monitor = Both w monitor × SessionInvariants w monitor

pub turn_known : (w : Hosts) (monitor : Monitor) → Known w monitor → Known (counterpart w) monitor
turn_known w monitor k = (turn_both w monitor k.0, turn_parleys w monitor k.1)
