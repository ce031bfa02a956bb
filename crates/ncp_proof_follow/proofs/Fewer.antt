-- The entries at the interfaces of two hosts, with the commands in flight to them, are few.
use Rattle.std.proofs.Common.{ℕ, ◌+◌, ◌*◌, ◌≤◌, List, length}
use Rattle.std.specs.List.{filter}
use Rattle.ncp_wire.specs.declared.command.Command.{Command}
use Rattle.ncp_model.specs.Phase.{is_other}
use Rattle.ncp_transcript_two.specs.Between.{Hosts}
use Rattle.ncp_transcript_two.specs.Seen.{seen}
use Rattle.ncp_transcript_two.proofs.SeenRuns.{counterpart}
use Rattle.ncp_monitor.specs.declared.monitor.Monitor.{Monitor}
use Rattle.ncp_monitor.specs.ConnStates.{SeenTables, is_conn_between}
use Rattle.ncp_proof_monitor_messages.proofs.Counts.{line}

-- connections between two hosts, at the interface of the first
abbrev pub lives_at : ℕ → ℕ → SeenTables → ℕ
lives_at me n b = length (filter (is_conn_between me n) b.conns)

-- commands that are no resets
abbrev pub others_in : List Command → ℕ
others_in cs = length (filter is_other cs)

pub record Fewer (w : Hosts) (monitor : Monitor) : Type 0 where
  pub going_short : length (line (seen w).this (seen w).going) ≤ 120
  pub coming_short : length (line (seen w).that (seen w).coming) ≤ 120
  pub this : lives_at w.number_a w.number_b monitor.conn_tables + 3 * others_in (line (seen w).that (seen w).coming) ≤ 1240
  pub that : lives_at w.number_b w.number_a monitor.conn_tables + 3 * others_in (line (seen w).this (seen w).going) ≤ 1240

pub turn_fewer : (w : Hosts) (monitor : Monitor) → Fewer w monitor → Fewer (counterpart w) monitor
turn_fewer w monitor f = record { going_short = f.coming_short; coming_short = f.going_short; this = f.that; that = f.this }
