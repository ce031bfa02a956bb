-- In the file of two to eight hosts with the subnet between them nothing is found, by any rule: what is known of two hosts is left
-- by the records of others, so it is known of each two.
use Rattle.std.proofs.Common.{◌≡◌, ◌<◌, ℕ, false, List, Bool, Ok, sym, subst}
use Rattle.ncp_leader.specs.declared.leader.Leader.{Leader}
use Rattle.ncp_leader.specs.Leader.{leader_in}
use Rattle.ncp_wire.specs.declared.command.Command.{Command}
use Rattle.ncp_transcript_two.specs.Between.{Hosts}
use Rattle.ncp_transcript_two.specs.Seen.{seen}
use Rattle.ncp_monitor.specs.declared.finding.Rule.{Rule}
use Rattle.ncp_monitor.specs.declared.monitor.Monitor.{Monitor}
use Rattle.ncp_monitor.specs.declared.view.View.{View}
use Rattle.ncp_interface.specs.declared.imp_direction.ImpDirection.{ImpDirection}
use Rattle.ncp_monitor.specs.Judged.{new_monitor, after_record}
use Rattle.ncp_monitor.specs.Tables.{view_in}
use Rattle.ncp_proof_monitor_replies.proofs.BooksRecord.{record_reads}
use Rattle.ncp_proof_monitor_allocation.proofs.Elsewhere.{Alike}
use Rattle.ncp_proof_monitor_messages.specs.Files.{findings_in}
use Rattle.ncp_proof_monitor_messages.specs.ManyFiles.{many_file, NothingFoundAmongMany}
use Rattle.ncp_proof_monitor_messages.proofs.Among.{Lifts, all_among, both_lifts}
use Rattle.ncp_proof_monitor_messages.proofs.Counts.{line}
use Rattle.ncp_proof_monitor_messages.proofs.Elsewhere.{Spares, IsOfOthers, record_spares}
use Rattle.ncp_proof_monitor_network.proofs.Bystanders.{tables_left, room_before_record, talks_left}
use Rattle.ncp_proof_monitor_network.proofs.ConsistentViews.{Afloat}
use Rattle.ncp_proof_monitor_network.proofs.Floats.{floats}
use Rattle.ncp_proof_monitor_network.proofs.SessionInvariants.{SessionOf, Known}
use Rattle.ncp_proof_monitor_network.proofs.Sessions.{SessionInvariant, tables_session}
use Rattle.ncp_proof_monitor_network.proofs.WholeWalk.{never, none_of, each_known, known_begins}

module _ (w : Hosts) (monitor : Monitor) (at : ℕ) (way : ImpDirection) (bits : List Bool) (leader : Leader) (x : at < 256) (y : leader.host < 256) (led : leader_in bits ≡ Ok leader) (away : IsOfOthers w.number_a w.number_b at leader.host) (k : Known w monitor) where
  abbrev now : Monitor
  now = after_record monitor way at bits

  back : IsOfOthers w.number_b w.number_a at leader.host
  back = (λ p q. away.1 q p, λ p q. away.0 q p)

  going : Spares w.number_a w.number_b monitor now
  going = record_spares w.number_a w.number_b at way bits leader monitor x y k.0.joined.stand.fits_b led away

  coming : Spares w.number_b w.number_a monitor now
  coming = record_spares w.number_b w.number_a at way bits leader monitor x y k.0.joined.stand.fits_a led back

  at_a : Alike w.number_a w.number_b monitor.conn_tables now.conn_tables
  at_a = tables_left w.number_a w.number_b at way bits leader monitor led away

  at_b : Alike w.number_b w.number_a monitor.conn_tables now.conn_tables
  at_b = tables_left w.number_b w.number_a at way bits leader monitor led back

  room : now.conn_tables.full ≡ false → monitor.conn_tables.full ≡ false
  room = room_before_record monitor way at bits

  session_left : now.full ≡ false → now.conn_tables.full ≡ false → SessionOf w now (line (seen w).this (seen w).going) (line (seen w).that (seen w).coming) (floats (seen w).this (seen w).going) (floats (seen w).that (seen w).coming)
  session_left f r =
      subst (λ (v : View). SessionInvariant w.number_a w.number_b v (view_in now.views w.number_b w.number_a) now.conn_tables hl kl ht kt) (sym going.view)
      (subst (λ (v : View). SessionInvariant w.number_a w.number_b (view_in monitor.views w.number_a w.number_b) v now.conn_tables hl kl ht kt) (sym coming.view)
      (tables_session w.number_a w.number_b (view_in monitor.views w.number_a w.number_b) (view_in monitor.views w.number_b w.number_a) monitor.conn_tables now.conn_tables hl kl ht kt at_a at_b (k.1.parley (going.full f) (room r))))
    where
      hl : List Command
      hl = line (seen w).this (seen w).going

      kl : List Command
      kl = line (seen w).that (seen w).coming

      ht : Afloat
      ht = floats (seen w).this (seen w).going

      kt : Afloat
      kt = floats (seen w).that (seen w).coming

  pub known_left : Known w now
  known_left = (
    both_lifts.others w monitor at way bits leader x y led away k.0,
    record {
      talks_a = talks_left w.number_a w.number_b w.a monitor now k.0.at_a.holds going room (record_reads monitor way at bits).tidy at_a k.1.talks_a;
      talks_b = talks_left w.number_b w.number_a w.b monitor now k.0.at_b.holds coming room (record_reads monitor way at bits).tidy at_b k.1.talks_b;
      parley = session_left;
    },
  )

known_lifts : Lifts never Known
known_lifts = record { steps = each_known; begins = known_begins; joined = λ w monitor k. k.0.joined; others = known_left }

-- for any rules
pub none_among : (judged : Rule → Bool) → NothingFoundAmongMany judged
none_among judged notes now t = none_of judged (findings_in (new_monitor false) (many_file notes)) (all_among never Known known_lifts notes now t)
