-- A record of two others leaves what is said between a pair: the books of both, and what is known of each at its own
-- interface.
use Rattle.std.proofs.Common.{◌≡◌, ℕ, ◌==◌, Bool, true, false, ◌&&◌, List, [], ◌∷◌, Result, Ok, refl, sym, subst}
use Rattle.std.proofs.lemmas.Bool.{eqb-true}
use Rattle.ncp_leader.specs.declared.leader.Leader.{Leader}
use Rattle.ncp_leader.specs.declared.leader.Short.{Short}
use Rattle.ncp_leader.specs.Leader.{leader_in}
use Rattle.ncp_leader.specs.Message.{message_in}
use Rattle.ncp_host.specs.Host.{Host}
use Rattle.ncp_proof_runs.proofs.HostRuns.{Holds}
use Rattle.ncp_monitor.specs.declared.monitor.Monitor.{Monitor}
use Rattle.ncp_monitor.specs.declared.view.View.{View}
use Rattle.ncp_interface.specs.declared.imp_direction.ImpDirection.{ImpDirection}
use Rattle.ncp_interface.specs.declared.imp_direction.ImpDirection.TheVariants.{ToImp, FromImp}
use Rattle.ncp_interface.specs.Events.{is_answer, event_after}
use Rattle.ncp_monitor.specs.ConnStates.{SeenTables}
use Rattle.ncp_monitor.specs.Tables.{view_in}
use Rattle.ncp_monitor.specs.Judged.{sees, fresh_out, monitor_after_out, monitor_after_answer, after_in, turn_at, after_said, after_event, after_record}
use Rattle.ncp_proof_monitor_allocation.proofs.Elsewhere.{Alike, alike_same, alike_both}
use Rattle.ncp_proof_monitor_host.proofs.Spoken.{Spoken}
use Rattle.ncp_proof_monitor_allocation.proofs.TidyBooks.{Tidy}
use Rattle.ncp_proof_monitor_replies.proofs.BooksRead.{said_alikes}
use Rattle.ncp_proof_monitor_replies.proofs.BooksRecord.{out_tables, in_tables, answer_tables, record_reads}
use Rattle.ncp_proof_monitor_host.proofs.FlowWalk.{AllSpoken, spoken_alike}
use Rattle.ncp_proof_monitor_messages.proofs.Elsewhere.{Spares, IsOfOthers, only}

-- ---- the books

not_these : (a b at peer : ℕ) → IsOfOthers a b at peer → (at == a && peer == b) ≡ false
not_these a b at peer away = go (at == a) (peer == b) refl refl
  where
    go : (x y : Bool) → (at == a) ≡ x → (peer == b) ≡ y → (at == a && peer == b) ≡ false
    go true true e f = absurd (away.0 (eqb-true at a e) (eqb-true peer b f))
    go true false e f = rw (e, f) refl
    go false y e f = rw e refl

alike_before : (a b : ℕ) (x y z : SeenTables) → y ≡ x → Alike a b y z → Alike a b x z
alike_before a b x y z e k = subst (λ (w : SeenTables). Alike a b w z) e k

alike_of : (a b : ℕ) (x y : SeenTables) → y ≡ x → Alike a b x y
alike_of a b x y e = subst (λ (w : SeenTables). Alike a b x w) (sym e) (alike_same a b x)

-- between the one and the other, as it is seen at the one
pub tables_left : (a b at : ℕ) (way : ImpDirection) (bits : List Bool) (leader : Leader) (monitor : Monitor) → leader_in bits ≡ Ok leader → IsOfOthers a b at leader.host → Alike a b monitor.conn_tables (after_record monitor way at bits).conn_tables
tables_left a b at way bits leader monitor led away =
    alike_both a b monitor.conn_tables U.conn_tables (after_record monitor way at bits).conn_tables (record { conns = refl; known_facts = refl; pending_replies = refl })
    (subst (λ (r : Result Leader Short). Alike a b U.conn_tables (after_event U at bits (event_after way at r)).conn_tables) (sym led) (by way))
  where
    U : Monitor
    U = sees monitor at

    other : (at == a && leader.host == b) ≡ false
    other = not_these a b at leader.host away

    out : (on : ℕ) → Alike a b U.conn_tables (after_said (monitor_after_out U at leader.host on bits) at leader.host (turn_at (monitor_after_out U at leader.host on bits) at leader.host at true) (fresh_out U at leader.host on bits) (message_in bits)).conn_tables
    out on =
        let A = monitor_after_out U at leader.host on bits in
        alike_before a b U.conn_tables A.conn_tables (after_said A at leader.host (turn_at A at leader.host at true) (fresh_out U at leader.host on bits) (message_in bits)).conn_tables (out_tables U at leader.host on bits)
        (said_alikes A at leader.host at true (fresh_out U at leader.host on bits) (message_in bits) a b other)

    come : (on : ℕ) → Alike a b U.conn_tables (after_said (after_in U at leader.host on) at leader.host (turn_at (after_in U at leader.host on) at leader.host leader.host false) true (message_in bits)).conn_tables
    come on =
        let A = after_in U at leader.host on in
        alike_before a b U.conn_tables A.conn_tables (after_said A at leader.host (turn_at A at leader.host leader.host false) true (message_in bits)).conn_tables (in_tables U at leader.host on)
        (said_alikes A at leader.host leader.host false true (message_in bits) a b other)

    goes : (c z q : Bool) → (leader.host == at) ≡ c → (leader.kind == 0) ≡ z → (leader.kind == 4) ≡ q → Alike a b U.conn_tables (after_event U at bits (event_after ToImp at (Ok leader))).conn_tables
    goes c z true e f g = rw g (alike_same a b U.conn_tables)
    goes true z false e f g = rw (g, e) (alike_same a b U.conn_tables)
    goes false true false e f g = rw (g, e, f) (out leader.link)
    goes false false false e f g = rw (g, e, f) (alike_same a b U.conn_tables)

    comes : (c z x : Bool) → (leader.host == at) ≡ c → (leader.kind == 0) ≡ z → is_answer leader.kind ≡ x → Alike a b U.conn_tables (after_event U at bits (event_after FromImp at (Ok leader))).conn_tables
    comes c false false e f g = rw (f, g) (alike_same a b U.conn_tables)
    comes true true x e f g = rw (f, e) (alike_same a b U.conn_tables)
    comes true false true e f g = rw (f, g, e) (alike_same a b U.conn_tables)
    comes false true x e f g = rw (f, e) (come leader.link)
    comes false false true e f g = rw (f, g, e) (alike_of a b U.conn_tables (monitor_after_answer U leader.kind at leader.host leader.link).conn_tables (answer_tables U leader.kind at leader.host leader.link))

    by : (way : ImpDirection) → Alike a b U.conn_tables (after_event U at bits (event_after way at (Ok leader))).conn_tables
    by ToImp = goes (leader.host == at) (leader.kind == 0) (leader.kind == 4) refl refl refl
    by FromImp = comes (leader.host == at) (leader.kind == 0) (is_answer leader.kind) refl refl refl

-- there was room before it
pub room_before_record : (monitor : Monitor) (way : ImpDirection) (at : ℕ) (bits : List Bool) → (after_record monitor way at bits).conn_tables.full ≡ false → monitor.conn_tables.full ≡ false
room_before_record monitor way at bits f = (record_reads monitor way at bits).room f

-- ---- what is known of one of the two at its own interface

pub talks_left : (a b : ℕ) (h : Host) (monitor now : Monitor) → Holds (b ∷ []) h → Spares a b monitor now → (now.conn_tables.full ≡ false → monitor.conn_tables.full ≡ false) → (now.conn_tables.full ≡ false → Tidy monitor.conn_tables → Tidy now.conn_tables) → Alike a b monitor.conn_tables now.conn_tables
    → AllSpoken a h monitor → AllSpoken a h now
talks_left a b h monitor now holds s room tidy alike k = record {
  tidy = λ f. tidy f (k.tidy (room f));
  carries = λ full n t there. k.carries (s.full full) n t there;
  spoken = λ full f n t there.
      subst (λ (m : ℕ). Spoken a m t.peer (view_in monitor.views a m) monitor.conn_tables → Spoken a m t.peer (view_in now.views a m) now.conn_tables) (only b h holds n t there)
      (λ told. subst (λ (v : View). Spoken a b t.peer v now.conn_tables) (sym s.view) (spoken_alike a b t.peer (view_in monitor.views a b) monitor.conn_tables now.conn_tables alike told))
      (k.spoken (s.full full) (room f) n t there);
}
