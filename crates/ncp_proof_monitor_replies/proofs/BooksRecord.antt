-- The books after a record: where there is room, there was before it, and they are tidy; and a record at another interface
-- leaves what is between a host and its peers.
use Rattle.std.proofs.Common.{◌≡◌, ℕ, ◌==◌, Bool, true, false, not, ◌&&◌, if◌then◌else◌, List, refl, sym, ap, subst}
use Rattle.ncp_leader.specs.Message.{message_in}
use Rattle.ncp_interface.specs.declared.event.InterfaceEvent.{InterfaceEvent}
use Rattle.ncp_monitor.specs.declared.monitor.Monitor.{Monitor}
use Rattle.ncp_interface.specs.declared.imp_direction.ImpDirection.{ImpDirection}
use Rattle.ncp_interface.specs.Events.{event_of}
use Rattle.ncp_monitor.specs.ConnStates.{SeenTables}
use Rattle.ncp_interface.specs.Slots.{position_of, has_room, with_out, gone_out, with_answer}
use Rattle.ncp_monitor.specs.Tables.{view_in, with_view}
use Rattle.ncp_monitor.specs.Judged.{next_number, sees, slot_of_link, same_of, fresh_out, view_after_out, monitor_after_out, monitor_after_answer, judges_coming, with_coming, after_in, turn_at, after_said, after_event, after_record}
use Rattle.ncp_proof_monitor_allocation.proofs.Elsewhere.{Alike, alike_same, alike_both}
use Rattle.ncp_proof_monitor_replies.proofs.BooksRead.{Reads, reads_same, reads_both, said_reads, said_alikes}

-- a sent or received message, and an answer, leave the tables unchanged by themselves

pub out_tables : (monitor : Monitor) (at peer link : ℕ) (bits : List Bool) → (monitor_after_out monitor at peer link bits).conn_tables ≡ monitor.conn_tables
out_tables monitor at peer link bits = go monitor.full
  where
    now : Monitor
    now = record monitor {
      full = not (has_room monitor.kept (position_of at peer link monitor.kept));
      views = with_view monitor.views at peer (view_after_out (view_in monitor.views at peer) link (slot_of_link monitor at peer link) (same_of monitor at peer link bits));
      kept = with_out monitor.kept (position_of at peer link monitor.kept) (gone_out at peer link bits);
    }

    go : (b : Bool) → (if b then monitor else now).conn_tables ≡ monitor.conn_tables
    go true = refl
    go false = refl

pub in_tables : (monitor : Monitor) (at peer link : ℕ) → (after_in monitor at peer link).conn_tables ≡ monitor.conn_tables
in_tables monitor at peer link = go (judges_coming monitor at peer)
  where
    go : (b : Bool) → (if b then record monitor { kept = with_coming monitor.kept (position_of peer at link monitor.kept) } else monitor).conn_tables ≡ monitor.conn_tables
    go true = refl
    go false = refl

pub answer_tables : (monitor : Monitor) (kind at peer link : ℕ) → (monitor_after_answer monitor kind at peer link).conn_tables ≡ monitor.conn_tables
answer_tables monitor kind at peer link = go monitor.full
  where
    go : (b : Bool) → (if b then monitor else record monitor { kept = with_answer (view_in monitor.views at peer).known kind monitor.kept (position_of at peer link monitor.kept) }).conn_tables ≡ monitor.conn_tables
    go true = refl
    go false = refl

-- the number of a record alone
pub numbered_alike : (me n : ℕ) (b : SeenTables) → Alike me n b (next_number b)
numbered_alike me n b = record { conns = refl; known_facts = refl; pending_replies = refl }

numbered_reads : (b : SeenTables) → Reads b (next_number b)
numbered_reads b = record { room = λ f. f; tidy = λ f t. t }

-- ---- a record

reads_from : (a b c : SeenTables) → b ≡ a → Reads b c → Reads a c
reads_from a b c e k = subst (λ (x : SeenTables). Reads x c) e k

alike_from : (me n : ℕ) (a b c : SeenTables) → b ≡ a → Alike me n b c → Alike me n a c
alike_from me n a b c e k = subst (λ (x : SeenTables). Alike me n x c) e k

reads_as : (a b : SeenTables) → b ≡ a → Reads a b
reads_as a b e = subst (λ (x : SeenTables). Reads a x) (sym e) (reads_same a)

alike_as : (me n : ℕ) (a b : SeenTables) → b ≡ a → Alike me n a b
alike_as me n a b e = subst (λ (x : SeenTables). Alike me n a x) (sym e) (alike_same me n a)

event_reads : (monitor : Monitor) (at : ℕ) (bits : List Bool) (e : InterfaceEvent) → Reads monitor.conn_tables (after_event monitor at bits e).conn_tables
event_reads monitor at bits InterfaceEvent.Short = reads_same monitor.conn_tables
event_reads monitor at bits InterfaceEvent.Nothing = reads_same monitor.conn_tables
event_reads monitor at bits (InterfaceEvent.Own kind link) = reads_same monitor.conn_tables
event_reads monitor at bits (InterfaceEvent.Other kind) = reads_same monitor.conn_tables
event_reads monitor at bits (InterfaceEvent.Out peer link) =
    let A = monitor_after_out monitor at peer link bits in
    reads_from monitor.conn_tables A.conn_tables (after_said A at peer (turn_at A at peer at true) (fresh_out monitor at peer link bits) (message_in bits)).conn_tables (out_tables monitor at peer link bits) (said_reads A at peer at true (fresh_out monitor at peer link bits) (message_in bits))
event_reads monitor at bits (InterfaceEvent.Answer kind peer link) = reads_as monitor.conn_tables (monitor_after_answer monitor kind at peer link).conn_tables (answer_tables monitor kind at peer link)
event_reads monitor at bits (InterfaceEvent.In peer link) =
    let A = after_in monitor at peer link in
    reads_from monitor.conn_tables A.conn_tables (after_said A at peer (turn_at A at peer peer false) true (message_in bits)).conn_tables (in_tables monitor at peer link) (said_reads A at peer peer false true (message_in bits))

pub record_reads : (monitor : Monitor) (way : ImpDirection) (at : ℕ) (bits : List Bool) → Reads monitor.conn_tables (after_record monitor way at bits).conn_tables
record_reads monitor way at bits = reads_both monitor.conn_tables (next_number monitor.conn_tables) (after_record monitor way at bits).conn_tables (numbered_reads monitor.conn_tables) (event_reads (sees monitor at) at bits (event_of way at bits))

event_alike : (monitor : Monitor) (at : ℕ) (bits : List Bool) (e : InterfaceEvent) (me n : ℕ) → ((peer : ℕ) → (at == me && peer == n) ≡ false) → Alike me n monitor.conn_tables (after_event monitor at bits e).conn_tables
event_alike monitor at bits InterfaceEvent.Short me n d = alike_same me n monitor.conn_tables
event_alike monitor at bits InterfaceEvent.Nothing me n d = alike_same me n monitor.conn_tables
event_alike monitor at bits (InterfaceEvent.Own kind link) me n d = alike_same me n monitor.conn_tables
event_alike monitor at bits (InterfaceEvent.Other kind) me n d = alike_same me n monitor.conn_tables
event_alike monitor at bits (InterfaceEvent.Out peer link) me n d =
    let A = monitor_after_out monitor at peer link bits in
    alike_from me n monitor.conn_tables A.conn_tables (after_said A at peer (turn_at A at peer at true) (fresh_out monitor at peer link bits) (message_in bits)).conn_tables (out_tables monitor at peer link bits)
    (said_alikes A at peer at true (fresh_out monitor at peer link bits) (message_in bits) me n (d peer))
event_alike monitor at bits (InterfaceEvent.Answer kind peer link) me n d = alike_as me n monitor.conn_tables (monitor_after_answer monitor kind at peer link).conn_tables (answer_tables monitor kind at peer link)
event_alike monitor at bits (InterfaceEvent.In peer link) me n d =
    let A = after_in monitor at peer link in
    alike_from me n monitor.conn_tables A.conn_tables (after_said A at peer (turn_at A at peer peer false) true (message_in bits)).conn_tables (in_tables monitor at peer link) (said_alikes A at peer peer false true (message_in bits) me n (d peer))

-- at another interface
pub record_alike : (monitor : Monitor) (way : ImpDirection) (at : ℕ) (bits : List Bool) (me n : ℕ) → (at == me) ≡ false → Alike me n monitor.conn_tables (after_record monitor way at bits).conn_tables
record_alike monitor way at bits me n d =
    alike_both me n monitor.conn_tables (next_number monitor.conn_tables) (after_record monitor way at bits).conn_tables (numbered_alike me n monitor.conn_tables)
    (event_alike (sees monitor at) at bits (event_of way at bits) me n (λ peer. ap (λ (b : Bool). b && peer == n) d))
