-- The books after a message that is read: where there is room, there was before it, and they are tidy; and what is between two
-- others is as it was.
use Rattle.std.proofs.Common.{◌≡◌, ℕ, ◌==◌, Bool, true, false, not, ◌&&◌, if◌then◌else◌, List, [], ◌∷◌, length, Option, None, Some, Result, Ok, Err}
use Rattle.ncp_leader.specs.declared.fault.MessageFault.{MessageFault}
use Rattle.ncp_leader.specs.Message.{Message}
use Rattle.ncp_wire.specs.declared.command.Command.{Command}
use Rattle.ncp_wire.specs.declared.fault.CommandFault.{CommandFault}
use Rattle.ncp_monitor.specs.declared.finding.ItemKind.{ItemKind}
use Rattle.ncp_interface.specs.declared.sent_message.SentMessage.{SentMessage}
use Rattle.ncp_monitor.specs.declared.link_target.LinkTarget.{LinkTarget}
use Rattle.ncp_monitor.specs.declared.conn_state.FactKind.{FactKind}
use Rattle.ncp_interface.specs.declared.message_class.MessageClass.{MessageClass}
use Rattle.ncp_interface.specs.declared.message_class.MessageClass.TheVariants.{Stop, Text, Control}
use Rattle.ncp_monitor.specs.declared.phase.MessageContext.{MessageContext}
use Rattle.ncp_monitor.specs.declared.observed_flow.ObservedFlow.{ObservedFlow}
use Rattle.ncp_monitor.specs.declared.monitor.Monitor.{Monitor}
use Rattle.ncp_monitor.specs.declared.view.View.{View}
use Rattle.ncp_monitor.specs.Acts.{act_of}
use Rattle.ncp_monitor.specs.ConnStates.{SeenTables, conn_at_index, put_conn, tables_cleared}
use Rattle.ncp_interface.specs.Contents.{message_class, items_said}
use Rattle.ncp_monitor.specs.Phases.{after_item, after_items}
use Rattle.ncp_monitor.specs.Replies.{fault_wanted}
use Rattle.ncp_monitor.specs.Allocation.{index_on_receive_link, from_sender, is_any}
use Rattle.ncp_monitor.specs.Texts.{text_shown, speaker_of, admits_error, text_target, open_text_rules, used, after_text_came, conn_came_at, text_suspended, admits_error_if, demuxed_after_text, conn_tables_after_text}
use Rattle.ncp_monitor.specs.Speaking.{after_spoken, after_all_said}
use Rattle.ncp_monitor.specs.Talked.{observed_flow_of, reaches, act_reaches, clears, after_flow, after_talked, reports_omitted, after_left_out}
use Rattle.ncp_monitor.specs.Judged.{shows_all, tables_after_read, view_of, turn_at, after_said}
use Rattle.ncp_proof_monitor_allocation.proofs.Resting.{fact_room, due_room}
use Rattle.ncp_proof_monitor_replies.proofs.AllGo.{room_before}
use Rattle.ncp_proof_monitor_allocation.proofs.TidyBooks.{Tidy, tidy_spoken, tidy_text, tidy_cleared}
use Rattle.ncp_proof_monitor_allocation.proofs.Elsewhere.{Alike, alike_same, alike_both, item_alike, text_alike, cleared_alike, said_alike}

-- what is kept through what is read: there was room before it, and the books are tidy
pub record Reads (b now : SeenTables) : Type 0 where
  pub room : now.full ≡ false → b.full ≡ false
  pub tidy : now.full ≡ false → Tidy b → Tidy now

pub reads_same : (b : SeenTables) → Reads b b
reads_same b = record { room = λ f. f; tidy = λ f t. t }

pub reads_both : (a b c : SeenTables) → Reads a b → Reads b c → Reads a c
reads_both a b c k l = record { room = λ f. k.room (l.room f); tidy = λ f t. l.tidy f (k.tidy (l.room f) t) }

reads_if : (x : Bool) (b now : SeenTables) → Reads b now → Reads b (if x then now else b)
reads_if true b now k = k
reads_if false b now k = reads_same b

alike_if : (me n : ℕ) (x : Bool) (b now : SeenTables) → Alike me n b now → Alike me n b (if x then now else b)
alike_if me n true b now k = k
alike_if me n false b now k = alike_same me n b

module _ (at peer : ℕ) where
  module _ (context : MessageContext) (kept : List SentMessage) where
    abbrev flow : ObservedFlow
    flow = observed_flow_of at peer context

    came_room : (link : ℕ) (b : SeenTables) → (after_text_came flow link b).full ≡ false → b.full ≡ false
    came_room link b f = go context.sent (index_on_receive_link flow (from_sender flow link) b.conns) f
      where
        go : (s : Bool) (o : Option ℕ) → (if s then b else conn_came_at b o).full ≡ false → b.full ≡ false
        go true o f = f
        go false None f = f
        go false (Some i) f = by (conn_at_index b.conns i).peer_left f
          where
            by : (x : Bool) → (if x then b else put_conn b (Some i) (record (conn_at_index b.conns i) { came = true })).full ≡ false → b.full ≡ false
            by true f = f
            by false f = f

    text_reads : (link : ℕ) (message : Message) (b : SeenTables) → Reads b (conn_tables_after_text flow link message b)
    text_reads link message b = record { room = go (text_target flow link b); tidy = λ f t. tidy_text flow link message b t }
      where
        admits_room : (mid : SeenTables) → (admits_error flow message mid).full ≡ false → mid.full ≡ false
        admits_room mid f = fact_room at peer (FactKind.Admits (not context.sent) (text_shown (speaker_of flow) message)) mid f

        suspended_room : (mid : SeenTables) → (text_suspended flow link mid).full ≡ false → mid.full ≡ false
        suspended_room mid f = fact_room at peer (FactKind.LinkSuspended (not context.sent) link) mid f

        wrong : (x y : Bool) (mid : SeenTables) → (admits_error_if x flow message (if y then text_suspended flow link mid else mid)).full ≡ false → mid.full ≡ false
        wrong true true mid f = suspended_room mid (admits_room (text_suspended flow link mid) f)
        wrong true false mid f = admits_room mid f
        wrong false true mid f = suspended_room mid f
        wrong false false mid f = f

        go : (l : LinkTarget) → (demuxed_after_text flow link message b l).full ≡ false → b.full ≡ false
        go LinkTarget.Rests f = came_room link b (admits_room (after_text_came flow link b) f)
        go LinkTarget.Nobody f = suspended_room b (admits_room (text_suspended flow link b) f)
        go LinkTarget.Closed f = suspended_room b (admits_room (text_suspended flow link b) f)
        go (LinkTarget.Unasked place) f = came_room link b (admits_room (after_text_came flow link b) f)
        go (LinkTarget.Open place) f =
            let conn = conn_at_index b.conns place in
            let put = put_conn b (Some place) (used (length message.text) conn) in
            let is = is_any (open_text_rules link message conn) in
            came_room link put (wrong is (is && not context.sent) (after_text_came flow link put) f)

    item_room : (item : Result Command CommandFault) (b : SeenTables) → (after_spoken flow kept item b).full ≡ false → b.full ≡ false
    item_room (Ok c) b f = room_before at peer context.sent kept c b f
    item_room (Err fault) b f = due_room b (record { at = at; peer = peer; host = not context.sent; wanted = fault_wanted fault; mandatory = true }) f

    pub flow_reads : (item : Result Command CommandFault) (v : View) (b : SeenTables) → Reads b (after_flow context flow kept item v b)
    flow_reads item v b = go (clears context (act_of item) v) (act_reaches context (act_of item) v)
      where
        go : (x y : Bool) → Reads b (if x then tables_cleared at peer b else if y then after_spoken flow kept item b else b)
        go true y = record { room = λ f. f; tidy = λ f t. tidy_cleared at peer b t }
        go false true = record { room = item_room item b; tidy = λ f t. tidy_spoken flow kept item b f t }
        go false false = reads_same b

    pub items_read : (items : List (Result Command CommandFault)) (v : View) (b : SeenTables) → Reads b (after_talked context flow kept items v b)
    items_read [] v b = reads_same b
    items_read (item ∷ items) v b =
        let now = after_flow context flow kept item v b in
        reads_both b now (after_talked context flow kept items (after_item context item v) now) (flow_reads item v b) (items_read items (after_item context item v) now)

    left_reads : (room : Bool) (v : View) (b : SeenTables) → Reads b (after_left_out context flow room v b)
    left_reads room v b = reads_if (reports_omitted context room v b) b (after_all_said at peer b) (record { room = λ f. f; tidy = λ f t. t })

    pub read_reads : (reading : MessageClass) (message : Message) (v : View) (b : SeenTables) → Reads b (tables_after_read context flow kept message v b reading)
    read_reads Stop message v b = reads_same b
    read_reads Text message v b = reads_if (reaches context ItemKind.Text v) b (conn_tables_after_text flow message.leader.link message b) (text_reads message.leader.link message b)
    read_reads Control message v b =
        let text = message.text in
        let items = items_said text in
        let now = after_talked context flow kept items v b in
        reads_both b now (after_left_out context flow (shows_all text v) (after_items context items v) now) (items_read items v b) (left_reads (shows_all text v) (after_items context items v) now)

    -- ---- between two others

    module _ (me n : ℕ) (other : (at == me && peer == n) ≡ false) where
      flow_alike : (item : Result Command CommandFault) (v : View) (b : SeenTables) → Alike me n b (after_flow context flow kept item v b)
      flow_alike item v b = go (clears context (act_of item) v) (act_reaches context (act_of item) v)
        where
          go : (x y : Bool) → Alike me n b (if x then tables_cleared at peer b else if y then after_spoken flow kept item b else b)
          go true y = cleared_alike me n at peer other b
          go false true = item_alike me n at peer other context.sent kept item b
          go false false = alike_same me n b

      items_alike : (items : List (Result Command CommandFault)) (v : View) (b : SeenTables) → Alike me n b (after_talked context flow kept items v b)
      items_alike [] v b = alike_same me n b
      items_alike (item ∷ items) v b =
          let now = after_flow context flow kept item v b in
          alike_both me n b now (after_talked context flow kept items (after_item context item v) now) (flow_alike item v b) (items_alike items (after_item context item v) now)

      pub read_alike : (reading : MessageClass) (message : Message) (v : View) (b : SeenTables) → Alike me n b (tables_after_read context flow kept message v b reading)
      read_alike Stop message v b = alike_same me n b
      read_alike Text message v b = alike_if me n (reaches context ItemKind.Text v) b (conn_tables_after_text flow message.leader.link message b) (text_alike me n at peer other context.sent message.leader.link message b)
      read_alike Control message v b =
          let text = message.text in
          let items = items_said text in
          let now = after_talked context flow kept items v b in
          alike_both me n b now (after_left_out context flow (shows_all text v) (after_items context items v) now) (items_alike items v b)
          (alike_if me n (reports_omitted context (shows_all text v) (after_items context items v) now) now (after_all_said at peer now) (said_alike me n at peer other now))

-- ---- a message that is read

pub said_reads : (A : Monitor) (at peer by : ℕ) (sent fresh : Bool) (r : Result Message MessageFault) → Reads A.conn_tables (after_said A at peer (turn_at A at peer by sent) fresh r).conn_tables
said_reads A at peer by sent true (Ok m) = read_reads at peer (turn_at A at peer by sent) A.kept (message_class m) m (view_of A at peer) A.conn_tables
said_reads A at peer by sent false (Ok m) = reads_same A.conn_tables
said_reads A at peer by sent fresh (Err fault) = reads_same A.conn_tables

pub said_alikes : (A : Monitor) (at peer by : ℕ) (sent fresh : Bool) (r : Result Message MessageFault) (me n : ℕ) → (at == me && peer == n) ≡ false → Alike me n A.conn_tables (after_said A at peer (turn_at A at peer by sent) fresh r).conn_tables
said_alikes A at peer by sent true (Ok m) me n other = read_alike at peer (turn_at A at peer by sent) A.kept me n other (message_class m) m (view_of A at peer) A.conn_tables
said_alikes A at peer by sent false (Ok m) me n other = alike_same me n A.conn_tables
said_alikes A at peer by sent fresh (Err fault) me n other = alike_same me n A.conn_tables
