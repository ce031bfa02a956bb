-- The flow between two hosts, as observed at the interface of one after it sent a message.
use Rattle.std.proofs.Common.{◌≡◌, ℕ, ◌<◌, ◌==◌, Bool, true, false, not, ◌&&◌, List, [], ◌++◌, length, All, Option, None, Some, Result, Ok, Err, filter, option_map, option_to_list, refl, sym, ap, ◌∙◌, subst}
use Rattle.ncp_numbers.specs.Bytes.{bits_of_bytes}
use Rattle.ncp_leader.specs.declared.fault.MessageFault.{MessageFault}
use Rattle.ncp_leader.specs.Leader.{leader_in}
use Rattle.ncp_leader.specs.Message.{Message, message_in, message_with}
use Rattle.ncp_wire.specs.declared.command.Command.{Command}
use Rattle.ncp_wire.specs.Spelling.{IsCommand, spellings}
use Rattle.ncp_slot.specs.Slot.{is_empty}
use Rattle.ncp_slot.specs.Slots.{LinkSlot}
use Rattle.ncp_model.specs.Peers.{Peer}
use Rattle.ncp_peer.specs.Output.{leader_to, output_by}
use Rattle.ncp_interface.specs.declared.event.InterfaceEvent.{InterfaceEvent}
use Rattle.ncp_monitor.specs.declared.finding.ItemKind.{ItemKind}
use Rattle.ncp_monitor.specs.declared.phase.MessageContext.{MessageContext}
use Rattle.ncp_monitor.specs.declared.monitor.Monitor.{Monitor}
use Rattle.ncp_monitor.specs.declared.view.View.{View}
use Rattle.ncp_monitor.specs.declared.views.TheConstants.{VIEWS}
use Rattle.ncp_interface.specs.declared.imp_direction.ImpDirection.TheVariants.{ToImp}
use Rattle.ncp_monitor.specs.ConnStates.{SeenTables}
use Rattle.ncp_monitor.specs.Messages.{judged_bits, rule_of_message}
use Rattle.ncp_interface.specs.Contents.{is_unused, message_class}
use Rattle.ncp_monitor.specs.Phases.{broken_by, early_finding}
use Rattle.ncp_interface.specs.Slots.{is_of, position_of, kept_slot, same_at, busy_link}
use Rattle.ncp_monitor.specs.Tables.{view_in}
use Rattle.ncp_monitor.specs.Talked.{observed_flow_of, text_findings, after_talked_text}
use Rattle.ncp_monitor.specs.declared.finding.Finding.{Finding}
use Rattle.ncp_monitor.specs.Judged.{next_number, sees, view_of, slot_of_link, same_of, changes_slot, out_finding, fresh_out, view_after_out, monitor_after_out, turn_at, after_read, tables_after_read, said_findings, message_findings, after_said, event_findings, record_findings, after_record}
use Rattle.ncp_monitor.proofs.Following.{out_is}
use Rattle.ncp_interface.proofs.Events.{goes_to}
use Rattle.ncp_proof_monitor.proofs.Fresh.{New, is_new}
use Rattle.ncp_proof_monitor.proofs.Shown.{Shows}
use Rattle.ncp_proof_monitor.proofs.Talking.{text_found}
use Rattle.ncp_proof_monitor_messages.proofs.AsRead.{items, control_of, text_view}
use Rattle.ncp_proof_monitor_messages.proofs.OwnOut
use Rattle.ncp_proof_monitor_replies.proofs.BooksRecord.{out_tables, record_reads}
use Rattle.ncp_proof_monitor_network.proofs.ConsistentViews.{Afloat, with_float}
use Rattle.ncp_proof_monitor_network.proofs.Sessions.{SessionInvariant, Floated, empty_front, empty_rest, views_session, tables_session, text_goes}
use Rattle.ncp_proof_monitor_network.proofs.NeverSuspended.{Awake, out_awake, text_leaves}
use Rattle.ncp_proof_monitor_network.proofs.InMessages.{control_goes}

-- while there is room, the reported phase is the observed one
pub view_reported : (u : Monitor) (at peer : ℕ) → (view_in u.views at peer).told ≡ true → u.full ≡ false → view_of u at peer ≡ view_in u.views at peer
view_reported u at peer t f = ap (λ (b : Bool). record v { told = b }) (ap (λ (b : Bool). v.told && not b) f ∙ open_reported v.told)
  where
    v : View
    v = view_in u.views at peer

    open_reported : (b : Bool) → (b && not false) ≡ b
    open_reported true = refl
    open_reported false = refl

pub no_option : {A : Type 0} (o : Option A) → option_to_list o ≡ [] → o ≡ None
no_option None e = refl
no_option (Some x) e = absurd (cc e)

module _ (me n on : ℕ) (m : List Bool) (slot : LinkSlot) (p : Peer) (u : Monitor) (differ : (n == me) ≡ false) (apart : (me == n) ≡ false) (small : me < 256) (few : n < 256) (long : length u.views ≡ VIEWS)
    (led : leader_in m ≡ Ok (leader_to n on)) (ready : output_by slot n on p ≡ Some m) (known : (view_in u.views me n).known ≡ true)
    (shown : u.full ≡ false → Shows (filter (is_of me n on) u.kept) slot) (full : (after_record u ToImp me m).full ≡ false) (none : record_findings u ToImp me m ≡ [])
    (room : (after_record u ToImp me m).conn_tables.full ≡ false) (vk : View) (hl kl : List Command) (ht kt : Afloat) (before : SessionInvariant me n (view_in u.views me n) vk u.conn_tables hl kl ht kt) where
  abbrev A : Monitor
  A = monitor_after_out (sees u me) me n on m

  abbrev v : View
  v = view_in u.views me n

  abbrev context : MessageContext
  context = turn_at A me n me true

  abbrev now : Monitor
  now = after_record u ToImp me m

  abbrev fresh : Bool
  fresh = fresh_out (sees u me) me n on m

  told : v.told ≡ true
  told = before.awake_h.told

  roomy : u.full ≡ false
  roomy = OwnOut.roomy me n on m slot p u differ small few long led ready told known shown full

  full_A : A.full ≡ false
  full_A = OwnOut.full_A me n on m slot p u differ small few long led ready told known shown full

  is_fresh : fresh ≡ is_empty slot
  is_fresh = OwnOut.is_fresh_out me n on m slot p u differ small few long led ready told known shown full

  tables_A : A.conn_tables ≡ next_number u.conn_tables
  tables_A = out_tables (sees u me) me n on m

  room_A : A.conn_tables.full ≡ false
  room_A = ap (λ (b : SeenTables). b.full) tables_A ∙ (record_reads u ToImp me m).room room

  unchanged : changes_slot (slot_of_link (sees u me) me n on) (same_of (sees u me) me n on m) ≡ false
  unchanged =
      (subst (λ (b : Bool). New (kept_slot b u.kept (position_of me n on u.kept)) (same_at u.kept (position_of me n on u.kept) m) slot) (sym known)
      (is_new (is_of me n on) u.kept slot n on p m (shown roomy) ready)).kept

  seen_A : view_in A.views me n ≡ view_after_out v on (slot_of_link (sees u me) me n on) (same_of (sees u me) me n on m)
  seen_A = OwnOut.seen me n on m slot p u differ small few long led ready told known shown full

  awake_A : Awake (view_in A.views me n)
  awake_A = subst Awake (sym seen_A) (out_awake v on (slot_of_link (sees u me) me n on) (same_of (sees u me) me n on m) unchanged before.awake_h)

  -- after it is sent, before it is read
  session_A : SessionInvariant me n (view_in A.views me n) vk A.conn_tables hl kl ht kt
  session_A =
      subst (λ (b : SeenTables). SessionInvariant me n (view_in A.views me n) vk b hl kl ht kt) (sym tables_A)
      (tables_session me n (view_in A.views me n) vk u.conn_tables (next_number u.conn_tables) hl kl ht kt (record { conns = refl; known_facts = refl; pending_replies = refl }) (record { conns = refl; known_facts = refl; pending_replies = refl })
      (views_session me n (view_in u.views me n) (view_in A.views me n) vk u.conn_tables hl kl ht kt awake_A (ap (λ (w : View). w.host.wait) seen_A) (ap (λ (w : View). w.owes) seen_A) before))

  is : now ≡ after_said A me n context fresh (message_in m)
  is = out_is u me n on m led differ

  reported_A : view_of A me n ≡ view_in A.views me n
  reported_A = view_reported A me n awake_A.told full_A

  session_reported : SessionInvariant me n (view_of A me n) vk A.conn_tables hl kl ht kt
  session_reported = subst (λ (w : View). SessionInvariant me n w vk A.conn_tables hl kl ht kt) (sym reported_A) session_A

  -- it is sent again
  pub again : is_empty slot ≡ false → SessionInvariant me n (view_in now.views me n) vk now.conn_tables hl kl ht kt
  again e =
      subst (λ (x : Monitor). SessionInvariant me n (view_in x.views me n) vk x.conn_tables hl kl ht kt) (sym is)
      (subst (λ (b : Bool). SessionInvariant me n (view_in (after_said A me n context b (message_in m)).views me n) vk (after_said A me n context b (message_in m)).conn_tables hl kl ht kt) (sym (is_fresh ∙ e)) (by (message_in m)))
    where
      by : (r : Result Message MessageFault) → SessionInvariant me n (view_in (after_said A me n context false r).views me n) vk (after_said A me n context false r).conn_tables hl kl ht kt
      by (Ok x) = session_A
      by (Err x) = session_A

  module _ (x : Message) (new : is_empty slot ≡ true) (reads : message_in m ≡ Ok x) where
    -- nothing is found in what it says
    unsaid : said_findings A me n context true (Ok x) ≡ []
    unsaid =
        ap (λ (b : Bool). said_findings A me n context b (Ok x)) (sym (is_fresh ∙ new)) ∙ ap (λ (r : Result Message MessageFault). said_findings A me n context fresh r) (sym reads)
        ∙ empty_rest (option_to_list (option_map (broken_by context) (rule_of_message (message_in m) on (judged_bits (message_in m) m)))) (said_findings A me n context fresh (message_in m))
        (empty_rest (option_to_list (out_finding (sees u me) me n on m)) (message_findings A me n context fresh on m)
        (sym (ap (λ (e : InterfaceEvent). event_findings (sees u me) ToImp me m e) (goes_to me n on m led differ)) ∙ none))

    view_now : view_in now.views me n ≡ after_read (message_class x) context x.text (view_of A me n)
    view_now = OwnOut.read_on me n on m slot p u differ small few long led ready told known shown full x new reads

    conn_tables_now : now.conn_tables ≡ tables_after_read context (observed_flow_of me n context) A.kept x (view_of A me n) A.conn_tables (message_class x)
    conn_tables_now =
        ap (λ (y : Monitor). y.conn_tables) is ∙ ap (λ (b : Bool). (after_said A me n context b (message_in m)).conn_tables) (is_fresh ∙ new)
        ∙ ap (λ (r : Result Message MessageFault). (after_said A me n context true r).conn_tables) reads

  -- a text
  pub text : (size : ℕ) (bits : List Bool) → is_empty slot ≡ true → is_unused on ≡ false → (on == 0) ≡ false → ht on ≡ None → message_in m ≡ Ok (message_with (leader_to n on) size bits)
      → SessionInvariant me n (view_in now.views me n) vk now.conn_tables hl kl (with_float on (Some (size, length bits)) ht) kt
  text size bits new right z none_out reads =
      subst (λ (w : View). SessionInvariant me n w vk now.conn_tables hl kl now_out kt)
      (sym (view_now x new reads ∙ text_view me context.busy context.zero true x (view_of A me n) right z ∙ text_leaves context (view_of A me n) session_reported.awake_h.told early))
      (subst (λ (b : SeenTables). SessionInvariant me n (view_of A me n) vk b hl kl now_out kt) (sym conn_tables)
      (text_goes me n me context.busy context.zero on x (view_of A me n) vk A.conn_tables hl kl ht kt apart room_A none_out early (empty_rest found_early found_text found) session_reported))
    where
      x : Message
      x = message_with (leader_to n on) size bits

      now_out : Afloat
      now_out = with_float on (Some (size, length bits)) ht

      found_early : List Finding
      found_early = option_to_list (early_finding context ItemKind.Text (view_of A me n))

      found_text : List Finding
      found_text = text_findings context (observed_flow_of me n context) on x (view_of A me n) A.conn_tables

      found : found_early ++ found_text ≡ []
      found = sym (text_found A me n me true x right z) ∙ unsaid x new reads

      early : early_finding context ItemKind.Text (view_of A me n) ≡ None
      early = no_option (early_finding context ItemKind.Text (view_of A me n)) (empty_front found_early found_text found)

      leaves : (y : Message) → is_unused y.leader.link ≡ false → (y.leader.link == 0) ≡ false
          → tables_after_read context (observed_flow_of me n context) A.kept y (view_of A me n) A.conn_tables (message_class y) ≡ after_talked_text context (observed_flow_of me n context) y.leader.link y (view_of A me n) A.conn_tables
      leaves y right z = rw (right, z) refl

      conn_tables : now.conn_tables ≡ after_talked_text context (observed_flow_of me n context) on x (view_of A me n) A.conn_tables
      conn_tables = conn_tables_now x new reads ∙ leaves x right z

  -- commands
  pub commands : (cs : List Command) → is_empty slot ≡ true → All IsCommand cs → Floated me n (busy_link me n A.kept) A.kept ht → message_in m ≡ Ok (control_of n cs) → SessionInvariant me n (view_in now.views me n) vk now.conn_tables (hl ++ cs) kl ht kt
  commands cs new each shows reads =
      subst (λ (w : View). SessionInvariant me n w vk now.conn_tables (hl ++ cs) kl ht kt) (sym (view_now (control_of n cs) new reads))
      (subst (λ (b : SeenTables). SessionInvariant me n (after_read (message_class (control_of n cs)) context (bits_of_bytes (spellings cs)) (view_of A me n)) vk b (hl ++ cs) kl ht kt) (sym (conn_tables_now (control_of n cs) new reads))
      (control_goes me n context.busy context.zero A.kept (bits_of_bytes (spellings cs)) cs (view_of A me n) vk A.conn_tables hl kl ht kt apart shows (items cs each) (unsaid (control_of n cs) new reads)
      (ap (λ (b : SeenTables). b.full) (sym (conn_tables_now (control_of n cs) new reads)) ∙ room) session_reported))
