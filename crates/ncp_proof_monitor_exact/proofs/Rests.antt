-- While nothing is found, no phase is suspended.
use Rattle.std.proofs.Common.{◌≡◌, ◌⊎◌, inl, inr, ℕ, ◌<◌, ◌==◌, Bool, true, false, not, ◌&&◌, ◌||◌, if◌then◌else◌, List, [], ◌∷◌, ◌++◌, length, Option, None, Some, is_some, option_map, option_to_list, Result, Ok, Err, get_or, slice_set, get_or-set_same, get_or-set_other, refl, sym, ap, ◌∙◌, subst, arith}
use Rattle.std.proofs.lemmas.List.{length-replicate, get_or-replicate}
use Rattle.std.proofs.lemmas.Bool.Decides.{eqb_tells}
use Rattle.ncp_leader.specs.declared.fault.MessageFault.{MessageFault}
use Rattle.ncp_leader.specs.Message.{Message, message_in}
use Rattle.ncp_wire.specs.declared.command.Command.{Command}
use Rattle.ncp_wire.specs.declared.fault.CommandFault.{CommandFault}
use Rattle.ncp_interface.specs.declared.event.InterfaceEvent.{InterfaceEvent}
use Rattle.ncp_interface.specs.declared.event.InterfaceEvent.TheVariants as event
use Rattle.ncp_monitor.specs.declared.finding.Finding.{Finding}
use Rattle.ncp_monitor.specs.declared.finding.Rule.{Rule}
use Rattle.ncp_monitor.specs.declared.finding.ItemKind.{ItemKind}
use Rattle.ncp_monitor.specs.declared.finding.ItemKind.TheVariants as thing
use Rattle.ncp_interface.specs.declared.sent_message.SentMessage.{SentMessage}
use Rattle.ncp_interface.specs.declared.sent_message.LinkState.{LinkState}
use Rattle.ncp_monitor.specs.declared.phase.MessageContext.{MessageContext}
use Rattle.ncp_monitor.specs.declared.observed_flow.ObservedFlow.{ObservedFlow}
use Rattle.ncp_monitor.specs.declared.monitor.Monitor.{Monitor}
use Rattle.ncp_monitor.specs.declared.view.View.{View}
use Rattle.ncp_monitor.specs.declared.view.Wait.{Wait}
use Rattle.ncp_monitor.specs.declared.view.Wait.TheVariants.{Even, Waiting}
use Rattle.ncp_monitor.specs.declared.views.TheConstants.{HOSTS, VIEWS}
use Rattle.ncp_interface.specs.declared.imp_direction.ImpDirection.{ImpDirection}
use Rattle.ncp_interface.specs.Events.{event_of}
use Rattle.ncp_monitor.specs.ConnStates.{SeenTables}
use Rattle.ncp_monitor.specs.Messages.{judged_bits, rule_of_message}
use Rattle.ncp_interface.specs.Contents.{message_class, items_said}
use Rattle.ncp_interface.specs.declared.message_class.MessageClass.{MessageClass}
use Rattle.ncp_interface.specs.declared.message_class.MessageClass.TheVariants.{Stop, Text, Control}
use Rattle.ncp_monitor.specs.Phases.{reset_findings, view_after_reset, reply_findings, view_after_reply, broken_by, is_early, early_rule, early_finding, is_before_reply, is_acted_on, after_thing, item_findings, after_item, after_items, after_room, missing_finding}
use Rattle.ncp_interface.specs.Slots.{position_of, gone_out, has_room, with_out, busy_link, is_slot_out, with_answer}
use Rattle.ncp_monitor.specs.Tables.{index_of, view_in, with_view}
use Rattle.ncp_monitor.specs.Talked.{observed_flow_of, flow_finding, number_findings, all_findings, talked_findings, after_flow, after_talked, left_out_findings, text_findings}
use Rattle.ncp_monitor.specs.Views.{new_view, awaits_reply, is_answered_too_often}
use Rattle.ncp_monitor.specs.Judged.{new_monitor, by_host, view_of, slot_of_link, same_of, out_rule, changes_slot, view_after_out, out_finding, fresh_out, monitor_after_out, judges_coming, with_coming, after_in, unsent_finding, turn_at, knows_zero, shows_all, after_read, read_findings, said_findings, message_findings, after_said, monitor_after_answer, event_findings, after_event, sees, record_findings, after_record}
use Rattle.ncp_monitor.proofs.Following.{said_keeps}
use Rattle.ncp_proof_monitor_messages.specs.Files.{findings_in}
use Rattle.ncp_proof_monitor_messages.specs.ManyFiles.{AllFit}
use Rattle.ncp_proof_monitor_messages.proofs.OneWay.{Sound, sound_sees, sound_said, sound_out, sound_in}
use Rattle.ncp_proof_monitor_exact.specs.Exact.{monitor_after_file, NoPhaseSuspended}
use Rattle.ncp_proof_monitor_exact.proofs.Steps.{told}
use Rattle.ncp_proof_monitor_exact.proofs.Events.{Facts, facts, out_quiet}
use Rattle.ncp_proof_monitor_exact.proofs.Walk.{begins_open}

-- ---- a view that is calm: each RST and each RRP was right

abbrev waits : Bool → Wait
waits true = Waiting
waits false = Even

abbrev count : Bool → ℕ
count true = 1
count false = 0

abbrev calm : Bool → Bool → Bool → Bool → Bool → Bool → View
calm host_began peer_began host_waits peer_waits first known = record {
  host = record { began = host_began; wait = waits host_waits; asked = count peer_waits; admits = false };
  peer = record { began = peer_began; wait = waits peer_waits; asked = count host_waits; admits = false };
  owes = peer_waits;
  first = first;
  desynced = false;
  suspended = false;
  acted = false;
  overlapped = false;
  told = true;
  known = known;
}

record Calm (v : View) : Type 0 where
  hb : Bool
  pb : Bool
  a : Bool
  b : Bool
  f : Bool
  k : Bool
  is : v ≡ calm hb pb a b f k

parts : (xs ys : List Finding) → xs ++ ys ≡ [] → (xs ≡ []) × (ys ≡ [])
parts [] ys e = (refl, e)
parts (x ∷ xs) ys e = absurd (cc)

-- ---- an item

thing_calm : (n : ℕ) (sent : Bool) (busy : Option ℕ) (zero : Bool) (what : ItemKind) (hb pb a b f k : Bool)
    → option_to_list (early_finding (record { by = n; sent = sent; busy = busy; zero = zero }) what (calm hb pb a b f k)) ≡ [] → Calm (after_thing (record { by = n; sent = sent; busy = busy; zero = zero }) what (calm hb pb a b f k))
thing_calm n sent busy zero what hb pb a b f k e = go (is_early (record { by = n; sent = sent; busy = busy; zero = zero }) what (calm hb pb a b f k)) refl e
  where
    context : MessageContext
    context = record { by = n; sent = sent; busy = busy; zero = zero }

    go : (x : Bool) → is_early context what (calm hb pb a b f k) ≡ x → option_to_list (if false || not x then None else Some (broken_by context (early_rule context what (calm hb pb a b f k)))) ≡ [] → Calm (after_thing context what (calm hb pb a b f k))
    go true g q = absurd (cc)
    go false g q = record {
      hb = hb;
      pb = pb;
      a = a;
      b = b;
      f = f;
      k = k;
      is = ap (λ (x : Bool). record (calm hb pb a b f k) {
        suspended = false || ((true && x) && not (awaits_reply (waits a)) && not (is_before_reply context (calm hb pb a b f k)));
        desynced = false || ((true && x) && sent);
        acted = false || ((true && x) && is_acted_on context (calm hb pb a b f k));
      }) g;
    }

reset_calm : (n : ℕ) (sent : Bool) (busy : Option ℕ) (zero : Bool) (hb pb a b f k : Bool)
    → reset_findings (record { by = n; sent = sent; busy = busy; zero = zero }) (calm hb pb a b f k) ≡ [] → Calm (view_after_reset (record { by = n; sent = sent; busy = busy; zero = zero }) (calm hb pb a b f k))
reset_calm n true busy zero hb pb true b f k e = absurd (cc)
reset_calm n true (Some link) zero hb pb false b f k e = absurd (cc)
reset_calm n true None zero hb pb false true true k e = absurd (cc)
reset_calm n true None zero hb pb false true false k e = record { hb = true; pb = pb; a = true; b = true; f = false; k = true; is = refl }
reset_calm n true None zero hb pb false false f k e = record { hb = true; pb = pb; a = true; b = false; f = f; k = true; is = refl }
reset_calm n false busy zero hb pb a true f k e = absurd (cc)
reset_calm n false busy zero hb pb true false f k e = record { hb = hb; pb = true; a = true; b = true; f = is_some busy; k = k; is = refl }
reset_calm n false busy zero hb pb false false f k e = record { hb = hb; pb = true; a = false; b = true; f = is_some busy; k = k; is = refl }

reply_calm : (n : ℕ) (sent : Bool) (busy : Option ℕ) (zero : Bool) (hb pb a b f k : Bool)
    → reply_findings (record { by = n; sent = sent; busy = busy; zero = zero }) (calm hb pb a b f k) ≡ [] → Calm (view_after_reply (record { by = n; sent = sent; busy = busy; zero = zero }) (calm hb pb a b f k))
reply_calm n true busy zero hb pb a false f k e = absurd (cc)
reply_calm n true (Some link) zero hb pb a true f k e = absurd (cc)
reply_calm n true None zero hb pb a true f k e = record { hb = true; pb = pb; a = a; b = false; f = f; k = true; is = refl }
reply_calm n false busy zero hb pb false b f k e = absurd (cc)
reply_calm n false busy zero hb pb true true f k e = record { hb = hb; pb = true; a = false; b = true; f = f; k = k; is = refl }
reply_calm n false busy zero hb pb true false f k e = record { hb = hb; pb = true; a = false; b = false; f = f; k = k; is = refl }

item_calm_at : (n : ℕ) (sent : Bool) (busy : Option ℕ) (zero : Bool) (item : Result Command CommandFault) (hb pb a b f k : Bool)
    → item_findings (record { by = n; sent = sent; busy = busy; zero = zero }) item (calm hb pb a b f k) ≡ [] → Calm (after_item (record { by = n; sent = sent; busy = busy; zero = zero }) item (calm hb pb a b f k))
item_calm_at n sent busy zero (Err fault) hb pb a b f k e = absurd (cc)
item_calm_at n sent busy zero (Ok Command.Rst) hb pb a b f k e = reset_calm n sent busy zero hb pb a b f k e
item_calm_at n sent busy zero (Ok Command.Rrp) hb pb a b f k e = reply_calm n sent busy zero hb pb a b f k e
item_calm_at n sent busy zero (Ok Command.Nop) hb pb a b f k e = thing_calm n sent busy zero thing.Nop hb pb a b f k e
item_calm_at n sent busy zero (Ok (Command.Rts x y z)) hb pb a b f k e = thing_calm n sent busy zero thing.Rts hb pb a b f k e
item_calm_at n sent busy zero (Ok (Command.Str x y z)) hb pb a b f k e = thing_calm n sent busy zero thing.Str hb pb a b f k e
item_calm_at n sent busy zero (Ok (Command.Cls x y)) hb pb a b f k e = thing_calm n sent busy zero thing.Cls hb pb a b f k e
item_calm_at n sent busy zero (Ok (Command.All x y z)) hb pb a b f k e = thing_calm n sent busy zero thing.All hb pb a b f k e
item_calm_at n sent busy zero (Ok (Command.Gvb x y z)) hb pb a b f k e = thing_calm n sent busy zero thing.Gvb hb pb a b f k e
item_calm_at n sent busy zero (Ok (Command.Ret x y z)) hb pb a b f k e = thing_calm n sent busy zero thing.Ret hb pb a b f k e
item_calm_at n sent busy zero (Ok (Command.Inr x)) hb pb a b f k e = thing_calm n sent busy zero thing.Inr hb pb a b f k e
item_calm_at n sent busy zero (Ok (Command.Ins x)) hb pb a b f k e = thing_calm n sent busy zero thing.Ins hb pb a b f k e
item_calm_at n sent busy zero (Ok (Command.Eco x)) hb pb a b f k e = thing_calm n sent busy zero thing.Eco hb pb a b f k e
item_calm_at n sent busy zero (Ok (Command.Erp x)) hb pb a b f k e = thing_calm n sent busy zero thing.Erp hb pb a b f k e
item_calm_at n sent busy zero (Ok (Command.Err x y)) hb pb a b f k e = thing_calm n sent busy zero thing.Err hb pb a b f k e

item_calm : (n : ℕ) (sent : Bool) (busy : Option ℕ) (zero : Bool) (item : Result Command CommandFault) (v : View) → Calm v
    → item_findings (record { by = n; sent = sent; busy = busy; zero = zero }) item v ≡ [] → Calm (after_item (record { by = n; sent = sent; busy = busy; zero = zero }) item v)
item_calm n sent busy zero item v c =
    subst (λ (x : View). item_findings (record { by = n; sent = sent; busy = busy; zero = zero }) item x ≡ [] → Calm (after_item (record { by = n; sent = sent; busy = busy; zero = zero }) item x)) (sym c.is)
    (item_calm_at n sent busy zero item c.hb c.pb c.a c.b c.f c.k)

items_calm : (n : ℕ) (sent : Bool) (busy : Option ℕ) (zero : Bool) (said : ObservedFlow) (kept : List SentMessage) (items : List (Result Command CommandFault)) (v : View) (conn_tables : SeenTables) → Calm v
    → talked_findings (record { by = n; sent = sent; busy = busy; zero = zero }) said kept items v conn_tables ≡ [] → Calm (after_items (record { by = n; sent = sent; busy = busy; zero = zero }) items v)
items_calm n sent busy zero said kept [] v conn_tables c e = c
items_calm n sent busy zero said kept (item ∷ items) v conn_tables c e =
    let context : MessageContext = record { by = n; sent = sent; busy = busy; zero = zero } in
    let p = parts (all_findings context said kept item v conn_tables) (talked_findings context said kept items (after_item context item v) (after_flow context said kept item v conn_tables)) e in
    let q = parts (item_findings context item v ++ option_to_list (flow_finding context said kept item v conn_tables)) (number_findings context said item v conn_tables) p.0 in
    let r = parts (item_findings context item v) (option_to_list (flow_finding context said kept item v conn_tables)) q.0 in
    items_calm n sent busy zero said kept items (after_item context item v) (after_flow context said kept item v conn_tables) (item_calm n sent busy zero item v c r.0) p.1

-- ---- what is read on of a message

room_calm : (n : ℕ) (sent : Bool) (busy : Option ℕ) (zero : Bool) (room : Bool) (v : View) → Calm v → Calm (after_room (record { by = n; sent = sent; busy = busy; zero = zero }) room v)
room_calm n sent busy zero room v c = subst (λ (x : View). Calm (after_room (record { by = n; sent = sent; busy = busy; zero = zero }) room x)) (sym c.is) (go (sent && room) c.a)
  where
    w : View
    w = calm c.hb c.pb c.a c.b c.f c.k

    still : Calm w
    still = record { hb = c.hb; pb = c.pb; a = c.a; b = c.b; f = c.f; k = c.k; is = refl }

    go : (b a : Bool) → Calm (if b && (not true || is_answered_too_often (waits a)) then record w { host = record w.host { wait = Even } } else w)
    go true true = still
    go true false = still
    go false a = still

text_calm : (n : ℕ) (sent : Bool) (busy : Option ℕ) (zero : Bool) (v : View) → Calm v
    → option_to_list (early_finding (record { by = n; sent = sent; busy = busy; zero = zero }) thing.Text v) ≡ [] → Calm (after_thing (record { by = n; sent = sent; busy = busy; zero = zero }) thing.Text v)
text_calm n sent busy zero v c =
    subst (λ (x : View). option_to_list (early_finding (record { by = n; sent = sent; busy = busy; zero = zero }) thing.Text x) ≡ [] → Calm (after_thing (record { by = n; sent = sent; busy = busy; zero = zero }) thing.Text x)) (sym c.is)
    (thing_calm n sent busy zero thing.Text c.hb c.pb c.a c.b c.f c.k)

read_calm : (n : ℕ) (sent : Bool) (busy : Option ℕ) (zero : Bool) (said : ObservedFlow) (kept : List SentMessage) (m : Message) (v : View) (conn_tables : SeenTables) (reading : MessageClass) → Calm v
    → read_findings (record { by = n; sent = sent; busy = busy; zero = zero }) said kept m v conn_tables reading ≡ [] → Calm (after_read reading (record { by = n; sent = sent; busy = busy; zero = zero }) m.text v)
read_calm n sent busy zero said kept m v conn_tables Stop c e = c
read_calm n sent busy zero said kept m v conn_tables Text c e =
    let context : MessageContext = record { by = n; sent = sent; busy = busy; zero = zero } in
    text_calm n sent busy zero v c (parts (option_to_list (early_finding context thing.Text v)) (text_findings context said m.leader.link m v conn_tables) e).0
read_calm n sent busy zero said kept m v conn_tables Control c e =
    let context : MessageContext = record { by = n; sent = sent; busy = busy; zero = zero } in
    let items : List (Result Command CommandFault) = items_said m.text in
    let p = parts (talked_findings context said kept items v conn_tables ++ option_to_list (missing_finding context (shows_all m.text v) (after_items context items v))) (left_out_findings context said kept (shows_all m.text v) (after_items context items v) (after_talked context said kept items v conn_tables)) e in
    let q = parts (talked_findings context said kept items v conn_tables) (option_to_list (missing_finding context (shows_all m.text v) (after_items context items v))) p.0 in
    room_calm n sent busy zero (shows_all m.text v) (after_items context items v) (items_calm n sent busy zero said kept items v conn_tables c q.0)

-- ---- the row of views

abbrev Row : List View → Type 0
Row views = (at peer : ℕ) → at < 256 → peer < 256 → Calm (view_in views at peer)

row_with : (views : List View) (at peer : ℕ) (x : View) → length views ≡ VIEWS → at < 256 → peer < 256 → Calm x → Row views → Row (with_view views at peer x)
row_with views at peer x l a p c row g h gs hs = go (eqb_tells (index_of g h) (index_of at peer))
  where
    i : ℕ
    i = index_of at peer

    inside : i < length views
    inside = let long : length views ≡ 65536 = l in omega (arith, long, a, p)

    go : (((index_of g h == i) ≡ true) × (index_of g h ≡ i)) ⊎ (((index_of g h == i) ≡ false) × (index_of g h ≡ i → ⊥)) → Calm (view_in (with_view views at peer x) g h)
    go (inl same) = subst (λ (v : View). Calm v) (sym (ap (λ (j : ℕ). get_or (slice_set views i x) j (new_view false)) same.1 ∙ get_or-set_same views i x (new_view false) inside)) c
    go (inr other) = subst (λ (v : View). Calm v) (sym (get_or-set_other views i (index_of g h) x (new_view false) other.1)) (row g h gs hs)

-- what is known
record Still (u : Monitor) : Type 0 where
  sound : Sound u
  full : u.full ≡ false
  row : Row u.views

view_calm : (u : Monitor) (at peer : ℕ) → Still u → at < 256 → peer < 256 → Calm (view_of u at peer)
view_calm u at peer s a p =
    let c = s.row at peer a p in
    subst (λ (b : Bool). Calm (record (view_in u.views at peer) { told = (view_in u.views at peer).told && not b })) (sym s.full)
    (subst (λ (v : View). Calm (record v { told = v.told && not false })) (sym c.is) (record { hb = c.hb; pb = c.pb; a = c.a; b = c.b; f = c.f; k = c.k; is = refl }))

said_still : (u : Monitor) (at peer by : ℕ) (sent fresh : Bool) (r : Result Message MessageFault) → at < 256 → peer < 256 → Still u → said_findings u at peer (turn_at u at peer by sent) fresh r ≡ [] → Still (after_said u at peer (turn_at u at peer by sent) fresh r)
said_still u at peer by sent true (Ok m) a p s e = record {
  sound = sound_said u at peer by sent true (Ok m) s.sound;
  full = s.full;
  row = row_with u.views at peer (after_read (message_class m) (turn_at u at peer by sent) m.text (view_of u at peer)) s.sound.long a p
      (read_calm by sent (busy_link at peer u.kept) (knows_zero u at peer) (observed_flow_of at peer (turn_at u at peer by sent)) u.kept m (view_of u at peer) u.conn_tables (message_class m) (view_calm u at peer s a p) e) s.row;
}
said_still u at peer by sent false (Ok m) a p s e = s
said_still u at peer by sent fresh (Err fault) a p s e = s

none_of : (o : Option Rule) (at : ℕ) → option_to_list (option_map (by_host at) o) ≡ [] → told o ≡ false
none_of None at e = refl
none_of (Some r) at e = absurd (cc)

unchanged : (slot : LinkState) (same : Bool) (link : ℕ) → told (out_rule slot same link) ≡ false → changes_slot slot same ≡ false
unchanged LinkState.Unknown same link e = refl
unchanged LinkState.Empty same link e = refl
unchanged LinkState.Out same link e = refl
unchanged LinkState.Came same link e = refl
unchanged LinkState.Again true link e = refl
unchanged LinkState.Again false link e = absurd (cc)

out_calm : (v : View) (link : ℕ) (slot : LinkState) (same : Bool) → Calm v → changes_slot slot same ≡ false → is_slot_out slot ≡ false → Calm (view_after_out v link slot same)
out_calm v link slot same c x y =
    subst (λ (w : View). Calm (view_after_out w link slot same)) (sym c.is) (go c.a)
  where
    after : Bool → Bool → Bool → View
    after a more out = record (calm c.hb c.pb a c.b c.f c.k) { suspended = more; overlapped = false || out }

    go : (a : Bool) → Calm (view_after_out (calm c.hb c.pb a c.b c.f c.k) link slot same)
    go a = by a (is_answered_too_often (waits a)) (even a)
      where
        even : (a : Bool) → is_answered_too_often (waits a) ≡ false
        even true = refl
        even false = refl

        by : (a r : Bool) → r ≡ false → Calm (after a (false || changes_slot slot same || (true && (r || false) && not (link == 0))) (is_slot_out slot))
        by a true e = absurd (cc)
        by a false e =
            subst (λ (b : Bool). Calm (after a (false || b || false) (is_slot_out slot))) (sym x)
            (subst (λ (b : Bool). Calm (after a false b)) (sym y) (record { hb = c.hb; pb = c.pb; a = a; b = c.b; f = c.f; k = c.k; is = refl }))

out_still : (u : Monitor) (at peer link : ℕ) (bits : List Bool) → at < 256 → peer < 256 → Still u → (monitor_after_out u at peer link bits).full ≡ false → option_to_list (out_finding u at peer link bits) ≡ [] → Still (monitor_after_out u at peer link bits)
out_still u at peer link bits a p s room e = record { sound = sound_out u at peer link bits s.sound; full = room; row = subst (λ (b : Bool). Row (if b then u else now).views) (sym s.full) row }
  where
    slot : LinkState
    slot = slot_of_link u at peer link

    same : Bool
    same = same_of u at peer link bits

    seen : View
    seen = view_after_out (view_in u.views at peer) link slot same

    now : Monitor
    now = record u { full = not (has_room u.kept (position_of at peer link u.kept)); views = with_view u.views at peer seen; kept = with_out u.kept (position_of at peer link u.kept) (gone_out at peer link bits) }

    quiet : told (out_rule slot same link) ≡ false
    quiet = none_of (out_rule slot same link) at (subst (λ (b : Bool). option_to_list (if b then None else option_map (by_host at) (out_rule slot same link)) ≡ []) s.full e)

    row : Row (with_view u.views at peer seen)
    row = row_with u.views at peer seen s.sound.long a p (out_calm (view_in u.views at peer) link slot same (s.row at peer a p) (unchanged slot same link quiet) (out_quiet slot same link quiet)) s.row

in_still : (u : Monitor) (at peer link : ℕ) → Still u → Still (after_in u at peer link)
in_still u at peer link s = record { sound = sound_in u at peer link s.sound; full = go (judges_coming u at peer); row = row (judges_coming u at peer) }
  where
    go : (b : Bool) → (if b then record u { kept = with_coming u.kept (position_of peer at link u.kept) } else u).full ≡ false
    go true = s.full
    go false = s.full

    row : (b : Bool) → Row (if b then record u { kept = with_coming u.kept (position_of peer at link u.kept) } else u).views
    row true = s.row
    row false = s.row

answer_still : (u : Monitor) (kind at peer link : ℕ) → Still u → Still (monitor_after_answer u kind at peer link)
answer_still u kind at peer link s =
    subst (λ (b : Bool). Still (if b then u else record u { kept = with_answer (view_in u.views at peer).known kind u.kept (position_of at peer link u.kept) })) (sym s.full)
    (record { sound = record { part = s.sound.part; seen_long = s.sound.seen_long; long = s.sound.long }; full = s.full; row = s.row })

event_still : (u : Monitor) (way : ImpDirection) (at : ℕ) (bits : List Bool) (e : InterfaceEvent) → at < 256 → Facts e bits → Still u → (after_event u at bits e).full ≡ false → event_findings u way at bits e ≡ [] → Still (after_event u at bits e)
event_still u way at bits event.Short a k s room e = s
event_still u way at bits event.Nothing a k s room e = s
event_still u way at bits (event.Own kind link) a k s room e = s
event_still u way at bits (event.Other kind) a k s room e = s
event_still u way at bits (event.Out peer link) a k s room e =
    let after : Monitor = monitor_after_out u at peer link bits in
    let context : MessageContext = turn_at after at peer at true in
    let fresh : Bool = fresh_out u at peer link bits in
    let p = parts (option_to_list (out_finding u at peer link bits)) (message_findings after at peer context fresh link bits) e in
    let q = parts (option_to_list (option_map (broken_by context) (rule_of_message (message_in bits) link (judged_bits (message_in bits) bits)))) (said_findings after at peer context fresh (message_in bits)) p.1 in
    said_still after at peer at true fresh (message_in bits) a k (out_still u at peer link bits a k s (sym (said_keeps after at peer context fresh (message_in bits)).1 ∙ room) p.0) q.1
event_still u way at bits (event.In peer link) a k s room e =
    let after : Monitor = after_in u at peer link in
    let context : MessageContext = turn_at after at peer peer false in
    let p = parts (option_to_list (unsent_finding u at peer link bits)) (message_findings after at peer context true link bits) e in
    let q = parts (option_to_list (option_map (broken_by context) (rule_of_message (message_in bits) link (judged_bits (message_in bits) bits)))) (said_findings after at peer context true (message_in bits)) p.1 in
    said_still after at peer peer false true (message_in bits) a k.0 (in_still u at peer link s) q.1
event_still u way at bits (event.Answer kind peer link) a k s room e = answer_still u kind at peer link s

sees_still : (u : Monitor) (at : ℕ) → Still u → Still (sees u at)
sees_still u at s = record { sound = sound_sees u at s.sound; full = s.full; row = s.row }

file_still : (u : Monitor) (file : List (ℕ × ImpDirection × List Bool)) → AllFit file → Still u → (monitor_after_file u file).full ≡ false → findings_in u file ≡ [] → Still (monitor_after_file u file)
file_still u [] fit s full e = s
file_still u (one ∷ more) fit s full e =
    let after : Monitor = after_record u one.1 one.0 one.2 in
    let p = parts (record_findings u one.1 one.0 one.2) (findings_in after more) e in
    file_still after more fit.2
    (event_still (sees u one.0) one.1 one.0 one.2 (event_of one.1 one.0 one.2) fit.0 (facts one.1 one.0 one.2) (sees_still u one.0 s) (begins_open after more full) p.0) full p.1

begins_still : Still (new_monitor false)
begins_still = record {
  sound = record { part = refl; seen_long = length-replicate HOSTS false; long = length-replicate VIEWS (new_view false) };
  full = refl;
  row = λ at peer a p.
      let inside : index_of at peer < VIEWS = omega (arith, a, p) in
      subst (λ (v : View). Calm v) (sym (get_or-replicate VIEWS (index_of at peer) (new_view false) (new_view false) inside))
      (record { hb = false; pb = false; a = false; b = false; f = false; k = true; is = refl });
}

pub no_phase_suspended : NoPhaseSuspended
no_phase_suspended file at peer fit full e a p =
    let c = (file_still (new_monitor false) file fit begins_still full e).row at peer a p in
    (ap (λ (v : View). v.told) c.is, ap (λ (v : View). v.suspended) c.is, ap (λ (v : View). v.overlapped) c.is)
