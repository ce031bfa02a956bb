-- The additions of one record to the state for a file, if no violation is found in it: to each table at
-- most those of the commands of one control text, and one kept message; and none between other hosts.
use Rattle.std.proofs.Common.{◌≡◌, ℕ, zero, suc, ◌+◌, ◌*◌, ◌<◌, ◌≤◌, ◌==◌, Bool, true, false, not, ◌&&◌, ◌||◌, if◌then◌else◌, List, [], ◌∷◌, ◌++◌, length, get_or, Option, None, Some, ◌⊎◌, inl, inr, eq-eqb, refl, sym, ap, ◌∙◌, subst, arith}
use Rattle.std.specs.Prelude.{map, drop, nat_lt, slice_set, option_map, Result, Ok}
use Rattle.std.specs.List.{remove}
use Rattle.std.specs.Option.{option_to_list, option_map_or}
use Rattle.std.proofs.lemmas.Bool.{eqb-true}
use Rattle.std.proofs.lemmas.Bool.Decides.{nat_tests}
use Rattle.ncp_numbers.specs.Bytes.{bytes_of}
use Rattle.ncp_leader.specs.declared.fault.MessageFault.{MessageFault}
use Rattle.ncp_leader.specs.declared.leader.Leader.{Leader}
use Rattle.ncp_leader.specs.declared.leader.Short.{Short}
use Rattle.ncp_leader.specs.declared.regular.TheConstants.{MAX_TEXT_BITS}
use Rattle.ncp_leader.specs.declared.leader.TheConstants.{LEADER_BITS}
use Rattle.ncp_leader.specs.Leader.{leader_at, leader_in}
use Rattle.ncp_leader.specs.Message.{Message, message_in}
use Rattle.ncp_leader.proofs.Leaders.{IsLeader-at}
use Rattle.ncp_wire.specs.declared.command.Command.{Command}
use Rattle.ncp_wire.specs.declared.fault.CommandFault.{CommandFault}
use Rattle.ncp_wire.specs.Spelling.{spelling}
use Rattle.ncp_control.proofs.Text.{length-bytes_of}
use Rattle.ncp_control.specs.Reading.{command_at, commands_within, commands_in, fault_in}
use Rattle.ncp_interface.specs.declared.event.InterfaceEvent.{InterfaceEvent}
use Rattle.ncp_monitor.specs.declared.finding.Rule.{Rule}
use Rattle.ncp_monitor.specs.declared.finding.ItemKind.{ItemKind}
use Rattle.ncp_interface.specs.declared.sent_message.SentMessage.{SentMessage}
use Rattle.ncp_interface.specs.declared.sent_message.LinkState.{LinkState}
use Rattle.ncp_interface.specs.declared.message_class.MessageClass.{MessageClass}
use Rattle.ncp_interface.specs.declared.message_class.MessageClass.TheVariants.{Stop, Text, Control}
use Rattle.ncp_interface.specs.declared.sent_messages.TheConstants.{MAX_KEPT}
use Rattle.ncp_monitor.specs.declared.phase.MessageContext.{MessageContext}
use Rattle.ncp_monitor.specs.declared.observed_flow.ObservedFlow.{ObservedFlow}
use Rattle.ncp_monitor.specs.declared.monitor.Monitor.{Monitor}
use Rattle.ncp_monitor.specs.declared.view.View.{View}
use Rattle.ncp_interface.specs.declared.imp_direction.ImpDirection.{ImpDirection}
use Rattle.ncp_monitor.specs.Acts.{act_of}
use Rattle.ncp_interface.specs.Events.{event_of}
use Rattle.ncp_monitor.specs.ConnStates.{SeenTables, tables_cleared}
use Rattle.ncp_monitor.specs.Messages.{most_bits, bits_after_text, has_extras, extras_of, rule_of_regular, judged_bits, rule_of_message}
use Rattle.ncp_interface.specs.Contents.{is_unused, message_class, items_said}
use Rattle.ncp_monitor.specs.Phases.{broken_by, after_item, after_items}
use Rattle.ncp_interface.specs.Slots.{position_of, kept_at, has_room, with_out, with_kept_slot, gone_out, nothing_kept, is_slot_out, with_answer}
use Rattle.ncp_monitor.specs.Speaking.{after_spoken, after_all_said}
use Rattle.ncp_monitor.specs.Tables.{view_in, with_view}
use Rattle.ncp_monitor.specs.Talked.{observed_flow_of, reaches, act_reaches, clears, after_flow, after_talked, reports_omitted, after_left_out}
use Rattle.ncp_monitor.specs.Texts.{conn_tables_after_text}
use Rattle.ncp_monitor.specs.Judged.{view_of, slot_of_link, same_of, fresh_out, view_after_out, monitor_after_out, monitor_after_answer, judges_coming, with_coming, after_in, shows_all, turn_at, tables_after_read, after_said, out_finding, unsent_finding, said_findings, message_findings, event_findings, record_findings, after_event, after_record, sees}
use Rattle.ncp_proof_monitor_allocation.proofs.Elsewhere.{Alike, alike_same}
use Rattle.ncp_proof_monitor_replies.proofs.BooksRead.{said_alikes}
use Rattle.ncp_proof_follow_tables.proofs.GrowsBooks.{Grows, grows_none, grows_both, grows_more, item_grows, text_grows, cleared_grows, said_grows}
use Rattle.ncp_proof_follow_tables.proofs.Besides.{rest_none}

-- ---- how many commands a control text has

within_few : (fuel : ℕ) (bytes : List ℕ) → length (commands_within fuel bytes) ≤ fuel
unfolding commands_within
within_few zero bytes = omega arith
within_few (suc more) bytes = go (command_at bytes) (within_few more)
  where
    go : (o : Option Command) → ((rest : List ℕ) → length (commands_within more rest) ≤ more) → length (option_map_or (λ command. command ∷ commands_within more (drop (length (spelling command)) bytes)) o []) ≤ suc more
    go None few = omega arith
    go (Some command) few = let e = few (drop (length (spelling command)) bytes) in omega (arith, e)

append_length : {A : Type 0} (xs ys : List A) → length (xs ++ ys) ≡ length xs + length ys
append_length [] ys = omega arith
append_length (x ∷ xs) ys = let e = append_length xs ys in omega (arith, e)

map_length : {A B : Type 0} (f : A → B) (xs : List A) → length (map f xs) ≡ length xs
map_length f [] = refl
map_length f (x ∷ xs) = ap suc (map_length f xs)

one_at_most : {A : Type 0} (o : Option A) → length (option_to_list o) ≤ 1
one_at_most None = omega arith
one_at_most (Some x) = omega arith

items_few : (text : List Bool) → length text ≤ 960 → length (items_said text) ≤ 121
items_few text short =
    let bytes = bytes_of text in
    let a : length (items_said text) ≡ length (commands_in bytes) + length (option_to_list (fault_in bytes)) = append_length (map (λ (c : Command). said c) (commands_in bytes)) (map (λ (f : CommandFault). faulty f) (option_to_list (fault_in bytes)))
    ∙ ap (λ (n : ℕ). n + length (map (λ (f : CommandFault). faulty f) (option_to_list (fault_in bytes)))) (map_length (λ (c : Command). said c) (commands_in bytes))
    ∙ ap (λ (n : ℕ). length (commands_in bytes) + n) (map_length (λ (f : CommandFault). faulty f) (option_to_list (fault_in bytes))) in
    let b = within_few (length bytes) bytes in
    let c = one_at_most (fault_in bytes) in
    let d = length-bytes_of text in
    omega (arith, a, b, c, d, short)
  where
    said : Command → Result Command CommandFault
    said c = Ok c

    faulty : CommandFault → Result Command CommandFault
    faulty f = Result.Err f

-- ---- what is read of a message

grows_if : (k : ℕ) (x : Bool) (b now : SeenTables) → Grows k b now → Grows k b (if x then now else b)
grows_if k true b now g = g
grows_if k false b now g = grows_none k b

module _ (at peer : ℕ) (context : MessageContext) (kept : List SentMessage) where
  abbrev flow : ObservedFlow
  flow = observed_flow_of at peer context

  pub flow_grows : (item : Result Command CommandFault) (v : View) (b : SeenTables) → Grows 3 b (after_flow context flow kept item v b)
  flow_grows item v b = go (clears context (act_of item) v) (act_reaches context (act_of item) v)
    where
      go : (x y : Bool) → Grows 3 b (if x then tables_cleared at peer b else if y then after_spoken flow kept item b else b)
      go true y = grows_more 0 3 (omega arith) b (tables_cleared at peer b) (cleared_grows at peer b)
      go false true = item_grows at peer context.sent kept item b
      go false false = grows_none 3 b

  items_grow : (items : List (Result Command CommandFault)) (v : View) (b : SeenTables) (most : ℕ) → length items ≤ most → Grows (3 * most) b (after_talked context flow kept items v b)
  items_grow [] v b most few = grows_none (3 * most) b
  items_grow (item ∷ items) v b zero few = absurd (omega (arith, few))
  items_grow (item ∷ items) v b (suc most) few =
      let now = after_flow context flow kept item v b in
      grows_both 3 (3 * most) (3 * suc most) (omega arith) b now (after_talked context flow kept items (after_item context item v) now) (flow_grows item v b) (items_grow items (after_item context item v) now most (omega (arith, few)))

  read_grows : (reading : MessageClass) (message : Message) (v : View) (b : SeenTables) → (reading ≡ Control → length message.text ≤ 960) → Grows 363 b (tables_after_read context flow kept message v b reading)
  read_grows Stop message v b short = grows_none 363 b
  read_grows Text message v b short =
      grows_if 363 (reaches context ItemKind.Text v) b (conn_tables_after_text flow message.leader.link message b)
      (grows_more 2 363 (omega arith) b (conn_tables_after_text flow message.leader.link message b) (text_grows at peer context.sent message.leader.link message b))
  read_grows Control message v b short =
      let text = message.text in
      let items = items_said text in
      let now = after_talked context flow kept items v b in
      grows_both 363 0 363 (omega arith) b now (after_left_out context flow (shows_all text v) (after_items context items v) now) (items_grow items v b 121 (items_few text (short refl)))
      (grows_if 0 (reports_omitted context (shows_all text v) (after_items context items v) now) now (after_all_said at peer now) (said_grows at peer now))

-- ---- a message that breaks no rule by itself

control_short : (message : Message) (len : ℕ) → rule_of_regular message len ≡ None → message_class message ≡ Control → length message.text ≤ 960
control_short message len v e = go (is_unused message.leader.link) (message.leader.link == 0) refl (message.size == 8) (has_extras message len) refl v e
  where
    no_more : (most x : ℕ) → nat_lt most x ≡ false → x ≤ most
    no_more most x f = grind (arith, nat_tests)

    last : (a b c d f : Bool) → (a || b || c || d || f) ≡ false → f ≡ false
    last true b c d f k = absurd (cc k)
    last false true c d f k = absurd (cc k)
    last false false true d f k = absurd (cc k)
    last false false false true f k = absurd (cc k)
    last false false false false f k = k

    fits : (message.leader.link == 0) ≡ true → has_extras message len ≡ false → length message.text ≤ 960
    fits z k =
        no_more 960 (length message.text)
        (ap (λ (b : Bool). nat_lt (if b then 960 else MAX_TEXT_BITS) (length message.text)) (sym z)
        ∙ last (not (message.leader.flags == 0)) (not (message.leader.low == 0)) (not (bits_after_text message len == 0)) (length message.text == 0) (nat_lt (most_bits message.leader.link) (length message.text)) k)

    go : (a b : Bool) → (message.leader.link == 0) ≡ b → (c d : Bool) → has_extras message len ≡ d
        → (if a then Some (Rule.WrongLink message.leader.link) else if b && not c then Some (Rule.WrongSize message.size) else if d then Some (extras_of message len) else None) ≡ None
        → (if a then Stop else if not b then Text else if c then Control else Stop) ≡ Control → length message.text ≤ 960
    go true b z c d x v e = absurd (cc v)
    go false true z true false x v e = fits z x
    go false true z true true x v e = absurd (cc v)
    go false true z false d x v e = absurd (cc v)
    go false false z c d x v e = absurd (cc e)

said_grow : (A : Monitor) (at peer by link len : ℕ) (sent fresh : Bool) (r : Result Message MessageFault) → rule_of_message r link len ≡ None → Grows 363 A.conn_tables (after_said A at peer (turn_at A at peer by sent) fresh r).conn_tables
said_grow A at peer by link len sent true (Ok m) v = read_grows at peer (turn_at A at peer by sent) A.kept (message_class m) m (view_of A at peer) A.conn_tables (control_short m len v)
said_grow A at peer by link len sent false (Ok m) v = grows_none 363 A.conn_tables
said_grow A at peer by link len sent fresh (Result.Err fault) v = absurd (cc v)

-- what is kept of messages it leaves
said_keeps : (A : Monitor) (at peer : ℕ) (context : MessageContext) (fresh : Bool) (r : Result Message MessageFault) → ((after_said A at peer context fresh r).full ≡ A.full) × ((after_said A at peer context fresh r).kept ≡ A.kept)
said_keeps A at peer context true (Ok m) = (refl, refl)
said_keeps A at peer context false (Ok m) = (refl, refl)
said_keeps A at peer context fresh (Result.Err fault) = (refl, refl)

-- ---- messages that are kept

pub set_length : {A : Type 0} (xs : List A) (i : ℕ) (y : A) → length (slice_set xs i y) ≤ length xs
set_length [] i y = omega arith
set_length (x ∷ xs) zero y = omega arith
set_length (x ∷ xs) (suc i) y = let e = set_length xs i y in omega (arith, e)

remove_length : {A : Type 0} (xs : List A) (i : ℕ) → length (remove xs i) ≤ length xs
remove_length [] zero = omega arith
remove_length [] (suc i) = omega arith
remove_length (x ∷ xs) zero = omega arith
remove_length (x ∷ xs) (suc i) = let e = remove_length xs i in omega (arith, e)

abbrev pub EachKept : (SentMessage → Type 0) → List SentMessage → Type 0
EachKept P [] = Unit {0}
EachKept P (k ∷ kept) = P k × EachKept P kept

-- it is a message of these two, on some link
abbrev pub IsOfTwo : ℕ → ℕ → SentMessage → Type 0
IsOfTwo a b k = (((k.from ≡ a) × (k.to ≡ b)) ⊎ ((k.from ≡ b) × (k.to ≡ a))) × (k.link < 256)

module _ (a b : ℕ) where
  each_set : (kept : List SentMessage) (i : ℕ) (k : SentMessage) → IsOfTwo a b k → EachKept (IsOfTwo a b) kept → EachKept (IsOfTwo a b) (slice_set kept i k)
  each_set [] i k h e = tt
  each_set (x ∷ kept) zero k h (p, e) = (h, e)
  each_set (x ∷ kept) (suc i) k h (p, e) = (p, each_set kept i k h e)

  each_slot : (kept : List SentMessage) (i : ℕ) (slot : LinkState) (d : SentMessage) → EachKept (IsOfTwo a b) kept → EachKept (IsOfTwo a b) (slice_set kept i (record (get_or kept i d) { slot = slot }))
  each_slot [] i slot d e = tt
  each_slot (x ∷ kept) zero slot d (p, e) = (p, e)
  each_slot (x ∷ kept) (suc i) slot d (p, e) = (p, each_slot kept i slot d e)

  each_removed : (kept : List SentMessage) (i : ℕ) → EachKept (IsOfTwo a b) kept → EachKept (IsOfTwo a b) (remove kept i)
  each_removed [] zero e = tt
  each_removed [] (suc i) e = tt
  each_removed (x ∷ kept) zero (p, e) = e
  each_removed (x ∷ kept) (suc i) (p, e) = (p, each_removed kept i e)

  each_after : (kept : List SentMessage) (k : SentMessage) → IsOfTwo a b k → EachKept (IsOfTwo a b) kept → EachKept (IsOfTwo a b) (kept ++ k ∷ [])
  each_after [] k h e = (h, tt)
  each_after (x ∷ kept) k h (p, e) = (p, each_after kept k h e)

  record Keeps (kept now : List SentMessage) (more : ℕ) (one : Type 0) : Type 0 where
    pub long : length now ≤ length kept + more
    pub each : one → EachKept (IsOfTwo a b) kept → EachKept (IsOfTwo a b) now

  out_keeps : (kept : List SentMessage) (o : Option ℕ) (k : SentMessage) → Keeps kept (with_out kept o k) 1 (IsOfTwo a b k)
  out_keeps kept (Some place) k = let l = set_length kept place k in record { long = omega (arith, l); each = λ h e. each_set kept place k h e }
  out_keeps kept None k = go (nat_lt (length kept) MAX_KEPT)
    where
      go : (x : Bool) → Keeps kept (if x then kept ++ k ∷ [] else kept) 1 (IsOfTwo a b k)
      go true = let l = append_length kept (k ∷ []) in record { long = omega (arith, l); each = λ h e. each_after kept k h e }
      go false = record { long = omega arith; each = λ h e. e }

  slot_keeps : (kept : List SentMessage) (place : ℕ) (slot : LinkState) → Keeps kept (with_kept_slot kept place slot) 0 (Unit {0})
  slot_keeps kept place slot =
      let l = set_length kept place (record (kept_at kept place) { slot = slot }) in record { long = omega (arith, l); each = λ h e. each_slot kept place slot nothing_kept e }

  came_keeps : (kept : List SentMessage) (o : Option ℕ) → Keeps kept (with_coming kept o) 0 (Unit {0})
  came_keeps kept None = record { long = omega arith; each = λ h e. e }
  came_keeps kept (Some place) = go (is_slot_out (kept_at kept place).slot)
    where
      go : (x : Bool) → Keeps kept (if x then with_kept_slot kept place LinkState.Came else kept) 0 (Unit {0})
      go true = slot_keeps kept place LinkState.Came
      go false = record { long = omega arith; each = λ h e. e }

  answer_keeps : (known : Bool) (kind : ℕ) (kept : List SentMessage) (o : Option ℕ) → Keeps kept (with_answer known kind kept o) 0 (Unit {0})
  answer_keeps known kind kept None = record { long = omega arith; each = λ h e. e }
  answer_keeps known kind kept (Some place) = go (not (is_slot_out (kept_at kept place).slot)) (kind == 5) known
    where
      go : (x y z : Bool) → Keeps kept (if x then kept else if y then (if z then remove kept place else with_kept_slot kept place LinkState.Empty) else with_kept_slot kept place LinkState.Again) 0 (Unit {0})
      go true y z = record { long = omega arith; each = λ h e. e }
      go false true true = let l = remove_length kept place in record { long = omega (arith, l); each = λ h e. each_removed kept place e }
      go false true false = slot_keeps kept place LinkState.Empty
      go false false z = slot_keeps kept place LinkState.Again

-- ---- a record

-- what an event is about: another host, and a link
abbrev pub IsBetween : ℕ → ℕ → ℕ → InterfaceEvent → Type 0
IsBetween a b at InterfaceEvent.Short = Unit {0}
IsBetween a b at InterfaceEvent.Nothing = Unit {0}
IsBetween a b at (InterfaceEvent.Own kind link) = Unit {0}
IsBetween a b at (InterfaceEvent.Other kind) = Unit {0}
IsBetween a b at (InterfaceEvent.Out peer link) = (((at ≡ a) × (peer ≡ b)) ⊎ ((at ≡ b) × (peer ≡ a))) × (link < 256)
IsBetween a b at (InterfaceEvent.Answer kind peer link) = (((at ≡ a) × (peer ≡ b)) ⊎ ((at ≡ b) × (peer ≡ a))) × (link < 256)
IsBetween a b at (InterfaceEvent.In peer link) = (((at ≡ a) × (peer ≡ b)) ⊎ ((at ≡ b) × (peer ≡ a))) × (link < 256)

pub record Widens (a b : ℕ) (monitor now : Monitor) : Type 0 where
  pub conn_tables : Grows 363 monitor.conn_tables now.conn_tables
  pub kept : length now.kept ≤ length monitor.kept + 1
  pub each : EachKept (IsOfTwo a b) monitor.kept → EachKept (IsOfTwo a b) now.kept
  pub unfilled : monitor.full ≡ false → length monitor.kept + 1 ≤ MAX_KEPT → now.full ≡ false
  pub others : (me n : ℕ) → (me == a && n == b) ≡ false → (me == b && n == a) ≡ false → Alike me n monitor.conn_tables now.conn_tables

widens_none : (a b : ℕ) (monitor : Monitor) → Widens a b monitor monitor
widens_none a b monitor = record { conn_tables = grows_none 363 monitor.conn_tables; kept = omega arith; each = λ e. e; unfilled = λ f l. f; others = λ me n d o. alike_same me n monitor.conn_tables }

pub no_option : {A B : Type 0} (f : A → B) (o : Option A) (ys : List B) → option_to_list (option_map f o) ++ ys ≡ [] → o ≡ None
no_option f None ys e = refl
no_option f (Some x) ys e = absurd (cc e)

-- not between these two
distinct_of : (a b at peer me n : ℕ) → ((at ≡ a) × (peer ≡ b)) ⊎ ((at ≡ b) × (peer ≡ a)) → (me == a && n == b) ≡ false → (me == b && n == a) ≡ false → (at == me && peer == n) ≡ false
distinct_of a b at peer me n (inl k) d o = counterpart (at == me) refl (peer == n) refl
  where
    counterpart : (x : Bool) → (at == me) ≡ x → (y : Bool) → (peer == n) ≡ y → (at == me && peer == n) ≡ false
    counterpart false e y f = ap (λ (z : Bool). z && (peer == n)) e
    counterpart true e false f = ap (λ (z : Bool). (at == me) && z) f ∙ and_no (at == me)
      where
        and_no : (z : Bool) → (z && false) ≡ false
        and_no true = refl
        and_no false = refl
    counterpart true e true f =
        let nay : true ≡ false =
        sym (ap (λ (z : Bool). z && (n == b)) (eq-eqb me a (sym (eqb-true at me e) ∙ k.0)) ∙ ap (λ (z : Bool). true && z) (eq-eqb n b (sym (eqb-true peer n f) ∙ k.1))) ∙ d in absurd (cc nay)
distinct_of a b at peer me n (inr k) d o = counterpart (at == me) refl (peer == n) refl
  where
    counterpart : (x : Bool) → (at == me) ≡ x → (y : Bool) → (peer == n) ≡ y → (at == me && peer == n) ≡ false
    counterpart false e y f = ap (λ (z : Bool). z && (peer == n)) e
    counterpart true e false f = ap (λ (z : Bool). (at == me) && z) f ∙ and_no (at == me)
      where
        and_no : (z : Bool) → (z && false) ≡ false
        and_no true = refl
        and_no false = refl
    counterpart true e true f =
        let nay : true ≡ false =
        sym (ap (λ (z : Bool). z && (n == a)) (eq-eqb me b (sym (eqb-true at me e) ∙ k.0)) ∙ ap (λ (z : Bool). true && z) (eq-eqb n a (sym (eqb-true peer n f) ∙ k.1))) ∙ o in absurd (cc nay)

room_is : (kept : List SentMessage) (o : Option ℕ) → length kept + 1 ≤ MAX_KEPT → not (has_room kept o) ≡ false
room_is kept (Some place) l = refl
room_is kept None l = ap not (less (length kept) MAX_KEPT l)
  where
    less : (x y : ℕ) → x + 1 ≤ y → nat_lt x y ≡ true
    less x y e = grind (arith, nat_tests)

-- a message is sent, before it is read
record OutWidens (a b : ℕ) (monitor A : Monitor) : Type 0 where
  pub conn_tables : A.conn_tables ≡ monitor.conn_tables
  pub kept : length A.kept ≤ length monitor.kept + 1
  pub each : EachKept (IsOfTwo a b) monitor.kept → EachKept (IsOfTwo a b) A.kept
  pub unfilled : monitor.full ≡ false → length monitor.kept + 1 ≤ MAX_KEPT → A.full ≡ false

out_widens : (a b : ℕ) (monitor : Monitor) (at peer link : ℕ) (bits : List Bool) → IsOfTwo a b (gone_out at peer link bits) → OutWidens a b monitor (monitor_after_out monitor at peer link bits)
out_widens a b monitor at peer link bits h = go monitor.full refl
  where
    place : Option ℕ
    place = position_of at peer link monitor.kept

    now : Monitor
    now = record monitor {
      full = not (has_room monitor.kept place);
      views = with_view monitor.views at peer (view_after_out (view_in monitor.views at peer) link (slot_of_link monitor at peer link) (same_of monitor at peer link bits));
      kept = with_out monitor.kept place (gone_out at peer link bits);
    }

    go : (x : Bool) → monitor.full ≡ x → OutWidens a b monitor (if x then monitor else now)
    go true e = record { conn_tables = refl; kept = omega arith; each = λ k. k; unfilled = λ f l. f }
    go false e =
        let k = out_keeps a b monitor.kept place (gone_out at peer link bits) in
        record { conn_tables = refl; kept = k.long; each = λ j. k.each h j; unfilled = λ f l. room_is monitor.kept place l }

in_widens : (a b : ℕ) (monitor : Monitor) (at peer link : ℕ) → OutWidens a b monitor (after_in monitor at peer link)
in_widens a b monitor at peer link = go (judges_coming monitor at peer)
  where
    go : (x : Bool) → OutWidens a b monitor (if x then record monitor { kept = with_coming monitor.kept (position_of peer at link monitor.kept) } else monitor)
    go true =
        let k = came_keeps a b monitor.kept (position_of peer at link monitor.kept) in
        let l = k.long in record { conn_tables = refl; kept = omega (arith, l); each = λ j. k.each tt j; unfilled = λ f l. f }
    go false = record { conn_tables = refl; kept = omega arith; each = λ k. k; unfilled = λ f l. f }

answer_widens : (a b : ℕ) (monitor : Monitor) (kind at peer link : ℕ) → OutWidens a b monitor (monitor_after_answer monitor kind at peer link)
answer_widens a b monitor kind at peer link = go monitor.full
  where
    go : (x : Bool) → OutWidens a b monitor (if x then monitor else record monitor { kept = with_answer (view_in monitor.views at peer).known kind monitor.kept (position_of at peer link monitor.kept) })
    go true = record { conn_tables = refl; kept = omega arith; each = λ k. k; unfilled = λ f l. f }
    go false =
        let k = answer_keeps a b (view_in monitor.views at peer).known kind monitor.kept (position_of at peer link monitor.kept) in
        let l = k.long in record { conn_tables = refl; kept = omega (arith, l); each = λ j. k.each tt j; unfilled = λ f l. f }

-- and read
then_said : (a b : ℕ) (monitor A : Monitor) (at peer by link len : ℕ) (sent fresh : Bool) (r : Result Message MessageFault) → OutWidens a b monitor A → rule_of_message r link len ≡ None → ((at ≡ a) × (peer ≡ b)) ⊎ ((at ≡ b) × (peer ≡ a))
    → Widens a b monitor (after_said A at peer (turn_at A at peer by sent) fresh r)
then_said a b monitor A at peer by link len sent fresh r w v two =
    let k = said_keeps A at peer (turn_at A at peer by sent) fresh r in
    record {
      conn_tables = subst (λ (x : SeenTables). Grows 363 x (after_said A at peer (turn_at A at peer by sent) fresh r).conn_tables) w.conn_tables (said_grow A at peer by link len sent fresh r v);
      kept = subst (λ (x : List SentMessage). length x ≤ length monitor.kept + 1) (sym k.1) w.kept;
      each = λ e. subst (EachKept (IsOfTwo a b)) (sym k.1) (w.each e);
      unfilled = λ f l. k.0 ∙ w.unfilled f l;
      others = λ me n d o.
          subst (λ (x : SeenTables). Alike me n x (after_said A at peer (turn_at A at peer by sent) fresh r).conn_tables) w.conn_tables (said_alikes A at peer by sent fresh r me n (distinct_of a b at peer me n two d o));
    }

event_widens : (a b : ℕ) (monitor : Monitor) (way : ImpDirection) (at : ℕ) (bits : List Bool) (e : InterfaceEvent) → IsBetween a b at e → event_findings monitor way at bits e ≡ [] → Widens a b monitor (after_event monitor at bits e)
event_widens a b monitor way at bits InterfaceEvent.Short i v = widens_none a b monitor
event_widens a b monitor way at bits InterfaceEvent.Nothing i v = widens_none a b monitor
event_widens a b monitor way at bits (InterfaceEvent.Own kind link) i v = widens_none a b monitor
event_widens a b monitor way at bits (InterfaceEvent.Other kind) i v = widens_none a b monitor
event_widens a b monitor way at bits (InterfaceEvent.Out peer link) i v =
    let A = monitor_after_out monitor at peer link bits in
    let fresh = fresh_out monitor at peer link bits in
    then_said a b monitor A at peer at link (judged_bits (message_in bits) bits) true fresh (message_in bits) (out_widens a b monitor at peer link bits i)
    (no_option (broken_by (turn_at A at peer at true)) (rule_of_message (message_in bits) link (judged_bits (message_in bits) bits)) (said_findings A at peer (turn_at A at peer at true) fresh (message_in bits))
    (rest_none (option_to_list (out_finding monitor at peer link bits)) (message_findings A at peer (turn_at A at peer at true) fresh link bits) v)) i.0
event_widens a b monitor way at bits (InterfaceEvent.Answer kind peer link) i v =
    let A = monitor_after_answer monitor kind at peer link in
    let w = answer_widens a b monitor kind at peer link in
    record {
      conn_tables = subst (λ (x : SeenTables). Grows 363 monitor.conn_tables x) (sym w.conn_tables) (grows_none 363 monitor.conn_tables);
      kept = w.kept;
      each = w.each;
      unfilled = w.unfilled;
      others = λ me n d o. subst (λ (x : SeenTables). Alike me n monitor.conn_tables x) (sym w.conn_tables) (alike_same me n monitor.conn_tables);
    }
event_widens a b monitor way at bits (InterfaceEvent.In peer link) i v =
    let A = after_in monitor at peer link in
    then_said a b monitor A at peer peer link (judged_bits (message_in bits) bits) false true (message_in bits) (in_widens a b monitor at peer link)
    (no_option (broken_by (turn_at A at peer peer false)) (rule_of_message (message_in bits) link (judged_bits (message_in bits) bits)) (said_findings A at peer (turn_at A at peer peer false) true (message_in bits))
    (rest_none (option_to_list (unsent_finding monitor at peer link bits)) (message_findings A at peer (turn_at A at peer peer false) true link bits) v)) i.0

-- for a record in which no violation is found
pub record_widens : (a b : ℕ) (monitor : Monitor) (way : ImpDirection) (at : ℕ) (bits : List Bool) → IsBetween a b at (event_of way at bits) → record_findings monitor way at bits ≡ [] → Widens a b monitor (after_record monitor way at bits)
record_widens a b monitor way at bits i v = record { conn_tables = grown; kept = w.kept; each = w.each; unfilled = w.unfilled; others = others }
  where
    w : Widens a b (sees monitor at) (after_record monitor way at bits)
    w = event_widens a b (sees monitor at) way at bits (event_of way at bits) i v

    grown : Grows 363 monitor.conn_tables (after_record monitor way at bits).conn_tables
    grown =
        let l = w.conn_tables.conns in let m = w.conn_tables.known_facts in let d = w.conn_tables.pending_replies in
        record {
          conns = l;
          known_facts = m;
          pending_replies = d;
          unfilled = λ h. w.conn_tables.unfilled (record { conns = h.conns; known_facts = h.known_facts; pending_replies = h.pending_replies; unfilled = h.unfilled });
          once = w.conn_tables.once;
        }

    others : (me n : ℕ) → (me == a && n == b) ≡ false → (me == b && n == a) ≡ false → Alike me n monitor.conn_tables (after_record monitor way at bits).conn_tables
    others me n d o = let k = w.others me n d o in record { conns = k.conns; known_facts = k.known_facts; pending_replies = k.pending_replies }

-- ---- the link in a leader is one of 256

pub leader_link : (bits : List Bool) (leader : Leader) → leader_in bits ≡ Ok leader → leader.link < 256
leader_link bits leader e = go (nat_lt (length bits) LEADER_BITS) e
  where
    go : (x : Bool) → ◌≡◌ {A = Result Leader Short} (if x then Result.Err (record {}) else Ok (leader_at bits)) (Ok leader) → leader.link < 256
    go true e = absurd (cc e)
    go false e = let is : leader_at bits ≡ leader = cc e in subst (λ (l : Leader). l.link < 256) is (IsLeader-at bits).link
