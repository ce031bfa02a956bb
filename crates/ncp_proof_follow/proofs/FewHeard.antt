-- The number of connections that one message adds to the tables: a text none; a control message at most
-- three for each of its commands that is no reset.
use Rattle.std.proofs.Common.{◌≡◌, ℕ, suc, ◌+◌, ◌*◌, ◌≤◌, ◌==◌, Bool, true, false, not, ◌&&◌, if◌then◌else◌, List, [], ◌∷◌, length, Option, None, Some, eq-eqb, refl, sym, ap, ◌∙◌, subst, arith}
use Rattle.std.specs.Prelude.{◌-◌, nat_le, Result, Ok}
use Rattle.std.specs.List.{filter, position}
use Rattle.std.proofs.lemmas.Bool.{eqb-true, and_parts}
use Rattle.std.proofs.lemmas.Bool.Decides.{nat_tests}
use Rattle.ncp_leader.specs.declared.fault.MessageFault.{MessageFault}
use Rattle.ncp_leader.specs.Message.{Message}
use Rattle.ncp_wire.specs.declared.command.Command.{Command}
use Rattle.ncp_wire.specs.declared.command.Command.TheVariants.{Rst, Rrp}
use Rattle.ncp_wire.specs.declared.fault.CommandFault.{CommandFault}
use Rattle.ncp_wire.specs.Spelling.{spelling}
use Rattle.ncp_control.specs.Texts.{items_of}
use Rattle.ncp_control.proofs.Reading.{spelling_takes}
use Rattle.ncp_model.specs.Phase.{is_other}
use Rattle.ncp_model.specs.Sending.{fitting}
use Rattle.ncp_monitor.specs.declared.finding.ItemKind.{ItemKind}
use Rattle.ncp_interface.specs.declared.sent_message.SentMessage.{SentMessage}
use Rattle.ncp_monitor.specs.declared.link_target.LinkTarget.{LinkTarget}
use Rattle.ncp_monitor.specs.declared.conn_state.ConnState.{ConnState}
use Rattle.ncp_monitor.specs.declared.conn_state.FactKind.{FactKind}
use Rattle.ncp_interface.specs.declared.message_class.MessageClass.{MessageClass}
use Rattle.ncp_interface.specs.declared.message_class.MessageClass.TheVariants.{Stop, Text, Control}
use Rattle.ncp_monitor.specs.declared.phase.MessageContext.{MessageContext}
use Rattle.ncp_monitor.specs.declared.observed_flow.ObservedFlow.{ObservedFlow}
use Rattle.ncp_monitor.specs.declared.monitor.Monitor.{Monitor}
use Rattle.ncp_monitor.specs.declared.view.View.{View}
use Rattle.ncp_monitor.specs.declared.act.Act.{Act}
use Rattle.ncp_monitor.specs.ConnStates.{SeenTables, is_conn_between, has_link, conn_at_index, put_conn, tables_cleared}
use Rattle.ncp_interface.specs.Contents.{message_class, items_said}
use Rattle.ncp_monitor.specs.Phases.{after_item, after_items}
use Rattle.ncp_monitor.specs.Speaking.{after_all_said}
use Rattle.ncp_monitor.specs.Talked.{observed_flow_of, reaches, clears, after_flow, after_talked, reports_omitted}
use Rattle.ncp_monitor.specs.Texts.{text_shown, speaker_of, admits_error, text_target, open_text_rules, text_suspended, conn_came_at, after_text_came, used, admits_error_if, demuxed_after_text, conn_tables_after_text}
use Rattle.ncp_monitor.specs.Allocation.{is_any}
use Rattle.ncp_monitor.specs.Judged.{view_of, shows_all, turn_at, tables_after_read, after_said}
use Rattle.ncp_proof_monitor_allocation.proofs.Elsewhere.{Alike}
use Rattle.ncp_proof_monitor_allocation.proofs.Resting.{fact_conns}
use Rattle.ncp_proof_follow.proofs.GrowsRecord.{set_length, flow_grows}
use Rattle.ncp_proof_follow.proofs.NeverFull.{two_length}
use Rattle.ncp_proof_follow.proofs.Fewer.{lives_at, others_in}

-- ---- as many connections, or fewer

abbrev AsFew : SeenTables → SeenTables → Type 0
AsFew b now = length now.conns ≤ length b.conns

same_few : (b now : SeenTables) → now.conns ≡ b.conns → AsFew b now
same_few b now e = let k : length now.conns ≡ length b.conns = ap length e in omega (arith, k)

few_then : (a b c : SeenTables) → AsFew a b → AsFew b c → AsFew a c
few_then a b c x y = omega (arith, x, y)

-- ---- a text

module _ (flow : ObservedFlow) (link : ℕ) (message : Message) where
  admits_few : (b : SeenTables) → AsFew b (admits_error flow message b)
  admits_few b = same_few b (admits_error flow message b) (fact_conns flow.at flow.peer (FactKind.Admits (not flow.sent) (text_shown (speaker_of flow) message)) b)

  suspended_few : (b : SeenTables) → AsFew b (text_suspended flow link b)
  suspended_few b = same_few b (text_suspended flow link b) (fact_conns flow.at flow.peer (FactKind.LinkSuspended (not flow.sent) link) b)

  came_few : (b : SeenTables) → AsFew b (after_text_came flow link b)
  came_few b = go flow.sent (position (has_link flow.at flow.peer (not flow.sent) link) b.conns)
    where
      go : (s : Bool) (o : Option ℕ) → AsFew b (if s then b else conn_came_at b o)
      go true o = omega arith
      go false None = omega arith
      go false (Some i) = by (conn_at_index b.conns i).peer_left
        where
          by : (x : Bool) → AsFew b (if x then b else put_conn b (Some i) (record (conn_at_index b.conns i) { came = true }))
          by true = omega arith
          by false = set_length b.conns i (record (conn_at_index b.conns i) { came = true })

  pub text_few : (b : SeenTables) → AsFew b (conn_tables_after_text flow link message b)
  text_few b = go (text_target flow link b)
    where
      then_admits : (mid : SeenTables) → AsFew b mid → AsFew b (admits_error flow message mid)
      then_admits mid k = few_then b mid (admits_error flow message mid) k (admits_few mid)

      wrong : (x y : Bool) (mid : SeenTables) → AsFew b mid → AsFew b (admits_error_if x flow message (if y then text_suspended flow link mid else mid))
      wrong true true mid k = then_admits (text_suspended flow link mid) (few_then b mid (text_suspended flow link mid) k (suspended_few mid))
      wrong true false mid k = then_admits mid k
      wrong false true mid k = few_then b mid (text_suspended flow link mid) k (suspended_few mid)
      wrong false false mid k = k

      go : (l : LinkTarget) → AsFew b (demuxed_after_text flow link message b l)
      go LinkTarget.Rests = then_admits (after_text_came flow link b) (came_few b)
      go LinkTarget.Nobody = then_admits (text_suspended flow link b) (suspended_few b)
      go LinkTarget.Closed = then_admits (text_suspended flow link b) (suspended_few b)
      go (LinkTarget.Unasked place) = then_admits (after_text_came flow link b) (came_few b)
      go (LinkTarget.Open place) =
          let conn = conn_at_index b.conns place in
          let is = is_any (open_text_rules link message conn) in
          let put = put_conn b (Some place) (used (length message.text) conn) in
          wrong is (is && not flow.sent) (after_text_came flow link put) (few_then b put (after_text_came flow link put) (set_length b.conns place (used (length message.text) conn)) (came_few put))

-- ---- the commands of a control message

filter_few : {A : Type 0} (p : A → Bool) (xs : List A) → length (filter p xs) ≤ length xs
filter_few p [] = omega arith
filter_few p (x ∷ xs) = go (p x) (filter_few p xs)
  where
    go : (b : Bool) → length (filter p xs) ≤ length xs → length (if b then x ∷ filter p xs else filter p xs) ≤ suc (length xs)
    go true e = omega (arith, e)
    go false e = omega (arith, e)

module _ (at peer : ℕ) (context : MessageContext) (kept : List SentMessage) where
  abbrev flow : ObservedFlow
  flow = observed_flow_of at peer context

  -- a reset leaves none more
  reset_few : (c : Command) → is_other c ≡ false → (v : View) (b : SeenTables) → AsFew b (after_flow context flow kept (Ok c) v b)
  reset_few Rst e v b = go (clears context Act.Reset v)
    where
      go : (x : Bool) → AsFew b (if x then tables_cleared at peer b else b)
      go true = filter_few (λ conn. not (is_conn_between at peer conn)) b.conns
      go false = omega arith
  reset_few Rrp e v b = omega arith
  reset_few c e v b = absurd (cc e)

  commands_few : (cs : List Command) (v : View) (b : SeenTables) → length (after_talked context flow kept (items_of cs None) v b).conns ≤ length b.conns + 3 * others_in cs
  commands_few [] v b = omega arith
  commands_few (c ∷ cs) v b = go (is_other c) refl (commands_few cs (after_item context (Ok c) v) (after_flow context flow kept (Ok c) v b))
    where
      now : SeenTables
      now = after_flow context flow kept (Ok c) v b

      go : (x : Bool) → is_other c ≡ x → length (after_talked context flow kept (items_of cs None) (after_item context (Ok c) v) now).conns ≤ length now.conns + 3 * others_in cs
          → length (after_talked context flow kept (items_of cs None) (after_item context (Ok c) v) now).conns ≤ length b.conns + 3 * length (if x then c ∷ filter is_other cs else filter is_other cs)
      go true e rest = let g = (flow_grows at peer context kept (Ok c) v b).conns in omega (arith, g, rest)
      go false e rest = let g = reset_few c e v b in omega (arith, g, rest)

  -- what a message leaves, with these commands if it is a control message
  read_few : (reading : MessageClass) (message : Message) (cs : List Command) → (reading ≡ Control → items_said message.text ≡ items_of cs None) → (v : View) (b : SeenTables)
      → length (tables_after_read context flow kept message v b reading).conns ≤ length b.conns + 3 * others_in cs
  read_few Stop message cs is v b = omega arith
  read_few Text message cs is v b = go (reaches context ItemKind.Text v)
    where
      go : (x : Bool) → length (if x then conn_tables_after_text flow message.leader.link message b else b).conns ≤ length b.conns + 3 * others_in cs
      go true = let k = text_few flow message.leader.link message b in omega (arith, k)
      go false = omega arith
  read_few Control message cs is v b =
      let text = message.text in
      let items = items_said text in
      let now = after_talked context flow kept items v b in
      let k : length now.conns ≤ length b.conns + 3 * others_in cs = subst (λ (xs : List (Result Command CommandFault)). length (after_talked context flow kept xs v b).conns ≤ length b.conns + 3 * others_in cs) (sym (is refl)) (commands_few cs v b) in
      go (reports_omitted context (shows_all text v) (after_items context items v) now) now k
    where
      go : (x : Bool) (now : SeenTables) → length now.conns ≤ length b.conns + 3 * others_in cs → length (if x then after_all_said at peer now else now).conns ≤ length b.conns + 3 * others_in cs
      go true now k = k
      go false now k = k

-- ---- a message that is read, or sent again

pub said_few : (A : Monitor) (at peer by : ℕ) (sent : Bool) (m : Message) (cs : List Command) → (message_class m ≡ Control → items_said m.text ≡ items_of cs None)
    → length (after_said A at peer (turn_at A at peer by sent) true (Ok m)).conn_tables.conns ≤ length A.conn_tables.conns + 3 * others_in cs
said_few A at peer by sent m cs is = read_few at peer (turn_at A at peer by sent) A.kept (message_class m) m cs is (view_of A at peer) A.conn_tables

pub again_few : (A : Monitor) (at peer by : ℕ) (sent : Bool) (r : Result Message MessageFault) → (after_said A at peer (turn_at A at peer by sent) false r).conn_tables.conns ≡ A.conn_tables.conns
again_few A at peer by sent (Ok m) = refl
again_few A at peer by sent (Result.Err fault) = refl

-- ---- those of the one interface

-- those of two interfaces are others
disjoint_length : {A : Type 0} (p q : A → Bool) → ((x : A) → p x ≡ true → q x ≡ false) → (xs : List A) → length (filter p xs) + length (filter q xs) ≤ length xs
disjoint_length p q d [] = omega arith
disjoint_length p q d (x ∷ xs) = go (p x) refl (q x) refl (disjoint_length p q d xs)
  where
    go : (a : Bool) → p x ≡ a → (b : Bool) → q x ≡ b → length (filter p xs) + length (filter q xs) ≤ length xs
        → length (if a then x ∷ filter p xs else filter p xs) + length (if b then x ∷ filter q xs else filter q xs) ≤ suc (length xs)
    go true i true j e = let nay : true ≡ false = sym j ∙ d x i in absurd (cc nay)
    go true i false j e = omega (arith, e)
    go false i true j e = omega (arith, e)
    go false i false j e = omega (arith, e)

-- where those at the other interface are as they were, as many more stand at this one as there are more
pub few_here : (me n : ℕ) (b now : SeenTables) (more : ℕ) → (me == n) ≡ false → ((at peer : ℕ) → (at == me && peer == n) ≡ false → (at == n && peer == me) ≡ false → filter (is_conn_between at peer) b.conns ≡ [])
    → Alike n me b now → length now.conns ≤ length b.conns + more → lives_at me n now ≤ lives_at me n b + more
few_here me n b now more apart none k l =
    let x = two_length (λ (conn : ConnState). conn.at) (λ (conn : ConnState). conn.peer) me n b.conns none in
    let y = disjoint_length (is_conn_between me n) (is_conn_between n me) one_only now.conns in
    let z : lives_at n me now ≡ lives_at n me b = ap length k.conns in
    omega (arith, x, y, z, l)
  where
    one_only : (conn : ConnState) → is_conn_between me n conn ≡ true → is_conn_between n me conn ≡ false
    one_only conn e = go (conn.at == n) refl
      where
        two : ((conn.at == me) ≡ true) × ((conn.peer == n) ≡ true)
        two = and_parts (conn.at == me) (conn.peer == n) e

        go : (x : Bool) → (conn.at == n) ≡ x → (x && (conn.peer == me)) ≡ false
        go false i = refl
        go true i =
            let nay : true ≡ false = sym (eq-eqb me n (sym (eqb-true conn.at me two.0) ∙ eqb-true conn.at n i)) ∙ apart in absurd (cc nay)

pub few_same : (me n : ℕ) (b now : SeenTables) → Alike me n b now → lives_at me n now ≡ lives_at me n b
few_same me n b now k = ap length k.conns

-- ---- the commands of one message

pub fitting_few : (room : ℕ) (cs : List Command) → length (fitting room cs) ≤ room
fitting_few room [] = omega arith
fitting_few room (c ∷ cs) = go (nat_le (length (spelling c)) room) refl (fitting_few (room - length (spelling c)) cs)
  where
    most : (x y : ℕ) → nat_le x y ≡ true → x ≤ y
    most x y e = grind (arith, nat_tests)

    go : (b : Bool) → nat_le (length (spelling c)) room ≡ b → length (fitting (room - length (spelling c)) cs) ≤ room - length (spelling c) → length (if b then c ∷ fitting (room - length (spelling c)) cs else []) ≤ room
    go true e k = let s = spelling_takes c in let m = most (length (spelling c)) room e in omega (arith, s, m, k)
    go false e k = omega arith

-- where nothing but resets waits, they are resets
pub fitting_resets : (room : ℕ) (cs : List Command) → filter is_other cs ≡ [] → others_in (fitting room cs) ≡ 0
fitting_resets room [] e = refl
fitting_resets room (c ∷ cs) e = go (nat_le (length (spelling c)) room) (is_other c) refl e (fitting_resets (room - length (spelling c)) cs)
  where
    go : (b x : Bool) → is_other c ≡ x → (if x then c ∷ filter is_other cs else filter is_other cs) ≡ [] → (filter is_other cs ≡ [] → others_in (fitting (room - length (spelling c)) cs) ≡ 0)
        → others_in (if b then c ∷ fitting (room - length (spelling c)) cs else []) ≡ 0
    go b true i e rest = absurd (cc e)
    go true false i e rest = ap (λ (x : Bool). length (if x then c ∷ filter is_other (fitting (room - length (spelling c)) cs) else filter is_other (fitting (room - length (spelling c)) cs))) i ∙ rest e
    go false false i e rest = refl
