-- A record in which nothing is found leaves what is left of each connection that is followed no less than what may be sent of it
-- as it is judged: through each item of a control text, each text, and what is forgotten.
use Rattle.std.proofs.Common.{◌≡◌, ◌<◌, ℕ, ◌==◌, Bool, true, false, not, ◌&&◌, if◌then◌else◌, List, [], ◌∷◌, ◌++◌, map, length, Option, None, Some, Result, Ok, option_map, option_to_list, refl, sym, ap, ◌∙◌, subst}
use Rattle.std.specs.Prelude.{nat_lt}
use Rattle.std.specs.List.{filter}
use Rattle.ncp_leader.specs.declared.fault.MessageFault.{MessageFault}
use Rattle.ncp_leader.specs.declared.leader.Leader.{Leader}
use Rattle.ncp_leader.specs.Leader.{leader_in}
use Rattle.ncp_leader.specs.Message.{Message, message_in}
use Rattle.ncp_wire.specs.declared.command.Command.{Command}
use Rattle.ncp_wire.specs.declared.fault.CommandFault.{CommandFault}
use Rattle.ncp_monitor.specs.declared.conn_tables.TheConstants.{MAX_TABLE_ROWS}
use Rattle.ncp_interface.specs.declared.event.InterfaceEvent.{InterfaceEvent}
use Rattle.ncp_monitor.specs.declared.finding.Finding.{Finding}
use Rattle.ncp_monitor.specs.declared.finding.Rule.{Rule}
use Rattle.ncp_monitor.specs.declared.finding.ItemKind.{ItemKind}
use Rattle.ncp_interface.specs.declared.sent_message.SentMessage.{SentMessage}
use Rattle.ncp_monitor.specs.declared.conn_state.ConnState.{ConnState}
use Rattle.ncp_interface.specs.declared.message_class.MessageClass.{MessageClass}
use Rattle.ncp_interface.specs.declared.message_class.MessageClass.TheVariants.{Stop, Text, Control}
use Rattle.ncp_monitor.specs.declared.phase.MessageContext.{MessageContext}
use Rattle.ncp_monitor.specs.declared.observed_flow.ObservedFlow.{ObservedFlow}
use Rattle.ncp_monitor.specs.declared.monitor.Monitor.{Monitor}
use Rattle.ncp_monitor.specs.declared.view.View.{View}
use Rattle.ncp_monitor.specs.declared.views.TheConstants.{VIEWS}
use Rattle.ncp_interface.specs.declared.imp_direction.ImpDirection.TheVariants.{ToImp, FromImp}
use Rattle.ncp_monitor.specs.Views.{awaits_reply}
use Rattle.ncp_interface.specs.Slots.{position_of, gone_out, with_out, busy_link}
use Rattle.ncp_monitor.specs.Tables.{view_in}
use Rattle.ncp_monitor.specs.ConnStates.{SeenTables, is_conn_between, tables_cleared}
use Rattle.ncp_monitor.specs.Messages.{judged_bits, rule_of_message}
use Rattle.ncp_interface.specs.Contents.{message_class, items_said}
use Rattle.ncp_monitor.specs.Phases.{broken_by, is_early, early_finding, after_item, after_items, missing_finding}
use Rattle.ncp_monitor.specs.Speaking.{command_rule, spoken_rule, spoken_numbers, tables_after_command, after_all_said}
use Rattle.ncp_monitor.specs.Allocation.{number_rules}
use Rattle.ncp_monitor.specs.Texts.{conn_tables_after_text}
use Rattle.ncp_monitor.specs.Talked.{reaches, all_findings, talked_findings, after_flow, after_talked, reports_omitted, left_out_findings, after_left_out}
use Rattle.ncp_interface.specs.Events.{is_answer, event_after, event_of}
use Rattle.ncp_monitor.specs.Judged.{next_number, sees, view_of, knows_zero, fresh_out, monitor_after_out, monitor_after_answer, out_finding, unsent_finding, after_in, turn_at, shows_all, read_findings, tables_after_read, said_findings, after_said, message_findings, event_findings, record_findings, after_record}
use Rattle.ncp_interface.proofs.Events.{to_host, goes_to}
use Rattle.ncp_monitor.proofs.Following.{said_keeps, out_is, in_is, answer_is}
use Rattle.ncp_follow.specs.declared.connection.EndReason.TheVariants.{ReplyCame}
use Rattle.ncp_follow.specs.declared.follower.Follower.{Follower}
use Rattle.ncp_follow.specs.declared.tracks.TheConstants.{MAX_TRACKS}
use Rattle.ncp_follow.specs.declared.session.Session.{Session}
use Rattle.ncp_follow.specs.declared.tables.Tables.{Tables}
use Rattle.ncp_follow.specs.declared.observation.Observation.{Observation}
use Rattle.ncp_follow.specs.Sessions.{session_of, is_heard}
use Rattle.ncp_follow.specs.Tables.{is_track_of, without, after_clearing, after_text}
use Rattle.ncp_follow.specs.Followed.{after_command, end_of_reset, heard_after, tables_after, session_after, tables_after_all, read_tables, follower_after_said, follower_after_in, follower_after_answer, follower_after_record}
use Rattle.ncp_follow.proofs.Records.{record_comes, record_answers}
use Rattle.ncp_proof_monitor_allocation.proofs.TidyBooks.{Tidy}
use Rattle.ncp_proof_monitor_replies.proofs.BooksRead.{flow_reads, items_read}
use Rattle.ncp_proof_monitor_replies.proofs.BooksRecord.{out_tables, in_tables, answer_tables}
use Rattle.ncp_proof_monitor_network.proofs.NeverSuspended.{IsThing, by_kind, none_early}
use Rattle.ncp_proof_monitor_network.proofs.OwnBooks.{view_reported}
use Rattle.ncp_proof_follow_tables.proofs.Besides.{Besides, besides_filter, besides_more, front_none, rest_none, map_none}
use Rattle.ncp_proof_follow_tables.proofs.SameConns.{SameConn, between_is}
use Rattle.ncp_proof_follow_tables.proofs.SameCommands.{Same}
use Rattle.ncp_proof_follow.proofs.SameItems.{NoneBetween, Followed, heard_is, clears_so, none_over, item_followed}
use Rattle.ncp_proof_follow_tables.proofs.SameSessions.{IsRoom}
use Rattle.ncp_proof_follow.proofs.SameReads.{HeardText, text_heard}
use Rattle.ncp_proof_follow.proofs.SameRecords.{Alike, alike_A, none_A, tables_out, came_alike}
use Rattle.ncp_proof_follow_tables.proofs.Covered.{OneCovered, Covered}
use Rattle.ncp_proof_follow_tables.proofs.SameCounts.{besides_both, command_covered, text_covered, cleared_covered, all_said_covered}

module _ (number at peer by : ℕ) (busy : Option ℕ) (zero : Bool) (kept : List SentMessage) (roomy : (n : ℕ) → nat_lt n MAX_TABLE_ROWS ≡ true → nat_lt n MAX_TRACKS ≡ true) (sent : Bool) where
  abbrev judge : MessageContext
  judge = record { by = by; sent = sent; busy = busy; zero = zero }

  abbrev speaks : ObservedFlow
  speaks = record { at = at; peer = peer; sent = sent }

  abbrev heard_at : Observation
  heard_at = record { number = number; at = at; peer = peer; sent = sent }

  -- where there is none between the two, nothing of what is judged is forgotten
  emptied_covered : (b : SeenTables) (t : Tables) → NoneBetween at peer b → Same b t → Covered b t → Covered b (after_clearing heard_at ReplyCame t)
  emptied_covered b t none s (c, o) = (
    subst (λ (ls : List ConnState). Besides (OneCovered b.pending_replies) ls (without t.tracks at peer)) (none_over number at peer by sent busy zero kept roomy b.conns none)
        (besides_more (λ l m. SameConn l m × OneCovered b.pending_replies l m) (OneCovered b.pending_replies) (λ l m k. k.1) (filter (λ conn. not (is_conn_between at peer conn)) b.conns) (without t.tracks at peer)
        (besides_filter (λ l m. SameConn l m × OneCovered b.pending_replies l m) (λ conn. not (is_conn_between at peer conn)) (λ conn. not (is_track_of at peer conn)) (λ l m k. ap not (between_is at peer l m k.0)) b.conns t.tracks
        (besides_both SameConn (OneCovered b.pending_replies) b.conns t.tracks s.conns c))),
    o,
  )

  abbrev CoveredItem : Result Command CommandFault → View → SeenTables → Session → Tables → Type 0
  CoveredItem item v b s t = Covered (after_flow judge speaks kept item v b) (tables_after heard_at item s t)

  rst_covered : (v : View) (b : SeenTables) (s : Session) (t : Tables) → Followed at peer v b s t → Covered b t → CoveredItem (Ok Command.Rst) v b s t
  rst_covered v b s t k c =
      subst (λ (x : Bool). Covered (if x then tables_cleared at peer b else b) (after_clearing heard_at (end_of_reset sent) t)) (sym (clears_so number at peer by sent busy zero kept roomy v k.touch.awake))
      (cleared_covered number at peer sent (end_of_reset sent) b t k.same c)

  rrp_covered : (v : View) (b : SeenTables) (s : Session) (t : Tables) → Followed at peer v b s t → Covered b t → CoveredItem (Ok Command.Rrp) v b s t
  rrp_covered v b s t k c = go (not sent && s.host_waits) refl
    where
      right : (x y : Bool) → (x && y) ≡ true → y ≡ true
      right true y e = e
      right false y e = absurd (cc e)

      go : (x : Bool) → (not sent && s.host_waits) ≡ x → Covered b (if x then after_clearing heard_at ReplyCame t else t)
      go true e = emptied_covered b t (k.none (sym k.touch.host_waits ∙ right (not sent) s.host_waits e)) k.same c
      go false e = c

  unruled : (o : Option Rule) → option_to_list (option_map (broken_by judge) o) ≡ [] → o ≡ None
  unruled None e = refl
  unruled (Some r) e = absurd (cc e)

  -- what is neither
  thing_covered : (c : Command) (what : ItemKind) (v : View) (b : SeenTables) (s : Session) (t : Tables) → b.full ≡ false → Tidy b → Followed at peer v b s t → Covered b t → option_to_list (early_finding judge what v) ≡ []
      → option_to_list (if reaches judge what v then option_map (broken_by judge) (spoken_rule speaks kept (Ok c) b) else None) ≡ []
      → (if reaches judge what v then map (broken_by judge) (spoken_numbers speaks (Ok c) b) else []) ≡ []
      → (if reaches judge what v then tables_after_command speaks kept c b else b).full ≡ false
      → Covered (if reaches judge what v then tables_after_command speaks kept c b else b) (heard_after heard_at c s t)
  thing_covered c what v b s t room tidy k cov timely ruled numbered full =
      subst (λ (x : Bool). Covered (now (reaches judge what v)) (if x then obeyed else t)) (sym heard) (go (reaches judge what v) ruled numbered full)
    where
      early : is_early judge what v ≡ false
      early = none_early judge what v k.touch.awake.told timely

      heard : is_heard s sent ≡ reaches judge what v
      heard = heard_is number at peer by sent busy zero kept roomy what v s k.touch early

      now : Bool → SeenTables
      now x = if x then tables_after_command speaks kept c b else b

      obeyed : Tables
      obeyed = after_command heard_at c t

      go : (x : Bool) → option_to_list (if x then option_map (broken_by judge) (spoken_rule speaks kept (Ok c) b) else None) ≡ [] → (if x then map (broken_by judge) (spoken_numbers speaks (Ok c) b) else []) ≡ [] → (now x).full ≡ false
          → Covered (now x) (if x then obeyed else t)
      go false r n f = cov
      go true r n f =
          let rule : command_rule speaks kept c b ≡ None = sym (ap (λ (x : Bool). if x then None else command_rule speaks kept c b) room) ∙ unruled (spoken_rule speaks kept (Ok c) b) r in
          let numbers : number_rules speaks c b ≡ [] = sym (ap (λ (x : Bool). if x then [] else number_rules speaks c b) room) ∙ map_none (broken_by judge) (spoken_numbers speaks (Ok c) b) n in
          command_covered number at peer kept roomy sent c b t tidy k.same cov rule numbers f

  item_covered : (item : Result Command CommandFault) (v : View) (b : SeenTables) (s : Session) (t : Tables) → b.full ≡ false → Tidy b → Followed at peer v b s t → Covered b t
      → all_findings judge speaks kept item v b ≡ [] → (after_flow judge speaks kept item v b).full ≡ false → CoveredItem item v b s t
  item_covered (Result.Err fault) v b s t room tidy k cov none full = absurd (cc none)
  item_covered (Ok c) v b s t room tidy k cov none full = by_kind P (λ none full. rst_covered v b s t k cov) (λ none full. rrp_covered v b s t k cov) thing c none full
    where
      P : Command → Type 0
      P c = all_findings judge speaks kept (Ok c) v b ≡ [] → (after_flow judge speaks kept (Ok c) v b).full ≡ false → CoveredItem (Ok c) v b s t

      other : (c : Command) (what : ItemKind)
          → option_to_list (early_finding judge what v) ++ option_to_list (if reaches judge what v then option_map (broken_by judge) (spoken_rule speaks kept (Ok c) b) else None)
          ++ (if reaches judge what v then map (broken_by judge) (spoken_numbers speaks (Ok c) b) else []) ≡ []
          → (if reaches judge what v then tables_after_command speaks kept c b else b).full ≡ false
          → Covered (if reaches judge what v then tables_after_command speaks kept c b else b) (heard_after heard_at c s t)
      other c what none full =
          let e : List Finding = option_to_list (early_finding judge what v) in
          let r : List Finding = option_to_list (if reaches judge what v then option_map (broken_by judge) (spoken_rule speaks kept (Ok c) b) else None) in
          let n : List Finding = if reaches judge what v then map (broken_by judge) (spoken_numbers speaks (Ok c) b) else [] in
          let both = front_none (e ++ r) n none in
          thing_covered c what v b s t room tidy k cov (front_none e r both) (rest_none e r both) (rest_none (e ++ r) n none) full

      thing : (c : Command) → IsThing c → P c
      thing Command.Rst i none full = absurd (cc i.act)
      thing Command.Rrp i none full = absurd (cc i.act)
      thing Command.Nop i none full = other Command.Nop ItemKind.Nop none full
      thing (Command.Rts x y z) i none full = other (Command.Rts x y z) ItemKind.Rts none full
      thing (Command.Str x y z) i none full = other (Command.Str x y z) ItemKind.Str none full
      thing (Command.Cls x y) i none full = other (Command.Cls x y) ItemKind.Cls none full
      thing (Command.All x y z) i none full = other (Command.All x y z) ItemKind.All none full
      thing (Command.Gvb x y z) i none full = other (Command.Gvb x y z) ItemKind.Gvb none full
      thing (Command.Ret x y z) i none full = other (Command.Ret x y z) ItemKind.Ret none full
      thing (Command.Inr x) i none full = other (Command.Inr x) ItemKind.Inr none full
      thing (Command.Ins x) i none full = other (Command.Ins x) ItemKind.Ins none full
      thing (Command.Eco x) i none full = other (Command.Eco x) ItemKind.Eco none full
      thing (Command.Erp x) i none full = other (Command.Erp x) ItemKind.Erp none full
      thing (Command.Err x y) i none full = other (Command.Err x y) ItemKind.Err none full

  -- all items of a control text
  items_covered : (items : List (Result Command CommandFault)) (v : View) (b : SeenTables) (s : Session) (t : Tables) → Tidy b → Followed at peer v b s t → Covered b t
      → talked_findings judge speaks kept items v b ≡ [] → (after_talked judge speaks kept items v b).full ≡ false → Covered (after_talked judge speaks kept items v b) (tables_after_all heard_at items s t)
  items_covered [] v b s t tidy k cov none full = cov
  items_covered (item ∷ items) v b s t tidy k cov none full =
      let here : List Finding = all_findings judge speaks kept item v b in
      let mid : SeenTables = after_flow judge speaks kept item v b in
      let next : View = after_item judge item v in
      let rest : List Finding = talked_findings judge speaks kept items next mid in
      let room : mid.full ≡ false = (items_read at peer judge kept items next mid).room full in
      let read = flow_reads at peer judge kept item v b in
      let before : b.full ≡ false = read.room room in
      items_covered items next mid (session_after heard_at item s) (tables_after heard_at item s t) (read.tidy room tidy)
      (item_followed number at peer by busy zero kept roomy sent item v b s t before k (front_none here rest none) room) (item_covered item v b s t before tidy k cov (front_none here rest none) room) (rest_none here rest none) full

  -- ---- what is read of a message

  left_covered : (room : Bool) (v : View) (b : SeenTables) (t : Tables) → Covered b t → Covered (after_left_out judge speaks room v b) t
  left_covered room v b t c = go (reports_omitted judge room v b)
    where
      go : (x : Bool) → Covered (if x then after_all_said at peer b else b) t
      go true = all_said_covered at peer b t c
      go false = c

  left_full : (room : Bool) (v : View) (b : SeenTables) → (after_left_out judge speaks room v b).full ≡ b.full
  left_full room v b = go (reports_omitted judge room v b)
    where
      go : (x : Bool) → (if x then after_all_said at peer b else b).full ≡ b.full
      go true = refl
      go false = refl

  pub read_covered : (message : Message) (reading : MessageClass) (v : View) (b : SeenTables) (s : Session) (t : Tables) → b.full ≡ false → Tidy b → Followed at peer v b s t → Covered b t
      → read_findings (record { by = by; sent = sent; busy = busy; zero = zero }) (record { at = at; peer = peer; sent = sent }) kept message v b reading ≡ []
      → (tables_after_read (record { by = by; sent = sent; busy = busy; zero = zero }) (record { at = at; peer = peer; sent = sent }) kept message v b reading).full ≡ false
      → Covered (tables_after_read (record { by = by; sent = sent; busy = busy; zero = zero }) (record { at = at; peer = peer; sent = sent }) kept message v b reading) (read_tables reading (record { number = number; at = at; peer = peer; sent = sent }) message s t)
  read_covered message Stop v b s t room tidy k cov none full = cov
  read_covered message Text v b s t room tidy k cov none full = go (is_heard s sent) refl
    where
      h : HeardText number at peer by busy zero kept roomy sent v b s t k message
      h = text_heard number at peer by busy zero kept roomy sent v b s t k message room none

      now : Bool → SeenTables
      now x = if x then conn_tables_after_text speaks message.leader.link message b else b

      go : (x : Bool) → is_heard s sent ≡ x → Covered (now (reaches judge ItemKind.Text v)) (if is_heard s sent then after_text heard_at message.leader.link message.size message.text t else t)
      go x e =
          subst (λ (y : Bool). Covered (now y) (if is_heard s sent then after_text heard_at message.leader.link message.size message.text t else t)) h.heard
          (subst (λ (y : Bool). Covered (now y) (if y then after_text heard_at message.leader.link message.size message.text t else t)) (sym e) (by_heard x e))
        where
          by_heard : (x : Bool) → is_heard s sent ≡ x → Covered (now x) (if x then after_text heard_at message.leader.link message.size message.text t else t)
          by_heard true e = text_covered number at peer kept sent message.leader.link message b t k.same cov (h.led e)
          by_heard false e = cov
  read_covered message Control v b s t room tidy k cov none full =
      left_covered (shows_all message.text v) next mid after
      (items_covered items v b s t tidy k cov
      (front_none found (option_to_list (missing_finding judge (shows_all message.text v) next)) (front_none (found ++ option_to_list (missing_finding judge (shows_all message.text v) next)) (left_out_findings judge speaks kept (shows_all message.text v) next mid) none))
      (sym (left_full (shows_all message.text v) next mid) ∙ full))
    where
      items : List (Result Command CommandFault)
      items = items_said message.text

      next : View
      next = after_items judge items v

      mid : SeenTables
      mid = after_talked judge speaks kept items v b

      after : Tables
      after = tables_after_all heard_at items s t

      found : List Finding
      found = talked_findings judge speaks kept items v b

-- ---- a record

module _ (number me n : ℕ) (small : me < 256) (few : n < 256) (roomy : (i : ℕ) → nat_lt i MAX_TABLE_ROWS ≡ true → nat_lt i MAX_TRACKS ≡ true) where
  -- the same connections and dues
  renumbered_covered : (b : SeenTables) (t : Tables) → Covered b t → Covered (next_number b) t
  renumbered_covered b t c = c

  -- what a message says
  module _ (sent : Bool) (by : ℕ) (A : Monitor) (f : Follower) (k : Alike me n A f) (unfull : A.full ≡ false) (none : awaits_reply (view_in A.views me n).host.wait ≡ true → NoneBetween me n A.conn_tables) (tidy : Tidy A.conn_tables) (cov : Covered A.conn_tables f.tables) where
    abbrev says : MessageContext
    says = turn_at A me n by sent

    abbrev hears : Observation
    hears = record { number = number; at = me; peer = n; sent = sent }

    view_is : view_of A me n ≡ view_in A.views me n
    view_is = view_reported A me n k.touch.awake.told unfull

    before : Followed me n (view_of A me n) A.conn_tables (session_of false f.sessions me n) f.tables
    before = subst (λ (v : View). Followed me n v A.conn_tables (session_of false f.sessions me n) f.tables) (sym view_is) (record { touch = k.touch; same = k.same; none = none })

    said_covered : (m : Message) → said_findings A me n says true (Ok m) ≡ [] → A.conn_tables.full ≡ false → (after_said A me n says true (Ok m)).conn_tables.full ≡ false
        → Covered (after_said A me n says true (Ok m)).conn_tables (follower_after_said hears (Ok m) f).tables
    said_covered m unsaid room full =
        subst (λ (p : Bool). Covered (after_said A me n says true (Ok m)).conn_tables (read_tables (message_class m) hears m (session_of p f.sessions me n) f.tables)) (sym k.part)
        (read_covered number me n by (busy_link me n A.kept) (knows_zero A me n) A.kept roomy sent m (message_class m) (view_of A me n) A.conn_tables (session_of false f.sessions me n) f.tables room tidy before cov unsaid full)

    message_covered : (m : List Bool) (on : ℕ) → message_findings A me n says true on m ≡ [] → A.conn_tables.full ≡ false → (after_said A me n says true (message_in m)).conn_tables.full ≡ false
        → Covered (after_said A me n says true (message_in m)).conn_tables (follower_after_said hears (message_in m) f).tables
    message_covered m on unsaid room full = go (message_in m) unsaid full
      where
        go : (r : Result Message MessageFault) → option_to_list (option_map (broken_by says) (rule_of_message r on (judged_bits r m))) ++ said_findings A me n says true r ≡ [] → (after_said A me n says true r).conn_tables.full ≡ false
            → Covered (after_said A me n says true r).conn_tables (follower_after_said hears r f).tables
        go (Ok x) e g = said_covered x (rest_none (option_to_list (option_map (broken_by says) (rule_of_message (Ok x) on (judged_bits (Ok x) m)))) (said_findings A me n says true (Ok x)) e) room g
        go (Result.Err fault) e g = absurd (cc e)

  -- a message is sent
  module _ (on : ℕ) (m : List Bool) (u : Monitor) (f : Follower) (k : Alike me n u f) (apart : (n == me) ≡ false) (long : length u.views ≡ VIEWS) (known : (view_in u.views me n).known ≡ true)
      (none : awaits_reply (view_in u.views me n).host.wait ≡ true → NoneBetween me n u.conn_tables) (seat : IsRoom me n f.sessions) (led : leader_in m ≡ Ok (to_host n on))
      (full : (after_record u ToImp me m).full ≡ false) (room : u.conn_tables.full ≡ false) (after_room : (after_record u ToImp me m).conn_tables.full ≡ false) (unfound : record_findings u ToImp me m ≡ []) (tidy : Tidy u.conn_tables) (cov : Covered u.conn_tables f.tables) where
    abbrev A : Monitor
    A = monitor_after_out (sees u me) me n on m

    abbrev by_me : MessageContext
    by_me = turn_at A me n me true

    abbrev fresh : Bool
    fresh = fresh_out (sees u me) me n on m

    abbrev message : Observation
    message = record { number = number; at = me; peer = n; sent = true }

    is_said : after_record u ToImp me m ≡ after_said A me n by_me fresh (message_in m)
    is_said = out_is u me n on m led apart

    full_A : A.full ≡ false
    full_A = sym (said_keeps A me n by_me fresh (message_in m)).1 ∙ ap (λ (x : Monitor). x.full) (sym is_said) ∙ full

    tables_A : A.conn_tables ≡ next_number u.conn_tables
    tables_A = out_tables (sees u me) me n on m

    parts : option_to_list (out_finding (sees u me) me n on m) ++ message_findings A me n by_me fresh on m ≡ []
    parts = sym (ap (λ (e : InterfaceEvent). event_findings (sees u me) ToImp me m e) (goes_to me n on m led apart)) ∙ unfound

    cov_A : Covered A.conn_tables f.tables
    cov_A = subst (λ (b : SeenTables). Covered b f.tables) (sym tables_A) cov

    tidy_next : Tidy u.conn_tables → Tidy (next_number u.conn_tables)
    tidy_next t = t

    pub out_covered : Covered (after_record u ToImp me m).conn_tables (follower_after_record number true me m f).tables
    out_covered =
        subst (λ (x : Monitor). Covered x.conn_tables (follower_after_record number true me m f).tables) (sym is_said)
        (subst (λ (t : Tables). Covered (after_said A me n by_me fresh (message_in m)).conn_tables t) (sym (tables_out number me n small few roomy on m u f k apart long known none seat led full room after_room unfound))
        (go fresh (rest_none (option_to_list (out_finding (sees u me) me n on m)) (message_findings A me n by_me fresh on m) parts) (ap (λ (x : Monitor). x.conn_tables.full) (sym is_said) ∙ after_room)))
      where
        sent_on : Follower
        sent_on = record f { outs = with_out f.outs (position_of me n on f.outs) (gone_out me n on m) }

        room_A : A.conn_tables.full ≡ false
        room_A = ap (λ (b : SeenTables). b.full) tables_A ∙ room

        tidy_A : Tidy A.conn_tables
        tidy_A = subst Tidy (sym tables_A) (tidy_next tidy)

        go : (x : Bool) → message_findings A me n by_me x on m ≡ [] → (after_said A me n by_me x (message_in m)).conn_tables.full ≡ false
            → Covered (after_said A me n by_me x (message_in m)).conn_tables (if x then (follower_after_said message (message_in m) (record f { outs = with_out f.outs (position_of me n on f.outs) (gone_out me n on m) })).tables else f.tables)
        go true e g =
            message_covered true me A sent_on (alike_A number me n small few roomy on m u f k apart long known none seat led full room after_room unfound) full_A
            (none_A number me n small few roomy on m u f k apart long known none seat led full room after_room unfound) tidy_A cov_A m on e room_A g
        go false e g = again (message_in m)
          where
            again : (r : Result Message MessageFault) → Covered (after_said A me n by_me false r).conn_tables f.tables
            again (Ok x) = cov_A
            again (Result.Err x) = cov_A

  -- a message comes
  module _ (on : ℕ) (m : List Bool) (u : Monitor) (f : Follower) (k : Alike me n u f) (apart : (n == me) ≡ false) (long : length u.views ≡ VIEWS)
      (none : awaits_reply (view_in u.views me n).host.wait ≡ true → NoneBetween me n u.conn_tables) (seat : IsRoom me n f.sessions) (led : leader_in m ≡ Ok (to_host n on)) where
    abbrev came : Monitor
    came = after_in (sees u me) me n on

    abbrev by_other : MessageContext
    by_other = turn_at came me n n false

    pub in_covered : u.full ≡ false → u.conn_tables.full ≡ false → (after_record u FromImp me m).conn_tables.full ≡ false → record_findings u FromImp me m ≡ [] → Tidy u.conn_tables → Covered u.conn_tables f.tables
        → Covered (after_record u FromImp me m).conn_tables (follower_after_record number false me m f).tables
    in_covered unfull room after_room unfound tidy cov =
        subst (λ (x : Monitor). Covered x.conn_tables (follower_after_record number false me m f).tables) (sym is_said)
        (subst (λ (x : Follower). Covered (after_said came me n by_other true (message_in m)).conn_tables x.tables) (sym followed_is)
        (message_covered false n came f alike.0 (alike.2 ∙ unfull) alike.4 (subst Tidy (sym books_came) tidy) (subst (λ (b : SeenTables). Covered b f.tables) (sym books_came) cov) m on
        (rest_none (option_to_list (unsent_finding (sees u me) me n on m)) (message_findings came me n by_other true on m) parts)
        (alike.3 ∙ room) (ap (λ (x : Monitor). x.conn_tables.full) (sym is_said) ∙ after_room)))
      where
        alike : Alike me n came f × (length came.views ≡ VIEWS) × (came.full ≡ u.full) × (came.conn_tables.full ≡ u.conn_tables.full) × (awaits_reply (view_in came.views me n).host.wait ≡ true → NoneBetween me n came.conn_tables)
        alike = came_alike number me n small few roomy on m u f k apart long none seat led

        books_came : came.conn_tables ≡ next_number u.conn_tables
        books_came = in_tables (sees u me) me n on

        is_said : after_record u FromImp me m ≡ after_said came me n by_other true (message_in m)
        is_said = in_is u me m (to_host n on) false led apart refl refl

        event : event_of FromImp me m ≡ InterfaceEvent.In n on
        event = ap (event_after FromImp me) led ∙ ap (λ (b : Bool). if b then InterfaceEvent.Own 0 on else InterfaceEvent.In n on) apart

        parts : option_to_list (unsent_finding (sees u me) me n on m) ++ message_findings came me n by_other true on m ≡ []
        parts = sym (ap (λ (e : InterfaceEvent). event_findings (sees u me) FromImp me m e) event) ∙ unfound

        followed_is : follower_after_record number false me m f ≡ follower_after_in number me n m f
        followed_is = record_comes number me n on m f led apart

  -- an answer comes
  pub answer_covered : (m : List Bool) (leader : Leader) (u : Monitor) (f : Follower) → leader_in m ≡ Ok leader → leader.host ≡ n → (n == me) ≡ false → (leader.kind == 0) ≡ false → is_answer leader.kind ≡ true
      → Covered u.conn_tables f.tables → Covered (after_record u FromImp me m).conn_tables (follower_after_record number false me m f).tables
  answer_covered m leader u f led from apart kind answer cov =
      subst (λ (x : Monitor). Covered x.conn_tables (follower_after_record number false me m f).tables) (sym is_said)
      (subst (λ (x : Follower). Covered (monitor_after_answer (sees u me) leader.kind me n leader.link).conn_tables x.tables) (sym followed_is)
      (subst (λ (b : SeenTables). Covered b f.tables) (sym (answer_tables (sees u me) leader.kind me n leader.link)) cov))
    where
      distinct_leader : (leader.host == me) ≡ false
      distinct_leader = ap (λ (x : ℕ). x == me) from ∙ apart

      is_said : after_record u FromImp me m ≡ monitor_after_answer (sees u me) leader.kind me n leader.link
      is_said = answer_is u me m leader led distinct_leader kind answer ∙ ap (λ (x : ℕ). monitor_after_answer (sees u me) leader.kind me x leader.link) from

      followed_is : follower_after_record number false me m f ≡ follower_after_answer me n leader.link leader.kind f
      followed_is = record_answers number me m leader f led distinct_leader kind answer ∙ ap (λ (x : ℕ). follower_after_answer me x leader.link leader.kind f) from
