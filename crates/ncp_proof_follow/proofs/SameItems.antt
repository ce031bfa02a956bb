-- Each item of a control text in which nothing is found does the same to the connections that are judged and to those that are
-- followed, and is heard of both alike: so do all.
use Rattle.std.proofs.Common.{◌≡◌, ℕ, Bool, true, false, not, ◌&&◌, ◌||◌, if◌then◌else◌, List, [], ◌∷◌, ◌++◌, map, Option, None, Some, Result, Ok, option_map, option_to_list, refl, sym, ap, ◌∙◌, subst}
use Rattle.std.specs.Prelude.{nat_lt}
use Rattle.std.specs.List.{filter}
use Rattle.ncp_wire.specs.declared.command.Command.{Command}
use Rattle.ncp_wire.specs.declared.fault.CommandFault.{CommandFault}
use Rattle.ncp_monitor.specs.declared.act.Act.TheVariants.{Reset}
use Rattle.ncp_monitor.specs.declared.conn_tables.TheConstants.{MAX_TABLE_ROWS}
use Rattle.ncp_monitor.specs.declared.finding.Finding.{Finding}
use Rattle.ncp_monitor.specs.declared.finding.Rule.{Rule}
use Rattle.ncp_monitor.specs.declared.finding.ItemKind.{ItemKind}
use Rattle.ncp_interface.specs.declared.sent_message.SentMessage.{SentMessage}
use Rattle.ncp_monitor.specs.declared.conn_state.ConnState.{ConnState}
use Rattle.ncp_monitor.specs.declared.phase.MessageContext.{MessageContext}
use Rattle.ncp_monitor.specs.declared.view.View.{View}
use Rattle.ncp_monitor.specs.declared.view.Wait.{Wait}
use Rattle.ncp_monitor.specs.declared.view.Wait.TheVariants.{Answered, Even, Waiting}
use Rattle.ncp_monitor.specs.Views.{awaits_reply, is_answered_too_often, more_waiting, less_waiting}
use Rattle.ncp_monitor.specs.ConnStates.{SeenTables, is_conn_between, is_fact_between, tables_cleared}
use Rattle.ncp_monitor.specs.Phases.{after_items, after_untold_reply, broken_by, is_early, is_acted_on, is_text, early_finding, after_thing, after_item, reset_findings, reply_findings, view_after_reset, view_after_reply, after_reset_of_host, after_reset_of_peer, after_reply_of_host, after_reply_of_peer}
use Rattle.ncp_monitor.specs.Speaking.{command_rule, spoken_rule, spoken_numbers, tables_after_command}
use Rattle.ncp_monitor.specs.Allocation.{number_rules}
use Rattle.ncp_monitor.specs.Talked.{reaches, clears, flow_finding, number_findings, after_flow, all_findings, talked_findings, after_talked}
use Rattle.ncp_follow.specs.declared.connection.EndReason.{EndReason}
use Rattle.ncp_follow.specs.declared.connection.EndReason.TheVariants.{ReplyCame}
use Rattle.ncp_follow.specs.declared.tracks.TheConstants.{MAX_TRACKS}
use Rattle.ncp_follow.specs.declared.session.Session.{Session}
use Rattle.ncp_follow.specs.declared.tables.Tables.{Tables}
use Rattle.ncp_follow.specs.Sessions.{is_heard, session_after_reset, session_after_reply}
use Rattle.ncp_follow.specs.Tables.{is_track_of, without, after_clearing}
use Rattle.ncp_follow.specs.Followed.{after_command, heard_after, end_of_reset, tables_after, session_after, tables_after_all, session_after_all}
use Rattle.ncp_proof_monitor_replies.proofs.BooksRead.{flow_reads, items_read}
use Rattle.ncp_proof_monitor_network.proofs.NeverSuspended.{Awake, IsThing, by_kind, own_reset, own_reply, their_reset, their_reply, none_early, thing_leaves}
use Rattle.ncp_proof_follow_tables.proofs.Besides.{besides_filter, front_none, rest_none, map_none}
use Rattle.ncp_proof_follow_tables.proofs.SameConns.{SameConn, SameConns, between_is}
use Rattle.ncp_proof_follow_tables.proofs.Calmly.{any_fewer}
use Rattle.ncp_proof_follow_tables.proofs.SameCommands.{Same, flow, observation, command_same}

-- ---- two hosts, as they are judged and as they are followed

pub record InTouch (v : View) (s : Session) : Type 0 where
  pub awake : Awake v
  pub host_began : s.host_began ≡ v.host.began
  pub peer_began : s.peer_began ≡ v.peer.began
  pub host_waits : s.host_waits ≡ awaits_reply v.host.wait
  pub peer_waits : s.peer_waits ≡ awaits_reply v.peer.wait

abbrev pub NoneBetween : ℕ → ℕ → SeenTables → Type 0
NoneBetween at peer b = filter (is_conn_between at peer) b.conns ≡ []

pub record Followed (at peer : ℕ) (v : View) (b : SeenTables) (s : Session) (t : Tables) : Type 0 where
  pub touch : InTouch v s
  pub same : Same b t
  -- what is asked while the host waits for a reply is not heard
  pub none : awaits_reply v.host.wait ≡ true → NoneBetween at peer b

-- ---- waits

less_even : (w : Wait) → awaits_reply (less_waiting w) ≡ false
less_even Answered = refl
less_even Even = refl
less_even Waiting = refl

clears_if : (t z s : Bool) (w : Wait) → t ≡ true → is_answered_too_often w ≡ false → ((t || (z && not (is_answered_too_often w))) && not (s && not (awaits_reply (more_waiting w)))) ≡ true
clears_if false z s w t e = absurd (cc t)
clears_if true z s Answered t e = absurd (cc e)
clears_if true z true Even t e = refl
clears_if true z false Even t e = refl
clears_if true z true Waiting t e = refl
clears_if true z false Waiting t e = refl

module _ (number at peer by : ℕ) (sent : Bool) (busy : Option ℕ) (zero : Bool) (kept : List SentMessage) (roomy : (n : ℕ) → nat_lt n MAX_TABLE_ROWS ≡ true → nat_lt n MAX_TRACKS ≡ true) where
  abbrev pub judged : MessageContext
  judged = record { by = by; sent = sent; busy = busy; zero = zero }

  -- what is judged of the one is heard of the other
  pub heard_is : (what : ItemKind) (v : View) (s : Session) → InTouch v s → is_early judged what v ≡ false → is_heard s sent ≡ reaches judged what v
  heard_is what v s k early =
      ap (λ (x : Bool). (if sent then x else s.peer_began) && not s.host_waits && not s.peer_waits) k.host_began
      ∙ ap (λ (x : Bool). (if sent then v.host.began else x) && not s.host_waits && not s.peer_waits) k.peer_began
      ∙ ap (λ (x : Bool). (if sent then v.host.began else v.peer.began) && not x && not s.peer_waits) k.host_waits
      ∙ ap (λ (x : Bool). (if sent then v.host.began else v.peer.began) && not (awaits_reply v.host.wait) && not x) k.peer_waits
      ∙ go sent early
    where
      own : (hb hw pw o r t x a : Bool) → o ≡ pw → r ≡ false → t ≡ true → (if true && r && x then hw else not hb || hw || (true && o)) ≡ false
          → (hb && not hw && not pw) ≡ (t && (not (if true && r && x then hw else not hb || hw || (true && o)) || a) && not r && not (not true && hw))
      own hb hw pw o r false x a e f g h = absurd (cc g)
      own hb hw pw o true true x a e f g h = absurd (cc f)
      own false hw pw o false true x a e f g h = absurd (cc h)
      own true true pw o false true x a e f g h = absurd (cc h)
      own true false true true false true x a e f g h = absurd (cc h)
      own true false true false false true x a e f g h = absurd (cc e)
      own true false false true false true x a e f g h = absurd (cc h)
      own true false false false false true x a e f g h = refl

      theirs : (pb hw pw o r t x a : Bool) → r ≡ false → t ≡ true → (if false && r && x then pw else not pb || pw || (false && o)) ≡ false
          → (pb && not hw && not pw) ≡ (t && (not (if false && r && x then pw else not pb || pw || (false && o)) || a) && not r && not (not false && hw))
      theirs pb hw pw o r false x a f g h = absurd (cc g)
      theirs pb hw pw o true true x a f g h = absurd (cc f)
      theirs false hw pw o false true x a f g h = absurd (cc h)
      theirs true hw true o false true x a f g h = absurd (cc h)
      theirs true true false o false true x a f g h = refl
      theirs true false false o false true x a f g h = refl

      go : (x : Bool) → is_early (record { by = by; sent = x; busy = busy; zero = zero }) what v ≡ false
          → ((if x then v.host.began else v.peer.began) && not (awaits_reply v.host.wait) && not (awaits_reply v.peer.wait)) ≡ reaches (record { by = by; sent = x; busy = busy; zero = zero }) what v
      go true e = own v.host.began (awaits_reply v.host.wait) (awaits_reply v.peer.wait) v.owes v.suspended v.told (is_text what) (is_acted_on (record { by = by; sent = true; busy = busy; zero = zero }) v) k.awake.owes k.awake.suspended k.awake.told e
      go false e = theirs v.peer.began (awaits_reply v.host.wait) (awaits_reply v.peer.wait) v.owes v.suspended v.told (is_text what) (is_acted_on (record { by = by; sent = false; busy = busy; zero = zero }) v) k.awake.suspended k.awake.told e

  -- ---- an RST, and an RRP

  pub clears_so : (v : View) → Awake v → clears judged Reset v ≡ true
  clears_so v a = clears_if v.told zero sent v.host.wait a.told a.own_even

  cleared_same : (end : EndReason) (b : SeenTables) (t : Tables) → Same b t → Same (tables_cleared at peer b) (after_clearing (observation number at peer sent kept roomy) end t)
  cleared_same end b t s = record {
    conns = besides_filter SameConn (λ conn. not (is_conn_between at peer conn)) (λ conn. not (is_track_of at peer conn)) (λ l m one. ap not (between_is at peer l m one)) b.conns t.tracks s.conns;
    calm = any_fewer (λ one. not (is_fact_between at peer one)) b.known_facts s.calm;
  }

  none_cleared : (b : SeenTables) → NoneBetween at peer (tables_cleared at peer b)
  none_cleared b = go b.conns
    where
      go : (ls : List ConnState) → filter (is_conn_between at peer) (filter (λ conn. not (is_conn_between at peer conn)) ls) ≡ []
      go [] = refl
      go (l ∷ ls) = one (is_conn_between at peer l) refl (go ls)
        where
          one : (x : Bool) → is_conn_between at peer l ≡ x → filter (is_conn_between at peer) (filter (λ conn. not (is_conn_between at peer conn)) ls) ≡ []
              → filter (is_conn_between at peer) (if not x then l ∷ filter (λ conn. not (is_conn_between at peer conn)) ls else filter (λ conn. not (is_conn_between at peer conn)) ls) ≡ []
          one true e rest = rest
          one false e rest = ap (λ (x : Bool). if x then l ∷ filter (is_conn_between at peer) (filter (λ conn. not (is_conn_between at peer conn)) ls) else filter (is_conn_between at peer) (filter (λ conn. not (is_conn_between at peer conn)) ls)) e ∙ rest

  -- where there is none, none is over
  pub none_over : (ls : List ConnState) → filter (is_conn_between at peer) ls ≡ [] → filter (λ conn. not (is_conn_between at peer conn)) ls ≡ ls
  none_over [] e = refl
  none_over (l ∷ ls) e = go (is_conn_between at peer l) (none_over ls) e
    where
      go : (x : Bool) → (filter (is_conn_between at peer) ls ≡ [] → filter (λ conn. not (is_conn_between at peer conn)) ls ≡ ls) → (if x then l ∷ filter (is_conn_between at peer) ls else filter (is_conn_between at peer) ls) ≡ []
          → (if not x then l ∷ filter (λ conn. not (is_conn_between at peer conn)) ls else filter (λ conn. not (is_conn_between at peer conn)) ls) ≡ l ∷ ls
      go true rest e = absurd (cc e)
      go false rest e = ap (λ (xs : List ConnState). l ∷ xs) (rest e)

  emptied_same : (b : SeenTables) (t : Tables) → NoneBetween at peer b → Same b t → Same b (after_clearing (observation number at peer sent kept roomy) ReplyCame t)
  emptied_same b t n s =
      let c = cleared_same ReplyCame b t s in
      record { conns = subst (λ (ls : List ConnState). SameConns ls (without t.tracks at peer)) (none_over b.conns n) c.conns; calm = s.calm }

  -- ---- the view after an RST, and after an RRP

  opened_reset : (v : View) → v.told ≡ true → view_after_reset judged v ≡ (if sent then after_reset_of_host judged v else after_reset_of_peer judged v)
  opened_reset v t = ap (λ (x : Bool). if x || (zero && not (is_answered_too_often v.host.wait)) then if sent then after_reset_of_host judged v else after_reset_of_peer judged v else v) t

  opened_reply : (v : View) → v.told ≡ true → view_after_reply judged v ≡ (if sent then after_reply_of_host judged v else after_reply_of_peer v)
  opened_reply v t = ap (λ (x : Bool). if x then if sent then after_reply_of_host judged v else after_reply_of_peer v else after_untold_reply judged v) t

-- ---- an item

module _ (number at peer by : ℕ) (busy : Option ℕ) (zero : Bool) (kept : List SentMessage) (roomy : (n : ℕ) → nat_lt n MAX_TABLE_ROWS ≡ true → nat_lt n MAX_TRACKS ≡ true) where
  abbrev pub Judges : Bool → MessageContext
  Judges sent = judged number at peer by sent busy zero kept roomy

  reset_touch : (sent : Bool) (v : View) (s : Session) → InTouch v s → reset_findings (Judges sent) v ≡ [] → InTouch (view_after_reset (Judges sent) v) (session_after_reset s sent)
  reset_touch true v s k none =
      let r = own_reset by busy zero v k.awake none in
      let is = opened_reset number at peer by true busy zero kept roomy v k.awake.told in
      record {
        awake = r.awake;
        host_began = sym (ap (λ (x : View). x.host.began) is);
        peer_began = k.peer_began ∙ sym (ap (λ (x : View). x.peer.began) is);
        host_waits = sym r.after;
        peer_waits = k.peer_waits ∙ sym (ap (λ (x : View). awaits_reply x.peer.wait) is);
      }
  reset_touch false v s k none =
      let r = their_reset by busy zero v k.awake none in
      let is = opened_reset number at peer by false busy zero kept roomy v k.awake.told in
      record {
        awake = r.awake;
        host_began = k.host_began ∙ sym (ap (λ (x : View). x.host.began) is);
        peer_began = sym (ap (λ (x : View). x.peer.began) is);
        host_waits = k.host_waits ∙ sym r.waits;
        peer_waits = sym r.after ∙ r.awake.owes;
      }

  reply_touch : (sent : Bool) (v : View) (s : Session) → InTouch v s → reply_findings (Judges sent) v ≡ [] → InTouch (view_after_reply (Judges sent) v) (session_after_reply s sent)
  reply_touch true v s k none =
      let r = own_reply by busy zero v k.awake none in
      let is = opened_reply number at peer by true busy zero kept roomy v k.awake.told in
      record {
        awake = r.awake;
        host_began = sym (ap (λ (x : View). x.host.began) is);
        peer_began = k.peer_began ∙ sym (ap (λ (x : View). x.peer.began) is);
        host_waits = k.host_waits ∙ sym r.waits;
        peer_waits = sym r.after ∙ r.awake.owes;
      }
  reply_touch false v s k none =
      let r = their_reply by busy zero v k.awake none in
      let is = opened_reply number at peer by false busy zero kept roomy v k.awake.told in
      record {
        awake = r.awake;
        host_began = k.host_began ∙ sym (ap (λ (x : View). x.host.began) is);
        peer_began = sym (ap (λ (x : View). x.peer.began) is);
        host_waits = sym r.after;
        peer_waits = k.peer_waits ∙ sym (ap (λ (x : View). awaits_reply x.peer.wait) is);
      }

  -- whether the host waits after its own RRP, or an RST of the other
  waits_on : (sent : Bool) (v : View) → Awake v → reply_findings (Judges sent) v ≡ [] → awaits_reply (view_after_reply (Judges sent) v).host.wait ≡ true → awaits_reply v.host.wait ≡ true
  waits_on true v a none e = sym (own_reply by busy zero v a none).waits ∙ e
  waits_on false v a none e = let nay : false ≡ true = sym (their_reply by busy zero v a none).after ∙ e in absurd (cc nay)

  abbrev pub Item : Bool → Result Command CommandFault → View → SeenTables → Session → Tables → Type 0
  Item sent item v b s t =
      Followed at peer (after_item (Judges sent) item v) (after_flow (Judges sent) (flow number at peer sent kept roomy) kept item v b) (session_after (observation number at peer sent kept roomy) item s) (tables_after (observation number at peer sent kept roomy) item s t)

  rst_item : (sent : Bool) (v : View) (b : SeenTables) (s : Session) (t : Tables) → Followed at peer v b s t → reset_findings (Judges sent) v ≡ [] → Item sent (Ok Command.Rst) v b s t
  rst_item sent v b s t k none =
      subst (λ (x : Bool). Followed at peer (view_after_reset (Judges sent) v) (if x then tables_cleared at peer b else b) (session_after_reset s sent) (after_clearing (observation number at peer sent kept roomy) (end_of_reset sent) t))
      (sym (clears_so number at peer by sent busy zero kept roomy v k.touch.awake))
      (record {
        touch = reset_touch sent v s k.touch none;
        same = cleared_same number at peer by sent busy zero kept roomy (end_of_reset sent) b t k.same;
        none = λ e. none_cleared number at peer by sent busy zero kept roomy b;
      })

  rrp_item : (sent : Bool) (v : View) (b : SeenTables) (s : Session) (t : Tables) → Followed at peer v b s t → reply_findings (Judges sent) v ≡ [] → Item sent (Ok Command.Rrp) v b s t
  rrp_item sent v b s t k none = record {
    touch = reply_touch sent v s k.touch none;
    same = go (not sent && s.host_waits) refl;
    none = λ e. k.none (waits_on sent v k.touch.awake none e);
  }
    where
      right : (x y : Bool) → (x && y) ≡ true → y ≡ true
      right true y e = e
      right false y e = absurd (cc e)

      go : (x : Bool) → (not sent && s.host_waits) ≡ x → Same b (if x then after_clearing (observation number at peer sent kept roomy) ReplyCame t else t)
      go true e = emptied_same number at peer by sent busy zero kept roomy b t (k.none (sym k.touch.host_waits ∙ right (not sent) s.host_waits e)) k.same
      go false e = k.same

  -- what is neither, where nothing is found of it
  thing_item : (sent : Bool) (c : Command) (what : ItemKind) (v : View) (b : SeenTables) (s : Session) (t : Tables) → b.full ≡ false → Followed at peer v b s t → option_to_list (early_finding (Judges sent) what v) ≡ []
      → option_to_list (if reaches (Judges sent) what v then option_map (broken_by (Judges sent)) (spoken_rule (flow number at peer sent kept roomy) kept (Ok c) b) else None) ≡ []
      → (if reaches (Judges sent) what v then map (broken_by (Judges sent)) (spoken_numbers (flow number at peer sent kept roomy) (Ok c) b) else []) ≡ []
      → (if reaches (Judges sent) what v then tables_after_command (flow number at peer sent kept roomy) kept c b else b).full ≡ false
      → Followed at peer (after_thing (Judges sent) what v) (if reaches (Judges sent) what v then tables_after_command (flow number at peer sent kept roomy) kept c b else b) s (heard_after (observation number at peer sent kept roomy) c s t)
  thing_item sent c what v b s t room k timely ruled numbered full =
      subst (λ (w : View). Followed at peer w (now (reaches (Judges sent) what v)) s (if is_heard s sent then obeyed else t)) (sym (thing_leaves (Judges sent) what v early))
      (subst (λ (x : Bool). Followed at peer v (now (reaches (Judges sent) what v)) s (if x then obeyed else t)) (sym heard)
      (record { touch = k.touch; same = go (reaches (Judges sent) what v) refl ruled numbered full; none = stays (reaches (Judges sent) what v) refl }))
    where
      early : is_early (Judges sent) what v ≡ false
      early = none_early (Judges sent) what v k.touch.awake.told timely

      heard : is_heard s sent ≡ reaches (Judges sent) what v
      heard = heard_is number at peer by sent busy zero kept roomy what v s k.touch early

      now : Bool → SeenTables
      now x = if x then tables_after_command (flow number at peer sent kept roomy) kept c b else b

      obeyed : Tables
      obeyed = after_command (observation number at peer sent kept roomy) c t

      unruled : (o : Option Rule) → option_to_list (option_map (broken_by (Judges sent)) o) ≡ [] → o ≡ None
      unruled None e = refl
      unruled (Some r) e = absurd (cc e)

      go : (x : Bool) → reaches (Judges sent) what v ≡ x → option_to_list (if x then option_map (broken_by (Judges sent)) (spoken_rule (flow number at peer sent kept roomy) kept (Ok c) b) else None) ≡ []
          → (if x then map (broken_by (Judges sent)) (spoken_numbers (flow number at peer sent kept roomy) (Ok c) b) else []) ≡ [] → (now x).full ≡ false → Same (now x) (if x then obeyed else t)
      go false e r n f = k.same
      go true e r n f =
          let rule : command_rule (flow number at peer sent kept roomy) kept c b ≡ None =
          sym (ap (λ (x : Bool). if x then None else command_rule (flow number at peer sent kept roomy) kept c b) room) ∙ unruled (spoken_rule (flow number at peer sent kept roomy) kept (Ok c) b) r in
          let numbers : number_rules (flow number at peer sent kept roomy) c b ≡ [] =
          sym (ap (λ (x : Bool). if x then [] else number_rules (flow number at peer sent kept roomy) c b) room) ∙ map_none (broken_by (Judges sent)) (spoken_numbers (flow number at peer sent kept roomy) (Ok c) b) n in
          command_same number at peer kept roomy sent c b t k.same rule numbers f

      -- while the host waits, nothing is heard
      waits_deaf : awaits_reply v.host.wait ≡ true → reaches (Judges sent) what v ≡ false
      waits_deaf w =
          let h : s.host_waits ≡ true = k.touch.host_waits ∙ w in
          sym heard ∙ ap (λ (x : Bool). (if sent then s.host_began else s.peer_began) && not x && not s.peer_waits) h ∙ off (if sent then s.host_began else s.peer_began)
        where
          off : (x : Bool) → (x && false && not s.peer_waits) ≡ false
          off true = refl
          off false = refl

      stays : (x : Bool) → reaches (Judges sent) what v ≡ x → awaits_reply v.host.wait ≡ true → NoneBetween at peer (now (reaches (Judges sent) what v))
      stays true e w = let nay : false ≡ true = sym (waits_deaf w) ∙ e in absurd (cc nay)
      stays false e w = subst (λ (y : Bool). NoneBetween at peer (now y)) (sym e) (k.none w)

  pub item_followed : (sent : Bool) (item : Result Command CommandFault) (v : View) (b : SeenTables) (s : Session) (t : Tables) → b.full ≡ false → Followed at peer v b s t
      → all_findings (Judges sent) (flow number at peer sent kept roomy) kept item v b ≡ [] → (after_flow (Judges sent) (flow number at peer sent kept roomy) kept item v b).full ≡ false → Item sent item v b s t
  item_followed sent (Result.Err fault) v b s t room k none full = absurd (cc none)
  item_followed sent (Ok c) v b s t room k none full = by_kind P rst rrp thing c none full
    where
      P : Command → Type 0
      P c = all_findings (Judges sent) (flow number at peer sent kept roomy) kept (Ok c) v b ≡ [] → (after_flow (Judges sent) (flow number at peer sent kept roomy) kept (Ok c) v b).full ≡ false → Item sent (Ok c) v b s t

      rst : P Command.Rst
      rst none full =
          let r : List Finding = reset_findings (Judges sent) v in
          let o : List Finding = option_to_list (flow_finding (Judges sent) (flow number at peer sent kept roomy) kept (Ok Command.Rst) v b) in
          rst_item sent v b s t k (front_none r o (front_none (r ++ o) (number_findings (Judges sent) (flow number at peer sent kept roomy) (Ok Command.Rst) v b) none))

      rrp : P Command.Rrp
      rrp none full =
          let r : List Finding = reply_findings (Judges sent) v in
          let o : List Finding = option_to_list (flow_finding (Judges sent) (flow number at peer sent kept roomy) kept (Ok Command.Rrp) v b) in
          rrp_item sent v b s t k (front_none r o (front_none (r ++ o) (number_findings (Judges sent) (flow number at peer sent kept roomy) (Ok Command.Rrp) v b) none))

      other : (c : Command) (what : ItemKind)
          → option_to_list (early_finding (Judges sent) what v) ++ option_to_list (if reaches (Judges sent) what v then option_map (broken_by (Judges sent)) (spoken_rule (flow number at peer sent kept roomy) kept (Ok c) b) else None)
          ++ (if reaches (Judges sent) what v then map (broken_by (Judges sent)) (spoken_numbers (flow number at peer sent kept roomy) (Ok c) b) else []) ≡ []
          → (if reaches (Judges sent) what v then tables_after_command (flow number at peer sent kept roomy) kept c b else b).full ≡ false
          → Followed at peer (after_thing (Judges sent) what v) (if reaches (Judges sent) what v then tables_after_command (flow number at peer sent kept roomy) kept c b else b) s (heard_after (observation number at peer sent kept roomy) c s t)
      other c what none full =
          let e : List Finding = option_to_list (early_finding (Judges sent) what v) in
          let r : List Finding = option_to_list (if reaches (Judges sent) what v then option_map (broken_by (Judges sent)) (spoken_rule (flow number at peer sent kept roomy) kept (Ok c) b) else None) in
          let n : List Finding = if reaches (Judges sent) what v then map (broken_by (Judges sent)) (spoken_numbers (flow number at peer sent kept roomy) (Ok c) b) else [] in
          let both = front_none (e ++ r) n none in
          thing_item sent c what v b s t room k (front_none e r both) (rest_none e r both) (rest_none (e ++ r) n none) full

      thing : (c : Command) → IsThing c → P c
      thing Command.Rst i none full = absurd (cc i.act)
      thing Command.Rrp i none full = absurd (cc i.act)
      thing Command.Nop i none full = other Command.Nop ItemKind.Nop none full
      thing (Command.Rts x y z) i none full = other (Command.Rts x y z) ItemKind.Rts none full
      thing (Command.Str x y z) i none full = other (Command.Str x y z) ItemKind.Str none full
      thing (Command.Cls x y) i none full = other (Command.Cls x y) ItemKind.Cls none full
      thing (Command.All x y z) i none full = other (Command.All x y z) ItemKind.All none full
      thing (Command.Gvb x y z) i none full = other (Command.Gvb x y z) ItemKind.Gvb none full
      thing (Command.Ret x y z) i none full = other (Command.Ret x y z) ItemKind.Ret none full
      thing (Command.Inr x) i none full = other (Command.Inr x) ItemKind.Inr none full
      thing (Command.Ins x) i none full = other (Command.Ins x) ItemKind.Ins none full
      thing (Command.Eco x) i none full = other (Command.Eco x) ItemKind.Eco none full
      thing (Command.Erp x) i none full = other (Command.Erp x) ItemKind.Erp none full
      thing (Command.Err x y) i none full = other (Command.Err x y) ItemKind.Err none full

  -- ---- all items of a control text

  pub items_followed : (sent : Bool) (items : List (Result Command CommandFault)) (v : View) (b : SeenTables) (s : Session) (t : Tables) → Followed at peer v b s t
      → talked_findings (Judges sent) (flow number at peer sent kept roomy) kept items v b ≡ [] → (after_talked (Judges sent) (flow number at peer sent kept roomy) kept items v b).full ≡ false
      → Followed at peer (after_items (Judges sent) items v) (after_talked (Judges sent) (flow number at peer sent kept roomy) kept items v b) (session_after_all (observation number at peer sent kept roomy) items s) (tables_after_all (observation number at peer sent kept roomy) items s t)
  items_followed sent [] v b s t k none full = k
  items_followed sent (item ∷ items) v b s t k none full =
      let here : List Finding = all_findings (Judges sent) (flow number at peer sent kept roomy) kept item v b in
      let mid : SeenTables = after_flow (Judges sent) (flow number at peer sent kept roomy) kept item v b in
      let next : View = after_item (Judges sent) item v in
      let rest : List Finding = talked_findings (Judges sent) (flow number at peer sent kept roomy) kept items next mid in
      let room : mid.full ≡ false = (items_read at peer (Judges sent) kept items next mid).room full in
      let before : b.full ≡ false = (flow_reads at peer (Judges sent) kept item v b).room room in
      let one = item_followed sent item v b s t before k (front_none here rest none) room in
      items_followed sent items next mid (session_after (observation number at peer sent kept roomy) item s) (tables_after (observation number at peer sent kept roomy) item s t) one (rest_none here rest none) full
