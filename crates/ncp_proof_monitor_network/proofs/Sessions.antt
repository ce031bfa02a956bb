-- Two hosts in a session: the observations at the interface of each, with the commands underway between
-- them (queued or in flight); through each command that one sends, or the other receives.
use Rattle.std.proofs.Common.{◌≡◌, ℕ, ◌==◌, Bool, true, false, not, ◌&&◌, ◌||◌, if◌then◌else◌, List, [], ◌∷◌, ◌++◌, Option, None, Some, Result, Ok, Err, map, option_map, option_to_list, length, append_assoc, append-nil, refl, sym, ap, ◌∙◌, subst, arith}
use Rattle.std.proofs.Math.Bool.{and-false}
use Rattle.ncp_leader.specs.Message.{Message}
use Rattle.ncp_wire.specs.declared.command.Command.{Command}
use Rattle.ncp_wire.specs.declared.fault.CommandFault.{CommandFault}
use Rattle.ncp_control.specs.Texts.{items_of}
use Rattle.ncp_monitor.specs.declared.act.Act.{Act}
use Rattle.ncp_monitor.specs.declared.act.Act.TheVariants.{Reset, Reply, Other}
use Rattle.ncp_monitor.specs.declared.finding.Finding.{Finding}
use Rattle.ncp_monitor.specs.declared.finding.Rule.{Rule}
use Rattle.ncp_monitor.specs.declared.finding.ItemKind.{ItemKind}
use Rattle.ncp_interface.specs.declared.sent_message.SentMessage.{SentMessage}
use Rattle.ncp_monitor.specs.declared.phase.MessageContext.{MessageContext}
use Rattle.ncp_monitor.specs.declared.observed_flow.ObservedFlow.{ObservedFlow}
use Rattle.ncp_monitor.specs.declared.view.View.{View}
use Rattle.ncp_monitor.specs.declared.view.Wait.{Wait}
use Rattle.ncp_monitor.specs.declared.view.Wait.TheVariants.{Answered, Even, Waiting}
use Rattle.ncp_monitor.specs.Acts.{act_of}
use Rattle.ncp_monitor.specs.Views.{awaits_reply, is_answered_too_often, more_waiting, new_view}
use Rattle.ncp_monitor.specs.ConnStates.{SeenTables, tables_cleared, no_conn_tables}
use Rattle.ncp_monitor.specs.Requests.{is_link_busy}
use Rattle.ncp_monitor.specs.Phases.{broken_by, is_early, is_acted_on, early_finding, after_thing, again_finding, unquiet_finding, first_finding, reset_findings, unasked_finding, reply_findings, act_findings, after_act, item_findings, after_item, items_findings, after_items, view_after_reset, after_reset_of_host, after_reset_of_peer, view_after_reply, after_reply_of_host, after_reply_of_peer}
use Rattle.ncp_monitor.specs.Speaking.{command_rule, spoken_rule, spoken_numbers, after_spoken, reply_left_out, after_all_said}
use Rattle.ncp_monitor.specs.Talked.{reaches, act_reaches, clears, flow_finding, number_findings, after_flow, talked_findings, after_talked, missing, reports_omitted, missing_reply, missing_cls, left_out_findings, after_left_out, text_findings, after_talked_text}
use Rattle.ncp_monitor.specs.Allocation.{number_rules}
use Rattle.ncp_monitor.specs.Texts.{text_rules, text_target, demuxed_text_rules, conn_tables_after_text}
use Rattle.ncp_proof_monitor_allocation.proofs.Elsewhere.{Alike, item_alike, cleared_alike, said_alike, text_alike}
use Rattle.ncp_proof_monitor_replies.proofs.BooksRead.{flow_reads, items_read}
use Rattle.ncp_proof_monitor_network.proofs.NeverSuspended.{Awake, new_awake, IsThing, by_kind, OwnReset, own_reset, OwnReply, own_reply, TheirReset, their_reset, TheirReply, their_reply, none_early, thing_leaves, own_in_time}
use Rattle.ncp_proof_monitor_network.proofs.Said.{Said, unspoken, Legal, after_said_by, TextLegal, after_text_by}
use Rattle.ncp_proof_monitor_network.proofs.Diamond.{alike_self}
use Rattle.ncp_proof_monitor_network.proofs.ConsistentViews.{Afloat, with_float, LeavesNoText}
use Rattle.ncp_proof_monitor_network.proofs.AbreastSteps.{unspoken_abreast}
use Rattle.ncp_proof_monitor_network.proofs.ReadAs.{ReadAs, read_as_alike, read_cleared, read_none, read_others, read_room}
use Rattle.ncp_proof_monitor_network.proofs.ReadsSaid.{read_own, read_their, own_cls_idle, said_room}
use Rattle.ncp_proof_monitor_network.proofs.ReadsTexts.{read_own_text, read_their_text}
use Rattle.ncp_proof_monitor_network.proofs.Hears.{crossing}
use Rattle.ncp_proof_monitor_network.proofs.SessionSteps.{NoneAfloat, Session, turn_session, session_floats, session_tables, session_resets, session_replies, session_says, session_sends, session_room, session_reset_heard, session_reply_heard, session_drops, may_hear, session_hears, session_drops_text, may_receive, session_receives}

-- h, k: the hosts; vh, vk: what is seen of the session at each; hl, kl: the commands of each that are on their way to the other;
-- ht, kt: the texts
pub record SessionInvariant (h k : ℕ) (vh vk : View) (b : SeenTables) (hl kl : List Command) (ht kt : Afloat) : Type 0 where
  pub awake_h : Awake vh
  pub awake_k : Awake vk
  pub session : Session h k (awaits_reply vh.host.wait) vh.owes (awaits_reply vk.host.wait) vk.owes b hl kl ht kt

pub turn_parley : (h k : ℕ) (vh vk : View) (b : SeenTables) (hl kl : List Command) (ht kt : Afloat) → SessionInvariant h k vh vk b hl kl ht kt → SessionInvariant k h vk vh b kl hl kt ht
turn_parley h k vh vk b hl kl ht kt p = record {
  awake_h = p.awake_k;
  awake_k = p.awake_h;
  session = turn_session h k (awaits_reply vh.host.wait) vh.owes (awaits_reply vk.host.wait) vk.owes b hl kl ht kt p.session;
}

pub begins_session : (h k : ℕ) → SessionInvariant h k (new_view false) (new_view false) no_conn_tables [] [] (λ l. None) (λ l. None)
begins_session h k = record {
  awake_h = new_awake;
  awake_k = new_awake;
  session = record {
    matched = record { ours = refl; theirs = refl; behind = refl; after_theirs = refl };
    x = unspoken;
    y = unspoken;
    at_h = read_none h k;
    at_k = read_none k h;
    empty_h = λ e. alike_self unspoken;
    empty_k = λ e. alike_self unspoken;
    quiet_h = λ e l. refl;
    quiet_k = λ e l. refl;
    here = tt;
    there = tt;
    abreast = λ e f. unspoken_abreast;
  };
}

-- another view of the first host, with the same `wait` and `owes`
pub views_session : (h k : ℕ) (vh wh vk : View) (b : SeenTables) (hl kl : List Command) (ht kt : Afloat) → Awake wh → wh.host.wait ≡ vh.host.wait → wh.owes ≡ vh.owes → SessionInvariant h k vh vk b hl kl ht kt → SessionInvariant h k wh vk b hl kl ht kt
views_session h k vh wh vk b hl kl ht kt a wait owes p = record {
  awake_h = a;
  awake_k = p.awake_k;
  session =
      subst (λ (w : Wait). Session h k (awaits_reply w) wh.owes (awaits_reply vk.host.wait) vk.owes b hl kl ht kt) (sym wait)
      (subst (λ (o : Bool). Session h k (awaits_reply vh.host.wait) o (awaits_reply vk.host.wait) vk.owes b hl kl ht kt) (sym owes) p.session);
}

-- the same texts are on their way
pub floats_session : (h k : ℕ) (vh vk : View) (b : SeenTables) (hl kl : List Command) (ht kt hu ku : Afloat) → ((l : ℕ) → ht l ≡ hu l) → ((l : ℕ) → kt l ≡ ku l) → SessionInvariant h k vh vk b hl kl ht kt → SessionInvariant h k vh vk b hl kl hu ku
floats_session h k vh vk b hl kl ht kt hu ku e f p = record {
  awake_h = p.awake_h;
  awake_k = p.awake_k;
  session = session_floats h k (awaits_reply vh.host.wait) vh.owes (awaits_reply vk.host.wait) vk.owes b hl kl ht kt hu ku e f p.session;
}

-- other connection tables that read as the same flow
pub reads_session : (h k : ℕ) (vh vk : View) (b now : SeenTables) (hl kl : List Command) (ht kt : Afloat) (p : SessionInvariant h k vh vk b hl kl ht kt) → ReadAs h k now p.session.x → ReadAs k h now p.session.y → SessionInvariant h k vh vk now hl kl ht kt
reads_session h k vh vk b now hl kl ht kt p at_h at_k = record {
  awake_h = p.awake_h;
  awake_k = p.awake_k;
  session = session_tables h k (awaits_reply vh.host.wait) vh.owes (awaits_reply vk.host.wait) vk.owes b now hl kl ht kt p.session at_h at_k;
}

pub tables_session : (h k : ℕ) (vh vk : View) (b now : SeenTables) (hl kl : List Command) (ht kt : Afloat) → Alike h k b now → Alike k h b now → SessionInvariant h k vh vk b hl kl ht kt → SessionInvariant h k vh vk now hl kl ht kt
tables_session h k vh vk b now hl kl ht kt at_h at_k p = reads_session h k vh vk b now hl kl ht kt p (read_others h k b now p.session.x at_h p.session.at_h) (read_others k h b now p.session.y at_k p.session.at_k)

-- ---- findings of what is said

-- one that is judged, and not found
unbroken : (context : MessageContext) (x : Bool) (o : Option Rule) → x ≡ true → option_to_list (if x then option_map (broken_by context) o else None) ≡ [] → o ≡ None
unbroken context true None e none = refl
unbroken context true (Some r) e none = absurd (cc none)
unbroken context false o e none = absurd (cc e)

none_found : (context : MessageContext) (x : Bool) (o : Option Rule) → o ≡ None → option_to_list (if x then option_map (broken_by context) o else None) ≡ []
none_found context true o e = ap (λ (r : Option Rule). option_to_list (option_map (broken_by context) r)) e
none_found context false o e = refl

none_judged : (context : MessageContext) (x : Bool) (o : Option Rule) → x ≡ false → option_to_list (if x then option_map (broken_by context) o else None) ≡ []
none_judged context x o e = ap (λ (y : Bool). option_to_list (if y then option_map (broken_by context) o else None)) e

-- so for the numbers of a RET
unnumbered : (context : MessageContext) (x : Bool) (rs : List Rule) → x ≡ true → (if x then map (broken_by context) rs else []) ≡ [] → rs ≡ []
unnumbered context true [] e none = refl
unnumbered context true (r ∷ rs) e none = absurd (cc none)
unnumbered context false rs e none = absurd (cc e)

no_numbers : (context : MessageContext) (x : Bool) (rs : List Rule) → rs ≡ [] → (if x then map (broken_by context) rs else []) ≡ []
no_numbers context true rs e = ap (map (broken_by context)) e
no_numbers context false rs e = refl

none_numbered : (context : MessageContext) (x : Bool) (rs : List Rule) → x ≡ false → (if x then map (broken_by context) rs else []) ≡ []
none_numbered context x rs e = ap (λ (y : Bool). if y then map (broken_by context) rs else []) e

-- where something found no room nothing is judged
full_unbroken : (flow : ObservedFlow) (kept : List SentMessage) (c : Command) (b : SeenTables) → b.full ≡ true → spoken_rule flow kept (Ok c) b ≡ None
full_unbroken flow kept c b f = ap (λ (x : Bool). if x then None else command_rule flow kept c b) f

full_unnumbered : (flow : ObservedFlow) (c : Command) (b : SeenTables) → b.full ≡ true → spoken_numbers flow (Ok c) b ≡ []
full_unnumbered flow c b f = ap (λ (x : Bool). if x then [] else number_rules flow c b) f

pub empty_front : {A : Type 0} (xs ys : List A) → xs ++ ys ≡ [] → xs ≡ []
empty_front [] ys e = refl
empty_front (x ∷ xs) ys e = absurd (cc e)

pub empty_rest : {A : Type 0} (xs ys : List A) → xs ++ ys ≡ [] → ys ≡ []
empty_rest [] ys e = e
empty_rest (x ∷ xs) ys e = absurd (cc e)

-- what clears the books: with a view that is awake each RST
rst_clears : (context : MessageContext) (v : View) → Awake v → clears context Reset v ≡ true
rst_clears context v a = go v.told context.zero context.sent v.host.wait a.told a.own_even
  where
    go : (t z s : Bool) (w : Wait) → t ≡ true → is_answered_too_often w ≡ false → ((t || (z && not (is_answered_too_often w))) && not (s && not (awaits_reply (more_waiting w)))) ≡ true
    go false z s w t e = absurd (cc t)
    go true z s Answered t e = absurd (cc e)
    go true z true Even t e = refl
    go true z false Even t e = refl
    go true z true Waiting t e = refl
    go true z false Waiting t e = refl

reached : (context : MessageContext) (what : ItemKind) (v : View) → Awake v → is_early context what v ≡ false → (not context.sent && awaits_reply v.host.wait) ≡ false → reaches context what v ≡ true
reached context what v a early waits = go v.told (is_early context what v) v.suspended (not context.sent && awaits_reply v.host.wait) a.told early a.suspended waits
  where
    go : (t e r w : Bool) → t ≡ true → e ≡ false → r ≡ false → w ≡ false → (t && (not e || is_acted_on context v) && not r && not w) ≡ true
    go true false false false t e r w = refl
    go false e r w t f g i = absurd (cc t)
    go true true r w t f g i = absurd (cc f)
    go true false true w t f g i = absurd (cc g)
    go true false false true t f g i = absurd (cc i)

dropped : (context : MessageContext) (what : ItemKind) (v : View) → (not context.sent && awaits_reply v.host.wait) ≡ true → reaches context what v ≡ false
dropped context what v w =
    ap (λ (x : Bool). v.told && (not (is_early context what v) || is_acted_on context v) && not v.suspended && not x) w ∙ and-false (v.told && (not (is_early context what v) || is_acted_on context v) && not v.suspended)

-- what is kept of the messages of a host shows which of its texts are on their way
pub record Floated (h k : ℕ) (busy : Option ℕ) (kept : List SentMessage) (ht : Afloat) : Type 0 where
  pub none : busy ≡ None → NoneAfloat ht
  pub idle : (l : ℕ) → is_link_busy h k (Some l) kept ≡ false → ht l ≡ None

-- where a data link is busy, its RST and its RRP are found
unbusy : (context : MessageContext) (rule : ℕ → Finding) (v : View) → context.sent ≡ true → v.suspended ≡ false → option_to_list (if not context.sent || v.suspended then None else option_map rule context.busy) ≡ [] → context.busy ≡ None
unbusy context rule v s r none = go context.sent v.suspended context.busy s r none
  where
    go : (s r : Bool) (o : Option ℕ) → s ≡ true → r ≡ false → option_to_list (if not s || r then None else option_map rule o) ≡ [] → o ≡ None
    go true false None e f none = refl
    go true false (Some l) e f none = absurd (cc none)
    go true true o e f none = absurd (cc f)
    go false r o e f none = absurd (cc e)

module _ (h k by : ℕ) (busy : Option ℕ) (zero : Bool) (kept : List SentMessage) where
  -- ---- the first says something

  abbrev going : MessageContext
  going = record { by = by; sent = true; busy = busy; zero = zero }

  abbrev saying : ObservedFlow
  saying = record { at = h; peer = k; sent = true }

  -- the books after a command
  abbrev tables_said : Command → Act → View → SeenTables → SeenTables
  tables_said c act v b = if clears going act v then tables_cleared h k b else if act_reaches going act v then after_spoken saying kept (Ok c) b else b

  abbrev Goes : Command → Act → Type 0
  Goes c act =
      (vh vk : View) (b : SeenTables) (hl kl : List Command) (ht kt : Afloat) → (h == k) ≡ false → Floated h k busy kept ht → act_findings going act vh ≡ []
      → option_to_list (if act_reaches going act vh then option_map (broken_by going) (spoken_rule saying kept (Ok c) b) else None) ≡ []
      → (if act_reaches going act vh then map (broken_by going) (spoken_numbers saying (Ok c) b) else []) ≡ [] → (tables_said c act vh b).full ≡ false
      → SessionInvariant h k vh vk b hl kl ht kt → SessionInvariant h k (after_act going act vh) vk (tables_said c act vh b) (hl ++ c ∷ []) kl ht kt

  from_here : (h == k) ≡ false → (h == k && k == h) ≡ false
  from_here e = ap (λ (x : Bool). x && k == h) e

  -- an RST is sent while no text is unacknowledged
  rst_quiet : (vh : View) → Awake vh → reset_findings going vh ≡ [] → busy ≡ None
  rst_quiet vh a none = unbusy going (λ (link : ℕ). broken_by going (Rule.Unquiet false link)) vh refl a.suspended parted
    where
      again : List Finding
      again = option_to_list (again_finding going vh)

      unquiet : List Finding
      unquiet = option_to_list (unquiet_finding false going vh)

      first : List Finding
      first = option_to_list (first_finding going vh)

      heard : again ++ unquiet ++ first ≡ []
      heard = sym (ap (λ (x : Bool). if x || (zero && not (is_answered_too_often vh.host.wait)) then again ++ unquiet ++ first else []) a.told) ∙ none

      parted : unquiet ≡ []
      parted = empty_rest again unquiet (empty_front (again ++ unquiet) first heard)

  rst_goes : Goes Command.Rst Reset
  rst_goes vh vk b hl kl ht kt apart shows none unsaid unnumbered room p =
      subst (λ (x : Bool). SessionInvariant h k now vk (if x then tables_cleared h k b else b) (hl ++ Command.Rst ∷ []) kl ht kt) (sym (rst_clears going vh p.awake_h))
      (record { awake_h = r.awake; awake_k = p.awake_k; session = counterpart })
    where
      now : View
      now = view_after_reset going vh

      r : OwnReset vh now
      r = own_reset by busy zero vh p.awake_h none

      wk : Bool
      wk = awaits_reply vk.host.wait

      s : Session h k false vh.owes wk vk.owes b hl kl ht kt
      s = subst (λ (w : Bool). Session h k w vh.owes wk vk.owes b hl kl ht kt) r.before p.session

      counterpart : Session h k (awaits_reply now.host.wait) now.owes wk vk.owes (tables_cleared h k b) (hl ++ Command.Rst ∷ []) kl ht kt
      counterpart =
          subst (λ (w : Bool). Session h k w now.owes wk vk.owes (tables_cleared h k b) (hl ++ Command.Rst ∷ []) kl ht kt) (sym r.after)
          (subst (λ (o : Bool). Session h k true o wk vk.owes (tables_cleared h k b) (hl ++ Command.Rst ∷ []) kl ht kt) (sym r.owes)
          (session_resets h k vh.owes wk vk.owes b (tables_cleared h k b) hl kl ht kt s (shows.none (rst_quiet vh p.awake_h none)) (read_cleared h k b)
          (read_others k h b (tables_cleared h k b) s.y (cleared_alike k h h k (from_here apart) b) s.at_k)))

  -- and an RRP
  rrp_quiet : (vh : View) → Awake vh → reply_findings going vh ≡ [] → busy ≡ None
  rrp_quiet vh a none = unbusy going (λ (link : ℕ). broken_by going (Rule.Unquiet true link)) vh refl a.suspended parted
    where
      unasked : List Finding
      unasked = option_to_list (unasked_finding going vh)

      unquiet : List Finding
      unquiet = option_to_list (unquiet_finding true going vh)

      parted : unquiet ≡ []
      parted = empty_rest unasked unquiet (sym (ap (λ (x : Bool). if x then unasked ++ unquiet else []) a.told) ∙ none)

  rrp_goes : Goes Command.Rrp Reply
  rrp_goes vh vk b hl kl ht kt apart shows none unsaid unnumbered room p = record { awake_h = r.awake; awake_k = p.awake_k; session = counterpart }
    where
      now : View
      now = view_after_reply going vh

      r : OwnReply vh now
      r = own_reply by busy zero vh p.awake_h none

      wh : Bool
      wh = awaits_reply vh.host.wait

      wk : Bool
      wk = awaits_reply vk.host.wait

      counterpart : Session h k (awaits_reply now.host.wait) now.owes wk vk.owes b (hl ++ Command.Rrp ∷ []) kl ht kt
      counterpart =
          subst (λ (w : Bool). Session h k w now.owes wk vk.owes b (hl ++ Command.Rrp ∷ []) kl ht kt) (sym r.waits)
          (subst (λ (o : Bool). Session h k wh o wk vk.owes b (hl ++ Command.Rrp ∷ []) kl ht kt) (sym r.after)
          (session_replies h k wh wk vk.owes b hl kl ht kt (shows.none (rrp_quiet vh p.awake_h none)) (subst (λ (o : Bool). Session h k wh o wk vk.owes b hl kl ht kt) r.before p.session)))

  -- a sender closes while none of its texts is unacknowledged
  own_quiet : (c : Command) (b : SeenTables) (x : Said) (ht : Afloat) → Floated h k busy kept ht → b.full ≡ false → ReadAs h k b x → Legal true c x → spoken_rule saying kept (Ok c) b ≡ None → LeavesNoText c x ht
  own_quiet (Command.Cls my your) b x ht shows f a l rule = λ on e. shows.idle on (own_cls_idle h k kept my your b x f a l rule on e)
  own_quiet Command.Nop b x ht shows f a l rule = tt
  own_quiet (Command.Rts receive send link) b x ht shows f a l rule = tt
  own_quiet (Command.Str send receive size) b x ht shows f a l rule = tt
  own_quiet (Command.All link messages bits) b x ht shows f a l rule = tt
  own_quiet (Command.Gvb link fm fb) b x ht shows f a l rule = tt
  own_quiet (Command.Ret link messages bits) b x ht shows f a l rule = tt
  own_quiet (Command.Inr link) b x ht shows f a l rule = tt
  own_quiet (Command.Ins link) b x ht shows f a l rule = tt
  own_quiet (Command.Eco byte) b x ht shows f a l rule = tt
  own_quiet (Command.Erp byte) b x ht shows f a l rule = tt
  own_quiet (Command.Err code bytes) b x ht shows f a l rule = tt
  own_quiet Command.Rst b x ht shows f a l rule = tt
  own_quiet Command.Rrp b x ht shows f a l rule = tt

  thing_goes : (c : Command) (t : IsThing c) → Goes c (Other t.what)
  thing_goes c t vh vk b hl kl ht kt apart shows none unsaid unnumbered_so room p =
      subst (λ (v : View). SessionInvariant h k v vk (tables_said c (Other t.what) vh b) (hl ++ c ∷ []) kl ht kt) (sym same)
      (subst (λ (x : Bool). SessionInvariant h k vh vk (if x then now else b) (hl ++ c ∷ []) kl ht kt) (sym reach)
      (record { awake_h = p.awake_h; awake_k = p.awake_k; session = counterpart }))
    where
      wk : Bool
      wk = awaits_reply vk.host.wait

      now : SeenTables
      now = after_spoken saying kept (Ok c) b

      early : is_early going t.what vh ≡ false
      early = none_early going t.what vh p.awake_h.told none

      same : after_thing going t.what vh ≡ vh
      same = thing_leaves going t.what vh early

      in_time : (awaits_reply vh.host.wait ≡ false) × (vh.owes ≡ false)
      in_time = own_in_time by busy zero t.what vh p.awake_h.suspended early

      reach : reaches going t.what vh ≡ true
      reach = reached going t.what vh p.awake_h early refl

      rule : spoken_rule saying kept (Ok c) b ≡ None
      rule = unbroken going (reaches going t.what vh) (spoken_rule saying kept (Ok c) b) reach unsaid

      numbers : spoken_numbers saying (Ok c) b ≡ []
      numbers = unnumbered going (reaches going t.what vh) (spoken_numbers saying (Ok c) b) reach unnumbered_so

      room_now : now.full ≡ false
      room_now = subst (λ (x : Bool). (if x then now else b).full ≡ false) reach room

      room_before : b.full ≡ false
      room_before = said_room h k true kept c b room_now

      s : Session h k false false wk vk.owes b hl kl ht kt
      s = subst (λ (o : Bool). Session h k false o wk vk.owes b hl kl ht kt) in_time.1 (subst (λ (w : Bool). Session h k w vh.owes wk vk.owes b hl kl ht kt) in_time.0 p.session)

      read : Legal true c s.x × (now.full ≡ false → ReadAs h k now (after_said_by true c s.x))
      read = read_own h k kept c b s.x room_before s.at_h rule numbers

      counterpart : Session h k (awaits_reply vh.host.wait) vh.owes wk vk.owes now (hl ++ c ∷ []) kl ht kt
      counterpart =
          subst (λ (w : Bool). Session h k w vh.owes wk vk.owes now (hl ++ c ∷ []) kl ht kt) (sym in_time.0)
          (subst (λ (o : Bool). Session h k false o wk vk.owes now (hl ++ c ∷ []) kl ht kt) (sym in_time.1)
          (session_says h k wk vk.owes b now c hl kl ht kt s t.not_rst t.not_rrp read.0 (own_quiet c b s.x ht shows room_before s.at_h read.0 rule) (read.1 room_now)
          (read_others k h b now s.y (item_alike k h h k (from_here apart) true kept (Ok c) b) s.at_k)))

  each_goes : (c : Command) → Goes c (act_of (Ok c))
  each_goes = by_kind (λ (c : Command). Goes c (act_of (Ok c))) rst_goes rrp_goes (λ c t. subst (Goes c) (sym t.act) (thing_goes c t))

  -- a list of them
  pub own_items : (cs : List Command) (vh vk : View) (b : SeenTables) (hl kl : List Command) (ht kt : Afloat) → (h == k) ≡ false → Floated h k busy kept ht → talked_findings going saying kept (items_of cs None) vh b ≡ []
      → (after_talked going saying kept (items_of cs None) vh b).full ≡ false → SessionInvariant h k vh vk b hl kl ht kt
      → SessionInvariant h k (after_items going (items_of cs None) vh) vk (after_talked going saying kept (items_of cs None) vh b) (hl ++ cs) kl ht kt
  own_items [] vh vk b hl kl ht kt apart shows none room p = subst (λ (l : List Command). SessionInvariant h k vh vk b l kl ht kt) (sym (append-nil hl)) p
  own_items (c ∷ cs) vh vk b hl kl ht kt apart shows none room p =
      let v : View = after_item going (Ok c) vh in
      let now : SeenTables = after_flow going saying kept (Ok c) vh b in
      let found : List Finding = talked_findings going saying kept (items_of cs None) v now in
      let of_phase : List Finding = item_findings going (Ok c) vh in
      let of_flow : List Finding = option_to_list (flow_finding going saying kept (Ok c) vh b) in
      let of_numbers : List Finding = number_findings going saying (Ok c) vh b in
      let all = empty_front (of_phase ++ of_flow ++ of_numbers) found none in
      let one = empty_front (of_phase ++ of_flow) of_numbers all in
      let rest = empty_rest (of_phase ++ of_flow ++ of_numbers) found none in
      subst (λ (l : List Command). SessionInvariant h k (after_items going (items_of cs None) v) vk (after_talked going saying kept (items_of cs None) v now) l kl ht kt) (append_assoc hl (c ∷ []) cs)
      (own_items cs v vk now (hl ++ c ∷ []) kl ht kt apart shows rest room
      (each_goes c vh vk b hl kl ht kt apart shows (empty_front of_phase of_flow one) (empty_rest of_phase of_flow one) (empty_rest (of_phase ++ of_flow) of_numbers all)
      ((items_read h k going kept (items_of cs None) v now).room room) p))

  -- and after them
  pub own_left : (full_room : Bool) (v vk : View) (b : SeenTables) (hl kl : List Command) (ht kt : Afloat) → (h == k) ≡ false → left_out_findings going saying kept full_room v b ≡ [] → SessionInvariant h k v vk b hl kl ht kt
      → SessionInvariant h k v vk (after_left_out going saying full_room v b) hl kl ht kt
  own_left full_room v vk b hl kl ht kt apart none p = go (reports_omitted going full_room v b) refl
    where
      left : List Finding
      left = option_to_list (missing_cls going saying kept full_room v b)

      no_missing : (x : Bool) (o : Option Command) → x ≡ true → option_to_list (if x then missing going o else None) ≡ [] → o ≡ None
      no_missing true None e f = refl
      no_missing true (Some c) e f = absurd (cc f)
      no_missing false o e f = absurd (cc e)

      go : (x : Bool) → reports_omitted going full_room v b ≡ x → SessionInvariant h k v vk (if x then after_all_said h k b else b) hl kl ht kt
      go false e = p
      go true e =
          let s = p.session in
          let reply = no_missing (reports_omitted going full_room v b) (reply_left_out h k b) e (empty_front (option_to_list (missing_reply going saying full_room v b)) left none) in
          let read = read_room h k b s.x reply s.at_h in
          record {
            awake_h = p.awake_h;
            awake_k = p.awake_k;
            session = session_room h k (awaits_reply v.host.wait) v.owes (awaits_reply vk.host.wait) vk.owes b (after_all_said h k b) hl kl ht kt s read.0 read.1
                (read_others k h b (after_all_said h k b) s.y (said_alike k h h k (from_here apart) b) s.at_k);
          }

  -- ---- it comes to the second

  abbrev coming : MessageContext
  coming = record { by = by; sent = false; busy = busy; zero = zero }

  abbrev hearing : ObservedFlow
  hearing = record { at = k; peer = h; sent = false }

  abbrev tables_heard : Command → Act → View → SeenTables → SeenTables
  tables_heard c act v b = if clears coming act v then tables_cleared k h b else if act_reaches coming act v then after_spoken hearing kept (Ok c) b else b

  abbrev Comes : Command → Act → Type 0
  Comes c act =
      (vh vk : View) (b : SeenTables) (hl kl : List Command) (ht kt : Afloat) → (h == k) ≡ false → act_findings coming act vk ≡ [] → (tables_heard c act vk b).full ≡ false
      → SessionInvariant h k vh vk b (c ∷ hl) kl ht kt → SessionInvariant h k vh (after_act coming act vk) (tables_heard c act vk b) hl kl ht kt

  from_there : (h == k) ≡ false → (k == h && h == k) ≡ false
  from_there e = ap (λ (x : Bool). k == h && x) e ∙ and-false (k == h)

  rst_comes : Comes Command.Rst Reset
  rst_comes vh vk b hl kl ht kt apart none room p =
      subst (λ (x : Bool). SessionInvariant h k vh now (if x then cleared else b) hl kl ht kt) (sym (rst_clears coming vk p.awake_k))
      (record { awake_h = p.awake_h; awake_k = r.awake; session = counterpart })
    where
      now : View
      now = view_after_reset coming vk

      cleared : SeenTables
      cleared = tables_cleared k h b

      r : TheirReset vk now
      r = their_reset by busy zero vk p.awake_k none

      wh : Bool
      wh = awaits_reply vh.host.wait

      wk : Bool
      wk = awaits_reply vk.host.wait

      s : Session h k wh vh.owes wk false b (Command.Rst ∷ hl) kl ht kt
      s = subst (λ (o : Bool). Session h k wh vh.owes wk o b (Command.Rst ∷ hl) kl ht kt) r.before p.session

      empty : ReadAs h k cleared unspoken
      empty =
          read_others h k b cleared unspoken (cleared_alike h k k h (from_there apart) b)
          (read_as_alike h k b s.x unspoken (s.empty_h (crossing wh vh.owes wk false (Command.Rst ∷ hl) kl (omega arith) s.matched).waits) s.at_h)

      counterpart : Session h k wh vh.owes (awaits_reply now.host.wait) now.owes cleared hl kl ht kt
      counterpart =
          subst (λ (w : Bool). Session h k wh vh.owes w now.owes cleared hl kl ht kt) (sym r.waits)
          (subst (λ (o : Bool). Session h k wh vh.owes wk o cleared hl kl ht kt) (sym r.after)
          (session_reset_heard h k wh vh.owes wk b cleared hl kl ht kt s empty (read_cleared k h b)))

  rrp_comes : Comes Command.Rrp Reply
  rrp_comes vh vk b hl kl ht kt apart none room p = record { awake_h = p.awake_h; awake_k = r.awake; session = counterpart }
    where
      now : View
      now = view_after_reply coming vk

      r : TheirReply vk now
      r = their_reply by busy zero vk p.awake_k none

      wh : Bool
      wh = awaits_reply vh.host.wait

      counterpart : Session h k wh vh.owes (awaits_reply now.host.wait) now.owes b hl kl ht kt
      counterpart =
          subst (λ (w : Bool). Session h k wh vh.owes w now.owes b hl kl ht kt) (sym r.after)
          (subst (λ (o : Bool). Session h k wh vh.owes false o b hl kl ht kt) (sym r.owes)
          (session_reply_heard h k wh vh.owes vk.owes b hl kl ht kt (subst (λ (w : Bool). Session h k wh vh.owes w vk.owes b (Command.Rrp ∷ hl) kl ht kt) r.before p.session)))

  thing_comes : (c : Command) (t : IsThing c) → Comes c (Other t.what)
  thing_comes c t vh vk b hl kl ht kt apart none room p =
      subst (λ (v : View). SessionInvariant h k vh v (tables_heard c (Other t.what) vk b) hl kl ht kt) (sym same)
      (record { awake_h = p.awake_h; awake_k = p.awake_k; session = counterpart (awaits_reply vk.host.wait) refl })
    where
      wh : Bool
      wh = awaits_reply vh.host.wait

      now : SeenTables
      now = after_spoken hearing kept (Ok c) b

      early : is_early coming t.what vk ≡ false
      early = none_early coming t.what vk p.awake_k.told none

      same : after_thing coming t.what vk ≡ vk
      same = thing_leaves coming t.what vk early

      counterpart : (w : Bool) → awaits_reply vk.host.wait ≡ w → Session h k wh vh.owes (awaits_reply vk.host.wait) vk.owes (if reaches coming t.what vk then now else b) hl kl ht kt
      counterpart true e =
          subst (λ (x : Bool). Session h k wh vh.owes (awaits_reply vk.host.wait) vk.owes (if x then now else b) hl kl ht kt) (sym (dropped coming t.what vk e))
          (subst (λ (w : Bool). Session h k wh vh.owes w vk.owes b hl kl ht kt) (sym e)
          (session_drops h k wh vh.owes vk.owes b c hl kl ht kt t.not_rst t.not_rrp (subst (λ (w : Bool). Session h k wh vh.owes w vk.owes b (c ∷ hl) kl ht kt) e p.session)))
      counterpart false e =
          let reach : reaches coming t.what vk ≡ true = reached coming t.what vk p.awake_k early e in
          let room_now : now.full ≡ false = subst (λ (x : Bool). (if x then now else b).full ≡ false) reach room in
          let s : Session h k wh vh.owes false vk.owes b (c ∷ hl) kl ht kt = subst (λ (w : Bool). Session h k wh vh.owes w vk.owes b (c ∷ hl) kl ht kt) e p.session in
          let legal : Legal false c s.y = (may_hear h k wh vh.owes vk.owes b c hl kl ht kt t.not_rst t.not_rrp s).0 in
          let read = read_their k h kept c b s.y s.at_k legal in
          subst (λ (x : Bool). Session h k wh vh.owes (awaits_reply vk.host.wait) vk.owes (if x then now else b) hl kl ht kt) (sym reach)
          (subst (λ (w : Bool). Session h k wh vh.owes w vk.owes now hl kl ht kt) (sym e)
          (session_hears h k wh vh.owes vk.owes b now c hl kl ht kt t.not_rst t.not_rrp s (read_others h k b now s.x (item_alike h k k h (from_there apart) false kept (Ok c) b) s.at_h) (read.2 room_now)))

  each_comes : (c : Command) → Comes c (act_of (Ok c))
  each_comes = by_kind (λ (c : Command). Comes c (act_of (Ok c))) rst_comes rrp_comes (λ c t. subst (Comes c) (sym t.act) (thing_comes c t))

  -- nothing is found in it
  abbrev found_in : Command → Act → View → SeenTables → List Finding
  found_in c act vk b =
      option_to_list (if act_reaches coming act vk then option_map (broken_by coming) (spoken_rule hearing kept (Ok c) b) else None)
      ++ (if act_reaches coming act vk then map (broken_by coming) (spoken_numbers hearing (Ok c) b) else [])

  abbrev Unfound : Command → Act → Type 0
  Unfound c act = (vh vk : View) (b : SeenTables) (hl kl : List Command) (ht kt : Afloat) → act_findings coming act vk ≡ [] → (b.full ≡ false → SessionInvariant h k vh vk b (c ∷ hl) kl ht kt) → found_in c act vk b ≡ []

  thing_unfound : (c : Command) (t : IsThing c) → Unfound c (Other t.what)
  thing_unfound c t vh vk b hl kl ht kt none p = go b.full refl
    where
      rule : Option Rule
      rule = spoken_rule hearing kept (Ok c) b

      numbers : List Rule
      numbers = spoken_numbers hearing (Ok c) b

      reach : Bool
      reach = reaches coming t.what vk

      both : option_to_list (if reach then option_map (broken_by coming) rule else None) ≡ [] → (if reach then map (broken_by coming) numbers else []) ≡ [] → found_in c (Other t.what) vk b ≡ []
      both e f = ap (λ (xs : List Finding). xs ++ (if reach then map (broken_by coming) numbers else [])) e ∙ f

      go : (f : Bool) → b.full ≡ f → found_in c (Other t.what) vk b ≡ []
      go true f = both (none_found coming reach rule (full_unbroken hearing kept c b f)) (no_numbers coming reach numbers (full_unnumbered hearing c b f))
      go false f = by_wait (awaits_reply vk.host.wait) refl
        where
          wh : Bool
          wh = awaits_reply vh.host.wait

          by_wait : (w : Bool) → awaits_reply vk.host.wait ≡ w → found_in c (Other t.what) vk b ≡ []
          by_wait true e = both (none_judged coming reach rule (dropped coming t.what vk e)) (none_numbered coming reach numbers (dropped coming t.what vk e))
          by_wait false e =
              let s : Session h k wh vh.owes false vk.owes b (c ∷ hl) kl ht kt = subst (λ (w : Bool). Session h k wh vh.owes w vk.owes b (c ∷ hl) kl ht kt) e (p f).session in
              let read = read_their k h kept c b s.y s.at_k (may_hear h k wh vh.owes vk.owes b c hl kl ht kt t.not_rst t.not_rrp s).0 in
              both (none_found coming reach rule read.0) (no_numbers coming reach numbers read.1)

  each_unfound : (c : Command) → Unfound c (act_of (Ok c))
  each_unfound = by_kind (λ (c : Command). Unfound c (act_of (Ok c))) (λ vh vk b hl kl ht kt none p. refl) (λ vh vk b hl kl ht kt none p. refl) (λ c t. subst (Unfound c) (sym t.act) (thing_unfound c t))

  pub their_item : (c : Command) (vh vk : View) (b : SeenTables) (hl kl : List Command) (ht kt : Afloat) → (h == k) ≡ false → item_findings coming (Ok c) vk ≡ [] → (after_flow coming hearing kept (Ok c) vk b).full ≡ false
      → SessionInvariant h k vh vk b (c ∷ hl) kl ht kt → SessionInvariant h k vh (after_item coming (Ok c) vk) (after_flow coming hearing kept (Ok c) vk b) hl kl ht kt
  their_item c = each_comes c

  pub their_items : (cs : List Command) (vh vk : View) (b : SeenTables) (hl kl : List Command) (ht kt : Afloat) → (h == k) ≡ false → items_findings coming (items_of cs None) vk ≡ []
      → (after_talked coming hearing kept (items_of cs None) vk b).full ≡ false → SessionInvariant h k vh vk b (cs ++ hl) kl ht kt
      → SessionInvariant h k vh (after_items coming (items_of cs None) vk) (after_talked coming hearing kept (items_of cs None) vk b) hl kl ht kt
  their_items [] vh vk b hl kl ht kt apart none room p = p
  their_items (c ∷ cs) vh vk b hl kl ht kt apart none room p =
      let v : View = after_item coming (Ok c) vk in
      let now : SeenTables = after_flow coming hearing kept (Ok c) vk b in
      let one = empty_front (item_findings coming (Ok c) vk) (items_findings coming (items_of cs None) v) none in
      let rest = empty_rest (item_findings coming (Ok c) vk) (items_findings coming (items_of cs None) v) none in
      their_items cs vh v now hl kl ht kt apart rest room (their_item c vh vk b (cs ++ hl) kl ht kt apart one ((items_read k h coming kept (items_of cs None) v now).room room) p)

  pub their_quiet : (cs : List Command) (vh vk : View) (b : SeenTables) (hl kl : List Command) (ht kt : Afloat) → (h == k) ≡ false → items_findings coming (items_of cs None) vk ≡ []
      → (b.full ≡ false → SessionInvariant h k vh vk b (cs ++ hl) kl ht kt) → talked_findings coming hearing kept (items_of cs None) vk b ≡ []
  their_quiet [] vh vk b hl kl ht kt apart none p = refl
  their_quiet (c ∷ cs) vh vk b hl kl ht kt apart none p =
      let v : View = after_item coming (Ok c) vk in
      let now : SeenTables = after_flow coming hearing kept (Ok c) vk b in
      let found : List Finding = talked_findings coming hearing kept (items_of cs None) v now in
      let of_flow : List Finding = option_to_list (flow_finding coming hearing kept (Ok c) vk b) in
      let of_numbers : List Finding = number_findings coming hearing (Ok c) vk b in
      let one = empty_front (item_findings coming (Ok c) vk) (items_findings coming (items_of cs None) v) none in
      let rest = empty_rest (item_findings coming (Ok c) vk) (items_findings coming (items_of cs None) v) none in
      let before : now.full ≡ false → b.full ≡ false = (flow_reads k h coming kept (Ok c) vk b).room in
      ap (λ (xs : List Finding). ((xs ++ of_flow) ++ of_numbers) ++ found) one ∙ ap (λ (xs : List Finding). xs ++ found) (each_unfound c vh vk b (cs ++ hl) kl ht kt one p)
      ∙ their_quiet cs vh v now hl kl ht kt apart rest (λ f. each_comes c vh vk b (cs ++ hl) kl ht kt apart one f (p (before f)))

-- ---- a text

-- the first sends it
pub text_goes : (h k by : ℕ) (busy : Option ℕ) (zero : Bool) (on : ℕ) (message : Message) (vh vk : View) (b : SeenTables) (hl kl : List Command) (ht kt : Afloat) → (h == k) ≡ false → b.full ≡ false → ht on ≡ None
    → early_finding (record { by = by; sent = true; busy = busy; zero = zero }) ItemKind.Text vh ≡ None
    → text_findings (record { by = by; sent = true; busy = busy; zero = zero }) (record { at = h; peer = k; sent = true }) on message vh b ≡ []
    → SessionInvariant h k vh vk b hl kl ht kt
    → SessionInvariant h k vh vk (after_talked_text (record { by = by; sent = true; busy = busy; zero = zero }) (record { at = h; peer = k; sent = true }) on message vh b) hl kl (with_float on (Some (message.size, length message.text)) ht) kt
text_goes h k by busy zero on message vh vk b hl kl ht kt apart room_before none none_early_so unsaid p =
    subst (λ (x : Bool). SessionInvariant h k vh vk (if x then now else b) hl kl now_out kt) (sym reach) (record { awake_h = p.awake_h; awake_k = p.awake_k; session = counterpart })
  where
    context : MessageContext
    context = record { by = by; sent = true; busy = busy; zero = zero }

    flow : ObservedFlow
    flow = record { at = h; peer = k; sent = true }

    now : SeenTables
    now = conn_tables_after_text flow on message b

    now_out : Afloat
    now_out = with_float on (Some (message.size, length message.text)) ht

    wk : Bool
    wk = awaits_reply vk.host.wait

    early : is_early context ItemKind.Text vh ≡ false
    early = none_early context ItemKind.Text vh p.awake_h.told (ap option_to_list none_early_so)

    in_time : (awaits_reply vh.host.wait ≡ false) × (vh.owes ≡ false)
    in_time = own_in_time by busy zero ItemKind.Text vh p.awake_h.suspended early

    reach : reaches context ItemKind.Text vh ≡ true
    reach = reached context ItemKind.Text vh p.awake_h early refl

    rules : text_rules flow on message b ≡ []
    rules = unnumbered context (reaches context ItemKind.Text vh) (text_rules flow on message b) reach unsaid

    s : Session h k false false wk vk.owes b hl kl ht kt
    s = subst (λ (o : Bool). Session h k false o wk vk.owes b hl kl ht kt) in_time.1 (subst (λ (w : Bool). Session h k w vh.owes wk vk.owes b hl kl ht kt) in_time.0 p.session)

    read : TextLegal true on message.size (length message.text) s.x × ReadAs h k now (after_text_by true on (length message.text) s.x)
    read = read_own_text h k on message b s.x s.at_h room_before rules

    counterpart : Session h k (awaits_reply vh.host.wait) vh.owes wk vk.owes now hl kl now_out kt
    counterpart =
        subst (λ (w : Bool). Session h k w vh.owes wk vk.owes now hl kl now_out kt) (sym in_time.0)
        (subst (λ (o : Bool). Session h k false o wk vk.owes now hl kl now_out kt) (sym in_time.1)
        (session_sends h k wk vk.owes b now on message.size (length message.text) hl kl ht kt s read.0 none read.1
        (read_others k h b now s.y (text_alike k h h k (ap (λ (x : Bool). x && k == h) apart) true on message b) s.at_k)))

-- it comes to the second
module _ (h k who : ℕ) (busy : Option ℕ) (zero : Bool) (on : ℕ) (message : Message) (vh vk : View) (b : SeenTables) (hl kl : List Command) (ht kt : Afloat) where
  abbrev text_turn : MessageContext
  text_turn = record { by = who; sent = false; busy = busy; zero = zero }

  abbrev text_flow : ObservedFlow
  text_flow = record { at = k; peer = h; sent = false }

  abbrev text_conn_tables : SeenTables
  text_conn_tables = conn_tables_after_text text_flow on message b

  -- what it is read of
  received : ht on ≡ Some (message.size, length message.text) → awaits_reply vk.host.wait ≡ false → (p : SessionInvariant h k vh vk b hl kl ht kt)
      → (s : Session h k (awaits_reply vh.host.wait) vh.owes false vk.owes b hl kl ht kt) × TextLegal false on message.size (length message.text) s.y
  received out e p =
      let s : Session h k (awaits_reply vh.host.wait) vh.owes false vk.owes b hl kl ht kt = subst (λ (w : Bool). Session h k (awaits_reply vh.host.wait) vh.owes w vk.owes b hl kl ht kt) e p.session in
      (s, (may_receive h k (awaits_reply vh.host.wait) vh.owes vk.owes b on message.size (length message.text) hl kl ht kt s out).legal)

  -- nothing is found in it
  pub text_unfound : (b.full ≡ false → ht on ≡ Some (message.size, length message.text)) → (b.full ≡ false → SessionInvariant h k vh vk b hl kl ht kt) → text_findings text_turn text_flow on message vk b ≡ []
  text_unfound out p = go b.full refl
    where
      go : (f : Bool) → b.full ≡ f → text_findings text_turn text_flow on message vk b ≡ []
      go true f = no_numbers text_turn (reaches text_turn ItemKind.Text vk) (text_rules text_flow on message b) (ap (λ (x : Bool). if x then [] else demuxed_text_rules on message b (text_target text_flow on b)) f)
      go false f = by (awaits_reply vk.host.wait) refl
        where
          by : (w : Bool) → awaits_reply vk.host.wait ≡ w → text_findings text_turn text_flow on message vk b ≡ []
          by true e = none_numbered text_turn (reaches text_turn ItemKind.Text vk) (text_rules text_flow on message b) (dropped text_turn ItemKind.Text vk e)
          by false e =
              let r = received (out f) e (p f) in
              no_numbers text_turn (reaches text_turn ItemKind.Text vk) (text_rules text_flow on message b) (read_their_text k h on message b r.0.y r.0.at_k r.1).0

  pub text_comes : (h == k) ≡ false → ht on ≡ Some (message.size, length message.text) → early_finding text_turn ItemKind.Text vk ≡ None → SessionInvariant h k vh vk b hl kl ht kt
      → SessionInvariant h k vh vk (after_talked_text text_turn text_flow on message vk b) hl kl (with_float on None ht) kt
  text_comes apart out in_time p = record { awake_h = p.awake_h; awake_k = p.awake_k; session = counterpart (awaits_reply vk.host.wait) refl }
    where
      wh : Bool
      wh = awaits_reply vh.host.wait

      early : is_early text_turn ItemKind.Text vk ≡ false
      early = none_early text_turn ItemKind.Text vk p.awake_k.told (ap option_to_list in_time)

      counterpart : (w : Bool) → awaits_reply vk.host.wait ≡ w → Session h k wh vh.owes (awaits_reply vk.host.wait) vk.owes (if reaches text_turn ItemKind.Text vk then text_conn_tables else b) hl kl (with_float on None ht) kt
      counterpart true e =
          subst (λ (x : Bool). Session h k wh vh.owes (awaits_reply vk.host.wait) vk.owes (if x then text_conn_tables else b) hl kl (with_float on None ht) kt) (sym (dropped text_turn ItemKind.Text vk e))
          (subst (λ (w : Bool). Session h k wh vh.owes w vk.owes b hl kl (with_float on None ht) kt) (sym e)
          (session_drops_text h k wh vh.owes vk.owes b on hl kl ht kt (subst (λ (w : Bool). Session h k wh vh.owes w vk.owes b hl kl ht kt) e p.session)))
      counterpart false e =
          let reach : reaches text_turn ItemKind.Text vk ≡ true = reached text_turn ItemKind.Text vk p.awake_k early e in
          let r = received out e p in
          let s : Session h k wh vh.owes false vk.owes b hl kl ht kt = r.0 in
          subst (λ (x : Bool). Session h k wh vh.owes (awaits_reply vk.host.wait) vk.owes (if x then text_conn_tables else b) hl kl (with_float on None ht) kt) (sym reach)
          (subst (λ (w : Bool). Session h k wh vh.owes w vk.owes text_conn_tables hl kl (with_float on None ht) kt) (sym e)
          (session_receives h k wh vh.owes vk.owes b text_conn_tables on message.size (length message.text) hl kl ht kt s out
          (read_others h k b text_conn_tables s.x (text_alike h k k h (ap (λ (x : Bool). k == h && x) apart ∙ and-false (k == h)) false on message b) s.at_h)
          (read_their_text k h on message b s.y s.at_k r.1).1))

-- ---- after too many messages were unacknowledged, nothing in the flow is judged

record Unjudged (context : MessageContext) (flow : ObservedFlow) (kept : List SentMessage) (item : Result Command CommandFault) (v : View) (b : SeenTables) : Type 0 where
  none : option_to_list (flow_finding context flow kept item v b) ≡ []
  numbers : number_findings context flow item v b ≡ []
  told : (after_item context item v).told ≡ false

pub untold_none : (context : MessageContext) (what : ItemKind) (v : View) → v.told ≡ false → reaches context what v ≡ false
untold_none context what v t = ap (λ (x : Bool). x && (not (is_early context what v) || is_acted_on context v) && not v.suspended && not (not context.sent && awaits_reply v.host.wait)) t

thing_unjudged : (context : MessageContext) (what : ItemKind) (v : View) (o : Option Rule) → v.told ≡ false → option_to_list (if reaches context what v then option_map (broken_by context) o else None) ≡ []
thing_unjudged context what v o t =
    none_judged context (reaches context what v) o (untold_none context what v t)

thing_unnumbered : (context : MessageContext) (what : ItemKind) (v : View) (rs : List Rule) → v.told ≡ false → (if reaches context what v then map (broken_by context) rs else []) ≡ []
thing_unnumbered context what v rs t = none_numbered context (reaches context what v) rs (untold_none context what v t)

unjudged : (context : MessageContext) (flow : ObservedFlow) (kept : List SentMessage) (item : Result Command CommandFault) (v : View) (b : SeenTables) → v.told ≡ false → context.zero ≡ false → Unjudged context flow kept item v b
unjudged context flow kept (Err fault) v b t z = record { none = thing_unjudged context ItemKind.Bad v (spoken_rule flow kept (Err fault) b) t; numbers = thing_unnumbered context ItemKind.Bad v [] t; told = t }
unjudged context flow kept (Ok c) v b t z = by_kind (λ (d : Command). Unjudged context flow kept (Ok d) v b) rst rrp thing c
  where
    rst : Unjudged context flow kept (Ok Command.Rst) v b
    rst = record { none = refl; numbers = refl; told = go v.told context.zero t z }
      where
        go : (x y : Bool) → x ≡ false → y ≡ false → (if x || (y && not (is_answered_too_often v.host.wait)) then if context.sent then after_reset_of_host context v else after_reset_of_peer context v else v).told ≡ false
        go true y e f = absurd (cc e)
        go false true e f = absurd (cc f)
        go false false e f = t

    rrp : Unjudged context flow kept (Ok Command.Rrp) v b
    rrp = record { none = refl; numbers = refl; told = go v.told context.sent t }
      where
        go : (x s : Bool) → x ≡ false → (if x then if context.sent then after_reply_of_host context v else after_reply_of_peer v else if s then v else record v { host = record v.host { wait = Answered } }).told ≡ false
        go true s e = absurd (cc e)
        go false true e = t
        go false false e = t

    thing : (d : Command) → IsThing d → Unjudged context flow kept (Ok d) v b
    thing d k = record {
      none =
          subst (λ (a : Act). option_to_list (if act_reaches context a v then option_map (broken_by context) (spoken_rule flow kept (Ok d) b) else None) ≡ []) (sym k.act)
          (thing_unjudged context k.what v (spoken_rule flow kept (Ok d) b) t);
      numbers =
          subst (λ (a : Act). (if act_reaches context a v then map (broken_by context) (spoken_numbers flow (Ok d) b) else []) ≡ []) (sym k.act)
          (thing_unnumbered context k.what v (spoken_numbers flow (Ok d) b) t);
      told = subst (λ (a : Act). (after_act context a v).told ≡ false) (sym k.act) t;
    }

pub untold_quiet : (context : MessageContext) (flow : ObservedFlow) (kept : List SentMessage) (items : List (Result Command CommandFault)) (v : View) (b : SeenTables) → v.told ≡ false → context.zero ≡ false
    → talked_findings context flow kept items v b ≡ items_findings context items v
untold_quiet context flow kept [] v b t z = refl
untold_quiet context flow kept (item ∷ items) v b t z =
    let one = unjudged context flow kept item v b t z in
    let v' : View = after_item context item v in
    let now : SeenTables = after_flow context flow kept item v b in
    ap (λ (xs : List Finding). ((item_findings context item v ++ xs) ++ number_findings context flow item v b) ++ talked_findings context flow kept items v' now) one.none
    ∙ ap (λ (xs : List Finding). ((item_findings context item v ++ []) ++ xs) ++ talked_findings context flow kept items v' now) one.numbers
    ∙ ap (λ (xs : List Finding). xs ++ talked_findings context flow kept items v' now) (append-nil (item_findings context item v ++ []) ∙ append-nil (item_findings context item v))
    ∙ ap (λ (xs : List Finding). item_findings context item v ++ xs) (untold_quiet context flow kept items v' now one.told z)
