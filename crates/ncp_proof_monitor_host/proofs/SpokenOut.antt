-- The commands of a sent control message break no rule of the flow, by the commands before it, and
-- nothing is left out after them.
use Rattle.std.proofs.Common.{◌≡◌, ℕ, ◌+◌, ◌<◌, ◌≤◌, Bool, true, false, not, ◌&&◌, ◌||◌, if◌then◌else◌, List, [], ◌∷◌, ◌++◌, Option, None, Ok, is_some, option_map, option_to_list, map, refl, sym, ap, ◌∙◌, subst, arith}
use Rattle.ncp_wire.specs.declared.command.Command.{Command}
use Rattle.ncp_control.specs.Texts.{items_of}
use Rattle.ncp_model.specs.Ends.{Ends}
use Rattle.ncp_model.specs.Phase.{up, is_other, is_rst, is_rrp}
use Rattle.ncp_model.specs.Peers.{Peer}
use Rattle.ncp_model.proofs.ResetLists.{bit, rsts, rrps}
use Rattle.ncp_monitor.specs.declared.finding.Finding.{Finding}
use Rattle.ncp_monitor.specs.declared.finding.Rule.{Rule}
use Rattle.ncp_monitor.specs.declared.finding.ItemKind.{ItemKind}
use Rattle.ncp_interface.specs.declared.sent_message.SentMessage.{SentMessage}
use Rattle.ncp_monitor.specs.declared.phase.MessageContext.{MessageContext}
use Rattle.ncp_monitor.specs.declared.observed_flow.ObservedFlow.{ObservedFlow}
use Rattle.ncp_monitor.specs.declared.view.View.{View}
use Rattle.ncp_monitor.specs.declared.view.Wait.{Wait}
use Rattle.ncp_monitor.specs.declared.view.Wait.TheVariants.{Answered, Even, Waiting}
use Rattle.ncp_monitor.specs.Acts.{act_of}
use Rattle.ncp_monitor.specs.Views.{awaits_reply, is_answered_too_often, more_waiting}
use Rattle.ncp_monitor.specs.Phases.{broken_by, is_text, is_early, is_acted_on, after_thing, after_item, after_items, unquiet_finding, after_reset_of_host, after_reset_of_peer, after_reply_of_host, after_reply_of_peer, after_untold_reply}
use Rattle.ncp_monitor.specs.declared.pending_reply.PendingReply.{PendingReply}
use Rattle.ncp_monitor.specs.declared.conn_state.Fact.{Fact}
use Rattle.ncp_monitor.specs.ConnStates.{SeenTables, is_fact_between, is_due_between, tables_cleared}
use Rattle.ncp_monitor.specs.Replies.{is_due_of}
use Rattle.ncp_monitor.specs.Allocation.{number_rules}
use Rattle.ncp_monitor.specs.Speaking.{command_rule, tables_after_command, spoken_rule, spoken_numbers, reply_left_out, cls_left_out, is_admission, after_all_said}
use Rattle.ncp_monitor.specs.Talked.{reaches, act_reaches, clears, flow_finding, number_findings, after_flow, after_talked, missing, reports_omitted, left_out_findings, after_left_out}
use Rattle.ncp_monitor.proofs.Parted.{said_findings}
use Rattle.ncp_proof_monitor.proofs.Phased.{Phased, Settled, Sees, none_following}
use Rattle.ncp_proof_monitor.proofs.PhaseGoes.{all_went, suspended_more}
use Rattle.ncp_proof_monitor_host.proofs.OnTime.{OnTime, on_time}
use Rattle.ncp_proof_monitor_allocation.proofs.Filtered.{none_of_none}
use Rattle.ncp_proof_monitor_allocation.proofs.TidyBooks.{Tidy, tidy_command, tidy_cleared}
use Rattle.ncp_proof_monitor_replies.proofs.AllGo.{room_before}
use Rattle.ncp_proof_monitor_allocation.proofs.Proper.{AllProper}
use Rattle.ncp_proof_monitor_host.proofs.Spoken.{Tells, Clear, Spoken}
use Rattle.ncp_proof_monitor_host.proofs.Begun.{clear_cleared, clear_reply, clear_cls, silent_reports}
use Rattle.ncp_proof_monitor_host.proofs.SpokenIn.{clash, up_unowed}

-- these wait
abbrev pub waited_by : List Command → Peer → Peer
waited_by u p = record p { phase = record p.phase { waiting = u } }

-- what is known while there is room in the books
abbrev pub Known : ℕ → ℕ → Peer → View → SeenTables → Type 0
Known me n p v b = b.full ≡ false → Spoken me n p v b × Tidy b

module _ (me n : ℕ) (busy : Option ℕ) (zero : Bool) (kept : List SentMessage) where
  abbrev going : MessageContext
  going = record { by = me; sent = true; busy = busy; zero = zero }

  abbrev saying : ObservedFlow
  saying = record { at = me; peer = n; sent = true }

  -- the obligations for a sent command
  pub record GoesOut (m : Ends) (awaited : Bool) : Type 0 where
    pub right : (c : Command) (w : List Command) (b : SeenTables) → is_other c ≡ true → AllProper (c ∷ w) → Tidy b → Tells me n m awaited (c ∷ w) b → command_rule saying kept c b ≡ None
    pub numbers : (c : Command) (w : List Command) (b : SeenTables) → is_other c ≡ true → AllProper (c ∷ w) → Tidy b → Tells me n m awaited (c ∷ w) b → number_rules saying c b ≡ []
    pub tells : (c : Command) (w : List Command) (b : SeenTables) → is_other c ≡ true → AllProper (c ∷ w) → (tables_after_command saying kept c b).full ≡ false → Tidy b → Tells me n m awaited (c ∷ w) b → Tells me n m awaited w (tables_after_command saying kept c b)
    pub reply : (b : SeenTables) → Tells me n m awaited [] b → reply_left_out me n b ≡ None
    pub cls : (b : SeenTables) → Tidy b → Tells me n m awaited [] b → cls_left_out me n kept b ≡ None
    pub said : (b : SeenTables) → Tells me n m awaited [] b → Tells me n m awaited [] (after_all_said me n b)

  -- ---- one command

  pub record Told (c : Command) (u : List Command) (p : Peer) (v : View) (b : SeenTables) : Type 0 where
    pub none : option_to_list (flow_finding going saying kept (Ok c) v b) ++ number_findings going saying (Ok c) v b ≡ []
    pub known : Known me n (waited_by u p) (after_item going (Ok c) v) (after_flow going saying kept (Ok c) v b)

  -- there was room before it
  flow_room : (c : Command) (v : View) (b : SeenTables) → (after_flow going saying kept (Ok c) v b).full ≡ false → b.full ≡ false
  flow_room c v b = go (clears going (act_of (Ok c)) v) (act_reaches going (act_of (Ok c)) v)
    where
      go : (x y : Bool) → (if x then tables_cleared me n b else if y then tables_after_command saying kept c b else b).full ≡ false → b.full ≡ false
      go true y f = f
      go false true f = room_before me n true kept c b f
      go false false f = f

  flow_tidy : (c : Command) (v : View) (b : SeenTables) → (after_flow going saying kept (Ok c) v b).full ≡ false → Tidy b → Tidy (after_flow going saying kept (Ok c) v b)
  flow_tidy c v b f t = go (clears going (act_of (Ok c)) v) (act_reaches going (act_of (Ok c)) v) f
    where
      go : (x y : Bool) → (if x then tables_cleared me n b else if y then tables_after_command saying kept c b else b).full ≡ false → Tidy (if x then tables_cleared me n b else if y then tables_after_command saying kept c b else b)
      go true y f = tidy_cleared me n b t
      go false true f = tidy_command saying kept c b f t
      go false false f = t

  -- ---- RST: where it is waited for alone, all is forgotten

  rst_tables : (v : View) (b : SeenTables) → v.told ≡ true → after_flow going saying kept (Ok Command.Rst) v b ≡ (if awaits_reply (more_waiting v.host.wait) then tables_cleared me n b else b)
  rst_tables v b t = go v.told (awaits_reply (more_waiting v.host.wait)) t
    where
      go : (t w : Bool) → t ≡ true → (if (t || (zero && not (is_answered_too_often v.host.wait))) && not (true && not w) then tables_cleared me n b else if false then b else b) ≡ (if w then tables_cleared me n b else b)
      go true true e = refl
      go true false e = refl
      go false w e = absurd (cc e)

  rst_view : (v : View) → v.told ≡ true → after_item going (Ok Command.Rst) v ≡ after_reset_of_host going v
  rst_view v t = go v.told t
    where
      go : (t : Bool) → t ≡ true → (if t || (zero && not (is_answered_too_often v.host.wait)) then if true then after_reset_of_host going v else after_reset_of_peer going v else v) ≡ after_reset_of_host going v
      go true e = refl
      go false e = absurd (cc e)

  not_too_often : (w : Wait) → is_answered_too_often w ≡ false → awaits_reply (more_waiting w) ≡ true
  not_too_often Answered e = absurd (cc e)
  not_too_often Even e = refl
  not_too_often Waiting e = refl

  -- if the session is not suspended after it, the tables are cleared
  rst_clear : (u : List Command) (p : Peer) (q : Bool) (v : View) (b : SeenTables) → Phased (record p.phase { waiting = Command.Rst ∷ u }) q v → (after_reset_of_host going v).suspended ≡ false → Clear me n (if awaits_reply (more_waiting v.host.wait) then tables_cleared me n b else b)
  rst_clear u p q v b k r = go (awaits_reply (more_waiting v.host.wait)) refl
    where
      go : (x : Bool) → awaits_reply (more_waiting v.host.wait) ≡ x → Clear me n (if x then tables_cleared me n b else b)
      go true e = clear_cleared me n b
      go false e = clash (awaits_reply (more_waiting v.host.wait)) (not_too_often v.host.wait r) e

  rst_up : (u : List Command) (p : Peer) (q : Bool) (v : View) → Phased (record p.phase { waiting = Command.Rst ∷ u }) q v → up p.phase ≡ true → (after_reset_of_host going v).suspended ≡ false → ⊥
  rst_up u p q v k d r = go v.host.wait refl
    where
      waits : p.phase.wait ≡ true → ⊥
      waits e = by (p.phase.down || p.phase.want || p.phase.owe) p.phase.wait e d
        where
          by : (x w : Bool) → w ≡ true → not (x || w) ≡ true → ⊥
          by true true e f = cc f
          by false true e f = cc f
          by x false e f = cc e

      some : (x : Bool) → 1 + rsts u ≤ bit x → x ≡ true
      some true l = refl
      some false l = absurd (omega (arith, l))

      go : (w : Wait) → v.host.wait ≡ w → ⊥
      go Answered e = clash (is_answered_too_often v.host.wait) (ap is_answered_too_often e) r
      go Even e = waits (some p.phase.wait (k.even (ap awaits_reply e) (ap is_answered_too_often e)))
      go Waiting e = waits (k.waits (ap awaits_reply e))

  rst_reported : (u : List Command) (p : Peer) (q : Bool) (v : View) (b : SeenTables) → Phased (record p.phase { waiting = Command.Rst ∷ u }) q v → Known me n (waited_by (Command.Rst ∷ u) p) v b → Told Command.Rst u p v b
  rst_reported u p q v b k s = record { none = refl; known = λ f. (spoken (s (flow_room Command.Rst v b f)).0, flow_tidy Command.Rst v b f (s (flow_room Command.Rst v b f)).1) }
    where
      spoken : Spoken me n (waited_by (Command.Rst ∷ u) p) v b → Spoken me n (waited_by u p) (after_item going (Ok Command.Rst) v) (after_flow going saying kept (Ok Command.Rst) v b)
      spoken s =
          subst (λ (x : View). Spoken me n (waited_by u p) x (after_flow going saying kept (Ok Command.Rst) v b)) (sym (rst_view v k.told))
          (subst (λ (x : SeenTables). Spoken me n (waited_by u p) (after_reset_of_host going v) x) (sym (rst_tables v b k.told)) (record {
            owed = λ r a o. rst_clear u p q v b k r;
            unmade = λ r o. rst_clear u p q v b k r;
            waits = λ a. subst (λ (x : Bool). Clear me n (if x then tables_cleared me n b else b)) (sym a) (clear_cleared me n b);
            tells = λ r z d. absurd (rst_up u p q v k d r);
          }))

  -- ---- RRP: nothing was said before it

  rrp_view : (v : View) → v.told ≡ true → after_item going (Ok Command.Rrp) v ≡ after_reply_of_host going v
  rrp_view v t = go v.told t
    where
      go : (t : Bool) → t ≡ true → (if t then if true then after_reply_of_host going v else after_reply_of_peer v else after_untold_reply going v) ≡ after_reply_of_host going v
      go true e = refl
      go false e = absurd (cc e)

  rrp_before : (v : View) → (after_reply_of_host going v).suspended ≡ false → v.suspended ≡ false
  rrp_before v r = suspended_more v.suspended (is_some (unquiet_finding true going v)) (suspended_more (v.suspended || is_some (unquiet_finding true going v)) (not (awaits_reply v.peer.wait)) r)

  rrp_reported : (u : List Command) (p : Peer) (q : Bool) (v : View) (b : SeenTables) → Phased (record p.phase { waiting = Command.Rrp ∷ u }) q v → Known me n (waited_by (Command.Rrp ∷ u) p) v b → Told Command.Rrp u p v b
  rrp_reported u p q v b k s = record { none = refl; known = λ f. (spoken (s f).0, (s f).1) }
    where
      -- no other RRP waits
      unmade : (x : Bool) → 1 + rrps u ≤ 1 → 0 < rrps u + bit x → x ≡ true
      unmade true l o = refl
      unmade false l o = absurd (omega (arith, l, o))

      spoken : Spoken me n (waited_by (Command.Rrp ∷ u) p) v b → Spoken me n (waited_by u p) (after_item going (Ok Command.Rrp) v) b
      spoken s = subst (λ (x : View). Spoken me n (waited_by u p) x b) (sym (rrp_view v k.told)) (record {
        owed = λ r a o. s.unmade (rrp_before v r) (unmade p.phase.owe k.one_rrp o);
        unmade = λ r o. s.unmade (rrp_before v r) o;
        waits = λ a. s.waits a;
        tells = λ r z d. silent_reports me n Command.Rrp p.ends p.echoes.awaited u b refl refl refl refl (s.tells (rrp_before v r) (omega (arith, z)) d);
      })

  -- ---- another command

  other_reported : (what : ItemKind) (c : Command) (u : List Command) (p : Peer) (q : Bool) (v : View) (b : SeenTables) → is_other c ≡ true → is_rst c ≡ false → is_rrp c ≡ false → is_text what ≡ false → (up p.phase ≡ true → GoesOut p.ends p.echoes.awaited) → AllProper (c ∷ u)
      → Phased (record p.phase { waiting = c ∷ u }) q v → Known me n (waited_by (c ∷ u) p) v b
      → (option_to_list (if reaches going what v then option_map (broken_by going) (spoken_rule saying kept (Ok c) b) else None) ++ (if reaches going what v then map (broken_by going) (spoken_numbers saying (Ok c) b) else []) ≡ [])
      × Known me n (waited_by u p) (after_thing going what v) (if reaches going what v then tables_after_command saying kept c b else b)
  other_reported what c u p q v b o s t x g proper k known = go v.suspended refl
    where
      -- no RST is queued after another command
      unreset : rsts (c ∷ u) ≡ 0
      unreset = let none = (none_following c u p.phase q v o k).0 in let z = ap bit s in omega (arith, none, z)

      i : OnTime me busy zero what u p.phase v
      i = on_time me busy zero what c u p.phase q v o s t x k

      After : Bool → Type 0
      After y = (option_to_list (if y then option_map (broken_by going) (spoken_rule saying kept (Ok c) b) else None) ++ (if y then map (broken_by going) (spoken_numbers saying (Ok c) b) else []) ≡ []) × Known me n (waited_by u p) (after_thing going what v) (if y then tables_after_command saying kept c b else b)

      reach : (y : Bool) → v.suspended ≡ y → reaches going what v ≡ not y
      reach y r = by v.told (is_early going what v) v.suspended y k.told i.early r
        where
          by : (t e r y : Bool) → t ≡ true → e ≡ false → r ≡ y → (t && (not e || is_acted_on going v) && not r && not (not true && awaits_reply v.host.wait)) ≡ not y
          by true false true true a b c = refl
          by true false false false a b c = refl
          by true false true false a b c = absurd (cc c)
          by true false false true a b c = absurd (cc c)
          by true true r y a b c = absurd (cc b)
          by false e r y a b c = absurd (cc a)

      go : (y : Bool) → v.suspended ≡ y → After (reaches going what v)
      go true r = subst After (sym (reach true r)) (
        refl,
        λ f. (
          subst (λ (w : View). Spoken me n (waited_by u p) w b) (sym i.same) (record {
            owed = λ z a e. clash v.suspended r z;
            unmade = λ z e. clash v.suspended r z;
            waits = λ a. clash (awaits_reply v.host.wait) a i.even;
            tells = λ y z d. clash v.suspended r y;
          }),
          (known f).1,
        ),
      )
      go false r = subst After (sym (reach false r)) (none b.full refl, λ f. spoken f (known (room_before me n true kept c b f)))
        where
          none : (y : Bool) → b.full ≡ y → option_to_list (option_map (broken_by going) (if y then None else command_rule saying kept c b)) ++ map (broken_by going) (if y then [] else number_rules saying c b) ≡ []
          none true e = refl
          none false e =
              let z = known e in
              ap (λ (w : Option Rule). option_to_list (option_map (broken_by going) w) ++ map (broken_by going) (number_rules saying c b)) ((g i.up_is).right c u b o proper z.1 (z.0.tells r unreset i.up_is))
              ∙ ap (λ (rules : List Rule). map (broken_by going) rules) ((g i.up_is).numbers c u b o proper z.1 (z.0.tells r unreset i.up_is))

          spoken : (tables_after_command saying kept c b).full ≡ false → Spoken me n (waited_by (c ∷ u) p) v b × Tidy b → Spoken me n (waited_by u p) (after_thing going what v) (tables_after_command saying kept c b) × Tidy (tables_after_command saying kept c b)
          spoken f z = (
            subst (λ (w : View). Spoken me n (waited_by u p) w (tables_after_command saying kept c b)) (sym i.same) (record {
              owed = λ y a e. absurd (i.none e);
              unmade = λ y e. clash p.phase.owe e (up_unowed p.phase i.up_is);
              waits = λ a. clash (awaits_reply v.host.wait) a i.even;
              tells = λ y x d. (g i.up_is).tells c u b o proper f z.1 (z.0.tells r unreset i.up_is);
            }),
            tidy_command saying kept c b f z.1,
          )

  thing_acts : (what : ItemKind) (v : View) → v.acted ≡ false → (after_thing going what v).acted ≡ false
  thing_acts what v a = go v.acted (v.told && is_early going what v) a
    where
      go : (x e : Bool) → x ≡ false → (x || (e && false)) ≡ false
      go true e a = absurd (cc a)
      go false true a = refl
      go false false a = refl

  told : (c : Command) (u : List Command) (p : Peer) (q : Bool) (v : View) (b : SeenTables) → (up p.phase ≡ true → GoesOut p.ends p.echoes.awaited) → AllProper (c ∷ u) → Phased (record p.phase { waiting = c ∷ u }) q v → Known me n (waited_by (c ∷ u) p) v b → Told c u p v b
  told Command.Rst u p q v b g a k s = rst_reported u p q v b k s
  told Command.Rrp u p q v b g a k s = rrp_reported u p q v b k s
  told Command.Nop u p q v b g a k s = let w = other_reported ItemKind.Nop Command.Nop u p q v b refl refl refl refl g a k s in record { none = w.0; known = w.1 }
  told (Command.Rts x y z) u p q v b g a k s = let w = other_reported ItemKind.Rts (Command.Rts x y z) u p q v b refl refl refl refl g a k s in record { none = w.0; known = w.1 }
  told (Command.Str x y z) u p q v b g a k s = let w = other_reported ItemKind.Str (Command.Str x y z) u p q v b refl refl refl refl g a k s in record { none = w.0; known = w.1 }
  told (Command.Cls x y) u p q v b g a k s = let w = other_reported ItemKind.Cls (Command.Cls x y) u p q v b refl refl refl refl g a k s in record { none = w.0; known = w.1 }
  told (Command.All x y z) u p q v b g a k s = let w = other_reported ItemKind.All (Command.All x y z) u p q v b refl refl refl refl g a k s in record { none = w.0; known = w.1 }
  told (Command.Gvb x y z) u p q v b g a k s = let w = other_reported ItemKind.Gvb (Command.Gvb x y z) u p q v b refl refl refl refl g a k s in record { none = w.0; known = w.1 }
  told (Command.Ret x y z) u p q v b g a k s = let w = other_reported ItemKind.Ret (Command.Ret x y z) u p q v b refl refl refl refl g a k s in record { none = w.0; known = w.1 }
  told (Command.Inr x) u p q v b g a k s = let w = other_reported ItemKind.Inr (Command.Inr x) u p q v b refl refl refl refl g a k s in record { none = w.0; known = w.1 }
  told (Command.Ins x) u p q v b g a k s = let w = other_reported ItemKind.Ins (Command.Ins x) u p q v b refl refl refl refl g a k s in record { none = w.0; known = w.1 }
  told (Command.Eco x) u p q v b g a k s = let w = other_reported ItemKind.Eco (Command.Eco x) u p q v b refl refl refl refl g a k s in record { none = w.0; known = w.1 }
  told (Command.Erp x) u p q v b g a k s = let w = other_reported ItemKind.Erp (Command.Erp x) u p q v b refl refl refl refl g a k s in record { none = w.0; known = w.1 }
  told (Command.Err x y) u p q v b g a k s = let w = other_reported ItemKind.Err (Command.Err x y) u p q v b refl refl refl refl g a k s in record { none = w.0; known = w.1 }

  -- if the host is not up and acted on nothing before its RRP, it is an RST or an RRP, and the tables are clear after it
  down_clear : (c : Command) (u : List Command) (p : Peer) (q : Bool) (v : View) (b : SeenTables) → v.acted ≡ false → up p.phase ≡ false → Phased (record p.phase { waiting = c ∷ u }) q v → Known me n (waited_by (c ∷ u) p) v b
      → (after_item going (Ok c) v).suspended ≡ false → (after_flow going saying kept (Ok c) v b).full ≡ false → Clear me n (after_flow going saying kept (Ok c) v b)
  down_clear Command.Rst u p q v b i d k s r f =
      subst (Clear me n) (sym (rst_tables v b k.told)) (rst_clear u p q v b k (ap (λ (x : View). x.suspended) (sym (rst_view v k.told)) ∙ r))
  down_clear Command.Rrp u p q v b i d k s r f = (s f).0.owed (rrp_before v (ap (λ (x : View). x.suspended) (sym (rrp_view v k.told)) ∙ r)) i (omega arith)
  down_clear c u p q v b i d k s r f = let e = k.calm d in absurd (cc e)

  -- a host acts on nothing by what it says itself
  acted_stays : (c : Command) (v : View) → v.told ≡ true → v.acted ≡ false → (after_item going (Ok c) v).acted ≡ false
  acted_stays Command.Rst v t a = ap (λ (x : View). x.acted) (rst_view v t)
  acted_stays Command.Rrp v t a = ap (λ (x : View). x.acted) (rrp_view v t)
  acted_stays Command.Nop v t a = thing_acts ItemKind.Nop v a
  acted_stays (Command.Rts x y z) v t a = thing_acts ItemKind.Rts v a
  acted_stays (Command.Str x y z) v t a = thing_acts ItemKind.Str v a
  acted_stays (Command.Cls x y) v t a = thing_acts ItemKind.Cls v a
  acted_stays (Command.All x y z) v t a = thing_acts ItemKind.All v a
  acted_stays (Command.Gvb x y z) v t a = thing_acts ItemKind.Gvb v a
  acted_stays (Command.Ret x y z) v t a = thing_acts ItemKind.Ret v a
  acted_stays (Command.Inr x) v t a = thing_acts ItemKind.Inr v a
  acted_stays (Command.Ins x) v t a = thing_acts ItemKind.Ins v a
  acted_stays (Command.Eco x) v t a = thing_acts ItemKind.Eco v a
  acted_stays (Command.Erp x) v t a = thing_acts ItemKind.Erp v a
  acted_stays (Command.Err x y) v t a = thing_acts ItemKind.Err v a

  -- ---- all commands of a message, before those that go on waiting

  pub record AllReported (cs rest : List Command) (p : Peer) (v : View) (b : SeenTables) : Type 0 where
    pub none : said_findings going saying kept (items_of cs None) v b ≡ []
    pub known : Known me n (waited_by rest p) (after_items going (items_of cs None) v) (after_talked going saying kept (items_of cs None) v b)
    -- nothing was said, where the host is not up, and acted on nothing before its RRP
    pub clear : v.acted ≡ false → up p.phase ≡ false → (cs ≡ [] → ⊥) → (after_items going (items_of cs None) v).suspended ≡ false → (after_talked going saying kept (items_of cs None) v b).full ≡ false → Clear me n (after_talked going saying kept (items_of cs None) v b)

  pub all_reported : (cs rest : List Command) (p : Peer) (q : Bool) (v : View) (b : SeenTables) → Sees q busy → Settled p.phase q → (up p.phase ≡ true → GoesOut p.ends p.echoes.awaited) → AllProper (cs ++ rest) → Phased (record p.phase { waiting = cs ++ rest }) q v → Known me n (waited_by (cs ++ rest) p) v b
      → AllReported cs rest p v b
  all_reported [] rest p q v b e s g a k known = record { none = refl; known = known; clear = λ i d x r f. absurd (x refl) }
  all_reported (c ∷ cs) rest p q v b e s g a k known =
      let one = told c (cs ++ rest) p q v b g a k known in
      let w : View = after_item going (Ok c) v in
      let now : SeenTables = after_flow going saying kept (Ok c) v b in
      let more = all_reported cs rest p q w now e s g a.1 (all_went me busy zero (c ∷ []) (cs ++ rest) p.phase q v e s k).phased one.known in
      record {
        none = ap (λ (xs : List Finding). xs ++ said_findings going saying kept (items_of cs None) w now) one.none ∙ more.none;
        known = more.known;
        clear = λ i d x r f. last cs i one.known more d r f;
      }
    where
      w : View
      w = after_item going (Ok c) v

      now : SeenTables
      now = after_flow going saying kept (Ok c) v b

      last : (ds : List Command) → v.acted ≡ false → Known me n (waited_by (ds ++ rest) p) w now → AllReported ds rest p w now → up p.phase ≡ false → (after_items going (items_of ds None) w).suspended ≡ false → (after_talked going saying kept (items_of ds None) w now).full ≡ false
          → Clear me n (after_talked going saying kept (items_of ds None) w now)
      last [] i y z d r f = down_clear c (cs ++ rest) p q v b i d k known r f
      last (x ∷ ds) i y z d r f = z.clear (acted_stays c v k.told i) d (λ e. cc e) r f

  -- ---- nothing is left out after them

  parts : (a b c d : Bool) → (true && a && b && not c && not d) ≡ true → (a ≡ true) × (b ≡ true) × (c ≡ false) × (d ≡ false)
  parts true true false false e = (refl, refl, refl, refl)
  parts true true false true e = absurd (cc e)
  parts true true true d e = absurd (cc e)
  parts true false c d e = absurd (cc e)
  parts false b c d e = absurd (cc e)

  pub record NoneLeft (rest : List Command) (p : Peer) (room : Bool) (v : View) (b : SeenTables) : Type 0 where
    pub none : left_out_findings going saying kept room v b ≡ []
    pub known : Known me n (waited_by rest p) v (after_left_out going saying room v b)

  pub none_left : (rest : List Command) (p : Peer) (room : Bool) (v : View) (b : SeenTables) → (up p.phase ≡ true → GoesOut p.ends p.echoes.awaited) → (room ≡ true → rest ≡ []) → (room ≡ true → up p.phase ≡ false → v.suspended ≡ false → b.full ≡ false → Clear me n b) → Known me n (waited_by rest p) v b
      → NoneLeft rest p room v b
  none_left rest p room v b g empty clear known = go (reports_omitted going room v b) refl
    where
      Left : Bool → Type 0
      Left x = record {
        none : option_to_list (if x then missing going (reply_left_out me n b) else None) ++ option_to_list (if x then missing going (cls_left_out me n kept b) else None) ≡ [];
        known : Known me n (waited_by rest p) v (if x then after_all_said me n b else b);
      }

      said_clear : Clear me n b → Clear me n (after_all_said me n b)
      said_clear c = (c.0, (none_of_none (is_fact_between me n) (λ (known_fact : Fact). not (is_admission me n known_fact)) b.known_facts c.1.0, none_of_none (is_due_between me n) (λ (due : PendingReply). not (is_due_of me n true due)) b.pending_replies c.1.1))

      made : reports_omitted going room v b ≡ true → Left true
      made e = by (up p.phase) refl
        where
          is : (room ≡ true) × (v.told ≡ true) × (v.suspended ≡ false) × (b.full ≡ false)
          is = parts room v.told v.suspended b.full e

          s : Spoken me n (waited_by rest p) v b × Tidy b
          s = known is.3

          quiet : reply_left_out me n b ≡ None → cls_left_out me n kept b ≡ None → option_to_list (missing going (reply_left_out me n b)) ++ option_to_list (missing going (cls_left_out me n kept b)) ≡ []
          quiet x y =
              ap (λ (o : Option Command). option_to_list (missing going o) ++ option_to_list (missing going (cls_left_out me n kept b))) x
              ∙ ap (λ (o : Option Command). option_to_list (missing going o)) y

          by : (u : Bool) → up p.phase ≡ u → Left true
          by true u =
              let t = subst (λ (x : List Command). Tells me n p.ends p.echoes.awaited x b) (empty is.0) (s.0.tells is.2 (ap rsts (empty is.0)) u) in
              record {
                none = quiet ((g u).reply b t) ((g u).cls b s.1 t);
                known = λ f. (
                  record {
                    owed = λ r a o. said_clear (s.0.owed r a o);
                    unmade = λ r o. said_clear (s.0.unmade r o);
                    waits = λ a. said_clear (s.0.waits a);
                    tells = λ r z d. subst (λ (x : List Command). Tells me n p.ends p.echoes.awaited x (after_all_said me n b)) (sym (empty is.0)) ((g u).said b t);
                  },
                  s.1,
                );
              }
          by false u =
              let c = clear is.0 u is.2 is.3 in
              record {
                none = quiet (clear_reply me n b c) (clear_cls me n kept b c);
                known = λ f. (record { owed = λ r a o. said_clear c; unmade = λ r o. said_clear c; waits = λ a. said_clear c; tells = λ r z d. clash (up p.phase) d u }, s.1);
              }

      go : (x : Bool) → reports_omitted going room v b ≡ x → NoneLeft rest p room v b
      go true e = let m = made e in record {
        none = subst (λ (x : Bool). option_to_list (if x then missing going (reply_left_out me n b) else None) ++ option_to_list (if x then missing going (cls_left_out me n kept b) else None) ≡ []) (sym e) m.none;
        known = subst (λ (x : Bool). Known me n (waited_by rest p) v (if x then after_all_said me n b else b)) (sym e) m.known;
      }
      go false e = record {
        none = subst (λ (x : Bool). option_to_list (if x then missing going (reply_left_out me n b) else None) ++ option_to_list (if x then missing going (cls_left_out me n kept b) else None) ≡ []) (sym e) refl;
        known = subst (λ (x : Bool). Known me n (waited_by rest p) v (if x then after_all_said me n b else b)) (sym e) known;
      }
