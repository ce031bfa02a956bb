-- What is known of what is said, through all that comes of the peer.
use Rattle.std.proofs.Common.{◌≡◌, ℕ, ◌+◌, ◌≤◌, ◌<◌, Bool, true, false, not, ◌&&◌, ◌||◌, if◌then◌else◌, List, [], ◌∷◌, ◌++◌, Option, Ok, Err, is_some, refl, sym, ap, ◌∙◌, subst, arith}
use Rattle.std.proofs.Math.Bool.{and-false}
use Rattle.std.specs.List.{list_any}
use Rattle.ncp_wire.specs.declared.command.Command.{Command}
use Rattle.ncp_wire.specs.declared.fault.CommandFault.{CommandFault}
use Rattle.ncp_model.specs.Effect.{answer, made_by_hearing}
use Rattle.ncp_model.specs.Ends.{Ends, receiver_on, pair_of, demux_command, hear, text_in, map_after_at, no_ends}
use Rattle.ncp_model.specs.Texts.{made_by_text}
use Rattle.ncp_model.specs.Phase.{Phase, Reaction, up, is_other, is_rst, is_rrp, phase_answers, phase_asks, phase_settles, phase_hears, owes_answer, hears_rrp, goes_down, makes_all}
use Rattle.ncp_model.specs.Peers.{Peer, is_full_up, echo_replies, echoes_after, reaction, standing, makes, hears_other, hears, hears_fault, takes_text, hears_text}
use Rattle.ncp_model.proofs.ResetLists.{bit, rsts, rrps, others, rsts-purged, rrps-purged, others-append, others-purged}
use Rattle.ncp_proof_monitor_allocation.proofs.NoResets.{hearing_unreset, text_unreset}
use Rattle.ncp_monitor.specs.declared.finding.ItemKind.{ItemKind}
use Rattle.ncp_leader.specs.Message.{Message}
use Rattle.ncp_interface.specs.declared.sent_message.SentMessage.{SentMessage}
use Rattle.ncp_monitor.specs.declared.phase.MessageContext.{MessageContext}
use Rattle.ncp_monitor.specs.declared.observed_flow.ObservedFlow.{ObservedFlow}
use Rattle.ncp_monitor.specs.declared.view.View.{View}
use Rattle.ncp_monitor.specs.declared.view.Wait.{Wait}
use Rattle.ncp_monitor.specs.declared.view.Wait.TheVariants.{Answered, Even, Waiting}
use Rattle.ncp_monitor.specs.Views.{awaits_reply, is_answered_too_often, more_waiting, less_waiting}
use Rattle.ncp_monitor.specs.Phases.{is_early, is_before_reply, is_acted_on, after_thing, after_item, after_reply_of_peer, after_untold_reply}
use Rattle.ncp_monitor.specs.ConnStates.{SeenTables, tables_cleared}
use Rattle.ncp_monitor.specs.Replies.{owes, fault_wanted}
use Rattle.ncp_monitor.specs.Speaking.{tables_after_command}
use Rattle.ncp_monitor.specs.Texts.{conn_tables_after_text}
use Rattle.ncp_monitor.specs.Talked.{reaches, after_flow, after_talked_text}
use Rattle.ncp_proof_monitor.proofs.Phased.{Phased, Settled, Sees}
use Rattle.ncp_proof_monitor.proofs.PhaseSteps.{Stands}
use Rattle.ncp_proof_monitor.proofs.PhaseGoes.{suspended_more}
use Rattle.ncp_proof_monitor_host.proofs.Spoken.{Tells, Clear, Spoken}
use Rattle.ncp_proof_monitor_host.proofs.Begun.{begins_reports, clear_cleared}
use Rattle.ncp_proof_monitor_host.proofs.MadeUp.{made_owed, made_rsts, owing, owing_same, made_reports}

pub clash : {A : Type 0} (b : Bool) → b ≡ true → b ≡ false → A
clash b x y = let nay : true ≡ false = sym x ∙ y in absurd (cc nay)

-- a host that is up owes no RRP that is to be made
pub up_unowed : (p : Phase) → up p ≡ true → p.owe ≡ false
up_unowed p u = grind arith

-- ---- while a host settles, no other command waits

calm_more : (w : List Command) (c : Command) → is_other c ≡ false → others w ≡ [] → others (w ++ c ∷ []) ≡ []
calm_more w c o e = others-append w (c ∷ []) ∙ ap (λ (x : List Command). x ++ others (c ∷ [])) e ∙ ap (λ (b : Bool). if b then c ∷ [] else []) o

answers_calm : (p : Phase) → others p.waiting ≡ [] → others (phase_answers p).waiting ≡ []
answers_calm p e = go p.owe (list_any is_rrp p.waiting)
  where
    go : (b r : Bool) → others (if b then record p { down = false; owe = false; waiting = if r then p.waiting else p.waiting ++ Command.Rrp ∷ [] } else p).waiting ≡ []
    go true true = e
    go true false = calm_more p.waiting Command.Rrp refl e
    go false r = e

asks_calm : (p : Phase) → others p.waiting ≡ [] → others (phase_asks p).waiting ≡ []
asks_calm p e = go p.want (list_any is_rst p.waiting)
  where
    go : (b r : Bool) → others (if b then record p { down = false; want = false; wait = true; waiting = if r then p.waiting else p.waiting ++ Command.Rst ∷ [] } else p).waiting ≡ []
    go true true = e
    go true false = calm_more p.waiting Command.Rst refl e
    go false r = e

pub settles_calm : (q : Bool) (p : Phase) → others p.waiting ≡ [] → others (phase_settles q p).waiting ≡ []
settles_calm true p e = asks_calm (phase_answers p) (answers_calm p e)
settles_calm false p e = e

-- cleared: nothing was said
pub anew_spoken : (me n : ℕ) (now : Phase) (p : Peer) (v : View) (b : SeenTables) → p.phase ≡ now → p.ends ≡ no_ends → others now.waiting ≡ [] → Clear me n b → Spoken me n p v b
anew_spoken me n now p v b is none quiet clear = record {
  owed = λ r a o. clear;
  unmade = λ r o. clear;
  waits = λ a. clear;
  tells = λ r z u.
      subst (λ (m : Ends). Tells me n m p.echoes.awaited p.phase.waiting b) (sym none)
      (begins_reports me n p.echoes.awaited p.phase.waiting b (ap (λ (x : Phase). others x.waiting) is ∙ quiet) clear);
}

module _ (me n : ℕ) (busy : Option ℕ) (zero : Bool) (kept : List SentMessage) where
  abbrev coming : MessageContext
  coming = record { by = n; sent = false; busy = busy; zero = zero }

  abbrev hearing : ObservedFlow
  hearing = record { at = me; peer = n; sent = false }

  -- ---- whether what comes is judged

  unreached_waiting : (what : ItemKind) (v : View) → awaits_reply v.host.wait ≡ true → reaches coming what v ≡ false
  unreached_waiting what v a =
      ap (λ (x : Bool). v.told && (not (is_early coming what v) || is_acted_on coming v) && not v.suspended && not (not false && x)) a ∙ and-false (v.told && (not (is_early coming what v) || is_acted_on coming v) && not v.suspended)

  early_waiting : (what : ItemKind) (v : View) → awaits_reply v.peer.wait ≡ true → is_early coming what v ≡ true
  early_waiting what v a = go v.peer.began (awaits_reply v.peer.wait) a
    where
      go : (x y : Bool) → y ≡ true → (not x || y || (false && v.owes)) ≡ true
      go true true e = refl
      go true false e = absurd (cc e)
      go false y e = refl

  unreached_early : (what : ItemKind) (v : View) → is_early coming what v ≡ true → is_acted_on coming v ≡ false → reaches coming what v ≡ false
  unreached_early what v e a = go v.told (is_early coming what v) (is_acted_on coming v) e a
    where
      go : (t x y : Bool) → x ≡ true → y ≡ false → (t && (not x || y) && not v.suspended && not (not false && awaits_reply v.host.wait)) ≡ false
      go true true false e a = refl
      go true true true e a = absurd (cc a)
      go true false y e a = absurd (cc e)
      go false x y e a = refl

  -- while an RRP is owed it is judged only where the host acts on it
  unreached_owed : (what : ItemKind) (p : Phase) (q : Bool) (v : View) → Phased p q v → v.suspended ≡ false → (is_early coming what v ≡ true → is_acted_on coming v ≡ false) → 0 < owing p → reaches coming what v ≡ false
  unreached_owed what p q v k r a o = go (awaits_reply v.host.wait) refl
    where
      go : (x : Bool) → awaits_reply v.host.wait ≡ x → reaches coming what v ≡ false
      go true e = unreached_waiting what v e
      go false e = let late = early_waiting what v (k.rrp_waited r o e) in unreached_early what v late (a late)

  not_acted : (what : ItemKind) (v : View) → v.told ≡ true → (after_thing coming what v).acted ≡ false → is_early coming what v ≡ true → is_acted_on coming v ≡ false
  not_acted what v t a e = go v.acted v.told (is_early coming what v) (is_acted_on coming v) t e a
    where
      go : (a t e x : Bool) → t ≡ true → e ≡ true → (a || ((t && e) && x)) ≡ false → x ≡ false
      go false true true x i j z = z
      go true t e x i j z = absurd (cc z)
      go false false e x i j z = absurd (cc i)
      go false true false x i j z = absurd (cc j)

  -- the host does not act while a data link is busy, nor before its RRP is made
  busy_not_acted : (v : View) → is_some busy ≡ true → is_acted_on coming v ≡ false
  busy_not_acted v s = ap (λ (x : Bool). is_before_reply coming v && not x) s ∙ and-false (is_before_reply coming v)

  unmade_busy : (p : Phase) (q : Bool) → Sees q busy → Settled p q → p.owe ≡ true → is_some busy ≡ true
  unmade_busy p true b s o = clash p.owe o (s.owes refl)
  unmade_busy p false b s o = b.some refl

  owe_owing : (p : Phase) → p.owe ≡ true → 0 < owing p
  owe_owing p o = let z : bit p.owe ≡ 1 = ap bit o in omega (arith, z)

  up_waits : (p : Phase) (q : Bool) (v : View) → Phased p q v → up p ≡ true → awaits_reply v.host.wait ≡ false
  up_waits p q v k u = go (awaits_reply v.host.wait) refl
    where
      down : (x w : Bool) → w ≡ true → not (x || w) ≡ true → ⊥
      down true true e f = cc f
      down false true e f = cc f
      down x false e f = cc e

      go : (x : Bool) → awaits_reply v.host.wait ≡ x → awaits_reply v.host.wait ≡ false
      go true e = absurd (down (p.down || p.want || p.owe) p.wait (k.waits e) u)
      go false e = e

  -- while the host is up and the session is not suspended, no data link is busy before its RRP
  up_calm : (p : Phase) (q : Bool) (v : View) → Sees q busy → Phased p q v → up p ≡ true → v.owes ≡ true → v.suspended ≡ false → is_some busy ≡ false
  up_calm p true v b k u o r = ap is_some (b.none refl)
  up_calm p false v b k u o r = let some = k.owes o in let calm = k.rrp_quiet r in let none = up_unowed p u in absurd (busy_none none some calm)
    where
      busy_none : p.owe ≡ false → 0 < rrps p.waiting + bit p.owe → (0 < rrps p.waiting → false ≡ true) → ⊥
      busy_none n s c = let z : bit p.owe ≡ 0 = ap bit n in let nay : false ≡ true = c (omega (arith, z, s)) in cc nay

  reaches_up : (what : ItemKind) (v : View) → v.told ≡ true → awaits_reply v.host.wait ≡ false → (v.owes ≡ true → v.suspended ≡ false → is_some busy ≡ false) → (after_thing coming what v).suspended ≡ false → reaches coming what v ≡ true
  reaches_up what v t w c r = go v.told (is_early coming what v) v.suspended (awaits_reply v.host.wait) v.owes (is_some busy) t w c r
    where
      go : (t e r w o s : Bool) → t ≡ true → w ≡ false → (o ≡ true → r ≡ false → s ≡ false) → (r || ((t && e) && not w && not (not false && o && not r && not w))) ≡ false
          → (t && (not e || (not false && o && not r && not w && not s)) && not r && not (not false && w)) ≡ true
      go false e r w o s x y c z = absurd (cc x)
      go true e true w o s x y c z = absurd (cc z)
      go true e false true o s x y c z = absurd (cc y)
      go true false false false o s x y c z = refl
      go true true false false false s x y c z = absurd (cc z)
      go true true false false true false x y c z = refl
      go true true false false true true x y c z = let nay : true ≡ false = c refl refl in absurd (cc nay)

  -- ---- what is neither RST nor RRP

  pub thing_spoken : (what : ItemKind) (p done : Peer) (q : Bool) (v : View) (b after : SeenTables) → Sees q busy → Stands p q v → Spoken me n p v b → (up p.phase ≡ true → (done.phase.owe ≡ p.phase.owe) × (rrps done.phase.waiting ≡ rrps p.phase.waiting)) → (up p.phase ≡ true → rsts done.phase.waiting ≡ rsts p.phase.waiting)
      → (reaches coming what v ≡ true → up p.phase ≡ true → up done.phase ≡ true → Tells me n p.ends p.echoes.awaited p.phase.waiting b → Tells me n done.ends done.echoes.awaited done.phase.waiting after)
      → Spoken me n (if up p.phase then done else p) (after_thing coming what v) (if reaches coming what v then after else b)
  thing_spoken what p done q v b after sees k s counts queued_same tell = go (up p.phase) refl
    where
      v' : View
      v' = after_thing coming what v

      before : v'.suspended ≡ false → v.suspended ≡ false
      before r = suspended_more v.suspended ((v.told && is_early coming what v) && not (awaits_reply v.host.wait) && not (is_before_reply coming v)) r

      acted_before : v'.acted ≡ false → v.acted ≡ false
      acted_before a = suspended_more v.acted ((v.told && is_early coming what v) && is_acted_on coming v) a

      same : reaches coming what v ≡ false → Clear me n b → Clear me n (if reaches coming what v then after else b)
      same e c = subst (λ (x : Bool). Clear me n (if x then after else b)) (sym e) c

      go : (u : Bool) → up p.phase ≡ u → Spoken me n (if u then done else p) v' (if reaches coming what v then after else b)
      go true u = record {
        owed = λ r a o.
            let z = subst (λ (i : ℕ). 0 < i) (owing_same p.phase done.phase (counts u)) o in
            same (unreached_owed what p.phase q v k.phased (before r) (not_acted what v k.phased.told a) z) (s.owed (before r) (acted_before a) z);
        unmade = λ r o. clash p.phase.owe (sym (counts u).0 ∙ o) (up_unowed p.phase u);
        waits = λ a. same (unreached_waiting what v a) (s.waits a);
        tells = λ r z d.
            let e = reaches_up what v k.phased.told (up_waits p.phase q v k.phased u) (up_calm p.phase q v sees k.phased u) r in
            subst (λ (x : Bool). Tells me n done.ends done.echoes.awaited done.phase.waiting (if x then after else b)) (sym e) (tell e u d (s.tells (before r) (sym (queued_same u) ∙ z) u));
      }
      go false u = record {
        owed = λ r a o. same (unreached_owed what p.phase q v k.phased (before r) (not_acted what v k.phased.told a) o) (s.owed (before r) (acted_before a) o);
        unmade = λ r o.
            same (unreached_owed what p.phase q v k.phased (before r) (λ late. busy_not_acted v (unmade_busy p.phase q sees k.settled o)) (owe_owing p.phase o)) (s.unmade (before r) o);
        waits = λ a. same (unreached_waiting what v a) (s.waits a);
        tells = λ r z d. clash (up p.phase) d u;
      }

  room_there : (x : Bool) (after b : SeenTables) → x ≡ true → (if x then after else b).full ≡ false → after.full ≡ false
  room_there true after b e f = f
  room_there false after b e f = absurd (cc e)

  -- what it has to be shown of a command, of a fault, and of a text
  abbrev pub CommandReports : Command → Peer → SeenTables → Type 0
  CommandReports c p b =
      up p.phase ≡ true → is_full_up (answer (hear c p.ends)) ≡ false → (tables_after_command hearing kept c b).full ≡ false → Tells me n p.ends p.echoes.awaited p.phase.waiting b
      → Tells me n (map_after_at p.ends (demux_command c p.ends) (hear c p.ends)) (echoes_after c p.echoes).awaited (p.phase.waiting ++ (made_by_hearing (answer (hear c p.ends)) ++ echo_replies c)) (tables_after_command hearing kept c b)

  other_spoken : (what : ItemKind) (c : Command) (p : Peer) (q : Bool) (v : View) (b : SeenTables)
      → ((r : Reaction) → phase_hears c r p.phase ≡ (if up p.phase then (if r.full then goes_down p.phase else makes_all r.replies p.phase) else p.phase))
      → Sees q busy → Stands p q v → Spoken me n p v b → CommandReports c p b → (if reaches coming what v then tables_after_command hearing kept c b else b).full ≡ false
      → Spoken me n (if up p.phase then hears_other q c p else p) (after_thing coming what v) (if reaches coming what v then tables_after_command hearing kept c b else b)
  other_spoken what c p q v b is sees k s heard room = thing_spoken what p (hears_other q c p) q v b (tables_after_command hearing kept c b) sees k s counts queued_same tell
    where
      r : Reaction
      r = reaction q c p

      now : Bool → Phase
      now full = if full then goes_down p.phase else makes_all r.replies p.phase

      m : Ends
      m = map_after_at p.ends (demux_command c p.ends) (hear c p.ends)

      heard_is : up p.phase ≡ true → phase_hears c r p.phase ≡ now r.full
      heard_is u = is r ∙ ap (λ (x : Bool). if x then now r.full else p.phase) u

      counts : up p.phase ≡ true → ((phase_hears c r p.phase).owe ≡ p.phase.owe) × (rrps (phase_hears c r p.phase).waiting ≡ rrps p.phase.waiting)
      counts u = let same = go r.full in (ap (λ (x : Phase). x.owe) (heard_is u) ∙ same.0, ap (λ (x : Phase). rrps x.waiting) (heard_is u) ∙ same.1)
        where
          go : (full : Bool) → ((now full).owe ≡ p.phase.owe) × (rrps (now full).waiting ≡ rrps p.phase.waiting)
          go true = (refl, rrps-purged p.phase.waiting)
          go false = made_owed r.replies p.phase

      queued_same : up p.phase ≡ true → rsts (phase_hears c r p.phase).waiting ≡ rsts p.phase.waiting
      queued_same u = ap (λ (x : Phase). rsts x.waiting) (heard_is u) ∙ go r.full
        where
          go : (full : Bool) → rsts (now full).waiting ≡ rsts p.phase.waiting
          go true = rsts-purged p.phase.waiting
          go false = made_rsts r.replies p.phase

      tell : reaches coming what v ≡ true → up p.phase ≡ true → up (phase_hears c r p.phase) ≡ true → Tells me n p.ends p.echoes.awaited p.phase.waiting b
          → Tells me n (hears_other q c p).ends (hears_other q c p).echoes.awaited (hears_other q c p).phase.waiting (tables_after_command hearing kept c b)
      tell e u d t =
          subst (λ (x : Phase). Tells me n (standing x m (echoes_after c p.echoes)).ends (standing x m (echoes_after c p.echoes)).echoes.awaited x.waiting (tables_after_command hearing kept c b)) (sym (heard_is u))
          (by r.full refl (ap up (sym (heard_is u)) ∙ d))
        where
          by : (full : Bool) → r.full ≡ full → up (now full) ≡ true
              → Tells me n (standing (now full) m (echoes_after c p.echoes)).ends (standing (now full) m (echoes_after c p.echoes)).echoes.awaited (now full).waiting (tables_after_command hearing kept c b)
          by true f d = absurd (cc d)
          by false f d =
              made_reports me n r.replies p.phase m (echoes_after c p.echoes) (tables_after_command hearing kept c b) (hearing_unreset c p.ends) d
              (λ x. heard u f (room_there (reaches coming what v) (tables_after_command hearing kept c b) b e room) t)

  pub command_spoken : (c : Command) (p : Peer) (q : Bool) (v : View) (b : SeenTables) → Sees q busy → Stands p q v → Spoken me n p v b → (is_other c ≡ true → CommandReports c p b) → (after_flow coming hearing kept (Ok c) v b).full ≡ false
      → Spoken me n (hears q c p) (after_item coming (Ok c) v) (after_flow coming hearing kept (Ok c) v b)
  command_spoken Command.Rst p q v b sees k s heard room =
      subst (λ (x : SeenTables). Spoken me n (hears q Command.Rst p) (after_item coming (Ok Command.Rst) v) x) (sym is)
      (anew_spoken me n (phase_settles q (owes_answer p.phase)) (hears q Command.Rst p) (after_item coming (Ok Command.Rst) v) (tables_cleared me n b) refl refl
      (settles_calm q (owes_answer p.phase) (others-purged p.phase.waiting)) (clear_cleared me n b))
    where
      is : after_flow coming hearing kept (Ok Command.Rst) v b ≡ tables_cleared me n b
      is = go v.told k.phased.told
        where
          go : (t : Bool) → t ≡ true → (if (t || (zero && not (is_answered_too_often v.host.wait))) && not (false && not (awaits_reply (more_waiting v.host.wait))) then tables_cleared me n b else if false then b else b) ≡ tables_cleared me n b
          go true e = refl
          go false e = absurd (cc e)
  command_spoken Command.Rrp p q v b sees k s heard room =
      subst (λ (x : View). Spoken me n (hears q Command.Rrp p) x b) (sym (ap (λ (t : Bool). if t then after_reply_of_peer v else after_untold_reply coming v) k.phased.told))
      (record {
        owed = λ r a o. owed (awaits_reply v.host.wait) refl r a o;
        unmade = λ r o. unmade (awaits_reply v.host.wait) refl r o;
        waits = λ a. absurd (none_waits v.host.wait a);
        tells = λ r z u. tells (awaits_reply v.host.wait) refl r z u;
      })
    where
      now : View
      now = after_reply_of_peer v

      clear : awaits_reply v.host.wait ≡ true → Clear me n b
      clear w = s.waits w

      down : awaits_reply v.host.wait ≡ true → up p.phase ≡ false
      down w = go (p.phase.down || p.phase.want || p.phase.owe) p.phase.wait (k.phased.waits w)
        where
          go : (x w : Bool) → w ≡ true → not (x || w) ≡ false
          go true true e = refl
          go false true e = refl
          go x false e = absurd (cc e)

      -- it is not awaited: the session was not suspended before
      calm : awaits_reply v.host.wait ≡ false → now.suspended ≡ false → (v.suspended ≡ false) × (v.desynced ≡ false)
      calm w r = go v.desynced (v.owes && not (awaits_reply v.peer.wait)) v.suspended (awaits_reply v.host.wait) w r
        where
          go : (x y s a : Bool) → a ≡ false → (x || y || s && not a) ≡ false → (s ≡ false) × (x ≡ false)
          go false false false a e r = (refl, refl)
          go false false true false e r = absurd (cc r)
          go false false true true e r = absurd (cc e)
          go false true s a e r = absurd (cc r)
          go true y s a e r = absurd (cc r)

      owed : (x : Bool) → awaits_reply v.host.wait ≡ x → now.suspended ≡ false → now.acted ≡ false → 0 < rrps (hears_rrp p.phase).waiting + bit (hears_rrp p.phase).owe → Clear me n b
      owed true w r a o = clear w
      owed false w r a o = s.owed (calm w r).0 a o

      unmade : (x : Bool) → awaits_reply v.host.wait ≡ x → now.suspended ≡ false → (hears_rrp p.phase).owe ≡ true → Clear me n b
      unmade true w r o = clear w
      unmade false w r o = s.unmade (calm w r).0 o

      -- no RST of the host waits for its RRP, so it had come up before
      was_up : awaits_reply v.host.wait ≡ false → v.desynced ≡ false → rsts p.phase.waiting ≡ 0 → up (hears_rrp p.phase) ≡ true → up p.phase ≡ true
      was_up w d z u = unwaited (still v.host.wait refl)
        where
          none : bit p.phase.wait ≤ rsts p.phase.waiting → p.phase.wait ≡ false
          none l = by p.phase.wait (subst (λ (i : ℕ). bit p.phase.wait ≤ i) z l)
            where
              by : (x : Bool) → bit x ≤ 0 → x ≡ false
              by true l = absurd (omega (arith, l))
              by false l = refl

          still : (x : Wait) → v.host.wait ≡ x → p.phase.wait ≡ false
          still Answered e = none (k.phased.answered (ap is_answered_too_often e))
          still Even e = none (k.phased.exact w (ap is_answered_too_often e) d)
          still Waiting e = clash (awaits_reply v.host.wait) (ap awaits_reply e) w

          unwaited : p.phase.wait ≡ false → up p.phase ≡ true
          unwaited e = ap (λ (x : Bool). not (p.phase.down || p.phase.want || p.phase.owe || x)) e ∙ u

      tells : (x : Bool) → awaits_reply v.host.wait ≡ x → now.suspended ≡ false → rsts p.phase.waiting ≡ 0 → up (hears_rrp p.phase) ≡ true → Tells me n p.ends p.echoes.awaited p.phase.waiting b
      tells true w r z u =
          subst (λ (m : Ends). Tells me n m p.echoes.awaited p.phase.waiting b) (sym (k.down (down w)))
          (begins_reports me n p.echoes.awaited p.phase.waiting b (k.phased.calm (down w)) (clear w))
      tells false w r z u = let c = calm w r in s.tells c.0 z (was_up w c.1 z u)

      none_waits : (w : Wait) → awaits_reply (less_waiting w) ≡ true → ⊥
      none_waits Answered e = cc e
      none_waits Even e = cc e
      none_waits Waiting e = cc e
  command_spoken Command.Nop p q v b sees k s heard room = other_spoken ItemKind.Nop Command.Nop p q v b (λ r. refl) sees k s (heard refl) room
  command_spoken (Command.Rts x y z) p q v b sees k s heard room = other_spoken ItemKind.Rts (Command.Rts x y z) p q v b (λ r. refl) sees k s (heard refl) room
  command_spoken (Command.Str x y z) p q v b sees k s heard room = other_spoken ItemKind.Str (Command.Str x y z) p q v b (λ r. refl) sees k s (heard refl) room
  command_spoken (Command.Cls x y) p q v b sees k s heard room = other_spoken ItemKind.Cls (Command.Cls x y) p q v b (λ r. refl) sees k s (heard refl) room
  command_spoken (Command.All x y z) p q v b sees k s heard room = other_spoken ItemKind.All (Command.All x y z) p q v b (λ r. refl) sees k s (heard refl) room
  command_spoken (Command.Gvb x y z) p q v b sees k s heard room = other_spoken ItemKind.Gvb (Command.Gvb x y z) p q v b (λ r. refl) sees k s (heard refl) room
  command_spoken (Command.Ret x y z) p q v b sees k s heard room = other_spoken ItemKind.Ret (Command.Ret x y z) p q v b (λ r. refl) sees k s (heard refl) room
  command_spoken (Command.Inr x) p q v b sees k s heard room = other_spoken ItemKind.Inr (Command.Inr x) p q v b (λ r. refl) sees k s (heard refl) room
  command_spoken (Command.Ins x) p q v b sees k s heard room = other_spoken ItemKind.Ins (Command.Ins x) p q v b (λ r. refl) sees k s (heard refl) room
  command_spoken (Command.Eco x) p q v b sees k s heard room = other_spoken ItemKind.Eco (Command.Eco x) p q v b (λ r. refl) sees k s (heard refl) room
  command_spoken (Command.Erp x) p q v b sees k s heard room = other_spoken ItemKind.Erp (Command.Erp x) p q v b (λ r. refl) sees k s (heard refl) room
  command_spoken (Command.Err x y) p q v b sees k s heard room = other_spoken ItemKind.Err (Command.Err x y) p q v b (λ r. refl) sees k s (heard refl) room

  -- ---- a fault of a control text, and a text

  abbrev pub FaultReports : CommandFault → Peer → SeenTables → Type 0
  FaultReports fault p b =
      (owes hearing (fault_wanted fault) true b).full ≡ false → Tells me n p.ends p.echoes.awaited p.phase.waiting b
      → Tells me n p.ends p.echoes.awaited (p.phase.waiting ++ Command.Err fault.code fault.bytes ∷ []) (owes hearing (fault_wanted fault) true b)

  pub fault_spoken : (fault : CommandFault) (p : Peer) (q : Bool) (v : View) (b : SeenTables) → Sees q busy → Stands p q v → Spoken me n p v b → FaultReports fault p b → (after_flow coming hearing kept (Err fault) v b).full ≡ false
      → Spoken me n (hears_fault fault p) (after_item coming (Err fault) v) (after_flow coming hearing kept (Err fault) v b)
  fault_spoken fault p q v b sees k s heard room =
      thing_spoken ItemKind.Bad p (makes cs p) q v b (owes hearing (fault_wanted fault) true b) sees k s (λ u. made_owed cs p.phase) (λ u. made_rsts cs p.phase)
      (λ e u d t.
      made_reports me n cs p.phase p.ends p.echoes (owes hearing (fault_wanted fault) true b) (refl, tt) d (λ x. heard (room_there (reaches coming ItemKind.Bad v) (owes hearing (fault_wanted fault) true b) b e room) t))
    where
      cs : List Command
      cs = Command.Err fault.code fault.bytes ∷ []

  abbrev pub TextReports : ℕ → List Bool → ℕ → List Bool → Message → Peer → SeenTables → Type 0
  TextReports on head of_size text message p b =
      (conn_tables_after_text hearing on message b).full ≡ false → Tells me n p.ends p.echoes.awaited p.phase.waiting b
      → Tells me n (map_after_at p.ends (pair_of (receiver_on on p.ends)) (text_in on of_size text p.ends)) p.echoes.awaited (p.phase.waiting ++ made_by_text head text (answer (text_in on of_size text p.ends))) (conn_tables_after_text hearing on message b)

  pub text_spoken : (on : ℕ) (head : List Bool) (of_size : ℕ) (text : List Bool) (message : Message) (p : Peer) (q : Bool) (v : View) (b : SeenTables) → Sees q busy → Stands p q v → Spoken me n p v b → TextReports on head of_size text message p b
      → (after_talked_text coming hearing on message v b).full ≡ false → Spoken me n (hears_text on head of_size text p) (after_thing coming ItemKind.Text v) (after_talked_text coming hearing on message v b)
  text_spoken on head of_size text message p q v b sees k s heard room =
      thing_spoken ItemKind.Text p (takes_text on head of_size text p) q v b (conn_tables_after_text hearing on message b) sees k s (λ u. made_owed cs p.phase) (λ u. made_rsts cs p.phase)
      (λ e u d t.
      made_reports me n cs p.phase m p.echoes (conn_tables_after_text hearing on message b) (text_unreset head on of_size text p.ends) d (λ x. heard (room_there (reaches coming ItemKind.Text v) (conn_tables_after_text hearing on message b) b e room) t))
    where
      cs : List Command
      cs = made_by_text head text (answer (text_in on of_size text p.ends))

      m : Ends
      m = map_after_at p.ends (pair_of (receiver_on on p.ends)) (text_in on of_size text p.ends)
