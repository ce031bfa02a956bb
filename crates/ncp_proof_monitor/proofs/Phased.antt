-- The relation between the monitor's view of a host's phase with a peer and the host's flags and queued
-- commands. It implies the rules of resets, and is preserved when the host makes, sends and hears
-- commands.
use Rattle.std.proofs.Common.{◌≡◌, ℕ, ◌+◌, ◌≤◌, ◌<◌, ◌==◌, Bool, true, false, not, ◌&&◌, ◌||◌, if◌then◌else◌, List, [], ◌∷◌, Option, None, Some, is_some, refl, sym, subst, arith}
use Rattle.ncp_wire.specs.declared.command.Command.{Command}
use Rattle.ncp_wire.specs.declared.command.Command.TheVariants.{Rst, Rrp}
use Rattle.ncp_model.specs.Phase.{Phase, up, is_rst, is_rrp, is_other, is_resetting, phase_answers, phase_asks, wants_reset, owes_answer, hears_rrp, goes_down, queued}
use Rattle.ncp_model.proofs.ResetLists.{bit, rsts, rrps, others, rsts-append, rrps-append, others-append, rsts-purged, rrps-purged, others-purged, any-rsts, any-rrps}
use Rattle.ncp_monitor.specs.declared.finding.ItemKind.{ItemKind}
use Rattle.ncp_monitor.specs.declared.view.View.{View}
use Rattle.ncp_monitor.specs.declared.phase.MessageContext.{MessageContext}
use Rattle.ncp_monitor.specs.declared.view.Wait.{Wait}
use Rattle.ncp_monitor.specs.declared.view.Wait.TheVariants.{Answered, Even, Waiting}
use Rattle.ncp_monitor.specs.Views.{awaits_reply, is_answered_too_often}
use Rattle.ncp_monitor.specs.Judged.{by_host}
use Rattle.ncp_monitor.specs.Phases.{is_text, is_early, early_rule, early_finding, is_before_reply, is_acted_on, after_thing, reset_findings, view_after_reset, reply_findings, view_after_reply, after_room}
use Rattle.ncp_proof_monitor.proofs.PhaseLists.{behind, leads, behind-none, behind-more, behind-reset, behind-purged, leads-some, leads-more, leads-rst, leads-purged}

-- an RRP arrived that the host did not await, and its session is suspended
abbrev pub is_unclear : View → Bool
is_unclear v = v.suspended && is_answered_too_often v.host.wait

abbrev pub Phased : Phase → Bool → View → Type 0
Phased p quiet v = record {
  told : v.told ≡ true;
  known : v.known ≡ true;
  admits : v.host.admits ≡ false;
  -- the host
  calm : up p ≡ false → others p.waiting ≡ [];
  order : behind p.waiting ≡ 0;
  one_rst : rsts p.waiting ≤ 1;
  one_rrp : rrps p.waiting ≤ 1;
  wants : p.want ≡ true → p.wait ≡ false;
  -- what is seen of it
  even : awaits_reply v.host.wait ≡ false → is_answered_too_often v.host.wait ≡ false → rsts p.waiting ≤ bit p.wait;
  exact : awaits_reply v.host.wait ≡ false → is_answered_too_often v.host.wait ≡ false → v.desynced ≡ false → bit p.wait ≤ rsts p.waiting;
  answered : is_answered_too_often v.host.wait ≡ true → bit p.wait ≤ rsts p.waiting;
  none_waits : awaits_reply v.host.wait ≡ true → rsts p.waiting ≡ 0;
  waits : awaits_reply v.host.wait ≡ true → p.wait ≡ true;
  asked : rrps p.waiting + bit p.owe ≤ v.host.asked;
  owes : v.owes ≡ true → 0 < rrps p.waiting + bit p.owe;
  began : v.host.began ≡ false → p.down ≡ false → 0 < rsts p.waiting + rrps p.waiting;
  -- while the data links are quiet, or the session is suspended
  wait_quiet : awaits_reply v.host.wait ≡ true → quiet ≡ true;
  rst_quiet : is_unclear v ≡ false → 0 < rsts p.waiting → quiet ≡ true;
  rrp_quiet : v.suspended ≡ false → 0 < rrps p.waiting → quiet ≡ true;
  rrp_waited : v.suspended ≡ false → 0 < rrps p.waiting + bit p.owe → awaits_reply v.host.wait ≡ false → awaits_reply v.peer.wait ≡ true;
  rrp_known : awaits_reply v.host.wait ≡ true → 0 < rrps p.waiting + bit p.owe → v.owes ≡ true;
  led_known : is_unclear v ≡ false → leads p.waiting ≡ true → 0 < rrps p.waiting + bit p.owe → v.owes ≡ true;
  led_first : is_unclear v ≡ false → leads p.waiting ≡ true → 0 < rrps p.waiting + bit p.owe → v.first ≡ false;
}

-- nothing is to be made while the data links are quiet
abbrev pub Settled : Phase → Bool → Type 0
Settled p quiet = record { owes : quiet ≡ true → p.owe ≡ false; wants : quiet ≡ true → p.want ≡ false }

ruleset on_lists = (rsts-append, rrps-append, others-append, rsts-purged, rrps-purged, others-purged, any-rsts, any-rrps)

-- ---- the host makes commands

pub falling : (p : Phase) (q : Bool) (v : View) → Phased p q v → Phased (goes_down p) q v
falling p q v k = let b = behind-purged p.waiting in let l = leads-purged p.waiting k.order in grind (arith, on_lists)

pub queueing : (p : Phase) (q : Bool) (v : View) (c : Command) → up p ≡ true → is_other c ≡ true → is_rst c ≡ false → is_rrp c ≡ false → Phased p q v → Phased (queued c p) q v
queueing p q v c u o r s k = let b = behind-more p.waiting c o k.order in let l = leads-more p.waiting c r in grind (arith, on_lists)

pub wanting : (p : Phase) (q : Bool) (v : View) → is_resetting p ≡ false → Phased p q v → Phased (wants_reset p) q v
wanting p q v w k = let b = behind-purged p.waiting in let l = leads-purged p.waiting k.order in grind (arith, on_lists)

pub answering : (p : Phase) (v : View) → Phased p true v → Phased (phase_answers p) true v
answering p v k = go p.owe refl (rrps p.waiting == 0) refl
  where
    go : (b : Bool) → p.owe ≡ b → (c : Bool) → (rrps p.waiting == 0) ≡ c → Phased (phase_answers p) true v
    go false o c d = grind (arith, on_lists)
    go true o true d = let b = behind-reset p.waiting Rrp refl (k.calm (grind arith)) in let l = leads-more p.waiting Rrp refl in grind (arith, on_lists)
    go true o false d = grind (arith, on_lists)

pub asking : (p : Phase) (v : View) → p.owe ≡ false → Phased p true v → Phased (phase_asks p) true v
asking p v o k = go p.want refl (rsts p.waiting == 0) refl
  where
    go : (b : Bool) → p.want ≡ b → (c : Bool) → (rsts p.waiting == 0) ≡ c → Phased (phase_asks p) true v
    go false w c d = grind (arith, on_lists)
    go true w true d = let b = behind-reset p.waiting Rst refl (k.calm (grind arith)) in let l = leads-rst p.waiting Rst in grind (arith, on_lists)
    go true w false d = grind (arith, on_lists)

-- ---- what the host says: it is found to break no rule

-- the data links are seen to be busy where they are not quiet
abbrev pub Sees : Bool → Option ℕ → Type 0
Sees quiet busy = record { none : quiet ≡ true → busy ≡ None; some : quiet ≡ false → is_some busy ≡ true }

pub rst_goes : (me : ℕ) (busy : Option ℕ) (zero : Bool) (u : List Command) (p : Phase) (q : Bool) (v : View) → Sees q busy → Settled p q → Phased (record p { waiting = Rst ∷ u }) q v
    → (reset_findings (record { by = me; sent = true; busy = busy; zero = zero }) v ≡ []) × Phased (record p { waiting = u }) q (view_after_reset (record { by = me; sent = true; busy = busy; zero = zero }) v)
rst_goes me busy zero u p true v b s k = let n : busy ≡ None = b.none refl in let l = leads-some u in (grind arith, grind arith)
rst_goes me busy zero u p false v b s k = let l = leads-some u in (grind arith, grind arith)

-- while the host is up, its session is suspended after it
pub rst_keeps_rest : (me : ℕ) (busy : Option ℕ) (zero : Bool) (u : List Command) (p : Phase) (q : Bool) (v : View) → Phased (record p { waiting = Rst ∷ u }) q v → up p ≡ true → (view_after_reset (record { by = me; sent = true; busy = busy; zero = zero }) v).suspended ≡ false → ⊥
rst_keeps_rest me busy zero u p q v k up_is r = let t = k.told in let e = k.even in let w = k.none_waits in grind arith

pub rrp_keeps_rest : (me : ℕ) (busy : Option ℕ) (zero : Bool) (v : View) → v.told ≡ true → (view_after_reply (record { by = me; sent = true; busy = busy; zero = zero }) v).suspended ≡ false → v.suspended ≡ false
rrp_keeps_rest me busy zero v t r = grind arith

pub rrp_goes : (me : ℕ) (busy : Option ℕ) (zero : Bool) (u : List Command) (p : Phase) (q : Bool) (v : View) → Sees q busy → Settled p q → Phased (record p { waiting = Rrp ∷ u }) q v
    → (reply_findings (record { by = me; sent = true; busy = busy; zero = zero }) v ≡ []) × Phased (record p { waiting = u }) q (view_after_reply (record { by = me; sent = true; busy = busy; zero = zero }) v)
rrp_goes me busy zero u p true v b s k = let n : busy ≡ None = b.none refl in let l = leads-some u in (grind arith, grind arith)
rrp_goes me busy zero u p false v b s k = let l = leads-some u in (grind arith, grind arith)

-- where another command is the first, the host is up, and neither RST nor RRP waits

pub is_up : (c : Command) (u : List Command) (p : Phase) (q : Bool) (v : View) → is_other c ≡ true → Phased (record p { waiting = c ∷ u }) q v → up p ≡ true
is_up c u p q v o k = go (up p) refl
  where
    go : (b : Bool) → up p ≡ b → b ≡ true
    go true e = refl
    go false e = let none = k.calm e in grind arith

pub none_following : (c : Command) (u : List Command) (p : Phase) (q : Bool) (v : View) → is_other c ≡ true → Phased (record p { waiting = c ∷ u }) q v → (rsts u ≡ 0) × (rrps u ≡ 0)
none_following c u p q v o k = let e = k.order in grind arith

pub up_began : (c : Command) (u : List Command) (p : Phase) (q : Bool) (v : View) → up p ≡ true → (rsts u ≡ 0) × (rrps u ≡ 0) → is_rst c ≡ false → is_rrp c ≡ false → Phased (record p { waiting = c ∷ u }) q v → v.host.began ≡ true
up_began c u p q v up_is none r s k = let e = k.began in grind arith

pub up_waits : (c : Command) (u : List Command) (p : Phase) (q : Bool) (v : View) → up p ≡ true → Phased (record p { waiting = c ∷ u }) q v → awaits_reply v.host.wait ≡ false
up_waits c u p q v up_is k = let e = k.waits in grind arith

pub up_owes : (c : Command) (u : List Command) (p : Phase) (q : Bool) (v : View) → up p ≡ true → (rsts u ≡ 0) × (rrps u ≡ 0) → is_rst c ≡ false → is_rrp c ≡ false → Phased (record p { waiting = c ∷ u }) q v → v.owes ≡ false
up_owes c u p q v up_is none r s k = let e = k.owes in grind arith

not_early : (me : ℕ) (busy : Option ℕ) (zero : Bool) (what : ItemKind) (v : View) → is_text what ≡ false → v.host.began ≡ true → awaits_reply v.host.wait ≡ false → v.owes ≡ false → is_early (record { by = me; sent = true; busy = busy; zero = zero }) what v ≡ false
not_early me busy zero what v t b w o = go v.suspended
  where
    go : (r : Bool) → (if true && r && is_text what then awaits_reply v.host.wait else not v.host.began || awaits_reply v.host.wait || (true && v.owes)) ≡ false
    go true = rw (t, b, w, o) refl
    go false = rw (b, w, o) refl

early_none : (me : ℕ) (busy : Option ℕ) (zero : Bool) (what : ItemKind) (v : View) → is_early (record { by = me; sent = true; busy = busy; zero = zero }) what v ≡ false → early_finding (record { by = me; sent = true; busy = busy; zero = zero }) what v ≡ None
early_none me busy zero what v e = go v.told (is_early (record { by = me; sent = true; busy = busy; zero = zero }) what v) e
  where
    go : (t b : Bool) → b ≡ false → (if not t || not b then None else Some (by_host me (early_rule (record { by = me; sent = true; busy = busy; zero = zero }) what v))) ≡ None
    go t true e = absurd (cc)
    go true false e = refl
    go false false e = refl

-- one other less waits
less_other : (c : Command) (u : List Command) (p : Phase) (q : Bool) (v : View) → up p ≡ true → (rsts u ≡ 0) × (rrps u ≡ 0) → is_rst c ≡ false → is_rrp c ≡ false → Phased (record p { waiting = c ∷ u }) q v → Phased (record p { waiting = u }) q v
less_other c u p q v up_is none r s k = let order = behind-none u none.0 none.1 in let target = leads-some u in grind arith

-- what is not early leaves the view
pub same_after : (context : MessageContext) (what : ItemKind) (v : View) → is_early context what v ≡ false → after_thing context what v ≡ v
same_after context what v e = go (v.told && is_early context what v) (and_none v.told (is_early context what v) e) v.suspended v.desynced v.acted
  where
    and_none : (t b : Bool) → b ≡ false → (t && b) ≡ false
    and_none true b e = e
    and_none false b e = refl

    go : (early : Bool) → early ≡ false → (r s a : Bool) → record v {
      suspended = r || (early && not (awaits_reply v.host.wait) && not (is_before_reply context v));
      desynced = s || (early && context.sent);
      acted = a || (early && is_acted_on context v);
    } ≡ record v { suspended = r; desynced = s; acted = a }
    go true e r s a = absurd (cc)
    go false e true true true = refl
    go false e true true false = refl
    go false e true false true = refl
    go false e true false false = refl
    go false e false true true = refl
    go false e false true false = refl
    go false e false false true = refl
    go false e false false false = refl

pub other_goes : (me : ℕ) (busy : Option ℕ) (zero : Bool) (what : ItemKind) (c : Command) (u : List Command) (p : Phase) (q : Bool) (v : View) → is_other c ≡ true → is_rst c ≡ false → is_rrp c ≡ false → is_text what ≡ false → Phased (record p { waiting = c ∷ u }) q v
    → (early_finding (record { by = me; sent = true; busy = busy; zero = zero }) what v ≡ None) × Phased (record p { waiting = u }) q (after_thing (record { by = me; sent = true; busy = busy; zero = zero }) what v)
other_goes me busy zero what c u p q v o r s t k = in_time (is_up c u p q v o k) (none_following c u p q v o k)
  where
    in_time : up p ≡ true → (rsts u ≡ 0) × (rrps u ≡ 0)
        → (early_finding (record { by = me; sent = true; busy = busy; zero = zero }) what v ≡ None) × Phased (record p { waiting = u }) q (after_thing (record { by = me; sent = true; busy = busy; zero = zero }) what v)
    in_time up_is none =
        let began = up_began c u p q v up_is none r s k in
        let waits = up_waits c u p q v up_is k in
        let owes = up_owes c u p q v up_is none r s k in
        let late = not_early me busy zero what v t began waits owes in
        (early_none me busy zero what v late, subst (λ (w : View). Phased (record p { waiting = u }) q w) (sym (same_after (record { by = me; sent = true; busy = busy; zero = zero }) what v late)) (less_other c u p q v up_is none r s k))

-- no text is sent after an RRP that the host did not await, nor while the host acts before its RRP, unless
-- the session is suspended
abbrev pub TextClear : View → Type 0
TextClear v = v.suspended ≡ false → (is_answered_too_often v.host.wait ≡ false) × (v.acted ≡ false)

pub text_goes : (me : ℕ) (busy : Option ℕ) (zero : Bool) (p : Phase) (q : Bool) (v : View) → up p ≡ true → (v.suspended ≡ false → rrps p.waiting ≡ 0) → (v.suspended ≡ false → is_answered_too_often v.host.wait ≡ false) → Phased p q v
    → (early_finding (record { by = me; sent = true; busy = busy; zero = zero }) ItemKind.Text v ≡ None) × Phased p q (after_thing (record { by = me; sent = true; busy = busy; zero = zero }) ItemKind.Text v)
text_goes me busy zero p q v u r c k = (grind arith, grind arith)

-- while a text is unacknowledged the data links are not quiet
pub unquieted : (p : Phase) (q now : Bool) (v : View) → up p ≡ true → (v.suspended ≡ false → rrps p.waiting ≡ 0) → (v.suspended ≡ false → is_answered_too_often v.host.wait ≡ false) → Phased p q v → Phased p now v
unquieted p q now v u r c k = let w = k.waits in let e = k.even in let t = leads-some p.waiting in grind arith

-- while the host is up no RST of it is queued, unless an RRP came that it did not await
pub none_queued : (p : Phase) (q : Bool) (v : View) → up p ≡ true → is_answered_too_often v.host.wait ≡ false → Phased p q v → rsts p.waiting ≡ 0
none_queued p q v u a k = let e = k.even in let w = k.waits in let n = k.none_waits in grind arith

pub up_settled : (p : Phase) (q : Bool) → up p ≡ true → Settled p q
up_settled p q u = grind arith

-- where they were not quiet, they may be now
pub quieted : (p : Phase) (now : Bool) (v : View) → Phased p false v → Phased p now v
quieted p now v k = grind arith

-- ---- what the peer says

pub rst_comes : (n : ℕ) (busy : Option ℕ) (zero : Bool) (p : Phase) (q : Bool) (v : View) → Sees q busy → Settled p q → Phased p q v
    → Phased (owes_answer p) q (view_after_reset (record { by = n; sent = false; busy = busy; zero = zero }) v)
rst_comes n busy zero p true v b s k = let m : busy ≡ None = b.none refl in let c = behind-purged p.waiting in let l = leads-purged p.waiting k.order in let t = leads-some p.waiting in grind (arith, on_lists)
rst_comes n busy zero p false v b s k = let m = b.some refl in let c = behind-purged p.waiting in let l = leads-purged p.waiting k.order in let t = leads-some p.waiting in grind (arith, on_lists)

pub rrp_comes : (n : ℕ) (busy : Option ℕ) (zero : Bool) (p : Phase) (q : Bool) (v : View) → Settled p q → Phased p q v
    → Phased (hears_rrp p) q (view_after_reply (record { by = n; sent = false; busy = busy; zero = zero }) v)
rrp_comes n busy zero p q v s k = go v.host.wait refl v.suspended refl
  where
    go : (w : Wait) → v.host.wait ≡ w → (r : Bool) → v.suspended ≡ r → Phased (hears_rrp p) q (view_after_reply (record { by = n; sent = false; busy = busy; zero = zero }) v)
    go Answered e r f = let t = leads-some p.waiting in grind arith
    go Even e r f = let t = leads-some p.waiting in grind arith
    go Waiting e r f = let t = leads-some p.waiting in grind arith

-- the host acts on no less
pub rrp_acts : (n : ℕ) (busy : Option ℕ) (zero : Bool) (p : Phase) (q : Bool) (v : View) → Phased p q v → (view_after_reply (record { by = n; sent = false; busy = busy; zero = zero }) v).acted ≡ v.acted
rrp_acts n busy zero p q v k = let t = k.told in grind arith

-- it ends no suspension while the host is up
pub rrp_ends_rest : (n : ℕ) (busy : Option ℕ) (zero : Bool) (p : Phase) (q : Bool) (v : View) → up p ≡ true → Phased p q v → (view_after_reply (record { by = n; sent = false; busy = busy; zero = zero }) v).suspended ≡ false → v.suspended ≡ false
rrp_ends_rest n busy zero p q v u k r = let t = k.told in let w = k.waits in grind arith

-- a session that is suspended is judged no more than before
pub suspended_so : (p : Phase) (q : Bool) (v : View) (one other overlapped : Bool) → Phased p q v → Phased p q (record v { suspended = v.suspended || one || other; overlapped = overlapped })
suspended_so p q v one other overlapped k = grind arith

-- after a control message with room for one more command none is queued
pub roomed : (me : ℕ) (busy : Option ℕ) (zero room : Bool) (p : Phase) (q : Bool) (v : View) → (room ≡ true → p.waiting ≡ []) → Phased p q v
    → Phased p q (after_room (record { by = me; sent = true; busy = busy; zero = zero }) room v)
roomed me busy zero false p q v e k = k
roomed me busy zero true p q v e k = let none : p.waiting ≡ [] = e refl in go v.host.wait refl
  where
    go : (w : Wait) → v.host.wait ≡ w → Phased p q (after_room (record { by = me; sent = true; busy = busy; zero = zero }) true v)
    go Answered f = let none : p.waiting ≡ [] = e refl in let t = leads-some p.waiting in grind arith
    go Even f = grind arith
    go Waiting f = grind arith

-- any other received item keeps the phase; if the host acts on it while an RRP is queued, that is seen, or
-- the session is suspended
pub other_comes : (n : ℕ) (busy : Option ℕ) (zero : Bool) (what : ItemKind) (p : Phase) (q : Bool) (v : View) → Sees q busy → Phased p q v
    → Phased p q (after_thing (record { by = n; sent = false; busy = busy; zero = zero }) what v)
    × (up p ≡ true → (after_thing (record { by = n; sent = false; busy = busy; zero = zero }) what v).suspended ≡ false → (after_thing (record { by = n; sent = false; busy = busy; zero = zero }) what v).acted ≡ false → rrps p.waiting ≡ 0)
other_comes n busy zero what p true v b k = let none : busy ≡ None = b.none refl in (grind arith, grind arith)
other_comes n busy zero what p false v b k = let some = b.some refl in (grind arith, grind arith)
