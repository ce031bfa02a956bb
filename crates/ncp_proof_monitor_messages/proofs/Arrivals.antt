-- What is seen at each interface of the other host, through a message that comes, is lost, or is answered.
use Rattle.std.proofs.Common.{◌≡◌, ℕ, ◌==◌, Bool, true, false, if◌then◌else◌, List, [], ◌∷◌, ◌++◌, Some, refl, sym, ap, ◌∙◌, subst}
use Rattle.std.proofs.lemmas.Bool.{eqb-true, eq-eqb}
use Rattle.ncp_wire.specs.declared.answer.Answer.{Answer}
use Rattle.ncp_wire.specs.declared.command.Command.{Command}
use Rattle.ncp_slot.specs.declared.slot.Slot.{Slot}
use Rattle.ncp_slot.specs.Slot.{is_empty, answered}
use Rattle.ncp_slot.specs.Slots.{LinkSlot, LinkSlots, slot_at, is_quiet}
use Rattle.ncp_model.proofs.ResetLists.{others, after_rst}
use Rattle.ncp_peer.specs.PeerState.{PeerState, answer_comes}
use Rattle.ncp_transcript_two.specs.Subnet.{Holds, Free, Accepted, Delivered, set_at}
use Rattle.ncp_transcript_two.specs.World.{World, swap}
use Rattle.ncp_transcript_two.specs.Underway.{not_come, commands_out, underway}
use Rattle.ncp_monitor.specs.declared.finding.Finding.{Finding}
use Rattle.ncp_monitor.specs.declared.view.ObservedPhase.{ObservedPhase}
use Rattle.ncp_monitor.specs.declared.view.View.{View}
use Rattle.ncp_monitor.specs.Views.{awaits_reply}
use Rattle.ncp_proof_monitor.proofs.HostSlots.{answer_here, answer_there}
use Rattle.ncp_proof_monitor.proofs.Phased.{Phased}
use Rattle.ncp_proof_monitor.proofs.PhaseSteps.{Unheard}
use Rattle.ncp_proof_monitor.proofs.PhaseSeen.{quiet_same}
use Rattle.ncp_proof_monitor_messages.proofs.PeerSeen.{Beside, Within, starts, AllHeard}
use Rattle.ncp_proof_monitor_messages.proofs.Counts.{line, Counts, within_of, beside_of, recount}
use Rattle.ncp_proof_monitor_messages.proofs.Bare.{control_answered}
use Rattle.ncp_proof_monitor_messages.proofs.Toward.{Opens, Toward, peer_waits, quiet_waits}
use Rattle.ncp_proof_monitor_messages.proofs.OwnOut.{Alike, beside_alike}
use Rattle.ncp_proof_monitor_messages.proofs.Moves.{not_zero}

pub both_ways_off : (b : Bool) → b ≡ true → b ≡ false → ⊥
both_ways_off true e f = absurd (cc f)
both_ways_off false e f = absurd (cc e)

-- ---- it is lost, or its destination is dead

abbrev pub goes_lost : ℕ → Holds → World → World
goes_lost on how v = record v { going = set_at on how v.going }

pub line_lost : (on : ℕ) (m : List Bool) (as_what : Holds) (v : World) → slot_at v.this.slots on ≡ Slot.Travelling m → v.going on ≡ Accepted m → not_come (Slot.Travelling m) as_what ≡ Some m → line v.this (set_at on as_what v.going) ≡ line v.this v.going
line_lost on m as_what v s e l = go (on == 0) refl
  where
    zero_on : slot_at v.this.slots 0 ≡ Slot.Travelling m → v.going 0 ≡ Accepted m → line v.this (set_at 0 as_what v.going) ≡ line v.this v.going
    zero_on s e =
        ap (λ (x : LinkSlot). commands_out (not_come x as_what)) s ∙ ap commands_out l
        ∙ sym (ap (λ (h : Holds). commands_out (not_come (Slot.Travelling m) h)) e) ∙ sym (ap (λ (x : LinkSlot). commands_out (not_come x (v.going 0))) s)

    go : (b : Bool) → (on == 0) ≡ b → line v.this (set_at on as_what v.going) ≡ line v.this v.going
    go true z = subst (λ (j : ℕ). slot_at v.this.slots j ≡ Slot.Travelling m → v.going j ≡ Accepted m → line v.this (set_at j as_what v.going) ≡ line v.this v.going) (sym (eqb-true on 0 z)) zero_on s e
    go false z = ap (λ (b : Bool). commands_out (not_come (slot_at v.this.slots 0) (if b then as_what else v.going 0))) (not_zero on z)

module _ (on : ℕ) (m : List Bool) (as_what : Holds) (v : World) (s : slot_at v.this.slots on ≡ Slot.Travelling m) (e : v.going on ≡ Accepted m) (l : not_come (Slot.Travelling m) as_what ≡ Some m) where
  pub lost_there : (view : View) (began : Bool) → Toward v view began → Toward (goes_lost on as_what v) view began
  lost_there view began t = record {
    beside = t.beside;
    calm = λ x. ap others (line_lost on m as_what v s e l) ∙ t.calm x;
    bare = λ x. let b = t.bare x in record { unheard = b.unheard; this_quiet = b.this_quiet; that_quiet = b.that_quiet; none = b.none };
    opens = λ x. subst (λ (cs : List Command). Opens cs began) (sym (line_lost on m as_what v s e l)) (t.opens x);
  }

  pub lost_here : (view : View) (began : Bool) → Toward (swap v) view began → Toward (swap (goes_lost on as_what v)) view began
  lost_here view began t = record {
    beside = t.beside;
    calm = t.calm;
    bare = λ x. let b = t.bare x in record { unheard = b.unheard; this_quiet = b.this_quiet; that_quiet = b.that_quiet; none = ap others (line_lost on m as_what v s e l) ∙ b.none };
    opens = t.opens;
  }

-- ---- it is answered

abbrev pub is_told : ℕ → Answer → World → World
is_told on a v = record v { this = answer_comes on a v.this; going = set_at on Free v.going }

pub line_reported : (on : ℕ) (m : List Bool) (a : Answer) (h : Holds) (v : World) → slot_at v.this.slots on ≡ Slot.Travelling m → v.going on ≡ h → not_come (answered a (Slot.Travelling m)) Free ≡ not_come (Slot.Travelling m) h
    → line (is_told on a v).this (is_told on a v).going ≡ line v.this v.going
line_reported on m a h v s e l = go (on == 0) refl
  where
    zero_on : slot_at v.this.slots 0 ≡ Slot.Travelling m → v.going 0 ≡ h → line (is_told 0 a v).this (is_told 0 a v).going ≡ line v.this v.going
    zero_on s e =
        ap (λ (x : LinkSlot). commands_out (not_come x Free)) (answer_here 0 a v.this ∙ ap (answered a) s) ∙ ap commands_out l
        ∙ sym (ap (λ (k : Holds). commands_out (not_come (Slot.Travelling m) k)) e) ∙ sym (ap (λ (x : LinkSlot). commands_out (not_come x (v.going 0))) s)

    go : (b : Bool) → (on == 0) ≡ b → line (is_told on a v).this (is_told on a v).going ≡ line v.this v.going
    go true z = subst (λ (j : ℕ). slot_at v.this.slots j ≡ Slot.Travelling m → v.going j ≡ h → line (is_told j a v).this (is_told j a v).going ≡ line v.this v.going) (sym (eqb-true on 0 z)) zero_on s e
    go false z =
        ap (λ (x : LinkSlot). commands_out (not_come x (if 0 == on then Free else v.going 0))) (answer_there on 0 a v.this (λ x. let nay : true ≡ false = sym (eq-eqb on 0 (sym x)) ∙ z in absurd (cc)))
        ∙ ap (λ (b : Bool). commands_out (not_come (slot_at v.this.slots 0) (if b then Free else v.going 0))) (not_zero on z)

module _ (on : ℕ) (m : List Bool) (a : Answer) (h : Holds) (v : World) (s : slot_at v.this.slots on ≡ Slot.Travelling m) (e : v.going on ≡ h) (l : not_come (answered a (Slot.Travelling m)) Free ≡ not_come (Slot.Travelling m) h)
    (busy : (on == 0) ≡ false → is_quiet v.this.slots ≡ false) where
  same_line : line (is_told on a v).this (is_told on a v).going ≡ line v.this v.going
  same_line = line_reported on m a h v s e l

  quiet_reported : is_quiet v.this.slots ≡ true → is_quiet (is_told on a v).this.slots ≡ true
  quiet_reported q = go (on == 0) refl
    where
      zero_on : is_quiet (answer_comes 0 a v.this).slots ≡ true
      zero_on = quiet_same (answer_comes 0 a v.this).slots v.this.slots (λ k z. ap is_empty (answer_there 0 k a v.this (λ x. let nay : true ≡ false = sym (eq-eqb k 0 x) ∙ z in absurd (cc)))) ∙ q

      go : (b : Bool) → (on == 0) ≡ b → is_quiet (is_told on a v).this.slots ≡ true
      go true z = subst (λ (j : ℕ). is_quiet (answer_comes j a v.this).slots ≡ true) (sym (eqb-true on 0 z)) zero_on
      go false z = absurd (both_ways_off (is_quiet v.this.slots) q (busy z))

  unheard_reported : is_quiet v.this.slots ≡ true → Unheard v.this.peer.ends → Unheard (is_told on a v).this.peer.ends
  unheard_reported q u = go (on == 0) refl
    where
      go : (b : Bool) → (on == 0) ≡ b → Unheard (is_told on a v).this.peer.ends
      go true z = subst (λ (j : ℕ). Unheard (answer_comes j a v.this).peer.ends) (sym (eqb-true on 0 z)) (control_answered a v.this u)
      go false z = absurd (both_ways_off (is_quiet v.this.slots) q (busy z))

  pub reported_there : (view : View) (began : Bool) → Toward v view began → Toward (is_told on a v) view began
  reported_there view began t = record {
    beside = t.beside;
    calm = λ x. ap others same_line ∙ t.calm x;
    bare = λ x. let b = t.bare x in record { unheard = unheard_reported b.this_quiet b.unheard; this_quiet = quiet_reported b.this_quiet; that_quiet = b.that_quiet; none = b.none };
    opens = λ x. subst (λ (cs : List Command). Opens cs began) (sym same_line) (t.opens x);
  }

  pub told_here : (view : View) (began : Bool) → Counts (swap v) → Counts (swap (is_told on a v)) → Toward (swap v) view began → Toward (swap (is_told on a v)) view began
  told_here view began c d t = record {
    beside = recount (swap v) (swap (is_told on a v)) view c d refl same_line refl t.beside;
    calm = t.calm;
    bare = λ x. let b = t.bare x in record { unheard = b.unheard; this_quiet = b.this_quiet; that_quiet = quiet_reported b.that_quiet; none = ap others same_line ∙ b.none };
    opens = t.opens;
  }

-- ---- it comes

abbrev pub comes_on : ℕ → PeerState → World → World
comes_on on now v = record v { that = now; going = set_at on Delivered v.going }

-- commands
module _ (m : List Bool) (cs : List Command) (now : PeerState) (v : World) (slots : now.slots ≡ v.that.slots) (s : slot_at v.this.slots 0 ≡ Slot.Travelling m) (is : line v.this v.going ≡ cs) where
  pub none_left : line v.this (set_at 0 Delivered v.going) ≡ []
  none_left = ap (λ (x : LinkSlot). commands_out (not_come x Delivered)) s

  pub line_back : line now v.coming ≡ line v.that v.coming
  line_back = ap (λ (x : LinkSlots). commands_out (not_come (slot_at x 0) (v.coming 0))) slots

  pub before_all : (view : View) → Counts v → Beside v.that.peer.phase view → Within v.this.peer.phase (line v.that v.coming) (cs ++ v.this.peer.phase.waiting) view
  before_all view c b = subst (λ (xs : List Command). Within v.this.peer.phase (line v.that v.coming) (xs ++ v.this.peer.phase.waiting) view) is (within_of v view c b)

  pub still_all : Counts v → after_rst (cs ++ v.this.peer.phase.waiting) ≡ []
  still_all c = subst (λ (xs : List Command). after_rst (xs ++ v.this.peer.phase.waiting) ≡ []) is c.still

  pub calm_all : others (underway v.this v.going) ≡ [] → others (cs ++ v.this.peer.phase.waiting) ≡ []
  calm_all e = subst (λ (xs : List Command). others (xs ++ v.this.peer.phase.waiting) ≡ []) is e

  starts_so : (xs : List Command) (began : Bool) → Opens xs began → starts xs ≡ true
  starts_so [] began o = refl
  starts_so (c ∷ xs) began o = o

  pub starts_all : (view : View) (began : Bool) → Toward v view began → view.peer.began ≡ false → starts cs ≡ true
  starts_all view began t x = starts_so cs began (subst (λ (xs : List Command). Opens xs began) is (t.opens x))

  pub heard_there : (view first after : View) (began : Bool) (found : List Finding) → Counts (comes_on 0 now v) → Alike view first → AllHeard cs v.this.peer.phase (line v.that v.coming) v.this.peer.phase.waiting first after found → Toward v view began
      → Toward (comes_on 0 now v) after began
  heard_there view first after began found d a k t = record {
    beside = beside_of (comes_on 0 now v) after d
        (subst (λ (x : List Command). Within v.this.peer.phase x (line v.this (set_at 0 Delivered v.going) ++ v.this.peer.phase.waiting) after) (sym line_back)
        (subst (λ (u : List Command). Within v.this.peer.phase (line v.that v.coming) (u ++ v.this.peer.phase.waiting) after) (sym none_left) k.within));
    calm = λ x. ap others none_left;
    bare = λ x. let b = t.bare (was x) in record { unheard = b.unheard; this_quiet = b.this_quiet; that_quiet = ap is_quiet slots ∙ b.that_quiet; none = ap others line_back ∙ b.none };
    opens = λ x. subst (λ (xs : List Command). Opens xs began) (sym none_left) (subst (λ (xs : List Command). Opens xs began) (is ∙ k.empty x) (t.opens (was x)));
  }
    where
      was : after.peer.began ≡ false → view.peer.began ≡ false
      was x = ap (λ (y : ObservedPhase). y.began) (sym a.peer) ∙ go first.peer.began refl
        where
          go : (b : Bool) → first.peer.began ≡ b → first.peer.began ≡ false
          go true f = let nay : true ≡ false = sym (k.stays f) ∙ x in absurd (cc)
          go false f = f

  pub heard_here : (view : View) (began after : Bool) → after ≡ began → (others cs ≡ [] → Unheard v.that.peer.ends → Unheard now.peer.ends) → Toward (swap v) view began → Toward (swap (comes_on 0 now v)) view after
  heard_here view began after same u t = record {
    beside = t.beside;
    calm = λ x. ap others line_back ∙ t.calm x;
    bare = λ x. let b = t.bare x in record { unheard = u (ap others (sym is) ∙ b.none) b.unheard; this_quiet = ap is_quiet slots ∙ b.this_quiet; that_quiet = b.that_quiet; none = ap others none_left };
    opens = λ x. subst (Opens (line now v.coming)) (sym same) (subst (λ (xs : List Command). Opens xs began) (sym line_back) (t.opens x));
  }

-- a text
module _ (on : ℕ) (now : PeerState) (v : World) (z : (on == 0) ≡ false) (slots : now.slots ≡ v.that.slots) (busy : is_quiet v.this.slots ≡ false) where
  pub line_same : line v.this (set_at on Delivered v.going) ≡ line v.this v.going
  line_same = ap (λ (b : Bool). commands_out (not_come (slot_at v.this.slots 0) (if b then Delivered else v.going 0))) (not_zero on z)

  pub back_same : line now v.coming ≡ line v.that v.coming
  back_same = ap (λ (x : LinkSlots). commands_out (not_come (slot_at x 0) (v.coming 0))) slots

  pub began_before : (view : View) (began : Bool) → Toward v view began → view.peer.began ≡ true
  began_before view began t = go view.peer.began refl
    where
      go : (b : Bool) → view.peer.began ≡ b → b ≡ true
      go true e = refl
      go false e = absurd (both_ways_off (is_quiet v.this.slots) (t.bare e).this_quiet busy)

  pub no_wait : (view own : View) (began : Bool) → Counts v → Phased v.this.peer.phase (is_quiet v.this.slots) own → Beside v.this.peer.phase own → Toward v view began → awaits_reply view.peer.wait ≡ false
  no_wait view own began c k b t = go (awaits_reply view.peer.wait) refl
    where
      go : (w : Bool) → awaits_reply view.peer.wait ≡ w → w ≡ false
      go false e = refl
      go true e = absurd (both_ways_off (is_quiet v.this.slots) (quiet_waits v.this.peer.phase (is_quiet v.this.slots) own k b (peer_waits v view c t.beside e)) busy)

  pub text_heard_there : (view after : View) (began : Bool) → Counts v → Counts (comes_on on now v) → Alike view after → Toward v view began → Toward (comes_on on now v) after began
  text_heard_there view after began c d a t = record {
    beside = recount v (comes_on on now v) after c d refl back_same (ap (λ (xs : List Command). xs ++ v.this.peer.phase.waiting) line_same) (beside_alike v.that.peer.phase view after a t.beside);
    calm = λ x. ap others line_same ∙ t.calm (ap (λ (y : ObservedPhase). awaits_reply y.wait) (sym a.peer) ∙ x);
    bare = λ x. absurd (both_ways_off (is_quiet v.this.slots) (t.bare (ap (λ (y : ObservedPhase). y.began) (sym a.peer) ∙ x)).this_quiet busy);
    opens = λ x. absurd (both_ways_off (is_quiet v.this.slots) (t.bare (ap (λ (y : ObservedPhase). y.began) (sym a.peer) ∙ x)).this_quiet busy);
  }

  pub text_heard_here : (view : View) (began after : Bool) → Toward (swap v) view began → Toward (swap (comes_on on now v)) view after
  text_heard_here view began after t = record {
    beside = t.beside;
    calm = λ x. ap others back_same ∙ t.calm x;
    bare = λ x. absurd (both_ways_off (is_quiet v.this.slots) (t.bare x).that_quiet busy);
    opens = λ x. absurd (both_ways_off (is_quiet v.this.slots) (t.bare x).that_quiet busy);
  }
