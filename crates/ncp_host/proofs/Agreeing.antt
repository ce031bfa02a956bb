-- Two sending ends never hear one link, and the text of an end that is out is in the slot of the link that
-- the end heard: whatever happens to the ends.
use Rattle.std.proofs.Common.{◌≡◌, ℕ, ◌==◌, Bool, true, false, cond, Option, None, Some, List, [], refl, sym, ap, ◌∙◌, subst, arith}
use Rattle.std.specs.FinMap.{get, get-empty, get-insert, get-remove}
use Rattle.std.specs.Ordering.{eq_by_cmp}
use Rattle.std.proofs.lemmas.Map.Views.{tells_apart}
use Rattle.ncp_wire.specs.declared.command.Command.{Command}
use Rattle.ncp_wire.specs.declared.command.Command.TheVariants as commands
use Rattle.ncp_slot.specs.Slot.{is_empty}
use Rattle.ncp_slot.specs.Slots.{LinkSlots, slot_at}
use Rattle.ncp_model.specs.declared.pair.Pair.{Pair}
use Rattle.ncp_model.specs.Pairs.{pair_cmp}
use Rattle.ncp_model.specs.Endpoint.{Endpoint}
use Rattle.ncp_model.specs.Effect.{Effect, end_after}
use Rattle.ncp_model.specs.Texts.{Rfnm, hear_text}
use Rattle.ncp_model.specs.Ends.{Ends, any, count, is_by_peer, hears_link, uses_link, sender_on, receiver_on, pair_of, demux_command, hear, text_in, cut_in, answered_in, map_after, map_after_at, no_ends, put}
use Rattle.ncp_model.specs.Demux.{passes, comes}
use Rattle.ncp_model.specs.EndpointEvents.{EndpointEvent, Transition, happens}
use Rattle.ncp_model.specs.EndpointEvents as all
use Rattle.ncp_model.proofs.PairOrder.{pairs_exact, pairs_total}
use Rattle.ncp_model.proofs.EndsAfter.{after-at, after-elsewhere}
use Rattle.ncp_model.proofs.LinksDemux.{itself, led, command-led, cut-led, answered-led}
use Rattle.ncp_model.proofs.Lookups.{any-none, leads-there}
use Rattle.ncp_peer.specs.Soundness.{is_end_busy, pair_hears_link, IsOut, Agree}
use Rattle.ncp_host.proofs.Steady.{is_still, stays-busy, stays-heard, NewLink, new-link, freed}

pub agree-empty : (slots : LinkSlots) → Agree no_ends slots
agree-empty slots = record {
  one = λ on p q h k. absurd (cc (h, ap (passes (hears_link on) p) (get-empty pair_cmp p)));
  out = λ p b. absurd (cc (b, ap is_end_busy (get-empty pair_cmp p)));
}

abbrev pub StaysFull : LinkSlots → LinkSlots → Type 0
StaysFull slots now = (on : ℕ) → is_empty (slot_at slots on) ≡ false → is_empty (slot_at now on) ≡ false

pub agree-full : (m : Ends) (slots now : LinkSlots) → Agree m slots → StaysFull slots now → Agree m now
agree-full m slots now a full = record { one = a.one; out = λ p b. let o = a.out p b in (o.0, o.1, o.2, full o.0 o.3) }

-- One end becomes another, and no other end changes.
module _ (m n : Ends) (slots now : LinkSlots) (p : Pair) (a : Agree m slots)
    (else_same : (q : Pair) → ((q ≡ p) → ⊥) → get n q ≡ get m q)
    (came : (on : ℕ) → pair_hears_link on p n ≡ true → pair_hears_link on p m ≡ false → any (hears_link on) m ≡ false)
    (out : is_end_busy (get n p) ≡ true → IsOut n now p)
    (full : StaysFull slots now) where
  is : (q : Pair) → eq_by_cmp pair_cmp q p ≡ true → q ≡ p
  is q e = tells_apart pairs_exact q p e

  is_not : (q : Pair) → eq_by_cmp pair_cmp q p ≡ false → (q ≡ p) → ⊥
  is_not q e s = let t : eq_by_cmp pair_cmp q p ≡ true = ap (λ (y : Pair). eq_by_cmp pair_cmp y p) s ∙ itself p in absurd (cc (e, t))

  before : (on : ℕ) (q : Pair) → ((q ≡ p) → ⊥) → pair_hears_link on q n ≡ true → pair_hears_link on q m ≡ true
  before on q d h = ap (passes (hears_link on) q) (sym (else_same q d)) ∙ h

  alone : (on : ℕ) (q : Pair) → ((q ≡ p) → ⊥) → pair_hears_link on p n ≡ true → pair_hears_link on q m ≡ true → ⊥
  alone on q d h k = go (pair_hears_link on p m) refl
    where
      go : (b : Bool) → pair_hears_link on p m ≡ b → ⊥
      go true e = d (a.one on q p k e)
      go false e = let z = any-none (hears_link on) m (came on h e) q in absurd (cc (k, z))

  pairs : (on : ℕ) (q r : Pair) (b : Bool) → eq_by_cmp pair_cmp q p ≡ b → (c : Bool) → eq_by_cmp pair_cmp r p ≡ c → pair_hears_link on q n ≡ true → pair_hears_link on r n ≡ true → q ≡ r
  pairs on q r true e true f h k = is q e ∙ sym (is r f)
  pairs on q r true e false f h k = absurd (alone on r (is_not r f) (subst (λ (y : Pair). pair_hears_link on y n ≡ true) (is q e) h) (before on r (is_not r f) k))
  pairs on q r false e true f h k = absurd (alone on q (is_not q e) (subst (λ (y : Pair). pair_hears_link on y n ≡ true) (is r f) k) (before on q (is_not q e) h))
  pairs on q r false e false f h k = a.one on q r (before on q (is_not q e) h) (before on r (is_not r f) k)

  outs : (q : Pair) (b : Bool) → eq_by_cmp pair_cmp q p ≡ b → is_end_busy (get n q) ≡ true → IsOut n now q
  outs q true e k = subst (λ (y : Pair). IsOut n now y) (sym (is q e)) (out (subst (λ (y : Pair). is_end_busy (get n y) ≡ true) (is q e) k))
  outs q false e k =
      let o = a.out q (ap is_end_busy (sym (else_same q (is_not q e))) ∙ k) in
      (o.0, o.1, ap (passes (hears_link o.0) q) (else_same q (is_not q e)) ∙ o.2, full o.0 o.3)

  pub agree-changed : Agree n now
  agree-changed = record {
    one = λ on q r h k. pairs on q r (eq_by_cmp pair_cmp q p) refl (eq_by_cmp pair_cmp r p) refl h k;
    out = λ q k. outs q (eq_by_cmp pair_cmp q p) refl k;
  }

-- an RTS that comes is told whether another end heard its link
abbrev pub IsTold : Ends → EndpointEvent → Type 0
IsTold m (all.Rts_comes on taken by_peer) = taken ≡ any (hears_link on) m
IsTold m what = Unit {0}

taken_not : (on : ℕ) (m : Ends) (what : EndpointEvent) → IsTold m what → NewLink on what → any (hears_link on) m ≡ false
taken_not on m (all.Rts_comes by taken by_peer) t l = ap (λ (k : ℕ). any (hears_link k) m) l.0 ∙ sym t ∙ l.1
taken_not on m what t l = absurd l

came_of : (on : ℕ) (m : Ends) (p : Pair) (what : EndpointEvent) (after : Option Endpoint) → IsTold m what → (happens p what (get m p)).after ≡ after → passes (hears_link on) p after ≡ true → pair_hears_link on p m ≡ false → any (hears_link on) m ≡ false
came_of on m p what None t h k no_link = absurd (cc k)
came_of on m p what (Some e) t h k no_link = taken_not on m what t (new-link on p what (get m p) e h k no_link)

busy_of : (p : Pair) (what : EndpointEvent) (before after : Option Endpoint) → is_still what ≡ true → (happens p what before).after ≡ after → is_end_busy after ≡ true → is_end_busy before ≡ true
busy_of p what before None s h b = absurd (cc b)
busy_of p what before (Some e) s h b = stays-busy p what before e h s b

heard_of : (on : ℕ) (p : Pair) (what : EndpointEvent) (before after : Option Endpoint) → (happens p what before).after ≡ after → is_end_busy after ≡ true → passes (hears_link on) p before ≡ true → passes (hears_link on) p after ≡ true
heard_of on p what None after h b k = absurd (cc k)
heard_of on p what (Some x) None h b k = absurd (cc b)
heard_of on p what (Some x) (Some e) h b k = stays-heard on p what x e h k

-- what happens to one end, but that its text goes out
pub agree-happens : (m n : Ends) (slots : LinkSlots) (p : Pair) (what : EndpointEvent) → Agree m slots → is_still what ≡ true → IsTold m what
    → ((q : Pair) → ((q ≡ p) → ⊥) → get n q ≡ get m q) → (happens p what (get m p)).after ≡ get n p → Agree n slots
agree-happens m n slots p what a s t else_same h =
    agree-changed m n slots slots p a else_same
    (λ on k no_link. came_of on m p what (get n p) t h k no_link)
    (λ b. let o = a.out p (busy_of p what (get m p) (get n p) s h b) in (o.0, o.1, heard_of o.0 p what (get m p) (get n p) h b o.2, o.3))
    (λ on k. k)

-- a call of the user
pub agree-put : (m : Ends) (slots : LinkSlots) (p : Pair) (what : EndpointEvent) → Agree m slots → is_still what ≡ true → IsTold m what → Agree (put m p (happens p what (get m p)).after) slots
agree-put m slots p what a s t =
    agree-happens m (put m p (happens p what (get m p)).after) slots p what a s t (λ q d. beside q d (happens p what (get m p)).after) (sym (at_it (happens p what (get m p)).after))
  where
    at_it : (after : Option Endpoint) → get (put m p after) p ≡ after
    at_it None = get-remove pairs_total m p p ∙ ap (λ b. cond b None (get m p)) (itself p)
    at_it (Some e) = get-insert pairs_total m p e p ∙ ap (λ b. cond b (Some e) (get m p)) (itself p)

    other : (q : Pair) → ((q ≡ p) → ⊥) → eq_by_cmp pair_cmp q p ≡ false
    other q d = go (eq_by_cmp pair_cmp q p) refl
      where
        go : (b : Bool) → eq_by_cmp pair_cmp q p ≡ b → eq_by_cmp pair_cmp q p ≡ false
        go true t = absurd (d (tells_apart pairs_exact q p t))
        go false t = t

    beside : (q : Pair) → ((q ≡ p) → ⊥) → (after : Option Endpoint) → get (put m p after) q ≡ get m q
    beside q d None = get-remove pairs_total m p q ∙ ap (λ b. cond b None (get m q)) (other q d)
    beside q d (Some e) = get-insert pairs_total m p e q ∙ ap (λ b. cond b (Some e) (get m q)) (other q d)

-- an act at a pair
agree-act : {A : Type 0} → (m : Ends) (slots : LinkSlots) (p : Pair) (what : EndpointEvent) (act : Effect A) → Agree m slots → is_still what ≡ true → IsTold m what → (happens p what (get m p)).after ≡ end_after (get m p) act → Agree (map_after m p act) slots
agree-act m slots p what act a s t h = agree-happens m (map_after m p act) slots p what a s t (λ q d. after-elsewhere m p q act d) (h ∙ sym (after-at m p act))

-- a command comes
comes_to : (m : Ends) (slots : LinkSlots) (c : Command) (what : EndpointEvent) → Agree m slots → comes c m ≡ Some what → is_still what ≡ true → IsTold m what → (o : Option Pair) → demux_command c m ≡ o → Agree (map_after_at m o (hear c m)) slots
comes_to m slots c what a k s t None e = a
comes_to m slots c what a k s t (Some p) e = agree-act m slots p what (hear c m) a s t (ap (λ (h : Transition). h.after) (command-led m c p what e k).1)

pub agree-hears : (m : Ends) (slots : LinkSlots) (c : Command) → Agree m slots → Agree (map_after_at m (demux_command c m) (hear c m)) slots
agree-hears m slots (commands.Rts receive send on) a = comes_to m slots (commands.Rts receive send on) (all.Rts_comes on (any (hears_link on) m) (count is_by_peer m)) a refl refl refl (demux_command (commands.Rts receive send on) m) refl
agree-hears m slots (commands.Str send receive of_size) a = comes_to m slots (commands.Str send receive of_size) (all.Str_comes of_size (count is_by_peer m)) a refl refl tt (demux_command (commands.Str send receive of_size) m) refl
agree-hears m slots (commands.Cls my your) a = comes_to m slots (commands.Cls my your) all.Cls_comes a refl refl tt (demux_command (commands.Cls my your) m) refl
agree-hears m slots (commands.All on x y) a = comes_to m slots (commands.All on x y) (all.All_comes on x y) a refl refl tt (demux_command (commands.All on x y) m) refl
agree-hears m slots (commands.Gvb on x y) a = comes_to m slots (commands.Gvb on x y) (all.Gvb_comes on x y) a refl refl tt (demux_command (commands.Gvb on x y) m) refl
agree-hears m slots (commands.Ret on x y) a = comes_to m slots (commands.Ret on x y) (all.Ret_comes on x y) a refl refl tt (demux_command (commands.Ret on x y) m) refl
agree-hears m slots (commands.Inr on) a = comes_to m slots (commands.Inr on) (all.Inr_comes on) a refl refl tt (demux_command (commands.Inr on) m) refl
agree-hears m slots (commands.Ins on) a = comes_to m slots (commands.Ins on) (all.Ins_comes on) a refl refl tt (demux_command (commands.Ins on) m) refl
agree-hears m slots c a = a

-- a text comes
pub agree-text : (m : Ends) (slots : LinkSlots) (on of_size : ℕ) (text : List Bool) → Agree m slots → Agree (map_after_at m (pair_of (receiver_on on m)) (text_in on of_size text m)) slots
agree-text m slots on of_size text a = go (pair_of (receiver_on on m)) refl
  where
    go : (o : Option Pair) → pair_of (receiver_on on m) ≡ o → Agree (map_after_at m o (text_in on of_size text m)) slots
    go None e = a
    go (Some p) e = agree-act m slots p (all.Text_comes [] of_size text) (text_in on of_size text m) a refl tt (ap (λ x. end_after (get m p) (hear_text of_size text x)) (led (uses_link on) m p e).0)

-- a text goes out
pub agree-cut : (m : Ends) (slots now : LinkSlots) (on : ℕ) → Agree m slots → ((on ≡ 0) → ⊥) → StaysFull slots now → is_empty (slot_at now on) ≡ false → Agree (map_after_at m (pair_of (sender_on on m)) (cut_in on m)) now
agree-cut m slots now on a ne full there = go (pair_of (sender_on on m)) refl
  where
    go : (o : Option Pair) → pair_of (sender_on on m) ≡ o → Agree (map_after_at m o (cut_in on m)) now
    go None e = agree-full m slots now a full
    go (Some p) e =
        let h : (happens p all.Text_goes_out (get m p)).after ≡ get (map_after m p (cut_in on m)) p = ap (λ (x : Transition). x.after) (cut-led m on p e).1 ∙ sym (after-at m p (cut_in on m)) in
        agree-changed m (map_after m p (cut_in on m)) slots now p a (λ q d. after-elsewhere m p q (cut_in on m) d)
        (λ by k no_link. came_of by m p all.Text_goes_out (get (map_after m p (cut_in on m)) p) tt h k no_link)
        (λ b. (on, ne, heard_of on p all.Text_goes_out (get m p) (get (map_after m p (cut_in on m)) p) h b (led (hears_link on) m p e).1, there))
        full

-- a text was taken, and its slot is empty now

freed_of : (on : ℕ) (p : Pair) (before after : Option Endpoint) → (happens p (all.Is_answered Rfnm) before).after ≡ after → is_end_busy after ≡ true → passes (hears_link on) p after ≡ true → ⊥
freed_of on p before None h b k = absurd (cc b)
freed_of on p before (Some e) h b k = absurd (cc (b, freed on p before e h k))

differs : (x on : ℕ) → (x == on) ≡ false → (x ≡ on) → ⊥
differs x on e s = absurd (grind arith)

equals : (x on : ℕ) → (x == on) ≡ true → x ≡ on
equals x on e = grind arith

-- no text of the ends is in the slot that becomes empty
pub agree-emptied : (m : Ends) (slots now : LinkSlots) (on : ℕ) → Agree m slots → ((by : ℕ) → ((by ≡ on) → ⊥) → slot_at now by ≡ slot_at slots by)
    → ((p : Pair) → ((on ≡ 0) → ⊥) → is_end_busy (get m p) ≡ true → pair_hears_link on p m ≡ true → ⊥) → Agree m now
agree-emptied m slots now on a same none = record { one = a.one; out = λ p b. let o = a.out p b in go p b o (o.0 == on) refl }
  where
    go : (p : Pair) → is_end_busy (get m p) ≡ true → (o : IsOut m slots p) → (b : Bool) → (o.0 == on) ≡ b → IsOut m now p
    go p k o true e = absurd (none p (λ z. o.1 (equals o.0 on e ∙ z)) k (subst (λ (y : ℕ). pair_hears_link y p m ≡ true) (equals o.0 on e) o.2))
    go p k o false e = (o.0, o.1, o.2, ap is_empty (same o.0 (differs o.0 on e)) ∙ o.3)

pub agree-freed : (m : Ends) (slots now : LinkSlots) (on : ℕ) → Agree m slots → ((by : ℕ) → ((by ≡ on) → ⊥) → slot_at now by ≡ slot_at slots by) → Agree (map_after_at m (pair_of (sender_on on m)) (answered_in on Rfnm m)) now
agree-freed m slots now on a same = go (pair_of (sender_on on m)) refl
  where
    leads : (p : Pair) → pair_hears_link on p m ≡ true → pair_of (sender_on on m) ≡ Some p
    leads p h = leads-there (hears_link on) m p h (λ q k. a.one on q p k h)

    go : (o : Option Pair) → pair_of (sender_on on m) ≡ o → Agree (map_after_at m o (answered_in on Rfnm m)) now
    go None e = agree-emptied m slots now on a same (λ p z b h. absurd (cc (e, leads p h)))
    go (Some p) e = agree-emptied (map_after m p (answered_in on Rfnm m)) slots now on first same (λ q z b h. none q (eq_by_cmp pair_cmp q p) refl b h)
      where
        happened : (happens p (all.Is_answered Rfnm) (get m p)).after ≡ end_after (get m p) (answered_in on Rfnm m)
        happened = ap (λ (x : Transition). x.after) (answered-led m on Rfnm p e).1

        first : Agree (map_after m p (answered_in on Rfnm m)) slots
        first = agree-act m slots p (all.Is_answered Rfnm) (answered_in on Rfnm m) a refl tt happened

        none : (q : Pair) (b : Bool) → eq_by_cmp pair_cmp q p ≡ b → is_end_busy (get (map_after m p (answered_in on Rfnm m)) q) ≡ true → pair_hears_link on q (map_after m p (answered_in on Rfnm m)) ≡ true → ⊥
        none q true f k h =
            let s : q ≡ p = tells_apart pairs_exact q p f in
            freed_of on p (get m p) (get (map_after m p (answered_in on Rfnm m)) p) (happened ∙ sym (after-at m p (answered_in on Rfnm m)))
            (subst (λ (y : Pair). is_end_busy (get (map_after m p (answered_in on Rfnm m)) y) ≡ true) s k)
            (subst (λ (y : Pair). pair_hears_link on y (map_after m p (answered_in on Rfnm m)) ≡ true) s h)
        none q false f k h =
            let d : (q ≡ p) → ⊥ = (λ s. let t : eq_by_cmp pair_cmp q p ≡ true = ap (λ (y : Pair). eq_by_cmp pair_cmp y p) s ∙ itself p in absurd (cc (f, t))) in
            let was : pair_hears_link on q m ≡ true = ap (passes (hears_link on) q) (sym (after-elsewhere m p q (answered_in on Rfnm m) d)) ∙ h in
            d (a.one on q p was (led (hears_link on) m p e).1)
