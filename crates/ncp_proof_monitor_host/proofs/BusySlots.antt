-- A text in the slot of a data link is that of a sending end that heard the link and is busy, after any
-- event of the ends while no reset is pending.
use Rattle.std.proofs.Common.{◌≡◌, ℕ, ◌==◌, Bool, true, false, List, [], Option, None, Some, refl, sym, ap, ◌∙◌, subst, arith}
use Rattle.std.specs.FinMap.{get}
use Rattle.std.specs.Ordering.{eq_by_cmp}
use Rattle.std.proofs.lemmas.Map.Views.{tells_apart}
use Rattle.ncp_wire.specs.declared.command.Command.{Command}
use Rattle.ncp_slot.specs.Slot.{is_empty}
use Rattle.ncp_slot.specs.Slots.{LinkSlots, slot_at}
use Rattle.ncp_model.specs.declared.pair.Pair.{Pair}
use Rattle.ncp_model.specs.Pairs.{pair_cmp, sends, receives}
use Rattle.ncp_model.specs.Endpoint.{Endpoint}
use Rattle.ncp_model.specs.Effect.{Effect, end_after}
use Rattle.ncp_model.specs.Texts.{Rfnm, Incomplete, Dead, hear_text}
use Rattle.ncp_model.specs.Ends.{Ends, any, count, is_by_peer, hears_link, uses_link, sender_on, receiver_on, pair_of, demux_command, hear, text_in, cut_in, answered_in, map_after, map_after_at}
use Rattle.ncp_model.specs.Demux.{passes, comes}
use Rattle.ncp_model.specs.EndpointEvents.{EndpointEvent, Transition, happens}
use Rattle.ncp_model.proofs.PairOrder.{pairs_exact}
use Rattle.ncp_model.proofs.EndsAfter.{after-at, after-elsewhere}
use Rattle.ncp_model.proofs.LinksDemux.{itself, led, command-led, cut-led}
use Rattle.ncp_proof_endpoint.specs.Sound.{SoundAt}
use Rattle.ncp_peer.specs.Soundness.{is_end_busy, pair_hears_link}
use Rattle.ncp_host.proofs.Steady.{stays-heard}

-- the end whose text is on the link
abbrev pub HasText : Ends → ℕ → Type 0
HasText m on = (p : Pair) × (pair_hears_link on p m ≡ true) × (is_end_busy (get m p) ≡ true)

abbrev pub BusySlots : Ends → LinkSlots → Type 0
BusySlots m slots = (on : ℕ) → ((on ≡ 0) → ⊥) → is_empty (slot_at slots on) ≡ false → HasText m on

-- no slot of a data link is filled that was empty
abbrev pub FillsNone : LinkSlots → LinkSlots → Type 0
FillsNone slots now = (on : ℕ) → ((on ≡ 0) → ⊥) → is_empty (slot_at now on) ≡ false → is_empty (slot_at slots on) ≡ false

pub busy_less : (m : Ends) (slots now : LinkSlots) → FillsNone slots now → BusySlots m slots → BusySlots m now
busy_less m slots now f b on d e = b on d (f on d e)

-- ---- a busy end stays, but for its RFNM and a clearing

abbrev pub is_kept : EndpointEvent → Bool
is_kept (EndpointEvent.Is_answered Rfnm) = false
is_kept EndpointEvent.Is_cleared = false
is_kept what = true

one_way : (pair : Pair) → sends pair ≡ true → receives pair ≡ false
one_way pair s = grind arith

module _ (pair : Pair) (e : Endpoint) (sound : SoundAt pair (Some e)) (busy : e.busy ≡ true) where
  pub keeps_busy : (what : EndpointEvent) → is_kept what ≡ true → is_end_busy (happens pair what (Some e)).after ≡ true
  keeps_busy (EndpointEvent.Closes full) k = let o = sound.out busy in let s = sound.sender busy in grind arith
  keeps_busy (EndpointEvent.Takes bytes) k = let s = sound.sender busy in let r = one_way pair s in grind arith
  keeps_busy EndpointEvent.Cls_comes k = let o = sound.out busy in let s = sound.sender busy in grind arith
  keeps_busy (EndpointEvent.Is_answered Rfnm) k = absurd (cc k)
  keeps_busy (EndpointEvent.Is_answered Incomplete) k = busy
  keeps_busy (EndpointEvent.Is_answered Dead) k = busy
  keeps_busy EndpointEvent.Is_cleared k = absurd (cc k)
  keeps_busy c k = let o = sound.out busy in grind arith

-- with the link that it heard
text_stays : (on : ℕ) (pair : Pair) (what : EndpointEvent) (before after : Option Endpoint) → is_kept what ≡ true → SoundAt pair before → (happens pair what before).after ≡ after → passes (hears_link on) pair before ≡ true → is_end_busy before ≡ true
    → (passes (hears_link on) pair after ≡ true) × (is_end_busy after ≡ true)
text_stays on pair what None after k s h l b = absurd (cc b)
text_stays on pair what (Some x) None k s h l b = let nay : false ≡ true = ap is_end_busy (sym h) ∙ keeps_busy pair x s b what k in absurd (cc nay)
text_stays on pair what (Some x) (Some e) k s h l b = (stays-heard on pair what x e h l, ap is_end_busy (sym h) ∙ keeps_busy pair x s b what k)

-- ---- one end becomes another, and no other end changes

module _ (m n : Ends) (slots now : LinkSlots) (p : Pair) (else_same : (q : Pair) → ((q ≡ p) → ⊥) → get n q ≡ get m q) where
  text_elsewhere : (on : ℕ) (q : Pair) → ((q ≡ p) → ⊥) → pair_hears_link on q m ≡ true → is_end_busy (get m q) ≡ true → HasText n on
  text_elsewhere on q d h b = (q, ap (passes (hears_link on) q) (else_same q d) ∙ h, ap is_end_busy (else_same q d) ∙ b)

  -- if the text of the end that changes stays its own
  busy_changed : (here : (on : ℕ) → pair_hears_link on p m ≡ true → is_end_busy (get m p) ≡ true → (pair_hears_link on p n ≡ true) × (is_end_busy (get n p) ≡ true))
      → (fresh : (on : ℕ) → ((on ≡ 0) → ⊥) → is_empty (slot_at now on) ≡ false → is_empty (slot_at slots on) ≡ true → HasText n on) → BusySlots m slots → BusySlots n now
  busy_changed here fresh busy on d e = go (is_empty (slot_at slots on)) refl
    where
      at : (t : HasText m on) (b : Bool) → eq_by_cmp pair_cmp t.0 p ≡ b → HasText n on
      at t true s =
          let same : t.0 ≡ p = tells_apart pairs_exact t.0 p s in
          let k = here on (subst (λ (q : Pair). pair_hears_link on q m ≡ true) same t.1) (subst (λ (q : Pair). is_end_busy (get m q) ≡ true) same t.2) in
          (p, k.0, k.1)
      at t false s = text_elsewhere on t.0 (is_not t.0 s) t.1 t.2
        where
          is_not : (q : Pair) → eq_by_cmp pair_cmp q p ≡ false → (q ≡ p) → ⊥
          is_not q f z = let t : eq_by_cmp pair_cmp q p ≡ true = ap (λ (y : Pair). eq_by_cmp pair_cmp y p) z ∙ itself p in cc (f, t)

      go : (b : Bool) → is_empty (slot_at slots on) ≡ b → HasText n on
      go true s = fresh on d e s
      go false s = let t = busy on d s in at t (eq_by_cmp pair_cmp t.0 p) refl

  -- by what happens to it
  pub busy_happens : (what : EndpointEvent) → is_kept what ≡ true → SoundAt p (get m p) → (happens p what (get m p)).after ≡ get n p
      → (fresh : (on : ℕ) → ((on ≡ 0) → ⊥) → is_empty (slot_at now on) ≡ false → is_empty (slot_at slots on) ≡ true → HasText n on) → BusySlots m slots → BusySlots n now
  busy_happens what k s h fresh busy = busy_changed (λ on l b. text_stays on p what (get m p) (get n p) k s h l b) fresh busy

-- no slot is filled
filled_none : (m : Ends) (slots : LinkSlots) (on : ℕ) → ((on ≡ 0) → ⊥) → is_empty (slot_at slots on) ≡ false → is_empty (slot_at slots on) ≡ true → HasText m on
filled_none m slots on d e s = let nay : false ≡ true = sym e ∙ s in absurd (cc nay)

-- an act at a pair
pub busy_act : {A : Type 0} → (m : Ends) (slots : LinkSlots) (p : Pair) (what : EndpointEvent) (act : Effect A) → is_kept what ≡ true → SoundAt p (get m p) → (happens p what (get m p)).after ≡ end_after (get m p) act → BusySlots m slots → BusySlots (map_after m p act) slots
busy_act m slots p what act k s h busy =
    busy_happens m (map_after m p act) slots slots p (λ q d. after-elsewhere m p q act d) what k s (h ∙ sym (after-at m p act)) (filled_none (map_after m p act) slots) busy

-- a call of the user
pub busy_put : (m n : Ends) (slots : LinkSlots) (p : Pair) (what : EndpointEvent) → is_kept what ≡ true → SoundAt p (get m p) → get n p ≡ (happens p what (get m p)).after → ((q : Pair) → ((q ≡ p) → ⊥) → get n q ≡ get m q) → BusySlots m slots → BusySlots n slots
busy_put m n slots p what k s h else_same busy = busy_happens m n slots slots p else_same what k s (sym h) (filled_none n slots) busy

-- ---- a command comes

busy_comes : (m : Ends) (slots : LinkSlots) (c : Command) (what : EndpointEvent) → ((p : Pair) → SoundAt p (get m p)) → comes c m ≡ Some what → is_kept what ≡ true → (o : Option Pair) → demux_command c m ≡ o → BusySlots m slots → BusySlots (map_after_at m o (hear c m)) slots
busy_comes m slots c what sound k s None e busy = busy
busy_comes m slots c what sound k s (Some p) e busy = busy_act m slots p what (hear c m) s (sound p) (ap (λ (h : Transition). h.after) (command-led m c p what e k).1) busy

pub busy_hears : (m : Ends) (slots : LinkSlots) (c : Command) → ((p : Pair) → SoundAt p (get m p)) → BusySlots m slots → BusySlots (map_after_at m (demux_command c m) (hear c m)) slots
busy_hears m slots (Command.Rts receive send on) s b = busy_comes m slots (Command.Rts receive send on) (EndpointEvent.Rts_comes on (any (hears_link on) m) (count is_by_peer m)) s refl refl (demux_command (Command.Rts receive send on) m) refl b
busy_hears m slots (Command.Str send receive of_size) s b = busy_comes m slots (Command.Str send receive of_size) (EndpointEvent.Str_comes of_size (count is_by_peer m)) s refl refl (demux_command (Command.Str send receive of_size) m) refl b
busy_hears m slots (Command.Cls my your) s b = busy_comes m slots (Command.Cls my your) EndpointEvent.Cls_comes s refl refl (demux_command (Command.Cls my your) m) refl b
busy_hears m slots (Command.All on x y) s b = busy_comes m slots (Command.All on x y) (EndpointEvent.All_comes on x y) s refl refl (demux_command (Command.All on x y) m) refl b
busy_hears m slots (Command.Gvb on x y) s b = busy_comes m slots (Command.Gvb on x y) (EndpointEvent.Gvb_comes on x y) s refl refl (demux_command (Command.Gvb on x y) m) refl b
busy_hears m slots (Command.Ret on x y) s b = busy_comes m slots (Command.Ret on x y) (EndpointEvent.Ret_comes on x y) s refl refl (demux_command (Command.Ret on x y) m) refl b
busy_hears m slots (Command.Inr on) s b = busy_comes m slots (Command.Inr on) (EndpointEvent.Inr_comes on) s refl refl (demux_command (Command.Inr on) m) refl b
busy_hears m slots (Command.Ins on) s b = busy_comes m slots (Command.Ins on) (EndpointEvent.Ins_comes on) s refl refl (demux_command (Command.Ins on) m) refl b
busy_hears m slots c s b = b

-- a text comes
pub busy_text : (m : Ends) (slots : LinkSlots) (on of_size : ℕ) (text : List Bool) → ((p : Pair) → SoundAt p (get m p)) → BusySlots m slots → BusySlots (map_after_at m (pair_of (receiver_on on m)) (text_in on of_size text m)) slots
busy_text m slots on of_size text sound busy = go (pair_of (receiver_on on m)) refl
  where
    go : (o : Option Pair) → pair_of (receiver_on on m) ≡ o → BusySlots (map_after_at m o (text_in on of_size text m)) slots
    go None e = busy
    go (Some p) e = busy_act m slots p (EndpointEvent.Text_comes [] of_size text) (text_in on of_size text m) refl (sound p) (ap (λ x. end_after (get m p) (hear_text of_size text x)) (led (uses_link on) m p e).0) busy

-- ---- a text is sent: the end is busy, and only its slot is filled

pub busy_cut : (m : Ends) (slots now : LinkSlots) (on : ℕ) (p : Pair) → pair_of (sender_on on m) ≡ Some p → SoundAt p (get m p) → is_end_busy (get (map_after m p (cut_in on m)) p) ≡ true
    → ((by : ℕ) → ((by ≡ on) → ⊥) → is_empty (slot_at now by) ≡ false → is_empty (slot_at slots by) ≡ false) → BusySlots m slots → BusySlots (map_after m p (cut_in on m)) now
busy_cut m slots now on p e sound cut same busy = busy_happens m n slots now p (λ q d. after-elsewhere m p q (cut_in on m) d) EndpointEvent.Text_goes_out refl sound h fresh busy
  where
    n : Ends
    n = map_after m p (cut_in on m)

    h : (happens p EndpointEvent.Text_goes_out (get m p)).after ≡ get n p
    h = ap (λ (x : Transition). x.after) (cut-led m on p e).1 ∙ sym (after-at m p (cut_in on m))

    heard : (before after : Option Endpoint) → (happens p EndpointEvent.Text_goes_out before).after ≡ after → passes (hears_link on) p before ≡ true → is_end_busy after ≡ true → passes (hears_link on) p after ≡ true
    heard None after k l b = absurd (cc l)
    heard (Some x) None k l b = absurd (cc b)
    heard (Some x) (Some y) k l b = stays-heard on p EndpointEvent.Text_goes_out x y k l

    fresh : (by : ℕ) → ((by ≡ 0) → ⊥) → is_empty (slot_at now by) ≡ false → is_empty (slot_at slots by) ≡ true → HasText n by
    fresh by d f s = go (by == on) refl
      where
        go : (b : Bool) → (by == on) ≡ b → HasText n by
        go true k = let z : on ≡ by = grind (arith, k) in subst (HasText n) z (p, heard (get m p) (get n p) h (led (hears_link on) m p e).1 cut, cut)
        go false k = let nay : false ≡ true = sym (same by (λ z. absurd (grind (arith, k, z))) f) ∙ s in absurd (cc nay)

-- ---- an RFNM: the end that heard the link is no longer busy, and its slot is empty

one_link : (on by : ℕ) (pair : Pair) (o : Option Endpoint) → passes (hears_link on) pair o ≡ true → passes (hears_link by) pair o ≡ true → by ≡ on
one_link on by pair None h k = absurd (cc h)
one_link on by pair (Some e) h k = grind arith

pub busy_freed : (m : Ends) (slots now : LinkSlots) (on : ℕ) → is_empty (slot_at now on) ≡ true → ((by : ℕ) → ((by ≡ on) → ⊥) → is_empty (slot_at now by) ≡ false → is_empty (slot_at slots by) ≡ false)
    → BusySlots m slots → BusySlots (map_after_at m (pair_of (sender_on on m)) (answered_in on Rfnm m)) now
busy_freed m slots now on gone same busy = go (pair_of (sender_on on m)) refl
  where
    was : (by : ℕ) → ((by ≡ 0) → ⊥) → is_empty (slot_at now by) ≡ false → ((by ≡ on) → ⊥) × HasText m by
    was by d e =
        let other : (by ≡ on) → ⊥ = (λ z. let nay : true ≡ false = sym (ap (λ (y : ℕ). is_empty (slot_at now y)) z ∙ gone) ∙ e in cc nay) in
        (other, busy by d (same by other e))

    go : (o : Option Pair) → pair_of (sender_on on m) ≡ o → BusySlots (map_after_at m o (answered_in on Rfnm m)) now
    go None k by d e = (was by d e).1
    go (Some p) k by d e = at (was by d e).1
      where
        at : HasText m by → HasText (map_after m p (answered_in on Rfnm m)) by
        at t =
            let apart : (t.0 ≡ p) → ⊥ = (λ z. (was by d e).0 (one_link on by p (get m p) (led (hears_link on) m p k).1 (subst (λ (q : Pair). pair_hears_link by q m ≡ true) z t.1))) in
            let s = after-elsewhere m p t.0 (answered_in on Rfnm m) apart in
            (t.0, ap (passes (hears_link by) t.0) s ∙ t.1, ap is_end_busy s ∙ t.2)
