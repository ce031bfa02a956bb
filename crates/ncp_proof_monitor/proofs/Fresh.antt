-- A sent message is new if nothing was kept for its link. The state kept for the data links shows whether
-- they are quiet.
use Rattle.std.proofs.Common.{◌≡◌, ◌⊎◌, inl, inr, ℕ, ◌≤◌, ◌==◌, Bool, true, false, cond, not, ◌&&◌, ◌||◌, nat_le, List, [], ◌∷◌, ◌++◌, length, Option, None, Some, is_some, position, filter, refl, sym, ap, ◌∙◌, subst, arith}
use Rattle.std.specs.List.{list_all}
use Rattle.std.proofs.lemmas.Bool.{eqb-true, and_parts}
use Rattle.ncp_slot.specs.declared.slot.Slot.TheVariants.{Empty}
use Rattle.ncp_slot.specs.Slot.{is_empty}
use Rattle.ncp_slot.specs.Slots.{LinkSlot, is_quiet, slot_at}
use Rattle.ncp_slot.proofs.Places.{is_quiet-tells}
use Rattle.ncp_model.specs.Peers.{Peer}
use Rattle.ncp_peer.specs.PeerState.{PeerState}
use Rattle.ncp_peer.specs.Output.{output_by, links}
use Rattle.ncp_host.specs.Host.{is_one_of}
use Rattle.ncp_interface.specs.declared.sent_message.SentMessage.{SentMessage}
use Rattle.ncp_interface.specs.declared.sent_message.LinkState.{LinkState}
use Rattle.ncp_interface.specs.Slots.{is_slot_empty, busy_link_at, is_of, makes_link_busy, same_bits, kept_at, kept_slot, same_at, busy_link}
use Rattle.ncp_monitor.specs.Judged.{is_fresh, changes_slot}
use Rattle.ncp_proof_monitor.proofs.KeptOne.{middle_get, Placed, placed, taken}
use Rattle.ncp_proof_monitor.proofs.PhaseLists.{itself, at_least}
use Rattle.ncp_proof_monitor.proofs.Phased.{Sees}
use Rattle.ncp_proof_monitor.proofs.Shown.{ShowsOne, Shows, only, all_same}

-- ---- a new message

pub record New (known : LinkState) (same : Bool) (s : LinkSlot) : Type 0 where
  pub fresh : is_fresh known same ≡ is_empty s
  pub kept : changes_slot known same ≡ false

pub is_new : (p : SentMessage → Bool) (kept : List SentMessage) (s : LinkSlot) (n on : ℕ) (peer : Peer) (bits : List Bool) → Shows (filter p kept) s → output_by s n on peer ≡ Some bits
    → New (kept_slot true kept (position p kept)) (same_at kept (position p kept) bits) s
is_new p kept s n on peer bits h ready = go (placed p kept)
  where
    alike : (m : List Bool) → Some m ≡ Some bits → same_bits m bits ≡ true
    alike m e = let is : m ≡ bits = cc in ap (λ (xs : List Bool). same_bits xs bits) is ∙ all_same bits

    one : (k : LinkState) (m : List Bool) → ShowsOne k m s → New k (same_bits m bits) s
    one LinkState.Unknown m e = absurd e
    one LinkState.Empty m e = record { fresh = ap is_empty (sym e); kept = refl }
    one LinkState.Out m e = let nay : None ≡ Some bits = ap (λ (x : LinkSlot). output_by x n on peer) (sym e) ∙ ready in absurd (cc)
    one LinkState.Came m e = let nay : None ≡ Some bits = ap (λ (x : LinkSlot). output_by x n on peer) (sym e) ∙ ready in absurd (cc)
    one LinkState.Again m (inl e) =
        let same = alike m (ap (λ (x : LinkSlot). output_by x n on peer) (sym e) ∙ ready) in
        record { fresh = ap not same ∙ ap is_empty (sym e); kept = ap not same }
    one LinkState.Again m (inr e) = let nay : None ≡ Some bits = ap (λ (x : LinkSlot). output_by x n on peer) (sym e) ∙ ready in absurd (cc)

    go : ((position p kept ≡ None) × (filter p kept ≡ [])) ⊎ Placed p kept → New (kept_slot true kept (position p kept)) (same_at kept (position p kept) bits) s
    go (inl none) =
        let e : s ≡ Empty = subst (λ (xs : List SentMessage). Shows xs s) none.1 h in
        subst (λ (o : Option ℕ). New (kept_slot true kept o) (same_at kept o bits) s) (sym none.0) (record { fresh = ap is_empty (sym e); kept = refl })
    go (inr r) =
        let is : kept_at kept (length r.before) ≡ r.k = ap (λ (xs : List SentMessage). kept_at xs (length r.before)) r.form ∙ middle_get r.before r.k r.after in
        let all : filter p kept ≡ r.k ∷ filter p r.after = ap (filter p) r.form ∙ taken p r.before r.k r.after r.none r.hit in
        subst (λ (o : Option ℕ). New (kept_slot true kept o) (same_at kept o bits) s) (sym r.at)
        (subst (λ (k : SentMessage). New k.slot (same_bits k.message bits) s) (sym is) (one r.k.slot r.k.message (only r.k (filter p r.after) s (subst (λ (xs : List SentMessage). Shows xs s) all h)).1))

-- ---- the data links

-- only links that are used have a message
abbrev pub OnLinks : PeerState → Type 0
OnLinks s = (on : ℕ) → is_empty (slot_at s.slots on) ≡ false → is_one_of on links ≡ true

pub in_all : (q : ℕ → Bool) (ons : List ℕ) (on : ℕ) → list_all q ons ≡ true → is_one_of on ons ≡ true → q on ≡ true
in_all q [] on a h = absurd (cc)
in_all q (k ∷ ons) on a h = go (k == on) refl h (in_all q ons on (and_parts (q k) (list_all q ons) a).1)
  where
    go : (b : Bool) → (k == on) ≡ b → (b || is_one_of on ons) ≡ true → (is_one_of on ons ≡ true → q on ≡ true) → q on ≡ true
    go true g h rest = ap q (sym (eqb-true k on g)) ∙ (and_parts (q k) (list_all q ons) a).0
    go false g h rest = rest h

pub a_data_link : (on : ℕ) → is_one_of on links ≡ true → (on == 0) ≡ false → (2 ≤ on) × (on ≤ 71)
a_data_link on h z =
    let e : (on == 0 || (nat_le 2 on && nat_le on 71)) ≡ true = in_all (λ (k : ℕ). k == 0 || (nat_le 2 k && nat_le k 71)) links on refl h in
    let both : (nat_le 2 on && nat_le on 71) ≡ true = sym (ap (λ (b : Bool). b || (nat_le 2 on && nat_le on 71)) z) ∙ e in
    let parts = and_parts (nat_le 2 on) (nat_le on 71) both in
    (at_least 2 on parts.0, at_least on 71 parts.1)

filled : (slot : LinkSlot) → slot ≡ Empty → is_empty slot ≡ true
filled slot e = ap is_empty e

-- one that has a message is not quiet
pub not_quiet : (s : PeerState) (on : ℕ) → OnLinks s → (on == 0) ≡ false → is_empty (slot_at s.slots on) ≡ false → is_quiet s.slots ≡ false
not_quiet s on a z e = go (is_quiet s.slots) refl
  where
    go : (b : Bool) → is_quiet s.slots ≡ b → b ≡ false
    go false q = refl
    go true q =
        let l = a_data_link on (a on e) z in
        let nay : true ≡ false = sym (filled (slot_at s.slots on) ((is_quiet-tells s.slots).0 q on l.0 l.1)) ∙ e in
        absurd (cc)

-- ---- what is kept of the data links

shows_in : (before : List SentMessage) (k : SentMessage) (after : List SentMessage) (s : LinkSlot) → Shows (before ++ k ∷ after) s → ShowsOne k.slot k.message s
shows_in [] k after s h = (only k after s h).1
shows_in (x ∷ []) k after s h = absurd h
shows_in (x ∷ y ∷ before) k after s h = absurd h

filter_in : (p : SentMessage → Bool) (before : List SentMessage) (k : SentMessage) (after : List SentMessage) → p k ≡ true → filter p (before ++ k ∷ after) ≡ filter p before ++ k ∷ filter p after
filter_in p [] k after e = ap (λ (b : Bool). cond b (k ∷ filter p after) (filter p after)) e
filter_in p (x ∷ before) k after e = go (p x) (filter_in p before k after e)
  where
    go : (b : Bool) → filter p (before ++ k ∷ after) ≡ filter p before ++ k ∷ filter p after
        → cond b (x ∷ filter p (before ++ k ∷ after)) (filter p (before ++ k ∷ after)) ≡ cond b (x ∷ filter p before) (filter p before) ++ k ∷ filter p after
    go true r = ap (λ (ys : List SentMessage). x ∷ ys) r
    go false r = r

filter_passes : (p : SentMessage → Bool) (xs : List SentMessage) (k : SentMessage) (more : List SentMessage) → filter p xs ≡ k ∷ more → p k ≡ true
filter_passes p [] k more e = absurd (cc e)
filter_passes p (x ∷ xs) k more e = go (p x) refl (filter_passes p xs k more)
  where
    go : (b : Bool) → p x ≡ b → (filter p xs ≡ k ∷ more → p k ≡ true) → p k ≡ true
    go true i rest =
        let same : x ∷ filter p xs ≡ k ∷ more = sym (ap (λ (d : Bool). cond d (x ∷ filter p xs) (filter p xs)) i) ∙ e in
        let is : x ≡ k = cc same in
        sym (ap p is) ∙ i
    go false i rest = rest (sym (ap (λ (d : Bool). cond d (x ∷ filter p xs) (filter p xs)) i) ∙ e)

-- what passes two tests
both_pass : (p q : SentMessage → Bool) (xs : List SentMessage) (k : SentMessage) (more : List SentMessage) → filter p xs ≡ k ∷ more → q k ≡ true → filter q xs ≡ [] → ⊥
both_pass p q [] k more e f g = absurd (cc e)
both_pass p q (x ∷ xs) k more e f g = go (p x) refl (q x) refl (λ a b. both_pass p q xs k more a f b)
  where
    go : (b : Bool) → p x ≡ b → (c : Bool) → q x ≡ c → (filter p xs ≡ k ∷ more → filter q xs ≡ [] → ⊥) → ⊥
    go b i true j rest = let nay : x ∷ filter q xs ≡ [] = sym (ap (λ (d : Bool). cond d (x ∷ filter q xs) (filter q xs)) j) ∙ g in absurd (cc nay)
    go true i false j rest =
        let same : x ∷ filter p xs ≡ k ∷ more = sym (ap (λ (d : Bool). cond d (x ∷ filter p xs) (filter p xs)) i) ∙ e in
        let is : x ≡ k = cc same in
        let nay : false ≡ true = sym j ∙ ap q is ∙ f in
        absurd (cc)
    go false i false j rest = rest (sym (ap (λ (d : Bool). cond d (x ∷ filter p xs) (filter p xs)) i) ∙ e) (sym (ap (λ (d : Bool). cond d (x ∷ filter q xs) (filter q xs)) j) ∙ g)

-- one that is busy is of its link, and has a message
record Busy (me n : ℕ) (k : SentMessage) : Type 0 where
  here : is_of me n k.link k ≡ true
  far : (k.link == 0) ≡ false
  full : is_slot_empty k.slot ≡ false

busy_is : (me n : ℕ) (k : SentMessage) → makes_link_busy me n k ≡ true → Busy me n k
busy_is me n k e =
    let one = and_parts (k.from == me && k.to == n && not (k.link == 0)) (not (is_slot_empty k.slot)) e in
    let two = and_parts (k.from == me && k.to == n) (not (k.link == 0)) one.0 in
    record { here = ap (λ (b : Bool). b && k.link == k.link) two.0 ∙ itself k.link; far = not_true (k.link == 0) two.1; full = not_true (is_slot_empty k.slot) one.1 }
  where
    not_true : (b : Bool) → not b ≡ true → b ≡ false
    not_true true e = absurd (cc)
    not_true false e = refl

shown_filled : (k : LinkState) (m : List Bool) (s : LinkSlot) → is_slot_empty k ≡ false → ShowsOne k m s → is_empty s ≡ false
shown_filled LinkState.Unknown m s e h = absurd h
shown_filled LinkState.Empty m s e h = absurd (cc e)
shown_filled LinkState.Out m s e h = ap is_empty h
shown_filled LinkState.Came m s e h = ap is_empty h
shown_filled LinkState.Again m s e (inl h) = ap is_empty h
shown_filled LinkState.Again m s e (inr h) = ap is_empty h

-- what is kept of a link that is not busy shows that its slot is empty
shown_empty : (me n l : ℕ) (kept : List SentMessage) (s : LinkSlot) → (l == 0) ≡ false → filter (makes_link_busy me n) kept ≡ [] → Shows (filter (is_of me n l) kept) s → s ≡ Empty
shown_empty me n l kept s z none h = go (filter (is_of me n l) kept) refl h
  where
    go : (xs : List SentMessage) → filter (is_of me n l) kept ≡ xs → Shows xs s → s ≡ Empty
    go [] e h = h
    go (k ∷ []) e h = by k.slot refl h
      where
        passed : is_of me n l k ≡ true
        passed = filter_passes (is_of me n l) kept k [] e

        nay : is_slot_empty k.slot ≡ false → ⊥
        nay f =
            let one = and_parts (k.from == me && k.to == n) (k.link == l) passed in
            let far : (k.link == 0) ≡ false = ap (λ (j : ℕ). j == 0) (eqb-true k.link l one.1) ∙ z in
            both_pass (is_of me n l) (makes_link_busy me n) kept k [] e
            (ap (λ (b : Bool). b && not (k.link == 0) && not (is_slot_empty k.slot)) one.0 ∙ ap (λ (b : Bool). not b && not (is_slot_empty k.slot)) far ∙ ap not f) none

        by : (x : LinkState) → k.slot ≡ x → ShowsOne x k.message s → s ≡ Empty
        by LinkState.Unknown f h = absurd h
        by LinkState.Empty f h = h
        by LinkState.Out f h = absurd (nay (ap is_slot_empty f))
        by LinkState.Came f h = absurd (nay (ap is_slot_empty f))
        by LinkState.Again f h = absurd (nay (ap is_slot_empty f))
    go (k ∷ other ∷ more) e h = absurd h

-- a data link is seen to be busy where they are not quiet
pub sees_busy : (me n : ℕ) (kept : List SentMessage) (s : PeerState) → ((on : ℕ) → Shows (filter (is_of me n on) kept) (slot_at s.slots on)) → OnLinks s → Sees (is_quiet s.slots) (busy_link me n kept)
sees_busy me n kept s agrees used = go (placed (makes_link_busy me n) kept)
  where
    none_busy : (position (makes_link_busy me n) kept ≡ None) × (filter (makes_link_busy me n) kept ≡ []) → is_quiet s.slots ≡ true
    none_busy none = (is_quiet-tells s.slots).1 (λ l a b. shown_empty me n l kept (slot_at s.slots l) (grind arith) none.1 (agrees l))

    some_busy : Placed (makes_link_busy me n) kept → is_quiet s.slots ≡ false
    some_busy r =
        let b = busy_is me n r.k r.hit in
        let list : filter (is_of me n r.k.link) kept ≡ filter (is_of me n r.k.link) r.before ++ r.k ∷ filter (is_of me n r.k.link) r.after = ap (filter (is_of me n r.k.link)) r.form ∙ filter_in (is_of me n r.k.link) r.before r.k r.after b.here in
        let shown = shows_in (filter (is_of me n r.k.link) r.before) r.k (filter (is_of me n r.k.link) r.after) (slot_at s.slots r.k.link) (subst (λ (xs : List SentMessage). Shows xs (slot_at s.slots r.k.link)) list (agrees r.k.link)) in
        not_quiet s r.k.link used b.far (shown_filled r.k.slot r.k.message (slot_at s.slots r.k.link) b.full shown)

    go : ((position (makes_link_busy me n) kept ≡ None) × (filter (makes_link_busy me n) kept ≡ [])) ⊎ Placed (makes_link_busy me n) kept → Sees (is_quiet s.slots) (busy_link me n kept)
    go (inl none) = record { none = λ q. ap (busy_link_at kept) none.0; some = λ q. absurd (cc (q, none_busy none)) }
    go (inr r) = record { none = λ q. absurd (cc (q, some_busy r)); some = λ q. ap (λ (o : Option ℕ). is_some (busy_link_at kept o)) r.at }
