-- Meant for other crates too: they cite what is public here.
--
-- At each host that was not cleared, no two ends hold one link; and what is underway keeps it so.
use Rattle.std.proofs.Common.{◌≡◌, ℕ, Bool, true, false, cond, if◌then◌else◌, List, [], ◌∷◌, ◌++◌, refl, ap, sym, ◌∙◌, subst, arith}
use Rattle.std.proofs.lemmas.Bool.{both_ways, eqb-true}
use Rattle.ncp_wire.specs.declared.command.Command.{Command}
use Rattle.ncp_wire.specs.declared.command.Command.TheVariants.{Rts}
use Rattle.ncp_model.specs.declared.pair.Pair.{Pair}
use Rattle.ncp_model.specs.Pairs.{sends, counterpart, same}
use Rattle.ncp_model.specs.Endpoint.{Endpoint, or_new}
use Rattle.ncp_model.specs.Ends.{hears_link, uses_link}
use Rattle.ncp_proof_connection.specs.Connections.{Connection}
use Rattle.ncp_proof_connection.specs.Clearings.{Hosted}
use Rattle.ncp_proof_connection.specs.Sharing.{Tagged, Shared, only, tag, connection_at, put_hosted, hears_at, uses_at}
use Rattle.ncp_proof_connection.proofs.Lines.{Comes, Passes, comes_asked}
use Rattle.ncp_proof_connection.proofs.Joint.{to_sender_kind, kinds, Place, Together, Sender_ahead, Receiver_ahead, Joint, live_got}
use Rattle.ncp_proof_connection.proofs.Senders.{kinds_none}
use Rattle.ncp_proof_connection.proofs.Whole.{Inv, turned_receives}
use Rattle.ncp_proof_connection.proofs.Outliving.{Fit}
use Rattle.ncp_proof_connection.proofs.Projecting.{same_refl, same_true, FitAt}
use Rattle.ncp_proof_connection.proofs.Calm.{no_rts, ReceiverCalm}
use Rattle.ncp_proof_connection.proofs.Clear.{Clear, clear_mono, clear_more, clear_own, clear_other, clear_kept, clear_none, clear_unasked, clear_passes}

-- What an end with a link is.

pub hears_from : (on : ℕ) (p : Pair) (e : Endpoint) → sends p ≡ true → e.heard ≡ true → e.link ≡ on → hears_link on (p, e) ≡ true
hears_from on p e s h l = grind arith

pub hears_parts : (on : ℕ) (p : Pair) (e : Endpoint) → hears_link on (p, e) ≡ true → (sends p ≡ true) × (e.heard ≡ true) × (e.link ≡ on)
hears_parts on p e k = (grind arith, grind arith, grind arith)

pub uses_from : (on : ℕ) (p : Pair) (e : Endpoint) → sends p ≡ true → e.asked ≡ true → e.link ≡ on → uses_link on (counterpart p, e) ≡ true
uses_from on p e s h l = let r = turned_receives p s in grind arith

pub uses_parts : (on : ℕ) (p : Pair) (e : Endpoint) → uses_link on (counterpart p, e) ≡ true → (sends p ≡ true) × (e.asked ≡ true) × (e.link ≡ on)
uses_parts on p e k = (grind arith, grind arith, grind arith)

false_if : (b : Bool) → (b ≡ true → ⊥) → b ≡ false
false_if true f = absurd (f refl)
false_if false f = refl

-- The receiving end asks no more: what it asked with is held no more once all has come.
clear_gone : (p : Pair) (on : ℕ) (w : Connection) (cs : List Tagged) → w.to_sender ≡ only p cs → Inv p w → (or_new w.receiver.end).asked ≡ false
    → Clear p on cs (hears_link on (p, or_new w.sender.end)) (or_new w.sender.end).left true → Clear p on cs (hears_link on (p, or_new w.sender.end)) (or_new w.sender.end).left false
clear_gone p on w cs e k a m = go k.core.place k.core.joint
  where
    s : Endpoint
    s = or_new w.sender.end

    r : Endpoint
    r = or_new w.receiver.end

    unheard : s.heard ≡ false → Clear p on cs false s.left true × (hears_link on (p, s) ≡ false)
    unheard h =
        let n : hears_link on (p, s) ≡ false = false_if (hears_link on (p, s)) (λ x. both_ways s.heard h (hears_parts on p s x).1) in
        (subst (λ (b : Bool). Clear p on cs b s.left true) n m, n)

    go : (d : Place) → Joint d s w.sender.past.given r (live_got w.receiver.end w.receiver.past) w.to_receiver w.to_sender w.text → Clear p on cs (hears_link on (p, s)) s.left false
    go Together j =
        let back : Comes s.heard s.cls s.link s.size (kinds to_sender_kind (only p cs)) false r.heard r.left r.link =
        subst (λ (b : Bool). Comes s.heard s.cls s.link s.size (kinds to_sender_kind (only p cs)) b r.heard r.left r.link) a
        (subst (λ (x : List Command). Comes s.heard s.cls s.link s.size (kinds to_sender_kind x) r.asked r.heard r.left r.link) e j.0.back) in
        let h : s.heard ≡ false = false_if s.heard (λ x. both_ways false refl (comes_asked s.heard s.cls s.link s.size (kinds to_sender_kind (only p cs)) false r.heard r.left r.link x back)) in
        let u = unheard h in
        subst (λ (b : Bool). Clear p on cs b s.left false) (sym u.1) (clear_unasked p on cs s.left true false s.heard s.cls s.link s.size r.heard r.left r.link back u.0)
    go Sender_ahead j =
        let u = unheard j.unheard in
        subst (λ (b : Bool). Clear p on cs b s.left false) (sym u.1) (clear_none p on cs s.left true false (sym e ∙ kinds_none to_sender_kind w.to_sender j.none) u.0)
    go Receiver_ahead j = clear_passes p on cs (hears_link on (p, s)) s.left true false s.asked s.heard s.link s.size r.left r.link j.left
        (subst (λ (b : Bool). Passes s.asked s.heard s.link s.size (kinds to_sender_kind (only p cs)) false b r.left r.link) j.unheard
        (subst (λ (b : Bool). Passes s.asked s.heard s.link s.size (kinds to_sender_kind (only p cs)) b r.heard r.left r.link) a
        (subst (λ (x : List Command). Passes s.asked s.heard s.link s.size (kinds to_sender_kind x) r.asked r.heard r.left r.link) e j.passes))) m

abbrev pub asks_at : Shared → ℕ → Pair → Bool
asks_at s on p = if s.receives then uses_at s on p else true

abbrev pub ClearAt : Shared → Pair → ℕ → Type 0
ClearAt s p on = Clear p on s.to_senders (hears_at s on p) (or_new (s.sender p).end).left (asks_at s on p)

pub record LinkFits (s : Shared) : Type 0 where
  pub clear : s.sends ≡ true → (p : Pair) (on : ℕ) → sends p ≡ true → ClearAt s p on
  pub senders : s.sends ≡ true → (p q : Pair) (on : ℕ) → hears_at s on p ≡ true → hears_at s on q ≡ true → p ≡ q
  pub receivers : s.receives ≡ true → (p q : Pair) (on : ℕ) → uses_at s on p ≡ true → uses_at s on q ≡ true → p ≡ q

-- What connection q does, with what it knew of links before: hh says which links it held, ll whether it was left.

pub record Before (q : Pair) (s : Shared) (hh : ℕ → Bool) (ll : Bool) : Type 0 where
  pub own : s.sends ≡ true → (on : ℕ) → Clear q on s.to_senders (hh on) ll (asks_at s on q)
  pub others : s.sends ≡ true → (p : Pair) (on : ℕ) → same q p ≡ false → sends p ≡ true → ClearAt s p on
  pub senders : s.sends ≡ true → (p r : Pair) (on : ℕ) → hears_at s on p ≡ true → hears_at s on r ≡ true → p ≡ r
  pub receivers : s.receives ≡ true → (p r : Pair) (on : ℕ) → uses_at s on p ≡ true → uses_at s on r ≡ true → p ≡ r

pub record Does (q : Pair) (h : Hosted) (s : Shared) (hh : ℕ → Bool) (ll : Bool) : Type 0 where
  pub holds : s.sends ≡ true → (on : ℕ) → hears_link on (q, or_new h.connection.sender.end) ≡ true → hh on ≡ true
  pub left : s.sends ≡ true → ll ≡ true → (or_new h.connection.sender.end).left ≡ true
  pub alone : s.sends ≡ true → (p : Pair) (on : ℕ) → same q p ≡ false → hears_link on (q, or_new h.connection.sender.end) ≡ true → hears_at s on p ≡ true → ⊥

pub before_as : (q : Pair) (s : Shared) → LinkFits s → sends q ≡ true → Before q s (λ on. hears_at s on q) (or_new (s.sender q).end).left
before_as q s k d = record { own = λ e on. k.clear e q on d; others = λ e p on n sp. k.clear e p on sp; senders = k.senders; receivers = k.receivers }

module _ (q : Pair) (h : Hosted) (s : Shared) (hh : ℕ → Bool) (ll : Bool) (b : Before q s hh ll) (d : Does q h s hh ll) where
  -- an end has its link alone, where q has it alone
  distinct_from : (test : ℕ → Pair → Bool) (new : ℕ → Bool) → ((p r : Pair) (on : ℕ) → test on p ≡ true → test on r ≡ true → p ≡ r) → ((p : Pair) (on : ℕ) → same q p ≡ false → new on ≡ true → test on p ≡ true → ⊥)
      → (p r : Pair) (on : ℕ) → cond (same q p) (new on) (test on p) ≡ true → cond (same q r) (new on) (test on r) ≡ true → p ≡ r
  distinct_from test new old alone p r on = go (same q p) (same q r) refl refl
    where
      go : (x y : Bool) → same q p ≡ x → same q r ≡ y → cond x (new on) (test on p) ≡ true → cond y (new on) (test on r) ≡ true → p ≡ r
      go true true e f m n = sym (same_true q p e) ∙ same_true q r f
      go true false e f m n = absurd (alone r on f m n)
      go false true e f m n = absurd (alone p on e n m)
      go false false e f m n = old p r on m n

  at_other : (p : Pair) → same q p ≡ false → no_rts h.connection.to_sender ≡ true → s.sends ≡ true → (on : ℕ) → sends p ≡ true → ClearAt (put_hosted q h s) p on
  at_other p e n k on sp = rw e (clear_more p on s.to_senders (tag q h.connection.to_sender) (hears_at s on p) (or_new (s.sender p).end).left (asks_at s on p) (asks_at s on p)
      (λ h2 l2 w. clear_other q p on h.connection.to_sender h2 l2 (asks_at s on p) e n w) (b.others k p on e sp))

  hears_put : (p : Pair) (on : ℕ) → hears_at (put_hosted q h s) on p ≡ cond (same q p) (hears_link on (q, or_new h.connection.sender.end)) (hears_at s on p)
  hears_put p on = go (same q p) refl
    where
      go : (x : Bool) → same q p ≡ x → hears_link on (p, or_new (cond x h.connection.sender (s.sender p)).end) ≡ cond x (hears_link on (q, or_new h.connection.sender.end)) (hears_at s on p)
      go true e = ap (λ (r : Pair). hears_link on (r, or_new h.connection.sender.end)) (sym (same_true q p e))
      go false e = refl

  uses_put : (p : Pair) (on : ℕ) → uses_at (put_hosted q h s) on p ≡ cond (same q p) (uses_link on (counterpart q, or_new h.connection.receiver.end)) (uses_at s on p)
  uses_put p on = go (same q p) refl
    where
      go : (x : Bool) → same q p ≡ x → uses_link on (counterpart p, or_new (cond x h.connection.receiver (s.receiver p)).end) ≡ cond x (uses_link on (counterpart q, or_new h.connection.receiver.end)) (uses_at s on p)
      go true e = ap (λ (r : Pair). uses_link on (counterpart r, or_new h.connection.receiver.end)) (sym (same_true q p e))
      go false e = refl

  senders_after : s.sends ≡ true → (p r : Pair) (on : ℕ) → hears_at (put_hosted q h s) on p ≡ true → hears_at (put_hosted q h s) on r ≡ true → p ≡ r
  senders_after k p r on m n =
      distinct_from (λ on p. hears_at s on p) (λ on. hears_link on (q, or_new h.connection.sender.end)) (b.senders k) (d.alone k) p r on (sym (hears_put p on) ∙ m) (sym (hears_put r on) ∙ n)

  abbrev Own : ℕ → Bool → Type 0
  Own on a = Clear q on (s.to_senders ++ tag q h.connection.to_sender) (hears_link on (q, or_new h.connection.sender.end)) (or_new h.connection.sender.end).left a

  at_own : (on : ℕ) → Own on (if s.receives then uses_link on (counterpart q, or_new h.connection.receiver.end) else true) → ClearAt (put_hosted q h s) q on
  at_own on k = rw (same_refl q) k

  -- What is made is no RTS.

  module _ (n : no_rts h.connection.to_sender ≡ true) (fit : FitAt (put_hosted q h s) q) (rc : s.receives ≡ true → ReceiverCalm (s.receiver q).end h.connection.receiver.end) where
    loose : s.sends ≡ true → (on : ℕ) → Own on true
    loose k on = clear_mono q on (s.to_senders ++ tag q h.connection.to_sender) (hh on) (hears_link on (q, or_new h.connection.sender.end)) ll (or_new h.connection.sender.end).left true true
        (d.holds k on) (d.left k) (λ e. e)
        (clear_more q on s.to_senders (tag q h.connection.to_sender) (hh on) ll (asks_at s on q) true (λ h2 l2 w. clear_own q on h.connection.to_sender h2 l2) (b.own k on))

    own_after : s.sends ≡ true → (on : ℕ) → Own on (if s.receives then uses_link on (counterpart q, or_new h.connection.receiver.end) else true)
    own_after k on = go s.receives refl
      where
        asked : s.receives ≡ true → (or_new h.connection.receiver.end).asked ≡ true → Own on (uses_link on (counterpart q, or_new h.connection.receiver.end))
        asked r a = clear_mono q on (s.to_senders ++ tag q h.connection.to_sender) (hh on) (hears_link on (q, or_new h.connection.sender.end)) ll (or_new h.connection.sender.end).left (asks_at s on q) (uses_link on (counterpart q, or_new h.connection.receiver.end))
            (d.holds k on) (d.left k)
            (λ e. let u = uses_parts on q (or_new (s.receiver q).end) (subst (λ (x : Bool). (if x then uses_at s on q else true) ≡ true) r e) in uses_from on q (or_new h.connection.receiver.end) u.0 a ((rc r a).1 ∙ u.2))
            (clear_more q on s.to_senders (tag q h.connection.to_sender) (hh on) ll (asks_at s on q) (asks_at s on q) (λ h2 l2 w. clear_kept q on h.connection.to_sender h2 l2 (asks_at s on q) n w) (b.own k on))

        gone : s.receives ≡ true → (or_new h.connection.receiver.end).asked ≡ false → Own on (uses_link on (counterpart q, or_new h.connection.receiver.end))
        gone r a =
            let whole : Inv q (connection_at q (put_hosted q h s)) = subst (λ (x : Bool). Fit q x true (connection_at q (put_hosted q h s))) k (subst (λ (x : Bool). Fit q s.sends x (connection_at q (put_hosted q h s))) r fit) in
            let c : Clear q on (put_hosted q h s).to_senders (hears_link on (q, or_new ((put_hosted q h s).sender q).end)) (or_new ((put_hosted q h s).sender q).end).left false =
            clear_gone q on (connection_at q (put_hosted q h s)) (put_hosted q h s).to_senders refl whole (rw (same_refl q) a) (rw (same_refl q) (loose k on)) in
            clear_mono q on (s.to_senders ++ tag q h.connection.to_sender) (hears_link on (q, or_new h.connection.sender.end)) (hears_link on (q, or_new h.connection.sender.end)) (or_new h.connection.sender.end).left (or_new h.connection.sender.end).left false (uses_link on (counterpart q, or_new h.connection.receiver.end))
            (λ e. e) (λ e. e) (λ e. absurd (both_ways false refl e)) (rw (same_refl q) at c)

        by_asked : (x : Bool) → (or_new h.connection.receiver.end).asked ≡ x → s.receives ≡ true → Own on (uses_link on (counterpart q, or_new h.connection.receiver.end))
        by_asked true a r = asked r a
        by_asked false a r = gone r a

        go : (x : Bool) → s.receives ≡ x → Own on (if x then uses_link on (counterpart q, or_new h.connection.receiver.end) else true)
        go true r = by_asked (or_new h.connection.receiver.end).asked refl r
        go false r = loose k on

    pub put_links : LinkFits (put_hosted q h s)
    put_links = record {
      clear = λ k p on sp. by_pair k p on sp (same q p) refl;
      senders = senders_after;
      receivers = λ k p r on m w. distinct_from (λ on p. uses_at s on p) (λ on. uses_link on (counterpart q, or_new h.connection.receiver.end)) (b.receivers k) (alone k) p r on (sym (uses_put p on) ∙ m) (sym (uses_put r on) ∙ w);
    }
      where
        by_pair : s.sends ≡ true → (p : Pair) (on : ℕ) → sends p ≡ true → (x : Bool) → same q p ≡ x → ClearAt (put_hosted q h s) p on
        by_pair k p on sp true e = subst (λ (r : Pair). ClearAt (put_hosted q h s) r on) (same_true q p e) (at_own on (own_after k on))
        by_pair k p on sp false e = at_other p e n k on sp

        alone : s.receives ≡ true → (p : Pair) (on : ℕ) → same q p ≡ false → uses_link on (counterpart q, or_new h.connection.receiver.end) ≡ true → uses_at s on p ≡ true → ⊥
        alone k p on e m w =
            let u = uses_parts on q (or_new h.connection.receiver.end) m in
            let old = rc k u.1 in
            both_ways (same q p) e (subst (λ (r : Pair). same q r ≡ true) (b.receivers k q p on (uses_from on q (or_new (s.receiver q).end) u.0 old.0 (sym old.1 ∙ u.2)) w) (same_refl q))

  -- The receiving end asks with a link that none uses, and makes its RTS.

  module _ (i j on0 : ℕ) (made : h.connection.to_sender ≡ Rts i j on0 ∷ []) (sq : sends q ≡ true) (asked : (or_new h.connection.receiver.end).asked ≡ true) (link : (or_new h.connection.receiver.end).link ≡ on0)
      (there : s.receives ≡ true) (free : (p : Pair) → uses_at s on0 p ≡ true → ⊥) where
    pub put_asks : LinkFits (put_hosted q h s)
    put_asks = record {
      clear = λ k p on sp. by_pair k p on sp (same q p) refl;
      senders = senders_after;
      receivers = λ k p r on m w. distinct_from (λ on p. uses_at s on p) (λ on. uses_link on (counterpart q, or_new h.connection.receiver.end)) (b.receivers k) (alone k) p r on (sym (uses_put p on) ∙ m) (sym (uses_put r on) ∙ w);
    }
      where
        alone : s.receives ≡ true → (p : Pair) (on : ℕ) → same q p ≡ false → uses_link on (counterpart q, or_new h.connection.receiver.end) ≡ true → uses_at s on p ≡ true → ⊥
        alone k p on e m w =
            let u = uses_parts on q (or_new h.connection.receiver.end) m in
            free p (subst (λ (x : ℕ). uses_at s x p ≡ true) (sym u.2 ∙ link) w)

        taken : (on : ℕ) (h2 l2 : Bool) → Clear q on (tag q (Rts i j on0 ∷ [])) h2 l2 (uses_link on (counterpart q, or_new h.connection.receiver.end))
        taken on h2 l2 = rw (same_refl q) (tt, λ e. uses_from on q (or_new h.connection.receiver.end) sq asked (link ∙ eqb-true on0 on e))

        own_after : s.sends ≡ true → (on : ℕ) → Own on (if s.receives then uses_link on (counterpart q, or_new h.connection.receiver.end) else true)
        own_after k on = subst (λ (x : Bool). Own on (if x then uses_link on (counterpart q, or_new h.connection.receiver.end) else true)) (sym there)
            (clear_mono q on (s.to_senders ++ tag q h.connection.to_sender) (hh on) (hears_link on (q, or_new h.connection.sender.end)) ll (or_new h.connection.sender.end).left (uses_link on (counterpart q, or_new h.connection.receiver.end)) (uses_link on (counterpart q, or_new h.connection.receiver.end))
            (d.holds k on) (d.left k) (λ e. e)
            (clear_more q on s.to_senders (tag q h.connection.to_sender) (hh on) ll (asks_at s on q) (uses_link on (counterpart q, or_new h.connection.receiver.end)) (λ h2 l2 w. rw made (taken on h2 l2)) (b.own k on)))

        none_asks : (p : Pair) (on : ℕ) → on0 ≡ on → asks_at s on p ≡ true → ⊥
        none_asks p on e w = free p (subst (λ (x : ℕ). uses_at s x p ≡ true) (sym e) (subst (λ (x : Bool). (if x then uses_at s on p else true) ≡ true) there w))

        other_after : s.sends ≡ true → (p : Pair) (on : ℕ) → same q p ≡ false → sends p ≡ true → ClearAt (put_hosted q h s) p on
        other_after k p on e sp = rw (e, made) (clear_more p on s.to_senders (tag q (Rts i j on0 ∷ [])) (hears_at s on p) (or_new (s.sender p).end).left (asks_at s on p) (asks_at s on p)
            (λ h2 l2 w. rw (e, sq) ((λ m. false_if h2 (λ x. none_asks p on m (w x))), w)) (b.others k p on e sp))

        by_pair : s.sends ≡ true → (p : Pair) (on : ℕ) → sends p ≡ true → (x : Bool) → same q p ≡ x → ClearAt (put_hosted q h s) p on
        by_pair k p on sp true e = subst (λ (r : Pair). ClearAt (put_hosted q h s) r on) (same_true q p e) (at_own on (own_after k on))
        by_pair k p on sp false e = other_after k p on e sp
