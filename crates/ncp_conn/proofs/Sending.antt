-- On which links a text may go out, after a change under one key.
use Rattle.std.proofs.Common.{◌≡◌, ℕ, Bool, true, false, cond, ◌&&◌, ◌==◌, List, Option, Some, None, refl, sym, ap, ◌∙◌, arith}
use Rattle.std.proofs.lemmas.Bool.{eqb-true}
use Rattle.std.proofs.lemmas.Bool.Decides.{nat_tests}
use Rattle.slab.specs.Slab.{Slab, get, Updates}
use Rattle.ncp_model.specs.declared.pair.Pair.{Pair}
use Rattle.ncp_model.specs.Pairs.{sends}
use Rattle.ncp_model.specs.Endpoint.{Endpoint, is_ended}
use Rattle.ncp_model.specs.Ends.{hears_link}
use Rattle.ncp_conn.specs.Indexes.{key_at, entry_passes, IsIndex}
use Rattle.ncp_conn.specs.Links.{is_in}
use Rattle.ncp_conn.specs.Sending.{may_send_text, sends_at, AreSending, Notes}

-- no text of an end that is over goes out
pub over_sends_not : (p : Pair × Endpoint) → is_ended p.1 ≡ true → may_send_text p ≡ false
over_sends_not p h = grind arith

module _ (keys later : List (Option ℕ)) (s new : Slab (Pair × Endpoint)) (key : ℕ) (slot : Option (Pair × Endpoint)) (index : IsIndex hears_link keys s) (u : Updates s new key slot) where
  -- a link that the entry under the key had not heard, and that leads where it led
  elsewhere : (on : ℕ) → entry_passes (hears_link on) (get s key) ≡ false → key_at later on ≡ key_at keys on → sends_at (key_at later on) new ≡ sends_at (key_at keys on) s
  elsewhere on not_heard same = ap (λ (o : Option ℕ). sends_at o new) same ∙ go (key_at keys on) refl
    where
      go : (o : Option ℕ) → key_at keys on ≡ o → sends_at o new ≡ sends_at o s
      go None e = refl
      go (Some k) e =
          ap (entry_passes may_send_text) (u.others k (λ d.
          let heard : entry_passes (hears_link on) (get s k) ≡ true = (index on k).0 e in
          let here : entry_passes (hears_link on) (get s key) ≡ true = ap (λ (n : ℕ). entry_passes (hears_link on) (get s n)) (sym d) ∙ heard in
          let both : true ≡ false = sym here ∙ not_heard in
          absurd (cc)))

  pub sending_changed : (links after : ℕ) (f : Pair × Endpoint) → AreSending links keys s → Notes f links after
      → ((on : ℕ) → hears_link on f ≡ false → entry_passes (hears_link on) (get s key) ≡ false)
      → ((on : ℕ) → hears_link on f ≡ false → key_at later on ≡ key_at keys on)
      → ((on : ℕ) → hears_link on f ≡ true → sends_at (key_at later on) new ≡ may_send_text f)
      → AreSending after later new
  sending_changed links after f are notes unheard same here on = go (hears_link on f) refl
    where
      noted : (b : Bool) → hears_link on f ≡ b → is_in after on ≡ cond b (may_send_text f) (is_in links on)
      noted b h = notes on ∙ ap (λ (x : Bool). cond x (may_send_text f) (is_in links on)) h

      go : (b : Bool) → hears_link on f ≡ b → is_in after on ≡ sends_at (key_at later on) new
      go true h = noted true h ∙ sym (here on h)
      go false h = noted false h ∙ are on ∙ sym (elsewhere on (unheard on h) (same on h))

-- What is noted of an entry, whose link is the one that it heard, if it heard one.

both : (a b : Bool) → (a && b) ≡ true → a ≡ true
both true b h = refl
both false b h = absurd (cc)

neither : (a : Bool) → (a && false) ≡ false
neither true = refl
neither false = refl

counterpart : (a b : ℕ) → (a == b) ≡ (b == a)
counterpart a b = grind (arith, nat_tests)

module _ (p : Pair × Endpoint) (link : ℕ) (its : link ≡ p.1.link) where
  pub hears_its : hears_link link p ≡ true → (on : ℕ) → (on == link) ≡ hears_link on p
  hears_its heard on =
      counterpart on link ∙ ap (λ (n : ℕ). n == on) its
      ∙ ap (λ (b : Bool). b && p.1.link == on) (sym (both (sends p.0 && p.1.heard) (p.1.link == link) heard))

  hears_none : hears_link link p ≡ false → (on : ℕ) → hears_link on p ≡ false
  hears_none none on = go (p.1.link == on) refl
    where
      go : (b : Bool) → (p.1.link == on) ≡ b → hears_link on p ≡ false
      go true e = ap (λ (n : ℕ). hears_link n p) (sym (its ∙ eqb-true p.1.link on e)) ∙ none
      go false e = ap (λ (b : Bool). (sends p.0 && p.1.heard) && b) e ∙ neither (sends p.0 && p.1.heard)

  pub unnoted : (links : ℕ) → hears_link link p ≡ false → Notes p links links
  unnoted links none on = sym (ap (λ (b : Bool). cond b (may_send_text p) (is_in links on)) (hears_none none on))
