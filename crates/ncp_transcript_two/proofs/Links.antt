-- What happens to a link that stands for one of the model.
use Rattle.std.proofs.Common.{◌≡◌, ℕ, ◌==◌, Bool, true, false, List, refl, sym, ap, ◌∙◌, subst}
use Rattle.std.proofs.lemmas.Bool.{both_ways, eq-eqb, eqb-true, ne_eqb}
use Rattle.ncp_slot.specs.Slots.{LinkSlot}
use Rattle.ncp_slot.specs.Slot.{woken}
use Rattle.ncp_slot.specs.declared.slot.Slot.TheVariants as slots
use Rattle.ncp_slot.specs.Slots.{LinkSlots, slot_at, with_slot}
use Rattle.ncp_slot.proofs.Places.{slot_at-with_slot_other}
use Rattle.ncp_proof_machine.specs.Delivery.{Link, undelivered}
use Rattle.ncp_proof_machine.specs.Delivery as model
use Rattle.ncp_proof_machine.specs.Hosts.{TextOut, set_link}
use Rattle.ncp_transcript_two.specs.Subnet.{Holds, Accepted, Delivered, Lost, Dead, TransitByLink, set_at}
use Rattle.ncp_transcript_two.specs.Tie.{MessageState, Nowhere, Waits, Goes, Came, Failed, Died, Kept, model_of, slot_of, holds_of, OfMessage, LinkRefines, text_as_message, IsTextOn}

module _ {M : Type 0} (write : M → List Bool) (P : M → Type 0) where
  pub carried : (l k : Link M) (s r : LinkSlot) (h i : Holds) → k ≡ l → r ≡ s → i ≡ h → LinkRefines write P l s h → LinkRefines write P k r i
  carried l k s r h i p q o c = record { place = c.place; model = p ∙ c.model; in_slot = q ∙ c.in_slot; in_subnet = o ∙ c.in_subnet; fits = c.fits }

  pub lost : (l : Link M) (s : LinkSlot) (h : Holds) (m : List Bool) → LinkRefines write P l s h → h ≡ Accepted m → LinkRefines write P (record l { subnet = undelivered model.Lost l.subnet }) s Lost
  lost l s h m c e = go c.place c.model c.in_slot (sym c.in_subnet ∙ e) c.fits
    where
      go : (p : MessageState M) → l ≡ model_of p → s ≡ slot_of write p → holds_of write p ≡ Accepted m → OfMessage P p → LinkRefines write P (record l { subnet = undelivered model.Lost l.subnet }) s Lost
      go Nowhere a b d f = absurd (cc d)
      go (Waits x) a b d f = absurd (cc d)
      go (Goes x) a b d f = record { place = Failed x; model = ap (λ (k : Link M). (let n : Link M = record k { subnet = undelivered model.Lost k.subnet } in n)) a; in_slot = b; in_subnet = refl; fits = f }
      go (Came x) a b d f = absurd (cc d)
      go (Failed x) a b d f = absurd (cc d)
      go (Died x) a b d f = absurd (cc d)
      go (Kept x) a b d f = absurd (cc d)

  pub died : (l : Link M) (s : LinkSlot) (h : Holds) (m : List Bool) → LinkRefines write P l s h → h ≡ Accepted m → LinkRefines write P (record l { subnet = undelivered model.Dead l.subnet }) s Dead
  died l s h m c e = go c.place c.model c.in_slot (sym c.in_subnet ∙ e) c.fits
    where
      go : (p : MessageState M) → l ≡ model_of p → s ≡ slot_of write p → holds_of write p ≡ Accepted m → OfMessage P p → LinkRefines write P (record l { subnet = undelivered model.Dead l.subnet }) s Dead
      go Nowhere a b d f = absurd (cc d)
      go (Waits x) a b d f = absurd (cc d)
      go (Goes x) a b d f = record { place = Died x; model = ap (λ (k : Link M). (let n : Link M = record k { subnet = undelivered model.Dead k.subnet } in n)) a; in_slot = b; in_subnet = refl; fits = f }
      go (Came x) a b d f = absurd (cc d)
      go (Failed x) a b d f = absurd (cc d)
      go (Died x) a b d f = absurd (cc d)
      go (Kept x) a b d f = absurd (cc d)

  -- the user asks for what is held
  pub wakes : (l : Link M) (s : LinkSlot) (h : Holds) → LinkRefines write P l s h → LinkRefines write P (record { slot = woken l.slot; subnet = l.subnet }) (woken s) h
  wakes l s h c = go c.place c.model c.in_slot c.in_subnet c.fits
    where
      go : (p : MessageState M) → l ≡ model_of p → s ≡ slot_of write p → h ≡ holds_of write p → OfMessage P p → LinkRefines write P (record { slot = woken l.slot; subnet = l.subnet }) (woken s) h
      go Nowhere a b d f = record { place = Nowhere; model = ap (λ (k : Link M). (let n : Link M = record { slot = woken k.slot; subnet = k.subnet } in n)) a; in_slot = ap (λ (x : LinkSlot). woken x) b; in_subnet = d; fits = f }
      go (Waits x) a b d f = record { place = Waits x; model = ap (λ (k : Link M). (let n : Link M = record { slot = woken k.slot; subnet = k.subnet } in n)) a; in_slot = ap (λ (x : LinkSlot). woken x) b; in_subnet = d; fits = f }
      go (Goes x) a b d f = record { place = Goes x; model = ap (λ (k : Link M). (let n : Link M = record { slot = woken k.slot; subnet = k.subnet } in n)) a; in_slot = ap (λ (x : LinkSlot). woken x) b; in_subnet = d; fits = f }
      go (Came x) a b d f = record { place = Came x; model = ap (λ (k : Link M). (let n : Link M = record { slot = woken k.slot; subnet = k.subnet } in n)) a; in_slot = ap (λ (x : LinkSlot). woken x) b; in_subnet = d; fits = f }
      go (Failed x) a b d f = record { place = Failed x; model = ap (λ (k : Link M). (let n : Link M = record { slot = woken k.slot; subnet = k.subnet } in n)) a; in_slot = ap (λ (x : LinkSlot). woken x) b; in_subnet = d; fits = f }
      go (Died x) a b d f = record { place = Died x; model = ap (λ (k : Link M). (let n : Link M = record { slot = woken k.slot; subnet = k.subnet } in n)) a; in_slot = ap (λ (x : LinkSlot). woken x) b; in_subnet = d; fits = f }
      go (Kept x) a b d f = record { place = Waits x; model = ap (λ (k : Link M). (let n : Link M = record { slot = woken k.slot; subnet = k.subnet } in n)) a; in_slot = ap (λ (x : LinkSlot). woken x) b; in_subnet = d; fits = f }

  pub record Comes (l : Link M) (s : LinkSlot) (m : List Bool) : Type 0 where
    pub what : M
    pub there : l.subnet ≡ model.Accepted what
    pub written : m ≡ write what
    pub fits : P what
    pub after : LinkRefines write P (record l { subnet = model.Delivered }) s Delivered

  pub delivered : (l : Link M) (s : LinkSlot) (h : Holds) (m : List Bool) → LinkRefines write P l s h → h ≡ Accepted m → Comes l s m
  delivered l s h m c e = go c.place c.model c.in_slot (sym c.in_subnet ∙ e) c.fits
    where
      go : (p : MessageState M) → l ≡ model_of p → s ≡ slot_of write p → holds_of write p ≡ Accepted m → OfMessage P p → Comes l s m
      go Nowhere a b d f = absurd (cc d)
      go (Waits x) a b d f = absurd (cc d)
      go (Goes x) a b d f = record {
        what = x;
        there = ap (λ (k : Link M). k.subnet) a;
        written = sym (cc d);
        fits = f;
        after = record { place = Came x; model = ap (λ (k : Link M). (let n : Link M = record k { subnet = model.Delivered } in n)) a; in_slot = b; in_subnet = refl; fits = f };
      }
      go (Came x) a b d f = absurd (cc d)
      go (Failed x) a b d f = absurd (cc d)
      go (Died x) a b d f = absurd (cc d)
      go (Kept x) a b d f = absurd (cc d)

  pub record Answers (p : M → MessageState M) (l : Link M) (s : LinkSlot) : Type 0 where
    pub what : M
    pub there : l ≡ model_of (p what)
    pub written : s ≡ slots.Travelling (write what)
    pub fits : P what

  pub taken : (l : Link M) (s : LinkSlot) (h : Holds) → LinkRefines write P l s h → h ≡ Delivered → Answers Came l s
  taken l s h c e = go c.place c.model c.in_slot (sym c.in_subnet ∙ e) c.fits
    where
      go : (p : MessageState M) → l ≡ model_of p → s ≡ slot_of write p → holds_of write p ≡ Delivered → OfMessage P p → Answers Came l s
      go Nowhere a b d f = absurd (cc d)
      go (Waits x) a b d f = absurd (cc d)
      go (Goes x) a b d f = absurd (cc d)
      go (Came x) a b d f = record { what = x; there = a; written = b; fits = f }
      go (Failed x) a b d f = absurd (cc d)
      go (Died x) a b d f = absurd (cc d)
      go (Kept x) a b d f = absurd (cc d)

  pub refused : (l : Link M) (s : LinkSlot) (h : Holds) → LinkRefines write P l s h → h ≡ Lost → Answers Failed l s
  refused l s h c e = go c.place c.model c.in_slot (sym c.in_subnet ∙ e) c.fits
    where
      go : (p : MessageState M) → l ≡ model_of p → s ≡ slot_of write p → holds_of write p ≡ Lost → OfMessage P p → Answers Failed l s
      go Nowhere a b d f = absurd (cc d)
      go (Waits x) a b d f = absurd (cc d)
      go (Goes x) a b d f = absurd (cc d)
      go (Came x) a b d f = absurd (cc d)
      go (Failed x) a b d f = record { what = x; there = a; written = b; fits = f }
      go (Died x) a b d f = absurd (cc d)
      go (Kept x) a b d f = absurd (cc d)

  pub found_dead : (l : Link M) (s : LinkSlot) (h : Holds) → LinkRefines write P l s h → h ≡ Dead → Answers Died l s
  found_dead l s h c e = go c.place c.model c.in_slot (sym c.in_subnet ∙ e) c.fits
    where
      go : (p : MessageState M) → l ≡ model_of p → s ≡ slot_of write p → holds_of write p ≡ Dead → OfMessage P p → Answers Died l s
      go Nowhere a b d f = absurd (cc d)
      go (Waits x) a b d f = absurd (cc d)
      go (Goes x) a b d f = absurd (cc d)
      go (Came x) a b d f = absurd (cc d)
      go (Failed x) a b d f = absurd (cc d)
      go (Died x) a b d f = record { what = x; there = a; written = b; fits = f }
      go (Kept x) a b d f = absurd (cc d)

  -- what is out stands in the slot
  pub away : (l : Link M) (s : LinkSlot) (h : Holds) (m : List Bool) → LinkRefines write P l s h → h ≡ Accepted m → (x : M) × P x × (s ≡ slots.Travelling m)
  away l s h m c e = go c.place c.in_slot (sym c.in_subnet ∙ e) c.fits
    where
      go : (p : MessageState M) → s ≡ slot_of write p → holds_of write p ≡ Accepted m → OfMessage P p → (x : M) × P x × (s ≡ slots.Travelling m)
      go Nowhere b d f = absurd (cc d)
      go (Waits x) b d f = absurd (cc d)
      go (Goes x) b d f = let same : write x ≡ m = cc d in (x, f, b ∙ ap (λ (x : List Bool). slots.Travelling x) same)
      go (Came x) b d f = absurd (cc d)
      go (Failed x) b d f = absurd (cc d)
      go (Died x) b d f = absurd (cc d)
      go (Kept x) b d f = absurd (cc d)

  pub nothing : (l : Link M) (s : LinkSlot) (h : Holds) → LinkRefines write P l s h → s ≡ slots.Empty → l ≡ model_of Nowhere
  nothing l s h c e = go c.place c.model (sym c.in_slot ∙ e)
    where
      go : (p : MessageState M) → l ≡ model_of p → slot_of write p ≡ slots.Empty → l ≡ model_of Nowhere
      go Nowhere a d = a
      go (Waits x) a d = absurd (cc d)
      go (Goes x) a d = absurd (cc d)
      go (Came x) a d = absurd (cc d)
      go (Failed x) a d = absurd (cc d)
      go (Died x) a d = absurd (cc d)
      go (Kept x) a d = absurd (cc d)

  pub record Again (l : Link M) (m : List Bool) : Type 0 where
    pub what : M
    pub there : l ≡ model_of (Waits what)
    pub written : m ≡ write what
    pub fits : P what

  pub again : (l : Link M) (s : LinkSlot) (h : Holds) (m : List Bool) → LinkRefines write P l s h → s ≡ slots.Ready m → Again l m
  again l s h m c e = go c.place c.model (sym c.in_slot ∙ e) c.fits
    where
      go : (p : MessageState M) → l ≡ model_of p → slot_of write p ≡ slots.Ready m → OfMessage P p → Again l m
      go Nowhere a d f = absurd (cc d)
      go (Waits x) a d f = record { what = x; there = a; written = sym (cc d); fits = f }
      go (Goes x) a d f = absurd (cc d)
      go (Came x) a d f = absurd (cc d)
      go (Failed x) a d f = absurd (cc d)
      go (Died x) a d f = absurd (cc d)
      go (Kept x) a d f = absurd (cc d)

-- All links, of which one has changed.

abbrev pub Texts : ℕ → (ℕ → Link TextOut) → LinkSlots → TransitByLink → Type 0
Texts there t s u = (k : ℕ) → (k == 0) ≡ false → LinkRefines (text_as_message there k) (IsTextOn k) (t k) (slot_at s k) (u k)

abbrev pub Apart : {A : Type 0} → ℕ → (ℕ → A) → (ℕ → A) → Type 0
Apart on f g = (k : ℕ) → (k == on) ≡ false → g k ≡ f k

pub texts_changed : (there on : ℕ) (t t' : ℕ → Link TextOut) (s s' : LinkSlots) (u u' : TransitByLink)
    → Apart on t t' → Apart on (slot_at s) (slot_at s') → Apart on u u'
    → ((on == 0) ≡ false → LinkRefines (text_as_message there on) (IsTextOn on) (t' on) (slot_at s' on) (u' on))
    → Texts there t s u → Texts there t' s' u'
texts_changed there on t t' s s' u u' p q r new old k z = go (k == on) refl
  where
    go : (b : Bool) → (k == on) ≡ b → LinkRefines (text_as_message there k) (IsTextOn k) (t' k) (slot_at s' k) (u' k)
    go true e = subst (λ (j : ℕ). (j == 0) ≡ false → LinkRefines (text_as_message there j) (IsTextOn j) (t' j) (slot_at s' j) (u' j)) (sym (eqb-true k on e)) new z
    go false e = carried (text_as_message there k) (IsTextOn k) (t k) (t' k) (slot_at s k) (slot_at s' k) (u k) (u' k) (p k e) (q k e) (r k e) (old k z)

pub all_distinct : {A : Type 0} (on : ℕ) (f : ℕ → A) → Apart on f f
all_distinct on f k e = refl

pub set_at-apart : (on : ℕ) (h : Holds) (u : TransitByLink) → Apart on u (set_at on h u)
set_at-apart on h u k e = rw e refl

pub set_at-same : (on : ℕ) (h : Holds) (u : TransitByLink) → set_at on h u on ≡ h
set_at-same on h u = rw (eq-eqb on on refl) refl

pub set_link-apart : (on : ℕ) (l : Link TextOut) (t : ℕ → Link TextOut) → Apart on t (set_link on l t)
set_link-apart on l t k e = rw e refl

pub set_link-same : (on : ℕ) (l : Link TextOut) (t : ℕ → Link TextOut) → set_link on l t on ≡ l
set_link-same on l t = rw (eq-eqb on on refl) refl

pub with_slot-apart : (on : ℕ) (x : LinkSlot) (s : LinkSlots) → Apart on (slot_at s) (slot_at (with_slot s on x))
with_slot-apart on x s k e = slot_at-with_slot_other s on x k (λ (d : _). both_ways (k == on) e (eq-eqb k on d))

pub zero_distinct : (on : ℕ) → (on == 0) ≡ false → (0 == on) ≡ false
zero_distinct on f = ne_eqb 0 on (λ (e : _). both_ways (on == 0) f (eq-eqb on 0 (sym e)))
