-- One message on its link: how its work changes with what happens on the link.
use Rattle.std.proofs.Common.{◌≡◌, ℕ, zero, suc, ◌+◌, ◌*◌, ◌==◌, ◌≤◌, ◌<◌, Bool, true, false, cond, Option, Some, None, refl, ap, ◌∙◌, arith}
use Rattle.ncp_slot.specs.Slot.{ready_message, woken}
use Rattle.ncp_proof_machine.specs.Delivery.{Slot, Empty, Ready, Travelling, Held, MessageTransit, Free, Accepted, Delivered, Lost, Dead, Link, undelivered}
use Rattle.ncp_proof_machine.specs.Hosts.{TextOut}
use Rattle.ncp_proof_machine.specs.Moving.{link_sent, put_if_any, answered_by, transit_delivered}
use Rattle.ncp_proof_progress.specs.HostsWork.{message_work, text_work, texts_work, SlotFits, held_texts, one_if_held, one_if_any, one_if_accepted, one_if_told}

-- what is put in
abbrev pub put_work : {M : Type 0} → (M → ℕ) → Option M → Slot M → ℕ
put_work r (Some m) Empty = 3 + 3 * r m
put_work r m slot = 0

-- what is delivered
abbrev pub come_work : {M : Type 0} → (M → ℕ) → MessageTransit M → ℕ
come_work r (Accepted m) = 3 * r m
come_work r s = 0

abbrev pub link_work : {M : Type 0} → (M → ℕ) → Link M → ℕ
link_work r k = message_work r k.slot k.subnet

pub sent-link : {M : Type 0} (r : M → ℕ) (m : Option M) (slot : Slot M) (s : MessageTransit M) → link_work r (link_sent m slot s) + one_if_any (ready_message (put_if_any m slot)) ≤ message_work r slot s + put_work r m slot
sent-link r None Empty s = omega arith
sent-link r (Some m) Empty s = omega arith
sent-link r None (Ready k) s = omega arith
sent-link r (Some m) (Ready k) s = omega arith
sent-link r None (Travelling k) s = omega arith
sent-link r (Some m) (Travelling k) s = omega arith
sent-link r None (Held k) s = omega arith
sent-link r (Some m) (Held k) s = omega arith

pub come-link : {M : Type 0} (r : M → ℕ) (slot : Slot M) (s : MessageTransit M) → SlotFits slot s → message_work r slot (transit_delivered s) + one_if_accepted s + come_work r s ≤ message_work r slot s
come-link r Empty Free f = omega arith
come-link r (Ready k) Free f = omega arith
come-link r (Held k) Free f = omega arith
come-link r (Travelling k) Free f = absurd f
come-link r (Travelling k) (Accepted m) f = omega arith
come-link r (Travelling k) Delivered f = omega arith
come-link r (Travelling k) Lost f = omega arith
come-link r (Travelling k) Dead f = omega arith
come-link r slot s f = absurd f

pub lost-link : {M : Type 0} (r : M → ℕ) (slot : Slot M) (s : MessageTransit M) → SlotFits slot s → message_work r slot (undelivered Lost s) + one_if_accepted s ≤ message_work r slot s + 3 * one_if_accepted s
lost-link r Empty Free f = omega arith
lost-link r (Ready k) Free f = omega arith
lost-link r (Held k) Free f = omega arith
lost-link r (Travelling k) Free f = absurd f
lost-link r (Travelling k) (Accepted m) f = let e : r m ≡ r k = ap r f in omega (arith, e)
lost-link r (Travelling k) Delivered f = omega arith
lost-link r (Travelling k) Lost f = omega arith
lost-link r (Travelling k) Dead f = omega arith
lost-link r slot s f = absurd f

pub dead-link : {M : Type 0} (r : M → ℕ) (slot : Slot M) (s : MessageTransit M) → SlotFits slot s → message_work r slot (undelivered Dead s) + one_if_accepted s ≤ message_work r slot s + 4 * one_if_accepted s
dead-link r Empty Free f = omega arith
dead-link r (Ready k) Free f = omega arith
dead-link r (Held k) Free f = omega arith
dead-link r (Travelling k) Free f = absurd f
dead-link r (Travelling k) (Accepted m) f = let e : r m ≡ r k = ap r f in omega (arith, e)
dead-link r (Travelling k) Delivered f = omega arith
dead-link r (Travelling k) Lost f = omega arith
dead-link r (Travelling k) Dead f = omega arith
dead-link r slot s f = absurd f

pub told-link : {M : Type 0} (r : M → ℕ) (slot : Slot M) (s : MessageTransit M) → SlotFits slot s → link_work r (answered_by slot s) + one_if_told slot s ≤ message_work r slot s
told-link r Empty Free f = omega arith
told-link r (Ready k) Free f = omega arith
told-link r (Held k) Free f = omega arith
told-link r (Travelling k) Free f = absurd f
told-link r (Travelling k) (Accepted m) f = omega arith
told-link r (Travelling k) Delivered f = omega arith
told-link r (Travelling k) Lost f = omega arith
told-link r (Travelling k) Dead f = omega arith
told-link r slot s f = absurd f

pub woken-link : {M : Type 0} (r : M → ℕ) (slot : Slot M) (s : MessageTransit M) → message_work r (woken slot) s + one_if_held slot ≤ message_work r slot s
woken-link r Empty s = omega arith
woken-link r (Ready k) s = omega arith
woken-link r (Held k) s = omega arith
woken-link r (Travelling k) s = omega arith

-- all links

-- where one changes that is not among these, nothing does
texts-beside : (f g : ℕ → Link TextOut) (on : ℕ) (x : ℕ → Link TextOut) → ((k : ℕ) → g k ≡ cond (k == on) (x k) (f k)) → (many from : ℕ) → on < from → texts_work g many from ≡ texts_work f many from
unfolding texts_work
texts-beside f g on x h zero from l = refl
texts-beside f g on x h (suc many) from l =
    let b : (from == on) ≡ false = grind arith in
    let e : g from ≡ f from = h from ∙ ap (λ (t : Bool). cond t (x from) (f from)) b in
    let i = texts-beside f g on x h many (suc from) (omega arith) in
    rw (e, i) refl

-- where one among them changes, the sum does as it does
pub texts-one : (f g : ℕ → Link TextOut) (on : ℕ) (x : ℕ → Link TextOut) → ((k : ℕ) → g k ≡ cond (k == on) (x k) (f k)) → (many from : ℕ) → from ≤ on → on < from + many → texts_work g many from + text_work (f on) ≡ texts_work f many from + text_work (x on)
unfolding texts_work
texts-one f g on x h zero from l m = absurd (omega arith)
texts-one f g on x h (suc many) from l m = go (from == on) refl (λ a b. texts-one f g on x h many (suc from) a b)
  where
    go : (t : Bool) → (from == on) ≡ t
        → (suc from ≤ on → on < suc from + many → texts_work g many (suc from) + text_work (f on) ≡ texts_work f many (suc from) + text_work (x on))
        → text_work (g from) + texts_work g many (suc from) + text_work (f on) ≡ text_work (f from) + texts_work f many (suc from) + text_work (x on)
    go true t rest =
        let same : from ≡ on = grind arith in
        let e : g from ≡ x from = h from ∙ ap (λ (b : Bool). cond b (x from) (f from)) t in
        let i = texts-beside f g on x h many (suc from) (omega (arith, same)) in
        rw (e, i, same) (omega arith)
    go false t rest =
        let e : g from ≡ f from = h from ∙ ap (λ (b : Bool). cond b (x from) (f from)) t in
        let i = rest (grind arith) (omega (arith, m)) in
        rw e (omega (arith, i))

-- where none gains, the sum does not
pub texts-none-gains : (f g : ℕ → Link TextOut) → ((k : ℕ) → text_work (g k) ≤ text_work (f k)) → (many from : ℕ) → texts_work g many from ≤ texts_work f many from
unfolding texts_work
texts-none-gains f g h zero from = omega arith
texts-none-gains f g h (suc many) from = let i = texts-none-gains f g h many (suc from) in let e = h from in omega (arith, i, e)

-- all are woken
pub texts-woken : (f g : ℕ → Link TextOut) → ((k : ℕ) → g k ≡ record { slot = woken (f k).slot; subnet = (f k).subnet }) → (many from : ℕ) → texts_work g many from + held_texts f many from ≤ texts_work f many from
unfolding texts_work held_texts
texts-woken f g h zero from = omega arith
texts-woken f g h (suc many) from =
    let i = texts-woken f g h many (suc from) in
    let e = woken-link (λ (t : TextOut). 1) (f from).slot (f from).subnet in
    rw (h from) (omega (arith, i, e))

-- slot and subnet go on to fit

pub sent-fits : {M : Type 0} (m : Option M) (slot : Slot M) (s : MessageTransit M) → SlotFits slot s → SlotFits (link_sent m slot s).slot (link_sent m slot s).subnet
sent-fits None Empty s f = f
sent-fits (Some m) Empty s f = refl
sent-fits None (Ready k) s f = refl
sent-fits (Some m) (Ready k) s f = refl
sent-fits None (Travelling k) s f = f
sent-fits (Some m) (Travelling k) s f = f
sent-fits None (Held k) s f = f
sent-fits (Some m) (Held k) s f = f

pub come-fits : {M : Type 0} (slot : Slot M) (s : MessageTransit M) → SlotFits slot s → SlotFits slot (transit_delivered s)
come-fits (Travelling k) (Accepted m) f = tt
come-fits (Travelling k) Delivered f = f
come-fits (Travelling k) Lost f = f
come-fits (Travelling k) Dead f = f
come-fits slot Free f = f
come-fits slot s f = absurd f

pub lost-fits : {M : Type 0} (slot : Slot M) (s : MessageTransit M) → SlotFits slot s → SlotFits slot (undelivered Lost s)
lost-fits (Travelling k) (Accepted m) f = tt
lost-fits (Travelling k) Delivered f = f
lost-fits (Travelling k) Lost f = f
lost-fits (Travelling k) Dead f = f
lost-fits slot Free f = f
lost-fits slot s f = absurd f

pub dead-fits : {M : Type 0} (slot : Slot M) (s : MessageTransit M) → SlotFits slot s → SlotFits slot (undelivered Dead s)
dead-fits (Travelling k) (Accepted m) f = tt
dead-fits (Travelling k) Delivered f = f
dead-fits (Travelling k) Lost f = f
dead-fits (Travelling k) Dead f = f
dead-fits slot Free f = f
dead-fits slot s f = absurd f

pub told-fits : {M : Type 0} (slot : Slot M) (s : MessageTransit M) → SlotFits slot s → SlotFits (answered_by slot s).slot (answered_by slot s).subnet
told-fits (Travelling k) (Accepted m) f = f
told-fits (Travelling k) Delivered f = tt
told-fits (Travelling k) Lost f = tt
told-fits (Travelling k) Dead f = tt
told-fits slot Free f = f
told-fits slot s f = absurd f

pub woken-fits : {M : Type 0} (slot : Slot M) (s : MessageTransit M) → SlotFits slot s → SlotFits (woken slot) s
woken-fits Empty s f = f
woken-fits (Ready k) s f = f
woken-fits (Travelling k) s f = f
woken-fits (Held k) Free f = tt
woken-fits (Held k) s f = absurd f
