-- What agrees with the slots passes the checks of what is read.
use Rattle.std.proofs.Common.{◌≡◌, ◌≢◌, ℕ, zero, suc, ◌==◌, Bool, true, false, cond, ◌&&◌, List, [], ◌∷◌, All, Option, None, Some, is_some, unwrap_or, slice_get, true≢false, refl, sym, ap, ap₂, ◌∙◌, arith}
use Rattle.std.specs.List.{list_all}
use Rattle.std.specs.FinMap.{entries, entries_sorted, get, get-entries}
use Rattle.std.proofs.lemmas.List.Elements.{All-head, All-tail}
use Rattle.ncp_wire.specs.declared.command.Command.{Command}
use Rattle.ncp_slot.specs.declared.slot.Slot.TheVariants.{Empty}
use Rattle.ncp_slot.specs.Slot.{is_empty}
use Rattle.ncp_slot.specs.Slots.{LinkSlot, LinkSlots, HasSlot, slot_at}
use Rattle.ncp_slot.specs.Links.{HasItsLinks}
use Rattle.ncp_model.specs.declared.pair.Pair.{Pair}
use Rattle.ncp_model.specs.Pairs.{sends}
use Rattle.ncp_model.specs.Endpoint.{Endpoint}
use Rattle.ncp_model.specs.Ends.{Ends, first_by, hears_link, pair_of, sender_on}
use Rattle.ncp_model.specs.Demux.{passes}
use Rattle.ncp_conn.specs.declared.record.Record.{Record}
use Rattle.ncp_conn.specs.Records.{record_of, record_if_any, record_in}
use Rattle.ncp_conn.proofs.Counts.{first_passes}
use Rattle.ncp_conn.proofs.Listing.{find_at, found_sorted}
use Rattle.ncp_phase.specs.Waiting.{has_short_data, IsShort}
use Rattle.ncp_peer.specs.Soundness.{is_end_busy, pair_hears_link, Agree}

-- a slot with a message is of a link that has one
pub full_has_slot : (slots : LinkSlots) (on : ℕ) → HasItsLinks slots → is_empty (slot_at slots on) ≡ false → HasSlot on
unfolding slot_at
full_has_slot slots on has full = go (get slots on) refl
  where
    go : (o : Option LinkSlot) → get slots on ≡ o → HasSlot on
    go None e = absurd (true≢false (sym (ap (λ (o : Option LinkSlot). is_empty (unwrap_or o Empty)) e) ∙ full))
    go (Some slot) e = (has on).0 (ap is_some e)

pub all_are_short : (cs : List Command) → All IsShort cs → list_all has_short_data cs ≡ true
all_are_short [] each = refl
all_are_short (c ∷ cs) each = ap₂ (λ (a b : Bool). a && b) (All-head IsShort c cs each) (all_are_short cs (All-tail IsShort c cs each))

-- the first that passes is there, and is one of them

abbrev Test : Type 0
Test = Pair × Endpoint → Bool

first_some : (p : Test) (es : List (Pair × Endpoint)) (i : ℕ) (x : Pair × Endpoint) → slice_get es i ≡ Some x → p x ≡ true → (y : Pair × Endpoint) × (first_by p es ≡ Some y)
first_some p [] i x at passes = absurd (cc)
first_some p (y ∷ es) zero x at passes = let same : y ≡ x = cc in (y, ap (λ (b : Bool). cond b (Some y) (first_by p es)) (ap p same ∙ passes))
first_some p (y ∷ es) (suc i) x at passes = go (p y) (first_some p es i x at passes)
  where
    go : (b : Bool) → (z : Pair × Endpoint) × (first_by p es ≡ Some z) → (z : Pair × Endpoint) × (cond b (Some y) (first_by p es) ≡ Some z)
    go true rest = (y, refl)
    go false rest = rest

first_in : (p : Test) (es : List (Pair × Endpoint)) (x : Pair × Endpoint) → first_by p es ≡ Some x → (i : ℕ) × (slice_get es i ≡ Some x)
first_in p [] x h = absurd (cc)
first_in p (y ∷ es) x h = go (p y) h (first_in p es x)
  where
    go : (b : Bool) → cond b (Some y) (first_by p es) ≡ Some x → (first_by p es ≡ Some x → (i : ℕ) × (slice_get es i ≡ Some x)) → (i : ℕ) × (slice_get (y ∷ es) i ≡ Some x)
    go true g rest = (zero, g)
    go false g rest = let there = rest g in (suc there.0, there.1)

itself : (n : ℕ) → (n == n) ≡ true
itself n = grind arith

hears : (m : Ends) (p : Pair) (e : Endpoint) → get m p ≡ Some e → sends p ≡ true → e.heard ≡ true → pair_hears_link e.link p m ≡ true
hears m p e at s h = ap (passes (hears_link e.link) p) at ∙ ap₂ (λ (a b : Bool). a && b && (e.link == e.link)) s h ∙ itself e.link

-- a link identifies the endpoint that heard it
pub heard_is_led : (m : Ends) (slots : LinkSlots) (p : Pair) (e : Endpoint) → Agree m slots → get m p ≡ Some e → sends p ≡ true → e.heard ≡ true → pair_of (sender_on e.link m) ≡ Some p
heard_is_led m slots p e agree at s h =
    let there = find_at (entries m) p e (sym (get-entries m p) ∙ at) in
    let mine : hears_link e.link (p, e) ≡ true = ap₂ (λ (a b : Bool). a && b && (e.link == e.link)) s h ∙ itself e.link in
    let some = first_some (hears_link e.link) (entries m) there.0 (p, e) there.1 mine in
    let place = first_in (hears_link e.link) (entries m) some.0 some.1 in
    let other : get m some.0.0 ≡ Some some.0.1 = get-entries m some.0.0 ∙ found_sorted (entries m) place.0 some.0 (entries_sorted m) place.1 in
    let passes_too : pair_hears_link e.link some.0.0 m ≡ true = ap (passes (hears_link e.link) some.0.0) other ∙ first_passes (hears_link e.link) (entries m) some.0 some.1 in
    ap pair_of some.1 ∙ ap Some (agree.one e.link some.0.0 p passes_too (hears m p e at s h))

three : (a b c : Bool) → (a && b && c) ≡ true → (a ≡ true) × (b ≡ true) × (c ≡ true)
three true true true e = (refl, refl, refl)
three false b c e = absurd (cc)
three true false c e = absurd (cc)
three true true false e = absurd (cc)

same_number : (a b : ℕ) → (a == b) ≡ true → a ≡ b
same_number a b e = grind arith

-- an endpoint with an unacknowledged text sends, heard its link, and has a message in the slot
pub record IsBusyWell (slots : LinkSlots) (p : Pair) (e : Endpoint) : Type 0 where
  pub sender : sends p ≡ true
  pub heard : e.heard ≡ true
  pub link : e.link ≢ 0
  pub full : is_empty (slot_at slots e.link) ≡ false

pub busy_is_well : (m : Ends) (slots : LinkSlots) (p : Pair) (e : Endpoint) → Agree m slots → get m p ≡ Some e → e.busy ≡ true → IsBusyWell slots p e
busy_is_well m slots p e agree at busy =
    let out = agree.out p (ap is_end_busy at ∙ busy) in
    let all = three (sends p) e.heard (e.link == out.0) (sym (ap (passes (hears_link out.0) p) at) ∙ out.2) in
    let same : e.link ≡ out.0 = same_number e.link out.0 all.2 in
    record { sender = all.0; heard = all.1; link = λ z. out.1 (sym same ∙ z); full = ap (λ (on : ℕ). is_empty (slot_at slots on)) same ∙ out.3 }

-- the endpoint of a record
pub record_end : (pair : Pair) (o : Option Endpoint) (r : Record) → record_if_any pair o ≡ Some r → (e : Endpoint) × (o ≡ Some e) × (record_of pair e ≡ r)
record_end pair None r h = absurd (cc)
record_end pair (Some e) r h = let same : record_of pair e ≡ r = cc in (e, refl, same)

-- the link of its record identifies it
pub record_is_led : (m : Ends) (slots : LinkSlots) (p : Pair) (r : Record) → Agree m slots → record_in p m ≡ Some r → sends p ≡ true → r.heard ≡ true → pair_of (sender_on r.link m) ≡ Some p
record_is_led m slots p r agree is s h =
    let e = record_end p (get m p) r is in
    let heard : e.0.heard ≡ true = ap (λ (x : Record). x.heard) e.2 ∙ h in
    ap (λ (x : Record). pair_of (sender_on x.link m)) (sym e.2) ∙ heard_is_led m slots p e.0 agree e.1 s heard
