-- What it means to a user that a pair is finished.
use Rattle.std.proofs.Common.{◌≡◌, ◌<◌, ◌++◌, Bool, true, false, List, length, Option, Some, sym, ap, ◌∙◌, subst, arith}
use Rattle.std.proofs.lemmas.Bool.{both_ways}
use Rattle.ncp_model.specs.declared.pair.Pair.{Pair}
use Rattle.ncp_model.specs.Endpoint.{Endpoint, is_open}
use Rattle.ncp_model.specs.Texts.{can_send}
use Rattle.ncp_proof_progress.specs.Finished.{OpenAndAgreed, PairFinished, Nobody, Sender_asked, Receiver_asked, Both_open, Receiver_holds}

one : (a b : Endpoint) → Some a ≡ Some b → b ≡ a
one a b e = let x : a ≡ b = cc e in sym x

-- an open end was heard, and is not on its way out
open-heard : (e : Endpoint) → is_open e ≡ true → e.heard ≡ true
open-heard e o = grind arith

open-asked : (e : Endpoint) → is_open e ≡ true → e.asked ≡ true
open-asked e o = grind arith

open-stays : (e : Endpoint) → is_open e ≡ true → (e.leaving ≡ false) × (e.left ≡ false)
open-stays e o = (grind arith, grind arith)

pub opened : (pair : Pair) (e f : Endpoint) (given got : List Bool) → PairFinished pair (Some e) (Some f) given got → e.asked ≡ true → f.asked ≡ true → e.left ≡ false → OpenAndAgreed pair e f given got
opened pair e f given got (Nobody p q) a b l = absurd (cc p)
opened pair e f given got (Sender_asked x y p q k h n) a b l = absurd (both_ways f.asked (ap (λ (z : Endpoint). z.asked) (sym (one f y q)) ∙ h.asked) b)
opened pair e f given got (Receiver_asked x y p q h k n) a b l = absurd (both_ways e.asked (ap (λ (z : Endpoint). z.asked) (sym (one e x p)) ∙ h.asked) a)
opened pair e f given got (Both_open x y p q o) a b l = subst (λ (z : Endpoint). OpenAndAgreed pair z f given got) (one e x p) (subst (λ (z : Endpoint). OpenAndAgreed pair x z given got) (one f y q) o)
opened pair e f given got (Receiver_holds x y p q k h) a b l = absurd (both_ways e.left l (ap (λ (z : Endpoint). z.left) (sym (one e x p)) ∙ k.0))

Closed : Endpoint → Option Endpoint → Type 0
Closed e r = (e.leaving ≡ false) × (e.left ≡ true → (f : Endpoint) × (r ≡ Some f) × (f.leaving ≡ true) × (0 < length f.stored))

stays : (e : Endpoint) (r : Option Endpoint) → e.leaving ≡ false → e.left ≡ false → Closed e r
unfolding Closed
stays e r g l = (g, λ t. absurd (both_ways e.left l t))

pub closed : (pair : Pair) (e : Endpoint) (r : Option Endpoint) (given got : List Bool) → PairFinished pair (Some e) r given got → (e.leaving ≡ false) × (e.left ≡ true → (f : Endpoint) × (r ≡ Some f) × (f.leaving ≡ true) × (0 < length f.stored))
unfolding Closed
closed pair e r given got (Nobody p q) = absurd (cc p)
closed pair e r given got (Sender_asked x y p q k h n) = subst (λ (z : Endpoint). Closed z r) (one e x p) (stays x r k.leaving k.left)
closed pair e r given got (Receiver_asked x y p q h k n) = subst (λ (z : Endpoint). Closed z r) (one e x p) (stays x r h.leaving h.left)
closed pair e r given got (Both_open x y p q o) = let s = open-stays x o.sender in subst (λ (z : Endpoint). Closed z r) (one e x p) (stays x r s.0 s.1)
closed pair e r given got (Receiver_holds x y p q k h) = (ap (λ (z : Endpoint). z.leaving) (sym (one e x p)) ∙ k.2, λ t. (y, q, h.0, h.2))

pub arrived : (pair : Pair) (e : Endpoint) (r : Option Endpoint) (given got : List Bool) → PairFinished pair (Some e) r given got → is_open e ≡ true → (given ≡ got ++ e.stored) × (can_send pair e ≡ false)
arrived pair e r given got (Nobody p q) o = absurd (cc p)
arrived pair e r given got (Sender_asked x y p q k h n) o = absurd (both_ways e.heard (ap (λ (z : Endpoint). z.heard) (sym (one e x p)) ∙ k.heard) (open-heard e o))
arrived pair e r given got (Receiver_asked x y p q h k n) o = absurd (both_ways e.asked (ap (λ (z : Endpoint). z.asked) (sym (one e x p)) ∙ h.asked) (open-asked e o))
arrived pair e r given got (Both_open x y p q k) o = subst (λ (z : Endpoint). (given ≡ got ++ z.stored) × (can_send pair z ≡ false)) (one e x p) (k.text, k.waits)
arrived pair e r given got (Receiver_holds x y p q k h) o = absurd (both_ways e.left (open-stays e o).1 (ap (λ (z : Endpoint). z.left) (sym (one e x p)) ∙ k.0))

pub together : (pair : Pair) (e : Endpoint) (r : Option Endpoint) (given got : List Bool) → PairFinished pair (Some e) r given got → (f : Endpoint) × (r ≡ Some f)
together pair e r given got (Nobody p q) = absurd (cc p)
together pair e r given got (Sender_asked x y p q k h n) = (y, q)
together pair e r given got (Receiver_asked x y p q h k n) = (y, q)
together pair e r given got (Both_open x y p q o) = (y, q)
together pair e r given got (Receiver_holds x y p q k h) = (y, q)
