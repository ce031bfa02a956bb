-- What is tested of what is read is enough: what holds of each pair that has an end holds of all, and then the ends agree with the slots.
use Rattle.std.proofs.Common.{◌++◌, length, ◌≡◌, ℕ, Bool, true, false, cond, if◌then◌else◌, is_some, List, [], ◌∷◌, All, Option, None, Some, refl, sym, ap, ◌∙◌, subst, arith}
use Rattle.std.specs.List.{count_by, zip}
use Rattle.std.specs.FinMap.{get}
use Rattle.std.proofs.lemmas.List.Elements.{All-head, All-tail}
use Rattle.std.proofs.lemmas.List.Sums.{sum_by-cons}
use Rattle.ncp_slot.specs.Slots.{LinkSlots}
use Rattle.ncp_model.specs.declared.pair.Pair.{Pair}
use Rattle.ncp_model.specs.Pairs.{same}
use Rattle.ncp_model.specs.Endpoint.{Endpoint}
use Rattle.ncp_model.specs.Ends.{Ends, hears_link}
use Rattle.ncp_model.specs.Demux.{passes}
use Rattle.ncp_conn.specs.Walking.{AreItsPairs}
use Rattle.ncp_conn.proofs.Finding.{same_is}
use Rattle.ncp_peer.specs.PeerState.{PeerState}
use Rattle.ncp_peer.specs.Soundness.{is_end_busy, Agree, IsWell, AreWell, IsPlaced}

-- what holds of each of some pairs holds of one that is among them
among : (P : Pair → Type 0) (p : Pair) (qs : List Pair) → All P qs → count_by (λ q. same q p) qs ≡ 1 → P p
among P p [] a c = absurd (omega (arith, c))
among P p (q ∷ qs) a c = go (same q p) refl (among P p qs (All-tail P q qs a))
  where
    go : (b : Bool) → same q p ≡ b → (count_by (λ q. same q p) qs ≡ 1 → P p) → P p
    go true e rest = subst P (same_is q p e) (All-head P q qs a)
    go false e rest = let s = sum_by-cons (λ (r : Pair). cond (same r p) 1 0) q qs in rest (grind (arith, s, c, e))

placed_none : (m : Ends) (slots : LinkSlots) (p : Pair) → get m p ≡ None → IsPlaced m slots p
placed_none m slots p e = record {
  alone = λ on h. absurd (cc (h, ap (passes (hears_link on) p) e));
  out = λ b. absurd (cc (b, ap is_end_busy e));
}

pub all_placed : (m : Ends) (slots : LinkSlots) (ps : List Pair) → AreItsPairs ps m → All (IsPlaced m slots) ps → (p : Pair) → IsPlaced m slots p
all_placed m slots ps are each p = go (get m p) refl
  where
    go : (o : Option Endpoint) → get m p ≡ o → IsPlaced m slots p
    go None e = placed_none m slots p e
    go (Some x) e = among (IsPlaced m slots) p ps each (are p ∙ ap (λ (o : Option Endpoint). if is_some o then 1 else 0) e)

pub placed_agree : (m : Ends) (slots : LinkSlots) → ((p : Pair) → IsPlaced m slots p) → Agree m slots
placed_agree m slots placed = record {
  one = λ on p q h k. let e : Some p ≡ Some q = sym ((placed p).alone on h) ∙ (placed q).alone on k in cc e;
  out = λ p b. (placed p).out b;
}

-- one more peer is read
well_push : (ns : List ℕ) (ss : List PeerState) (n : ℕ) (s : PeerState) → length ss ≡ length ns → AreWell (zip ns ss) → IsWell s → AreWell (zip (ns ++ n ∷ []) (ss ++ s ∷ []))
well_push [] [] n s e w k = (k, tt)
well_push [] (t ∷ ss) n s e w k = absurd (omega (arith, e))
well_push (m ∷ ns) [] n s e w k = absurd (omega (arith, e))
well_push (m ∷ ns) (t ∷ ss) n s e w k = (w.0, well_push ns ss n s (omega (arith, e)) w.1 k)

-- and its number
beside_push : (ns : List ℕ) (ss : List PeerState) (n : ℕ) (s : PeerState) → length ss ≡ length ns → length (ss ++ s ∷ []) ≡ length (ns ++ n ∷ [])
beside_push [] [] n s e = refl
beside_push [] (t ∷ ss) n s e = absurd (omega (arith, e))
beside_push (m ∷ ns) [] n s e = absurd (omega (arith, e))
beside_push (m ∷ ns) (t ∷ ss) n s e = let r = beside_push ns ss n s (omega (arith, e)) in omega (arith, r)

pub beside_more : (ns more : List ℕ) (ss most : List PeerState) (n : ℕ) (s : PeerState) → more ≡ ns ++ n ∷ [] → most ≡ ss ++ s ∷ [] → length ss ≡ length ns → length most ≡ length more
beside_more ns more ss most n s e f b = ap length f ∙ beside_push ns ss n s b ∙ sym (ap length e)

pub well_more : (ns more : List ℕ) (ss most : List PeerState) (n : ℕ) (s : PeerState) → more ≡ ns ++ n ∷ [] → most ≡ ss ++ s ∷ [] → length ss ≡ length ns → AreWell (zip ns ss) → IsWell s → AreWell (zip more most)
well_more ns more ss most n s e f b w k =
    subst (λ (xs : List ℕ). AreWell (zip xs most)) (sym e) (subst (λ (ys : List PeerState). AreWell (zip (ns ++ n ∷ []) ys)) (sym f) (well_push ns ss n s b w k))
