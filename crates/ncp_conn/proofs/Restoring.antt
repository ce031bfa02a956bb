-- An entry that may stand among the ends enters.
use Rattle.std.proofs.Common.{◌≡◌, ℕ, ◌<◌, Bool, true, false, not, ◌&&◌, nat_lt, Option, Some, None, is_none, refl, sym, ◌∙◌, subst, arith}
use Rattle.std.proofs.lemmas.Bool.Decides.{nat_tests}
use Rattle.std.specs.FinMap.{get}
use Rattle.ncp_model.specs.declared.pair.Pair.{Pair}
use Rattle.ncp_model.specs.Endpoint.{Endpoint, is_ended}
use Rattle.ncp_model.specs.Pairs.{sends, receives}
use Rattle.ncp_model.specs.Ends.{Ends, count, any, has_asked, is_by_peer, hears_link, uses_link}
use Rattle.ncp_conn.specs.Asking.{Enters}
use Rattle.ncp_conn.specs.Restoring.{can_be, has_room_for_more, has_room_for, is_alone_on, may_stand}
use Rattle.ncp_conn.proofs.Requests.{its_link, when, unless}

is_none_of : (o : Option Endpoint) → is_none o ≡ true → o ≡ None
is_none_of None h = refl
is_none_of (Some e) h = absurd (cc)

not_true : (b : Bool) → not b ≡ true → b ≡ false
not_true true h = absurd (cc)
not_true false h = refl

first_of_five : (a b c d e : Bool) → (a && b && c && d && e) ≡ true → a ≡ true
first_of_five true b c d e h = refl
first_of_five false b c d e h = absurd (cc)

all_three : (a b c : Bool) → (a && b && c) ≡ true → (a ≡ true) × (b ≡ true) × (c ≡ true)
all_three true true true h = (refl, refl, refl)
all_three true true false h = absurd (cc)
all_three true false c h = absurd (cc)
all_three false b c h = absurd (cc)

-- of two pairs that are not both so, each
neither : (a b c d : Bool) → (not (a && b) && not (c && d)) ≡ true → (a ≡ true → b ≡ false) × (c ≡ true → d ≡ false)
neither true true c d h = absurd (cc)
neither true false true true h = absurd (cc)
neither true false true false h = (λ _. refl, λ _. refl)
neither true false false d h = (λ _. refl, λ f. absurd (cc))
neither false b true true h = absurd (cc)
neither false b true false h = (λ f. absurd (cc), λ _. refl)
neither false b false d h = (λ f. absurd (cc), λ f. absurd (cc))

less : (n : ℕ) → nat_lt n 64 ≡ true → n < 64
less n h = grind (arith, nat_tests)

module _ (m : Ends) (pair : Pair) (e : Endpoint) (can : can_be pair e ≡ true) (place : has_room_for_more pair e m ≡ true) where
  parts : (is_none (get m pair) ≡ true) × (has_room_for e m ≡ true) × (is_alone_on pair e m ≡ true)
  parts = all_three (is_none (get m pair)) (has_room_for e m) (is_alone_on pair e m) place

  alone : (hears_link e.link (pair, e) ≡ true → any (hears_link e.link) m ≡ false) × (uses_link e.link (pair, e) ≡ true → any (uses_link e.link) m ≡ false)
  alone = neither (hears_link e.link (pair, e)) (any (hears_link e.link) m) (uses_link e.link (pair, e)) (any (uses_link e.link) m) parts.2

  pub stands : Enters m (pair, e)
  stands = record {
    none = is_none_of (get m pair) parts.0;
    over = not_true (is_ended e) (first_of_five (not (is_ended e)) _ _ _ _ can);
    own = λ h. less (count has_asked m) (sym (when e.asked (nat_lt (count has_asked m) 64) (nat_lt (count is_by_peer m) 64) h) ∙ parts.1);
    by_peer = λ h. less (count is_by_peer m) (sym (unless e.asked (nat_lt (count has_asked m) 64) (nat_lt (count is_by_peer m) 64) h) ∙ parts.1);
    hears = λ on h.
        let l : e.link ≡ on = its_link (sends pair && e.heard) e.link on h in
        subst (λ (n : ℕ). any (hears_link n) m ≡ false) l (alone.0 (subst (λ (n : ℕ). hears_link n (pair, e) ≡ true) (sym l) h));
    uses = λ on h.
        let l : e.link ≡ on = its_link (receives pair && e.asked) e.link on h in
        subst (λ (n : ℕ). any (uses_link n) m ≡ false) l (alone.1 (subst (λ (n : ℕ). uses_link n (pair, e) ≡ true) (sym l) h));
  }

both_true : (a b : Bool) → a ≡ true → b ≡ true → (a && b) ≡ true
both_true true true p q = refl
both_true true false p q = absurd (cc)
both_true false b p q = absurd (cc)

second_false : (a b : Bool) → b ≡ false → (a && b) ≡ false
second_false true false h = refl
second_false true true h = absurd (cc)
second_false false b h = refl

-- the same of an entry that is the pair with the end
module _ (m : Ends) (p : Pair × Endpoint) (pair : Pair) (e : Endpoint) (is : p ≡ (pair, e)) where
  pub may : can_be p.0 p.1 ≡ true → has_room_for_more p.0 p.1 m ≡ true → may_stand pair e m ≡ true
  may can place = subst (λ (q : Pair × Endpoint). may_stand q.0 q.1 m ≡ true) is (both_true (can_be p.0 p.1) (has_room_for_more p.0 p.1 m) can place)

  pub may_not : has_room_for_more p.0 p.1 m ≡ false → may_stand pair e m ≡ false
  may_not none = subst (λ (q : Pair × Endpoint). may_stand q.0 q.1 m ≡ false) is (second_false (can_be p.0 p.1) (has_room_for_more p.0 p.1 m) none)
