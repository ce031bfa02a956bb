-- Faults that are judged in an order.
use Rattle.std.proofs.Common.{◌≡◌, ◌↔◌, ◌⊎◌, inl, inr, ℕ, ◌<◌, Bool, true, false, List, [], ◌∷◌, Result, Ok, Err, nat_lt, length, take, refl, sym, ap, cond, arith}
use Rattle.std.proofs.lemmas.Bool.Decides.{Decides-ltb}
use Rattle.std.specs.Bool.{Decides}
use Rattle.std.specs.List.{list_any}
use Rattle.ncp_numbers.specs.Bytes.{bytes_for, bits_of_bytes}
use Rattle.ncp_bits.specs.Bits.{read_bytes, spare_bits, IsAtFault, judged}
use Rattle.ncp_bits.specs.Reasons.{IsFirst, NoneHolds}
use Rattle.ncp_bits.specs.declared.bits.TheConstants.{MAX_BITS}
use Rattle.ncp_bits.specs.declared.bits.BitsFault.{BitsFault}
use Rattle.ncp_bits.specs.declared.bits.BitsFault.TheVariants.{TooLong, ShortBytes, SpareNotZero}

-- tests in an order
unfoldable pub answer : {A F : Type 0} → (F → Bool) → List F → A → Result A F
answer test [] found = Ok found
answer test (fault ∷ faults) found = cond (test fault) (Err fault) (answer test faults found)

-- one test more in front
first_more : {F R : Type 0} {P : Type 0} (t : Bool) → Decides t P → (rest : Result R F) (next fault : F) → (I : Type 0) → (rest ≡ Err fault) ↔ I → (cond t (Err next) rest ≡ Err fault) ↔ (((fault ≡ next) × P) ⊎ ((¬ P) × I))
first_more {F} {R} {P} true d rest next fault I more = (λ e. inl (cc, d.0 refl), back)
  where
    back : ((fault ≡ next) × P) ⊎ ((¬ P) × I) → cond true (Err next) rest ≡ Err fault
    back (inl p) = ap Err (sym p.0)
    back (inr p) = absurd (p.0 (d.0 refl))
first_more {F} {R} {P} false d rest next fault I more = (λ e. inr (none, more.0 e), back)
  where
    none : ¬ P
    none h = cc (d.1 h)

    back : ((fault ≡ next) × P) ⊎ ((¬ P) × I) → rest ≡ Err fault
    back (inl p) = absurd (none p.1)
    back (inr p) = more.1 p.1

none_more : {F R : Type 0} {P : Type 0} (t : Bool) → Decides t P → (rest : Result R F) (next : F) (found : R) → (¬ P) → rest ≡ Ok found → cond t (Err next) rest ≡ Ok found
none_more true d rest next found h e = absurd (h (d.0 refl))
none_more false d rest next found h e = e

-- where each test decides whether its reason holds, the fault is the first reason that does
pub answer_first : {A F : Type 0} {holds : F → Type 0} (test : F → Bool) → ((fault : F) → Decides (test fault) (holds fault)) → (faults : List F) (found : A) (fault : F) → (answer test faults found ≡ Err fault) ↔ IsFirst holds faults fault
unfolding answer
answer_first test decides [] found fault = (λ e. cc, λ e. absurd e)
answer_first {holds} test decides (next ∷ faults) found fault =
    first_more (test next) (decides next) (answer test faults found) next fault (IsFirst holds faults fault) (answer_first {holds = holds} test decides faults found fault)

-- and where no reason holds, what was found is answered
pub answer_none : {A F : Type 0} {holds : F → Type 0} (test : F → Bool) → ((fault : F) → Decides (test fault) (holds fault)) → (faults : List F) (found : A) → NoneHolds holds faults → answer test faults found ≡ Ok found
unfolding answer
answer_none test decides [] found h = refl
answer_none {holds} test decides (next ∷ faults) found h =
    none_more (test next) (decides next) (answer test faults found) next found h.0 (answer_none {holds = holds} test decides faults found h.1)

-- the test of each fault of bytes
test_of : List ℕ → ℕ → BitsFault → Bool
test_of bytes len TooLong = nat_lt MAX_BITS len
test_of bytes len ShortBytes = nat_lt (length bytes) (bytes_for len)
test_of bytes len SpareNotZero = list_any (λ bit. bit) (spare_bits bytes len)

decided : (bytes : List ℕ) (len : ℕ) (fault : BitsFault) → Decides (test_of bytes len fault) (IsAtFault bytes len fault)
unfolding test_of
decided bytes len TooLong = Decides-ltb MAX_BITS len
decided bytes len ShortBytes =
    let d : Decides (nat_lt (length bytes) (bytes_for len)) (length bytes < bytes_for len) = Decides-ltb (length bytes) (bytes_for len) in
    (λ t. grind (arith, d.0 t), λ h. d.1 (omega arith))
decided bytes len SpareNotZero = (λ t. t, λ h. h)

pub bits_first : (bytes : List ℕ) (len : ℕ) (fault : BitsFault) → (read_bytes bytes len ≡ Err fault) ↔ IsFirst (IsAtFault bytes len) judged fault
unfolding answer test_of
bits_first bytes len fault = answer_first {holds = IsAtFault bytes len} (test_of bytes len) (decided bytes len) judged (take len (bits_of_bytes bytes)) fault

pub bits_none : (bytes : List ℕ) (len : ℕ) → NoneHolds (IsAtFault bytes len) judged → read_bytes bytes len ≡ Ok (take len (bits_of_bytes bytes))
unfolding answer test_of
bits_none bytes len h = answer_none {holds = IsAtFault bytes len} (test_of bytes len) (decided bytes len) judged (take len (bits_of_bytes bytes)) h
