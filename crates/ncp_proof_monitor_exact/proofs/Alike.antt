-- A received message is the sent one, except for the host in its leader, exactly when the monitor takes
-- it for that one.
use Rattle.std.proofs.Common.{◌≡◌, ℕ, ◌+◌, ◌-◌, ◌≤◌, Bool, true, false, ◌&&◌, ◌||◌, nat_lt, if◌then◌else◌, List, [], ◌∷◌, ◌++◌, length, take, drop, slice_range, refl, sym, ap, ◌∙◌, le-ltb, arith}
use Rattle.std.proofs.lemmas.Bool.{and_parts}
use Rattle.std.proofs.lemmas.List.{length-append, length-take, length-take-le, length-drop, append_assoc, take_all, take-append-drop}
use Rattle.std.proofs.Math.Seq.{drop-append-add, take-append_seam, drop-append_seam}
use Rattle.ncp_numbers.specs.Numbers.{bits_of}
use Rattle.ncp_numbers.proofs.Fields.{field_rest}
use Rattle.ncp_leader.specs.Leader.{leader_at}
use Rattle.ncp_subnet.specs.Messages.{from_host}
use Rattle.ncp_interface.specs.Slots.{same_bits, same_but_host}
use Rattle.ncp_proof_monitor.proofs.Shown.{all_same}

pub same_is : (xs ys : List Bool) → same_bits xs ys ≡ true → xs ≡ ys
same_is [] [] e = refl
same_is [] (y ∷ ys) e = absurd (cc)
same_is (x ∷ xs) [] e = absurd (cc)
same_is (true ∷ xs) (true ∷ ys) e = ap (λ (zs : List Bool). true ∷ zs) (same_is xs ys e)
same_is (false ∷ xs) (false ∷ ys) e = ap (λ (zs : List Bool). false ∷ zs) (same_is xs ys e)
same_is (true ∷ xs) (false ∷ ys) e = absurd (cc)
same_is (false ∷ xs) (true ∷ ys) e = absurd (cc)

-- all bits from an offset on
all_following : (xs : List Bool) (at : ℕ) → slice_range xs at (length xs) ≡ drop at xs
all_following xs at = let l : length (drop at xs) ≡ length xs - at = length-drop at xs in take_all (length xs - at) (drop at xs) (omega (arith, l))

parts_of : (a b c d : Bool) → (if a || b then false else c && d) ≡ true → (c ≡ true) × (d ≡ true)
parts_of true b c d e = absurd (cc)
parts_of false true c d e = absurd (cc)
parts_of false false c d e = and_parts c d e

tested : (a b c d : Bool) → a ≡ false → b ≡ false → c ≡ true → d ≡ true → (if a || b then false else c && d) ≡ true
tested false false true true a b c d = refl
tested true b c d p q r s = absurd (cc)
tested false true c d p q r s = absurd (cc)
tested false false false d p q r s = absurd (cc)
tested false false true false p q r s = absurd (cc)

pub from_as : (from : ℕ) (m bits : List Bool) → 32 ≤ length bits → (leader_at bits).host ≡ from → same_but_host m bits ≡ true → bits ≡ from_host from m
unfolding from_host
from_as from m bits long is same =
    let p = parts_of (nat_lt (length m) 16) (nat_lt (length bits) 16) (same_bits (slice_range m 0 8) (slice_range bits 0 8)) (same_bits (slice_range m 16 (length m)) (slice_range bits 16 (length bits))) same in
    let front : take 8 m ≡ take 8 bits = same_is (take 8 m) (take 8 bits) p.0 in
    let back : drop 16 m ≡ drop 16 bits = sym (all_following m 16) ∙ same_is (slice_range m 16 (length m)) (slice_range bits 16 (length bits)) p.1 ∙ all_following bits 16 in
    let rest : drop 8 bits ≡ bits_of 8 (leader_at bits).host ++ drop 16 bits = field_rest bits 8 8 (omega (arith, long)) in
    sym (take-append-drop 8 bits) ∙ ap (λ (xs : List Bool). take 8 bits ++ xs) (rest ∙ ap (λ (n : ℕ). bits_of 8 n ++ drop 16 bits) is)
    ∙ sym (append_assoc (take 8 bits) (bits_of 8 from) (drop 16 bits))
    ∙ ap (λ (xs : List Bool). xs ++ bits_of 8 from ++ drop 16 bits) (sym front) ∙ ap (λ (xs : List Bool). take 8 m ++ bits_of 8 from ++ xs) (sym back)

eight : (n : ℕ) → length (bits_of 8 n) ≡ 8
unfolding bits_of
eight n = refl

near_of : (from : ℕ) (m bits : List Bool) → 32 ≤ length bits → bits ≡ take 8 m ++ (bits_of 8 from ++ drop 16 m) → same_but_host m bits ≡ true
near_of from m bits long is =
    let a : length (take 8 m) ≡ 8 = length-take-le 8 m (omega (arith, enough)) in
    let front : take 8 bits ≡ take 8 m =
    ap (take 8) is ∙ ap (λ (k : ℕ). take k (take 8 m ++ (bits_of 8 from ++ drop 16 m))) (sym a) ∙ take-append_seam (take 8 m) (bits_of 8 from ++ drop 16 m) in
    let last : drop 8 (bits_of 8 from ++ drop 16 m) ≡ drop 16 m = ap (λ (k : ℕ). drop k (bits_of 8 from ++ drop 16 m)) (sym (eight from)) ∙ drop-append_seam (bits_of 8 from) (drop 16 m) in
    let back : drop 16 bits ≡ drop 16 m =
    ap (drop 16) is ∙ ap (λ (k : ℕ). drop (k + 8) (take 8 m ++ (bits_of 8 from ++ drop 16 m))) (sym a) ∙ drop-append-add (take 8 m) (bits_of 8 from ++ drop 16 m) 8 ∙ last in
    tested (nat_lt (length m) 16) (nat_lt (length bits) 16) (same_bits (take 8 m) (take 8 bits)) (same_bits (slice_range m 16 (length m)) (slice_range bits 16 (length bits)))
    (le-ltb (length m) 16 enough) (le-ltb (length bits) 16 (omega (arith, long)))
    (ap (same_bits (take 8 m)) front ∙ all_same (take 8 m))
    (ap (λ (xs : List Bool). same_bits xs (slice_range bits 16 (length bits))) (all_following m 16) ∙ ap (same_bits (drop 16 m)) (all_following bits 16 ∙ back) ∙ all_same (drop 16 m))
  where
    enough : 16 ≤ length m
    enough =
        let l : length bits ≡ length (take 8 m) + (length (bits_of 8 from) + length (drop 16 m)) = ap length is ∙ length-append (take 8 m) (bits_of 8 from ++ drop 16 m) ∙ ap (λ (k : ℕ). length (take 8 m) + k) (length-append (bits_of 8 from) (drop 16 m)) in
        let e : length (bits_of 8 from) ≡ 8 = eight from in
        let t = length-take 8 m in
        let d = length-drop 16 m in
        omega (arith, l, e, t, d, long)

pub from_near : (from : ℕ) (m bits : List Bool) → 32 ≤ length bits → bits ≡ from_host from m → same_but_host m bits ≡ true
unfolding from_host
from_near from m bits long is = near_of from m bits long (is ∙ append_assoc (take 8 m) (bits_of 8 from) (drop 16 m))
