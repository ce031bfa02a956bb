-- The others of distinct numbers.
use Rattle.std.proofs.Common.{◌≡◌, ℕ, suc, ◌==◌, ◌≤◌, nat_le, Bool, true, false, cond, not, ◌&&◌, ◌||◌, List, [], ◌∷◌, length, refl, sym, ap, ◌∙◌, arith}
use Rattle.std.proofs.lemmas.Bool.{eqb-true, and_parts, and_from, not-true, or_right, leb-true, le-leb}
use Rattle.ncp_host.specs.Host.{is_one_of, are_distinct, are_peers}
use Rattle.ncp_transcript_many.specs.Network.{are_hosts, others}

-- one of them is not the one whose others they are, and is one of all

pub other-of : (k n : ℕ) (ns : List ℕ) → is_one_of n (others k ns) ≡ true → is_one_of n ns ≡ true
other-of k n [] e = e
other-of k n (m ∷ ns) e = go (m == k) (other-of k n ns) e
  where
    go : (b : Bool) → (is_one_of n (others k ns) ≡ true → is_one_of n ns ≡ true) → is_one_of n (cond (not b) (m ∷ others k ns) (others k ns)) ≡ true → (m == n || is_one_of n ns) ≡ true
    go true rest e = or_right (m == n) (is_one_of n ns) (rest e)
    go false rest e = by (m == n) e
      where
        by : (c : Bool) → (c || is_one_of n (others k ns)) ≡ true → (c || is_one_of n ns) ≡ true
        by true e = refl
        by false e = rest e

pub not-other : (k : ℕ) (ns : List ℕ) → is_one_of k (others k ns) ≡ false
not-other k [] = refl
not-other k (m ∷ ns) = go (m == k) refl (not-other k ns)
  where
    go : (b : Bool) → (m == k) ≡ b → is_one_of k (others k ns) ≡ false → is_one_of k (cond (not b) (m ∷ others k ns) (others k ns)) ≡ false
    go true e rest = rest
    go false e rest = ap (λ (b : Bool). b || is_one_of k (others k ns)) e ∙ rest

-- another that is one of all is one of the others
pub other-there : (k n : ℕ) (ns : List ℕ) → is_one_of n ns ≡ true → (n == k) ≡ false → is_one_of n (others k ns) ≡ true
other-there k n [] e d = e
other-there k n (m ∷ ns) e d = go (m == k) refl (m == n) refl e (λ i. other-there k n ns i d)
  where
    go : (b : Bool) → (m == k) ≡ b → (c : Bool) → (m == n) ≡ c → (c || is_one_of n ns) ≡ true → (is_one_of n ns ≡ true → is_one_of n (others k ns) ≡ true) → is_one_of n (cond (not b) (m ∷ others k ns) (others k ns)) ≡ true
    go true f true g e rest = absurd (cc (sym d ∙ ap (λ (i : ℕ). i == k) (sym (eqb-true m n g)) ∙ f))
    go true f false g e rest = rest e
    go false f true g e rest = ap (λ (b : Bool). b || is_one_of n (others k ns)) g
    go false f false g e rest = ap (λ (b : Bool). b || is_one_of n (others k ns)) g ∙ rest e

-- one that is not there has all as its others
pub all-others : (k : ℕ) (ns : List ℕ) → is_one_of k ns ≡ false → others k ns ≡ ns
all-others k [] e = refl
all-others k (m ∷ ns) e = go (m == k) e (all-others k ns)
  where
    go : (b : Bool) → (b || is_one_of k ns) ≡ false → (is_one_of k ns ≡ false → others k ns ≡ ns) → cond (not b) (m ∷ others k ns) (others k ns) ≡ m ∷ ns
    go true e rest = absurd (cc e)
    go false e rest = ap (λ (xs : List ℕ). m ∷ xs) (rest e)

-- one that is there is left out
pub one-less : (k : ℕ) (ns : List ℕ) → are_distinct ns ≡ true → is_one_of k ns ≡ true → suc (length (others k ns)) ≡ length ns
one-less k [] d e = absurd (cc e)
one-less k (m ∷ ns) d e = go (m == k) refl e (and_parts (not (is_one_of m ns)) (are_distinct ns) d) (one-less k ns)
  where
    go : (b : Bool) → (m == k) ≡ b → (b || is_one_of k ns) ≡ true → (not (is_one_of m ns) ≡ true) × (are_distinct ns ≡ true) → (are_distinct ns ≡ true → is_one_of k ns ≡ true → suc (length (others k ns)) ≡ length ns)
        → suc (length (cond (not b) (m ∷ others k ns) (others k ns))) ≡ suc (length ns)
    go true same e p rest =
        let none : is_one_of k ns ≡ false = ap (λ (i : ℕ). is_one_of i ns) (sym (eqb-true m k same)) ∙ not-true (is_one_of m ns) p.0 in
        ap (λ (xs : List ℕ). suc (length xs)) (all-others k ns none)
    go false apart e p rest = ap (λ (n : ℕ). suc n) (rest p.1 e)

-- and the others are distinct
pub others-distinct : (k : ℕ) (ns : List ℕ) → are_distinct ns ≡ true → are_distinct (others k ns) ≡ true
others-distinct k [] d = refl
others-distinct k (m ∷ ns) d = go (m == k) (and_parts (not (is_one_of m ns)) (are_distinct ns) d) (others-distinct k ns)
  where
    left : (c : Bool) → is_one_of m (others k ns) ≡ c → not (is_one_of m ns) ≡ true → not c ≡ true
    left true e p = ap not (sym (other-of k m ns e)) ∙ p
    left false e p = refl

    go : (b : Bool) → (not (is_one_of m ns) ≡ true) × (are_distinct ns ≡ true) → (are_distinct ns ≡ true → are_distinct (others k ns) ≡ true) → are_distinct (cond (not b) (m ∷ others k ns) (others k ns)) ≡ true
    go true p rest = rest p.1
    go false p rest = and_from (not (is_one_of m (others k ns))) (are_distinct (others k ns)) (left (is_one_of m (others k ns)) refl p.0) (rest p.1)

-- a host can have the others as its peers
pub others-fit : (k : ℕ) (ns : List ℕ) → are_hosts ns ≡ true → is_one_of k ns ≡ true → are_peers k (others k ns) ≡ true
others-fit k ns good there =
    let os : List ℕ = others k ns in
    let p = and_parts (nat_le 2 (length ns) && nat_le (length ns) 8) (are_distinct ns) good in
    let q = and_parts (nat_le 2 (length ns)) (nat_le (length ns) 8) p.0 in
    let few : 2 ≤ length ns = leb-true 2 (length ns) q.0 in
    let many : length ns ≤ 8 = leb-true (length ns) 8 q.1 in
    let less : suc (length os) ≡ length ns = one-less k ns p.1 there in
    let some : nat_le 1 (length os) ≡ true = le-leb 1 (length os) (omega (arith, few, less)) in
    let few_enough : nat_le (length os) 8 ≡ true = le-leb (length os) 8 (omega (arith, many, less)) in
    and_from (nat_le 1 (length os) && nat_le (length os) 8 && are_distinct os) (not (is_one_of k os))
    (and_from (nat_le 1 (length os) && nat_le (length os) 8) (are_distinct os) (and_from (nat_le 1 (length os)) (nat_le (length os) 8) some few_enough) (others-distinct k ns p.1))
    (ap not (not-other k ns))
