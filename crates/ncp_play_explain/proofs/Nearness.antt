-- Near words, by counting what two words have in common.
use Rattle.std.proofs.Common.{◌≡◌, ◌==◌, ◌≤◌, ◌+◌, ◌-◌, ℕ, zero, suc, min, max, Bool, true, false, cond, List, [], ◌∷◌, ◌++◌, map, reverse, length, take, drop, get_or, refl, sym, ap, ◌∙◌, arith, append_assoc}
use Rattle.std.specs.List.{common_prefix_len, prefix_len, zip}
use Rattle.std.proofs.Math.Seq.{take-append_seam}
use Rattle.std.proofs.lemmas.Bool.{eqb-true, eq-eqb}
use Rattle.std.proofs.lemmas.List.{take-append-drop, map-append, reverse-reverse, reverse-append, length-append, length-reverse, length-map, length-take, length-drop}
use Rattle.ncp_play_explain.specs.Near.{folded, IsNear}

-- letters that are the same, as they are compared
abbrev pub same : ℕ → ℕ → Bool
same a b = folded a == folded b

-- a word as it is compared
abbrev pub fold_word : List ℕ → List ℕ
fold_word word = map folded word

-- the places from the front at which two lists have the same letters
pub zip_same : (xs ys : List ℕ) → prefix_len (λ p. same p.0 p.1) (zip xs ys) ≡ common_prefix_len same xs ys
zip_same [] ys = refl
zip_same (x ∷ xs) [] = refl
zip_same (x ∷ xs) (y ∷ ys) = ap (λ n. cond (same x y) (1 + n) 0) (zip_same xs ys)

-- ---- what two words share in front and at the end

more_common : (x y n m : ℕ) (xs ys : List ℕ) → (n ≤ m → xs ≡ ys) → (t : Bool) → same x y ≡ t → suc n ≤ cond t (1 + m) 0 → folded x ∷ xs ≡ folded y ∷ ys
more_common x y n m xs ys rest true e h =
    let first : folded x ≡ folded y = eqb-true (folded x) (folded y) e in
    let others : xs ≡ ys = rest (omega arith) in cc
more_common x y n m xs ys rest false e h = absurd (omega arith)

pub take_common : (n : ℕ) (xs ys : List ℕ) → n ≤ common_prefix_len same xs ys → take n (fold_word xs) ≡ take n (fold_word ys)
take_common zero xs ys h = refl
take_common (suc n) [] ys h = absurd (omega arith)
take_common (suc n) (x ∷ xs) [] h = absurd (omega arith)
take_common (suc n) (x ∷ xs) (y ∷ ys) h =
    more_common x y n (common_prefix_len same xs ys) (take n (fold_word xs)) (take n (fold_word ys)) (take_common n xs ys) (same x y) refl h

pub front_counts : (front : List ℕ) (xs ys : List ℕ) (here there : List ℕ) → fold_word xs ≡ front ++ here → fold_word ys ≡ front ++ there → length front ≤ common_prefix_len same xs ys
front_counts [] xs ys here there e f = omega arith
front_counts (c ∷ cs) [] ys here there e f = absurd cc
front_counts (c ∷ cs) (x ∷ xs) [] here there e f = absurd cc
front_counts (c ∷ cs) (x ∷ xs) (y ∷ ys) here there e f =
    let first : folded x ≡ c = ap (λ l. get_or l 0 0) e in
    let other : folded y ≡ c = ap (λ l. get_or l 0 0) f in
    let tie : same x y ≡ true = eq-eqb (folded x) (folded y) (first ∙ sym other) in
    let rest : length cs ≤ common_prefix_len same xs ys = front_counts cs xs ys here there (ap (λ l. drop 1 l) e) (ap (λ l. drop 1 l) f) in
    rw tie (omega arith)

fold_reverse : (xs : List ℕ) → fold_word (reverse xs) ≡ reverse (fold_word xs)
fold_reverse [] = refl
fold_reverse (x ∷ xs) =
    ap fold_word (reverse-append (x ∷ []) xs) ∙ map-append folded (reverse xs) (x ∷ []) ∙ ap (λ l. l ++ folded x ∷ []) (fold_reverse xs)
    ∙ sym (reverse-append (folded x ∷ []) (fold_word xs))

take_take : (a m : ℕ) (xs : List ℕ) → a ≤ m → take a (take m xs) ≡ take a xs
take_take zero m xs h = refl
take_take (suc a) zero xs h = absurd (omega arith)
take_take (suc a) (suc m) [] h = refl
take_take (suc a) (suc m) (x ∷ xs) h = ap (λ l. x ∷ l) (take_take a m xs (omega arith))

-- a list in three parts
parts : (a b : ℕ) (xs : List ℕ) → a ≤ length xs - b → xs ≡ take a xs ++ drop a (take (length xs - b) xs) ++ drop (length xs - b) xs
parts a b xs h =
    sym (take-append-drop (length xs - b) xs)
    ∙ ap (λ l. l ++ drop (length xs - b) xs)
    (sym (take-append-drop a (take (length xs - b) xs)) ∙ ap (λ l. l ++ drop a (take (length xs - b) xs)) (take_take a (length xs - b) xs h))

take_seam : (n : ℕ) (xs ys : List ℕ) → n ≡ length xs → take n (xs ++ ys) ≡ xs
take_seam n xs ys h = rw h (take-append_seam xs ys)

-- the last n of a list, by its reverse
last_of : (n : ℕ) (xs : List ℕ) → n ≤ length xs → take n (reverse xs) ≡ reverse (drop (length xs - n) xs)
last_of n xs h =
    let size : n ≡ length (reverse (drop (length xs - n) xs)) = simp (length-reverse, length-drop) (omega arith) in
    ap (λ l. take n (reverse l)) (sym (take-append-drop (length xs - n) xs))
    ∙ ap (take n) (reverse-append (take (length xs - n) xs) (drop (length xs - n) xs))
    ∙ take_seam n (reverse (drop (length xs - n) xs)) (reverse (take (length xs - n) xs)) size

ends_same : (b : ℕ) (xs ys : List ℕ) → b ≤ common_prefix_len same (reverse xs) (reverse ys) → b ≤ length xs → b ≤ length ys →
    drop (length (fold_word ys) - b) (fold_word ys) ≡ drop (length (fold_word xs) - b) (fold_word xs)
ends_same b xs ys h in_xs in_ys =
    let of_xs : b ≤ length (fold_word xs) = rw length-map in_xs in
    let of_ys : b ≤ length (fold_word ys) = rw length-map in_ys in
    let counterpart : reverse (drop (length (fold_word ys) - b) (fold_word ys)) ≡ reverse (drop (length (fold_word xs) - b) (fold_word xs)) =
    sym (last_of b (fold_word ys) of_ys) ∙ ap (take b) (sym (fold_reverse ys)) ∙ sym (take_common b (reverse xs) (reverse ys) h)
    ∙ ap (take b) (fold_reverse xs) ∙ last_of b (fold_word xs) of_xs in
    sym (reverse-reverse (drop (length (fold_word ys) - b) (fold_word ys))) ∙ ap reverse counterpart
    ∙ reverse-reverse (drop (length (fold_word xs) - b) (fold_word xs))

-- two words that share a letters in front and b at the end, and so much that few are left
pub near_from : (most : ℕ) (word known : List ℕ) (a b : ℕ) → a ≤ common_prefix_len same word known → b ≤ common_prefix_len same (reverse word) (reverse known) →
    a + b ≤ length word → a + b ≤ length known → length word - (a + b) ≤ most → length known - (a + b) ≤ most → 2 ≤ a + b → IsNear most word known
near_from most word known a b in_front at_end fits_word fits_known few few' enough_common =
    let size : length (fold_word word) ≡ length word = length-map word folded in
    let size' : length (fold_word known) ≡ length known = length-map known folded in
    record {
      front = take a (fold_word word);
      here = drop a (take (length (fold_word word) - b) (fold_word word));
      there = drop a (take (length (fold_word known) - b) (fold_word known));
      end = drop (length (fold_word word) - b) (fold_word word);
      word_is = parts a b (fold_word word) (omega arith);
      known_is = parts a b (fold_word known) (omega arith)
          ∙ ap (λ l. l ++ drop a (take (length (fold_word known) - b) (fold_word known)) ++ drop (length (fold_word known) - b) (fold_word known)) (sym (take_common a word known in_front))
          ∙ ap (λ l. take a (fold_word word) ++ drop a (take (length (fold_word known) - b) (fold_word known)) ++ l) (ends_same b word known at_end (omega arith) (omega arith));
      few_here = rw (length-drop, length-take) (omega arith);
      few_there = rw (length-drop, length-take) (omega arith);
      common = rw (length-take, length-drop) (omega arith);
    }

-- what near words share is counted, in front and at the end
pub near_shares : {most : ℕ} (word known : List ℕ) (n : IsNear most word known) → (length n.front ≤ common_prefix_len same word known) × (length n.end ≤ common_prefix_len same (reverse word) (reverse known))
near_shares word known n =
    let counterpart : length (reverse n.end) ≤ common_prefix_len same (reverse word) (reverse known) =
    front_counts (reverse n.end) (reverse word) (reverse known) (reverse (n.front ++ n.here)) (reverse (n.front ++ n.there))
    (fold_reverse word ∙ ap reverse n.word_is ∙ reverse-append (n.front ++ n.here) n.end)
    (fold_reverse known ∙ ap reverse n.known_is ∙ reverse-append (n.front ++ n.there) n.end) in
    let size : length (reverse n.end) ≡ length n.end = length-reverse n.end in (
      front_counts n.front word known (n.here ++ n.end) (n.there ++ n.end) (n.word_is ∙ append_assoc n.front n.here n.end) (n.known_is ∙ append_assoc n.front n.there n.end),
      omega (arith, counterpart, size),
    )

pub near_size : {most : ℕ} (word known : List ℕ) (n : IsNear most word known) → (length word ≡ length n.front + length n.here + length n.end) × (length known ≡ length n.front + length n.there + length n.end)
near_size word known n = (
  sym (length-map word folded) ∙ ap (λ l. length l) n.word_is ∙ length-append (n.front ++ n.here) n.end ∙ ap (λ m. m + length n.end) (length-append n.front n.here),
  sym (length-map known folded) ∙ ap (λ l. length l) n.known_is ∙ length-append (n.front ++ n.there) n.end ∙ ap (λ m. m + length n.end) (length-append n.front n.there),
)

-- numbers alone
numbers : (most a h t b p q one other shorter longer front end : ℕ) → one ≡ a + h + b → other ≡ a + t + b → h ≤ most → t ≤ most → 2 ≤ a + b → a ≤ p → b ≤ q →
    shorter ≡ min one other → longer ≡ max one other → front ≡ min p shorter → end ≡ min q (shorter - front) → (longer - (front + end) ≤ most) × (2 ≤ front + end)
numbers most a h t b p q one other shorter longer front end e1 e2 h1 h2 h3 h4 h5 e3 e4 e5 e6 = (omega arith, omega arith)

-- ---- what the code counts: p letters in front, q at the end

pub counted_is_near : (most : ℕ) (word known : List ℕ) (p q shorter longer front end : ℕ) → shorter ≡ min (length word) (length known) → longer ≡ max (length word) (length known) →
    p ≡ common_prefix_len same word known → q ≡ common_prefix_len same (reverse word) (reverse known) → front ≡ min p shorter → end ≡ min q (shorter - front) →
    longer - (front + end) ≤ most → 2 ≤ front + end → IsNear most word known
counted_is_near most word known p q shorter longer front end a b in_front at_end f e few two =
    near_from most word known front end (rw (← in_front) (omega arith)) (rw (← at_end) (omega arith)) (omega arith) (omega arith) (omega arith) (omega arith) two

-- no less is counted than what two near words have in common
pub near_is_counted : (most : ℕ) (word known : List ℕ) (p q shorter longer front end : ℕ) → shorter ≡ min (length word) (length known) → longer ≡ max (length word) (length known) →
    p ≡ common_prefix_len same word known → q ≡ common_prefix_len same (reverse word) (reverse known) → front ≡ min p shorter → end ≡ min q (shorter - front) →
    IsNear most word known → (longer - (front + end) ≤ most) × (2 ≤ front + end)
near_is_counted most word known p q shorter longer front end a b in_front at_end f e n =
    let shares : (length n.front ≤ p) × (length n.end ≤ q) = (rw in_front (near_shares word known n).0, rw at_end (near_shares word known n).1) in
    let sizes = near_size word known n in
    let here = n.few_here in let there = n.few_there in let common = n.common in
    numbers most (length n.front) (length n.here) (length n.there) (length n.end) p q (length word) (length known) shorter longer front end sizes.0 sizes.1 here there common shares.0 shares.1 a b f e
