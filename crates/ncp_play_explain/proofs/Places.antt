-- The element at a place, where a list of references is read as what they point to.
use Rattle.std.proofs.Common.{◌≡◌, ◌<◌, ◌≤◌, ◌+◌, ◌-◌, ℕ, subst, zero, suc, List, [], ◌∷◌, map, length, take, drop, get_or, None, Some, refl, ap, ◌∙◌, sym, add-one, drop-cons, arith}
use Rattle.std.specs.Borrow.{Bor}
use Rattle.std.specs.List.{slice_get, All, Contains}
use Rattle.std.proofs.lemmas.List.{length-map, length-drop, get_or-map, take_all, take-map, drop-map}
use Rattle.std.proofs.lemmas.Option.{slice_get_past}
use Rattle.std.proofs.lemmas.List.Elements.{All-more}

pub at_place : {X Y : Type 0} (f : X → Y) (xs : List X) (i : ℕ) (d : X) → i < length xs → slice_get (map f xs) i ≡ Some (f (get_or xs i d))
at_place f [] i d h = absurd (omega arith)
at_place f (x ∷ xs) zero d h = refl
at_place f (x ∷ xs) (suc i) d h = at_place f xs i d (omega arith)

-- what holds of none of the first i, and not of the next
pub none_more : {X Y : Type 0} (P : Y → Type 0) (f : X → Y) (xs : List X) (i : ℕ) (d : X) → i < length xs → All P (take i (map f xs)) → P (f (get_or xs i d)) → All P (take (i + 1) (map f xs))
none_more P f xs i d h before here = All-more P (map f xs) i (f d) (rw length-map h) before (rw (get_or-map f xs i d (f d) h) here)

-- and of none of all
pub none_at_all : {X Y : Type 0} (P : Y → Type 0) (f : X → Y) (xs : List X) (i : ℕ) → length xs ≤ i → All P (take i (map f xs)) → All P (map f xs)
none_at_all P f xs i h before =
    let all : length (map f xs) ≤ i = rw length-map h in
    subst (λ l. All P l) (take_all i (map f xs) all) before

-- what stands at a place is among all
pub contains_at : {X Y : Type 0} (f : X → Y) (xs : List X) (i : ℕ) (d : X) (y : Y) → i < length xs → f (get_or xs i d) ≡ y → Contains (map f xs) y
contains_at f xs i d y h e = (i, rw length-map h, get_or-map f xs i d y h ∙ e)

-- the rest of a list from a place on
pub rest_from : {X : Type 0} (xs : List X) (i : ℕ) (d : X) → i < length xs → drop i xs ≡ get_or xs i d ∷ drop (i + 1) xs
rest_from xs i d h = rw (add-one, drop-cons xs i d) refl

-- ---- words as they are read: the one at a place, the first of them, and those behind these
pub read_at : (words : List (Bor (List ℕ))) (i : ℕ) → i < length words → slice_get (map (λ word. word.now) words) i ≡ Some (get_or words i record { ref_ptr = (0, 0); now = [] }).now
read_at words i h = at_place (λ word. word.now) words i record { ref_ptr = (0, 0); now = [] } h

pub read_past : (words : List (Bor (List ℕ))) (i : ℕ) → length words ≤ i → slice_get (map (λ word. word.now) words) i ≡ None
read_past words i h = slice_get_past (map (λ word. word.now) words) i (rw length-map h)

pub read_front : (n : ℕ) (words : List (Bor (List ℕ))) → take n (map (λ word. word.now) words) ≡ map (λ word. word.now) (take n words)
read_front n words = take-map (λ word. word.now) n words

pub read_rest : (n : ℕ) (words : List (Bor (List ℕ))) → drop n (map (λ word. word.now) words) ≡ map (λ word. word.now) (take (length words - n) (drop n words))
read_rest n words = drop-map (λ word. word.now) n words ∙ ap (map (λ word. word.now)) (sym (take_all (length words - n) (drop n words) (rw length-drop (omega arith))))
