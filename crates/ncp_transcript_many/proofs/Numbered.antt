-- Things with numbers: where they are after one changes, and which numbers there are.
use Rattle.std.proofs.Common.{◌≡◌, ℕ, ◌==◌, Bool, true, false, ◌||◌, if◌then◌else◌, List, [], ◌∷◌, map, Option, None, Some, refl, sym, ap, ◌∙◌, arith}
use Rattle.std.proofs.lemmas.Bool.{eqb-true}
use Rattle.ncp_host.specs.Host.{is_one_of}
use Rattle.ncp_transcript_many.specs.Numbered.{thing_in, at_thing}

-- a thing, if it is there, after what happened if it did
abbrev pub done : {A : Type 0} → Bool → (A → A) → Option A → Option A
done b f None = None
done b f (Some x) = Some (if b then f x else x)

pub done_not : {A : Type 0} (f : A → A) (o : Option A) → o ≡ done false f o
done_not f None = refl
done_not f (Some x) = refl

pub thing-at : {A : Type 0} (xs : List (ℕ × A)) (k n : ℕ) (f : A → A) → thing_in (at_thing k f xs) n ≡ done (k == n) f (thing_in xs n)
thing-at [] k n f = refl
thing-at (x ∷ xs) k n f = go (x.0 == k) (x.0 == n) refl refl (thing-at xs k n f)
  where
    same : (x.0 == k) ≡ true → (x.0 == n) ≡ (k == n)
    same e = ap (λ (i : ℕ). i == n) (eqb-true x.0 k e)

    apart : (x.0 == k) ≡ false → (x.0 == n) ≡ true → (k == n) ≡ false
    apart e g = grind arith

    first : (c : Bool) → (x.0 == n) ≡ c → (k == n) ≡ c → (if c then Some (f x.1) else thing_in xs n) ≡ done (k == n) f (if c then Some x.1 else thing_in xs n)
    first true g h = ap (λ (b : Bool). Some (if b then f x.1 else x.1)) (sym h)
    first false g h = done_not f (thing_in xs n) ∙ ap (λ (b : Bool). done b f (thing_in xs n)) (sym h)

    go : (b c : Bool) → (x.0 == k) ≡ b → (x.0 == n) ≡ c → thing_in (at_thing k f xs) n ≡ done (k == n) f (thing_in xs n)
        → thing_in (if b then (x.0, f x.1) ∷ xs else x ∷ at_thing k f xs) n ≡ done (k == n) f (if x.0 == n then Some x.1 else thing_in xs n)
    go true c e g rest = ap (λ (i : Bool). if i then Some (f x.1) else thing_in xs n) g ∙ first c g (sym (same e) ∙ g) ∙ ap (λ (i : Bool). done (k == n) f (if i then Some x.1 else thing_in xs n)) (sym g)
    go false true e g rest =
        ap (λ (i : Bool). if i then Some x.1 else thing_in (at_thing k f xs) n) g
        ∙ ap (λ (i : Bool). Some (if i then f x.1 else x.1)) (sym (apart e g))
        ∙ ap (λ (i : Bool). done (k == n) f (if i then Some x.1 else thing_in xs n)) (sym g)
    go false false e g rest =
        ap (λ (i : Bool). if i then Some x.1 else thing_in (at_thing k f xs) n) g
        ∙ rest
        ∙ ap (λ (i : Bool). done (k == n) f (if i then Some x.1 else thing_in xs n)) (sym g)

pub numbers-stay : {A : Type 0} (xs : List (ℕ × A)) (k : ℕ) (f : A → A) → map (λ x. x.0) (at_thing k f xs) ≡ map (λ x. x.0) xs
numbers-stay [] k f = refl
numbers-stay (x ∷ xs) k f = go (x.0 == k) (numbers-stay xs k f)
  where
    go : (b : Bool) → map (λ x. x.0) (at_thing k f xs) ≡ map (λ x. x.0) xs → map (λ x. x.0) (if b then (x.0, f x.1) ∷ xs else x ∷ at_thing k f xs) ≡ x.0 ∷ map (λ x. x.0) xs
    go true rest = refl
    go false rest = ap (λ (ns : List ℕ). x.0 ∷ ns) rest

-- a number that is there has a thing
pub thing-there : {A : Type 0} (xs : List (ℕ × A)) (n : ℕ) → is_one_of n (map (λ x. x.0) xs) ≡ true → (it : A) × (thing_in xs n ≡ Some it)
thing-there [] n e = absurd (cc e)
thing-there {A} (x ∷ xs) n e = go (x.0 == n) e (thing-there xs n)
  where
    go : (b : Bool) → (b || is_one_of n (map (λ x. x.0) xs)) ≡ true → (is_one_of n (map (λ x. x.0) xs) ≡ true → (it : A) × (thing_in xs n ≡ Some it)) → (it : A) × ((if b then Some x.1 else thing_in xs n) ≡ Some it)
    go true e rest = (x.1, refl)
    go false e rest = rest e

-- things that were made of their numbers
pub thing-made : {A : Type 0} (g : ℕ → A) (ns : List ℕ) (k : ℕ) → is_one_of k ns ≡ true → thing_in (map (λ n. (n, g n)) ns) k ≡ Some (g k)
thing-made g [] k e = absurd (cc e)
thing-made g (n ∷ ns) k e = go (n == k) refl e (thing-made g ns k)
  where
    go : (b : Bool) → (n == k) ≡ b → (b || is_one_of k ns) ≡ true → (is_one_of k ns ≡ true → thing_in (map (λ n. (n, g n)) ns) k ≡ Some (g k)) → (if b then Some (g n) else thing_in (map (λ n. (n, g n)) ns) k) ≡ Some (g k)
    go true same e rest = ap (λ (i : ℕ). Some (g i)) (eqb-true n k same)
    go false same e rest = rest e

pub numbers-made : {A : Type 0} (g : ℕ → A) (ns : List ℕ) → map (λ (x : ℕ × A). x.0) (map (λ n. (n, g n)) ns) ≡ ns
numbers-made g [] = refl
numbers-made g (n ∷ ns) = ap (λ (xs : List ℕ). n ∷ xs) (numbers-made g ns)
