-- The hosts in their row: whether one is there, and where it is; and what one of them noted.
use Rattle.std.proofs.Common.{◌≡◌, ◌<◌, ◌+◌, ℕ, suc, ◌==◌, true, false, ◌||◌, Bool, cond, List, [], ◌∷◌, map, length, get_or, Option, None, Some, Bor, if◌then◌else◌, Result, Ok, Err, IfOk, OnErr, refl, sym, ap, ◌∙◌, arith}
use Rattle.std.specs.Prelude.{slice_get, slice_set}
use Rattle.std.specs.Option.{is_some, IsSome, option_copied}
use Rattle.std.specs.List.{position, position_from}
use Rattle.std.proofs.lemmas.Option.{slice_get-get_or}
use Rattle.std.proofs.lemmas.Iterator.Adapters.{position_from-zero}
use Rattle.ncp_host.specs.Host.{Host, is_one_of}
use Rattle.ncp_transcript.specs.declared.note.HostNote.{HostNote}
use Rattle.ncp_transcript.specs.After.{after_note}
use Rattle.ncp_step.specs.Noted.{after_noted}
use Rattle.ncp_transcript_many.specs.Numbered.{thing_in, at_thing}
use Rattle.ncp_transcript_many.specs.Network.{host_or_none}
use Rattle.ncp_world.specs.Found.{IsAt, at_noted}

-- a number has a place where it is there

placed-from : (xs : List (ℕ × Host)) (n k : ℕ) → is_some (position_from (λ (x : ℕ × Host). x.0 == n) k xs) ≡ is_one_of n (map (λ x. x.0) xs)
placed-from [] n k = refl
placed-from (x ∷ xs) n k = go (x.0 == n) (placed-from xs n (k + 1))
  where
    go : (b : Bool) → is_some (position_from (λ (x : ℕ × Host). x.0 == n) (k + 1) xs) ≡ is_one_of n (map (λ x. x.0) xs)
        → is_some (cond b (Some k) (position_from (λ (x : ℕ × Host). x.0 == n) (k + 1) xs)) ≡ (b || is_one_of n (map (λ x. x.0) xs))
    go true rest = refl
    go false rest = rest

pub placed : (xs : List (ℕ × Host)) (n : ℕ) → is_some (position (λ (x : ℕ × Host). x.0 == n) xs) ≡ is_one_of n (map (λ x. x.0) xs)
placed xs n = ap is_some (position_from-zero (λ (x : ℕ × Host). x.0 == n) xs) ∙ placed-from xs n 0

pub has-place : (xs : List (ℕ × Host)) (n : ℕ) (o : Option ℕ) → o ≡ position (λ (x : ℕ × Host). x.0 == n) xs → is_one_of n (map (λ x. x.0) xs) ≡ true → IsSome o
has-place xs n o e there = ap is_some e ∙ placed xs n ∙ there

-- its place is inside

inside-from : (xs : List (ℕ × Host)) (n k i : ℕ) → position_from (λ (x : ℕ × Host). x.0 == n) k xs ≡ Some i → i < k + length xs
inside-from [] n k i e = absurd (cc)
inside-from (x ∷ xs) n k i e = go (x.0 == n) e (inside-from xs n (k + 1) i)
  where
    go : (b : Bool) → cond b (Some k) (position_from (λ (x : ℕ × Host). x.0 == n) (k + 1) xs) ≡ Some i
        → (position_from (λ (x : ℕ × Host). x.0 == n) (k + 1) xs ≡ Some i → i < k + 1 + length xs) → i < k + suc (length xs)
    go true e rest = let same : k ≡ i = cc in omega arith
    go false e rest = let r = rest e in omega (arith, r)

pub place-inside : (xs : List (ℕ × Host)) (n i : ℕ) → Some i ≡ position (λ (x : ℕ × Host). x.0 == n) xs → i < length xs
place-inside xs n i e =
    let h : i < 0 + length xs = inside-from xs n 0 i (sym (position_from-zero (λ (x : ℕ × Host). x.0 == n) xs) ∙ sym e) in omega (arith, h)

-- the host at that place
pub host-read : (xs : List (ℕ × Host)) (n i : ℕ) (x : ℕ × Host) → IsAt xs n i → i < length xs → x ≡ get_or xs i x → thing_in xs n ≡ Some x.1
host-read xs n i x at h read = (at x (slice_get-get_or xs i x h ∙ ap (λ (y : ℕ × Host). Some y) (sym read))).0

-- a number has a host where it is there

pub some-there : (xs : List (ℕ × Host)) (n : ℕ) → is_some (thing_in xs n) ≡ is_one_of n (map (λ x. x.0) xs)
some-there [] n = refl
some-there (x ∷ xs) n = go (x.0 == n) (some-there xs n)
  where
    go : (b : Bool) → is_some (thing_in xs n) ≡ is_one_of n (map (λ x. x.0) xs) → is_some (if b then Some x.1 else thing_in xs n) ≡ (b || is_one_of n (map (λ x. x.0) xs))
    go true rest = refl
    go false rest = rest

pub copied-some : {T : Type 0} (o : Option (Bor T)) → is_some (option_copied o) ≡ is_some o
copied-some None = refl
copied-some (Some x) = refl

-- What one of them noted, if it noted anything, is done at its place.

at-same : (n : ℕ) (xs : List (ℕ × Host)) → at_thing n (λ (h : Host). h) xs ≡ xs
at-same n [] = refl
at-same n (x ∷ xs) = go (x.0 == n) (at-same n xs)
  where
    go : (b : Bool) → at_thing n (λ (h : Host). h) xs ≡ xs → (if b then (x.0, x.1) ∷ xs else x ∷ at_thing n (λ (h : Host). h) xs) ≡ x ∷ xs
    go true rest = refl
    go false rest = ap (λ (ys : List (ℕ × Host)). x ∷ ys) rest

-- The host of a number at its place, and what it noted there.
module _ (xs : List (ℕ × Host)) (n i : ℕ) (d x : ℕ × Host) (at : IsAt xs n i) (inside : i < length xs) (read : x ≡ get_or xs i d) where
  got : slice_get xs i ≡ Some x
  got = slice_get-get_or xs i d inside ∙ ap (λ (y : ℕ × Host). Some y) (sym read)

  pub host-there : x.1 ≡ host_or_none n (thing_in xs n)
  host-there = sym (ap (host_or_none n) (at x got).0)

  stays : (h : Host) → h ≡ x.1 → slice_set xs i (x.0, h) ≡ xs
  stays h e = ap (λ (y : Host). slice_set xs i (x.0, y)) e ∙ sym ((at x got).1 (λ (y : Host). y)) ∙ at-same n xs

  noted : (note : HostNote) (h : Host) → h ≡ after_note note x.1 → slice_set xs i (x.0, h) ≡ at_thing n (after_note note) xs
  noted note h e = ap (λ (y : Host). slice_set xs i (x.0, y)) e ∙ sym ((at x got).1 (after_note note))

  pub noted-there : {E : Type 0} (r : Result HostNote E) (h : Host) → IfOk r (λ note. h ≡ after_note note x.1) → IfOk r (λ note. slice_set xs i (x.0, h) ≡ at_thing n (after_note note) xs)
  noted-there (Ok note) h e = noted note h e
  noted-there (Err f) h e = tt

  pub told-there : {E : Type 0} (r : Result (Option HostNote) E) (h : Host) → IfOk r (λ note. h ≡ after_noted note x.1) → IfOk r (λ note. slice_set xs i (x.0, h) ≡ at_noted n note xs)
  told-there (Ok None) h e = stays h e
  told-there (Ok (Some note)) h e = noted note h e
  told-there (Err f) h e = tt

  pub kept-there : {A E : Type 0} (r : Result A E) (h : Host) → OnErr r (h ≡ x.1) → OnErr r (slice_set xs i (x.0, h) ≡ xs)
  kept-there (Ok a) h e = tt
  kept-there (Err f) h e = stays h e
