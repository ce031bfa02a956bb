-- The texts of the connections that were opened, by their places: after one of them is another, and after one more is opened.
use Rattle.std.proofs.Common.{◌≡◌, ◌<◌, ℕ, zero, suc, Bool, true, false, if◌then◌else◌, List, [], ◌∷◌, ◌++◌, length, get_or, Option, None, Some, refl, ap, ◌∙◌, arith}
use Rattle.std.specs.Prelude.{nat_lt, slice_set, slice_get}
use Rattle.std.proofs.lemmas.Bool.Decides.{nat_tests}
use Rattle.ncp_follow.specs.declared.connection.Connection.{Connection}
use Rattle.ncp_follow.specs.Connections.{opened_as, opened_at, with_opened_at, numbered, connection_text}
use Rattle.ncp_follow.specs.Tracks.{new_track}

abbrev pub text_at : List Connection → Option ℕ → List Bool
text_at told o = connection_text (numbered told o)

abbrev nobody : Connection
nobody = opened_as 0 0 (new_track 0 0 0 0)

-- ---- one is another

set_text : (told : List Connection) (p q : ℕ) (c : Connection) → c.text ≡ (get_or told p nobody).text → connection_text (slice_get (slice_set told p c) q) ≡ connection_text (slice_get told q)
set_text [] p q c e = refl
set_text (x ∷ xs) zero zero c e = e
set_text (x ∷ xs) zero (suc q) c e = refl
set_text (x ∷ xs) (suc p) zero c e = refl
set_text (x ∷ xs) (suc p) (suc q) c e = set_text xs p q c e

set_here : (told : List Connection) (p : ℕ) (c : Connection) → p < length told → connection_text (slice_get (slice_set told p c) p) ≡ c.text
set_here [] p c l = absurd (omega arith)
set_here (x ∷ xs) zero c l = refl
set_here (x ∷ xs) (suc p) c l = set_here xs p c (omega arith)

set_there : (told : List Connection) (p q : ℕ) (c : Connection) → (q ≡ p → ⊥) → connection_text (slice_get (slice_set told p c) q) ≡ connection_text (slice_get told q)
set_there [] p q c d = refl
set_there (x ∷ xs) zero zero c d = absurd (d refl)
set_there (x ∷ xs) zero (suc q) c d = refl
set_there (x ∷ xs) (suc p) zero c d = refl
set_there (x ∷ xs) (suc p) (suc q) c d = set_there xs p q c (λ e. d (ap suc e))

-- with the same text
pub opened_same : (told : List Connection) (p : ℕ) (c : Connection) (o : Option ℕ) → c.text ≡ (opened_at told p).text → text_at (with_opened_at told p c) o ≡ text_at told o
opened_same told p c None e = refl
opened_same told p c (Some q) e = go (nat_lt p (length told))
  where
    go : (b : Bool) → text_at (if b then slice_set told p c else told) (Some q) ≡ text_at told (Some q)
    go true = set_text told p q c e
    go false = refl

inside : (told : List Connection) (p : ℕ) (c : Connection) → p < length told → with_opened_at told p c ≡ slice_set told p c
inside told p c l = let in_it : nat_lt p (length told) ≡ true = grind (arith, nat_tests) in ap (λ (b : Bool). if b then slice_set told p c else told) in_it

pub told_here : (told : List Connection) (p : ℕ) (c : Connection) → p < length told → text_at (with_opened_at told p c) (Some p) ≡ c.text
told_here told p c l = ap (λ (xs : List Connection). text_at xs (Some p)) (inside told p c l) ∙ set_here told p c l

pub told_other : (told : List Connection) (p q : ℕ) (c : Connection) → (q ≡ p → ⊥) → text_at (with_opened_at told p c) (Some q) ≡ text_at told (Some q)
told_other told p q c d = go (nat_lt p (length told))
  where
    go : (b : Bool) → text_at (if b then slice_set told p c else told) (Some q) ≡ text_at told (Some q)
    go true = set_there told p q c d
    go false = refl

pub opened_length : (told : List Connection) (p : ℕ) (c : Connection) → length (with_opened_at told p c) ≡ length told
opened_length told p c = go (nat_lt p (length told))
  where
    same : (xs : List Connection) (i : ℕ) → length (slice_set xs i c) ≡ length xs
    same [] i = refl
    same (x ∷ xs) zero = refl
    same (x ∷ xs) (suc i) = ap suc (same xs i)

    go : (b : Bool) → length (if b then slice_set told p c else told) ≡ length told
    go true = same told p
    go false = refl

-- the one at that index
pub text_there : (told : List Connection) (p : ℕ) → p < length told → (opened_at told p).text ≡ text_at told (Some p)
text_there [] p l = absurd (omega arith)
text_there (x ∷ xs) zero l = refl
text_there (x ∷ xs) (suc p) l = text_there xs p (omega arith)

-- ---- one more is opened

pub more_same : (told : List Connection) (q : ℕ) (c : Connection) → q < length told → text_at (told ++ c ∷ []) (Some q) ≡ text_at told (Some q)
more_same [] q c l = absurd (omega arith)
more_same (x ∷ xs) zero c l = refl
more_same (x ∷ xs) (suc q) c l = more_same xs q c (omega arith)

pub more_new : (told : List Connection) (c : Connection) → text_at (told ++ c ∷ []) (Some (length told)) ≡ c.text
more_new [] c = refl
more_new (x ∷ xs) c = more_new xs c
