-- Things that are saved in a row, one after the other.
use Rattle.std.proofs.Common.{◌≡◌, ◌≤◌, ◌⊎◌, ℕ, ◌+◌, Bool, true, false, Result, Ok, List, [], ◌∷◌, ◌++◌, length, drop, slice_get, None, Some, inl, inr, refl, sym, ap, ◌∙◌, append-nil, length-append, arith}
use Rattle.std.proofs.Math.ListN.{drop_of_length-le}
use Rattle.std.proofs.lemmas.List.{append_assoc, drop_more}
use Rattle.std.proofs.lemmas.Option.{slice_get_within, slice_get_cases, get_or_from_slice_get}
use Rattle.ncp_saved.specs.declared.reader.Unread.{Unread}
use Rattle.ncp_saved.specs.Values.{mark, listed}
use Rattle.ncp_saved.specs.Reading.{ReadsBack}

drop_from : {A : Type 0} (xs : List A) (i : ℕ) (x : A) → slice_get xs i ≡ Some x → drop i xs ≡ x ∷ drop (i + 1) xs
drop_from xs i x at = drop_more xs i x (slice_get_within xs i x at) ∙ ap (λ (y : _). y ∷ drop (i + 1) xs) (get_or_from_slice_get xs i x x at)

listed_none : {A : Type 0} (f : A → List ℕ) → listed f [] ≡ 0 ∷ []
unfolding listed
listed_none f = refl

listed_some : {A : Type 0} (f : A → List ℕ) (x : A) (xs : List A) → listed f (x ∷ xs) ≡ 1 ∷ (f x ++ listed f xs)
unfolding listed
listed_some f x xs = refl

-- nothing is behind a place that has nothing
pub past : {A : Type 0} (xs : List A) (i : ℕ) → slice_get xs i ≡ None → length xs ≤ i
past xs i none = elim (slice_get_cases xs i).1 [
  | inl there ↦ absurd (let some = there.2 in cc)
  | inr behind ↦ behind.0
]

-- one more is written, behind a 1
pub row_more : {A : Type 0} (f : A → List ℕ) (xs : List A) (i : ℕ) (x : A) (out now all : List ℕ) → slice_get xs i ≡ Some x → now ≡ out ++ 1 ∷ f x → out ++ listed f (drop i xs) ≡ all → now ++ listed f (drop (i + 1) xs) ≡ all
row_more f xs i x out now all at is e =
    ap (λ (w : List ℕ). w ++ listed f (drop (i + 1) xs)) is
    ∙ append_assoc out (1 ∷ f x) (listed f (drop (i + 1) xs))
    ∙ ap (λ (w : List ℕ). out ++ w) (sym (ap (listed f) (drop_from xs i x at) ∙ listed_some f x (drop (i + 1) xs)))
    ∙ e

-- nothing is left, and a 0 is written
pub row_end : {A : Type 0} (f : A → List ℕ) (xs : List A) (i : ℕ) (out now all : List ℕ) → length xs ≤ i → out ++ listed f (drop i xs) ≡ all → now ≡ out ++ 0 ∷ [] → now ≡ all
row_end f xs i out now all past e is =
    is ∙ ap (λ (w : List ℕ). out ++ w) (sym (ap (listed f) (drop_of_length-le xs past) ∙ listed_none f)) ∙ e

-- Some things of a row are read, and the others are left.

pub record HalfRead {A : Type 0} (saved : A → List ℕ) (all done : List A) (rest now : List ℕ) : Type 0 where
  pub left : List A
  pub joined : done ++ left ≡ all
  pub bytes : now ≡ listed saved left ++ rest

-- behind a 1 is the next one
pub record IsNext {A : Type 0} (saved : A → List ℕ) (all done : List A) (rest after : List ℕ) : Type 0 where
  pub next : A
  pub others : List A
  pub joined : done ++ next ∷ others ≡ all
  pub bytes : after ≡ saved next ++ (listed saved others ++ rest)

abbrev pub Marked : {A : Type 0} → (A → List ℕ) → List A → List A → List ℕ → List ℕ → Result Bool Unread → Type 0
Marked saved all done rest after result = ((result ≡ Ok false) × (done ≡ all) × (after ≡ rest)) ⊎ ((result ≡ Ok true) × IsNext saved all done rest after)

marked_before : {A : Type 0} (saved : A → List ℕ) (all done left : List A) (rest now after : List ℕ) (result : Result Bool Unread) → done ++ left ≡ all → now ≡ listed saved left ++ rest → ReadsBack (λ set. mark set ∷ []) now result after → Marked saved all done rest after result
marked_before saved all done [] rest now after result joined bytes reads =
    let r = reads false rest (bytes ∙ ap (λ (w : List ℕ). w ++ rest) (listed_none saved)) in
    inl (r.0, sym (append-nil done) ∙ joined, r.1)
marked_before saved all done (x ∷ xs) rest now after result joined bytes reads =
    let r = reads true ((saved x ++ listed saved xs) ++ rest) (bytes ∙ ap (λ (w : List ℕ). w ++ rest) (listed_some saved x xs)) in
    inr (r.0, record { next = x; others = xs; joined = joined; bytes = r.1 ∙ append_assoc (saved x) (listed saved xs) rest })

-- the mark in front of what is left
pub marked : {A : Type 0} (saved : A → List ℕ) (all done : List A) (rest now after : List ℕ) (result : Result Bool Unread) → HalfRead saved all done rest now → ReadsBack (λ set. mark set ∷ []) now result after → Marked saved all done rest after result
marked saved all done rest now after result half reads = marked_before saved all done half.left rest now after result half.joined half.bytes reads

-- the next one is read
pub one_read : {A : Type 0} (saved : A → List ℕ) (all done : List A) (rest after now : List ℕ) (is : IsNext saved all done rest after) → now ≡ listed saved is.others ++ rest → HalfRead saved all (done ++ is.next ∷ []) rest now
one_read saved all done rest after now is e = record { left = is.others; joined = append_assoc done (is.next ∷ []) is.others ∙ is.joined; bytes = e }

pub none_read : {A : Type 0} (saved : A → List ℕ) (all : List A) (rest now : List ℕ) → now ≡ listed saved all ++ rest → HalfRead saved all [] rest now
none_read saved all rest now e = record { left = all; joined = refl; bytes = e }

-- no more are read than there are
pub read_within : {A : Type 0} (saved : A → List ℕ) (all done : List A) (rest now : List ℕ) → HalfRead saved all done rest now → length done ≤ length all
read_within saved all done rest now half = let n : length all ≡ length done + length half.left = sym (ap length half.joined) ∙ length-append done half.left in omega (arith, n)

pub next_within : {A : Type 0} (saved : A → List ℕ) (all done : List A) (rest after : List ℕ) (is : IsNext saved all done rest after) → length done + 1 ≤ length all
next_within saved all done rest after is = let n : length all ≡ length done + length (is.next ∷ is.others) = sym (ap length is.joined) ∙ length-append done (is.next ∷ is.others) in omega (arith, n)
