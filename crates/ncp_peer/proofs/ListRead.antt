-- Lists that are read item by item.
use Rattle.std.proofs.Common.{◌≡◌, ℕ, ◌+◌, ◌≤◌, Bool, List, [], ◌∷◌, ◌++◌, Result, length, length-append, refl, ◌∙◌, arith}
use Rattle.ncp_saved.specs.declared.reader.Unread.{Unread}
use Rattle.ncp_saved.specs.Values.{mark, listed}
use Rattle.ncp_saved.specs.Reading.{ReadsBack}
use Rattle.ncp_saved.proofs.Rows.{HalfRead, IsNext, Marked, marked, one_read, none_read, read_within}

-- so many items are read, of which something holds
pub record IsAt {A : Type 0} (saved : A → List ℕ) (all : List A) (rest now : List ℕ) (place : ℕ) (Holds : List A → Type 0) : Type 0 where
  pub done : List A
  pub many : length done ≡ place
  pub half : HalfRead saved all done rest now
  pub holds : Holds done

pub at_first : {A : Type 0} (saved : A → List ℕ) (all : List A) (rest now : List ℕ) (Holds : List A → Type 0) → now ≡ listed saved all ++ rest → Holds [] → IsAt saved all rest now 0 Holds
at_first saved all rest now Holds e holds = record { done = []; many = refl; half = none_read saved all rest now e; holds = holds }

-- what the mark says
pub at_mark : {A : Type 0} (saved : A → List ℕ) (all : List A) (rest now after : List ℕ) (place : ℕ) (Holds : List A → Type 0) (result : Result Bool Unread) (at : IsAt saved all rest now place Holds) → ReadsBack (λ set. mark set ∷ []) now result after → Marked saved all at.done rest after result
at_mark saved all rest now after place Holds result at reads = marked saved all at.done rest now after result at.half reads

pub at_next : {A : Type 0} (saved : A → List ℕ) (all : List A) (rest before after now : List ℕ) (place : ℕ) (Holds Now : List A → Type 0) (at : IsAt saved all rest before place Holds) (is : IsNext saved all at.done rest after) → now ≡ listed saved is.others ++ rest → Now (at.done ++ is.next ∷ []) → IsAt saved all rest now (place + 1) Now
at_next saved all rest before after now place Holds Now at is e holds = record {
  done = at.done ++ is.next ∷ [];
  many = length-append at.done (is.next ∷ []) ∙ (let n = at.many in omega (arith, n));
  half = one_read saved all at.done rest after now is e;
  holds = holds;
}

-- no more are read than there are
pub at_most : {A : Type 0} (saved : A → List ℕ) (all : List A) (rest now : List ℕ) (place : ℕ) (Holds : List A → Type 0) → IsAt saved all rest now place Holds → place ≤ length all
at_most saved all rest now place Holds at = let n = read_within saved all at.done rest now at.half in let m = at.many in omega (arith, n, m)
