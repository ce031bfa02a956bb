-- Saved pieces, one behind the other, as they are read.
use Rattle.std.proofs.Common.{◌≡◌, ◌⊎◌, inl, inr, ℕ, true, false, List, [], ◌∷◌, ◌++◌, Option, None, Some, Result, Ok, Err, refl, ◌∙◌, subst}
use Rattle.std.proofs.lemmas.List.{append_assoc}
use Rattle.ncp_saved.specs.declared.reader.Unread.{Unread}
use Rattle.ncp_saved.specs.declared.reader.Unread.TheVariants.{OutOfMemory}
use Rattle.ncp_saved.specs.Values.{mark, echoed_saved}
use Rattle.ncp_saved.specs.Reading.{OrNoMemory}

pub three_pieces : (a b c rest : List ℕ) → (a ++ b ++ c) ++ rest ≡ a ++ (b ++ (c ++ rest))
three_pieces a b c rest = append_assoc (a ++ b) c rest ∙ append_assoc a b (c ++ rest)

pub record_pieces : (m w b r i s rest : List ℕ) → (m ++ w ++ b ++ r ++ i ++ s) ++ rest ≡ m ++ (w ++ ((b ++ r ++ i) ++ (s ++ rest)))
record_pieces m w b r i s rest = simp append_assoc

pub counts_pieces : (a b c d e f g rest : List ℕ) → (a ++ b ++ c ++ d ++ e ++ f ++ g) ++ rest ≡ (a ++ b ++ c) ++ ((d ++ e ++ f) ++ (g ++ rest))
counts_pieces a b c d e f g rest = simp append_assoc

-- the byte of an echo, or none
abbrev pub Echoed : Option ℕ → List ℕ → List ℕ → Type 0
Echoed echoed bytes rest = ((echoed ≡ None) × (bytes ≡ (mark false ∷ []) ++ rest)) ⊎ ((b : ℕ) × (echoed ≡ Some b) × (bytes ≡ (mark true ∷ []) ++ ((b ∷ []) ++ rest)))

pub which_echoed : (echoed : Option ℕ) (bytes rest : List ℕ) → bytes ≡ echoed_saved echoed ++ rest → Echoed echoed bytes rest
unfolding echoed_saved
which_echoed None bytes rest e = inl (refl, e)
which_echoed (Some b) bytes rest e = inr (b, refl, e)

-- What a reader that may want memory gave.

pub is_read : {A : Type 0} (P : A → Type 0) (r : Result A Unread) (x : A) → r ≡ Ok x → OrNoMemory r P → P x
is_read {A} P r x e h = subst (λ (s : Result A Unread). OrNoMemory s P) e h

pub is_none : {A : Type 0} (P : A → Type 0) (r : Result A Unread) (d : Unread) → r ≡ Err d → OrNoMemory r P → d ≡ OutOfMemory
is_none {A} P r d e h = subst (λ (s : Result A Unread). OrNoMemory s P) e h
