-- Two of any number of hosts.
use Rattle.std.proofs.Common.{◌≡◌, ◌≢◌, ℕ, ◌==◌, Bool, true, false, if◌then◌else◌, List, [], ◌∷◌, refl, sym, ap, ◌∙◌}
use Rattle.std.proofs.lemmas.Bool.{eqb-true}
use Rattle.ncp_transcript.specs.declared.note.HostNote.{HostNote}
use Rattle.ncp_transcript_two.specs.declared.side.Side.TheVariants.{A, B}
use Rattle.ncp_proof_statement.specs.Notes.{notes_by, NumberedNotes, notes_of_host, notes_of_two}

pub own-a : (a b : ℕ) (ns : NumberedNotes) → notes_of_host a ns ≡ notes_by A (notes_of_two a b ns)
own-a a b [] = refl
own-a a b (n ∷ ns) = go (n.0 == a) (n.0 == b) (own-a a b ns)
  where
    go : (s t : Bool) → notes_of_host a ns ≡ notes_by A (notes_of_two a b ns) → (if s then n.1 ∷ notes_of_host a ns else notes_of_host a ns) ≡ notes_by A (if s then (A, n.1) ∷ notes_of_two a b ns else if t then (B, n.1) ∷ notes_of_two a b ns else notes_of_two a b ns)
    go true t k = ap (λ (xs : List HostNote). n.1 ∷ xs) k
    go false true k = k
    go false false k = k

pub own-b : (a b : ℕ) → a ≢ b → (ns : NumberedNotes) → notes_of_host b ns ≡ notes_by B (notes_of_two a b ns)
own-b a b d [] = refl
own-b a b d (n ∷ ns) = go (n.0 == a) (n.0 == b) refl refl (own-b a b d ns)
  where
    go : (s t : Bool) → (n.0 == a) ≡ s → (n.0 == b) ≡ t → notes_of_host b ns ≡ notes_by B (notes_of_two a b ns) → (if t then n.1 ∷ notes_of_host b ns else notes_of_host b ns) ≡ notes_by B (if s then (A, n.1) ∷ notes_of_two a b ns else if t then (B, n.1) ∷ notes_of_two a b ns else notes_of_two a b ns)
    go true true e f k = absurd (d (sym (eqb-true n.0 a e) ∙ eqb-true n.0 b f))
    go true false e f k = k
    go false true e f k = ap (λ (xs : List HostNote). n.1 ∷ xs) k
    go false false e f k = k
