-- What holds at each answer of `take`, one note after the other.
use Rattle.std.proofs.Common.{◌≡◌, ℕ, Bool, List, [], ◌∷◌, ◌++◌, sym, ap, subst}
use Rattle.std.proofs.lemmas.List.{append_assoc, append-nil}
use Rattle.ncp_model.specs.declared.pair.Pair.{Pair}
use Rattle.ncp_model.specs.Pairs.{counterpart}
use Rattle.ncp_transcript.specs.declared.note.HostNote.TheVariants as of_host
use Rattle.ncp_transcript_two.specs.declared.side.Side.{Side}
use Rattle.ncp_transcript_two.specs.declared.note.Note.{Note}
use Rattle.ncp_transcript_two.specs.declared.note.Note.TheVariants as notes
use Rattle.ncp_transcript_two.specs.Between.{other}
use Rattle.ncp_statement.specs.Statement.{given, taken}

abbrev pub GoesOn : List Note → Side → Pair → List Bool → Type 0
GoesOn before side pair text = (rest : List Bool) × (given (other side) (counterpart pair) before ≡ (taken side pair before ++ text) ++ rest)

abbrev pub AtNote : List Note → Note → Type 0
AtNote before (notes.Called side (of_host.Took peer pair bytes text)) = GoesOn before side pair text
AtNote before note = Unit {0}

abbrev pub AtNotes : List Note → List Note → Type 0
AtNotes before [] = Unit {0}
AtNotes before (n ∷ ns) = AtNote before n × AtNotes (before ++ n ∷ []) ns

abbrev first_or : Note → List Note → Note
first_or d [] = d
first_or d (n ∷ ns) = n

abbrev others : List Note → List Note
others [] = []
others (n ∷ ns) = ns

pub each-take : (done ns before after : List Note) (side : Side) (peer : ℕ) (pair : Pair) (bytes : ℕ) (text : List Bool) → ns ≡ before ++ notes.Called side (of_host.Took peer pair bytes text) ∷ after → AtNotes done ns → GoesOn (done ++ before) side pair text
each-take done [] [] after side peer pair bytes text e k = absurd (cc e)
each-take done [] (b ∷ before) after side peer pair bytes text e k = absurd (cc e)
each-take done (n ∷ ns) [] after side peer pair bytes text e k =
    let is : n ≡ notes.Called side (of_host.Took peer pair bytes text) = ap (first_or n) e in
    let here : GoesOn done side pair text = subst (AtNote done) is k.0 in
    subst (λ (xs : List Note). GoesOn xs side pair text) (sym (append-nil done)) here
each-take done (n ∷ ns) (b ∷ before) after side peer pair bytes text e k =
    let is : n ≡ b = ap (first_or n) e in
    let more : ns ≡ before ++ notes.Called side (of_host.Took peer pair bytes text) ∷ after = ap others e in
    subst (λ (xs : List Note). GoesOn xs side pair text) (append_assoc done (b ∷ []) before)
    (each-take (done ++ b ∷ []) ns before after side peer pair bytes text more (subst (λ (x : Note). AtNotes (done ++ x ∷ []) ns) is k.1))
