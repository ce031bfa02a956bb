use Rattle.std.proofs.Common.{◌≡◌, ℕ, ◌==◌, Bool, true, false, if◌then◌else◌, List, [], ◌∷◌, ◌++◌, None, Some, refl, ap, subst, arith}
use Rattle.ncp_subnet.specs.declared.transit.Transit.TheVariants.{Free, Accepted, Delivered, Lost}
use Rattle.ncp_subnet.specs.Messages.{link_in}
use Rattle.ncp_subnet.specs.Transit.{is_accepted, answer_kind}
use Rattle.ncp_transcript_two.specs.declared.side.Side.TheVariants.{A}
use Rattle.ncp_transcript_two.specs.declared.note.Move.TheVariants as moves
use Rattle.ncp_transcript_two.specs.declared.note.Note.{Note}
use Rattle.ncp_transcript_two.specs.declared.note.Note.TheVariants as notes
use Rattle.ncp_transcript_two.specs.Impossible.{IsImpossible}
use Rattle.ncp_statement.specs.Statement.{link_state}
use Rattle.ncp_statement.specs.Examples.{noted_out, noted_in, is_lost, had_none}
use Rattle.ncp_statement.proofs.examples.subnets_that_take_nothing_are_seen.Goals as goal

itself : (n : ℕ) → (n == n) ≡ true
itself n = grind arith

-- where the link is that of the message
on : (m : List Bool) (P : Bool → Type 0) → P (link_in m == link_in m) → P true
on m P k = subst P (itself (link_in m)) k

accepted_it : true ≡ false → ⊥
accepted_it e = absurd (cc)

has_answer : (n : ℕ) → Some n ≡ None → ⊥
has_answer n e = absurd (cc)

pub returns-clause-nothing : goal.returns-clause-nothing
returns-clause-nothing c m t = accepted_it (on m (λ b. is_accepted (if b then Accepted m else Free) ≡ false) (t (noted_out m ∷ []) [] A (link_in m) moves.Deliver refl))

pub returns-clause-none_lost : goal.returns-clause-none_lost
returns-clause-none_lost c m t = accepted_it (on m (λ b. is_accepted (if b then Accepted m else Free) ≡ false) (t (noted_out m ∷ []) [] A (link_in m) moves.Lose refl))

pub returns-clause-unanswered : goal.returns-clause-unanswered
returns-clause-unanswered c m n r t = has_answer _ (on m (λ b. answer_kind (if b then Delivered else (if b then Accepted m else Free)) ≡ None) (t (noted_out m ∷ noted_in m n r ∷ []) [] A (link_in m) moves.Answer refl))

pub returns-clause-untold : goal.returns-clause-untold
returns-clause-untold c m t = has_answer _ (on m (λ b. answer_kind (if b then Lost else (if b then Accepted m else Free)) ≡ None) (t (noted_out m ∷ is_lost m ∷ []) [] A (link_in m) moves.Answer refl))

abbrev Behind : Note → Note → Type 0
Behind first (notes.Nothing side link wanted) = IsImpossible wanted (link_state side link (first ∷ []))
Behind first note = Unit {0}

abbrev first_or : Note → List Note → Note
first_or d [] = d
first_or d (n ∷ ns) = n

abbrev second_or : Note → List Note → Note
second_or d [] = d
second_or d (n ∷ ns) = first_or d ns

pub returns-clause-not_yet : goal.returns-clause-not_yet
returns-clause-not_yet c m before after side link wanted e = go before e
  where
    here : (b : Bool) → answer_kind (if b then Accepted m else Free) ≡ None
    here true = refl
    here false = refl

    go : (before : List Note) → noted_out m ∷ had_none m moves.Answer ∷ [] ≡ before ++ notes.Nothing side link wanted ∷ after → IsImpossible wanted (link_state side link before)
    go [] e = absurd (cc e)
    go (x ∷ []) e =
        let one : noted_out m ≡ x = ap (first_or (noted_out m)) e in
        let two : had_none m moves.Answer ≡ notes.Nothing side link wanted = ap (second_or (noted_out m)) e in
        subst (λ (n : Note). Behind x n) two (subst (λ (n : Note). Behind n (had_none m moves.Answer)) one (here (link_in m == link_in m)))
    go (x ∷ y ∷ []) e = absurd (cc e)
    go (x ∷ y ∷ z ∷ rest) e = absurd (cc e)

pub returns-clause-done : goal.returns-clause-done
returns-clause-done c m n r s = go (link_in m == link_in m)
  where
    go : (b : Bool) → (if b then Free else (if b then Delivered else (if b then Accepted m else Free))) ≡ Free
    go true = refl
    go false = refl
