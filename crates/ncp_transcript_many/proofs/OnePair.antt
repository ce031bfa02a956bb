-- A note is one of one pair, or of none.
use Rattle.std.proofs.Common.{◌≡◌, ◌≢◌, ℕ, ◌==◌, ◌≤◌, Bool, true, false, ◌&&◌, if◌then◌else◌, [], length, Option, None, Some, inl, inr, ◌⊎◌, refl, sym, ap, ◌∙◌, arith}
use Rattle.std.proofs.lemmas.Bool.{eqb-true, and_parts}
use Rattle.ncp_transcript_two.specs.declared.side.Side.{Side}
use Rattle.ncp_transcript_two.specs.declared.side.Side.TheVariants.{A, B}
use Rattle.ncp_transcript_many.specs.declared.many_event.ManyEvent.{ManyEvent}
use Rattle.ncp_transcript_many.specs.declared.many_event.ManyEvent.TheVariants as events
use Rattle.ncp_transcript_many.specs.declared.many_note.ManyNote.{ManyNote}
use Rattle.ncp_transcript_many.specs.declared.many_note.ManyNote.TheVariants as many
use Rattle.ncp_transcript_many.specs.Pairs.{two_of, side_of_pair, vain, on_side, if_side, note_between}

vain-one : (side : Side) (event : ManyEvent) → length (vain side event) ≤ 1
vain-one side (events.Call host call) = omega arith
vain-one side (events.Out host) = omega arith
vain-one side (events.Deliver from to link) = omega arith
vain-one side (events.Lose from to link) = omega arith
vain-one side (events.Dead from to link) = omega arith
vain-one side (events.Answer from to link) = omega arith

side-one : (side : Side) (note : ManyNote) → length (on_side side note) ≤ 1
side-one side (many.Called host note) = omega arith
side-one side (many.Out host note) = omega arith
side-one side (many.Came from to link note) = omega arith
side-one side (many.Lost from to link) = omega arith
side-one side (many.FoundDead from to link) = omega arith
side-one side (many.Answered from to link note) = omega arith
side-one side (many.Nothing event) = vain-one side event

pub between-one : (note : ManyNote) (a b : ℕ) → length (note_between a b note) ≤ 1
between-one note a b = go (side_of_pair a b (two_of note))
  where
    go : (o : Option Side) → length (if_side o note) ≤ 1
    go None = omega arith
    go (Some side) = side-one side note

-- a note between two names both

abbrev named : ℕ → ℕ → Option (ℕ × ℕ)
named x y = Some (x, y)

sided : (a b : ℕ) (o : Option (ℕ × ℕ)) (note : ManyNote) → if_side (side_of_pair a b o) note ≢ [] → (o ≡ Some (a, b)) ⊎ (o ≡ Some (b, a))
sided a b None note some = absurd (some refl)
sided a b (Some (x, y)) note some = go (x == a && y == b) refl (x == b && y == a) refl some
  where
    same : (c d : ℕ) → (x == c && y == d) ≡ true → named x y ≡ named c d
    same c d e =
        let p = and_parts (x == c) (y == d) e in
        ap (λ (i : ℕ). named i y) (eqb-true x c p.0) ∙ ap (named c) (eqb-true y d p.1)

    go : (t : Bool) → (x == a && y == b) ≡ t → (u : Bool) → (x == b && y == a) ≡ u → if_side (if t then Some A else (if u then Some B else None)) note ≢ [] → (named x y ≡ named a b) ⊎ (named x y ≡ named b a)
    go true e u f some = inl (same a b e)
    go false e true f some = inr (same b a f)
    go false e false f some = absurd (some refl)

pub named-both : (note : ManyNote) (a b : ℕ) → note_between a b note ≢ [] → (two_of note ≡ Some (a, b)) ⊎ (two_of note ≡ Some (b, a))
named-both note a b some = sided a b (two_of note) note some

-- so it is between no other two

abbrev front : Option (ℕ × ℕ) → ℕ
front None = 0
front (Some p) = p.0

abbrev back : Option (ℕ × ℕ) → ℕ
back None = 0
back (Some p) = p.1

one : (o : Option (ℕ × ℕ)) (a b c d : ℕ) → (o ≡ Some (a, b)) ⊎ (o ≡ Some (b, a)) → (o ≡ Some (c, d)) ⊎ (o ≡ Some (d, c)) → ((c ≡ a) × (d ≡ b)) ⊎ ((c ≡ b) × (d ≡ a))
one o a b c d (inl e) (inl f) = inl (ap front (sym f ∙ e), ap back (sym f ∙ e))
one o a b c d (inl e) (inr f) = inr (ap back (sym f ∙ e), ap front (sym f ∙ e))
one o a b c d (inr e) (inl f) = inr (ap front (sym f ∙ e), ap back (sym f ∙ e))
one o a b c d (inr e) (inr f) = inl (ap back (sym f ∙ e), ap front (sym f ∙ e))

pub one-pair : (note : ManyNote) (a b c d : ℕ) → note_between a b note ≢ [] → note_between c d note ≢ [] → ((c ≡ a) × (d ≡ b)) ⊎ ((c ≡ b) × (d ≡ a))
one-pair note a b c d some more = one (two_of note) a b c d (named-both note a b some) (named-both note c d more)
