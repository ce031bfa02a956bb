-- A note of many hosts is one of a pair, or it names no such pair.
use Rattle.std.proofs.Common.{◌≡◌, ◌⊎◌, inl, inr, ℕ, ◌==◌, Bool, true, false, ◌&&◌, if◌then◌else◌, [], ◌∷◌, Option, None, Some, refl, sym, ap, ◌∙◌}
use Rattle.std.proofs.lemmas.Bool.{and_parts, both_ways, eq-eqb, eqb-true}
use Rattle.ncp_proof_runs.specs.Peers.{peer_of_note}
use Rattle.ncp_proof_runs.proofs.HostRuns.{some_same}
use Rattle.ncp_transcript_two.specs.declared.side.Side.{Side}
use Rattle.ncp_transcript_two.specs.declared.side.Side.TheVariants.{A, B}
use Rattle.ncp_transcript_two.specs.declared.note.Move.{Move}
use Rattle.ncp_transcript_two.specs.declared.note.Note.{Note}
use Rattle.ncp_transcript_two.proofs.Accepting.{both}
use Rattle.ncp_transcript_many.specs.declared.many_event.ManyEvent.{ManyEvent}
use Rattle.ncp_transcript_many.specs.declared.many_note.ManyNote.{ManyNote}
use Rattle.ncp_transcript_many.specs.ManyHappening.{by_numbers}
use Rattle.ncp_transcript_many.specs.Pairs.{with_peer, ways_of, two_of, side_of_pair, on_side, if_side, note_between}

-- the caller or the sender first
abbrev ordered : Side → ℕ → ℕ → ℕ × ℕ
ordered A a b = (a, b)
ordered B a b = (b, a)

-- ---- what a note is, where it names the two

abbrev IsOn : ℕ → ℕ → Side → ManyNote → Type 0
IsOn a b side n = (two : Note) × (on_side side n ≡ two ∷ []) × (n ≡ by_numbers a b two)

moved : {T : Type 0} (f : ℕ → ℕ → T) (x y a b : ℕ) → ◌≡◌ {A = Option (ℕ × ℕ)} (Some (x, y)) (Some (a, b)) → f x y ≡ f a b
moved f x y a b e = ap (λ (p : ℕ × ℕ). f p.0 p.1) (some_same e)

first_is : (host : ℕ) (o : Option ℕ) (a b : ℕ) → with_peer host o ≡ Some (a, b) → host ≡ a
first_is host None a b e = absurd (cc)
first_is host (Some peer) a b e = ap (λ (p : ℕ × ℕ). p.0) (some_same e)

impossible_is : (a b : ℕ) (event : ManyEvent) (side : Side) → ways_of event ≡ Some (ordered side a b) → IsOn a b side (ManyNote.Nothing event)
impossible_is a b (ManyEvent.Call host call) side e = absurd (cc)
impossible_is a b (ManyEvent.Out host) side e = absurd (cc)
impossible_is a b (ManyEvent.Deliver from to link) A e = (Note.Nothing A link Move.Deliver, refl, moved (λ x y. ManyNote.Nothing (ManyEvent.Deliver x y link)) from to a b e)
impossible_is a b (ManyEvent.Deliver from to link) B e = (Note.Nothing B link Move.Deliver, refl, moved (λ x y. ManyNote.Nothing (ManyEvent.Deliver x y link)) from to b a e)
impossible_is a b (ManyEvent.Lose from to link) A e = (Note.Nothing A link Move.Lose, refl, moved (λ x y. ManyNote.Nothing (ManyEvent.Lose x y link)) from to a b e)
impossible_is a b (ManyEvent.Lose from to link) B e = (Note.Nothing B link Move.Lose, refl, moved (λ x y. ManyNote.Nothing (ManyEvent.Lose x y link)) from to b a e)
impossible_is a b (ManyEvent.Dead from to link) A e = (Note.Nothing A link Move.Dead, refl, moved (λ x y. ManyNote.Nothing (ManyEvent.Dead x y link)) from to a b e)
impossible_is a b (ManyEvent.Dead from to link) B e = (Note.Nothing B link Move.Dead, refl, moved (λ x y. ManyNote.Nothing (ManyEvent.Dead x y link)) from to b a e)
impossible_is a b (ManyEvent.Answer from to link) A e = (Note.Nothing A link Move.Answer, refl, moved (λ x y. ManyNote.Nothing (ManyEvent.Answer x y link)) from to a b e)
impossible_is a b (ManyEvent.Answer from to link) B e = (Note.Nothing B link Move.Answer, refl, moved (λ x y. ManyNote.Nothing (ManyEvent.Answer x y link)) from to b a e)

on_is : (a b : ℕ) (n : ManyNote) (side : Side) → two_of n ≡ Some (ordered side a b) → IsOn a b side n
on_is a b (ManyNote.Called host note) A e = (Note.Called A note, refl, ap (λ x. ManyNote.Called x note) (first_is host (peer_of_note note) a b e))
on_is a b (ManyNote.Called host note) B e = (Note.Called B note, refl, ap (λ x. ManyNote.Called x note) (first_is host (peer_of_note note) b a e))
on_is a b (ManyNote.Out host note) A e = (Note.Out A note, refl, ap (λ x. ManyNote.Out x note) (first_is host (peer_of_note note) a b e))
on_is a b (ManyNote.Out host note) B e = (Note.Out B note, refl, ap (λ x. ManyNote.Out x note) (first_is host (peer_of_note note) b a e))
on_is a b (ManyNote.Came from to link note) A e = (Note.Came A link note, refl, moved (λ x y. ManyNote.Came x y link note) from to a b e)
on_is a b (ManyNote.Came from to link note) B e = (Note.Came B link note, refl, moved (λ x y. ManyNote.Came x y link note) from to b a e)
on_is a b (ManyNote.Lost from to link) A e = (Note.Lost A link, refl, moved (λ x y. ManyNote.Lost x y link) from to a b e)
on_is a b (ManyNote.Lost from to link) B e = (Note.Lost B link, refl, moved (λ x y. ManyNote.Lost x y link) from to b a e)
on_is a b (ManyNote.FoundDead from to link) A e = (Note.FoundDead A link, refl, moved (λ x y. ManyNote.FoundDead x y link) from to a b e)
on_is a b (ManyNote.FoundDead from to link) B e = (Note.FoundDead B link, refl, moved (λ x y. ManyNote.FoundDead x y link) from to b a e)
on_is a b (ManyNote.Answered from to link note) A e = (Note.Answered A link note, refl, moved (λ x y. ManyNote.Answered x y link note) from to a b e)
on_is a b (ManyNote.Answered from to link note) B e = (Note.Answered B link note, refl, moved (λ x y. ManyNote.Answered x y link note) from to b a e)
on_is a b (ManyNote.Nothing event) side e = impossible_is a b event side e

-- ---- it names the two, or it does not

-- it is this note of the two
abbrev pub IsOf : ℕ → ℕ → ManyNote → Type 0
IsOf a b n = (two : Note) × (note_between a b n ≡ two ∷ []) × (n ≡ by_numbers a b two)

-- it is none of the two
pub record IsOff (a b : ℕ) (n : ManyNote) : Type 0 where
  pub none : note_between a b n ≡ []
  pub forth : (x y : ℕ) → two_of n ≡ Some (x, y) → x ≡ a → y ≡ b → ⊥
  pub back : (x y : ℕ) → two_of n ≡ Some (x, y) → x ≡ b → y ≡ a → ⊥

apart : (x a y b : ℕ) → (x == a && y == b) ≡ false → x ≡ a → y ≡ b → ⊥
apart x a y b differ p q = both_ways (x == a && y == b) differ (both (x == a) (y == b) (eq-eqb x a p) (eq-eqb y b q))

abbrev named : ℕ → ℕ → Option (ℕ × ℕ)
named x y = Some (x, y)

pub which : (a b : ℕ) (n : ManyNote) → IsOff a b n ⊎ IsOf a b n
which a b n = go (two_of n) refl
  where
    between : (o : Option (ℕ × ℕ)) (s : Option Side) → two_of n ≡ o → side_of_pair a b o ≡ s → note_between a b n ≡ if_side s n
    between o s e f = ap (λ (p : Option (ℕ × ℕ)). if_side (side_of_pair a b p) n) e ∙ ap (λ (t : Option Side). if_side t n) f

    on : (side : Side) → two_of n ≡ Some (ordered side a b) → side_of_pair a b (two_of n) ≡ Some side → IsOf a b n
    on side e f = let r = on_is a b n side e in (r.0, between (two_of n) (Some side) refl f ∙ r.1, r.2)

    go : (o : Option (ℕ × ℕ)) → two_of n ≡ o → IsOff a b n ⊎ IsOf a b n
    go None e = inl (record { none = between None None e refl; forth = λ x y f p q. absurd (cc (sym e ∙ f)); back = λ x y f p q. absurd (cc (sym e ∙ f)) })
    go (Some (x, y)) e = by (x == a && y == b) refl (x == b && y == a) refl
      where
        side : (c d : Bool) → (x == a && y == b) ≡ c → (x == b && y == a) ≡ d → side_of_pair a b (Some (x, y)) ≡ (if c then Some A else (if d then Some B else None))
        side c d f g = ap (λ (t : Bool). if t then Some A else (if (x == b && y == a) then Some B else None)) f ∙ ap (λ (t : Bool). if c then Some A else (if t then Some B else None)) g

        same : (c d : ℕ) → (x == c && y == d) ≡ true → named x y ≡ named c d
        same c d f =
            let p = and_parts (x == c) (y == d) f in
            ap (λ (i : ℕ). named i y) (eqb-true x c p.0) ∙ ap (named c) (eqb-true y d p.1)

        here : (i j : ℕ) → two_of n ≡ Some (i, j) → (x ≡ i) × (y ≡ j)
        here i j f = let s = some_same (sym e ∙ f) in (ap (λ (p : ℕ × ℕ). p.0) s, ap (λ (p : ℕ × ℕ). p.1) s)

        by : (c : Bool) → (x == a && y == b) ≡ c → (d : Bool) → (x == b && y == a) ≡ d → IsOff a b n ⊎ IsOf a b n
        by true f d g = inr (on A (e ∙ same a b f) (ap (side_of_pair a b) e ∙ side true d f g))
        by false f true g = inr (on B (e ∙ same b a g) (ap (side_of_pair a b) e ∙ side false true f g))
        by false f false g = inl (record {
          none = between (Some (x, y)) None e (side false false f g);
          forth = λ i j h p q. (let s = here i j h in apart x a y b f (s.0 ∙ p) (s.1 ∙ q));
          back = λ i j h p q. (let s = here i j h in apart x b y a g (s.0 ∙ p) (s.1 ∙ q));
        })
