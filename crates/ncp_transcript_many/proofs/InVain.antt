-- Among many nothing is noted only where nothing can be.
use Rattle.std.proofs.Common.{◌≡◌, ℕ, Bool, true, false, List, ◌∷◌, ◌++◌, None, inl, inr, ◌⊎◌, refl, sym, ◌∙◌, subst}
use Rattle.ncp_host.specs.Turns.{next_output}
use Rattle.ncp_transcript.specs.declared.note.HostNote.TheVariants as of_host
use Rattle.ncp_transcript_two.specs.declared.side.Side.TheVariants.{A, B}
use Rattle.ncp_transcript_two.specs.declared.note.Move.TheVariants as moves
use Rattle.ncp_transcript_two.specs.declared.note.Note.{Note}
use Rattle.ncp_transcript_two.specs.declared.note.Note.TheVariants as notes
use Rattle.ncp_transcript_two.proofs.Impossible.{is_nothing, InVain, in_vain}
use Rattle.ncp_transcript_many.specs.declared.many_event.ManyEvent.{ManyEvent}
use Rattle.ncp_transcript_many.specs.declared.many_event.ManyEvent.TheVariants as events
use Rattle.ncp_transcript_many.specs.declared.many_note.ManyNote.{ManyNote}
use Rattle.ncp_transcript_many.specs.declared.many_note.ManyNote.TheVariants as many
use Rattle.ncp_transcript_many.specs.Network.{Network, host_at, between, numbers_in, after_many_notes}
use Rattle.ncp_transcript_many.specs.ManyHappening.{ends_of, as_of_two, are_there, by_numbers, IfThere, ManyNoted}
use Rattle.ncp_transcript_many.specs.ManyTranscript.{network_began, IsManyTranscript}
use Rattle.ncp_transcript_many.specs.ManyImpossible.{CannotHappen}
use Rattle.ncp_transcript_many.proofs.Crowds.{new-numbers, numbers-after-all}
use Rattle.ncp_transcript_many.proofs.ManyRuns.{said-in}

-- what a note of nothing says; the others say nothing here
abbrev ManyVain : ManyNote → Network → Type 0
ManyVain (many.Called host note) m = is_nothing note ≡ false
ManyVain (many.Out host note) m = is_nothing note ≡ true → next_output (host_at host m) ≡ None
ManyVain (many.Came from to link note) m = is_nothing note ≡ false
ManyVain (many.Lost from to link) m = Unit {0}
ManyVain (many.FoundDead from to link) m = Unit {0}
ManyVain (many.Answered from to link note) m = is_nothing note ≡ false
ManyVain (many.Nothing event) m = (are_there event m ≡ false) ⊎ CannotHappen event m

of-two : (a b : ℕ) (note : Note) (m : Network) → InVain note (between a b m) → ManyVain (by_numbers a b note) m
of-two a b (notes.Called A note) m v = v
of-two a b (notes.Called B note) m v = v
of-two a b (notes.Out A note) m v = v
of-two a b (notes.Out B note) m v = v
of-two a b (notes.Came A link note) m v = v
of-two a b (notes.Came B link note) m v = v
of-two a b (notes.Lost A link) m v = v
of-two a b (notes.Lost B link) m v = v
of-two a b (notes.FoundDead A link) m v = v
of-two a b (notes.FoundDead B link) m v = v
of-two a b (notes.Answered A link note) m v = v
of-two a b (notes.Answered B link note) m v = v
of-two a b (notes.Nothing A link moves.Deliver) m v = inr v
of-two a b (notes.Nothing A link moves.Lose) m v = inr v
of-two a b (notes.Nothing A link moves.Dead) m v = inr v
of-two a b (notes.Nothing A link moves.Answer) m v = inr v
of-two a b (notes.Nothing B link moves.Deliver) m v = inr v
of-two a b (notes.Nothing B link moves.Lose) m v = inr v
of-two a b (notes.Nothing B link moves.Dead) m v = inr v
of-two a b (notes.Nothing B link moves.Answer) m v = inr v

vain : (event : ManyEvent) (note : ManyNote) (m : Network) → ManyNoted event note m → ManyVain note m
vain event note m t = go (are_there event m) refl t
  where
    go : (b : Bool) → are_there event m ≡ b → IfThere b event note m → ManyVain note m
    go false e s = subst (λ (n : ManyNote). ManyVain n m) (sym s) (inl e)
    go true e s =
        let x = between (ends_of event).0 (ends_of event).1 m in
        subst (λ (n : ManyNote). ManyVain n m) (sym s.said) (of-two (ends_of event).0 (ends_of event).1 s.two m (in_vain (as_of_two event) s.two x s.noted))

-- the hosts that are there stay the same
there-alike : (event : ManyEvent) (m x : Network) → numbers_in x ≡ numbers_in m → are_there event x ≡ are_there event m
there-alike (events.Call host call) m x e = rw e refl
there-alike (events.Out host) m x e = rw e refl
there-alike (events.Deliver from to link) m x e = rw e refl
there-alike (events.Lose from to link) m x e = rw e refl
there-alike (events.Dead from to link) m x e = rw e refl
there-alike (events.Answer from to link) m x e = rw e refl

module _ (before after : List ManyNote) (m : Network) where
  at : (note : ManyNote) → IsManyTranscript (before ++ note ∷ after) m → ManyVain note (after_many_notes before (network_began m))
  at note t = let s = said-in before after note (network_began m) t.run in vain s.0 note (after_many_notes before (network_began m)) s.1

  pub nothing-vain : (event : ManyEvent) → IsManyTranscript (before ++ many.Nothing event ∷ after) m → (are_there event m ≡ false) ⊎ CannotHappen event (after_many_notes before (network_began m))
  nothing-vain event t = go (at (many.Nothing event) t)
    where
      same : are_there event (after_many_notes before (network_began m)) ≡ are_there event m
      same = there-alike event m (after_many_notes before (network_began m)) (numbers-after-all before (network_began m) ∙ new-numbers (numbers_in m))

      go : (are_there event (after_many_notes before (network_began m)) ≡ false) ⊎ CannotHappen event (after_many_notes before (network_began m)) → (are_there event m ≡ false) ⊎ CannotHappen event (after_many_notes before (network_began m))
      go (inl e) = inl (sym same ∙ e)
      go (inr v) = inr v

  pub out-vain : (host : ℕ) → IsManyTranscript (before ++ many.Out host of_host.Nothing ∷ after) m → next_output (host_at host (after_many_notes before (network_began m))) ≡ None
  out-vain host t = at (many.Out host of_host.Nothing) t refl

  pub called-vain : (host : ℕ) → IsManyTranscript (before ++ many.Called host of_host.Nothing ∷ after) m → ⊥
  called-vain host t = absurd (cc (at (many.Called host of_host.Nothing) t))

  pub came-vain : (from to link : ℕ) → IsManyTranscript (before ++ many.Came from to link of_host.Nothing ∷ after) m → ⊥
  came-vain from to link t = absurd (cc (at (many.Came from to link of_host.Nothing) t))

  pub answered-vain : (from to link : ℕ) → IsManyTranscript (before ++ many.Answered from to link of_host.Nothing ∷ after) m → ⊥
  answered-vain from to link t = absurd (cc (at (many.Answered from to link of_host.Nothing) t))
