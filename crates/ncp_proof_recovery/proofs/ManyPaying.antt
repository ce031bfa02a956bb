-- What happens by itself among many is, of each two, what happens to two by itself.
use Rattle.std.proofs.Common.{◌≡◌, ◌≢◌, ◌≤◌, ◌+◌, ℕ, ◌==◌, Bool, true, false, ◌&&◌, if◌then◌else◌, List, [], ◌∷◌, ◌++◌, length, Option, None, Some, inl, inr, ◌⊎◌, refl, sym, ap, ◌∙◌, subst}
use Rattle.std.proofs.lemmas.Bool.{eqb-true, and_parts}
use Rattle.std.proofs.lemmas.List.{append_assoc}
use Rattle.ncp_slot.specs.Slots.{slot_at}
use Rattle.ncp_peer.specs.PeerState.{PeerState}
use Rattle.ncp_transcript.specs.declared.call.Call.{Call}
use Rattle.ncp_transcript.specs.declared.note.HostNote.{HostNote}
use Rattle.ncp_transcript_two.specs.World.{World}
use Rattle.ncp_transcript_two.specs.Tie.{Refines}
use Rattle.ncp_transcript_two.specs.declared.side.Side.{Side}
use Rattle.ncp_transcript_two.specs.declared.side.Side.TheVariants.{A, B}
use Rattle.ncp_transcript_two.specs.declared.note.Note.{Note}
use Rattle.ncp_transcript_two.specs.Between.{Hosts, new_hosts, hosts_after_note, hosts_after_notes}
use Rattle.ncp_transcript_two.specs.Transcript.{IsSaid, IsRun, IsTranscript, Noted_world}
use Rattle.ncp_transcript_two.proofs.Growing.{after_append}
use Rattle.ncp_transcript_two.specs.Seen.{state_or_new, had_for, seen}
use Rattle.ncp_transcript_many.specs.declared.many_note.ManyNote.{ManyNote}
use Rattle.ncp_transcript_many.specs.Network.{Network, numbers_in, is_there, host_at, between, after_many, after_many_notes}
use Rattle.ncp_transcript_many.specs.ManyTranscript.{IsManyRun, network_began, IsManyTranscript, Noted_many}
use Rattle.ncp_transcript_many.specs.Pairs.{two_of, side_of_pair, if_side, note_between, notes_between, hosts_between}
use Rattle.ncp_transcript_many.proofs.Agreeing.{Fine, Agrees}
use Rattle.ncp_transcript_many.proofs.Stepping.{fine-after, paired}
use Rattle.ncp_transcript_many.proofs.Starting.{new-fine, new-agrees}
use Rattle.ncp_transcript_many.proofs.EachPair.{a-stays, b-stays, same, pair-runs, pair-seen}
use Rattle.ncp_proof_progress.specs.HostsWork.{work}
use Rattle.ncp_proof_quiescence.specs.NotesWork.{notes_move, notes_allow}
use Rattle.ncp_proof_quiescence.specs.Settled.{is_held}
use Rattle.ncp_proof_quiescence.specs.Settling.{had_at, ByItself, AllByThemselves, GoesOn, IsWithinWork}
use Rattle.ncp_proof_quiescence.proofs.Paying.{within}
use Rattle.ncp_proof_recovery.specs.ManySettling.{ManyByItself, AllManyByThemselves, ManyGoOn, AreWithinWork}

-- The two of a transcript agree with what they are among all.

fine-notes : (ns : List ManyNote) (m : Network) → Fine m → IsManyRun ns m → Fine (after_many_notes ns m)
fine-notes [] m f r = f
fine-notes (n ∷ ns) m f r = fine-notes ns (after_many n m) (fine-after m f r.0.0 n r.0.1) r.1

agrees-notes : (a b : ℕ) (ns : List ManyNote) (m : Network) (w : Hosts) → w.number_a ≡ a → w.number_b ≡ b → Fine m → Agrees m w → IsManyRun ns m → Agrees (after_many_notes ns m) (hosts_after_notes (notes_between a b ns) w)
agrees-notes a b [] m w ea eb f g r = g
agrees-notes a b (n ∷ ns) m w ea eb f g r =
    let one : List Note = note_between a b n in
    let more : Agrees (after_many_notes ns (after_many n m)) (hosts_after_notes (notes_between a b ns) (hosts_after_notes one w)) =
    agrees-notes a b ns (after_many n m) (hosts_after_notes one w) (a-stays one w ∙ ea) (b-stays one w ∙ eb) (fine-after m f r.0.0 n r.0.1) step r.1 in
    subst (Agrees (after_many_notes ns (after_many n m))) (sym (after_append one (notes_between a b ns) w)) more
  where
    step : Agrees (after_many n m) (hosts_after_notes (note_between a b n) w)
    step =
        subst (λ (i : ℕ). Agrees (after_many n m) (hosts_after_notes (note_between i b n) w)) ea
        (subst (λ (j : ℕ). Agrees (after_many n m) (hosts_after_notes (note_between w.number_a j n) w)) eb (paired m f w g r.0.0 n r.0.1).1)

pub fine-of : (ns : List ManyNote) (m : Network) → IsManyTranscript ns m → Fine m
fine-of ns m t = subst Fine (sym t.state) (fine-notes ns (network_began m) (new-fine (numbers_in m) t.hosts t.fits) t.run)

agrees-of : (ns : List ManyNote) (m : Network) → IsManyTranscript ns m → (a b : ℕ) → is_there a m ≡ true → is_there b m ≡ true → a ≢ b → Agrees m (hosts_between a b ns)
agrees-of ns m t a b i j differ =
    subst (λ (x : Network). Agrees x (hosts_between a b ns)) (sym t.state)
    (agrees-notes a b ns (network_began m) (new_hosts a b) refl refl (new-fine (numbers_in m) t.hosts t.fits) (new-agrees (numbers_in m) t.hosts t.fits a b i j differ) t.run)

-- some notes, and then others
all-append : (some more : List Note) (w : Hosts) → AllByThemselves some w → AllByThemselves more (hosts_after_notes some w) → AllByThemselves (some ++ more) w
all-append [] more w a rest = rest
all-append (n ∷ ns) more w a rest = (a.0, a.1, all-append ns more (hosts_after_note n w) a.2 rest)

-- what a host holds for a peer among many, it holds in a world of the two

abbrev HoldsFor : ℕ → ℕ → Network → Type 0
HoldsFor host peer m = (on : ℕ) × (is_held (slot_at (had_for peer (host_at host m)).slots on) ≡ true)

abbrev HoldsIn : Side → Hosts → Type 0
HoldsIn side w = (on : ℕ) × (is_held (slot_at (had_at side w).slots on) ≡ true)

holds-a : (m : Network) (w : Hosts) → Agrees m w → HoldsFor w.number_a w.number_b m → HoldsIn A w
holds-a m w g h = (h.0, sym (ap (λ (o : Option PeerState). is_held (slot_at (state_or_new o).slots h.0)) g.here) ∙ h.1)

holds-b : (m : Network) (w : Hosts) → Agrees m w → HoldsFor w.number_b w.number_a m → HoldsIn B w
holds-b m w g h = (h.0, sym (ap (λ (o : Option PeerState). is_held (slot_at (state_or_new o).slots h.0)) g.there) ∙ h.1)

holds : (m : Network) (w : Hosts) (host peer : ℕ) (side : Side) → Agrees m w → side_of_pair w.number_a w.number_b (Some (host, peer)) ≡ Some side → HoldsFor host peer m → HoldsIn side w
holds m w host peer side g e h = go (host == w.number_a && peer == w.number_b) refl (host == w.number_b && peer == w.number_a) refl e
  where
    pair-is : (c d : ℕ) → (host == c && peer == d) ≡ true → HoldsFor c d m
    pair-is c d e =
        let p = and_parts (host == c) (peer == d) e in
        subst (λ (k : ℕ). HoldsFor c k m) (eqb-true peer d p.1) (subst (λ (k : ℕ). HoldsFor k peer m) (eqb-true host c p.0) h)

    go : (t : Bool) → (host == w.number_a && peer == w.number_b) ≡ t → (u : Bool) → (host == w.number_b && peer == w.number_a) ≡ u
        → ◌≡◌ {A = Option Side} (if t then Some A else (if u then Some B else None)) (Some side) → HoldsIn side w
    go true e u f is = let a : A ≡ side = cc in subst (λ (s : Side). HoldsIn s w) a (holds-a m w g (pair-is w.number_a w.number_b e))
    go false e true f is = let b : B ≡ side = cc in subst (λ (s : Side). HoldsIn s w) b (holds-b m w g (pair-is w.number_b w.number_a f))
    go false e false f is = absurd (cc is)

-- one note
one-between : (m : Network) (w : Hosts) (note : ManyNote) → Agrees m w → IsRun (note_between w.number_a w.number_b note) w → ManyByItself note m → AllByThemselves (note_between w.number_a w.number_b note) w
one-between m w note g r own = go (side_of_pair w.number_a w.number_b (two_of note)) note refl r own
  where
    go : (o : Option Side) (note : ManyNote) → side_of_pair w.number_a w.number_b (two_of note) ≡ o → IsRun (if_side o note) w → ManyByItself note m → AllByThemselves (if_side o note) w
    go None note e r own = tt
    go (Some side) (ManyNote.Out host (HostNote.Out message)) e r own = (r.0, tt, tt)
    go (Some side) (ManyNote.Came from to link n) e r own = (r.0, tt, tt)
    go (Some side) (ManyNote.Answered from to link n) e r own = (r.0, tt, tt)
    go (Some side) (ManyNote.Called host (HostNote.Done (Call.Wake peer))) e r own = (r.0, holds m w host peer side g e own, tt)
    go (Some side) note e r own = absurd own

abbrev OneGoes : ManyNote → Network → Hosts → ℕ → ℕ → Type 0
OneGoes note m w i j = AllByThemselves (note_between i j note) w × Agrees (after_many note m) (hosts_after_notes (note_between i j note) w)

-- all of them
all-between : (a b : ℕ) (made : List ManyNote) (m : Network) (w : Hosts) → w.number_a ≡ a → w.number_b ≡ b → Fine m → Agrees m w → AllManyByThemselves made m → AllByThemselves (notes_between a b made) w
all-between a b [] m w ea eb f g all = tt
all-between a b (note ∷ rest) m w ea eb f g all =
    let one : List Note = note_between a b note in
    all-append one (notes_between a b rest) w step.0
    (all-between a b rest (after_many note m) (hosts_after_notes one w) (a-stays one w ∙ ea) (b-stays one w ∙ eb) (fine-after m f all.0.0 note all.0.1) step.1 all.2)
  where
    step : OneGoes note m w a b
    step =
        let p = paired m f w g all.0.0 note all.0.1 in
        subst (λ (i : ℕ). OneGoes note m w i b) ea (subst (λ (j : ℕ). OneGoes note m w w.number_a j) eb (one-between m w note g p.0 all.1, p.1))

between-append : (a b : ℕ) (some more : List ManyNote) → notes_between a b (some ++ more) ≡ notes_between a b some ++ notes_between a b more
between-append a b [] more = refl
between-append a b (n ∷ ns) more = ap (λ (xs : List Note). note_between a b n ++ xs) (between-append a b ns more) ∙ sym (append_assoc (note_between a b n) (notes_between a b ns) (notes_between a b more))

pub within-each : (before now : Noted_many) → IsManyTranscript before.notes before.hosts → ManyGoOn before now → AreWithinWork before now
within-each before now t (made, all, longer, after) a b i j differ =
    let ns : List ManyNote = before.notes in
    let m : Network = before.hosts in
    let w : Hosts = hosts_between a b ns in
    let two : List Note = notes_between a b made in
    let first : Noted_world = record { hosts = w; notes = notes_between a b ns } in
    let last : Noted_world = record { hosts = hosts_after_notes two w; notes = notes_between a b ns ++ two } in
    let on : AllByThemselves two w = all-between a b made m w (a-stays (notes_between a b ns) (new_hosts a b)) (b-stays (notes_between a b ns) (new_hosts a b)) (fine-of ns m t) (agrees-of ns m t a b i j differ) all in
    let r : IsWithinWork first last = within first last (pair-runs ns m t a b i j differ) (two, on, refl, refl) in
    let is : notes_between a b now.notes ≡ notes_between a b ns ++ two = ap (notes_between a b) longer ∙ between-append a b ns made in (
      r.0,
      subst (λ (v : World). Refines r.0 v) (pair-seen ns m t a b i j differ) r.1,
      subst (λ (h : Hosts). notes_move (notes_between a b ns) + work r.0 ≤ notes_allow (notes_between a b ns) h) (same ns m t a b i j differ) r.2,
      subst (λ (xs : List Note). length xs ≤ length (notes_between a b ns) + work r.0) (sym is) r.3,
    )
