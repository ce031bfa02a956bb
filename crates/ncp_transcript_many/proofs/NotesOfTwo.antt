-- What holds of each note of every transcript of two hosts holds of each note of two of many, as they are among all.
use Rattle.std.proofs.Common.{◌≡◌, ◌≤◌, ℕ, List, [], ◌∷◌, ◌++◌, length, refl, sym, ap, ◌∙◌, subst, arith}
use Rattle.ncp_transcript_two.specs.World.{World, NoteBody}
use Rattle.ncp_transcript_two.specs.declared.note.Note.{Note}
use Rattle.ncp_transcript_two.specs.Between.{Hosts, new_hosts, hosts_after_note, hosts_after_notes}
use Rattle.ncp_transcript_two.specs.Transcript as worlds
use Rattle.ncp_transcript_two.specs.Seen.{seen, as_rules, body_of, side_of}
use Rattle.ncp_proof_promises.specs.EachNote.{OfBody, OfEachNote}
use Rattle.ncp_transcript_many.specs.declared.many_note.ManyNote.{ManyNote}
use Rattle.ncp_transcript_many.specs.Network.{Network, numbers_in, new_network, between, after_many}
use Rattle.ncp_transcript_many.specs.ManyTranscript.{IsManyRun, IsManyTranscript}
use Rattle.ncp_transcript_many.specs.Pairs.{note_between, notes_between, hosts_between}
use Rattle.ncp_transcript_many.specs.NotesOfTwo.{AmongAll, OfEachNoteOfTwo, ForEachNoteOfTwo}
use Rattle.ncp_transcript_many.proofs.OnePair.{between-one}
use Rattle.ncp_transcript_many.proofs.Agreeing.{Fine, Agrees}
use Rattle.ncp_transcript_many.proofs.Stepping.{fine-after, paired}
use Rattle.ncp_transcript_many.proofs.Starting.{new-fine, new-agrees}
use Rattle.ncp_transcript_many.proofs.EachPair.{a-stays, b-stays, agrees-seen, same, pair-runs}

module _ (P : NoteBody → World → World → Type 0) (a b : ℕ) where
  seen-of : (m : Network) (w : Hosts) → w.number_a ≡ a → w.number_b ≡ b → Agrees m w → seen w ≡ seen (between a b m)
  seen-of m w ea eb g = agrees-seen m w g ∙ ap (λ (k : ℕ). seen (between k w.number_b m)) ea ∙ ap (λ (k : ℕ). seen (between a k m)) eb

  abbrev AtNote : List Note → Network → Network → Type 0
  AtNote one m after = AmongAll P one (seen (between a b m)) (seen (between a b after))

  at-note : (m after : Network) (w : Hosts) (one rest : List Note) → length one ≤ 1 → w.number_a ≡ a → w.number_b ≡ b → Agrees m w → Agrees after (hosts_after_notes one w)
      → OfEachNote P (one ++ rest) w → AtNote one m after × OfEachNote P rest (hosts_after_notes one w)
  at-note m after w [] rest few ea eb g h e = (sym (seen-of after w ea eb h) ∙ seen-of m w ea eb g, e)
  at-note m after w (x ∷ []) rest few ea eb g h e =
      let next : Hosts = hosts_after_note x w in (
        subst (λ (v : World). OfBody P (as_rules (side_of x)) (body_of x) v (seen (between a b after))) (seen-of m w ea eb g)
            (subst (λ (v : World). OfBody P (as_rules (side_of x)) (body_of x) (seen w) v) (seen-of after next (a-stays (x ∷ []) w ∙ ea) (b-stays (x ∷ []) w ∙ eb) h) e.0),
        e.1,
      )
  at-note m after w (x ∷ y ∷ zs) rest few ea eb g h e = absurd (omega arith)

  all : (ns : List ManyNote) (m : Network) (w : Hosts) → w.number_a ≡ a → w.number_b ≡ b → Fine m → Agrees m w → IsManyRun ns m → OfEachNote P (notes_between a b ns) w → OfEachNoteOfTwo P a b ns m
  all [] m w ea eb f g r e = tt
  all (n ∷ ns) m w ea eb f g r e =
      let one : List Note = note_between a b n in
      let after : Agrees (after_many n m) (hosts_after_notes one w) =
      subst (λ (j : ℕ). Agrees (after_many n m) (hosts_after_notes (note_between j b n) w)) ea
      (subst (λ (k : ℕ). Agrees (after_many n m) (hosts_after_notes (note_between w.number_a k n) w)) eb (paired m f w g r.0.0 n r.0.1).1) in
      let s : AtNote one m (after_many n m) × OfEachNote P (notes_between a b ns) (hosts_after_notes one w) = at-note m (after_many n m) w one (notes_between a b ns) (between-one n a b) ea eb g after e in
      (s.0, all ns (after_many n m) (hosts_after_notes one w) (a-stays one w ∙ ea) (b-stays one w ∙ eb) (fine-after m f r.0.0 n r.0.1) after r.1 s.1)

pub each-note : (P : NoteBody → World → World → Type 0) → ((ns : List Note) (w : Hosts) → worlds.IsTranscript ns w → OfEachNote P ns (worlds.began w)) → (ns : List ManyNote) (m : Network) → IsManyTranscript ns m → ForEachNoteOfTwo P ns m
each-note P law ns m t a b i j differ =
    all P a b ns (new_network (numbers_in m)) (new_hosts a b) refl refl (new-fine (numbers_in m) t.hosts t.fits) (new-agrees (numbers_in m) t.hosts t.fits a b i j differ) t.run
    (subst (OfEachNote P (notes_between a b ns)) (same ns m t a b i j differ) (law (notes_between a b ns) (hosts_between a b ns) (pair-runs ns m t a b i j differ)))
