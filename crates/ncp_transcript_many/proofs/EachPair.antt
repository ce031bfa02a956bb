-- Each pair of many hosts is a world of two.
use Rattle.std.proofs.Common.{◌≡◌, ◌≢◌, ◌<◌, ◌^◌, ℕ, true, List, [], ◌∷◌, refl, sym, ap, ◌∙◌, subst}
use Rattle.ncp_transcript_two.specs.World.{World}
use Rattle.ncp_transcript_two.specs.declared.note.Note.{Note}
use Rattle.ncp_transcript_two.specs.Between.{Hosts, new_hosts, hosts_after_note, hosts_after_notes}
use Rattle.ncp_transcript_two.specs.Transcript.{IsRun, began, IsTranscript}
use Rattle.ncp_transcript_two.specs.Seen.{state_or_new, seen}
use Rattle.ncp_transcript_two.proofs.Growing.{after_append, run_append, began_noted}
use Rattle.ncp_transcript_many.specs.declared.many_note.ManyNote.{ManyNote}
use Rattle.ncp_transcript_many.specs.Network.{Network, numbers_in, is_there, new_network, between, after_many, after_many_notes}
use Rattle.ncp_transcript_many.specs.ManyTranscript.{IsManyRun, IsManyTranscript}
use Rattle.ncp_transcript_many.specs.Pairs.{note_between, notes_between, hosts_between, ForEachPair, ForEachTwo}
use Rattle.ncp_transcript_many.proofs.Agreeing.{Fine, Agrees}
use Rattle.ncp_transcript_many.proofs.Stepping.{fine-after, paired}
use Rattle.ncp_transcript_many.proofs.Starting.{new-fine, new-agrees}

-- the numbers of the two stay
began-all : (ns : List Note) (w : Hosts) → began (hosts_after_notes ns w) ≡ began w
began-all [] w = refl
began-all (n ∷ ns) w = began-all ns (hosts_after_note n w) ∙ began_noted n w

pub a-stays : (ns : List Note) (w : Hosts) → (hosts_after_notes ns w).number_a ≡ w.number_a
a-stays ns w = ap (λ (x : Hosts). x.number_a) (began-all ns w)

pub b-stays : (ns : List Note) (w : Hosts) → (hosts_after_notes ns w).number_b ≡ w.number_b
b-stays ns w = ap (λ (x : Hosts). x.number_b) (began-all ns w)

-- what is seen of the two among all is what is seen of a world of two
pub agrees-seen : (m : Network) (w : Hosts) → Agrees m w → seen w ≡ seen (between w.number_a w.number_b m)
agrees-seen m w g = λ k. record {
  here = w.number_a;
  there = w.number_b;
  this = state_or_new (sym g.here k);
  that = state_or_new (sym g.there k);
  going = λ on. sym (g.going on) k;
  coming = λ on. sym (g.coming on) k;
}

-- All notes.

abbrev OneFollows : ℕ → ℕ → ManyNote → Network → Hosts → Type 0
OneFollows a b n m w = IsRun (note_between a b n) w × Agrees (after_many n m) (hosts_after_notes (note_between a b n) w)

abbrev Follows : ℕ → ℕ → List ManyNote → Network → Hosts → Type 0
Follows a b ns m w = IsRun (notes_between a b ns) w × Agrees (after_many_notes ns m) (hosts_after_notes (notes_between a b ns) w)

follows : (a b : ℕ) (ns : List ManyNote) (m : Network) (w : Hosts) → w.number_a ≡ a → w.number_b ≡ b → Fine m → Agrees m w → IsManyRun ns m → Follows a b ns m w
follows a b [] m w ea eb f g r = (tt, g)
follows a b (n ∷ ns) m w ea eb f g r =
    let one : List Note = note_between a b n in
    let first : OneFollows a b n m w = step in
    let more : Follows a b ns (after_many n m) (hosts_after_notes one w) = follows a b ns (after_many n m) (hosts_after_notes one w) (a-stays one w ∙ ea) (b-stays one w ∙ eb) (fine-after m f r.0.0 n r.0.1) first.1 r.1 in (
      run_append one (notes_between a b ns) w first.0 more.0,
      subst (Agrees (after_many_notes ns (after_many n m))) (sym (after_append one (notes_between a b ns) w)) more.1,
    )
  where
    step : OneFollows a b n m w
    step = subst (λ (j : ℕ). OneFollows j b n m w) ea (subst (λ (k : ℕ). OneFollows w.number_a k n m w) eb (paired m f w g r.0.0 n r.0.1))

-- A transcript.

module _ (ns : List ManyNote) (m : Network) (t : IsManyTranscript ns m) (a b : ℕ) (i : is_there a m ≡ true) (j : is_there b m ≡ true) (differ : a ≢ b) where
  all : Follows a b ns (new_network (numbers_in m)) (new_hosts a b)
  all = follows a b ns (new_network (numbers_in m)) (new_hosts a b) refl refl (new-fine (numbers_in m) t.hosts t.fits) (new-agrees (numbers_in m) t.hosts t.fits a b i j differ) t.run

  abbrev now : Hosts
  now = hosts_between a b ns

  pub number-a : now.number_a ≡ a
  number-a = a-stays (notes_between a b ns) (new_hosts a b)

  pub number-b : now.number_b ≡ b
  number-b = b-stays (notes_between a b ns) (new_hosts a b)

  pub same : began now ≡ new_hosts a b
  same = began-all (notes_between a b ns) (new_hosts a b)

  pub pair-runs : IsTranscript (notes_between a b ns) (hosts_between a b ns)
  pair-runs = record {
    differ = λ e. differ (sym number-a ∙ e ∙ number-b);
    fits_a = subst (λ (k : ℕ). k < 2 ^ 8) (sym number-a) (t.fits a i);
    fits_b = subst (λ (k : ℕ). k < 2 ^ 8) (sym number-b) (t.fits b j);
    run = subst (IsRun (notes_between a b ns)) (sym same) all.0;
    state = ap (hosts_after_notes (notes_between a b ns)) (sym same);
  }

  last : Agrees m now
  last = subst (λ (x : Network). Agrees x now) (sym t.state) all.1

  pub pair-seen : seen (hosts_between a b ns) ≡ seen (between a b m)
  pair-seen = agrees-seen m now last ∙ ap (λ (k : ℕ). seen (between k now.number_b m)) number-a ∙ ap (λ (k : ℕ). seen (between a k m)) number-b

pub each-pair : (ns : List ManyNote) (m : Network) → IsManyTranscript ns m → ForEachPair IsTranscript ns m
each-pair ns m t a b i j differ = pair-runs ns m t a b i j differ

-- what holds of every transcript of two hosts holds of each pair
pub for-each : (P : List Note → Hosts → Type 0) → ((ns : List Note) (w : Hosts) → IsTranscript ns w → P ns w) → (ns : List ManyNote) (m : Network) → IsManyTranscript ns m → ForEachPair P ns m
for-each P law ns m t a b i j differ = law (notes_between a b ns) (hosts_between a b ns) (pair-runs ns m t a b i j differ)

-- and what is said of notes, of the beginning and of what is seen holds of the two as they are among all
pub for-two : (Q : List Note → Hosts → World → Type 0) → ((ns : List Note) (w : Hosts) → IsTranscript ns w → Q ns (began w) (seen w)) → (ns : List ManyNote) (m : Network) → IsManyTranscript ns m
    → ForEachTwo (λ xs w. Q xs (began w) (seen w)) ns m
for-two Q law ns m t a b i j differ =
    let xs : List Note = notes_between a b ns in
    let w : Hosts = hosts_between a b ns in
    subst (Q xs (new_hosts a b)) (pair-seen ns m t a b i j differ)
    (subst (λ (h : Hosts). Q xs h (seen w)) (same ns m t a b i j differ) (law xs w (pair-runs ns m t a b i j differ)))
