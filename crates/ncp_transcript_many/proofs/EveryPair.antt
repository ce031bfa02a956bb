-- Every list of events of new hosts, pair by pair; and a pair without the others.
use Rattle.std.proofs.Common.{◌≡◌, ◌≢◌, ◌<◌, ℕ, true, List, map, sym, ap, ◌∙◌, subst}
use Rattle.ncp_host.specs.Host.{is_one_of}
use Rattle.ncp_transcript_two.specs.declared.note.Note.{Note}
use Rattle.ncp_transcript_two.specs.Between.{new_hosts, hosts_after_notes}
use Rattle.ncp_transcript_two.specs.Transcript.{IsTranscript}
use Rattle.ncp_transcript_two.specs.Seen.{seen}
use Rattle.ncp_transcript_many.specs.declared.many_event.ManyEvent.{ManyEvent}
use Rattle.ncp_transcript_many.specs.declared.many_note.ManyNote.{ManyNote}
use Rattle.ncp_transcript_many.specs.Network.{Network, is_there, are_hosts, new_network, between, network_of, after_many_notes}
use Rattle.ncp_transcript_many.specs.ManyHappening.{by_numbers}
use Rattle.ncp_transcript_many.specs.ManyTranscript.{AreManyNotes, IsManyTranscript}
use Rattle.ncp_transcript_many.specs.Pairs.{notes_between, hosts_between, ForEachPair}
use Rattle.ncp_transcript_many.proofs.Crowds.{new-numbers, numbers-after-all}
use Rattle.ncp_transcript_many.proofs.ManyRuns.{events-transcript}
use Rattle.ncp_transcript_many.proofs.TwoOfMany.{two-by-numbers}
use Rattle.ncp_transcript_many.proofs.EachPair.{pair-runs, pair-seen, number-a, number-b}

module _ (events : List ManyEvent) (notes : List ManyNote) (ns : List ℕ) (good : are_hosts ns ≡ true) (fits : (n : ℕ) → is_one_of n ns ≡ true → n < 256) (are : AreManyNotes events notes (new_network ns)) where
  pub events-pairs : ForEachPair IsTranscript notes (after_many_notes notes (new_network ns))
  events-pairs a b i j differ = pair-runs notes (after_many_notes notes (new_network ns)) (events-transcript events notes ns good fits are) a b i j differ

  -- a host of new ones is there after all notes
  still-there : (k : ℕ) → is_one_of k ns ≡ true → is_there k (after_many_notes notes (new_network ns)) ≡ true
  still-there k e = ap (is_one_of k) (numbers-after-all notes (new_network ns) ∙ new-numbers ns) ∙ e

  pub events-seen : (a b : ℕ) → is_one_of a ns ≡ true → is_one_of b ns ≡ true → a ≢ b → seen (between a b (after_many_notes notes (new_network ns))) ≡ seen (hosts_between a b notes)
  events-seen a b i j differ = sym (pair-seen notes (after_many_notes notes (new_network ns)) (events-transcript events notes ns good fits are) a b (still-there a i) (still-there b j) differ)

pub pairs-same : (some more : List ManyNote) (m x : Network) (a b : ℕ) → IsManyTranscript some m → IsManyTranscript more x → is_there a m ≡ true → is_there b m ≡ true → is_there a x ≡ true → is_there b x ≡ true → a ≢ b → notes_between a b some ≡ notes_between a b more → seen (between a b m) ≡ seen (between a b x)
pairs-same some more m x a b t u i j k l differ e =
    sym (pair-seen some m t a b i j differ)
    ∙ ap (λ (ns : List Note). seen (hosts_after_notes ns (new_hosts a b))) e
    ∙ pair-seen more x u a b k l differ

pub pair-alone : (notes : List ManyNote) (m : Network) (a b : ℕ) → IsManyTranscript notes m → is_there a m ≡ true → is_there b m ≡ true → a ≢ b → IsManyTranscript (map (by_numbers a b) (notes_between a b notes)) (network_of (hosts_between a b notes))
pair-alone notes m a b t i j differ =
    let alone = two-by-numbers (notes_between a b notes) (hosts_between a b notes) (pair-runs notes m t a b i j differ) in
    subst (λ (k : ℕ). IsManyTranscript (map (by_numbers k b) (notes_between a b notes)) (network_of (hosts_between a b notes))) (number-a notes m t a b i j differ)
    (subst (λ (k : ℕ). IsManyTranscript (map (by_numbers (hosts_between a b notes).number_a k) (notes_between a b notes)) (network_of (hosts_between a b notes))) (number-b notes m t a b i j differ) alone)
