-- The notes of events among many are a run, one for each; and a transcript grows at its end.
use Rattle.std.proofs.Common.{◌≡◌, ◌<◌, ◌≤◌, ◌+◌, ℕ, suc, true, List, [], ◌∷◌, ◌++◌, length, get_or, drop, add-one, drop-cons, refl, sym, ap, ◌∙◌, subst}
use Rattle.std.proofs.lemmas.List.{append_assoc, append-nil, drop_all}
use Rattle.ncp_host.specs.Host.{is_one_of}
use Rattle.ncp_transcript_many.specs.declared.many_event.ManyEvent.{ManyEvent}
use Rattle.ncp_transcript_many.specs.declared.many_note.ManyNote.{ManyNote}
use Rattle.ncp_transcript_many.specs.Network.{Network, numbers_in, are_hosts, new_network, after_many, after_many_notes}
use Rattle.ncp_transcript_many.specs.ManyTranscript.{IsManySaid, IsManyRun, AreManyNotes, network_began, IsManyTranscript, Noted_many, new_many, IsManyStep, AreManySteps}
use Rattle.ncp_transcript_many.proofs.Crowds.{new-numbers, numbers-after, numbers-after-all}

pub after-append : (some more : List ManyNote) (m : Network) → after_many_notes (some ++ more) m ≡ after_many_notes more (after_many_notes some m)
after-append [] more m = refl
after-append (n ∷ ns) more m = after-append ns more (after_many n m)

pub run-append : (some more : List ManyNote) (m : Network) → IsManyRun some m → IsManyRun more (after_many_notes some m) → IsManyRun (some ++ more) m
run-append [] more m r rest = rest
run-append (n ∷ ns) more m r rest = (r.0, run-append ns more (after_many n m) r.1 rest)

-- a note of a run says what the rules say at the state before it
pub said-in : (before after : List ManyNote) (note : ManyNote) (m : Network) → IsManyRun (before ++ note ∷ after) m → IsManySaid note (after_many_notes before m)
said-in [] after note m r = r.0
said-in (first ∷ before) after note m r = said-in before after note (after_many first m) r.1

-- the notes of events

pub notes-run : (events : List ManyEvent) (ns : List ManyNote) (m : Network) → AreManyNotes events ns m → IsManyRun ns m
notes-run [] [] m a = tt
notes-run (event ∷ events) (note ∷ rest) m a = ((event, a.0), notes-run events rest (after_many note m) a.1)
notes-run [] (note ∷ rest) m a = absurd a
notes-run (event ∷ events) [] m a = absurd a

pub notes-many : (events : List ManyEvent) (ns : List ManyNote) (m : Network) → AreManyNotes events ns m → length ns ≡ length events
notes-many [] [] m a = refl
notes-many (event ∷ events) (note ∷ rest) m a = ap (λ (n : ℕ). suc n) (notes-many events rest (after_many note m) a.1)
notes-many [] (note ∷ rest) m a = absurd a
notes-many (event ∷ events) [] m a = absurd a

-- a transcript of new hosts, and with one note more

pub transcript-new : (ns : List ℕ) (m : Network) → are_hosts ns ≡ true → ((n : ℕ) → is_one_of n ns ≡ true → n < 256) → m ≡ new_network ns → IsManyTranscript [] m
transcript-new ns m good fits e =
    let same : numbers_in m ≡ ns = ap numbers_in e ∙ new-numbers ns in
    record {
      hosts = ap are_hosts same ∙ good;
      fits = subst (λ (ks : List ℕ). (n : ℕ) → is_one_of n ks ≡ true → n < 256) (sym same) fits;
      run = tt;
      state = e ∙ ap new_network (sym same);
    }

pub transcript-grows : (some now : List ManyNote) (note : ManyNote) (m after : Network) → IsManyTranscript some m → IsManySaid note m → now ≡ some ++ note ∷ [] → after ≡ after_many note m → IsManyTranscript now after
transcript-grows some now note m after t said e is =
    let numbers : numbers_in after ≡ numbers_in m = ap numbers_in is ∙ numbers-after note m in
    let same : network_began after ≡ network_began m = ap new_network numbers in
    record {
      hosts = ap are_hosts numbers ∙ t.hosts;
      fits = subst (λ (ks : List ℕ). (n : ℕ) → is_one_of n ks ≡ true → n < 256) (sym numbers) t.fits;
      run = subst (λ (ns : List ManyNote). IsManyRun ns (network_began after)) (sym e) (subst (IsManyRun (some ++ note ∷ [])) (sym same) (run-append some (note ∷ []) (network_began m) t.run (subst (IsManySaid note) t.state said, tt)));
      state = is ∙ ap (after_many note) t.state ∙ sym (after-append some (note ∷ []) (network_began m)) ∙ ap (after_many_notes (some ++ note ∷ [])) (sym same) ∙ ap (λ (ns : List ManyNote). after_many_notes ns (network_began after)) (sym e);
    }

-- one event after the other

abbrev pub Lengthened : List ManyEvent → Noted_many → Noted_many → Type 0
Lengthened events before now =
    (ns : List ManyNote) × AreManyNotes events ns before.hosts × (now.notes ≡ before.notes ++ ns) × (now.hosts ≡ after_many_notes ns before.hosts)

pub steps-noted : (events : List ManyEvent) (before now : Noted_many) → AreManySteps events before now → Lengthened events before now
steps-noted [] before now e = ([], tt, ap (λ (x : Noted_many). x.notes) e ∙ sym (append-nil before.notes), ap (λ (x : Noted_many). x.hosts) e)
steps-noted (event ∷ events) before now (next, step, rest) = go (steps-noted events next now rest)
  where
    go : Lengthened events next now → Lengthened (event ∷ events) before now
    go (ns, are, longer, after) =
        let note : ManyNote = step.0 in (
          note ∷ ns,
          (step.1, subst (AreManyNotes events ns) step.3 are),
          longer ∙ ap (λ (some : List ManyNote). some ++ ns) step.2 ∙ append_assoc before.notes (note ∷ []) ns,
          after ∙ ap (after_many_notes ns) step.3,
        )

-- from new hosts
pub begun-noted : (events : List ManyEvent) (numbers : List ℕ) (now : Noted_many) → AreManySteps events (new_many numbers) now → AreManyNotes events now.notes (new_network numbers) × (now.hosts ≡ after_many_notes now.notes (new_network numbers))
begun-noted events numbers now s = go (steps-noted events (new_many numbers) now s)
  where
    go : Lengthened events (new_many numbers) now → AreManyNotes events now.notes (new_network numbers) × (now.hosts ≡ after_many_notes now.notes (new_network numbers))
    go (ns, are, longer, after) =
        (subst (λ (some : List ManyNote). AreManyNotes events some (new_network numbers)) (sym longer) are, after ∙ ap (λ (some : List ManyNote). after_many_notes some (new_network numbers)) (sym longer))

-- The notes of any events of new hosts are a transcript of what they leave.
pub events-transcript : (events : List ManyEvent) (notes : List ManyNote) (ns : List ℕ) → are_hosts ns ≡ true → ((n : ℕ) → is_one_of n ns ≡ true → n < 256) → AreManyNotes events notes (new_network ns) → IsManyTranscript notes (after_many_notes notes (new_network ns))
events-transcript events notes ns good fits are =
    let now : Network = after_many_notes notes (new_network ns) in
    let same : numbers_in now ≡ ns = numbers-after-all notes (new_network ns) ∙ new-numbers ns in
    record {
      hosts = ap are_hosts same ∙ good;
      fits = subst (λ (ks : List ℕ). (n : ℕ) → is_one_of n ks ≡ true → n < 256) (sym same) fits;
      run = subst (λ (ks : List ℕ). IsManyRun notes (new_network ks)) (sym same) (notes-run events notes (new_network ns) are);
      state = ap (λ (ks : List ℕ). after_many_notes notes (new_network ks)) (sym same);
    }

-- One event after the other.

pub next-event : (events : List ManyEvent) (i : ℕ) (event : ManyEvent) (before now last : Noted_many) → i < length events → event ≡ get_or events i event → IsManyStep event before now
    → AreManySteps (drop (i + 1) events) now last → AreManySteps (drop i events) before last
next-event events i event before now last h is step rest =
    let at : drop i events ≡ get_or events i event ∷ drop (i + 1) events = rw add-one (drop-cons events i event h) in
    let whole : drop i events ≡ event ∷ drop (i + 1) events = at ∙ ap (λ (x : ManyEvent). x ∷ drop (i + 1) events) (sym is) in
    subst (λ (es : List ManyEvent). AreManySteps es before last) (sym whole) (now, step, rest)

-- where none is left, all of them have come
pub all-noted : (events : List ManyEvent) (i : ℕ) (numbers : List ℕ) (first now : Noted_many) → first ≡ new_many numbers → ((last : Noted_many) → AreManySteps (drop i events) now last → AreManySteps events first last) → length events ≤ i
    → AreManyNotes events now.notes (new_network numbers) × (now.hosts ≡ after_many_notes now.notes (new_network numbers))
all-noted events i numbers first now new so_far h =
    let last : AreManySteps (drop i events) now now = subst (λ (es : List ManyEvent). AreManySteps es now now) (sym (drop_all i events h)) refl in
    begun-noted events numbers now (subst (λ (w : Noted_many). AreManySteps events w now) new (so_far now last))

-- The beginning of a transcript is one, of what it leaves.

run-begins : (before after : List ManyNote) (m : Network) → IsManyRun (before ++ after) m → IsManyRun before m
run-begins [] after m r = tt
run-begins (n ∷ ns) after m r = (r.0, run-begins ns after (after_many n m) r.1)

-- the hosts that are there then are those of the beginning, and of the end
pub numbers-then : (before : List ManyNote) (m : Network) → numbers_in (after_many_notes before (network_began m)) ≡ numbers_in m
numbers-then before m = numbers-after-all before (network_began m) ∙ new-numbers (numbers_in m)

pub many-begins : (before after : List ManyNote) (m : Network) → IsManyTranscript (before ++ after) m → IsManyTranscript before (after_many_notes before (network_began m))
many-begins before after m t =
    let same : numbers_in (after_many_notes before (network_began m)) ≡ numbers_in m = numbers-then before m in
    record {
      hosts = ap are_hosts same ∙ t.hosts;
      fits = subst (λ (ks : List ℕ). (n : ℕ) → is_one_of n ks ≡ true → n < 256) (sym same) t.fits;
      run = subst (λ (ks : List ℕ). IsManyRun before (new_network ks)) (sym same) (run-begins before after (network_began m) t.run);
      state = ap (λ (ks : List ℕ). after_many_notes before (new_network ks)) (sym same);
    }
