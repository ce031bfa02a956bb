-- A transcript grows at its end.
use Rattle.std.proofs.Common.{◌≡◌, ◌≢◌, ◌<◌, ◌≤◌, ◌+◌, ◌^◌, ℕ, suc, List, [], ◌∷◌, ◌++◌, length, get_or, drop, refl, sym, ap, ◌∙◌, subst, add-one, drop-cons}
use Rattle.std.proofs.lemmas.List.{append_assoc, append-nil, drop_all}
use Rattle.ncp_transcript_two.specs.declared.side.Side.TheVariants.{A, B}
use Rattle.ncp_transcript_two.specs.declared.event.Event.{Event}
use Rattle.ncp_transcript_two.specs.declared.note.Note.{Note}
use Rattle.ncp_transcript_two.specs.declared.note.Note.TheVariants as notes
use Rattle.ncp_transcript_two.specs.Between.{Hosts, new_hosts, hosts_after_note, hosts_after_notes}
use Rattle.ncp_transcript_two.specs.Transcript.{IsSaid, IsRun, AreNotes, began, IsTranscript, Noted_world, new_world, IsStep, AreSteps}

pub after_append : (some more : List Note) (w : Hosts) → hosts_after_notes (some ++ more) w ≡ hosts_after_notes more (hosts_after_notes some w)
after_append [] more w = refl
after_append (n ∷ ns) more w = after_append ns more (hosts_after_note n w)

pub run_append : (some more : List Note) (w : Hosts) → IsRun some w → IsRun more (hosts_after_notes some w) → IsRun (some ++ more) w
run_append [] more w r rest = rest
run_append (n ∷ ns) more w r rest = (r.0, run_append ns more (hosts_after_note n w) r.1 rest)

-- the numbers of the hosts stay
pub began_noted : (note : Note) (w : Hosts) → began (hosts_after_note note w) ≡ began w
began_noted (notes.Called A note) w = refl
began_noted (notes.Called B note) w = refl
began_noted (notes.Out A note) w = refl
began_noted (notes.Out B note) w = refl
began_noted (notes.Came A link note) w = refl
began_noted (notes.Came B link note) w = refl
began_noted (notes.Lost side link) w = refl
began_noted (notes.FoundDead side link) w = refl
began_noted (notes.Answered A link note) w = refl
began_noted (notes.Answered B link note) w = refl
began_noted (notes.Nothing side link wanted) w = refl

pub transcript_new : (a b : ℕ) (w : Hosts) → a ≢ b → a < 2 ^ 8 → b < 2 ^ 8 → w ≡ new_hosts a b → IsTranscript [] w
transcript_new a b w differ fits_a fits_b e =
    subst (IsTranscript []) (sym e) (record { differ = differ; fits_a = fits_a; fits_b = fits_b; run = tt; state = refl })

pub transcript_grows : (some now : List Note) (note : Note) (w after : Hosts) → IsTranscript some w → IsSaid note w → now ≡ some ++ note ∷ [] → after ≡ hosts_after_note note w → IsTranscript now after
transcript_grows some now note w after t said e is =
    let same : began after ≡ began w = ap began is ∙ began_noted note w in
    let a : after.number_a ≡ w.number_a = ap (λ (x : Hosts). x.number_a) same in
    let b : after.number_b ≡ w.number_b = ap (λ (x : Hosts). x.number_b) same in
    record {
      differ = λ (k : after.number_a ≡ after.number_b). t.differ (sym a ∙ k ∙ b);
      fits_a = subst (λ (n : ℕ). n < 2 ^ 8) (sym a) t.fits_a;
      fits_b = subst (λ (n : ℕ). n < 2 ^ 8) (sym b) t.fits_b;
      run = subst (λ (ns : List Note). IsRun ns (began after)) (sym e) (subst (IsRun (some ++ note ∷ [])) (sym same) (run_append some (note ∷ []) (began w) t.run (subst (IsSaid note) t.state said, tt)));
      state = is ∙ ap (hosts_after_note note) t.state ∙ sym (after_append some (note ∷ []) (began w)) ∙ ap (hosts_after_notes (some ++ note ∷ [])) (sym same) ∙ ap (λ (ns : List Note). hosts_after_notes ns (began after)) (sym e);
    }

-- The notes of events are a run, one for each.

pub notes_run : (events : List Event) (ns : List Note) (w : Hosts) → AreNotes events ns w → IsRun ns w
notes_run [] [] w a = tt
notes_run (event ∷ events) (note ∷ rest) w a = ((event, a.0), notes_run events rest (hosts_after_note note w) a.1)
notes_run [] (note ∷ rest) w a = absurd a
notes_run (event ∷ events) [] w a = absurd a

pub notes_many : (events : List Event) (ns : List Note) (w : Hosts) → AreNotes events ns w → length ns ≡ length events
notes_many [] [] w a = refl
notes_many (event ∷ events) (note ∷ rest) w a = ap (λ (n : ℕ). suc n) (notes_many events rest (hosts_after_note note w) a.1)
notes_many [] (note ∷ rest) w a = absurd a
notes_many (event ∷ events) [] w a = absurd a

abbrev pub Lengthened : List Event → Noted_world → Noted_world → Type 0
Lengthened events before now =
    (ns : List Note) × AreNotes events ns before.hosts × (now.notes ≡ before.notes ++ ns) × (now.hosts ≡ hosts_after_notes ns before.hosts)

pub steps_noted : (events : List Event) (before now : Noted_world) → AreSteps events before now → Lengthened events before now
steps_noted [] before now e = ([], tt, ap (λ (x : Noted_world). x.notes) e ∙ sym (append-nil before.notes), ap (λ (x : Noted_world). x.hosts) e)
steps_noted (event ∷ events) before now (next, step, rest) = go (steps_noted events next now rest)
  where
    go : Lengthened events next now → Lengthened (event ∷ events) before now
    go (ns, are, longer, after) =
        let note : Note = step.0 in (
          note ∷ ns,
          (step.1, subst (AreNotes events ns) step.3 are),
          longer ∙ ap (λ (some : List Note). some ++ ns) step.2 ∙ append_assoc before.notes (note ∷ []) ns,
          after ∙ ap (hosts_after_notes ns) step.3,
        )

-- from a new world
pub begun_noted : (events : List Event) (a b : ℕ) (now : Noted_world) → AreSteps events (new_world a b) now → AreNotes events now.notes (new_hosts a b) × (now.hosts ≡ hosts_after_notes now.notes (new_hosts a b))
begun_noted events a b now s = go (steps_noted events (new_world a b) now s)
  where
    go : Lengthened events (new_world a b) now → AreNotes events now.notes (new_hosts a b) × (now.hosts ≡ hosts_after_notes now.notes (new_hosts a b))
    go (ns, are, longer, after) =
        (subst (λ (some : List Note). AreNotes events some (new_hosts a b)) (sym longer) are, after ∙ ap (λ (some : List Note). hosts_after_notes some (new_hosts a b)) (sym longer))

-- One event after the other.

pub next_event : (events : List Event) (i : ℕ) (event : Event) (before now last : Noted_world) → i < length events → event ≡ get_or events i event → IsStep event before now
    → AreSteps (drop (i + 1) events) now last → AreSteps (drop i events) before last
next_event events i event before now last h is step rest =
    let at : drop i events ≡ get_or events i event ∷ drop (i + 1) events = rw add-one (drop-cons events i event h) in
    let whole : drop i events ≡ event ∷ drop (i + 1) events = at ∙ ap (λ (x : Event). x ∷ drop (i + 1) events) (sym is) in
    subst (λ (es : List Event). AreSteps es before last) (sym whole) (now, step, rest)

-- where none is left, all of them have come
pub all_noted : (events : List Event) (i a b : ℕ) (first now : Noted_world) → first ≡ new_world a b → ((last : Noted_world) → AreSteps (drop i events) now last → AreSteps events first last) → length events ≤ i
    → AreNotes events now.notes (new_hosts a b) × (now.hosts ≡ hosts_after_notes now.notes (new_hosts a b))
all_noted events i a b first now new so_far h =
    let last : AreSteps (drop i events) now now = subst (λ (es : List Event). AreSteps es now now) (sym (drop_all i events h)) refl in
    begun_noted events a b now (subst (λ (w : Noted_world). AreSteps events w now) new (so_far now last))
