-- A transcript grows at its end.
use Rattle.std.proofs.Common.{◌≡◌, ◌<◌, ℕ, suc, true, List, [], ◌∷◌, ◌++◌, length, Result, Ok, Err, refl, sym, ap, ◌∙◌, subst}
use Rattle.std.specs.Result.{OnOk, IfErr, OnErr}
use Rattle.std.proofs.lemmas.List.{append_assoc, append-nil}
use Rattle.ncp_host.specs.Host.{Host, numbers_of, is_one_of, are_peers, new_host}
use Rattle.ncp_transcript.specs.declared.input.Input.{Input}
use Rattle.ncp_transcript.specs.declared.note.HostNote.{HostNote}
use Rattle.ncp_transcript.specs.After.{after_note, after_notes}
use Rattle.ncp_transcript.specs.Runs.{IsHostSaid, IsHostRun, AreHostNotes, host_began, IsHostTranscript}
use Rattle.ncp_transcript.specs.Alone.{Alone, IsHostStep, AreHostSteps}
use Rattle.ncp_transcript.proofs.Beginning.{numbers_new, began_new, began_noted, same_me, same_peers}
use Rattle.ncp_transcript.proofs.Saying.{noted_said}

pub after_append : (some more : List HostNote) (h : Host) → after_notes (some ++ more) h ≡ after_notes more (after_notes some h)
after_append [] more h = refl
after_append (n ∷ ns) more h = after_append ns more (after_note n h)

run_append : (some more : List HostNote) (h : Host) → IsHostRun some h → IsHostRun more (after_notes some h) → IsHostRun (some ++ more) h
run_append [] more h r rest = rest
run_append (n ∷ ns) more h r rest = (r.0, run_append ns more (after_note n h) r.1 rest)

-- a new host has an empty transcript
pub transcript_new : (me : ℕ) (ns : List ℕ) (h : Host) → are_peers me ns ≡ true → ((n : ℕ) → is_one_of n ns ≡ true → n < 256) → h ≡ new_host me ns → IsHostTranscript [] h
transcript_new me ns h good small e =
    let number : h.me ≡ me = ap (λ (x : Host). x.me) e in
    let numbers : numbers_of h.peers ≡ ns = ap (λ (x : Host). numbers_of x.peers) e ∙ numbers_new ns in
    record {
      peers = ap (λ (n : ℕ). are_peers n (numbers_of h.peers)) number ∙ ap (are_peers me) numbers ∙ good;
      fits = subst (λ (ms : List ℕ). (n : ℕ) → is_one_of n ms ≡ true → n < 256) (sym numbers) small;
      run = tt;
      state = e ∙ sym (began_new me ns) ∙ ap host_began (sym e);
    }

pub transcript_grows : (some now : List HostNote) (note : HostNote) (h after : Host) → IsHostTranscript some h → IsHostSaid note h → now ≡ some ++ note ∷ [] → after ≡ after_note note h → IsHostTranscript now after
transcript_grows some now note h after t said e is =
    let same : host_began after ≡ host_began h = ap host_began is ∙ began_noted note h in
    let numbers : numbers_of after.peers ≡ numbers_of h.peers = same_peers h after same in
    record {
      peers = ap (λ (n : ℕ). are_peers n (numbers_of after.peers)) (same_me h after same) ∙ ap (are_peers h.me) numbers ∙ t.peers;
      fits = subst (λ (ms : List ℕ). (n : ℕ) → is_one_of n ms ≡ true → n < 256) (sym numbers) t.fits;
      run = subst (λ (ns : List HostNote). IsHostRun ns (host_began after)) (sym e) (subst (IsHostRun (some ++ note ∷ [])) (sym same) (run_append some (note ∷ []) (host_began h) t.run (subst (IsHostSaid note) t.state said, tt)));
      state = is ∙ ap (after_note note) t.state ∙ sym (after_append some (note ∷ []) (host_began h)) ∙ ap (after_notes (some ++ note ∷ [])) (sym same) ∙ ap (λ (ns : List HostNote). after_notes ns (host_began after)) (sym e);
    }

-- an input was done and noted, or there was no memory for it
pub transcript_stepped : {E : Type 0} (r : Result (Unit {0}) E) (input : Input) (before now : Alone)
    → OnOk r (IsHostStep input before now) → OnErr r ((now.notes ≡ before.notes) × (now.host ≡ before.host)) → IsHostTranscript before.notes before.host → IsHostTranscript now.notes now.host
transcript_stepped (Ok done) input before now step same t =
    transcript_grows before.notes now.notes step.0 before.host now.host t (noted_said input step.0 before.host step.1) step.2 step.3
transcript_stepped (Err e) input before now step same t =
    subst (λ (h : Host). IsHostTranscript now.notes h) (sym same.1) (subst (λ (ns : List HostNote). IsHostTranscript ns before.host) (sym same.0) t)

pub if_err : {T E P : Type 0} (r : Result T E) → P → OnErr r P
if_err (Ok it) p = tt
if_err (Err e) p = p

pub is_err_of : {T E : Type 0} (r : Result T E) (e known : E) → r ≡ Err e → e ≡ known → IfErr r (λ x. x ≡ known)
is_err_of (Ok it) e known is same = tt
is_err_of (Err x) e known is same = cc

-- The notes of inputs are a run, one for each.

pub notes_run : (inputs : List Input) (ns : List HostNote) (h : Host) → AreHostNotes inputs ns h → IsHostRun ns h
notes_run [] [] h a = tt
notes_run (input ∷ inputs) (note ∷ rest) h a = (noted_said input note h a.0, notes_run inputs rest (after_note note h) a.1)
notes_run [] (note ∷ rest) h a = absurd a
notes_run (input ∷ inputs) [] h a = absurd a

pub notes_many : (inputs : List Input) (ns : List HostNote) (h : Host) → AreHostNotes inputs ns h → length ns ≡ length inputs
notes_many [] [] h a = refl
notes_many (input ∷ inputs) (note ∷ rest) h a = ap (λ (n : ℕ). suc n) (notes_many inputs rest (after_note note h) a.1)
notes_many [] (note ∷ rest) h a = absurd a
notes_many (input ∷ inputs) [] h a = absurd a

abbrev Lengthened : List Input → Alone → Alone → Type 0
Lengthened inputs before now =
    (ns : List HostNote) × AreHostNotes inputs ns before.host × (now.notes ≡ before.notes ++ ns) × (now.host ≡ after_notes ns before.host)

pub steps_noted : (inputs : List Input) (before now : Alone) → AreHostSteps inputs before now → Lengthened inputs before now
steps_noted [] before now e = ([], tt, ap (λ (a : Alone). a.notes) e ∙ sym (append-nil before.notes), ap (λ (a : Alone). a.host) e)
steps_noted (input ∷ inputs) before now (next, step, rest) = go (steps_noted inputs next now rest)
  where
    go : Lengthened inputs next now → Lengthened (input ∷ inputs) before now
    go (ns, are, longer, after) =
        let note : HostNote = step.0 in (
          note ∷ ns,
          (step.1, subst (AreHostNotes inputs ns) step.3 are),
          longer ∙ ap (λ (some : List HostNote). some ++ ns) step.2 ∙ append_assoc before.notes (note ∷ []) ns,
          after ∙ ap (after_notes ns) step.3,
        )
