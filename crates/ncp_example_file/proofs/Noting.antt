-- What the note of a call adds to the accounts.
use Rattle.std.proofs.Common.{◌≡◌, ◌+◌, ◌-◌, Bool, true, false, not, ◌&&◌, if◌then◌else◌, List, [], ◌∷◌, ◌++◌, length, Option, Some, Result, Ok, Err, inl, inr, refl, sym, ap, ◌∙◌, subst, arith}
use Rattle.std.specs.Prelude.{slice_get}
use Rattle.std.proofs.lemmas.List.{length-append}
use Rattle.ncp_model.specs.declared.pair.Pair.{Pair}
use Rattle.ncp_model.specs.declared.call_fault.CallFault.{CallFault}
use Rattle.ncp_host.specs.Host.{Host}
use Rattle.ncp_host.specs.Calls.{record_told, flags_returned, echoed_returned, errors_returned, counts_returned}
use Rattle.ncp_transcript.specs.declared.call.Call.{Call}
use Rattle.ncp_transcript.specs.declared.call.Call.TheVariants as calls
use Rattle.ncp_transcript.specs.declared.note.HostNote.{HostNote}
use Rattle.ncp_transcript.specs.declared.note.HostNote.TheVariants as of_host
use Rattle.ncp_transcript.specs.Notes.{is_refusal, done_or_refused, returned_or_refused}
use Rattle.ncp_transcript.specs.Answers.{answer_to}
use Rattle.ncp_transcript.specs.Asked.{asked_in, asked_reply}
use Rattle.ncp_transcript.specs.Noting.{CallNoted}
use Rattle.ncp_transcript_two.specs.declared.side.Side.{Side}
use Rattle.ncp_transcript_two.specs.declared.event.Event.TheVariants as events
use Rattle.ncp_transcript_two.specs.declared.note.Note.{Note}
use Rattle.ncp_transcript_two.specs.declared.note.Note.TheVariants as notes
use Rattle.ncp_transcript_two.specs.Transcript.{Noted_world, IsStep}
use Rattle.ncp_statement.specs.Statement.{UserEvent, OtherEvent, user_event_by, user_event_of, user_event_at, is_same}
use Rattle.ncp_pipe.specs.Accounts.{given_after, taken_after}
use Rattle.ncp_proof_pipe.specs.Noted.{sender_did, receiver_did}
use Rattle.ncp_example_file.specs.Accounts.{all_given, all_taken}
use Rattle.ncp_example_file.specs.Calls.{was_accepted, is_take, event_in, IsCounted}
use Rattle.ncp_example_file.proofs.Adding.{given-by-one, taken-by-one}

-- the last note

seam : (ns : List Note) (n : Note) → slice_get (ns ++ n ∷ []) (length ns) ≡ Some n
seam [] n = refl
seam (x ∷ ns) n = seam ns n

before-last : (ns : List Note) (n : Note) → length (ns ++ n ∷ []) - 1 ≡ length ns
before-last ns n = let e : length (ns ++ n ∷ []) ≡ length ns + 1 = length-append ns (n ∷ []) in omega arith

pub last-is : (ns : List Note) (n : Note) → slice_get (ns ++ n ∷ []) (length (ns ++ n ∷ []) - 1) ≡ Some n
last-is ns n = ap (slice_get (ns ++ n ∷ [])) (before-last ns n) ∙ seam ns n

-- the note of a call other than a take is of the call, or is a refusal

abbrev Fits : Pair → Call → HostNote → Type 0
Fits pair call note = user_event_of pair note ≡ (if not (is_refusal note) then user_event_by pair call else OtherEvent)

of-done : (pair : Pair) (call : Call) (r : Result (Unit {0}) CallFault) → Fits pair call (done_or_refused call r)
of-done pair call (Ok d) = refl
of-done pair call (Err fault) = refl

of-returned : {A : Type 0} (pair : Pair) (call : Call) (told : A → HostNote) (r : Result A CallFault) → ((x : A) → Fits pair call (told x)) → Fits pair call (returned_or_refused call told r)
of-returned pair call told (Ok x) f = f x
of-returned pair call told (Err fault) f = refl

answers : (pair : Pair) (call : Call) (h : Host) → is_take call ≡ false → Fits pair call (answer_to call h)
answers pair (calls.Take peer p bytes) h e = absurd (cc e)
answers pair (calls.State peer p) h e = of-returned pair (calls.State peer p) (of_host.State peer p) (record_told peer p h) (λ x. refl)
answers pair (calls.Phase peer) h e = of-returned pair (calls.Phase peer) (of_host.Phase peer) (flags_returned peer h) (λ x. refl)
answers pair (calls.Echoed peer) h e = of-returned pair (calls.Echoed peer) (of_host.Echoed peer) (echoed_returned peer h) (λ x. refl)
answers pair (calls.Errors peer) h e = of-returned pair (calls.Errors peer) (of_host.Errors peer) (errors_returned peer h) (λ x. refl)
answers pair (calls.Counts peer) h e = of-returned pair (calls.Counts peer) (of_host.Counts peer) (counts_returned peer h) (λ x. refl)
answers pair (calls.Waiting peer place) h e = refl
answers pair (calls.Kept peer link) h e = refl
answers pair calls.Ignored h e = refl
answers pair call h e = of-done pair call (asked_reply (asked_in call) h)

fits : (pair : Pair) (call : Call) (note : HostNote) (h : Host) → is_take call ≡ false → CallNoted call note h → Fits pair call note
fits pair call note h e (inl k) = subst (Fits pair call) (sym k) (answers pair call h e)
fits pair call note h e (inr k) = subst (Fits pair call) (sym k.said) refl

at-side : (b a : Bool) (u v : UserEvent) → u ≡ (if a then v else OtherEvent) → (if b then u else OtherEvent) ≡ (if b && a then v else OtherEvent)
at-side true a u v e = e
at-side false a u v e = refl

-- the accounts after a call

core : (by : Side) (call : Call) (ns : List Note) (note : HostNote) → ((pair : Pair) → Fits pair call note) → IsCounted by call (not (is_refusal note)) ns (ns ++ notes.Called by note ∷ [])
core by call ns note f side pair =
    let e : user_event_at side pair (notes.Called by note) ≡ event_in side pair by call (not (is_refusal note)) =
    at-side (is_same side by) (not (is_refusal note)) (user_event_of pair note) (user_event_by pair call) (f pair) in (
      given-by-one side pair ns (notes.Called by note) ∙ ap (λ (u : UserEvent). given_after (sender_did u) (all_given side pair ns)) e,
      taken-by-one side pair ns (notes.Called by note) ∙ ap (λ (u : UserEvent). taken_after (receiver_did u) (all_taken side pair ns)) e,
    )

abbrev Counted : Side → Call → List Note → List Note → Type 0
Counted by call before now = IsCounted by call (was_accepted (slice_get now (length now - 1))) before now

pub counted : (by : Side) (call : Call) (before now : Noted_world) → is_take call ≡ false → IsStep (events.Call by call) before now → Counted by call before.notes now.notes
counted by call before now t s =
    let note : HostNote = s.1.of_host in
    let is : now.notes ≡ before.notes ++ notes.Called by note ∷ [] = s.2 ∙ ap (λ (n : Note). before.notes ++ n ∷ []) s.1.said in
    subst (λ (ns : List Note). Counted by call before.notes ns) (sym is)
    (subst (λ (o : Option Note). IsCounted by call (was_accepted o) before.notes (before.notes ++ notes.Called by note ∷ [])) (sym (last-is before.notes (notes.Called by note)))
    (core by call before.notes note (λ pair. fits pair call note _ t s.1.noted)))
