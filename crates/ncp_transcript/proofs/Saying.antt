-- The note of an input says what the rules say.
use Rattle.std.proofs.Common.{◌≡◌, inl, inr, Bool, List, Option, None, Some, Result, Ok, Err, refl, sym, subst}
use Rattle.ncp_leader.specs.declared.leader.Leader.{Leader}
use Rattle.ncp_model.specs.declared.call_fault.CallFault.{CallFault}
use Rattle.ncp_host.specs.Host.{Host}
use Rattle.ncp_host.specs.Calls.{take_reply, record_told, flags_returned, echoed_returned, errors_returned, counts_returned}
use Rattle.ncp_host.specs.Arrivals.{received_in}
use Rattle.ncp_host.specs.Turns.{next_output}
use Rattle.ncp_transcript.specs.declared.call.Call.{Call}
use Rattle.ncp_transcript.specs.declared.call.Call.TheVariants as calls
use Rattle.ncp_transcript.specs.declared.input.Input.{Input}
use Rattle.ncp_transcript.specs.declared.input.Input.TheVariants as inputs
use Rattle.ncp_transcript.specs.declared.note.HostNote.{HostNote}
use Rattle.ncp_transcript.specs.declared.note.HostNote.TheVariants as notes
use Rattle.ncp_transcript.specs.Notes.{done_or_refused, returned_or_refused}
use Rattle.ncp_transcript.specs.Asked.{asked_in, asked_reply}
use Rattle.ncp_transcript.specs.Answers.{answer_to}
use Rattle.ncp_transcript.specs.Noting.{IsOutOfMemory, answer_in, note_as, note_of_message, HostNoted}
use Rattle.ncp_transcript.specs.Runs.{IsHostSaid}
use Rattle.ncp_transcript.proofs.Arriving.{answer_body}

done_said : (call : Call) (reply : Result (Unit {0}) CallFault) (h : Host) → answer_to call h ≡ done_or_refused call reply → IsHostSaid (done_or_refused call reply) h
done_said call (Ok done) h e = e
done_said call (Err fault) h e = inl e

returned_said : {A : Type 0} (call : Call) (told : A → HostNote) (reply : Result A CallFault) (h : Host)
    → ((a : A) → answer_to call h ≡ told a → IsHostSaid (told a) h) → answer_to call h ≡ returned_or_refused call told reply → IsHostSaid (returned_or_refused call told reply) h
returned_said call told (Ok a) h says e = says a e
returned_said call told (Err fault) h says e = inl e

answer_said : (call : Call) (h : Host) → IsHostSaid (answer_to call h) h
answer_said (calls.Take peer pair bytes) h = returned_said (calls.Take peer pair bytes) (notes.Took peer pair bytes) (take_reply peer pair bytes h) h (λ a e. e) refl
answer_said (calls.State peer pair) h = returned_said (calls.State peer pair) (notes.State peer pair) (record_told peer pair h) h (λ a e. e) refl
answer_said (calls.Phase peer) h = returned_said (calls.Phase peer) (notes.Phase peer) (flags_returned peer h) h (λ a e. e) refl
answer_said (calls.Echoed peer) h = returned_said (calls.Echoed peer) (notes.Echoed peer) (echoed_returned peer h) h (λ a e. e) refl
answer_said (calls.Errors peer) h = returned_said (calls.Errors peer) (notes.Errors peer) (errors_returned peer h) h (λ a e. e) refl
answer_said (calls.Counts peer) h = returned_said (calls.Counts peer) (notes.Counts peer) (counts_returned peer h) h (λ a e. e) refl
answer_said (calls.Waiting peer place) h = refl
answer_said (calls.Kept peer link) h = refl
answer_said calls.Ignored h = refl
answer_said call h = done_said call (asked_reply (asked_in call) h) h refl

want_said : (call : Call) (note : HostNote) (h : Host) → IsOutOfMemory call note h → IsHostSaid note h
want_said call note h w = subst (λ (n : HostNote). IsHostSaid n h) (sym w.said) (inr (record { takes = w.takes; good = w.good; said = refl }))

bits_said : (bits : List Bool) (h : Host) (o : Option Leader) → answer_in bits h ≡ o → IsHostSaid (note_as o bits (received_in bits h)) h
bits_said bits h None e = (e, refl)
bits_said bits h (Some leader) e = answer_body bits h leader e

output_said : (h : Host) (o : Option (List Bool)) → next_output h ≡ o → IsHostSaid (note_of_message o) h
output_said h None e = e
output_said h (Some message) e = e

pub noted_said : (input : Input) (note : HostNote) (h : Host) → HostNoted input note h → IsHostSaid note h
noted_said (inputs.Call call) note h (inl e) = subst (λ (n : HostNote). IsHostSaid n h) (sym e) (answer_said call h)
noted_said (inputs.Call call) note h (inr w) = want_said call note h w
noted_said (inputs.In bits) note h e = subst (λ (n : HostNote). IsHostSaid n h) (sym e) (bits_said bits h (answer_in bits h) refl)
noted_said inputs.Out note h e = subst (λ (n : HostNote). IsHostSaid n h) (sym e) (output_said h (next_output h) refl)
