-- The note of a call: refused, done, or with the result.
use Rattle.std.specs.Prelude.{Bool, true, false, Result, Ok, Err}
use Rattle.ncp_model.specs.declared.call_fault.CallFault.{CallFault}
use Rattle.ncp_transcript.specs.declared.call.Call.{Call}
use Rattle.ncp_transcript.specs.declared.note.HostNote.{HostNote}
use Rattle.ncp_transcript.specs.declared.note.HostNote.TheVariants.{Refused, Done}

-- a call was refused
abbrev pub is_refusal : HostNote → Bool
is_refusal (Refused call fault) = true
is_refusal other = false

-- the note of a call that returns only success or a refusal
abbrev pub done_or_refused : Call → Result (Unit {0}) CallFault → HostNote
done_or_refused call (Ok done) = Done call
done_or_refused call (Err fault) = Refused call fault

-- the note of a call with a result
abbrev pub returned_or_refused : {A : Type 0} → Call → (A → HostNote) → Result A CallFault → HostNote
returned_or_refused call told (Ok it) = told it
returned_or_refused call told (Err fault) = Refused call fault
