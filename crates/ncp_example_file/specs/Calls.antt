-- What one call adds to the accounts of the two users.
use Rattle.std.specs.Prelude.{◌≡◌, ℕ, Bool, true, false, not, ◌&&◌, if◌then◌else◌, List, Option, Some, length}
use Rattle.ncp_model.specs.declared.pair.Pair.{Pair}
use Rattle.ncp_transcript.specs.declared.call.Call.{Call}
use Rattle.ncp_transcript.specs.declared.call.Call.TheVariants as calls
use Rattle.ncp_transcript.specs.declared.note.HostNote.TheVariants as of_host
use Rattle.ncp_transcript.specs.Notes.{is_refusal}
use Rattle.ncp_transcript_two.specs.declared.side.Side.{Side}
use Rattle.ncp_transcript_two.specs.declared.note.Note.{Note}
use Rattle.ncp_transcript_two.specs.declared.note.Note.TheVariants as notes
use Rattle.ncp_statement.specs.Statement.{UserEvent, OtherEvent, user_event_by, is_same}
use Rattle.ncp_pipe.specs.Accounts.{given_after, taken_after}
use Rattle.ncp_proof_pipe.specs.Noted.{sender_did, receiver_did}
use Rattle.ncp_example_file.specs.Accounts.{all_given, all_taken}

-- of the last note: whether it is of a call that was accepted; how many bits it took

abbrev pub was_accepted : Option Note → Bool
was_accepted (Some (notes.Called side note)) = not (is_refusal note)
was_accepted _ = false

abbrev pub bits_taken : Option Note → ℕ
bits_taken (Some (notes.Called side (of_host.Took peer pair bytes text))) = length text
bits_taken _ = 0

abbrev pub is_take : Call → Bool
is_take (calls.Take peer pair bytes) = true
is_take call = false

-- what a call at a side (`by`) is for the user of a pair at a side, if it was accepted
abbrev pub event_in : Side → Pair → Side → Call → Bool → UserEvent
event_in side pair by call accepted = if is_same side by && accepted then user_event_by pair call else OtherEvent

-- the accounts after a call
abbrev pub IsCounted : Side → Call → Bool → List Note → List Note → Type 0
IsCounted by call accepted before now =
    (side : Side) (pair : Pair)
    → (all_given side pair now ≡ given_after (sender_did (event_in side pair by call accepted)) (all_given side pair before))
    × (all_taken side pair now ≡ taken_after (receiver_did (event_in side pair by call accepted)) (all_taken side pair before))

-- nothing was asked for, given or taken
abbrev pub CountsStay : List Note → List Note → Type 0
CountsStay before now = (side : Side) (pair : Pair) → (all_given side pair now ≡ all_given side pair before) × (all_taken side pair now ≡ all_taken side pair before)
