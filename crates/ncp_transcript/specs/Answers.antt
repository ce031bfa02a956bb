-- The answer to each call by the rules, as a note.
use Rattle.std.specs.Prelude.{Bool, true, false}
use Rattle.ncp_host.specs.Host.{Host, state_of}
use Rattle.ncp_peer.specs.PeerCalls.{waiting_at, kept_for}
use Rattle.ncp_host.specs.Calls.{take_reply, record_told, flags_returned, echoed_returned, errors_returned, counts_returned}
use Rattle.ncp_transcript.specs.declared.call.Call.{Call}
use Rattle.ncp_transcript.specs.declared.call.Call.TheVariants as calls
use Rattle.ncp_transcript.specs.declared.note.HostNote.{HostNote}
use Rattle.ncp_transcript.specs.declared.note.HostNote.TheVariants as notes
use Rattle.ncp_transcript.specs.Notes.{done_or_refused, returned_or_refused}
use Rattle.ncp_transcript.specs.Asked.{asked_in, asked_reply}

abbrev pub answer_to : Call → Host → HostNote
answer_to (calls.Take peer pair bytes) h = returned_or_refused (calls.Take peer pair bytes) (notes.Took peer pair bytes) (take_reply peer pair bytes h)
answer_to (calls.State peer pair) h = returned_or_refused (calls.State peer pair) (notes.State peer pair) (record_told peer pair h)
answer_to (calls.Phase peer) h = returned_or_refused (calls.Phase peer) (notes.Phase peer) (flags_returned peer h)
answer_to (calls.Echoed peer) h = returned_or_refused (calls.Echoed peer) (notes.Echoed peer) (echoed_returned peer h)
answer_to (calls.Errors peer) h = returned_or_refused (calls.Errors peer) (notes.Errors peer) (errors_returned peer h)
answer_to (calls.Counts peer) h = returned_or_refused (calls.Counts peer) (notes.Counts peer) (counts_returned peer h)
answer_to (calls.Waiting peer place) h = notes.Waiting peer place (waiting_at (state_of h peer) place)
answer_to (calls.Kept peer link) h = notes.Kept peer link (kept_for (state_of h peer) link)
answer_to calls.Ignored h = notes.Ignored h.ignored
answer_to call h = done_or_refused call (asked_reply (asked_in call) h)

-- a call that allocates, and so may fail
abbrev pub takes_memory : Call → Bool
takes_memory (calls.AskSend peer local remote size room) = true
takes_memory (calls.AskReceive peer local remote room) = true
takes_memory call = false

-- a call whose copy allocates, for its text
abbrev pub is_give : Call → Bool
is_give (calls.Give peer pair text) = true
is_give call = false
