-- The name of a call in a script: its word, and its peer, if it has one (this profile).
use Rattle.std.specs.Prelude.{ℕ, Option, Some, None}
use Rattle.ncp_transcript.specs.declared.call.Call.{Call}
use Rattle.ncp_transcript.specs.declared.call.Call.TheVariants as calls
use Rattle.ncp_transcript.specs.declared.note.HostNote.{HostNote}
use Rattle.ncp_transcript.specs.declared.note.HostNote.TheVariants as notes
use Rattle.ncp_play_script.specs.declared.verbs.Verb.{Verb}
use Rattle.ncp_play_script.specs.declared.verbs.Verb.TheVariants as verbs

abbrev pub Name : Type 0
Name = Verb × Option ℕ

-- two calls that read queued messages have no name
abbrev pub name_of_call : Call → Option Name
name_of_call (calls.Reset peer) = Some (verbs.Reset, Some peer)
name_of_call (calls.AskSend peer local remote size room) = Some (verbs.AskSend, Some peer)
name_of_call (calls.AskReceive peer local remote room) = Some (verbs.AskReceive, Some peer)
name_of_call (calls.Give peer pair text) = Some (verbs.Give, Some peer)
name_of_call (calls.Take peer pair bytes) = Some (verbs.Take, Some peer)
name_of_call (calls.Allocate peer pair messages bits) = Some (verbs.Allocate, Some peer)
name_of_call (calls.CallBack peer pair fm fb) = Some (verbs.CallBack, Some peer)
name_of_call (calls.Interrupt peer pair) = Some (verbs.Interrupt, Some peer)
name_of_call (calls.Echo peer byte) = Some (verbs.Echo, Some peer)
name_of_call (calls.Close peer pair) = Some (verbs.Close, Some peer)
name_of_call (calls.Wake peer) = Some (verbs.Wake, Some peer)
name_of_call (calls.State peer pair) = Some (verbs.State, Some peer)
name_of_call (calls.Phase peer) = Some (verbs.Phase, Some peer)
name_of_call (calls.Echoed peer) = Some (verbs.Echoed, Some peer)
name_of_call (calls.Errors peer) = Some (verbs.Errors, Some peer)
name_of_call (calls.Counts peer) = Some (verbs.Counts, Some peer)
name_of_call (calls.Waiting peer place) = None
name_of_call (calls.Kept peer link) = None
name_of_call calls.Ignored = Some (verbs.Ignored, None)

-- the name of a note's call
abbrev pub name_of_note : HostNote → Option Name
name_of_note (notes.Refused call fault) = name_of_call call
name_of_note (notes.Done call) = name_of_call call
name_of_note (notes.Took peer pair bytes text) = Some (verbs.Take, Some peer)
name_of_note (notes.State peer pair r) = Some (verbs.State, Some peer)
name_of_note (notes.Phase peer flags) = Some (verbs.Phase, Some peer)
name_of_note (notes.Echoed peer byte) = Some (verbs.Echoed, Some peer)
name_of_note (notes.Errors peer errors) = Some (verbs.Errors, Some peer)
name_of_note (notes.Counts peer counts) = Some (verbs.Counts, Some peer)
name_of_note (notes.Ignored ignored) = Some (verbs.Ignored, None)
name_of_note other = None
