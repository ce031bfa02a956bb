-- The host with a number, by its index among the hosts.
use Rattle.std.specs.Prelude.{◌≡◌, ℕ, List, Option, None, Some, slice_get, slice_set}
use Rattle.ncp_host.specs.Host.{Host}
use Rattle.ncp_transcript.specs.declared.note.HostNote.{HostNote}
use Rattle.ncp_transcript.specs.After.{after_note}
use Rattle.ncp_transcript_many.specs.Numbered.{thing_in, at_thing}

-- it is at this index, and a change to it is a change there
abbrev pub IsAt : List (ℕ × Host) → ℕ → ℕ → Type 0
IsAt hosts number place = (x : ℕ × Host) → slice_get hosts place ≡ Some x → (thing_in hosts number ≡ Some x.1) × ((f : Host → Host) → at_thing number f hosts ≡ slice_set hosts place (x.0, f x.1))

-- the hosts after the note of one of them, if there is one
abbrev pub at_noted : ℕ → Option HostNote → List (ℕ × Host) → List (ℕ × Host)
at_noted number None hosts = hosts
at_noted number (Some note) hosts = at_thing number (after_note note) hosts
