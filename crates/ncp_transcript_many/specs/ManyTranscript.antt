-- Two to eight hosts with their transcript: the notes of all events, a run from new hosts.
use Rattle.std.specs.Prelude.{◌≡◌, ◌<◌, ℕ, true, List, [], ◌∷◌, ◌++◌}
use Rattle.ncp_host.specs.Host.{is_one_of}
use Rattle.ncp_transcript_two.specs.Transcript.{Noted_hosts}
use Rattle.ncp_transcript_many.specs.declared.many_event.ManyEvent.{ManyEvent}
use Rattle.ncp_transcript_many.specs.declared.many_note.ManyNote.{ManyNote}
use Rattle.ncp_transcript_many.specs.Network.{Network, numbers_in, are_hosts, new_network, after_many, after_many_notes}
use Rattle.ncp_transcript_many.specs.ManyHappening.{ManyNoted}

-- a note is the note of some event at the state before it
abbrev pub IsManySaid : ManyNote → Network → Type 0
IsManySaid note m = (event : ManyEvent) × ManyNoted event note m

-- a run: each note is the note of an event at the state that the notes before it lead to
abbrev pub IsManyRun : List ManyNote → Network → Type 0
IsManyRun [] m = Unit {0}
IsManyRun (note ∷ rest) m = IsManySaid note m × IsManyRun rest (after_many note m)

-- the hosts and the subnet at the beginning
abbrev pub network_began : Network → Network
network_began m = new_network (numbers_in m)

-- a transcript: the hosts have numbers that fit a leader; the notes are a run from the beginning, and
-- lead to the present hosts and subnet
pub record IsManyTranscript (notes : List ManyNote) (now : Network) : Type 0 where
  pub hosts : are_hosts (numbers_in now) ≡ true
  pub fits : (n : ℕ) → is_one_of n (numbers_in now) ≡ true → n < 256
  pub run : IsManyRun notes (network_began now)
  pub state : now ≡ after_many_notes notes (network_began now)

-- the notes of events, one for each, in order
abbrev pub AreManyNotes : List ManyEvent → List ManyNote → Network → Type 0
AreManyNotes [] [] m = Unit {0}
AreManyNotes (event ∷ events) (note ∷ rest) m = ManyNoted event note m × AreManyNotes events rest (after_many note m)
AreManyNotes events rest m = ⊥

-- hosts with their transcript
abbrev pub Noted_many : Type 0
Noted_many = Noted_hosts Network ManyNote

abbrev pub new_many : List ℕ → Noted_many
new_many ns = record { hosts = new_network ns; notes = [] }

-- one event: it appends one note, the note of this event; the hosts and the subnet are those after the
-- note
abbrev pub IsManyStep : ManyEvent → Noted_many → Noted_many → Type 0
IsManyStep event before now =
    (note : ManyNote) × ManyNoted event note before.hosts × (now.notes ≡ before.notes ++ note ∷ []) × (now.hosts ≡ after_many note before.hosts)

-- a list of events, one step each
abbrev pub AreManySteps : List ManyEvent → Noted_many → Noted_many → Type 0
AreManySteps [] before now = now ≡ before
AreManySteps (event ∷ events) before now = (next : Noted_many) × IsManyStep event before next × AreManySteps events next now
