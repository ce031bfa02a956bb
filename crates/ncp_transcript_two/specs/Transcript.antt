-- A world with its transcript: the notes of all events, a run from new hosts.
use Rattle.std.specs.Prelude.{◌≡◌, ◌≢◌, ◌<◌, ◌^◌, ℕ, List, [], ◌∷◌, ◌++◌}
use Rattle.ncp_transcript_two.specs.declared.event.Event.{Event}
use Rattle.ncp_transcript_two.specs.declared.note.Note.{Note}
use Rattle.ncp_transcript_two.specs.Between.{Hosts, new_hosts, hosts_after_note, hosts_after_notes}
use Rattle.ncp_transcript_two.specs.Happening.{Noted}

-- a note is the note of some event at the state before it
abbrev pub IsSaid : Note → Hosts → Type 0
IsSaid note w = (event : Event) × Noted event note w

-- a run: each note is the note of an event at the state that the notes before it lead to
abbrev pub IsRun : List Note → Hosts → Type 0
IsRun [] w = Unit {0}
IsRun (note ∷ rest) w = IsSaid note w × IsRun rest (hosts_after_note note w)

-- the hosts and the subnet at the beginning
abbrev pub began : Hosts → Hosts
began w = new_hosts w.number_a w.number_b

-- a transcript: the two hosts have different numbers that fit a leader; the notes are a run from the
-- beginning, and lead to the present hosts and subnet
pub record IsTranscript (notes : List Note) (now : Hosts) : Type 0 where
  pub differ : now.number_a ≢ now.number_b
  pub fits_a : now.number_a < 2 ^ 8
  pub fits_b : now.number_b < 2 ^ 8
  pub run : IsRun notes (began now)
  pub state : now ≡ hosts_after_notes notes (began now)

-- the notes of events, one for each, in order
abbrev pub AreNotes : List Event → List Note → Hosts → Type 0
AreNotes [] [] w = Unit {0}
AreNotes (event ∷ events) (note ∷ rest) w = Noted event note w × AreNotes events rest (hosts_after_note note w)
AreNotes events rest w = ⊥

-- hosts of some kind, with their transcript
pub record Noted_hosts (H N : Type 0) : Type 0 where
  pub hosts : H
  pub notes : List N

-- a world with its transcript
abbrev pub Noted_world : Type 0
Noted_world = Noted_hosts Hosts Note

abbrev pub new_world : ℕ → ℕ → Noted_world
new_world a b = record { hosts = new_hosts a b; notes = [] }

-- one event: it appends one note, the note of this event; the hosts and the subnet are those after the
-- note
abbrev pub IsStep : Event → Noted_world → Noted_world → Type 0
IsStep event before now =
    (note : Note) × Noted event note before.hosts × (now.notes ≡ before.notes ++ note ∷ []) × (now.hosts ≡ hosts_after_note note before.hosts)

-- a list of events, one step each
abbrev pub AreSteps : List Event → Noted_world → Noted_world → Type 0
AreSteps [] before now = now ≡ before
AreSteps (event ∷ events) before now = (next : Noted_world) × IsStep event before next × AreSteps events next now
