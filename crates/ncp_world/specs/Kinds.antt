-- A kind of hosts, two by their sides or two to eight by their numbers: how events and notes name them, and
-- what an event notes. And hosts of a kind, with their transcript, that go on.
use Rattle.std.specs.Prelude.{◌≡◌, ◌≢◌, ℕ, Bool, true, false, List, [], ◌∷◌, ◌++◌, Option, Some, slice_get}
use Rattle.ncp_subnet.specs.Ways.{OnLink}
use Rattle.ncp_transcript_two.specs.Transcript.{Noted_hosts}

-- parameters: the types of their names, of events, of notes, and of the hosts
pub record Kind (Name E N H : Type 0) : Type 1 where
  pub Noted : E → N → H → Type 0  -- the note of an event
  pub after : N → H → H  -- the hosts after a note
  pub IsTranscript : List N → H → Type 0  -- the notes are a transcript of the hosts
  pub reports_nothing : N → Bool  -- a host had no message to send, or an event was impossible
  pub names : H → List Name  -- the hosts, in their order
  pub out : Name → E  -- a host is asked for its next message; then: events of a message from one to another on a link
  pub deliver : Name → Name → ℕ → E
  pub answer : Name → Name → ℕ → E
  pub wake : Name → Name → H → E  -- held messages from one to another are woken
  pub ready : Name → H → Bool  -- a host has a message to send
  pub kept : Name → Name → H → ℕ → Option (List Bool)  -- the message from one to another that a link keeps
  pub transit : Name → Name → H → ℕ → OnLink  -- what the subnet has of it
  pub ByItself : N → H → Type 0  -- the note of an event that needs no user
  pub GoesOn : Noted_hosts H N → Noted_hosts H N → Type 0  -- they performed such events only
  pub IsStill : Name → Name → H → Type 0  -- no message from one to another is ready, in transit or held
  pub IsSettled : H → Type 0  -- only a call can cause an event

module _ {Name E N H : Type 0} (kind : Kind Name E N H) where
  -- one event: it appends one note, the note of this event; the hosts are those after the note
  abbrev pub IsStepOf : E → Noted_hosts H N → Noted_hosts H N → Type 0
  IsStepOf event before now = (note : N) × kind.Noted event note before.hosts × (now.notes ≡ before.notes ++ note ∷ []) × (now.hosts ≡ kind.after note before.hosts)

  -- an event was tried: it happened and its note reports it, or its note would report nothing and all is
  -- unchanged
  abbrev pub IsTriedOf : E → Bool → Noted_hosts H N → Noted_hosts H N → Type 0
  IsTriedOf event true before now =
      (note : N) × kind.Noted event note before.hosts × (kind.reports_nothing note ≡ false) × (now.notes ≡ before.notes ++ note ∷ []) × (now.hosts ≡ kind.after note before.hosts)
  IsTriedOf event false before now = (note : N) × kind.Noted event note before.hosts × (kind.reports_nothing note ≡ true) × (now ≡ before)

  -- an event would report nothing
  abbrev pub WouldReportNothing : E → H → Type 0
  WouldReportNothing event h = (note : N) × kind.Noted event note h × (kind.reports_nothing note ≡ true)

  -- these two hosts, at two places
  abbrev pub AreTwoAt : ℕ → ℕ → Name → Name → H → Type 0
  AreTwoAt i j from to h = (slice_get (kind.names h) i ≡ Some from) × (slice_get (kind.names h) j ≡ Some to) × (i ≢ j)

  -- they performed one event that needs no user
  abbrev pub GoOnce : Noted_hosts H N → Noted_hosts H N → Type 0
  GoOnce before now =
      (note : N) × ((event : E) × kind.Noted event note before.hosts) × kind.ByItself note before.hosts × (now.notes ≡ before.notes ++ note ∷ []) × (now.hosts ≡ kind.after note before.hosts)

  -- they performed one; or only a call can cause an event, and all is unchanged
  abbrev pub GoOrRest : Bool → Noted_hosts H N → Noted_hosts H N → Type 0
  GoOrRest true before now = GoOnce before now
  GoOrRest false before now = (now ≡ before) × kind.IsSettled before.hosts

  -- the same for the messages from one host to another; then: from the host at a place to any other
  abbrev pub GoOrRestTo : Name → Name → Bool → Noted_hosts H N → Noted_hosts H N → Type 0
  GoOrRestTo from to true before now = GoOnce before now
  GoOrRestTo from to false before now = (now ≡ before) × kind.IsStill from to before.hosts

  abbrev pub IsStillAt : ℕ → H → Type 0
  IsStillAt i h = (j : ℕ) (from to : Name) → AreTwoAt i j from to h → kind.IsStill from to h

  abbrev pub GoOrRestAt : ℕ → Bool → Noted_hosts H N → Noted_hosts H N → Type 0
  GoOrRestAt i true before now = GoOnce before now
  GoOrRestAt i false before now = (now ≡ before) × IsStillAt i before.hosts
