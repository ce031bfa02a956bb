-- Spontaneous events of two to eight hosts, without a user's request or a loss: messages are sent,
-- delivered and answered, and held messages are woken. For each two of them, these are the spontaneous
-- events of two hosts.
use Rattle.std.specs.Prelude.{◌≡◌, ◌≢◌, ◌≤◌, ◌+◌, ℕ, Bool, true, false, List, [], ◌∷◌, ◌++◌, length}
use Rattle.ncp_slot.specs.Slots.{slot_at}
use Rattle.ncp_proof_machine.specs.Hosts.{TwoNodes}
use Rattle.ncp_transcript.specs.declared.call.Call.{Call}
use Rattle.ncp_transcript.specs.declared.note.HostNote.{HostNote}
use Rattle.ncp_transcript_two.specs.Tie.{Refines}
use Rattle.ncp_transcript_two.specs.Between.{new_hosts}
use Rattle.ncp_transcript_two.specs.Seen.{had_for, seen}
use Rattle.ncp_subnet.specs.Subnet.{transit_at}
use Rattle.ncp_transcript_many.specs.declared.many_event.ManyEvent.{ManyEvent}
use Rattle.ncp_transcript_many.specs.declared.many_note.ManyNote.{ManyNote}
use Rattle.ncp_transcript_many.specs.Network.{Network, is_there, host_at, between, after_many, after_many_notes}
use Rattle.ncp_transcript_many.specs.ManyHappening.{ManyNoted}
use Rattle.ncp_transcript_many.specs.ManyTranscript.{IsManySaid, Noted_many}
use Rattle.ncp_transcript_many.specs.Pairs.{notes_between}
use Rattle.ncp_proof_progress.specs.HostsWork.{work}
use Rattle.ncp_proof_quiescence.specs.NotesWork.{notes_move, notes_allow}
use Rattle.ncp_proof_quiescence.specs.Settled.{is_held, IsStill, IsSettled}

-- no message from one host to another is ready, in transit or held
abbrev pub IsStillTo : ℕ → ℕ → Network → Type 0
IsStillTo from to m = IsStill to (had_for to (host_at from m)) (λ on. transit_at m.subnet from to on)

-- only a call can cause an event
abbrev pub AreSettled : Network → Type 0
AreSettled m = (a b : ℕ) → is_there a m ≡ true → is_there b m ≡ true → a ≢ b → IsSettled (seen (between a b m))

-- The note of a spontaneous event: a message is sent, delivered, or answered; or a host wakes held
-- messages for a peer, of which there is at least one.
abbrev pub ManyByItself : ManyNote → Network → Type 0
ManyByItself (ManyNote.Out host (HostNote.Out message)) m = Unit {0}
ManyByItself (ManyNote.Came from to link note) m = Unit {0}
ManyByItself (ManyNote.Answered from to link note) m = Unit {0}
ManyByItself (ManyNote.Called host (HostNote.Done (Call.Wake peer))) m = (on : ℕ) × (is_held (slot_at (had_for peer (host_at host m)).slots on) ≡ true)
ManyByItself note m = ⊥

-- a list of notes of spontaneous events, each as the rules define it
abbrev pub AllManyByThemselves : List ManyNote → Network → Type 0
AllManyByThemselves [] m = Unit {0}
AllManyByThemselves (note ∷ rest) m = IsManySaid note m × ManyByItself note m × AllManyByThemselves rest (after_many note m)

-- the hosts performed one such event
abbrev pub ManyGoOnce : Noted_many → Noted_many → Type 0
ManyGoOnce before now =
    (note : ManyNote) × IsManySaid note before.hosts × ManyByItself note before.hosts × (now.notes ≡ before.notes ++ note ∷ []) × (now.hosts ≡ after_many note before.hosts)

-- they performed one; or only a call can cause an event, and they are unchanged
abbrev pub ManyGoOrRest : Bool → Noted_many → Noted_many → Type 0
ManyGoOrRest true before now = ManyGoOnce before now
ManyGoOrRest false before now = (now ≡ before) × AreSettled before.hosts

-- they performed such events only
abbrev pub ManyGoOn : Noted_many → Noted_many → Type 0
ManyGoOn before now =
    (made : List ManyNote) × AllManyByThemselves made before.hosts × (now.notes ≡ before.notes ++ made) × (now.hosts ≡ after_many_notes made before.hosts)

-- between each two, the number of them is at most the work that was left between the two; what past
-- calls, losses and dead destinations of the two allow bounds that work
abbrev pub AreWithinWork : Noted_many → Noted_many → Type 0
AreWithinWork before now =
    (a b : ℕ) → is_there a before.hosts ≡ true → is_there b before.hosts ≡ true → a ≢ b
    → (x : TwoNodes) × Refines x (seen (between a b before.hosts)) × (notes_move (notes_between a b before.notes) + work x ≤ notes_allow (notes_between a b before.notes) (new_hosts a b))
    × (length (notes_between a b now.notes) ≤ length (notes_between a b before.notes) + work x)

-- A note that reports nothing: no link was ready, a host is absent, the two hosts of a message are the
-- same, or the subnet had no message to which the event applies.
abbrev pub many_says_nothing : ManyNote → Bool
many_says_nothing (ManyNote.Out host HostNote.Nothing) = true
many_says_nothing (ManyNote.Nothing event) = true
many_says_nothing note = false

-- an event was tried: it happened and its note reports it, or its note would report nothing and the hosts
-- are unchanged
abbrev pub IsManyTried : ManyEvent → Bool → Noted_many → Noted_many → Type 0
IsManyTried event true before now =
    (note : ManyNote) × ManyNoted event note before.hosts × (many_says_nothing note ≡ false) × (now.notes ≡ before.notes ++ note ∷ []) × (now.hosts ≡ after_many note before.hosts)
IsManyTried event false before now = (note : ManyNote) × ManyNoted event note before.hosts × (many_says_nothing note ≡ true) × (now ≡ before)
