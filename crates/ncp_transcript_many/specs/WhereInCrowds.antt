-- For two to eight hosts: properties of the notes of each list of events; and of a host, or of all hosts,
-- before a certain note of a transcript.
use Rattle.std.specs.Prelude.{◌≡◌, ◌≢◌, ◌<◌, ◌⊎◌, ℕ, Bool, true, List, [], ◌∷◌, ◌++◌}
use Rattle.ncp_host.specs.Host.{Host, is_one_of, new_host}
use Rattle.ncp_transcript.specs.declared.note.HostNote.TheVariants as of_host
use Rattle.ncp_transcript.specs.After.{after_notes}
use Rattle.ncp_transcript_many.specs.declared.many_event.ManyEvent.{ManyEvent}
use Rattle.ncp_transcript_many.specs.declared.many_note.ManyNote.{ManyNote}
use Rattle.ncp_transcript_many.specs.declared.many_note.ManyNote.TheVariants as many
use Rattle.ncp_transcript_many.specs.Network.{Network, numbers_in, are_hosts, others, new_network, host_at, after_many_notes}
use Rattle.ncp_transcript_many.specs.ManyTranscript.{AreManyNotes, network_began, IsManyTranscript}
use Rattle.ncp_transcript_many.specs.Pairs.{note_between, notes_at_host}

-- the host that its own notes lead to, from its beginning, with the others as its peers
abbrev pub host_led_to : ℕ → List ManyNote → Network → Host
host_led_to host notes m = after_notes (notes_at_host host notes) (new_host host (others host (numbers_in m)))

-- a note names both hosts; then: two pairs of numbers are the same two
abbrev pub NamesBoth : ℕ → ℕ → ManyNote → Type 0
NamesBoth a b note = note_between a b note ≢ []

abbrev pub AreSameTwo : ℕ → ℕ → ℕ → ℕ → Type 0
AreSameTwo a b c d = ((c ≡ a) × (d ≡ b)) ⊎ ((c ≡ b) × (d ≡ a))

-- it holds for events and their notes at some hosts; then: for the notes from new hosts with valid
-- numbers, and the hosts they lead to
abbrev pub OfManyNotes : (List ManyEvent → List ManyNote → Network → Type 0) → Type 0
OfManyNotes holds = (events : List ManyEvent) (notes : List ManyNote) (m : Network) → AreManyNotes events notes m → holds events notes m

abbrev pub FromNewCrowds : (List ManyNote → Network → Type 0) → Type 0
FromNewCrowds holds =
    (events : List ManyEvent) (notes : List ManyNote) (ns : List ℕ)
    → are_hosts ns ≡ true
    → ((n : ℕ) → is_one_of n ns ≡ true → n < 256)
    → AreManyNotes events notes (new_network ns)
    → holds notes (after_many_notes notes (new_network ns))

-- it holds for each prefix of each transcript of many, and the hosts it leads to
abbrev pub OfFirstParts : (List ManyNote → Network → Type 0) → Type 0
OfFirstParts holds = (before after : List ManyNote) (m : Network) → IsManyTranscript (before ++ after) m → holds before (after_many_notes before (network_began m))

-- it holds for a host of many that had nothing to send; then: for one that sent a message; and, for an
-- event noted as `Nothing`: for the event, the present hosts, and the hosts before it
abbrev pub WhereNoneOfManyWentOut : (Host → Type 0) → Type 0
WhereNoneOfManyWentOut holds =
    (before after : List ManyNote) (m : Network) (host : ℕ) → IsManyTranscript (before ++ many.Out host of_host.Nothing ∷ after) m → holds (host_at host (after_many_notes before (network_began m)))

abbrev pub WhereOneOfManyWentOut : (List Bool → Host → Type 0) → Type 0
WhereOneOfManyWentOut holds =
    (before after : List ManyNote) (m : Network) (host : ℕ) (message : List Bool) → IsManyTranscript (before ++ many.Out host (of_host.Out message) ∷ after) m → holds message (host_at host (after_many_notes before (network_began m)))

abbrev pub WhereNothingOfManyHappened : (ManyEvent → Network → Network → Type 0) → Type 0
WhereNothingOfManyHappened holds =
    (before after : List ManyNote) (m : Network) (event : ManyEvent) → IsManyTranscript (before ++ many.Nothing event ∷ after) m → holds event m (after_many_notes before (network_began m))
