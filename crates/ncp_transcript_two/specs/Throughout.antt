-- Properties of each run, of each transcript, and of the hosts at a certain note of a transcript.
use Rattle.std.specs.Prelude.{◌≡◌, ℕ, true, List, ◌∷◌, ◌++◌}
use Rattle.ncp_model.specs.declared.pair.Pair.{Pair}
use Rattle.ncp_model.specs.Pairs.{sends}
use Rattle.ncp_proof_machine.specs.Resets.{Party}
use Rattle.ncp_transcript_two.specs.World.{World, swap, WorldEvent, world_run_from, notes_from}
use Rattle.ncp_transcript_two.specs.World as worlds
use Rattle.ncp_transcript_two.specs.Watch.{Both, turn, no_histories, histories_from}
use Rattle.ncp_transcript_two.specs.Honest.{IsPrefixWithin, Repeats, number_of_side, sent, came}
use Rattle.ncp_transcript_two.specs.Tie.{IsNewWorld, AreEvents}
use Rattle.ncp_transcript_two.specs.declared.note.Note.{Note}
use Rattle.ncp_transcript_two.specs.Between.{Hosts}
use Rattle.ncp_transcript_two.specs.Transcript.{IsTranscript}
use Rattle.ncp_transcript_two.specs.Seen.{seen, told}
use Rattle.ncp_transcript_two.specs.OfRules.{histories_of}

-- it holds for the hosts with their histories, and with the hosts exchanged
abbrev pub BothWays : (World → Both → Type 0) → World → Both → Type 0
BothWays holds v p = holds v p × holds (swap v) (turn p)

-- it holds after each run from a new world, with its histories, for each pair whose end here sends; in
-- both directions
abbrev pub AfterEachRun : (Pair → World → Both → Type 0) → Type 0
AfterEachRun holds =
    (v : World) (events : List WorldEvent) (pair : Pair) → IsNewWorld v → AreEvents events → sends pair ≡ true → BothWays (holds pair) (world_run_from events v) (histories_from events v no_histories)

-- the same for each transcript: for the observed state of the hosts, with the histories of the notes
abbrev pub OfEachTranscript : (Pair → World → Both → Type 0) → Type 0
OfEachTranscript holds =
    (notes : List Note) (w : Hosts) (pair : Pair) → IsTranscript notes w → sends pair ≡ true → BothWays (holds pair) (seen w) (histories_of notes w)

-- it holds for the new world and the notes of each run; then: for the hosts and the note bodies of each
-- transcript
abbrev pub InNotesOfEachRun : (World → List worlds.WorldNote → Type 0) → Type 0
InNotesOfEachRun holds = (v : World) (events : List WorldEvent) → IsNewWorld v → AreEvents events → holds v (notes_from events v)

abbrev pub BodiesInEachTranscript : (Hosts → List worlds.WorldNote → Type 0) → Type 0
BodiesInEachTranscript holds = (notes : List Note) (w : Hosts) → IsTranscript notes w → holds w (told notes)

-- on each link, in each direction, the messages that arrived are a prefix of those sent, as from their
-- host, shorter by at most one
abbrev pub ComesAsSent : ℕ → ℕ → List worlds.WorldNote → Type 0
ComesAsSent here there notes =
    (side : Party) (on : ℕ) → IsPrefixWithin 1 (came side on notes) (sent (number_of_side here there side) side on notes)

-- a message that is sent again equals the previous one
abbrev pub GoesAgainAsSent : List worlds.WorldNote → Type 0
GoesAgainAsSent notes = (side : Party) (on : ℕ) → Repeats side on notes

-- no transcript has the note
abbrev pub IsNeverNoted : Note → Type 0
IsNeverNoted note = (before after : List Note) (w : Hosts) → IsTranscript (before ++ note ∷ after) w → ⊥
