-- What the two users of a connection have counted, by the notes of a transcript.
use Rattle.std.specs.Prelude.{◌≡◌, ◌≤◌, ◌+◌, ℕ, Bool, true, List, [], ◌∷◌, length}
use Rattle.ncp_model.specs.declared.pair.Pair.{Pair}
use Rattle.ncp_model.specs.Pairs.{sends, counterpart}
use Rattle.ncp_transcript_two.specs.declared.side.Side.{Side}
use Rattle.ncp_transcript_two.specs.declared.note.Note.{Note}
use Rattle.ncp_transcript_two.specs.Between.{other}
use Rattle.ncp_statement.specs.Statement.{given, taken}
use Rattle.ncp_pipe.specs.Accounts.{texts_given, texts_taken}
use Rattle.ncp_proof_pipe.specs.Noted.{sender_steps_noted, receiver_steps_noted}

-- the texts given on the successive connections of a pair at a side, and those taken there; the latest first

abbrev pub all_given : Side → Pair → List Note → List (List Bool)
all_given side pair ns = texts_given (sender_steps_noted side pair ns)

abbrev pub all_taken : Side → Pair → List Note → List (List Bool)
all_taken side pair ns = texts_taken (receiver_steps_noted side pair ns)

-- The user asked once, and gave or took this text since, and nothing before.

abbrev pub HasGiven : Side → Pair → List Bool → List Note → Type 0
HasGiven side pair text ns = all_given side pair ns ≡ text ∷ [] ∷ []

abbrev pub HasTaken : Side → Pair → List Bool → List Note → Type 0
HasTaken side pair text ns = all_taken side pair ns ≡ text ∷ [] ∷ []

-- The user of a receiver expects `size` bits, and misses at most `missing` of them.
abbrev pub MissesAtMost : ℕ → ℕ → Side → Pair → List Note → Type 0
MissesAtMost missing size side pair ns = (text : List Bool) × (size ≤ length text + missing) × HasTaken side pair text ns

-- Of a text from this side both users say so: the sender gave all of it, and the receiver misses nothing of its length.
abbrev pub BothSaySo : Side → Pair → List Bool → List Note → Type 0
BothSaySo side pair text ns = HasGiven side pair text ns × MissesAtMost 0 (length text) (other side) (counterpart pair) ns

-- It has arrived: by the page of the headline it is what was given here, and what was taken there.
abbrev pub HasArrived : Side → Pair → List Bool → List Note → Type 0
HasArrived side pair text ns = (given side pair ns ≡ text) × (taken (other side) (counterpart pair) ns ≡ text)

-- Of each pair that sends: once both users say so, a text has arrived.
abbrev pub WhatBothSayIsSo : List Note → Type 0
WhatBothSayIsSo ns = (side : Side) (pair : Pair) (text : List Bool) → sends pair ≡ true → BothSaySo side pair text ns → HasArrived side pair text ns
