-- Properties of each note of two hosts, with the observed state of the two among all, before and after
-- it.
use Rattle.std.specs.Prelude.{◌≡◌, ◌≢◌, ℕ, true, List, [], ◌∷◌}
use Rattle.ncp_transcript_two.specs.World.{World, NoteBody}
use Rattle.ncp_transcript_two.specs.declared.note.Note.{Note}
use Rattle.ncp_transcript_two.specs.Seen.{seen, as_rules, body_of, side_of}
use Rattle.ncp_proof_promises.specs.EachNote.{OfBody}
use Rattle.ncp_transcript_many.specs.declared.many_note.ManyNote.{ManyNote}
use Rattle.ncp_transcript_many.specs.Network.{Network, is_there, between, after_many}
use Rattle.ncp_transcript_many.specs.ManyTranscript.{network_began}
use Rattle.ncp_transcript_many.specs.Pairs.{note_between}

-- it holds for a note of the two, the first of at most one; any other note leaves the observed state
-- unchanged
abbrev pub AmongAll : (NoteBody → World → World → Type 0) → List Note → World → World → Type 0
AmongAll P [] v after = after ≡ v
AmongAll P (note ∷ rest) v after = OfBody P (as_rules (side_of note)) (body_of note) v after

-- it holds for a list of notes, in order
abbrev pub OfEachNoteOfTwo : (NoteBody → World → World → Type 0) → ℕ → ℕ → List ManyNote → Network → Type 0
OfEachNoteOfTwo P a b [] m = Unit {0}
OfEachNoteOfTwo P a b (note ∷ rest) m =
    AmongAll P (note_between a b note) (seen (between a b m)) (seen (between a b (after_many note m))) × OfEachNoteOfTwo P a b rest (after_many note m)

-- it holds for each two hosts, from the beginning
abbrev pub ForEachNoteOfTwo : (NoteBody → World → World → Type 0) → List ManyNote → Network → Type 0
ForEachNoteOfTwo P ns m = (a b : ℕ) → is_there a m ≡ true → is_there b m ≡ true → a ≢ b → OfEachNoteOfTwo P a b ns (network_began m)
