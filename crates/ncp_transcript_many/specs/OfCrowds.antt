-- Properties of each transcript of two to eight hosts, and of each of its hosts; and notes that appear in
-- none.
use Rattle.std.specs.Prelude.{◌≡◌, ℕ, true, List, ◌∷◌, ◌++◌}
use Rattle.ncp_transcript_many.specs.declared.many_note.ManyNote.{ManyNote}
use Rattle.ncp_transcript_many.specs.Network.{Network, is_there}
use Rattle.ncp_transcript_many.specs.ManyTranscript.{IsManyTranscript}

-- it holds for the notes, and the hosts they lead to
abbrev pub OfEachNetwork : (List ManyNote → Network → Type 0) → Type 0
OfEachNetwork holds = (notes : List ManyNote) (m : Network) → IsManyTranscript notes m → holds notes m

-- the same for each host that is present
abbrev pub OfEachHost : (List ManyNote → Network → ℕ → Type 0) → Type 0
OfEachHost holds = (notes : List ManyNote) (m : Network) (host : ℕ) → IsManyTranscript notes m → is_there host m ≡ true → holds notes m host

-- no transcript has the note
abbrev pub NoNetworkNotes : ManyNote → Type 0
NoNetworkNotes note = (before after : List ManyNote) (m : Network) → IsManyTranscript (before ++ note ∷ after) m → ⊥
