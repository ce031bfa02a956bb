-- Bytes in buffers: from a source through an in buffer, and through an out buffer into a sink.
use Rattle.std.specs.Prelude.{◌≡◌, ℕ, List, ◌++◌, Option, Some, Result, Ok, Err}
use Rattle.ncp_play_stream.specs.declared.source.Failed.{Failed}

-- the bytes still to be read: those in the buffer, then those that the source has left
abbrev pub RemainingInput : List ℕ → Option (List ℕ) → List ℕ → Type 0
RemainingInput window left bytes = (rest : List ℕ) × (left ≡ Some rest) × (window ++ rest ≡ bytes)

-- bytes may have moved into the buffer; the bytes still to be read are the same
abbrev pub Moves : List ℕ → Option (List ℕ) → List ℕ → Option (List ℕ) → Type 0
Moves window left window' left' = (bytes : List ℕ) → RemainingInput window left bytes → RemainingInput window' left' bytes

-- exactly this text was rendered since the sink held `was`: the bytes written, then those in the buffer
abbrev pub SaidSoFar : List ℕ → List ℕ → Option (List ℕ) → List ℕ → Type 0
SaidSoFar was page written text = (sent : List ℕ) × (written ≡ Some (was ++ sent)) × (sent ++ page ≡ text)

-- this text was appended to everything rendered before
abbrev pub WritesText : List ℕ → Option (List ℕ) → List ℕ → List ℕ → Option (List ℕ) → Type 0
WritesText page written text page' written' =
    (was : List ℕ) (said : List ℕ) → SaidSoFar was page written said → SaidSoFar was page' written' (said ++ text)

-- a prefix of this text was written, and the rest is lost
abbrev pub WritesPrefixOf : List ℕ → Option (List ℕ) → List ℕ → Option (List ℕ) → Type 0
WritesPrefixOf page written text written' = (lost : List ℕ) × WritesText page written text lost written'

-- the effect of a call that renders this text, by its result: all of it was appended, or a prefix was
-- written
abbrev pub WritesTextOrPrefixOf : List ℕ → Option (List ℕ) → List ℕ → Result Unit Failed → List ℕ → Option (List ℕ) → Type 0
WritesTextOrPrefixOf page written text (Ok done) page' written' = WritesText page written text page' written'
WritesTextOrPrefixOf page written text (Err failed) page' written' = WritesPrefixOf page written text written'
