-- Lines that are read from a source through an in buffer.
use Rattle.std.specs.Prelude.{◌≡◌, ℕ, Bool, List, [], ◌∷◌, ◌++◌, take, position, Option, Some, None, Result, Ok, Err}
use Rattle.ncp_play_stream.specs.declared.source.Failed.{Failed}
use Rattle.ncp_play_stream.specs.Streams.{RemainingInput}
use Rattle.ncp_play_script.specs.declared.line_buffer.TheConstants.{MAX_KEPT}
use Rattle.ncp_play_script.specs.Lines.{is_lf}
use Rattle.ncp_play_script.specs.Scripts.{lines_of}

-- the first line was read: its prefix is kept, and the bytes after it are still to be read
abbrev pub IsFirstLine : List ℕ → Bool → List ℕ → List ℕ → Option (List ℕ) → Type 0
IsFirstLine bytes ended line window left =
    (text : List ℕ) × (behind : List ℕ)
    × (lines_of bytes ≡ record { bytes = text; ended = ended; behind = behind } ∷ lines_of behind) × (line ≡ take MAX_KEPT text) × RemainingInput window left behind

-- the bytes before a failed read hold no complete line
abbrev pub EndsNone : List ℕ → Option (List ℕ) → Type 0
EndsNone bytes left = (given : List ℕ) × (rest : List ℕ) × (bytes ≡ given ++ rest) × (left ≡ Some rest) × (position is_lf given ≡ None)

-- the result of reading a line: the first line, with or without its LF; none if there is no byte; or a
-- read failed before its end
abbrev pub ReadsLine : List ℕ → Result (Option Bool) Failed → List ℕ → List ℕ → Option (List ℕ) → Type 0
ReadsLine bytes (Ok (Some ended)) line window left = IsFirstLine bytes ended line window left
ReadsLine bytes (Ok None) line window left = bytes ≡ []
ReadsLine bytes (Err failed) line window left = EndsNone bytes left
