-- The bytes written for a file, by its records: the whole text, or a part of it if a read or a write
-- failed.
use Rattle.std.specs.Prelude.{◌≡◌, ℕ, List, ◌++◌, Option, Some, None, Result, Ok, Err}
use Rattle.ncp_play_files.specs.declared.file.FileFault.{FileFault}
use Rattle.ncp_play_files.specs.Results.{MatchFault}

-- the text for bytes with this first fault, or without
abbrev pub TextReported : Type 1
TextReported = List ℕ → List ℕ → Option FileFault → Type 0

-- the text for the bytes before a failed read
abbrev pub PrintedCut : Type 1
PrintedCut = List ℕ → List ℕ → Type 0

-- this text was appended
abbrev pub Wrote : List ℕ → List ℕ → Option (List ℕ) → Type 0
Wrote was text written = written ≡ Some (was ++ text)

-- the whole text was written, for a file that ends with this fault
abbrev pub WritesAll : TextReported → List ℕ → List ℕ → Option (List ℕ) → Option FileFault → Type 0
WritesAll told bytes was written fault = (text : List ℕ) × told bytes text fault × Wrote was text written

-- the text for the bytes before the failed read was written; no byte is lost
abbrev pub WritesRead : PrintedCut → List ℕ → List ℕ → Option (List ℕ) → Option (List ℕ) → Type 0
WritesRead cut bytes was left written =
    (given : List ℕ) × (rest : List ℕ) × (text : List ℕ) × (bytes ≡ given ++ rest) × (left ≡ Some rest) × cut given text × Wrote was text written

-- a prefix of the text was written
abbrev pub WritesPrefix : TextReported → List ℕ → List ℕ → Option (List ℕ) → Type 0
WritesPrefix told bytes was written =
    (text : List ℕ) × (more : List ℕ) × (fault : Option FileFault) × told bytes (text ++ more) fault × Wrote was text written

-- the output for a file, by the result
abbrev pub Writes : TextReported → PrintedCut → List ℕ → List ℕ → Option (List ℕ) → Option (List ℕ) → Result Unit FileFault → Type 0
Writes told cut bytes was left written (Ok done) = WritesAll told bytes was written None
Writes told cut bytes was left written (Err fault) =
    MatchFault (λ f. WritesAll told bytes was written (Some f)) (WritesRead cut bytes was left written) (WritesPrefix told bytes was written) fault
