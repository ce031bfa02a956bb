-- A pass through a message file: what it prints of each record and at the end, and its output for a file.
use Rattle.std.specs.Prelude.{◌≡◌, ◌⊎◌, ◌+◌, ℕ, Bool, true, false, List, [], ◌∷◌, ◌++◌, drop, Option, Some, None, Result, Ok, Err, MatchOption, if◌then◌else◌}
use Rattle.ncp_play_files.specs.declared.file.FileFault.{FileFault}
use Rattle.ncp_play_files.specs.declared.file.FileFault.TheVariants.{BadHeader}
use Rattle.ncp_play_files.specs.declared.pass.FileEnd.{FileEnd}
use Rattle.ncp_play_files.specs.declared.pass.FileEnd.TheVariants.{Whole, AtFault, CutOff}
use Rattle.ncp_play_files.specs.declared.version.Version.{Version}
use Rattle.ncp_play_files.specs.declared.version.Version.TheVariants.{One, Two}
use Rattle.ncp_play_files.specs.Results.{MatchFault}
use Rattle.ncp_play_files.specs.File.{version_of, HoldsBy, IsCut}
use Rattle.ncp_play_files.specs.Versions.{Recorded, next_in}
use Rattle.ncp_play_files.specs.Writing.{Wrote, WritesAll, WritesRead, WritesPrefix}
use Rattle.ncp_play_buffer.specs.Lines.{number_after}

-- the end of a file with this fault, or without
abbrev pub end_at : Option FileFault → FileEnd
end_at None = Whole
end_at (Some fault) = AtFault

-- a version whose records name the host at whose interface they were made
abbrev pub names_hosts : Version → Bool
names_hosts (One direction) = false
names_hosts Two = true

-- what a pass prints; its output depends on its state alone
pub record PassRules (P : Type 0) : Type 1 where
  pub State : Type 0
  pub state : P → State
  pub reads : Version → Bool  -- whether it reads files of this version
  pub lines : ℕ → State → Recorded → List ℕ  -- the text of the record with this number
  pub after : ℕ → State → Recorded → State  -- the state after it
  pub closing : State → FileEnd → List ℕ  -- the text at the end, by how the file ended
  pub good : State → Bool  -- the result at the end of the file
  pub closes : State → Bool  -- whether there may be a text at the end
  pub is_prompt : Bool  -- whether all text is written before more of the file is waited for

module _ {P : Type 0} (rules : PassRules P) where
  -- the text of records from this number on, and the state after them
  abbrev pub text_from : ℕ → rules.State → List Recorded → List ℕ
  text_from number state [] = []
  text_from number state (seen ∷ more) = rules.lines number state seen ++ text_from (number_after number) (rules.after number state seen) more

  abbrev pub state_from : ℕ → rules.State → List Recorded → rules.State
  state_from number state [] = state
  state_from number state (seen ∷ more) = state_from (number_after number) (rules.after number state seen) more

  -- the text of a file with these records, which ends so
  abbrev pub whole_text : rules.State → List Recorded → FileEnd → List ℕ
  whole_text state records ends = text_from 1 state records ++ rules.closing (state_from 1 state records) ends

  -- the version of a file, if it is read
  abbrev pub read_version : Option Version → Option Version
  read_version None = None
  read_version (Some version) = if rules.reads version then Some version else None

  -- a file's records before its first fault, and that fault, if there is one; the header of a version
  -- that is not read is a bad one
  abbrev pub PassHolds : List ℕ → List Recorded → Option FileFault → Type 0
  PassHolds bytes records fault =
      MatchOption (read_version (version_of bytes)) ((records ≡ []) × (fault ≡ Some BadHeader)) (λ version. HoldsBy (next_in version) (drop 4 bytes) records fault)

  -- the text for a file, and its first fault, if any
  abbrev pub PrintsAs : rules.State → List ℕ → List ℕ → Option FileFault → Type 0
  PrintsAs state bytes text fault = (records : List Recorded) × PassHolds bytes records fault × (text ≡ whole_text state records (end_at fault))

  -- the text for the bytes before a failed read
  abbrev pub PrintsCut : rules.State → List ℕ → List ℕ → Type 0
  PrintsCut state given text =
      (records : List Recorded) × (fault : Option FileFault) × IsCut given fault × PassHolds given records fault × (text ≡ whole_text state records CutOff)

  -- a prefix was written: of the text for the file, or of that for the bytes before a failed read
  abbrev pub PrintsPrefix : rules.State → List ℕ → List ℕ → Option (List ℕ) → Type 0
  PrintsPrefix state bytes was written =
      WritesPrefix (PrintsAs state) bytes was written
      ⊎ ((given : List ℕ) × (rest : List ℕ) × (text : List ℕ) × (more : List ℕ) × (bytes ≡ given ++ rest) × PrintsCut state given (text ++ more) × Wrote was text written)

  -- the whole text was written, and the result is that of the state after the records
  abbrev pub PassesAll : rules.State → List ℕ → List ℕ → Option (List ℕ) → Bool → Type 0
  PassesAll state bytes was written good =
      (records : List Recorded) × PassHolds bytes records None × Wrote was (whole_text state records Whole) written × (good ≡ rules.good (state_from 1 state records))

  -- the output for a file, by the result
  abbrev pub Passes : rules.State → List ℕ → List ℕ → Option (List ℕ) → Option (List ℕ) → Result Bool FileFault → Type 0
  Passes state bytes was left written (Ok good) = PassesAll state bytes was written good
  Passes state bytes was left written (Err fault) =
      MatchFault (λ f. WritesAll (PrintsAs state) bytes was written (Some f)) (WritesRead (PrintsCut state) bytes was left written) (PrintsPrefix state bytes was written) fault

-- the number of writes to a sink that takes all it can, beyond one for each piece: a pass that is prompt
-- writes once for each read; a text at the end may be the only one after the out buffer was written
abbrev pub writes_beyond : Bool → Bool → ℕ → ℕ
writes_beyond is_prompt closes reads = if is_prompt then reads + (if closes then 3 else 2) else 2
