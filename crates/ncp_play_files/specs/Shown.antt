-- What `show` writes.
use Rattle.std.specs.Prelude.{◌≡◌, ℕ, true, false, List, [], drop, Option, Some, Result, MatchOption}
use Rattle.ncp_play_files.specs.declared.file.FileFault.{FileFault}
use Rattle.ncp_play_files.specs.declared.file.FileFault.TheVariants.{BadHeader}
use Rattle.ncp_play_files.specs.File.{version_of, HoldsBy, IsCut}
use Rattle.ncp_play_files.specs.Versions.{Recorded, next_in}
use Rattle.ncp_play_files.specs.declared.showing.Showing.{Showing}
use Rattle.ncp_play_files.specs.Lines.{record_lines, record_lines_from}
use Rattle.ncp_play_files.specs.Passes.{PassRules}
use Rattle.ncp_play_files.specs.Writing.{Writes}

-- the lines of the records before the first fault of a file, and that fault, if any
abbrev pub ShownAs : List ℕ → List ℕ → Option FileFault → Type 0
ShownAs bytes text fault =
    MatchOption (version_of bytes) ((text ≡ []) × (fault ≡ Some BadHeader)) (λ version.
    (records : List Recorded) × HoldsBy (next_in version) (drop 4 bytes) records fault × (text ≡ record_lines_from 1 records))

-- the lines of the records complete in the bytes before a failed read
abbrev pub ShownCut : List ℕ → List ℕ → Type 0
ShownCut given text = (fault : Option FileFault) × IsCut given fault × ShownAs given text fault

-- the output for a file, by the result
abbrev pub Shown : List ℕ → List ℕ → Option (List ℕ) → Option (List ℕ) → Result Unit FileFault → Type 0
Shown bytes was left written result = Writes ShownAs ShownCut bytes was left written result

-- `show` as a pass: the lines of each record, in files of both versions
abbrev pub show_pass : PassRules Showing
show_pass = record {
  State = Unit {0};
  state = λ _. tt;
  reads = λ _. true;
  lines = λ number _ seen. record_lines number seen;
  after = λ _ _ _. tt;
  closing = λ _ _. [];
  good = λ _. true;
  closes = λ _. false;
  is_prompt = true;
}
