-- The effect of the parts of a pass on the remaining input, its state, and the text rendered so far
-- (written or in the out buffer).
use Rattle.std.specs.Prelude.{◌≡◌, ◌&&◌, ℕ, Bool, true, false, List, ◌++◌, Option, Some, None, Result, Ok, Err, if◌then◌else◌}
use Rattle.ncp_play_files.specs.declared.file.FileFault.{FileFault}
use Rattle.ncp_play_files.specs.declared.version.Version.{Version}
use Rattle.ncp_play_files.specs.declared.pass.FileEnd.{FileEnd}
use Rattle.ncp_play_files.specs.declared.pass.FileEnd.TheVariants.{Whole, AtFault, CutOff}
use Rattle.ncp_play_files.specs.Results.{MatchFault, is_read}
use Rattle.ncp_play_files.specs.File.{ending, HoldsBy, IsCut}
use Rattle.ncp_play_files.specs.Versions.{Recorded, next_in}
use Rattle.ncp_play_files.specs.Waiting.{is_waiting}
use Rattle.ncp_play_files.specs.Steps.{IsInside, StopsShort}
use Rattle.ncp_play_files.specs.Passes.{PassRules, text_from, state_from, PassHolds}
use Rattle.ncp_play_stream.specs.Pieces.{unpaid}
use Rattle.ncp_play_stream.specs.Streams.{RemainingInput, SaidSoFar}

module _ {P : Type 0} (rules : PassRules P) where
  -- whether all text is written before this window is read on from
  abbrev pub lets_out : Version → List ℕ → Bool
  lets_out version window = rules.is_prompt && is_waiting version window

  module _ (version : Version) (number : ℕ) (state : rules.State) (bytes was said : List ℕ) where
    -- the text of the next record was rendered
    abbrev pub PassesRecord : rules.State → List ℕ → Option (List ℕ) → List ℕ → Option (List ℕ) → Type 0
    PassesRecord now window left page written =
        (seen : Recorded) × (rest : List ℕ) × (next_in version bytes ≡ Ok (Some (seen, rest))) × RemainingInput window left rest
        × (now ≡ rules.after number state seen) × SaidSoFar was page written (said ++ rules.lines number state seen)

    -- no record begins
    abbrev pub PassesNone : Option FileFault → rules.State → List ℕ → Option (List ℕ) → Type 0
    PassesNone fault now page written = (next_in version bytes ≡ ending fault) × (now ≡ state) × SaidSoFar was page written said

    -- a read failed before the record was complete
    abbrev pub PassesShort : rules.State → Option (List ℕ) → List ℕ → Option (List ℕ) → Type 0
    PassesShort now left page written = StopsShort (next_in version) bytes left × (now ≡ state) × SaidSoFar was page written said

    -- a prefix of the record's text was written
    abbrev pub PassesPart : Option (List ℕ) → Type 0
    PassesPart written =
        (seen : Recorded) × (rest : List ℕ) × (lost : List ℕ) × (next_in version bytes ≡ Ok (Some (seen, rest)))
        × SaidSoFar was lost written (said ++ rules.lines number state seen)

    -- the text of the next record was rendered, or there is none, or the bytes begin with a fault
    abbrev pub PassesNext : Result Bool FileFault → rules.State → List ℕ → Option (List ℕ) → List ℕ → Option (List ℕ) → Type 0
    PassesNext (Ok true) now window left page written = PassesRecord now window left page written
    PassesNext (Ok false) now window left page written = PassesNone None now page written
    PassesNext (Err fault) now window left page written = MatchFault (λ f. PassesNone (Some f) now page written) (PassesShort now left page written) (PassesPart written) fault

    -- the text of all records of these bytes was rendered, and they end or have this fault
    abbrev pub PassesTo : List ℕ → Option FileFault → rules.State → List ℕ → Option (List ℕ) → Type 0
    PassesTo given fault now page written =
        (records : List Recorded) × HoldsBy (next_in version) given records fault × (now ≡ state_from rules number state records)
        × SaidSoFar was page written (said ++ text_from rules number state records)

    -- that of the records that were complete before a read failed
    abbrev pub PassesCut : rules.State → Option (List ℕ) → List ℕ → Option (List ℕ) → Type 0
    PassesCut now left page written =
        (given : List ℕ) × (rest : List ℕ) × (fault : Option FileFault) × (bytes ≡ given ++ rest) × (left ≡ Some rest) × IsInside fault × PassesTo given fault now page written

    -- a prefix was written
    abbrev pub PassesBroken : Option (List ℕ) → Type 0
    PassesBroken written = (fault : Option FileFault) × (lost : List ℕ) × (last : rules.State) × PassesTo bytes fault last lost written

    -- the text rendered for records from this number on, by the result
    abbrev pub PassesFrom : Result Unit FileFault → rules.State → Option (List ℕ) → List ℕ → Option (List ℕ) → Type 0
    PassesFrom (Ok done) now left page written = PassesTo bytes None now page written
    PassesFrom (Err fault) now left page written = MatchFault (λ f. PassesTo bytes (Some f) now page written) (PassesCut now left page written) (PassesBroken written) fault

    -- the text of the next record was rendered, or there is none; or this was the end: a fault, or a write
    -- that failed
    abbrev pub PassesOn : Result Bool FileFault → rules.State → List ℕ → Option (List ℕ) → List ℕ → Option (List ℕ) → Type 0
    PassesOn (Ok more) now window left page written = PassesNext (Ok more) now window left page written
    PassesOn (Err fault) now window left page written = PassesFrom (Err fault) now left page written

  module _ (state : rules.State) (was : List ℕ) where
    -- the text of the records of a file was rendered, up to this fault
    abbrev pub PassesFileTo : List ℕ → Option FileFault → rules.State → List ℕ → Option (List ℕ) → Type 0
    PassesFileTo bytes fault now page written =
        (records : List Recorded) × PassHolds rules bytes records fault × (now ≡ state_from rules 1 state records) × SaidSoFar was page written (text_from rules 1 state records)

    -- that of the records in the bytes before a failed read
    abbrev pub PassesFileCut : List ℕ → rules.State → Option (List ℕ) → List ℕ → Option (List ℕ) → Type 0
    PassesFileCut bytes now left page written =
        (given : List ℕ) × (rest : List ℕ) × (fault : Option FileFault) × (bytes ≡ given ++ rest) × (left ≡ Some rest) × IsCut given fault × PassesFileTo given fault now page written

    -- a prefix was written
    abbrev pub PassesFileBroken : List ℕ → Option (List ℕ) → Type 0
    PassesFileBroken bytes written = (fault : Option FileFault) × (lost : List ℕ) × (last : rules.State) × PassesFileTo bytes fault last lost written

    -- the text rendered for the records of a file, by the result
    abbrev pub PassesFile : List ℕ → Result Unit FileFault → rules.State → Option (List ℕ) → List ℕ → Option (List ℕ) → Type 0
    PassesFile bytes (Ok done) now left page written = PassesFileTo bytes None now page written
    PassesFile bytes (Err fault) now left page written =
        MatchFault (λ f. PassesFileTo bytes (Some f) now page written) (PassesFileCut bytes now left page written) (PassesFileBroken bytes written) fault

-- how a file ended, by the result of reading it; no write has failed
abbrev pub end_in : Result Unit FileFault → FileEnd
end_in (Ok done) = Whole
end_in (Err fault) = if is_read fault then CutOff else AtFault

-- the result of a pass after its text at the end
abbrev pub result_of : {P : Type 0} → (rules : PassRules P) → rules.State → Result Unit FileFault → Result Bool FileFault
result_of rules state (Ok done) = Ok (rules.good state)
result_of rules state (Err fault) = Err fault

-- the bytes of a piece that are not accounted for when a pass ends: a text at the end accounts for them
abbrev pub unpaid_closing : Bool → List ℕ → ℕ
unpaid_closing true page = 0
unpaid_closing false page = unpaid false page
