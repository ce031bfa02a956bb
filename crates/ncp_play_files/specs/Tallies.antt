-- The input read and the totals counted by the parts of `check`.
use Rattle.std.specs.Prelude.{◌≡◌, ◌+◌, ℕ, Bool, List, [], ◌∷◌, ◌++◌, Option, Some, None, Result, Ok, Err, if◌then◌else◌}
use Rattle.ncp_play_files.specs.declared.file.FileFault.{FileFault}
use Rattle.ncp_play_files.specs.declared.tally.RecordClass.{RecordClass}
use Rattle.ncp_play_files.specs.declared.tally.Totals.{Totals}
use Rattle.ncp_play_files.specs.declared.tally.Counts.{Counts}
use Rattle.ncp_play_files.specs.Results.{MatchFault}
use Rattle.ncp_play_files.specs.declared.version.Version.{Version}
use Rattle.ncp_play_files.specs.File.{next_record, HoldsBy, IsCut}
use Rattle.ncp_play_files.specs.Versions.{Recorded, next_in}
use Rattle.ncp_play_files.specs.Steps.{IsInside, HasFaultInFront, Stops}
use Rattle.ncp_play_buffer.specs.Lines.{number_after}
use Rattle.ncp_play_stream.specs.Streams.{RemainingInput}
use Rattle.ncp_play_files.specs.Checked.{record_class_of, record_class_of_record, capped, is_short, is_of_type_0, is_faulty, is_bad, totals_of, FileHolds}

-- ---- one message

-- a message was classified and its record consumed, or the bytes begin with this fault
abbrev pub JudgesRecord : List ℕ → Result RecordClass FileFault → List ℕ → Option (List ℕ) → Type 0
JudgesRecord bytes (Ok record_class) window left =
    (message : List Bool) × (rest : List ℕ) × (next_record bytes ≡ Ok (Some (message, rest))) × (record_class ≡ record_class_of message) × RemainingInput window left rest
JudgesRecord bytes (Err fault) window left = HasFaultInFront bytes fault

-- the same for a record of either version; or the bytes end, or no record was read
abbrev pub JudgesNext : Version → List ℕ → Result (Option RecordClass) FileFault → List ℕ → Option (List ℕ) → Type 0
JudgesNext version bytes (Ok (Some record_class)) window left =
    (found : Recorded) × (rest : List ℕ) × (next_in version bytes ≡ Ok (Some (found, rest))) × (record_class ≡ record_class_of_record found) × RemainingInput window left rest
JudgesNext version bytes (Ok None) window left = next_in version bytes ≡ Ok None
JudgesNext version bytes (Err fault) window left = Stops (next_in version) bytes left fault

-- ---- the counts

-- one more if a test passes
abbrev pub one_more_where : Bool → ℕ → ℕ
one_more_where passes number = if passes then number_after number else number

-- the totals with one more message
abbrev pub totals_with : Totals → RecordClass → Totals
totals_with tally record_class = record {
  messages = number_after tally.messages;
  short = one_more_where (is_short record_class) tally.short;
  regular = one_more_where (is_of_type_0 record_class) tally.regular;
  faults = one_more_where (is_faulty record_class) tally.faults;
  bad = one_more_where (is_bad record_class) tally.bad;
}

-- the totals of these counts, one for each class
abbrev pub put_together : Counts → Totals
put_together counts = record {
  messages = capped (counts.sound + counts.faulty + counts.bad + (counts.short + counts.other));
  short = counts.short;
  regular = capped (counts.sound + counts.faulty + counts.bad);
  faults = counts.faulty;
  bad = counts.bad;
}

-- the totals with these records more
abbrev pub totals_from : Totals → List Recorded → Totals
totals_from tally [] = tally
totals_from tally (found ∷ records) = totals_from (totals_with tally (record_class_of_record found)) records

-- bytes after a header hold records, followed by this fault
abbrev pub EndsInFault : Version → List ℕ → FileFault → Type 0
EndsInFault version bytes fault = (records : List Recorded) × HoldsBy (next_in version) bytes records (Some fault)

-- a read failed: no byte is lost, and the bytes before the failure have no fault other than their end
abbrev pub StopsInRecords : Version → List ℕ → Option (List ℕ) → Type 0
StopsInRecords version bytes left =
    (given : List ℕ) × (rest : List ℕ) × (records : List Recorded) × (fault : Option FileFault)
    × (bytes ≡ given ++ rest) × (left ≡ Some rest) × IsInside fault × HoldsBy (next_in version) given records fault

-- the records from here on were counted, or there is a fault
abbrev pub TotalsFrom : Version → List ℕ → Totals → Result Totals FileFault → Option (List ℕ) → Type 0
TotalsFrom version bytes tally (Ok counted) left = (records : List Recorded) × HoldsBy (next_in version) bytes records None × (counted ≡ totals_from tally records)
TotalsFrom version bytes tally (Err fault) left = MatchFault (EndsInFault version bytes) (StopsInRecords version bytes left) ⊥ fault

-- nothing was counted
abbrev pub no_messages : Totals
no_messages = record { messages = 0; short = 0; regular = 0; faults = 0; bad = 0 }

-- a file has this fault
abbrev pub HasFault : List ℕ → FileFault → Type 0
HasFault bytes fault = (records : List Recorded) × FileHolds bytes records (Some fault)

-- a read failed in a file: no byte is lost, and the bytes before the failure have no fault other than
-- their end
abbrev pub StopsInFile : List ℕ → Option (List ℕ) → Type 0
StopsInFile bytes left =
    (given : List ℕ) × (rest : List ℕ) × (records : List Recorded) × (fault : Option FileFault)
    × (bytes ≡ given ++ rest) × (left ≡ Some rest) × IsCut given fault × FileHolds given records fault

-- the records of a file were counted, or the file has a fault
abbrev pub TotalsFile : List ℕ → Result Totals FileFault → Option (List ℕ) → Type 0
TotalsFile bytes (Ok counted) left = (records : List Recorded) × FileHolds bytes records None × (counted ≡ totals_of records)
TotalsFile bytes (Err fault) left = MatchFault (HasFault bytes) (StopsInFile bytes left) ⊥ fault
