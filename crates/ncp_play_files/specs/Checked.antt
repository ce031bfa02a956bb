-- What `check` counts, writes and returns.
use Rattle.std.specs.Prelude.{◌≡◌, ℕ, ◌-◌, ◌^◌, ◌==◌, ◌&&◌, ◌||◌, not, min, Bool, true, false, List, [], ◌++◌, length, drop, count_by, Option, Some, None, Result, Ok, Err, MatchOption, is_some, codes, if◌then◌else◌}
use Rattle.ncp_numbers.specs.Bytes.{bytes_of}
use Rattle.ncp_leader.specs.declared.leader.Leader.{Leader}
use Rattle.ncp_leader.specs.declared.leader.Short.{Short}
use Rattle.ncp_leader.specs.declared.fault.MessageFault.{MessageFault}
use Rattle.ncp_leader.specs.Leader.{leader_in}
use Rattle.ncp_leader.specs.Message.{Message, message_in}
use Rattle.ncp_control.specs.Reading.{fault_in}
use Rattle.ncp_play_files.specs.declared.file.FileFault.{FileFault}
use Rattle.ncp_play_files.specs.declared.file.FileFault.TheVariants.{BadHeader}
use Rattle.ncp_play_files.specs.declared.tally.RecordClass.{RecordClass}
use Rattle.ncp_play_files.specs.declared.tally.RecordClass.TheVariants as is
use Rattle.ncp_play_files.specs.declared.tally.Totals.{Totals}
use Rattle.ncp_play_files.specs.Results.{MatchFault}
use Rattle.ncp_play_files.specs.File.{version_of, HoldsBy, IsCut}
use Rattle.ncp_play_files.specs.Versions.{Recorded, next_in}
use Rattle.ncp_play_buffer.specs.Lines.{field}
use Rattle.ncp_play_files.specs.Lines.{is_on_control_link, is_control}

-- ---- one message

-- a message on the control link that is bad: its bytes are not of eight bits, or its text has a fault
abbrev pub is_bad_text : Message → Bool
is_bad_text message = is_on_control_link message && (not (is_control message) || is_some (fault_in (bytes_of message.text)))

abbrev pub record_class_of_message : Result Message MessageFault → RecordClass
record_class_of_message (Err fault) = is.Faulty
record_class_of_message (Ok message) = if is_bad_text message then is.Bad else is.Sound

abbrev pub record_class_after : List Bool → Result Leader Short → RecordClass
record_class_after bits (Err short) = is.Short
record_class_after bits (Ok leader) = if leader.kind == 0 then record_class_of_message (message_in bits) else is.Other

abbrev pub record_class_of : List Bool → RecordClass
record_class_of bits = record_class_after bits (leader_in bits)

abbrev pub record_class_of_record : Recorded → RecordClass
record_class_of_record found = record_class_of found.message

abbrev pub is_short : RecordClass → Bool
is_short is.Short = true
is_short is.Other = false
is_short is.Sound = false
is_short is.Faulty = false
is_short is.Bad = false

-- of type 0
abbrev pub is_of_type_0 : RecordClass → Bool
is_of_type_0 is.Short = false
is_of_type_0 is.Other = false
is_of_type_0 is.Sound = true
is_of_type_0 is.Faulty = true
is_of_type_0 is.Bad = true

abbrev pub is_faulty : RecordClass → Bool
is_faulty is.Short = false
is_faulty is.Other = false
is_faulty is.Sound = false
is_faulty is.Faulty = true
is_faulty is.Bad = false

abbrev pub is_bad : RecordClass → Bool
is_bad is.Short = false
is_bad is.Other = false
is_bad is.Sound = false
is_bad is.Faulty = false
is_bad is.Bad = true

-- ---- all messages

-- a count saturates at 2^32 - 1
abbrev pub capped : ℕ → ℕ
capped number = min number (2 ^ 32 - 1)

-- the number of records whose class passes a test
abbrev pub count_of : (RecordClass → Bool) → List Recorded → ℕ
count_of test records = capped (count_by (λ found. test (record_class_of_record found)) records)

abbrev pub totals_of : List Recorded → Totals
totals_of records = record {
  messages = capped (length records);
  short = count_of is_short records;
  regular = count_of is_of_type_0 records;
  faults = count_of is_faulty records;
  bad = count_of is_bad records;
}

-- no message is short, faulty or bad
abbrev pub is_sound : Totals → Bool
is_sound tally = (tally.short == 0) && ((tally.faults == 0) && (tally.bad == 0))

abbrev pub totals_line : Totals → List ℕ
totals_line tally =
    field (codes "messages=") tally.messages ++ field (codes " short=") tally.short ++ field (codes " regular=") tally.regular
    ++ field (codes " faults=") tally.faults ++ field (codes " bad=") tally.bad ++ codes "\n"

-- ---- the file

-- a file's records before its first fault, and that fault, if there is one
abbrev pub FileHolds : List ℕ → List Recorded → Option FileFault → Type 0
FileHolds bytes records fault =
    MatchOption (version_of bytes) ((records ≡ []) × (fault ≡ Some BadHeader)) (λ version. HoldsBy (next_in version) (drop 4 bytes) records fault)

-- the file has this fault, and nothing was written
abbrev pub ChecksNone : List ℕ → List ℕ → Option (List ℕ) → FileFault → Type 0
ChecksNone bytes was written fault = (records : List Recorded) × FileHolds bytes records (Some fault) × (written ≡ Some was)

-- the totals line was written, and the file is sound exactly when `good`
abbrev pub ChecksAll : List ℕ → List ℕ → Option (List ℕ) → Bool → Type 0
ChecksAll bytes was written good =
    (records : List Recorded) × FileHolds bytes records None × (written ≡ Some (was ++ totals_line (totals_of records)))
    × (good ≡ is_sound (totals_of records))

-- a prefix of the totals line was written
abbrev pub ChecksPrefix : List ℕ → List ℕ → Option (List ℕ) → Type 0
ChecksPrefix bytes was written =
    (records : List Recorded) × (text : List ℕ) × (more : List ℕ) × FileHolds bytes records None
    × (totals_line (totals_of records) ≡ text ++ more) × (written ≡ Some (was ++ text))

-- a read failed: no byte is lost, the bytes before the failure have no fault other than their end, and
-- nothing was written
abbrev pub ChecksRead : List ℕ → List ℕ → Option (List ℕ) → Option (List ℕ) → Type 0
ChecksRead bytes was left written =
    (given : List ℕ) × (rest : List ℕ) × (records : List Recorded) × (fault : Option FileFault)
    × (bytes ≡ given ++ rest) × (left ≡ Some rest) × IsCut given fault × FileHolds given records fault × (written ≡ Some was)

-- the output for a file, by the result
abbrev pub Checked : List ℕ → List ℕ → Option (List ℕ) → Option (List ℕ) → Result Bool FileFault → Type 0
Checked bytes was left written (Ok good) = ChecksAll bytes was written good
Checked bytes was left written (Err fault) =
    MatchFault (ChecksNone bytes was written) (ChecksRead bytes was left written) (ChecksPrefix bytes was written) fault
