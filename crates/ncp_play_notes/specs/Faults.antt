-- The faults that end a script: numbers, names, and the line on standard error (this profile).
use Rattle.std.specs.Prelude.{◌≡◌, ℕ, Bool, true, false, List, [], ◌++◌, Option, Some, None, Result, Ok, Err, codes}
use Rattle.ncp_play_stream.specs.declared.source.Failed.{Failed}
use Rattle.ncp_play_files.specs.File.{name_of_fault}
use Rattle.ncp_play_buffer.specs.Lines.{field}
use Rattle.ncp_play_files.specs.Results as files
use Rattle.ncp_play_notes.specs.declared.fault.PlayFault.{PlayFault}
use Rattle.ncp_play_notes.specs.declared.fault.PlayFault.TheVariants.{BadLine, LineTooLong, BadHosts, Feed, ReadFailed, WriteFailed, OutOfMemory}

abbrev pub number_of_play_fault : PlayFault → ℕ
number_of_play_fault (BadLine line) = 1
number_of_play_fault (LineTooLong line) = 2
number_of_play_fault BadHosts = 3
number_of_play_fault (Feed fault) = 4
number_of_play_fault ReadFailed = 5
number_of_play_fault WriteFailed = 6
number_of_play_fault OutOfMemory = 7

-- the name in the printed line; a fault of the feed has its name as a fault of a file
abbrev pub name_of_play_fault : PlayFault → List ℕ
name_of_play_fault (BadLine line) = codes "BadLine"
name_of_play_fault (LineTooLong line) = codes "LineTooLong"
name_of_play_fault BadHosts = codes "BadHosts"
name_of_play_fault (Feed fault) = name_of_fault fault
name_of_play_fault ReadFailed = codes "ReadFailed"
name_of_play_fault WriteFailed = codes "WriteFailed"
name_of_play_fault OutOfMemory = codes "OutOfMemory"

-- the line of the script with the fault
abbrev pub line_of : PlayFault → Option ℕ
line_of (BadLine line) = Some line
line_of (LineTooLong line) = Some line
line_of other = None

abbrev pub place_words : Option ℕ → List ℕ
place_words None = []
place_words (Some line) = field (codes "line ") line ++ codes ": "

-- the line on standard error: `ncp: line L: NAME`, or `ncp: NAME`
abbrev pub fault_line : PlayFault → List ℕ
fault_line fault = codes "ncp: " ++ place_words (line_of fault) ++ name_of_play_fault fault ++ codes "\n"

-- whether a fault is a failed write
abbrev pub is_play_write : PlayFault → Bool
is_play_write WriteFailed = true
is_play_write other = false

abbrev pub play_write_failed : {X : Type 0} → Result X PlayFault → Bool
play_write_failed (Ok x) = false
play_write_failed (Err fault) = is_play_write fault

-- whether a fault is a failed read, of the script or of the message file in it
abbrev pub is_play_read : PlayFault → Bool
is_play_read (Feed fault) = files.is_read fault
is_play_read ReadFailed = true
is_play_read (BadLine line) = false
is_play_read (LineTooLong line) = false
is_play_read BadHosts = false
is_play_read WriteFailed = false
is_play_read OutOfMemory = false

abbrev pub play_read_failed : {X : Type 0} → Result X PlayFault → Bool
play_read_failed (Ok x) = false
play_read_failed (Err fault) = is_play_read fault

-- the sink holds `was` followed by this text, or after a failed write by a prefix of it
abbrev pub WroteOrBegan : List ℕ → List ℕ → Result Unit Failed → Option (List ℕ) → Type 0
WroteOrBegan was text (Ok done) written = written ≡ Some (was ++ text)
WroteOrBegan was text (Err failed) written = (front : List ℕ) × (more : List ℕ) × (front ++ more ≡ text) × (written ≡ Some (was ++ front))
