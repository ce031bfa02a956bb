-- The cases of a result: a fault of the file, or a stream that failed.
use Rattle.std.specs.Prelude.{Bool, true, false, Result, Ok, Err}
use Rattle.ncp_play_files.specs.declared.file.FileFault.{FileFault}
use Rattle.ncp_play_files.specs.declared.file.FileFault.TheVariants.{BadHeader, Truncated, TooLong, SpareNotZero, ReadFailed, WriteFailed, BadDirection, Mixed}

-- one fact for faults of the file, and one each for a failed read and a failed write
abbrev pub MatchFault : (FileFault → Type 0) → Type 0 → Type 0 → FileFault → Type 0
MatchFault file read write BadHeader = file BadHeader
MatchFault file read write Truncated = file Truncated
MatchFault file read write TooLong = file TooLong
MatchFault file read write SpareNotZero = file SpareNotZero
MatchFault file read write ReadFailed = read
MatchFault file read write WriteFailed = write
MatchFault file read write BadDirection = file BadDirection
MatchFault file read write Mixed = file Mixed

-- whether a fault is a failed read, or a failed write
abbrev pub is_read : FileFault → Bool
is_read BadHeader = false
is_read Truncated = false
is_read TooLong = false
is_read SpareNotZero = false
is_read ReadFailed = true
is_read WriteFailed = false
is_read BadDirection = false
is_read Mixed = false

abbrev pub is_write : FileFault → Bool
is_write BadHeader = false
is_write Truncated = false
is_write TooLong = false
is_write SpareNotZero = false
is_write ReadFailed = false
is_write WriteFailed = true
is_write BadDirection = false
is_write Mixed = false

-- whether a result is a failed read, or a failed write
abbrev pub is_read_failed : {X : Type 0} → Result X FileFault → Bool
is_read_failed (Ok x) = false
is_read_failed (Err fault) = is_read fault

abbrev pub is_write_failed : {X : Type 0} → Result X FileFault → Bool
is_write_failed (Ok x) = false
is_write_failed (Err fault) = is_write fault
