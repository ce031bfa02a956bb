-- The effect of each order: what its subcommand guarantees about the bytes to read and the bytes written,
-- by its answer (this profile).
use Rattle.std.specs.Prelude.{◌≡◌, ◌⊎◌, ℕ, Bool, true, false, ◌||◌, List, Option, Some, None, Result, Ok, Err, IfOk}
use Rattle.ncp_play_command_line.specs.declared.orders.Order.{Order}
use Rattle.ncp_play_command_line.specs.declared.report.Report.{Report}
use Rattle.ncp_play_command_line.specs.declared.report.Report.TheVariants.{Findings, Coverage, Strict}
use Rattle.ncp_play_command_line.specs.declared.orders.Order.TheVariants.{Show, Check, Count, Convert, Audit, Follow, Host, World, Record, Explain}
use Rattle.ncp_play_files.specs.declared.file.FileFault.{FileFault}
use Rattle.ncp_play_files.specs.Results as files
use Rattle.ncp_play_files.specs.Shown.{Shown}
use Rattle.ncp_play_files.specs.Checked.{Checked}
use Rattle.ncp_play_files.specs.Counted.{Counted}
use Rattle.ncp_play_files.specs.Converted.{Converted}
use Rattle.ncp_play_files.specs.Writing.{Writes}
use Rattle.ncp_monitor.specs.Judged.{new_monitor}
use Rattle.ncp_play_audit.specs.Audited.{noted_first, AuditedCut, ReportedAs, HasReportVerdict, done_of}
use Rattle.ncp_follow.specs.Followed.{new_follower}
use Rattle.ncp_play_follow.specs.FollowedFiles.{Follows}
use Rattle.ncp_play_follow.specs.FollowedTexts.{FollowsText}
use Rattle.ncp_play_notes.specs.declared.fault.PlayFault.{PlayFault}
use Rattle.ncp_play_notes.specs.declared.fault.PlayFault.TheVariants.{Feed, OutOfMemory}
use Rattle.ncp_play_notes.specs.Faults.{play_read_failed, play_write_failed}
use Rattle.ncp_play_host.specs.Played.{HostPlayed}
use Rattle.ncp_play_world.specs.ManyRules.{is_many_script}
use Rattle.ncp_play_world.specs.Players.{PlaysWorld, PlaysMany}
use Rattle.ncp_play_world.specs.Renderings.{lines_of_script, lines_of_many, recording_of, recording_of_many}

-- the streams of the program: the bytes left to read and the bytes written, if known, and whether a read
-- or a write has failed
pub record Streams : Type 0 where
  pub left : Option (List ℕ)
  pub read_failed : Bool
  pub written : Option (List ℕ)
  pub write_failed : Bool

abbrev pub streams_of : Option (List ℕ) → Bool → Option (List ℕ) → Bool → Streams
streams_of left read_failed written write_failed = record { left = left; read_failed = read_failed; written = written; write_failed = write_failed }

-- for known bytes: all that are left to read, and all that were written before
abbrev pub OfBytes : Streams → (List ℕ → List ℕ → Type 0) → Type 0
OfBytes before P = (bytes : List ℕ) (was : List ℕ) → before.left ≡ Some bytes → before.written ≡ Some was → P bytes was

-- a failed read or write is reported only if it happened, and a failure is never hidden
abbrev pub Blames : Bool → Bool → Streams → Type 0
Blames read write now = record {
  read_failed : read ≡ true → now.read_failed ≡ true;
  write_failed : now.write_failed ≡ write;
  blamed : now.read_failed ≡ true → (read || write) ≡ true;
}

-- the program's answer after a subcommand on message files: good, or the fault
abbrev pub of_file : Result Unit FileFault → Result Bool PlayFault
of_file (Ok done) = Ok true
of_file (Err fault) = Err (Feed fault)

-- the answer of a check
abbrev pub of_check : Result Bool FileFault → Result Bool PlayFault
of_check (Ok sound) = Ok sound
of_check (Err fault) = Err (Feed fault)

-- whether an audit reports what was not judged, and whether that counts
abbrev pub covers : Report → Bool
covers Findings = false
covers Coverage = true
covers Strict = true

abbrev pub is_strict : Report → Bool
is_strict Findings = false
is_strict Coverage = false
is_strict Strict = true

module _ (before : Streams) (answer : Result Bool PlayFault) (now : Streams) where
  -- a subcommand on message files gave this answer, and satisfies its contract for it
  abbrev pub DoesFile : (Result Unit FileFault → List ℕ → List ℕ → Type 0) → Type 0
  DoesFile P =
      (done : Result Unit FileFault) × (answer ≡ of_file done) × Blames (files.is_read_failed done) (files.is_write_failed done) now × OfBytes before (λ bytes was. P done bytes was)

  abbrev pub DoesCheck : Type 0
  DoesCheck =
      (checked : Result Bool FileFault) × (answer ≡ of_check checked) × Blames (files.is_read_failed checked) (files.is_write_failed checked) now
      × OfBytes before (λ bytes was. Checked bytes was now.left now.written checked)

  -- the lines of the findings were written, and those of coverage if it is asked for. The answer is
  -- whether there are no findings, and, if asked to be strict, all was judged
  abbrev pub DoesAudit : Bool → Bool → Report → Type 0
  DoesAudit part standard report =
      (audited : Result Bool FileFault) × (answer ≡ of_check audited) × Blames (files.is_read_failed audited) (files.is_write_failed audited) now
      × OfBytes before (λ bytes was.
      Writes (ReportedAs standard (new_monitor part) (noted_first (covers report))) (AuditedCut standard (new_monitor part)) bytes was now.left now.written (done_of audited)
      × IfOk audited (HasReportVerdict (is_strict report) standard (new_monitor part) (noted_first (covers report)) bytes))

  -- allocation for the state of the hosts failed, and nothing was read or written
  abbrev pub HasNoMemory : Type 0
  HasNoMemory = (answer ≡ Err OutOfMemory) × (now ≡ before)

  -- the lines of the connections were written, with letters or without
  abbrev pub DoesFollow : Bool → Bool → Type 0
  DoesFollow part letters = HasNoMemory ⊎ DoesFile (λ done bytes was. Follows letters (new_follower part) bytes was now.left now.written done)

  -- the text of a connection was written, and the answer is whether there is such a connection
  abbrev pub DoesText : Bool → ℕ → Type 0
  DoesText part wanted =
      HasNoMemory ⊎ (said : Result Bool FileFault) × (answer ≡ of_check said) × Blames (files.is_read_failed said) (files.is_write_failed said) now
      × OfBytes before (λ bytes was. FollowsText wanted (new_follower part) bytes was now.left now.written said)

  -- the lines of all connections, or the text of one
  abbrev pub DoesTrace : Bool → Bool → Option ℕ → Type 0
  DoesTrace part letters None = DoesFollow part letters
  DoesTrace part letters (Some wanted) = DoesText part wanted

  -- a player satisfies its contract for this answer
  abbrev pub Plays : (List ℕ → List ℕ → Type 0) → Type 0
  Plays P = Blames (play_read_failed answer) (play_write_failed answer) now × OfBytes before P

  -- nothing was read, and a failed write is reported exactly if it happened
  abbrev pub DoesExplain : Type 0
  DoesExplain = Blames false (play_write_failed answer) now × (now.left ≡ before.left) × (now.read_failed ≡ before.read_failed)

  -- the effect of an order, by the answer
  abbrev pub Does : Order → Type 0
  Does Show = DoesFile (λ done bytes was. Shown bytes was now.left now.written done)
  Does Check = DoesCheck
  Does Count = DoesFile (λ done bytes was. Counted bytes was now.left now.written done)
  Does (Convert at) = DoesFile (λ done bytes was. Converted at bytes was now.left now.written done)
  Does (Audit part standard report) = HasNoMemory ⊎ DoesAudit part standard report
  Does (Follow part letters bytes raw) = DoesTrace part letters bytes
  Does Host = Plays (λ bytes was. HostPlayed bytes was answer now.left now.written)
  Does World = Plays (λ bytes was. (is_many_script bytes ≡ false → PlaysWorld lines_of_script bytes was answer now.left now.written)
      × (is_many_script bytes ≡ true → PlaysMany lines_of_many bytes was answer now.left now.written))
  Does Record = Plays (λ bytes was. (is_many_script bytes ≡ false → PlaysWorld recording_of bytes was answer now.left now.written)
      × (is_many_script bytes ≡ true → PlaysMany recording_of_many bytes was answer now.left now.written))
  Does Explain = DoesExplain
