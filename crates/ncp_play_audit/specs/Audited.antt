-- The output of `audit` for a message file of version 2: for each record, in order, the lines of its
-- findings. The state before the file is a parameter; usually nothing was observed before.
use Rattle.std.specs.Prelude.{◌≡◌, ℕ, ◌&&◌, ◌||◌, not, Bool, true, false, List, [], ◌∷◌, ◌++◌, drop, Option, Some, None, is_some, option_map, Result, Ok, Err, if◌then◌else◌}
use Rattle.std.specs.List.{flat_map, list_any}
use Rattle.ncp_play_files.specs.declared.file.FileFault.{FileFault}
use Rattle.ncp_play_files.specs.declared.file.FileFault.TheVariants.{BadHeader}
use Rattle.ncp_play_files.specs.declared.file.Direction.{Direction}
use Rattle.ncp_play_files.specs.declared.file.Direction.TheVariants as goes
use Rattle.ncp_play_files.specs.declared.version.Version.{Version}
use Rattle.ncp_play_files.specs.declared.version.Version.TheVariants.{One, Two}
use Rattle.ncp_play_files.specs.declared.pass.FileEnd.{FileEnd}
use Rattle.ncp_play_files.specs.declared.pass.FileEnd.TheVariants.{Whole, AtFault, CutOff}
use Rattle.ncp_play_files.specs.Passes.{PassRules, names_hosts}
use Rattle.ncp_play_files.specs.File.{version_of, HoldsBy, IsCut}
use Rattle.ncp_play_files.specs.Versions.{Recorded, next_in}
use Rattle.ncp_play_buffer.specs.Lines.{number_after}
use Rattle.ncp_monitor.specs.declared.finding.Finding.{Finding}
use Rattle.ncp_monitor.specs.declared.monitor.Monitor.{Monitor}
use Rattle.ncp_interface.specs.declared.imp_direction.ImpDirection.{ImpDirection}
use Rattle.ncp_interface.specs.declared.imp_direction.ImpDirection.TheVariants.{ToImp, FromImp}
use Rattle.ncp_monitor.specs.declared.coverage.PairCoverage.{PairCoverage}
use Rattle.ncp_interface.specs.Events.{event_of}
use Rattle.ncp_monitor.specs.Resets.{judged_findings, after_judged}
use Rattle.ncp_monitor.specs.Coverage.{new_coverage, after_noted}
use Rattle.ncp_play_audit.specs.declared.auditing.Auditing.{Auditing}
use Rattle.ncp_play_audit.specs.FindingLines.{is_told, reported_line}
use Rattle.ncp_play_audit.specs.CoverageLines.{coverage_lines, is_all_judged}

-- the host at whose interface a record was made; each record of version 2 names one
abbrev pub host_of : Option ℕ → ℕ
host_of None = 0
host_of (Some host) = host

-- the direction of a record
abbrev pub way_of : Direction → ImpDirection
way_of goes.ToImp = ToImp
way_of goes.FromImp = FromImp

-- the findings of a record, and the monitor after it
abbrev pub findings_of : Monitor → Recorded → List Finding
findings_of monitor seen = judged_findings monitor (way_of seen.capture_point.direction) (host_of seen.capture_point.at) seen.message

abbrev pub monitor_after : Monitor → Recorded → Monitor
monitor_after monitor seen = after_judged monitor (way_of seen.capture_point.direction) (host_of seen.capture_point.at) seen.message

-- the lines of a record with this number
abbrev pub finding_lines : Bool → Monitor → ℕ → Recorded → List ℕ
finding_lines standard monitor number seen = flat_map (reported_line standard number (host_of seen.capture_point.at)) (findings_of monitor seen)

-- the lines of records from this number on
abbrev pub audit_lines : Bool → Monitor → ℕ → List Recorded → List ℕ
audit_lines standard monitor number [] = []
audit_lines standard monitor number (seen ∷ more) =
    finding_lines standard monitor number seen ++ audit_lines standard (monitor_after monitor seen) (number_after number) more

-- no finding of a record is reported
abbrev pub is_clean_record : Bool → Monitor → Recorded → Bool
is_clean_record standard monitor seen = not (list_any (is_told standard) (findings_of monitor seen))

-- no finding of any record is reported
abbrev pub is_clean : Bool → Monitor → List Recorded → Bool
is_clean standard monitor [] = true
is_clean standard monitor (seen ∷ more) = is_clean_record standard monitor seen && is_clean standard (monitor_after monitor seen) more

-- by the version of a file: the lines of its records before its first fault, and that fault, if there is
-- one; a file of version 1 names no host, so its header is a bad one
abbrev pub AuditedIn : Bool → Monitor → List ℕ → List ℕ → Option FileFault → Option Version → Type 0
AuditedIn standard monitor bytes text fault None = (text ≡ []) × (fault ≡ Some BadHeader)
AuditedIn standard monitor bytes text fault (Some (One direction)) = (text ≡ []) × (fault ≡ Some BadHeader)
AuditedIn standard monitor bytes text fault (Some Two) =
    (records : List Recorded) × HoldsBy (next_in Two) (drop 4 bytes) records fault × (text ≡ audit_lines standard monitor 1 records)

abbrev pub AuditedAs : Bool → Monitor → List ℕ → List ℕ → Option FileFault → Type 0
AuditedAs standard monitor bytes text fault = AuditedIn standard monitor bytes text fault (version_of bytes)

-- the lines of the complete records in the bytes read before a failed read
abbrev pub AuditedCut : Bool → Monitor → List ℕ → List ℕ → Type 0
AuditedCut standard monitor given text = (fault : Option FileFault) × IsCut given fault × AuditedAs standard monitor given text fault

-- the result is whether no finding of the file is reported
abbrev pub HasVerdict : Bool → Monitor → List ℕ → Bool → Type 0
HasVerdict standard monitor bytes good =
    (records : List Recorded) × (version_of bytes ≡ Some Two) × HoldsBy (next_in Two) (drop 4 bytes) records None × (good ≡ is_clean standard monitor records)

-- ---- with coverage

-- what was noted of each two hosts, if coverage is asked for
abbrev pub Noted : Type 0
Noted = Option (List PairCoverage)

-- before any record
abbrev pub noted_first : Bool → Noted
noted_first coverage = if coverage then Some new_coverage else None

-- after a record, whose findings left this monitor
abbrev pub noted_after : Monitor → Noted → Recorded → Noted
noted_after after noted seen =
    let at = host_of seen.capture_point.at in option_map (after_noted after at (event_of (way_of seen.capture_point.direction) at seen.message)) noted

-- the monitor after records, and what was noted of them
abbrev pub monitor_after_all : Monitor → List Recorded → Monitor
monitor_after_all monitor [] = monitor
monitor_after_all monitor (seen ∷ more) = monitor_after_all (monitor_after monitor seen) more

abbrev pub noted_after_all : Monitor → Noted → List Recorded → Noted
noted_after_all monitor noted [] = noted
noted_after_all monitor noted (seen ∷ more) = noted_after_all (monitor_after monitor seen) (noted_after (monitor_after monitor seen) noted seen) more

-- the lines of coverage, if it is asked for
abbrev pub noted_lines : Monitor → Noted → List ℕ
noted_lines monitor None = []
noted_lines monitor (Some pairs) = coverage_lines monitor pairs

-- as `AuditedIn`, and then the lines of coverage
abbrev pub CoveredIn : Bool → Monitor → Noted → List ℕ → List ℕ → Option FileFault → Option Version → Type 0
CoveredIn standard monitor noted bytes text fault None = (text ≡ noted_lines monitor noted) × (fault ≡ Some BadHeader)
CoveredIn standard monitor noted bytes text fault (Some (One direction)) = (text ≡ noted_lines monitor noted) × (fault ≡ Some BadHeader)
CoveredIn standard monitor noted bytes text fault (Some Two) =
    (records : List Recorded) × HoldsBy (next_in Two) (drop 4 bytes) records fault
    × (text ≡ audit_lines standard monitor 1 records ++ noted_lines (monitor_after_all monitor records) (noted_after_all monitor noted records))

-- the lines of an audit, with coverage or without
abbrev pub ReportedAs : Bool → Monitor → Noted → List ℕ → List ℕ → Option FileFault → Type 0
ReportedAs standard monitor None bytes text fault = AuditedAs standard monitor bytes text fault
ReportedAs standard monitor (Some pairs) bytes text fault = CoveredIn standard monitor (Some pairs) bytes text fault (version_of bytes)

-- whether all was judged, if that is asked for
abbrev pub is_noted_judged : Monitor → Noted → Bool
is_noted_judged monitor None = true
is_noted_judged monitor (Some pairs) = is_all_judged monitor pairs

-- the result of a strict audit is whether no finding of the file is reported, and all of it was judged
abbrev pub HasStrictVerdict : Bool → Monitor → Noted → List ℕ → Bool → Type 0
HasStrictVerdict standard monitor noted bytes good =
    (records : List Recorded) × (version_of bytes ≡ Some Two) × HoldsBy (next_in Two) (drop 4 bytes) records None
    × (good ≡ (is_clean standard monitor records && is_noted_judged (monitor_after_all monitor records) (noted_after_all monitor noted records)))

abbrev pub HasReportVerdict : Bool → Bool → Monitor → Noted → List ℕ → Bool → Type 0
HasReportVerdict false standard monitor noted bytes good = HasVerdict standard monitor bytes good
HasReportVerdict true standard monitor noted bytes good = HasStrictVerdict standard monitor noted bytes good

-- a result without its value
abbrev pub done_of : {X : Type 0} → Result X FileFault → Result Unit FileFault
done_of (Ok x) = Ok tt
done_of (Err fault) = Err fault

-- the number of writes beyond one for each piece and each read: the lines of coverage may be the only
-- ones after the out buffer was written
abbrev pub short_writes : Noted → ℕ
short_writes None = 2
short_writes (Some pairs) = 3

-- ---- as a pass

-- the state of an audit: what is asked for, whether no finding was reported so far, and what is known
pub record AuditState : Type 0 where
  pub standard : Bool
  pub strict : Bool
  pub clean : Bool
  pub monitor : Monitor
  pub noted : Noted

-- the lines of coverage, unless a read failed
abbrev pub closing_lines : FileEnd → Monitor → Noted → List ℕ
closing_lines Whole monitor noted = noted_lines monitor noted
closing_lines AtFault monitor noted = noted_lines monitor noted
closing_lines CutOff monitor noted = []

abbrev pub audit_pass : PassRules Auditing
audit_pass = record {
  State = AuditState;
  state = λ pass. record { standard = pass.standard; strict = pass.auditor.now.strict; clean = pass.clean; monitor = pass.auditor.now.monitor; noted = pass.auditor.now.noted };
  reads = names_hosts;
  lines = λ number state seen. finding_lines state.standard state.monitor number seen;
  after = λ number state seen. record {
    standard = state.standard;
    strict = state.strict;
    clean = state.clean && is_clean_record state.standard state.monitor seen;
    monitor = monitor_after state.monitor seen;
    noted = noted_after (monitor_after state.monitor seen) state.noted seen;
  };
  closing = λ state end. closing_lines end state.monitor state.noted;
  good = λ state. state.clean && (not state.strict || is_noted_judged state.monitor state.noted);
  closes = λ state. is_some state.noted;
  is_prompt = true;
}
