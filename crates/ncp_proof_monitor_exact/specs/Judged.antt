-- What an audit does not judge of a whole capture in which it finds nothing, and in which no IMP reset its
-- interface or refused a message.
use Rattle.std.specs.Prelude.{◌≡◌, ◌<◌, ℕ, Bool, true, false, List, [], ◌∷◌, Option, Some, None}
use Rattle.std.specs.List.{list_all}
use Rattle.ncp_monitor.specs.declared.coverage.Unjudged.{Unjudged}
use Rattle.ncp_monitor.specs.declared.coverage.Unjudged.TheVariants.{Messages, Connections, Late, Crowded, Suspended, Restarted, Connection, Part, Alone}
use Rattle.ncp_monitor.specs.declared.monitor.Monitor.{Monitor}
use Rattle.ncp_monitor.specs.Judged.{new_monitor, has_seen}
use Rattle.ncp_monitor.specs.Coverage.{CaptureRecord, monitor_past, new_coverage, coverage_of, is_late, unjudged_in}
use Rattle.ncp_proof_monitor_messages.specs.ManyFiles.{AllFit}
use Rattle.ncp_proof_interface_resets.specs.ResetRuns.{has_no_notice, judged_in}

-- the monitor after all records
abbrev pub monitor_past_all : Monitor → List CaptureRecord → Monitor
monitor_past_all monitor [] = monitor
monitor_past_all monitor (one ∷ more) = monitor_past_all (monitor_past monitor one) more

-- the monitor at the end of a whole capture
abbrev pub monitor_at_end : List CaptureRecord → Monitor
monitor_at_end file = monitor_past_all (new_monitor false) file

-- the reason that `--coverage` gives for two hosts at the interface of the first; `None` if all was judged
abbrev pub reason_for : List CaptureRecord → ℕ → ℕ → Option Unjudged
reason_for file at peer = unjudged_in (monitor_at_end file) (coverage_of (new_monitor false) new_coverage file) at peer

-- its records fit a file, no IMP reset its interface or refused a message, and the audit found nothing
abbrev pub IsCleanWithoutNotices : List CaptureRecord → Type 0
IsCleanWithoutNotices file = AllFit file × (list_all has_no_notice file ≡ true) × (judged_in (new_monitor false) file ≡ [])

-- the audit lacked room, or the capture records
abbrev pub is_lack : Unjudged → Bool
is_lack Messages = true
is_lack Connections = true
is_lack Late = true
is_lack Alone = true
is_lack Crowded = false
is_lack Suspended = false
is_lack Restarted = false
is_lack Connection = false
is_lack Part = false

-- Of such a capture no other reason is given: unless room or records were lacking, each phase was judged,
-- each link, each connection, and the echoes.
abbrev pub OnlyLacks : Type 0
OnlyLacks = (file : List CaptureRecord) (at peer : ℕ) (why : Unjudged) → IsCleanWithoutNotices file → at < 256 → peer < 256 → reason_for file at peer ≡ Some why → is_lack why ≡ true

-- If there was room, and a record at the peer's interface before each message that depends on one, no reason
-- is given.
abbrev pub AllIsJudged : Type 0
AllIsJudged =
    (file : List CaptureRecord) (at peer : ℕ)
    → IsCleanWithoutNotices file → at < 256 → peer < 256
    → (monitor_at_end file).full ≡ false → (monitor_at_end file).conn_tables.full ≡ false
    → has_seen (monitor_at_end file) peer ≡ true → is_late at peer file ≡ false
    → reason_for file at peer ≡ None
