-- What an audit notes of each two hosts, record by record, is what the records say of them.
use Rattle.std.specs.Prelude.{◌≡◌, ◌<◌, ℕ, Bool, List, [], ◌∷◌}
use Rattle.ncp_monitor.specs.Judged.{new_monitor}
use Rattle.ncp_monitor.specs.Coverage.{CaptureRecord, pair_in, new_coverage, coverage_of, pair_by_records}

-- each record is of a host with a number of one byte
abbrev pub AtHosts : List CaptureRecord → Type 0
AtHosts [] = Unit {0}
AtHosts (one ∷ more) = (one.0 < 256) × AtHosts more

-- In any capture, whole or in part, what was noted of two hosts at the end is what the records say of these
-- two.
abbrev pub NotedByRecords : Type 0
NotedByRecords =
    (part : Bool) (file : List CaptureRecord) (at peer : ℕ) → AtHosts file → at < 256 → peer < 256
    → pair_in (coverage_of (new_monitor part) new_coverage file) at peer ≡ pair_by_records at peer (new_monitor part) file
