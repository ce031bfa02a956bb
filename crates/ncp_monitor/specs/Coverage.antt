-- What was not judged of the messages between two hosts at the interface of one of them, and why.
use Rattle.std.specs.Prelude.{ℕ, ◌==◌, not, ◌&&◌, ◌||◌, Bool, true, false, List, [], ◌∷◌, get_or, slice_set, replicate, Option, Some, None, if◌then◌else◌}
use Rattle.std.specs.List.{list_any}
use Rattle.ncp_monitor.specs.declared.conn_state.ConnState.{ConnState}
use Rattle.ncp_monitor.specs.declared.conn_state.Fact.{Fact}
use Rattle.ncp_monitor.specs.declared.conn_state.FactKind.{FactKind}
use Rattle.ncp_monitor.specs.declared.conn_state.FactKind.TheVariants as fact_kind
use Rattle.ncp_monitor.specs.declared.coverage.PairCoverage.{PairCoverage}
use Rattle.ncp_monitor.specs.declared.coverage.Unjudged.{Unjudged}
use Rattle.ncp_monitor.specs.declared.coverage.Unjudged.TheVariants.{Messages, Connections, Late, Crowded, Suspended, Restarted, Connection, Part, Alone}
use Rattle.ncp_interface.specs.declared.event.InterfaceEvent.{InterfaceEvent}
use Rattle.ncp_interface.specs.declared.event.InterfaceEvent.TheVariants as event
use Rattle.ncp_interface.specs.declared.imp_direction.ImpDirection.{ImpDirection}
use Rattle.ncp_monitor.specs.declared.monitor.Monitor.{Monitor}
use Rattle.ncp_monitor.specs.declared.views.TheConstants.{VIEWS}
use Rattle.ncp_monitor.specs.Tables.{index_of, view_in}
use Rattle.ncp_monitor.specs.ConnStates.{SeenTables, is_conn_between, is_fact_between}
use Rattle.ncp_monitor.specs.Judged.{has_seen, is_crowded}
use Rattle.ncp_interface.specs.Events.{event_of}
use Rattle.ncp_monitor.specs.Resets.{is_clear, is_certain_pair, after_judged}

-- ---- what is suspended between two hosts at the interface of the first

abbrev pub is_session_suspended : Monitor → ℕ → ℕ → Bool
is_session_suspended monitor at peer = (view_in monitor.views at peer).suspended

-- a fact after which nothing is judged of a link, or of the echoes of one of the two
abbrev pub is_of_suspension : FactKind → Bool
is_of_suspension (fact_kind.LinkSuspended host link) = true
is_of_suspension (fact_kind.EchoesRest host) = true
is_of_suspension (fact_kind.Asks host) = false
is_of_suspension (fact_kind.Admits host bytes) = false

abbrev pub is_suspended_conn : ℕ → ℕ → ConnState → Bool
is_suspended_conn at peer conn = is_conn_between at peer conn && conn.suspended

abbrev pub is_suspension : ℕ → ℕ → Fact → Bool
is_suspension at peer one = is_fact_between at peer one && is_of_suspension one.fact_kind

-- a connection, a link, or the echoes
abbrev pub has_suspended : ℕ → ℕ → SeenTables → Bool
has_suspended at peer conn_tables = list_any (is_suspended_conn at peer) conn_tables.conns || list_any (is_suspension at peer) conn_tables.known_facts

-- ---- what passes between two hosts

-- the event is of a message between the host and this peer
abbrev pub is_about : ℕ → InterfaceEvent → Bool
is_about peer (event.Out other link) = other == peer
is_about peer (event.In other link) = other == peer
is_about peer (event.Answer kind other link) = other == peer
is_about peer event.Short = false
is_about peer event.Nothing = false
is_about peer (event.Own kind link) = false
is_about peer (event.Other kind) = false

-- it shows what the peer's interface had to show before: that a message of the peer was sent, or that one
-- to it arrived (type 5: an RFNM)
abbrev pub depends_on : ℕ → InterfaceEvent → Bool
depends_on peer (event.In other link) = other == peer
depends_on peer (event.Answer kind other link) = other == peer && kind == 5
depends_on peer (event.Out other link) = false
depends_on peer event.Short = false
depends_on peer event.Nothing = false
depends_on peer (event.Own kind link) = false
depends_on peer (event.Other kind) = false

-- ---- noted, record by record

-- no message of the two passed
abbrev pub nothing_passed : PairCoverage
nothing_passed = record { passed = false; late = false; suspended = false; connection = false }

abbrev pub new_coverage : List PairCoverage
new_coverage = replicate VIEWS nothing_passed

abbrev pub pair_in : List PairCoverage → ℕ → ℕ → PairCoverage
pair_in pairs at peer = get_or pairs (index_of at peer) nothing_passed

-- a message of the two passed, and this is the monitor after it
abbrev pub pair_noted : Monitor → ℕ → ℕ → Bool → PairCoverage → PairCoverage
pair_noted monitor at peer depends pair = record {
  passed = true;
  late = pair.late || (depends && not (has_seen monitor peer));
  suspended = pair.suspended || is_session_suspended monitor at peer;
  connection = pair.connection || has_suspended at peer monitor.conn_tables;
}

abbrev pub with_pair_noted : Monitor → ℕ → ℕ → Bool → List PairCoverage → List PairCoverage
with_pair_noted monitor at peer depends pairs = slice_set pairs (index_of at peer) (pair_noted monitor at peer depends (pair_in pairs at peer))

abbrev pub after_noted : Monitor → ℕ → InterfaceEvent → List PairCoverage → List PairCoverage
after_noted monitor at (event.Out peer link) pairs = with_pair_noted monitor at peer false pairs
after_noted monitor at (event.In peer link) pairs = with_pair_noted monitor at peer true pairs
after_noted monitor at (event.Answer kind peer link) pairs = with_pair_noted monitor at peer (kind == 5) pairs
after_noted monitor at event.Short pairs = pairs
after_noted monitor at event.Nothing pairs = pairs
after_noted monitor at (event.Own kind link) pairs = pairs
after_noted monitor at (event.Other kind) pairs = pairs

-- ---- by the records of a capture

-- a record: the host at whose interface it was made, its direction, and its bits
abbrev pub CaptureRecord : Type 0
CaptureRecord = ℕ × ImpDirection × List Bool

abbrev pub event_in : CaptureRecord → InterfaceEvent
event_in one = event_of one.1 one.0 one.2

abbrev pub monitor_past : Monitor → CaptureRecord → Monitor
monitor_past monitor one = after_judged monitor one.1 one.0 one.2

abbrev pub coverage_of : Monitor → List PairCoverage → List CaptureRecord → List PairCoverage
coverage_of monitor pairs [] = pairs
coverage_of monitor pairs (one ∷ more) = let after = monitor_past monitor one in coverage_of after (after_noted after one.0 (event_in one) pairs) more

-- a message between the two passes the interface of the first
abbrev pub passes : ℕ → ℕ → CaptureRecord → Bool
passes at peer one = one.0 == at && is_about peer (event_in one)

-- before the first record at the peer's interface, one passes that depends on what passed there
abbrev pub is_late : ℕ → ℕ → List CaptureRecord → Bool
is_late at peer [] = false
is_late at peer (one ∷ more) = if one.0 == peer then false else (one.0 == at && depends_on peer (event_in one)) || is_late at peer more

-- it holds after one of the records that pass between the two
abbrev pub holds_once : (Monitor → Bool) → ℕ → ℕ → Monitor → List CaptureRecord → Bool
holds_once holds at peer monitor [] = false
holds_once holds at peer monitor (one ∷ more) =
    let after = monitor_past monitor one in (passes at peer one && holds after) || holds_once holds at peer after more

abbrev pub pair_by_records : ℕ → ℕ → Monitor → List CaptureRecord → PairCoverage
pair_by_records at peer monitor file = record {
  passed = list_any (passes at peer) file;
  late = is_late at peer file;
  suspended = holds_once (λ after. is_session_suspended after at peer) at peer monitor file;
  connection = holds_once (λ after. has_suspended at peer after.conn_tables) at peer monitor file;
}

-- ---- why something was not judged

-- after a reset of an interface
abbrev pub is_restarted : Monitor → ℕ → ℕ → Bool
is_restarted monitor at peer = not (is_clear monitor at) || not (is_certain_pair monitor at peer)

-- The first reason, of what passed between two hosts at the interface of the first. That the capture
-- begins in the middle, or lacks the peer's interface, is known to whoever gives it, so these come last.
abbrev pub unjudged : Monitor → PairCoverage → ℕ → ℕ → Option Unjudged
unjudged monitor pair at peer =
    if monitor.full then Some Messages
    else if monitor.conn_tables.full then Some Connections
    else if pair.late && has_seen monitor peer then Some Late
    else if is_crowded monitor at peer || is_crowded monitor peer at then Some Crowded
    else if pair.suspended then Some Suspended
    else if is_restarted monitor at peer then Some Restarted
    else if pair.connection then Some Connection
    else if monitor.part then Some Part
    else if not (has_seen monitor peer) then Some Alone
    else None

-- if a message of the two passed
abbrev pub unjudged_in : Monitor → List PairCoverage → ℕ → ℕ → Option Unjudged
unjudged_in monitor pairs at peer =
    let pair = pair_in pairs at peer in if pair.passed then unjudged monitor pair at peer else None

-- a capture of one interface alone shows no more
abbrev pub is_excused : Option Unjudged → Bool
is_excused None = true
is_excused (Some Alone) = true
is_excused (Some Messages) = false
is_excused (Some Connections) = false
is_excused (Some Late) = false
is_excused (Some Crowded) = false
is_excused (Some Suspended) = false
is_excused (Some Restarted) = false
is_excused (Some Connection) = false
is_excused (Some Part) = false

-- ---- examples, of the hosts 0 and 1

-- a message passed, and all was judged
abbrev pub all_judged : PairCoverage
all_judged = record nothing_passed { passed = true }
