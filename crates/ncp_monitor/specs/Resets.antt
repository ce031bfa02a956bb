-- What an interface reset leaves in doubt (BBN 1822: type 10, Interface Reset; type 8, Error in Data).
--
-- An IMP that is reset forgets the messages of its host that it has not answered. The host may send each
-- of them again; so may its peers theirs, of which it got a part. So of a message that was outstanding at
-- the reset the wire shows neither whether it arrived nor how often. Each host is still judged at its own
-- interface, as if an Incomplete Transmission had come just before the message is sent again. What the
-- other says of the pair is not: it may answer a message that it got twice.
--
-- Of a message of type 8 only the first is true, and only of one message: the IMP did not take it.
use Rattle.std.specs.Prelude.{ℕ, ◌==◌, not, ◌&&◌, ◌||◌, Bool, true, false, List, map, filter, get_or, slice_set, Option, Some, None, if◌then◌else◌}
use Rattle.std.specs.List.{fold, range_with_len}
use Rattle.ncp_interface.specs.declared.imp_direction.ImpDirection.{ImpDirection}
use Rattle.ncp_interface.specs.declared.event.InterfaceEvent.{InterfaceEvent}
use Rattle.ncp_interface.specs.declared.event.InterfaceEvent.TheVariants as event
use Rattle.ncp_monitor.specs.declared.resets.Trust.{Trust}
use Rattle.ncp_interface.specs.declared.notice.ImpNotice.{ImpNotice}
use Rattle.ncp_interface.specs.declared.notice.ImpNotice.TheVariants as notice
use Rattle.ncp_monitor.specs.declared.finding.Finding.{Finding}
use Rattle.ncp_monitor.specs.declared.finding.Rule.{Rule}
use Rattle.ncp_monitor.specs.declared.finding.Rule.TheVariants as rule
use Rattle.ncp_monitor.specs.declared.finding.Who.{Who}
use Rattle.ncp_monitor.specs.declared.finding.Who.TheVariants.{Host, Imp}
use Rattle.ncp_interface.specs.declared.doubt.Doubt.{Doubt}
use Rattle.ncp_interface.specs.declared.sent_message.SentMessage.{SentMessage}
use Rattle.ncp_monitor.specs.declared.view.View.{View}
use Rattle.ncp_monitor.specs.declared.views.TheConstants.{HOSTS}
use Rattle.ncp_monitor.specs.declared.monitor.Monitor.{Monitor}
use Rattle.ncp_monitor.specs.Tables.{index_of, view_in}
use Rattle.ncp_interface.specs.Slots.{position_of, is_slot_out}
use Rattle.ncp_interface.specs.Events.{event_of}
use Rattle.ncp_monitor.specs.Judged.{slot_of_link, monitor_after_answer, record_findings, after_record}
use Rattle.ncp_interface.specs.Doubts.{awaits_repeat, may_arrive_again, doubt_left, doubt_of, with_doubt, after_reset_at, is_outstanding_at, refused_at}
use Rattle.ncp_interface.specs.Notices.{notice_of}

-- ---- a message in doubt

-- the doubt about the last message on a link
abbrev pub doubt_on : Monitor → ℕ → ℕ → ℕ → Doubt
doubt_on monitor from to link = doubt_of monitor.kept (position_of from to link monitor.kept)

abbrev pub doubting : Monitor → ℕ → ℕ → ℕ → Doubt → Monitor
doubting monitor from to link doubt = record monitor { kept = with_doubt monitor.kept (position_of from to link monitor.kept) doubt }

-- ---- the notices of an IMP

-- a pair of hosts is in doubt, either of them as the host
abbrev pub doubting_pair : ℕ → ℕ → List Bool → List Bool
doubting_pair one other pairs = slice_set (slice_set pairs (index_of one other) true) (index_of other one) true

abbrev pub is_in_doubt : List Bool → ℕ → ℕ → Bool
is_in_doubt pairs at peer = get_or pairs (index_of at peer) false

abbrev pub doubting_sender : ℕ → List Bool → SentMessage → List Bool
doubting_sender at pairs kept = if is_outstanding_at at kept then doubting_pair kept.from kept.to pairs else pairs

abbrev pub doubting_senders : ℕ → List SentMessage → List Bool → List Bool
doubting_senders at kept pairs = fold (doubting_sender at) pairs kept

-- and the host with each peer, if one of the two has begun
abbrev pub has_begun : View → Bool
has_begun view = view.host.began || view.peer.began

abbrev pub doubting_peer : ℕ → List View → List Bool → ℕ → List Bool
doubting_peer at views pairs peer = if has_begun (view_in views at peer) then doubting_pair at peer pairs else pairs

abbrev pub doubting_peers : ℕ → List View → List Bool → List Bool
doubting_peers at views pairs = fold (doubting_peer at views) pairs (range_with_len 0 HOSTS)

abbrev pub after_reset : Monitor → ℕ → Monitor
after_reset monitor at =
    record monitor {
      in_doubt = doubting_peers at monitor.views (doubting_senders at monitor.kept monitor.in_doubt);
      kept = map (after_reset_at at) monitor.kept;
    }

abbrev pub after_refused : Monitor → ℕ → ℕ → ℕ → Monitor
after_refused monitor at peer link = record monitor { kept = refused_at monitor.kept (position_of at peer link monitor.kept) }

abbrev pub after_notice : Monitor → ℕ → Option ImpNotice → Monitor
after_notice monitor at None = monitor
after_notice monitor at (Some notice.InterfaceReset) = after_reset monitor at
after_notice monitor at (Some (notice.MessageRefused peer link)) = after_refused monitor at peer link

-- ---- a record

-- a host that sends where a repeat is awaited: as if the message had just been reported as not delivered
abbrev pub before_out : Monitor → ℕ → ℕ → ℕ → Monitor
before_out monitor at peer link = if awaits_repeat (doubt_on monitor at peer link) then monitor_after_answer monitor 9 at peer link else monitor

abbrev pub before_event : Monitor → ℕ → InterfaceEvent → Monitor
before_event monitor at (event.Out peer link) = before_out monitor at peer link
before_event monitor at event.Short = monitor
before_event monitor at event.Nothing = monitor
before_event monitor at (event.Own kind link) = monitor
before_event monitor at (event.Other kind) = monitor
before_event monitor at (event.Answer kind peer link) = monitor
before_event monitor at (event.In peer link) = monitor

abbrev pub next_doubt : Monitor → ℕ → InterfaceEvent → Option Doubt
next_doubt monitor at (event.Out peer link) = if monitor.full then None else doubt_left (doubt_on monitor at peer link)
next_doubt monitor at event.Short = None
next_doubt monitor at event.Nothing = None
next_doubt monitor at (event.Own kind link) = None
next_doubt monitor at (event.Other kind) = None
next_doubt monitor at (event.Answer kind peer link) = None
next_doubt monitor at (event.In peer link) = None

abbrev pub with_next_doubt : Monitor → ℕ → InterfaceEvent → Option Doubt → Monitor
with_next_doubt monitor at (event.Out peer link) (Some doubt) = doubting monitor at peer link doubt
with_next_doubt monitor at happened doubt = monitor

-- a host that may have been about to send a message again gets the answer to it
abbrev pub becomes_unclear : Monitor → ℕ → InterfaceEvent → Bool
becomes_unclear monitor at (event.Answer kind peer link) = kind == 5 && awaits_repeat (doubt_on monitor at peer link) && is_slot_out (slot_of_link monitor at peer link)
becomes_unclear monitor at event.Short = false
becomes_unclear monitor at event.Nothing = false
becomes_unclear monitor at (event.Own kind link) = false
becomes_unclear monitor at (event.Other kind) = false
becomes_unclear monitor at (event.Out peer link) = false
becomes_unclear monitor at (event.In peer link) = false

abbrev pub with_unclear : Monitor → ℕ → Bool → Monitor
with_unclear monitor at unclear = if unclear then record monitor { unclear = slice_set monitor.unclear at true } else monitor

-- ---- what is reported

-- rules of the form of a message, which no earlier message can excuse
abbrev pub is_of_form : Rule → Bool
is_of_form (rule.Short bits) = true
is_of_form (rule.OwnHost kind link) = true
is_of_form (rule.Kind kind) = true
is_of_form (rule.Fault fault link) = true
is_of_form (rule.WrongLink link) = true
is_of_form (rule.WrongSize size) = true
is_of_form (rule.Extras flags low text rest) = true
is_of_form (rule.Bad fault) = true
is_of_form other = false

-- the host itself, unless it is unclear
abbrev pub is_clear : Monitor → ℕ → Bool
is_clear monitor at = not (get_or monitor.unclear at false)

-- the peer, unless the pair is in doubt
abbrev pub is_certain_pair : Monitor → ℕ → ℕ → Bool
is_certain_pair monitor at peer = not (is_in_doubt monitor.in_doubt at peer)

-- the IMP, unless the message that is answered, or that arrives, may arrive again
abbrev pub trust_of : Monitor → ℕ → InterfaceEvent → Trust
trust_of monitor at (event.Out peer link) = record { host = is_clear monitor at; peer = is_certain_pair monitor at peer; imp = true }
trust_of monitor at (event.Answer kind peer link) = record { host = is_clear monitor at; peer = is_certain_pair monitor at peer; imp = not (may_arrive_again (doubt_on monitor at peer link)) }
trust_of monitor at (event.In peer link) = record { host = is_clear monitor at; peer = is_certain_pair monitor at peer; imp = not (may_arrive_again (doubt_on monitor peer at link)) }
trust_of monitor at event.Short = record { host = is_clear monitor at; peer = true; imp = true }
trust_of monitor at event.Nothing = record { host = is_clear monitor at; peer = true; imp = true }
trust_of monitor at (event.Own kind link) = record { host = is_clear monitor at; peer = true; imp = true }
trust_of monitor at (event.Other kind) = record { host = is_clear monitor at; peer = true; imp = true }

-- the IMP, about what it delivered
abbrev pub reports_imp : Trust → Rule → Bool
reports_imp trust (rule.FalseAnswer kind peer link came) = trust.imp
reports_imp trust (rule.Unsent peer link why) = trust.imp
reports_imp trust other = true

abbrev pub reports_against : Trust → ℕ → Who → Rule → Bool
reports_against trust at (Host host) rule = if host == at then trust.host else is_of_form rule || trust.peer
reports_against trust at Imp rule = reports_imp trust rule

abbrev pub reports : Trust → ℕ → Finding → Bool
reports trust at finding = reports_against trust at finding.who finding.rule

-- ---- the findings of a record, and the monitor after it, with resets

abbrev pub judged_findings : Monitor → ImpDirection → ℕ → List Bool → List Finding
judged_findings monitor way at bits =
    let happened = event_of way at bits in filter (reports (trust_of monitor at happened) at) (record_findings (before_event monitor at happened) way at bits)

abbrev pub after_judged : Monitor → ImpDirection → ℕ → List Bool → Monitor
after_judged monitor way at bits =
    let happened = event_of way at bits in
    let after = after_record (before_event monitor at happened) way at bits in
    after_notice (with_unclear (with_next_doubt after at happened (next_doubt monitor at happened)) at (becomes_unclear monitor at happened)) at (notice_of way bits)
