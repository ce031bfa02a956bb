-- Which hosts are no longer judged, after a record.
use Rattle.std.proofs.Common.{◌≡◌, ℕ, zero, suc, ◌<◌, Bool, true, false, not, if◌then◌else◌, List, [], ◌∷◌, length, get_or, slice_set, Option, None, Some, Result, Ok, Err, refl, ap, ◌∙◌, length-set, arith}
use Rattle.ncp_leader.specs.declared.fault.MessageFault.{MessageFault}
use Rattle.ncp_leader.specs.Message.{Message, message_in}
use Rattle.ncp_interface.specs.declared.event.InterfaceEvent.{InterfaceEvent}
use Rattle.ncp_interface.specs.declared.event.InterfaceEvent.TheVariants as event
use Rattle.ncp_interface.specs.declared.imp_direction.ImpDirection.{ImpDirection}
use Rattle.ncp_monitor.specs.declared.monitor.Monitor.{Monitor}
use Rattle.ncp_monitor.specs.declared.phase.MessageContext.{MessageContext}
use Rattle.ncp_interface.specs.declared.notice.ImpNotice.{ImpNotice}
use Rattle.ncp_interface.specs.declared.notice.ImpNotice.TheVariants as notice
use Rattle.ncp_interface.specs.declared.doubt.Doubt.{Doubt}
use Rattle.ncp_monitor.specs.declared.views.TheConstants.{HOSTS}
use Rattle.ncp_interface.specs.Events.{event_of}
use Rattle.ncp_interface.specs.Slots.{position_of, gone_out, has_room, with_out, with_answer}
use Rattle.ncp_monitor.specs.Tables.{view_in, with_view}
use Rattle.ncp_monitor.specs.Judged.{sees, slot_of_link, same_of, view_after_out, fresh_out, monitor_after_out, monitor_after_answer, judges_coming, with_coming, after_in, turn_at, after_said, after_event, after_record}
use Rattle.ncp_monitor.specs.Resets.{doubt_on, before_event, next_doubt, with_next_doubt, becomes_unclear, with_unclear, after_notice, after_judged}
use Rattle.ncp_interface.specs.Doubts.{awaits_repeat}
use Rattle.ncp_interface.specs.Notices.{notice_of}

-- ---- the record itself leaves them

-- the hosts that are no longer judged, and the pairs in doubt
abbrev pub marks : Monitor → List Bool × List Bool
marks monitor = (monitor.unclear, monitor.in_doubt)

said_marks : (A : Monitor) (at peer : ℕ) (context : MessageContext) (fresh : Bool) (r : Result Message MessageFault) → marks (after_said A at peer context fresh r) ≡ marks A
said_marks A at peer context true (Ok m) = refl
said_marks A at peer context false (Ok m) = refl
said_marks A at peer context fresh (Err fault) = refl

answer_marks : (U : Monitor) (kind at peer link : ℕ) → marks (monitor_after_answer U kind at peer link) ≡ marks U
answer_marks U kind at peer link = go U.full
  where
    go : (b : Bool) → marks (if b then U else record U { kept = with_answer (view_in U.views at peer).known kind U.kept (position_of at peer link U.kept) }) ≡ marks U
    go true = refl
    go false = refl

out_marks : (U : Monitor) (at peer link : ℕ) (bits : List Bool) → marks (monitor_after_out U at peer link bits) ≡ marks U
out_marks U at peer link bits = go U.full
  where
    now : Monitor
    now = record U {
      full = not (has_room U.kept (position_of at peer link U.kept));
      views = with_view U.views at peer (view_after_out (view_in U.views at peer) link (slot_of_link U at peer link) (same_of U at peer link bits));
      kept = with_out U.kept (position_of at peer link U.kept) (gone_out at peer link bits);
    }

    go : (b : Bool) → marks (if b then U else now) ≡ marks U
    go true = refl
    go false = refl

in_marks : (U : Monitor) (at peer link : ℕ) → marks (after_in U at peer link) ≡ marks U
in_marks U at peer link = go (judges_coming U at peer)
  where
    go : (b : Bool) → marks (if b then record U { kept = with_coming U.kept (position_of peer at link U.kept) } else U) ≡ marks U
    go true = refl
    go false = refl

pub event_marks : (U : Monitor) (at : ℕ) (bits : List Bool) (happened : InterfaceEvent) → marks (after_event U at bits happened) ≡ marks U
event_marks U at bits event.Short = refl
event_marks U at bits event.Nothing = refl
event_marks U at bits (event.Own kind link) = refl
event_marks U at bits (event.Other kind) = refl
event_marks U at bits (event.Answer kind peer link) = answer_marks U kind at peer link
event_marks U at bits (event.Out peer link) =
    let A = monitor_after_out U at peer link bits in
    said_marks A at peer (turn_at A at peer at true) (fresh_out U at peer link bits) (message_in bits) ∙ out_marks U at peer link bits
event_marks U at bits (event.In peer link) =
    let A = after_in U at peer link in
    said_marks A at peer (turn_at A at peer peer false) true (message_in bits) ∙ in_marks U at peer link

before_marks : (U : Monitor) (at : ℕ) (happened : InterfaceEvent) → marks (before_event U at happened) ≡ marks U
before_marks U at event.Short = refl
before_marks U at event.Nothing = refl
before_marks U at (event.Own kind link) = refl
before_marks U at (event.Other kind) = refl
before_marks U at (event.Answer kind peer link) = refl
before_marks U at (event.In peer link) = refl
before_marks U at (event.Out peer link) = go (awaits_repeat (doubt_on U at peer link))
  where
    go : (b : Bool) → marks (if b then monitor_after_answer U 9 at peer link else U) ≡ marks U
    go true = answer_marks U 9 at peer link
    go false = refl

next_marks : (U : Monitor) (at : ℕ) (happened : InterfaceEvent) (o : Option Doubt) → marks (with_next_doubt U at happened o) ≡ marks U
next_marks U at event.Short o = refl
next_marks U at event.Nothing o = refl
next_marks U at (event.Own kind link) o = refl
next_marks U at (event.Other kind) o = refl
next_marks U at (event.Answer kind peer link) o = refl
next_marks U at (event.In peer link) o = refl
next_marks U at (event.Out peer link) None = refl
next_marks U at (event.Out peer link) (Some doubt) = refl

notice_unclear : (U : Monitor) (at : ℕ) (o : Option ImpNotice) → (after_notice U at o).unclear ≡ U.unclear
notice_unclear U at None = refl
notice_unclear U at (Some notice.InterfaceReset) = refl
notice_unclear U at (Some (notice.MessageRefused peer link)) = refl

abbrev pub unclear_after : List Bool → ℕ → Bool → List Bool
unclear_after all at unclear = if unclear then slice_set all at true else all

pub unclear_is : (U : Monitor) (way : ImpDirection) (at : ℕ) (bits : List Bool) → (after_judged U way at bits).unclear ≡ unclear_after U.unclear at (becomes_unclear U at (event_of way at bits))
unclear_is U way at bits =
    let happened = event_of way at bits in
    let V = before_event U at happened in
    let now = after_record V way at bits in
    let next = with_next_doubt now at happened (next_doubt U at happened) in
    notice_unclear (with_unclear next at (becomes_unclear U at happened)) at (notice_of way bits) ∙ by next (becomes_unclear U at happened)
    ∙ ap (λ (all : List Bool). unclear_after all at (becomes_unclear U at happened)) (ap (λ (m : List Bool × List Bool). m.0) (next_marks now at happened (next_doubt U at happened) ∙ event_marks (sees V at) at bits happened ∙ before_marks U at happened))
  where
    by : (next : Monitor) (b : Bool) → (with_unclear next at b).unclear ≡ unclear_after next.unclear at b
    by next true = refl
    by next false = refl

-- ---- one of them

stays_true : (all : List Bool) (i j : ℕ) → get_or all j false ≡ true → get_or (slice_set all i true) j false ≡ true
stays_true [] i j e = e
stays_true (x ∷ all) zero zero e = refl
stays_true (x ∷ all) zero (suc j) e = e
stays_true (x ∷ all) (suc i) zero e = e
stays_true (x ∷ all) (suc i) (suc j) e = stays_true all i j e

gets_true : (all : List Bool) (i : ℕ) → i < length all → get_or (slice_set all i true) i false ≡ true
gets_true [] i l = absurd (omega (arith, l))
gets_true (x ∷ all) zero l = refl
gets_true (x ∷ all) (suc i) l = gets_true all i (omega (arith, l))

-- it stays so
pub unclear_stays : (U : Monitor) (way : ImpDirection) (at : ℕ) (bits : List Bool) (me : ℕ) → get_or U.unclear me false ≡ true → get_or (after_judged U way at bits).unclear me false ≡ true
unclear_stays U way at bits me e = ap (λ (all : List Bool). get_or all me false) (unclear_is U way at bits) ∙ by (becomes_unclear U at (event_of way at bits))
  where
    by : (b : Bool) → get_or (unclear_after U.unclear at b) me false ≡ true
    by true = stays_true U.unclear at me e
    by false = e

pub unclear_long : (U : Monitor) (way : ImpDirection) (at : ℕ) (bits : List Bool) → length U.unclear ≡ HOSTS → length (after_judged U way at bits).unclear ≡ HOSTS
unclear_long U way at bits e = ap length (unclear_is U way at bits) ∙ by (becomes_unclear U at (event_of way at bits))
  where
    by : (b : Bool) → length (unclear_after U.unclear at b) ≡ HOSTS
    by true = length-set U.unclear at true ∙ e
    by false = e

pub now_unclear : (U : Monitor) (way : ImpDirection) (me : ℕ) (bits : List Bool) → me < 256 → length U.unclear ≡ HOSTS → becomes_unclear U me (event_of way me bits) ≡ true → get_or (after_judged U way me bits).unclear me false ≡ true
now_unclear U way me bits l long e =
    ap (λ (all : List Bool). get_or all me false) (unclear_is U way me bits) ∙ ap (λ (b : Bool). get_or (unclear_after U.unclear me b) me false) e
    ∙ gets_true U.unclear me (let k : length U.unclear ≡ 256 = long in omega (arith, l, k))
