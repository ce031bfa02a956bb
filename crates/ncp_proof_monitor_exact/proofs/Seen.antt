-- The hosts with a record, after a record.
use Rattle.std.proofs.Common.{◌≡◌, ℕ, Bool, true, false, not, if◌then◌else◌, List, slice_set, Option, None, Some, Result, Ok, Err, refl, ap, ◌∙◌}
use Rattle.ncp_leader.specs.declared.fault.MessageFault.{MessageFault}
use Rattle.ncp_leader.specs.Message.{Message, message_in}
use Rattle.ncp_interface.specs.declared.event.InterfaceEvent.{InterfaceEvent}
use Rattle.ncp_interface.specs.declared.event.InterfaceEvent.TheVariants as event
use Rattle.ncp_interface.specs.declared.imp_direction.ImpDirection.{ImpDirection}
use Rattle.ncp_monitor.specs.declared.monitor.Monitor.{Monitor}
use Rattle.ncp_monitor.specs.declared.phase.MessageContext.{MessageContext}
use Rattle.ncp_interface.specs.declared.notice.ImpNotice.{ImpNotice}
use Rattle.ncp_interface.specs.declared.notice.ImpNotice.TheVariants as notice
use Rattle.ncp_interface.specs.declared.doubt.Doubt.{Doubt}
use Rattle.ncp_interface.specs.Events.{event_of}
use Rattle.ncp_interface.specs.Slots.{position_of, gone_out, has_room, with_out, with_answer}
use Rattle.ncp_monitor.specs.Tables.{view_in, with_view}
use Rattle.ncp_monitor.specs.Judged.{sees, slot_of_link, same_of, view_after_out, fresh_out, monitor_after_out, monitor_after_answer, judges_coming, with_coming, after_in, turn_at, after_said, after_event, after_record}
use Rattle.ncp_monitor.specs.Resets.{doubt_on, before_event, next_doubt, with_next_doubt, becomes_unclear, with_unclear, after_notice, after_judged}
use Rattle.ncp_interface.specs.Doubts.{awaits_repeat}
use Rattle.ncp_interface.specs.Notices.{notice_of}

said_seen : (A : Monitor) (at peer : ℕ) (context : MessageContext) (fresh : Bool) (r : Result Message MessageFault) → (after_said A at peer context fresh r).seen ≡ A.seen
said_seen A at peer context true (Ok m) = refl
said_seen A at peer context false (Ok m) = refl
said_seen A at peer context fresh (Err fault) = refl

answer_seen : (U : Monitor) (kind at peer link : ℕ) → (monitor_after_answer U kind at peer link).seen ≡ U.seen
answer_seen U kind at peer link = go U.full
  where
    go : (b : Bool) → (if b then U else record U { kept = with_answer (view_in U.views at peer).known kind U.kept (position_of at peer link U.kept) }).seen ≡ U.seen
    go true = refl
    go false = refl

out_seen : (U : Monitor) (at peer link : ℕ) (bits : List Bool) → (monitor_after_out U at peer link bits).seen ≡ U.seen
out_seen U at peer link bits = go U.full
  where
    now : Monitor
    now = record U {
      full = not (has_room U.kept (position_of at peer link U.kept));
      views = with_view U.views at peer (view_after_out (view_in U.views at peer) link (slot_of_link U at peer link) (same_of U at peer link bits));
      kept = with_out U.kept (position_of at peer link U.kept) (gone_out at peer link bits);
    }

    go : (b : Bool) → (if b then U else now).seen ≡ U.seen
    go true = refl
    go false = refl

in_seen : (U : Monitor) (at peer link : ℕ) → (after_in U at peer link).seen ≡ U.seen
in_seen U at peer link = go (judges_coming U at peer)
  where
    go : (b : Bool) → (if b then record U { kept = with_coming U.kept (position_of peer at link U.kept) } else U).seen ≡ U.seen
    go true = refl
    go false = refl

event_seen : (U : Monitor) (at : ℕ) (bits : List Bool) (happened : InterfaceEvent) → (after_event U at bits happened).seen ≡ U.seen
event_seen U at bits event.Short = refl
event_seen U at bits event.Nothing = refl
event_seen U at bits (event.Own kind link) = refl
event_seen U at bits (event.Other kind) = refl
event_seen U at bits (event.Answer kind peer link) = answer_seen U kind at peer link
event_seen U at bits (event.Out peer link) =
    let A = monitor_after_out U at peer link bits in said_seen A at peer (turn_at A at peer at true) (fresh_out U at peer link bits) (message_in bits) ∙ out_seen U at peer link bits
event_seen U at bits (event.In peer link) = let A = after_in U at peer link in said_seen A at peer (turn_at A at peer peer false) true (message_in bits) ∙ in_seen U at peer link

before_seen : (U : Monitor) (at : ℕ) (happened : InterfaceEvent) → (before_event U at happened).seen ≡ U.seen
before_seen U at event.Short = refl
before_seen U at event.Nothing = refl
before_seen U at (event.Own kind link) = refl
before_seen U at (event.Other kind) = refl
before_seen U at (event.Answer kind peer link) = refl
before_seen U at (event.In peer link) = refl
before_seen U at (event.Out peer link) = go (awaits_repeat (doubt_on U at peer link))
  where
    go : (b : Bool) → (if b then monitor_after_answer U 9 at peer link else U).seen ≡ U.seen
    go true = answer_seen U 9 at peer link
    go false = refl

doubt_seen : (U : Monitor) (at : ℕ) (happened : InterfaceEvent) (doubt : Option Doubt) → (with_next_doubt U at happened doubt).seen ≡ U.seen
doubt_seen U at event.Short doubt = refl
doubt_seen U at event.Nothing doubt = refl
doubt_seen U at (event.Own kind link) doubt = refl
doubt_seen U at (event.Other kind) doubt = refl
doubt_seen U at (event.Answer kind peer link) doubt = refl
doubt_seen U at (event.In peer link) doubt = refl
doubt_seen U at (event.Out peer link) None = refl
doubt_seen U at (event.Out peer link) (Some doubt) = refl

unclear_seen : (U : Monitor) (at : ℕ) (b : Bool) → (with_unclear U at b).seen ≡ U.seen
unclear_seen U at true = refl
unclear_seen U at false = refl

notice_seen : (U : Monitor) (at : ℕ) (heard : Option ImpNotice) → (after_notice U at heard).seen ≡ U.seen
notice_seen U at None = refl
notice_seen U at (Some notice.InterfaceReset) = refl
notice_seen U at (Some (notice.MessageRefused peer link)) = refl

-- the host of the record was seen, and no other
pub judged_seen : (U : Monitor) (way : ImpDirection) (at : ℕ) (bits : List Bool) → (after_judged U way at bits).seen ≡ slice_set U.seen at true
judged_seen U way at bits =
    let happened = event_of way at bits in
    let B = before_event U at happened in
    let after = after_record B way at bits in
    let doubted = with_next_doubt after at happened (next_doubt U at happened) in
    let cleared = with_unclear doubted at (becomes_unclear U at happened) in
    notice_seen cleared at (notice_of way bits) ∙ unclear_seen doubted at (becomes_unclear U at happened) ∙ doubt_seen after at happened (next_doubt U at happened)
    ∙ event_seen (sees B at) at bits happened ∙ ap (λ (seen : List Bool). slice_set seen at true) (before_seen U at happened)
