-- A message is sent to a peer: no rule about the flow finds the host wrong, and the facts hold after it.
use Rattle.std.proofs.Common.{◌≡◌, ℕ, ◌+◌, ◌<◌, ◌==◌, Bool, true, false, not, ◌&&◌, ◌||◌, if◌then◌else◌, List, [], ◌++◌, length, drop, map, All, Option, None, Some, Result, Ok, Err, refl, sym, ap, ◌∙◌, subst, arith}
use Rattle.ncp_numbers.specs.Bytes.{bytes_of, bits_of_bytes}
use Rattle.ncp_numbers.proofs.Packing.{bytes_of-bits_of_bytes}
use Rattle.ncp_leader.specs.declared.fault.MessageFault.{MessageFault}
use Rattle.ncp_leader.specs.Message.{Message, message_with}
use Rattle.ncp_wire.specs.declared.command.Command.{Command}
use Rattle.ncp_wire.specs.declared.fault.CommandFault.{CommandFault}
use Rattle.ncp_wire.specs.Spelling.{IsCommand, spellings}
use Rattle.ncp_control.specs.Texts.{items_of}
use Rattle.ncp_control.specs.Reading.{commands_in, fault_in}
use Rattle.ncp_control.proofs.Reading.{spellings_small, spelled_alone}
use Rattle.ncp_slot.specs.Slots.{LinkSlots}
use Rattle.ncp_model.specs.declared.limits.TheConstants.{MAX_CONTROL}
use Rattle.ncp_model.specs.Effect.{answer}
use Rattle.ncp_model.specs.Ends.{cut_in}
use Rattle.ncp_model.specs.Phase.{Phase, up}
use Rattle.ncp_model.specs.Sending.{next_commands}
use Rattle.ncp_model.specs.Peers.{Peer, cuts, peer_sends}
use Rattle.ncp_model.proofs.ResetLists.{bit, rsts, rrps}
use Rattle.ncp_proof_machine.proofs.EndsGood.{EndsInvariant}
use Rattle.ncp_peer.specs.Output.{leader_to, links}
use Rattle.ncp_host.specs.Host.{is_one_of}
use Rattle.ncp_proof_runs.proofs.MadeOfRuns.{next-first}
use Rattle.ncp_monitor.specs.declared.finding.Finding.{Finding}
use Rattle.ncp_monitor.specs.declared.finding.ItemKind.{ItemKind}
use Rattle.ncp_interface.specs.declared.sent_message.SentMessage.{SentMessage}
use Rattle.ncp_monitor.specs.declared.phase.MessageContext.{MessageContext}
use Rattle.ncp_monitor.specs.declared.observed_flow.ObservedFlow.{ObservedFlow}
use Rattle.ncp_monitor.specs.declared.monitor.Monitor.{Monitor}
use Rattle.ncp_monitor.specs.declared.view.View.{View}
use Rattle.ncp_monitor.specs.declared.views.TheConstants.{VIEWS}
use Rattle.ncp_monitor.specs.ConnStates.{SeenTables}
use Rattle.ncp_interface.specs.Contents.{is_unused, message_class, items_said}
use Rattle.ncp_monitor.specs.Phases.{broken_by, is_early, is_acted_on, early_rule, after_thing, after_items, after_room}
use Rattle.ncp_monitor.specs.Texts.{demuxed_text_rules, text_target, text_rules, conn_tables_after_text}
use Rattle.ncp_monitor.specs.Views.{awaits_reply}
use Rattle.ncp_interface.specs.Slots.{busy_link}
use Rattle.ncp_monitor.specs.Tables.{view_in}
use Rattle.ncp_monitor.specs.Talked.{reaches, after_talked, left_out_findings, after_left_out, text_findings, after_talked_text}
use Rattle.ncp_monitor.specs.Judged.{view_of, knows_zero, turn_at, is_roomy, shows_all, after_read, tables_after_read, after_said}
use Rattle.ncp_monitor.proofs.Parted.{said_findings}
use Rattle.ncp_proof_monitor.proofs.Goes.{used}
use Rattle.ncp_proof_monitor.proofs.Laid.{fitting_all}
use Rattle.ncp_proof_monitor.proofs.Phased.{Phased, Sees, TextClear, none_queued}
use Rattle.ncp_proof_monitor.proofs.PhaseGoes.{AllWent, all_went, roomy_left, suspended_more}
use Rattle.ncp_proof_monitor.proofs.PhaseSteps.{Stands}
use Rattle.ncp_proof_monitor.proofs.PhaseSeen.{TextOnTime, text_on_time, view_same, room_suspended, room_acts, room_waits}
use Rattle.ncp_proof_monitor.proofs.Talking.{message_flow, text_flow}
use Rattle.ncp_proof_monitor_allocation.proofs.TidyBooks.{Tidy}
use Rattle.ncp_proof_monitor_allocation.proofs.Proper.{AllProper}
use Rattle.ncp_proof_monitor_host.proofs.Carries.{Carries, ShowsBusy}
use Rattle.ncp_proof_monitor_host.proofs.BusySlots.{BusySlots}
use Rattle.ncp_proof_monitor_host.proofs.GoesTold.{says_right, says_numbers, says_reports, none_left_reply, none_left_cls, all_said_reports}
use Rattle.ncp_proof_monitor_host.proofs.Spoken.{Spoken}
use Rattle.ncp_proof_monitor_host.proofs.SpokenHost.{spoken_as}
use Rattle.ncp_proof_monitor_host.proofs.SpokenOut.{Known, waited_by, GoesOut, AllReported, all_reported, NoneLeft, none_left}
use Rattle.ncp_proof_monitor_host.proofs.SpokenIn.{clash, up_unowed}
use Rattle.ncp_proof_monitor_replies.proofs.BooksRead.{said_reads}
use Rattle.ncp_proof_monitor_host.proofs.TextReports.{cut_right, cut_tells}
use Rattle.ncp_proof_monitor_host.proofs.Borne.{up_unreset}

-- ---- sent messages

goes_out : (me n : ℕ) (busy : Option ℕ) (zero : Bool) (kept : List SentMessage) (p : Peer) (slots : LinkSlots) → EndsInvariant p.ends → Carries p slots → ShowsBusy me n kept slots → up p.phase ≡ true → GoesOut me n busy zero kept p.ends p.echoes.awaited
goes_out me n busy zero kept p slots good carries shows u = record {
  right = λ c w b o proper tidy t. says_right me n p.ends p.echoes.awaited slots w kept b good carries.sexes held shows tidy c proper.0 t;
  numbers = λ c w b o proper tidy t. says_numbers me n p.ends p.echoes.awaited slots w kept b good carries.sexes held shows tidy c t;
  tells = λ c w b o proper room tidy t. says_reports me n p.ends p.echoes.awaited slots w kept b good carries.sexes held shows tidy c proper.0 room t;
  reply = λ b t. none_left_reply me n p.ends p.echoes.awaited b t;
  cls = λ b tidy t. none_left_cls me n p.ends p.echoes.awaited slots kept b good carries.sexes carries.agree carries.leaving shows t;
  said = λ b t. all_said_reports me n p.ends p.echoes.awaited b t;
}
  where
    held : BusySlots p.ends slots
    held = carries.busy (up_unreset p.phase u)

-- what is found of what is said in a message that is read, and what is known after it
pub record PeerReported (A : Monitor) (me n : ℕ) (fresh : Bool) (r : Result Message MessageFault) (p : Peer) : Type 0 where
  pub none : message_flow A me n me true fresh r ≡ []
  pub known : Known me n p (view_in (after_said A me n (turn_at A me n me true) fresh r).views me n) (after_said A me n (turn_at A me n me true) fresh r).conn_tables

-- again
pub again_reported : (A : Monitor) (me n : ℕ) (r : Result Message MessageFault) (p : Peer) → Known me n p (view_in A.views me n) A.conn_tables → PeerReported A me n false r p
again_reported A me n (Ok m) p k = record { none = refl; known = k }
again_reported A me n (Err fault) p k = record { none = refl; known = k }

-- commands
pub commands_reported : (A : Monitor) (me n : ℕ) (p : Peer) (slots : LinkSlots) (q : Bool) → length A.views ≡ VIEWS → me < 256 → n < 256 → All IsCommand p.phase.waiting → (next_commands p.phase.waiting ≡ [] → ⊥) → Sees q (busy_link me n A.kept) → Stands p q (view_of A me n)
    → EndsInvariant p.ends → Carries p slots → ShowsBusy me n A.kept slots → Known me n p (view_of A me n) A.conn_tables
    → PeerReported A me n true (Ok (message_with (leader_to n 0) 8 (bits_of_bytes (spellings (next_commands p.phase.waiting))))) (peer_sends p)
commands_reported A me n p slots q l a b c some sees k good carries shows known = record {
  none =
      ap found items ∙ ap (λ (xs : List Finding). xs ++ left_out_findings context flow A.kept (shows_all text v) after (after_talked context flow A.kept (items_of cs None) v A.conn_tables)) told.none ∙ left.none;
  known =
      subst (λ (x : View). Known me n (peer_sends p) x (conn_tables (items_said text))) (sym is)
      (subst (λ (x : List (Result Command CommandFault)). Known me n (peer_sends p) roomy (conn_tables x)) (sym items) known_then);
}
  where
    cs : List Command
    cs = next_commands p.phase.waiting

    rest : List Command
    rest = drop (length cs) p.phase.waiting

    text : List Bool
    text = bits_of_bytes (spellings cs)

    context : MessageContext
    context = record { by = me; sent = true; busy = busy_link me n A.kept; zero = knows_zero A me n }

    flow : ObservedFlow
    flow = record { at = me; peer = n; sent = true }

    v : View
    v = view_of A me n

    first : cs ++ rest ≡ p.phase.waiting
    first = next-first p.phase.waiting

    before : Phased (record p.phase { waiting = cs ++ rest }) q v
    before = subst (λ (x : List Command). Phased (record p.phase { waiting = x }) q v) (sym first) k.phased

    w : AllWent me (busy_link me n A.kept) (knows_zero A me n) cs rest p.phase q v
    w = all_went me (busy_link me n A.kept) (knows_zero A me n) cs rest p.phase q v sees k.settled before

    after : View
    after = after_items context (items_of cs None) v

    spelled : bytes_of text ≡ spellings cs
    spelled = bytes_of-bits_of_bytes (spellings cs) (spellings_small cs (fitting_all MAX_CONTROL p.phase.waiting c))

    alone : (commands_in (spellings cs) ≡ cs) × (fault_in (spellings cs) ≡ None)
    alone = spelled_alone cs (fitting_all MAX_CONTROL p.phase.waiting c)

    items : items_said text ≡ items_of cs None
    items =
        ap (λ (bs : List ℕ). items_of (commands_in bs) (fault_in bs)) spelled
        ∙ ap (λ (ds : List Command). items_of ds (fault_in (spellings cs))) alone.0 ∙ ap (items_of cs) alone.1

    found : List (Result Command CommandFault) → List Finding
    found said = said_findings context flow A.kept said v A.conn_tables ++ left_out_findings context flow A.kept (shows_all text v) (after_items context said v) (after_talked context flow A.kept said v A.conn_tables)

    conn_tables : List (Result Command CommandFault) → SeenTables
    conn_tables said = after_left_out context flow (shows_all text v) (after_items context said v) (after_talked context flow A.kept said v A.conn_tables)

    read : List (Result Command CommandFault) → View
    read said = after_room context (shows_all text v) (after_items context said v)

    roomy : View
    roomy = after_room context (shows_all text v) after

    is : view_in (after_said A me n (turn_at A me n me true) true (Ok (message_with (leader_to n 0) 8 text))).views me n ≡ roomy
    is = view_same A.views me n (read (items_said text)) l a b ∙ ap read items

    goes : up p.phase ≡ true → GoesOut me n (busy_link me n A.kept) (knows_zero A me n) A.kept p.ends p.echoes.awaited
    goes u = goes_out me n (busy_link me n A.kept) (knows_zero A me n) A.kept p slots good carries shows u

    waited : Known me n (waited_by p.phase.waiting p) v A.conn_tables
    waited f = let z = known f in (record { owed = z.0.owed; unmade = z.0.unmade; waits = z.0.waits; tells = z.0.tells }, z.1)

    told : AllReported me n (busy_link me n A.kept) (knows_zero A me n) A.kept cs rest p v A.conn_tables
    told =
        all_reported me n (busy_link me n A.kept) (knows_zero A me n) A.kept cs rest p q v A.conn_tables sees k.settled goes (subst AllProper (sym first) carries.proper) before
        (subst (λ (x : List Command). Known me n (waited_by x p) v A.conn_tables) (sym first) waited)

    -- it shows all that was queued
    unacted : (room acted : Bool) → (room && not acted) ≡ true → acted ≡ false
    unacted room false e = refl
    unacted true true e = absurd (cc e)
    unacted false true e = absurd (cc e)

    left : NoneLeft me n (busy_link me n A.kept) (knows_zero A me n) A.kept rest p (shows_all text v) after (after_talked context flow A.kept (items_of cs None) v A.conn_tables)
    left =
        none_left me n (busy_link me n A.kept) (knows_zero A me n) A.kept rest p (shows_all text v) after (after_talked context flow A.kept (items_of cs None) v A.conn_tables) goes (roomy_left p.phase.waiting v c)
        (λ e u r f. told.clear (unacted (is_roomy text) v.acted e) u some r f) told.known

    known_then : Known me n (peer_sends p) roomy (conn_tables (items_of cs None))
    known_then f =
        let z = left.known f in (
          spoken_as me n (peer_sends p) after roomy (conn_tables (items_of cs None))
              (λ r. sym (room_suspended me (busy_link me n A.kept) (knows_zero A me n) (shows_all text v) after) ∙ r)
              (room_acts me (busy_link me n A.kept) (knows_zero A me n) (shows_all text v) after)
              (room_waits me (busy_link me n A.kept) (knows_zero A me n) (shows_all text v) after w.phased.told) z.0,
          z.1,
        )

-- where the host is up, it waits for no reply, and owes none where none waits

waits_not : (p : Phase) (q : Bool) (v : View) → up p ≡ true → Phased p q v → awaits_reply v.host.wait ≡ false
waits_not p q v u k = let e = k.waits in grind arith

none_owed : (p : Phase) → up p ≡ true → rrps p.waiting ≡ 0 → 0 < rrps p.waiting + bit p.owe → ⊥
none_owed p u z o = let e = not_owed p u in omega (arith, z, e, o)
  where
    not_owed : (p : Phase) → up p ≡ true → bit p.owe ≡ 0
    not_owed p u = grind arith

-- a text
pub text_told : (A : Monitor) (me n on : ℕ) (t : ℕ × List Bool) (p : Peer) (q : Bool) → length A.views ≡ VIEWS → me < 256 → n < 256 → is_one_of on links ≡ true → (on == 0) ≡ false → answer (cut_in on p.ends) ≡ Some t → TextClear (view_of A me n) → Stands p q (view_of A me n) → EndsInvariant p.ends
    → Known me n p (view_of A me n) A.conn_tables → PeerReported A me n true (Ok (message_with (leader_to n on) t.0 t.1)) (cuts on p)
text_told A me n on t p q l a b u z cut clear k good known = record {
  none = text_flow A me n me true m (used on u) z ∙ unsaid v.suspended refl;
  known = λ f.
      let reads = said_reads A me n me true true (Ok m) in
      let before = known (reads.room f) in (
        subst (λ (x : SeenTables). Spoken me n (cuts on p) (view_in (after_said A me n (turn_at A me n me true) true (Ok m)).views me n) x) (sym (conn_tables (used on u) z))
            (subst (λ (x : View). Spoken me n (cuts on p) x (after_talked_text context flow on m v A.conn_tables)) (sym (view_same A.views me n (after_read (message_class m) context t.1 v) l a b ∙ view (used on u) z)) (spoken before v.suspended refl)),
        reads.tidy f before.1,
      );
}
  where
    m : Message
    m = message_with (leader_to n on) t.0 t.1

    context : MessageContext
    context = record { by = me; sent = true; busy = busy_link me n A.kept; zero = knows_zero A me n }

    flow : ObservedFlow
    flow = record { at = me; peer = n; sent = true }

    v : View
    v = view_of A me n

    w : TextOnTime me (busy_link me n A.kept) (knows_zero A me n) p q v
    w = text_on_time me on (busy_link me n A.kept) (knows_zero A me n) t p q v cut clear k

    unreset : v.suspended ≡ false → rsts p.phase.waiting ≡ 0
    unreset r = none_queued p.phase q v w.up_is (clear r).0 k.phased

    -- it is judged while the session does not rest
    reach : (y : Bool) → v.suspended ≡ y → reaches context ItemKind.Text v ≡ not y
    reach y r = by v.told (is_early context ItemKind.Text v) v.suspended y k.phased.told w.early r
      where
        by : (t e r y : Bool) → t ≡ true → (if not t || not e then None else Some (broken_by context (early_rule context ItemKind.Text v))) ≡ None → r ≡ y → (t && (not e || is_acted_on context v) && not r && not (not true && awaits_reply v.host.wait)) ≡ not y
        by true false true true a b c = refl
        by true false false false a b c = refl
        by true false true false a b c = absurd (cc c)
        by true false false true a b c = absurd (cc c)
        by true true r y a b c = absurd (cc b)
        by false e r y a b c = absurd (cc a)

    right : v.suspended ≡ false → (f : Bool) → A.conn_tables.full ≡ f → text_rules flow on m A.conn_tables ≡ []
    right r true f = ap (λ (x : Bool). if x then [] else demuxed_text_rules on m A.conn_tables (text_target flow on A.conn_tables)) f
    right r false f = let before = known f in cut_right me n on p.ends p.echoes.awaited p.phase.waiting A.conn_tables t m good before.1 (before.0.tells r (unreset r) w.up_is) cut refl refl

    unsaid : (y : Bool) → v.suspended ≡ y → text_findings context flow on m v A.conn_tables ≡ []
    unsaid true r = ap (λ (x : Bool). if x then map (broken_by context) (text_rules flow on m A.conn_tables) else []) (reach true r)
    unsaid false r = ap (λ (x : Bool). if x then map (broken_by context) (text_rules flow on m A.conn_tables) else []) (reach false r) ∙ ap (map (broken_by context)) (right r A.conn_tables.full refl)

    before_it : (after_thing context ItemKind.Text v).suspended ≡ false → v.suspended ≡ false
    before_it r = suspended_more v.suspended ((v.told && is_early context ItemKind.Text v) && not (awaits_reply v.host.wait) && true) r

    now : Bool → SeenTables
    now x = if x then conn_tables_after_text flow on m A.conn_tables else A.conn_tables

    spoken : Spoken me n p v A.conn_tables × Tidy A.conn_tables → (y : Bool) → v.suspended ≡ y → Spoken me n (cuts on p) (after_thing context ItemKind.Text v) (now (reaches context ItemKind.Text v))
    spoken before true r = subst (λ (x : Bool). Spoken me n (cuts on p) (after_thing context ItemKind.Text v) (now x)) (sym (reach true r)) (record {
      owed = λ x a o. clash v.suspended r (before_it x);
      unmade = λ x o. clash v.suspended r (before_it x);
      waits = λ a. before.0.waits a;
      tells = λ x y d. clash v.suspended r (before_it x);
    })
    spoken before false r = subst (λ (x : Bool). Spoken me n (cuts on p) (after_thing context ItemKind.Text v) (now x)) (sym (reach false r)) (record {
      owed = λ x a o. absurd (none_owed p.phase w.up_is (w.none r) o);
      unmade = λ x o. clash p.phase.owe o (up_unowed p.phase w.up_is);
      waits = λ a. clash (awaits_reply v.host.wait) a (waits_not p.phase q v w.up_is k.phased);
      tells = λ x y d. cut_tells me n on p.ends p.echoes.awaited p.phase.waiting A.conn_tables t m good before.1 (before.0.tells r (unreset r) w.up_is) cut refl refl;
    })

    conn_tables : is_unused on ≡ false → (on == 0) ≡ false → tables_after_read context flow A.kept m v A.conn_tables (message_class m) ≡ after_talked_text context flow on m v A.conn_tables
    conn_tables x y = rw (x, y) refl

    view : is_unused on ≡ false → (on == 0) ≡ false → after_read (message_class m) context t.1 v ≡ after_thing context ItemKind.Text v
    view x y = rw (x, y) refl
