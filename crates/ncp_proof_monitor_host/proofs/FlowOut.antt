-- A message is sent to a peer of a host: no rule about the flow finds the host wrong, and the facts about
-- all its peers hold after it.
use Rattle.std.proofs.Common.{◌≡◌, ◌≢◌, ◌⊎◌, inl, inr, ℕ, ◌<◌, ◌==◌, Bool, true, false, not, ◌&&◌, ◌||◌, if◌then◌else◌, List, [], ◌∷◌, ◌++◌, length, map, Option, None, Some, Result, Ok, Err, option_map, option_to_list, filter, refl, sym, ap, ◌∙◌, subst}
use Rattle.std.proofs.lemmas.Bool.Decides.{eqb_tells}
use Rattle.ncp_leader.specs.declared.fault.MessageFault.{MessageFault}
use Rattle.ncp_leader.specs.declared.leader.Leader.{Leader}
use Rattle.ncp_leader.specs.declared.leader.Short.{Short}
use Rattle.ncp_leader.specs.Message.{Message, message_in}
use Rattle.ncp_wire.specs.declared.command.Command.{Command}
use Rattle.ncp_wire.specs.declared.fault.CommandFault.{CommandFault}
use Rattle.ncp_slot.specs.declared.slot.Slot.{Slot}
use Rattle.ncp_slot.specs.Slot.{is_empty}
use Rattle.ncp_slot.specs.Slots.{LinkSlot, slot_at, with_slot, is_quiet}
use Rattle.ncp_slot.proofs.Places.{slot_at-with_slot_other}
use Rattle.ncp_model.specs.Effect.{answer}
use Rattle.ncp_model.specs.Ends.{cut_in}
use Rattle.ncp_model.specs.Sending.{next_commands}
use Rattle.ncp_model.specs.declared.limits.TheConstants.{MAX_CONTROL}
use Rattle.ncp_model.specs.Peers.{cuts, peer_sends}
use Rattle.ncp_peer.specs.PeerState.{PeerState, new_state, control_link}
use Rattle.ncp_peer.specs.Output.{links, control_message, text_message, output_by, after_by, after_output}
use Rattle.ncp_host.specs.Host.{Host, state_of, is_one_of, new_host}
use Rattle.ncp_host.proofs.Sound.{sound-output, sound-new}
use Rattle.ncp_transcript.specs.declared.note.HostNote.{HostNote}
use Rattle.ncp_transcript.specs.After.{after_note}
use Rattle.ncp_transcript.specs.Runs.{IsHostSaid}
use Rattle.ncp_transcript_two.proofs.Well.{cut-written}
use Rattle.ncp_proof_runs.specs.Peers.{is_this_number, peer_of_leader, names, out_for, note_for}
use Rattle.ncp_proof_runs.proofs.Said.{IsOut}
use Rattle.ncp_proof_runs.proofs.States.{done}
use Rattle.ncp_proof_runs.proofs.HostRuns.{Holds, some_same, note-state}
use Rattle.ncp_monitor.specs.declared.act.Act.{Act}
use Rattle.ncp_monitor.specs.declared.act.Act.TheVariants.{Reset, Reply, Other}
use Rattle.ncp_monitor.specs.declared.finding.Finding.{Finding}
use Rattle.ncp_monitor.specs.declared.finding.ItemKind.{ItemKind}
use Rattle.ncp_interface.specs.declared.sent_message.SentMessage.{SentMessage}
use Rattle.ncp_interface.specs.declared.message_class.MessageClass.{MessageClass}
use Rattle.ncp_interface.specs.declared.message_class.MessageClass.TheVariants.{Stop, Text, Control}
use Rattle.ncp_monitor.specs.declared.phase.MessageContext.{MessageContext}
use Rattle.ncp_monitor.specs.declared.observed_flow.ObservedFlow.{ObservedFlow}
use Rattle.ncp_monitor.specs.declared.monitor.Monitor.{Monitor}
use Rattle.ncp_monitor.specs.declared.view.View.{View}
use Rattle.ncp_monitor.specs.declared.views.TheConstants.{VIEWS}
use Rattle.ncp_interface.specs.declared.imp_direction.ImpDirection.TheVariants.{ToImp}
use Rattle.ncp_monitor.specs.ConnStates.{SeenTables}
use Rattle.ncp_monitor.specs.Views.{awaits_reply, is_answered_too_often}
use Rattle.ncp_monitor.specs.Acts.{act_of}
use Rattle.ncp_interface.specs.Contents.{message_class, items_said}
use Rattle.ncp_monitor.specs.Texts.{text_rules}
use Rattle.ncp_monitor.specs.Phases.{broken_by, is_early, is_acted_on, after_act, after_item, after_items, after_reset_of_host, after_reset_of_peer, view_after_reset, after_reply_of_host, after_reply_of_peer, after_untold_reply, view_after_reply}
use Rattle.ncp_monitor.specs.Speaking.{spoken_rule, spoken_numbers, reply_left_out, cls_left_out}
use Rattle.ncp_interface.specs.Slots.{is_of, is_unknown, busy_link}
use Rattle.ncp_monitor.specs.Tables.{view_in}
use Rattle.ncp_monitor.specs.Talked.{act_reaches, missing, flow_finding, number_findings, after_flow, after_talked, left_out_findings}
use Rattle.ncp_monitor.specs.Judged.{new_monitor, next_number, sees, view_of, knows_zero, slot_of_link, same_of, fresh_out, changes_slot, may_pass_reset, view_after_out, monitor_after_out, turn_at, shows_all, after_said, after_record}
use Rattle.ncp_monitor.proofs.Following.{Keeps, said_keeps, out_is}
use Rattle.ncp_monitor.proofs.Parted.{said_findings}
use Rattle.ncp_proof_monitor.proofs.Linked.{Follows, after_out_of}
use Rattle.ncp_proof_monitor.proofs.HostSlots.{was}
use Rattle.ncp_proof_monitor.proofs.Laid.{weighs}
use Rattle.ncp_proof_monitor.proofs.ReadyPeers.{AllReady}
use Rattle.ncp_proof_monitor.proofs.Fine.{PeerInvariant}
use Rattle.ncp_proof_monitor.proofs.Shown.{Shows}
use Rattle.ncp_proof_monitor.proofs.PhaseLists.{itself}
use Rattle.ncp_proof_monitor.proofs.Phased.{Sees, TextClear}
use Rattle.ncp_proof_monitor.proofs.PhaseSteps.{Stands}
use Rattle.ncp_proof_monitor.proofs.PhaseSeen.{stands_quiet, quiet_zero, view_same, view_other}
use Rattle.ncp_proof_monitor.proofs.PhaseWalk.{AllSeen, said_other, control_read, text_read, out_views, was_open, out_long, Goes, goes_on, and_not}
use Rattle.ncp_proof_monitor.proofs.Talking.{read_flow, message_flow}
use Rattle.ncp_proof_monitor.proofs.PhaseGoes.{suspended_more}
use Rattle.ncp_proof_monitor_allocation.proofs.TidyBooks.{Tidy, tidy_begins}
use Rattle.ncp_proof_monitor_host.proofs.Carries.{Carries, ShowsBusy}
use Rattle.ncp_proof_monitor_host.proofs.ShowsKept.{shows_busy}
use Rattle.ncp_proof_monitor_host.proofs.CarriesOn.{out_carries, carries_begins}
use Rattle.ncp_proof_monitor_host.proofs.Spoken.{Spoken}
use Rattle.ncp_proof_monitor_host.proofs.SpokenOut.{Known}
use Rattle.ncp_proof_monitor_host.proofs.SpokenHost.{spoken_as}
use Rattle.ncp_proof_monitor_replies.proofs.BooksRead.{Reads, said_reads, said_alikes}
use Rattle.ncp_proof_monitor_replies.proofs.BooksRecord.{out_tables}
use Rattle.ncp_proof_monitor_host.proofs.PeerOut.{PeerReported, again_reported, commands_reported, text_told}
use Rattle.ncp_proof_monitor_host.proofs.FlowWalk.{AllSpoken, spoken_alike, numbered_spoken, sound_of, not_both}

-- ---- to one peer

-- the message that is ready on a link
link_told : (A : Monitor) (me n on : ℕ) (message : List Bool) (s : PeerState) → length A.views ≡ VIEWS → me < 256 → n < 256 → is_one_of on links ≡ true → PeerInvariant s.peer → output_by (slot_at s.slots on) n on s.peer ≡ Some message
    → Sees (is_quiet (with_slot s.slots on (Slot.Travelling message))) (busy_link me n A.kept) → Stands s.peer (is_quiet s.slots) (view_of A me n) → Carries s.peer s.slots → ((on == 0) ≡ true → ShowsBusy me n A.kept s.slots)
    → Known me n s.peer (view_in A.views me n) A.conn_tables → Known me n s.peer (view_of A me n) A.conn_tables → ((on == 0) ≡ false → TextClear (view_of A me n))
    → PeerReported A me n (is_empty (slot_at s.slots on)) (message_in message) (after_by (slot_at s.slots on) on s.peer)
link_told A me n on message s long a b u fine ready busy k carries shows known1 known2 clear = by (slot_at s.slots on) refl ready
  where
    now : Bool
    now = is_quiet (with_slot s.slots on (Slot.Travelling message))

    made : (z : Bool) → (on == control_link) ≡ z → (if z then control_message n (next_commands s.peer.phase.waiting) else text_message n on (answer (cut_in on s.peer.ends))) ≡ Some message
        → PeerReported A me n true (message_in message) (if z then peer_sends s.peer else cuts on s.peer)
    made true z e =
        subst (λ (r : Result Message MessageFault). PeerReported A me n true r (peer_sends s.peer)) (sym (control_read n message (next_commands s.peer.phase.waiting) b (weighs MAX_CONTROL s.peer.phase.waiting) e))
        (commands_reported A me n s.peer s.slots now long a b fine.well.waiting (some (next_commands s.peer.phase.waiting) e) busy (stands_quiet s.peer (is_quiet s.slots) now (view_of A me n) (quiet_zero s.slots on (Slot.Travelling message) z) k) fine.good carries (shows z) known2)
      where
        some : (cs : List Command) → control_message n cs ≡ Some message → cs ≡ [] → ⊥
        some [] e f = cc e
        some (c ∷ cs) e f = cc f
    made false z e = of_text (answer (cut_in on s.peer.ends)) refl e
      where
        of_text : (o : Option (ℕ × List Bool)) → answer (cut_in on s.peer.ends) ≡ o → text_message n on o ≡ Some message → PeerReported A me n true (message_in message) (cuts on s.peer)
        of_text None f e = absurd (cc e)
        of_text (Some t) f e =
            subst (λ (r : Result Message MessageFault). PeerReported A me n true r (cuts on s.peer)) (sym (text_read n on message t b u (cut-written on s.peer.ends t fine.good fine.well.ends f) e))
            (text_told A me n on t s.peer (is_quiet s.slots) long a b u z f (clear z) k fine.good known2)

    by : (slot : LinkSlot) → slot_at s.slots on ≡ slot → output_by slot n on s.peer ≡ Some message → PeerReported A me n (is_empty slot) (message_in message) (after_by slot on s.peer)
    by Slot.Empty q e = made (on == control_link) refl e
    by (Slot.Ready m) q e = again_reported A me n (message_in message) s.peer known1
    by (Slot.Travelling m) q e = absurd (cc e)
    by (Slot.Held m) q e = absurd (cc e)

peer_told : (ns : List ℕ) (me n : ℕ) (h : Host) (monitor : Monitor) (message : List Bool) (s : PeerState) (is : IsOut n message s) → Holds ns h → me < 256 → is_one_of me ns ≡ false → IsHostSaid (HostNote.Out message) h → state_of h n ≡ Some s
    → Follows me h monitor → AllReady h → AllSeen me h monitor → AllSpoken me h monitor → (n == me) ≡ false → (monitor_after_out (sees monitor me) me n is.on message).full ≡ false
    → PeerReported (monitor_after_out (sees monitor me) me n is.on message) me n (fresh_out (sees monitor me) me n is.on message) (message_in message) (after_by (slot_at s.slots is.on) is.on s.peer)
peer_told ns me n h monitor message s is k small away p there follows ready seen all other full =
    subst (λ (b : Bool). PeerReported A me n b (message_in message) (after_by (slot_at s.slots on) on s.peer)) (sym goes.fresh)
    (link_told A me n on message s long small num is.a_link (ready n s there).fine is.ready goes.busy goes.before (all.carries roomy n s there) shows known1 known2 goes.clear)
  where
    on : ℕ
    on = is.on

    A : Monitor
    A = monitor_after_out (sees monitor me) me n on message

    roomy : monitor.full ≡ false
    roomy = was_open me n on monitor message full

    goes : Goes me n on message s monitor
    goes = goes_on ns me n h monitor message s is k small away p there follows ready seen other full

    long : length A.views ≡ VIEWS
    long = out_long me n on monitor message ∙ seen.long

    num : n < 256
    num = (k.good n s there).0

    v : View
    v = view_in monitor.views me n

    noted : View
    noted = view_after_out v on (slot_of_link (sees monitor me) me n on) (same_of (sees monitor me) me n on message)

    noted_view : view_in A.views me n ≡ noted
    noted_view = ap (λ (x : List View). view_in x me n) (out_views me n on monitor message roomy) ∙ view_same monitor.views me n noted seen.long small num

    conn_tables : A.conn_tables ≡ next_number monitor.conn_tables
    conn_tables = out_tables (sees monitor me) me n on message

    known0 : A.conn_tables.full ≡ false → Spoken me n s.peer v A.conn_tables × Tidy A.conn_tables
    known0 f =
        let g = ap (λ (x : SeenTables). x.full) (sym conn_tables) ∙ f in
        (subst (λ (x : SeenTables). Spoken me n s.peer v x) (sym conn_tables) (numbered_spoken me n s.peer v monitor.conn_tables (all.spoken roomy g n s there)), subst Tidy (sym conn_tables) (all.tidy g))

    known1 : Known me n s.peer (view_in A.views me n) A.conn_tables
    known1 f =
        let z = known0 f in
        (subst (λ (x : View). Spoken me n s.peer x A.conn_tables) (sym noted_view) (spoken_as me n s.peer v noted A.conn_tables (λ r. suspended_more v.suspended (changes_slot (slot_of_link (sees monitor me) me n on) (same_of (sees monitor me) me n on message)) (suspended_more (v.suspended || changes_slot (slot_of_link (sees monitor me) me n on) (same_of (sees monitor me) me n on message)) (may_pass_reset v on) r)) refl refl z.0), z.1)

    known2 : Known me n s.peer (view_of A me n) A.conn_tables
    known2 f = let z = known1 f in (spoken_as me n s.peer (view_in A.views me n) (view_of A me n) A.conn_tables (λ r. r) refl refl z.0, z.1)

    follows_now : Follows me (after_note (HostNote.Out message) h) (after_record monitor ToImp me message)
    follows_now = after_out_of ns me n on h monitor message s k p is.leader other there follows

    keeps : Keeps A (after_record monitor ToImp me message)
    keeps = subst (λ (u : Monitor). Keeps A u) (sym (out_is monitor me n on message is.leader other)) (said_keeps A me n (turn_at A me n me true) (fresh_out (sees monitor me) me n on message) (message_in message))

    there_now : state_of (after_note (HostNote.Out message) h) n ≡ Some (after_output on message s)
    there_now =
        note-state ns (HostNote.Out message) h n k p
        ∙ ap (done (names n (HostNote.Out message)) (note_for (HostNote.Out message))) there
        ∙ ap (λ (r : Result Leader Short). Some (if is_this_number n (peer_of_leader r) then out_for r message s else s)) is.leader
        ∙ ap (λ (b : Bool). Some (if b then after_output on message s else s)) (itself n)

    after_shows : ShowsBusy me n A.kept (after_output on message s).slots
    after_shows =
        shows_busy me n A.kept (after_output on message s).slots
        (λ l. subst (λ (xs : List SentMessage). Shows (filter (is_of me n l) xs) (slot_at (after_output on message s).slots l)) keeps.0 ((follows_now (keeps.1 ∙ full)).agrees n (after_output on message s) there_now l))

    shows : (on == 0) ≡ true → ShowsBusy me n A.kept s.slots
    shows z l far =
        ap is_empty (sym (slot_at-with_slot_other s.slots on (Slot.Travelling message) l (λ e. let nay : true ≡ false = sym z ∙ ap (λ (j : ℕ). j == 0) (sym e) ∙ far in absurd (cc nay))))
        ∙ after_shows l far

-- ---- after too many messages were unacknowledged, nothing is reported of the phase, and nothing is
-- found in the flow

-- what is said reaches nothing
unreached : (me : ℕ) (busy : Option ℕ) (zero : Bool) (act : Act) (v : View) → v.told ≡ false → act_reaches (record { by = me; sent = true; busy = busy; zero = zero }) act v ≡ false
unreached me busy zero Reset v t = refl
unreached me busy zero Reply v t = refl
unreached me busy zero (Other what) v t = go v.told t
  where
    go : (x : Bool) → x ≡ false → (x && (not (is_early (record { by = me; sent = true; busy = busy; zero = zero }) what v) || is_acted_on (record { by = me; sent = true; busy = busy; zero = zero }) v) && not v.suspended && not (not true && awaits_reply v.host.wait)) ≡ false
    go true e = absurd (cc e)
    go false e = refl

record Silent (me : ℕ) (busy : Option ℕ) (flow : ObservedFlow) (kept : List SentMessage) (item : Result Command CommandFault) (v : View) (b : SeenTables) : Type 0 where
  none : flow_finding (record { by = me; sent = true; busy = busy; zero = false }) flow kept item v b ≡ None
  numbers : number_findings (record { by = me; sent = true; busy = busy; zero = false }) flow item v b ≡ []
  told : (after_item (record { by = me; sent = true; busy = busy; zero = false }) item v).told ≡ false

still_untold : (me : ℕ) (busy : Option ℕ) (v : View) → v.told ≡ false → ((view_after_reset (record { by = me; sent = true; busy = busy; zero = false }) v).told ≡ false) × ((view_after_reply (record { by = me; sent = true; busy = busy; zero = false }) v).told ≡ false)
still_untold me busy v t = (reset v.told t, answered v.told t)
  where
    context : MessageContext
    context = record { by = me; sent = true; busy = busy; zero = false }

    reset : (x : Bool) → x ≡ false → (if x || (false && not (is_answered_too_often v.host.wait)) then if true then after_reset_of_host context v else after_reset_of_peer context v else v).told ≡ false
    reset true e = absurd (cc e)
    reset false e = t

    answered : (x : Bool) → x ≡ false → (if x then if true then after_reply_of_host context v else after_reply_of_peer v else after_untold_reply context v).told ≡ false
    answered true e = absurd (cc e)
    answered false e = t

silent : (me : ℕ) (busy : Option ℕ) (flow : ObservedFlow) (kept : List SentMessage) (item : Result Command CommandFault) (v : View) (b : SeenTables) → v.told ≡ false → Silent me busy flow kept item v b
silent me busy flow kept item v b t = record {
  none = ap (λ (x : Bool). if x then option_map (broken_by context) (spoken_rule flow kept item b) else None) nothing;
  numbers = ap (λ (x : Bool). if x then map (broken_by context) (spoken_numbers flow item b) else []) nothing;
  told = untold (act_of item);
}
  where
    context : MessageContext
    context = record { by = me; sent = true; busy = busy; zero = false }

    nothing : act_reaches context (act_of item) v ≡ false
    nothing = unreached me busy false (act_of item) v t

    untold : (act : Act) → (after_act context act v).told ≡ false
    untold Reset = (still_untold me busy v t).0
    untold Reply = (still_untold me busy v t).1
    untold (Other what) = t

record AllSilent (me : ℕ) (busy : Option ℕ) (flow : ObservedFlow) (kept : List SentMessage) (items : List (Result Command CommandFault)) (v : View) (b : SeenTables) : Type 0 where
  none : said_findings (record { by = me; sent = true; busy = busy; zero = false }) flow kept items v b ≡ []
  told : (after_items (record { by = me; sent = true; busy = busy; zero = false }) items v).told ≡ false

all_silent : (me : ℕ) (busy : Option ℕ) (flow : ObservedFlow) (kept : List SentMessage) (items : List (Result Command CommandFault)) (v : View) (b : SeenTables) → v.told ≡ false → AllSilent me busy flow kept items v b
all_silent me busy flow kept [] v b t = record { none = refl; told = t }
all_silent me busy flow kept (item ∷ items) v b t =
    let context : MessageContext = record { by = me; sent = true; busy = busy; zero = false } in
    let one = silent me busy flow kept item v b t in
    let now = after_flow context flow kept item v b in
    let more = all_silent me busy flow kept items (after_item context item v) now one.told in
    record {
      none =
          ap (λ (o : Option Finding). option_to_list o ++ number_findings context flow item v b ++ said_findings context flow kept items (after_item context item v) now) one.none
          ∙ ap (λ (xs : List Finding). xs ++ said_findings context flow kept items (after_item context item v) now) one.numbers ∙ more.none;
      told = more.told;
    }

none_left_out : (me : ℕ) (busy : Option ℕ) (flow : ObservedFlow) (kept : List SentMessage) (room : Bool) (v : View) (b : SeenTables) → v.told ≡ false → left_out_findings (record { by = me; sent = true; busy = busy; zero = false }) flow kept room v b ≡ []
none_left_out me busy flow kept room v b t =
    ap (λ (x : Bool). option_to_list (if x then missing (record { by = me; sent = true; busy = busy; zero = false }) (reply_left_out flow.at flow.peer b) else None)
    ++ option_to_list (if x then missing (record { by = me; sent = true; busy = busy; zero = false }) (cls_left_out flow.at flow.peer kept b) else None)) (go room v.told t)
  where
    go : (r x : Bool) → x ≡ false → (true && r && x && not v.suspended && not b.full) ≡ false
    go r true e = absurd (cc e)
    go true false e = refl
    go false false e = refl

full_silent : (A : Monitor) (me n : ℕ) (fresh : Bool) (r : Result Message MessageFault) → A.full ≡ true → message_flow A me n me true fresh r ≡ []
full_silent A me n fresh (Err fault) full = refl
full_silent A me n fresh (Ok m) full = go fresh (message_class m)
  where
    busy : Option ℕ
    busy = busy_link me n A.kept

    flow : ObservedFlow
    flow = record { at = me; peer = n; sent = true }

    items : List (Result Command CommandFault)
    items = items_said m.text

    v : View
    v = view_of A me n

    told : v.told ≡ false
    told = and_not (view_in A.views me n).told A.full full

    k : AllSilent me busy flow A.kept items v A.conn_tables
    k = all_silent me busy flow A.kept items v A.conn_tables told

    said : Bool → List Finding
    said z =
        let context : MessageContext = record { by = me; sent = true; busy = busy; zero = z } in
        said_findings context flow A.kept items v A.conn_tables ++ left_out_findings context flow A.kept (shows_all m.text v) (after_items context items v) (after_talked context flow A.kept items v A.conn_tables)

    zero : knows_zero A me n ≡ false
    zero = ap (λ (x : Bool). not x && not (is_unknown (slot_of_link A me n 0))) full

    go : (x : Bool) (reading : MessageClass) → (if x then read_flow A me n me true m reading else []) ≡ []
    go false reading = refl
    go true Stop = refl
    go true Text =
        let context : MessageContext = record { by = me; sent = true; busy = busy; zero = knows_zero A me n } in
        ap (λ (x : Bool). if x then map (broken_by context) (text_rules flow m.leader.link m A.conn_tables) else []) (unreached me busy (knows_zero A me n) (Other ItemKind.Text) v told)
    go true Control =
        let context : MessageContext = record { by = me; sent = true; busy = busy; zero = false } in
        ap said zero
        ∙ ap (λ (xs : List Finding). xs ++ left_out_findings context flow A.kept (shows_all m.text v) (after_items context items v) (after_talked context flow A.kept items v A.conn_tables)) k.none
        ∙ none_left_out me busy flow A.kept (shows_all m.text v) (after_items context items v) (after_talked context flow A.kept items v A.conn_tables) k.told

-- ---- a message

pub out_unsaid : (ns : List ℕ) (me n : ℕ) (h : Host) (monitor : Monitor) (message : List Bool) (s : PeerState) (is : IsOut n message s) → Holds ns h → me < 256 → is_one_of me ns ≡ false → IsHostSaid (HostNote.Out message) h → state_of h n ≡ Some s
    → Follows me h monitor → AllReady h → AllSeen me h monitor → AllSpoken me h monitor → (n == me) ≡ false
    → message_flow (monitor_after_out (sees monitor me) me n is.on message) me n me true (fresh_out (sees monitor me) me n is.on message) (message_in message) ≡ []
out_unsaid ns me n h monitor message s is k small away p there follows ready seen all other = by (monitor_after_out (sees monitor me) me n is.on message).full refl
  where
    by : (b : Bool) → (monitor_after_out (sees monitor me) me n is.on message).full ≡ b → message_flow (monitor_after_out (sees monitor me) me n is.on message) me n me true (fresh_out (sees monitor me) me n is.on message) (message_in message) ≡ []
    by true full = full_silent (monitor_after_out (sees monitor me) me n is.on message) me n (fresh_out (sees monitor me) me n is.on message) (message_in message) full
    by false full = (peer_told ns me n h monitor message s is k small away p there follows ready seen all other full).none

pub out_talks : (ns : List ℕ) (me n : ℕ) (h : Host) (monitor : Monitor) (message : List Bool) (s : PeerState) (is : IsOut n message s) → Holds ns h → me < 256 → is_one_of me ns ≡ false → IsHostSaid (HostNote.Out message) h → state_of h n ≡ Some s
    → Follows me h monitor → AllReady h → AllSeen me h monitor → AllSpoken me h monitor → (n == me) ≡ false → AllSpoken me (after_note (HostNote.Out message) h) (after_record monitor ToImp me message)
out_talks ns me n h monitor message s is k small away p there follows ready seen all other =
    subst (λ (u : Monitor). AllSpoken me (after_note (HostNote.Out message) h) u) (sym (out_is monitor me n on message is.leader other)) (record { tidy = tidy; carries = carries; spoken = spoken })
  where
    on : ℕ
    on = is.on

    A : Monitor
    A = monitor_after_out (sees monitor me) me n on message

    fresh : Bool
    fresh = fresh_out (sees monitor me) me n on message

    now : Monitor
    now = after_said A me n (turn_at A me n me true) fresh (message_in message)

    conn_tables : A.conn_tables ≡ next_number monitor.conn_tables
    conn_tables = out_tables (sees monitor me) me n on message

    reads : Reads A.conn_tables now.conn_tables
    reads = said_reads A me n me true fresh (message_in message)

    roomy_before : now.conn_tables.full ≡ false → monitor.conn_tables.full ≡ false
    roomy_before f = ap (λ (x : SeenTables). x.full) (sym conn_tables) ∙ reads.room f

    open_out : now.full ≡ false → A.full ≡ false
    open_out full = sym (said_keeps A me n (turn_at A me n me true) fresh (message_in message)).1 ∙ full

    open_before : now.full ≡ false → monitor.full ≡ false
    open_before full = was_open me n on monitor message (open_out full)

    tidy : now.conn_tables.full ≡ false → Tidy now.conn_tables
    tidy f = reads.tidy f (subst Tidy (sym conn_tables) (all.tidy (roomy_before f)))

    become : (m : ℕ) (x t : PeerState) → t ≡ (if names m (HostNote.Out message) then note_for (HostNote.Out message) x else x) → t ≡ (if n == m then after_output on message x else x)
    become m x t e = e ∙ ap (λ (r : Result Leader Short). if is_this_number m (peer_of_leader r) then out_for r message x else x) is.leader

    one_peer : (m : ℕ) (x : PeerState) → state_of h m ≡ Some x → n ≡ m → x ≡ s
    one_peer m x e same = some_same (sym e ∙ ap (state_of h) (sym same) ∙ there)

    carries : now.full ≡ false → (m : ℕ) (t : PeerState) → state_of (after_note (HostNote.Out message) h) m ≡ Some t → Carries t.peer t.slots
    carries full m t e = go (was ns (HostNote.Out message) h m t k p e)
      where
        go : (x : PeerState) × (state_of h m ≡ Some x) × (t ≡ (if names m (HostNote.Out message) then note_for (HostNote.Out message) x else x)) → Carries t.peer t.slots
        go w = by (eqb_tells n m)
          where
            by : (((n == m) ≡ true) × (n ≡ m)) ⊎ (((n == m) ≡ false) × (n ≢ m)) → Carries t.peer t.slots
            by (inl same) =
                let c = all.carries (open_before full) n s there in
                let o = seen.each (open_before full) n s there in
                subst (λ (x : PeerState). Carries x.peer x.slots) (sym (become m w.0 t w.2 ∙ ap (λ (b : Bool). if b then after_output on message w.0 else w.0) same.0 ∙ ap (after_output on message) (one_peer m w.0 w.1 same.1)))
                (out_carries n on message s (ready n s there).fine.good.sound is.ready (sound-output on message s (sound_of s (is_quiet s.slots) (view_in monitor.views me n) c o.stands)).ends c)
            by (inr distinct_is) =
                subst (λ (x : PeerState). Carries x.peer x.slots) (sym (become m w.0 t w.2 ∙ ap (λ (b : Bool). if b then after_output on message w.0 else w.0) distinct_is.0)) (all.carries (open_before full) m w.0 w.1)

    spoken : now.full ≡ false → now.conn_tables.full ≡ false → (m : ℕ) (t : PeerState) → state_of (after_note (HostNote.Out message) h) m ≡ Some t → Spoken me m t.peer (view_in now.views me m) now.conn_tables
    spoken full f m t e = go (was ns (HostNote.Out message) h m t k p e)
      where
        go : (x : PeerState) × (state_of h m ≡ Some x) × (t ≡ (if names m (HostNote.Out message) then note_for (HostNote.Out message) x else x)) → Spoken me m t.peer (view_in now.views me m) now.conn_tables
        go w = by (eqb_tells n m)
          where
            by : (((n == m) ≡ true) × (n ≡ m)) ⊎ (((n == m) ≡ false) × (n ≢ m)) → Spoken me m t.peer (view_in now.views me m) now.conn_tables
            by (inl same) =
                subst (λ (x : PeerState). Spoken me m x.peer (view_in now.views me m) now.conn_tables) (sym (become m w.0 t w.2 ∙ ap (λ (b : Bool). if b then after_output on message w.0 else w.0) same.0 ∙ ap (after_output on message) (one_peer m w.0 w.1 same.1)))
                (subst (λ (j : ℕ). Spoken me j (after_output on message s).peer (view_in now.views me j) now.conn_tables) same.1
                ((peer_told ns me n h monitor message s is k small away p there follows ready seen all other (open_out full)).known f).0)
            by (inr distinct_is) =
                subst (λ (x : PeerState). Spoken me m x.peer (view_in now.views me m) now.conn_tables) (sym (become m w.0 t w.2 ∙ ap (λ (b : Bool). if b then after_output on message w.0 else w.0) distinct_is.0))
                (subst (λ (u : View). Spoken me m w.0.peer u now.conn_tables)
                (sym (said_other A me n m me true fresh (message_in message) (λ e. distinct_is.1 (sym e))
                ∙ ap (λ (x : List View). view_in x me m) (out_views me n on monitor message (open_before full))
                ∙ view_other monitor.views me n m (view_after_out (view_in monitor.views me n) on (slot_of_link (sees monitor me) me n on) (same_of (sees monitor me) me n on message)) (λ e. distinct_is.1 (sym e))))
                (spoken_alike me m w.0.peer (view_in monitor.views me m) A.conn_tables now.conn_tables (said_alikes A me n me true fresh (message_in message) me m (not_both me n m distinct_is.0))
                (subst (λ (x : SeenTables). Spoken me m w.0.peer (view_in monitor.views me m) x) (sym conn_tables) (numbered_spoken me m w.0.peer (view_in monitor.views me m) monitor.conn_tables (all.spoken (open_before full) (roomy_before f) m w.0 w.1)))))

-- ---- the beginning

pub talks_begin : (me : ℕ) (ns : List ℕ) → AllSpoken me (new_host me ns) (new_monitor false)
talks_begin me ns = record {
  tidy = λ f. tidy_begins;
  carries = λ full n s e. subst (λ (x : PeerState). Carries x.peer x.slots) (sym (is_new ns n s e)) (carries_begins sound-new.ends);
  spoken = λ full f n s e.
      subst (λ (x : PeerState). Spoken me n x.peer (view_in (new_monitor false).views me n) (new_monitor false).conn_tables) (sym (is_new ns n s e))
      (record { owed = λ r a o. (refl, (refl, refl)); unmade = λ r o. (refl, (refl, refl)); waits = λ a. (refl, (refl, refl)); tells = λ r z u. absurd (cc u) });
}
  where
    is_new : (ns : List ℕ) (n : ℕ) (s : PeerState) → state_of (new_host me ns) n ≡ Some s → s ≡ new_state
    is_new [] n s e = absurd (cc e)
    is_new (m ∷ ns) n s e = go (m == n) (is_new ns n s) e
      where
        go : (b : Bool) → (state_of (new_host me ns) n ≡ Some s → s ≡ new_state) → (if b then Some new_state else state_of (new_host me ns) n) ≡ Some s → s ≡ new_state
        go true rest e = let is : new_state ≡ s = cc e in sym is
        go false rest e = rest e
