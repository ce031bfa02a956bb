-- In the file of two hosts with the subnet between them nothing is found.
use Rattle.std.proofs.Common.{◌≡◌, ◌≢◌, inl, inr, ℕ, ◌<◌, ◌==◌, Bool, true, false, if◌then◌else◌, List, [], ◌∷◌, ◌++◌, length, drop, All, Option, None, Some, Ok, refl, sym, ap, ◌∙◌, subst, arith}
use Rattle.std.proofs.lemmas.Bool.{ne_eqb, eqb-true}
use Rattle.ncp_numbers.specs.Bytes.{bits_of_bytes}
use Rattle.ncp_leader.specs.Leader.{leader_in}
use Rattle.ncp_leader.specs.Message.{message_in, message_with}
use Rattle.ncp_wire.specs.declared.command.Command.{Command}
use Rattle.ncp_wire.specs.Spelling.{IsCommand, spellings}
use Rattle.ncp_slot.specs.declared.slot.Slot.{Slot}
use Rattle.ncp_slot.specs.Slot.{is_empty, kept_message, answered, woken}
use Rattle.ncp_slot.specs.Slots.{LinkSlot, slot_at, is_quiet}
use Rattle.ncp_subnet.specs.Messages.{arriving, answering}
use Rattle.ncp_subnet.specs.Transit.{is_accepted, answer_kind}
use Rattle.ncp_subnet.specs.Ways.{OnLink}
use Rattle.ncp_subnet.specs.Subnet.{Subnet, transit_at, with_transit}
use Rattle.ncp_model.specs.Effect.{answer}
use Rattle.ncp_model.specs.Ends.{cut_in}
use Rattle.ncp_model.specs.Sending.{next_commands}
use Rattle.ncp_model.specs.declared.limits.TheConstants.{MAX_CONTROL}
use Rattle.ncp_model.proofs.ResetLists.{others}
use Rattle.ncp_proof_runs.proofs.MadeOfRuns.{next-first}
use Rattle.ncp_proof_runs.specs.Peers.{names, note_for}
use Rattle.ncp_proof_runs.proofs.HostRuns.{some_same}
use Rattle.ncp_slot.specs.Slots.{no_slots}
use Rattle.ncp_slot.proofs.Places.{slot_at-no_slots, is_quiet-tells}
use Rattle.ncp_peer.specs.PeerState.{PeerState, new_state, answer_comes}
use Rattle.ncp_peer.specs.Hearing.{answer_of}
use Rattle.ncp_peer.specs.Hearing.{is_wrong_link}
use Rattle.ncp_host.specs.Host.{Host, numbers_of, state_of}
use Rattle.ncp_transcript_two.proofs.Comings.{small}
use Rattle.ncp_peer.specs.Output.{leader_to, message_to, control_message, text_message, output_by, after_next, after_output}
use Rattle.ncp_host.specs.Turns.{next_output, after_next_output}
use Rattle.ncp_transcript.specs.declared.input.Input.{Input}
use Rattle.ncp_transcript.specs.declared.call.Call.{Call}
use Rattle.ncp_transcript.specs.declared.note.HostNote.{HostNote}
use Rattle.ncp_transcript.specs.After.{after_note}
use Rattle.ncp_transcript.specs.Noting.{note_of_message, note_of_output, note_of_bits}
use Rattle.ncp_transcript.specs.Runs.{IsHostSaid}
use Rattle.ncp_transcript.proofs.Saying.{noted_said}
use Rattle.ncp_transcript_two.specs.Subnet.{Holds, Free, Accepted, Delivered, Lost, Dead, from_host, answer_bits}
use Rattle.ncp_transcript_two.specs.World.{World, swap, state_after_received}
use Rattle.ncp_transcript_two.specs.Tie.{AreCommands, IsText, control_bits, IsOfModel}
use Rattle.ncp_transcript_two.specs.Underway.{commands_of, not_come, commands_out}
use Rattle.ncp_transcript_two.specs.declared.side.Side.TheVariants.{A}
use Rattle.ncp_transcript_two.specs.declared.event.Event.{Event}
use Rattle.ncp_transcript_two.specs.declared.note.Move.{Move}
use Rattle.ncp_transcript_two.specs.declared.note.Note.{Note}
use Rattle.ncp_transcript_two.specs.Between.{Hosts, new_hosts, transit_of, hosts_after_note}
use Rattle.ncp_transcript_two.specs.Happening.{IsCalled, note_of_coming, note_of_answering, note_of_out, note_of_delivery, note_of_loss, note_of_death, note_of_answer}
use Rattle.ncp_transcript_two.specs.Seen.{state_or_new, had_for, seen}
use Rattle.ncp_transcript_two.proofs.OnePeer.{has-peer, had-changed, had-sent, noted-answer}
use Rattle.ncp_transcript_two.proofs.Flights.{delivered-out, lost-out, dead-out}
use Rattle.ncp_transcript_two.proofs.SeenSteps.{seen_with}
use Rattle.ncp_transcript_two.proofs.SeenRuns.{counterpart}
use Rattle.ncp_transcript_two.proofs.Well.{cut-written}
use Rattle.ncp_transcript_two.proofs.Written.{read, from_host-message, control_text, answer_leader}
use Rattle.ncp_monitor.specs.declared.finding.Finding.{Finding}
use Rattle.ncp_monitor.specs.declared.monitor.Monitor.{Monitor}
use Rattle.ncp_monitor.specs.declared.view.ObservedPhase.{ObservedPhase}
use Rattle.ncp_monitor.specs.declared.view.View.{View}
use Rattle.ncp_monitor.specs.declared.views.TheConstants.{VIEWS}
use Rattle.ncp_interface.specs.declared.imp_direction.ImpDirection.TheVariants.{ToImp, FromImp}
use Rattle.ncp_monitor.specs.Messages.{judged_bits, rule_of_message}
use Rattle.ncp_monitor.specs.Tables.{index_of, view_in}
use Rattle.ncp_monitor.specs.Views.{awaits_reply, new_view}
use Rattle.ncp_monitor.specs.Phases.{early_finding, items_findings, after_items}
use Rattle.ncp_monitor.specs.declared.finding.ItemKind.{ItemKind}
use Rattle.ncp_control.specs.Texts.{items_of}
use Rattle.ncp_monitor.specs.Judged.{new_monitor, sees, unsent_finding, record_findings, after_record}
use Rattle.ncp_monitor.proofs.Passing.{Pass, both}
use Rattle.ncp_proof_monitor.specs.Recordings.{is_of_messages_and_phase}
use Rattle.ncp_proof_monitor.specs.Worlds.{comes_to, goes_from, world_file}
use Rattle.ncp_proof_monitor.proofs.Talking.{empty_pass}
use Rattle.ncp_proof_monitor.proofs.Fresh.{not_quiet}
use Rattle.ncp_proof_monitor.proofs.HostSlots.{is_of_call, call_noted, empty_woken, call_leaves, was}
use Rattle.ncp_proof_monitor.proofs.Laid.{weighs, fitting_all}
use Rattle.ncp_proof_monitor.proofs.Others.{other_leaves}
use Rattle.ncp_proof_monitor.proofs.PhaseLists.{itself, replicated}
use Rattle.ncp_proof_monitor.proofs.PhaseSeen.{Seen, quiet_same}
use Rattle.ncp_proof_monitor.proofs.PhaseSteps.{Unheard, none_heard}
use Rattle.ncp_proof_monitor.proofs.ReadyPeers.{Ready}
use Rattle.ncp_proof_monitor_messages.specs.Files.{findings_in, NothingFound}
use Rattle.ncp_proof_monitor_messages.proofs.Quiet.{phase_quiet, none_by}
use Rattle.ncp_proof_monitor_messages.proofs.Walk.{Shows, Steps, AllPass, all_pass}
use Rattle.ncp_proof_monitor_messages.proofs.Sides.{OfA, both_sides}
use Rattle.ncp_proof_monitor_messages.proofs.Ways.{Ways, turned_ways, ways_out, Comes_in, ways_in, Told, ways_answer, ways_lost, ways_dead, new_ways}
use Rattle.ncp_proof_monitor_messages.proofs.Between.{Joined, turned_joined, joined_after, Leaves, leaves, Written, written, comes_led, comes_near, AnswerLed, answer_leads, new_joined}
use Rattle.ncp_proof_monitor_messages.proofs.PeerSeen.{Beside, AllHeard, all_heard, in_time}
use Rattle.ncp_proof_monitor_messages.proofs.Counts.{Counts, counts, line}
use Rattle.ncp_proof_monitor_messages.proofs.Bare.{noted, resets_heard}
use Rattle.ncp_proof_monitor_messages.proofs.Toward.{Opens, Toward, nothing_else}
use Rattle.ncp_proof_monitor_messages.proofs.AsRead.{control_of, laid_alike}
use Rattle.ncp_proof_monitor_messages.proofs.OwnSide.{At, Went, came, elsewhere}
use Rattle.ncp_proof_monitor_messages.proofs.OwnSide
use Rattle.ncp_proof_monitor_messages.proofs.OwnOut.{Alike, beside_alike, again, commands_go, text_goes}
use Rattle.ncp_proof_monitor_messages.proofs.OwnOut
use Rattle.ncp_proof_monitor_messages.proofs.Moves.{Keeps, this_called, that_called, goes_on, again_there, again_here, text_there, text_here, commands_read, commands_there, commands_here}
use Rattle.ncp_proof_monitor_messages.proofs.Arrivals.{goes_lost, lost_there, lost_here, is_told, reported_there, told_here, comes_on, before_all, still_all, calm_all, starts_all, heard_there, heard_here, began_before, no_wait, text_heard_there, text_heard_here}
use Rattle.ncp_proof_monitor_messages.proofs.Coming.{Control, control, Text, a_text, received_slots, came_to}
use Rattle.ncp_proof_monitor_messages.proofs.Meets.{HeardSo, commands_come, text_comes}

pub record Both (w : Hosts) (monitor : Monitor) : Type 0 where
  pub joined : Joined w
  pub ways : Ways w.number_a w.number_b w.subnet monitor
  pub at_a : At w.number_a w.number_b w.a monitor
  pub at_b : At w.number_b w.number_a w.b monitor
  -- each is seen at the interface of the other
  pub of_a : monitor.full ≡ false → Toward (seen w) (view_in monitor.views w.number_b w.number_a) (view_in monitor.views w.number_a w.number_b).host.began
  pub of_b : monitor.full ≡ false → Toward (swap (seen w)) (view_in monitor.views w.number_a w.number_b) (view_in monitor.views w.number_b w.number_a).host.began

pub turn_both : (w : Hosts) (monitor : Monitor) → Both w monitor → Both (counterpart w) monitor
turn_both w monitor k = record {
  joined = turned_joined w k.joined;
  ways = turned_ways w.number_a w.number_b w.subnet monitor k.ways;
  at_a = k.at_b;
  at_b = k.at_a;
  of_a = k.of_b;
  of_b = k.of_a;
}

as_all : (found : List Finding) → Pass phase_quiet found → Pass phase_quiet (found ++ [])
as_all found p = both phase_quiet found [] p refl

module _ (w : Hosts) (monitor : Monitor) (k : Both w monitor) where
  abbrev pub s : PeerState
  s = had_for w.number_b w.a

  pub there : state_of w.a w.number_b ≡ Some s
  there = has-peer w.number_b w.a k.joined.stand.a

  pub own_seen : monitor.full ≡ false → Seen s (view_in monitor.views w.number_a w.number_b)
  own_seen f = k.at_a.watched.seen.each f w.number_b s there

  pub a_b : (w.number_a == w.number_b) ≡ false
  a_b = ne_eqb w.number_a w.number_b k.joined.stand.differ

  pub b_a : (w.number_b == w.number_a) ≡ false
  b_a = ne_eqb w.number_b w.number_a (λ e. k.joined.stand.differ (sym e))

  pub is_ready : Ready s
  is_ready = k.at_a.ready w.number_b s there

  pub counts_now : Counts (seen w)
  counts_now = counts (seen w) k.joined.model

  pub counts_back : Counts (swap (seen w))
  counts_back = counts (swap (seen w)) (turned_joined w k.joined).model

-- ---- calls

pub kept_by : (me n : ℕ) (h : Host) (note : HostNote) (monitor : Monitor) → numbers_of h.peers ≡ n ∷ [] → numbers_of (after_note note h).peers ≡ n ∷ [] → IsHostSaid note h → is_of_call note ≡ true → At me n h monitor → Keeps (had_for n h) (had_for n (after_note note h))
kept_by me n h note monitor before now said c k =
    let x = was (n ∷ []) note h n (had_for n (after_note note h)) k.holds said (has-peer n (after_note note h) now) in
    let same : x.0 ≡ had_for n h = some_same (sym x.1 ∙ has-peer n h before) in
    subst (λ (t : PeerState). Keeps (had_for n h) t) (sym x.2)
    (subst (λ (t : PeerState). Keeps t (if names n note then note_for note x.0 else x.0)) same (by x.0 (k.ready n x.0 x.1) (names n note)))
  where
    woken_line : (y : LinkSlot) (t : Holds) → not_come (woken y) t ≡ not_come y t
    woken_line Slot.Empty t = refl
    woken_line (Slot.Ready m) t = refl
    woken_line (Slot.Travelling m) t = refl
    woken_line (Slot.Held m) t = refl

    by : (t : PeerState) → Ready t → (b : Bool) → Keeps t (if b then note_for note t else t)
    by t r false = record { line = λ h. refl; unheard = λ u. u; quiet = refl }
    by t r true = record {
      line = λ h. elim (call_leaves note c t 0) [
        | inl e ↦ ap (λ (y : LinkSlot). not_come y h) e
        | inr e ↦ ap (λ (y : LinkSlot). not_come y h) e ∙ woken_line (slot_at t.slots 0) h
      ];
      unheard = λ u. noted note t c r.fine.good u;
      quiet = quiet_same (note_for note t).slots t.slots (λ l z. elim (call_leaves note c t l) [
        | inl e ↦ ap is_empty e
        | inr e ↦ ap is_empty e ∙ empty_woken (slot_at t.slots l)
      ]);
    }

called : (w : Hosts) (monitor : Monitor) (call : Call) (note : Note) → IsCalled A call note w → Both w monitor → Both (hosts_after_note note w) monitor
called w monitor call note n k = subst (λ (x : Note). Both (hosts_after_note x w) monitor) (sym n.said) now
  where
    h : HostNote
    h = n.of_host

    j : Joined (hosts_after_note (Note.Called A h) w)
    j = joined_after (Event.Call A call) (Note.Called A h) w (record { of_host = h; said = refl; noted = n.noted; fits = n.fits }) k.joined

    keeps : Keeps (had_for w.number_b w.a) (had_for w.number_b (after_note h w.a))
    keeps = kept_by w.number_a w.number_b w.a h monitor k.joined.stand.a j.stand.a (noted_said (Input.Call call) h w.a n.noted) (call_noted call h w.a n.noted) k.at_a

    now : Both (hosts_after_note (Note.Called A h) w) monitor
    now = record {
      joined = j;
      ways = k.ways;
      at_a = OwnSide.called w.number_a w.number_b w.a monitor call h n.noted n.fits k.at_a;
      at_b = k.at_b;
      of_a = λ f. this_called (seen w) (had_for w.number_b (after_note h w.a)) (view_in monitor.views w.number_b w.number_a) (view_in monitor.views w.number_a w.number_b).host.began keeps (k.of_a f);
      of_b = λ f. that_called (swap (seen w)) (had_for w.number_b (after_note h w.a)) (view_in monitor.views w.number_a w.number_b) (view_in monitor.views w.number_b w.number_a).host.began keeps
          (counts_back w monitor k) (counts (swap (seen (hosts_after_note (Note.Called A h) w))) (turned_joined (hosts_after_note (Note.Called A h) w) j).model) (k.of_b f);
    }

-- ---- a message is sent

-- what the commands that go out say, and that there are some
pub control_said : (n : ℕ) (cs : List Command) (m : List Bool) → control_message n cs ≡ Some m → (m ≡ control_bits n cs) × (cs ≡ [] → ⊥)
control_said n [] m e = absurd (cc)
control_said n (c ∷ cs) m e = let is : control_bits n (c ∷ cs) ≡ m = cc in (sym is, λ x. absurd (cc x))

-- the two sides of it
record Pair (w : Hosts) (on : ℕ) (m : List Bool) (there after : View) (began : Bool) : Type 0 where
  of_a : Toward (goes_on on m (seen w)) there after.host.began
  of_b : Toward (swap (goes_on on m (seen w))) after began

module _ (w : Hosts) (monitor : Monitor) (k : Both w monitor) (m : List Bool) (full : (after_record monitor ToImp w.number_a m).full ≡ false) where
  open_before : monitor.full ≡ false
  open_before = (other_leaves w.number_b w.number_a ToImp m monitor (a_b w monitor k)).full full

  abbrev mine : View
  mine = view_in monitor.views w.number_a w.number_b

  abbrev theirs : View
  theirs = view_in monitor.views w.number_b w.number_a

  abbrev now : View
  now = view_in (after_record monitor ToImp w.number_a m).views w.number_a w.number_b

  abbrev p_seen : Seen (s w monitor k) mine
  p_seen = own_seen w monitor k open_before

  T_a : Toward (seen w) theirs mine.host.began
  T_a = k.of_a open_before

  T_b : Toward (swap (seen w)) mine theirs.host.began
  T_b = k.of_b open_before

  paired : (on : ℕ) → leader_in m ≡ Ok (leader_to w.number_b on) → output_by (slot_at (s w monitor k).slots on) w.number_b on (s w monitor k).peer ≡ Some m → (r : List Bool) → slot_at (s w monitor k).slots on ≡ Slot.Ready r
      → Pair w on m theirs now theirs.host.began
  paired on led ready r q =
      let st = s w monitor k in
      let same : r ≡ m = some_same (ap (λ (x : LinkSlot). output_by x w.number_b on st.peer) (sym q) ∙ ready) in
      let is : slot_at st.slots on ≡ Slot.Ready m = q ∙ ap (λ (x : List Bool). Slot.Ready x) same in
      let a = again w.number_a w.number_b on m (slot_at st.slots on) st.peer monitor (b_a w monitor k) k.joined.stand.fits_a k.joined.stand.fits_b k.ways.sound.long led ready p_seen.stands.phased.told p_seen.stands.phased.known
      (λ f. (k.at_a.watched.follows f).agrees w.number_b st (there w monitor k) on) full (ap is_empty q) in
      record {
        of_a = again_there on m (seen w) theirs mine.host.began now.host.began is (ap (λ (x : ObservedPhase). x.began) a.host) T_a;
        of_b = again_here on m (seen w) mine now theirs.host.began is a T_b;
      }

  zero_pair : leader_in m ≡ Ok (leader_to w.number_b 0) → output_by (slot_at (s w monitor k).slots 0) w.number_b 0 (s w monitor k).peer ≡ Some m → Pair w 0 m theirs now theirs.host.began
  zero_pair led ready = by (slot_at (s w monitor k).slots 0) refl
    where
      by : (slot : LinkSlot) → slot_at (s w monitor k).slots 0 ≡ slot → Pair w 0 m theirs now theirs.host.began
      by (Slot.Ready r) q = paired 0 led ready r q
      by (Slot.Travelling r) q = let nay : None ≡ Some m = ap (λ (x : LinkSlot). output_by x w.number_b 0 (s w monitor k).peer) (sym q) ∙ ready in absurd (cc)
      by (Slot.Held r) q = let nay : None ≡ Some m = ap (λ (x : LinkSlot). output_by x w.number_b 0 (s w monitor k).peer) (sym q) ∙ ready in absurd (cc)
      by Slot.Empty q =
          let st = s w monitor k in
          let cs : List Command = next_commands st.peer.phase.waiting in
          let c = control_said w.number_b cs m (ap (λ (x : LinkSlot). output_by x w.number_b 0 st.peer) (sym q) ∙ ready) in
          let each : All IsCommand cs = fitting_all MAX_CONTROL st.peer.phase.waiting (is_ready w monitor k).fine.well.waiting in
          let fits : AreCommands cs = (each, weighs MAX_CONTROL st.peer.phase.waiting) in
          let reads : message_in m ≡ Ok (control_of w.number_b cs) = ap message_in c.0 ∙ read w.number_b 0 8 (bits_of_bytes (spellings cs)) k.joined.stand.fits_b (omega arith) (control_text cs fits) in
          let slot : LinkSlot = slot_at st.slots 0 in
          let sent = commands_go w.number_a w.number_b 0 m slot st.peer monitor (b_a w monitor k) k.joined.stand.fits_a k.joined.stand.fits_b k.ways.sound.long led ready p_seen.stands.phased.told p_seen.stands.phased.known
          (λ f. (k.at_a.watched.follows f).agrees w.number_b st (there w monitor k) 0) full cs (drop (length cs) st.peer.phase.waiting) (ap is_empty q) each reads (sym (next-first st.peer.phase.waiting)) T_b.beside in
          let first = OwnOut.before w.number_a w.number_b 0 m slot st.peer monitor (b_a w monitor k) k.joined.stand.fits_a k.joined.stand.fits_b k.ways.sound.long led ready p_seen.stands.phased.told p_seen.stands.phased.known (λ f. (k.at_a.watched.follows f).agrees w.number_b st (there w monitor k) 0) full in
          let gone = ap commands_of c.0 ∙ commands_read w.number_b cs k.joined.stand.fits_b fits in
          record {
            of_a = commands_there m (seen w) cs gone refl q theirs mine now.host.began (is_quiet st.slots) (counts_now w monitor k) c.1 p_seen.stands.phased T_a;
            of_b = commands_here m (seen w) cs gone refl q mine _ now theirs.host.began (is_quiet st.slots) (counts_back w monitor k) p_seen.stands.phased first sent T_b;
          }

  other_pair : (on : ℕ) → (on == 0) ≡ false → is_wrong_link on ≡ false → leader_in m ≡ Ok (leader_to w.number_b on) → output_by (slot_at (s w monitor k).slots on) w.number_b on (s w monitor k).peer ≡ Some m → Pair w on m theirs now theirs.host.began
  other_pair on z right led ready = by (slot_at (s w monitor k).slots on) refl
    where
      st : PeerState
      st = had_for w.number_b w.a

      by_text : (o : Option (ℕ × List Bool)) → answer (cut_in on st.peer.ends) ≡ o → text_message w.number_b on o ≡ Some m → slot_at st.slots on ≡ Slot.Empty → Pair w on m theirs now theirs.host.began
      by_text None f e q = absurd (cc)
      by_text (Some t) f e q =
          let fits : IsText t.0 t.1 = cut-written on st.peer.ends t (is_ready w monitor k).fine.good (is_ready w monitor k).fine.well.ends f in
          let is : message_to w.number_b on t.0 t.1 ≡ m = cc in
          let reads : message_in m ≡ Ok (message_with (leader_to w.number_b on) t.0 t.1) = ap message_in (sym is) ∙ read w.number_b on t.0 t.1 k.joined.stand.fits_b (small on right) fits in
          let a = text_goes w.number_a w.number_b on m (slot_at st.slots on) st.peer monitor (b_a w monitor k) k.joined.stand.fits_a k.joined.stand.fits_b k.ways.sound.long led ready p_seen.stands.phased.told p_seen.stands.phased.known
          (λ g. (k.at_a.watched.follows g).agrees w.number_b st (there w monitor k) on) full t.0 t.1 (ap is_empty q) right z reads in
          record {
            of_a = text_there on m (seen w) theirs mine.host.began now.host.began t z f T_a;
            of_b = text_here on m (seen w) mine now theirs.host.began (is_quiet st.slots) t q z f p_seen.stands a T_b;
          }

      by : (slot : LinkSlot) → slot_at st.slots on ≡ slot → Pair w on m theirs now theirs.host.began
      by (Slot.Ready r) q = paired on led ready r q
      by (Slot.Travelling r) q = let nay : None ≡ Some m = ap (λ (x : LinkSlot). output_by x w.number_b on st.peer) (sym q) ∙ ready in absurd (cc)
      by (Slot.Held r) q = let nay : None ≡ Some m = ap (λ (x : LinkSlot). output_by x w.number_b on st.peer) (sym q) ∙ ready in absurd (cc)
      by Slot.Empty q =
          by_text (answer (cut_in on st.peer.ends)) refl
          (sym (ap (λ (b : Bool). if b then control_message w.number_b (next_commands st.peer.phase.waiting) else text_message w.number_b on (answer (cut_in on st.peer.ends))) z) ∙ ap (λ (x : LinkSlot). output_by x w.number_b on st.peer) (sym q) ∙ ready) q

  a_pair : (l : Leaves w m) → Pair w l.on m theirs now theirs.host.began
  a_pair l = go (l.on == 0) refl
    where
      go : (b : Bool) → (l.on == 0) ≡ b → Pair w l.on m theirs now theirs.host.began
      go true z =
          subst (λ (j : ℕ). leader_in m ≡ Ok (leader_to w.number_b j) → output_by (slot_at (s w monitor k).slots j) w.number_b j (s w monitor k).peer ≡ Some m → Pair w j m theirs now theirs.host.began) (sym (eqb-true l.on 0 z)) zero_pair l.led l.ready
      go false z = other_pair l.on z l.right l.led l.ready

went : (w : Hosts) (monitor : Monitor) → Both w monitor → Shows phase_quiet Both (goes_from w.number_a (note_of_output w.a)) (hosts_after_note (note_of_out A w) w) monitor
went w monitor k = go (next_output w.a) refl (joined_after (Event.Out A) (note_of_out A w) w refl k.joined)
  where
    go : (o : Option (List Bool)) → next_output w.a ≡ o → Joined (hosts_after_note (Note.Out A (note_of_message (next_output w.a))) w) → Shows phase_quiet Both (goes_from w.number_a (note_of_message (next_output w.a))) (hosts_after_note (Note.Out A (note_of_message (next_output w.a))) w) monitor
    go None q j = subst (λ (o : Option (List Bool)). Shows phase_quiet Both (goes_from w.number_a (note_of_message o)) (hosts_after_note (Note.Out A (note_of_message o)) w) monitor) (sym q) (refl, k)
    go (Some m) q j =
        subst (λ (o : Option (List Bool)). Shows phase_quiet Both (goes_from w.number_a (note_of_message o)) (hosts_after_note (Note.Out A (note_of_message o)) w) monitor) (sym q)
        (as_all (record_findings monitor ToImp w.number_a m) out.none, known)
      where
        l : Leaves w m
        l = leaves w m k.joined q

        out : Went w.number_a w.number_b w.a m monitor
        out = OwnSide.went w.number_a w.number_b w.a monitor m (b_a w monitor k) k.joined.stand.fits_a q k.at_a

        is : seen (hosts_after_note (Note.Out A (HostNote.Out m)) w) ≡ goes_on l.on m (seen w)
        is =
            ap (λ (x : Subnet). (let y : Hosts = record w { a = after_next_output w.a; subnet = x } in seen y)) l.takes
            ∙ seen_with w k.joined.stand.differ l.on (Accepted m) (after_next_output w.a) w.b (after_output l.on m (had_for w.number_b w.a)) (had_for w.number_a w.b)
            (had-sent w.number_b w.a k.joined.stand.a ∙ ap (λ (o : Option (ℕ × List Bool)). after_next o (had_for w.number_b w.a)) l.next) refl

        far : view_in (after_record monitor ToImp w.number_a m).views w.number_b w.number_a ≡ view_in monitor.views w.number_b w.number_a
        far = (other_leaves w.number_b w.number_a ToImp m monitor (a_b w monitor k)).views w.number_a k.joined.stand.fits_a

        known : Both (hosts_after_note (Note.Out A (HostNote.Out m)) w) (after_record monitor ToImp w.number_a m)
        known = record {
          joined = subst (λ (o : Option (List Bool)). Joined (hosts_after_note (Note.Out A (note_of_message o)) w)) q j;
          ways =
              subst (λ (x : Subnet). Ways w.number_a w.number_b x (after_record monitor ToImp w.number_a m)) (sym l.takes)
              (ways_out w.number_a w.number_b l.on m w.subnet monitor k.joined.stand.differ k.joined.stand.fits_a k.joined.stand.fits_b l.led l.free k.ways);
          at_a = out.at;
          at_b = elsewhere w.number_b w.number_a w.number_a ToImp m w.b monitor (a_b w monitor k) k.at_b;
          of_a = λ f.
              subst (λ (x : World). Toward x (view_in (after_record monitor ToImp w.number_a m).views w.number_b w.number_a) (view_in (after_record monitor ToImp w.number_a m).views w.number_a w.number_b).host.began) (sym is)
              (subst (λ (x : View). Toward (goes_on l.on m (seen w)) x (view_in (after_record monitor ToImp w.number_a m).views w.number_a w.number_b).host.began) (sym far) (a_pair w monitor k m f l).of_a);
          of_b = λ f.
              subst (λ (x : World). Toward (swap x) (view_in (after_record monitor ToImp w.number_a m).views w.number_a w.number_b) (view_in (after_record monitor ToImp w.number_a m).views w.number_b w.number_a).host.began) (sym is)
              (subst (λ (x : View). Toward (swap (goes_on l.on m (seen w))) (view_in (after_record monitor ToImp w.number_a m).views w.number_a w.number_b) x.host.began) (sym far) (a_pair w monitor k m f l).of_b);
        }

-- ---- it comes

-- what is found in it, and the two sides after it
record Come (w : Hosts) (monitor : Monitor) (on : ℕ) (bits : List Bool) : Type 0 where
  none : Pass phase_quiet (record_findings monitor FromImp w.number_b bits)
  of_a : monitor.full ≡ false → Toward (comes_on on (state_after_received bits (had_for w.number_a w.b)) (seen w)) (view_in (after_record monitor FromImp w.number_b bits).views w.number_b w.number_a) (view_in monitor.views w.number_a w.number_b).host.began
  of_b : monitor.full ≡ false → Toward (swap (comes_on on (state_after_received bits (had_for w.number_a w.b)) (seen w))) (view_in monitor.views w.number_a w.number_b) (view_in (after_record monitor FromImp w.number_b bits).views w.number_b w.number_a).host.began

module _ (w : Hosts) (monitor : Monitor) (k : Both w monitor) (m : List Bool) where
  -- the layout
  pub laid_on : (on size : ℕ) (text : List Bool) → IsText size text → on < 256 → m ≡ message_to w.number_b on size text → slot_at (had_for w.number_b w.a).slots on ≡ Slot.Travelling m → rule_of_message (message_in (from_host w.number_a m)) on (judged_bits (message_in (from_host w.number_a m)) (from_host w.number_a m)) ≡ None
  laid_on on size text fits few is slot =
      let whole : rule_of_message (message_in m) on (judged_bits (message_in m) m) ≡ None = ((is_ready w monitor k).kept on m (ap kept_message slot)).0 in
      let was : rule_of_message (message_in (message_to w.number_b on size text)) on (judged_bits (message_in (message_to w.number_b on size text)) (message_to w.number_b on size text)) ≡ None = subst (λ (x : List Bool). rule_of_message (message_in x) on (judged_bits (message_in x) x) ≡ None) is whole in
      let same : from_host w.number_a m ≡ message_to w.number_a on size text = ap (from_host w.number_a) is ∙ from_host-message w.number_a w.number_b on size text in
      subst (λ (x : List Bool). rule_of_message (message_in x) on (judged_bits (message_in x) x) ≡ None) (sym same) (laid_alike w.number_b w.number_a on size text k.joined.stand.fits_b k.joined.stand.fits_a few fits was)

  pub reads_as : (on size : ℕ) (text : List Bool) → IsText size text → on < 256 → m ≡ message_to w.number_b on size text → message_in (from_host w.number_a m) ≡ Ok (message_with (leader_to w.number_a on) size text)
  reads_as on size text fits few is = ap (λ (x : List Bool). message_in (from_host w.number_a x)) is ∙ ap message_in (from_host-message w.number_a w.number_b on size text) ∙ read w.number_a on size text k.joined.stand.fits_a few fits

  abbrev mine_now : View
  mine_now = view_in monitor.views w.number_a w.number_b

  abbrev theirs_now : View
  theirs_now = view_in monitor.views w.number_b w.number_a

  come_zero : leader_in (from_host w.number_a m) ≡ Ok (leader_to w.number_a 0) → transit_at w.subnet w.number_a w.number_b 0 ≡ Accepted m → unsent_finding (sees monitor w.number_b) w.number_b w.number_a 0 (from_host w.number_a m) ≡ None → Counts (comes_on 0 (state_after_received (from_host w.number_a m) (had_for w.number_a w.b)) (seen w))
      → Come w monitor 0 (from_host w.number_a m)
  come_zero led e sent d = record { none = met.0; of_a = λ f. to_a f (met.1 f); of_b = λ f. to_b f (met.1 f) }
    where
      c : Control w m
      c = control w m k.joined e

      fits : IsText 8 (bits_of_bytes (spellings c.cs))
      fits = control_text c.cs c.fits

      reads : message_in (from_host w.number_a m) ≡ Ok (control_of w.number_a c.cs)
      reads = reads_as 0 8 (bits_of_bytes (spellings c.cs)) fits (omega arith) c.is

      laid : rule_of_message (message_in (from_host w.number_a m)) 0 (judged_bits (message_in (from_host w.number_a m)) (from_host w.number_a m)) ≡ None
      laid = laid_on 0 8 (bits_of_bytes (spellings c.cs)) fits (omega arith) c.is c.slot

      line_is : line (seen w).this (seen w).going ≡ c.cs
      line_is =
          ap (λ (x : LinkSlot). commands_out (not_come x ((seen w).going 0))) c.slot ∙ ap (λ (h : Holds). commands_out (not_come (Slot.Travelling m) h)) e
          ∙ ap commands_of c.is ∙ commands_read w.number_b c.cs k.joined.stand.fits_b c.fits

      to_slots : (state_after_received (from_host w.number_a m) (had_for w.number_a w.b)).slots ≡ (had_for w.number_a w.b).slots
      to_slots = received_slots w.number_a 0 (from_host w.number_a m) (had_for w.number_a w.b) led

      heard : monitor.full ≡ false → (x : View) (b : Option ℕ) (z : Bool) → Alike (view_in monitor.views w.number_b w.number_a) x
          → AllHeard c.cs (seen w).this.peer.phase (line (seen w).that (seen w).coming) (seen w).this.peer.phase.waiting x (after_items (record { by = w.number_a; sent = false; busy = b; zero = z }) (items_of c.cs None) x) (items_findings (record { by = w.number_a; sent = false; busy = b; zero = z }) (items_of c.cs None) x)
      heard f x b z a =
          let t = k.of_a f in
          all_heard w.number_a b z c.cs (seen w).this.peer.phase.waiting (seen w).this.peer.phase (line (seen w).that (seen w).coming) x
          (before_all m c.cs (state_after_received (from_host w.number_a m) (had_for w.number_a w.b)) (seen w) to_slots c.slot line_is x (counts_now w monitor k) (beside_alike (seen w).that.peer.phase (view_in monitor.views w.number_b w.number_a) x a t.beside))
          (still_all m c.cs (state_after_received (from_host w.number_a m) (had_for w.number_a w.b)) (seen w) to_slots c.slot line_is (counts_now w monitor k))
          (λ y. calm_all m c.cs (state_after_received (from_host w.number_a m) (had_for w.number_a w.b)) (seen w) to_slots c.slot line_is (nothing_else (seen w) (view_in monitor.views w.number_b w.number_a) mine_now.host.began (counts_now w monitor k) t (ap (λ (p : ObservedPhase). awaits_reply p.wait) (sym a.peer) ∙ y)))
          (λ y. starts_all m c.cs (state_after_received (from_host w.number_a m) (had_for w.number_a w.b)) (seen w) to_slots c.slot line_is (view_in monitor.views w.number_b w.number_a) mine_now.host.began t (ap (λ (p : ObservedPhase). p.began) (sym a.peer) ∙ y))

      met : Pass phase_quiet (record_findings monitor FromImp w.number_b (from_host w.number_a m)) × (monitor.full ≡ false → HeardSo c.cs (seen w).this.peer.phase (line (seen w).that (seen w).coming) (seen w).this.peer.phase.waiting (view_in monitor.views w.number_b w.number_a) (view_in (after_record monitor FromImp w.number_b (from_host w.number_a m)).views w.number_b w.number_a))
      met =
          commands_come w.number_b w.number_a 0 (from_host w.number_a m) (control_of w.number_a c.cs) monitor (a_b w monitor k) k.joined.stand.fits_b k.joined.stand.fits_a k.ways.sound.long led reads laid sent c.cs
          (seen w).this.peer.phase (line (seen w).that (seen w).coming) (seen w).this.peer.phase.waiting c.fits.0 refl (λ f. (k.of_a f).beside.told) heard

      to_a : monitor.full ≡ false → HeardSo c.cs (seen w).this.peer.phase (line (seen w).that (seen w).coming) (seen w).this.peer.phase.waiting (view_in monitor.views w.number_b w.number_a) (view_in (after_record monitor FromImp w.number_b (from_host w.number_a m)).views w.number_b w.number_a)
          → Toward (comes_on 0 (state_after_received (from_host w.number_a m) (had_for w.number_a w.b)) (seen w)) (view_in (after_record monitor FromImp w.number_b (from_host w.number_a m)).views w.number_b w.number_a) (view_in monitor.views w.number_a w.number_b).host.began
      to_a f h =
          heard_there m c.cs (state_after_received (from_host w.number_a m) (had_for w.number_a w.b)) (seen w) to_slots c.slot line_is (view_in monitor.views w.number_b w.number_a) h.first
          (view_in (after_record monitor FromImp w.number_b (from_host w.number_a m)).views w.number_b w.number_a) mine_now.host.began h.found d h.alike h.all (k.of_a f)

      to_b : monitor.full ≡ false → HeardSo c.cs (seen w).this.peer.phase (line (seen w).that (seen w).coming) (seen w).this.peer.phase.waiting (view_in monitor.views w.number_b w.number_a) (view_in (after_record monitor FromImp w.number_b (from_host w.number_a m)).views w.number_b w.number_a)
          → Toward (swap (comes_on 0 (state_after_received (from_host w.number_a m) (had_for w.number_a w.b)) (seen w))) (view_in monitor.views w.number_a w.number_b) (view_in (after_record monitor FromImp w.number_b (from_host w.number_a m)).views w.number_b w.number_a).host.began
      to_b f h =
          heard_here m c.cs (state_after_received (from_host w.number_a m) (had_for w.number_a w.b)) (seen w) to_slots c.slot line_is (view_in monitor.views w.number_a w.number_b) theirs_now.host.began
          (view_in (after_record monitor FromImp w.number_b (from_host w.number_a m)).views w.number_b w.number_a).host.began (h.all.host ∙ ap (λ (y : ObservedPhase). y.began) h.alike.host)
          (λ o u. subst (λ (y : PeerState). Unheard y.peer.ends) (sym c.heard) (resets_heard c.cs (had_for w.number_a w.b) o u)) (k.of_b f)

  come_text : (on : ℕ) → (on == 0) ≡ false → leader_in (from_host w.number_a m) ≡ Ok (leader_to w.number_a on) → on < 256 → transit_at w.subnet w.number_a w.number_b on ≡ Accepted m → unsent_finding (sees monitor w.number_b) w.number_b w.number_a on (from_host w.number_a m) ≡ None
      → Counts (comes_on on (state_after_received (from_host w.number_a m) (had_for w.number_a w.b)) (seen w)) → Come w monitor on (from_host w.number_a m)
  come_text on z led few e sent d = record { none = met.0; of_a = λ f. to_a f (met.1 f); of_b = λ f. to_b f }
    where
      c : Text w on m
      c = a_text w on m z k.joined e

      reads : message_in (from_host w.number_a m) ≡ Ok (message_with (leader_to w.number_a on) c.size c.text)
      reads = reads_as on c.size c.text c.fits few c.is

      laid : rule_of_message (message_in (from_host w.number_a m)) on (judged_bits (message_in (from_host w.number_a m)) (from_host w.number_a m)) ≡ None
      laid = laid_on on c.size c.text c.fits few c.is c.slot

      to_slots : (state_after_received (from_host w.number_a m) (had_for w.number_a w.b)).slots ≡ (had_for w.number_a w.b).slots
      to_slots = received_slots w.number_a on (from_host w.number_a m) (had_for w.number_a w.b) led

      busy : monitor.full ≡ false → is_quiet (had_for w.number_b w.a).slots ≡ false
      busy f = not_quiet (had_for w.number_b w.a) on (own_seen w monitor k f).used z (ap is_empty c.slot)

      early : monitor.full ≡ false → (x : View) (b : Option ℕ) (y : Bool) → Alike (view_in monitor.views w.number_b w.number_a) x → early_finding (record { by = w.number_a; sent = false; busy = b; zero = y }) ItemKind.Text x ≡ None
      early f x b y a =
          in_time w.number_a b y ItemKind.Text x
          (ap (λ (p : ObservedPhase). p.began) a.peer ∙ began_before on (state_after_received (from_host w.number_a m) (had_for w.number_a w.b)) (seen w) z to_slots (busy f) (view_in monitor.views w.number_b w.number_a) mine_now.host.began (k.of_a f))
          (ap (λ (p : ObservedPhase). awaits_reply p.wait) a.peer
          ∙ no_wait on (state_after_received (from_host w.number_a m) (had_for w.number_a w.b)) (seen w) z to_slots (busy f) (view_in monitor.views w.number_b w.number_a) (view_in monitor.views w.number_a w.number_b) mine_now.host.began (counts_now w monitor k)
          (own_seen w monitor k f).stands.phased (k.of_b f).beside (k.of_a f))

      met : Pass phase_quiet (record_findings monitor FromImp w.number_b (from_host w.number_a m)) × (monitor.full ≡ false → Alike (view_in monitor.views w.number_b w.number_a) (view_in (after_record monitor FromImp w.number_b (from_host w.number_a m)).views w.number_b w.number_a))
      met =
          text_comes w.number_b w.number_a on (from_host w.number_a m) (message_with (leader_to w.number_a on) c.size c.text) monitor (a_b w monitor k) k.joined.stand.fits_b k.joined.stand.fits_a k.ways.sound.long led reads laid sent
          c.right z (λ f. (k.of_a f).beside.told) early

      to_a : monitor.full ≡ false → Alike (view_in monitor.views w.number_b w.number_a) (view_in (after_record monitor FromImp w.number_b (from_host w.number_a m)).views w.number_b w.number_a)
          → Toward (comes_on on (state_after_received (from_host w.number_a m) (had_for w.number_a w.b)) (seen w)) (view_in (after_record monitor FromImp w.number_b (from_host w.number_a m)).views w.number_b w.number_a) (view_in monitor.views w.number_a w.number_b).host.began
      to_a f a =
          text_heard_there on (state_after_received (from_host w.number_a m) (had_for w.number_a w.b)) (seen w) z to_slots (busy f) (view_in monitor.views w.number_b w.number_a)
          (view_in (after_record monitor FromImp w.number_b (from_host w.number_a m)).views w.number_b w.number_a) mine_now.host.began (counts_now w monitor k) d a (k.of_a f)

      to_b : monitor.full ≡ false → Toward (swap (comes_on on (state_after_received (from_host w.number_a m) (had_for w.number_a w.b)) (seen w))) (view_in monitor.views w.number_a w.number_b) (view_in (after_record monitor FromImp w.number_b (from_host w.number_a m)).views w.number_b w.number_a).host.began
      to_b f =
          text_heard_here on (state_after_received (from_host w.number_a m) (had_for w.number_a w.b)) (seen w) z to_slots (busy f) (view_in monitor.views w.number_a w.number_b) theirs_now.host.began
          (view_in (after_record monitor FromImp w.number_b (from_host w.number_a m)).views w.number_b w.number_a).host.began (k.of_b f)

  comes : (on : ℕ) → leader_in (from_host w.number_a m) ≡ Ok (leader_to w.number_a on) → on < 256 → transit_at w.subnet w.number_a w.number_b on ≡ Accepted m → unsent_finding (sees monitor w.number_b) w.number_b w.number_a on (from_host w.number_a m) ≡ None
      → Counts (comes_on on (state_after_received (from_host w.number_a m) (had_for w.number_a w.b)) (seen w)) → Come w monitor on (from_host w.number_a m)
  comes on led few e sent d = go (on == 0) refl
    where
      go : (b : Bool) → (on == 0) ≡ b → Come w monitor on (from_host w.number_a m)
      go false z = come_text on z led few e sent d
      go true z =
          (subst (λ (j : ℕ). leader_in (from_host w.number_a m) ≡ Ok (leader_to w.number_a j) → transit_at w.subnet w.number_a w.number_b j ≡ Accepted m → unsent_finding (sees monitor w.number_b) w.number_b w.number_a j (from_host w.number_a m) ≡ None
          → Counts (comes_on j (state_after_received (from_host w.number_a m) (had_for w.number_a w.b)) (seen w)) → Come w monitor j (from_host w.number_a m)) (sym (eqb-true on 0 z)) come_zero) led e sent d

arrived : (w : Hosts) (monitor : Monitor) (link : ℕ) → Both w monitor → Shows phase_quiet Both (comes_to w.number_b (arriving w.number_a (transit_of A link w))) (hosts_after_note (note_of_delivery A link w) w) monitor
arrived w monitor link k = go (transit_of A link w) refl (joined_after (Event.Deliver A link) (note_of_delivery A link w) w refl k.joined)
  where
    As : OnLink → Type 0
    As h = Shows phase_quiet Both (comes_to w.number_b (arriving w.number_a h)) (hosts_after_note (note_of_coming A link (arriving w.number_a h) w) w) monitor

    go : (h : OnLink) → transit_of A link w ≡ h → Joined (hosts_after_note (note_of_delivery A link w) w) → As (transit_of A link w)
    go Free q j = subst As (sym q) (refl, k)
    go Delivered q j = subst As (sym q) (refl, k)
    go Lost q j = subst As (sym q) (refl, k)
    go Dead q j = subst As (sym q) (refl, k)
    go (Accepted m) q j = subst As (sym q) (as_all (record_findings monitor FromImp w.number_b (from_host w.number_a m)) come.none, known)
      where
        r : Written w link m
        r = written w link m k.joined q

        led : leader_in (from_host w.number_a m) ≡ Ok (leader_to w.number_a link)
        led = comes_led w link m k.joined r

        way : Comes_in w.number_a w.number_b link (from_host w.number_a m) w.subnet monitor
        way = ways_in w.number_a w.number_b link m (from_host w.number_a m) w.subnet monitor k.joined.stand.differ k.joined.stand.fits_a k.joined.stand.fits_b led q (comes_near w link m r) k.ways

        joined : Joined (hosts_after_note (Note.Came A link (note_of_bits (from_host w.number_a m) w.b)) w)
        joined = subst (λ (h : OnLink). Joined (hosts_after_note (note_of_coming A link (arriving w.number_a h) w) w)) q j

        is : seen (hosts_after_note (Note.Came A link (note_of_bits (from_host w.number_a m) w.b)) w) ≡ comes_on link (state_after_received (from_host w.number_a m) (had_for w.number_a w.b)) (seen w)
        is =
            seen_with w k.joined.stand.differ link Delivered w.a (after_note (note_of_bits (from_host w.number_a m) w.b) w.b) (had_for w.number_b w.a) (state_after_received (from_host w.number_a m) (had_for w.number_a w.b)) refl
            (came_to w link (from_host w.number_a m) k.joined led)

        come : Come w monitor link (from_host w.number_a m)
        come = comes w monitor k m link led r.few q way.sent (counts (comes_on link (state_after_received (from_host w.number_a m) (had_for w.number_a w.b)) (seen w)) (subst IsOfModel is joined.model))

        far : view_in (after_record monitor FromImp w.number_b (from_host w.number_a m)).views w.number_a w.number_b ≡ view_in monitor.views w.number_a w.number_b
        far = (other_leaves w.number_a w.number_b FromImp (from_host w.number_a m) monitor (b_a w monitor k)).views w.number_b k.joined.stand.fits_b

        open_before : (after_record monitor FromImp w.number_b (from_host w.number_a m)).full ≡ false → monitor.full ≡ false
        open_before f = (other_leaves w.number_a w.number_b FromImp (from_host w.number_a m) monitor (b_a w monitor k)).full f

        known : Both (hosts_after_note (Note.Came A link (note_of_bits (from_host w.number_a m) w.b)) w) (after_record monitor FromImp w.number_b (from_host w.number_a m))
        known = record {
          joined = joined;
          ways = way.ways;
          at_a = elsewhere w.number_a w.number_b w.number_b FromImp (from_host w.number_a m) w.a monitor (b_a w monitor k) k.at_a;
          at_b = came w.number_b w.number_a w.b monitor (from_host w.number_a m) (a_b w monitor k) k.joined.stand.fits_b k.at_b;
          of_a = λ f.
              subst (λ (x : World). Toward x (view_in (after_record monitor FromImp w.number_b (from_host w.number_a m)).views w.number_b w.number_a) (view_in (after_record monitor FromImp w.number_b (from_host w.number_a m)).views w.number_a w.number_b).host.began) (sym is)
              (subst (λ (x : View). Toward (comes_on link (state_after_received (from_host w.number_a m) (had_for w.number_a w.b)) (seen w)) (view_in (after_record monitor FromImp w.number_b (from_host w.number_a m)).views w.number_b w.number_a) x.host.began) (sym far) (come.of_a (open_before f)));
          of_b = λ f.
              subst (λ (x : World). Toward (swap x) (view_in (after_record monitor FromImp w.number_b (from_host w.number_a m)).views w.number_a w.number_b) (view_in (after_record monitor FromImp w.number_b (from_host w.number_a m)).views w.number_b w.number_a).host.began) (sym is)
              (subst (λ (x : View). Toward (swap (comes_on link (state_after_received (from_host w.number_a m) (had_for w.number_a w.b)) (seen w))) x (view_in (after_record monitor FromImp w.number_b (from_host w.number_a m)).views w.number_b w.number_a).host.began) (sym far) (come.of_b (open_before f)));
        }

-- ---- it is lost, or its destination is dead

-- an accepted message is in its slot
pub out_slot : (w : Hosts) (link : ℕ) (m : List Bool) → Joined w → transit_at w.subnet w.number_a w.number_b link ≡ Accepted m → slot_at (had_for w.number_b w.a).slots link ≡ Slot.Travelling m
out_slot w link m k e = go (link == 0) refl
  where
    go : (b : Bool) → (link == 0) ≡ b → slot_at (had_for w.number_b w.a).slots link ≡ Slot.Travelling m
    go true z =
        subst (λ (j : ℕ). transit_at w.subnet w.number_a w.number_b j ≡ Accepted m → slot_at (had_for w.number_b w.a).slots j ≡ Slot.Travelling m) (sym (eqb-true link 0 z)) (λ f. (control w m k f).slot) e
    go false z = (a_text w link m z k e).slot

lose_with : (w : Hosts) (monitor : Monitor) (link : ℕ) (m : List Bool) (as_what : Holds) → Both w monitor → transit_of A link w ≡ Accepted m → not_come (Slot.Travelling m) as_what ≡ Some m
    → Joined (record w { subnet = with_transit w.subnet w.number_a w.number_b link as_what }) → Ways w.number_a w.number_b (with_transit w.subnet w.number_a w.number_b link as_what) monitor
    → Both (record w { subnet = with_transit w.subnet w.number_a w.number_b link as_what }) monitor
lose_with w monitor link m as_what k e l j ways = record {
  joined = j;
  ways = ways;
  at_a = k.at_a;
  at_b = k.at_b;
  of_a = λ f.
      subst (λ (x : World). Toward x (view_in monitor.views w.number_b w.number_a) (view_in monitor.views w.number_a w.number_b).host.began) (sym is)
      (lost_there link m as_what (seen w) slot e l (view_in monitor.views w.number_b w.number_a) (view_in monitor.views w.number_a w.number_b).host.began (k.of_a f));
  of_b = λ f.
      subst (λ (x : World). Toward (swap x) (view_in monitor.views w.number_a w.number_b) (view_in monitor.views w.number_b w.number_a).host.began) (sym is)
      (lost_here link m as_what (seen w) slot e l (view_in monitor.views w.number_a w.number_b) (view_in monitor.views w.number_b w.number_a).host.began (k.of_b f));
}
  where
    slot : slot_at (had_for w.number_b w.a).slots link ≡ Slot.Travelling m
    slot = out_slot w link m k.joined e

    is : seen (record w { subnet = with_transit w.subnet w.number_a w.number_b link as_what }) ≡ goes_lost link as_what (seen w)
    is = seen_with w k.joined.stand.differ link as_what w.a w.b (had_for w.number_b w.a) (had_for w.number_a w.b) refl refl

lost : (w : Hosts) (monitor : Monitor) (link : ℕ) → Both w monitor → Both (hosts_after_note (note_of_loss A link w) w) monitor
lost w monitor link k = go (transit_of A link w) refl (joined_after (Event.Lose A link) (note_of_loss A link w) w refl k.joined)
  where
    go : (h : OnLink) → transit_of A link w ≡ h → Joined (hosts_after_note (if is_accepted (transit_of A link w) then Note.Lost A link else Note.Nothing A link Move.Lose) w)
        → Both (hosts_after_note (if is_accepted (transit_of A link w) then Note.Lost A link else Note.Nothing A link Move.Lose) w) monitor
    go Free q j = subst (λ (h : OnLink). Both (hosts_after_note (if is_accepted h then Note.Lost A link else Note.Nothing A link Move.Lose) w) monitor) (sym q) k
    go Delivered q j = subst (λ (h : OnLink). Both (hosts_after_note (if is_accepted h then Note.Lost A link else Note.Nothing A link Move.Lose) w) monitor) (sym q) k
    go Lost q j = subst (λ (h : OnLink). Both (hosts_after_note (if is_accepted h then Note.Lost A link else Note.Nothing A link Move.Lose) w) monitor) (sym q) k
    go Dead q j = subst (λ (h : OnLink). Both (hosts_after_note (if is_accepted h then Note.Lost A link else Note.Nothing A link Move.Lose) w) monitor) (sym q) k
    go (Accepted m) q j =
        subst (λ (h : OnLink). Both (hosts_after_note (if is_accepted h then Note.Lost A link else Note.Nothing A link Move.Lose) w) monitor) (sym q)
        (lose_with w monitor link m Lost k q refl (subst (λ (h : OnLink). Joined (hosts_after_note (if is_accepted h then Note.Lost A link else Note.Nothing A link Move.Lose) w)) q j)
        (ways_lost w.number_a w.number_b link m w.subnet monitor k.joined.stand.differ q k.ways))

died : (w : Hosts) (monitor : Monitor) (link : ℕ) → Both w monitor → Both (hosts_after_note (note_of_death A link w) w) monitor
died w monitor link k = go (transit_of A link w) refl (joined_after (Event.Dead A link) (note_of_death A link w) w refl k.joined)
  where
    go : (h : OnLink) → transit_of A link w ≡ h → Joined (hosts_after_note (if is_accepted (transit_of A link w) then Note.FoundDead A link else Note.Nothing A link Move.Dead) w)
        → Both (hosts_after_note (if is_accepted (transit_of A link w) then Note.FoundDead A link else Note.Nothing A link Move.Dead) w) monitor
    go Free q j = subst (λ (h : OnLink). Both (hosts_after_note (if is_accepted h then Note.FoundDead A link else Note.Nothing A link Move.Dead) w) monitor) (sym q) k
    go Delivered q j = subst (λ (h : OnLink). Both (hosts_after_note (if is_accepted h then Note.FoundDead A link else Note.Nothing A link Move.Dead) w) monitor) (sym q) k
    go Lost q j = subst (λ (h : OnLink). Both (hosts_after_note (if is_accepted h then Note.FoundDead A link else Note.Nothing A link Move.Dead) w) monitor) (sym q) k
    go Dead q j = subst (λ (h : OnLink). Both (hosts_after_note (if is_accepted h then Note.FoundDead A link else Note.Nothing A link Move.Dead) w) monitor) (sym q) k
    go (Accepted m) q j =
        subst (λ (h : OnLink). Both (hosts_after_note (if is_accepted h then Note.FoundDead A link else Note.Nothing A link Move.Dead) w) monitor) (sym q)
        (lose_with w monitor link m Dead k q refl (subst (λ (h : OnLink). Joined (hosts_after_note (if is_accepted h then Note.FoundDead A link else Note.Nothing A link Move.Dead) w)) q j)
        (ways_dead w.number_a w.number_b link m w.subnet monitor k.joined.stand.differ q k.ways))

-- ---- it is answered

-- what is in transit, and how its host is answered
pub record Reported_how (w : Hosts) (link kind : ℕ) : Type 0 where
  pub h : Holds
  pub m : List Bool
  pub is : transit_at w.subnet w.number_a w.number_b link ≡ h
  pub slot : slot_at (had_for w.number_b w.a).slots link ≡ Slot.Travelling m
  pub same : not_come (answered (answer_of kind) (Slot.Travelling m)) Free ≡ not_come (Slot.Travelling m) h

pub reported_how : (w : Hosts) (link kind : ℕ) → Joined w → answer_kind (transit_at w.subnet w.number_a w.number_b link) ≡ Some kind → Reported_how w link kind
reported_how w link kind k e = go (transit_at w.subnet w.number_a w.number_b link) refl e
  where
    go : (h : OnLink) → transit_at w.subnet w.number_a w.number_b link ≡ h → answer_kind h ≡ Some kind → Reported_how w link kind
    go Free q e = absurd (cc)
    go (Accepted m) q e = absurd (cc)
    go Delivered q e =
        let is : 5 ≡ kind = cc in
        let o = delivered-out link k.model.0 (seen w) k.model.1 q in
        subst (Reported_how w link) is (record { h = Delivered; m = o.message; is = q; slot = o.in_slot; same = refl })
    go Lost q e =
        let is : 9 ≡ kind = cc in
        let o = lost-out link k.model.0 (seen w) k.model.1 q in
        subst (Reported_how w link) is (record { h = Lost; m = o.message; is = q; slot = o.in_slot; same = refl })
    go Dead q e =
        let is : 7 ≡ kind = cc in
        let o = dead-out link k.model.0 (seen w) k.model.1 q in
        subst (Reported_how w link) is (record { h = Dead; m = o.message; is = q; slot = o.in_slot; same = refl })

told : (w : Hosts) (monitor : Monitor) (link : ℕ) → Both w monitor → Shows phase_quiet Both (comes_to w.number_a (answering w.number_b link (answer_kind (transit_of A link w)))) (hosts_after_note (note_of_answer A link w) w) monitor
told w monitor link k = go (answer_kind (transit_of A link w)) refl (joined_after (Event.Answer A link) (note_of_answer A link w) w refl k.joined)
  where
    As : Option ℕ → Type 0
    As o = Shows phase_quiet Both (comes_to w.number_a (answering w.number_b link o)) (hosts_after_note (note_of_answering A link (answering w.number_b link o) w) w) monitor

    go : (o : Option ℕ) → answer_kind (transit_of A link w) ≡ o → Joined (hosts_after_note (note_of_answer A link w) w) → As (answer_kind (transit_of A link w))
    go None q j = subst As (sym q) (refl, k)
    go (Some kind) q j = subst As (sym q) (as_all (record_findings monitor FromImp w.number_a (answer_bits kind w.number_b link)) (empty_pass phase_quiet (record_findings monitor FromImp w.number_a (answer_bits kind w.number_b link)) way.none), known)
      where
        l : AnswerLed w link kind
        l = answer_leads w link kind k.joined q

        t : Reported_how w link kind
        t = reported_how w link kind k.joined q

        way : Told w.number_a w.number_b link (answer_bits kind w.number_b link) w.subnet monitor
        way = ways_answer w.number_a w.number_b link kind (answer_bits kind w.number_b link) w.subnet monitor k.joined.stand.differ k.joined.stand.fits_a l.led l.not_regular l.is_one q k.ways

        joined : Joined (hosts_after_note (Note.Answered A link (note_of_bits (answer_bits kind w.number_b link) w.a)) w)
        joined = subst (λ (o : Option ℕ). Joined (hosts_after_note (note_of_answering A link (answering w.number_b link o) w) w)) q j

        state : had_for w.number_b (after_note (note_of_bits (answer_bits kind w.number_b link) w.a) w.a) ≡ answer_comes link (answer_of kind) (had_for w.number_b w.a)
        state =
            ap (λ (n : HostNote). had_for w.number_b (after_note n w.a)) (noted-answer w.a (answer_bits kind w.number_b link) (answer_leader kind w.number_b link) k.joined.stand.a l.led l.is_one)
            ∙ had-changed w.number_b (answer_comes link (answer_of kind)) w.a k.joined.stand.a

        is : seen (hosts_after_note (Note.Answered A link (note_of_bits (answer_bits kind w.number_b link) w.a)) w) ≡ is_told link (answer_of kind) (seen w)
        is =
            seen_with w k.joined.stand.differ link Free (after_note (note_of_bits (answer_bits kind w.number_b link) w.a) w.a) w.b (answer_comes link (answer_of kind) (had_for w.number_b w.a)) (had_for w.number_a w.b) state refl

        far : view_in (after_record monitor FromImp w.number_a (answer_bits kind w.number_b link)).views w.number_b w.number_a ≡ view_in monitor.views w.number_b w.number_a
        far = (other_leaves w.number_b w.number_a FromImp (answer_bits kind w.number_b link) monitor (a_b w monitor k)).views w.number_a k.joined.stand.fits_a

        near : view_in (after_record monitor FromImp w.number_a (answer_bits kind w.number_b link)).views w.number_a w.number_b ≡ view_in monitor.views w.number_a w.number_b
        near = way.views w.number_a w.number_b

        open_before : (after_record monitor FromImp w.number_a (answer_bits kind w.number_b link)).full ≡ false → monitor.full ≡ false
        open_before f = (other_leaves w.number_b w.number_a FromImp (answer_bits kind w.number_b link) monitor (a_b w monitor k)).full f

        busy : monitor.full ≡ false → (link == 0) ≡ false → is_quiet (had_for w.number_b w.a).slots ≡ false
        busy f z = not_quiet (had_for w.number_b w.a) link (own_seen w monitor k f).used z (ap is_empty t.slot)

        known : Both (hosts_after_note (Note.Answered A link (note_of_bits (answer_bits kind w.number_b link) w.a)) w) (after_record monitor FromImp w.number_a (answer_bits kind w.number_b link))
        known = record {
          joined = joined;
          ways = way.ways;
          at_a = came w.number_a w.number_b w.a monitor (answer_bits kind w.number_b link) (b_a w monitor k) k.joined.stand.fits_a k.at_a;
          at_b = elsewhere w.number_b w.number_a w.number_a FromImp (answer_bits kind w.number_b link) w.b monitor (a_b w monitor k) k.at_b;
          of_a = λ f.
              subst (λ (x : World). Toward x (view_in (after_record monitor FromImp w.number_a (answer_bits kind w.number_b link)).views w.number_b w.number_a) (view_in (after_record monitor FromImp w.number_a (answer_bits kind w.number_b link)).views w.number_a w.number_b).host.began) (sym is)
              (subst (λ (x : View). Toward (is_told link (answer_of kind) (seen w)) x (view_in (after_record monitor FromImp w.number_a (answer_bits kind w.number_b link)).views w.number_a w.number_b).host.began) (sym far)
              (subst (λ (x : View). Toward (is_told link (answer_of kind) (seen w)) (view_in monitor.views w.number_b w.number_a) x.host.began) (sym near)
              (reported_there link t.m (answer_of kind) t.h (seen w) t.slot t.is t.same (busy (open_before f)) (view_in monitor.views w.number_b w.number_a) (view_in monitor.views w.number_a w.number_b).host.began (k.of_a (open_before f)))));
          of_b = λ f.
              subst (λ (x : World). Toward (swap x) (view_in (after_record monitor FromImp w.number_a (answer_bits kind w.number_b link)).views w.number_a w.number_b) (view_in (after_record monitor FromImp w.number_a (answer_bits kind w.number_b link)).views w.number_b w.number_a).host.began) (sym is)
              (subst (λ (x : View). Toward (swap (is_told link (answer_of kind) (seen w))) (view_in (after_record monitor FromImp w.number_a (answer_bits kind w.number_b link)).views w.number_a w.number_b) x.host.began) (sym far)
              (subst (λ (x : View). Toward (swap (is_told link (answer_of kind) (seen w))) x (view_in monitor.views w.number_b w.number_a).host.began) (sym near)
              (told_here link t.m (answer_of kind) t.h (seen w) t.slot t.is t.same (busy (open_before f)) (view_in monitor.views w.number_a w.number_b) (view_in monitor.views w.number_b w.number_a).host.began (counts_back w monitor k)
              (counts (swap (is_told link (answer_of kind) (seen w))) (subst (λ (x : World). IsOfModel (swap x)) is (turned_joined (hosts_after_note (Note.Answered A link (note_of_bits (answer_bits kind w.number_b link) w.a)) w) joined).model)) (k.of_b (open_before f)))));
        }

sides : OfA phase_quiet Both
sides = record { call = called; out = went; deliver = arrived; lose = lost; die = died; answer = told }

-- each event of the two
pub each_step : Steps phase_quiet Both
each_step = both_sides phase_quiet Both turn_both sides

-- ---- the beginning

pub new_seen : (i : ℕ) (j : ℕ) → view_in (new_monitor false).views i j ≡ new_view false
new_seen i j = replicated VIEWS (index_of i j) (new_view false)

new_toward : (v : World) (there here : View) → v.this ≡ new_state → v.that ≡ new_state → there ≡ new_view false → here ≡ new_view false → Toward v there here.host.began
new_toward v there here p q e f =
    subst (λ (x : View). Toward v x here.host.began) (sym e)
    (subst (λ (x : View). Toward v (new_view false) x.host.began) (sym f)
    (record {
      beside = subst (λ (s : PeerState). Beside s.peer.phase (new_view false)) (sym q) (record { told = refl; waits = refl; mandatory = refl; asked = refl; own = refl; own_sure = refl; unborn = λ x. refl; alone = λ x y. absurd (cc y) });
      calm = λ x. absurd (cc x);
      bare = λ x. record { unheard = subst (λ (s : PeerState). Unheard s.peer.ends) (sym p) none_heard; this_quiet = quiet p; that_quiet = quiet q; none = ap others (empty v.that v.coming q) };
      opens = λ x. subst (λ (xs : List Command). Opens xs false) (sym (empty v.this v.going p)) refl;
    }))
  where
    empty : (s : PeerState) (u : ℕ → Holds) → s ≡ new_state → line s u ≡ []
    empty s u e = ap (λ (x : LinkSlot). commands_out (not_come x (u 0))) (ap (λ (x : PeerState). slot_at x.slots 0) e ∙ slot_at-no_slots 0)

    quiet : {s : PeerState} → s ≡ new_state → is_quiet s.slots ≡ true
    quiet e = ap (λ (x : PeerState). is_quiet x.slots) e ∙ (is_quiet-tells no_slots).1 (λ l a b. slot_at-no_slots l)

pub new_had : (n : ℕ) → state_or_new (if n == n then Some new_state else None) ≡ new_state
new_had n = ap (λ (b : Bool). state_or_new (if b then Some new_state else None)) (itself n)

pub begins : (a b : ℕ) → a ≢ b → a < 256 → b < 256 → Both (new_hosts a b) (new_monitor false)
begins a b d k l = record {
  joined = new_joined a b d k l;
  ways = new_ways a b;
  at_a = OwnSide.begins a b l;
  at_b = OwnSide.begins b a k;
  of_a = λ f. new_toward (seen (new_hosts a b)) (view_in (new_monitor false).views b a) (view_in (new_monitor false).views a b) (new_had b) (new_had a) (new_seen b a) (new_seen a b);
  of_b = λ f. new_toward (swap (seen (new_hosts a b))) (view_in (new_monitor false).views a b) (view_in (new_monitor false).views b a) (new_had a) (new_had b) (new_seen a b) (new_seen b a);
}

all_quiet : AllPass phase_quiet
all_quiet = all_pass phase_quiet Both each_step begins

pub none_found : NothingFound is_of_messages_and_phase
none_found a b given now differ k l steps = none_by is_of_messages_and_phase (findings_in (new_monitor false) (world_file given now.notes (new_hosts a b))) (all_quiet a b given now differ k l steps)
