-- A message of a peer comes: what is known of what is said is known after all that it holds.
use Rattle.std.proofs.Common.{◌≡◌, ℕ, ◌==◌, Bool, true, false, if◌then◌else◌, List, [], ◌∷◌, ◌++◌, take, Option, None, Some, Ok, Err, refl, sym, ap, ◌∙◌, subst}
use Rattle.std.specs.Prelude.{nat_lt}
use Rattle.ncp_numbers.specs.Bytes.{bytes_of}
use Rattle.ncp_leader.specs.declared.regular.TheConstants.{FRONT_BITS}
use Rattle.ncp_leader.specs.Message.{Message, message_in}
use Rattle.ncp_wire.specs.declared.command.Command.{Command}
use Rattle.ncp_wire.specs.declared.fault.CommandFault.{CommandFault}
use Rattle.ncp_wire.specs.Spelling.{padded}
use Rattle.ncp_control.specs.Texts.{items_of, fault_of}
use Rattle.ncp_control.specs.Reading.{commands_in, fault_in, rest_in}
use Rattle.ncp_slot.specs.Slots.{is_quiet}
use Rattle.ncp_model.specs.Effect.{answer, made_by_hearing}
use Rattle.ncp_model.specs.Ends.{demux_command, hear, map_after_at}
use Rattle.ncp_model.specs.Echo.{Echoes}
use Rattle.ncp_model.specs.Phase.{up, is_other, phase_hears}
use Rattle.ncp_model.specs.Peers.{Peer, echo_replies, echoes_after, reaction, hears, hears_other}
use Rattle.ncp_proof_machine.proofs.EndsGood.{EndsInvariant, none-good}
use Rattle.ncp_peer.specs.PeerState.{PeerState}
use Rattle.ncp_peer.specs.Hearing.{state_hears, state_hears_text, message_after}
use Rattle.ncp_peer.specs.Soundness.{SoundPeer}
use Rattle.ncp_host.proofs.Sound.{sound-hears}
use Rattle.ncp_interface.specs.declared.sent_message.SentMessage.{SentMessage}
use Rattle.ncp_monitor.specs.declared.phase.MessageContext.{MessageContext}
use Rattle.ncp_monitor.specs.declared.observed_flow.ObservedFlow.{ObservedFlow}
use Rattle.ncp_monitor.specs.declared.view.View.{View}
use Rattle.ncp_monitor.specs.ConnStates.{SeenTables}
use Rattle.ncp_interface.specs.Contents.{is_unused, message_class}
use Rattle.ncp_monitor.specs.Phases.{after_item, after_items}
use Rattle.ncp_monitor.specs.Speaking.{tables_after_command}
use Rattle.ncp_monitor.specs.Talked.{after_flow, after_talked}
use Rattle.ncp_monitor.specs.Judged.{after_read, tables_after_read}
use Rattle.ncp_proof_monitor.proofs.EndsStay.{command_good}
use Rattle.ncp_proof_monitor.proofs.Phased.{Sees}
use Rattle.ncp_proof_monitor.proofs.PhaseSteps.{Stands, command_stands}
use Rattle.ncp_proof_monitor.proofs.Fine.{kept_good, good_if}
use Rattle.ncp_proof_monitor_allocation.proofs.TidyBooks.{Tidy}
use Rattle.ncp_proof_monitor_allocation.proofs.Proper.{ProperEnds}
use Rattle.ncp_proof_monitor_host.proofs.Carries.{ShowsBusy}
use Rattle.ncp_proof_monitor_host.proofs.Borne.{Borne, QuietReports, hears_borne}
use Rattle.ncp_proof_monitor_allocation.proofs.TextErrors.{is_text_error}
use Rattle.ncp_proof_monitor_allocation.proofs.TextShown.{error_is_shown, error_is_reported}
use Rattle.ncp_proof_monitor_host.proofs.RepliesReported.{fault_reports}
use Rattle.ncp_proof_monitor_host.proofs.ComesTold.{awaited_after, LeavingBusy, command_reports}
use Rattle.ncp_proof_monitor_host.proofs.LeavingBusy.{leaving_busy}
use Rattle.ncp_proof_monitor_host.proofs.TextReported.{text_reports}
use Rattle.ncp_proof_monitor_host.proofs.Spoken.{Tells, Spoken}
use Rattle.ncp_proof_monitor_host.proofs.SpokenIn.{CommandReports, command_spoken, fault_spoken, text_spoken}
use Rattle.ncp_proof_monitor_host.proofs.SpokenOut.{Known}
use Rattle.ncp_proof_monitor_replies.proofs.BooksRead.{flow_reads, read_reads}

-- ---- the fault of a control text is of an opcode, or of bytes that lack: no ERR about a text is made for it

abbrev pub PlainFault : Option CommandFault → Type 0
PlainFault o = (fault : CommandFault) → o ≡ Some fault → is_text_error (Command.Err fault.code fault.bytes) ≡ false

pub plain_fault : (bytes : List ℕ) → PlainFault (fault_in bytes)
plain_fault bytes fault e = go (rest_in bytes) e
  where
    of_code : (b : Bool) (shown : List ℕ) → is_text_error (Command.Err (if b then 1 else 2) shown) ≡ false
    of_code true shown = refl
    of_code false shown = refl

    go : (rest : List ℕ) → fault_of rest ≡ Some fault → is_text_error (Command.Err fault.code fault.bytes) ≡ false
    go [] e = absurd (cc e)
    go (opcode ∷ rest) e =
        let is : record { code = if nat_lt 13 opcode then 1 else 2; bytes = padded 10 (opcode ∷ rest) } ≡ fault = cc e in
        ap (λ (x : CommandFault). is_text_error (Command.Err x.code x.bytes)) (sym is) ∙ of_code (nat_lt 13 opcode) (padded 10 (opcode ∷ rest))

-- ---- the echo, and the ends

pub awaits_after : (c : Command) (s : Echoes) → (echoes_after c s).awaited ≡ awaited_after c s.awaited
awaits_after Command.Nop s = refl
awaits_after c s = refl

pub hears_good : (q : Bool) (c : Command) (p : Peer) → EndsInvariant p.ends → EndsInvariant (hears q c p).ends
hears_good q Command.Rst p k = none-good
hears_good q Command.Rrp p k = k
hears_good q c p k = good_if (up p.phase) (hears_other q c p) p (kept_good (up (phase_hears c (reaction q c p) p.phase)) (map_after_at p.ends (demux_command c p.ends) (hear c p.ends)) (command_good c p.ends k)) k

-- ---- all that a control text holds

module _ (me n : ℕ) (busy : Option ℕ) (zero : Bool) (kept : List SentMessage) where
  abbrev from_peer : MessageContext
  from_peer = record { by = n; sent = false; busy = busy; zero = zero }

  abbrev their_flow : ObservedFlow
  their_flow = record { at = me; peer = n; sent = false }

  heard_tells : (c : Command) (p : Peer) (b : SeenTables) → EndsInvariant p.ends → ProperEnds p.ends → LeavingBusy me n p.ends kept → Tidy b → is_other c ≡ true → CommandReports me n busy zero kept c p b
  heard_tells c p b good sexes leaving tidy o u full room t =
      subst (λ (x : Bool). Tells me n (map_after_at p.ends (demux_command c p.ends) (hear c p.ends)) x (p.phase.waiting ++ (made_by_hearing (answer (hear c p.ends)) ++ echo_replies c)) (tables_after_command their_flow kept c b)) (sym (awaits_after c p.echoes))
      (command_reports me n kept c p.ends p.echoes.awaited p.phase.waiting b o good sexes full room tidy leaving t)

  -- the unacknowledged texts of leaving ends are in their slots, and are kept
  leaving_out : (s : PeerState) → Borne s.peer s.slots → SoundPeer s.peer s.slots → ShowsBusy me n kept s.slots → LeavingBusy me n s.peer.ends kept
  leaving_out s borne sound shows = leaving_busy me n s.peer.ends s.slots kept sound.ends borne.leaving shows

  pub all_heard : (cs : List Command) (fault : Option CommandFault) (s : PeerState) (v : View) (b : SeenTables) → PlainFault fault → Sees (is_quiet s.slots) busy → QuietReports (is_quiet s.slots) s.slots → ShowsBusy me n kept s.slots
      → Stands s.peer (is_quiet s.slots) v → EndsInvariant s.peer.ends → Borne s.peer s.slots → SoundPeer s.peer s.slots
      → Known me n s.peer v b → (after_talked from_peer their_flow kept (items_of cs fault) v b).full ≡ false
      → Spoken me n (state_hears_text cs fault s).peer (after_items from_peer (items_of cs fault) v) (after_talked from_peer their_flow kept (items_of cs fault) v b)
  all_heard [] None s v b plain e q shows k good borne sound known f = (known f).0
  all_heard [] (Some fault) s v b plain e q shows k good borne sound known f =
      let room = (flow_reads me n from_peer kept (Err fault) v b).room f in
      fault_spoken me n busy zero kept fault s.peer (is_quiet s.slots) v b e k (known room).0 (λ r t. fault_reports me n s.peer.ends s.peer.echoes.awaited s.peer.phase.waiting b fault (plain fault refl) r t) f
  all_heard (c ∷ cs) fault s v b plain e q shows k good borne sound known f =
      let now : SeenTables = after_flow from_peer their_flow kept (Ok c) v b in
      let reads = flow_reads me n from_peer kept (Ok c) v b in
      all_heard cs fault (state_hears c s) (after_item from_peer (Ok c) v) now plain e q shows (command_stands n busy zero c s.peer (is_quiet s.slots) v e k) (hears_good (is_quiet s.slots) c s.peer good)
      (hears_borne (is_quiet s.slots) c s.peer s.slots q good.sound borne) (sound-hears (is_quiet s.slots) c s.peer s.slots sound)
      (λ room.
      let before = known (reads.room room) in
      (command_spoken me n busy zero kept c s.peer (is_quiet s.slots) v b e k before.0 (heard_tells c s.peer b good borne.sexes (leaving_out s borne sound shows) before.1) room, reads.tidy room before.1)) f

  -- ---- a message

  pub message_heard : (bits : List Bool) (m : Message) (s : PeerState) (v : View) (b : SeenTables) → message_in bits ≡ Ok m → m.leader.host ≡ n → m.leader.kind ≡ 0
      → Sees (is_quiet s.slots) busy → QuietReports (is_quiet s.slots) s.slots → ShowsBusy me n kept s.slots → Stands s.peer (is_quiet s.slots) v → EndsInvariant s.peer.ends → Borne s.peer s.slots → SoundPeer s.peer s.slots
      → Known me n s.peer v b → (tables_after_read from_peer their_flow kept m v b (message_class m)).full ≡ false
      → Spoken me n (message_after m.leader.link bits (Ok m) s).peer (after_read (message_class m) from_peer m.text v) (tables_after_read from_peer their_flow kept m v b (message_class m))
  message_heard bits m s v b read host kind e q shows k good borne sound known f = go (is_unused m.leader.link) (m.leader.link == 0) (m.size == 8) refl refl refl
    where
      room : b.full ≡ false
      room = (read_reads me n from_peer kept (message_class m) m v b).room f

      go : (x y z : Bool) → is_unused m.leader.link ≡ x → (m.leader.link == 0) ≡ y → (m.size == 8) ≡ z
          → Spoken me n (message_after m.leader.link bits (Ok m) s).peer (after_read (message_class m) from_peer m.text v) (tables_after_read from_peer their_flow kept m v b (message_class m))
      go true y z i j l = rw i ((known room).0)
      go false false z i j l =
          let g = rw (i, j) at f in
          rw (i, j)
          (text_spoken me n busy zero kept m.leader.link (take FRONT_BITS bits) m.size m.text m s.peer (is_quiet s.slots) v b e k (known room).0
          (λ r t. text_reports me n m.leader.link (take FRONT_BITS bits) m s.peer.ends s.peer.echoes.awaited s.peer.phase.waiting b good borne.sexes (error_is_shown n bits m read host) (error_is_reported bits m read kind) r (known room).1 t) g)
      go false true true i j l =
          let g = rw (i, j, l) at f in
          rw (i, j, l) (all_heard (commands_in (bytes_of m.text)) (fault_in (bytes_of m.text)) s v b (plain_fault (bytes_of m.text)) e q shows k good borne sound known g)
      go false true false i j l = rw (i, j, l) ((known room).0)
