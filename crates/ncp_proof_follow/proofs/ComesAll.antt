-- All that a control text of a peer holds is received: the texts reported for the connections of a host
-- still match the histories of its ends.
use Rattle.std.proofs.Common.{◌≡◌, ℕ, Bool, true, false, List, [], ◌∷◌, ◌++◌, Option, None, Some, Ok, sym, subst}
use Rattle.std.specs.Prelude.{nat_lt}
use Rattle.ncp_wire.specs.declared.command.Command.{Command}
use Rattle.ncp_wire.specs.declared.fault.CommandFault.{CommandFault}
use Rattle.ncp_control.specs.Texts.{items_of}
use Rattle.ncp_slot.specs.Slots.{is_quiet}
use Rattle.ncp_model.specs.Effect.{answer, made_by_hearing}
use Rattle.ncp_model.specs.Ends.{demux_command, hear, map_after_at}
use Rattle.ncp_model.specs.Phase.{is_other}
use Rattle.ncp_model.specs.Peers.{Peer, echo_replies}
use Rattle.ncp_proof_machine.specs.Hosts.{Pasts}
use Rattle.ncp_proof_machine.proofs.EndsGood.{EndsInvariant}
use Rattle.ncp_peer.specs.PeerState.{PeerState}
use Rattle.ncp_peer.specs.Hearing.{state_hears, state_hears_text}
use Rattle.ncp_peer.specs.Soundness.{SoundPeer}
use Rattle.ncp_host.proofs.Sound.{sound-hears}
use Rattle.ncp_transcript_two.specs.Watch.{of_command, of_commands}
use Rattle.ncp_monitor.specs.declared.conn_tables.TheConstants.{MAX_TABLE_ROWS}
use Rattle.ncp_monitor.specs.declared.finding.Finding.{Finding}
use Rattle.ncp_interface.specs.declared.sent_message.SentMessage.{SentMessage}
use Rattle.ncp_monitor.specs.declared.view.View.{View}
use Rattle.ncp_monitor.specs.ConnStates.{SeenTables}
use Rattle.ncp_monitor.specs.Phases.{after_item}
use Rattle.ncp_monitor.specs.Speaking.{tables_after_command}
use Rattle.ncp_monitor.specs.Talked.{after_flow, all_findings, talked_findings, after_talked}
use Rattle.ncp_follow.specs.declared.tracks.TheConstants.{MAX_TRACKS}
use Rattle.ncp_follow.specs.declared.session.Session.{Session}
use Rattle.ncp_follow.specs.declared.tables.Tables.{Tables}
use Rattle.ncp_follow.specs.Followed.{tables_after, tables_after_all, session_after}
use Rattle.ncp_proof_monitor.proofs.Phased.{Sees, none_queued}
use Rattle.ncp_proof_monitor.proofs.PhaseSteps.{Stands, command_stands}
use Rattle.ncp_proof_monitor_allocation.proofs.TidyBooks.{Tidy}
use Rattle.ncp_proof_monitor_allocation.proofs.Proper.{ProperEnds}
use Rattle.ncp_proof_monitor_host.proofs.Carries.{ShowsBusy}
use Rattle.ncp_proof_monitor_host.proofs.Borne.{Borne, QuietReports, hears_borne}
use Rattle.ncp_proof_monitor_host.proofs.ComesTold.{LeavingBusy, command_reports}
use Rattle.ncp_proof_monitor_host.proofs.LeavingBusy.{leaving_busy}
use Rattle.ncp_proof_monitor_host.proofs.Spoken.{Tells}
use Rattle.ncp_proof_monitor_host.proofs.SpokenIn.{CommandReports, command_spoken}
use Rattle.ncp_proof_monitor_host.proofs.SpokenOut.{Known}
use Rattle.ncp_proof_monitor_host.proofs.PeerIn.{awaits_after, hears_good}
use Rattle.ncp_proof_monitor_replies.proofs.BooksRead.{Reads, flow_reads, items_read}
use Rattle.ncp_proof_follow_tables.proofs.Besides.{front_none, rest_none}
use Rattle.ncp_proof_follow.proofs.SameItems.{Followed, item_followed}
use Rattle.ncp_proof_follow_tables.proofs.Placed.{Placed}
use Rattle.ncp_proof_follow.proofs.ControlComes.{AtHost, from_peer, their_flow, heard, command_after}

module _ (number me n : ℕ) (busy : Option ℕ) (zero : Bool) (kept : List SentMessage) (roomy : (i : ℕ) → nat_lt i MAX_TABLE_ROWS ≡ true → nat_lt i MAX_TRACKS ≡ true) where
  heard_tells : (c : Command) (p : Peer) (b : SeenTables) → EndsInvariant p.ends → ProperEnds p.ends → LeavingBusy me n p.ends kept → Tidy b → is_other c ≡ true → CommandReports me n busy zero kept c p b
  heard_tells c p b good sexes leaving tidy o u full room t =
      subst (λ (x : Bool). Tells me n (map_after_at p.ends (demux_command c p.ends) (hear c p.ends)) x (p.phase.waiting ++ (made_by_hearing (answer (hear c p.ends)) ++ echo_replies c)) (tables_after_command (their_flow number me n busy zero kept roomy) kept c b)) (sym (awaits_after c p.echoes))
      (command_reports me n kept c p.ends p.echoes.awaited p.phase.waiting b o good sexes full room tidy leaving t)

  leaving_out : (s : PeerState) → Borne s.peer s.slots → SoundPeer s.peer s.slots → ShowsBusy me n kept s.slots → LeavingBusy me n s.peer.ends kept
  leaving_out s borne sound shows = leaving_busy me n s.peer.ends s.slots kept sound.ends borne.leaving shows

  pub all_come : (cs : List Command) (fault : Option CommandFault) (s : PeerState) (pasts : Pasts) (v : View) (b : SeenTables) (σ : Session) (t : Tables) → Sees (is_quiet s.slots) busy → QuietReports (is_quiet s.slots) s.slots → ShowsBusy me n kept s.slots
      → Stands s.peer (is_quiet s.slots) v → EndsInvariant s.peer.ends → Borne s.peer s.slots → SoundPeer s.peer s.slots → Known me n s.peer v b → Followed me n v b σ t → Placed t → AtHost me n s pasts t
      → talked_findings (from_peer number me n busy zero kept roomy) (their_flow number me n busy zero kept roomy) kept (items_of cs fault) v b ≡ [] → (after_talked (from_peer number me n busy zero kept roomy) (their_flow number me n busy zero kept roomy) kept (items_of cs fault) v b).full ≡ false
      → AtHost me n (state_hears_text cs fault s) (of_commands cs s pasts) (tables_after_all (heard number me n busy zero kept roomy) (items_of cs fault) σ t) × Placed (tables_after_all (heard number me n busy zero kept roomy) (items_of cs fault) σ t)
  all_come [] None s pasts v b σ t e q shows k good borne sound known follows placed at none full = (at, placed)
  all_come [] (Some fault) s pasts v b σ t e q shows k good borne sound known follows placed at none full = absurd (cc none)
  all_come (c ∷ cs) fault s pasts v b σ t e q shows k good borne sound known follows placed at none full =
      all_come cs fault (state_hears c s) (of_command c s.peer pasts) next now (session_after (heard number me n busy zero kept roomy) (Ok c) σ) (tables_after (heard number me n busy zero kept roomy) (Ok c) σ t) e q shows
      (command_stands n busy zero c s.peer (is_quiet s.slots) v e k) (hears_good (is_quiet s.slots) c s.peer good) (hears_borne (is_quiet s.slots) c s.peer s.slots q good.sound borne) (sound-hears (is_quiet s.slots) c s.peer s.slots sound)
      (λ room.
      let before = known (reads.room room) in
      (command_spoken me n busy zero kept c s.peer (is_quiet s.slots) v b e k before.0 (heard_tells c s.peer b good borne.sexes (leaving_out s borne sound shows) before.1) room, reads.tidy room before.1))
      (item_followed number me n n busy zero kept roomy false (Ok c) v b σ t before_room follows here_none mid_room) after.1 after.0 rest full
    where
      now : SeenTables
      now = after_flow (from_peer number me n busy zero kept roomy) (their_flow number me n busy zero kept roomy) kept (Ok c) v b

      next : View
      next = after_item (from_peer number me n busy zero kept roomy) (Ok c) v

      reads : Reads b now
      reads = flow_reads me n (from_peer number me n busy zero kept roomy) kept (Ok c) v b

      here : List Finding
      here = all_findings (from_peer number me n busy zero kept roomy) (their_flow number me n busy zero kept roomy) kept (Ok c) v b

      later : List Finding
      later = talked_findings (from_peer number me n busy zero kept roomy) (their_flow number me n busy zero kept roomy) kept (items_of cs fault) next now

      here_none : here ≡ []
      here_none = front_none here later none

      rest : later ≡ []
      rest = rest_none here later none

      mid_room : now.full ≡ false
      mid_room = (items_read me n (from_peer number me n busy zero kept roomy) kept (items_of cs fault) next now).room full

      before_room : b.full ≡ false
      before_room = reads.room mid_room

      after : AtHost me n (state_hears c s) (of_command c s.peer pasts) (tables_after (heard number me n busy zero kept roomy) (Ok c) σ t) × Placed (tables_after (heard number me n busy zero kept roomy) (Ok c) σ t)
      after =
          command_after number me n busy zero kept roomy s pasts v b σ t follows placed good borne.sexes k (λ u. (known before_room).0.tells follows.touch.awake.suspended (none_queued s.peer.phase (is_quiet s.slots) v u follows.touch.awake.own_even k.phased) u) before_room at c here_none
