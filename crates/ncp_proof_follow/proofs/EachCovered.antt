-- What is followed of the file of two hosts with the subnet between them leaves what is left of each connection no less than what
-- may be sent of it as it is judged, event by event.
use Rattle.std.proofs.Common.{◌≡◌, ℕ, ◌==◌, Bool, true, false, List, [], Option, None, Some, Ok, refl, sym, subst}
use Rattle.ncp_leader.specs.Leader.{leader_in}
use Rattle.ncp_subnet.specs.Messages.{arriving, answering, answer_about}
use Rattle.ncp_subnet.specs.Transit.{answer_kind}
use Rattle.ncp_subnet.specs.Ways.{OnLink}
use Rattle.ncp_peer.specs.Output.{leader_to}
use Rattle.ncp_host.specs.Turns.{next_output}
use Rattle.ncp_transcript.specs.Noting.{note_of_message, note_of_output}
use Rattle.ncp_transcript_two.specs.Subnet.{Free, Accepted, Delivered, Lost, Dead, from_host, answer_bits}
use Rattle.ncp_transcript_two.specs.declared.side.Side.TheVariants.{A, B}
use Rattle.ncp_transcript_two.specs.declared.event.Event.{Event}
use Rattle.ncp_transcript_two.specs.declared.note.Note.{Note}
use Rattle.ncp_transcript_two.specs.Between.{Hosts, transit_of}
use Rattle.ncp_transcript_two.specs.Happening.{Noted}
use Rattle.ncp_transcript_two.proofs.SeenRuns.{counterpart}
use Rattle.ncp_transcript_two.proofs.Written.{answer_leader}
use Rattle.ncp_monitor.specs.declared.monitor.Monitor.{Monitor}
use Rattle.ncp_interface.specs.declared.imp_direction.ImpDirection.{ImpDirection}
use Rattle.ncp_interface.specs.declared.imp_direction.ImpDirection.TheVariants.{ToImp, FromImp}
use Rattle.ncp_monitor.specs.Judged.{record_findings, after_record}
use Rattle.ncp_monitor.proofs.Passing.{Pass}
use Rattle.ncp_follow.specs.declared.follower.Follower.{Follower}
use Rattle.ncp_follow.specs.Followed.{follower_after_record}
use Rattle.ncp_proof_monitor.specs.Worlds.{comes_to, goes_from, passes_between}
use Rattle.ncp_proof_monitor_messages.proofs.Between.{Leaves, leaves, Written, written, comes_led, AnswerLed, answer_leads}
use Rattle.ncp_proof_monitor_messages.proofs.Both
use Rattle.ncp_proof_monitor_messages.specs.Files.{findings_in}
use Rattle.ncp_proof_monitor_messages.proofs.Walk.{after_file}
use Rattle.ncp_proof_monitor_network.proofs.SessionInvariants.{Known, turn_known}
use Rattle.ncp_proof_monitor_network.proofs.WholeWalk.{never, each_known}
use Rattle.ncp_proof_follow_tables.specs.FileFollowed.{followed_from}
use Rattle.ncp_proof_follow_tables.proofs.SameSessions.{few_room}
use Rattle.ncp_proof_follow.proofs.BothFollowed.{Beside, turn_beside, roomy, none_found, waits}
use Rattle.ncp_proof_follow_tables.proofs.Covered.{Covered}
use Rattle.ncp_proof_follow.proofs.CoveredRecord.{out_covered, in_covered, answer_covered}

module _ (w : Hosts) (u : Monitor) (k : Known w u) (unfull : u.full ≡ false) (room : u.conn_tables.full ≡ false) (number : ℕ) (f : Follower) (beside : Beside w.number_a w.number_b u f) (cov : Covered u.conn_tables f.tables) where
  abbrev a : ℕ
  a = w.number_a

  abbrev b : ℕ
  b = w.number_b

  b_a : (b == a) ≡ false
  b_a = Both.b_a w u k.0

  -- it is sent
  goes_covered : (m : List Bool) → next_output w.a ≡ Some m → record_findings u ToImp a m ≡ [] → (after_record u ToImp a m).full ≡ false → (after_record u ToImp a m).conn_tables.full ≡ false
      → Covered (after_record u ToImp a m).conn_tables (follower_after_record number true a m f).tables
  goes_covered m q unfound full after_room =
      out_covered number a b k.0.joined.stand.fits_a k.0.joined.stand.fits_b roomy l.on m u f beside.this b_a k.0.ways.sound.long (Both.own_seen w u k.0 unfull).stands.phased.known (waits w u k unfull room number f beside) (λ e. few_room a b f.sessions beside.few) l.led
      full room after_room unfound (k.1.talks_a.tidy room) cov
    where
      l : Leaves w m
      l = leaves w m k.0.joined q

  -- it is answered
  opened_covered : (link kind : ℕ) → answer_kind (transit_of A link w) ≡ Some kind → Covered (after_record u FromImp a (answer_bits kind b link)).conn_tables (follower_after_record number false a (answer_bits kind b link) f).tables
  opened_covered link kind q =
      answer_covered number a b k.0.joined.stand.fits_a k.0.joined.stand.fits_b roomy (answer_bits kind b link) (answer_leader kind b link) u f l.led refl b_a l.not_regular l.is_one cov
    where
      l : AnswerLed w link kind
      l = answer_leads w link kind k.0.joined q

  -- what comes from the other
  comes_covered : (link : ℕ) (m : List Bool) → transit_of B link w ≡ Accepted m → record_findings u FromImp a (from_host b m) ≡ [] → (after_record u FromImp a (from_host b m)).conn_tables.full ≡ false
      → Covered (after_record u FromImp a (from_host b m)).conn_tables (follower_after_record number false a (from_host b m) f).tables
  comes_covered link m q unfound after_room =
      in_covered number a b k.0.joined.stand.fits_a k.0.joined.stand.fits_b roomy link (from_host b m) u f beside.this b_a k.0.ways.sound.long (waits w u k unfull room number f beside) (λ e. few_room a b f.sessions beside.few) led
      unfull room after_room unfound (k.1.talks_a.tidy room) cov
    where
      t : Known (counterpart w) u
      t = turn_known w u k

      r : Written (counterpart w) link m
      r = written (counterpart w) link m t.0.joined q

      led : leader_in (from_host b m) ≡ Ok (leader_to b link)
      led = comes_led (counterpart w) link m t.0.joined r

  -- ---- events of the first of them, and what comes to it

  abbrev Goes : List (ℕ × ImpDirection × List Bool) → Type 0
  Goes file = Pass never (findings_in u file) → (after_file u file).full ≡ false → (after_file u file).conn_tables.full ≡ false → Covered (after_file u file).conn_tables (followed_from number file f).tables

  out_file : Goes (goes_from a (note_of_output w.a))
  out_file = go (next_output w.a) refl
    where
      go : (o : Option (List Bool)) → next_output w.a ≡ o → Goes (goes_from a (note_of_message o))
      go None q p full after_room = cov
      go (Some m) q p full after_room = goes_covered m q (none_found (record_findings u ToImp a m) p) full after_room

  answer_file : (link : ℕ) → Goes (comes_to a (answer_about b link (transit_of A link w)))
  answer_file link = go (answer_kind (transit_of A link w)) refl
    where
      go : (o : Option ℕ) → answer_kind (transit_of A link w) ≡ o → Goes (comes_to a (answering b link o))
      go None q p full after_room = cov
      go (Some kind) q p full after_room = opened_covered link kind q

  come_file : (link : ℕ) → Goes (comes_to a (arriving b (transit_of B link w)))
  come_file link = go (transit_of B link w) refl
    where
      go : (h : OnLink) → transit_of B link w ≡ h → Goes (comes_to a (arriving b h))
      go Free q p full after_room = cov
      go Delivered q p full after_room = cov
      go Lost q p full after_room = cov
      go Dead q p full after_room = cov
      go (Accepted m) q p full after_room = comes_covered link m q (none_found (record_findings u FromImp a (from_host b m)) p) after_room

-- each event of the two
pub each_covered : (event : Event) (note : Note) (w : Hosts) (u : Monitor) → Noted event note w → Known w u → u.full ≡ false → u.conn_tables.full ≡ false
    → (after_file u (passes_between event note w)).full ≡ false → (after_file u (passes_between event note w)).conn_tables.full ≡ false → (number : ℕ) (f : Follower) → Beside w.number_a w.number_b u f → Covered u.conn_tables f.tables
    → Covered (after_file u (passes_between event note w)).conn_tables (followed_from number (passes_between event note w) f).tables
each_covered event note w u n k unfull room full after_room number f beside cov = go event n (each_known event note w u n k).0 full after_room
  where
    As : Event → Note → Type 0
    As event note =
        Pass never (findings_in u (passes_between event note w)) → (after_file u (passes_between event note w)).full ≡ false → (after_file u (passes_between event note w)).conn_tables.full ≡ false
        → Covered (after_file u (passes_between event note w)).conn_tables (followed_from number (passes_between event note w) f).tables

    t : Known (counterpart w) u
    t = turn_known w u k

    turned_beside : Beside w.number_b w.number_a u f
    turned_beside = turn_beside w.number_a w.number_b u f beside

    go : (event : Event) → Noted event note w → As event note
    go (Event.Call side call) n = λ p full after_room. cov
    go (Event.Lose side link) n = λ p full after_room. cov
    go (Event.Dead side link) n = λ p full after_room. cov
    go (Event.Out A) n = subst (As (Event.Out A)) (sym n) (out_file w u k unfull room number f beside cov)
    go (Event.Out B) n = subst (As (Event.Out B)) (sym n) (out_file (counterpart w) u t unfull room number f turned_beside cov)
    go (Event.Deliver A link) n = come_file (counterpart w) u t unfull room number f turned_beside cov link
    go (Event.Deliver B link) n = come_file w u k unfull room number f beside cov link
    go (Event.Answer A link) n = answer_file w u k unfull room number f beside cov link
    go (Event.Answer B link) n = answer_file (counterpart w) u t unfull room number f turned_beside cov link
