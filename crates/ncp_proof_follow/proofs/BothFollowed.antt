-- What is followed of the file of two hosts with the subnet between them is what is judged of it, event by event: nothing is
-- found in it, and while nothing is full the lists of both are the same.
use Rattle.std.proofs.Common.{◌≡◌, ℕ, ◌+◌, ◌≤◌, ◌==◌, Bool, true, false, ◌&&◌, List, [], ◌∷◌, ◌++◌, length, Option, None, Some, is_some, Ok, refl, sym, ap, ◌∙◌, subst}
use Rattle.std.specs.Prelude.{nat_lt}
use Rattle.ncp_leader.specs.Leader.{leader_in}
use Rattle.ncp_subnet.specs.Messages.{arriving, answering, answer_about}
use Rattle.ncp_subnet.specs.Transit.{answer_kind}
use Rattle.ncp_subnet.specs.Ways.{OnLink}
use Rattle.ncp_peer.specs.Output.{leader_to}
use Rattle.ncp_host.specs.Turns.{next_output}
use Rattle.ncp_transcript.specs.Noting.{note_of_message, note_of_output}
use Rattle.ncp_transcript_two.specs.Subnet.{Free, Accepted, Delivered, Lost, Dead, from_host, answer_bits}
use Rattle.ncp_transcript_two.specs.declared.side.Side.TheVariants.{A, B}
use Rattle.ncp_transcript_two.specs.declared.event.Event.{Event}
use Rattle.ncp_transcript_two.specs.declared.note.Note.{Note}
use Rattle.ncp_transcript_two.specs.Between.{Hosts, transit_of}
use Rattle.ncp_transcript_two.specs.Happening.{Noted}
use Rattle.ncp_transcript_two.specs.Seen.{had_for}
use Rattle.ncp_transcript_two.proofs.SeenRuns.{counterpart}
use Rattle.ncp_transcript_two.proofs.Written.{answer_leader}
use Rattle.ncp_monitor.specs.declared.conn_tables.TheConstants.{MAX_TABLE_ROWS}
use Rattle.ncp_monitor.specs.declared.finding.Finding.{Finding}
use Rattle.ncp_monitor.specs.declared.monitor.Monitor.{Monitor}
use Rattle.ncp_monitor.specs.declared.view.View.{View}
use Rattle.ncp_interface.specs.declared.imp_direction.ImpDirection.{ImpDirection}
use Rattle.ncp_interface.specs.declared.imp_direction.ImpDirection.TheVariants.{ToImp, FromImp}
use Rattle.ncp_monitor.specs.Views.{awaits_reply}
use Rattle.ncp_monitor.specs.Tables.{view_in}
use Rattle.ncp_monitor.specs.Judged.{record_findings, after_record}
use Rattle.ncp_monitor.proofs.Passing.{Pass}
use Rattle.ncp_follow.specs.declared.tracks.TheConstants.{MAX_TRACKS}
use Rattle.ncp_follow.specs.declared.session.Session.{Session}
use Rattle.ncp_follow.specs.declared.follower.Follower.{Follower}
use Rattle.ncp_follow.specs.Sessions.{session_of, with_session}
use Rattle.ncp_follow.specs.Followed.{follower_after_record}
use Rattle.ncp_proof_monitor.specs.Worlds.{comes_to, goes_from, passes_between}
use Rattle.ncp_proof_monitor.proofs.Others.{other_leaves}
use Rattle.ncp_proof_monitor_messages.proofs.Between.{Leaves, leaves, Written, written, comes_led, AnswerLed, answer_leads}
use Rattle.ncp_proof_monitor_messages.proofs.Both
use Rattle.ncp_proof_monitor_messages.specs.Files.{findings_in}
use Rattle.ncp_proof_monitor_messages.proofs.Walk.{after_file}
use Rattle.ncp_proof_monitor_network.proofs.SessionInvariants.{Known, turn_known}
use Rattle.ncp_proof_monitor_network.proofs.WholeWalk.{never, each_known}
use Rattle.ncp_proof_follow_tables.specs.FileFollowed.{followed_from}
use Rattle.ncp_proof_follow.proofs.SameItems.{InTouch, NoneBetween}
use Rattle.ncp_proof_follow_tables.proofs.SameSessions.{found, or_session, session_found, put_other, FewSessions, few_room, few_put, counted}
use Rattle.ncp_proof_follow.proofs.SameRecords.{Alike, Seats, Stay, Put, Then, out_so, in_so, answer_so}

-- ---- at both interfaces

pub record Beside (a b : ℕ) (u : Monitor) (f : Follower) : Type 0 where
  pub this : Alike a b u f
  pub that : Alike b a u f
  pub few : FewSessions a b f.sessions

few_turned : (a b : ℕ) (sessions : List Session) → FewSessions a b sessions → FewSessions b a sessions
few_turned a b sessions few = go (is_some (found a b sessions)) (is_some (found b a sessions)) few
  where
    go : (x y : Bool) → length sessions ≤ counted x + counted y → length sessions ≤ counted y + counted x
    go true true l = l
    go true false l = l
    go false true l = l
    go false false l = l

pub turn_beside : (a b : ℕ) (u : Monitor) (f : Follower) → Beside a b u f → Beside b a u f
turn_beside a b u f k = record { this = k.that; that = k.this; few = few_turned a b f.sessions k.few }

-- a record at the first of them
beside_then : (a b : ℕ) (u now : Monitor) (f after : Follower) → (a == b) ≡ false → (b == a) ≡ false → Beside a b u f → Then a b now f after → view_in now.views b a ≡ view_in u.views b a → Beside a b now after
beside_then a b u now f after a_b b_a k t far = record {
  this = t.alike;
  that = record {
    part = t.alike.part;
    outs = t.alike.outs;
    same = record { conns = t.alike.same.conns; calm = t.alike.same.calm };
    touch = subst (λ (v : View). InTouch v (session_of false after.sessions b a)) (sym far) (subst (λ (s : Session). InTouch (view_in u.views b a) s) (sym (other t.seats)) k.that.touch);
  };
  few = still t.seats;
}
  where
    other : Seats a b f.sessions after.sessions → session_of false after.sessions b a ≡ session_of false f.sessions b a
    other (Stay e) = ap (λ (xs : List Session). session_of false xs b a) e
    other (Put s hosts e) =
        ap (λ (xs : List Session). session_of false xs b a) e ∙ session_found b a (with_session f.sessions s)
        ∙ ap (or_session b a) (put_other a b b a s f.sessions hosts (ap (λ (x : Bool). x && b == a) a_b)) ∙ sym (session_found b a f.sessions)

    still : Seats a b f.sessions after.sessions → FewSessions a b after.sessions
    still (Stay e) = subst (FewSessions a b) (sym e) k.few
    still (Put s hosts e) = subst (FewSessions a b) (sym e) (few_put a b s f.sessions a_b hosts k.few)

-- ---- a record of a file in which nothing is found

pub roomy : (i : ℕ) → nat_lt i MAX_TABLE_ROWS ≡ true → nat_lt i MAX_TRACKS ≡ true
roomy i e = e

pub none_found : (found : List Finding) → Pass never (found ++ []) → found ≡ []
none_found [] p = refl
none_found (x ∷ found) p = absurd (cc p)

module _ (w : Hosts) (u : Monitor) (k : Known w u) (unfull : u.full ≡ false) (room : u.conn_tables.full ≡ false) (number : ℕ) (f : Follower) (beside : Beside w.number_a w.number_b u f) where
  abbrev a : ℕ
  a = w.number_a

  abbrev b : ℕ
  b = w.number_b

  pub a_b : (a == b) ≡ false
  a_b = Both.a_b w u k.0

  pub b_a : (b == a) ≡ false
  b_a = Both.b_a w u k.0

  pub waits : awaits_reply (view_in u.views a b).host.wait ≡ true → NoneBetween a b u.conn_tables
  waits e = ((k.1.talks_a.spoken unfull room b (had_for b w.a) (Both.there w u k.0)).waits e).0

  -- it is sent
  goes_beside : (m : List Bool) → next_output w.a ≡ Some m → record_findings u ToImp a m ≡ [] → (after_record u ToImp a m).full ≡ false → (after_record u ToImp a m).conn_tables.full ≡ false
      → Beside a b (after_record u ToImp a m) (follower_after_record number true a m f)
  goes_beside m q unfound full after_room =
      beside_then a b u (after_record u ToImp a m) f (follower_after_record number true a m f) a_b b_a beside
      (out_so number a b k.0.joined.stand.fits_a k.0.joined.stand.fits_b roomy l.on m u f beside.this b_a k.0.ways.sound.long (Both.own_seen w u k.0 unfull).stands.phased.known waits (λ e. few_room a b f.sessions beside.few) l.led full room after_room unfound)
      ((other_leaves b a ToImp m u a_b).views a k.0.joined.stand.fits_a)
    where
      l : Leaves w m
      l = leaves w m k.0.joined q

  -- it is answered
  opened_beside : (link kind : ℕ) → answer_kind (transit_of A link w) ≡ Some kind → Beside a b (after_record u FromImp a (answer_bits kind b link)) (follower_after_record number false a (answer_bits kind b link) f)
  opened_beside link kind q =
      beside_then a b u (after_record u FromImp a (answer_bits kind b link)) f (follower_after_record number false a (answer_bits kind b link) f) a_b b_a beside
      (answer_so number a b k.0.joined.stand.fits_a k.0.joined.stand.fits_b roomy (answer_bits kind b link) (answer_leader kind b link) u f beside.this (Both.own_seen w u k.0 unfull).stands.phased.known l.led refl b_a l.not_regular l.is_one unfull)
      ((other_leaves b a FromImp (answer_bits kind b link) u a_b).views a k.0.joined.stand.fits_a)
    where
      l : AnswerLed w link kind
      l = answer_leads w link kind k.0.joined q

  -- what comes from the other
  comes_beside : (link : ℕ) (m : List Bool) → transit_of B link w ≡ Accepted m → record_findings u FromImp a (from_host b m) ≡ [] → (after_record u FromImp a (from_host b m)).conn_tables.full ≡ false
      → Beside a b (after_record u FromImp a (from_host b m)) (follower_after_record number false a (from_host b m) f)
  comes_beside link m q unfound after_room =
      beside_then a b u (after_record u FromImp a (from_host b m)) f (follower_after_record number false a (from_host b m) f) a_b b_a beside
      (in_so number a b k.0.joined.stand.fits_a k.0.joined.stand.fits_b roomy link (from_host b m) u f beside.this b_a k.0.ways.sound.long waits (λ e. few_room a b f.sessions beside.few) led unfull room after_room unfound)
      ((other_leaves b a FromImp (from_host b m) u a_b).views a k.0.joined.stand.fits_a)
    where
      t : Known (counterpart w) u
      t = turn_known w u k

      r : Written (counterpart w) link m
      r = written (counterpart w) link m t.0.joined q

      led : leader_in (from_host b m) ≡ Ok (leader_to b link)
      led = comes_led (counterpart w) link m t.0.joined r

  -- ---- events of the first of them, and what comes to it

  abbrev Goes : List (ℕ × ImpDirection × List Bool) → Type 0
  Goes file =
      Pass never (findings_in u file) → (after_file u file).full ≡ false → (after_file u file).conn_tables.full ≡ false → Beside a b (after_file u file) (followed_from number file f)

  out_file : Goes (goes_from a (note_of_output w.a))
  out_file = go (next_output w.a) refl
    where
      go : (o : Option (List Bool)) → next_output w.a ≡ o → Goes (goes_from a (note_of_message o))
      go None q p full after_room = beside
      go (Some m) q p full after_room = goes_beside m q (none_found (record_findings u ToImp a m) p) full after_room

  answer_file : (link : ℕ) → Goes (comes_to a (answer_about b link (transit_of A link w)))
  answer_file link = go (answer_kind (transit_of A link w)) refl
    where
      go : (o : Option ℕ) → answer_kind (transit_of A link w) ≡ o → Goes (comes_to a (answering b link o))
      go None q p full after_room = beside
      go (Some kind) q p full after_room = opened_beside link kind q

  come_file : (link : ℕ) → Goes (comes_to a (arriving b (transit_of B link w)))
  come_file link = go (transit_of B link w) refl
    where
      go : (h : OnLink) → transit_of B link w ≡ h → Goes (comes_to a (arriving b h))
      go Free q p full after_room = beside
      go Delivered q p full after_room = beside
      go Lost q p full after_room = beside
      go Dead q p full after_room = beside
      go (Accepted m) q p full after_room = comes_beside link m q (none_found (record_findings u FromImp a (from_host b m)) p) after_room

-- each event of the two
pub each_beside : (event : Event) (note : Note) (w : Hosts) (u : Monitor) → Noted event note w → Known w u → u.full ≡ false → u.conn_tables.full ≡ false
    → (after_file u (passes_between event note w)).full ≡ false → (after_file u (passes_between event note w)).conn_tables.full ≡ false → (number : ℕ) (f : Follower) → Beside w.number_a w.number_b u f
    → Beside w.number_a w.number_b (after_file u (passes_between event note w)) (followed_from number (passes_between event note w) f)
each_beside event note w u n k unfull room full after_room number f beside = go event n (each_known event note w u n k).0 full after_room
  where
    As : Event → Note → Type 0
    As event note =
        Pass never (findings_in u (passes_between event note w)) → (after_file u (passes_between event note w)).full ≡ false → (after_file u (passes_between event note w)).conn_tables.full ≡ false
        → Beside w.number_a w.number_b (after_file u (passes_between event note w)) (followed_from number (passes_between event note w) f)

    t : Known (counterpart w) u
    t = turn_known w u k

    turned_beside : Beside w.number_b w.number_a u f
    turned_beside = turn_beside w.number_a w.number_b u f beside

    go : (event : Event) → Noted event note w → As event note
    go (Event.Call side call) n = λ p full after_room. beside
    go (Event.Lose side link) n = λ p full after_room. beside
    go (Event.Dead side link) n = λ p full after_room. beside
    go (Event.Out A) n = subst (As (Event.Out A)) (sym n) (out_file w u k unfull room number f beside)
    go (Event.Out B) n = subst (As (Event.Out B)) (sym n) (λ p full after_room. turn_beside w.number_b w.number_a _ _ (out_file (counterpart w) u t unfull room number f turned_beside p full after_room))
    go (Event.Deliver A link) n = λ p full after_room. turn_beside w.number_b w.number_a _ _ (come_file (counterpart w) u t unfull room number f turned_beside link p full after_room)
    go (Event.Deliver B link) n = come_file w u k unfull room number f beside link
    go (Event.Answer A link) n = answer_file w u k unfull room number f beside link
    go (Event.Answer B link) n = λ p full after_room. turn_beside w.number_b w.number_a _ _ (answer_file (counterpart w) u t unfull room number f turned_beside link p full after_room)
