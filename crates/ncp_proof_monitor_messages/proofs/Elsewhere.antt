-- A record of another pair leaves what is known of a pair: what is kept of its links, and what is seen of both at both
-- interfaces.
use Rattle.std.proofs.Common.{◌≡◌, ℕ, ◌<◌, ◌==◌, Bool, true, false, not, ◌||◌, if◌then◌else◌, List, [], ◌∷◌, Some, Result, Ok, Err, get_or-set_other, filter, refl, sym, ap, ◌∙◌, subst, arith}
use Rattle.std.proofs.lemmas.Bool.{eqb-true}
use Rattle.ncp_leader.specs.declared.fault.MessageFault.{MessageFault}
use Rattle.ncp_leader.specs.declared.leader.Leader.{Leader}
use Rattle.ncp_leader.specs.declared.leader.Short.{Short}
use Rattle.ncp_leader.specs.Leader.{leader_in}
use Rattle.ncp_leader.specs.Message.{Message, message_in}
use Rattle.ncp_slot.specs.Slots.{slot_at}
use Rattle.ncp_subnet.specs.Ways.{OnLink}
use Rattle.ncp_peer.specs.PeerState.{PeerState}
use Rattle.ncp_host.specs.Host.{Host, state_of, is_one_of}
use Rattle.ncp_proof_runs.proofs.States.{peer_there}
use Rattle.ncp_proof_runs.proofs.HostRuns.{Holds}
use Rattle.ncp_transcript_two.specs.Between.{Hosts}
use Rattle.ncp_transcript_two.specs.Seen.{seen}
use Rattle.ncp_transcript_two.specs.World.{swap}
use Rattle.ncp_interface.specs.declared.sent_message.SentMessage.{SentMessage}
use Rattle.ncp_monitor.specs.declared.monitor.Monitor.{Monitor}
use Rattle.ncp_monitor.specs.declared.view.View.{View}
use Rattle.ncp_interface.specs.declared.imp_direction.ImpDirection.{ImpDirection}
use Rattle.ncp_interface.specs.declared.imp_direction.ImpDirection.TheVariants.{ToImp, FromImp}
use Rattle.ncp_interface.specs.Events.{is_answer, event_after}
use Rattle.ncp_interface.specs.Contents.{message_class}
use Rattle.ncp_interface.specs.Slots.{is_of, position_of, gone_out, has_room, with_out, with_answer}
use Rattle.ncp_monitor.specs.Tables.{index_of, view_in, with_view}
use Rattle.ncp_monitor.specs.Views.{new_view}
use Rattle.ncp_monitor.specs.Judged.{has_seen, sees, view_of, slot_of_link, same_of, view_after_out, fresh_out, monitor_after_out, monitor_after_answer, judges_coming, with_coming, after_in, turn_at, after_read, after_said, after_event, after_record}
use Rattle.ncp_proof_monitor.proofs.PhaseSeen.{view_length, Seen}
use Rattle.ncp_proof_monitor.proofs.Shown.{Shows, after_answering, after_coming}
use Rattle.ncp_proof_monitor.proofs.Others.{has_room_for_one, put_distinct}
use Rattle.ncp_proof_monitor.proofs.Linked.{keys_distinct}
use Rattle.ncp_proof_monitor_messages.proofs.Tells.{Tells}
use Rattle.ncp_proof_monitor_messages.proofs.OneWay.{Sound, OneWay, seen_stays, sound_sees, sound_said}
use Rattle.ncp_proof_monitor_messages.proofs.OwnSide.{At}
use Rattle.ncp_proof_monitor_messages.proofs.Toward.{Toward}
use Rattle.ncp_proof_monitor_messages.proofs.Both.{Both}

-- ---- one way

-- another umpire, with what is known of the messages of one host to another, and of what is seen at it of the other, as it was
pub record Spares (a b : ℕ) (monitor now : Monitor) : Type 0 where
  pub full : now.full ≡ false → monitor.full ≡ false
  pub sound : Sound monitor → Sound now
  pub seen : (host : ℕ) → Sound monitor → has_seen monitor host ≡ true → has_seen now host ≡ true
  pub view : view_in now.views a b ≡ view_in monitor.views a b
  pub kept : now.full ≡ false → (on : ℕ) → filter (is_of a b on) now.kept ≡ filter (is_of a b on) monitor.kept

spares_both : (a b : ℕ) (x y z : Monitor) → Spares a b x y → Spares a b y z → Spares a b x z
spares_both a b x y z k l = record {
  full = λ e. k.full (l.full e);
  sound = λ s. l.sound (k.sound s);
  seen = λ host s e. l.seen host (k.sound s) (k.seen host s e);
  view = l.view ∙ k.view;
  kept = λ e on. l.kept e on ∙ k.kept (l.full e) on;
}

still : (a b : ℕ) (x : Monitor) → Spares a b x x
still a b x = record { full = λ e. e; sound = λ s. s; seen = λ host s e. e; view = refl; kept = λ e on. refl }

-- a record at an interface with this peer is not of the two
abbrev pub IsOfOthers : ℕ → ℕ → ℕ → ℕ → Type 0
IsOfOthers a b at peer = (at ≡ a → peer ≡ b → ⊥) × (peer ≡ a → at ≡ b → ⊥)

-- ---- another place in the row of views

same_at : (at peer a b : ℕ) → peer < 256 → b < 256 → index_of a b ≡ index_of at peer → at ≡ a
same_at at peer a b p s e = omega (arith, e, p, s)

same_peer : (at peer a b : ℕ) → peer < 256 → b < 256 → index_of a b ≡ index_of at peer → peer ≡ b
same_peer at peer a b p s e = omega (arith, e, p, s)

place_other : (views : List View) (at peer a b : ℕ) (v : View) → peer < 256 → b < 256 → IsOfOthers a b at peer → view_in (with_view views at peer v) a b ≡ view_in views a b
place_other views at peer a b v p s n = get_or-set_other views (index_of at peer) (index_of a b) v (new_view false) (λ e. n.0 (same_at at peer a b p s e) (same_peer at peer a b p s e))

-- ---- what it does

seen_spares : (a b at : ℕ) (x : Monitor) → at < 256 → Spares a b x (sees x at)
seen_spares a b at x l = record { full = λ e. e; sound = λ s. sound_sees x at s; seen = λ host s e. seen_stays x at host s l e; view = refl; kept = λ e on. refl }

said_spares : (a b at peer by : ℕ) (sent fresh : Bool) (r : Result Message MessageFault) (x : Monitor) → peer < 256 → b < 256 → IsOfOthers a b at peer → Spares a b x (after_said x at peer (turn_at x at peer by sent) fresh r)
said_spares a b at peer by sent true (Ok m) x p s n = record {
  full = λ e. e;
  sound = λ k. sound_said x at peer by sent true (Ok m) k;
  seen = λ host k e. e;
  view = place_other x.views at peer a b (after_read (message_class m) (turn_at x at peer by sent) m.text (view_of x at peer)) p s n;
  kept = λ e on. refl;
}
said_spares a b at peer by sent false (Ok m) x p s n = still a b x
said_spares a b at peer by sent fresh (Err fault) x p s n = still a b x

out_spares : (a b at peer on : ℕ) (bits : List Bool) (x : Monitor) → peer < 256 → b < 256 → IsOfOthers a b at peer → Spares a b x (monitor_after_out x at peer on bits)
out_spares a b at peer on bits x p s n = go x.full refl
  where
    view : View
    view = view_after_out (view_in x.views at peer) on (slot_of_link x at peer on) (same_of x at peer on bits)

    now : Monitor
    now = record x { full = not (has_room x.kept (position_of at peer on x.kept)); views = with_view x.views at peer view; kept = with_out x.kept (position_of at peer on x.kept) (gone_out at peer on bits) }

    go : (c : Bool) → x.full ≡ c → Spares a b x (if c then x else now)
    go true e = still a b x
    go false e = record {
      full = λ f. e;
      sound = λ k. record { part = k.part; seen_long = k.seen_long; long = view_length x.views at peer view ∙ k.long };
      seen = λ host k f. f;
      view = place_other x.views at peer a b view p s n;
      kept = λ f link. put_distinct at peer on x.kept bits (has_room_for_one (has_room x.kept (position_of at peer on x.kept)) f) (is_of a b link) (keys_distinct at peer on a b link (λ is. n.0 is.0 is.1));
    }

in_spares : (a b at peer on : ℕ) (x : Monitor) → IsOfOthers a b at peer → Spares a b x (after_in x at peer on)
in_spares a b at peer on x n = go (judges_coming x at peer)
  where
    go : (c : Bool) → Spares a b x (if c then record x { kept = with_coming x.kept (position_of peer at on x.kept) } else x)
    go true = record {
      full = λ e. e;
      sound = λ k. record { part = k.part; seen_long = k.seen_long; long = k.long };
      seen = λ host k e. e;
      view = refl;
      kept = λ e link. (after_coming peer at on x.kept).0 (is_of a b link) (keys_distinct peer at on a b link (λ is. n.1 is.0 is.1));
    }
    go false = still a b x

answer_spares : (a b at peer on kind : ℕ) (x : Monitor) → IsOfOthers a b at peer → Spares a b x (monitor_after_answer x kind at peer on)
answer_spares a b at peer on kind x n = go x.full
  where
    known : Bool
    known = (view_in x.views at peer).known

    go : (c : Bool) → Spares a b x (if c then x else record x { kept = with_answer known kind x.kept (position_of at peer on x.kept) })
    go true = still a b x
    go false = record {
      full = λ e. e;
      sound = λ k. record { part = k.part; seen_long = k.seen_long; long = k.long };
      seen = λ host k e. e;
      view = refl;
      kept = λ e link. (after_answering at peer on known kind x.kept).0 (is_of a b link) (keys_distinct at peer on a b link (λ is. n.0 is.0 is.1));
    }

-- ---- a record

pub record_spares : (a b at : ℕ) (way : ImpDirection) (bits : List Bool) (leader : Leader) (monitor : Monitor) → at < 256 → leader.host < 256 → b < 256 → leader_in bits ≡ Ok leader → IsOfOthers a b at leader.host → Spares a b monitor (after_record monitor way at bits)
record_spares a b at way bits leader monitor l p s led n =
    spares_both a b monitor U (after_record monitor way at bits) (seen_spares a b at monitor l)
    (subst (λ (r : Result Leader Short). Spares a b U (after_event U at bits (event_after way at r))) (sym led) (by way))
  where
    U : Monitor
    U = sees monitor at

    out : (on : ℕ) → Spares a b U (after_said (monitor_after_out U at leader.host on bits) at leader.host (turn_at (monitor_after_out U at leader.host on bits) at leader.host at true) (fresh_out U at leader.host on bits) (message_in bits))
    out on =
        spares_both a b U (monitor_after_out U at leader.host on bits) (after_said (monitor_after_out U at leader.host on bits) at leader.host (turn_at (monitor_after_out U at leader.host on bits) at leader.host at true) (fresh_out U at leader.host on bits) (message_in bits))
        (out_spares a b at leader.host on bits U p s n)
        (said_spares a b at leader.host at true (fresh_out U at leader.host on bits) (message_in bits) (monitor_after_out U at leader.host on bits) p s n)

    come : (on : ℕ) → Spares a b U (after_said (after_in U at leader.host on) at leader.host (turn_at (after_in U at leader.host on) at leader.host leader.host false) true (message_in bits))
    come on =
        spares_both a b U (after_in U at leader.host on) (after_said (after_in U at leader.host on) at leader.host (turn_at (after_in U at leader.host on) at leader.host leader.host false) true (message_in bits))
        (in_spares a b at leader.host on U n)
        (said_spares a b at leader.host leader.host false true (message_in bits) (after_in U at leader.host on) p s n)

    goes : (c z q : Bool) → (leader.host == at) ≡ c → (leader.kind == 0) ≡ z → (leader.kind == 4) ≡ q → Spares a b U (after_event U at bits (event_after ToImp at (Ok leader)))
    goes c z true e f g = rw g (still a b U)
    goes true z false e f g = rw (g, e) (still a b U)
    goes false true false e f g = rw (g, e, f) (out leader.link)
    goes false false false e f g = rw (g, e, f) (still a b U)

    comes : (c z x : Bool) → (leader.host == at) ≡ c → (leader.kind == 0) ≡ z → is_answer leader.kind ≡ x → Spares a b U (after_event U at bits (event_after FromImp at (Ok leader)))
    comes c false false e f g = rw (f, g) (still a b U)
    comes true true x e f g = rw (f, e) (still a b U)
    comes true false true e f g = rw (f, g, e) (still a b U)
    comes false true x e f g = rw (f, e) (come leader.link)
    comes false false true e f g = rw (f, g, e) (answer_spares a b at leader.host leader.link leader.kind U n)

    by : (way : ImpDirection) → Spares a b U (after_event U at bits (event_after way at (Ok leader)))
    by ToImp = goes (leader.host == at) (leader.kind == 0) (leader.kind == 4) refl refl refl
    by FromImp = comes (leader.host == at) (leader.kind == 0) (is_answer leader.kind) refl refl refl

-- ---- what is known of the two

way_spared : (a b : ℕ) (t : ℕ → OnLink) (monitor now : Monitor) → Sound monitor → Spares a b monitor now → OneWay a b t monitor → OneWay a b t now
way_spared a b t monitor now k s w = record {
  clear = ap (λ (v : View). v.overlapped) s.view ∙ w.clear;
  seen = λ on f. s.seen a k (w.seen on f);
  tells = λ e on. subst (Tells (t on)) (sym (s.kept e on)) (w.tells (s.full e) on);
}

-- the only peer
pub only : (n : ℕ) (h : Host) → Holds (n ∷ []) h → (m : ℕ) (s : PeerState) → state_of h m ≡ Some s → n ≡ m
only n h k m s there = go (n == m) refl (sym (ap (is_one_of m) k.numbers) ∙ peer_there h.peers m s there)
  where
    go : (c : Bool) → (n == m) ≡ c → (c || false) ≡ true → n ≡ m
    go true e f = eqb-true n m e
    go false e f = absurd (cc)

at_spared : (me n : ℕ) (h : Host) (monitor now : Monitor) → Sound monitor → Spares me n monitor now → At me n h monitor → At me n h now
at_spared me n h monitor now k s w = record {
  holds = w.holds;
  watched = record {
    follows = λ e. record { agrees = λ m t there on. agrees e m t there on };
    seen = record { long = (s.sound k).long; each = λ e m t there. each e m t there };
  };
  ready = w.ready;
}
  where
    agrees : now.full ≡ false → (m : ℕ) (t : PeerState) → state_of h m ≡ Some t → (on : ℕ) → Shows (filter (is_of me m on) now.kept) (slot_at t.slots on)
    agrees e m t there on =
        subst (λ (j : ℕ). Shows (filter (is_of me j on) monitor.kept) (slot_at t.slots on) → Shows (filter (is_of me j on) now.kept) (slot_at t.slots on)) (only n h w.holds m t there)
        (λ shown. subst (λ (xs : List SentMessage). Shows xs (slot_at t.slots on)) (sym (s.kept e on)) shown)
        ((w.watched.follows (s.full e)).agrees m t there on)

    each : now.full ≡ false → (m : ℕ) (t : PeerState) → state_of h m ≡ Some t → Seen t (view_in now.views me m)
    each e m t there =
        subst (λ (j : ℕ). Seen t (view_in monitor.views me j) → Seen t (view_in now.views me j)) (only n h w.holds m t there)
        (λ told. subst (Seen t) (sym s.view) told)
        (w.watched.seen.each (s.full e) m t there)

pub both_spared : (w : Hosts) (monitor now : Monitor) → Spares w.number_a w.number_b monitor now → Spares w.number_b w.number_a monitor now → Both w monitor → Both w now
both_spared w monitor now s t k = record {
  joined = k.joined;
  ways = record {
    sound = s.sound k.ways.sound;
    going = way_spared w.number_a w.number_b _ monitor now k.ways.sound s k.ways.going;
    coming = way_spared w.number_b w.number_a _ monitor now k.ways.sound t k.ways.coming;
  };
  at_a = at_spared w.number_a w.number_b w.a monitor now k.ways.sound s k.at_a;
  at_b = at_spared w.number_b w.number_a w.b monitor now k.ways.sound t k.at_b;
  of_a = λ f.
      subst (λ (x : View). Toward (seen w) x (view_in now.views w.number_a w.number_b).host.began) (sym t.view)
      (subst (λ (x : View). Toward (seen w) (view_in monitor.views w.number_b w.number_a) x.host.began) (sym s.view) (k.of_a (s.full f)));
  of_b = λ f.
      subst (λ (x : View). Toward (swap (seen w)) x (view_in now.views w.number_b w.number_a).host.began) (sym s.view)
      (subst (λ (x : View). Toward (swap (seen w)) (view_in monitor.views w.number_a w.number_b) x.host.began) (sym t.view) (k.of_b (s.full f)));
}
