-- The texts that `ncp follow` reports for the file of two hosts are those that were got: the facts about
-- both hosts, about the monitor and about the follower hold at the start, and each event preserves them.
use Rattle.std.proofs.Common.{◌≡◌, ◌≢◌, ◌<◌, ℕ, zero, suc, true, false, List, [], ◌∷◌, length, get_or, is_some, refl, sym, ap, ◌∙◌, subst, arith}
use Rattle.std.specs.FinMap.{get, get-empty}
use Rattle.ncp_model.specs.Pairs.{pair_cmp}
use Rattle.ncp_model.specs.Endpoint.{is_live}
use Rattle.ncp_peer.specs.PeerState.{PeerState, new_state}
use Rattle.ncp_transcript_two.specs.Between.{Hosts, new_hosts}
use Rattle.ncp_transcript_two.specs.Watch.{no_histories, Both}
use Rattle.ncp_transcript_two.specs.Seen.{had_for}
use Rattle.ncp_monitor.specs.declared.monitor.Monitor.{Monitor}
use Rattle.ncp_monitor.specs.declared.view.View.{View}
use Rattle.ncp_monitor.specs.Judged.{new_monitor}
use Rattle.ncp_monitor.specs.ConnStates.{SeenTables, unasked_conn, conn_at_index}
use Rattle.ncp_follow.specs.declared.follower.Follower.{Follower}
use Rattle.ncp_follow.specs.declared.followed_conn.FollowedConn.{FollowedConn}
use Rattle.ncp_follow.specs.declared.tables.Tables.{Tables}
use Rattle.ncp_follow.specs.Followed.{new_follower}
use Rattle.ncp_follow.specs.Tracks.{new_track, track_at}
use Rattle.ncp_follow.specs.Sessions.{new_session}
use Rattle.ncp_proof_monitor_messages.proofs.Both.{new_seen, new_had}
use Rattle.ncp_proof_monitor_network.proofs.NeverSuspended.{new_awake}
use Rattle.ncp_proof_monitor_network.proofs.SessionInvariants.{Known}
use Rattle.ncp_proof_follow.specs.OpenedTexts.{FollowReportsWhatWasGot}
use Rattle.ncp_proof_follow_tables.proofs.Besides.{besides_length, besides_at}
use Rattle.ncp_proof_follow.proofs.SameItems.{InTouch}
use Rattle.ncp_proof_follow.proofs.SameRecords.{Alike}
use Rattle.ncp_proof_follow_tables.proofs.Placed.{placed_begins}
use Rattle.ncp_proof_follow_tables.proofs.Covered.{OneCovered, OpenCovered, Covered, covered_begins}
use Rattle.ncp_proof_follow.proofs.ControlComes.{AtHost, none_lives}
use Rattle.ncp_proof_follow.proofs.CameOpened.{IsCovered}
use Rattle.ncp_proof_follow.proofs.BothFollowed.{Beside}
use Rattle.ncp_proof_follow.proofs.EachCovered.{each_covered}
use Rattle.ncp_proof_follow.proofs.Holding.{Held, turn_held}
use Rattle.ncp_proof_follow.proofs.FewWalk.{each_held, held_begins}
use Rattle.ncp_proof_follow.proofs.EachOpened.{Holds, each_opened, opened_at}
use Rattle.ncp_proof_follow.proofs.OpenedWalk.{follow_reports}

-- ---- what is covered

place_within : (ms : List FollowedConn) (p : ℕ) → is_some (get_or ms p (new_track 0 0 0 0)).place ≡ true → p < length ms
place_within [] p e = absurd (cc e)
place_within (m ∷ ms) zero e = omega arith
place_within (m ∷ ms) (suc p) e = let rest = place_within ms p e in omega arith

is_covered : (b : SeenTables) (t : Tables) → Covered b t → IsCovered b t
is_covered b t c p e =
    let within : p < length b.conns = subst (λ (n : ℕ). p < n) (besides_length (OneCovered b.pending_replies) b.conns t.tracks c.0) (place_within t.tracks p e) in
    let one : OneCovered b.pending_replies (conn_at_index b.conns p) (track_at t.tracks p) = besides_at (OneCovered b.pending_replies) b.conns t.tracks p (unasked_conn 0 0 0 0) (new_track 0 0 0 0) within c.0 in
    let o : OpenCovered b.pending_replies (conn_at_index b.conns p) (track_at t.tracks p) = one.1 e in (o.messages, o.bits)

-- ---- the beginning

alike_begins : (me n : ℕ) → Alike me n (new_monitor false) (new_follower false)
alike_begins me n = record {
  part = refl;
  outs = tt;
  same = record { conns = tt; calm = refl };
  touch = subst (λ (v : View). InTouch v (new_session false me n)) (sym (new_seen me n)) (record { awake = new_awake; host_began = refl; peer_began = refl; host_waits = refl; peer_waits = refl });
}

beside_begins : (a b : ℕ) → Beside a b (new_monitor false) (new_follower false)
beside_begins a b = record { this = alike_begins a b; that = alike_begins b a; few = omega arith }

host_begins : (me n : ℕ) (s : PeerState) (t : Tables) → s ≡ new_state → AtHost me n s no_histories.this t
host_begins me n s t e = none_lives me n s no_histories.this t (λ q. ap (λ (x : PeerState). is_live (get x.peer.ends q)) e ∙ ap is_live (get-empty pair_cmp q))

-- ---- the law

known_of : (w : Hosts) (u : Monitor) → Held w u → Known w u
known_of w u k = k.0

unfull_of : (w : Hosts) (u : Monitor) → Held w u → u.full ≡ false
unfull_of w u k = k.1.unfilled

room_of : (w : Hosts) (u : Monitor) → Held w u → u.conn_tables.full ≡ false
room_of w u k = k.1.open_books

abbrev All_held : Hosts → Both → Monitor → Follower → Type 0
All_held = Holds Held known_of unfull_of room_of turn_held each_held Covered is_covered each_covered

all_begins : (a b : ℕ) → a ≢ b → a < 256 → b < 256 → All_held (new_hosts a b) no_histories (new_monitor false) (new_follower false)
all_begins a b d k l = record {
  kept = held_begins a b d k l;
  beside = beside_begins a b;
  covered = covered_begins;
  placed = placed_begins;
  opened = λ h j conn e w. absurd (cc e);
  here = λ h. host_begins a b (had_for b (new_hosts a b).a) (new_follower false).tables (new_had b);
  there = λ h. host_begins b a (had_for a (new_hosts a b).b) (new_follower false).tables (new_had a);
}

pub follow_opened : FollowReportsWhatWasGot
follow_opened =
    follow_reports All_held (each_opened Held known_of unfull_of room_of turn_held each_held Covered is_covered each_covered) all_begins (opened_at Held known_of unfull_of room_of turn_held each_held Covered is_covered each_covered)
