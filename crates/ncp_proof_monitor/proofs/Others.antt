-- Records at other interfaces leave what is known of a host: what is kept of its links, and what is seen of its phases.
use Rattle.std.proofs.Common.{◌≡◌, ℕ, ◌<◌, ◌==◌, Bool, true, false, not, nat_lt, if◌then◌else◌, List, length, Some, Result, Ok, Err, get_or-set_other, filter, refl, sym, ap, ◌∙◌, subst, arith}
use Rattle.std.proofs.lemmas.Bool.{eqb-true}
use Rattle.ncp_leader.specs.declared.fault.MessageFault.{MessageFault}
use Rattle.ncp_leader.specs.declared.leader.Leader.{Leader}
use Rattle.ncp_leader.specs.declared.leader.Short.{Short}
use Rattle.ncp_leader.specs.Leader.{leader_in, leader_at}
use Rattle.ncp_leader.specs.Message.{Message, message_in}
use Rattle.ncp_leader.proofs.Leaders.{IsLeader-at}
use Rattle.ncp_slot.specs.Slots.{LinkSlot, slot_at}
use Rattle.ncp_peer.specs.PeerState.{PeerState}
use Rattle.ncp_host.specs.Host.{Host, state_of}
use Rattle.ncp_interface.specs.declared.sent_message.SentMessage.{SentMessage}
use Rattle.ncp_monitor.specs.declared.monitor.Monitor.{Monitor}
use Rattle.ncp_monitor.specs.declared.view.View.{View}
use Rattle.ncp_interface.specs.declared.imp_direction.ImpDirection.{ImpDirection}
use Rattle.ncp_interface.specs.declared.imp_direction.ImpDirection.TheVariants.{ToImp, FromImp}
use Rattle.ncp_interface.specs.Events.{is_answer, event_after}
use Rattle.ncp_interface.specs.Slots.{is_of, position_of, gone_out, has_room, with_out, with_answer}
use Rattle.ncp_monitor.specs.Tables.{index_of, view_in, with_view}
use Rattle.ncp_monitor.specs.Views.{new_view}
use Rattle.ncp_interface.specs.Contents.{message_class}
use Rattle.ncp_monitor.specs.Judged.{sees, view_of, slot_of_link, same_of, view_after_out, fresh_out, monitor_after_out, monitor_after_answer, judges_coming, with_coming, after_in, turn_at, after_read, after_said, after_event, after_record}
use Rattle.ncp_proof_monitor.proofs.KeptOne.{Apart, placed, put_out}
use Rattle.ncp_proof_monitor.proofs.Shown.{Shows, of_itself, after_answering, after_coming}
use Rattle.ncp_proof_monitor.proofs.Linked.{Known, keyed, distinct_known}
use Rattle.ncp_proof_monitor.proofs.PhaseSeen.{view_length, Seen}
use Rattle.ncp_proof_monitor.proofs.PhaseWalk.{AllSeen}

-- ---- what is known of a host

-- while all unacknowledged messages are kept
pub record Watched (me : ℕ) (h : Host) (monitor : Monitor) : Type 0 where
  pub follows : monitor.full ≡ false → Known me h monitor.kept
  pub seen : AllSeen me h monitor

-- another umpire, with the views of the host, and what is kept of its links, as they were
pub record Leaves (me : ℕ) (monitor now : Monitor) : Type 0 where
  pub full : now.full ≡ false → monitor.full ≡ false
  pub long : length now.views ≡ length monitor.views
  pub views : (n : ℕ) → n < 256 → view_in now.views me n ≡ view_in monitor.views me n
  pub kept : (h : Host) → now.full ≡ false → Known me h monitor.kept → Known me h now.kept

leaves_both : (me : ℕ) (a b c : Monitor) → Leaves me a b → Leaves me b c → Leaves me a c
leaves_both me a b c k l = record {
  full = λ e. k.full (l.full e);
  long = l.long ∙ k.long;
  views = λ n s. l.views n s ∙ k.views n s;
  kept = λ h e x. l.kept h e (k.kept h (l.full e) x);
}

same_leaves : (me : ℕ) (a b : Monitor) → b.views ≡ a.views → b.kept ≡ a.kept → b.full ≡ a.full → Leaves me a b
same_leaves me a b v k f = record {
  full = λ e. sym f ∙ e;
  long = ap length v;
  views = λ n s. ap (λ (x : List View). view_in x me n) v;
  kept = λ h e x. subst (λ (y : List SentMessage). Known me h y) (sym k) x;
}

pub watched : (me : ℕ) (h : Host) (monitor now : Monitor) → ((n : ℕ) (s : PeerState) → state_of h n ≡ Some s → n < 256) → Leaves me monitor now → Watched me h monitor → Watched me h now
watched me h monitor now small l w = record {
  follows = λ e. l.kept h e (w.follows (l.full e));
  seen = record {
    long = l.long ∙ w.seen.long;
    each = λ e n s there. subst (λ (v : View). Seen s v) (sym (l.views n (small n s there))) (w.seen.each (l.full e) n s there);
  };
}

-- ---- another row of views

row_other : (views : List View) (at peer me n : ℕ) (v : View) → (at == me) ≡ false → peer < 256 → n < 256 → view_in (with_view views at peer v) me n ≡ view_in views me n
row_other views at peer me n v d p s = get_or-set_other views (index_of at peer) (index_of me n) v (new_view false) (λ e. distinct_rows at peer me n d p s e)
  where
    distinct_rows : (at peer me n : ℕ) → (at == me) ≡ false → peer < 256 → n < 256 → index_of me n ≡ index_of at peer → ⊥
    distinct_rows at peer me n d p s e =
        let same : me ≡ at = rows at peer me n p s e in
        let nay : true ≡ false = sym (itself me at same) ∙ d in
        absurd (cc)
      where
        rows : (at peer me n : ℕ) → peer < 256 → n < 256 → index_of me n ≡ index_of at peer → me ≡ at
        rows at peer me n p s e = omega (arith, e, p, s)

        itself : (me at : ℕ) → me ≡ at → (at == me) ≡ true
        itself me at e = grind (arith, e)

said_leaves : (me at peer by : ℕ) (sent fresh : Bool) (r : Result Message MessageFault) (A : Monitor) → (at == me) ≡ false → peer < 256 → Leaves me A (after_said A at peer (turn_at A at peer by sent) fresh r)
said_leaves me at peer by sent true (Ok m) A d p = record {
  full = λ e. e;
  long = view_length A.views at peer (after_read (message_class m) (turn_at A at peer by sent) m.text (view_of A at peer));
  views = λ n s. row_other A.views at peer me n (after_read (message_class m) (turn_at A at peer by sent) m.text (view_of A at peer)) d p s;
  kept = λ h e x. x;
}
said_leaves me at peer by sent false (Ok m) A d p = same_leaves me A A refl refl refl
said_leaves me at peer by sent fresh (Err fault) A d p = same_leaves me A A refl refl refl

-- ---- a message is sent at another interface

pub put_distinct : (at peer on : ℕ) (kept : List SentMessage) (bits : List Bool) → has_room kept (position_of at peer on kept) ≡ true → (q : SentMessage → Bool) → Apart (is_of at peer on) q → filter q (with_out kept (position_of at peer on kept) (gone_out at peer on bits)) ≡ filter q kept
put_distinct at peer on kept bits room = (put_out (is_of at peer on) kept (gone_out at peer on bits) (placed (is_of at peer on) kept) (of_itself at peer on bits) room).others

pub has_room_for_one : (b : Bool) → not b ≡ false → b ≡ true
has_room_for_one true e = refl
has_room_for_one false e = absurd (cc)

out_leaves : (me at peer on : ℕ) (bits : List Bool) (U : Monitor) → (at == me) ≡ false → peer < 256 → Leaves me U (monitor_after_out U at peer on bits)
out_leaves me at peer on bits U d p = go U.full refl
  where
    view : View
    view = view_after_out (view_in U.views at peer) on (slot_of_link U at peer on) (same_of U at peer on bits)

    now : Monitor
    now = record U { full = not (has_room U.kept (position_of at peer on U.kept)); views = with_view U.views at peer view; kept = with_out U.kept (position_of at peer on U.kept) (gone_out at peer on bits) }

    go : (b : Bool) → U.full ≡ b → Leaves me U (if b then U else now)
    go true e = same_leaves me U U refl refl refl
    go false e = record {
      full = λ f. e;
      long = view_length U.views at peer view;
      views = λ n s. row_other U.views at peer me n view d p s;
      kept = λ h f x. distinct_known me at peer on h U.kept now.kept d (put_distinct at peer on U.kept bits (has_room_for_one (has_room U.kept (position_of at peer on U.kept)) f)) x;
    }

-- ---- what comes at another interface

-- a message of the host itself comes there
own_known : (me to on : ℕ) (h : Host) (kept now : List SentMessage) → ((q : SentMessage → Bool) → Apart (is_of me to on) q → filter q now ≡ filter q kept)
    → ((s : LinkSlot) → Shows (filter (is_of me to on) kept) s → Shows (filter (is_of me to on) now) s) → Known me h kept → Known me h now
own_known me to on h kept now others shows = keyed me to on h h kept now others (λ m t e. (t, e, λ l nay. refl, λ i shown. shows (slot_at t.slots on) shown))

in_leaves : (me at peer on : ℕ) (U : Monitor) → Leaves me U (after_in U at peer on)
in_leaves me at peer on U = go (judges_coming U at peer)
  where
    come : List SentMessage
    come = with_coming U.kept (position_of peer at on U.kept)

    known : (h : Host) → Known me h U.kept → Known me h come
    known h x = by (peer == me) refl
      where
        by : (b : Bool) → (peer == me) ≡ b → Known me h come
        by false e = distinct_known me peer at on h U.kept come e (after_coming peer at on U.kept).0 x
        by true e = own_known me at on h U.kept come (subst (λ (j : ℕ). (q : SentMessage → Bool) → Apart (is_of j at on) q → filter q come ≡ filter q U.kept) (eqb-true peer me e) (after_coming peer at on U.kept).0) (subst (λ (j : ℕ). (s : LinkSlot) → Shows (filter (is_of j at on) U.kept) s → Shows (filter (is_of j at on) come) s) (eqb-true peer me e) (after_coming peer at on U.kept).1) x

    go : (b : Bool) → Leaves me U (if b then record U { kept = come } else U)
    go true = record { full = λ e. e; long = refl; views = λ n s. refl; kept = λ h e x. known h x }
    go false = same_leaves me U U refl refl refl

pub answer_leaves : (me at peer on kind : ℕ) (U : Monitor) → (at == me) ≡ false → Leaves me U (monitor_after_answer U kind at peer on)
answer_leaves me at peer on kind U d = go U.full
  where
    known : Bool
    known = (view_in U.views at peer).known

    now : List SentMessage
    now = with_answer known kind U.kept (position_of at peer on U.kept)

    go : (b : Bool) → Leaves me U (if b then U else record U { kept = now })
    go true = same_leaves me U U refl refl refl
    go false = record { full = λ e. e; long = refl; views = λ n s. refl; kept = λ h e x. distinct_known me at peer on h U.kept now d (after_answering at peer on known kind U.kept).0 x }

-- ---- a record at another interface

leader_small : (bits : List Bool) (leader : Leader) → leader_in bits ≡ Ok leader → leader.host < 256
leader_small bits leader e = go (nat_lt (length bits) 32) e
  where
    go : (b : Bool) → ◌≡◌ {A = Result Leader Short} (if b then Err (record {}) else Ok (leader_at bits)) (Ok leader) → leader.host < 256
    go true e = absurd (cc)
    go false e = let same : leader_at bits ≡ leader = cc in subst (λ (l : Leader). l.host < 256) same (IsLeader-at bits).host

pub other_leaves : (me at : ℕ) (way : ImpDirection) (bits : List Bool) (monitor : Monitor) → (at == me) ≡ false → Leaves me monitor (after_record monitor way at bits)
other_leaves me at way bits monitor d = leaves_both me monitor U (after_record monitor way at bits) (same_leaves me monitor U refl refl refl) (go way (leader_in bits) refl)
  where
    U : Monitor
    U = sees monitor at

    still : Leaves me U U
    still = same_leaves me U U refl refl refl

    out : (n on : ℕ) → n < 256 → Leaves me U (after_said (monitor_after_out U at n on bits) at n (turn_at (monitor_after_out U at n on bits) at n at true) (fresh_out U at n on bits) (message_in bits))
    out n on s = leaves_both me U (monitor_after_out U at n on bits) (after_said (monitor_after_out U at n on bits) at n (turn_at (monitor_after_out U at n on bits) at n at true) (fresh_out U at n on bits) (message_in bits)) (out_leaves me at n on bits U d s) (said_leaves me at n at true (fresh_out U at n on bits) (message_in bits) (monitor_after_out U at n on bits) d s)

    come : (n on : ℕ) → n < 256 → Leaves me U (after_said (after_in U at n on) at n (turn_at (after_in U at n on) at n n false) true (message_in bits))
    come n on s = leaves_both me U (after_in U at n on) (after_said (after_in U at n on) at n (turn_at (after_in U at n on) at n n false) true (message_in bits)) (in_leaves me at n on U) (said_leaves me at n n false true (message_in bits) (after_in U at n on) d s)

    goes : (leader : Leader) → leader.host < 256 → (b z q : Bool) → (leader.host == at) ≡ b → (leader.kind == 0) ≡ z → (leader.kind == 4) ≡ q → Leaves me U (after_event U at bits (event_after ToImp at (Ok leader)))
    goes leader s b z true e f g = rw g still
    goes leader s true z false e f g = rw (g, e) still
    goes leader s false true false e f g = rw (g, e, f) (out leader.host leader.link s)
    goes leader s false false false e f g = rw (g, e, f) still

    comes : (leader : Leader) → leader.host < 256 → (b z x : Bool) → (leader.host == at) ≡ b → (leader.kind == 0) ≡ z → is_answer leader.kind ≡ x → Leaves me U (after_event U at bits (event_after FromImp at (Ok leader)))
    comes leader s b false false e f g = rw (f, g) still
    comes leader s true true x e f g = rw (f, e) still
    comes leader s true false true e f g = rw (f, g, e) still
    comes leader s false true x e f g = rw (f, e) (come leader.host leader.link s)
    comes leader s false false true e f g = rw (f, g, e) (answer_leaves me at leader.host leader.link leader.kind U d)

    go : (way : ImpDirection) (r : Result Leader Short) → leader_in bits ≡ r → Leaves me U (after_event U at bits (event_after way at r))
    go ToImp (Err short) e = still
    go FromImp (Err short) e = still
    go ToImp (Ok leader) e = goes leader (leader_small bits leader e) (leader.host == at) (leader.kind == 0) (leader.kind == 4) refl refl refl
    go FromImp (Ok leader) e = comes leader (leader_small bits leader e) (leader.host == at) (leader.kind == 0) (is_answer leader.kind) refl refl refl
