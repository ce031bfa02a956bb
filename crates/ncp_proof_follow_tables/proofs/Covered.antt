-- What is left of a connection as it is followed is never less than what may still be sent of it as it is judged, with what a RET
-- gives back that the host owes. (A GVB takes off what is asked back where the host sends; it is followed at the RET.)
use Rattle.std.proofs.Common.{◌≡◌, ◌<◌, ◌≤◌, ◌⊎◌, inl, inr, ℕ, zero, suc, ◌+◌, ◌==◌, eq-eqb, Bool, true, false, not, ◌&&◌, ◌||◌, if◌then◌else◌, List, [], ◌∷◌, ◌++◌, map, length, get_or, Option, None, Some, is_some, refl, sym, ap, ◌∙◌, subst, arith}
use Rattle.std.specs.Prelude.{nat_lt, slice_set}
use Rattle.std.specs.List.{filter, list_any}
use Rattle.std.proofs.Math.Bool.{beq}
use Rattle.std.proofs.lemmas.Bool.{eqb-true}
use Rattle.ncp_wire.specs.declared.command.Command.{Command}
use Rattle.ncp_monitor.specs.declared.conn_tables.TheConstants.{MAX_TABLE_ROWS}
use Rattle.ncp_monitor.specs.declared.pending_reply.PendingReply.{PendingReply}
use Rattle.ncp_monitor.specs.declared.pending_reply.ExpectedReply.{ExpectedReply}
use Rattle.ncp_monitor.specs.declared.conn_state.ConnState.{ConnState}
use Rattle.ncp_monitor.specs.declared.observed_flow.ObservedFlow.{ObservedFlow}
use Rattle.ncp_monitor.specs.ConnStates.{SeenTables, no_conn_tables, unasked_conn, is_return_on, with_due}
use Rattle.ncp_interface.specs.Sockets.{is_senders}
use Rattle.ncp_monitor.specs.Replies.{is_due_of, says_wanted, answers, is_wanted, optional, fits_sure, pending_struck, pending_left, owes, is_own, after_reply}
use Rattle.ncp_monitor.specs.Allocation.{numbers_due}
use Rattle.ncp_follow.specs.declared.followed_conn.FollowedConn.{FollowedConn}
use Rattle.ncp_follow.specs.declared.tables.Tables.{Tables}
use Rattle.ncp_follow.specs.Tracks.{new_track}
use Rattle.ncp_proof_follow_tables.proofs.Besides.{Besides, besides_more, besides_set, besides_here}

-- ---- a RET that the host owes for a connection on which it sends

abbrev pub back_messages : ExpectedReply → ℕ
back_messages (ExpectedReply.Return link messages bits) = messages
back_messages (ExpectedReply.Echo byte) = 0
back_messages (ExpectedReply.Error code or bytes) = 0

abbrev pub back_bits : ExpectedReply → ℕ
back_bits (ExpectedReply.Return link messages bits) = bits
back_bits (ExpectedReply.Echo byte) = 0
back_bits (ExpectedReply.Error code or bytes) = 0

abbrev pub is_on_given : Option ℕ → ExpectedReply → Bool
is_on_given None wanted = false
is_on_given (Some link) wanted = is_return_on link wanted

abbrev pub is_its_return : ConnState → PendingReply → Bool
is_its_return l due = is_senders l.local && is_due_of l.at l.peer true due && is_on_given l.link due.wanted

-- a RET at all
abbrev pub is_any_return : ExpectedReply → Bool
is_any_return (ExpectedReply.Return link messages bits) = true
is_any_return (ExpectedReply.Echo byte) = false
is_any_return (ExpectedReply.Error code or bytes) = false

off : (a b c : Bool) → b ≡ false → (a && b && c) ≡ false
off true true c e = absurd (cc e)
off true false c e = refl
off false b c e = refl

off_all : (a b c : Bool) → c ≡ false → (a && b && c) ≡ false
off_all true true c e = e
off_all true false c e = refl
off_all false b c e = refl

-- what is no RET of the host is of no connection
pub not_its : (l : ConnState) (due : PendingReply) → (due.host && is_any_return due.wanted) ≡ false → is_its_return l due ≡ false
not_its l due e = go due.host refl e
  where
    on_none : (o : Option ℕ) (wanted : ExpectedReply) → is_any_return wanted ≡ false → is_on_given o wanted ≡ false
    on_none None wanted e = refl
    on_none (Some link) (ExpectedReply.Return on messages bits) e = absurd (cc e)
    on_none (Some link) (ExpectedReply.Echo byte) e = refl
    on_none (Some link) (ExpectedReply.Error code or bytes) e = refl

    apart : (x y : Bool) → (x && y && false) ≡ false
    apart true true = refl
    apart true false = refl
    apart false y = refl

    go : (h : Bool) → due.host ≡ h → (h && is_any_return due.wanted) ≡ false → is_its_return l due ≡ false
    go true i e = off_all (is_senders l.local) (is_due_of l.at l.peer true due) (is_on_given l.link due.wanted) (on_none l.link due.wanted e)
    go false i e = off (is_senders l.local) (is_due_of l.at l.peer true due) (is_on_given l.link due.wanted) (ap (λ (z : Bool). due.at == l.at && due.peer == l.peer && beq z true) i ∙ apart (due.at == l.at) (due.peer == l.peer))

-- of a receiver none is
pub not_sender : (l : ConnState) → is_senders l.local ≡ false → (due : PendingReply) → is_its_return l due ≡ false
not_sender l s due = ap (λ (z : Bool). z && is_due_of l.at l.peer true due && is_on_given l.link due.wanted) s

-- one that a RET on its link answers
pub its_own : (l : ConnState) (at peer link x y : ℕ) (due : PendingReply) → l.at ≡ at → l.peer ≡ peer → is_senders l.local ≡ true → l.link ≡ Some link → is_due_of at peer true due ≡ true → says_wanted due.wanted (Command.Ret link x y) ≡ true → is_its_return l due ≡ true
its_own l at peer link x y due a p s g f h =
    ap (λ (z : Bool). z && is_due_of l.at l.peer true due && is_on_given l.link due.wanted) s
    ∙ ap (λ (z : ℕ). is_due_of z l.peer true due && is_on_given l.link due.wanted) a
    ∙ ap (λ (z : ℕ). is_due_of at z true due && is_on_given l.link due.wanted) p
    ∙ ap (λ (z : Bool). z && is_on_given l.link due.wanted) f
    ∙ ap (λ (z : Option ℕ). is_on_given z due.wanted) g
    ∙ on_link due.wanted h
  where
    on_link : (w : ExpectedReply) → says_wanted w (Command.Ret link x y) ≡ true → is_return_on link w ≡ true
    on_link (ExpectedReply.Return on messages bits) f = eq-eqb on link (sym (eqb-true link on f))
    on_link (ExpectedReply.Echo byte) f = absurd (cc f)
    on_link (ExpectedReply.Error code or bytes) f = absurd (cc f)

pub record BackCovered (l : ConnState) (m : FollowedConn) (wanted : ExpectedReply) : Type 0 where
  pub messages : l.messages + back_messages wanted ≤ m.left.messages
  pub bits : l.bits + back_bits wanted ≤ m.left.bits
  pub few : back_messages wanted ≤ 65535
  pub few_bits : back_bits wanted ≤ 65536

-- of all that is due
abbrev pub EachDue : (PendingReply → Type 0) → List PendingReply → Type 0
EachDue P [] = Unit {0}
EachDue P (due ∷ pending_replies) = P due × EachDue P pending_replies

abbrev pub IsCovered : ConnState → FollowedConn → PendingReply → Type 0
IsCovered l m due = is_its_return l due ≡ true → BackCovered l m due.wanted

abbrev pub IsNotIts : ConnState → PendingReply → Type 0
IsNotIts l due = is_its_return l due ≡ false

-- a RET that the host owes is of one of these connections
abbrev pub IsOwned : List ConnState → PendingReply → Type 0
IsOwned ls due = (due.host && is_any_return due.wanted) ≡ true → list_any (λ l. is_its_return l due) ls ≡ true

-- at most one of them is of it
abbrev pub OnceDue : ConnState → List PendingReply → Type 0
OnceDue l [] = Unit {0}
OnceDue l (due ∷ pending_replies) = (is_its_return l due ≡ true → EachDue (IsNotIts l) pending_replies) × OnceDue l pending_replies

pub record OpenCovered (pending_replies : List PendingReply) (l : ConnState) (m : FollowedConn) : Type 0 where
  pub messages : l.messages ≤ m.left.messages
  pub bits : l.bits ≤ m.left.bits
  pub few : l.messages ≤ 65535
  pub few_bits : l.bits ≤ 65536
  pub back : EachDue (IsCovered l m) pending_replies

-- of one for which both have not asked nothing is counted; a RET is due of one that is asked back, which the host has not left, and
-- one only
pub record BackSound (pending_replies : List PendingReply) (l : ConnState) : Type 0 where
  pub unopened : (is_some l.link && is_some l.size) ≡ false → (l.messages ≡ 0) × ((l.bits ≡ 0) × (l.recall ≡ false))
  pub calm : l.recall ≡ false → EachDue (IsNotIts l) pending_replies
  pub left : l.host_left ≡ true → EachDue (IsNotIts l) pending_replies
  pub once : OnceDue l pending_replies

abbrev pub OneCovered : List PendingReply → ConnState → FollowedConn → Type 0
OneCovered pending_replies l m = BackSound pending_replies l × (is_some m.place ≡ true → OpenCovered pending_replies l m)

abbrev pub AllCovered : List PendingReply → List ConnState → List FollowedConn → Type 0
AllCovered pending_replies ls ms = Besides (OneCovered pending_replies) ls ms × EachDue (IsOwned ls) pending_replies

abbrev pub Covered : SeenTables → Tables → Type 0
Covered b t = AllCovered b.pending_replies b.conns t.tracks

pub covered_begins : Covered no_conn_tables (record { tracks = []; told = [] })
covered_begins = (tt, tt)

-- an example: with 2 messages that may still be sent, and a RET of 3 due, 4 are too few
example_too_few : OneCovered (record { at = 1; peer = 2; host = true; wanted = ExpectedReply.Return 7 3 0; mandatory = true } ∷ []) (record (unasked_conn 1 2 3 4) { link = Some 7; messages = 2 }) (record (new_track 1 2 3 4) { left = record { messages = 4; bits = 0 }; place = Some 0 }) → ⊥
example_too_few k = let few = ((k.1 refl).back.0 refl).messages in absurd (omega (arith, few))

-- ---- fewer dues

module _ (P : PendingReply → Type 0) where
  pub each_filter : (p : PendingReply → Bool) (pending_replies : List PendingReply) → EachDue P pending_replies → EachDue P (filter p pending_replies)
  each_filter p [] a = tt
  each_filter p (due ∷ pending_replies) (k, a) = go (p due) (each_filter p pending_replies a)
    where
      go : (x : Bool) → EachDue P (filter p pending_replies) → EachDue P (if x then due ∷ filter p pending_replies else filter p pending_replies)
      go true rest = (k, rest)
      go false rest = rest

  pub each_after : (pending_replies : List PendingReply) (one : PendingReply) → EachDue P pending_replies → P one → EachDue P (pending_replies ++ one ∷ [])
  each_after [] one a k = (k, tt)
  each_after (due ∷ pending_replies) one (j, a) k = (j, each_after pending_replies one a k)

  each_unsure : ((due : PendingReply) → P due → P (record due { mandatory = false })) → (own : PendingReply → Bool) (c : Command) (pending_replies : List PendingReply) → EachDue P pending_replies → EachDue P (map (optional own c) pending_replies)
  each_unsure f own c [] a = tt
  each_unsure f own c (due ∷ pending_replies) (k, a) = (go (answers own c due), each_unsure f own c pending_replies a)
    where
      go : (x : Bool) → P (if x then record due { mandatory = false } else due)
      go true = f due k
      go false = k

  each_struck : (own : PendingReply → Bool) (c : Command) (pending_replies : List PendingReply) → EachDue P pending_replies → EachDue P (pending_struck own c pending_replies)
  each_struck own c [] a = tt
  each_struck own c (due ∷ pending_replies) (k, a) = go (own due) (says_wanted due.wanted c) (each_struck own c pending_replies a)
    where
      go : (x y : Bool) → EachDue P (pending_struck own c pending_replies) → EachDue P (if x then if y then pending_replies else pending_struck own c pending_replies else due ∷ pending_struck own c pending_replies)
      go true true rest = a
      go true false rest = rest
      go false y rest = (k, rest)

  each_left : ((due : PendingReply) → P due → P (record due { mandatory = false })) → (own : PendingReply → Bool) (c : Command) (pending_replies : List PendingReply) → EachDue P pending_replies → EachDue P (pending_left own c pending_replies)
  each_left f own c pending_replies a = go (fits_sure own c pending_replies)
    where
      go : (x : Bool) → EachDue P (if x then pending_struck own c pending_replies else pending_struck own c (map (optional own c) pending_replies))
      go true = each_struck own c pending_replies a
      go false = each_struck own c (map (optional own c) pending_replies) (each_unsure f own c pending_replies a)

  pub each_from : (Q : PendingReply → Type 0) → ((due : PendingReply) → Q due → P due) → (pending_replies : List PendingReply) → EachDue Q pending_replies → EachDue P pending_replies
  each_from Q f [] a = tt
  each_from Q f (due ∷ pending_replies) (k, a) = (f due k, each_from Q f pending_replies a)

pub each_not_sender : (l : ConnState) → is_senders l.local ≡ false → (pending_replies : List PendingReply) → EachDue (IsNotIts l) pending_replies
each_not_sender l s [] = tt
each_not_sender l s (due ∷ pending_replies) = (not_sender l s due, each_not_sender l s pending_replies)

module _ (l : ConnState) where
  once_filter : (p : PendingReply → Bool) (pending_replies : List PendingReply) → OnceDue l pending_replies → OnceDue l (filter p pending_replies)
  once_filter p [] a = tt
  once_filter p (due ∷ pending_replies) (k, a) = go (p due) (once_filter p pending_replies a)
    where
      go : (x : Bool) → OnceDue l (filter p pending_replies) → OnceDue l (if x then due ∷ filter p pending_replies else filter p pending_replies)
      go true rest = ((λ e. each_filter (IsNotIts l) p pending_replies (k e)), rest)
      go false rest = rest

  -- one more at the end: it is the only RET for the link, or none for it
  pub once_after : (pending_replies : List PendingReply) (one : PendingReply) → OnceDue l pending_replies → (is_its_return l one ≡ true → EachDue (IsNotIts l) pending_replies) → OnceDue l (pending_replies ++ one ∷ [])
  once_after [] one a k = ((λ e. tt), tt)
  once_after (due ∷ pending_replies) one (j, a) k = (go (is_its_return l one) refl, once_after pending_replies one a (λ e. (k e).1))
    where
      go : (x : Bool) → is_its_return l one ≡ x → is_its_return l due ≡ true → EachDue (IsNotIts l) (pending_replies ++ one ∷ [])
      go false f e = each_after (IsNotIts l) pending_replies one (j e) f
      go true f e = let nay : true ≡ false = sym e ∙ (k f).0 in absurd (cc nay)

  once_unsure : (own : PendingReply → Bool) (c : Command) (pending_replies : List PendingReply) → OnceDue l pending_replies → OnceDue l (map (optional own c) pending_replies)
  once_unsure own c [] a = tt
  once_unsure own c (due ∷ pending_replies) (k, a) = (go (answers own c due), once_unsure own c pending_replies a)
    where
      go : (x : Bool) → is_its_return l (if x then record due { mandatory = false } else due) ≡ true → EachDue (IsNotIts l) (map (optional own c) pending_replies)
      go true e = each_unsure (IsNotIts l) (λ due i. i) own c pending_replies (k e)
      go false e = each_unsure (IsNotIts l) (λ due i. i) own c pending_replies (k e)

  once_struck : (own : PendingReply → Bool) (c : Command) (pending_replies : List PendingReply) → OnceDue l pending_replies → OnceDue l (pending_struck own c pending_replies)
  once_struck own c [] a = tt
  once_struck own c (due ∷ pending_replies) (k, a) = go (own due) (says_wanted due.wanted c) (once_struck own c pending_replies a)
    where
      go : (x y : Bool) → OnceDue l (pending_struck own c pending_replies) → OnceDue l (if x then if y then pending_replies else pending_struck own c pending_replies else due ∷ pending_struck own c pending_replies)
      go true true rest = a
      go true false rest = rest
      go false y rest = ((λ e. each_struck (IsNotIts l) own c pending_replies (k e)), rest)

  once_left : (own : PendingReply → Bool) (c : Command) (pending_replies : List PendingReply) → OnceDue l pending_replies → OnceDue l (pending_left own c pending_replies)
  once_left own c pending_replies a = go (fits_sure own c pending_replies)
    where
      go : (x : Bool) → OnceDue l (if x then pending_struck own c pending_replies else pending_struck own c (map (optional own c) pending_replies))
      go true = once_struck own c pending_replies a
      go false = once_struck own c (map (optional own c) pending_replies) (once_unsure own c pending_replies a)

  -- once a RET strikes it, none is due of it any more
  struck_none : (at peer link x y : ℕ) → l.at ≡ at → l.peer ≡ peer → l.link ≡ Some link → (pending_replies : List PendingReply) → OnceDue l pending_replies → EachDue (IsNotIts l) (pending_struck (is_due_of at peer true) (Command.Ret link x y) pending_replies)
  struck_none at peer link x y a p g [] o = tt
  struck_none at peer link x y a p g (due ∷ pending_replies) (k, o) = go (is_due_of at peer true due) refl (says_wanted due.wanted (Command.Ret link x y)) refl (struck_none at peer link x y a p g pending_replies o)
    where
      of_it : is_due_of l.at l.peer true due ≡ is_due_of at peer true due
      of_it = ap (λ (z : ℕ). is_due_of z l.peer true due) a ∙ ap (λ (z : ℕ). is_due_of at z true due) p

      not_own : is_due_of at peer true due ≡ false → is_its_return l due ≡ false
      not_own e = off (is_senders l.local) (is_due_of l.at l.peer true due) (is_on_given l.link due.wanted) (of_it ∙ e)

      go : (o : Bool) → is_due_of at peer true due ≡ o → (w : Bool) → says_wanted due.wanted (Command.Ret link x y) ≡ w → EachDue (IsNotIts l) (pending_struck (is_due_of at peer true) (Command.Ret link x y) pending_replies)
          → EachDue (IsNotIts l) (if o then if w then pending_replies else pending_struck (is_due_of at peer true) (Command.Ret link x y) pending_replies else due ∷ pending_struck (is_due_of at peer true) (Command.Ret link x y) pending_replies)
      go true e true f rest = by (is_senders l.local) refl
        where
          by : (s : Bool) → is_senders l.local ≡ s → EachDue (IsNotIts l) pending_replies
          by true s = k (its_own l at peer link x y due a p s g e f)
          by false s = each_not_sender l s pending_replies
      go true e false f rest = rest
      go false e w f rest = (not_own e, rest)

  pub left_none : (at peer link x y : ℕ) → l.at ≡ at → l.peer ≡ peer → l.link ≡ Some link → (pending_replies : List PendingReply) → OnceDue l pending_replies → EachDue (IsNotIts l) (pending_left (is_due_of at peer true) (Command.Ret link x y) pending_replies)
  left_none at peer link x y a p g pending_replies o = go (fits_sure (is_due_of at peer true) (Command.Ret link x y) pending_replies)
    where
      go : (z : Bool) → EachDue (IsNotIts l) (if z then pending_struck (is_due_of at peer true) (Command.Ret link x y) pending_replies else pending_struck (is_due_of at peer true) (Command.Ret link x y) (map (optional (is_due_of at peer true) (Command.Ret link x y)) pending_replies))
      go true = struck_none at peer link x y a p g pending_replies o
      go false = struck_none at peer link x y a p g (map (optional (is_due_of at peer true) (Command.Ret link x y)) pending_replies) (once_unsure (is_due_of at peer true) (Command.Ret link x y) pending_replies o)

-- the first that a RET gives
pub back_due : (l : ConnState) (m : FollowedConn) (at peer link x y : ℕ) (wanted : ExpectedReply) → l.at ≡ at → l.peer ≡ peer → is_senders l.local ≡ true → l.link ≡ Some link → (pending_replies : List PendingReply) → EachDue (IsCovered l m) pending_replies
    → numbers_due (is_due_of at peer true) (Command.Ret link x y) pending_replies ≡ Some wanted → BackCovered l m wanted
back_due l m at peer link x y wanted a p s g [] k e = absurd (cc e)
back_due l m at peer link x y wanted a p s g (due ∷ pending_replies) (k, rest) e = go (is_due_of at peer true due) refl (says_wanted due.wanted (Command.Ret link x y)) refl e (back_due l m at peer link x y wanted a p s g pending_replies rest)
  where
    go : (o : Bool) → is_due_of at peer true due ≡ o → (w : Bool) → says_wanted due.wanted (Command.Ret link x y) ≡ w → (if o && w then Some due.wanted else numbers_due (is_due_of at peer true) (Command.Ret link x y) pending_replies) ≡ Some wanted
        → (numbers_due (is_due_of at peer true) (Command.Ret link x y) pending_replies ≡ Some wanted → BackCovered l m wanted) → BackCovered l m wanted
    go true f true h e later = let is : due.wanted ≡ wanted = cc e in subst (BackCovered l m) is (k (its_own l at peer link x y due a p s g f h))
    go true f false h e later = later e
    go false f w h e later = later e

-- ---- fewer, as a whole

pub record FewerPending (pending_replies after : List PendingReply) : Type 0 where
  pub back : (l : ConnState) (m : FollowedConn) → EachDue (IsCovered l m) pending_replies → EachDue (IsCovered l m) after
  pub none : (l : ConnState) → EachDue (IsNotIts l) pending_replies → EachDue (IsNotIts l) after
  pub owned : (ls : List ConnState) → EachDue (IsOwned ls) pending_replies → EachDue (IsOwned ls) after
  pub once : (l : ConnState) → OnceDue l pending_replies → OnceDue l after

pub same_pending : (pending_replies : List PendingReply) → FewerPending pending_replies pending_replies
same_pending pending_replies = record { back = λ l m a. a; none = λ l a. a; owned = λ ls a. a; once = λ l a. a }

pub fewer_then : (a b c : List PendingReply) → FewerPending a b → FewerPending b c → FewerPending a c
fewer_then a b c j k = record { back = λ l m z. k.back l m (j.back l m z); none = λ l z. k.none l (j.none l z); owned = λ ls z. k.owned ls (j.owned ls z); once = λ l z. k.once l (j.once l z) }

pub filter_fewer : (p : PendingReply → Bool) (pending_replies : List PendingReply) → FewerPending pending_replies (filter p pending_replies)
filter_fewer p pending_replies = record { back = λ l m. each_filter (IsCovered l m) p pending_replies; none = λ l. each_filter (IsNotIts l) p pending_replies; owned = λ ls. each_filter (IsOwned ls) p pending_replies; once = λ l. once_filter l p pending_replies }

pub left_fewer : (own : PendingReply → Bool) (c : Command) (pending_replies : List PendingReply) → FewerPending pending_replies (pending_left own c pending_replies)
left_fewer own c pending_replies = record {
  back = λ l m. each_left (IsCovered l m) (λ due k. k) own c pending_replies;
  none = λ l. each_left (IsNotIts l) (λ due k. k) own c pending_replies;
  owned = λ ls. each_left (IsOwned ls) (λ due k. k) own c pending_replies;
  once = λ l. once_left l own c pending_replies;
}

-- one more, that is no RET of the host
pub other_fewer : (pending_replies : List PendingReply) (one : PendingReply) → (one.host && is_any_return one.wanted) ≡ false → FewerPending pending_replies (pending_replies ++ one ∷ [])
other_fewer pending_replies one e = record {
  back = λ l m a. each_after (IsCovered l m) pending_replies one a (λ k. let nay : true ≡ false = sym k ∙ not_its l one e in absurd (cc nay));
  none = λ l a. each_after (IsNotIts l) pending_replies one a (not_its l one e);
  owned = λ ls a. each_after (IsOwned ls) pending_replies one a (λ k. let nay : true ≡ false = sym k ∙ e in absurd (cc nay));
  once = λ l a. once_after l pending_replies one a (λ k. let nay : true ≡ false = sym k ∙ not_its l one e in absurd (cc nay));
}

pub sound_fewer : (pending_replies after : List PendingReply) (l : ConnState) → FewerPending pending_replies after → BackSound pending_replies l → BackSound after l
sound_fewer pending_replies after l f s = record { unopened = s.unopened; calm = λ e. f.none l (s.calm e); left = λ e. f.none l (s.left e); once = f.once l s.once }

pub pending_covered : (pending_replies after : List PendingReply) → FewerPending pending_replies after → (ls : List ConnState) (ms : List FollowedConn) → AllCovered pending_replies ls ms → AllCovered after ls ms
pending_covered pending_replies after f ls ms (c, o) = (
  besides_more (OneCovered pending_replies) (OneCovered after)
      (λ l m k. (sound_fewer pending_replies after l f k.0, λ e. let i = k.1 e in record { messages = i.messages; bits = i.bits; few = i.few; few_bits = i.few_bits; back = f.back l m i.back })) ls ms c,
  f.owned ls o,
)

-- the same connections, and no further pending RETs of the host
pub record NoMoreBack (b now : SeenTables) : Type 0 where
  pub conns : now.conns ≡ b.conns
  pub pending_replies : FewerPending b.pending_replies now.pending_replies

pub no_more_covered : (b now : SeenTables) (t : Tables) → NoMoreBack b now → Covered b t → Covered now t
no_more_covered b now t k c = subst (λ (ls : List ConnState). AllCovered now.pending_replies ls t.tracks) (sym k.conns) (pending_covered b.pending_replies now.pending_replies k.pending_replies b.conns t.tracks c)

pub no_more : (b : SeenTables) → NoMoreBack b b
no_more b = record { conns = refl; pending_replies = same_pending b.pending_replies }

pub no_more_then : (a b c : SeenTables) → NoMoreBack a b → NoMoreBack b c → NoMoreBack a c
no_more_then a b c j k = record { conns = k.conns ∙ j.conns; pending_replies = fewer_then a.pending_replies b.pending_replies c.pending_replies j.pending_replies k.pending_replies }

pub no_more_same : (b now : SeenTables) → now.conns ≡ b.conns → now.pending_replies ≡ b.pending_replies → NoMoreBack b now
no_more_same b now e f = record { conns = e; pending_replies = subst (FewerPending b.pending_replies) (sym f) (same_pending b.pending_replies) }

pub due_no_more : (b : SeenTables) (due : PendingReply) → (due.host && is_any_return due.wanted) ≡ false → NoMoreBack b (with_due b due)
due_no_more b due none = go (nat_lt (length b.pending_replies) MAX_TABLE_ROWS)
  where
    go : (x : Bool) → NoMoreBack b (if x then record b { pending_replies = b.pending_replies ++ due ∷ [] } else record b { full = true })
    go true = record { conns = refl; pending_replies = other_fewer b.pending_replies due none }
    go false = record { conns = refl; pending_replies = same_pending b.pending_replies }

pub owes_no_more : (flow : ObservedFlow) (wanted : ExpectedReply) (mandatory : Bool) (b : SeenTables) → (not flow.sent && is_any_return wanted) ≡ false → NoMoreBack b (owes flow wanted mandatory b)
owes_no_more flow wanted mandatory b e = due_no_more b (record { at = flow.at; peer = flow.peer; host = not flow.sent; wanted = wanted; mandatory = mandatory }) e

pub reply_no_more : (flow : ObservedFlow) (c : Command) (b : SeenTables) → NoMoreBack b (after_reply flow c b)
reply_no_more flow c b = go (is_wanted (is_own flow) c b.pending_replies)
  where
    go : (x : Bool) → NoMoreBack b (if x then record b { pending_replies = pending_left (is_own flow) c b.pending_replies } else b)
    go true = record { conns = refl; pending_replies = left_fewer (is_own flow) c b.pending_replies }
    go false = no_more b

-- ---- another of the same sockets and link

pub record SameReturns (l now : ConnState) : Type 0 where
  pub at : now.at ≡ l.at
  pub peer : now.peer ≡ l.peer
  pub local : now.local ≡ l.local
  pub link : now.link ≡ l.link

pub its_same : (l now : ConnState) → SameReturns l now → (due : PendingReply) → is_its_return now due ≡ is_its_return l due
its_same l now s due =
    ap (λ (x : ℕ). is_senders x && is_due_of now.at now.peer true due && is_on_given now.link due.wanted) s.local
    ∙ ap (λ (x : ℕ). is_senders l.local && is_due_of x now.peer true due && is_on_given now.link due.wanted) s.at
    ∙ ap (λ (x : ℕ). is_senders l.local && is_due_of l.at x true due && is_on_given now.link due.wanted) s.peer
    ∙ ap (λ (x : Option ℕ). is_senders l.local && is_due_of l.at l.peer true due && is_on_given x due.wanted) s.link

pub none_moved : (l now : ConnState) → SameReturns l now → (pending_replies : List PendingReply) → EachDue (IsNotIts l) pending_replies → EachDue (IsNotIts now) pending_replies
none_moved l now s pending_replies = each_from (IsNotIts now) (IsNotIts l) (λ due k. its_same l now s due ∙ k) pending_replies

pub once_moved : (l now : ConnState) → SameReturns l now → (pending_replies : List PendingReply) → OnceDue l pending_replies → OnceDue now pending_replies
once_moved l now s [] a = tt
once_moved l now s (due ∷ pending_replies) (k, a) = ((λ e. none_moved l now s pending_replies (k (sym (its_same l now s due) ∙ e))), once_moved l now s pending_replies a)

back_moved : (l now : ConnState) (m after : FollowedConn) → SameReturns l now → ((wanted : ExpectedReply) → BackCovered l m wanted → BackCovered now after wanted) → (pending_replies : List PendingReply) → EachDue (IsCovered l m) pending_replies → EachDue (IsCovered now after) pending_replies
back_moved l now m after s f pending_replies = each_from (IsCovered now after) (IsCovered l m) (λ due k e. f due.wanted (k (sym (its_same l now s due) ∙ e))) pending_replies

pub sound_moved : (pending_replies : List PendingReply) (l now : ConnState) → SameReturns l now → ((is_some now.link && is_some now.size) ≡ false → (now.messages ≡ 0) × ((now.bits ≡ 0) × (now.recall ≡ false))) → (now.recall ≡ false → EachDue (IsNotIts l) pending_replies)
    → (now.host_left ≡ true → EachDue (IsNotIts l) pending_replies) → BackSound pending_replies l → BackSound pending_replies now
sound_moved pending_replies l now s unopened calm left k = record { unopened = unopened; calm = λ e. none_moved l now s pending_replies (calm e); left = λ e. none_moved l now s pending_replies (left e); once = once_moved l now s pending_replies k.once }

-- with other numbers of both
pub open_moved : (pending_replies : List PendingReply) (l now : ConnState) (m after : FollowedConn) → SameReturns l now → ((r : ℕ) → r ≤ 65535 → l.messages + r ≤ m.left.messages → now.messages + r ≤ after.left.messages)
    → ((r : ℕ) → r ≤ 65536 → l.bits + r ≤ m.left.bits → now.bits + r ≤ after.left.bits) → now.messages ≤ 65535 → now.bits ≤ 65536 → OpenCovered pending_replies l m → OpenCovered pending_replies now after
open_moved pending_replies l now m after s f g few few_bits o = record {
  messages = let k = f 0 (omega arith) (omega (arith, o.messages)) in omega (arith, k);
  bits = let k = g 0 (omega arith) (omega (arith, o.bits)) in omega (arith, k);
  few = few;
  few_bits = few_bits;
  back = back_moved l now m after s (λ wanted k. record { messages = f (back_messages wanted) k.few k.messages; bits = g (back_bits wanted) k.few_bits k.bits; few = k.few; few_bits = k.few_bits }) pending_replies o.back;
}

-- ---- another in its place

pub any_set : (f : ConnState → Bool) (ls : List ConnState) (p : ℕ) (now d : ConnState) → p < length ls → f now ≡ f (get_or ls p d) → list_any f (slice_set ls p now) ≡ list_any f ls
any_set f [] p now d l e = absurd (omega arith)
any_set f (x ∷ ls) zero now d l e = ap (λ (z : Bool). z || list_any f ls) e
any_set f (x ∷ ls) (suc p) now d l e = ap (λ (z : Bool). f x || z) (any_set f ls p now d (omega arith) e)

pub owned_set : (pending_replies : List PendingReply) (ls : List ConnState) (p : ℕ) (now d : ConnState) → p < length ls → SameReturns (get_or ls p d) now → EachDue (IsOwned ls) pending_replies → EachDue (IsOwned (slice_set ls p now)) pending_replies
owned_set pending_replies ls p now d l s =
    each_from (IsOwned (slice_set ls p now)) (IsOwned ls) (λ due k e. any_set (λ (x : ConnState). is_its_return x due) ls p now d l (its_same (get_or ls p d) now s due) ∙ k e) pending_replies

pub covered_here : (pending_replies : List PendingReply) (ls : List ConnState) (ms after : List FollowedConn) (p : ℕ) (now : ConnState) → p < length ls → SameReturns (get_or ls p (unasked_conn 0 0 0 0)) now
    → ((after ≡ ms) × OneCovered pending_replies now (get_or ms p (new_track 0 0 0 0))) ⊎ ((m : FollowedConn) × ((OneCovered pending_replies now m) × (after ≡ slice_set ms p m))) → AllCovered pending_replies ls ms → AllCovered pending_replies (slice_set ls p now) after
covered_here pending_replies ls ms after p now inside s (inl (e, k)) (c, o) = (subst (Besides (OneCovered pending_replies) (slice_set ls p now)) (sym e) (besides_here (OneCovered pending_replies) ls ms p now (new_track 0 0 0 0) k c), owned_set pending_replies ls p now (unasked_conn 0 0 0 0) inside s o)
covered_here pending_replies ls ms after p now inside s (inr (m, (k, e))) (c, o) = (subst (Besides (OneCovered pending_replies) (slice_set ls p now)) (sym e) (besides_set (OneCovered pending_replies) ls ms p now m k c), owned_set pending_replies ls p now (unasked_conn 0 0 0 0) inside s o)
