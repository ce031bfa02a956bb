-- What is left of a connection as it is followed stays no less than what may be sent of it as it is judged, through each command
-- and each text that is not found to be wrong.
use Rattle.std.proofs.Common.{◌≡◌, ◌<◌, ◌≤◌, ◌⊎◌, inl, inr, ℕ, zero, suc, ◌+◌, ◌==◌, eq-eqb, Bool, true, false, not, ◌&&◌, ◌||◌, if◌then◌else◌, List, [], ◌∷◌, ◌++◌, length, get_or, Option, None, Some, is_some, option_to_list, Result, Ok, refl, sym, ap, ◌∙◌, subst, arith}
use Rattle.std.specs.Prelude.{◌-◌, ◌^◌, min, nat_lt, slice_set}
use Rattle.std.specs.List.{position, filter, remove, list_any}
use Rattle.std.proofs.Math.Bool.{beq}
use Rattle.std.proofs.lemmas.Bool.{or_right, eqb-true, ltb-false, and_parts, or_parts}
use Rattle.std.proofs.lemmas.List.Quantifiers.{position-Some}
use Rattle.ncp_leader.specs.declared.fault.MessageFault.{MessageFault}
use Rattle.ncp_leader.specs.Message.{Message, message_in}
use Rattle.ncp_wire.specs.declared.command.Command.{Command}
use Rattle.ncp_wire.specs.declared.command.Command.TheVariants.{Nop, Rts, Str, Cls, Gvb, Ret, Inr, Ins, Eco, Erp, Err, Rst, Rrp}
use Rattle.ncp_monitor.specs.declared.conn_tables.TheConstants.{MAX_TABLE_ROWS}
use Rattle.ncp_monitor.specs.declared.pending_reply.PendingReply.{PendingReply}
use Rattle.ncp_monitor.specs.declared.pending_reply.ExpectedReply.{ExpectedReply}
use Rattle.ncp_monitor.specs.declared.finding.Rule.{Rule}
use Rattle.ncp_interface.specs.declared.sent_message.SentMessage.{SentMessage}
use Rattle.ncp_monitor.specs.declared.link_target.ReceiveLink.{ReceiveLink}
use Rattle.ncp_monitor.specs.declared.link_target.LinkTarget.{LinkTarget}
use Rattle.ncp_monitor.specs.declared.conn_state.ConnState.{ConnState}
use Rattle.ncp_interface.specs.declared.request.Request.{Request}
use Rattle.ncp_interface.specs.declared.request.Request.TheVariants.{Link, Size}
use Rattle.ncp_monitor.specs.declared.conn_state.FactKind.{FactKind}
use Rattle.ncp_monitor.specs.declared.observed_flow.ObservedFlow.{ObservedFlow}
use Rattle.ncp_monitor.specs.declared.observed_flow.Acceptance.{Acceptance}
use Rattle.ncp_monitor.specs.declared.observed_flow.Acceptance.TheVariants.{Right}
use Rattle.ncp_interface.specs.Slots.{position_of, kept_at, is_slot_empty}
use Rattle.ncp_monitor.specs.ConnStates.{SeenTables, unasked_conn, is_of_sockets, has_link, has_sent_cls, with_cls_sent, has_sent_request, with_request_sent, conn_at_index, conn_found, conn_of, index_with_sockets, put_conn, is_marked, facts_now, facts_no_more, is_return, is_return_on, returns_dropped, is_conn_between, is_due_between, tables_cleared}
use Rattle.ncp_interface.specs.Sockets.{is_senders, is_number_given, is_of_sexes}
use Rattle.ncp_monitor.specs.Replies.{is_own, is_due_of, says_wanted, is_wanted, pending_left, owes, after_reply}
use Rattle.ncp_monitor.specs.Requests.{broken, request_acceptance, asks, tables_after_request, cls_acceptance, cls_rule, closes_side, after_cls, is_link_busy}
use Rattle.ncp_monitor.specs.Allocation.{kept_sum, part_returned, from_receiver, from_sender, index_on_receive_link, target_on, limit_rule, demuxed_rule, other_rule, over_rule, numbers_due, led_numbers, number_rules, returned_rules, granted_there, with_grant, owes_error, owes_error_if, asked_back, recalled, owes_return, with_return, suspended_if, is_any, suspended_conn, after_wanted_ret, after_open, demuxed_after, after_link}
use Rattle.ncp_monitor.specs.Texts.{text_shown, speaker_of, admits_out, message_out_at, is_error_admitted, uses_too_much, open_text_rules, used, after_text_came, conn_came_at, over_suspended, admits_error_if, demuxed_after_text, conn_tables_after_text, size_rule, over_text_rule}
use Rattle.ncp_monitor.specs.Speaking.{after_eco, answers_echo, after_error, after_right_cls, command_rule, tables_after_command, after_all_said}
use Rattle.ncp_monitor.proofs.Firsts.{first, none_first, Unique}
use Rattle.ncp_monitor.proofs.BooksAt.{HasSockets, has_sockets}
use Rattle.ncp_follow.specs.declared.connection.EndReason.{EndReason}
use Rattle.ncp_follow.specs.declared.connection.EndReason.TheVariants.{Closed}
use Rattle.ncp_follow.specs.Connections.{with_end_recorded}
use Rattle.ncp_follow.specs.declared.followed_conn.FollowedConn.{FollowedConn}
use Rattle.ncp_follow.specs.declared.tracks.TheConstants.{MAX_TRACKS}
use Rattle.ncp_follow.specs.declared.tables.Tables.{Tables}
use Rattle.ncp_follow.specs.declared.observation.Observation.{Observation}
use Rattle.ncp_follow.specs.Amounts.{with_more, with_less}
use Rattle.ncp_follow.specs.Tracks.{new_track, has_left, with_left, has_chosen, with_choice, is_whole, track_at}
use Rattle.ncp_follow.specs.Tables.{is_track_of, pair_index, index_at_link, with_new, has_room_opened, with_opened, track_placed, asked_at, after_request, end_by, left_at, closed_at, granted_of, granted_at, returned_of, returned_at, texts_of, said_at, after_text, after_clearing}
use Rattle.ncp_follow.specs.Followed.{after_command}
use Rattle.ncp_proof_monitor_allocation.proofs.Resting.{fact_conns, fact_pending}
use Rattle.ncp_proof_monitor_allocation.proofs.TidyBooks.{Tidy}
use Rattle.ncp_proof_follow_tables.proofs.Besides.{Besides, besides_length, besides_after, besides_at, besides_set, besides_remove, besides_filter, besides_more}
use Rattle.ncp_proof_follow_tables.proofs.OtherAt.{first_here}
use Rattle.ncp_proof_follow_tables.proofs.Calmly.{none_suspended}
use Rattle.ncp_proof_follow_tables.proofs.SameConns.{SameConn, left_is, requested_is, between_is, cls_same, place_same, link_same, Calm}
use Rattle.ncp_proof_follow_tables.proofs.SameAsked.{IsFree, IsAsker, AskedRight, asked_right, untaken, conn_there, ClosedRight, closed_right}
use Rattle.ncp_proof_follow_tables.proofs.SameLinks.{Led, led, RetRight, ret_right}
use Rattle.ncp_proof_follow_tables.proofs.SameCommands.{Same, awake, cls_unbroken, sexes, link_is_right, size_is_right}
use Rattle.ncp_proof_follow_tables.proofs.SameTexts.{TextLed, text_placed}
use Rattle.ncp_proof_follow_tables.proofs.Covered.{is_any_return, is_on_given, is_its_return, its_own, BackCovered, EachDue, IsCovered, IsNotIts, IsOwned, OnceDue, OpenCovered, BackSound, OneCovered, AllCovered, Covered, each_after, each_from, each_not_sender, once_after, left_none, back_due, FewerPending, same_pending, filter_fewer, left_fewer, pending_covered, NoMoreBack, no_more_covered, no_more, no_more_then, no_more_same, owes_no_more, reply_no_more, SameReturns, none_moved, once_moved, sound_moved, open_moved, any_set, owned_set, covered_here}

-- ---- lists

-- another in the place of the one that passes
module _ {A B : Type 0} (t : A → Bool) (R S : A → B → Type 0) (others : (x : A) (y : B) → t x ≡ false → R x y → S x y) where
  besides_none : (xs : List A) (ys : List B) → first t xs ≡ None → Besides R xs ys → Besides S xs ys
  besides_none [] [] e k = tt
  besides_none [] (y ∷ ys) e k = absurd k
  besides_none (x ∷ xs) [] e k = absurd k
  besides_none (x ∷ xs) (y ∷ ys) e (r, k) = go (t x) refl e (besides_none xs ys)
    where
      go : (b : Bool) → t x ≡ b → (if b then Some x else first t xs) ≡ None → (first t xs ≡ None → Besides R xs ys → Besides S xs ys) → S x y × Besides S xs ys
      go true f e rest = absurd (cc e)
      go false f e rest = (others x y f r, rest e k)

  besides_only : (xs : List A) (ys : List B) (i : ℕ) (x d : A) (e : B) → i < length xs → t (get_or xs i d) ≡ true → Unique t xs → S x (get_or ys i e) → Besides R xs ys → Besides S (slice_set xs i x) ys
  besides_only [] ys i x d e l p u s k = absurd (omega arith)
  besides_only (z ∷ xs) [] i x d e l p u s k = absurd k
  besides_only (z ∷ xs) (w ∷ ys) zero x d e l p (h, u) s (r, k) = (s, besides_none xs ys (h p) k)
  besides_only (z ∷ xs) (w ∷ ys) (suc i) x d e l p (h, u) s (r, k) = (go (t z) refl, besides_only xs ys i x d e (omega arith) p u s k)
    where
      go : (b : Bool) → t z ≡ b → S z w
      go true f = let nay : Some (get_or xs i d) ≡ None = sym (first_here t xs i d (omega arith) u p) ∙ h f in absurd (cc nay)
      go false f = others z w f r

pub besides_both : {A B : Type 0} (R S : A → B → Type 0) (xs : List A) (ys : List B) → Besides R xs ys → Besides S xs ys → Besides (λ x y. R x y × S x y) xs ys
besides_both R S [] [] j k = tt
besides_both R S [] (y ∷ ys) j k = absurd k
besides_both R S (x ∷ xs) [] j k = absurd k
besides_both R S (x ∷ xs) (y ∷ ys) (r, j) (s, k) = ((r, s), besides_both R S xs ys j k)

any_of : {A : Type 0} (f g : A → Bool) → ((x : A) → f x ≡ true → g x ≡ true) → (xs : List A) → list_any f xs ≡ true → list_any g xs ≡ true
any_of f g h [] e = absurd (cc e)
any_of f g h (x ∷ xs) e = go (f x) refl e (any_of f g h xs)
  where
    go : (b : Bool) → f x ≡ b → (b || list_any f xs) ≡ true → (list_any f xs ≡ true → list_any g xs ≡ true) → (g x || list_any g xs) ≡ true
    go true i e rest = ap (λ (z : Bool). z || list_any g xs) (h x i)
    go false i e rest = or_right (g x) (list_any g xs) (rest e)

any_filtered : {A : Type 0} (f p : A → Bool) → ((x : A) → f x ≡ true → p x ≡ true) → (xs : List A) → list_any f xs ≡ true → list_any f (filter p xs) ≡ true
any_filtered f p h [] e = absurd (cc e)
any_filtered f p h (x ∷ xs) e = go (f x) refl (p x) refl e (any_filtered f p h xs)
  where
    go : (b : Bool) → f x ≡ b → (c : Bool) → p x ≡ c → (b || list_any f xs) ≡ true → (list_any f xs ≡ true → list_any f (filter p xs) ≡ true) → list_any f (if c then x ∷ filter p xs else filter p xs) ≡ true
    go true i true j e rest = ap (λ (z : Bool). z || list_any f (filter p xs)) i
    go true i false j e rest = let nay : true ≡ false = sym (h x i) ∙ j in absurd (cc nay)
    go false i true j e rest = or_right (f x) (list_any f (filter p xs)) (rest e)
    go false i false j e rest = rest e

any_more : {A : Type 0} (f : A → Bool) (xs : List A) (y : A) → list_any f xs ≡ true → list_any f (xs ++ y ∷ []) ≡ true
any_more f [] y e = absurd (cc e)
any_more f (x ∷ xs) y e = go (f x) e (any_more f xs y)
  where
    go : (b : Bool) → (b || list_any f xs) ≡ true → (list_any f xs ≡ true → list_any f (xs ++ y ∷ []) ≡ true) → (b || list_any f (xs ++ y ∷ [])) ≡ true
    go true e rest = refl
    go false e rest = rest e

any_here : {A : Type 0} (f : A → Bool) (xs : List A) (i : ℕ) (y : A) → i < length xs → f y ≡ true → list_any f (slice_set xs i y) ≡ true
any_here f [] i y l e = absurd (omega arith)
any_here f (x ∷ xs) zero y l e = ap (λ (z : Bool). z || list_any f xs) e
any_here f (x ∷ xs) (suc i) y l e = or_right (f x) (list_any f (slice_set xs i y)) (any_here f xs i y (omega arith) e)

any_removed : {A : Type 0} (f : A → Bool) (xs : List A) (i : ℕ) (d : A) → f (get_or xs i d) ≡ false → list_any f xs ≡ true → list_any f (remove xs i) ≡ true
any_removed f [] i d k e = absurd (cc e)
any_removed f (x ∷ xs) zero d k e = sym (ap (λ (z : Bool). z || list_any f xs) k) ∙ e
any_removed f (x ∷ xs) (suc i) d k e = go (f x) e (any_removed f xs i d k)
  where
    go : (b : Bool) → (b || list_any f xs) ≡ true → (list_any f xs ≡ true → list_any f (remove xs i) ≡ true) → (b || list_any f (remove xs i)) ≡ true
    go true e rest = refl
    go false e rest = rest e

any_none : {A : Type 0} (f : A → Bool) (xs : List A) → first f xs ≡ None → list_any f xs ≡ false
any_none f [] e = refl
any_none f (x ∷ xs) e = go (f x) e (any_none f xs)
  where
    go : (b : Bool) → (if b then Some x else first f xs) ≡ None → (first f xs ≡ None → list_any f xs ≡ false) → (b || list_any f xs) ≡ false
    go true e rest = absurd (cc e)
    go false e rest = rest e

no_and : (x : Bool) → (x && false) ≡ false
no_and true = refl
no_and false = refl

-- ---- whose RETs are due

-- the hosts, and the link, of one
its_hosts : (l : ConnState) (due : PendingReply) → is_its_return l due ≡ true → (is_senders l.local ≡ true) × ((due.at ≡ l.at) × ((due.peer ≡ l.peer) × ((due.host ≡ true) × (is_on_given l.link due.wanted ≡ true))))
its_hosts l due e =
    let a = and_parts (is_senders l.local && is_due_of l.at l.peer true due) (is_on_given l.link due.wanted) e in
    let b = and_parts (is_senders l.local) (is_due_of l.at l.peer true due) a.0 in
    let c = and_parts (due.at == l.at && due.peer == l.peer) (beq due.host true) b.1 in
    let d = and_parts (due.at == l.at) (due.peer == l.peer) c.0 in
    (b.0, (eqb-true due.at l.at d.0, (eqb-true due.peer l.peer d.1, (host due.host c.1, a.1))))
  where
    host : (h : Bool) → beq h true ≡ true → h ≡ true
    host true e = refl
    host false e = absurd (cc e)

own_of_its : (l : ConnState) (due : PendingReply) → is_its_return l due ≡ true → (due.host && is_any_return due.wanted) ≡ true
own_of_its l due e = let h = its_hosts l due e in ap (λ (z : Bool). z && is_any_return due.wanted) h.1.1.1.0 ∙ any l.link due.wanted h.1.1.1.1
  where
    any : (o : Option ℕ) (w : ExpectedReply) → is_on_given o w ≡ true → is_any_return w ≡ true
    any None w e = absurd (cc e)
    any (Some on) (ExpectedReply.Return link messages bits) e = refl
    any (Some on) (ExpectedReply.Echo byte) e = absurd (cc e)
    any (Some on) (ExpectedReply.Error code or bytes) e = absurd (cc e)

-- whose link is that of the RET has the link
has_of_its : (at peer link : ℕ) (l : ConnState) (due : PendingReply) → is_its_return l due ≡ true → due.at ≡ at → due.peer ≡ peer → is_return_on link due.wanted ≡ true → has_link at peer false link l ≡ true
has_of_its at peer link l due e a p r =
    let h = its_hosts l due e in
    ap (λ (z : ℕ). z == at && l.peer == peer && not (beq (is_senders l.local) false) && is_number_given l.link link) (sym h.1.0 ∙ a)
    ∙ ap (λ (z : ℕ). at == at && z == peer && not (beq (is_senders l.local) false) && is_number_given l.link link) (sym h.1.1.0 ∙ p)
    ∙ ap (λ (z : Bool). at == at && peer == peer && not (beq z false) && is_number_given l.link link) h.0
    ∙ ap (λ (z : Bool). z && peer == peer && true && is_number_given l.link link) (eq-eqb at at refl)
    ∙ ap (λ (z : Bool). true && z && true && is_number_given l.link link) (eq-eqb peer peer refl)
    ∙ given l.link due.wanted h.1.1.1.1 r
  where
    given : (o : Option ℕ) (w : ExpectedReply) → is_on_given o w ≡ true → is_return_on link w ≡ true → is_number_given o link ≡ true
    given None w e r = absurd (cc e)
    given (Some on) (ExpectedReply.Return x messages bits) e r = eq-eqb on link (sym (eqb-true x on e) ∙ eqb-true x link r)
    given (Some on) (ExpectedReply.Echo byte) e r = absurd (cc e)
    given (Some on) (ExpectedReply.Error code or bytes) e r = absurd (cc e)

-- what has a link
has_parts : (at peer : ℕ) (host : Bool) (link : ℕ) (l : ConnState) → has_link at peer host link l ≡ true → (l.at ≡ at) × ((l.peer ≡ peer) × ((is_senders l.local ≡ not host) × (l.link ≡ Some link)))
has_parts at peer host link l e =
    let a = and_parts (l.at == at && l.peer == peer && not (beq (is_senders l.local) host)) (is_number_given l.link link) e in
    let b = and_parts (l.at == at && l.peer == peer) (not (beq (is_senders l.local) host)) a.0 in
    let c = and_parts (l.at == at) (l.peer == peer) b.0 in
    (eqb-true l.at at c.0, (eqb-true l.peer peer c.1, (counterpart (is_senders l.local) host b.1, given l.link a.1)))
  where
    counterpart : (s h : Bool) → not (beq s h) ≡ true → s ≡ not h
    counterpart true true e = absurd (cc e)
    counterpart true false e = refl
    counterpart false true e = refl
    counterpart false false e = absurd (cc e)

    given : (o : Option ℕ) → is_number_given o link ≡ true → o ≡ Some link
    given None e = absurd (cc e)
    given (Some on) e = ap (λ (z : ℕ). Some z) (eqb-true on link e)

each_unlinked : (l : ConnState) → l.link ≡ None → (pending_replies : List PendingReply) → EachDue (IsNotIts l) pending_replies
each_unlinked l e [] = tt
each_unlinked l e (due ∷ pending_replies) = (ap (λ (o : Option ℕ). is_senders l.local && is_due_of l.at l.peer true due && is_on_given o due.wanted) e ∙ no_and (is_senders l.local && is_due_of l.at l.peer true due), each_unlinked l e pending_replies)

once_none : (l : ConnState) (pending_replies : List PendingReply) → EachDue (IsNotIts l) pending_replies → OnceDue l pending_replies
once_none l [] a = tt
once_none l (due ∷ pending_replies) (k, a) = ((λ e. a), once_none l pending_replies a)

covers_none : (l : ConnState) (m : FollowedConn) (pending_replies : List PendingReply) → EachDue (IsNotIts l) pending_replies → EachDue (IsCovered l m) pending_replies
covers_none l m pending_replies = each_from (IsCovered l m) (IsNotIts l) (λ due k e. let nay : true ≡ false = sym e ∙ k in absurd (cc nay)) pending_replies

-- another in its place, where none is due of the one or the other
owned_none : (ls : List ConnState) (p : ℕ) (now d : ConnState) (pending_replies : List PendingReply) → p < length ls → EachDue (IsNotIts (get_or ls p d)) pending_replies → EachDue (IsNotIts now) pending_replies → EachDue (IsOwned ls) pending_replies → EachDue (IsOwned (slice_set ls p now)) pending_replies
owned_none ls p now d [] l a b o = tt
owned_none ls p now d (due ∷ pending_replies) l (i, a) (j, b) (k, o) = ((λ e. any_set (λ (x : ConnState). is_its_return x due) ls p now d l (j ∙ sym i) ∙ k e), owned_none ls p now d pending_replies l a b o)

owned_removed : (ls : List ConnState) (p : ℕ) (d : ConnState) (pending_replies : List PendingReply) → EachDue (IsNotIts (get_or ls p d)) pending_replies → EachDue (IsOwned ls) pending_replies → EachDue (IsOwned (remove ls p)) pending_replies
owned_removed ls p d [] a o = tt
owned_removed ls p d (due ∷ pending_replies) (i, a) (k, o) = ((λ e. any_removed (λ (x : ConnState). is_its_return x due) ls p d i (k e)), owned_removed ls p d pending_replies a o)

-- where nobody has a link, no RET is due for it
free_none : (at peer link : ℕ) (now : ConnState) (ls : List ConnState) → first (has_link at peer false link) ls ≡ None → now.at ≡ at → now.peer ≡ peer → now.link ≡ Some link → (pending_replies : List PendingReply) → EachDue (IsOwned ls) pending_replies → EachDue (IsNotIts now) pending_replies
free_none at peer link now ls none a p g pending_replies = each_from (IsNotIts now) (IsOwned ls) one pending_replies
  where
    one : (due : PendingReply) → IsOwned ls due → is_its_return now due ≡ false
    one due k = go (is_its_return now due) refl
      where
        go : (z : Bool) → is_its_return now due ≡ z → is_its_return now due ≡ false
        go false e = e
        go true e =
            let h = its_hosts now due e in
            let on : is_return_on link due.wanted ≡ true = sym (ap (λ (o : Option ℕ). is_on_given o due.wanted) g) ∙ h.1.1.1.1 in
            let some = any_of (λ (x : ConnState). is_its_return x due) (has_link at peer false link) (λ x f. has_of_its at peer link x due f (h.1.0 ∙ a) (h.1.1.0 ∙ p) on) ls (k (own_of_its now due e)) in
            let nay : true ≡ false = sym some ∙ any_none (has_link at peer false link) ls none in
            absurd (cc nay)

-- ---- what leaves the connections, and lets no RET more be due

marks_no_back : (at peer : ℕ) (what : FactKind) (b : SeenTables) → NoMoreBack b (facts_now at peer what b)
marks_no_back at peer what b = no_more_same b (facts_now at peer what b) (fact_conns at peer what b) (fact_pending at peer what b)

eco_no_back : (flow : ObservedFlow) (byte : ℕ) (b : SeenTables) → NoMoreBack b (after_eco flow byte b)
eco_no_back flow byte b =
    no_more_then b (facts_now flow.at flow.peer (FactKind.Asks flow.sent) b) (after_eco flow byte b) (marks_no_back flow.at flow.peer (FactKind.Asks flow.sent) b)
    (owes_no_more flow (ExpectedReply.Echo byte) true (facts_now flow.at flow.peer (FactKind.Asks flow.sent) b) (no_and (not flow.sent)))

erp_no_back : (flow : ObservedFlow) (c : Command) (b : SeenTables) → NoMoreBack b (answers_echo flow (after_reply flow c b))
erp_no_back flow c b = no_more_then b mid (answers_echo flow mid) (reply_no_more flow c b) (go (is_marked flow.at flow.peer (FactKind.Asks (not flow.sent)) mid))
  where
    mid : SeenTables
    mid = after_reply flow c b

    go : (x : Bool) → NoMoreBack mid (if x then facts_no_more flow.at flow.peer (FactKind.Asks (not flow.sent)) mid else facts_now flow.at flow.peer (FactKind.EchoesRest (not flow.sent)) mid)
    go true = no_more_same mid (facts_no_more flow.at flow.peer (FactKind.Asks (not flow.sent)) mid) refl refl
    go false = marks_no_back flow.at flow.peer (FactKind.EchoesRest (not flow.sent)) mid

err_no_back : (flow : ObservedFlow) (code : ℕ) (bytes : List ℕ) (b : SeenTables) → NoMoreBack b (after_error flow code bytes b)
err_no_back flow code bytes b = go (is_error_admitted flow code bytes b)
  where
    go : (x : Bool) → NoMoreBack b (if x then b else after_reply flow (Err code bytes) b)
    go true = no_more b
    go false = reply_no_more flow (Err code bytes) b

-- what is due after a CLS that is right
pending_on : ObservedFlow → Option ℕ → List PendingReply → List PendingReply
pending_on flow None pending_replies = pending_replies
pending_on flow (Some link) pending_replies = filter (λ due. not (is_return flow.at flow.peer flow.sent link due)) pending_replies

pending_closed : ObservedFlow → ConnState → List PendingReply → List PendingReply
pending_closed flow conn pending_replies = if beq (is_senders conn.local) flow.sent then pending_on flow conn.link pending_replies else pending_replies

closed_fewer : (flow : ObservedFlow) (conn : ConnState) (pending_replies : List PendingReply) → FewerPending pending_replies (pending_closed flow conn pending_replies)
unfolding pending_on pending_closed
closed_fewer flow conn pending_replies = go (beq (is_senders conn.local) flow.sent) conn.link
  where
    go : (x : Bool) (o : Option ℕ) → FewerPending pending_replies (if x then pending_on flow o pending_replies else pending_replies)
    go true None = same_pending pending_replies
    go true (Some link) = filter_fewer (λ due. not (is_return flow.at flow.peer flow.sent link due)) pending_replies
    go false o = same_pending pending_replies

cls_books : (flow : ObservedFlow) (kept : List SentMessage) (conn : ConnState) (b : SeenTables) → ((after_right_cls flow kept (Some conn) Right b).conns ≡ b.conns) × ((after_right_cls flow kept (Some conn) Right b).pending_replies ≡ pending_closed flow conn b.pending_replies)
unfolding pending_on pending_closed
cls_books flow kept conn b = ended (beq (is_senders conn.local) flow.sent) conn.link (left_out (flow.sent && is_senders conn.local) conn.link)
  where
    Same_books : SeenTables → Type 0
    Same_books now = (now.conns ≡ b.conns) × (now.pending_replies ≡ b.pending_replies)

    out : Option ℕ → SeenTables
    out None = b
    out (Some link) = message_out_at flow kept (position_of flow.at flow.peer link kept) b

    drop_on : SeenTables → Option ℕ → SeenTables
    drop_on conn_tables None = conn_tables
    drop_on conn_tables (Some link) = returns_dropped flow.at flow.peer flow.sent link conn_tables

    shown : (o : Option ℕ) → Same_books (message_out_at flow kept o b)
    shown None = (refl, refl)
    shown (Some place) = go (is_slot_empty (kept_at kept place).slot) (message_in (kept_at kept place).message)
      where
        go : (x : Bool) (r : Result Message MessageFault) → Same_books (if x then b else admits_out flow r b)
        go true r = (refl, refl)
        go false (Ok message) = (fact_conns flow.at flow.peer (FactKind.Admits (not flow.sent) (text_shown (speaker_of flow) message)) b, fact_pending flow.at flow.peer (FactKind.Admits (not flow.sent) (text_shown (speaker_of flow) message)) b)
        go false (Result.Err fault) = (refl, refl)

    left_out : (x : Bool) (l : Option ℕ) → Same_books (if x then out l else b)
    left_out true None = (refl, refl)
    left_out true (Some link) = shown (position_of flow.at flow.peer link kept)
    left_out false l = (refl, refl)

    mid : SeenTables
    mid = if flow.sent && is_senders conn.local then out conn.link else b

    ended : (x : Bool) (l : Option ℕ) → Same_books mid → ((if x then drop_on mid l else mid).conns ≡ b.conns) × ((if x then drop_on mid l else mid).pending_replies ≡ (if x then pending_on flow l b.pending_replies else b.pending_replies))
    ended true None k = k
    ended true (Some link) k = (k.0, ap (filter (λ due. not (is_return flow.at flow.peer flow.sent link due))) k.1)
    ended false l k = k

-- of a sender that the host has closed no RET is due any more
closed_none : (at peer : ℕ) (l : ConnState) → l.at ≡ at → l.peer ≡ peer → (pending_replies : List PendingReply) → EachDue (IsNotIts l) (pending_closed (record { at = at; peer = peer; sent = true }) l pending_replies)
unfolding pending_on pending_closed
closed_none at peer l a p pending_replies = go (is_senders l.local) refl l.link refl
  where
    dropped : (link : ℕ) → l.link ≡ Some link → (pending_replies : List PendingReply) → EachDue (IsNotIts l) (filter (λ due. not (is_return at peer true link due)) pending_replies)
    dropped link g [] = tt
    dropped link g (due ∷ pending_replies) = by (is_return at peer true link due) refl (dropped link g pending_replies)
      where
        by : (x : Bool) → is_return at peer true link due ≡ x → EachDue (IsNotIts l) (filter (λ due. not (is_return at peer true link due)) pending_replies)
            → EachDue (IsNotIts l) (if not x then due ∷ filter (λ due. not (is_return at peer true link due)) pending_replies else filter (λ due. not (is_return at peer true link due)) pending_replies)
        by true e rest = rest
        by false e rest = (none (is_its_return l due) refl, rest)
          where
            none : (z : Bool) → is_its_return l due ≡ z → is_its_return l due ≡ false
            none false f = f
            none true f =
                let h = its_hosts l due f in
                let is : is_return at peer true link due ≡ true =
                ap (λ (z : ℕ). z == at && due.peer == peer && beq due.host true && is_return_on link due.wanted) (h.1.0 ∙ a)
                ∙ ap (λ (z : ℕ). at == at && z == peer && beq due.host true && is_return_on link due.wanted) (h.1.1.0 ∙ p)
                ∙ ap (λ (z : Bool). at == at && peer == peer && beq z true && is_return_on link due.wanted) h.1.1.1.0
                ∙ ap (λ (z : Bool). z && peer == peer && true && is_return_on link due.wanted) (eq-eqb at at refl)
                ∙ ap (λ (z : Bool). true && z && true && is_return_on link due.wanted) (eq-eqb peer peer refl)
                ∙ sym (ap (λ (o : Option ℕ). is_on_given o due.wanted) g) ∙ h.1.1.1.1 in
                let nay : true ≡ false = sym is ∙ e in
                absurd (cc nay)

    go : (s : Bool) → is_senders l.local ≡ s → (o : Option ℕ) → l.link ≡ o → EachDue (IsNotIts l) (if beq s true then pending_on (record { at = at; peer = peer; sent = true }) o pending_replies else pending_replies)
    go true i None g = each_unlinked l g pending_replies
    go true i (Some link) g = dropped link g pending_replies
    go false i o g = each_not_sender l i pending_replies

-- a fault is answered; and no reply of the host waits any more
pub owed_covered : (flow : ObservedFlow) (code or : ℕ) (bytes : List ℕ) (mandatory : Bool) (b : SeenTables) (t : Tables) → Covered b t → Covered (owes flow (ExpectedReply.Error code or bytes) mandatory b) t
owed_covered flow code or bytes mandatory b t c = no_more_covered b (owes flow (ExpectedReply.Error code or bytes) mandatory b) t (owes_no_more flow (ExpectedReply.Error code or bytes) mandatory b (no_and (not flow.sent))) c

pub all_said_covered : (at peer : ℕ) (b : SeenTables) (t : Tables) → Covered b t → Covered (after_all_said at peer b) t
all_said_covered at peer b t c = no_more_covered b (after_all_said at peer b) t (record { conns = refl; pending_replies = filter_fewer (λ due. not (is_due_of at peer true due)) b.pending_replies }) c

-- all between two hosts is forgotten
pub cleared_covered : (number at peer : ℕ) (sent : Bool) (end : EndReason) (b : SeenTables) (t : Tables) → Same b t → Covered b t → Covered (tables_cleared at peer b) (after_clearing (record { number = number; at = at; peer = peer; sent = sent }) end t)
cleared_covered number at peer sent end b t s (c, o) = (
  besides_more (λ l m. SameConn l m × OneCovered after l m) (OneCovered after) (λ l m k. k.1) ls ms
      (besides_filter (λ l m. SameConn l m × OneCovered after l m) (λ conn. not (is_conn_between at peer conn)) (λ conn. not (is_track_of at peer conn)) (λ l m k. ap not (between_is at peer l m k.0)) b.conns t.tracks
      (besides_both SameConn (OneCovered after) b.conns t.tracks s.conns (pending_covered b.pending_replies after (filter_fewer away b.pending_replies) b.conns t.tracks (c, o)).0)),
  owned b.pending_replies o,
)
  where
    away : PendingReply → Bool
    away due = not (is_due_between at peer due)

    after : List PendingReply
    after = filter (λ due. not (is_due_between at peer due)) b.pending_replies

    ls : List ConnState
    ls = filter (λ conn. not (is_conn_between at peer conn)) b.conns

    ms : List FollowedConn
    ms = filter (λ conn. not (is_track_of at peer conn)) t.tracks

    -- those of a RET that stays stay
    owned : (pending_replies : List PendingReply) → EachDue (IsOwned b.conns) pending_replies → EachDue (IsOwned ls) (filter (λ due. not (is_due_between at peer due)) pending_replies)
    owned [] a = tt
    owned (due ∷ pending_replies) (k, a) = go (is_due_between at peer due) refl (owned pending_replies a)
      where
        go : (x : Bool) → is_due_between at peer due ≡ x → EachDue (IsOwned ls) (filter (λ due. not (is_due_between at peer due)) pending_replies)
            → EachDue (IsOwned ls) (if not x then due ∷ filter (λ due. not (is_due_between at peer due)) pending_replies else filter (λ due. not (is_due_between at peer due)) pending_replies)
        go true e rest = rest
        go false e rest = ((λ f. any_filtered (λ (x : ConnState). is_its_return x due) (λ conn. not (is_conn_between at peer conn)) stays b.conns (k f)), rest)
          where
            stays : (x : ConnState) → is_its_return x due ≡ true → not (is_conn_between at peer x) ≡ true
            stays x f =
                let h = its_hosts x due f in
                ap (λ (z : ℕ). not (z == at && x.peer == peer)) (sym h.1.0) ∙ ap (λ (z : ℕ). not (due.at == at && z == peer)) (sym h.1.1.0) ∙ ap not e

-- ---- a connection with other numbers

-- it is allocated more
granted_open : (sent : Bool) (at peer messages bits : ℕ) (pending_replies : List PendingReply) (l : ConnState) (m : FollowedConn) → kept_sum l.messages messages ≤ 65535 → kept_sum l.bits bits ≤ 65536 → OpenCovered pending_replies l m
    → OpenCovered pending_replies (with_grant (record { at = at; peer = peer; sent = sent }) messages bits l) (record m { left = with_more m.left messages bits })
granted_open sent at peer messages bits pending_replies l m small small_bits o = go sent (nat_lt 65535 (l.messages + messages) || nat_lt (2 ^ 32 - 1) (l.bits + bits))
  where
    after : FollowedConn
    after = record m { left = with_more m.left messages bits }

    more : (one other left given r : ℕ) → one ≤ other + given → one ≤ 65536 → r ≤ 65536 → other + r ≤ left → one + r ≤ min (left + given) (2 ^ 32 - 1)
    more one other left given r a f s k = omega arith

    wide : (x : ℕ) → x ≤ 65535 → x ≤ 65536
    wide x k = omega arith

    to : (now : ConnState) → SameReturns l now → now.messages ≤ l.messages + messages → now.bits ≤ l.bits + bits → now.messages ≤ 65535 → now.bits ≤ 65536 → OpenCovered pending_replies now after
    to now s a b f g =
        open_moved pending_replies l now m after s (λ r x k. more now.messages l.messages m.left.messages messages r a (wide now.messages f) (wide r x) k) (λ r x k. more now.bits l.bits m.left.bits bits r b g x k) f g o

    go : (s x : Bool) → OpenCovered pending_replies (if s then granted_there messages bits l else if x then l else record l { messages = l.messages + messages; bits = l.bits + bits }) after
    go true x = to (granted_there messages bits l) (record { at = refl; peer = refl; local = refl; link = refl }) (omega arith) (omega arith) small small_bits
    go false true = to l (record { at = refl; peer = refl; local = refl; link = refl }) (omega arith) (omega arith) o.few o.few_bits
    go false false =
        to (record l { messages = l.messages + messages; bits = l.bits + bits }) (record { at = refl; peer = refl; local = refl; link = refl }) (omega arith) (omega arith) (omega (arith, small)) (omega (arith, small_bits))

-- it gives back, or uses, at most what it may send
less_open : (pending_replies : List PendingReply) (l now : ConnState) (m : FollowedConn) (messages bits : ℕ) → SameReturns l now → now.messages ≡ l.messages - messages → now.bits ≡ l.bits - bits → messages ≤ l.messages → bits ≤ l.bits → OpenCovered pending_replies l m
    → OpenCovered pending_replies now (record m { left = with_less m.left messages bits })
less_open pending_replies l now m messages bits s a b f g o =
    open_moved pending_replies l now m (record m { left = with_less m.left messages bits }) s (λ r x k. less now.messages l.messages m.left.messages messages r a f k) (λ r x k. less now.bits l.bits m.left.bits bits r b g k)
    (few now.messages l.messages messages 65535 a o.few) (few now.bits l.bits bits 65536 b o.few_bits) o
  where
    less : (one other left given r : ℕ) → one ≡ other - given → given ≤ other → other + r ≤ left → one + r ≤ left - given
    less one other left given r a f k = omega arith

    few : (one other given most : ℕ) → one ≡ other - given → other ≤ most → one ≤ most
    few one other given most a k = omega arith

-- it is asked back
asked_open : (pending_replies : List PendingReply) (l now : ConnState) (m : FollowedConn) → SameReturns l now → now.messages ≤ l.messages → now.bits ≤ l.bits → OpenCovered pending_replies l m → OpenCovered pending_replies now m
asked_open pending_replies l now m s a b o =
    open_moved pending_replies l now m m s (λ r x k. less now.messages l.messages m.left.messages r a k) (λ r x k. less now.bits l.bits m.left.bits r b k) (few now.messages l.messages 65535 a o.few) (few now.bits l.bits 65536 b o.few_bits) o
  where
    less : (one other left r : ℕ) → one ≤ other → other + r ≤ left → one + r ≤ left
    less one other left r a k = omega arith

    few : (one other most : ℕ) → one ≤ other → other ≤ most → one ≤ most
    few one other most a k = omega arith

-- both have asked
both_asked : (l now : ConnState) → SameReturns l now → is_some l.link ≡ true → is_some l.size ≡ true → now.size ≡ l.size → (is_some now.link && is_some now.size) ≡ false → (now.messages ≡ 0) × ((now.bits ≡ 0) × (now.recall ≡ false))
both_asked l now s linked sized size e =
    let nay : true ≡ false =
    sym (ap (λ (o : Option ℕ). is_some o && is_some now.size) s.link ∙ ap (λ (o : Option ℕ). is_some l.link && is_some o) size ∙ ap (λ (z : Bool). z && is_some l.size) linked ∙ sized) ∙ e in
    absurd (cc nay)

-- of one for which both have asked
opened_sound : (pending_replies : List PendingReply) (l now : ConnState) → SameReturns l now → is_some l.link ≡ true → is_some l.size ≡ true → now.size ≡ l.size → now.recall ≡ l.recall → now.host_left ≡ l.host_left → BackSound pending_replies l → BackSound pending_replies now
opened_sound pending_replies l now s linked sized size recall left k =
    sound_moved pending_replies l now s (both_asked l now s linked sized size) (λ e. k.calm (sym recall ∙ e)) (λ e. k.left (sym left ∙ e)) k

-- with a CLS
cls_open : (pending_replies : List PendingReply) (sent : Bool) (l : ConnState) (m : FollowedConn) → OpenCovered pending_replies l m → OpenCovered pending_replies (with_cls_sent l sent) (with_left m sent)
cls_open pending_replies true l m o = open_moved pending_replies l (with_cls_sent l true) m (with_left m true) (record { at = refl; peer = refl; local = refl; link = refl }) (λ r x z. z) (λ r x z. z) o.few o.few_bits o
cls_open pending_replies false l m o = open_moved pending_replies l (with_cls_sent l false) m (with_left m false) (record { at = refl; peer = refl; local = refl; link = refl }) (λ r x z. z) (λ r x z. z) o.few o.few_bits o

-- ---- requests

new_unplaced : (at peer local remote : ℕ) (request : Request) → (with_choice (new_track at peer local remote) request).place ≡ None
new_unplaced at peer local remote (Link link) = refl
new_unplaced at peer local remote (Size size) = refl

record SameButAsked (l now : ConnState) : Type 0 where
  pub at : now.at ≡ l.at
  pub peer : now.peer ≡ l.peer
  pub local : now.local ≡ l.local
  pub messages : now.messages ≡ l.messages
  pub bits : now.bits ≡ l.bits
  pub recall : now.recall ≡ l.recall

but_asked : (l : ConnState) (request : Request) → SameButAsked l (with_request_sent l request)
but_asked l (Link link) = record { at = refl; peer = refl; local = refl; messages = refl; bits = refl; recall = refl }
but_asked l (Size size) = record { at = refl; peer = refl; local = refl; messages = refl; bits = refl; recall = refl }

-- one side has not asked
not_both : (l : ConnState) (request : Request) → has_sent_request l request ≡ false → (is_some l.link && is_some l.size) ≡ false
not_both l (Link link) e = ap (λ (x : Bool). x && is_some l.size) e
not_both l (Size size) e = ap (λ (x : Bool). is_some l.link && x) e ∙ no_and (is_some l.link)

module _ (number at peer : ℕ) (kept : List SentMessage) where
  abbrev saying : Bool → ObservedFlow
  saying sent = record { at = at; peer = peer; sent = sent }

  abbrev turning : Bool → Observation
  turning sent = record { number = number; at = at; peer = peer; sent = sent }

  calm_at : (b : SeenTables) (t : Tables) → Same b t → Calm at peer b
  calm_at b t s host link = none_suspended at peer host link b s.calm

  -- ---- requests

  -- on a connection that one side had not requested nothing may be sent, regardless of the rest in the
  -- follower
  fresh : (pending_replies : List PendingReply) (l : ConnState) (request : Request) (m : FollowedConn) → (l.messages ≡ 0) × ((l.bits ≡ 0) × (l.recall ≡ false)) → EachDue (IsNotIts (with_request_sent l request)) pending_replies → OneCovered pending_replies (with_request_sent l request) m
  fresh pending_replies l request m (messages, (bits, recall)) none = (
    record { unopened = λ e. (same.messages ∙ messages, (same.bits ∙ bits, same.recall ∙ recall)); calm = λ e. none; left = λ e. none; once = once_none now pending_replies none },
    λ z. record {
      messages = subst (λ (n : ℕ). n ≤ m.left.messages) (sym (same.messages ∙ messages)) (omega arith);
      bits = subst (λ (n : ℕ). n ≤ m.left.bits) (sym (same.bits ∙ bits)) (omega arith);
      few = subst (λ (n : ℕ). n ≤ 65535) (sym (same.messages ∙ messages)) (omega arith);
      few_bits = subst (λ (n : ℕ). n ≤ 65536) (sym (same.bits ∙ bits)) (omega arith);
      back = covers_none now m pending_replies none;
    },
  )
    where
      now : ConnState
      now = with_request_sent l request

      same : SameButAsked l now
      same = but_asked l request

  -- no RET is due of it
  asked_none : (sent : Bool) (b : SeenTables) (request : Request) (l : ConnState) → l.at ≡ at → l.peer ≡ peer → IsAsker number at peer sent request l.local → IsFree number at peer sent request b → EachDue (IsOwned b.conns) b.pending_replies → EachDue (IsNotIts l) b.pending_replies → EachDue (IsNotIts (with_request_sent l request)) b.pending_replies
  asked_none sent b (Size size) l a p sex free owned none = none_moved l (with_request_sent l (Size size)) (record { at = refl; peer = refl; local = refl; link = refl }) b.pending_replies none
  asked_none true b (Link link) l a p sex free owned none = each_not_sender (with_request_sent l (Link link)) sex b.pending_replies
  asked_none false b (Link link) l a p sex free owned none = free_none at peer link (with_request_sent l (Link link)) b.conns (unfound (position (has_link at peer false link) b.conns) refl free) a p refl b.pending_replies owned
    where
      unfound : (o : Option ℕ) → position (has_link at peer false link) b.conns ≡ o → conn_found b.conns o ≡ None → first (has_link at peer false link) b.conns ≡ None
      unfound None e f = none_first (has_link at peer false link) b.conns e
      unfound (Some p) e f = absurd (cc f)

  module _ (roomy : (n : ℕ) → nat_lt n MAX_TABLE_ROWS ≡ true → nat_lt n MAX_TRACKS ≡ true) where
    asks_covered : (sent : Bool) (c : Command) (local remote : ℕ) (right : Bool) (request : Request) (b : SeenTables) (t : Tables) → Same b t → Covered b t → AskedRight number at peer sent c local remote right request b → IsAsker number at peer sent request local
        → (asks (saying sent) local remote request b (index_with_sockets at peer local remote b.conns)).full ≡ false
        → Covered (asks (saying sent) local remote request b (index_with_sockets at peer local remote b.conns)) (after_request (turning sent) local remote request t)
    asks_covered sent c local remote right request b t s (cov, owned) a sex full =
        subst (λ (z : Bool). AllCovered now.pending_replies now.conns (if z then t else asked_at (turning sent) local remote request t (pair_index at peer local remote t.tracks)).tracks)
        (sym (untaken number at peer sent local request b t s.conns sex a.free))
        (subst (λ (o : Option ℕ). AllCovered now.pending_replies now.conns (asked_at (turning sent) local remote request t o).tracks) (sym (place_same at peer local remote b.conns t.tracks s.conns))
        (go (index_with_sockets at peer local remote b.conns) refl full))
      where
        now : SeenTables
        now = asks (saying sent) local remote request b (index_with_sockets at peer local remote b.conns)

        Now : Option ℕ → SeenTables
        Now o = asks (saying sent) local remote request b o

        go : (o : Option ℕ) → index_with_sockets at peer local remote b.conns ≡ o → (Now o).full ≡ false → AllCovered (Now o).pending_replies (Now o).conns (asked_at (turning sent) local remote request t o).tracks
        go None e f = by (nat_lt (length b.conns) MAX_TABLE_ROWS) refl f
          where
            old : ConnState
            old = record (unasked_conn at peer local remote) { since = b.number }

            l : ConnState
            l = with_request_sent (record (unasked_conn at peer local remote) { since = b.number }) request

            m : FollowedConn
            m = with_choice (new_track at peer local remote) request

            none : EachDue (IsNotIts l) b.pending_replies
            none = asked_none sent b request old refl refl sex a.free owned (each_unlinked old refl b.pending_replies)

            With : Bool → SeenTables
            With z = if z then record b { conns = b.conns ++ l ∷ [] } else record b { full = true }

            by : (z : Bool) → nat_lt (length b.conns) MAX_TABLE_ROWS ≡ z → (With z).full ≡ false → AllCovered (With z).pending_replies (With z).conns (with_new t.tracks m)
            by true e f =
                let room : nat_lt (length t.tracks) MAX_TRACKS ≡ true = roomy (length t.tracks) (ap (λ (n : ℕ). nat_lt n MAX_TABLE_ROWS) (besides_length SameConn b.conns t.tracks s.conns) ∙ e) in (
                  subst (λ (z : Bool). Besides (OneCovered b.pending_replies) (b.conns ++ l ∷ []) (if z then t.tracks ++ m ∷ [] else t.tracks)) (sym room)
                      (besides_after (OneCovered b.pending_replies) b.conns t.tracks l m (fresh b.pending_replies old request m (refl, (refl, refl)) none) cov),
                  each_from (IsOwned (b.conns ++ l ∷ [])) (IsOwned b.conns) (λ due k z. any_more (λ (x : ConnState). is_its_return x due) b.conns l (k z)) b.pending_replies owned,
                )
            by false e f = absurd (cc f)
        go (Some p) e f = placed
          where
            l : ConnState
            l = conn_at_index b.conns p

            m : FollowedConn
            m = track_at t.tracks p

            one : SameConn l m
            one = conn_there number at peer sent b t local remote p s.conns e

            may : (has_sent_cls l sent ≡ false) × (has_sent_request l request ≡ false)
            may = a.may l (ap (conn_found b.conns) e)

            there : (p < length b.conns) × (is_of_sockets at peer local remote l ≡ true)
            there = let f = position-Some (is_of_sockets at peer local remote) b.conns p (unasked_conn 0 0 0 0) e in (f.0, f.1)

            its : HasSockets at peer local remote l
            its = has_sockets at peer local remote l there.1

            sound : BackSound b.pending_replies l
            sound = (besides_at (OneCovered b.pending_replies) b.conns t.tracks p (unasked_conn 0 0 0 0) (new_track 0 0 0 0) there.0 cov).0

            zeros : (l.messages ≡ 0) × ((l.bits ≡ 0) × (l.recall ≡ false))
            zeros = sound.unopened (not_both l request may.1)

            was_none : EachDue (IsNotIts l) b.pending_replies
            was_none = sound.calm zeros.1.1

            none : EachDue (IsNotIts (with_request_sent l request)) b.pending_replies
            none = asked_none sent b request l its.at its.peer (subst (IsAsker number at peer sent request) (sym its.local) sex) a.free owned was_none

            asking : FollowedConn
            asking = with_choice m request

            in_place : (z : Bool) → Besides (OneCovered b.pending_replies) (slice_set b.conns p (with_request_sent l request))
                (if z then record t { tracks = slice_set t.tracks p (record asking { place = Some (length t.told) }); told = with_opened t.told number asking } else record t { tracks = slice_set t.tracks p asking }).tracks
            in_place true = besides_set (OneCovered b.pending_replies) b.conns t.tracks p (with_request_sent l request) (record asking { place = Some (length t.told) }) (fresh b.pending_replies l request (record asking { place = Some (length t.told) }) zeros none) cov
            in_place false = besides_set (OneCovered b.pending_replies) b.conns t.tracks p (with_request_sent l request) asking (fresh b.pending_replies l request asking zeros none) cov

            placed : AllCovered b.pending_replies (slice_set b.conns p (with_request_sent l request)) (if has_chosen m request || has_left m sent then t else track_placed (turning sent) p (with_choice m request) t).tracks
            placed = (
              subst (λ (z : Bool). Besides (OneCovered b.pending_replies) (slice_set b.conns p (with_request_sent l request)) (if z || has_left m sent then t else track_placed (turning sent) p (with_choice m request) t).tracks)
                  (sym (requested_is l m request one ∙ may.1))
                  (subst (λ (z : Bool). Besides (OneCovered b.pending_replies) (slice_set b.conns p (with_request_sent l request)) (if false || z then t else track_placed (turning sent) p (with_choice m request) t).tracks)
                  (sym (left_is l m sent one ∙ may.0)) (in_place (is_whole asking && has_room_opened t.told))),
              owned_none b.conns p (with_request_sent l request) (unasked_conn 0 0 0 0) b.pending_replies there.0 was_none none owned,
            )

    -- a request that is not found is right
    request_covered : (sent : Bool) (c : Command) (local remote : ℕ) (right : Bool) (request : Request) (b : SeenTables) (t now : Tables) → Same b t → Covered b t → (right ≡ true → IsAsker number at peer sent request local)
        → broken (request_acceptance (saying sent) c local remote right request b) ≡ None → (tables_after_request (saying sent) c local remote request (request_acceptance (saying sent) c local remote right request b) b).full ≡ false
        → (AskedRight number at peer sent c local remote right request b → now ≡ after_request (turning sent) local remote request t)
        → Covered (tables_after_request (saying sent) c local remote request (request_acceptance (saying sent) c local remote right request b) b) now
    request_covered sent c local remote right request b t now s cov sex e full is =
        subst (λ (v : Acceptance). Covered (tables_after_request (saying sent) c local remote request v b) now) (sym a.acceptance)
        (subst (λ (z : Tables). Covered (asks (saying sent) local remote request b place) z) (sym (is a))
        (asks_covered sent c local remote right request b t s cov a (sex a.sexes)
        (subst (λ (v : Acceptance). (tables_after_request (saying sent) c local remote request v b).full ≡ false) a.acceptance full)))
      where
        a : AskedRight number at peer sent c local remote right request b
        a = asked_right number at peer sent c local remote b right request (calm_at b t s) (awake number at peer sent kept roomy local remote b t s) e

        place : Option ℕ
        place = index_with_sockets at peer local remote b.conns

    -- ---- a CLS

    closes_covered : (sent : Bool) (c : Command) (local remote : ℕ) (b : SeenTables) (t : Tables) → Same b t → Covered b t → ClosedRight number at peer sent c local remote b
        → Covered (after_right_cls (saying sent) kept (conn_of at peer local remote b.conns) Right (closes_side (saying sent) b (index_with_sockets at peer local remote b.conns))) (closed_at (turning sent) t (pair_index at peer local remote t.tracks))
    closes_covered sent c local remote b t s cov k =
        subst (λ (o : Option ℕ). Covered (after_right_cls (saying sent) kept (conn_of at peer local remote b.conns) Right (closes_side (saying sent) b (index_with_sockets at peer local remote b.conns))) (closed_at (turning sent) t o)) (sym (place_same at peer local remote b.conns t.tracks s.conns))
        (go (index_with_sockets at peer local remote b.conns) refl)
      where
        go : (o : Option ℕ) → index_with_sockets at peer local remote b.conns ≡ o → Covered (after_right_cls (saying sent) kept (conn_found b.conns o) Right (closes_side (saying sent) b o)) (closed_at (turning sent) t o)
        go None e = cov
        go (Some p) e =
            subst (λ (z : Bool). Covered (after_right_cls (saying sent) kept (Some l) Right (closes_side (saying sent) b (Some p))) (if z then t else left_at (turning sent) p (with_left m sent) t)) (sym unleft)
            (both (now.host_left && now.peer_left) refl (then_left.host_left && then_left.peer_left) (ap (λ (z : Bool). z && then_left.peer_left) closed.host_left ∙ ap (λ (z : Bool). now.host_left && z) closed.peer_left))
          where
            l : ConnState
            l = conn_at_index b.conns p

            m : FollowedConn
            m = track_at t.tracks p

            one : SameConn l m
            one = conn_there number at peer sent b t local remote p s.conns e

            unleft : has_left m sent ≡ false
            unleft =
                let is : k.conn ≡ l = cc (sym k.there ∙ ap (conn_found b.conns) e) in
                left_is l m sent one ∙ ap (λ (z : ConnState). has_sent_cls z sent) (sym is) ∙ k.stays

            now : ConnState
            now = with_cls_sent l sent

            then_left : FollowedConn
            then_left = with_left m sent

            closed : SameConn now then_left
            closed = cls_same l m sent one

            there : (p < length b.conns) × (is_of_sockets at peer local remote l ≡ true)
            there = let f = position-Some (is_of_sockets at peer local remote) b.conns p (unasked_conn 0 0 0 0) e in (f.0, f.1)

            its : HasSockets at peer local remote l
            its = has_sockets at peer local remote l there.1

            -- what is due then
            pending_replies : List PendingReply
            pending_replies = pending_closed (saying sent) l b.pending_replies

            fewer : AllCovered pending_replies b.conns t.tracks
            fewer = pending_covered b.pending_replies pending_replies (closed_fewer (saying sent) l b.pending_replies) b.conns t.tracks cov

            old : OneCovered pending_replies l m
            old = besides_at (OneCovered pending_replies) b.conns t.tracks p (unasked_conn 0 0 0 0) (new_track 0 0 0 0) there.0 fewer.0

            -- of one that the host has closed none is
            none_left : (z : Bool) → sent ≡ z → (with_cls_sent l z).host_left ≡ true → EachDue (IsNotIts l) pending_replies
            none_left true i h = subst (λ (z : Bool). EachDue (IsNotIts l) (pending_closed (saying z) l b.pending_replies)) (sym i) (closed_none at peer l its.at its.peer b.pending_replies)
            none_left false i h = old.0.left h

            after : OneCovered pending_replies now then_left
            after = (sound sent (none_left sent refl), λ z. cls_open pending_replies sent l m (old.1 (open_place sent z)))
              where
                sound : (w : Bool) → ((with_cls_sent l w).host_left ≡ true → EachDue (IsNotIts l) pending_replies) → BackSound pending_replies (with_cls_sent l w)
                sound true h = sound_moved pending_replies l (with_cls_sent l true) (record { at = refl; peer = refl; local = refl; link = refl }) old.0.unopened old.0.calm h old.0
                sound false h = sound_moved pending_replies l (with_cls_sent l false) (record { at = refl; peer = refl; local = refl; link = refl }) old.0.unopened old.0.calm h old.0

                open_place : (w : Bool) → is_some (with_left m w).place ≡ true → is_some m.place ≡ true
                open_place true z = z
                open_place false z = z

            same_its : (w : Bool) → SameReturns l (with_cls_sent l w)
            same_its true = record { at = refl; peer = refl; local = refl; link = refl }
            same_its false = record { at = refl; peer = refl; local = refl; link = refl }

            ended : Tables
            ended = record t { tracks = remove t.tracks p; told = with_end_recorded t.told then_left.place Closed (Some number) }

            standing : Tables
            standing = record t { tracks = slice_set t.tracks p then_left; told = with_end_recorded t.told then_left.place (end_by sent) None }

            side : Bool → SeenTables
            side x = if x then record b { conns = remove b.conns p } else put_conn b (Some p) now

            as_books : (x : Bool) (y : Tables) → AllCovered pending_replies (side x).conns y.tracks → Covered (after_right_cls (saying sent) kept (Some l) Right (side x)) y
            as_books x y c =
                let is = cls_books (saying sent) kept l (side x) in
                subst (λ (ds : List PendingReply). AllCovered ds (after_right_cls (saying sent) kept (Some l) Right (side x)).conns y.tracks) (sym (is.1 ∙ ap (pending_closed (saying sent) l) (pending_are x)))
                (subst (λ (ls : List ConnState). AllCovered pending_replies ls y.tracks) (sym is.0) c)
              where
                pending_are : (x : Bool) → (side x).pending_replies ≡ b.pending_replies
                pending_are true = refl
                pending_are false = refl

            both : (x : Bool) → (now.host_left && now.peer_left) ≡ x → (y : Bool) → y ≡ (now.host_left && now.peer_left) → Covered (after_right_cls (saying sent) kept (Some l) Right (side (now.host_left && now.peer_left))) (if y then ended else standing)
            both x i y j =
                subst (λ (z : Bool). Covered (after_right_cls (saying sent) kept (Some l) Right (side z)) (if y then ended else standing)) (sym i)
                (subst (λ (z : Bool). Covered (after_right_cls (saying sent) kept (Some l) Right (side x)) (if z then ended else standing)) (sym (j ∙ i)) (by x i))
              where
                by : (x : Bool) → (now.host_left && now.peer_left) ≡ x → Covered (after_right_cls (saying sent) kept (Some l) Right (side x)) (if x then ended else standing)
                by true i =
                    as_books true ended
                    (besides_remove (OneCovered pending_replies) b.conns t.tracks p fewer.0, owned_removed b.conns p (unasked_conn 0 0 0 0) pending_replies (none_left sent refl (and_parts now.host_left now.peer_left i).0) fewer.1)
                by false i = as_books false standing (covered_here pending_replies b.conns t.tracks (slice_set t.tracks p then_left) p now there.0 (same_its sent) (inr (then_left, (after, refl))) fewer)

    cls_covered : (sent : Bool) (c : Command) (local remote : ℕ) (b : SeenTables) (t : Tables) → Same b t → Covered b t → cls_rule (saying sent) c local remote kept b (cls_acceptance (saying sent) c local remote b) ≡ None
        → Covered (after_right_cls (saying sent) kept (conn_of at peer local remote b.conns) (cls_acceptance (saying sent) c local remote b) (after_cls (saying sent) c local remote (cls_acceptance (saying sent) c local remote b) b)) (closed_at (turning sent) t (pair_index at peer local remote t.tracks))
    cls_covered sent c local remote b t s cov e =
        subst (λ (v : Acceptance). Covered (after_right_cls (saying sent) kept (conn_of at peer local remote b.conns) v (after_cls (saying sent) c local remote v b)) (closed_at (turning sent) t (pair_index at peer local remote t.tracks))) (sym k.acceptance)
        (closes_covered sent c local remote b t s cov k)
      where
        k : ClosedRight number at peer sent c local remote b
        k = closed_right number at peer sent c local remote b (awake number at peer sent kept roomy local remote b t s) (cls_unbroken number at peer sent kept roomy c local remote b (cls_acceptance (saying sent) c local remote b) e)

  -- ---- what names a link

  led_by : (sent : Bool) (c : Command) (receive_link : ReceiveLink) (b : SeenTables) (t : Tables) → Same b t → demuxed_rule (saying sent) c b (target_on (saying sent) receive_link b) ≡ None → Led (saying sent) receive_link b
  led_by sent c receive_link b t s e = led (saying sent) c receive_link b (calm_at b t s) e

  -- those in the place of the link
  linked_there : (sent : Bool) (receive_link : ReceiveLink) (b : SeenTables) (t : Tables) (p : ℕ) → Same b t → index_on_receive_link (saying sent) receive_link b.conns ≡ Some p → SameConn (conn_at_index b.conns p) (track_at t.tracks p)
  linked_there sent receive_link b t p s e =
      besides_at SameConn b.conns t.tracks p (unasked_conn 0 0 0 0) (new_track 0 0 0 0) (position-Some (has_link at peer receive_link.host receive_link.link) b.conns p (unasked_conn 0 0 0 0) e).0 s.conns

  inside : (sent : Bool) (receive_link : ReceiveLink) (b : SeenTables) (p : ℕ) → index_on_receive_link (saying sent) receive_link b.conns ≡ Some p → p < length b.conns
  inside sent receive_link b p e = (position-Some (has_link at peer receive_link.host receive_link.link) b.conns p (unasked_conn 0 0 0 0) e).0

  covered_there : (sent : Bool) (receive_link : ReceiveLink) (b : SeenTables) (t : Tables) (p : ℕ) → Covered b t → index_on_receive_link (saying sent) receive_link b.conns ≡ Some p → OneCovered b.pending_replies (conn_at_index b.conns p) (track_at t.tracks p)
  covered_there sent receive_link b t p c e = besides_at (OneCovered b.pending_replies) b.conns t.tracks p (unasked_conn 0 0 0 0) (new_track 0 0 0 0) (inside sent receive_link b p e) c.0

  -- none of one that was not opened
  unplaced : (pending_replies : List PendingReply) (l : ConnState) (m : FollowedConn) → m.place ≡ None → is_some m.place ≡ true → OpenCovered pending_replies l m
  unplaced pending_replies l m e z = let nay : true ≡ false = sym z ∙ ap (λ (o : Option ℕ). is_some o) e in absurd (cc nay)

  -- ---- ALL

  within_limits : (c : Command) (x y : ℕ) → limit_rule c x y ≡ None → (x ≤ 65535) × (y ≤ 65536)
  within_limits c x y e = let parts = or_parts (nat_lt 65535 x) (nat_lt 65536 y) (go (nat_lt 65535 x || nat_lt 65536 y) e) in (ltb-false 65535 x parts.0, ltb-false 65536 y parts.1)
    where
      go : (b : Bool) → (if b then Some (Rule.OverLimit c x y) else None) ≡ None → b ≡ false
      go true e = absurd (cc e)
      go false e = refl

  grant_same : (sent : Bool) (messages bits : ℕ) (l : ConnState) → SameReturns l (with_grant (saying sent) messages bits l) × (((with_grant (saying sent) messages bits l).size ≡ l.size) × (((with_grant (saying sent) messages bits l).recall ≡ l.recall) × ((with_grant (saying sent) messages bits l).host_left ≡ l.host_left)))
  grant_same true messages bits l = (record { at = refl; peer = refl; local = refl; link = refl }, (refl, (refl, refl)))
  grant_same false messages bits l = go (nat_lt 65535 (l.messages + messages) || nat_lt (2 ^ 32 - 1) (l.bits + bits))
    where
      Stays : ConnState → Type 0
      Stays now = SameReturns l now × ((now.size ≡ l.size) × ((now.recall ≡ l.recall) × (now.host_left ≡ l.host_left)))

      go : (x : Bool) → Stays (if x then l else record l { messages = l.messages + messages; bits = l.bits + bits })
      go true = (record { at = refl; peer = refl; local = refl; link = refl }, (refl, (refl, refl)))
      go false = (record { at = refl; peer = refl; local = refl; link = refl }, (refl, (refl, refl)))

  all_covered : (sent : Bool) (link messages bits : ℕ) (b : SeenTables) (t : Tables) → Same b t → Covered b t → command_rule (saying sent) kept (Command.All link messages bits) b ≡ None
      → Covered (tables_after_command (saying sent) kept (Command.All link messages bits) b) (after_command (turning sent) (Command.All link messages bits) t)
  all_covered sent link messages bits b t s cov e =
      subst (λ (x : LinkTarget). Covered (demuxed_after (saying sent) kept c receive_link b x) (after_command (turning sent) c t)) (sym k.target)
      (subst (λ (o : Option ℕ). Covered (after_open (saying sent) kept c receive_link k.place b) (granted_at (turning sent) messages bits t o)) (sym (link_same at peer sent link b.conns t.tracks s.conns ∙ k.found))
      (subst (λ (o : Option Rule). Covered (owes_error_if (is_some o) (saying sent) c (put_conn b (Some k.place) now)) (granted_at (turning sent) messages bits t (Some k.place))) (sym limit)
      (subst (λ (z : Bool). Covered (put_conn b (Some k.place) now) (if z then t else granted_of k.place messages bits m t m.place)) (sym unleft) (go m.place refl))))
    where
      c : Command
      c = Command.All link messages bits

      receive_link : ReceiveLink
      receive_link = from_receiver (saying sent) link

      k : Led (saying sent) receive_link b
      k = led_by sent c receive_link b t s e

      l : ConnState
      l = conn_at_index b.conns k.place

      m : FollowedConn
      m = track_at t.tracks k.place

      now : ConnState
      now = with_grant (saying sent) messages bits l

      limit : limit_rule c (kept_sum l.messages messages) (kept_sum l.bits bits) ≡ None
      limit = subst (λ (x : LinkTarget). demuxed_rule (saying sent) c b x ≡ None) k.target e

      unleft : has_left m sent ≡ false
      unleft = left_is l m sent (linked_there sent receive_link b t k.place s k.found) ∙ k.stays

      there : OneCovered b.pending_replies l m
      there = covered_there sent receive_link b t k.place cov k.found

      sound : BackSound b.pending_replies now
      sound = let g = grant_same sent messages bits l in opened_sound b.pending_replies l now g.0 k.linked k.sized g.1.0 g.1.1.0 g.1.1.1 there.0

      put : (after : List FollowedConn) → ((after ≡ t.tracks) × OneCovered b.pending_replies now m) ⊎ ((n : FollowedConn) × ((OneCovered b.pending_replies now n) × (after ≡ slice_set t.tracks k.place n))) → AllCovered b.pending_replies (slice_set b.conns k.place now) after
      put after how = covered_here b.pending_replies b.conns t.tracks after k.place now (inside sent receive_link b k.place k.found) (grant_same sent messages bits l).0 how cov

      go : (o : Option ℕ) → m.place ≡ o → Covered (put_conn b (Some k.place) now) (granted_of k.place messages bits m t o)
      go None f = put t.tracks (inl (refl, (sound, unplaced b.pending_replies now m f)))
      go (Some q) f =
          let small = within_limits c (kept_sum l.messages messages) (kept_sum l.bits bits) limit in
          put (slice_set t.tracks k.place (record m { left = with_more m.left messages bits }))
          (inr (record m { left = with_more m.left messages bits }, ((sound, λ z. granted_open sent at peer messages bits b.pending_replies l m small.0 small.1 (there.1 z)), refl)))

  -- ---- GVB

  part_less : (number fraction : ℕ) → part_returned number fraction ≤ number
  part_less number fraction = omega arith

  gvb_own : (link fm fb : ℕ) (b : SeenTables) (t : Tables) → Covered b t → (k : Led (saying true) (from_receiver (saying true) link) b)
      → Covered (owes_return (saying true) kept link fm fb (conn_at_index b.conns k.place) (put_conn b (Some k.place) (recalled (saying true) fm fb (conn_at_index b.conns k.place)))) t
  gvb_own link fm fb b t cov k = go (has_sent_cls old false)
    where
      old : ConnState
      old = conn_at_index b.conns k.place

      now : ConnState
      now = record old { recall = true }

      m : FollowedConn
      m = track_at t.tracks k.place

      put : SeenTables
      put = put_conn b (Some k.place) (record old { recall = true })

      same : SameReturns old now
      same = record { at = refl; peer = refl; local = refl; link = refl }

      there : OneCovered b.pending_replies old m
      there = covered_there true (from_receiver (saying true) link) b t k.place cov k.found

      put_covered : Covered put t
      put_covered =
          covered_here b.pending_replies b.conns t.tracks t.tracks k.place now (inside true (from_receiver (saying true) link) b k.place k.found) same
          (inl (refl, (sound_moved b.pending_replies old now same (both_asked old now same k.linked k.sized refl) (λ e. absurd (cc e)) there.0.left there.0, λ z. asked_open b.pending_replies old now m same (omega arith) (omega arith) (there.1 z)))) cov

      go : (z : Bool) → Covered (if z then put else owes (saying true) (asked_back link fm fb old) false put) t
      go true = put_covered
      go false = no_more_covered put (owes (saying true) (asked_back link fm fb old) false put) t (owes_no_more (saying true) (asked_back link fm fb old) false put refl) put_covered

  gvb_theirs : (link fm fb : ℕ) (b : SeenTables) (t : Tables) → Tidy b → Covered b t → (k : Led (saying false) (from_receiver (saying false) link) b) → (conn_at_index b.conns k.place).recall ≡ false
      → Covered (owes_return (saying false) kept link fm fb (conn_at_index b.conns k.place) (put_conn b (Some k.place) (recalled (saying false) fm fb (conn_at_index b.conns k.place)))) t
  gvb_theirs link fm fb b t tidy cov k calm = go (has_sent_cls old true) refl
    where
      old : ConnState
      old = conn_at_index b.conns k.place

      m : FollowedConn
      m = track_at t.tracks k.place

      now : ConnState
      now = record old { recall = true; messages = old.messages - part_returned old.messages fm; bits = old.bits - part_returned old.bits fb }

      put : SeenTables
      put = put_conn b (Some k.place) now

      same : SameReturns old now
      same = record { at = refl; peer = refl; local = refl; link = refl }

      less : (x y : ℕ) → x - y ≤ x
      less x y = omega arith

      its : OneCovered b.pending_replies old m
      its = covered_there false (from_receiver (saying false) link) b t k.place cov k.found

      found : (k.place < length b.conns) × (has_link at peer false link old ≡ true)
      found = let f = position-Some (has_link at peer false link) b.conns k.place (unasked_conn 0 0 0 0) k.found in (f.0, f.1)

      still : is_some m.place ≡ true → OpenCovered b.pending_replies now m
      still z = asked_open b.pending_replies old now m same (less old.messages (part_returned old.messages fm)) (less old.bits (part_returned old.bits fb)) (its.1 z)

      mandatory : Bool
      mandatory = true && not (is_link_busy at peer (Some link) kept)

      due : PendingReply
      due = record { at = at; peer = peer; host = true; wanted = asked_back link fm fb old; mandatory = mandatory }

      whole : (x y left : ℕ) → y ≤ x → x ≤ left → x - y + y ≤ left
      whole x y left a k = omega arith

      small : (x y most : ℕ) → y ≤ x → x ≤ most → y ≤ most
      small x y most a k = omega arith

      of_it : OpenCovered b.pending_replies old m → BackCovered now m (asked_back link fm fb old)
      of_it was = record {
        messages = whole old.messages (part_returned old.messages fm) m.left.messages (part_less old.messages fm) was.messages;
        bits = whole old.bits (part_returned old.bits fb) m.left.bits (part_less old.bits fb) was.bits;
        few = small old.messages (part_returned old.messages fm) 65535 (part_less old.messages fm) was.few;
        few_bits = small old.bits (part_returned old.bits fb) 65536 (part_less old.bits fb) was.few_bits;
      }

      with_one : (o : ConnState) (n : FollowedConn) → OpenCovered b.pending_replies o n → (is_its_return o due ≡ true → BackCovered o n (asked_back link fm fb old)) → OpenCovered (b.pending_replies ++ due ∷ []) o n
      with_one o n i k = record { messages = i.messages; bits = i.bits; few = i.few; few_bits = i.few_bits; back = each_after (IsCovered o n) b.pending_replies due i.back k }

      -- the connection of the link: where the host has not left, the RET is due
      here : old.host_left ≡ false → OneCovered (b.pending_replies ++ due ∷ []) now m
      here stays = (
        record {
          unopened = both_asked old now same k.linked k.sized refl;
          calm = λ e. absurd (cc e);
          left = λ e. let nay : true ≡ false = sym e ∙ stays in absurd (cc nay);
          once = once_after now b.pending_replies due (once_moved old now same b.pending_replies its.0.once) (λ e. none_moved old now same b.pending_replies (its.0.calm calm));
        },
        λ z. with_one now m (still z) (λ e. of_it (its.1 z)),
      )

      not_of : (o : ConnState) → has_link at peer false link o ≡ false → is_its_return o due ≡ false
      not_of o f = by (is_its_return o due) refl
        where
          by : (z : Bool) → is_its_return o due ≡ z → is_its_return o due ≡ false
          by false e = e
          by true e = let nay : true ≡ false = sym (has_of_its at peer link o due e refl refl (eq-eqb link link refl)) ∙ f in absurd (cc nay)

      others : (o : ConnState) (n : FollowedConn) → has_link at peer false link o ≡ false → OneCovered b.pending_replies o n → OneCovered (b.pending_replies ++ due ∷ []) o n
      others o n f j = (
        record {
          unopened = j.0.unopened;
          calm = λ e. each_after (IsNotIts o) b.pending_replies due (j.0.calm e) (not_of o f);
          left = λ e. each_after (IsNotIts o) b.pending_replies due (j.0.left e) (not_of o f);
          once = once_after o b.pending_replies due j.0.once (λ e. let nay : true ≡ false = sym e ∙ not_of o f in absurd (cc nay));
        },
        λ z. with_one o n (j.1 z) (λ e. let nay : true ≡ false = sym e ∙ not_of o f in absurd (cc nay)),
      )

      of_now : is_its_return now due ≡ true
      of_now =
          let parts = has_parts at peer false link old found.1 in
          its_own now at peer link 0 0 due parts.0 parts.1.0 parts.1.1.0 parts.1.1.1 (ap (λ (z : Bool). z && peer == peer && true) (eq-eqb at at refl) ∙ ap (λ (z : Bool). true && z && true) (eq-eqb peer peer refl)) (eq-eqb link link refl)

      owned_now : EachDue (IsOwned (slice_set b.conns k.place now)) b.pending_replies
      owned_now = owned_set b.pending_replies b.conns k.place now (unasked_conn 0 0 0 0) found.0 same cov.1

      put_covered : (now.host_left ≡ true → EachDue (IsNotIts old) b.pending_replies) → Covered put t
      put_covered left =
          covered_here b.pending_replies b.conns t.tracks t.tracks k.place now found.0 same
          (inl (refl, (sound_moved b.pending_replies old now same (both_asked old now same k.linked k.sized refl) (λ e. absurd (cc e)) left its.0, still))) cov

      room : old.host_left ≡ false → (z : Bool) → Covered (if z then record put { pending_replies = b.pending_replies ++ due ∷ [] } else record put { full = true }) t
      room stays true = (
        besides_only (has_link at peer false link) (OneCovered b.pending_replies) (OneCovered (b.pending_replies ++ due ∷ [])) others b.conns t.tracks k.place now (unasked_conn 0 0 0 0) (new_track 0 0 0 0) found.0 found.1 (tidy.alone at peer false link) (here stays) cov.0,
        each_after (IsOwned (slice_set b.conns k.place now)) b.pending_replies due owned_now (λ e. any_here (λ (x : ConnState). is_its_return x due) b.conns k.place now found.0 of_now),
      )
      room stays false = put_covered its.0.left

      go : (z : Bool) → old.host_left ≡ z → Covered (if z then put else owes (saying false) (asked_back link fm fb old) (true && not (is_link_busy at peer (Some link) kept)) put) t
      go true e = put_covered its.0.left
      go false e = room e (nat_lt (length b.pending_replies) MAX_TABLE_ROWS)

  gvb_covered : (sent : Bool) (link fm fb : ℕ) (b : SeenTables) (t : Tables) → Tidy b → Same b t → Covered b t → command_rule (saying sent) kept (Gvb link fm fb) b ≡ None → Covered (tables_after_command (saying sent) kept (Gvb link fm fb) b) t
  gvb_covered sent link fm fb b t tidy s cov e =
      subst (λ (x : LinkTarget). Covered (demuxed_after (saying sent) kept c (from_receiver (saying sent) link) b x) t) (sym k.target)
      (subst (λ (z : Bool). Covered (owes_return (saying sent) kept link fm fb l (put_conn (owes_error_if z (saying sent) c b) (Some k.place) (recalled (saying sent) fm fb l))) t) (sym calm) (by sent k calm))
    where
      c : Command
      c = Gvb link fm fb

      k : Led (saying sent) (from_receiver (saying sent) link) b
      k = led_by sent c (from_receiver (saying sent) link) b t s e

      l : ConnState
      l = conn_at_index b.conns k.place

      calm : l.recall ≡ false
      calm = go l.recall (subst (λ (x : LinkTarget). demuxed_rule (saying sent) c b x ≡ None) k.target e)
        where
          go : (z : Bool) → (if z then Some (Rule.GvbAgain c) else None) ≡ None → z ≡ false
          go true e = absurd (cc e)
          go false e = refl

      by : (sent : Bool) (k : Led (saying sent) (from_receiver (saying sent) link) b) → (conn_at_index b.conns k.place).recall ≡ false
          → Covered (owes_return (saying sent) kept link fm fb (conn_at_index b.conns k.place) (put_conn b (Some k.place) (recalled (saying sent) fm fb (conn_at_index b.conns k.place)))) t
      by true k calm = gvb_own link fm fb b t cov k
      by false k calm = gvb_theirs link fm fb b t tidy cov k calm

  -- ---- RET

  pub record NumbersOf (own : PendingReply → Bool) (link x y : ℕ) (pending_replies : List PendingReply) : Type 0 where
    pub on : ℕ
    pub messages : ℕ
    pub bits : ℕ
    pub due : numbers_due own (Ret link x y) pending_replies ≡ Some (ExpectedReply.Return on messages bits)

  -- what is wanted has numbers
  numbers_there : (own : PendingReply → Bool) (link x y : ℕ) (pending_replies : List PendingReply) → is_wanted own (Ret link x y) pending_replies ≡ true → NumbersOf own link x y pending_replies
  numbers_there own link x y [] e = absurd (cc e)
  numbers_there own link x y (due ∷ pending_replies) e = go (own due && says_wanted due.wanted (Ret link x y)) refl (numbers_there own link x y pending_replies) e
    where
      here : (w : ExpectedReply) → due.wanted ≡ w → says_wanted w (Ret link x y) ≡ true → (own due && says_wanted due.wanted (Ret link x y)) ≡ true → NumbersOf own link x y (due ∷ pending_replies)
      here (ExpectedReply.Return on messages bits) i f g = record {
        on = on;
        messages = messages;
        bits = bits;
        due = ap (λ (q : Bool). if q then Some due.wanted else numbers_due own (Ret link x y) pending_replies) g ∙ ap (λ (v : ExpectedReply). Some v) i;
      }
      here (ExpectedReply.Echo byte) i f g = absurd (cc f)
      here (ExpectedReply.Error code or bytes) i f g = absurd (cc f)

      go : (z : Bool) → (own due && says_wanted due.wanted (Ret link x y)) ≡ z → (is_wanted own (Ret link x y) pending_replies ≡ true → NumbersOf own link x y pending_replies) → (z || is_wanted own (Ret link x y) pending_replies) ≡ true → NumbersOf own link x y (due ∷ pending_replies)
      go true f rest e = here due.wanted refl (and_parts (own due) (says_wanted due.wanted (Ret link x y)) f).1 f
      go false f rest e =
          let later = rest e in
          record { on = later.on; messages = later.messages; bits = later.bits; due = ap (λ (q : Bool). if q then Some due.wanted else numbers_due own (Ret link x y) pending_replies) f ∙ later.due }

  -- a RET of the host gives back just what is due
  exact_numbers : (c : Command) (x y on most most_bits : ℕ) → other_rule (saying true) c x y (Some (ExpectedReply.Return on most most_bits)) ≡ None → (x ≡ most) × (y ≡ most_bits)
  exact_numbers c x y on most most_bits e = go (x == most) refl (y == most_bits) refl e
    where
      go : (p : Bool) → (x == most) ≡ p → (q : Bool) → (y == most_bits) ≡ q → (if not (p && q) then Some (Rule.RetOther c most most_bits) else None) ≡ None → (x ≡ most) × (y ≡ most_bits)
      go true f true g e = (eqb-true x most f, eqb-true y most_bits g)
      go true f false g e = absurd (cc e)
      go false f q g e = absurd (cc e)

  -- and one of the other host at most what may be sent
  no_more_returned : (c : Command) (x y : ℕ) (l : ConnState) → over_rule (saying false) c x y l ≡ None → (x ≤ l.messages) × (y ≤ l.bits)
  no_more_returned c x y l e = let parts = or_parts (nat_lt l.messages x) (nat_lt l.bits y) (go (nat_lt l.messages x || nat_lt l.bits y) e) in (ltb-false l.messages x parts.0, ltb-false l.bits y parts.1)
    where
      go : (b : Bool) → (if b then Some (Rule.RetOver c l.messages l.bits) else None) ≡ None → b ≡ false
      go true e = absurd (cc e)
      go false e = refl

  -- what both have in common; the two sides follow
  module _ (sent : Bool) (link messages bits : ℕ) (b : SeenTables) (t : Tables) (s : Same b t) (cov : Covered b t) (e : command_rule (saying sent) kept (Ret link messages bits) b ≡ None) (f : number_rules (saying sent) (Ret link messages bits) b ≡ []) where
    abbrev its_ret : Command
    its_ret = Ret link messages bits

    abbrev its_channel : ReceiveLink
    its_channel = from_sender (saying sent) link

    k : Led (saying sent) its_channel b
    k = led_by sent its_ret its_channel b t s e

    abbrev its_conn : ConnState
    its_conn = conn_at_index b.conns k.place

    abbrev its_followed : FollowedConn
    its_followed = track_at t.tracks k.place

    abbrev conn_now : ConnState
    conn_now = with_return (saying sent) messages bits its_conn

    none : returned_rules (saying sent) its_ret messages bits its_conn b.pending_replies ≡ []
    none = subst (λ (z : LinkTarget). led_numbers (saying sent) its_ret messages bits b z ≡ []) k.target f

    right : RetRight (saying sent) kept b link messages bits k.place
    right = ret_right (saying sent) kept b link messages bits k.place (subst (λ (z : LinkTarget). demuxed_rule (saying sent) its_ret b z ≡ None) k.target e) none

    -- the reply strikes what is due
    abbrev put_there : SeenTables
    put_there = put_conn (record b { pending_replies = pending_left (is_own (saying sent)) its_ret b.pending_replies }) (Some k.place) conn_now

    after_is : tables_after_command (saying sent) kept its_ret b ≡ put_there
    after_is =
        ap (λ (z : LinkTarget). demuxed_after (saying sent) kept its_ret its_channel b z) k.target
        ∙ ap (λ (z : Bool). if z then after_wanted_ret (saying sent) its_ret its_channel messages bits k.place b else owes_error (saying sent) its_ret false (suspended_conn (saying sent) k.place b)) right.wanted
        ∙ ap (λ (rs : List Rule). owes_error_if (is_any rs) (saying sent) its_ret (suspended_if (is_some (over_rule (saying sent) its_ret messages bits its_conn)) (saying sent) its_channel (put_conn (after_reply (saying sent) its_ret b) (Some k.place) conn_now))) none
        ∙ ap (λ (o : Option Rule). suspended_if (is_some o) (saying sent) its_channel (put_conn (after_reply (saying sent) its_ret b) (Some k.place) conn_now)) right.within
        ∙ ap (λ (z : Bool). put_conn (if z then record b { pending_replies = pending_left (is_own (saying sent)) its_ret b.pending_replies } else b) (Some k.place) conn_now) right.wanted

    placed : index_at_link at peer sent link t.tracks ≡ Some k.place
    placed = ap (λ (z : Bool). index_at_link at peer z link t.tracks) (sym (twice sent)) ∙ link_same at peer (not sent) link b.conns t.tracks s.conns ∙ k.found
      where
        twice : (z : Bool) → not (not z) ≡ z
        twice true = refl
        twice false = refl

    unleft : has_left its_followed sent ≡ false
    unleft = left_is its_conn its_followed sent (linked_there sent its_channel b t k.place s k.found) ∙ k.stays

    fewer : AllCovered put_there.pending_replies b.conns t.tracks
    fewer = pending_covered b.pending_replies put_there.pending_replies (left_fewer (is_own (saying sent)) its_ret b.pending_replies) b.conns t.tracks cov

    its_inside : k.place < length b.conns
    its_inside = inside sent its_channel b k.place k.found

    its_there : OneCovered put_there.pending_replies its_conn its_followed
    its_there = besides_at (OneCovered put_there.pending_replies) b.conns t.tracks k.place (unasked_conn 0 0 0 0) (new_track 0 0 0 0) its_inside fewer.0

    -- the same sockets and link
    ret_same : SameReturns its_conn conn_now
    ret_same = go sent
      where
        go : (x : Bool) → SameReturns its_conn (with_return (saying x) messages bits its_conn)
        go true = record { at = refl; peer = refl; local = refl; link = refl }
        go false = record { at = refl; peer = refl; local = refl; link = refl }

    -- it is enough that what is left of the one covers the other
    ret_by : BackSound put_there.pending_replies conn_now → (is_some its_followed.place ≡ true → OpenCovered put_there.pending_replies conn_now (record its_followed { left = with_less its_followed.left messages bits }))
        → Covered (tables_after_command (saying sent) kept its_ret b) (after_command (turning sent) its_ret t)
    ret_by sound opened =
        subst (λ (z : SeenTables). Covered z (after_command (turning sent) its_ret t)) (sym after_is)
        (subst (λ (o : Option ℕ). Covered put_there (returned_at (turning sent) messages bits t o)) (sym placed)
        (subst (λ (z : Bool). Covered put_there (if z then t else returned_of k.place messages bits its_followed t its_followed.place)) (sym unleft) (go its_followed.place refl)))
      where
        go : (o : Option ℕ) → its_followed.place ≡ o → Covered put_there (returned_of k.place messages bits its_followed t o)
        go None g = covered_here put_there.pending_replies b.conns t.tracks t.tracks k.place conn_now its_inside ret_same (inl (refl, (sound, unplaced put_there.pending_replies conn_now its_followed g))) fewer
        go (Some q) g =
            covered_here put_there.pending_replies b.conns t.tracks (slice_set t.tracks k.place (record its_followed { left = with_less its_followed.left messages bits })) k.place conn_now its_inside ret_same
            (inr (record its_followed { left = with_less its_followed.left messages bits }, ((sound, opened), refl))) fewer

    ret_opened : (is_some its_conn.link ≡ true) × (is_some its_conn.size ≡ true)
    ret_opened = (k.linked, k.sized)

  ret_theirs : (link messages bits : ℕ) (b : SeenTables) (t : Tables) → Same b t → Covered b t → command_rule (saying false) kept (Ret link messages bits) b ≡ None → number_rules (saying false) (Ret link messages bits) b ≡ []
      → Covered (tables_after_command (saying false) kept (Ret link messages bits) b) (after_command (turning false) (Ret link messages bits) t)
  ret_theirs link messages bits b t s cov e f =
      ret_by false link messages bits b t s cov e f
      (sound_moved pending_replies l now same (both_asked l now same at_place.linked at_place.sized refl) (λ z. none) (λ z. none) there.0)
      (λ z. less_open pending_replies l now (track_at t.tracks at_place.place) messages bits same refl refl within.0 within.1 (there.1 z))
    where
      at_place : Led (saying false) (from_sender (saying false) link) b
      at_place = k false link messages bits b t s cov e f

      l : ConnState
      l = conn_at_index b.conns at_place.place

      now : ConnState
      now = record l { recall = false; messages = l.messages - messages; bits = l.bits - bits }

      same : SameReturns l now
      same = record { at = refl; peer = refl; local = refl; link = refl }

      pending_replies : List PendingReply
      pending_replies = pending_left (is_own (saying false)) (Ret link messages bits) b.pending_replies

      there : OneCovered pending_replies l (track_at t.tracks at_place.place)
      there = its_there false link messages bits b t s cov e f

      within : (messages ≤ l.messages) × (bits ≤ l.bits)
      within = no_more_returned (Ret link messages bits) messages bits l (right false link messages bits b t s cov e f).within

      -- the host receives on it
      none : EachDue (IsNotIts l) pending_replies
      none = each_not_sender l (has_parts at peer true link l (position-Some (has_link at peer true link) b.conns at_place.place (unasked_conn 0 0 0 0) at_place.found).1).1.1.0 pending_replies

  ret_own : (link messages bits : ℕ) (b : SeenTables) (t : Tables) → Same b t → Covered b t → command_rule (saying true) kept (Ret link messages bits) b ≡ None → number_rules (saying true) (Ret link messages bits) b ≡ []
      → Covered (tables_after_command (saying true) kept (Ret link messages bits) b) (after_command (turning true) (Ret link messages bits) t)
  ret_own link messages bits b t s cov e f =
      ret_by true link messages bits b t s cov e f
      (sound_moved pending_replies l now same (both_asked l now same at_place.linked at_place.sized refl) (λ z. none) (λ z. none) there.0)
      (λ z. opened (covered_there true (from_sender (saying true) link) b t at_place.place cov at_place.found) z)
    where
      c : Command
      c = Ret link messages bits

      at_place : Led (saying true) (from_sender (saying true) link) b
      at_place = k true link messages bits b t s cov e f

      l : ConnState
      l = conn_at_index b.conns at_place.place

      now : ConnState
      now = record l { recall = false }

      m : FollowedConn
      m = track_at t.tracks at_place.place

      after : FollowedConn
      after = record m { left = with_less m.left messages bits }

      same : SameReturns l now
      same = record { at = refl; peer = refl; local = refl; link = refl }

      pending_replies : List PendingReply
      pending_replies = pending_left (is_own (saying true)) (Ret link messages bits) b.pending_replies

      there : OneCovered pending_replies l m
      there = its_there true link messages bits b t s cov e f

      parts : (l.at ≡ at) × ((l.peer ≡ peer) × ((is_senders l.local ≡ true) × (l.link ≡ Some link)))
      parts = has_parts at peer false link l (position-Some (has_link at peer false link) b.conns at_place.place (unasked_conn 0 0 0 0) at_place.found).1

      -- it was the one that was due
      none : EachDue (IsNotIts l) pending_replies
      none = left_none l at peer link messages bits parts.0 parts.1.0 parts.1.1.1 b.pending_replies (covered_there true (from_sender (saying true) link) b t at_place.place cov at_place.found).0.once

      numbers : NumbersOf (is_due_of at peer true) link messages bits b.pending_replies
      numbers = numbers_there (is_due_of at peer true) link messages bits b.pending_replies (right true link messages bits b t s cov e f).wanted

      same_numbers : (messages ≡ numbers.messages) × (bits ≡ numbers.bits)
      same_numbers =
          exact_numbers c messages bits numbers.on numbers.messages numbers.bits
          (subst (λ (o : Option ExpectedReply). other_rule (saying true) c messages bits o ≡ None) numbers.due (right true link messages bits b t s cov e f).numbers)

      lone : (a g h left : ℕ) → g ≡ h → a + h ≤ left → a ≤ left - g
      lone a g h left i k = omega arith

      opened : OneCovered b.pending_replies l m → is_some m.place ≡ true → OpenCovered pending_replies now after
      opened was z = of_back (back_due l m at peer link messages bits (ExpectedReply.Return numbers.on numbers.messages numbers.bits) parts.0 parts.1.0 parts.1.1.0 parts.1.1.1 b.pending_replies (was.1 z).back numbers.due)
        where
          of_back : BackCovered l m (ExpectedReply.Return numbers.on numbers.messages numbers.bits) → OpenCovered pending_replies now after
          of_back back = record {
            messages = lone l.messages messages numbers.messages m.left.messages same_numbers.0 back.messages;
            bits = lone l.bits bits numbers.bits m.left.bits same_numbers.1 back.bits;
            few = (was.1 z).few;
            few_bits = (was.1 z).few_bits;
            back = covers_none now after pending_replies (none_moved l now same pending_replies none);
          }

  -- an INR, or an INS, is only judged
  hint_covered : (sent : Bool) (c : Command) (receive_link : ReceiveLink) (b : SeenTables) (t : Tables) → Same b t → Covered b t → demuxed_rule (saying sent) c b (target_on (saying sent) receive_link b) ≡ None → ((p : ℕ) → after_open (saying sent) kept c receive_link p b ≡ b)
      → Covered (after_link (saying sent) kept c receive_link b) t
  hint_covered sent c receive_link b t s cov e still =
      let there = led_by sent c receive_link b t s e in
      subst (λ (z : LinkTarget). Covered (demuxed_after (saying sent) kept c receive_link b z) t) (sym there.target) (subst (λ (z : SeenTables). Covered z t) (sym (still there.place)) cov)

  -- ---- a text

  enough_there : (bits : ℕ) (l : ConnState) → uses_too_much bits l ≡ false → (1 ≤ l.messages) × (bits ≤ l.bits)
  enough_there bits l e = let parts = or_parts (l.messages == 0) (nat_lt l.bits bits) e in (some l.messages parts.0, ltb-false l.bits bits parts.1)
    where
      some : (n : ℕ) → (n == 0) ≡ false → 1 ≤ n
      some zero e = absurd (cc e)
      some (suc n) e = omega arith

  -- that it is seen to have come is no number
  came_covered : (sent : Bool) (link : ℕ) (now : SeenTables) (t : Tables) → Covered now t → Covered (after_text_came (saying sent) link now) t
  came_covered true link now t c = c
  came_covered false link now t c = at_place (position (has_link at peer true link) now.conns) refl
    where
      at_place : (o : Option ℕ) → position (has_link at peer true link) now.conns ≡ o → Covered (conn_came_at now o) t
      at_place None e = c
      at_place (Some p) e = go l.peer_left
        where
          l : ConnState
          l = conn_at_index now.conns p

          m : FollowedConn
          m = track_at t.tracks p

          there : p < length now.conns
          there = (position-Some (has_link at peer true link) now.conns p (unasked_conn 0 0 0 0) e).0

          one : OneCovered now.pending_replies l m
          one = besides_at (OneCovered now.pending_replies) now.conns t.tracks p (unasked_conn 0 0 0 0) (new_track 0 0 0 0) there c.0

          same : SameReturns l (record l { came = true })
          same = record { at = refl; peer = refl; local = refl; link = refl }

          go : (z : Bool) → Covered (if z then now else put_conn now (Some p) (record l { came = true })) t
          go true = c
          go false =
              covered_here now.pending_replies now.conns t.tracks t.tracks p (record l { came = true }) there same
              (inl (refl, (sound_moved now.pending_replies l (record l { came = true }) same one.0.unopened one.0.calm one.0.left one.0, λ z. asked_open now.pending_replies l (record l { came = true }) m same (omega arith) (omega arith) (one.1 z)))) c

  pub text_covered : (sent : Bool) (link : ℕ) (message : Message) (b : SeenTables) (t : Tables) → Same b t → Covered b t → TextLed (record { at = at; peer = peer; sent = sent }) link message b
      → Covered (conn_tables_after_text (record { at = at; peer = peer; sent = sent }) link message b) (after_text (record { number = number; at = at; peer = peer; sent = sent }) link message.size message.text t)
  text_covered sent link message b t s cov k =
      subst (λ (x : LinkTarget). Covered (demuxed_after_text (saying sent) link message b x) (said_at message.size message.text t (index_at_link at peer sent link t.tracks))) (sym k.target)
      (subst (λ (o : Option ℕ). Covered (demuxed_after_text (saying sent) link message b (LinkTarget.Open k.place)) (said_at message.size message.text t o)) (sym (text_placed (saying sent) link message b t k s))
      (subst (λ (rs : List Rule). Covered (admits_error_if (is_any rs) (saying sent) message (over_suspended (is_any rs) (saying sent) link (after_text_came (saying sent) link put))) (said_at message.size message.text t (Some k.place))) (sym none)
      (came_covered sent link put (said_at message.size message.text t (Some k.place)) (conns m.place refl))))
    where
      l : ConnState
      l = conn_at_index b.conns k.place

      m : FollowedConn
      m = track_at t.tracks k.place

      now : ConnState
      now = used (length message.text) l

      put : SeenTables
      put = put_conn b (Some k.place) now

      none : open_text_rules link message l ≡ []
      none =
          ap (λ (o : Option ℕ). option_to_list (size_rule link message.size o) ++ option_to_list (over_text_rule link (length message.text) l)) k.size
          ∙ ap (λ (x : Bool). option_to_list (if x then None else Some (Rule.TextSize link message.size message.size)) ++ option_to_list (over_text_rule link (length message.text) l)) (eq-eqb message.size message.size refl)
          ∙ ap (λ (x : Bool). option_to_list (if x then Some (Rule.TextOver link l.messages (length message.text) l.bits) else None)) k.enough

      there : OneCovered b.pending_replies l m
      there = covered_there sent (from_sender (saying sent) link) b t k.place cov k.found

      same : SameReturns l now
      same = record { at = refl; peer = refl; local = refl; link = refl }

      sound : BackSound b.pending_replies now
      sound = opened_sound b.pending_replies l now same k.linked (ap (λ (o : Option ℕ). is_some o) k.size) refl refl refl there.0

      conns : (o : Option ℕ) → m.place ≡ o → Covered put (texts_of k.place message.size message.text m t o)
      conns None e = covered_here b.pending_replies b.conns t.tracks t.tracks k.place now (inside sent (from_sender (saying sent) link) b k.place k.found) same (inl (refl, (sound, unplaced b.pending_replies now m e))) cov
      conns (Some q) e =
          let enough = enough_there (length message.text) l k.enough in
          covered_here b.pending_replies b.conns t.tracks (slice_set t.tracks k.place (record m { left = with_less m.left 1 (length message.text) })) k.place now (inside sent (from_sender (saying sent) link) b k.place k.found) same
          (inr (record m { left = with_less m.left 1 (length message.text) }, ((sound, λ z. less_open b.pending_replies l now m 1 (length message.text) same refl refl enough.0 enough.1 (there.1 z)), refl))) cov

-- ---- all commands

module _ (number at peer : ℕ) (kept : List SentMessage) (roomy : (n : ℕ) → nat_lt n MAX_TABLE_ROWS ≡ true → nat_lt n MAX_TRACKS ≡ true) where
  abbrev said : Bool → ObservedFlow
  said sent = record { at = at; peer = peer; sent = sent }

  abbrev followed_turn : Bool → Observation
  followed_turn sent = record { number = number; at = at; peer = peer; sent = sent }

  pub command_covered : (sent : Bool) (c : Command) (b : SeenTables) (t : Tables) → Tidy b → Same b t → Covered b t → command_rule (record { at = at; peer = peer; sent = sent }) kept c b ≡ None → number_rules (record { at = at; peer = peer; sent = sent }) c b ≡ [] → (tables_after_command (record { at = at; peer = peer; sent = sent }) kept c b).full ≡ false
      → Covered (tables_after_command (record { at = at; peer = peer; sent = sent }) kept c b) (after_command (record { number = number; at = at; peer = peer; sent = sent }) c t)
  command_covered sent Nop b t tidy s cov e n f = cov
  command_covered true (Rts receive send link) b t tidy s cov e n f =
      request_covered number at peer kept roomy true (Rts receive send link) receive send (is_of_sexes receive send) (Link link) b t (after_command (followed_turn true) (Rts receive send link) t) s cov
      (λ z. (sexes receive send z).0) e f
      (λ k. ap (λ (z : Bool). if not z then t else after_request (followed_turn true) receive send (Request.Link link) t) (link_is_right number at peer kept roomy (Rts receive send link) receive send link k.sexes k.range))
  command_covered false (Rts receive send link) b t tidy s cov e n f =
      request_covered number at peer kept roomy false (Rts receive send link) send receive (is_of_sexes receive send) (Link link) b t (after_command (followed_turn false) (Rts receive send link) t) s cov
      (λ z. (sexes receive send z).1) e f
      (λ k. ap (λ (z : Bool). if not z then t else after_request (followed_turn false) send receive (Request.Link link) t) (link_is_right number at peer kept roomy (Rts receive send link) receive send link k.sexes k.range))
  command_covered true (Str send receive size) b t tidy s cov e n f =
      request_covered number at peer kept roomy true (Str send receive size) send receive (is_of_sexes receive send) (Size size) b t (after_command (followed_turn true) (Str send receive size) t) s cov
      (λ z. tt) e f
      (λ k. ap (λ (z : Bool). if not z then t else after_request (followed_turn true) send receive (Request.Size size) t) (size_is_right number at peer kept roomy (Str send receive size) receive send size k.sexes k.range))
  command_covered false (Str send receive size) b t tidy s cov e n f =
      request_covered number at peer kept roomy false (Str send receive size) receive send (is_of_sexes receive send) (Size size) b t (after_command (followed_turn false) (Str send receive size) t) s cov
      (λ z. tt) e f
      (λ k. ap (λ (z : Bool). if not z then t else after_request (followed_turn false) receive send (Request.Size size) t) (size_is_right number at peer kept roomy (Str send receive size) receive send size k.sexes k.range))
  command_covered true (Cls my your) b t tidy s cov e n f = cls_covered number at peer kept roomy true (Cls my your) my your b t s cov e
  command_covered false (Cls my your) b t tidy s cov e n f = cls_covered number at peer kept roomy false (Cls my your) your my b t s cov e
  command_covered sent (Command.All link messages bits) b t tidy s cov e n f = all_covered number at peer kept sent link messages bits b t s cov e
  command_covered sent (Gvb link fm fb) b t tidy s cov e n f = gvb_covered number at peer kept sent link fm fb b t tidy s cov e
  command_covered true (Ret link messages bits) b t tidy s cov e n f = ret_own number at peer kept link messages bits b t s cov e n
  command_covered false (Ret link messages bits) b t tidy s cov e n f = ret_theirs number at peer kept link messages bits b t s cov e n
  command_covered sent (Inr link) b t tidy s cov e n f = hint_covered number at peer kept sent (Inr link) (from_receiver (said sent) link) b t s cov e (λ p. refl)
  command_covered sent (Ins link) b t tidy s cov e n f = hint_covered number at peer kept sent (Ins link) (from_sender (said sent) link) b t s cov e (λ p. refl)
  command_covered sent (Eco byte) b t tidy s cov e n f = no_more_covered b (tables_after_command (said sent) kept (Eco byte) b) t (eco_no_back (said sent) byte b) cov
  command_covered sent (Erp byte) b t tidy s cov e n f = no_more_covered b (tables_after_command (said sent) kept (Erp byte) b) t (erp_no_back (said sent) (Erp byte) b) cov
  command_covered sent (Err code bytes) b t tidy s cov e n f = no_more_covered b (tables_after_command (said sent) kept (Err code bytes) b) t (err_no_back (said sent) code bytes b) cov
  command_covered sent Rst b t tidy s cov e n f = cov
  command_covered sent Rrp b t tidy s cov e n f = cov
