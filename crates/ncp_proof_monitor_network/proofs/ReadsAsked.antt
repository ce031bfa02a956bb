-- A request and a CLS of either side, while nothing is suspended: no violation is found exactly when the
-- side may send it, and afterwards the tables read as the flow with this command.
use Rattle.std.proofs.Common.{◌≡◌, ℕ, ◌==◌, Bool, true, false, not, ◌&&◌, ◌||◌, if◌then◌else◌, List, Option, None, Some, is_some, eq-eqb, refl, sym, ap, ◌∙◌, subst}
use Rattle.std.specs.List.{filter, list_any}
use Rattle.std.proofs.Math.Bool.{beq}
use Rattle.std.proofs.lemmas.Bool.{eqb-true, and_parts}
use Rattle.ncp_wire.specs.declared.command.Command.{Command}
use Rattle.ncp_wire.specs.declared.command.Command.TheVariants.{Cls}
use Rattle.ncp_monitor.specs.declared.pending_reply.PendingReply.{PendingReply}
use Rattle.ncp_monitor.specs.declared.finding.Rule.{Rule}
use Rattle.ncp_interface.specs.declared.sent_message.SentMessage.{SentMessage}
use Rattle.ncp_monitor.specs.declared.conn_state.ConnState.{ConnState}
use Rattle.ncp_interface.specs.declared.request.Request.{Request}
use Rattle.ncp_interface.specs.declared.request.Request.TheVariants.{Link, Size}
use Rattle.ncp_monitor.specs.declared.conn_state.FactKind.{FactKind}
use Rattle.ncp_monitor.specs.declared.observed_flow.ObservedFlow.{ObservedFlow}
use Rattle.ncp_monitor.specs.declared.observed_flow.Acceptance.{Acceptance}
use Rattle.ncp_monitor.specs.declared.observed_flow.Acceptance.TheVariants.{Right, Refused, Unclear}
use Rattle.ncp_interface.specs.Slots.{position_of, is_busy_on}
use Rattle.ncp_monitor.specs.ConnStates.{SeenTables, is_of_sockets, has_link, has_sent_cls, with_cls_sent, has_sent_request, is_conn_between, conn_of, user_of, index_with_sockets, is_marked, is_return, is_return_on, returns_dropped}
use Rattle.ncp_interface.specs.Sockets.{is_senders, is_number_given, is_of_sexes}
use Rattle.ncp_monitor.specs.Replies.{is_due_of}
use Rattle.ncp_monitor.specs.Requests.{broken, range_rule, link_suspended, used_acceptance, link_acceptance, conn_acceptance, ranged_acceptance, request_acceptance, asks, tables_after_request, left_acceptance, cls_acceptance, is_link_busy, link_out_rule, text_out_rule, cls_rule, closes_side, after_cls}
use Rattle.ncp_monitor.specs.Allocation.{ends_returns}
use Rattle.ncp_monitor.specs.Texts.{message_out_at, text_left_out}
use Rattle.ncp_monitor.specs.Speaking.{after_right_cls, command_rule, tables_after_command}
use Rattle.ncp_monitor.proofs.Shapes.{Ask, Leave}
use Rattle.ncp_monitor.proofs.LinkOrder.{Sockets, same, put}
use Rattle.ncp_monitor.proofs.Firsts.{first}
use Rattle.ncp_monitor.proofs.BooksAt.{has_sockets, conn_first, after_left, leaves_at}
use Rattle.ncp_monitor.proofs.Seeing.{of_conn, seen, is_of, number_in}
use Rattle.ncp_proof_monitor_allocation.proofs.SeenTables.{OneSeen, step, conn_seen, seen_of, is_suspended, asked_seen, closed_seen}
use Rattle.ncp_proof_monitor_allocation.proofs.Users.{first_passes, none_used, found_at_first}
use Rattle.ncp_proof_monitor_allocation.proofs.TidyBooks.{passed_over}
use Rattle.ncp_proof_monitor_allocation.proofs.Filtered.{filter_others}
use Rattle.ncp_proof_monitor_allocation.proofs.PlainSteps.{asked_counts}
use Rattle.ncp_proof_monitor_allocation.proofs.Words.{no_count, count_of, link_given}
use Rattle.ncp_proof_monitor_network.specs.Owing.{has_echo}
use Rattle.ncp_proof_monitor_network.proofs.Tallied.{left_by, receives_by, counts_after_cls, owing_without}
use Rattle.ncp_proof_monitor_network.proofs.Said.{Said, sockets_by, may_say, number_by, Legal, after_said_by}
use Rattle.ncp_proof_monitor_network.proofs.UsersSaid.{IsConnected, is_sexed, link_between, same_self, fit_step}
use Rattle.ncp_proof_monitor_network.proofs.PendingOwed.{AreDue, owed_without}
use Rattle.ncp_proof_monitor_network.proofs.LeavesOwed.{none_of_it, link_is_its, echo_without, each_side}
use Rattle.ncp_proof_monitor_network.proofs.OwesSteps.{owes_step}
use Rattle.ncp_proof_monitor_network.proofs.ReadAs.{OweRightly, ReadAs, sides_distinct, read_one}
use Rattle.ncp_proof_monitor_network.proofs.IdleSlots.{none_out}

-- ---- what a side asked, and whether it may ask

sent_is : (s : Bool) (conn : ConnState) (request : Request) → is_of (is_senders conn.local) s request ≡ true → is_some (number_by s (Some (of_conn conn))) ≡ has_sent_request conn request
sent_is true conn (Link link) k = go (is_senders conn.local) k
  where
    go : (y : Bool) → not y ≡ true → is_some (if y then conn.size else conn.link) ≡ is_some conn.link
    go true e = absurd (cc e)
    go false e = refl
sent_is true conn (Size size) k = ap (λ (y : Bool). is_some (if y then conn.size else conn.link)) k
sent_is false conn (Link link) k = ap (λ (y : Bool). is_some (if y then conn.link else conn.size)) k
sent_is false conn (Size size) k = go (is_senders conn.local) k
  where
    go : (y : Bool) → not y ≡ true → is_some (if y then conn.link else conn.size) ≡ is_some conn.size
    go true e = absurd (cc e)
    go false e = refl

may_ask_is : (s : Bool) (conn : ConnState) (request : Request) → is_of (is_senders conn.local) s request ≡ true → may_say s (Ask (number_in request)) (Some (of_conn conn)) ≡ (not (has_sent_request conn request) && not (has_sent_cls conn s))
may_ask_is true conn request k = ap (λ (y : Bool). not y && not conn.host_left) (sent_is true conn request k)
may_ask_is false conn request k = ap (λ (y : Bool). not y && not conn.peer_left) (sent_is false conn request k)

may_leave_is : (s : Bool) (conn : ConnState) → may_say s Leave (Some (of_conn conn)) ≡ not (has_sent_cls conn s)
may_leave_is true conn = refl
may_leave_is false conn = refl

may_begin : (s : Bool) (number : ℕ) → may_say s (Ask number) None ≡ true
may_begin true number = refl
may_begin false number = refl

none_leaves : (s : Bool) → may_say s Leave None ≡ true → ⊥
none_leaves true e = cc e
none_leaves false e = cc e

-- ---- whose receiver it is

not_true : (y : Bool) → not y ≡ true → y ≡ false
not_true true e = absurd (cc e)
not_true false e = refl

receiver_is : (s : Bool) (u : Sockets) → receives_by s u ≡ true → is_senders u.0 ≡ not s
receiver_is true u e = not_true (is_senders u.0) e
receiver_is false u e = e

receives_is : (s : Bool) (u : Sockets) → is_senders u.0 ≡ not s → receives_by s u ≡ true
receives_is true u e = ap not e
receives_is false u e = e

other_side : (s y : Bool) → not (beq y s) ≡ true → y ≡ not s
other_side true true e = absurd (cc e)
other_side true false e = refl
other_side false true e = refl
other_side false false e = absurd (cc e)

is_other_side : (s y : Bool) → y ≡ not s → not (beq y s) ≡ true
is_other_side true true e = absurd (cc e)
is_other_side true false e = refl
is_other_side false true e = refl
is_other_side false false e = absurd (cc e)

given_one : (o : Option ℕ) (link : ℕ) → is_number_given o link ≡ true → o ≡ Some link
given_one None link e = absurd (cc e)
given_one (Some given) link e = ap (λ (y : ℕ). Some y) (eqb-true given link e)

and_both : (a d : Bool) → a ≡ true → d ≡ true → (a && d) ≡ true
and_both true true k e = refl
and_both true false k e = absurd (cc e)
and_both false d k e = absurd (cc k)

-- the link of a connection, as a life has it
conn_link : (u : Sockets) (conn : ConnState) → conn.local ≡ u.0 → link_between u (Some (of_conn conn)) ≡ conn.link
conn_link u conn e = ap (λ (y : ℕ). link_given (is_senders y) (Some (of_conn conn))) (sym e) ∙ by (is_senders conn.local)
  where
    by : (y : Bool) → (if y then (if y then conn.link else conn.size) else (if y then conn.size else conn.link)) ≡ conn.link
    by true = refl
    by false = refl

-- ---- a link on which a side receives: it has a user, or none

module _ (me n : ℕ) (s : Bool) (link : ℕ) where
  abbrev its_user : ConnState → Bool
  its_user = has_link me n s link

  record UsesLink (conn : ConnState) : Type 0 where
    pub between : is_conn_between me n conn ≡ true
    pub receiver : is_senders conn.local ≡ not s
    pub its : conn.link ≡ Some link

  uses_link : (conn : ConnState) → its_user conn ≡ true → UsesLink conn
  uses_link conn e =
      let a = and_parts (is_conn_between me n conn && not (beq (is_senders conn.local) s)) (is_number_given conn.link link) e in
      let d = and_parts (is_conn_between me n conn) (not (beq (is_senders conn.local) s)) a.0 in
      record { between = d.0; receiver = other_side s (is_senders conn.local) d.1; its = given_one conn.link link a.1 }

  user_is : (conn : ConnState) → is_conn_between me n conn ≡ true → is_senders conn.local ≡ not s → conn.link ≡ Some link → its_user conn ≡ true
  user_is conn k sex l =
      and_both (is_conn_between me n conn && not (beq (is_senders conn.local) s)) (is_number_given conn.link link)
      (and_both (is_conn_between me n conn) (not (beq (is_senders conn.local) s)) k (is_other_side s (is_senders conn.local) sex))
      (ap (λ (o : Option ℕ). is_number_given o link) l ∙ eq-eqb link link refl)

  module _ (b : SeenTables) (x : Said) (r : ReadAs me n b x) where
    -- the connection that has the link is there
    pub user_there : (u : Sockets) → x.users s link ≡ Some u → (conn : ConnState) × ((conn_seen me n b u ≡ Some conn) × (its_user conn ≡ true))
    user_there u e = go (conn_seen me n b u) refl
      where
        is : (receives_by s u ≡ true) × (link_between u (x.shapes u) ≡ Some link)
        is = r.fit.used s link u e

        go : (o : Option ConnState) → conn_seen me n b u ≡ o → (conn : ConnState) × ((conn_seen me n b u ≡ Some conn) × (its_user conn ≡ true))
        go None k = let nay : None ≡ Some link = sym (ap (λ (o : Option ConnState). link_between u (seen o)) k) ∙ ap (link_between u) (r.shapes u) ∙ is.1 in absurd (cc nay)
        go (Some conn) k =
            let at = has_sockets me n u.0 u.1 conn (first_passes (is_of_sockets me n u.0 u.1) b.conns conn k) in
            let sex : is_senders conn.local ≡ not s = ap is_senders at.local ∙ receiver_is s u is.0 in
            let between : is_conn_between me n conn ≡ true = and_both (conn.at == me) (conn.peer == n) (eq-eqb conn.at me at.at) (eq-eqb conn.peer n at.peer) in
            let its : conn.link ≡ Some link = sym (conn_link u conn at.local) ∙ sym (ap (λ (o : Option ConnState). link_between u (seen o)) k) ∙ ap (link_between u) (r.shapes u) ∙ is.1 in
            (conn, (k, user_is conn between sex its))

    -- and a connection that has it is its user
    pub conn_uses : (u : Sockets) (conn : ConnState) → conn_seen me n b u ≡ Some conn → receives_by s u ≡ true → conn.link ≡ Some link → x.users s link ≡ Some u
    conn_uses u conn k t l =
        let at = has_sockets me n u.0 u.1 conn (first_passes (is_of_sockets me n u.0 u.1) b.conns conn k) in
        r.fit.user s link u t (sym (ap (link_between u) (r.shapes u)) ∙ ap (λ (o : Option ConnState). link_between u (seen o)) k ∙ conn_link u conn at.local ∙ l)

    pub free_is : user_of me n s link b.conns ≡ None → x.users s link ≡ None
    free_is v = go (x.users s link) refl
      where
        go : (o : Option Sockets) → x.users s link ≡ o → x.users s link ≡ None
        go None e = e
        go (Some u) e =
            let there = user_there u e in
            let none : first its_user b.conns ≡ None = sym (found_at_first its_user b.conns) ∙ v in
            let nay : true ≡ false = sym there.1.1 ∙ passed_over its_user (is_of_sockets me n u.0 u.1) b.conns there.0 none there.1.0 in absurd (cc nay)

    pub unused_is : x.users s link ≡ None → user_of me n s link b.conns ≡ None
    unused_is free = found_at_first its_user b.conns ∙ none_used me n its_user b.conns (λ conn e. (uses_link conn e).between) r.unique none
      where
        none : (u : Sockets) (conn : ConnState) → conn_seen me n b u ≡ Some conn → its_user conn ≡ false
        none u conn e = go (its_user conn) refl
          where
            go : (y : Bool) → its_user conn ≡ y → its_user conn ≡ false
            go false k = k
            go true k =
                let it = uses_link conn k in
                let local : conn.local ≡ u.0 = (has_sockets me n u.0 u.1 conn (first_passes (is_of_sockets me n u.0 u.1) b.conns conn e)).local in
                let nay : None ≡ Some u = sym free ∙ conn_uses u conn e (receives_is s u (sym (ap is_senders local) ∙ it.receiver)) it.its in absurd (cc nay)

-- ---- a request

module _ (me n : ℕ) (s : Bool) (b : SeenTables) (c : Command) (request : Request) where
  abbrev flow : ObservedFlow
  flow = record { at = me; peer = n; sent = s }

  conn_may : (o : Option ConnState) → is_suspended o ≡ false → ((conn : ConnState) → o ≡ Some conn → is_of (is_senders conn.local) s request ≡ true) → broken (conn_acceptance flow c request b o) ≡ None
      → (may_say s (Ask (number_in request)) (seen o) ≡ true) × (broken (link_acceptance flow c request b) ≡ None)
  conn_may None z l v = (may_begin s (number_in request), v)
  conn_may (Some conn) z l v = go conn.suspended z (has_sent_cls conn s) refl (has_sent_request conn request) refl v
    where
      go : (y : Bool) → y ≡ false → (p : Bool) → has_sent_cls conn s ≡ p → (a : Bool) → has_sent_request conn request ≡ a
          → broken (if y then Unclear None else if p then Unclear (Some (Rule.Unended c conn.since)) else if a then Refused (Rule.AskedAgain c conn.since) else link_acceptance flow c request b) ≡ None
          → (may_say s (Ask (number_in request)) (seen (Some conn)) ≡ true) × (broken (link_acceptance flow c request b) ≡ None)
      go true z p i a j v = absurd (cc z)
      go false z true i a j v = absurd (cc v)
      go false z false i true j v = absurd (cc v)
      go false z false i false j v =
          (may_ask_is s conn request (l conn refl) ∙ ap (λ (y : Bool). not y && not (has_sent_cls conn s)) j ∙ ap not i, v)

  conn_right : (o : Option ConnState) → is_suspended o ≡ false → ((conn : ConnState) → o ≡ Some conn → is_of (is_senders conn.local) s request ≡ true) → may_say s (Ask (number_in request)) (seen o) ≡ true
      → conn_acceptance flow c request b o ≡ link_acceptance flow c request b
  conn_right None z l m = refl
  conn_right (Some conn) z l m = go conn.suspended z (has_sent_cls conn s) parts.1 (has_sent_request conn request) parts.0
    where
      parts : (not (has_sent_request conn request) ≡ true) × (not (has_sent_cls conn s) ≡ true)
      parts = and_parts (not (has_sent_request conn request)) (not (has_sent_cls conn s)) (sym (may_ask_is s conn request (l conn refl)) ∙ m)

      go : (y : Bool) → y ≡ false → (p : Bool) → not p ≡ true → (a : Bool) → not a ≡ true
          → (if y then Unclear None else if p then Unclear (Some (Rule.Unended c conn.since)) else if a then Refused (Rule.AskedAgain c conn.since) else link_acceptance flow c request b) ≡ link_acceptance flow c request b
      go true z p i a j = absurd (cc z)
      go false z true i a j = absurd (cc i)
      go false z false i true j = absurd (cc j)
      go false z false i false j = refl

  module _ (x : Said) (r : ReadAs me n b x) (p : Sockets) (right : Bool) (sex : right ≡ true → is_of (is_senders p.0) s request ≡ true) where
    link_calm : (q : Request) → link_suspended flow q b ≡ false
    link_calm (Link link) = r.links s link
    link_calm (Size size) = refl

    local_is : right ≡ true → (conn : ConnState) → conn_seen me n b p ≡ Some conn → is_of (is_senders conn.local) s request ≡ true
    local_is k conn e = ap (λ (y : ℕ). is_of (is_senders y) s request) (has_sockets me n p.0 p.1 conn (first_passes (is_of_sockets me n p.0 p.1) b.conns conn e)).local ∙ sex k

    -- with no rule broken it is right in its parts
    pub record RequestMay : Type 0 where
      pub sexes : right ≡ true
      pub range : range_rule c request ≡ None
      pub may : may_say s (Ask (number_in request)) (x.shapes p) ≡ true
      pub link : broken (link_acceptance flow c request b) ≡ None

    pub request_may : broken (request_acceptance flow c p.0 p.1 right request b) ≡ None → RequestMay
    request_may v = by_sex right refl v
      where
        by_conn : right ≡ true → range_rule c request ≡ None → broken (conn_acceptance flow c request b (conn_of me n p.0 p.1 b.conns)) ≡ None → RequestMay
        by_conn k e v =
            let may = conn_may (conn_seen me n b p) (r.calm p) (local_is k) (sym (ap (λ (o : Option ConnState). broken (conn_acceptance flow c request b o)) (conn_first me n p.0 p.1 b.conns)) ∙ v) in
            record { sexes = k; range = e; may = ap (may_say s (Ask (number_in request))) (sym (r.shapes p)) ∙ may.0; link = may.1 }

        by_link : (y : Bool) → y ≡ false → right ≡ true → range_rule c request ≡ None → broken (if y then Unclear None else conn_acceptance flow c request b (conn_of me n p.0 p.1 b.conns)) ≡ None → RequestMay
        by_link true z k e v = absurd (cc z)
        by_link false z k e v = by_conn k e v

        by_range : (o : Option Rule) → range_rule c request ≡ o → right ≡ true → broken (ranged_acceptance flow c p.0 p.1 request b o) ≡ None → RequestMay
        by_range (Some wrong) e k v = absurd (cc v)
        by_range None e k v = by_link (link_suspended flow request b) (link_calm request) k e v

        by_sex : (y : Bool) → right ≡ y → broken (if not y then Refused (Rule.Sex c) else ranged_acceptance flow c p.0 p.1 request b (range_rule c request)) ≡ None → RequestMay
        by_sex false k v = absurd (cc v)
        by_sex true k v = by_range (range_rule c request) refl k v

    pub request_right : right ≡ true → range_rule c request ≡ None → may_say s (Ask (number_in request)) (x.shapes p) ≡ true → link_acceptance flow c request b ≡ Right → request_acceptance flow c p.0 p.1 right request b ≡ Right
    request_right k e m v =
        ap (λ (y : Bool). if not y then Refused (Rule.Sex c) else ranged_acceptance flow c p.0 p.1 request b (range_rule c request)) k
        ∙ ap (ranged_acceptance flow c p.0 p.1 request b) e
        ∙ ap (λ (y : Bool). if y then Unclear None else conn_acceptance flow c request b (conn_of me n p.0 p.1 b.conns)) (link_calm request)
        ∙ ap (conn_acceptance flow c request b) (conn_first me n p.0 p.1 b.conns)
        ∙ conn_right (conn_seen me n b p) (r.calm p) (local_is k) (ap (may_say s (Ask (number_in request))) (r.shapes p) ∙ m)
        ∙ v

    pub request_read : right ≡ true → (tables_after_request flow c p.0 p.1 request Right b).full ≡ false → (y : Said) → ((u : Sockets) → put x.shapes p (step s (Ask (number_in request)) (x.shapes p)) u ≡ y.shapes u) → ((u : Sockets) → x.counts u ≡ y.counts u)
        → ((t : Bool) → x.owing t ≡ y.owing t) → OweRightly y → IsConnected y → ReadAs me n (tables_after_request flow c p.0 p.1 request Right b) y
    request_read k room y shapes counts owing owes fit =
        read_one me n b after after x y p (step s (Ask (number_in request)) (seen_of me n b p)) (step s (Ask (number_in request)) (x.shapes p)) one refl refl (ap (step s (Ask (number_in request))) (r.shapes p)) shapes
        (asked_counts me n s p request b room ∙ r.counts p ∙ counts p) (λ u d. counts u) (λ t. ap has_echo (owing t))
        (λ t. subst (AreDue t (filter (is_due_of me n t) after.pending_replies)) (owing t) (subst (λ (ds : List PendingReply). AreDue t (filter (is_due_of me n t) ds) (x.owing t)) (sym one.pending_replies) (r.pending_replies t))) owes fit r
      where
        after : SeenTables
        after = asks flow p.0 p.1 request b (index_with_sockets me n p.0 p.1 b.conns)

        one : OneSeen me n b after p (step s (Ask (number_in request)) (seen_of me n b p))
        one = asked_seen me n s p b request (sex k) room

  -- the link that it asks for

  pub used_none : (o : Option ConnState) → broken (used_acceptance flow c o) ≡ None → o ≡ None
  used_none None v = refl
  used_none (Some user) v = go (has_sent_cls user s) v
    where
      go : (y : Bool) → broken (if y then Unclear (Some (Rule.LinkUsed c user.local user.remote)) else Refused (Rule.LinkUsed c user.local user.remote)) ≡ None → Some user ≡ None
      go true v = absurd (cc v)
      go false v = absurd (cc v)

-- ---- a CLS

module _ (me n : ℕ) (s : Bool) (b : SeenTables) (x : Said) (r : ReadAs me n b x) (c : Command) (p : Sockets) where
  abbrev closing : ObservedFlow
  closing = record { at = me; peer = n; sent = s }

  left_may : (kept : List SentMessage) (o : Option ConnState) → is_suspended o ≡ false → cls_rule closing c p.0 p.1 kept b (left_acceptance closing c o) ≡ None → may_say s Leave (seen o) ≡ true
  left_may kept None z v = absurd (cc v)
  left_may kept (Some conn) z v = go conn.suspended z (has_sent_cls conn s) refl v
    where
      go : (y : Bool) → y ≡ false → (a : Bool) → has_sent_cls conn s ≡ a → cls_rule closing c p.0 p.1 kept b (if y then Unclear None else if a then Unclear (Some (Rule.ClsAgain c conn.since)) else Right) ≡ None → may_say s Leave (seen (Some conn)) ≡ true
      go true z a e v = absurd (cc z)
      go false z true e v = absurd (cc v)
      go false z false e v = may_leave_is s conn ∙ ap not e

  pub cls_may : (kept : List SentMessage) → cls_rule closing c p.0 p.1 kept b (cls_acceptance closing c p.0 p.1 b) ≡ None → (is_sexed p ≡ true) × (may_say s Leave (x.shapes p) ≡ true)
  cls_may kept v = go (is_sexed p) refl v
    where
      go : (y : Bool) → is_sexed p ≡ y → cls_rule closing c p.0 p.1 kept b (if y then left_acceptance closing c (conn_of me n p.0 p.1 b.conns) else Refused (Rule.Sex c)) ≡ None → (is_sexed p ≡ true) × (may_say s Leave (x.shapes p) ≡ true)
      go false e v = absurd (cc v)
      go true e v = (
        e,
        ap (may_say s Leave) (sym (r.shapes p))
            ∙ left_may kept (conn_seen me n b p) (r.calm p) (sym (ap (λ (o : Option ConnState). cls_rule closing c p.0 p.1 kept b (left_acceptance closing c o)) (conn_first me n p.0 p.1 b.conns)) ∙ v),
      )

  left_right : (o : Option ConnState) → is_suspended o ≡ false → may_say s Leave (seen o) ≡ true → left_acceptance closing c o ≡ Right
  left_right None z m = absurd (none_leaves s m)
  left_right (Some conn) z m = go conn.suspended z (has_sent_cls conn s) (sym (may_leave_is s conn) ∙ m)
    where
      go : (y : Bool) → y ≡ false → (a : Bool) → not a ≡ true → (if y then Unclear None else if a then Unclear (Some (Rule.ClsAgain c conn.since)) else Right) ≡ Right
      go true z a e = absurd (cc z)
      go false z true e = absurd (cc e)
      go false z false e = refl

  pub cls_right : is_sexed p ≡ true → may_say s Leave (x.shapes p) ≡ true → cls_acceptance closing c p.0 p.1 b ≡ Right
  cls_right e m =
      ap (λ (y : Bool). if y then left_acceptance closing c (conn_of me n p.0 p.1 b.conns) else Refused (Rule.Sex c)) e
      ∙ ap (left_acceptance closing c) (conn_first me n p.0 p.1 b.conns)
      ∙ left_right (conn_seen me n b p) (r.calm p) (ap (may_say s Leave) (r.shapes p) ∙ m)

-- ---- the books after a CLS

module _ (me n : ℕ) (s : Bool) (b : SeenTables) (x : Said) (r : ReadAs me n b x) (my your : ℕ) (legal : Legal s (Cls my your) x) where
  abbrev p : Sockets
  p = sockets_by s my your

  abbrev speaks : ObservedFlow
  speaks = record { at = me; peer = n; sent = s }

  abbrev c : Command
  c = Cls my your

  counterpart : (t : Bool) → (is_of_sexes my your || is_of_sexes your my) ≡ true → is_sexed (sockets_by t my your) ≡ true
  counterpart true e = e
  counterpart false e = by (is_of_sexes my your) (is_of_sexes your my) e
    where
      by : (a d : Bool) → (a || d) ≡ true → (d || a) ≡ true
      by true true e = refl
      by true false e = refl
      by false true e = refl
      by false false e = absurd (cc e)

  -- it is right
  pub cls_is_right : cls_acceptance speaks c p.0 p.1 b ≡ Right
  cls_is_right = cls_right me n s b x r c p (counterpart s legal.right) legal.fits

  -- the connection is there
  its_conn : (conn : ConnState) × (conn_seen me n b p ≡ Some conn)
  its_conn = go (conn_seen me n b p) refl
    where
      go : (o : Option ConnState) → conn_seen me n b p ≡ o → (conn : ConnState) × (conn_seen me n b p ≡ Some conn)
      go None e = absurd (none_leaves s (ap (λ (o : Option ConnState). may_say s Leave (seen o)) (sym e) ∙ ap (may_say s Leave) (r.shapes p) ∙ legal.fits))
      go (Some conn) e = (conn, e)

  abbrev ending : ConnState
  ending = its_conn.0

  local_is_its : ending.local ≡ p.0
  local_is_its = (has_sockets me n p.0 p.1 ending (first_passes (is_of_sockets me n p.0 p.1) b.conns ending its_conn.1)).local

  conn_is : conn_of me n p.0 p.1 b.conns ≡ Some ending
  conn_is = conn_first me n p.0 p.1 b.conns ∙ its_conn.1

  -- it breaks no rule: then no text of the host is unacknowledged on the link of the connection
  pub idle_if_right : (kept : List SentMessage) → s ≡ true → command_rule speaks kept c b ≡ None → (link : ℕ) → x.users false link ≡ Some p → is_link_busy me n (Some link) kept ≡ false
  idle_if_right kept is_own e link u = by s is_own refl
    where
      there : (conn : ConnState) × ((conn_seen me n b p ≡ Some conn) × (its_user me n false link conn ≡ true))
      there = user_there me n false link b x r p u

      it : UsesLink me n false link there.0
      it = uses_link me n false link there.0 there.1.1

      out : text_out_rule speaks c kept b (Some there.0) ≡ None
      out =
          sym (ap (text_out_rule speaks c kept b) (conn_first me n p.0 p.1 b.conns ∙ there.1.0))
          ∙ sym (ap (λ (v : Acceptance). cls_rule speaks c p.0 p.1 kept b v) cls_is_right) ∙ e

      by : (t : Bool) → t ≡ true → s ≡ t → is_link_busy me n (Some link) kept ≡ false
      by false k i = absurd (cc k)
      by true k i =
          go (list_any (is_busy_on me n link) kept) refl
          (sym (ap (λ (y : Bool). if y && is_senders there.0.local then link_out_rule (record { at = me; peer = n; sent = y }) c kept b there.0.link else None) i
          ∙ ap (λ (y : Bool). if true && y then link_out_rule (record { at = me; peer = n; sent = true }) c kept b there.0.link else None) it.receiver
          ∙ ap (link_out_rule (record { at = me; peer = n; sent = true }) c kept b) it.its) ∙ out)
        where
          go : (y : Bool) → list_any (is_busy_on me n link) kept ≡ y → (if list_any (is_busy_on me n link) kept && not (is_marked me n (FactKind.LinkSuspended false link) b) then Some (Rule.TextOut c link) else None) ≡ None
              → list_any (is_busy_on me n link) kept ≡ false
          go false j v = j
          go true j v =
              let found : Some (Rule.TextOut c link) ≡ None =
              sym (ap (λ (z : Bool). if z && not (is_marked me n (FactKind.LinkSuspended false link) b) then Some (Rule.TextOut c link) else None) j
              ∙ ap (λ (z : Bool). if true && not z then Some (Rule.TextOut c link) else None) (r.links false link)) ∙ v in absurd (cc found)

  module _ (kept : List SentMessage) (idle : s ≡ true → (link : ℕ) → x.users false link ≡ Some p → is_link_busy me n (Some link) kept ≡ false) where
    abbrev closed : SeenTables
    closed = closes_side speaks b (index_with_sockets me n p.0 p.1 b.conns)

    abbrev y : Said
    y = after_said_by s (Cls my your) x

    none_left_out : text_left_out speaks kept (Some ending) closed ≡ closed
    none_left_out = go s refl (is_senders ending.local) refl ending.link refl
      where
        on : Bool → Option ℕ → SeenTables
        on t None = closed
        on t (Some link) = message_out_at (record { at = me; peer = n; sent = t }) kept (position_of me n link kept) closed

        go : (t : Bool) → s ≡ t → (a : Bool) → is_senders ending.local ≡ a → (l : Option ℕ) → ending.link ≡ l → (if s && a then on s l else closed) ≡ closed
        go false i a j l k = ap (λ (z : Bool). if z && a then on s l else closed) i
        go true i false j l k = ap (λ (z : Bool). if z && false then on s l else closed) i
        go true i true j None k = ap (λ (z : Bool). if z && true then closed else closed) i
        go true i true j (Some link) k =
            ap (λ (z : Bool). if z && true then on s (Some link) else closed) i
            ∙ none_out me n s kept link closed
            (idle i link (conn_uses me n false link b x r p ending its_conn.1 (sym (ap is_senders local_is_its) ∙ j) k))

    after_is : tables_after_command speaks kept (Cls my your) b ≡ ends_returns speaks (Some ending) closed
    after_is =
        ap (λ (v : Acceptance). after_right_cls speaks kept (conn_of me n p.0 p.1 b.conns) v (after_cls speaks c p.0 p.1 v b)) cls_is_right
        ∙ ap (λ (o : Option ConnState). ends_returns speaks o (text_left_out speaks kept o closed)) conn_is
        ∙ ap (ends_returns speaks (Some ending)) none_left_out

    one : OneSeen me n b closed p (step s Leave (seen_of me n b p))
    one = closed_seen me n s p b (r.unique p)

    -- what is counted of it
    count_here : count_of (conn_seen me n closed p) ≡ y.counts p
    count_here =
        ap count_of (leaves_at speaks p.0 p.1 b (index_with_sockets me n p.0 p.1 b.conns) refl (r.unique p))
        ∙ ap (λ (o : Option ConnState). count_of (after_left s o)) (found_at_first (is_of_sockets me n p.0 p.1) b.conns ∙ its_conn.1)
        ∙ by (left_by (not s) (x.shapes p)) refl
      where
        over_is : (t : Bool) (conn : ConnState) → left_by (not t) (Some (of_conn conn)) ≡ ((with_cls_sent conn t).host_left && (with_cls_sent conn t).peer_left)
        over_is true conn = refl
        over_is false conn = by_and conn.host_left
          where
            by_and : (z : Bool) → z ≡ (z && true)
            by_and true = refl
            by_and false = refl

        counted : (t : Bool) (conn : ConnState) → count_of (Some (with_cls_sent conn t)) ≡ count_of (Some conn)
        counted true conn = refl
        counted false conn = refl

        shape_is : x.shapes p ≡ Some (of_conn ending)
        shape_is = sym (r.shapes p) ∙ ap seen its_conn.1

        was : count_of (Some ending) ≡ x.counts p
        was = sym (ap count_of its_conn.1) ∙ r.counts p

        by : (z : Bool) → left_by (not s) (x.shapes p) ≡ z → count_of (after_left s (Some ending)) ≡ counts_after_cls z p x.counts p
        by z e = ap (λ (w : Bool). count_of (if w then None else Some (with_cls_sent ending s))) (sym (over_is s ending) ∙ sym (ap (left_by (not s)) shape_is) ∙ e) ∙ over_or z
          where
            over_or : (z : Bool) → count_of (if z then None else Some (with_cls_sent ending s)) ≡ counts_after_cls z p x.counts p
            over_or true = sym (ap (λ (w : Bool). if w then no_count else x.counts p) (same_self p))
            over_or false = counted s ending ∙ was

    count_there : (u : Sockets) → same u p ≡ false → x.counts u ≡ y.counts u
    count_there u d = by (left_by (not s) (x.shapes p))
      where
        by : (z : Bool) → x.counts u ≡ counts_after_cls z p x.counts u
        by true = sym (ap (λ (w : Bool). if w then no_count else x.counts u) d)
        by false = refl

    echo : (t : Bool) → has_echo (x.owing t) ≡ has_echo (y.owing t)
    echo = each_side (λ t os. has_echo (x.owing t) ≡ has_echo os) s (owing_without p (x.owing s)) x.owing (echo_without p (x.owing s)) refl

    read_ended : (after : SeenTables) → after.conns ≡ closed.conns → after.known_facts ≡ closed.known_facts → AreDue s (filter (is_due_of me n s) after.pending_replies) (owing_without p (x.owing s))
        → filter (is_due_of me n (not s)) after.pending_replies ≡ filter (is_due_of me n (not s)) b.pending_replies → ReadAs me n after y
    read_ended after l k due others =
        read_one me n b closed after x y p (step s Leave (seen_of me n b p)) (step s Leave (x.shapes p)) one l k (ap (step s Leave) (r.shapes p)) (λ u. refl) count_here count_there echo
        (each_side (λ t os. AreDue t (filter (is_due_of me n t) after.pending_replies) os) s (owing_without p (x.owing s)) x.owing due
        (subst (λ (ds : List PendingReply). AreDue (not s) ds (x.owing (not s))) (sym others) (r.pending_replies (not s))))
        (owes_step s x r.returning (Cls my your) legal) (fit_step s (Cls my your) x legal r.fit) r

    -- nothing is due of it
    nothing_due : ((l : ℕ) → x.users (not s) l ≡ Some p → ⊥) → ReadAs me n closed y
    nothing_due none =
        read_ended closed refl refl
        (subst (λ (ds : List PendingReply). AreDue s (filter (is_due_of me n s) ds) (owing_without p (x.owing s))) (sym one.pending_replies) (subst (AreDue s (filter (is_due_of me n s) b.pending_replies)) (sym (none_of_it s x p none (x.owing s) (r.returning s))) (r.pending_replies s)))
        (ap (filter (is_due_of me n (not s))) one.pending_replies)

    unturned : (t : Bool) → not (not t) ≡ t
    unturned true = refl
    unturned false = refl

    is_beq : (z t : Bool) → beq z t ≡ true → z ≡ t
    is_beq true true e = refl
    is_beq true false e = absurd (cc e)
    is_beq false true e = absurd (cc e)
    is_beq false false e = refl

    no_beq : (z t : Bool) → beq z t ≡ false → z ≡ not t
    no_beq true true e = absurd (cc e)
    no_beq true false e = refl
    no_beq false true e = refl
    no_beq false false e = absurd (cc e)

    not_both : (t : Bool) → t ≡ not t → ⊥
    not_both true e = cc e
    not_both false e = cc e

    link_of_it : (l : ℕ) → x.users (not s) l ≡ Some p → ending.link ≡ Some l
    link_of_it l u =
        sym (conn_link p ending local_is_its) ∙ sym (ap (λ (o : Option ConnState). link_between p (seen o)) its_conn.1) ∙ ap (link_between p) (r.shapes p) ∙ (r.fit.used (not s) l p u).1

    dropped : (link : ℕ) → beq (is_senders ending.local) s ≡ true → ending.link ≡ Some link → ReadAs me n (returns_dropped me n s link closed) y
    dropped link e k =
        read_ended (returns_dropped me n s link closed) refl refl
        (subst (λ (ds : List PendingReply). AreDue s (filter (is_due_of me n s) (filter (λ due. not (is_return me n s link due)) ds)) (owing_without p (x.owing s))) (sym one.pending_replies)
        (owed_without (is_due_of me n s) s p link b.pending_replies (x.owing s) (link_is_its s x p link its (λ l u. only l u) (x.owing s) (r.returning s)) (r.pending_replies s)))
        (filter_others (is_due_of me n (not s)) (is_return me n s link) closed.pending_replies (λ due i. sides_distinct me n s due (and_parts (is_due_of me n s due) (is_return_on link due.wanted) i).0) ∙ ap (filter (is_due_of me n (not s))) one.pending_replies)
      where
        its : x.users (not s) link ≡ Some p
        its = conn_uses me n (not s) link b x r p ending its_conn.1 (receives_is (not s) p (sym (ap is_senders local_is_its) ∙ is_beq (is_senders ending.local) s e ∙ sym (unturned s))) k

        only : (l : ℕ) → x.users (not s) l ≡ Some p → l ≡ link
        only l u = let is : Some l ≡ Some link = sym (link_of_it l u) ∙ k in cc is

    ended : ReadAs me n (ends_returns speaks (Some ending) closed) y
    ended = go (beq (is_senders ending.local) s) refl ending.link refl
      where
        drop_on : Option ℕ → SeenTables
        drop_on None = closed
        drop_on (Some link) = returns_dropped me n s link closed

        go : (z : Bool) → beq (is_senders ending.local) s ≡ z → (l : Option ℕ) → ending.link ≡ l → ReadAs me n (if z then drop_on l else closed) y
        go false e l k =
            nothing_due (λ on u. not_both s
            (sym (unturned s) ∙ sym (receiver_is (not s) p (r.fit.used (not s) on p u).0) ∙ sym (ap is_senders local_is_its) ∙ no_beq (is_senders ending.local) s e))
        go true e None k = nothing_due (λ on u. let nay : None ≡ Some on = sym k ∙ link_of_it on u in cc nay)
        go true e (Some link) k = dropped link e k

    pub cls_read : ReadAs me n (tables_after_command speaks kept (Cls my your) b) (after_said_by s (Cls my your) x)
    cls_read = subst (λ (z : SeenTables). ReadAs me n z (after_said_by s (Cls my your) x)) (sym after_is) ended

-- a CLS of the other has no text out
pub their_text_out : (me n : ℕ) (c : Command) (kept : List SentMessage) (b : SeenTables) (o : Option ConnState) → text_out_rule (record { at = me; peer = n; sent = false }) c kept b o ≡ None
their_text_out me n c kept b None = refl
their_text_out me n c kept b (Some conn) = refl
