-- The facts about the books alone, through what the other says of a link, wherever it leads.
use Rattle.std.proofs.Common.{◌≡◌, ℕ, suc, ◌+◌, ◌≤◌, ◌==◌, Bool, true, false, not, ◌&&◌, ◌||◌, if◌then◌else◌, List, [], ◌∷◌, ◌++◌, length, map, Option, None, Some, is_some, ◌⊎◌, inl, inr, eq-eqb, refl, sym, ap, ◌∙◌, subst, arith}
use Rattle.std.specs.Prelude.{◌-◌, ◌^◌, nat_lt}
use Rattle.std.specs.List.{filter}
use Rattle.std.proofs.Math.Bool.{beq}
use Rattle.std.proofs.lemmas.Bool.{eqb-true}
use Rattle.ncp_wire.specs.declared.command.Command.{Command}
use Rattle.ncp_wire.specs.declared.command.Command.TheVariants.{Nop, Rts, Str, Cls, All, Gvb, Ret, Inr, Ins, Eco, Erp, Err, Rst, Rrp}
use Rattle.ncp_monitor.specs.declared.conn_tables.TheConstants.{MAX_TABLE_ROWS}
use Rattle.ncp_monitor.specs.declared.pending_reply.PendingReply.{PendingReply}
use Rattle.ncp_monitor.specs.declared.pending_reply.ExpectedReply.{ExpectedReply}
use Rattle.ncp_interface.specs.declared.sent_message.SentMessage.{SentMessage}
use Rattle.ncp_monitor.specs.declared.link_target.LinkTarget.{LinkTarget}
use Rattle.ncp_monitor.specs.declared.conn_state.ConnState.{ConnState}
use Rattle.ncp_monitor.specs.declared.conn_state.FactKind.{FactKind}
use Rattle.ncp_monitor.specs.declared.observed_flow.ObservedFlow.{ObservedFlow}
use Rattle.ncp_monitor.specs.ConnStates.{SeenTables, has_sent_cls, conn_at_index, is_marked, is_return, is_return_on, put_conn, link_suspended_now}
use Rattle.ncp_interface.specs.Sockets.{is_senders, is_number_given}
use Rattle.ncp_monitor.specs.Replies.{is_due_of, is_own, says_wanted, answers, is_wanted, optional, fits_sure, pending_struck, pending_left, owes, error_wanted, after_reply}
use Rattle.ncp_monitor.specs.Requests.{is_link_busy}
use Rattle.ncp_monitor.specs.Allocation.{part_returned, kept_sum, target_on, limit_rule, is_any, returned_rules, over_rule, owes_error, owes_error_if, other_code, with_grant, after_allocation, asked_back, after_gvb, with_return, suspended_if, suspended_conn, after_wanted_ret, after_ret, after_open, demuxed_after, speaks_receiver}
use Rattle.ncp_monitor.proofs.LinkOrder.{Sockets}
use Rattle.ncp_monitor.proofs.Seeing.{seen}
use Rattle.ncp_proof_monitor_allocation.proofs.SeenTables.{seen_of}
use Rattle.ncp_proof_monitor_allocation.proofs.Resting.{pair_suspended}
use Rattle.ncp_proof_monitor_allocation.proofs.TidyBooks.{Tidy, numbered, owed_room}
use Rattle.ncp_proof_monitor_allocation.proofs.LinkPlaces.{UserAt, AllUnique, LeadsTo, ToRest, ToNobody, ToClosed, ToUnasked, ToOpen, command_leads, renumbered_seen}
use Rattle.ncp_proof_monitor_allocation.proofs.Words.{is_open_on}
use Rattle.ncp_proof_monitor_allocation.proofs.Plain.{Plain, OpenOn, RecalledOn, is_opened, returns_due, plain_conns, plain_owed, plain_reply, plain_numbered, plain_own_return, returns_unsure, same_fewer}
use Rattle.ncp_proof_monitor_allocation.proofs.PlainSteps.{plain_link_suspended, plain_suspended}

-- ---- a RET strikes one that is due, at least

struck_one : (me n link messages bits : ℕ) (pending_replies : List PendingReply) → is_wanted (is_due_of me n false) (Ret link messages bits) pending_replies ≡ true → suc (returns_due me n false link (pending_struck (is_due_of me n false) (Ret link messages bits) pending_replies)) ≤ returns_due me n false link pending_replies
struck_one me n link messages bits [] w = absurd (cc w)
struck_one me n link messages bits (due ∷ pending_replies) w = go (is_due_of me n false due) refl (says_wanted due.wanted (Ret link messages bits)) refl w (struck_one me n link messages bits pending_replies)
  where
    t : PendingReply → Bool
    t = is_return me n false link

    later : List PendingReply
    later = pending_struck (is_due_of me n false) (Ret link messages bits) pending_replies

    on_link : (wanted : ExpectedReply) → says_wanted wanted (Ret link messages bits) ≡ true → is_return_on link wanted ≡ true
    on_link (ExpectedReply.Return l a c) e = let is : link ≡ l = eqb-true link l e in ap (λ (x : ℕ). l == x) is ∙ eq-eqb l l refl
    on_link (ExpectedReply.Echo byte) e = absurd (cc e)
    on_link (ExpectedReply.Error code or shown) e = absurd (cc e)

    up : (x y : ℕ) → x ≡ y → suc x ≤ suc y
    up x y e = omega arith

    more : (z : Bool) (x : ℕ) → x ≤ length (filter (is_return me n false link) pending_replies) → x ≤ length (if z then due ∷ filter (is_return me n false link) pending_replies else filter (is_return me n false link) pending_replies)
    more true x e = lift x (length (filter (is_return me n false link) pending_replies)) e
      where
        lift : (x y : ℕ) → x ≤ y → x ≤ suc y
        lift x y e = omega arith
    more false x e = e

    go : (o : Bool) → is_due_of me n false due ≡ o → (s : Bool) → says_wanted due.wanted (Ret link messages bits) ≡ s → ((o && s) || is_wanted (is_due_of me n false) (Ret link messages bits) pending_replies) ≡ true
        → (is_wanted (is_due_of me n false) (Ret link messages bits) pending_replies ≡ true → suc (returns_due me n false link (pending_struck (is_due_of me n false) (Ret link messages bits) pending_replies)) ≤ returns_due me n false link pending_replies)
        → suc (returns_due me n false link (if o then if s then pending_replies else pending_struck (is_due_of me n false) (Ret link messages bits) pending_replies else due ∷ pending_struck (is_due_of me n false) (Ret link messages bits) pending_replies)) ≤ returns_due me n false link (due ∷ pending_replies)
    go true k true j w ih =
        let passes : is_return me n false link due ≡ true = ap (λ (x : Bool). x && is_return_on link due.wanted) k ∙ on_link due.wanted j in
        subst (λ (x : Bool). suc (length (filter (is_return me n false link) pending_replies)) ≤ length (if x then due ∷ filter (is_return me n false link) pending_replies else filter (is_return me n false link) pending_replies)) (sym passes) (up (length (filter (is_return me n false link) pending_replies)) (length (filter (is_return me n false link) pending_replies)) refl)
    go true k false j w ih = more (is_return me n false link due) (suc (returns_due me n false link (pending_struck (is_due_of me n false) (Ret link messages bits) pending_replies))) (ih w)
    go false k s j w ih =
        let fails : is_return me n false link due ≡ false = ap (λ (x : Bool). x && is_return_on link due.wanted) k in
        subst (λ (x : Bool). suc (length (if x then due ∷ filter (is_return me n false link) (pending_struck (is_due_of me n false) (Ret link messages bits) pending_replies) else filter (is_return me n false link) (pending_struck (is_due_of me n false) (Ret link messages bits) pending_replies)))
        ≤ length (if x then due ∷ filter (is_return me n false link) pending_replies else filter (is_return me n false link) pending_replies)) (sym fails) (ih w)

wanted_unsure : (own : PendingReply → Bool) (c : Command) (pending_replies : List PendingReply) → ((due : PendingReply) → own (record due { mandatory = false }) ≡ own due) → is_wanted own c (map (optional own c) pending_replies) ≡ is_wanted own c pending_replies
wanted_unsure own c [] o = refl
wanted_unsure own c (due ∷ pending_replies) o = by (answers own c due) ∙ ap (λ (x : Bool). answers own c due || x) (wanted_unsure own c pending_replies o)
  where
    by : (x : Bool) → (answers own c (if x then record due { mandatory = false } else due) || is_wanted own c (map (optional own c) pending_replies)) ≡ (answers own c due || is_wanted own c (map (optional own c) pending_replies))
    by true = ap (λ (x : Bool). (x && says_wanted due.wanted c) || is_wanted own c (map (optional own c) pending_replies)) (o due)
    by false = refl

pub left_one : (me n link messages bits : ℕ) (pending_replies : List PendingReply) → is_wanted (is_due_of me n false) (Ret link messages bits) pending_replies ≡ true → suc (returns_due me n false link (pending_left (is_due_of me n false) (Ret link messages bits) pending_replies)) ≤ returns_due me n false link pending_replies
left_one me n link messages bits pending_replies w = go (fits_sure (is_due_of me n false) (Ret link messages bits) pending_replies)
  where
    as_many : (x y z : ℕ) → suc x ≤ y → y ≡ z → suc x ≤ z
    as_many x y z k e = omega arith

    c : Command
    c = Ret link messages bits

    go : (x : Bool) → suc (returns_due me n false link (if x then pending_struck (is_due_of me n false) (Ret link messages bits) pending_replies else pending_struck (is_due_of me n false) (Ret link messages bits) (map (optional (is_due_of me n false) (Ret link messages bits)) pending_replies))) ≤ returns_due me n false link pending_replies
    go true = struck_one me n link messages bits pending_replies w
    go false =
        as_many (returns_due me n false link (pending_struck (is_due_of me n false) (Ret link messages bits) (map (optional (is_due_of me n false) (Ret link messages bits)) pending_replies))) (returns_due me n false link (map (optional (is_due_of me n false) (Ret link messages bits)) pending_replies)) (returns_due me n false link pending_replies)
        (struck_one me n link messages bits (map (optional (is_due_of me n false) (Ret link messages bits)) pending_replies) (wanted_unsure (is_due_of me n false) (Ret link messages bits) pending_replies (λ due. refl) ∙ w))
        (returns_unsure me n false link (is_due_of me n false) (Ret link messages bits) pending_replies)

module _ (me n : ℕ) (kept : List SentMessage) (b : SeenTables) (tidy : Tidy b) (unique : AllUnique me n b) (plain : Plain me n b) where
  abbrev hearing : ObservedFlow
  hearing = record { at = me; peer = n; sent = false }

  error_plain : (c : Command) (mid : SeenTables) → Plain me n mid → Plain me n (owes_error hearing c false mid)
  error_plain c mid k = plain_owed me n hearing (error_wanted 5 (other_code c) c) false mid refl k

  error_if_plain : (wrong : Bool) (c : Command) (mid : SeenTables) → Plain me n mid → Plain me n (owes_error_if wrong hearing c mid)
  error_if_plain true c mid k = error_plain c mid k
  error_if_plain false c mid k = k

  conn_plain : (place : ℕ) → (suspended_conn hearing place b).full ≡ false → Plain me n (suspended_conn hearing place b)
  conn_plain place f =
      let conn = conn_at_index b.conns place in
      plain_suspended me n (conn.local, conn.remote) b (pair_suspended me n (conn.local, conn.remote) b f).room f plain

  module _ (host : Bool) (link size : ℕ) (u : Sockets) (user : UserAt me n host link b u) (unmarked : is_marked me n (FactKind.LinkSuspended host link) b ≡ false) (sized : (conn_at_index b.conns user.place).size ≡ Some size) where
    abbrev conn : ConnState
    conn = conn_at_index b.conns user.place

    opened : is_opened (seen_of me n b u) ≡ true
    opened = ap (λ (o : Option ConnState). is_opened (seen o)) user.seen ∙ both (is_senders conn.local) conn.link conn.size user.given sized
      where
        both : (s : Bool) (x y : Option ℕ) → x ≡ Some link → y ≡ Some size → (is_some (if s then y else x) && is_some (if s then x else y)) ≡ true
        both true x y p q = ap (λ (z : Option ℕ). is_some y && is_some z) p ∙ ap (λ (z : Option ℕ). is_some z && true) q
        both false x y p q = ap (λ (z : Option ℕ). is_some z && is_some y) p ∙ ap is_some q

    -- ---- ALL
    grant_plain : (c : Command) (messages bits : ℕ) → Plain me n (after_allocation hearing c messages bits user.place b)
    grant_plain c messages bits =
        error_if_plain (is_some (limit_rule c (kept_sum conn.messages messages) (kept_sum conn.bits bits))) c (put_conn b (Some user.place) (with_grant hearing messages bits conn))
        (go (nat_lt 65535 (conn.messages + messages) || nat_lt (2 ^ 32 - 1) (conn.bits + bits)))
      where
        go : (x : Bool) → Plain me n (put_conn b (Some user.place) (if x then conn else record conn { messages = conn.messages + messages; bits = conn.bits + bits }))
        go true = plain_numbered me n host link b u user conn.messages conn.bits conn.recall conn.came unique opened (inl (λ z. z)) plain
        go false = plain_numbered me n host link b u user (conn.messages + messages) (conn.bits + bits) conn.recall conn.came unique opened (inl (λ z. z)) plain

    -- ---- GVB
    module _ (sends : host ≡ false) (fm fb : ℕ) where
      abbrev less_m : ℕ
      less_m = conn.messages - part_returned conn.messages fm

      abbrev less_b : ℕ
      less_b = conn.bits - part_returned conn.bits fb

      put_plain : Plain me n (put_conn b (Some user.place) (numbered less_m less_b true conn.came conn))
      put_plain = plain_numbered me n host link b u user less_m less_b true conn.came unique opened (inl (λ z. refl)) plain

      put_open : conn.host_left ≡ false → is_open_on true link (seen_of me n (put_conn b (Some user.place) (numbered less_m less_b true conn.came conn)) u) ≡ true
      put_open left =
          ap (is_open_on true link) (renumbered_seen me n host link b u user less_m less_b true conn.came unique u)
          ∙ ap (λ (o : Option ConnState). is_open_on true link (seen o)) user.seen
          ∙ shape (is_senders conn.local) conn.link conn.size conn.host_left (ap is_senders user.sockets.local ∙ sender (is_senders u.0) (user.receives ∙ sends)) user.given sized left
        where
          sender : (s : Bool) → not s ≡ false → s ≡ true
          sender true e = refl
          sender false e = absurd (cc e)

          shape : (s : Bool) (x y : Option ℕ) (left : Bool) → s ≡ true → x ≡ Some link → y ≡ Some size → left ≡ false → (is_some (if s then y else x) && is_some (if s then x else y) && not left && is_number_given (if s then x else y) link) ≡ true
          shape true (Some a) (Some c) false s p q l = let is : a ≡ link = cc p in ap (λ (z : ℕ). z == link) is ∙ eq-eqb link link refl
          shape true None y left s p q l = absurd (cc p)
          shape true (Some a) None left s p q l = absurd (cc q)
          shape true (Some a) (Some c) true s p q l = absurd (cc l)
          shape false x y left s p q l = absurd (cc s)

      -- with an ERR that may come, and the RET
      recall_put : (c : Command) (x : Bool) → Plain me n (put_conn (owes_error_if x hearing c b) (Some user.place) (numbered less_m less_b true conn.came conn))
      recall_put c false = put_plain
      recall_put c true = by (nat_lt (length b.pending_replies) MAX_TABLE_ROWS)
        where
          due : PendingReply
          due = record { at = me; peer = n; host = true; wanted = error_wanted 5 (other_code c) c; mandatory = false }

          put_in : SeenTables
          put_in = put_conn b (Some user.place) (numbered less_m less_b true conn.came conn)

          by : (r : Bool) → Plain me n (put_conn (if r then record b { pending_replies = b.pending_replies ++ due ∷ [] } else record b { full = true }) (Some user.place) (numbered less_m less_b true conn.came conn))
          by true =
              plain_conns me n put_in (record put_in { pending_replies = b.pending_replies ++ due ∷ [] }) refl
              (λ h l. same_fewer me n h l put_in (record put_in { pending_replies = b.pending_replies ++ due ∷ [] }) (behind h l b.pending_replies) refl) put_plain
            where
              none : (h : Bool) (l : ℕ) → is_return me n h l due ≡ false
              none h l = three (me == me && n == n) (beq true h)
                where
                  three : (p q : Bool) → (p && q && false) ≡ false
                  three true true = refl
                  three true false = refl
                  three false q = refl

              behind : (h : Bool) (l : ℕ) (pending_replies : List PendingReply) → returns_due me n h l (pending_replies ++ due ∷ []) ≡ returns_due me n h l pending_replies
              behind h l [] = ap (λ (z : Bool). length (if z then due ∷ [] else [])) (none h l)
              behind h l (d ∷ pending_replies) = step (is_return me n h l d) (behind h l pending_replies)
                where
                  step : (z : Bool) → returns_due me n h l (pending_replies ++ due ∷ []) ≡ returns_due me n h l pending_replies
                      → length (if z then d ∷ filter (is_return me n h l) (pending_replies ++ due ∷ []) else filter (is_return me n h l) (pending_replies ++ due ∷ [])) ≡ length (if z then d ∷ filter (is_return me n h l) pending_replies else filter (is_return me n h l) pending_replies)
                  step true e = ap suc e
                  step false e = e
          by false = plain_conns me n put_in (record put_in { full = true }) refl (λ h l. same_fewer me n h l put_in (record put_in { full = true }) refl refl) put_plain

      unmarked_too : (x : Bool) (c : Command) → is_marked me n (FactKind.LinkSuspended false link) b ≡ false → is_marked me n (FactKind.LinkSuspended false link) (put_conn (owes_error_if x hearing c b) (Some user.place) (numbered less_m less_b true conn.came conn)) ≡ false
      unmarked_too false c m = m
      unmarked_too true c m = by (nat_lt (length b.pending_replies) MAX_TABLE_ROWS)
        where
          due : PendingReply
          due = record { at = me; peer = n; host = true; wanted = error_wanted 5 (other_code c) c; mandatory = false }

          by : (r : Bool) → is_marked me n (FactKind.LinkSuspended false link) (put_conn (if r then record b { pending_replies = b.pending_replies ++ due ∷ [] } else record b { full = true }) (Some user.place) (numbered less_m less_b true conn.came conn)) ≡ false
          by true = m
          by false = m

      open_too : (x : Bool) (c : Command) → conn.host_left ≡ false → OpenOn me n (put_conn (owes_error_if x hearing c b) (Some user.place) (numbered less_m less_b true conn.came conn)) link
      open_too false c l = record { u = u; sends = sender (is_senders u.0) (user.receives ∙ sends); is = put_open l }
        where
          sender : (s : Bool) → not s ≡ false → s ≡ true
          sender true e = refl
          sender false e = absurd (cc e)
      open_too true c l = by (nat_lt (length b.pending_replies) MAX_TABLE_ROWS)
        where
          due : PendingReply
          due = record { at = me; peer = n; host = true; wanted = error_wanted 5 (other_code c) c; mandatory = false }

          sender : (s : Bool) → not s ≡ false → s ≡ true
          sender true e = refl
          sender false e = absurd (cc e)

          by : (r : Bool) → OpenOn me n (put_conn (if r then record b { pending_replies = b.pending_replies ++ due ∷ [] } else record b { full = true }) (Some user.place) (numbered less_m less_b true conn.came conn)) link
          by true = record { u = u; sends = sender (is_senders u.0) (user.receives ∙ sends); is = put_open l }
          by false = record { u = u; sends = sender (is_senders u.0) (user.receives ∙ sends); is = put_open l }

      recall_open : (r : Bool) (c : Command) (mandatory : Bool) → conn.host_left ≡ r → is_marked me n (FactKind.LinkSuspended false link) b ≡ false
          → Plain me n (if r then put_conn (owes_error_if conn.recall hearing c b) (Some user.place) (numbered less_m less_b true conn.came conn)
          else owes hearing (asked_back link fm fb conn) mandatory (put_conn (owes_error_if conn.recall hearing c b) (Some user.place) (numbered less_m less_b true conn.came conn)))
      recall_open true c mandatory l m = recall_put c conn.recall
      recall_open false c mandatory l m =
          let mid = put_conn (owes_error_if conn.recall hearing c b) (Some user.place) (numbered less_m less_b true conn.came conn) in
          plain_own_return me n mid link (record { at = me; peer = n; host = true; wanted = asked_back link fm fb conn; mandatory = mandatory }) refl (λ k. refl) (unmarked_too conn.recall c m)
          (open_too conn.recall c l) (recall_put c conn.recall)

      gvb_plain : (c : Command) → Plain me n (after_gvb hearing kept c link fm fb user.place b)
      gvb_plain c = recall_open conn.host_left c (true && not (is_link_busy me n (Some link) kept)) refl (ap (λ (h : Bool). is_marked me n (FactKind.LinkSuspended h link) b) (sym sends) ∙ unmarked)

    -- ---- RET
    ret_plain : (messages bits : ℕ) → host ≡ true → (after_ret hearing (Ret link messages bits) (record { host = host; link = link }) messages bits user.place b).full ≡ false
        → Plain me n (after_ret hearing (Ret link messages bits) (record { host = host; link = link }) messages bits user.place b)
    ret_plain messages bits h f = go (is_wanted (is_own hearing) (Ret link messages bits) b.pending_replies) refl f
      where
        c : Command
        c = Ret link messages bits

        left : List PendingReply
        left = pending_left (is_own hearing) (Ret link messages bits) b.pending_replies

        struck : SeenTables
        struck = record b { pending_replies = left }

        there : UserAt me n host link struck u
        there = record { place = user.place; found = user.found; seen = user.seen; sockets = user.sockets; receives = user.receives; given = user.given }

        none_left : is_wanted (is_own hearing) (Ret link messages bits) b.pending_replies ≡ true → returns_due me n false link left ≡ 0
        none_left w = by (plain.recalled link (ap (λ (x : Bool). is_marked me n (FactKind.LinkSuspended x link) b) (sym h) ∙ unmarked)) (left_one me n link messages bits b.pending_replies w)
          where
            least : (x y : ℕ) → suc x ≤ y → y ≤ 1 → x ≡ 0
            least x y k l = omega arith

            least_none : (x y : ℕ) → suc x ≤ y → y ≡ 0 → x ≡ 0
            least_none x y k l = omega arith

            by : (returns_due me n false link b.pending_replies ≡ 0) ⊎ ((returns_due me n false link b.pending_replies ≤ 1) × RecalledOn me n b link) → suc (returns_due me n false link left) ≤ returns_due me n false link b.pending_replies → returns_due me n false link left ≡ 0
            by (inl z) k = least_none (returns_due me n false link left) (returns_due me n false link b.pending_replies) k z
            by (inr z) k = least (returns_due me n false link left) (returns_due me n false link b.pending_replies) k z.0

        put_ret : is_wanted (is_own hearing) (Ret link messages bits) b.pending_replies ≡ true → Plain me n (put_conn struck (Some user.place) (numbered (conn.messages - messages) (conn.bits - bits) false conn.came conn))
        put_ret w =
            plain_numbered me n host link struck u there (conn.messages - messages) (conn.bits - bits) false conn.came unique opened (inr (inr (none_left w)))
            (subst (λ (x : Bool). Plain me n (if x then record b { pending_replies = left } else b)) w (plain_reply me n hearing (Ret link messages bits) b plain))

        suspended_by : (over : Bool) (mid : SeenTables) → Plain me n mid → Plain me n (suspended_if over hearing (record { host = host; link = link }) mid)
        suspended_by true mid k = plain_link_suspended me n host link mid k
        suspended_by false mid k = k

        put_then : SeenTables
        put_then = put_conn (after_reply hearing (Ret link messages bits) b) (Some user.place) (with_return hearing messages bits conn)

        put_plainly : is_wanted (is_own hearing) (Ret link messages bits) b.pending_replies ≡ true → Plain me n put_then
        put_plainly w = subst (λ (x : Bool). Plain me n (put_conn (if x then record b { pending_replies = left } else b) (Some user.place) (numbered (conn.messages - messages) (conn.bits - bits) false conn.came conn))) (sym w) (put_ret w)

        go : (x : Bool) → is_wanted (is_own hearing) (Ret link messages bits) b.pending_replies ≡ x
            → (if x then after_wanted_ret hearing (Ret link messages bits) (record { host = host; link = link }) messages bits user.place b else owes_error hearing (Ret link messages bits) false (suspended_conn hearing user.place b)).full ≡ false
            → Plain me n (if x then after_wanted_ret hearing (Ret link messages bits) (record { host = host; link = link }) messages bits user.place b else owes_error hearing (Ret link messages bits) false (suspended_conn hearing user.place b))
        go true w f =
            error_if_plain (is_any (returned_rules hearing (Ret link messages bits) messages bits conn b.pending_replies)) (Ret link messages bits) (suspended_if (is_some (over_rule hearing (Ret link messages bits) messages bits conn)) hearing (record { host = host; link = link }) put_then)
            (suspended_by (is_some (over_rule hearing (Ret link messages bits) messages bits conn)) put_then (put_plainly w))
        go false w f =
            error_plain (Ret link messages bits) (suspended_conn hearing user.place b) (conn_plain user.place (owed_room hearing (error_wanted 5 3 (Ret link messages bits)) false (suspended_conn hearing user.place b) f))

  -- ---- wherever it leads

  -- the side that speaks of it, for each command
  abbrev pub SpeaksOn : Command → Bool → ℕ → Type 0
  SpeaksOn (All on messages bits) host link = (host ≡ false) × (on ≡ link)
  SpeaksOn (Gvb on fm fb) host link = (host ≡ false) × (on ≡ link)
  SpeaksOn (Ret on messages bits) host link = (host ≡ true) × (on ≡ link)
  SpeaksOn c host link = Unit {0}

  pub plain_led : (c : Command) (host : Bool) (link : ℕ) → SpeaksOn c host link → (demuxed_after hearing kept c (record { host = host; link = link }) b (target_on hearing (record { host = host; link = link }) b)).full ≡ false
      → Plain me n (demuxed_after hearing kept c (record { host = host; link = link }) b (target_on hearing (record { host = host; link = link }) b))
  plain_led c host link says f = go (command_leads me n false host link b unique) f
    where
      Now : LinkTarget → Type 0
      Now l = (demuxed_after hearing kept c (record { host = host; link = link }) b l).full ≡ false → Plain me n (demuxed_after hearing kept c (record { host = host; link = link }) b l)

      as_led : (l : LinkTarget) → target_on hearing (record { host = host; link = link }) b ≡ l → Now l → Now (target_on hearing (record { host = host; link = link }) b)
      as_led l e k = subst Now (sym e) k

      suspended_by : (over : Bool) (mid : SeenTables) → Plain me n mid → Plain me n (suspended_if over hearing (record { host = host; link = link }) mid)
      suspended_by true mid k = plain_link_suspended me n host link mid k
      suspended_by false mid k = k

      nobody : (x : Bool) → Plain me n (if x then owes hearing (error_wanted 5 5 c) true b else owes_error hearing c false (link_suspended_now me n host link b))
      nobody true = plain_owed me n hearing (error_wanted 5 5 c) true b refl plain
      nobody false = error_plain c (link_suspended_now me n host link b) (plain_link_suspended me n host link b plain)

      unasked : (place : ℕ) (x : Bool) → (owes_error hearing c false (if x then suspended_conn hearing place b else b)).full ≡ false → Plain me n (owes_error hearing c false (if x then suspended_conn hearing place b else b))
      unasked place true f = error_plain c (suspended_conn hearing place b) (conn_plain place (owed_room hearing (error_wanted 5 (other_code c) c) false (suspended_conn hearing place b) f))
      unasked place false f = error_plain c b plain

      open_by : (d : Command) → SpeaksOn d host link → (u : Sockets) (user : UserAt me n host link b u) (size : ℕ) → is_marked me n (FactKind.LinkSuspended host link) b ≡ false → (conn_at_index b.conns user.place).size ≡ Some size
          → (after_open hearing kept d (record { host = host; link = link }) user.place b).full ≡ false → Plain me n (after_open hearing kept d (record { host = host; link = link }) user.place b)
      open_by (All on messages bits) s u user size m z f = grant_plain host link size u user m z (All on messages bits) messages bits
      open_by (Gvb on fm fb) s u user size m z f = subst (λ (l : ℕ). Plain me n (after_gvb hearing kept (Gvb on fm fb) l fm fb user.place b)) (sym s.1) (gvb_plain host link size u user m z s.0 fm fb (Gvb on fm fb))
      open_by (Ret on messages bits) s u user size m z f =
          subst (λ (l : ℕ). (after_ret hearing (Ret l messages bits) (record { host = host; link = link }) messages bits user.place b).full ≡ false → Plain me n (after_ret hearing (Ret l messages bits) (record { host = host; link = link }) messages bits user.place b)) (sym s.1)
          (ret_plain host link size u user m z messages bits s.0) f
      open_by Nop s u user size m z f = plain
      open_by (Rts x y l) s u user size m z f = plain
      open_by (Str x y l) s u user size m z f = plain
      open_by (Cls x y) s u user size m z f = plain
      open_by (Inr on) s u user size m z f = plain
      open_by (Ins on) s u user size m z f = plain
      open_by (Eco byte) s u user size m z f = plain
      open_by (Erp byte) s u user size m z f = plain
      open_by (Err code shown) s u user size m z f = plain
      open_by Rst s u user size m z f = plain
      open_by Rrp s u user size m z f = plain

      go : LeadsTo me n (λ conn. has_sent_cls conn false) host link b (target_on hearing (record { host = host; link = link }) b) → Now (target_on hearing (record { host = host; link = link }) b)
      go (ToRest e m) = as_led LinkTarget.Rests e (λ f. error_plain c b plain)
      go (ToNobody e m p) = as_led LinkTarget.Nobody e (λ f. nobody (speaks_receiver hearing (record { host = host; link = link })))
      go (ToClosed e m u user k) =
          as_led LinkTarget.Closed e (λ f. error_plain c (suspended_if (not (speaks_receiver hearing (record { host = host; link = link }))) hearing (record { host = host; link = link }) b)
          (suspended_by (not (speaks_receiver hearing (record { host = host; link = link }))) b plain))
      go (ToUnasked u user e m k) = as_led (LinkTarget.Unasked user.place) e (λ f. unasked user.place (speaks_receiver hearing (record { host = host; link = link })) f)
      go (ToOpen u user e m size k) = as_led (LinkTarget.Open user.place) e (λ f. open_by c says u user size m k.1 f)
