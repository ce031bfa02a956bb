-- A command of either side that names a link, while nothing is suspended: no violation is found exactly
-- when the side may send it, and afterwards the tables read as the flow with this command.
use Rattle.std.proofs.Common.{◌≡◌, ℕ, ◌+◌, ◌≤◌, ◌==◌, Bool, true, false, not, ◌&&◌, ◌||◌, if◌then◌else◌, List, [], ◌∷◌, ◌++◌, Option, None, Some, is_some, option_map, eq-eqb, refl, sym, ap, ◌∙◌, subst, arith}
use Rattle.std.specs.Prelude.{◌-◌, ◌^◌, nat_lt}
use Rattle.std.specs.List.{filter, position}
use Rattle.std.specs.Option.{option_to_list}
use Rattle.std.proofs.Math.Bool.{beq}
use Rattle.std.proofs.lemmas.Bool.{eqb-true, and_parts}
use Rattle.std.proofs.lemmas.Bool.Decides.{nat_tests}
use Rattle.ncp_wire.specs.declared.command.Command.{Command}
use Rattle.ncp_wire.specs.declared.command.Command.TheVariants.{All, Gvb, Ret, Inr, Ins}
use Rattle.ncp_monitor.specs.declared.pending_reply.PendingReply.{PendingReply}
use Rattle.ncp_monitor.specs.declared.pending_reply.ExpectedReply.{ExpectedReply}
use Rattle.ncp_monitor.specs.declared.finding.Rule.{Rule}
use Rattle.ncp_monitor.specs.declared.finding.Unopened.{Unopened}
use Rattle.ncp_interface.specs.declared.sent_message.SentMessage.{SentMessage}
use Rattle.ncp_monitor.specs.declared.link_target.LinkTarget.{LinkTarget}
use Rattle.ncp_monitor.specs.declared.conn_state.ConnState.{ConnState}
use Rattle.ncp_monitor.specs.declared.observed_flow.ObservedFlow.{ObservedFlow}
use Rattle.ncp_monitor.specs.ConnStates.{SeenTables, has_link, has_sent_cls, conn_at_index, put_conn}
use Rattle.ncp_interface.specs.Sockets.{is_senders}
use Rattle.ncp_monitor.specs.Replies.{is_due_of, owes, is_wanted, skipped, pending_left, after_reply}
use Rattle.ncp_monitor.specs.Requests.{is_link_busy}
use Rattle.ncp_monitor.specs.Allocation.{part_returned, kept_sum, target_on, limit_rule, demuxed_rule, numbers_due, other_rule, over_rule, returned_rules, led_numbers, number_rules, is_any, owes_error, owes_error_if, with_grant, recalled, owes_return, with_return, suspended_if, after_wanted_ret, suspended_conn, demuxed_after}
use Rattle.ncp_monitor.specs.Speaking.{command_rule, tables_after_command}
use Rattle.ncp_monitor.proofs.LinkOrder.{Sockets, same}
use Rattle.ncp_monitor.proofs.Firsts.{first, none_first}
use Rattle.ncp_monitor.proofs.Seeing.{of_conn, seen}
use Rattle.ncp_proof_monitor_allocation.proofs.SeenTables.{conn_seen, receives_at}
use Rattle.ncp_proof_monitor_allocation.proofs.Resting.{due_with}
use Rattle.ncp_proof_monitor_allocation.proofs.Filtered.{filter_after, filter_left}
use Rattle.ncp_proof_monitor_allocation.proofs.TidyBooks.{passed_over, numbered}
use Rattle.ncp_proof_monitor_allocation.proofs.LinkPlaces.{UserAt, LeadsTo, ToRest, ToNobody, ToClosed, ToUnasked, ToOpen, user_found, command_leads}
use Rattle.ncp_proof_monitor_allocation.proofs.Words.{Count, count_of}
use Rattle.ncp_proof_monitor_network.specs.Owing.{Owing, Echoes, Returning, is_returning_on, is_echo, Chosen, NextOwed, owed_after, has_echo}
use Rattle.ncp_proof_monitor_network.proofs.Tallied.{left_by, has_both, is_open_by, receives_by, IsDemuxed, HasNumbers, count_put, counted_on, recalled_by, returned_by, return_asked}
use Rattle.ncp_proof_monitor_network.proofs.Said.{Said, Legal, legal_reported, after_said_by}
use Rattle.ncp_proof_monitor_network.proofs.UsersSaid.{IsConnected, same_self, fit_step}
use Rattle.ncp_proof_monitor_network.proofs.PendingOwed.{reply_owed, AreDue, ret_gives, ret_fits, rule_then_next, NextDue, next_then_rule, ret_left, owed_more}
use Rattle.ncp_proof_monitor_network.proofs.OwesSteps.{next_given, owes_step}
use Rattle.ncp_proof_monitor_network.proofs.LeavesOwed.{each_side}
use Rattle.ncp_proof_monitor_network.proofs.ReadAs.{OweRightly, ReadAs, sides_distinct, read_numbered}
use Rattle.ncp_proof_monitor_network.proofs.ReadsAsked.{user_there, conn_uses}

-- ---- an open connection, by what was said and by the books

receives_host : (host : Bool) (u : Sockets) → receives_at u ≡ host → receives_by host u ≡ true
receives_host true u e = e
receives_host false u e = go (is_senders u.0) e
  where
    go : (y : Bool) → not y ≡ false → y ≡ true
    go true e = refl
    go false e = absurd (cc e)

left_is : (s : Bool) (conn : ConnState) → left_by s (Some (of_conn conn)) ≡ has_sent_cls conn s
left_is true conn = refl
left_is false conn = refl

both_given : (conn : ConnState) → has_both (Some (of_conn conn)) ≡ (is_some conn.link && is_some conn.size)
both_given conn = by (is_senders conn.local)
  where
    counterpart : (a b : Bool) → (a && b) ≡ (b && a)
    counterpart true true = refl
    counterpart true false = refl
    counterpart false true = refl
    counterpart false false = refl

    by : (y : Bool) → (is_some (if y then conn.size else conn.link) && is_some (if y then conn.link else conn.size)) ≡ (is_some conn.link && is_some conn.size)
    by true = counterpart (is_some conn.size) (is_some conn.link)
    by false = refl

module _ (me n : ℕ) (s : Bool) (b : SeenTables) (x : Said) (r : ReadAs me n b x) where
  abbrev flow : ObservedFlow
  flow = record { at = me; peer = n; sent = s }

  module _ (host : Bool) (link : ℕ) where
    abbrev led : LinkTarget
    led = target_on flow (record { host = host; link = link }) b

    pub user_uses : (u : Sockets) → UserAt me n host link b u → x.users host link ≡ Some u
    user_uses u user = conn_uses me n host link b x r u (conn_at_index b.conns user.place) user.seen (receives_host host u user.receives) user.given

    user_of_link : (u : Sockets) → x.users host link ≡ Some u → UserAt me n host link b u
    user_of_link u e = go (position (has_link me n host link) b.conns) refl
      where
        there : (conn : ConnState) × ((conn_seen me n b u ≡ Some conn) × (has_link me n host link conn ≡ true))
        there = user_there me n host link b x r u e

        go : (o : Option ℕ) → position (has_link me n host link) b.conns ≡ o → UserAt me n host link b u
        go None k =
            let none : first (has_link me n host link) b.conns ≡ None = none_first (has_link me n host link) b.conns k in
            let nay : true ≡ false = sym there.1.1 ∙ passed_over (has_link me n host link) (is_its u) b.conns there.0 none there.1.0 in absurd (cc nay)
          where
            is_its : Sockets → ConnState → Bool
            is_its u conn = conn.at == me && conn.peer == n && conn.local == u.0 && conn.remote == u.1
        go (Some i) k =
            let it = user_found me n host link b r.unique i k in
            let at : Some it.u ≡ Some u = sym (user_uses it.u it.user) ∙ e in
            let is : it.u ≡ u = cc at in subst (UserAt me n host link b) is it.user

    -- the link is that of an open connection
    pub record LeadsOpen (u : Sockets) : Type 0 where
      pub user : UserAt me n host link b u
      pub leads : led ≡ LinkTarget.Open user.place
      pub uses : x.users host link ≡ Some u
      pub receives : receives_by host u ≡ true
      pub open_yet : is_open_by s (x.shapes u) ≡ true
      pub counted : count_of (Some (conn_at_index b.conns user.place)) ≡ x.counts u
      pub sized : is_some (conn_at_index b.conns user.place).size ≡ true
      pub unleft : has_sent_cls (conn_at_index b.conns user.place) s ≡ false

    pub shape_is : (u : Sockets) (user : UserAt me n host link b u) → x.shapes u ≡ Some (of_conn (conn_at_index b.conns user.place))
    shape_is u user = sym (r.shapes u) ∙ ap seen user.seen

    count_is : (u : Sockets) (user : UserAt me n host link b u) → count_of (Some (conn_at_index b.conns user.place)) ≡ x.counts u
    count_is u user = sym (ap count_of user.seen) ∙ r.counts u

    pub open_is : (u : Sockets) (user : UserAt me n host link b u) (size : ℕ) → has_sent_cls (conn_at_index b.conns user.place) s ≡ false → (conn_at_index b.conns user.place).size ≡ Some size → is_open_by s (x.shapes u) ≡ true
    open_is u user size c z =
        let conn = conn_at_index b.conns user.place in
        ap (is_open_by s) (shape_is u user)
        ∙ ap (λ (y : Bool). y && not (left_by s (Some (of_conn conn)))) (both_given conn)
        ∙ ap (λ (o : Option ℕ). is_some o && is_some conn.size && not (left_by s (Some (of_conn conn)))) user.given
        ∙ ap (λ (o : Option ℕ). true && is_some o && not (left_by s (Some (of_conn conn)))) z
        ∙ ap not (left_is s conn ∙ c)

    -- no rule is broken: then it is
    rule_opens : (c : Command) → demuxed_rule flow c b led ≡ None → (u : Sockets) × LeadsOpen u
    rule_opens c v = go (command_leads me n s host link b r.unique)
      where
        nay : (l : LinkTarget) (wrong : Rule) → led ≡ l → demuxed_rule flow c b l ≡ Some wrong → ⊥
        nay l wrong e k = let no : Some wrong ≡ None = sym (ap (demuxed_rule flow c b) e ∙ k) ∙ v in cc no

        go : LeadsTo me n (λ conn. has_sent_cls conn s) host link b led → (u : Sockets) × LeadsOpen u
        go (ToRest e m) = let no : true ≡ false = sym m ∙ r.links host link in absurd (cc no)
        go (ToNobody e m p) = absurd (nay LinkTarget.Nobody (Rule.NotOpen c Unopened.NoPair) e refl)
        go (ToClosed e m u user k) = absurd (nay LinkTarget.Closed (Rule.NotOpen c Unopened.Closed) e refl)
        go (ToUnasked u user e m k) = absurd (nay (LinkTarget.Unasked user.place) (Rule.NotOpen c Unopened.NotAsked) e refl)
        go (ToOpen u user e m size k) = (
          u,
          record { user = user; leads = e; uses = user_uses u user; receives = receives_host host u user.receives; open_yet = open_is u user size k.0 k.1; counted = count_is u user; sized = ap is_some k.1; unleft = k.0 },
        )

    -- it is open by what was said: then it leads there
    pub open_leads : (u : Sockets) → x.users host link ≡ Some u → is_open_by s (x.shapes u) ≡ true → LeadsOpen u
    open_leads u e o = record { user = user; leads = to (command_leads me n s host link b r.unique); uses = e; receives = (r.fit.used host link u e).0; open_yet = o; counted = count_is u user; sized = sized; unleft = isnt (has_sent_cls (conn_at_index b.conns user.place) s) unleft }
      where
        user : UserAt me n host link b u
        user = user_of_link u e

        parts : (has_both (x.shapes u) ≡ true) × (not (left_by s (x.shapes u)) ≡ true)
        parts = and_parts (has_both (x.shapes u)) (not (left_by s (x.shapes u))) o

        sized : is_some (conn_at_index b.conns user.place).size ≡ true
        sized = (and_parts (is_some (conn_at_index b.conns user.place).link) (is_some (conn_at_index b.conns user.place).size) (sym (ap has_both (shape_is u user) ∙ both_given (conn_at_index b.conns user.place)) ∙ parts.0)).1

        unleft : not (has_sent_cls (conn_at_index b.conns user.place) s) ≡ true
        unleft = ap not (sym (ap (left_by s) (shape_is u user) ∙ left_is s (conn_at_index b.conns user.place))) ∙ parts.1

        isnt : (y : Bool) → not y ≡ true → y ≡ false
        isnt true e = absurd (cc e)
        isnt false e = refl

        at_one : (v : Sockets) (other : UserAt me n host link b v) → other.place ≡ user.place
        at_one v other = cc (sym other.found ∙ user.found)

        to : LeadsTo me n (λ conn. has_sent_cls conn s) host link b led → led ≡ LinkTarget.Open user.place
        to (ToRest e m) = let no : true ≡ false = sym m ∙ r.links host link in absurd (cc no)
        to (ToNobody e m p) = let no : None ≡ Some user.place = sym p ∙ user.found in absurd (cc no)
        to (ToClosed e m v other k) =
            let no : false ≡ true = sym (ap not k) ∙ ap (λ (i : ℕ). not (has_sent_cls (conn_at_index b.conns i) s)) (at_one v other) ∙ unleft in absurd (cc no)
        to (ToUnasked v other e m k) =
            let no : false ≡ true = sym (ap is_some k.1) ∙ ap (λ (i : ℕ). is_some (conn_at_index b.conns i).size) (at_one v other) ∙ sized in absurd (cc no)
        to (ToOpen v other e m size k) = e ∙ ap (λ (i : ℕ). LinkTarget.Open i) (at_one v other)

    pub leads_led : (u : Sockets) (p : Sockets → Type 0) → LeadsOpen u → p u → IsDemuxed s host (x.users host link) x.shapes p
    leads_led u p l k = subst (λ (o : Option Sockets). IsDemuxed s host o x.shapes p) (sym l.uses) (l.receives, l.open_yet, k)

    pub led_leads : (p : Sockets → Type 0) → IsDemuxed s host (x.users host link) x.shapes p → (u : Sockets) × (LeadsOpen u × p u)
    led_leads p k = go (x.users host link) refl k
      where
        go : (o : Option Sockets) → x.users host link ≡ o → IsDemuxed s host o x.shapes p → (u : Sockets) × (LeadsOpen u × p u)
        go None e k = absurd k
        go (Some u) e k = (u, (open_leads u e k.1, k.2))

    -- ---- with other numbers

    put_at : (u : Sockets) (f : Count → Count) → x.users host link ≡ Some u → count_put x.counts (x.users host link) f u ≡ f (x.counts u)
    put_at u f e = ap (λ (o : Option Sockets). count_put x.counts o f u) e ∙ ap (λ (y : Bool). if y then f (x.counts u) else x.counts u) (same_self u)

    put_off : (u : Sockets) (f : Count → Count) → x.users host link ≡ Some u → (v : Sockets) → same v u ≡ false → x.counts v ≡ count_put x.counts (x.users host link) f v
    put_off u f e v d = sym (ap (λ (o : Option Sockets). count_put x.counts o f v) e ∙ ap (λ (y : Bool). if y then f (x.counts v) else x.counts v) d)

    abbrev pub counted_conn : (Count → Count) → Bool → ConnState → ConnState
    counted_conn f came conn = numbered (f (count_of (Some conn))).messages (f (count_of (Some conn))).bits (f (count_of (Some conn))).recall came conn

    pub read_counted : (u : Sockets) (l : LeadsOpen u) (f : Count → Count) (came : Bool) (after : SeenTables) (y : Said) → after.conns ≡ (put_conn b (Some l.user.place) (counted_conn f came (conn_at_index b.conns l.user.place))).conns → after.known_facts ≡ b.known_facts
        → ((v : Sockets) → x.shapes v ≡ y.shapes v) → ((v : Sockets) → count_put x.counts (x.users host link) f v ≡ y.counts v) → ((t : Bool) → has_echo (x.owing t) ≡ has_echo (y.owing t)) → ((t : Bool) → AreDue t (filter (is_due_of me n t) after.pending_replies) (y.owing t))
        → OweRightly y → IsConnected y → ReadAs me n after y
    read_counted u l f came after y conns known_facts shapes counts echo pending_replies owe fit =
        read_numbered me n b after x y host link u l.user (f (count_of (Some (conn_at_index b.conns l.user.place)))) came (record { conns = conns; known_facts = known_facts }) shapes
        (sym (counts u) ∙ put_at u f l.uses ∙ ap f (sym l.counted)) (λ v d. put_off u f l.uses v d ∙ counts v) echo pending_replies owe fit r

  -- ---- ALL

  not_over : (most y : ℕ) → nat_lt most y ≡ false → y ≤ most
  not_over most y e = grind (arith, nat_tests)

  over_not : (most y : ℕ) → y ≤ most → nat_lt most y ≡ false
  over_not most y e = grind (arith, nat_tests)

  sum_within : (one other most : ℕ) → most ≤ 65536 → kept_sum one other ≤ most → one + other ≤ most
  sum_within one other most few e = omega arith

  sum_is : (one other : ℕ) → one + other ≤ 65536 → kept_sum one other ≡ one + other
  sum_is one other small = omega arith

  limit_within : (c : Command) (a m d k : ℕ) → limit_rule c (kept_sum a m) (kept_sum d k) ≡ None → (a + m ≤ 65535) × (d + k ≤ 65536)
  limit_within c a m d k v = go (nat_lt 65535 (kept_sum a m)) (nat_lt 65536 (kept_sum d k)) refl refl v
    where
      go : (y z : Bool) → nat_lt 65535 (kept_sum a m) ≡ y → nat_lt 65536 (kept_sum d k) ≡ z → (if y || z then Some (Rule.OverLimit c (kept_sum a m) (kept_sum d k)) else None) ≡ None → (a + m ≤ 65535) × (d + k ≤ 65536)
      go true z e i v = absurd (cc v)
      go false true e i v = absurd (cc v)
      go false false e i v =
          (sum_within a m 65535 (omega arith) (not_over 65535 (kept_sum a m) e), sum_within d k 65536 (omega arith) (not_over 65536 (kept_sum d k) i))

  within_limit : (c : Command) (a m d k : ℕ) → a + m ≤ 65535 → d + k ≤ 65536 → limit_rule c (kept_sum a m) (kept_sum d k) ≡ None
  within_limit c a m d k e i =
      ap (λ (y : Bool). if y || nat_lt 65536 (kept_sum d k) then Some (Rule.OverLimit c (kept_sum a m) (kept_sum d k)) else None) (ap (nat_lt 65535) (sum_is a m (less (a + m) e)) ∙ over_not 65535 (a + m) e)
      ∙ ap (λ (y : Bool). if y then Some (Rule.OverLimit c (kept_sum a m) (kept_sum d k)) else None) (ap (nat_lt 65536) (sum_is d k i) ∙ over_not 65536 (d + k) i)
    where
      less : (y : ℕ) → y ≤ 65535 → y ≤ 65536
      less y e = omega arith

  module _ (link m k : ℕ) where
    abbrev all : Command
    all = All link m k

    abbrev Within : Sockets → Type 0
    Within u = ((x.counts u).messages + m ≤ 65535) × ((x.counts u).bits + k ≤ 65536)

    pub all_legal : (kept : List SentMessage) → command_rule flow kept all b ≡ None → Legal s all x
    all_legal kept v =
        let to = rule_opens s link all v in
        let at = limit_within all (conn_at_index b.conns to.1.user.place).messages m (conn_at_index b.conns to.1.user.place).bits k (sym (ap (demuxed_rule flow all b) to.1.leads) ∙ v) in
        legal_reported s all x refl
        (leads_led s link to.0 Within to.1 (
          ap_le (λ (c : Count). c.messages + m) 65535 to.1.counted at.0,
          ap_le (λ (c : Count). c.bits + k) 65536 to.1.counted at.1,
        ))
      where
        ap_le : (f : Count → ℕ) (most : ℕ) {c d : Count} → c ≡ d → f c ≤ most → f d ≤ most
        ap_le f most e i = subst (λ (y : ℕ). y ≤ most) (ap f e) i

    module _ (l : Legal s all x) where
      its : (u : Sockets) × (LeadsOpen s link u × Within u)
      its = led_leads s link Within l.tally

      abbrev all_conn : ConnState
      all_conn = conn_at_index b.conns its.1.0.user.place

      within : (all_conn.messages + m ≤ 65535) × (all_conn.bits + k ≤ 65536)
      within = subst (λ (c : Count). (c.messages + m ≤ 65535) × (c.bits + k ≤ 65536)) (sym its.1.0.counted) its.1.1

      limits : limit_rule all (kept_sum all_conn.messages m) (kept_sum all_conn.bits k) ≡ None
      limits = within_limit all all_conn.messages m all_conn.bits k within.0 within.1

      pub all_unbroken : (kept : List SentMessage) → command_rule flow kept all b ≡ None
      all_unbroken kept = ap (demuxed_rule flow all b) its.1.0.leads ∙ limits

      granted : (t : Bool) (conn : ConnState) → conn.messages + m ≤ 65535 → conn.bits + k ≤ 65536 → with_grant (record { at = me; peer = n; sent = t }) m k conn ≡ counted_conn s link (counted_on m k) conn.came conn
      granted true conn e i =
          ap (λ (y : ℕ). numbered y (kept_sum conn.bits k) conn.recall conn.came conn) (sum_is conn.messages m (less (conn.messages + m) e))
          ∙ ap (λ (y : ℕ). numbered (conn.messages + m) y conn.recall conn.came conn) (sum_is conn.bits k i)
        where
          less : (y : ℕ) → y ≤ 65535 → y ≤ 65536
          less y e = omega arith
      granted false conn e i =
          ap (λ (y : Bool). if y || nat_lt (2 ^ 32 - 1) (conn.bits + k) then conn else numbered (conn.messages + m) (conn.bits + k) conn.recall conn.came conn) (over_not 65535 (conn.messages + m) e)
          ∙ ap (λ (y : Bool). if y then conn else numbered (conn.messages + m) (conn.bits + k) conn.recall conn.came conn) (over_not (2 ^ 32 - 1) (conn.bits + k) (most (conn.bits + k) i))
        where
          most : (y : ℕ) → y ≤ 65536 → y ≤ 2 ^ 32 - 1
          most y e = omega arith

      all_after : (kept : List SentMessage) → tables_after_command flow kept all b ≡ put_conn b (Some its.1.0.user.place) (counted_conn s link (counted_on m k) all_conn.came all_conn)
      all_after kept =
          ap (demuxed_after flow kept all (record { host = s; link = link }) b) its.1.0.leads
          ∙ ap (λ (o : Option Rule). owes_error_if (is_some o) flow all (put_conn b (Some its.1.0.user.place) (with_grant flow m k all_conn))) limits
          ∙ ap (put_conn b (Some its.1.0.user.place)) (granted s all_conn within.0 within.1)

      pub all_read : (kept : List SentMessage) → ReadAs me n (tables_after_command flow kept all b) (after_said_by s all x)
      all_read kept =
          subst (λ (z : SeenTables). ReadAs me n z (after_said_by s all x)) (sym (all_after kept))
          (read_counted s link its.0 its.1.0 (counted_on m k) all_conn.came (put_conn b (Some its.1.0.user.place) (counted_conn s link (counted_on m k) all_conn.came all_conn)) (after_said_by s all x) refl refl (λ v. refl) (λ v. refl) (λ t. refl) r.pending_replies
          (owes_step s x r.returning all l) (fit_step s all x l r.fit))

  -- ---- GVB

  echo_more : (os more : List Owing) → has_echo more ≡ false → has_echo os ≡ has_echo (os ++ more)
  echo_more [] more e = sym e
  echo_more (o ∷ os) more e = ap (λ (y : Bool). is_echo o || y) (echo_more os more e)

  module _ (link fm fb : ℕ) where
    abbrev gvb : Command
    gvb = Gvb link fm fb

    abbrev Unrecalled : Sockets → Type 0
    Unrecalled u = (x.counts u).recall ≡ false

    pub gvb_legal : (kept : List SentMessage) → command_rule flow kept gvb b ≡ None → Legal s gvb x
    gvb_legal kept v =
        let to = rule_opens s link gvb v in
        legal_reported s gvb x refl
        (leads_led s link to.0 Unrecalled to.1
        (ap (λ (c : Count). c.recall) (sym to.1.counted) ∙ go (conn_at_index b.conns to.1.user.place).recall (sym (ap (demuxed_rule flow gvb b) to.1.leads) ∙ v)))
      where
        go : (y : Bool) → (if y then Some (Rule.GvbAgain gvb) else None) ≡ None → y ≡ false
        go true v = absurd (cc v)
        go false v = refl

    module _ (l : Legal s gvb x) where
      open_on : (u : Sockets) × (LeadsOpen s link u × Unrecalled u)
      open_on = led_leads s link Unrecalled l.tally

      abbrev of_gvb : Sockets
      of_gvb = open_on.0

      abbrev lead_to : LeadsOpen s link of_gvb
      lead_to = open_on.1.0

      abbrev gvb_conn : ConnState
      gvb_conn = conn_at_index b.conns lead_to.user.place

      uncalled : gvb_conn.recall ≡ false
      uncalled = ap (λ (c : Count). c.recall) lead_to.counted ∙ open_on.1.1

      pub gvb_unbroken : (kept : List SentMessage) → command_rule flow kept gvb b ≡ None
      gvb_unbroken kept = ap (demuxed_rule flow gvb b) lead_to.leads ∙ ap (λ (y : Bool). if y then Some (Rule.GvbAgain gvb) else None) uncalled

      recalled_is : (t : Bool) (conn : ConnState) → recalled (record { at = me; peer = n; sent = t }) fm fb conn ≡ counted_conn s link (recalled_by t fm fb) conn.came conn
      recalled_is true conn = refl
      recalled_is false conn = refl

      abbrev mid : SeenTables
      mid = put_conn b (Some lead_to.user.place) (counted_conn s link (recalled_by s fm fb) gvb_conn.came gvb_conn)

      gvb_after : (kept : List SentMessage) → tables_after_command flow kept gvb b ≡ owes_return flow kept link fm fb gvb_conn mid
      gvb_after kept =
          ap (demuxed_after flow kept gvb (record { host = s; link = link }) b) lead_to.leads
          ∙ ap (λ (y : Bool). owes_return flow kept link fm fb gvb_conn (put_conn (owes_error_if y flow gvb b) (Some lead_to.user.place) (recalled flow fm fb gvb_conn))) uncalled
          ∙ ap (λ (conn : ConnState). owes_return flow kept link fm fb gvb_conn (put_conn b (Some lead_to.user.place) conn)) (recalled_is s gvb_conn)

      abbrev now : Said
      now = after_said_by s gvb x

      -- the other has left: none is due
      left_now : left_by (not s) (x.shapes of_gvb) ≡ has_sent_cls gvb_conn (not s)
      left_now = ap (left_by (not s)) (shape_is s link of_gvb lead_to.user) ∙ left_is (not s) gvb_conn

      abbrev more : List Owing
      more = return_asked s link fm fb x.shapes x.counts (x.users s link)

      more_is : more ≡ (if has_sent_cls gvb_conn (not s) then [] else Returning of_gvb link (part_returned (x.counts of_gvb).messages fm) (part_returned (x.counts of_gvb).bits fb) ∷ [])
      more_is =
          ap (return_asked s link fm fb x.shapes x.counts) lead_to.uses
          ∙ ap (λ (y : Bool). if y then [] else Returning of_gvb link (part_returned (x.counts of_gvb).messages fm) (part_returned (x.counts of_gvb).bits fb) ∷ []) left_now

      no_echo : has_echo more ≡ false
      no_echo = ap has_echo more_is ∙ by (has_sent_cls gvb_conn (not s))
        where
          by : (y : Bool) → has_echo (if y then [] else Returning of_gvb link (part_returned (x.counts of_gvb).messages fm) (part_returned (x.counts of_gvb).bits fb) ∷ []) ≡ false
          by true = refl
          by false = refl

      echo : (t : Bool) → has_echo (x.owing t) ≡ has_echo (now.owing t)
      echo = each_side (λ t os. has_echo (x.owing t) ≡ has_echo os) (not s) (x.owing (not s) ++ more) x.owing (echo_more (x.owing (not s)) more no_echo) refl

      gvb_so : (after : SeenTables) → after.conns ≡ mid.conns → after.known_facts ≡ b.known_facts → AreDue (not s) (filter (is_due_of me n (not s)) after.pending_replies) (x.owing (not s) ++ more)
          → AreDue (not (not s)) (filter (is_due_of me n (not (not s))) after.pending_replies) (x.owing (not (not s))) → ReadAs me n after now
      gvb_so after conns known_facts due others =
          read_counted s link of_gvb lead_to (recalled_by s fm fb) gvb_conn.came after now conns known_facts (λ v. refl) (λ v. refl) echo
          (each_side (λ t os. AreDue t (filter (is_due_of me n t) after.pending_replies) os) (not s) (x.owing (not s) ++ more) x.owing due others)
          (owes_step s x r.returning gvb l) (fit_step s gvb x l r.fit)

      nil_after : (os : List Owing) → os ≡ os ++ []
      nil_after [] = refl
      nil_after (o ∷ os) = ap (λ (ps : List Owing). o ∷ ps) (nil_after os)

      abbrev due_of : Bool → PendingReply
      due_of mandatory = record { at = me; peer = n; host = not s; wanted = ExpectedReply.Return link (part_returned gvb_conn.messages fm) (part_returned gvb_conn.bits fb); mandatory = mandatory }

      beq_self : (y : Bool) → beq y y ≡ true
      beq_self true = refl
      beq_self false = refl

      due_own : (mandatory : Bool) → is_due_of me n (not s) (due_of mandatory) ≡ true
      due_own mandatory =
          ap (λ (y : Bool). y && (n == n) && beq (not s) (not s)) (eq-eqb me me refl) ∙ ap (λ (y : Bool). true && y && beq (not s) (not s)) (eq-eqb n n refl) ∙ beq_self (not s)

      pub gvb_read : (kept : List SentMessage) → (tables_after_command flow kept gvb b).full ≡ false → ReadAs me n (tables_after_command flow kept gvb b) now
      gvb_read kept f = subst (λ (z : SeenTables). ReadAs me n z now) (sym (gvb_after kept)) (go (has_sent_cls gvb_conn (not s)) refl (ap (λ (z : SeenTables). z.full) (sym (gvb_after kept)) ∙ f))
        where
          mandatory : Bool
          mandatory = not s && not (is_link_busy me n (Some link) kept)

          sure_so : (t y : Bool) → not t ≡ false → (not t && y) ≡ false
          sure_so true y e = refl
          sure_so false y e = absurd (cc e)

          go : (y : Bool) → has_sent_cls gvb_conn (not s) ≡ y → (if y then mid else owes flow (ExpectedReply.Return link (part_returned gvb_conn.messages fm) (part_returned gvb_conn.bits fb)) mandatory mid).full ≡ false
              → ReadAs me n (if y then mid else owes flow (ExpectedReply.Return link (part_returned gvb_conn.messages fm) (part_returned gvb_conn.bits fb)) mandatory mid) now
          go true e room =
              gvb_so mid refl refl
              (subst (AreDue (not s) (filter (is_due_of me n (not s)) b.pending_replies))
              (nil_after (x.owing (not s)) ∙ ap (λ (os : List Owing). x.owing (not s) ++ os) (sym (more_is ∙ ap (λ (y : Bool). if y then [] else Returning of_gvb link (part_returned (x.counts of_gvb).messages fm) (part_returned (x.counts of_gvb).bits fb) ∷ []) e)))
              (r.pending_replies (not s))) (r.pending_replies (not (not s)))
          go false e room =
              let with = due_with mid (due_of mandatory) room in
              let after = owes flow (ExpectedReply.Return link (part_returned gvb_conn.messages fm) (part_returned gvb_conn.bits fb)) mandatory mid in
              gvb_so after with.1.0 with.1.1
              (subst (λ (ds : List PendingReply). AreDue (not s) (filter (is_due_of me n (not s)) ds) (x.owing (not s) ++ more)) (sym with.0)
              (subst (λ (os : List Owing). AreDue (not s) (filter (is_due_of me n (not s)) (b.pending_replies ++ due_of mandatory ∷ [])) (x.owing (not s) ++ os))
              (sym (more_is ∙ ap (λ (y : Bool). if y then [] else Returning of_gvb link (part_returned (x.counts of_gvb).messages fm) (part_returned (x.counts of_gvb).bits fb) ∷ []) e))
              (owed_more (is_due_of me n (not s)) (not s) b.pending_replies (x.owing (not s)) (due_of mandatory) (Returning of_gvb link (part_returned (x.counts of_gvb).messages fm) (part_returned (x.counts of_gvb).bits fb)) (due_own mandatory)
              (ap (λ (c : Count). ExpectedReply.Return link (part_returned c.messages fm) (part_returned c.bits fb)) lead_to.counted, sure_so s (not (is_link_busy me n (Some link) kept))) (r.pending_replies (not s)))))
              (subst (λ (ds : List PendingReply). AreDue (not (not s)) ds (x.owing (not (not s))))
              (sym (ap (filter (is_due_of me n (not (not s)))) with.0 ∙ filter_after (is_due_of me n (not (not s))) b.pending_replies (due_of mandatory) (sides_distinct me n (not s) (due_of mandatory) (due_own mandatory)))) (r.pending_replies (not (not s))))

  -- ---- RET

  -- no ERP is passed over
  next_echo : (link : ℕ) (p : Owing → Type 0) (os : List Owing) → NextOwed (is_returning_on link) p os → has_echo os ≡ has_echo (owed_after (is_returning_on link) os)
  next_echo link p [] k = absurd k
  next_echo link p (o ∷ os) k = go (is_returning_on link o) refl (is_echo o) refl k (next_echo link p os)
    where
      go : (y : Bool) → is_returning_on link o ≡ y → (z : Bool) → is_echo o ≡ z → Chosen y z (p o) (NextOwed (is_returning_on link) p os) → (NextOwed (is_returning_on link) p os → has_echo os ≡ has_echo (owed_after (is_returning_on link) os))
          → (z || has_echo os) ≡ has_echo (if y then os else owed_after (is_returning_on link) os)
      go true i z j k later = ap (λ (w : Bool). w || has_echo os) (sym j ∙ ret_fits link o i)
      go false i true j k later = absurd k
      go false i false j k later = later k

  module _ (link m k : ℕ) where
    abbrev ret : Command
    ret = Ret link m k

    abbrev own : PendingReply → Bool
    own = is_due_of me n s

    abbrev Asked : Sockets → Type 0
    Asked u = ((x.counts u).recall ≡ true) × NextOwed (is_returning_on link) (HasNumbers s m k (x.counts u)) (x.owing s)

    rule_parts : (y : Bool) (o : Option Command) → (if y then option_map (λ (d : Command). Rule.Skipped d) o else Some (Rule.RetUnasked ret)) ≡ None → (y ≡ true) × (o ≡ None)
    rule_parts true None v = (refl, refl)
    rule_parts true (Some d) v = absurd (cc v)
    rule_parts false o v = absurd (cc v)

    no_rules : (o p : Option Rule) → option_to_list o ++ option_to_list p ≡ [] → (o ≡ None) × (p ≡ None)
    no_rules None None v = (refl, refl)
    no_rules None (Some wrong) v = absurd (cc v)
    no_rules (Some wrong) p v = absurd (cc v)

    not_and : (y z : Bool) → not (y && z) ≡ false → (y ≡ true) × (z ≡ true)
    not_and true true e = (refl, refl)
    not_and true false e = absurd (cc e)
    not_and false z e = absurd (cc e)

    or_not : (y z : Bool) → (y || z) ≡ false → (y ≡ false) × (z ≡ false)
    or_not true z e = absurd (cc e)
    or_not false z e = (refl, e)

    none_if : (y : Bool) (wrong : Rule) → (if y then Some wrong else None) ≡ None → y ≡ false
    none_if true wrong v = absurd (cc v)
    none_if false wrong v = refl

    -- the numbers break no rule
    has_numbers : (t : Bool) (conn : ConnState) (o : Owing) → is_returning_on link o ≡ true → other_rule (record { at = me; peer = n; sent = t }) ret m k (Some (reply_owed o)) ≡ None → over_rule (record { at = me; peer = n; sent = t }) ret m k conn ≡ None
        → HasNumbers t m k (count_of (Some conn)) o
    has_numbers t conn (Echoes byte) i v w = absurd (cc i)
    has_numbers true conn (Returning u on most most_bits) i v w =
        let two = not_and (m == most) (k == most_bits) (none_if (not (m == most && k == most_bits)) (Rule.RetOther ret most most_bits) v) in (eqb-true m most two.0, eqb-true k most_bits two.1)
    has_numbers false conn (Returning u on most most_bits) i v w =
        let two = or_not (nat_lt most m) (nat_lt most_bits k) (none_if (nat_lt most m || nat_lt most_bits k) (Rule.RetOther ret most most_bits) v) in
        let four = or_not (nat_lt conn.messages m) (nat_lt conn.bits k) (none_if (nat_lt conn.messages m || nat_lt conn.bits k) (Rule.RetOver ret conn.messages conn.bits) w) in
        (not_over most m two.0, not_over most_bits k two.1, not_over conn.messages m four.0, not_over conn.bits k four.1)

    pub ret_legal : (kept : List SentMessage) → command_rule flow kept ret b ≡ None → number_rules flow ret b ≡ [] → Legal s ret x
    ret_legal kept v w = legal_reported s ret x refl (leads_led (not s) link to.0 Asked to.1 ((next_given s x.shapes x.users x.counts link to.0 (HasNumbers s m k (x.counts to.0)) (x.owing s) to.1.uses next (r.returning s)).recalled, next))
      where
        to : (u : Sockets) × LeadsOpen (not s) link u
        to = rule_opens (not s) link ret v

        reply : (is_wanted own ret b.pending_replies ≡ true) × (skipped own ret b.pending_replies ≡ None)
        reply = rule_parts (is_wanted own ret b.pending_replies) (skipped own ret b.pending_replies) (sym (ap (demuxed_rule flow ret b) to.1.leads) ∙ v)

        rules : (other_rule flow ret m k (numbers_due own ret b.pending_replies) ≡ None) × (over_rule flow ret m k (conn_at_index b.conns to.1.user.place) ≡ None)
        rules =
            no_rules (other_rule flow ret m k (numbers_due own ret b.pending_replies)) (over_rule flow ret m k (conn_at_index b.conns to.1.user.place))
            (sym (ap (λ (y : Bool). if y then option_to_list (other_rule flow ret m k (numbers_due own ret b.pending_replies)) ++ option_to_list (over_rule flow ret m k (conn_at_index b.conns to.1.user.place)) else []) reply.0)
            ∙ sym (ap (led_numbers flow ret m k b) to.1.leads) ∙ w)

        next : NextOwed (is_returning_on link) (HasNumbers s m k (x.counts to.0)) (x.owing s)
        next =
            rule_then_next own s ret (is_returning_on link) (ret_gives link m k) (HasNumbers s m k (x.counts to.0)) b.pending_replies (x.owing s) (r.pending_replies s) reply.0 reply.1
            (λ o i e. subst (λ (c : Count). HasNumbers s m k c o) to.1.counted (has_numbers s (conn_at_index b.conns to.1.user.place) o i (ap (other_rule flow ret m k) (sym e) ∙ rules.0) rules.1))

    module _ (l : Legal s ret x) where
      led_ret : (u : Sockets) × (LeadsOpen (not s) link u × Asked u)
      led_ret = led_leads (not s) link Asked l.tally

      abbrev ret_of : Sockets
      ret_of = led_ret.0

      abbrev ret_to : LeadsOpen (not s) link ret_of
      ret_to = led_ret.1.0

      abbrev ret_conn : ConnState
      ret_conn = conn_at_index b.conns ret_to.user.place

      next : NextDue own s ret (is_returning_on link) (ret_gives link m k) (HasNumbers s m k (x.counts ret_of)) b.pending_replies
      next = next_then_rule own s ret (is_returning_on link) (ret_gives link m k) (HasNumbers s m k (x.counts ret_of)) b.pending_replies (x.owing s) (r.pending_replies s) led_ret.1.1.1

      no_other : (t : Bool) (conn : ConnState) (o : Owing) → HasNumbers t m k (count_of (Some conn)) o → (other_rule (record { at = me; peer = n; sent = t }) ret m k (Some (reply_owed o)) ≡ None) × (over_rule (record { at = me; peer = n; sent = t }) ret m k conn ≡ None)
      no_other t conn (Echoes byte) h = absurd h
      no_other true conn (Returning u on most most_bits) h = (
        ap (λ (y : Bool). if not (y && (k == most_bits)) then Some (Rule.RetOther ret most most_bits) else None) (eq-eqb m most h.0)
            ∙ ap (λ (y : Bool). if not (true && y) then Some (Rule.RetOther ret most most_bits) else None) (eq-eqb k most_bits h.1),
        refl,
      )
      no_other false conn (Returning u on most most_bits) h = (
        ap (λ (y : Bool). if y || nat_lt most_bits k then Some (Rule.RetOther ret most most_bits) else None) (over_not most m h.0)
            ∙ ap (λ (y : Bool). if y then Some (Rule.RetOther ret most most_bits) else None) (over_not most_bits k h.1),
        ap (λ (y : Bool). if y || nat_lt conn.bits k then Some (Rule.RetOver ret conn.messages conn.bits) else None) (over_not conn.messages m h.2)
            ∙ ap (λ (y : Bool). if y then Some (Rule.RetOver ret conn.messages conn.bits) else None) (over_not conn.bits k h.3),
      )

      none_wrong : (other_rule flow ret m k (Some (reply_owed next.one)) ≡ None) × (over_rule flow ret m k ret_conn ≡ None)
      none_wrong = no_other s ret_conn next.one (subst (λ (c : Count). HasNumbers s m k c next.one) (sym ret_to.counted) next.has)

      rules_none : returned_rules flow ret m k ret_conn b.pending_replies ≡ []
      rules_none =
          ap (λ (y : Bool). if y then option_to_list (other_rule flow ret m k (numbers_due own ret b.pending_replies)) ++ option_to_list (over_rule flow ret m k ret_conn) else []) next.wanted
          ∙ ap (λ (o : Option ExpectedReply). option_to_list (other_rule flow ret m k o) ++ option_to_list (over_rule flow ret m k ret_conn)) next.numbers
          ∙ ap (λ (o : Option Rule). option_to_list o ++ option_to_list (over_rule flow ret m k ret_conn)) none_wrong.0
          ∙ ap option_to_list none_wrong.1

      pub ret_unbroken : (kept : List SentMessage) → s ≡ false → command_rule flow kept ret b ≡ None
      ret_unbroken kept theirs =
          ap (demuxed_rule flow ret b) ret_to.leads
          ∙ ap (λ (y : Bool). if y then option_map (λ (d : Command). Rule.Skipped d) (skipped own ret b.pending_replies) else Some (Rule.RetUnasked ret)) next.wanted
          ∙ ap (option_map (λ (d : Command). Rule.Skipped d)) (next.passes theirs)

      pub ret_numbers : number_rules flow ret b ≡ []
      ret_numbers = ap (led_numbers flow ret m k b) ret_to.leads ∙ rules_none

      returned_is : (t : Bool) (conn : ConnState) → with_return (record { at = me; peer = n; sent = t }) m k conn ≡ counted_conn (not s) link (returned_by t m k) conn.came conn
      returned_is true conn = refl
      returned_is false conn = refl

      abbrev replied : SeenTables
      replied = record b { pending_replies = pending_left own ret b.pending_replies }

      abbrev ret_then : SeenTables
      ret_then = put_conn replied (Some ret_to.user.place) (counted_conn (not s) link (returned_by s m k) ret_conn.came ret_conn)

      ret_after : (kept : List SentMessage) → tables_after_command flow kept ret b ≡ ret_then
      ret_after kept =
          ap (demuxed_after flow kept ret (record { host = not s; link = link }) b) ret_to.leads
          ∙ ap (λ (y : Bool). if y then after_wanted_ret flow ret (record { host = not s; link = link }) m k ret_to.user.place b else owes_error flow ret false (suspended_conn flow ret_to.user.place b)) next.wanted
          ∙ ap (λ (rules : List Rule). owes_error_if (is_any rules) flow ret (suspended_if (is_some (over_rule flow ret m k ret_conn)) flow (record { host = not s; link = link }) (put_conn (after_reply flow ret b) (Some ret_to.user.place) (with_return flow m k ret_conn)))) rules_none
          ∙ ap (λ (o : Option Rule). suspended_if (is_some o) flow (record { host = not s; link = link }) (put_conn (after_reply flow ret b) (Some ret_to.user.place) (with_return flow m k ret_conn))) none_wrong.1
          ∙ ap (λ (y : Bool). put_conn (if y then replied else b) (Some ret_to.user.place) (with_return flow m k ret_conn)) next.wanted
          ∙ ap (put_conn replied (Some ret_to.user.place)) (returned_is s ret_conn)

      ret_echo : (t : Bool) → has_echo (x.owing t) ≡ has_echo ((after_said_by s ret x).owing t)
      ret_echo =
          each_side (λ t os. has_echo (x.owing t) ≡ has_echo os) s (owed_after (is_returning_on link) (x.owing s)) x.owing
          (next_echo link (HasNumbers s m k (x.counts ret_of)) (x.owing s) led_ret.1.1.1) refl

      pub ret_read : (kept : List SentMessage) → ReadAs me n (tables_after_command flow kept ret b) (after_said_by s ret x)
      ret_read kept =
          subst (λ (z : SeenTables). ReadAs me n z (after_said_by s ret x)) (sym (ret_after kept))
          (read_counted (not s) link ret_of ret_to (returned_by s m k) ret_conn.came ret_then (after_said_by s ret x) refl refl (λ v. refl) (λ v. refl) ret_echo
          (each_side (λ t os. AreDue t (filter (is_due_of me n t) (pending_left own ret b.pending_replies)) os) s (owed_after (is_returning_on link) (x.owing s)) x.owing
          (ret_left own s ret (is_returning_on link) (ret_gives link m k) (λ due. refl) (ret_fits link) b.pending_replies (x.owing s) (r.pending_replies s))
          (subst (λ (ds : List PendingReply). AreDue (not s) ds (x.owing (not s))) (sym (filter_left (is_due_of me n (not s)) own ret b.pending_replies (sides_distinct me n s) (λ due. refl))) (r.pending_replies (not s))))
          (owes_step s x r.returning ret l) (fit_step s ret x l r.fit))

  -- ---- INR, INS

  abbrev Nothing_more : Sockets → Type 0
  Nothing_more u = Unit {0}

  pub inr_legal : (kept : List SentMessage) (link : ℕ) → command_rule flow kept (Inr link) b ≡ None → Legal s (Inr link) x
  inr_legal kept link v = let to = rule_opens s link (Inr link) v in legal_reported s (Inr link) x refl (leads_led s link to.0 Nothing_more to.1 tt)

  pub ins_legal : (kept : List SentMessage) (link : ℕ) → command_rule flow kept (Ins link) b ≡ None → Legal s (Ins link) x
  ins_legal kept link v = let to = rule_opens (not s) link (Ins link) v in legal_reported s (Ins link) x refl (leads_led (not s) link to.0 Nothing_more to.1 tt)

  pub inr_unbroken : (kept : List SentMessage) (link : ℕ) → Legal s (Inr link) x → command_rule flow kept (Inr link) b ≡ None
  inr_unbroken kept link l = ap (demuxed_rule flow (Inr link) b) (led_leads s link Nothing_more l.tally).1.0.leads

  pub ins_unbroken : (kept : List SentMessage) (link : ℕ) → Legal s (Ins link) x → command_rule flow kept (Ins link) b ≡ None
  ins_unbroken kept link l = ap (demuxed_rule flow (Ins link) b) (led_leads (not s) link Nothing_more l.tally).1.0.leads

  pub inr_read : (kept : List SentMessage) (link : ℕ) → Legal s (Inr link) x → ReadAs me n (tables_after_command flow kept (Inr link) b) (after_said_by s (Inr link) x)
  inr_read kept link l =
      subst (λ (z : SeenTables). ReadAs me n z (after_said_by s (Inr link) x)) (sym (ap (demuxed_after flow kept (Inr link) (record { host = s; link = link }) b) (led_leads s link Nothing_more l.tally).1.0.leads)) r

  pub ins_read : (kept : List SentMessage) (link : ℕ) → Legal s (Ins link) x → ReadAs me n (tables_after_command flow kept (Ins link) b) (after_said_by s (Ins link) x)
  ins_read kept link l =
      subst (λ (z : SeenTables). ReadAs me n z (after_said_by s (Ins link) x)) (sym (ap (demuxed_after flow kept (Ins link) (record { host = not s; link = link }) b) (led_leads (not s) link Nothing_more l.tally).1.0.leads)) r
