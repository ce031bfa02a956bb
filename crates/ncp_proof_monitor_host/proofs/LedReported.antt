-- What was said meets what the host keeps, in the books after a command of the other that names a link, wherever it leads.
use Rattle.std.proofs.Common.{◌≡◌, ◌⊎◌, inl, inr, ℕ, Bool, true, false, not, ◌&&◌, ◌||◌, if◌then◌else◌, List, [], Some, is_some, refl, sym, ap, ◌∙◌, subst}
use Rattle.std.specs.Prelude.{◌-◌, ◌+◌, ◌^◌, nat_lt}
use Rattle.std.specs.FinMap.{get}
use Rattle.std.specs.List.{list_any, position}
use Rattle.std.proofs.lemmas.List.{append-nil}
use Rattle.ncp_wire.specs.declared.command.Command.{Command}
use Rattle.ncp_wire.specs.declared.command.Command.TheVariants.{Nop, All, Gvb, Ret}
use Rattle.ncp_model.specs.declared.pair.Pair.{Pair}
use Rattle.ncp_model.specs.Ends.{Ends}
use Rattle.ncp_monitor.specs.declared.pending_reply.ExpectedReply.{ExpectedReply}
use Rattle.ncp_interface.specs.declared.sent_message.SentMessage.{SentMessage}
use Rattle.ncp_monitor.specs.declared.link_target.ReceiveLink.{ReceiveLink}
use Rattle.ncp_monitor.specs.declared.link_target.LinkTarget.{LinkTarget}
use Rattle.ncp_monitor.specs.declared.conn_state.ConnState.{ConnState}
use Rattle.ncp_monitor.specs.declared.conn_state.FactKind.{FactKind}
use Rattle.ncp_monitor.specs.declared.observed_flow.ObservedFlow.{ObservedFlow}
use Rattle.ncp_monitor.specs.ConnStates.{SeenTables, has_link, has_sent_cls, conn_at_index, is_topic, put_conn, link_suspended_now, suspended_pair}
use Rattle.ncp_monitor.specs.Replies.{is_own, is_wanted, pending_left, owes, error_wanted, after_reply}
use Rattle.ncp_monitor.specs.Requests.{is_link_busy}
use Rattle.ncp_monitor.specs.Allocation.{speaks_receiver, target_on, kept_sum, part_returned, limit_rule, over_rule, returned_rules, other_code, owes_error, owes_error_if, with_grant, asked_back, recalled, with_return, suspended_if, is_any, after_wanted_ret, suspended_conn, after_open, demuxed_after}
use Rattle.ncp_monitor.proofs.LinkOrder.{Sockets, same, same_is}
use Rattle.ncp_proof_monitor_allocation.proofs.Changed.{OneEnd}
use Rattle.ncp_proof_monitor_allocation.proofs.SeenTables.{conn_seen, is_suspended, suspended_of}
use Rattle.ncp_proof_monitor_allocation.proofs.Resting.{OneSuspended, fact_conns, fact_keeps, due_with, due_room, pair_suspended, pair_linked}
use Rattle.ncp_proof_monitor_allocation.proofs.Meets.{Meets}
use Rattle.ncp_proof_monitor_allocation.proofs.Unclears.{unclear_meets}
use Rattle.ncp_proof_monitor_allocation.proofs.Untaken.{Held}
use Rattle.ncp_proof_monitor_allocation.proofs.HeldLinks.{its_link_suspended, suspended_held}
use Rattle.ncp_proof_monitor_allocation.proofs.Echoing.{Echoing}
use Rattle.ncp_proof_monitor_allocation.proofs.Came.{has_come, Came}
use Rattle.ncp_proof_monitor_allocation.proofs.EndsHear.{holds_same}
use Rattle.ncp_proof_monitor_allocation.proofs.TidyBooks.{numbered, led_place, reply_conns}
use Rattle.ncp_proof_monitor_allocation.proofs.LinkPlaces.{user_found}
use Rattle.ncp_proof_monitor_allocation.proofs.SameShapes.{SameShapes, shapes_meets, shapes_held, shapes_came, conns_same, numbered_same}
use Rattle.ncp_proof_monitor_host.proofs.ReportedSteps.{SameEchoes, same_marks, link_echoes, rest_echoes, echo_reported, came_told}

pub record Beside (me n : ℕ) (m : Ends) (awaited : Bool) (w : List Command) (b : SeenTables) : Type 0 where
  pub meets : Meets me n m w b
  pub held : Held me n m b
  pub echoing : Echoing me n awaited w b
  pub came : Came me n m w b

module _ (me n : ℕ) (m : Ends) (awaited : Bool) (w : List Command) where
  abbrev hearing : ObservedFlow
  hearing = record { at = me; peer = n; sent = false }

  abbrev Now : SeenTables → Type 0
  Now b = Beside me n m awaited w b

  same_echoing : (b after : SeenTables) → SameEchoes me n b after → Echoing me n awaited w b → Echoing me n awaited w after
  same_echoing b after same h = subst (λ (x : List Command). Echoing me n awaited x after) (append-nil w) (echo_reported me n awaited w [] b after same refl h)

  beside_shapes : (b now : SeenTables) → SameShapes me n b now → SameEchoes me n b now → Now b → Now now
  beside_shapes b now k e t = record { meets = shapes_meets me n m w b now k t.meets; held = shapes_held me n m b now k t.held; echoing = same_echoing b now e t.echoing; came = shapes_came me n m w b now k t.came }

  beside_owes : (b : SeenTables) (wanted : ExpectedReply) (mandatory : Bool) → (owes hearing wanted mandatory b).full ≡ false → Now b → Now (owes hearing wanted mandatory b)
  beside_owes b wanted mandatory room t =
      let is = due_with b (record { at = me; peer = n; host = true; wanted = wanted; mandatory = mandatory }) room in
      beside_shapes b (owes hearing wanted mandatory b) (conns_same me n b (owes hearing wanted mandatory b) is.1.0 (λ on link z. ap (list_any (is_topic me n (FactKind.LinkSuspended on link))) is.1.1 ∙ z) t.meets.unique t.meets.linked)
      (same_marks me n b (owes hearing wanted mandatory b) is.1.1) t

  owes_room : (b : SeenTables) (wanted : ExpectedReply) (mandatory : Bool) → (owes hearing wanted mandatory b).full ≡ false → b.full ≡ false
  owes_room b wanted mandatory f = due_room b (record { at = me; peer = n; host = true; wanted = wanted; mandatory = mandatory }) f

  beside_error_if : (wrong : Bool) (c : Command) (b : SeenTables) → (owes_error_if wrong hearing c b).full ≡ false → Now b → Now (owes_error_if wrong hearing c b)
  beside_error_if true c b f t = beside_owes b (error_wanted 5 (other_code c) c) false f t
  beside_error_if false c b f t = t

  beside_link : (b : SeenTables) (host : Bool) (link : ℕ) → Now b → Now (link_suspended_now me n host link b)
  beside_link b host link t =
      beside_shapes b (link_suspended_now me n host link b)
      (conns_same me n b (link_suspended_now me n host link b) (fact_conns me n (FactKind.LinkSuspended host link) b) (λ on l z. fact_keeps me n (FactKind.LinkSuspended host link) b (FactKind.LinkSuspended on l) z) t.meets.unique t.meets.linked)
      (link_echoes me n host link b) t

  beside_link_if : (suspended : Bool) (receive_link : ReceiveLink) (b : SeenTables) → Now b → Now (suspended_if suspended hearing receive_link b)
  beside_link_if true receive_link b t = beside_link b receive_link.host receive_link.link t
  beside_link_if false receive_link b t = t

  -- a connection is suspended
  beside_suspended : (b : SeenTables) (p : Sockets) → (suspended_pair me n p.0 p.1 b).full ≡ false → Now b → Now (suspended_pair me n p.0 p.1 b)
  beside_suspended b p f t = record {
    meets = unclear_meets me n m m pair (get m pair) w b mid still k (pair_linked me n p b f t.meets.linked) t.meets;
    held = suspended_held me n m m w b mid pair (get m pair) still k (λ conn link s l. its_link_suspended me n p b conn link f s l) (λ link s o. inl o) t.meets t.held;
    echoing = same_echoing b mid (rest_echoes me n p b) t.echoing;
    came = came_told me n m m w w b mid pair (get m pair) still (λ r. holds_same (get m pair)) (λ v. refl) (λ v z. suspended v (same v p) refl z) (λ link z. k.known_facts (FactKind.LinkSuspended true link) z) (λ v old g r s a z h. come v (same v p) refl h) t.came;
  }
    where
      pair : Pair
      pair = record { local = p.0; remote = p.1 }

      mid : SeenTables
      mid = suspended_pair me n p.0 p.1 b

      k : OneSuspended me n b (suspended_pair me n p.0 p.1 b) p
      k = pair_suspended me n p b f

      still : OneEnd m m (record { local = p.0; remote = p.1 }) (get m (record { local = p.0; remote = p.1 }))
      still = record { there = refl; elsewhere = λ q d. refl }

      suspended : (v : Sockets) (x : Bool) → same v p ≡ x → suspended_of me n b v ≡ true → suspended_of me n (suspended_pair me n p.0 p.1 b) v ≡ true
      suspended v true d z = ap (suspended_of me n (suspended_pair me n p.0 p.1 b)) (same_is v p d) ∙ k.suspended
      suspended v false d z = ap is_suspended (k.seen v d) ∙ z

      come : (v : Sockets) (x : Bool) → same v p ≡ x → has_come (conn_seen me n b v) ≡ true → (suspended_of me n (suspended_pair me n p.0 p.1 b) v ≡ true) ⊎ (has_come (conn_seen me n (suspended_pair me n p.0 p.1 b) v) ≡ true)
      come v true d h = inl (ap (suspended_of me n (suspended_pair me n p.0 p.1 b)) (same_is v p d) ∙ k.suspended)
      come v false d h = inr (ap has_come (k.seen v d) ∙ h)

  -- other numbers
  beside_put : (receive_link : ReceiveLink) (b : SeenTables) (place : ℕ) (conn : ConnState) (messages bits : ℕ) (recall : Bool) → position (has_link me n receive_link.host receive_link.link) b.conns ≡ Some place
      → conn ≡ numbered messages bits recall (conn_at_index b.conns place).came (conn_at_index b.conns place) → Now b → Now (put_conn b (Some place) conn)
  beside_put receive_link b place conn messages bits recall found is t =
      let has = user_found me n receive_link.host receive_link.link b t.meets.unique place found in
      let old = conn_at_index b.conns has.user.place in
      subst (λ (x : ConnState). Now (put_conn b (Some place) x)) (sym is)
      (subst (λ (i : ℕ). Now (put_conn b (Some i) (numbered messages bits recall (conn_at_index b.conns i).came (conn_at_index b.conns i)))) has.there
      (beside_shapes b (put_conn b (Some has.user.place) (numbered messages bits recall old.came old))
      (numbered_same me n receive_link.host receive_link.link b has.u has.user messages bits recall old.came t.meets.unique t.meets.linked (λ z. sym (ap has_come has.user.seen) ∙ z)) (refl, refl) t))

  module _ (kept : List SentMessage) (receive_link : ReceiveLink) (b : SeenTables) where
    beside_conn : (c : Command) (place : ℕ) → (owes_error hearing c false (suspended_conn hearing place b)).full ≡ false → Now b → Now (owes_error hearing c false (suspended_conn hearing place b))
    beside_conn c place f t =
        let conn = conn_at_index b.conns place in
        let mid = suspended_conn hearing place b in
        beside_owes mid (error_wanted 5 (other_code c) c) false f (beside_suspended b (conn.local, conn.remote) (owes_room mid (error_wanted 5 (other_code c) c) false f) t)

    beside_open : (c : Command) (place : ℕ) → position (has_link me n receive_link.host receive_link.link) b.conns ≡ Some place → (after_open hearing kept c receive_link place b).full ≡ false → Now b → Now (after_open hearing kept c receive_link place b)
    beside_open (All link messages bits) place found f t =
        beside_error_if (is_some (limit_rule (All link messages bits) (kept_sum conn.messages messages) (kept_sum conn.bits bits))) (All link messages bits) (put_conn b (Some place) (with_grant hearing messages bits conn)) f
        (by (nat_lt 65535 (conn.messages + messages) || nat_lt (2 ^ 32 - 1) (conn.bits + bits)))
      where
        conn : ConnState
        conn = conn_at_index b.conns place

        by : (x : Bool) → Now (put_conn b (Some place) (if x then conn_at_index b.conns place else record (conn_at_index b.conns place) { messages = (conn_at_index b.conns place).messages + messages; bits = (conn_at_index b.conns place).bits + bits }))
        by true = beside_put receive_link b place (conn_at_index b.conns place) (conn_at_index b.conns place).messages (conn_at_index b.conns place).bits (conn_at_index b.conns place).recall found refl t
        by false =
            beside_put receive_link b place (record (conn_at_index b.conns place) { messages = (conn_at_index b.conns place).messages + messages; bits = (conn_at_index b.conns place).bits + bits })
            ((conn_at_index b.conns place).messages + messages) ((conn_at_index b.conns place).bits + bits) (conn_at_index b.conns place).recall found refl t
    beside_open (Gvb link fm fb) place found f t = go (has_sent_cls (conn_at_index b.conns place) true) f
      where
        conn : ConnState
        conn = conn_at_index b.conns place

        mid : SeenTables
        mid = owes_error_if (conn_at_index b.conns place).recall hearing (Gvb link fm fb) b

        now : SeenTables
        now = put_conn (owes_error_if (conn_at_index b.conns place).recall hearing (Gvb link fm fb) b) (Some place) (recalled hearing fm fb (conn_at_index b.conns place))

        conns : (x : Bool) → (owes_error_if x hearing (Gvb link fm fb) b).full ≡ false → (owes_error_if x hearing (Gvb link fm fb) b).conns ≡ b.conns
        conns true f = (due_with b (record { at = me; peer = n; host = true; wanted = error_wanted 5 (other_code (Gvb link fm fb)) (Gvb link fm fb); mandatory = false }) f).1.0
        conns false f = refl

        put_there : mid.full ≡ false → Now now
        put_there f =
            let l = conns conn.recall f in
            beside_put receive_link mid place (recalled hearing fm fb conn) (conn.messages - part_returned conn.messages fm) (conn.bits - part_returned conn.bits fb) true (ap (position (has_link me n receive_link.host receive_link.link)) l ∙ found)
            (sym (ap (λ (xs : List ConnState). numbered (conn.messages - part_returned conn.messages fm) (conn.bits - part_returned conn.bits fb) true (conn_at_index xs place).came (conn_at_index xs place)) l))
            (beside_error_if conn.recall (Gvb link fm fb) b f t)

        go : (x : Bool) → (if x then now else owes hearing (asked_back link fm fb (conn_at_index b.conns place)) (true && not (is_link_busy me n (Some link) kept)) now).full ≡ false
            → Now (if x then now else owes hearing (asked_back link fm fb (conn_at_index b.conns place)) (true && not (is_link_busy me n (Some link) kept)) now)
        go true f = put_there f
        go false f =
            beside_owes now (asked_back link fm fb conn) (true && not (is_link_busy me n (Some link) kept)) f
            (put_there (owes_room now (asked_back link fm fb conn) (true && not (is_link_busy me n (Some link) kept)) f))
    beside_open (Ret link messages bits) place found f t = go (is_wanted (is_own hearing) (Ret link messages bits) b.pending_replies) refl f
      where
        c : Command
        c = Ret link messages bits

        conn : ConnState
        conn = conn_at_index b.conns place

        replied : SeenTables
        replied = after_reply hearing (Ret link messages bits) b

        now : SeenTables
        now = put_conn (after_reply hearing (Ret link messages bits) b) (Some place) (with_return hearing messages bits (conn_at_index b.conns place))

        reply_marks : (after_reply hearing (Ret link messages bits) b).known_facts ≡ b.known_facts
        reply_marks = by (is_wanted (is_own hearing) (Ret link messages bits) b.pending_replies)
          where
            by : (x : Bool) → (if x then record b { pending_replies = pending_left (is_own hearing) (Ret link messages bits) b.pending_replies } else b).known_facts ≡ b.known_facts
            by true = refl
            by false = refl

        put_there : Now now
        put_there =
            let l = reply_conns hearing (Ret link messages bits) b in
            beside_put receive_link replied place (with_return hearing messages bits conn) (conn.messages - messages) (conn.bits - bits) false (ap (position (has_link me n receive_link.host receive_link.link)) l ∙ found)
            (sym (ap (λ (xs : List ConnState). numbered (conn.messages - messages) (conn.bits - bits) false (conn_at_index xs place).came (conn_at_index xs place)) l))
            (beside_shapes b replied (conns_same me n b replied l (λ on link z. ap (list_any (is_topic me n (FactKind.LinkSuspended on link))) reply_marks ∙ z) t.meets.unique t.meets.linked) (same_marks me n b replied reply_marks) t)

        go : (x : Bool) → is_wanted (is_own hearing) (Ret link messages bits) b.pending_replies ≡ x → (if x then after_wanted_ret hearing (Ret link messages bits) receive_link messages bits place b else owes_error hearing (Ret link messages bits) false (suspended_conn hearing place b)).full ≡ false
            → Now (if x then after_wanted_ret hearing (Ret link messages bits) receive_link messages bits place b else owes_error hearing (Ret link messages bits) false (suspended_conn hearing place b))
        go true e f =
            beside_error_if (is_any (returned_rules hearing c messages bits conn b.pending_replies)) c (suspended_if (is_some (over_rule hearing c messages bits conn)) hearing receive_link now) f
            (beside_link_if (is_some (over_rule hearing c messages bits conn)) receive_link now put_there)
        go false e f = beside_conn c place f t
    beside_open Nop place found f t = t
    beside_open c place found f t = t

    pub led_beside : (c : Command) (led : LinkTarget) → target_on (record { at = me; peer = n; sent = false }) receive_link b ≡ led → (demuxed_after (record { at = me; peer = n; sent = false }) kept c receive_link b led).full ≡ false
        → Beside me n m awaited w b → Beside me n m awaited w (demuxed_after (record { at = me; peer = n; sent = false }) kept c receive_link b led)
    led_beside c LinkTarget.Rests e f t = beside_owes b (error_wanted 5 (other_code c) c) false f t
    led_beside c LinkTarget.Nobody e f t = go (speaks_receiver hearing receive_link) f
      where
        rested : SeenTables
        rested = link_suspended_now me n receive_link.host receive_link.link b

        go : (x : Bool) → (if x then owes hearing (error_wanted 5 5 c) true b else owes_error hearing c false rested).full ≡ false → Now (if x then owes hearing (error_wanted 5 5 c) true b else owes_error hearing c false rested)
        go true f = beside_owes b (error_wanted 5 5 c) true f t
        go false f = beside_owes rested (error_wanted 5 (other_code c) c) false f (beside_link b receive_link.host receive_link.link t)
    led_beside c LinkTarget.Closed e f t =
        let suspended = not (speaks_receiver hearing receive_link) in
        beside_owes (suspended_if suspended hearing receive_link b) (error_wanted 5 (other_code c) c) false f (beside_link_if suspended receive_link b t)
    led_beside c (LinkTarget.Unasked place) e f t = go (speaks_receiver hearing receive_link) f
      where
        go : (x : Bool) → (owes_error hearing c false (if x then suspended_conn hearing place b else b)).full ≡ false → Now (owes_error hearing c false (if x then suspended_conn hearing place b else b))
        go true f = beside_conn c place f t
        go false f = beside_owes b (error_wanted 5 (other_code c) c) false f t
    led_beside c (LinkTarget.Open place) e f t = beside_open c place (led_place hearing receive_link b place e) f t
