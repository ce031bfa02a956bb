-- What is seen of all that is said between two hosts meets what the one keeps and what waits at it; and what the host says
-- breaks no rule and keeps this.
use Rattle.std.proofs.Common.{◌≡◌, ℕ, Bool, true, false, not, ◌&&◌, if◌then◌else◌, List, [], ◌∷◌, ◌++◌, Option, None, Some, ◌⊎◌, inl, inr, refl, sym, ap, ◌∙◌, subst}
use Rattle.std.specs.List.{list_any}
use Rattle.ncp_wire.specs.declared.command.Command.{Command}
use Rattle.ncp_model.specs.Ends.{Ends}
use Rattle.ncp_monitor.specs.declared.pending_reply.PendingReply.{PendingReply}
use Rattle.ncp_monitor.specs.declared.pending_reply.ExpectedReply.{ExpectedReply}
use Rattle.ncp_monitor.specs.declared.finding.Rule.{Rule}
use Rattle.ncp_monitor.specs.declared.conn_state.ConnState.{ConnState}
use Rattle.ncp_interface.specs.declared.request.Request.{Request}
use Rattle.ncp_interface.specs.declared.request.Request.TheVariants.{Link, Size}
use Rattle.ncp_monitor.specs.declared.conn_state.FactKind.{FactKind}
use Rattle.ncp_monitor.specs.declared.observed_flow.ObservedFlow.{ObservedFlow}
use Rattle.ncp_monitor.specs.declared.observed_flow.Acceptance.TheVariants.{Right, Refused, Unclear}
use Rattle.ncp_monitor.specs.ConnStates.{SeenTables, is_of_sockets, conn_of, is_marked, is_topic, has_sent_cls, has_sent_request, with_due, facts_now, link_suspended_now, suspended_pair, index_with_sockets}
use Rattle.ncp_interface.specs.Sockets.{is_senders}
use Rattle.ncp_monitor.specs.Replies.{owes, error_wanted}
use Rattle.ncp_monitor.specs.Requests.{range_rule, link_suspended, used_acceptance, link_acceptance, left_acceptance, closes_side, after_cls, conn_acceptance, ranged_acceptance, request_acceptance, suspended_asked, asks, tables_after_request}
use Rattle.ncp_monitor.proofs.Shapes.{Shape, Say, Ask, Leave, own_step}
use Rattle.ncp_monitor.proofs.LinkOrder.{Sockets, same, same_is, put, Lacks}
use Rattle.ncp_monitor.proofs.Firsts.{first, Unique}
use Rattle.ncp_monitor.proofs.BooksAt.{conn_first}
use Rattle.ncp_monitor.proofs.Seeing.{seen, is_of, number_in}
use Rattle.ncp_proof_monitor_allocation.proofs.OwnMoves.{says_of, all_says}
use Rattle.ncp_proof_monitor_allocation.proofs.Tallies.{Tallies, AskGoes, LeaveGoes, suspended_tally, ask_hides, ask_goes, leave_hides, leave_goes}
use Rattle.ncp_proof_monitor_allocation.proofs.Changed.{kept_of}
use Rattle.ncp_proof_monitor_allocation.proofs.SeenTables.{asked_seen, closed_seen, rested_before, conn_seen, seen_of, is_suspended, suspended_of, links_of, receives_at, OneSeen}
use Rattle.ncp_proof_monitor_allocation.proofs.Users.{Linked, unused, own_request_right, own_cls_right}
use Rattle.ncp_proof_monitor_allocation.proofs.Resting.{OneSuspended, pair_suspended, link_suspended_too, pair_linked, fact_conns, fact_room, fact_keeps, fact_made, due_with, due_room}

pub record Meets (me n : ℕ) (m : Ends) (w : List Command) (b : SeenTables) : Type 0 where
  pub tally : Tallies receives_at (links_of me n b) (suspended_of me n b) (all_says w) (kept_of m) (seen_of me n b)
  pub unique : (u : Sockets) → Unique (is_of_sockets me n u.0 u.1) b.conns
  pub linked : Linked me n b

-- ---- with the same connections, and links that rest still at rest

pub same_conns : (me n : ℕ) (m : Ends) (w u : List Command) (b after : SeenTables) → after.conns ≡ b.conns → ((on : Bool) (link : ℕ) → is_marked me n (FactKind.LinkSuspended on link) b ≡ true → is_marked me n (FactKind.LinkSuspended on link) after ≡ true) → all_says u ≡ all_says w
    → Meets me n m w b → Meets me n m u after
same_conns me n m w u b after l k s meets = record {
  tally =
      subst (λ (x : List (Sockets × Say)). Tallies receives_at (links_of me n after) (suspended_of me n after) x (kept_of m) (seen_of me n after)) (sym s)
      (suspended_tally receives_at (links_of me n b) (suspended_of me n b) (links_of me n after) (suspended_of me n after) (all_says w) (kept_of m) (seen_of me n b) (kept_of m) (seen_of me n after)
      (λ link z. k true link z)
      (λ v r. (ap is_suspended (sym (there v)) ∙ r, (refl, ap seen (there v))))
      meets.tally);
  unique = λ v. subst (Unique (is_of_sockets me n v.0 v.1)) (sym l) (meets.unique v);
  linked = λ v conn link e r g. k (receives_at v) link (meets.linked v conn link (sym (there v) ∙ e) r g);
}
  where
    there : (v : Sockets) → conn_seen me n after v ≡ conn_seen me n b v
    there v = ap (λ (xs : List ConnState). first (is_of_sockets me n v.0 v.1) xs) l

-- ---- the other owes one reply more, and what is marked

module _ (me n : ℕ) (m : Ends) where
  abbrev saying : ObservedFlow
  saying = record { at = me; peer = n; sent = true }

  -- one more is due, of the host or of the other
  pub owed_meets : (w : List Command) (b : SeenTables) (flow : ObservedFlow) (wanted : ExpectedReply) (mandatory : Bool) → (owes flow wanted mandatory b).full ≡ false → Meets me n m w b → Meets me n m w (owes flow wanted mandatory b)
  owed_meets w b flow wanted mandatory f meets =
      let due : PendingReply = record { at = flow.at; peer = flow.peer; host = not flow.sent; wanted = wanted; mandatory = mandatory } in
      let is = due_with b due f in
      same_conns me n m w w b (with_due b due) is.1.0 (λ on link k. ap (list_any (is_topic me n (FactKind.LinkSuspended on link))) is.1.1 ∙ k) refl meets

  -- a link or another topic is marked
  pub marked_meets : (w : List Command) (b : SeenTables) (what : FactKind) → Meets me n m w b → Meets me n m w (facts_now me n what b)
  marked_meets w b what meets =
      same_conns me n m w w b (facts_now me n what b) (fact_conns me n what b) (λ on link k. fact_keeps me n what b (FactKind.LinkSuspended on link) k) refl meets

  -- ---- a request of the host is sent, and its connection or its link is suspended

  module _ (c : Command) (ws : List Command) (p : Sockets) (request : Request) (b : SeenTables) (said : says_of c ≡ (p, Ask (number_in request)) ∷ []) where
    pub hidden_verdict : range_rule c request ≡ None → (suspended_of me n b p ≡ true) ⊎ (link_suspended saying request b ≡ true) → request_acceptance saying c p.0 p.1 true request b ≡ Unclear None
    hidden_verdict range h =
        ap (ranged_acceptance saying c p.0 p.1 request b) range
        ∙ ap (λ (o : Option ConnState). if link_suspended saying request b then Unclear None else conn_acceptance saying c request b o) (conn_first me n p.0 p.1 b.conns)
        ∙ go (link_suspended saying request b) (conn_seen me n b p) h
      where
        go : (k : Bool) (o : Option ConnState) → (is_suspended o ≡ true) ⊎ (k ≡ true) → (if k then Unclear None else conn_acceptance saying c request b o) ≡ Unclear None
        go true o h = refl
        go false o (inr h) = absurd (cc h)
        go false None (inl h) = absurd (cc h)
        go false (Some conn) (inl h) =
            ap (λ (x : Bool). if x then Unclear None
            else if has_sent_cls conn true then Unclear (Some (Rule.Unended c conn.since))
            else if has_sent_request conn request then Refused (Rule.AskedAgain c conn.since)
            else link_acceptance saying c request b) h

  said_first : (c : Command) (ws : List Command) (p : Sockets) (say : Say) (b : SeenTables) → says_of c ≡ (p, say) ∷ [] → Meets me n m (c ∷ ws) b
      → Tallies receives_at (links_of me n b) (suspended_of me n b) ((p, say) ∷ all_says ws) (kept_of m) (seen_of me n b)
  said_first c ws p say b said meets = subst (λ (x : List (Sockets × Say)). Tallies receives_at (links_of me n b) (suspended_of me n b) (x ++ all_says ws) (kept_of m) (seen_of me n b)) said meets.tally

  -- a connection that is not suspended after it is another, and was not suspended before
  pub distinct_from : (b mid : SeenTables) (p : Sockets) → OneSuspended me n b mid p → (u : Sockets) → suspended_of me n mid u ≡ false → (suspended_of me n b u ≡ false) × (same u p ≡ false)
  distinct_from b mid p k u r = go (same u p) refl
    where
      go : (x : Bool) → same u p ≡ x → (suspended_of me n b u ≡ false) × (same u p ≡ false)
      go true e = let nay : true ≡ false = sym (ap (suspended_of me n mid) (same_is u p e) ∙ k.suspended) ∙ r in absurd (cc nay)
      go false e = (ap is_suspended (sym (k.seen u e)) ∙ r, e)

  -- a request of the host, whose connection and link are suspended after it
  ask_suspended : (c : Command) (ws : List Command) (p : Sockets) (number : ℕ) (b mid : SeenTables) → says_of c ≡ (p, Ask number) ∷ [] → OneSuspended me n b mid p → Linked me n mid
      → (receives_at p ≡ true → links_of me n mid number ≡ true) → Meets me n m (c ∷ ws) b → Meets me n m ws mid
  ask_suspended c ws p number b mid said k linked busy meets = record {
    tally =
        suspended_tally receives_at (links_of me n mid) (suspended_of me n mid) (links_of me n mid) (suspended_of me n mid) (all_says ws) (kept_of m) (seen_of me n b) (kept_of m) (seen_of me n mid)
        (λ l z. z)
        (λ u r. (r, (refl, ap seen (k.seen u (distinct_from b mid p k u r).1))))
        (ask_hides receives_at (links_of me n b) (suspended_of me n b) (links_of me n mid) (suspended_of me n mid) (all_says ws) (kept_of m) (seen_of me n b) p number
        (λ l z. k.known_facts (FactKind.LinkSuspended true l) z) busy (λ u r. distinct_from b mid p k u r)
        (said_first c ws p (Ask number) b said meets));
    unique = λ u. k.unique u (meets.unique u);
    linked = linked;
  }

  -- a CLS, whose connection is suspended after it
  leave_suspended : (c : Command) (ws : List Command) (p : Sockets) (b mid : SeenTables) → says_of c ≡ (p, Leave) ∷ [] → OneSuspended me n b mid p → Linked me n mid → Meets me n m (c ∷ ws) b → Meets me n m ws mid
  leave_suspended c ws p b mid said k linked meets = record {
    tally =
        suspended_tally receives_at (links_of me n b) (suspended_of me n mid) (links_of me n mid) (suspended_of me n mid) (all_says ws) (kept_of m) (seen_of me n b) (kept_of m) (seen_of me n mid)
        (λ l z. k.known_facts (FactKind.LinkSuspended true l) z)
        (λ u r. (r, (refl, ap seen (k.seen u (distinct_from b mid p k u r).1))))
        (leave_hides receives_at (links_of me n b) (suspended_of me n b) (suspended_of me n mid) (all_says ws) (kept_of m) (seen_of me n b) p (λ u r. distinct_from b mid p k u r) (said_first c ws p Leave b said meets));
    unique = λ u. k.unique u (meets.unique u);
    linked = linked;
  }

  -- the requested link is suspended too
  pub linked_fact : (b : SeenTables) (what : FactKind) → Linked me n b → Linked me n (facts_now me n what b)
  linked_fact b what linked u conn link e r l =
      fact_keeps me n what b (FactKind.LinkSuspended (receives_at u) link) (linked u conn link (sym (ap (λ (xs : List ConnState). first (is_of_sockets me n u.0 u.1) xs) (fact_conns me n what b)) ∙ e) r l)

  asked_suspended_then : (c : Command) (ws : List Command) (p : Sockets) (request : Request) (b : SeenTables) → says_of c ≡ (p, Ask (number_in request)) ∷ [] → is_of (is_senders p.0) true request ≡ true
      → (suspended_asked saying request (suspended_pair me n p.0 p.1 b)).full ≡ false → Meets me n m (c ∷ ws) b → Meets me n m ws (suspended_asked saying request (suspended_pair me n p.0 p.1 b))
  asked_suspended_then c ws p (Link link) b said sex f meets =
      let room = fact_room me n (FactKind.LinkSuspended true link) (suspended_pair me n p.0 p.1 b) f in
      ask_suspended c ws p link b (link_suspended_now me n true link (suspended_pair me n p.0 p.1 b)) said
      (link_suspended_too me n true link b (suspended_pair me n p.0 p.1 b) p (pair_suspended me n p b room))
      (linked_fact (suspended_pair me n p.0 p.1 b) (FactKind.LinkSuspended true link) (pair_linked me n p b room meets.linked))
      (λ g. fact_made me n (FactKind.LinkSuspended true link) (suspended_pair me n p.0 p.1 b) f) meets
  asked_suspended_then c ws p (Size size) b said sex f meets =
      ask_suspended c ws p size b (suspended_pair me n p.0 p.1 b) said (pair_suspended me n p b f) (pair_linked me n p b f meets.linked) (λ g. absurd (sender (is_senders p.0) sex g)) meets
    where
      sender : (x : Bool) → x ≡ true → not x ≡ true → ⊥
      sender true s g = cc g
      sender false s g = cc s

  -- so it is sent: no rule is broken
  pub hidden_ask : (c : Command) (ws : List Command) (p : Sockets) (request : Request) (b : SeenTables) → says_of c ≡ (p, Ask (number_in request)) ∷ [] → is_of (is_senders p.0) true request ≡ true
      → (tables_after_request saying c p.0 p.1 request (Unclear None) b).full ≡ false → Meets me n m (c ∷ ws) b → Meets me n m ws (tables_after_request saying c p.0 p.1 request (Unclear None) b)
  hidden_ask c ws p request b said sex f meets =
      let mid = suspended_asked saying request (suspended_pair me n p.0 p.1 b) in
      owed_meets ws mid saying (error_wanted 3 3 c) false f
      (asked_suspended_then c ws p request b said sex (due_room mid (record { at = me; peer = n; host = false; wanted = error_wanted 3 3 c; mandatory = false }) f) meets)

  pub hidden_leave : (c : Command) (ws : List Command) (p : Sockets) (b : SeenTables) → says_of c ≡ (p, Leave) ∷ [] → (after_cls saying c p.0 p.1 (Unclear None) b).full ≡ false
      → Meets me n m (c ∷ ws) b → Meets me n m ws (after_cls saying c p.0 p.1 (Unclear None) b)
  hidden_leave c ws p b said f meets =
      let mid = suspended_pair me n p.0 p.1 b in
      let room = due_room mid (record { at = me; peer = n; host = false; wanted = error_wanted 4 3 c; mandatory = false }) f in
      owed_meets ws mid saying (error_wanted 4 3 c) false f (leave_suspended c ws p b mid said (pair_suspended me n p b room) (pair_linked me n p b room meets.linked) meets)

  -- ---- a request or a CLS that is right

  one_meets : (c : Command) (ws : List Command) (p : Sockets) (s : Option Shape) (b after : SeenTables) → OneSeen me n b after p s → suspended_of me n b p ≡ false
      → Tallies receives_at (links_of me n b) (suspended_of me n b) (all_says ws) (kept_of m) (put (seen_of me n b) p s) → Meets me n m (c ∷ ws) b → Meets me n m ws after
  one_meets c ws p s b after one r t meets = record {
    tally =
        suspended_tally receives_at (links_of me n b) (suspended_of me n b) (links_of me n after) (suspended_of me n after) (all_says ws) (kept_of m) (put (seen_of me n b) p s) (kept_of m) (seen_of me n after)
        (λ l z. marked (FactKind.LinkSuspended true l) z)
        (λ u z. (rested_before me n b after p s one r u z, (refl, one.seen u))) t;
    unique = one.unique meets.unique;
    linked = λ u conn link e x l. by u conn link e x l (same u p) refl;
  }
    where
      marked : (what : FactKind) → is_marked me n what b ≡ true → is_marked me n what after ≡ true
      marked what z = ap (list_any (is_topic me n what)) one.known_facts ∙ z

      by : (u : Sockets) (conn : ConnState) (link : ℕ) → conn_seen me n after u ≡ Some conn → conn.suspended ≡ true → conn.link ≡ Some link → (x : Bool) → same u p ≡ x → is_marked me n (FactKind.LinkSuspended (receives_at u) link) after ≡ true
      by u conn link e x l true k =
          let there : conn_seen me n after p ≡ Some conn = ap (conn_seen me n after) (sym (same_is u p k)) ∙ e in
          let nay : true ≡ false = sym x ∙ sym (ap is_suspended there) ∙ one.calm r in absurd (cc nay)
      by u conn link e x l false k = marked (FactKind.LinkSuspended (receives_at u) link) (meets.linked u conn link (sym (one.others u k) ∙ e) x l)

  -- the request is sent: neither its connection nor its link is suspended

  asked_goes : (c : Command) (ws : List Command) (p : Sockets) (request : Request) (b : SeenTables) → says_of c ≡ (p, Ask (number_in request)) ∷ [] → is_of (is_senders p.0) true request ≡ true
      → suspended_of me n b p ≡ false → link_suspended saying request b ≡ false → Meets me n m (c ∷ ws) b → AskGoes receives_at (links_of me n b) (suspended_of me n b) (all_says ws) (kept_of m) (seen_of me n b) p (number_in request)
  asked_goes c ws p request b said sex r h meets =
      ask_goes receives_at (links_of me n b) (suspended_of me n b) (all_says ws) (kept_of m) (seen_of me n b) p (number_in request) r (hides request sex h) (said_first c ws p (Ask (number_in request)) b said meets)
    where
      hides : (q : Request) → is_of (is_senders p.0) true q ≡ true → link_suspended saying q b ≡ false → (receives_at p && links_of me n b (number_in q)) ≡ false
      hides (Link link) x y = ap (λ (z : Bool). z && links_of me n b link) x ∙ y
      hides (Size size) x y = ap (λ (z : Bool). not z && links_of me n b size) x

  pub ask_right : (c : Command) (ws : List Command) (p : Sockets) (request : Request) (b : SeenTables) → says_of c ≡ (p, Ask (number_in request)) ∷ [] → is_of (is_senders p.0) true request ≡ true
      → range_rule c request ≡ None → suspended_of me n b p ≡ false → link_suspended saying request b ≡ false → Meets me n m (c ∷ ws) b → request_acceptance saying c p.0 p.1 true request b ≡ Right
  ask_right c ws p request b said sex range r h meets =
      let goes = asked_goes c ws p request b said sex r h meets in
      own_request_right me n 0 b meets.unique meets.linked c p request sex range h r goes.right (linked_right request sex h goes.unused)
    where
      linked_right : (q : Request) → is_of (is_senders p.0) true q ≡ true → link_suspended saying q b ≡ false
          → (receives_at p ≡ true → (u : Sockets) → suspended_of me n b u ≡ false → receives_at u ≡ true → Lacks (number_in q) (seen_of me n b u)) → link_acceptance saying c q b ≡ Right
      linked_right (Link link) x y free = ap (used_acceptance saying c) (unused me n link b meets.unique meets.linked y (free x))
      linked_right (Size size) x y free = refl

  pub right_ask : (c : Command) (ws : List Command) (p : Sockets) (request : Request) (b : SeenTables) → says_of c ≡ (p, Ask (number_in request)) ∷ [] → is_of (is_senders p.0) true request ≡ true
      → suspended_of me n b p ≡ false → link_suspended saying request b ≡ false → (tables_after_request saying c p.0 p.1 request Right b).full ≡ false → Meets me n m (c ∷ ws) b → Meets me n m ws (tables_after_request saying c p.0 p.1 request Right b)
  right_ask c ws p request b said sex r h f meets =
      one_meets c ws p (own_step (Ask (number_in request)) (seen_of me n b p)) b (asks saying p.0 p.1 request b (index_with_sockets me n p.0 p.1 b.conns)) (asked_seen me n true p b request sex f) r
      (asked_goes c ws p request b said sex r h meets).tallies meets

  -- a CLS is sent, and its connection is not suspended
  pub record LeftRight (c : Command) (ws : List Command) (p : Sockets) (b : SeenTables) : Type 0 where
    pub right : left_acceptance saying c (conn_of me n p.0 p.1 b.conns) ≡ Right
    pub meets : Meets me n m ws (after_cls saying c p.0 p.1 Right b)

  pub right_leave : (c : Command) (ws : List Command) (p : Sockets) (b : SeenTables) → says_of c ≡ (p, Leave) ∷ [] → suspended_of me n b p ≡ false → Meets me n m (c ∷ ws) b → LeftRight c ws p b
  right_leave c ws p b said r meets = record {
    right = own_cls_right me n 0 b meets.unique meets.linked c p r goes.right;
    meets = one_meets c ws p (own_step Leave (seen_of me n b p)) b (closes_side saying b (index_with_sockets me n p.0 p.1 b.conns)) (closed_seen me n true p b (meets.unique p)) r goes.tallies meets;
  }
    where
      goes : LeaveGoes receives_at (links_of me n b) (suspended_of me n b) (all_says ws) (kept_of m) (seen_of me n b) p
      goes = leave_goes receives_at (links_of me n b) (suspended_of me n b) (all_says ws) (kept_of m) (seen_of me n b) p r (said_first c ws p Leave b said meets)
