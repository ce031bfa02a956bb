-- What is said between two hosts meets what the one keeps, through its calls, and through what it hears that is right, or
-- that is refused.
use Rattle.std.proofs.Common.{◌≡◌, ℕ, Bool, true, false, not, if◌then◌else◌, List, [], ◌∷◌, ◌++◌, Option, None, Some, refl, sym, ap, ◌∙◌, subst}
use Rattle.std.specs.FinMap.{get}
use Rattle.std.specs.List.{list_any}
use Rattle.ncp_wire.specs.declared.command.Command.{Command}
use Rattle.ncp_model.specs.declared.pair.Pair.{Pair}
use Rattle.ncp_model.specs.declared.outcomes.Heard.{Heard}
use Rattle.ncp_model.specs.Pairs.{sends}
use Rattle.ncp_model.specs.Endpoint.{Endpoint}
use Rattle.ncp_model.specs.Effect.{Effect, answer, end_after, made_by_hearing}
use Rattle.ncp_model.specs.Ends.{Ends}
use Rattle.ncp_monitor.specs.declared.pending_reply.ExpectedReply.{ExpectedReply}
use Rattle.ncp_monitor.specs.declared.finding.Rule.{Rule}
use Rattle.ncp_monitor.specs.declared.conn_state.ConnState.{ConnState}
use Rattle.ncp_interface.specs.declared.request.Request.{Request}
use Rattle.ncp_monitor.specs.declared.conn_state.FactKind.{FactKind}
use Rattle.ncp_monitor.specs.declared.observed_flow.ObservedFlow.{ObservedFlow}
use Rattle.ncp_monitor.specs.declared.observed_flow.Acceptance.TheVariants.{Right, Refused, Unclear}
use Rattle.ncp_monitor.specs.ConnStates.{SeenTables, is_of_sockets, has_sent_request, conn_of, is_marked, is_topic, index_with_sockets}
use Rattle.ncp_interface.specs.Sockets.{is_senders}
use Rattle.ncp_monitor.specs.Replies.{owes}
use Rattle.ncp_monitor.specs.Requests.{range_rule, link_suspended, link_acceptance, left_acceptance, conn_acceptance, ranged_acceptance, request_acceptance, asks, closes_side, tables_after_request, after_cls}
use Rattle.ncp_monitor.proofs.Shapes.{Shape, Say, Ask, Leave, their_legal, their_step, may_hear}
use Rattle.ncp_monitor.proofs.LinkOrder.{Sockets, same, same_is, put, Lacks, about}
use Rattle.ncp_monitor.proofs.BooksAt.{has_sockets, conn_first}
use Rattle.ncp_monitor.proofs.Seeing.{seen, is_of, number_in, their_right, their_leaves}
use Rattle.ncp_proof_monitor_allocation.proofs.KeptEnds.{kept}
use Rattle.ncp_proof_monitor_allocation.proofs.OwnMoves.{says_of, all_says, sockets_of, Moved}
use Rattle.ncp_proof_monitor_allocation.proofs.HeardMoves.{Closed}
use Rattle.ncp_proof_monitor_allocation.proofs.Tallies.{Tallies, suspended_tally}
use Rattle.ncp_proof_monitor_allocation.proofs.Changed.{kept_of, OneEnd, moved_tally, heard_tally, closed_tally}
use Rattle.ncp_proof_monitor_allocation.proofs.SeenTables.{conn_seen, seen_of, is_suspended, suspended_of, links_of, receives_at, OneSeen, asked_seen, closed_seen, rested_before}
use Rattle.ncp_proof_monitor_allocation.proofs.Users.{first_passes}
use Rattle.ncp_proof_monitor_allocation.proofs.Meets.{Meets, same_conns, owed_meets}

pub says_append : (w u : List Command) → all_says (w ++ u) ≡ all_says w ++ all_says u
says_append [] u = refl
says_append (c ∷ w) u = ap (λ (x : List (Sockets × Say)). says_of c ++ x) (says_append w u) ∙ sym (joined (says_of c) (all_says w) (all_says u))
  where
    joined : (x y z : List (Sockets × Say)) → (x ++ y) ++ z ≡ x ++ (y ++ z)
    joined [] y z = refl
    joined (s ∷ x) y z = ap (λ (v : List (Sockets × Say)). s ∷ v) (joined x y z)

nothing_after : {A : Type 0} (x : List A) → x ++ [] ≡ x
nothing_after [] = refl
nothing_after (y ∷ ys) = ap (λ zs. y ∷ zs) (nothing_after ys)

module _ (me n : ℕ) (m : Ends) (w : List Command) (b : SeenTables) where
  abbrev hearing : ObservedFlow
  hearing = record { at = me; peer = n; sent = false }

  -- ---- what the host does by itself, and says of it

  pub host_meets : (now : Ends) (pair : Pair) (after : Option Endpoint) (cs : List Command) → OneEnd m now pair after → Moved (sends pair) pair (get m pair) after cs
      → ((k : ℕ) → all_says cs ≡ (sockets_of pair, Ask k) ∷ [] → receives_at (sockets_of pair) ≡ true → (u : Sockets) → receives_at u ≡ true → Lacks k (kept_of m u))
      → Meets me n m w b → Meets me n now (w ++ cs) b
  host_meets now pair after cs one moved free meets = record {
    tally =
        subst (λ (x : List (Sockets × Say)). Tallies receives_at (links_of me n b) (suspended_of me n b) x (kept_of now) (seen_of me n b)) (sym (says_append w cs))
        (moved_tally receives_at (links_of me n b) (suspended_of me n b) m now pair (all_says w) (seen_of me n b) after cs one moved free meets.tally);
    unique = meets.unique;
    linked = meets.linked;
  }

  -- ---- what is refused: the host makes the reply that it owes

  -- nothing is said of a connection
  pub unsaid_meets : (u : List Command) → all_says u ≡ [] → Meets me n m w b → Meets me n m (w ++ u) b
  unsaid_meets u s meets =
      same_conns me n m w (w ++ u) b b refl (λ on link k. k) (says_append w u ∙ ap (λ (x : List (Sockets × Say)). all_says w ++ x) s ∙ nothing_after (all_says w)) meets

  pub refused_meets : (c : Command) (wanted : ExpectedReply) (mandatory : Bool) → says_of c ≡ [] → (owes hearing wanted mandatory b).full ≡ false → Meets me n m w b → Meets me n m (w ++ c ∷ []) (owes hearing wanted mandatory b)
  refused_meets c wanted mandatory s room meets = owed_meets me n m (w ++ c ∷ []) b hearing wanted mandatory room (unsaid_meets (c ∷ []) (ap (λ (x : List (Sockets × Say)). x ++ []) s) meets)

  -- ---- a request that is right

  pub record TheirRequest (c : Command) (p : Sockets) (right : Bool) (request : Request) : Type 0 where
    pub sexes : right ≡ true
    pub range : range_rule c request ≡ None
    pub unmarked : link_suspended hearing request b ≡ false
    pub calm : suspended_of me n b p ≡ false
    pub legal : their_legal (Ask (number_in request)) (seen_of me n b p) ≡ true
    pub unused : link_acceptance hearing c request b ≡ Right

  pub their_request : (c : Command) (p : Sockets) (right : Bool) (request : Request) → is_of (is_senders p.0) false request ≡ true → request_acceptance hearing c p.0 p.1 right request b ≡ Right → TheirRequest c p right request
  their_request c p right request sex v = by_sex right refl v
    where
      conns : (o : Option ConnState) → conn_seen me n b p ≡ o → conn_acceptance hearing c request b o ≡ Right
          → (is_suspended o ≡ false) × ((their_legal (Ask (number_in request)) (seen o) ≡ true) × (link_acceptance hearing c request b ≡ Right))
      conns None e v = (refl, (refl, v))
      conns (Some conn) e v =
          let local : conn.local ≡ p.0 = (has_sockets me n p.0 p.1 conn (first_passes (is_of_sockets me n p.0 p.1) b.conns conn e)).local in
          let may = their_right hearing c request b conn refl (ap (λ (x : ℕ). is_of (is_senders x) false request) local ∙ sex) v in
          (may.0, (may.1, by conn.suspended conn.peer_left (has_sent_request conn request) v))
        where
          by : (r l a : Bool) → (if r then Unclear None else if l then Unclear (Some (Rule.Unended c conn.since)) else if a then Refused (Rule.AskedAgain c conn.since) else link_acceptance hearing c request b) ≡ Right → link_acceptance hearing c request b ≡ Right
          by true l a v = absurd (cc v)
          by false true a v = absurd (cc v)
          by false false true v = absurd (cc v)
          by false false false v = v

      by_link : (k : Bool) → link_suspended hearing request b ≡ k → right ≡ true → range_rule c request ≡ None → (if k then Unclear None else conn_acceptance hearing c request b (conn_of me n p.0 p.1 b.conns)) ≡ Right → TheirRequest c p right request
      by_link true z s r v = absurd (cc v)
      by_link false z s r v =
          let l = conns (conn_seen me n b p) refl (sym (ap (conn_acceptance hearing c request b) (conn_first me n p.0 p.1 b.conns)) ∙ v) in
          record { sexes = s; range = r; unmarked = z; calm = l.0; legal = l.1.0; unused = l.1.1 }

      by_range : (o : Option Rule) → range_rule c request ≡ o → right ≡ true → ranged_acceptance hearing c p.0 p.1 request b o ≡ Right → TheirRequest c p right request
      by_range (Some wrong) z s v = absurd (cc v)
      by_range None z s v = by_link (link_suspended hearing request b) refl s z v

      by_sex : (x : Bool) → right ≡ x → (if not x then Refused (Rule.Sex c) else ranged_acceptance hearing c p.0 p.1 request b (range_rule c request)) ≡ Right → TheirRequest c p right request
      by_sex false z v = absurd (cc v)
      by_sex true z v = by_range (range_rule c request) refl z v

  -- so it may be said by what the host keeps
  pub may_be_heard : (p : Sockets) (x : Say) → suspended_of me n b p ≡ false → their_legal x (seen_of me n b p) ≡ true → Meets me n m w b → their_legal x (kept_of m p) ≡ true
  may_be_heard p x r l meets = may_hear (about p (all_says w)) (kept_of m p) (seen_of me n b p) x l (meets.tally.pairs p r)

  -- one connection is another, and what waits may be more
  heard_meets : (now : Ends) (u : List Command) (after : SeenTables) (p : Sockets) (s : Option Shape) → OneSeen me n b after p s → suspended_of me n b p ≡ false
      → Tallies receives_at (links_of me n b) (suspended_of me n b) (all_says u) (kept_of now) (put (seen_of me n b) p s) → Meets me n m w b → Meets me n now u after
  heard_meets now u after p s one r t meets = record {
    tally =
        suspended_tally receives_at (links_of me n b) (suspended_of me n b) (links_of me n after) (suspended_of me n after) (all_says u) (kept_of now) (put (seen_of me n b) p s) (kept_of now) (seen_of me n after)
        (λ l z. marked (FactKind.LinkSuspended true l) z)
        (λ v z. (rested_before me n b after p s one r v z, (refl, one.seen v))) t;
    unique = one.unique meets.unique;
    linked = λ v conn link e x l. by v conn link e x l (same v p) refl;
  }
    where
      marked : (what : FactKind) → is_marked me n what b ≡ true → is_marked me n what after ≡ true
      marked what z = ap (list_any (is_topic me n what)) one.known_facts ∙ z

      by : (v : Sockets) (conn : ConnState) (link : ℕ) → conn_seen me n after v ≡ Some conn → conn.suspended ≡ true → conn.link ≡ Some link → (x : Bool) → same v p ≡ x → is_marked me n (FactKind.LinkSuspended (receives_at v) link) after ≡ true
      by v conn link e x l true k =
          let there : conn_seen me n after p ≡ Some conn = ap (conn_seen me n after) (sym (same_is v p k)) ∙ e in
          let nay : true ≡ false = sym x ∙ sym (ap is_suspended there) ∙ one.calm r in absurd (cc nay)
      by v conn link e x l false k = marked (FactKind.LinkSuspended (receives_at v) link) (meets.linked v conn link (sym (one.others v k) ∙ e) x l)

  -- the request is taken by both
  pub request_meets : (now : Ends) (c : Command) (p : Sockets) (right : Bool) (request : Request) (after : Option Endpoint) → is_of (is_senders p.0) false request ≡ true → TheirRequest c p right request
      → OneEnd m now (record { local = p.0; remote = p.1 }) after → kept (sends (record { local = p.0; remote = p.1 })) after ≡ their_step (Ask (number_in request)) (kept_of m p)
      → (tables_after_request hearing c p.0 p.1 request Right b).full ≡ false → Meets me n m w b → Meets me n now w (tables_after_request hearing c p.0 p.1 request Right b)
  request_meets now c p right request after sex q one s room meets =
      heard_meets now w (asks hearing p.0 p.1 request b (index_with_sockets me n p.0 p.1 b.conns)) p (their_step (Ask (number_in request)) (seen_of me n b p)) (asked_seen me n false p b request sex room) q.calm
      (heard_tally receives_at (links_of me n b) (suspended_of me n b) m now (record { local = p.0; remote = p.1 }) (all_says w) (seen_of me n b) after (Ask (number_in request)) one s q.legal meets.tally)
      meets

  -- ---- a CLS that is right

  pub their_cls : (c : Command) (p : Sockets) → left_acceptance hearing c (conn_of me n p.0 p.1 b.conns) ≡ Right → (suspended_of me n b p ≡ false) × (their_legal Leave (seen_of me n b p) ≡ true)
  their_cls c p v = go (conn_seen me n b p) (sym (ap (left_acceptance hearing c) (conn_first me n p.0 p.1 b.conns)) ∙ v)
    where
      go : (o : Option ConnState) → left_acceptance hearing c o ≡ Right → (is_suspended o ≡ false) × (their_legal Leave (seen o) ≡ true)
      go None v = absurd (cc v)
      go (Some conn) v = their_leaves hearing c conn refl v

  -- it is known, or matched at once
  pub cls_meets : (now : Ends) (c : Command) (p : Sockets) (act : Effect Heard) → suspended_of me n b p ≡ false → their_legal Leave (seen_of me n b p) ≡ true
      → OneEnd m now (record { local = p.0; remote = p.1 }) (end_after (get m (record { local = p.0; remote = p.1 })) act)
      → Closed (sends (record { local = p.0; remote = p.1 })) (record { local = p.0; remote = p.1 }) (get m (record { local = p.0; remote = p.1 })) act
      → Meets me n m w b → Meets me n now (w ++ made_by_hearing (answer act)) (after_cls hearing c p.0 p.1 Right b)
  cls_meets now c p act r l one closed meets =
      heard_meets now (w ++ made_by_hearing (answer act)) (closes_side hearing b (index_with_sockets me n p.0 p.1 b.conns)) p (their_step Leave (seen_of me n b p)) (closed_seen me n false p b (meets.unique p)) r
      (subst (λ (x : List (Sockets × Say)). Tallies receives_at (links_of me n b) (suspended_of me n b) x (kept_of now) (put (seen_of me n b) p (their_step Leave (seen_of me n b p)))) (sym (says_append w (made_by_hearing (answer act))))
      (closed_tally receives_at (links_of me n b) (suspended_of me n b) m now (record { local = p.0; remote = p.1 }) (all_says w) (seen_of me n b) act one closed l meets.tally))
      meets
