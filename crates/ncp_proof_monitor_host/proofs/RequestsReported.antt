-- An RTS or a STR of the other comes to the host: all that is known of what was said stays known, whether the books find it
-- right, refused or unclear.
use Rattle.std.proofs.Common.{◌≡◌, ℕ, Bool, true, false, not, if◌then◌else◌, List, [], ◌∷◌, ◌++◌, Option, None, Some, is_some, ◌⊎◌, inl, inr, refl, sym, ap, ◌∙◌, subst}
use Rattle.std.proofs.lemmas.List.{append-nil}
use Rattle.std.specs.FinMap.{get}
use Rattle.std.specs.List.{list_any, position}
use Rattle.std.proofs.lemmas.Bool.{and_parts}
use Rattle.ncp_wire.specs.declared.command.Command.{Command}
use Rattle.ncp_wire.specs.declared.command.Command.TheVariants.{Rts, Str}
use Rattle.ncp_model.specs.declared.pair.Pair.{Pair}
use Rattle.ncp_model.specs.declared.outcomes.Heard.{Heard}
use Rattle.ncp_model.specs.declared.outcomes.Heard.TheVariants.{Nothing, Full}
use Rattle.ncp_model.specs.Pairs.{sends, receives, is_proper}
use Rattle.ncp_model.specs.Effect.{Effect, answer, end_after, error_of, made_by_hearing, wrong_parameters}
use Rattle.ncp_model.specs.Commands.{errs}
use Rattle.ncp_model.specs.Ends.{Ends, any, count, is_by_peer, hears_link, hear, map_after}
use Rattle.ncp_model.specs.Peers.{is_full_up}
use Rattle.ncp_proof_machine.proofs.EndsGood.{EndsInvariant}
use Rattle.ncp_monitor.specs.declared.finding.Rule.{Rule}
use Rattle.ncp_monitor.specs.declared.conn_state.ConnState.{ConnState}
use Rattle.ncp_interface.specs.declared.request.Request.{Request}
use Rattle.ncp_interface.specs.declared.request.Request.TheVariants.{Link, Size}
use Rattle.ncp_monitor.specs.declared.conn_state.FactKind.{FactKind}
use Rattle.ncp_monitor.specs.declared.observed_flow.ObservedFlow.{ObservedFlow}
use Rattle.ncp_monitor.specs.declared.observed_flow.Acceptance.{Acceptance}
use Rattle.ncp_monitor.specs.declared.observed_flow.Acceptance.TheVariants.{Right, Refused, Unclear}
use Rattle.ncp_monitor.specs.ConnStates.{SeenTables, has_link, conn_at_index, conn_found, index_with_sockets, with_request_sent, is_marked, is_topic, suspended_pair}
use Rattle.ncp_interface.specs.Sockets.{is_senders, is_of_sexes}
use Rattle.ncp_monitor.specs.Replies.{owes, error_wanted}
use Rattle.ncp_monitor.specs.Requests.{used_acceptance, link_acceptance, request_acceptance, suspended_asked, asks, tables_after_request}
use Rattle.ncp_monitor.proofs.Shapes.{Shape, Ask, their_legal, their_step, others_of}
use Rattle.ncp_monitor.proofs.LinkOrder.{Sockets, same, same_is}
use Rattle.ncp_monitor.proofs.BooksAt.{or_conn, conn_first, asks_at}
use Rattle.ncp_monitor.proofs.Seeing.{is_of, number_in}
use Rattle.ncp_proof_monitor_allocation.proofs.KeptEnds.{kept}
use Rattle.ncp_proof_monitor_allocation.proofs.SeenTables.{conn_seen, seen_of, is_suspended, suspended_of, receives_at, OneSeen, asked_seen}
use Rattle.ncp_proof_monitor_allocation.proofs.Users.{Linked}
use Rattle.ncp_proof_monitor_allocation.proofs.Resting.{OneSuspended, pair_suspended, pair_linked, link_suspended_too, fact_room, fact_keeps, fact_made, due_room}
use Rattle.ncp_proof_monitor_allocation.proofs.Meets.{Meets, linked_fact}
use Rattle.ncp_proof_monitor_allocation.proofs.Comes.{their_request}
use Rattle.ncp_proof_monitor_allocation.proofs.RequestsCome.{one_end, rts_comes, str_comes}
use Rattle.ncp_proof_monitor_allocation.proofs.Echoing.{Echoing}
use Rattle.ncp_proof_monitor_allocation.proofs.Came.{has_come}
use Rattle.ncp_proof_monitor_allocation.proofs.HeldLinks.{heard_held, its_link_suspended}
use Rattle.ncp_proof_monitor_allocation.proofs.RefusedRequests.{rts_refused_too, str_refused_too}
use Rattle.ncp_proof_monitor_replies.proofs.HostMakes.{refusal_fits, rts_made, str_made}
use Rattle.ncp_proof_monitor_allocation.proofs.EndsHear.{HeldBefore, rts_holds, str_holds, rts_heard, str_heard}
use Rattle.ncp_proof_monitor_host.proofs.ReportedSteps.{SameEchoes, same_marks, echoes_then, link_echoes, rest_echoes, echo_reported, came_told, owed_reports, unclear_reports}
use Rattle.ncp_proof_monitor_host.proofs.Spoken.{Tells}
use Rattle.ncp_proof_monitor_allocation.proofs.Words.{link_given}
use Rattle.ncp_proof_monitor_allocation.proofs.TidyBooks.{Tidy}
use Rattle.ncp_proof_monitor_allocation.proofs.PlainSteps.{plain_link_suspended, plain_suspended, plain_asked, asked_counts}
use Rattle.ncp_proof_monitor_allocation.proofs.Counted.{Counted}
use Rattle.ncp_proof_monitor_allocation.proofs.CountedSteps.{pair_marked}
use Rattle.ncp_proof_monitor_allocation.proofs.RequestsCounted.{rts_ends, str_ends, rts_words, str_words, counted_request, counted_unclear}
use Rattle.ncp_proof_monitor_allocation.proofs.CallsCounted.{proper_sex}
use Rattle.ncp_proof_monitor_replies.proofs.OwedItems.{OwedBy}
use Rattle.ncp_proof_monitor_replies.proofs.OwedMoves.{owed_rts, owed_str}
use Rattle.ncp_proof_monitor_replies.proofs.OwedUnclear.{owed_rts_unclear, owed_str_unclear}

-- ---- the connection and the link that is asked for rest

module _ (me n : ℕ) (p : Sockets) (b : SeenTables) where
  abbrev hearing : ObservedFlow
  hearing = record { at = me; peer = n; sent = false }

  abbrev rested : Request → SeenTables
  rested request = suspended_asked hearing request (suspended_pair me n p.0 p.1 b)

  pub asked_suspended : (request : Request) → (rested request).full ≡ false → OneSuspended me n b (rested request) p
  asked_suspended (Link link) f =
      link_suspended_too me n false link b (suspended_pair me n p.0 p.1 b) p (pair_suspended me n p b (fact_room me n (FactKind.LinkSuspended false link) (suspended_pair me n p.0 p.1 b) f))
  asked_suspended (Size size) f = pair_suspended me n p b f

  pub asked_linked : (m : Ends) (request : Request) → (rested request).full ≡ false → Linked me n b → Linked me n (rested request)
  asked_linked m (Link link) f linked = linked_fact me n m (suspended_pair me n p.0 p.1 b) (FactKind.LinkSuspended false link) (pair_linked me n p b (fact_room me n (FactKind.LinkSuspended false link) (suspended_pair me n p.0 p.1 b) f) linked)
  asked_linked m (Size size) f linked = pair_linked me n p b f linked

  pub asked_echoes : (request : Request) → SameEchoes me n b (rested request)
  asked_echoes (Link link) = echoes_then me n b (suspended_pair me n p.0 p.1 b) (rested (Link link)) (rest_echoes me n p b) (link_echoes me n false link (suspended_pair me n p.0 p.1 b))
  asked_echoes (Size size) = rest_echoes me n p b

  pub asked_link_suspended : (request : Request) → (rested request).full ≡ false → (conn : ConnState) (link : ℕ) → conn_seen me n b p ≡ Some conn → conn.link ≡ Some link → is_marked me n (FactKind.LinkSuspended (receives_at p) link) (rested request) ≡ true
  asked_link_suspended (Link asked) f conn link s l =
      let mid = suspended_pair me n p.0 p.1 b in
      fact_keeps me n (FactKind.LinkSuspended false asked) mid (FactKind.LinkSuspended (receives_at p) link) (its_link_suspended me n p b conn link (fact_room me n (FactKind.LinkSuspended false asked) mid f) s l)
  asked_link_suspended (Size size) f conn link s l = its_link_suspended me n p b conn link f s l

  pub link_asked_suspended : (link : ℕ) → (rested (Link link)).full ≡ false → is_marked me n (FactKind.LinkSuspended false link) (rested (Link link)) ≡ true
  link_asked_suspended link f = fact_made me n (FactKind.LinkSuspended false link) (suspended_pair me n p.0 p.1 b) f

  -- what came for a connection came for it still, after a request of the other
  pub asked_come : (request : Request) → (asks hearing p.0 p.1 request b (index_with_sockets me n p.0 p.1 b.conns)).full ≡ false → has_come (conn_seen me n b p) ≡ true
      → has_come (conn_seen me n (asks hearing p.0 p.1 request b (index_with_sockets me n p.0 p.1 b.conns)) p) ≡ true
  asked_come request room h =
      ap has_come (asks_at hearing p.0 p.1 request b (index_with_sockets me n p.0 p.1 b.conns) refl room) ∙ go (conn_found b.conns (index_with_sockets me n p.0 p.1 b.conns)) request (ap has_come (conn_first me n p.0 p.1 b.conns) ∙ h)
    where
      go : (o : Option ConnState) (r : Request) → has_come o ≡ true → has_come (Some (with_request_sent (or_conn me n p.0 p.1 b.number o) r)) ≡ true
      go None r h = absurd (cc h)
      go (Some conn) (Link link) h = h
      go (Some conn) (Size size) h = h

-- ---- a request that is right

module _ (me n : ℕ) (m : Ends) (awaited : Bool) (w : List Command) (b : SeenTables) (pair : Pair) (act : Effect Heard) (request : Request) where
  abbrev flow : ObservedFlow
  flow = record { at = me; peer = n; sent = false }

  abbrev p : Sockets
  p = (pair.local, pair.remote)

  abbrev taken : SeenTables
  taken = asks flow pair.local pair.remote request b (index_with_sockets me n pair.local pair.remote b.conns)

  taken_reports : is_of (is_senders pair.local) false request ≡ true → suspended_of me n b p ≡ false → taken.full ≡ false → answer act ≡ Nothing → (receives pair ≡ true → HeldBefore (get m pair) (end_after (get m pair) act))
      → Meets me n (map_after m pair act) w taken → Counted me n (map_after m pair act) w taken → OwedBy me n (map_after m pair act) w taken → Tells me n m awaited w b → Tells me n (map_after m pair act) awaited w taken
  taken_reports sex calm room e holds meets counted owed tells = record {
    meets = meets;
    held = heard_held me n m (map_after m pair act) b taken pair (end_after (get m pair) act) (their_step (Ask (number_in request)) (seen_of me n b p)) (one_end m pair act) one calm tells.held;
    echoing = subst (λ (x : List Command). Echoing me n awaited x taken) (append-nil w) (echo_reported me n awaited w [] b taken (same_marks me n b taken one.known_facts) refl tells.echoing);
    came = came_told me n m (map_after m pair act) w w b taken pair (end_after (get m pair) act) (one_end m pair act) holds (λ v. refl) (λ v z. suspended v (same v p) refl z)
        (λ link z. ap (list_any (is_topic me n (FactKind.LinkSuspended true link))) one.known_facts ∙ z) (λ v old g r s a z h. inr (come v (same v p) refl h)) tells.came;
    counted = counted;
    owed = owed;
  }
    where
      one : OneSeen me n b taken p (their_step (Ask (number_in request)) (seen_of me n b p))
      one = asked_seen me n false p b request sex room

      suspended : (v : Sockets) (x : Bool) → same v p ≡ x → suspended_of me n b v ≡ true → suspended_of me n taken v ≡ true
      suspended v true d z = let nay : true ≡ false = sym z ∙ ap (suspended_of me n b) (same_is v p d) ∙ calm in absurd (cc nay)
      suspended v false d z = ap is_suspended (one.others v d) ∙ z

      come : (v : Sockets) (x : Bool) → same v p ≡ x → has_come (conn_seen me n b v) ≡ true → has_come (conn_seen me n taken v) ≡ true
      come v true d h =
          ap (λ (y : Sockets). has_come (conn_seen me n taken y)) (same_is v p d)
          ∙ asked_come me n p b request room (sym (ap (λ (y : Sockets). has_come (conn_seen me n b y)) (same_is v p d)) ∙ h)
      come v false d h = ap has_come (one.others v d) ∙ h

-- ---- each of them

-- a right request is for a connection with no number seen from the other host
unlinked : (number : ℕ) (x : Option Shape) → their_legal (Ask number) x ≡ true → link_given true x ≡ None
unlinked number None k = refl
unlinked number (Some s) k = by s.others (and_parts (not (is_some s.others)) (not s.cls) k).0
  where
    by : (o : Option ℕ) → not (is_some o) ≡ true → o ≡ None
    by None e = refl
    by (Some given) e = absurd (cc e)

-- and for a link that nobody has
unfound : (me n link : ℕ) (c : Command) (b : SeenTables) → link_acceptance (record { at = me; peer = n; sent = false }) c (Link link) b ≡ Right → position (has_link me n false link) b.conns ≡ None
unfound me n link c b v = go (position (has_link me n false link) b.conns) v
  where
    go : (o : Option ℕ) → used_acceptance (record { at = me; peer = n; sent = false }) c (conn_found b.conns o) ≡ Right → o ≡ None
    go None v = refl
    go (Some i) v = by (conn_at_index b.conns i).peer_left v
      where
        by : (x : Bool) → (if x then Unclear (Some (Rule.LinkUsed c (conn_at_index b.conns i).local (conn_at_index b.conns i).remote)) else Refused (Rule.LinkUsed c (conn_at_index b.conns i).local (conn_at_index b.conns i).remote)) ≡ Right → Some i ≡ None
        by true v = absurd (cc v)
        by false v = absurd (cc v)

no_sender : (x : Bool) → not x ≡ true → x ≡ false
no_sender true e = absurd (cc e)
no_sender false e = refl

module _ (me n : ℕ) (m : Ends) (awaited : Bool) (w : List Command) (b : SeenTables) (good : EndsInvariant m) (proper : (pair : Pair) → is_some (get m pair) ≡ true → is_proper pair ≡ true) (tidy : Tidy b) where
  abbrev heard_flow : ObservedFlow
  heard_flow = record { at = me; peer = n; sent = false }

  -- the table has room
  not_full : (act : Effect Heard) → is_full_up (answer act) ≡ false → answer act ≡ Full → ⊥
  not_full act f e = let nay : true ≡ false = sym (ap is_full_up e) ∙ f in cc nay

  silent : (now : Ends) (act : Effect Heard) (after : SeenTables) → answer act ≡ Nothing → Tells me n now awaited w after → Tells me n now awaited (w ++ made_by_hearing (answer act)) after
  silent now act after e t = subst (λ (x : Heard). Tells me n now awaited (w ++ made_by_hearing x) after) (sym e) (subst (λ (x : List Command). Tells me n now awaited x after) (sym (append-nil w)) t)

  -- the ERR is made, and nothing else happens
  refused : (c : Command) (pair : Pair) (act : Effect Heard) → act ≡ errs wrong_parameters c → Tells me n m awaited (w ++ error_of 3 c ∷ []) (owes heard_flow (error_wanted 3 3 c) true b)
      → Tells me n (map_after m pair act) awaited (w ++ made_by_hearing (answer act)) (owes heard_flow (error_wanted 3 3 c) true b)
  refused c pair act e t = subst (λ (x : Effect Heard). Tells me n (map_after m pair x) awaited (w ++ made_by_hearing (answer x)) (owes heard_flow (error_wanted 3 3 c) true b)) (sym e) t

  pub rts_reported : (receive send link : ℕ) (v : Acceptance) → request_acceptance heard_flow (Rts receive send link) send receive (is_of_sexes receive send) (Link link) b ≡ v
      → is_full_up (answer (hear (Rts receive send link) m)) ≡ false → (tables_after_request heard_flow (Rts receive send link) send receive (Link link) v b).full ≡ false → Tells me n m awaited w b
      → Tells me n (map_after m (record { local = send; remote = receive }) (hear (Rts receive send link) m)) awaited (w ++ made_by_hearing (answer (hear (Rts receive send link) m)))
      (tables_after_request heard_flow (Rts receive send link) send receive (Link link) v b)
  rts_reported receive send link v e full room tells = go v e room
    where
      c : Command
      c = Rts receive send link

      pair : Pair
      pair = record { local = send; remote = receive }

      act : Effect Heard
      act = hear c m

      Told : Acceptance → Type 0
      Told v = Tells me n (map_after m pair act) awaited (w ++ made_by_hearing (answer act)) (tables_after_request heard_flow c send receive (Link link) v b)

      -- a sender asks for it with a link
      sender : request_acceptance heard_flow c send receive (is_of_sexes receive send) (Link link) b ≡ Right → is_senders send ≡ true
      sender e = by (is_of_sexes receive send) refl
        where
          by : (x : Bool) → is_of_sexes receive send ≡ x → is_senders send ≡ true
          by true s = (and_parts (not (is_senders receive)) (is_senders send) s).1
          by false s = absurd (cc (sym (ap (λ (y : Bool). request_acceptance heard_flow c send receive y (Link link) b) s) ∙ e))

      right : request_acceptance heard_flow c send receive (is_of_sexes receive send) (Link link) b ≡ Right → (tables_after_request heard_flow c send receive (Link link) Right b).full ≡ false
          → (answer act ≡ Full) ⊎ ((answer act ≡ Nothing) × Meets me n (map_after m pair act) w (tables_after_request heard_flow c send receive (Link link) Right b)) → Told Right
      right e f (inl k) = absurd (not_full act full k)
      right e f (inr (k, meets)) =
          let its = sender e in
          let q = their_request me n m w b c (send, receive) (is_of_sexes receive send) (Link link) its e in
          let after = tables_after_request heard_flow c send receive (Link link) Right b in
          let one = asked_seen me n false (send, receive) b (Link link) its f in
          let counts = asked_counts me n false (send, receive) (Link link) b f in
          silent (map_after m pair act) act after k
          (taken_reports me n m awaited w b pair act (Link link) its q.calm f k
          (rts_holds pair link (any (hears_link link) m) (count is_by_peer m) (get m pair)) meets
          (counted_request me n m (map_after m pair act) w b (send, receive) (Link link) (end_after (get m pair) act) its f q.legal q.calm (one_end m pair act) (rts_ends pair link (any (hears_link link) m) (count is_by_peer m) (get m pair))
          (plain_asked me n false link b after (send, receive) one counts q.legal tells.counted.plain) tells.meets.tally.pairs tells.counted)
          (owed_rts me n m w b pair link (count is_by_peer m) (any (hears_link link) m) after tells.counted.plain tidy (unfound me n link c b q.unused) one (unlinked link (seen_of me n b (send, receive)) q.legal) tells.owed) tells)

      go : (v : Acceptance) → request_acceptance heard_flow c send receive (is_of_sexes receive send) (Link link) b ≡ v → (tables_after_request heard_flow c send receive (Link link) v b).full ≡ false → Told v
      go Right e f = right e f (rts_comes me n m w b receive send link (good.sound pair) tells.held e f tells.meets)
      go (Refused wrong) e f =
          refused c pair act (rts_refused_too me n m w b receive send link wrong e proper tells.meets)
          (owed_reports me n m awaited w b (error_of 3 c) (error_wanted 3 3 c) true (refusal_fits c) refl f tells)
      go (Unclear wrong) e f =
          let mid = suspended_asked heard_flow (Link link) (suspended_pair me n send receive b) in
          let mid_room = due_room mid (record { at = me; peer = n; host = true; wanted = error_wanted 3 3 c; mandatory = false }) f in
          unclear_reports me n m awaited w b mid pair act (error_wanted 3 3 c) (rts_made pair link (any (hears_link link) m) (count is_by_peer m) (get m pair) full)
          (asked_suspended me n (send, receive) b (Link link) mid_room) (asked_linked me n (send, receive) b m (Link link) mid_room tells.meets.linked) (asked_echoes me n (send, receive) b (Link link))
          (asked_link_suspended me n (send, receive) b (Link link) mid_room)
          (λ l s o. heard l (rts_heard pair link (any (hears_link link) m) (count is_by_peer m) (get m pair) l s o) mid_room)
          (rts_holds pair link (any (hears_link link) m) (count is_by_peer m) (get m pair)) refl
          (counted_unclear me n m (map_after m pair act) w b mid (send, receive) (end_after (get m pair) act) (made_by_hearing (answer act)) (λ known. is_senders send ≡ true → known link ≡ true)
          (asked_suspended me n (send, receive) b (Link link) mid_room) (one_end m pair act) (rts_words pair link (any (hears_link link) m) (count is_by_peer m) (get m pair))
          (λ known too s. too link (ap (λ (x : Bool). is_marked me n (FactKind.LinkSuspended (not x) link) mid) s ∙ link_asked_suspended me n (send, receive) b link mid_room))
          (λ there. proper_sex pair (proper pair there)) (λ calm l g. marked l g mid_room)
          (plain_link_suspended me n false link (suspended_pair me n send receive b)
          (plain_suspended me n (send, receive) b (asked_suspended me n (send, receive) b (Link link) mid_room).room (fact_room me n (FactKind.LinkSuspended false link) (suspended_pair me n send receive b) mid_room) tells.counted.plain))
          tells.meets.tally.pairs tells.counted)
          (owed_rts_unclear me n m w b pair link (count is_by_peer m) (any (hears_link link) m) (error_wanted 3 3 c) refl (rts_made pair link (any (hears_link link) m) (count is_by_peer m) (get m pair) full) f tells.owed) f tells
        where
          marked : (l : ℕ) → link_given (is_senders send) (seen_of me n b (send, receive)) ≡ Some l → (suspended_asked heard_flow (Link link) (suspended_pair me n send receive b)).full ≡ false
              → is_marked me n (FactKind.LinkSuspended (not (is_senders send)) l) (suspended_asked heard_flow (Link link) (suspended_pair me n send receive b)) ≡ true
          marked l g f =
              fact_keeps me n (FactKind.LinkSuspended false link) (suspended_pair me n send receive b) (FactKind.LinkSuspended (not (is_senders send)) l)
              (pair_marked me n (send, receive) b (fact_room me n (FactKind.LinkSuspended false link) (suspended_pair me n send receive b) f) l g)

          mid : SeenTables
          mid = suspended_asked heard_flow (Link link) (suspended_pair me n send receive b)

          heard : (l : ℕ) → (others_of (kept (sends pair) (get m pair)) ≡ Some l) ⊎ (link ≡ l) → mid.full ≡ false → (others_of (kept (sends pair) (get m pair)) ≡ Some l) ⊎ (is_marked me n (FactKind.LinkSuspended false l) mid ≡ true)
          heard l (inl k) r = inl k
          heard l (inr k) r = inr (subst (λ (x : ℕ). is_marked me n (FactKind.LinkSuspended false x) mid ≡ true) k (link_asked_suspended me n (send, receive) b link r))

  pub str_reported : (send receive size : ℕ) (v : Acceptance) → request_acceptance heard_flow (Str send receive size) receive send (is_of_sexes receive send) (Size size) b ≡ v
      → is_full_up (answer (hear (Str send receive size) m)) ≡ false → (tables_after_request heard_flow (Str send receive size) receive send (Size size) v b).full ≡ false → Tells me n m awaited w b
      → Tells me n (map_after m (record { local = receive; remote = send }) (hear (Str send receive size) m)) awaited (w ++ made_by_hearing (answer (hear (Str send receive size) m)))
      (tables_after_request heard_flow (Str send receive size) receive send (Size size) v b)
  str_reported send receive size v e full room tells = go v e room
    where
      c : Command
      c = Str send receive size

      pair : Pair
      pair = record { local = receive; remote = send }

      act : Effect Heard
      act = hear c m

      Told : Acceptance → Type 0
      Told v = Tells me n (map_after m pair act) awaited (w ++ made_by_hearing (answer act)) (tables_after_request heard_flow c receive send (Size size) v b)

      receiver : request_acceptance heard_flow c receive send (is_of_sexes receive send) (Size size) b ≡ Right → not (is_senders receive) ≡ true
      receiver e = by (is_of_sexes receive send) refl
        where
          by : (x : Bool) → is_of_sexes receive send ≡ x → not (is_senders receive) ≡ true
          by true s = (and_parts (not (is_senders receive)) (is_senders send) s).0
          by false s = absurd (cc (sym (ap (λ (y : Bool). request_acceptance heard_flow c receive send y (Size size) b) s) ∙ e))

      right : request_acceptance heard_flow c receive send (is_of_sexes receive send) (Size size) b ≡ Right → (tables_after_request heard_flow c receive send (Size size) Right b).full ≡ false
          → (answer act ≡ Full) ⊎ ((answer act ≡ Nothing) × Meets me n (map_after m pair act) w (tables_after_request heard_flow c receive send (Size size) Right b)) → Told Right
      right e f (inl k) = absurd (not_full act full k)
      right e f (inr (k, meets)) =
          let its = receiver e in
          let q = their_request me n m w b c (receive, send) (is_of_sexes receive send) (Size size) its e in
          let after = tables_after_request heard_flow c receive send (Size size) Right b in
          let one = asked_seen me n false (receive, send) b (Size size) its f in
          let counts = asked_counts me n false (receive, send) (Size size) b f in
          silent (map_after m pair act) act after k
          (taken_reports me n m awaited w b pair act (Size size) its q.calm f k
          (λ r. str_holds pair size (count is_by_peer m) (get m pair)) meets
          (counted_request me n m (map_after m pair act) w b (receive, send) (Size size) (end_after (get m pair) act) its f q.legal q.calm (one_end m pair act) (str_ends pair size (count is_by_peer m) (get m pair))
          (plain_asked me n false size b after (receive, send) one counts q.legal tells.counted.plain) tells.meets.tally.pairs tells.counted)
          (owed_str me n m w b pair size (count is_by_peer m) after (their_step (Ask size) (seen_of me n b (receive, send))) (no_sender (is_senders receive) its) one tells.owed) tells)

      go : (v : Acceptance) → request_acceptance heard_flow c receive send (is_of_sexes receive send) (Size size) b ≡ v → (tables_after_request heard_flow c receive send (Size size) v b).full ≡ false → Told v
      go Right e f = right e f (str_comes me n m w b send receive size (good.sound pair) e f tells.meets)
      go (Refused wrong) e f =
          refused c pair act (str_refused_too me n m w b send receive size wrong e tells.meets)
          (owed_reports me n m awaited w b (error_of 3 c) (error_wanted 3 3 c) true (refusal_fits c) refl f tells)
      go (Unclear wrong) e f =
          let mid = suspended_asked heard_flow (Size size) (suspended_pair me n receive send b) in
          let mid_room = due_room mid (record { at = me; peer = n; host = true; wanted = error_wanted 3 3 c; mandatory = false }) f in
          unclear_reports me n m awaited w b mid pair act (error_wanted 3 3 c) (str_made pair size (count is_by_peer m) (get m pair) full)
          (asked_suspended me n (receive, send) b (Size size) mid_room) (asked_linked me n (receive, send) b m (Size size) mid_room tells.meets.linked) (asked_echoes me n (receive, send) b (Size size))
          (asked_link_suspended me n (receive, send) b (Size size) mid_room)
          (λ l s o. inl (str_heard pair size (count is_by_peer m) (get m pair) l s o))
          (λ r. str_holds pair size (count is_by_peer m) (get m pair)) refl
          (counted_unclear me n m (map_after m pair act) w b mid (receive, send) (end_after (get m pair) act) (made_by_hearing (answer act)) (λ known. Unit {0})
          (asked_suspended me n (receive, send) b (Size size) mid_room) (one_end m pair act) (str_words pair size (count is_by_peer m) (get m pair)) (λ known too. tt)
          (λ there. proper_sex pair (proper pair there)) (λ calm l g. pair_marked me n (receive, send) b mid_room l g)
          (plain_suspended me n (receive, send) b (asked_suspended me n (receive, send) b (Size size) mid_room).room mid_room tells.counted.plain) tells.meets.tally.pairs tells.counted)
          (owed_str_unclear me n m w b pair size (count is_by_peer m) (error_wanted 3 3 c) refl (str_made pair size (count is_by_peer m) (get m pair) full) f tells.owed) f tells
