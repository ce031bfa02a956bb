-- A request, or a CLS, that is not found to be wrong does the same to the connections that are judged and to those that are
-- followed.
use Rattle.std.proofs.Common.{◌≡◌, ℕ, Bool, true, false, not, ◌&&◌, ◌||◌, if◌then◌else◌, List, [], ◌∷◌, ◌++◌, length, Option, None, Some, is_some, refl, sym, ap, ◌∙◌, subst}
use Rattle.std.specs.Prelude.{nat_lt, slice_set}
use Rattle.std.specs.List.{remove}
use Rattle.std.proofs.lemmas.List.Quantifiers.{position-Some}
use Rattle.ncp_wire.specs.declared.command.Command.{Command}
use Rattle.ncp_monitor.specs.declared.conn_tables.TheConstants.{MAX_TABLE_ROWS}
use Rattle.ncp_monitor.specs.declared.finding.Rule.{Rule}
use Rattle.ncp_monitor.specs.declared.conn_state.ConnState.{ConnState}
use Rattle.ncp_interface.specs.declared.request.Request.{Request}
use Rattle.ncp_interface.specs.declared.request.Request.TheVariants.{Link, Size}
use Rattle.ncp_monitor.specs.declared.observed_flow.ObservedFlow.{ObservedFlow}
use Rattle.ncp_monitor.specs.declared.observed_flow.Acceptance.{Acceptance}
use Rattle.ncp_monitor.specs.declared.observed_flow.Acceptance.TheVariants.{Right, Refused, Unclear}
use Rattle.ncp_monitor.specs.ConnStates.{SeenTables, unasked_conn, is_of_sockets, has_sent_cls, with_cls_sent, has_sent_request, with_request_sent, conn_at_index, conn_found, conn_of, index_with_sockets, index_with_link, user_of, with_conn, put_conn}
use Rattle.ncp_interface.specs.Sockets.{is_senders, is_of_sexes}
use Rattle.ncp_monitor.specs.Requests.{broken, range_rule, link_suspended, used_acceptance, link_acceptance, conn_acceptance, unrested_acceptance, ranged_acceptance, request_acceptance, asks, left_acceptance, cls_acceptance, closes_side}
use Rattle.ncp_follow.specs.declared.followed_conn.FollowedConn.{FollowedConn}
use Rattle.ncp_follow.specs.declared.tracks.TheConstants.{MAX_TRACKS}
use Rattle.ncp_follow.specs.declared.tables.Tables.{Tables}
use Rattle.ncp_follow.specs.declared.observation.Observation.{Observation}
use Rattle.ncp_follow.specs.Tracks.{new_track, has_left, with_left, has_chosen, with_choice, is_whole, track_at}
use Rattle.ncp_follow.specs.declared.connection.EndReason.TheVariants.{Closed}
use Rattle.ncp_follow.specs.Connections.{with_end_recorded}
use Rattle.ncp_follow.specs.Tables.{pair_index, index_at_link, with_new, has_room_opened, with_opened, is_link_taken, track_placed, asked_at, after_request, end_by, left_at, closed_at}
use Rattle.ncp_proof_follow_tables.proofs.Besides.{besides_length, besides_after, besides_at, besides_set, besides_remove}
use Rattle.ncp_proof_follow_tables.proofs.SameConns.{SameConn, SameConns, left_is, requested_is, new_same, request_same, cls_same, place_same, link_same, Calm}

module _ (number at peer : ℕ) (sent : Bool) where
  abbrev flow : ObservedFlow
  flow = record { at = at; peer = peer; sent = sent }

  abbrev observation : Observation
  observation = record { number = number; at = at; peer = peer; sent = sent }

  -- ---- a request that breaks no rule, while nothing is suspended, is right

  -- the link that is asked for is free
  abbrev pub IsFree : Request → SeenTables → Type 0
  IsFree (Link link) b = user_of at peer sent link b.conns ≡ None
  IsFree (Size size) b = Unit {0}

  -- the side has neither asked, nor sent a CLS
  abbrev pub MayAsk : Request → Option ConnState → Type 0
  MayAsk request o = (conn : ConnState) → o ≡ Some conn → (has_sent_cls conn sent ≡ false) × (has_sent_request conn request ≡ false)

  pub record AskedRight (c : Command) (local remote : ℕ) (right : Bool) (request : Request) (b : SeenTables) : Type 0 where
    pub acceptance : request_acceptance flow c local remote right request b ≡ Right
    pub sexes : right ≡ true
    pub range : range_rule c request ≡ None
    pub may : MayAsk request (conn_of at peer local remote b.conns)
    pub free : IsFree request b

  -- no connection of these sockets is suspended
  abbrev pub IsAwake : Option ConnState → Type 0
  IsAwake o = (conn : ConnState) → o ≡ Some conn → conn.suspended ≡ false

  module _ (c : Command) (local remote : ℕ) (b : SeenTables) where
    used_right : (o : Option ConnState) → broken (used_acceptance flow c o) ≡ None → o ≡ None
    used_right None e = refl
    used_right (Some user) e = absurd (go (has_sent_cls user sent) e)
      where
        go : (x : Bool) → broken (if x then Unclear (Some (Rule.LinkUsed c user.local user.remote)) else Refused (Rule.LinkUsed c user.local user.remote)) ≡ None → ⊥
        go true e = cc e
        go false e = cc e

    link_right : (request : Request) → broken (link_acceptance flow c request b) ≡ None → (link_acceptance flow c request b ≡ Right) × IsFree request b
    link_right (Link link) e = let none = used_right (user_of at peer sent link b.conns) e in (ap (used_acceptance flow c) none, none)
    link_right (Size size) e = (refl, tt)

    conn_right : (request : Request) (o : Option ConnState) → IsAwake o → broken (conn_acceptance flow c request b o) ≡ None → (conn_acceptance flow c request b o ≡ link_acceptance flow c request b) × MayAsk request o
    conn_right request None w e = (refl, λ conn n. absurd (cc n))
    conn_right request (Some conn) w e = go conn.suspended (has_sent_cls conn sent) (has_sent_request conn request) refl refl refl e
      where
        As : Bool → Bool → Bool → Acceptance
        As r s q = if r then Unclear None else if s then Unclear (Some (Rule.Unended c conn.since)) else if q then Refused (Rule.AskedAgain c conn.since) else link_acceptance flow c request b

        go : (r s q : Bool) → conn.suspended ≡ r → has_sent_cls conn sent ≡ s → has_sent_request conn request ≡ q → broken (As r s q) ≡ None → (As r s q ≡ link_acceptance flow c request b) × MayAsk request (Some conn)
        go true s q a d f e = let nay : true ≡ false = sym a ∙ w conn refl in absurd (cc nay)
        go false true q a d f e = absurd (cc e)
        go false false true a d f e = absurd (cc e)
        go false false false a d f e = (refl, λ other n. let is : conn ≡ other = cc n in subst (λ (x : ConnState). (has_sent_cls x sent ≡ false) × (has_sent_request x request ≡ false)) is (d, f))

    no_link_suspended : Calm at peer b → (request : Request) → link_suspended flow request b ≡ false
    no_link_suspended calm (Link link) = calm sent link
    no_link_suspended calm (Size size) = refl

    pub asked_right : (right : Bool) (request : Request) → Calm at peer b → IsAwake (conn_of at peer local remote b.conns) → broken (request_acceptance flow c local remote right request b) ≡ None → AskedRight c local remote right request b
    asked_right right request calm awake e = go right (range_rule c request) refl refl e
      where
        o : Option ConnState
        o = conn_of at peer local remote b.conns

        As : Bool → Option Rule → Acceptance
        As r g = if not r then Refused (Rule.Sex c) else ranged_acceptance flow c local remote request b g

        suspended : unrested_acceptance flow c local remote request b ≡ conn_acceptance flow c request b o
        suspended = ap (λ (x : Bool). if x then Unclear None else conn_acceptance flow c request b o) (no_link_suspended calm request)

        go : (r : Bool) (g : Option Rule) → right ≡ r → range_rule c request ≡ g → broken (request_acceptance flow c local remote right request b) ≡ None → AskedRight c local remote right request b
        go r g is range e = by r g is range (subst (λ (x : Bool). broken (As x (range_rule c request)) ≡ None) is e)
          where
            by : (r : Bool) (g : Option Rule) → right ≡ r → range_rule c request ≡ g → broken (As r (range_rule c request)) ≡ None → AskedRight c local remote right request b
            by false g is range e = absurd (cc e)
            by true (Some wrong) is range e = let nay : Some wrong ≡ None = subst (λ (x : Option Rule). broken (ranged_acceptance flow c local remote request b x) ≡ None) range e in absurd (cc nay)
            by true None is range e =
                let f : broken (unrested_acceptance flow c local remote request b) ≡ None = subst (λ (x : Option Rule). broken (ranged_acceptance flow c local remote request b x) ≡ None) range e in
                let live = conn_right request o awake (subst (λ (v : Acceptance). broken v ≡ None) suspended f) in
                let g : broken (link_acceptance flow c request b) ≡ None = subst (λ (v : Acceptance). broken v ≡ None) (suspended ∙ live.0) f in
                let free = link_right request g in
                record {
                  acceptance = ap (λ (x : Bool). As x (range_rule c request)) is ∙ ap (ranged_acceptance flow c local remote request b) range ∙ suspended ∙ live.0 ∙ free.0;
                  sexes = is;
                  range = range;
                  may = live.1;
                  free = free.1;
                }

  -- ---- and does the same to both

  none_placed : (local remote : ℕ) (conns : List ConnState) (o : Option ℕ) → conn_found conns o ≡ None → o ≡ None
  none_placed local remote conns None e = refl
  none_placed local remote conns (Some p) e = absurd (cc e)

  -- a receiver asks for a link
  abbrev pub IsAsker : Request → ℕ → Type 0
  IsAsker (Link link) local = is_senders local ≡ not sent
  IsAsker (Size size) local = Unit {0}

  -- nobody has the link: so it is not taken
  pub untaken : (local : ℕ) (request : Request) (b : SeenTables) (t : Tables) → SameConns b.conns t.tracks → IsAsker request local → IsFree request b → is_link_taken observation local request t.tracks ≡ false
  untaken local (Link link) b t s sex free =
      ap (λ (x : Bool). is_some (index_at_link at peer x link t.tracks)) sex
      ∙ ap (λ (o : Option ℕ). is_some o) (link_same at peer sent link b.conns t.tracks s ∙ none_placed local local b.conns (index_with_link at peer sent link b.conns) free)
  untaken local (Size size) b t s sex free = refl

  -- it is placed unchanged, opened or not
  placed_same : (b : SeenTables) (t : Tables) (p : ℕ) (l : ConnState) (m : FollowedConn) → SameConns b.conns t.tracks → SameConn l m → SameConns (slice_set b.conns p l) (track_placed observation p m t).tracks
  placed_same b t p l m all one = go (is_whole m && has_room_opened t.told)
    where
      go : (x : Bool) → SameConns (slice_set b.conns p l) (if x then record t { tracks = slice_set t.tracks p (record m { place = Some (length t.told) }); told = with_opened t.told number m } else record t { tracks = slice_set t.tracks p m }).tracks
      go true = besides_set SameConn b.conns t.tracks p l (record m { place = Some (length t.told) }) (record { at = one.at; peer = one.peer; local = one.local; remote = one.remote; link = one.link; size = one.size; host_left = one.host_left; peer_left = one.peer_left; awake = one.awake }) all
      go false = besides_set SameConn b.conns t.tracks p l m one all

  -- those at a place
  pub conn_there : (b : SeenTables) (t : Tables) (local remote p : ℕ) → SameConns b.conns t.tracks → index_with_sockets at peer local remote b.conns ≡ Some p → SameConn (conn_at_index b.conns p) (track_at t.tracks p)
  conn_there b t local remote p s e =
      besides_at SameConn b.conns t.tracks p (unasked_conn 0 0 0 0) (new_track 0 0 0 0) (position-Some (is_of_sockets at peer local remote) b.conns p (unasked_conn 0 0 0 0) e).0 s

  module _ (roomy : (n : ℕ) → nat_lt n MAX_TABLE_ROWS ≡ true → nat_lt n MAX_TRACKS ≡ true) where
    -- one more at the end
    added_same : (b : SeenTables) (t : Tables) (l : ConnState) (m : FollowedConn) → SameConns b.conns t.tracks → SameConn l m → (with_conn b l).full ≡ false → SameConns (with_conn b l).conns (with_new t.tracks m)
    added_same b t l m all one full = go (nat_lt (length b.conns) MAX_TABLE_ROWS) refl full
      where
        go : (x : Bool) → nat_lt (length b.conns) MAX_TABLE_ROWS ≡ x → (if x then record b { conns = b.conns ++ l ∷ [] } else record b { full = true }).full ≡ false
            → SameConns (if x then record b { conns = b.conns ++ l ∷ [] } else record b { full = true }).conns (with_new t.tracks m)
        go true e f =
            let room : nat_lt (length t.tracks) MAX_TRACKS ≡ true = roomy (length t.tracks) (ap (λ (n : ℕ). nat_lt n MAX_TABLE_ROWS) (besides_length SameConn b.conns t.tracks all) ∙ e) in
            subst (λ (x : Bool). SameConns (b.conns ++ l ∷ []) (if x then t.tracks ++ m ∷ [] else t.tracks)) (sym room) (besides_after SameConn b.conns t.tracks l m one all)
        go false e f = absurd (cc f)

    pub asks_same : (c : Command) (local remote : ℕ) (right : Bool) (request : Request) (b : SeenTables) (t : Tables) → SameConns b.conns t.tracks → AskedRight c local remote right request b → IsAsker request local
        → (asks flow local remote request b (index_with_sockets at peer local remote b.conns)).full ≡ false
        → SameConns (asks flow local remote request b (index_with_sockets at peer local remote b.conns)).conns (after_request observation local remote request t).tracks
    asks_same c local remote right request b t s k sex full =
        subst (λ (x : Bool). SameConns now.conns (if x then t else asked_at observation local remote request t (pair_index at peer local remote t.tracks)).tracks) (sym (untaken local request b t s sex k.free))
        (subst (λ (o : Option ℕ). SameConns now.conns (asked_at observation local remote request t o).tracks) (sym (place_same at peer local remote b.conns t.tracks s))
        (go (index_with_sockets at peer local remote b.conns) refl full))
      where
        now : SeenTables
        now = asks flow local remote request b (index_with_sockets at peer local remote b.conns)

        go : (o : Option ℕ) → index_with_sockets at peer local remote b.conns ≡ o → (asks flow local remote request b o).full ≡ false → SameConns (asks flow local remote request b o).conns (asked_at observation local remote request t o).tracks
        go None e f =
            let one = request_same (record (unasked_conn at peer local remote) { since = b.number }) (new_track at peer local remote) request (new_same at peer local remote b.number) in
            added_same b t (with_request_sent (record (unasked_conn at peer local remote) { since = b.number }) request) (with_choice (new_track at peer local remote) request) s one f
        go (Some p) e f =
            let l : ConnState = conn_at_index b.conns p in
            let m : FollowedConn = track_at t.tracks p in
            let one : SameConn l m = conn_there b t local remote p s e in
            let may = k.may l (ap (conn_found b.conns) e) in
            let unasked : has_chosen m request ≡ false = requested_is l m request one ∙ may.1 in
            let unleft : has_left m sent ≡ false = left_is l m sent one ∙ may.0 in
            subst (λ (x : Bool). SameConns (slice_set b.conns p (with_request_sent l request)) (if x || has_left m sent then t else track_placed observation p (with_choice m request) t).tracks) (sym unasked)
            (subst (λ (x : Bool). SameConns (slice_set b.conns p (with_request_sent l request)) (if false || x then t else track_placed observation p (with_choice m request) t).tracks) (sym unleft)
            (placed_same b t p (with_request_sent l request) (with_choice m request) s (request_same l m request one)))

  -- ---- a CLS that breaks no rule, while nothing is suspended, is right

  pub record ClosedRight (c : Command) (local remote : ℕ) (b : SeenTables) : Type 0 where
    pub acceptance : cls_acceptance flow c local remote b ≡ Right
    pub conn : ConnState
    pub there : conn_of at peer local remote b.conns ≡ Some conn
    pub stays : has_sent_cls conn sent ≡ false

  pub closed_right : (c : Command) (local remote : ℕ) (b : SeenTables) → IsAwake (conn_of at peer local remote b.conns) → broken (cls_acceptance flow c local remote b) ≡ None → ClosedRight c local remote b
  closed_right c local remote b awake e = go (is_of_sexes local remote || is_of_sexes remote local) refl (conn_of at peer local remote b.conns) refl e
    where
      As : Bool → Option ConnState → Acceptance
      As x o = if x then left_acceptance flow c o else Refused (Rule.Sex c)

      by : (conn : ConnState) (r s : Bool) → conn.suspended ≡ r → has_sent_cls conn sent ≡ s → conn_of at peer local remote b.conns ≡ Some conn → cls_acceptance flow c local remote b ≡ left_acceptance flow c (Some conn)
          → broken (if r then Unclear None else if s then Unclear (Some (Rule.ClsAgain c conn.since)) else Right) ≡ None → ClosedRight c local remote b
      by conn true s a d there v e = let nay : true ≡ false = sym a ∙ awake conn there in absurd (cc nay)
      by conn false true a d there v e = absurd (cc e)
      by conn false false a d there v e = record {
        acceptance =
            v ∙ ap (λ (x : Bool). if x then Unclear None else if has_sent_cls conn sent then Unclear (Some (Rule.ClsAgain c conn.since)) else Right) a
            ∙ ap (λ (x : Bool). if x then Unclear (Some (Rule.ClsAgain c conn.since)) else Right) d;
        conn = conn;
        there = there;
        stays = d;
      }

      go : (x : Bool) → (is_of_sexes local remote || is_of_sexes remote local) ≡ x → (o : Option ConnState) → conn_of at peer local remote b.conns ≡ o → broken (cls_acceptance flow c local remote b) ≡ None → ClosedRight c local remote b
      go false is o there e = let nay : Some (Rule.Sex c) ≡ None = sym (ap (λ (x : Bool). broken (As x (conn_of at peer local remote b.conns))) is) ∙ e in absurd (cc nay)
      go true is None there e =
          let nay : Some (Rule.ClsUnknown c) ≡ None = sym (ap (λ (x : Bool). broken (As x (conn_of at peer local remote b.conns))) is ∙ ap (λ (o : Option ConnState). broken (As true o)) there) ∙ e in absurd (cc nay)
      go true is (Some conn) there e =
          let v : cls_acceptance flow c local remote b ≡ left_acceptance flow c (Some conn) = ap (λ (x : Bool). As x (conn_of at peer local remote b.conns)) is ∙ ap (As true) there in
          by conn conn.suspended (has_sent_cls conn sent) refl refl there v (subst (λ (w : Acceptance). broken w ≡ None) v e)

  pub closes_same : (c : Command) (local remote : ℕ) (b : SeenTables) (t : Tables) → SameConns b.conns t.tracks → ClosedRight c local remote b
      → SameConns (closes_side flow b (index_with_sockets at peer local remote b.conns)).conns (closed_at observation t (pair_index at peer local remote t.tracks)).tracks
  closes_same c local remote b t s k =
      subst (λ (o : Option ℕ). SameConns (closes_side flow b (index_with_sockets at peer local remote b.conns)).conns (closed_at observation t o).tracks) (sym (place_same at peer local remote b.conns t.tracks s))
      (go (index_with_sockets at peer local remote b.conns) refl)
    where
      go : (o : Option ℕ) → index_with_sockets at peer local remote b.conns ≡ o → SameConns (closes_side flow b o).conns (closed_at observation t o).tracks
      go None e = s
      go (Some p) e =
          let l : ConnState = conn_at_index b.conns p in
          let m : FollowedConn = track_at t.tracks p in
          let one : SameConn l m = conn_there b t local remote p s e in
          let is : k.conn ≡ l = cc (sym k.there ∙ ap (conn_found b.conns) e) in
          let unleft : has_left m sent ≡ false = left_is l m sent one ∙ ap (λ (x : ConnState). has_sent_cls x sent) (sym is) ∙ k.stays in
          subst (λ (x : Bool). SameConns (closes_side flow b (Some p)).conns (if x then t else left_at observation p (with_left m sent) t).tracks) (sym unleft)
          (by p (with_cls_sent l sent) (with_left m sent) (cls_same l m sent one))
        where
          by : (p : ℕ) (l : ConnState) (m : FollowedConn) → SameConn l m → SameConns (if l.host_left && l.peer_left then record b { conns = remove b.conns p } else put_conn b (Some p) l).conns (left_at observation p m t).tracks
          by p l m one = both (l.host_left && l.peer_left) (m.host_left && m.peer_left) (ap (λ (x : Bool). x && m.peer_left) one.host_left ∙ ap (λ (x : Bool). l.host_left && x) one.peer_left)
            where
              ended : Tables
              ended = record t { tracks = remove t.tracks p; told = with_end_recorded t.told m.place Closed (Some number) }

              standing : Tables
              standing = record t { tracks = slice_set t.tracks p m; told = with_end_recorded t.told m.place (end_by sent) None }

              Then : Bool → Bool → Type 0
              Then x y = SameConns (if x then record b { conns = remove b.conns p } else put_conn b (Some p) l).conns (if y then ended else standing).tracks

              both : (x y : Bool) → y ≡ x → Then x y
              both true true e = besides_remove SameConn b.conns t.tracks p s
              both false false e = besides_set SameConn b.conns t.tracks p l m one s
              both true false e = absurd (cc e)
              both false true e = absurd (cc e)
