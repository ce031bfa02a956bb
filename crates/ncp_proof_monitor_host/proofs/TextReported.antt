-- A text of the other host arrives: the facts about the flow still hold. For the receiver that takes it,
-- a text was observed to arrive, or its link is suspended.
use Rattle.std.proofs.Common.{◌≡◌, ◌<◌, ℕ, ◌==◌, Bool, true, false, not, ◌&&◌, ◌||◌, if◌then◌else◌, List, [], ◌∷◌, ◌++◌, length, Option, None, Some, is_some, ◌⊎◌, inl, inr, eq-eqb, refl, sym, ap, ◌∙◌, subst, arith}
use Rattle.std.specs.Prelude.{◌-◌, nat_lt}
use Rattle.std.specs.FinMap.{get}
use Rattle.std.specs.List.{position}
use Rattle.std.proofs.lemmas.Bool.{eqb-true, and_parts}
use Rattle.std.proofs.lemmas.List.{append-nil}
use Rattle.ncp_leader.specs.Message.{Message}
use Rattle.ncp_wire.specs.declared.command.Command.{Command}
use Rattle.ncp_model.specs.declared.pair.Pair.{Pair}
use Rattle.ncp_model.specs.declared.outcomes.Took.{Took}
use Rattle.ncp_model.specs.Pairs.{sends, receives, is_proper}
use Rattle.ncp_model.specs.Endpoint.{Endpoint, is_closing, is_ended}
use Rattle.ncp_model.specs.Effect.{Effect, Stays, Becomes, answer, end_after, text_error}
use Rattle.ncp_model.specs.Ends.{Ends, uses_link, receiver_on, pair_of, end_of, map_after, map_after_at}
use Rattle.ncp_model.specs.Texts.{hear_text, text_at, made_by_text}
use Rattle.ncp_model.specs.EndpointEvents.{EndpointEvent}
use Rattle.ncp_model.specs.Demux.{passes}
use Rattle.ncp_model.proofs.LinksDemux.{led}
use Rattle.ncp_proof_endpoint.specs.Sound.{SoundAt}
use Rattle.ncp_proof_machine.proofs.EndsGood.{EndsInvariant}
use Rattle.ncp_monitor.specs.declared.link_target.LinkTarget.{LinkTarget}
use Rattle.ncp_monitor.specs.declared.conn_state.ConnState.{ConnState}
use Rattle.ncp_monitor.specs.declared.conn_state.FactKind.{FactKind}
use Rattle.ncp_monitor.specs.declared.observed_flow.ObservedFlow.{ObservedFlow}
use Rattle.ncp_monitor.specs.ConnStates.{SeenTables, is_of_sockets, has_link, conn_at_index, is_marked, put_conn}
use Rattle.ncp_interface.specs.Sockets.{is_senders}
use Rattle.ncp_monitor.specs.Allocation.{is_any}
use Rattle.ncp_monitor.specs.Texts.{text_shown, admits_error, is_closed_for, text_target, open_text_rules, used, after_text_came, conn_came_at, text_suspended, admits_error_if, demuxed_after_text, conn_tables_after_text}
use Rattle.ncp_monitor.proofs.Shapes.{Shape, Say, Ask, Leave, Agrees, is_closed}
use Rattle.ncp_monitor.proofs.LinkOrder.{Sockets, same, same_is, number_of, about}
use Rattle.ncp_monitor.proofs.BooksAt.{has_sockets}
use Rattle.ncp_monitor.proofs.Seeing.{of_conn, seen}
use Rattle.ncp_proof_monitor_allocation.proofs.KeptEnds.{of_end, kept}
use Rattle.ncp_proof_monitor_allocation.proofs.OwnMoves.{all_says, sockets_of, Moved, no_sender, moves}
use Rattle.ncp_proof_monitor_allocation.proofs.Changed.{pair_at, kept_of, OneEnd, unlike}
use Rattle.ncp_proof_monitor_allocation.proofs.SeenTables.{conn_seen, seen_of, is_suspended, suspended_of, receives_at}
use Rattle.ncp_proof_monitor_allocation.proofs.Users.{Linked, first_passes}
use Rattle.ncp_proof_monitor_allocation.proofs.Resting.{fact_conns, fact_keeps, fact_made, fact_room}
use Rattle.ncp_proof_monitor_allocation.proofs.Meets.{Meets}
use Rattle.ncp_proof_monitor_allocation.proofs.Comes.{says_append, host_meets, unsaid_meets}
use Rattle.ncp_proof_monitor_allocation.proofs.Untaken.{Held}
use Rattle.ncp_proof_monitor_allocation.proofs.HeldLinks.{host_held}
use Rattle.ncp_proof_monitor_allocation.proofs.Echoing.{ecos, fact_other}
use Rattle.ncp_proof_monitor_allocation.proofs.Came.{asks_in, has_come, Came, receiving_socket}
use Rattle.ncp_proof_monitor_allocation.proofs.Proper.{ProperEnds}
use Rattle.ncp_proof_monitor_allocation.proofs.RequestsCome.{one_end}
use Rattle.ncp_proof_monitor_allocation.proofs.TidyBooks.{Tidy}
use Rattle.ncp_proof_monitor_allocation.proofs.LinkPlaces.{UserAt, AllUnique, LeadsTo, ToRest, ToNobody, ToClosed, ToUnasked, ToOpen, text_leads, user_found, user_seen, renumbered_here, renumbered_tidy, renumbered_unique}
use Rattle.ncp_proof_monitor_allocation.proofs.SameShapes.{SameShapes, shapes_meets, shapes_held, conns_same, numbered_same, shapes_then}
use Rattle.ncp_proof_monitor_host.proofs.ReportedSteps.{SameEchoes, echoes_then, link_echoes, echo_reported}
use Rattle.ncp_proof_monitor_allocation.proofs.TextErrors.{is_text_error, shown_by}
use Rattle.ncp_proof_monitor_allocation.proofs.PlainText.{plain_text}
use Rattle.ncp_proof_monitor_host.proofs.LedReported.{Beside}
use Rattle.ncp_proof_monitor_replies.proofs.TheirText.{text_ends, text_made}
use Rattle.ncp_proof_monitor_replies.proofs.TheirTexts.{text_both}
use Rattle.ncp_proof_monitor_host.proofs.Spoken.{Tells}

-- ---- the books after a text: the same shapes, and the same of the echoes

record TextSeen (me n : ℕ) (b after : SeenTables) : Type 0 where
  pub shapes : SameShapes me n b after
  pub echoes : SameEchoes me n b after

-- the target of a text: a connection that the other host has not closed, for which a text was observed to
-- arrive; or none, and then the link is suspended
data TextTo (me n on : ℕ) (b after : SeenTables) : Type 0 where
  ToUser : (v : Sockets) (user : UserAt me n true on b v) → (conn_at_index b.conns user.place).peer_left ≡ false → has_come (conn_seen me n after v) ≡ true → TextTo me n on b after
  ToNone : ((v : Sockets) (user : UserAt me n true on b v) → (conn_at_index b.conns user.place).peer_left ≡ false → ⊥) → is_marked me n (FactKind.LinkSuspended true on) after ≡ true → TextTo me n on b after

module _ (me n on : ℕ) (message : Message) where
  abbrev hearing : ObservedFlow
  hearing = record { at = me; peer = n; sent = false }

  abbrev error_topic : FactKind
  error_topic = FactKind.Admits true (text_shown n message)

  seen_itself : (b : SeenTables) → AllUnique me n b → Linked me n b → TextSeen me n b b
  seen_itself b unique linked = record { shapes = conns_same me n b b refl (λ host link z. z) unique linked; echoes = (refl, refl) }

  seen_then : (a b d : SeenTables) → TextSeen me n a b → TextSeen me n b d → TextSeen me n a d
  seen_then a b d j k = record { shapes = shapes_then me n a b d j.shapes k.shapes; echoes = echoes_then me n a b d j.echoes k.echoes }

  admits_seen : (b : SeenTables) → AllUnique me n b → Linked me n b → TextSeen me n b (admits_error hearing message b)
  admits_seen b unique linked = record {
    shapes = conns_same me n b (admits_error hearing message b) (fact_conns me n error_topic b) (λ host link z. fact_keeps me n error_topic b (FactKind.LinkSuspended host link) z) unique linked;
    echoes = (fact_other me n error_topic (FactKind.EchoesRest true) b refl, fact_other me n error_topic (FactKind.Asks true) b refl);
  }

  suspended_seen : (b : SeenTables) → AllUnique me n b → Linked me n b → TextSeen me n b (text_suspended hearing on b)
  suspended_seen b unique linked = record {
    shapes = conns_same me n b (text_suspended hearing on b) (fact_conns me n (FactKind.LinkSuspended true on) b) (λ host link z. fact_keeps me n (FactKind.LinkSuspended true on) b (FactKind.LinkSuspended host link) z) unique linked;
    echoes = link_echoes me n true on b;
  }

  came_seen : (b : SeenTables) → AllUnique me n b → Linked me n b → TextSeen me n b (after_text_came hearing on b)
  came_seen b unique linked = go (position (has_link me n true on) b.conns) refl
    where
      go : (o : Option ℕ) → position (has_link me n true on) b.conns ≡ o → TextSeen me n b (conn_came_at b o)
      go None e = seen_itself b unique linked
      go (Some i) e = by (conn_at_index b.conns i).peer_left
        where
          there : (u : Sockets) (user : UserAt me n true on b u) → TextSeen me n b (put_conn b (Some user.place) (record (conn_at_index b.conns user.place) { came = true }))
          there u user =
              let conn = conn_at_index b.conns user.place in
              record { shapes = numbered_same me n true on b u user conn.messages conn.bits conn.recall true unique linked (λ z. refl); echoes = (refl, refl) }

          by : (x : Bool) → TextSeen me n b (if x then b else put_conn b (Some i) (record (conn_at_index b.conns i) { came = true }))
          by true = seen_itself b unique linked
          by false =
              let it = user_found me n true on b unique i e in
              subst (λ (j : ℕ). TextSeen me n b (put_conn b (Some j) (record (conn_at_index b.conns j) { came = true }))) it.there (there it.u it.user)

  -- it came for the user of the link
  came_for : (b : SeenTables) → AllUnique me n b → (v : Sockets) (user : UserAt me n true on b v) → (conn_at_index b.conns user.place).peer_left ≡ false → has_come (conn_seen me n (after_text_came hearing on b) v) ≡ true
  came_for b unique v user k =
      ap (λ (x : SeenTables). has_come (conn_seen me n x v)) is ∙ ap has_come (renumbered_here me n true on b v user conn.messages conn.bits conn.recall true unique)
    where
      conn : ConnState
      conn = conn_at_index b.conns user.place

      is : after_text_came hearing on b ≡ put_conn b (Some user.place) (record (conn_at_index b.conns user.place) { came = true })
      is = ap (conn_came_at b) user.found ∙ ap (λ (x : Bool). if x then b else put_conn b (Some user.place) (record (conn_at_index b.conns user.place) { came = true })) k

  -- with what it takes: other numbers
  abbrev less : (b : SeenTables) → ℕ → SeenTables
  less b place = put_conn b (Some place) (used (length message.text) (conn_at_index b.conns place))

  used_seen : (b : SeenTables) → AllUnique me n b → Linked me n b → (u : Sockets) (user : UserAt me n true on b u) → TextSeen me n b (less b user.place)
  used_seen b unique linked u user =
      let conn = conn_at_index b.conns user.place in
      record { shapes = numbered_same me n true on b u user (conn.messages - 1) (conn.bits - length message.text) conn.recall conn.came unique linked (λ z. sym (ap has_come user.seen) ∙ z); echoes = (refl, refl) }

  wrong_seen : (x y : Bool) (b : SeenTables) → AllUnique me n b → Linked me n b → TextSeen me n b (admits_error_if x hearing message (if y then text_suspended hearing on b else b))
  wrong_seen true true b unique linked =
      let mid = suspended_seen b unique linked in
      seen_then b (text_suspended hearing on b) (admits_error hearing message (text_suspended hearing on b)) mid (admits_seen (text_suspended hearing on b) mid.shapes.unique mid.shapes.linked)
  wrong_seen true false b unique linked = admits_seen b unique linked
  wrong_seen false true b unique linked = suspended_seen b unique linked
  wrong_seen false false b unique linked = seen_itself b unique linked

  module _ (b : SeenTables) (tidy : Tidy b) (unique : AllUnique me n b) (linked : Linked me n b) where
    abbrev led_tables : LinkTarget → SeenTables
    led_tables l = demuxed_after_text (record { at = me; peer = n; sent = false }) on message b l

    came_then : TextSeen me n b (admits_error hearing message (after_text_came hearing on b))
    came_then =
        let mid = came_seen b unique linked in
        seen_then b (after_text_came hearing on b) (admits_error hearing message (after_text_came hearing on b)) mid (admits_seen (after_text_came hearing on b) mid.shapes.unique mid.shapes.linked)

    suspended_then : TextSeen me n b (admits_error hearing message (text_suspended hearing on b))
    suspended_then = wrong_seen true true b unique linked

    open_then : (u : Sockets) (user : UserAt me n true on b u) (x y : Bool)
        → TextSeen me n (after_text_came hearing on (less b user.place)) (admits_error_if x hearing message (if y then text_suspended hearing on (after_text_came hearing on (less b user.place)) else after_text_came hearing on (less b user.place)))
    open_then u user x y =
        let first = used_seen b unique linked u user in
        let second = came_seen (less b user.place) first.shapes.unique first.shapes.linked in
        wrong_seen x y (after_text_came hearing on (less b user.place)) second.shapes.unique second.shapes.linked

    text_seen : TextSeen me n b (conn_tables_after_text (record { at = me; peer = n; sent = false }) on message b)
    text_seen = go (text_target hearing on b) (text_leads me n false on b unique)
      where
        go : (l : LinkTarget) → LeadsTo me n (is_closed_for hearing) true on b l → TextSeen me n b (led_tables l)
        go l (ToRest e marked) = subst (λ (x : LinkTarget). TextSeen me n b (led_tables x)) (sym e) came_then
        go l (ToNobody e marked none) = subst (λ (x : LinkTarget). TextSeen me n b (led_tables x)) (sym e) suspended_then
        go l (ToClosed e marked u user k) = subst (λ (x : LinkTarget). TextSeen me n b (led_tables x)) (sym e) suspended_then
        go l (ToUnasked u user e marked k) = subst (λ (x : LinkTarget). TextSeen me n b (led_tables x)) (sym e) came_then
        go l (ToOpen u user e marked size k) =
            let is = is_any (open_text_rules on message (conn_at_index b.conns user.place)) in
            let first = used_seen b unique linked u user in
            let second = came_seen (less b user.place) first.shapes.unique first.shapes.linked in
            subst (λ (x : LinkTarget). TextSeen me n b (led_tables x)) (sym e)
            (seen_then b (after_text_came hearing on (less b user.place)) (led_tables (LinkTarget.Open user.place)) (seen_then b (less b user.place) (after_text_came hearing on (less b user.place)) first second) (open_then u user is (is && true)))

    -- ---- where it leads

    same_place : (u v : Sockets) (user : UserAt me n true on b u) (other : UserAt me n true on b v) → other.place ≡ user.place
    same_place u v user other = cc (sym other.found ∙ user.found)

    at_unclosed : (x : Bool) → (x || false) ≡ false → x ≡ false
    at_unclosed true e = absurd (cc e)
    at_unclosed false e = refl

    -- if the link is suspended, or was not observed to be requested by the other host
    text_to : (conn_tables_after_text (record { at = me; peer = n; sent = false }) on message b).full ≡ false → TextTo me n on b (conn_tables_after_text (record { at = me; peer = n; sent = false }) on message b)
    text_to room = go (text_target hearing on b) (text_leads me n false on b unique) room
      where
        came_there : (u : Sockets) (user : UserAt me n true on b u) → (conn_at_index b.conns user.place).peer_left ≡ false → TextTo me n on b (admits_error hearing message (after_text_came hearing on b))
        came_there u user k =
            let mid = came_seen b unique linked in
            ToUser u user k ((admits_seen (after_text_came hearing on b) mid.shapes.unique mid.shapes.linked).shapes.came u (came_for b unique u user k))

        at_rest : is_marked me n (FactKind.LinkSuspended true on) b ≡ true → TextTo me n on b (admits_error hearing message (after_text_came hearing on b))
        at_rest marked = by (position (has_link me n true on) b.conns) refl
          where
            still : is_marked me n (FactKind.LinkSuspended true on) (admits_error hearing message (after_text_came hearing on b)) ≡ true
            still = came_then.shapes.links true on marked

            by : (o : Option ℕ) → position (has_link me n true on) b.conns ≡ o → TextTo me n on b (admits_error hearing message (after_text_came hearing on b))
            by None p = ToNone (λ v user k. let nay : None ≡ Some user.place = sym p ∙ user.found in cc nay) still
            by (Some i) p = let it = user_found me n true on b unique i p in closed it.u it.user (conn_at_index b.conns it.user.place).peer_left refl
              where
                closed : (u : Sockets) (user : UserAt me n true on b u) (x : Bool) → (conn_at_index b.conns user.place).peer_left ≡ x → TextTo me n on b (admits_error hearing message (after_text_came hearing on b))
                closed u user false k = came_there u user k
                closed u user true k = ToNone (λ v other z. let nay : true ≡ false = sym k ∙ ap (λ (x : ℕ). (conn_at_index b.conns x).peer_left) (sym (same_place u v user other)) ∙ z in cc nay) still

        marked_now : (admits_error hearing message (text_suspended hearing on b)).full ≡ false → is_marked me n (FactKind.LinkSuspended true on) (admits_error hearing message (text_suspended hearing on b)) ≡ true
        marked_now f = fact_keeps me n error_topic (text_suspended hearing on b) (FactKind.LinkSuspended true on) (fact_made me n (FactKind.LinkSuspended true on) b (fact_room me n error_topic (text_suspended hearing on b) f))

        opened : (u : Sockets) (user : UserAt me n true on b u) → (conn_at_index b.conns user.place).peer_left ≡ false → TextTo me n on b (led_tables (LinkTarget.Open user.place))
        opened u user k =
            let is = is_any (open_text_rules on message (conn_at_index b.conns user.place)) in
            ToUser u user k ((open_then u user is (is && true)).shapes.came u (came_for (less b user.place) less_unique u less_user (ap (λ (x : ConnState). x.peer_left) less_conn ∙ k)))
          where
            old : ConnState
            old = conn_at_index b.conns user.place

            less_unique : AllUnique me n (less b user.place)
            less_unique = renumbered_unique me n true on b u user (old.messages - 1) (old.bits - length message.text) old.recall old.came unique

            less_here : conn_seen me n (less b user.place) u ≡ Some (used (length message.text) old)
            less_here = renumbered_here me n true on b u user (old.messages - 1) (old.bits - length message.text) old.recall old.came unique

            less_user : UserAt me n true on (less b user.place) u
            less_user =
                user_seen me n true on (less b user.place) (renumbered_tidy me n true on b u user (old.messages - 1) (old.bits - length message.text) old.recall old.came tidy) u (used (length message.text) old) less_here user.receives user.given

            less_conn : conn_at_index (less b user.place).conns less_user.place ≡ used (length message.text) old
            less_conn = cc (sym less_user.seen ∙ less_here)

        go : (l : LinkTarget) → LeadsTo me n (is_closed_for hearing) true on b l → (led_tables l).full ≡ false → TextTo me n on b (led_tables l)
        go l (ToRest e marked) f = subst (λ (x : LinkTarget). TextTo me n on b (led_tables x)) (sym e) (at_rest marked)
        go l (ToNobody e unmarked none) f =
            subst (λ (x : LinkTarget). TextTo me n on b (led_tables x)) (sym e)
            (ToNone (λ v user k. let nay : None ≡ Some user.place = sym none ∙ user.found in cc nay) (marked_now (subst (λ (x : LinkTarget). (led_tables x).full ≡ false) e f)))
        go l (ToClosed e unmarked u user k) f =
            subst (λ (x : LinkTarget). TextTo me n on b (led_tables x)) (sym e)
            (ToNone (λ v other z.
            let nay : true ≡ false = sym k ∙ ap (λ (x : Bool). x || false) (ap (λ (x : ℕ). (conn_at_index b.conns x).peer_left) (sym (same_place u v user other)) ∙ z) in cc nay) (marked_now (subst (λ (x : LinkTarget). (led_tables x).full ≡ false) e f)))
        go l (ToUnasked u user e unmarked k) f = subst (λ (x : LinkTarget). TextTo me n on b (led_tables x)) (sym e) (came_there u user (at_unclosed (conn_at_index b.conns user.place).peer_left k.0))
        go l (ToOpen u user e unmarked size k) f = subst (λ (x : LinkTarget). TextTo me n on b (led_tables x)) (sym e) (opened u user (at_unclosed (conn_at_index b.conns user.place).peer_left k.0))

-- ---- the own request of one that is not closed

-- what waits of it is no second one
own_stays : (q : List Say) (e m : Option Shape) (number : ℕ) → number_of m ≡ Some number → is_closed m ≡ false → Agrees q e m → (number_of e ≡ Some number) × (asks_in q ≡ false)
own_stays [] e m number o c a = (ap number_of (sym a) ∙ o, refl)
own_stays (Ask k ∷ q) e None number o c a = absurd (cc o)
own_stays (Ask k ∷ q) e (Some x) number o c (l, g) = let nay : false ≡ true = sym (ap (λ (y : Option ℕ). not (is_some y)) o) ∙ (and_parts (not (is_some x.own)) (not x.left) l).0 in absurd (cc nay)
own_stays (Leave ∷ q) e None number o c a = absurd (cc o)
own_stays (Leave ∷ q) e (Some x) number o c (l, g) = own_stays q e (Some (record x { left = true })) number o c (subst (λ (y : Bool). Agrees q e (if y then None else Some (record x { left = true }))) c g)

-- where none waits it is seen
number_was : (q : List Say) (s : Shape) (m : Option Shape) (number : ℕ) → asks_in q ≡ false → s.cls ≡ false → s.own ≡ Some number → Agrees q (Some s) m → (number_of m ≡ Some number) × (is_closed m ≡ false)
number_was [] s m number z c o a = (ap number_of a ∙ o, ap is_closed a ∙ c)
number_was (Ask k ∷ q) s m number z c o a = absurd (cc z)
number_was (Leave ∷ q) s None number z c o (l, g) = absurd (cc l)
number_was (Leave ∷ q) s (Some x) number z c o (l, g) = go x.cls g (number_was q s (Some (record x { left = true })) number z c o)
  where
    over : (q : List Say) → asks_in q ≡ false → Agrees q (Some s) None → ⊥
    over [] z g = cc g
    over (Ask k ∷ q) z g = cc z
    over (Leave ∷ q) z (l, g) = cc l

    go : (y : Bool) → Agrees q (Some s) (if y then None else Some (record x { left = true })) → (Agrees q (Some s) (Some (record x { left = true })) → (x.own ≡ Some number) × (x.cls ≡ false)) → (x.own ≡ Some number) × (x.cls ≡ false)
    go true g rest = absurd (over q z g)
    go false g rest = rest g

-- ---- the receiver that the link identifies: a text was observed to arrive for it, or the link is
-- suspended

only_receives : (pair : Pair) → is_senders pair.local ≡ false → is_proper pair ≡ true → receives pair ≡ true
only_receives pair k p = grind arith

unsent : (x : Bool) → not x ≡ true → x ≡ false
unsent true e = absurd (cc e)
unsent false e = refl

module _ (me n on : ℕ) (m : Ends) (w : List Command) (b now : SeenTables) (good : EndsInvariant m) (proper : ProperEnds m) (tidy : Tidy b) (meets : Meets me n m w b) (same_shapes : SameShapes me n b now) (to : TextTo me n on b now) where
  abbrev Known : Sockets → Type 0
  Known u = (suspended_of me n now u ≡ true) ⊎ ((if asks_in (about u (all_says w)) then is_marked me n (FactKind.LinkSuspended true on) now else has_come (conn_seen me n now u)) ≡ true)

  module _ (pair : Pair) (e : Endpoint) (g : get m pair ≡ Some e) (r : receives pair ≡ true) (a : e.asked ≡ true) (l : e.link ≡ on) (c : e.cls ≡ false) where
    abbrev u : Sockets
    u = (pair.local, pair.remote)

    abbrev q : List Say
    q = about u (all_says w)

    shape : kept_of m u ≡ Some (of_end false e)
    shape = ap (kept (sends pair)) g ∙ ap (λ (x : Bool). Some (of_end x e)) (no_sender pair r)

    own_number : (of_end false e).own ≡ Some on
    own_number = ap (λ (x : Bool). if x then Some e.link else None) a ∙ ap (λ (x : ℕ). Some x) l

    agrees : suspended_of me n b u ≡ false → Agrees q (Some (of_end false e)) (seen_of me n b u)
    agrees z = subst (λ (x : Option Shape). Agrees q x (seen_of me n b u)) shape (meets.tally.pairs u z)

    is_receiver : receives_at u ≡ true
    is_receiver = receiving_socket pair r

    -- no request of it waits: it is the user
    it_is_user : suspended_of me n b u ≡ false → asks_in q ≡ false → (user : UserAt me n true on b u) × ((conn_at_index b.conns user.place).peer_left ≡ false)
    it_is_user z k =
        let was = number_was q (of_end false e) (seen_of me n b u) on k c own_number (agrees z) in
        by (conn_seen me n b u) refl was.0 was.1
      where
        by : (o : Option ConnState) → conn_seen me n b u ≡ o → number_of (seen o) ≡ Some on → is_closed (seen o) ≡ false → (user : UserAt me n true on b u) × ((conn_at_index b.conns user.place).peer_left ≡ false)
        by None f x y = absurd (cc x)
        by (Some conn) f x y =
            let user = user_seen me n true on b tidy u conn f is_receiver has in
            (user, ap (λ (z : Option ConnState). is_closed (seen z)) (sym user.seen ∙ f) ∙ y)
          where
            sex : is_senders conn.local ≡ false
            sex = ap is_senders (sockets_there conn f) ∙ unsent (is_senders pair.local) is_receiver
              where
                sockets_there : (conn : ConnState) → conn_seen me n b u ≡ Some conn → conn.local ≡ pair.local
                sockets_there conn f = (has_sockets me n pair.local pair.remote conn (first_passes (is_of_sockets me n pair.local pair.remote) b.conns conn f)).local

            has : conn.link ≡ Some on
            has = sym (ap (λ (z : Bool). if z then conn.size else conn.link) sex) ∙ x

    came_for_it : suspended_of me n b u ≡ false → asks_in q ≡ false → has_come (conn_seen me n now u) ≡ true
    came_for_it z k = go to
      where
        its : (user : UserAt me n true on b u) × ((conn_at_index b.conns user.place).peer_left ≡ false)
        its = it_is_user z k

        go : TextTo me n on b now → has_come (conn_seen me n now u) ≡ true
        go (ToNone none marked) = absurd (none u its.0 its.1)
        go (ToUser v user k come) = ap (λ (x : Sockets). has_come (conn_seen me n now x)) (sym is) ∙ come
          where
            place : user.place ≡ its.0.place
            place = cc (sym user.found ∙ its.0.found)

            same_conn : conn_at_index b.conns user.place ≡ conn_at_index b.conns its.0.place
            same_conn = ap (conn_at_index b.conns) place

            local : v.0 ≡ pair.local
            local = sym user.sockets.local ∙ ap (λ (x : ConnState). x.local) same_conn ∙ its.0.sockets.local

            remote : v.1 ≡ pair.remote
            remote = sym user.sockets.remote ∙ ap (λ (x : ConnState). x.remote) same_conn ∙ its.0.sockets.remote

            is : v ≡ u
            is = ap (λ (x : ℕ). (x, v.1)) local ∙ ap (λ (x : ℕ). (pair.local, x)) remote

    -- its request is queued: the link is another connection's, which has ended at the host and which the
    -- other host has closed, or which is suspended
    link_suspended_then : asks_in q ≡ true → is_marked me n (FactKind.LinkSuspended true on) now ≡ true
    link_suspended_then k = go to
      where
        go : TextTo me n on b now → is_marked me n (FactKind.LinkSuspended true on) now ≡ true
        go (ToNone none marked) = marked
        go (ToUser v user d come) = by_rest (suspended_of me n b v) refl
          where
            conn : ConnState
            conn = conn_at_index b.conns user.place

            sex : is_senders conn.local ≡ false
            sex = ap is_senders user.sockets.local ∙ unsent (is_senders v.0) user.receives

            its_number : number_of (seen (Some conn)) ≡ Some on
            its_number = ap (λ (x : Bool). if x then conn.size else conn.link) sex ∙ user.given

            stays : suspended_of me n b v ≡ false → (number_of (kept_of m v) ≡ Some on) × (asks_in (about v (all_says w)) ≡ false)
            stays y =
                own_stays (about v (all_says w)) (kept_of m v) (Some (of_conn conn)) on its_number d
                (subst (λ (x : Option ConnState). Agrees (about v (all_says w)) (kept_of m v) (seen x)) user.seen (meets.tally.pairs v y))

            uses : (o : Option Endpoint) → get m (pair_at v) ≡ o → number_of (kept (sends (pair_at v)) o) ≡ Some on → passes (uses_link on) (pair_at v) o ≡ true
            uses None h x = absurd (cc x)
            uses (Some y) h x =
                let rs : receives (pair_at v) ≡ true = only_receives (pair_at v) (unsent (is_senders v.0) user.receives) (proper (pair_at v) (ap is_some h)) in
                ap (λ (z : Bool). z && y.asked && (y.link == on)) rs ∙ by y.asked (sym (ap (λ (z : Bool). number_of (kept z (Some y))) (no_sender (pair_at v) rs)) ∙ x)
              where
                by : (z : Bool) → (if z then Some y.link else None) ≡ Some on → (z && (y.link == on)) ≡ true
                by false x = absurd (cc x)
                by true x = let same_link : y.link ≡ on = cc x in eq-eqb y.link on same_link

            used_link : passes (uses_link on) pair (get m pair) ≡ true
            used_link = ap (passes (uses_link on) pair) g ∙ ap (λ (z : Bool). z && e.asked && (e.link == on)) r ∙ ap (λ (z : Bool). z && (e.link == on)) a ∙ eq-eqb e.link on l

            by_rest : (y : Bool) → suspended_of me n b v ≡ y → is_marked me n (FactKind.LinkSuspended true on) now ≡ true
            by_rest true y =
                same_shapes.links true on
                (ap (λ (x : Bool). is_marked me n (FactKind.LinkSuspended x on) b) (sym user.receives) ∙ meets.linked v conn on user.seen (sym (ap is_suspended user.seen) ∙ y) user.given)
            by_rest false y =
                let st = stays y in
                let same_pair : pair_at v ≡ pair = good.asked on (pair_at v) pair (uses (get m (pair_at v)) refl st.0) used_link in
                let same_sockets : v ≡ u = ap sockets_of same_pair in
                let nay : true ≡ false = sym k ∙ ap (λ (x : Sockets). asks_in (about x (all_says w))) (sym same_sockets) ∙ st.1 in absurd (cc nay)

    text_known : Known u
    text_known = by_rest (suspended_of me n b u) refl
      where
        by_asks : (z : suspended_of me n b u ≡ false) → (x : Bool) → asks_in q ≡ x → Known u
        by_asks z true k = inr (ap (λ (x : Bool). if x then is_marked me n (FactKind.LinkSuspended true on) now else has_come (conn_seen me n now u)) k ∙ link_suspended_then k)
        by_asks z false k = inr (ap (λ (x : Bool). if x then is_marked me n (FactKind.LinkSuspended true on) now else has_come (conn_seen me n now u)) k ∙ came_for_it z k)

        by_rest : (x : Bool) → suspended_of me n b u ≡ x → Known u
        by_rest true z = inl (same_shapes.suspended u ∙ z)
        by_rest false z = by_asks z (asks_in q) refl

-- ---- what the host does with it

-- what is made of it is no word of a connection, and no ECO
made_says : (head text : List Bool) (taken : Took) → all_says (made_by_text head text taken) ≡ []
made_says head text Took.Admitted = refl
made_says head text Took.Late = refl
made_says head text Took.WrongSize = refl
made_says head text Took.Over = refl
made_says head text Took.NotOpen = refl

made_no_eco : (head text : List Bool) (taken : Took) → ecos (made_by_text head text taken) ≡ 0
made_no_eco head text Took.Admitted = refl
made_no_eco head text Took.Late = refl
made_no_eco head text Took.WrongSize = refl
made_no_eco head text Took.Over = refl
made_no_eco head text Took.NotOpen = refl

-- an end that is on its way out stays as it is; the link of any stays
late_same : (of_size : ℕ) (text : List Bool) (e : Endpoint) → is_closing e ≡ true → end_after (Some e) (hear_text of_size text (Some e)) ≡ Some e
late_same of_size text e g = ap (λ (x : Bool). end_after (Some e) (if x then Stays Took.Late else if not e.opened then Stays Took.NotOpen else text_at of_size text e)) g

link_stays : (of_size : ℕ) (text : List Bool) (e now : Endpoint) → end_after (Some e) (hear_text of_size text (Some e)) ≡ Some now → e.link ≡ now.link
link_stays of_size text e now k = go (is_closing e) e.opened (of_size == e.size) (e.messages == 0 || nat_lt e.bits (length text)) k
  where
    taken : Endpoint
    taken = record e { messages = e.messages - 1; bits = e.bits - length text; stored = e.stored ++ text }

    acts : Bool → Bool → Bool → Bool → Effect Took
    acts g o s v = if g then Stays Took.Late else if not o then Stays Took.NotOpen else if not s then Stays Took.WrongSize else if v then Stays Took.Over else Becomes taken Took.Admitted

    stayed : Some e ≡ Some now → e.link ≡ now.link
    stayed k = let is : e ≡ now = cc k in ap (λ (x : Endpoint). x.link) is

    go : (g o s v : Bool) → end_after (Some e) (acts g o s v) ≡ Some now → e.link ≡ now.link
    go true o s v k = stayed k
    go false false s v k = stayed k
    go false true false v k = stayed k
    go false true true true k = stayed k
    go false true true false k = by (is_ended taken) k
      where
        by : (x : Bool) → (if x then None else Some taken) ≡ Some now → e.link ≡ now.link
        by true k = absurd (cc k)
        by false k = let is : taken ≡ now = cc k in ap (λ (x : Endpoint). x.link) is

-- ---- what meets, is held and echoes, and what came

module _ (me n on : ℕ) (head : List Bool) (message : Message) (m : Ends) (awaited : Bool) (w : List Command) (b : SeenTables) (good : EndsInvariant m) (proper : ProperEnds m) (tidy : Tidy b) (tells : Beside me n m awaited w b)
    (room : (conn_tables_after_text (record { at = me; peer = n; sent = false }) on message b).full ≡ false) where
  abbrev now : SeenTables
  now = conn_tables_after_text (record { at = me; peer = n; sent = false }) on message b

  texts : TextSeen me n b now
  texts = text_seen me n on message b tidy tells.meets.unique tells.meets.linked

  goes_to : TextTo me n on b now
  goes_to = text_to me n on message b tidy tells.meets.unique tells.meets.linked room

  abbrev KnownBy : Sockets → ℕ → Bool → Type 0
  KnownBy v link x = (suspended_of me n now v ≡ true) ⊎ ((if x then is_marked me n (FactKind.LinkSuspended true link) now else has_come (conn_seen me n now v)) ≡ true)

  -- what is known of another stays known
  lifted : (v : Sockets) (link : ℕ) (x : Bool) → (suspended_of me n b v ≡ true) ⊎ ((if x then is_marked me n (FactKind.LinkSuspended true link) b else has_come (conn_seen me n b v)) ≡ true) → KnownBy v link x
  lifted v link x (inl k) = inl (texts.shapes.suspended v ∙ k)
  lifted v link true (inr k) = inr (texts.shapes.links true link k)
  lifted v link false (inr k) = inr (texts.shapes.came v k)

  as_made : (cs : List Command) → all_says cs ≡ [] → (v : Sockets) (link : ℕ) → KnownBy v link (asks_in (about v (all_says w))) → KnownBy v link (asks_in (about v (all_says (w ++ cs))))
  as_made cs s v link k =
      subst (λ (x : List (Sockets × Say)). KnownBy v link (asks_in (about v x))) (sym (says_append w cs ∙ ap (λ (x : List (Sockets × Say)). all_says w ++ x) s ∙ append-nil (all_says w))) k

  told : (then_ends : Ends) (cs : List Command) → Meets me n then_ends (w ++ cs) b → Held me n then_ends b → ecos cs ≡ 0 → Came me n then_ends (w ++ cs) now → Beside me n then_ends awaited (w ++ cs) now
  told then_ends cs meets held k came = record {
    meets = shapes_meets me n then_ends (w ++ cs) b now texts.shapes meets;
    held = shapes_held me n then_ends b now texts.shapes held;
    echoing = echo_reported me n awaited w cs b now texts.echoes k tells.echoing;
    came = came;
  }

  -- the link leads to no end
  none_there : Beside me n m awaited (w ++ text_error head message.text ∷ []) now
  none_there =
      told m (text_error head message.text ∷ []) (unsaid_meets me n m w b (text_error head message.text ∷ []) refl tells.meets) tells.held refl
      (λ v e g r s. as_made (text_error head message.text ∷ []) refl v e.link (lifted v e.link (asks_in (about v (all_says w))) (tells.came v e g r s)))

  some_there : (pair : Pair) (e : Endpoint) → get m pair ≡ Some e → passes (uses_link on) pair (get m pair) ≡ true
      → Beside me n (map_after m pair (hear_text message.size message.text (Some e))) awaited (w ++ made_by_text head message.text (answer (hear_text message.size message.text (Some e)))) now
  some_there pair e g p = told after cs meets held (made_no_eco head message.text (answer act)) came
    where
      act : Effect Took
      act = hear_text message.size message.text (Some e)

      after : Ends
      after = map_after m pair act

      cs : List Command
      cs = made_by_text head message.text (answer act)

      what : EndpointEvent
      what = EndpointEvent.Text_comes head message.size message.text

      one : OneEnd m after pair (end_after (get m pair) act)
      one = one_end m pair act

      moved : Moved (sends pair) pair (get m pair) (end_after (get m pair) act) cs
      moved = subst (λ (o : Option Endpoint). Moved (sends pair) pair o (end_after o act) cs) (sym g) (moves pair what (Some e) refl (subst (SoundAt pair) g (good.sound pair)))

      meets : Meets me n after (w ++ cs) b
      meets =
          host_meets me n m w b after pair (end_after (get m pair) act) cs one moved
          (λ k s. let nay : [] ≡ (sockets_of pair, Ask k) ∷ [] = sym (made_says head message.text (answer act)) ∙ s in absurd (cc nay)) tells.meets

      held : Held me n after b
      held = host_held me n m after b pair (end_after (get m pair) act) cs one moved tells.held

      its_use : (receives pair && e.asked && (e.link == on)) ≡ true
      its_use = sym (ap (passes (uses_link on) pair) g) ∙ p

      its : ((receives pair && e.asked) ≡ true) × ((e.link == on) ≡ true)
      its = and_parts (receives pair && e.asked) (e.link == on) its_use

      receiver : (receives pair ≡ true) × (e.asked ≡ true)
      receiver = and_parts (receives pair) e.asked its.0

      link : e.link ≡ on
      link = eqb-true e.link on its.1

      -- one that the other has closed is on its way out
      unclosed : is_closing e ≡ false → e.cls ≡ false
      unclosed k = by e.cls refl
        where
          sound : SoundAt pair (Some e)
          sound = subst (SoundAt pair) g (good.sound pair)

          by : (x : Bool) → e.cls ≡ x → e.cls ≡ false
          by false c = c
          by true c = let nay : true ≡ false = sym (ap (λ (x : Bool). x || e.left) (sound.shut c)) ∙ k in absurd (cc nay)

      here : (x : Bool) → is_closing e ≡ x → (v : Sockets) → v ≡ (pair.local, pair.remote) → (now_there : Endpoint) → end_after (Some e) act ≡ Some now_there → 0 < length now_there.stored
          → KnownBy v now_there.link (asks_in (about v (all_says w)))
      here true k v i y z s =
          let same_end : e ≡ y = cc (sym (late_same message.size message.text e k) ∙ z) in
          lifted v y.link (asks_in (about v (all_says w)))
          (tells.came v y (ap (λ (u : Sockets). get m (pair_at u)) i ∙ g ∙ ap (λ (u : Endpoint). Some u) same_end) (ap (λ (u : Sockets). receives (pair_at u)) i ∙ receiver.0) s)
      here false k v i y z s =
          subst (λ (l : ℕ). KnownBy v l (asks_in (about v (all_says w)))) (sym link ∙ link_stays message.size message.text e y z)
          (subst (λ (u : Sockets). KnownBy u on (asks_in (about u (all_says w)))) (sym i)
          (text_known me n on m w b now good proper tidy tells.meets texts.shapes goes_to pair e g receiver.0 receiver.1 link (unclosed k)))

      came : Came me n after (w ++ cs) now
      came v y h r s = as_made cs (made_says head message.text (answer act)) v y.link (at_it (same v (sockets_of pair)) refl)
        where
          at_it : (x : Bool) → same v (sockets_of pair) ≡ x → KnownBy v y.link (asks_in (about v (all_says w)))
          at_it true d =
              let i : v ≡ (pair.local, pair.remote) = same_is v (sockets_of pair) d in
              here (is_closing e) refl v i y (ap (λ (o : Option Endpoint). end_after o act) (sym g) ∙ sym one.there ∙ ap (λ (u : Sockets). get after (pair_at u)) (sym i) ∙ h) s
          at_it false d = lifted v y.link (asks_in (about v (all_says w))) (tells.came v y (sym (one.elsewhere (pair_at v) (unlike v (sockets_of pair) d)) ∙ h) r s)

  pub text_beside : Beside me n (text_ends m on message) awaited (w ++ text_made m on head message) now
  text_beside = go (receiver_on on m) refl
    where
      go : (o : Option (Pair × Endpoint)) → receiver_on on m ≡ o
          → Beside me n (map_after_at m (pair_of o) (hear_text message.size message.text (end_of o))) awaited (w ++ made_by_text head message.text (answer (hear_text message.size message.text (end_of o)))) now
      go None e = none_there
      go (Some q) e =
          let l = led (uses_link on) m q.0 (ap pair_of e) in
          some_there q.0 q.1 (l.0 ∙ ap end_of e) l.1

-- ---- a text comes

-- `shown`: the ERR about it is the admitted one; `about`: it is reported as one about a text
pub text_reports : (me n on : ℕ) (head : List Bool) (message : Message) (m : Ends) (awaited : Bool) (w : List Command) (b : SeenTables) → EndsInvariant m → ProperEnds m → shown_by (text_error head message.text) ≡ text_shown n message → is_text_error (text_error head message.text) ≡ true
    → (conn_tables_after_text (record { at = me; peer = n; sent = false }) on message b).full ≡ false → Tidy b → Tells me n m awaited w b
    → Tells me n (text_ends m on message) awaited (w ++ text_made m on head message) (conn_tables_after_text (record { at = me; peer = n; sent = false }) on message b)
text_reports me n on head message m awaited w b good proper shown about room tidy t =
    let beside = text_beside me n on head message m awaited w b good proper tidy (record { meets = t.meets; held = t.held; echoing = t.echoing; came = t.came }) room in
    let both =
    text_both me n m good proper w b tidy t.meets.unique t.meets.linked t.meets.tally.pairs t.counted t.owed on head message shown about room (plain_text me n on message b t.meets.unique t.counted.plain) in
    record { meets = beside.meets; held = beside.held; echoing = beside.echoing; came = beside.came; counted = both.0; owed = both.1 }
