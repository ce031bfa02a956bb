-- The facts about the books alone, through a text of the other, wherever it leads.
use Rattle.std.proofs.Common.{◌≡◌, ℕ, Bool, true, false, ◌&&◌, if◌then◌else◌, length, Option, None, Some, is_some, inl, refl, sym, ap, ◌∙◌, subst}
use Rattle.std.specs.Prelude.{◌-◌}
use Rattle.std.specs.List.{position}
use Rattle.ncp_leader.specs.Message.{Message}
use Rattle.ncp_monitor.specs.declared.link_target.LinkTarget.{LinkTarget}
use Rattle.ncp_monitor.specs.declared.conn_state.ConnState.{ConnState}
use Rattle.ncp_monitor.specs.declared.conn_state.FactKind.{FactKind}
use Rattle.ncp_monitor.specs.declared.observed_flow.ObservedFlow.{ObservedFlow}
use Rattle.ncp_monitor.specs.ConnStates.{SeenTables, has_link, conn_at_index, put_conn}
use Rattle.ncp_interface.specs.Sockets.{is_senders}
use Rattle.ncp_monitor.specs.Allocation.{is_any}
use Rattle.ncp_monitor.specs.Texts.{text_shown, admits_error, is_closed_for, text_target, open_text_rules, after_text_came, conn_came_at, text_suspended, admits_error_if, demuxed_after_text, conn_tables_after_text}
use Rattle.ncp_monitor.proofs.LinkOrder.{Sockets, same, same_is}
use Rattle.ncp_monitor.proofs.Seeing.{seen}
use Rattle.ncp_proof_monitor_allocation.proofs.SeenTables.{seen_of}
use Rattle.ncp_proof_monitor_allocation.proofs.TidyBooks.{numbered}
use Rattle.ncp_proof_monitor_allocation.proofs.LinkPlaces.{UserAt, AllUnique, LeadsTo, ToRest, ToNobody, ToClosed, ToUnasked, ToOpen, user_found, text_leads, renumbered_here, renumbered_others, renumbered_seen, renumbered_unique}
use Rattle.ncp_proof_monitor_allocation.proofs.Words.{count_of}
use Rattle.ncp_proof_monitor_allocation.proofs.Plain.{Plain, is_opened, count_seen, plain_fact, plain_numbered, same_fewer}
use Rattle.ncp_proof_monitor_allocation.proofs.PlainSteps.{plain_shapes, plain_link_suspended}

module _ (me n link : ℕ) (message : Message) where
  abbrev hearing : ObservedFlow
  hearing = record { at = me; peer = n; sent = false }

  admits_plain : (b : SeenTables) → Plain me n b → Plain me n (admits_error hearing message b)
  admits_plain b plain = plain_fact me n (FactKind.Admits true (text_shown n message)) b refl plain

  -- that it came is no number
  came_plain : (b : SeenTables) → AllUnique me n b → Plain me n b → Plain me n (after_text_came hearing link b)
  came_plain b unique plain = go (position (has_link me n true link) b.conns) refl
    where
      go : (o : Option ℕ) → position (has_link me n true link) b.conns ≡ o → Plain me n (conn_came_at b o)
      go None e = plain
      go (Some i) e = by (conn_at_index b.conns i).peer_left
        where
          there : (it : ℕ) → it ≡ i → (u : Sockets) (user : UserAt me n true link b u) → user.place ≡ it → Plain me n (put_conn b (Some user.place) (record (conn_at_index b.conns user.place) { came = true }))
          there it k u user s =
              plain_shapes me n b now (λ v. renumbered_seen me n true link b u user conn.messages conn.bits conn.recall true unique v) (λ v. counts v (same v u) refl) (λ h l. same_fewer me n h l b now refl refl) plain
            where
              conn : ConnState
              conn = conn_at_index b.conns user.place

              now : SeenTables
              now = put_conn b (Some user.place) (numbered conn.messages conn.bits conn.recall true conn)

              counts : (v : Sockets) (x : Bool) → same v u ≡ x → count_seen me n now v ≡ count_seen me n b v
              counts v true d =
                  ap (count_seen me n now) (same_is v u d) ∙ ap count_of (renumbered_here me n true link b u user conn.messages conn.bits conn.recall true unique) ∙ sym (ap count_of user.seen) ∙ ap (count_seen me n b) (sym (same_is v u d))
              counts v false d = ap count_of (renumbered_others me n true link b u user conn.messages conn.bits conn.recall true v d)

          by : (x : Bool) → Plain me n (if x then b else put_conn b (Some i) (record (conn_at_index b.conns i) { came = true }))
          by true = plain
          by false =
              let it = user_found me n true link b unique i e in
              subst (λ (j : ℕ). Plain me n (put_conn b (Some j) (record (conn_at_index b.conns j) { came = true }))) it.there (there i refl it.u it.user it.there)

  pub plain_text : (b : SeenTables) → AllUnique me n b → Plain me n b → Plain me n (conn_tables_after_text hearing link message b)
  plain_text b unique plain = go (text_leads me n false link b unique)
    where
      as_led : (l : LinkTarget) → text_target hearing link b ≡ l → Plain me n (demuxed_after_text hearing link message b l) → Plain me n (demuxed_after_text hearing link message b (text_target hearing link b))
      as_led l e k = subst (λ (x : LinkTarget). Plain me n (demuxed_after_text hearing link message b x)) (sym e) k

      rested : Plain me n (text_suspended hearing link b)
      rested = plain_link_suspended me n true link b plain

      wrong : (x y : Bool) (mid : SeenTables) → Plain me n mid → Plain me n (admits_error_if x hearing message (if y then text_suspended hearing link mid else mid))
      wrong true true mid k = admits_plain (text_suspended hearing link mid) (plain_link_suspended me n true link mid k)
      wrong true false mid k = admits_plain mid k
      wrong false true mid k = plain_link_suspended me n true link mid k
      wrong false false mid k = k

      opened : (u : Sockets) (user : UserAt me n true link b u) (size : ℕ) → (conn_at_index b.conns user.place).size ≡ Some size → is_opened (seen_of me n b u) ≡ true
      opened u user size z = ap is_opened (ap seen user.seen) ∙ both (is_senders (conn_at_index b.conns user.place).local) (conn_at_index b.conns user.place).link (conn_at_index b.conns user.place).size user.given z
        where
          both : (s : Bool) (x y : Option ℕ) → x ≡ Some link → y ≡ Some size → (is_some (if s then y else x) && is_some (if s then x else y)) ≡ true
          both true x y p q = ap (λ (z : Option ℕ). is_some y && is_some z) p ∙ ap (λ (z : Option ℕ). is_some z && true) q
          both false x y p q = ap (λ (z : Option ℕ). is_some z && is_some y) p ∙ ap is_some q

      go : LeadsTo me n (is_closed_for hearing) true link b (text_target hearing link b) → Plain me n (demuxed_after_text hearing link message b (text_target hearing link b))
      go (ToRest e m) = as_led LinkTarget.Rests e (admits_plain (after_text_came hearing link b) (came_plain b unique plain))
      go (ToNobody e m p) = as_led LinkTarget.Nobody e (admits_plain (text_suspended hearing link b) rested)
      go (ToClosed e m u user k) = as_led LinkTarget.Closed e (admits_plain (text_suspended hearing link b) rested)
      go (ToUnasked u user e m k) = as_led (LinkTarget.Unasked user.place) e (admits_plain (after_text_came hearing link b) (came_plain b unique plain))
      go (ToOpen u user e m size k) = as_led (LinkTarget.Open user.place) e (wrong is (is && true) (after_text_came hearing link put) (came_plain put put_unique put_plain))
        where
          conn : ConnState
          conn = conn_at_index b.conns user.place

          is : Bool
          is = is_any (open_text_rules link message (conn_at_index b.conns user.place))

          put : SeenTables
          put = put_conn b (Some user.place) (numbered ((conn_at_index b.conns user.place).messages - 1) ((conn_at_index b.conns user.place).bits - length message.text) (conn_at_index b.conns user.place).recall (conn_at_index b.conns user.place).came (conn_at_index b.conns user.place))

          put_unique : AllUnique me n put
          put_unique = renumbered_unique me n true link b u user (conn.messages - 1) (conn.bits - length message.text) conn.recall conn.came unique

          put_plain : Plain me n put
          put_plain = plain_numbered me n true link b u user (conn.messages - 1) (conn.bits - length message.text) conn.recall conn.came unique (opened u user size k.1) (inl (λ z. z)) plain
