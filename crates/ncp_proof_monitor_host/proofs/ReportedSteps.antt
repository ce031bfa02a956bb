-- The facts about the flow between two hosts after a command of the other host: the host owes a reply and
-- makes it, or the connection is suspended from then on.
use Rattle.std.proofs.Common.{◌≡◌, ◌<◌, ◌≤◌, ◌+◌, ℕ, Bool, true, false, not, if◌then◌else◌, List, [], ◌∷◌, ◌++◌, length, Option, None, Some, ◌⊎◌, inl, inr, refl, sym, ap, ◌∙◌, subst}
use Rattle.std.proofs.lemmas.List.{append-nil}
use Rattle.std.specs.Prelude.{nat_lt, slice_set}
use Rattle.std.specs.FinMap.{get}
use Rattle.std.specs.List.{filter, list_any, position}
use Rattle.std.proofs.lemmas.List.Elements.{filter-append}
use Rattle.ncp_wire.specs.declared.command.Command.{Command}
use Rattle.ncp_model.specs.declared.pair.Pair.{Pair}
use Rattle.ncp_model.specs.declared.outcomes.Heard.{Heard}
use Rattle.ncp_model.specs.Pairs.{sends, receives}
use Rattle.ncp_model.specs.Endpoint.{Endpoint}
use Rattle.ncp_model.specs.Effect.{Effect, answer, end_after, made_by_hearing}
use Rattle.ncp_model.specs.Ends.{Ends, map_after}
use Rattle.ncp_model.proofs.ResetLists.{bit}
use Rattle.ncp_monitor.specs.declared.conn_tables.TheConstants.{MAX_TABLE_ROWS}
use Rattle.ncp_monitor.specs.declared.pending_reply.PendingReply.{PendingReply}
use Rattle.ncp_monitor.specs.declared.pending_reply.ExpectedReply.{ExpectedReply}
use Rattle.ncp_monitor.specs.declared.conn_state.ConnState.{ConnState}
use Rattle.ncp_monitor.specs.declared.conn_state.FactKind.{FactKind}
use Rattle.ncp_monitor.specs.ConnStates.{SeenTables, unasked_conn, is_of_sockets, conn_at_index, is_marked, is_topic, with_conn, with_due, facts_now, link_suspended_now, suspended_pair}
use Rattle.ncp_interface.specs.Sockets.{is_senders}
use Rattle.ncp_monitor.specs.declared.observed_flow.ObservedFlow.{ObservedFlow}
use Rattle.ncp_monitor.specs.Replies.{owes}
use Rattle.ncp_monitor.proofs.Shapes.{Say, others_of}
use Rattle.ncp_monitor.proofs.LinkOrder.{Sockets, same, same_is, about}
use Rattle.ncp_monitor.proofs.Firsts.{first}
use Rattle.ncp_proof_monitor_allocation.proofs.KeptEnds.{kept}
use Rattle.ncp_proof_monitor_allocation.proofs.OwnMoves.{all_says, sockets_of}
use Rattle.ncp_proof_monitor_allocation.proofs.Changed.{pair_at, OneEnd, unlike}
use Rattle.ncp_proof_monitor_allocation.proofs.SeenTables.{conn_seen, is_suspended, suspended_of, receives_at}
use Rattle.ncp_proof_monitor_allocation.proofs.Users.{Linked}
use Rattle.ncp_proof_monitor_allocation.proofs.Resting.{OneSuspended, due_with}
use Rattle.ncp_proof_monitor_allocation.proofs.Comes.{says_append, refused_meets}
use Rattle.ncp_proof_monitor_allocation.proofs.Echoing.{Echoing, ecos, others_wait, fact_other}
use Rattle.ncp_proof_monitor_allocation.proofs.RequestsCome.{one_end}
use Rattle.ncp_proof_monitor_allocation.proofs.Came.{asks_in, has_come, Came}
use Rattle.ncp_proof_monitor_allocation.proofs.HeldLinks.{same_held, suspended_held}
use Rattle.ncp_proof_monitor_replies.proofs.HostMakes.{FitReply, HostMade, makes_no_eco, asks_as_before, unclear_reported}
use Rattle.ncp_proof_monitor_allocation.proofs.EndsHear.{HeldBefore}
use Rattle.ncp_proof_monitor_host.proofs.Spoken.{Tells}
use Rattle.ncp_proof_monitor_allocation.proofs.Plain.{is_ret_wanted, plain_owed}
use Rattle.ncp_proof_monitor_allocation.proofs.TextErrors.{is_text_error, admitted_more, admitted_wider}
use Rattle.ncp_proof_monitor_allocation.proofs.Counted.{Counted, is_worded, counted_wider}
use Rattle.ncp_proof_monitor_replies.proofs.OwedItems.{sent_suspended, links_sent, OwedBy}
use Rattle.ncp_proof_monitor_replies.proofs.OwedSteps.{made_reply}

-- ---- echoes

-- of the echoes of the host the same is known
abbrev pub SameEchoes : ℕ → ℕ → SeenTables → SeenTables → Type 0
SameEchoes me n b after =
    (is_marked me n (FactKind.EchoesRest true) after ≡ is_marked me n (FactKind.EchoesRest true) b) × (is_marked me n (FactKind.Asks true) after ≡ is_marked me n (FactKind.Asks true) b)

pub same_marks : (me n : ℕ) (b after : SeenTables) → after.known_facts ≡ b.known_facts → SameEchoes me n b after
same_marks me n b after e = (ap (list_any (is_topic me n (FactKind.EchoesRest true))) e, ap (list_any (is_topic me n (FactKind.Asks true))) e)

pub echoes_then : (me n : ℕ) (b mid after : SeenTables) → SameEchoes me n b mid → SameEchoes me n mid after → SameEchoes me n b after
echoes_then me n b mid after x y = (y.0 ∙ x.0, y.1 ∙ x.1)

pub link_echoes : (me n : ℕ) (on : Bool) (link : ℕ) (b : SeenTables) → SameEchoes me n b (facts_now me n (FactKind.LinkSuspended on link) b)
link_echoes me n on link b = (fact_other me n (FactKind.LinkSuspended on link) (FactKind.EchoesRest true) b refl, fact_other me n (FactKind.LinkSuspended on link) (FactKind.Asks true) b refl)

pub rest_echoes : (me n : ℕ) (p : Sockets) (b : SeenTables) → SameEchoes me n b (suspended_pair me n p.0 p.1 b)
rest_echoes me n p b = go (position (is_of_sockets me n p.0 p.1) b.conns)
  where
    put_there : ℕ → SeenTables
    put_there i = record b { conns = slice_set b.conns i (record (conn_at_index b.conns i) { suspended = true }) }

    link_rested : ℕ → Option ℕ → SeenTables
    link_rested i None = put_there i
    link_rested i (Some link) = link_suspended_now me n (not (is_senders (conn_at_index b.conns i).local)) link (put_there i)

    rested : Option ℕ → SeenTables
    rested None = with_conn b (record (unasked_conn me n p.0 p.1) { suspended = true })
    rested (Some i) = link_rested i (conn_at_index b.conns i).link

    by_room : (conn : ConnState) (x : Bool) → SameEchoes me n b (if x then record b { conns = b.conns ++ conn ∷ [] } else record b { full = true })
    by_room conn true = (refl, refl)
    by_room conn false = (refl, refl)

    by_link : (i : ℕ) (o : Option ℕ) → SameEchoes me n b (link_rested i o)
    by_link i None = (refl, refl)
    by_link i (Some link) = link_echoes me n (not (is_senders (conn_at_index b.conns i).local)) link (put_there i)

    go : (o : Option ℕ) → SameEchoes me n b (rested o)
    go None = by_room (record (unasked_conn me n p.0 p.1) { suspended = true }) (nat_lt (length b.conns) MAX_TABLE_ROWS)
    go (Some i) = by_link i (conn_at_index b.conns i).link

pub echo_reported : (me n : ℕ) (awaited : Bool) (w u : List Command) (b after : SeenTables) → SameEchoes me n b after → ecos u ≡ 0 → Echoing me n awaited w b → Echoing me n awaited (w ++ u) after
echo_reported me n awaited w u b after (rest, asks) none h r = subst (λ (x : Bool). ecos (w ++ u) + bit x ≤ bit awaited) (sym asks) (others_wait me n awaited w u b none h (sym rest ∙ r))

-- ---- what came

-- the same of the connections, links that rest still at rest, and no request more waits
pub came_same : (me n : ℕ) (m : Ends) (w u : List Command) (b after : SeenTables) → after.conns ≡ b.conns → ((link : ℕ) → is_marked me n (FactKind.LinkSuspended true link) b ≡ true → is_marked me n (FactKind.LinkSuspended true link) after ≡ true)
    → ((v : Sockets) → asks_in (about v (all_says u)) ≡ asks_in (about v (all_says w))) → Came me n m w b → Came me n m u after
came_same me n m w u b after conns known_facts asks came v e g r s = go (came v e g r s)
  where
    there : conn_seen me n after v ≡ conn_seen me n b v
    there = ap (λ (xs : List ConnState). first (is_of_sockets me n v.0 v.1) xs) conns

    by : (x : Bool) → (if x then is_marked me n (FactKind.LinkSuspended true e.link) b else has_come (conn_seen me n b v)) ≡ true → (if x then is_marked me n (FactKind.LinkSuspended true e.link) after else has_come (conn_seen me n after v)) ≡ true
    by true k = known_facts e.link k
    by false k = ap has_come there ∙ k

    go : (suspended_of me n b v ≡ true) ⊎ ((if asks_in (about v (all_says w)) then is_marked me n (FactKind.LinkSuspended true e.link) b else has_come (conn_seen me n b v)) ≡ true)
        → (suspended_of me n after v ≡ true) ⊎ ((if asks_in (about v (all_says u)) then is_marked me n (FactKind.LinkSuspended true e.link) after else has_come (conn_seen me n after v)) ≡ true)
    go (inl k) = inl (ap is_suspended there ∙ k)
    go (inr k) = inr (ap (λ (x : Bool). if x then is_marked me n (FactKind.LinkSuspended true e.link) after else has_come (conn_seen me n after v)) (asks v) ∙ by (asks_in (about v (all_says w))) k)

-- one end changes, and holds no more than before; a text that was observed to arrive still was
pub came_told : (me n : ℕ) (m now : Ends) (w u : List Command) (b after : SeenTables) (pair : Pair) (end : Option Endpoint) → OneEnd m now pair end → (receives pair ≡ true → HeldBefore (get m pair) end)
    → ((v : Sockets) → asks_in (about v (all_says u)) ≡ asks_in (about v (all_says w)))
    → ((v : Sockets) → suspended_of me n b v ≡ true → suspended_of me n after v ≡ true)
    → ((link : ℕ) → is_marked me n (FactKind.LinkSuspended true link) b ≡ true → is_marked me n (FactKind.LinkSuspended true link) after ≡ true)
    → ((v : Sockets) (old : Endpoint) → get m (pair_at v) ≡ Some old → receives (pair_at v) ≡ true → 0 < length old.stored → asks_in (about v (all_says w)) ≡ false → suspended_of me n b v ≡ false → has_come (conn_seen me n b v) ≡ true
    → (suspended_of me n after v ≡ true) ⊎ (has_come (conn_seen me n after v) ≡ true))
    → Came me n m w b → Came me n now u after
came_told me n m now w u b after pair end one holds asks suspended known_facts come came v e g r s = go (same v (sockets_of pair)) refl
  where
    known : (old : Endpoint) → get m (pair_at v) ≡ Some old → 0 < length old.stored → old.link ≡ e.link
        → (suspended_of me n after v ≡ true) ⊎ ((if asks_in (about v (all_says w)) then is_marked me n (FactKind.LinkSuspended true e.link) after else has_come (conn_seen me n after v)) ≡ true)
    known old h t l = by_rest (suspended_of me n b v) refl (came v old h r t)
      where
        lift : (suspended_of me n after v ≡ true) ⊎ (has_come (conn_seen me n after v) ≡ true) → asks_in (about v (all_says w)) ≡ false
            → (suspended_of me n after v ≡ true) ⊎ ((if asks_in (about v (all_says w)) then is_marked me n (FactKind.LinkSuspended true e.link) after else has_come (conn_seen me n after v)) ≡ true)
        lift (inl k) z = inl k
        lift (inr k) z = inr (ap (λ (x : Bool). if x then is_marked me n (FactKind.LinkSuspended true e.link) after else has_come (conn_seen me n after v)) z ∙ k)

        by_asks : suspended_of me n b v ≡ false → (x : Bool) → asks_in (about v (all_says w)) ≡ x → (if x then is_marked me n (FactKind.LinkSuspended true old.link) b else has_come (conn_seen me n b v)) ≡ true
            → (suspended_of me n after v ≡ true) ⊎ ((if asks_in (about v (all_says w)) then is_marked me n (FactKind.LinkSuspended true e.link) after else has_come (conn_seen me n after v)) ≡ true)
        by_asks d true z k =
            inr
            (ap (λ (x : Bool). if x then is_marked me n (FactKind.LinkSuspended true e.link) after else has_come (conn_seen me n after v)) z
            ∙ subst (λ (x : ℕ). is_marked me n (FactKind.LinkSuspended true x) after ≡ true) l (known_facts old.link k))
        by_asks d false z k = lift (come v old h r t z d k) z

        by_rest : (x : Bool) → suspended_of me n b v ≡ x → (suspended_of me n b v ≡ true) ⊎ ((if asks_in (about v (all_says w)) then is_marked me n (FactKind.LinkSuspended true old.link) b else has_come (conn_seen me n b v)) ≡ true)
            → (suspended_of me n after v ≡ true) ⊎ ((if asks_in (about v (all_says w)) then is_marked me n (FactKind.LinkSuspended true e.link) after else has_come (conn_seen me n after v)) ≡ true)
        by_rest x d (inl k) = inl (suspended v k)
        by_rest true d (inr k) = inl (suspended v d)
        by_rest false d (inr k) = by_asks d (asks_in (about v (all_says w))) refl k

    as_asked : (suspended_of me n after v ≡ true) ⊎ ((if asks_in (about v (all_says w)) then is_marked me n (FactKind.LinkSuspended true e.link) after else has_come (conn_seen me n after v)) ≡ true)
        → (suspended_of me n after v ≡ true) ⊎ ((if asks_in (about v (all_says u)) then is_marked me n (FactKind.LinkSuspended true e.link) after else has_come (conn_seen me n after v)) ≡ true)
    as_asked (inl k) = inl k
    as_asked (inr k) = inr (ap (λ (x : Bool). if x then is_marked me n (FactKind.LinkSuspended true e.link) after else has_come (conn_seen me n after v)) (asks v) ∙ k)

    go : (x : Bool) → same v (sockets_of pair) ≡ x → (suspended_of me n after v ≡ true) ⊎ ((if asks_in (about v (all_says u)) then is_marked me n (FactKind.LinkSuspended true e.link) after else has_come (conn_seen me n after v)) ≡ true)
    go false d = as_asked (known e (sym (one.elsewhere (pair_at v) (unlike v (sockets_of pair) d)) ∙ g) s refl)
    go true d =
        let is : pair_at v ≡ pair = ap pair_at (same_is v (sockets_of pair) d) in
        let there : end ≡ Some e = sym one.there ∙ ap (get now) (sym is) ∙ g in
        let old = holds (ap receives (sym is) ∙ r) e there s in
        as_asked (known old.0 (ap (get m) is ∙ old.1.0) old.1.1.0 old.1.1.1)

-- ---- one more reply is due

pub owes_counted : (me n : ℕ) (m : Ends) (w : List Command) (b : SeenTables) (flow : ObservedFlow) (wanted : ExpectedReply) (mandatory : Bool) → is_ret_wanted wanted ≡ false → (owes flow wanted mandatory b).full ≡ false → Counted me n m w b
    → Counted me n m w (owes flow wanted mandatory b)
owes_counted me n m w b flow wanted mandatory r room c =
    let due : PendingReply = record { at = flow.at; peer = flow.peer; host = not flow.sent; wanted = wanted; mandatory = mandatory } in
    let is = due_with b due room in
    counted_wider me n m w w b (with_due b due) (λ u. ap (λ (xs : List ConnState). first (is_of_sockets me n u.0 u.1) xs) is.1.0) (λ host link z. ap (list_any (is_topic me n (FactKind.LinkSuspended host link))) is.1.1 ∙ z) refl
    (plain_owed me n flow wanted mandatory b r c.plain) (admitted_wider me n w b (with_due b due) (λ bytes z. ap (list_any (is_topic me n (FactKind.Admits true bytes))) is.1.1 ∙ z) c.admitted) c

-- a command that is no word and no ERR about a text is queued last
pub unworded_counted : (me n : ℕ) (m : Ends) (w : List Command) (b : SeenTables) (c : Command) → is_worded c ≡ false → is_text_error c ≡ false → Counted me n m w b → Counted me n m (w ++ c ∷ []) b
unworded_counted me n m w b c j t k =
    counted_wider me n m w (w ++ c ∷ []) b b (λ u. refl) (λ host link z. z) (filter-append is_worded w (c ∷ []) ∙ ap (λ (x : Bool). filter is_worded w ++ (if x then c ∷ [] else [])) j ∙ append-nil (filter is_worded w))
    k.plain (admitted_more me n w (c ∷ []) b k.admitted ((λ e. let nay : true ≡ false = sym e ∙ t in absurd (cc nay)), tt)) k

-- ---- the host owes a reply, and makes it

pub owed_reports : (me n : ℕ) (m : Ends) (awaited : Bool) (w : List Command) (b : SeenTables) (reply : Command) (wanted : ExpectedReply) (mandatory : Bool) → FitReply wanted reply → is_ret_wanted wanted ≡ false
    → (owes (record { at = me; peer = n; sent = false }) wanted mandatory b).full ≡ false → Tells me n m awaited w b
    → Tells me n m awaited (w ++ reply ∷ []) (owes (record { at = me; peer = n; sent = false }) wanted mandatory b)
owed_reports me n m awaited w b reply wanted mandatory fit r room tells =
    let due : PendingReply = record { at = me; peer = n; host = true; wanted = wanted; mandatory = mandatory } in
    let is = due_with b due room in
    record {
      meets = refused_meets me n m w b reply wanted mandatory fit.says room tells.meets;
      held = same_held me n m b (with_due b due) is.1.0 (λ on link z. ap (list_any (is_topic me n (FactKind.LinkSuspended on link))) is.1.1 ∙ z) tells.held;
      echoing = echo_reported me n awaited w (reply ∷ []) b (with_due b due) (same_marks me n b (with_due b due) is.1.1) fit.echoes tells.echoing;
      came = came_same me n m w (w ++ reply ∷ []) b (with_due b due) is.1.0 (λ link z. ap (list_any (is_topic me n (FactKind.LinkSuspended true link))) is.1.1 ∙ z)
          (λ v. ap (λ (x : List (Sockets × Say)). asks_in (about v x)) (says_append w (reply ∷ []) ∙ ap (λ (x : List (Sockets × Say)). all_says w ++ (x ++ [])) fit.says ∙ append-nil (all_says w)))
          tells.came;
      counted = owes_counted me n m (w ++ reply ∷ []) b (record { at = me; peer = n; sent = false }) wanted mandatory r room (unworded_counted me n m w b reply fit.unworded fit.plain tells.counted);
      owed = made_reply me n m w b wanted mandatory reply room r fit.fits (fit.item (sent_suspended me n b) (links_sent me n b)) tells.owed;
    }

-- ---- the connection is suspended from then on

pub unclear_reports : (me n : ℕ) (m : Ends) (awaited : Bool) (w : List Command) (b mid : SeenTables) (pair : Pair) (act : Effect Heard) (wanted : ExpectedReply) → HostMade wanted pair act → OneSuspended me n b mid (sockets_of pair) → Linked me n mid
    → SameEchoes me n b mid
    → ((conn : ConnState) (link : ℕ) → conn_seen me n b (sockets_of pair) ≡ Some conn → conn.link ≡ Some link → is_marked me n (FactKind.LinkSuspended (receives_at (sockets_of pair)) link) mid ≡ true)
    → ((link : ℕ) → sends pair ≡ true → others_of (kept (sends pair) (end_after (get m pair) act)) ≡ Some link → (others_of (kept (sends pair) (get m pair)) ≡ Some link) ⊎ (is_marked me n (FactKind.LinkSuspended false link) mid ≡ true))
    → (receives pair ≡ true → HeldBefore (get m pair) (end_after (get m pair) act))
    → is_ret_wanted wanted ≡ false → Counted me n (map_after m pair act) (w ++ made_by_hearing (answer act)) mid
    → OwedBy me n (map_after m pair act) (w ++ made_by_hearing (answer act)) (owes (record { at = me; peer = n; sent = false }) wanted false mid)
    → (owes (record { at = me; peer = n; sent = false }) wanted false mid).full ≡ false → Tells me n m awaited w b
    → Tells me n (map_after m pair act) awaited (w ++ made_by_hearing (answer act)) (owes (record { at = me; peer = n; sent = false }) wanted false mid)
unclear_reports me n m awaited w b mid pair act wanted made k linked echoes link_suspended heard holds r counted owed room tells =
    let due : PendingReply = record { at = me; peer = n; host = true; wanted = wanted; mandatory = false } in
    let is = due_with mid due room in
    record {
      meets = unclear_reported me n m w b mid pair act wanted made k linked room tells.meets;
      held = same_held me n (map_after m pair act) mid (with_due mid due) is.1.0 (λ on link z. ap (list_any (is_topic me n (FactKind.LinkSuspended on link))) is.1.1 ∙ z)
          (suspended_held me n m (map_after m pair act) w b mid pair (end_after (get m pair) act) (one_end m pair act) k link_suspended heard tells.meets tells.held);
      echoing = echo_reported me n awaited w (made_by_hearing (answer act)) b (with_due mid due) (echoes_then me n b mid (with_due mid due) echoes (same_marks me n mid (with_due mid due) is.1.1)) (makes_no_eco wanted pair act w made) tells.echoing;
      came = came_same me n (map_after m pair act) (w ++ made_by_hearing (answer act)) (w ++ made_by_hearing (answer act)) mid (with_due mid due) is.1.0 (λ link z. ap (list_any (is_topic me n (FactKind.LinkSuspended true link))) is.1.1 ∙ z) (λ v. refl)
          (came_told me n m (map_after m pair act) w (w ++ made_by_hearing (answer act)) b mid pair (end_after (get m pair) act) (one_end m pair act) holds (asks_as_before wanted pair act w made)
          (λ v z. suspended v (same v (sockets_of pair)) refl z) (λ link z. k.known_facts (FactKind.LinkSuspended true link) z) (λ v old g r s a z h. come v (same v (sockets_of pair)) refl h) tells.came);
      counted = owes_counted me n (map_after m pair act) (w ++ made_by_hearing (answer act)) mid (record { at = me; peer = n; sent = false }) wanted false r room counted;
      owed = owed;
    }
  where
    suspended : (v : Sockets) (x : Bool) → same v (sockets_of pair) ≡ x → suspended_of me n b v ≡ true → suspended_of me n mid v ≡ true
    suspended v true d z = ap (suspended_of me n mid) (same_is v (sockets_of pair) d) ∙ k.suspended
    suspended v false d z = ap is_suspended (k.seen v d) ∙ z

    come : (v : Sockets) (x : Bool) → same v (sockets_of pair) ≡ x → has_come (conn_seen me n b v) ≡ true → (suspended_of me n mid v ≡ true) ⊎ (has_come (conn_seen me n mid v) ≡ true)
    come v true d h = inl (ap (suspended_of me n mid) (same_is v (sockets_of pair) d) ∙ k.suspended)
    come v false d h = inr (ap has_come (k.seen v d) ∙ h)
