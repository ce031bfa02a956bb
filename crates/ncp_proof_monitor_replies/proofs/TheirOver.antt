-- A RET of the other host that gives back more than it can have: its link is suspended from then on, for
-- any effect at the host.
use Rattle.std.proofs.Common.{◌≡◌, ℕ, Bool, true, false, not, ◌&&◌, ◌||◌, if◌then◌else◌, List, [], ◌∷◌, ◌++◌, length, Option, None, Some, eq-eqb, refl, sym, ap, ◌∙◌, subst}
use Rattle.std.specs.Prelude.{slice_set}
use Rattle.std.specs.FinMap.{get}
use Rattle.std.specs.List.{filter, list_any}
use Rattle.std.proofs.lemmas.Bool.{and_parts, eqb-true}
use Rattle.ncp_wire.specs.declared.command.Command.{Command}
use Rattle.ncp_wire.specs.declared.command.Command.TheVariants.{Ret}
use Rattle.ncp_model.specs.declared.pair.Pair.{Pair}
use Rattle.ncp_model.specs.Pairs.{sends}
use Rattle.ncp_model.specs.Endpoint.{Endpoint}
use Rattle.ncp_model.specs.Ends.{Ends, receiver_on}
use Rattle.ncp_proof_machine.proofs.EndsGood.{EndsInvariant}
use Rattle.ncp_monitor.specs.declared.pending_reply.PendingReply.{PendingReply}
use Rattle.ncp_monitor.specs.declared.pending_reply.ExpectedReply.{ExpectedReply}
use Rattle.ncp_monitor.specs.declared.pending_reply.ExpectedReply.TheVariants.{Echo, Error, Return}
use Rattle.ncp_monitor.specs.declared.conn_state.ConnState.{ConnState}
use Rattle.ncp_monitor.specs.declared.conn_state.FactKind.{FactKind}
use Rattle.ncp_monitor.specs.ConnStates.{SeenTables, conn_at_index, is_topic, is_marked, is_return, is_return_on, put_conn, link_suspended_now}
use Rattle.ncp_interface.specs.Sockets.{is_senders}
use Rattle.ncp_monitor.specs.Replies.{error_wanted, says_wanted, is_due_of, answers, is_wanted, pending_left, after_reply}
use Rattle.ncp_monitor.specs.Allocation.{owes_error, with_return}
use Rattle.ncp_monitor.proofs.Shapes.{Shape}
use Rattle.ncp_monitor.proofs.LinkOrder.{Sockets}
use Rattle.ncp_proof_monitor_allocation.proofs.KeptEnds.{kept}
use Rattle.ncp_proof_monitor_allocation.proofs.Changed.{pair_at, kept_of, OneEnd}
use Rattle.ncp_proof_monitor_allocation.proofs.SeenTables.{conn_seen, seen_of, is_suspended, suspended_of, receives_at}
use Rattle.ncp_proof_monitor_allocation.proofs.Users.{Linked}
use Rattle.ncp_proof_monitor_allocation.proofs.Resting.{due_with, due_room, fact_conns, fact_keeps, fact_made}
use Rattle.ncp_proof_monitor_allocation.proofs.Proper.{ProperEnds}
use Rattle.ncp_proof_monitor_allocation.proofs.TidyBooks.{returned_numbered}
use Rattle.ncp_proof_monitor_allocation.proofs.LinkPlaces.{UserAt, AllUnique}
use Rattle.ncp_proof_monitor_allocation.proofs.Plain.{Plain, returns_due}
use Rattle.ncp_proof_monitor_allocation.proofs.TextErrors.{AllAdmitted}
use Rattle.ncp_proof_monitor_allocation.proofs.Words.{Word, Count, count_of, link_given, NoneCounted, says_in, Agreed, Fits, agreed_fits, agreed_wider, agreed_unknown}
use Rattle.ncp_proof_monitor_allocation.proofs.Counted.{is_worded, words_about, links_by, AgreedAt, Counted, PairsAgree, agreed_at, append_nil}
use Rattle.ncp_proof_monitor_replies.proofs.OwedItems.{OwedBy}
use Rattle.ncp_proof_monitor_replies.proofs.OwedSteps.{stay_same, stay_then, owed_stays, their_reply_owed, owed_link_suspended}
use Rattle.ncp_proof_monitor_allocation.proofs.LinksReach.{led_receiver, receiver_led}
use Rattle.ncp_proof_monitor_allocation.proofs.LinksOpen.{Reaches}
use Rattle.ncp_proof_monitor_allocation.proofs.LinksDid.{ends_after, made_of, Silent, Erred, Did, Stayed, Changed, Gave, ret_did}
use Rattle.ncp_proof_monitor_allocation.proofs.LinksCome.{Wider, SameConn, renumbered_same, SeenNow, renumbered_now, counted_step, calm, shape_is}
use Rattle.ncp_proof_monitor_replies.proofs.TheirLinks.{quiet_unworded, quiet_admits, unsure_owed}
use Rattle.ncp_proof_monitor_replies.proofs.TheirOpen.{items_now, same_seen, r_at}
use Rattle.ncp_proof_monitor_replies.proofs.TheirLeads.{Both}

-- ---- where a RET is wanted, one is due

pub wanted_due : (me n on x y : ℕ) (pending_replies : List PendingReply) → is_wanted (is_due_of me n false) (Ret on x y) pending_replies ≡ true → returns_due me n false on pending_replies ≡ 0 → ⊥
wanted_due me n on x y [] e z = cc e
wanted_due me n on x y (due ∷ pending_replies) e z = go (answers (is_due_of me n false) (Ret on x y) due) refl e (wanted_due me n on x y pending_replies)
  where
    same_link : (v : ExpectedReply) → says_wanted v (Ret on x y) ≡ true → is_return_on on v ≡ true
    same_link (Return link messages bits) k = eq-eqb link on (sym (eqb-true on link k))
    same_link (Echo byte) k = absurd (cc k)
    same_link (Error code or bytes) k = absurd (cc k)

    zero_not : (k : ℕ) → length (if true then due ∷ filter (is_return me n false on) pending_replies else filter (is_return me n false on) pending_replies) ≡ 0 → ⊥
    zero_not k e = cc e

    go : (v : Bool) → answers (is_due_of me n false) (Ret on x y) due ≡ v → (v || is_wanted (is_due_of me n false) (Ret on x y) pending_replies) ≡ true → (is_wanted (is_due_of me n false) (Ret on x y) pending_replies ≡ true → returns_due me n false on pending_replies ≡ 0 → ⊥) → ⊥
    go true a e f =
        let parts = and_parts (is_due_of me n false due) (says_wanted due.wanted (Ret on x y)) a in
        let its : is_return me n false on due ≡ true = ap (λ (v : Bool). v && is_return_on on due.wanted) parts.0 ∙ same_link due.wanted parts.1 in
        zero_not 0 (sym (ap (λ (v : Bool). length (if v then due ∷ filter (is_return me n false on) pending_replies else filter (is_return me n false on) pending_replies)) its) ∙ z)
    go false a e f = f e (by (is_return me n false on due) z)
      where
        by : (v : Bool) → length (if v then due ∷ filter (is_return me n false on) pending_replies else filter (is_return me n false on) pending_replies) ≡ 0 → length (filter (is_return me n false on) pending_replies) ≡ 0
        by true e = absurd (cc e)
        by false e = e

module _ (me n : ℕ) (m : Ends) (good : EndsInvariant m) (w : List Command) (b : SeenTables) (proper : ProperEnds m) (unique : AllUnique me n b) (linked : Linked me n b) (pairs : PairsAgree me n m w b) (c : Counted me n m w b) (owed : OwedBy me n m w b) (on : ℕ) (unmarked : is_marked me n (FactKind.LinkSuspended true on) b ≡ false) (u : Sockets) (user : UserAt me n true on b u) (unclosed : (conn_at_index b.conns user.place).peer_left ≡ false) (size : ℕ) (sized : (conn_at_index b.conns user.place).size ≡ Some size) (x y : ℕ) where
  abbrev old : ConnState
  old = conn_at_index b.conns user.place

  abbrev said : Command
  said = Ret on x y

  abbrev struck : SeenTables
  struck = after_reply (record { at = me; peer = n; sent = false }) (Ret on x y) b

  abbrev conn : ConnState
  conn = with_return (record { at = me; peer = n; sent = false }) x y old

  abbrev less : SeenTables
  less = put_conn struck (Some user.place) conn

  abbrev mid : SeenTables
  mid = link_suspended_now me n true on less

  abbrev after : SeenTables
  after = owes_error (record { at = me; peer = n; sent = false }) (Ret on x y) false mid

  abbrev what : FactKind
  what = FactKind.LinkSuspended true on

  struck_same : (struck.conns ≡ b.conns) × (struck.known_facts ≡ b.known_facts)
  struck_same = go (is_wanted (is_due_of me n false) (Ret on x y) b.pending_replies)
    where
      go : (z : Bool) → ((if z then record b { pending_replies = pending_left (is_due_of me n false) (Ret on x y) b.pending_replies } else b).conns ≡ b.conns) × ((if z then record b { pending_replies = pending_left (is_due_of me n false) (Ret on x y) b.pending_replies } else b).known_facts ≡ b.known_facts)
      go true = (refl, refl)
      go false = (refl, refl)

  at : Reaches m u false on (Some size) old.host_left (says_in (words_about u c.words))
  at = r_at me n m good w b proper unique linked pairs c owed on unmarked u user unclosed size sized

  found : receiver_on on m ≡ Some (pair_at u, at.end)
  found = receiver_led m good on (pair_at u) at.end at.there at.receiver at.asked at.its_link

  numbers : SameConn old conn
  numbers = renumbered_same old conn (returned_numbered (record { at = me; peer = n; sent = false }) x y old)

  seen_by : (conn_tables : SeenTables) → conn_tables.conns ≡ less.conns → SeenNow me n b conn_tables u conn
  seen_by conn_tables k = renumbered_now me n true on b conn_tables u user conn unique (returned_numbered (record { at = me; peer = n; sent = false }) x y old) (k ∙ ap (λ (ls : List ConnState). slice_set ls user.place conn) struck_same.0)

  module _ (room : after.full ≡ false) (plain : Plain me n after) where
    mid_room : mid.full ≡ false
    mid_room = due_room mid (record { at = me; peer = n; host = true; wanted = error_wanted 5 3 (Ret on x y); mandatory = false }) room

    same_tables : (after.conns ≡ mid.conns) × (after.known_facts ≡ mid.known_facts)
    same_tables = (due_with mid (record { at = me; peer = n; host = true; wanted = error_wanted 5 3 (Ret on x y); mandatory = false }) room).1

    seen_after : SeenNow me n b after u conn
    seen_after = seen_by after (same_tables.0 ∙ fact_conns me n what less)

    kept_fact : (fact_kind : FactKind) → is_marked me n fact_kind b ≡ true → is_marked me n fact_kind after ≡ true
    kept_fact fact_kind z = ap (list_any (is_topic me n fact_kind)) same_tables.1 ∙ fact_keeps me n what less fact_kind (ap (list_any (is_topic me n fact_kind)) struck_same.1 ∙ z)

    wider : Wider me n b after
    wider = record { links = λ host link z. kept_fact (FactKind.LinkSuspended host link) z; admits = λ bytes z. kept_fact (FactKind.Admits true bytes) z }

    marked : links_by me n after (receives_at u) on ≡ true
    marked = ap (λ (h : Bool). links_by me n after h on) user.receives ∙ ap (list_any (is_topic me n what)) same_tables.1 ∙ fact_made me n what less mid_room

    sex : is_senders u.0 ≡ false
    sex = unnot (is_senders u.0) user.receives
      where
        unnot : (z : Bool) → not z ≡ true → z ≡ false
        unnot true e = absurd (cc e)
        unnot false e = refl

    -- its shape is as it was
    same_shape : seen_of me n after u ≡ seen_of me n b u
    same_shape = same_seen me n b after u old conn user.seen numbers seen_after u

    kept_given : (s : Option Shape) → s ≡ kept_of m u → link_given false s ≡ Some on
    kept_given s k =
        ap (link_given false) (k ∙ ap (kept (sends (pair_at u))) at.there ∙ ap (λ (f : Bool). kept f (Some at.end)) at.sender)
        ∙ ap (λ (h : Bool). if h then Some at.end.link else None) at.asked ∙ ap (λ (l : ℕ). Some l) at.its_link

    agreed_now : (end : Option Endpoint) → AgreedAt me n after end (words_about u c.words ++ []) u
    agreed_now end =
        subst (λ (ws : List Word). AgreedAt me n after end ws u) (sym (append_nil (words_about u c.words)))
        (subst (λ (z : Option Shape). Agreed (is_senders u.0) links (Fits (is_senders u.0) links end) (words_about u c.words) z (count_of (conn_seen me n after u))) (sym same_shape)
        (subst (λ (s : Bool). Agreed s links (Fits s links end) (words_about u c.words) (seen_of me n b u) (count_of (conn_seen me n after u))) (sym sex)
        (agreed_fits false links (λ s j. s ≡ kept_of m u) (Fits false links end) (words_about u c.words) (seen_of me n b u) (count_of (conn_seen me n after u)) (λ s j k. none s j k)
        (agreed_unknown false links (λ s j. s ≡ kept_of m u) on (words_about u c.words) (seen_of me n b u) (count_of (conn_seen me n b u)) (count_of (conn_seen me n after u)) marked given (λ s i j g k. k)
        (agreed_wider false (links_by me n b (receives_at u)) links (λ s j. (s ≡ kept_of m u) × (NoneCounted s j × Fits false (links_by me n b (receives_at u)) (get m (pair_at u)) s j)) (λ s j. s ≡ kept_of m u) (words_about u c.words) (seen_of me n b u)
        (count_of (conn_seen me n b u)) (wider.links (receives_at u)) (λ s j k. k.0)
        (subst (λ (f : Bool). Agreed f (links_by me n b (receives_at u)) (λ s j. (s ≡ kept_of m u) × (NoneCounted s j × Fits f (links_by me n b (receives_at u)) (get m (pair_at u)) s j)) (words_about u c.words) (seen_of me n b u) (count_of (conn_seen me n b u))) sex
        (agreed_at me n m w b u (calm me n m w b proper unique linked pairs c true on unmarked u user unclosed) pairs c)))))))
      where
        links : ℕ → Bool
        links = links_by me n after (receives_at u)

        given : link_given false (seen_of me n b u) ≡ Some on
        given = ap (link_given false) (shape_is me n m w b proper unique linked pairs c true on unmarked u user unclosed (Some size) sized)

        none : (s : Option Shape) (j : Count) → s ≡ kept_of m u → Fits false links end s j
        none s j k e f g = record {
          given = λ l h r. let same_link : on ≡ l = cc (sym (kept_given s k) ∙ h) in let nay : true ≡ false = sym marked ∙ ap links same_link ∙ r in absurd (cc nay);
          ungiven = λ h. absurd (cc (sym (kept_given s k) ∙ h));
        }

    awake : suspended_of me n after u ≡ true → ⊥
    awake r = cc (sym r ∙ ap is_suspended seen_after.here ∙ numbers.suspended ∙ sym (ap is_suspended user.seen) ∙ calm me n m w b proper unique linked pairs c true on unmarked u user unclosed)

    step : (end : Option Endpoint) (made : List Command) → filter is_worded made ≡ [] → AllAdmitted me n made after → OneEnd m (ends_after m said) (pair_at u) end → made_of m said ≡ made → Counted me n (ends_after m said) (w ++ made_of m said) after
    step end made unworded admits one e =
        subst (λ (cs : List Command). Counted me n (ends_after m said) (w ++ cs) after) (sym e)
        (counted_step me n m (ends_after m said) w made b after u end [] one unworded seen_after.others wider c (λ r. agreed_now end) (λ r. absurd (awake r)) plain admits)

    end_at : (p : Pair × Endpoint) → receiver_on on m ≡ Some p → p.0 ≡ pair_at u
    end_at p f = let is : p ≡ (pair_at u, at.end) = cc (sym f ∙ found) in ap (λ (q : Pair × Endpoint). q.0) is

    counted : Did m said on (receiver_on on m) → Counted me n (ends_after m said) (w ++ made_of m said) after
    counted (Stayed k q) =
        step (get m (pair_at u)) (made_of m said) (quiet_unworded said (made_of m said) q) (quiet_admits me n said (made_of m said) after refl q)
        (record { there = ap (λ (z : Ends). get z (pair_at u)) k; elsewhere = λ p e. ap (λ (z : Ends). get z p) k }) refl
    counted (Changed p f then_end known_facts one made) = step (Some then_end) [] refl tt (subst (λ (z : Pair). OneEnd m (ends_after m said) z (Some then_end)) (end_at p f) one) made
    counted (Gave gvb p f a d then_end known_facts one i j made) = absurd (cc gvb)

    pub over_both : Both me n m said w after
    over_both = (counted (ret_did m good on x y), unsure_owed me n m on said (receiver_on on m) (λ p f. (led_receiver m on p.0 p.1 f).there) (ret_did m good on x y) w mid refl room (λ i j e. absurd (not_ret (ret_did m good on x y) i j e)) mid_owed)
      where
        not_ret : Did m said on (receiver_on on m) → (i j : ℕ) → made_of m said ≡ Ret on i j ∷ [] → ⊥
        not_ret (Stayed k (Silent q)) i j e = cc (sym q ∙ e)
        not_ret (Stayed k (Erred code fits q)) i j e = cc (sym q ∙ e)
        not_ret (Changed p f then_end known_facts one q) i j e = cc (sym q ∙ e)
        not_ret (Gave gvb p f a d then_end known_facts one k l q) i j e = cc gvb

        mid_owed : OwedBy me n m w mid
        mid_owed =
            owed_link_suspended me n m w less true on mid_room
            (owed_stays me n m w struck less
            (stay_then me n struck b less (stay_same me n struck b (sym struck_same.0) (sym struck_same.1)) (items_now me n b less u old conn user.seen numbers (seen_by less refl) struck_same.1)) refl
            (their_reply_owed me n m w (Ret on x y) b owed))
