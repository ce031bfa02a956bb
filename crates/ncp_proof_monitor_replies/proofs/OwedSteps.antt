-- The pending replies of a host are the queued ones. This is preserved by commands of both sides, by
-- suspensions, and by actions of the host.
use Rattle.std.proofs.Common.{◌≡◌, ◌⊎◌, inl, inr, ℕ, ◌==◌, Bool, true, false, not, ◌&&◌, ◌||◌, if◌then◌else◌, List, [], ◌∷◌, ◌++◌, length, Option, None, Some, eq-eqb, refl, sym, ap, ◌∙◌, subst}
use Rattle.std.specs.Prelude.{nat_lt, option_map, slice_set}
use Rattle.std.specs.Option.{option_to_list}
use Rattle.std.specs.FinMap.{get}
use Rattle.std.specs.List.{position, filter, list_any}
use Rattle.std.proofs.Math.Bool.{beq}
use Rattle.std.proofs.lemmas.Bool.{and_parts, eqb-true}
use Rattle.std.proofs.lemmas.List.Quantifiers.{position-Some}
use Rattle.ncp_wire.specs.declared.command.Command.{Command}
use Rattle.ncp_wire.specs.declared.command.Command.TheVariants.{Ret, Cls}
use Rattle.ncp_model.specs.declared.pair.Pair.{Pair}
use Rattle.ncp_model.specs.Endpoint.{Endpoint}
use Rattle.ncp_model.specs.Ends.{Ends}
use Rattle.ncp_model.specs.Demux.{passes}
use Rattle.ncp_monitor.specs.declared.conn_tables.TheConstants.{MAX_TABLE_ROWS}
use Rattle.ncp_monitor.specs.declared.pending_reply.PendingReply.{PendingReply}
use Rattle.ncp_monitor.specs.declared.pending_reply.ExpectedReply.{ExpectedReply}
use Rattle.ncp_monitor.specs.declared.pending_reply.ExpectedReply.TheVariants.{Echo, Error, Return}
use Rattle.ncp_monitor.specs.declared.finding.Rule.{Rule}
use Rattle.ncp_monitor.specs.declared.link_target.LinkTarget.{LinkTarget}
use Rattle.ncp_monitor.specs.declared.conn_state.ConnState.{ConnState}
use Rattle.ncp_monitor.specs.declared.conn_state.FactKind.{FactKind}
use Rattle.ncp_monitor.specs.declared.observed_flow.ObservedFlow.{ObservedFlow}
use Rattle.ncp_monitor.specs.ConnStates.{SeenTables, unasked_conn, is_of_sockets, conn_at_index, same_topic, is_topic, is_return, is_return_on, with_conn, with_due, facts_now, link_suspended_now, suspended_pair}
use Rattle.ncp_interface.specs.Sockets.{is_senders}
use Rattle.ncp_monitor.specs.Replies.{is_due_of, says_wanted, skipped, owes, pending_left, reply_rule, after_reply}
use Rattle.ncp_monitor.specs.Allocation.{from_sender, target_at, target_on, index_on_receive_link, numbers_due, other_rule, over_rule, returned_rules, led_numbers, number_rules}
use Rattle.ncp_monitor.specs.Speaking.{after_all_said}
use Rattle.ncp_monitor.proofs.Shapes.{Shape, Ask, Leave, own_step, their_step}
use Rattle.ncp_monitor.proofs.LinkOrder.{Sockets, same, same_is}
use Rattle.ncp_monitor.proofs.Firsts.{first, set_first, set_found, first_set, first_after, found_first, none_first, other_following, other_set, Apart}
use Rattle.ncp_monitor.proofs.BooksAt.{others_distinct}
use Rattle.ncp_monitor.proofs.Seeing.{seen}
use Rattle.ncp_proof_monitor_allocation.proofs.Echoing.{fact_other}
use Rattle.ncp_proof_monitor_allocation.proofs.Changed.{OneEnd}
use Rattle.ncp_proof_monitor_allocation.proofs.SeenTables.{seen_of, OneSeen, others_are}
use Rattle.ncp_proof_monitor_allocation.proofs.Resting.{fact_conns, fact_pending, fact_made, due_with}
use Rattle.ncp_proof_monitor_allocation.proofs.Words.{link_given}
use Rattle.ncp_proof_monitor_allocation.proofs.Filtered.{filter_after, filter_others, filter_left}
use Rattle.ncp_proof_monitor_allocation.proofs.Plain.{is_ret_wanted}
use Rattle.ncp_proof_monitor_replies.specs.Owed.{Item, Gives, EndsOn, nothing_ended, ended_by, is_return_where, if_return, is_exact, is_ret_on, IsReturnOf, MayLack, Owed}
use Rattle.ncp_proof_monitor_replies.proofs.Owed.{no_rets, wanted_first, skips_none, numbers_first, owed_left, owed_gone, owed_same, owed_ends, owed_rested, owed_theirs, more_given, more_lacks, more_ends, all_struck}
use Rattle.ncp_proof_monitor_replies.proofs.OwedItems.{ends_of, item_of, items, sent_suspended, links_sent, items_of, is_open_sender, gone_of, OwedBy, none_after, items_append, items_alike, items_rested, IsOnly, items_linked, gone_now}

-- ---- whose replies

not_both : (x h : Bool) → (x && beq h false) ≡ true → (x && beq h true) ≡ false
not_both true true t = absurd (cc t)
not_both true false t = refl
not_both false h t = refl

pub theirs_distinct : (me n : ℕ) → Apart (is_due_of me n false) (is_due_of me n true)
theirs_distinct me n due t = not_both (due.at == me && due.peer == n) due.host t

-- ---- tables that leave the queued items the same

pub record ItemsStay (me n : ℕ) (b after : SeenTables) : Type 0 where
  pub suspended : (link : ℕ) → sent_suspended me n after link ≡ sent_suspended me n b link
  pub links : (u : Sockets) → is_senders u.0 ≡ true → links_sent me n after u ≡ links_sent me n b u

module _ (me n : ℕ) where
  abbrev ours : PendingReply → Bool
  ours = is_due_of me n true

  abbrev saying : ObservedFlow
  saying = record { at = me; peer = n; sent = true }

  pub stay_same : (b after : SeenTables) → after.conns ≡ b.conns → after.known_facts ≡ b.known_facts → ItemsStay me n b after
  stay_same b after l m = record {
    suspended = λ link. ap (list_any (is_topic me n (FactKind.LinkSuspended false link))) m;
    links = λ u s. ap (λ (xs : List ConnState). link_given true (seen (first (is_of_sockets me n u.0 u.1) xs))) l;
  }

  pub stay_then : (a b c : SeenTables) → ItemsStay me n a b → ItemsStay me n b c → ItemsStay me n a c
  stay_then a b c j k = record { suspended = λ link. k.suspended link ∙ j.suspended link; links = λ u s. k.links u s ∙ j.links u s }

  -- another topic is marked
  pub stay_fact : (what : FactKind) (b : SeenTables) → ((link : ℕ) → same_topic what (FactKind.LinkSuspended false link) ≡ false) → ItemsStay me n b (facts_now me n what b)
  stay_fact what b k = record {
    suspended = λ link. fact_other me n what (FactKind.LinkSuspended false link) b (k link);
    links = λ u s. ap (λ (xs : List ConnState). link_given true (seen (first (is_of_sockets me n u.0 u.1) xs))) (fact_conns me n what b);
  }

  -- one connection is another, with the same link
  pub stay_one : (b after : SeenTables) (p : Sockets) (s : Option Shape) → OneSeen me n b after p s → (is_senders p.0 ≡ true → link_given true s ≡ links_sent me n b p) → ItemsStay me n b after
  stay_one b after p s one k = record {
    suspended = λ link. ap (list_any (is_topic me n (FactKind.LinkSuspended false link))) one.known_facts;
    links = λ u z. ap (link_given true) (one.seen u) ∙ by u z (same u p) refl;
  }
    where
      by : (u : Sockets) → is_senders u.0 ≡ true → (x : Bool) → same u p ≡ x → link_given true (if x then s else seen_of me n b u) ≡ links_sent me n b u
      by u z true e = let at = same_is u p e in k (ap (λ (v : Sockets). is_senders v.0) (sym at) ∙ z) ∙ ap (links_sent me n b) (sym at)
      by u z false e = refl

  pub owed_stays : (m : Ends) (w : List Command) (b after : SeenTables) → ItemsStay me n b after → filter (is_due_of me n true) b.pending_replies ≡ filter (is_due_of me n true) after.pending_replies → OwedBy me n m w b → OwedBy me n m w after
  owed_stays m w b after k d o =
      owed_theirs ours (gone_of m) nothing_ended (items_of me n after w) b.pending_replies after.pending_replies d
      (subst (λ (xs : List Item). Owed ours (gone_of m) nothing_ended xs b.pending_replies) (sym (items_alike (sent_suspended me n b) (sent_suspended me n after) (links_sent me n b) (links_sent me n after) k.suspended k.links w)) o)

  -- the other owes one more reply
  pub owed_owes : (m : Ends) (w : List Command) (b : SeenTables) (wanted : ExpectedReply) (mandatory : Bool) → (owes (record { at = me; peer = n; sent = true }) wanted mandatory b).full ≡ false → OwedBy me n m w b → OwedBy me n m w (owes (record { at = me; peer = n; sent = true }) wanted mandatory b)
  owed_owes m w b wanted mandatory f o =
      let due : PendingReply = record { at = me; peer = n; host = false; wanted = wanted; mandatory = mandatory } in
      let is = due_with b due f in
      owed_stays m w b (with_due b due) (stay_same b (with_due b due) is.1.0 is.1.1) (sym (ap (filter ours) is.0 ∙ filter_after ours b.pending_replies due (none (me == me && n == n)))) o
    where
      none : (x : Bool) → (x && false) ≡ false
      none true = refl
      none false = refl

  pub owed_fact : (m : Ends) (w : List Command) (b : SeenTables) (what : FactKind) → ((link : ℕ) → same_topic what (FactKind.LinkSuspended false link) ≡ false) → OwedBy me n m w b → OwedBy me n m w (facts_now me n what b)
  owed_fact m w b what k o = owed_stays m w b (facts_now me n what b) (stay_fact what b k) (sym (ap (filter ours) (fact_pending me n what b))) o

  -- a reply of the other comes
  pub their_reply_owed : (m : Ends) (w : List Command) (c : Command) (b : SeenTables) → OwedBy me n m w b → OwedBy me n m w (after_reply (record { at = me; peer = n; sent = false }) c b)
  their_reply_owed m w c b o = go (list_any (λ (due : PendingReply). is_due_of me n false due && says_wanted due.wanted c) b.pending_replies)
    where
      go : (x : Bool) → OwedBy me n m w (if x then record b { pending_replies = pending_left (is_due_of me n false) c b.pending_replies } else b)
      go true =
          owed_stays m w b (record b { pending_replies = pending_left (is_due_of me n false) c b.pending_replies }) (stay_same b (record b { pending_replies = pending_left (is_due_of me n false) c b.pending_replies }) refl refl)
          (sym (filter_left ours (is_due_of me n false) c b.pending_replies (theirs_distinct me n) (λ due. refl))) o
      go false = o

  -- ---- a sent command: no reply, or the first

  pub owed_said : (m : Ends) (c : Command) (w : List Command) (b : SeenTables) → item_of (sent_suspended me n b) (links_sent me n b) c ≡ [] → OwedBy me n m (c ∷ w) b → OwedBy me n m w b
  owed_said m c w b e o = subst (λ (xs : List Item). Owed ours (gone_of m) nothing_ended (xs ++ items_of me n b w) b.pending_replies) e o

  pub owed_first : (m : Ends) (c : Command) (w : List Command) (b : SeenTables) (item : Item) → item_of (sent_suspended me n b) (links_sent me n b) c ≡ item ∷ [] → OwedBy me n m (c ∷ w) b → Owed (is_due_of me n true) (gone_of m) nothing_ended (item ∷ items_of me n b w) b.pending_replies
  owed_first m c w b item e o = subst (λ (xs : List Item). Owed ours (gone_of m) nothing_ended (xs ++ items_of me n b w) b.pending_replies) e o

  pub own_reply_right : (m : Ends) (c : Command) (w : List Command) (b : SeenTables) (wrong : Rule) → item_of (sent_suspended me n b) (links_sent me n b) c ≡ Gives c ∷ [] → OwedBy me n m (c ∷ w) b → reply_rule (record { at = me; peer = n; sent = true }) c wrong b ≡ None
  own_reply_right m c w b wrong e o =
      let s = owed_first m c w b (Gives c) e o in
      ap (λ (x : Bool). if x then option_map (λ (d : Command). Rule.Skipped d) (skipped ours c b.pending_replies) else Some wrong)
      (wanted_first ours c (MayLack ours (gone_of m) nothing_ended (Gives c ∷ items_of me n b w)) (Owed ours (gone_of m) nothing_ended (items_of me n b w)) nothing_ended b.pending_replies s)
      ∙ ap (λ (d : Option Command). option_map (λ (d : Command). Rule.Skipped d) d) (skips_none ours (gone_of m) (Gives c ∷ items_of me n b w) c (Owed ours (gone_of m) nothing_ended (items_of me n b w)) b.pending_replies s)

  pub own_reply_owed : (m : Ends) (c : Command) (w : List Command) (b : SeenTables) → item_of (sent_suspended me n b) (links_sent me n b) c ≡ Gives c ∷ [] → OwedBy me n m (c ∷ w) b → OwedBy me n m w (after_reply (record { at = me; peer = n; sent = true }) c b)
  own_reply_owed m c w b e o =
      let s = owed_first m c w b (Gives c) e o in
      subst (λ (x : Bool). OwedBy me n m w (if x then record b { pending_replies = pending_left ours c b.pending_replies } else b))
      (sym (wanted_first ours c (MayLack ours (gone_of m) nothing_ended (Gives c ∷ items_of me n b w)) (Owed ours (gone_of m) nothing_ended (items_of me n b w)) nothing_ended b.pending_replies s))
      (owed_left saying (gone_of m) c (items_of me n b w) b.pending_replies s)

  -- a RET has the pending numbers, for any connection that its link identifies

  other_none : (link messages bits : ℕ) (w : ExpectedReply) → is_exact w (Ret link messages bits) ≡ true → other_rule saying (Ret link messages bits) messages bits (Some w) ≡ None
  other_none link messages bits (Return l m b) e = ap (λ (x : Bool). if not x then Some (Rule.RetOther (Ret link messages bits) m b) else None) e
  other_none link messages bits (Echo byte) e = refl
  other_none link messages bits (Error code or bytes) e = refl

  pub own_numbers_right : (m : Ends) (link messages bits : ℕ) (w : List Command) (b : SeenTables) → OwedBy me n m (Ret link messages bits ∷ w) b → number_rules (record { at = me; peer = n; sent = true }) (Ret link messages bits) b ≡ []
  own_numbers_right m link messages bits w b o = go (sent_suspended me n b link) refl
    where
      c : Command
      c = Ret link messages bits

      first_none : sent_suspended me n b link ≡ false → other_rule saying (Ret link messages bits) messages bits (numbers_due ours (Ret link messages bits) b.pending_replies) ≡ None
      first_none r =
          let s = owed_first m (Ret link messages bits) w b (Gives (Ret link messages bits)) (ap (λ (x : Bool). if x then [] else Gives (Ret link messages bits) ∷ []) r) o in
          let are = numbers_first ours (gone_of m) nothing_ended link messages bits (items_of me n b w) (Owed ours (gone_of m) nothing_ended (items_of me n b w)) b.pending_replies s in
          ap (other_rule saying (Ret link messages bits) messages bits) are.due ∙ other_none link messages bits are.wanted are.exact

      returned : (conn : ConnState) → other_rule saying (Ret link messages bits) messages bits (numbers_due ours (Ret link messages bits) b.pending_replies) ≡ None → returned_rules saying (Ret link messages bits) messages bits conn b.pending_replies ≡ []
      returned conn e = by (list_any (λ (due : PendingReply). ours due && says_wanted due.wanted (Ret link messages bits)) b.pending_replies)
        where
          by : (x : Bool) → (if x then option_to_list (other_rule saying (Ret link messages bits) messages bits (numbers_due ours (Ret link messages bits) b.pending_replies)) ++ option_to_list (over_rule saying (Ret link messages bits) messages bits conn) else []) ≡ []
          by true = ap (λ (x : Option Rule). option_to_list x ++ []) e
          by false = refl

      led : (l : LinkTarget) → other_rule saying (Ret link messages bits) messages bits (numbers_due ours (Ret link messages bits) b.pending_replies) ≡ None → led_numbers saying (Ret link messages bits) messages bits b l ≡ []
      led LinkTarget.Rests e = refl
      led LinkTarget.Nobody e = refl
      led LinkTarget.Closed e = refl
      led (LinkTarget.Unasked place) e = refl
      led (LinkTarget.Open place) e = returned (conn_at_index b.conns place) e

      go : (x : Bool) → sent_suspended me n b link ≡ x → led_numbers saying (Ret link messages bits) messages bits b (target_on saying (from_sender saying link) b) ≡ []
      go true r = ap (λ (x : Bool). led_numbers saying (Ret link messages bits) messages bits b (if x then LinkTarget.Rests else target_at saying b.conns (index_on_receive_link saying (from_sender saying link) b.conns))) r
      go false r = led (target_on saying (from_sender saying link) b) (first_none r)

  -- ---- one more is due of the host

  own_due : (wanted : ExpectedReply) (mandatory : Bool) → is_due_of me n true (record { at = me; peer = n; host = true; wanted = wanted; mandatory = mandatory }) ≡ true
  own_due wanted mandatory = rw (eq-eqb me me refl, eq-eqb n n refl) refl

  -- and it makes it
  pub made_owed : (m : Ends) (w : List Command) (b : SeenTables) (wanted : ExpectedReply) (mandatory : Bool) (c : Command) → (owes (record { at = me; peer = n; sent = false }) wanted mandatory b).full ≡ false
      → says_wanted wanted c ≡ true → is_exact wanted c ≡ true → item_of (sent_suspended me n b) (links_sent me n b) c ≡ Gives c ∷ [] → ((link : ℕ) → is_ret_on link c ≡ true → gone_of m link ≡ false)
      → is_return_where (ended_by (items_of me n b w) nothing_ended) wanted ≡ false → OwedBy me n m w b → OwedBy me n m (w ++ c ∷ []) (owes (record { at = me; peer = n; sent = false }) wanted mandatory b)
  made_owed m w b wanted mandatory c f says exact item gone unended o =
      let due : PendingReply = record { at = me; peer = n; host = true; wanted = wanted; mandatory = mandatory } in
      let is = due_with b due f in
      let stay = stay_same b (with_due b due) is.1.0 is.1.1 in
      subst (λ (xs : List Item). Owed ours (gone_of m) nothing_ended xs (with_due b due).pending_replies) (sym (items_alike (sent_suspended me n b) (sent_suspended me n (with_due b due)) (links_sent me n b) (links_sent me n (with_due b due)) stay.suspended stay.links (w ++ c ∷ [])))
      (subst (λ (ds : List PendingReply). Owed ours (gone_of m) nothing_ended (items_of me n b (w ++ c ∷ [])) ds) (sym is.0)
      (subst (λ (xs : List Item). Owed ours (gone_of m) nothing_ended xs (b.pending_replies ++ due ∷ [])) (sym (items_append (sent_suspended me n b) (links_sent me n b) w (c ∷ []) ∙ ap (λ (x : List Item). items_of me n b w ++ (x ++ [])) item))
      (more_given ours (gone_of m) nothing_ended c (items_of me n b w) b.pending_replies due gone
      (record { answers = ap (λ (x : Bool). x && says_wanted wanted c) (own_due wanted mandatory) ∙ says; exact = exact; open_still = unended }) o)))

  -- an ERR or an ERP

  pub made_reply : (m : Ends) (w : List Command) (b : SeenTables) (wanted : ExpectedReply) (mandatory : Bool) (c : Command) → (owes (record { at = me; peer = n; sent = false }) wanted mandatory b).full ≡ false
      → is_ret_wanted wanted ≡ false → says_wanted wanted c ≡ true → item_of (sent_suspended me n b) (links_sent me n b) c ≡ Gives c ∷ []
      → OwedBy me n m w b → OwedBy me n m (w ++ c ∷ []) (owes (record { at = me; peer = n; sent = false }) wanted mandatory b)
  made_reply m w b wanted mandatory c f r says item o =
      made_owed m w b wanted mandatory c f says (exact wanted r) item (λ link k. absurd (no_ret wanted c link r says k)) (unended wanted r) o
    where
      exact : (v : ExpectedReply) → is_ret_wanted v ≡ false → is_exact v c ≡ true
      exact (Return link messages bits) r = absurd (cc r)
      exact (Echo byte) r = refl
      exact (Error code or bytes) r = refl

      no_ret : (v : ExpectedReply) (c : Command) (link : ℕ) → is_ret_wanted v ≡ false → says_wanted v c ≡ true → is_ret_on link c ≡ true → ⊥
      no_ret (Return l messages bits) (Ret on x y) link r s k = cc r
      no_ret (Echo byte) (Ret on x y) link r s k = cc s
      no_ret (Error code or bytes) (Ret on x y) link r s k = cc s
      no_ret v c link r s k = cc k

      unended : (v : ExpectedReply) → is_ret_wanted v ≡ false → is_return_where (ended_by (items_of me n b w) nothing_ended) v ≡ false
      unended (Return link messages bits) r = absurd (cc r)
      unended (Echo byte) r = refl
      unended (Error code or bytes) r = refl

  -- and it makes none
  pub unmade_owed : (m : Ends) (w : List Command) (b : SeenTables) (wanted : ExpectedReply) (mandatory : Bool) → (owes (record { at = me; peer = n; sent = false }) wanted mandatory b).full ≡ false
      → (mandatory && not (is_return_where (ended_by (items_of me n b w) nothing_ended) wanted)) ≡ false → if_return (gone_of m) wanted ≡ true
      → OwedBy me n m w b → OwedBy me n m w (owes (record { at = me; peer = n; sent = false }) wanted mandatory b)
  unmade_owed m w b wanted mandatory f lacks closed o =
      let due : PendingReply = record { at = me; peer = n; host = true; wanted = wanted; mandatory = mandatory } in
      let is = due_with b due f in
      let stay = stay_same b (with_due b due) is.1.0 is.1.1 in
      subst (λ (xs : List Item). Owed ours (gone_of m) nothing_ended xs (with_due b due).pending_replies) (sym (items_alike (sent_suspended me n b) (sent_suspended me n (with_due b due)) (links_sent me n b) (links_sent me n (with_due b due)) stay.suspended stay.links w))
      (subst (λ (ds : List PendingReply). Owed ours (gone_of m) nothing_ended (items_of me n b w) ds) (sym is.0)
      (more_lacks ours (gone_of m) nothing_ended (items_of me n b w) b.pending_replies due
      (record {
        lacks = by (is_due_of me n true due) mandatory (not (is_return_where (ended_by (items_of me n b w) nothing_ended) wanted)) lacks;
        closed = either (is_due_of me n true due) (if_return (gone_of m) wanted) closed;
        none = either (is_due_of me n true due) (if_return (λ link. true) wanted) (always wanted);
      }) o))
    where
      by : (x s r : Bool) → (s && r) ≡ false → (x && s && r) ≡ false
      by true s r e = e
      by false s r e = refl

      either : (x y : Bool) → y ≡ true → (not x || y) ≡ true
      either true y e = e
      either false y e = refl

      always : (v : ExpectedReply) → if_return (λ link. true) v ≡ true
      always (Return link messages bits) = refl
      always (Echo byte) = refl
      always (Error code or bytes) = refl

  -- one that is not sure and is no RET
  pub unmade_reply : (m : Ends) (w : List Command) (b : SeenTables) (wanted : ExpectedReply) → (owes (record { at = me; peer = n; sent = false }) wanted false b).full ≡ false → is_ret_wanted wanted ≡ false
      → OwedBy me n m w b → OwedBy me n m w (owes (record { at = me; peer = n; sent = false }) wanted false b)
  unmade_reply m w b wanted f r o = unmade_owed m w b wanted false f refl (closed wanted r) o
    where
      closed : (v : ExpectedReply) → is_ret_wanted v ≡ false → if_return (gone_of m) v ≡ true
      closed (Return link messages bits) r = absurd (cc r)
      closed (Echo byte) r = refl
      closed (Error code or bytes) r = refl

  -- ---- what waits after all else

  -- no reply and no CLS of a sender
  pub owed_more : (m : Ends) (w u : List Command) (b : SeenTables) → items_of me n b u ≡ [] → OwedBy me n m w b → OwedBy me n m (w ++ u) b
  owed_more m w u b e o =
      subst (λ (xs : List Item). Owed ours (gone_of m) nothing_ended xs b.pending_replies)
      (sym (items_append (sent_suspended me n b) (links_sent me n b) w u ∙ ap (λ (x : List Item). items_of me n b w ++ x) e ∙ none_after (items_of me n b w))) o

  -- a CLS
  pub owed_closing : (m : Ends) (w : List Command) (my your : ℕ) (b : SeenTables) → OwedBy me n m w b → OwedBy me n m (w ++ Cls my your ∷ []) b
  owed_closing m w my your b o =
      subst (λ (xs : List Item). Owed ours (gone_of m) nothing_ended xs b.pending_replies) (sym (items_append (sent_suspended me n b) (links_sent me n b) w (Cls my your ∷ []))) (go (is_senders my) (links_sent me n b (my, your)))
    where
      go : (x : Bool) (l : Option ℕ) → Owed ours (gone_of m) nothing_ended (items_of me n b w ++ ((if x then ends_of l else []) ++ [])) b.pending_replies
      go true (Some link) = more_ends ours (gone_of m) nothing_ended link (items_of me n b w) b.pending_replies o
      go true None = subst (λ (xs : List Item). Owed ours (gone_of m) nothing_ended xs b.pending_replies) (sym (none_after (items_of me n b w))) o
      go false l = subst (λ (xs : List Item). Owed ours (gone_of m) nothing_ended xs b.pending_replies) (sym (none_after (items_of me n b w))) o

  -- ---- the host does something at one end: it sends on no link on which it did not send before

  pub owed_moves : (m now : Ends) (pair : Pair) (after : Option Endpoint) (w : List Command) (b : SeenTables) → OneEnd m now pair after
      → ((link : ℕ) → list_any (IsReturnOf (is_due_of me n true) link) b.pending_replies ≡ true → passes (is_open_sender link) pair after ≡ true → passes (is_open_sender link) pair (get m pair) ≡ true) → OwedBy me n m w b → OwedBy me n now w b
  owed_moves m now pair after w b one k o = owed_gone ours (gone_of m) (gone_of now) nothing_ended (items_of me n b w) b.pending_replies (λ link r g. gone_now m now pair after link one (k link r) g) o

  -- ---- a link is suspended

  sent_suspended_too : (link : ℕ) (b : SeenTables) → (facts_now me n (FactKind.LinkSuspended false link) b).full ≡ false → (l : ℕ) → sent_suspended me n (facts_now me n (FactKind.LinkSuspended false link) b) l ≡ (l == link || sent_suspended me n b l)
  sent_suspended_too link b f l = go (l == link) refl
    where
      counterpart : (l == link) ≡ false → (link == l) ≡ false
      counterpart e = by (link == l) refl
        where
          by : (x : Bool) → (link == l) ≡ x → (link == l) ≡ false
          by true k = let nay : true ≡ false = sym (eq-eqb l link (sym (eqb-true link l k))) ∙ e in absurd (cc nay)
          by false k = k

      go : (x : Bool) → (l == link) ≡ x → sent_suspended me n (facts_now me n (FactKind.LinkSuspended false link) b) l ≡ (x || sent_suspended me n b l)
      go true e = ap (sent_suspended me n (facts_now me n (FactKind.LinkSuspended false link) b)) (eqb-true l link e) ∙ fact_made me n (FactKind.LinkSuspended false link) b f
      go false e = fact_other me n (FactKind.LinkSuspended false link) (FactKind.LinkSuspended false l) b (counterpart e)

  pub owed_link_suspended : (m : Ends) (w : List Command) (b : SeenTables) (host : Bool) (link : ℕ) → (link_suspended_now me n host link b).full ≡ false → OwedBy me n m w b → OwedBy me n m w (link_suspended_now me n host link b)
  owed_link_suspended m w b true link f o =
      let mid = facts_now me n (FactKind.LinkSuspended true link) b in
      owed_stays m w mid (link_suspended_now me n true link b) (stay_same mid (link_suspended_now me n true link b) refl refl)
      (sym (filter_others ours (is_return me n false link) mid.pending_replies (λ due r. theirs_distinct me n due (and_parts (is_due_of me n false due) (is_return_on link due.wanted) r).0)))
      (owed_fact m w b (FactKind.LinkSuspended true link) (λ l. refl) o)
  owed_link_suspended m w b false link f o =
      let mid = facts_now me n (FactKind.LinkSuspended false link) b in
      subst (λ (xs : List Item). Owed ours (gone_of m) nothing_ended xs (filter (λ due. not (IsReturnOf ours link due)) mid.pending_replies))
      (sym (items_rested (sent_suspended me n b) (sent_suspended me n mid) (links_sent me n mid) link (sent_suspended_too link b f) w))
      (subst (λ (ds : List PendingReply). Owed ours (gone_of m) nothing_ended (rested mid) (filter (λ due. not (IsReturnOf ours link due)) ds)) (sym (fact_pending me n (FactKind.LinkSuspended false link) b))
      (owed_rested ours (gone_of m) nothing_ended link (items (sent_suspended me n b) (links_sent me n mid) w) b.pending_replies
      (subst (λ (xs : List Item). Owed ours (gone_of m) nothing_ended xs b.pending_replies)
      (sym (items_alike (sent_suspended me n b) (sent_suspended me n b) (links_sent me n b) (links_sent me n mid) (λ l. refl)
      (λ u s. ap (λ (xs : List ConnState). link_given true (seen (first (is_of_sockets me n u.0 u.1) xs))) (fact_conns me n (FactKind.LinkSuspended false link) b)) w)) o)))
    where
      rested : SeenTables → List Item
      rested mid = no_rets link (items (sent_suspended me n b) (links_sent me n mid) w)

  -- ---- a connection is suspended

  -- it is as it was, but for that
  put_stays : (p : Sockets) (b : SeenTables) (i : ℕ) → position (is_of_sockets me n p.0 p.1) b.conns ≡ Some i → ItemsStay me n b (record b { conns = slice_set b.conns i (record (conn_at_index b.conns i) { suspended = true }) })
  put_stays p b i e = record { suspended = λ link. refl; links = λ u s. by u (same u p) refl }
    where
      its : ConnState → Bool
      its = is_of_sockets me n p.0 p.1

      now : ConnState
      now = record (conn_at_index b.conns i) { suspended = true }

      now_is : its (record (conn_at_index b.conns i) { suspended = true }) ≡ true
      now_is = (position-Some its b.conns i (unasked_conn 0 0 0 0) e).1

      there : slice_set b.conns i (record (conn_at_index b.conns i) { suspended = true }) ≡ set_first its now b.conns
      there = set_found its now b.conns i (unasked_conn 0 0 0 0) e

      link : (xs : List ConnState) (u : Sockets) → Option ℕ
      link xs u = link_given true (seen (first (is_of_sockets me n u.0 u.1) xs))

      here : link (slice_set b.conns i (record (conn_at_index b.conns i) { suspended = true })) p ≡ link b.conns p
      here =
          ap (λ (xs : List ConnState). link xs p) there
          ∙ ap (λ (o : Option ConnState). link_given true (seen o)) (first_set its b.conns now (conn_at_index b.conns i) now_is (found_first its b.conns i (unasked_conn 0 0 0 0) e))
          ∙ sym (ap (λ (o : Option ConnState). link_given true (seen o)) (found_first its b.conns i (unasked_conn 0 0 0 0) e))

      by : (u : Sockets) (x : Bool) → same u p ≡ x → link (slice_set b.conns i (record (conn_at_index b.conns i) { suspended = true })) u ≡ link b.conns u
      by u true s = ap (link (slice_set b.conns i (record (conn_at_index b.conns i) { suspended = true }))) (same_is u p s) ∙ here ∙ sym (ap (link b.conns) (same_is u p s))
      by u false s =
          let d = others_distinct me n p.0 p.1 u.0 u.1 (others_are u p s) in
          ap (λ (xs : List ConnState). link xs u) there ∙ ap (λ (o : Option ConnState). link_given true (seen o)) (other_set its (is_of_sockets me n u.0 u.1) b.conns now d (d now now_is))

  -- a connection that was not observed before
  begun_stays : (p : Sockets) (b : SeenTables) (conn : ConnState) → position (is_of_sockets me n p.0 p.1) b.conns ≡ None → is_of_sockets me n p.0 p.1 conn ≡ true → link_given true (seen (Some conn)) ≡ None
      → ItemsStay me n b (record b { conns = b.conns ++ conn ∷ [] })
  begun_stays p b conn e is unlinked = record { suspended = λ link. refl; links = λ u s. by u (same u p) refl }
    where
      its : ConnState → Bool
      its = is_of_sockets me n p.0 p.1

      link : (xs : List ConnState) (u : Sockets) → Option ℕ
      link xs u = link_given true (seen (first (is_of_sockets me n u.0 u.1) xs))

      here : link (b.conns ++ conn ∷ []) p ≡ link b.conns p
      here =
          ap (λ (o : Option ConnState). link_given true (seen o)) (first_after its b.conns conn (none_first its b.conns e) ∙ ap (λ (x : Bool). if x then Some conn else None) is)
          ∙ unlinked ∙ sym (ap (λ (o : Option ConnState). link_given true (seen o)) (none_first its b.conns e))

      by : (u : Sockets) (x : Bool) → same u p ≡ x → link (b.conns ++ conn ∷ []) u ≡ link b.conns u
      by u true s = ap (link (b.conns ++ conn ∷ [])) (same_is u p s) ∙ here ∙ sym (ap (link b.conns) (same_is u p s))
      by u false s =
          let d = others_distinct me n p.0 p.1 u.0 u.1 (others_are u p s) in
          ap (λ (o : Option ConnState). link_given true (seen o)) (other_following (is_of_sockets me n u.0 u.1) b.conns conn (d conn is))

  pub owed_pair_suspended : (m : Ends) (w : List Command) (p : Sockets) (b : SeenTables) → (suspended_pair me n p.0 p.1 b).full ≡ false → OwedBy me n m w b → OwedBy me n m w (suspended_pair me n p.0 p.1 b)
  owed_pair_suspended m w p b f o = go (position (is_of_sockets me n p.0 p.1) b.conns) refl f
    where
      begun : ConnState
      begun = record (unasked_conn me n p.0 p.1) { suspended = true }

      begun_is : is_of_sockets me n p.0 p.1 begun ≡ true
      begun_is = rw (eq-eqb me me refl, eq-eqb n n refl, eq-eqb p.0 p.0 refl, eq-eqb p.1 p.1 refl) refl

      unlinked : link_given true (seen (Some begun)) ≡ None
      unlinked = by (is_senders p.0)
        where
          by : (x : Bool) → ◌≡◌ {A = Option ℕ} (if x then None else None) None
          by true = refl
          by false = refl

      put_in : ℕ → SeenTables
      put_in i = record b { conns = slice_set b.conns i (record (conn_at_index b.conns i) { suspended = true }) }

      link_rested : ℕ → Option ℕ → SeenTables
      link_rested i None = put_in i
      link_rested i (Some link) = link_suspended_now me n (not (is_senders (conn_at_index b.conns i).local)) link (put_in i)

      rested : Option ℕ → SeenTables
      rested None = with_conn b begun
      rested (Some i) = link_rested i (conn_at_index b.conns i).link

      put_owed : (i : ℕ) → position (is_of_sockets me n p.0 p.1) b.conns ≡ Some i → OwedBy me n m w (put_in i)
      put_owed i e = owed_stays m w b (put_in i) (put_stays p b i e) refl o

      by_link : (i : ℕ) (l : Option ℕ) → position (is_of_sockets me n p.0 p.1) b.conns ≡ Some i → (link_rested i l).full ≡ false → OwedBy me n m w (link_rested i l)
      by_link i None e f = put_owed i e
      by_link i (Some link) e f = owed_link_suspended m w (put_in i) (not (is_senders (conn_at_index b.conns i).local)) link f (put_owed i e)

      with_room : (x : Bool) → position (is_of_sockets me n p.0 p.1) b.conns ≡ None → (if x then record b { conns = b.conns ++ begun ∷ [] } else record b { full = true }).full ≡ false
          → OwedBy me n m w (if x then record b { conns = b.conns ++ begun ∷ [] } else record b { full = true })
      with_room true e f = owed_stays m w b (record b { conns = b.conns ++ begun ∷ [] }) (begun_stays p b begun e begun_is unlinked) refl o
      with_room false e f = absurd (cc f)

      go : (x : Option ℕ) → position (is_of_sockets me n p.0 p.1) b.conns ≡ x → (rested x).full ≡ false → OwedBy me n m w (rested x)
      go None e f = with_room (nat_lt (length b.conns) MAX_TABLE_ROWS) e f
      go (Some i) e f = by_link i (conn_at_index b.conns i).link e f

  -- ---- one connection has a link, or no longer has it, and no RET is pending for that link

  pub owed_linked : (m : Ends) (w : List Command) (b after : SeenTables) (p : Sockets) (s : Option Shape) (link : ℕ) → OneSeen me n b after p s → list_any (IsReturnOf (is_due_of me n true) link) b.pending_replies ≡ false
      → IsOnly link (links_sent me n b p) → IsOnly link (link_given true s) → OwedBy me n m w b → OwedBy me n m w after
  owed_linked m w b after p s link one none before now o =
      subst (Owed ours (gone_of m) nothing_ended (items_of me n after w)) (sym one.pending_replies)
      (subst (λ (xs : List Item). Owed ours (gone_of m) nothing_ended xs b.pending_replies)
      (sym (items_alike (sent_suspended me n b) (sent_suspended me n after) (links_sent me n after) (links_sent me n after) (λ l. ap (list_any (is_topic me n (FactKind.LinkSuspended false l))) one.known_facts) (λ u z. refl) w))
      (owed_same ours (gone_of m) nothing_ended link (items_of me n b w) (items (sent_suspended me n b) (links_sent me n after) w) b.pending_replies none
      (sym (items_linked (sent_suspended me n b) (links_sent me n b) (links_sent me n after) link p elsewhere before there w)) o))
    where
      elsewhere : (u : Sockets) → same u p ≡ false → is_senders u.0 ≡ true → links_sent me n after u ≡ links_sent me n b u
      elsewhere u d z = ap (λ (o : Option ConnState). link_given true (seen o)) (one.others u d)

      at_it : links_sent me n after p ≡ link_given true s
      at_it = ap (link_given true) (one.seen p ∙ by (same p p) (itself p))
        where
          itself : (v : Sockets) → same v v ≡ true
          itself (a, b) = rw (eq-eqb a a refl, eq-eqb b b refl) refl

          by : (x : Bool) → x ≡ true → (if x then s else seen_of me n b p) ≡ s
          by true e = refl
          by false e = absurd (cc e)

      there : IsOnly link (links_sent me n after p)
      there = subst (IsOnly link) (sym at_it) now

  -- ---- requests

  own_link : (number : ℕ) (x : Option Shape) → link_given true (own_step (Ask number) x) ≡ link_given true x
  own_link number None = refl
  own_link number (Some s) = refl

  -- a request of the host
  pub owed_own_ask : (m : Ends) (w : List Command) (b after : SeenTables) (p : Sockets) (number : ℕ) → OneSeen me n b after p (own_step (Ask number) (seen_of me n b p)) → OwedBy me n m w b → OwedBy me n m w after
  owed_own_ask m w b after p number one o =
      owed_stays m w b after (stay_one b after p (own_step (Ask number) (seen_of me n b p)) one (λ z. own_link number (seen_of me n b p))) (ap (filter ours) (sym one.pending_replies)) o

  -- a request of the other for a receiver
  pub owed_size : (m : Ends) (w : List Command) (b after : SeenTables) (p : Sockets) (s : Option Shape) → OneSeen me n b after p s → is_senders p.0 ≡ false → OwedBy me n m w b → OwedBy me n m w after
  owed_size m w b after p s one r o = owed_stays m w b after (stay_one b after p s one (λ z. let nay : true ≡ false = sym z ∙ r in absurd (cc nay))) (ap (filter ours) (sym one.pending_replies)) o

  -- for a sender whose link was not observed
  pub owed_link : (m : Ends) (w : List Command) (b after : SeenTables) (p : Sockets) (link : ℕ) → OneSeen me n b after p (their_step (Ask link) (seen_of me n b p)) → list_any (IsReturnOf (is_due_of me n true) link) b.pending_replies ≡ false
      → links_sent me n b p ≡ None → OwedBy me n m w b → OwedBy me n m w after
  owed_link m w b after p link one none before o = owed_linked m w b after p (their_step (Ask link) (seen_of me n b p)) link one none (inl before) (inr refl) o

  -- ---- CLSs

  own_left_link : (x : Option Shape) (o : Option ℕ) → link_given true x ≡ o → (link_given true (own_step Leave x) ≡ None) ⊎ (link_given true (own_step Leave x) ≡ o)
  own_left_link None o e = inl refl
  own_left_link (Some s) o e = go s.cls
    where
      go : (b : Bool) → (link_given true (if b then None else Some (record s { left = true })) ≡ None) ⊎ (link_given true (if b then None else Some (record s { left = true })) ≡ o)
      go true = inl refl
      go false = inr e

  -- of a receiver of the host, or of a sender that has no link
  pub owed_own_leave : (m : Ends) (w : List Command) (b after : SeenTables) (p : Sockets) → OneSeen me n b after p (own_step Leave (seen_of me n b p)) → (is_senders p.0 ≡ true → links_sent me n b p ≡ None)
      → OwedBy me n m w b → OwedBy me n m w after
  owed_own_leave m w b after p one r o =
      owed_stays m w b after (stay_one b after p (own_step Leave (seen_of me n b p)) one (λ z. by (own_left_link (seen_of me n b p) None (r z)) ∙ sym (r z))) (ap (filter ours) (sym one.pending_replies)) o
    where
      by : (link_given true (own_step Leave (seen_of me n b p)) ≡ None) ⊎ (link_given true (own_step Leave (seen_of me n b p)) ≡ None) → link_given true (own_step Leave (seen_of me n b p)) ≡ None
      by (inl e) = e
      by (inr e) = e

  pub none_returns : (link : ℕ) (pending_replies : List PendingReply) → list_any (IsReturnOf (is_due_of me n true) link) (filter (λ due. not (is_return me n true link due)) pending_replies) ≡ false
  none_returns link [] = refl
  none_returns link (due ∷ pending_replies) = go (is_return me n true link due) refl (none_returns link pending_replies)
    where
      left : List PendingReply
      left = filter (λ d. not (is_return me n true link d)) pending_replies

      go : (b : Bool) → is_return me n true link due ≡ b → list_any (IsReturnOf (is_due_of me n true) link) left ≡ false → list_any (IsReturnOf (is_due_of me n true) link) (if not b then due ∷ left else left) ≡ false
      go true e later = later
      go false e later = ap (λ (x : Bool). x || list_any (IsReturnOf (is_due_of me n true) link) left) e ∙ later

  -- of a sender that has a link: no RET for it is due any more
  pub owed_own_end : (m : Ends) (my your : ℕ) (w : List Command) (b after ended : SeenTables) (link : ℕ) → OneSeen me n b after (my, your) (own_step Leave (seen_of me n b (my, your))) → is_senders my ≡ true → links_sent me n b (my, your) ≡ Some link
      → ItemsStay me n after ended → ended.pending_replies ≡ filter (λ due. not (is_return me n true link due)) after.pending_replies → OwedBy me n m (Cls my your ∷ w) b → OwedBy me n m w ended
  owed_own_end m my your w b after ended link one s given stay d o =
      let struck = record b { pending_replies = filter (λ (due : PendingReply). not (is_return me n true link due)) b.pending_replies } in
      let item : item_of (sent_suspended me n b) (links_sent me n b) (Cls my your) ≡ EndsOn link ∷ [] = ap (λ (x : Bool). if x then ends_of (links_sent me n b (my, your)) else []) s ∙ ap ends_of given in
      let went : OwedBy me n m w struck = owed_ends ours (gone_of m) nothing_ended link (items_of me n b w) b.pending_replies (owed_first m (Cls my your) w b (EndsOn link) item o) in
      owed_stays m w (record after { pending_replies = filter (λ (due : PendingReply). not (is_return me n true link due)) after.pending_replies }) ended
      (record { suspended = stay.suspended; links = stay.links }) (ap (filter ours) (sym d))
      (owed_linked m w struck (record after { pending_replies = filter (λ (due : PendingReply). not (is_return me n true link due)) after.pending_replies }) (my, your) (own_step Leave (seen_of me n b (my, your))) link
      (record { seen = one.seen; others = one.others; calm = one.calm; unique = one.unique; known_facts = one.known_facts; pending_replies = ap (filter (λ (due : PendingReply). not (is_return me n true link due))) one.pending_replies })
      (none_returns link b.pending_replies) (inr given) (only (own_left_link (seen_of me n b (my, your)) (Some link) given)) went)
    where
      only : (link_given true (own_step Leave (seen_of me n b (my, your))) ≡ None) ⊎ (link_given true (own_step Leave (seen_of me n b (my, your))) ≡ Some link) → IsOnly link (link_given true (own_step Leave (seen_of me n b (my, your))))
      only e = e

  -- a CLS of the other: the connection ends with it, and then no RET is due of a host that has left, or it stays
  pub owed_their_leave : (m : Ends) (w : List Command) (b after : SeenTables) (p : Sockets) → OneSeen me n b after p (their_step Leave (seen_of me n b p))
      → ((link : ℕ) → is_senders p.0 ≡ true → links_sent me n b p ≡ Some link → link_given true (their_step Leave (seen_of me n b p)) ≡ None → list_any (IsReturnOf (is_due_of me n true) link) b.pending_replies ≡ false)
      → OwedBy me n m w b → OwedBy me n m w after
  owed_their_leave m w b after p one none o = go (is_senders p.0) refl (seen_of me n b p) refl
    where
      stays : (is_senders p.0 ≡ true → link_given true (their_step Leave (seen_of me n b p)) ≡ links_sent me n b p) → OwedBy me n m w after
      stays k = owed_stays m w b after (stay_one b after p (their_step Leave (seen_of me n b p)) one k) (ap (filter ours) (sym one.pending_replies)) o

      go : (x : Bool) → is_senders p.0 ≡ x → (y : Option Shape) → seen_of me n b p ≡ y → OwedBy me n m w after
      go false s y e = stays (λ z. let nay : true ≡ false = sym z ∙ s in absurd (cc nay))
      go true s None e = stays (λ z. ap (λ (v : Option Shape). link_given true (their_step Leave v)) e ∙ sym (ap (link_given true) e))
      go true s (Some t) e = by t.left refl
        where
          by : (l : Bool) → t.left ≡ l → OwedBy me n m w after
          by false l = stays (λ z. ap (λ (v : Option Shape). link_given true (their_step Leave v)) e ∙ ap (λ (x : Bool). link_given true (if x then None else Some (record t { cls = true }))) l ∙ sym (ap (link_given true) e))
          by true l = on (links_sent me n b p) refl
            where
              over : link_given true (their_step Leave (seen_of me n b p)) ≡ None
              over = ap (λ (v : Option Shape). link_given true (their_step Leave v)) e ∙ ap (λ (x : Bool). link_given true (if x then None else Some (record t { cls = true }))) l

              on : (v : Option ℕ) → links_sent me n b p ≡ v → OwedBy me n m w after
              on None g = stays (λ z. over ∙ sym g)
              on (Some link) g = owed_linked m w b after p (their_step Leave (seen_of me n b p)) link one (none link s g over) (inr g) (inl over) o

  -- ---- nothing waits

  pub owed_all_said : (m : Ends) (b : SeenTables) → OwedBy me n m [] (after_all_said me n b)
  owed_all_said m b = all_struck ours (gone_of m) nothing_ended b.pending_replies
