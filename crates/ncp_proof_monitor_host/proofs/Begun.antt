-- Where nothing was said between two hosts, what was said meets a host that has no end; and what is said between others leaves
-- all this.
use Rattle.std.proofs.Common.{◌≡◌, ℕ, ◌+◌, ◌≤◌, ◌<◌, ◌==◌, ◌⊎◌, inl, inr, Bool, true, false, not, ◌&&◌, if◌then◌else◌, List, [], ◌∷◌, ◌++◌, length, Option, None, Some, option_map, refl, sym, ap, ◌∙◌, subst, arith}
use Rattle.std.specs.FinMap.{get, get-empty}
use Rattle.std.specs.List.{filter, list_any, position}
use Rattle.std.proofs.Math.Bool.{beq}
use Rattle.std.proofs.lemmas.Bool.{and_parts}
use Rattle.ncp_wire.specs.declared.command.Command.{Command}
use Rattle.ncp_wire.specs.declared.command.Command.TheVariants.{Rst, Rrp}
use Rattle.ncp_model.specs.Pairs.{pair_cmp, sends, receives}
use Rattle.ncp_model.specs.Endpoint.{Endpoint}
use Rattle.ncp_model.specs.Ends.{Ends, no_ends}
use Rattle.ncp_model.proofs.ResetLists.{bit, others}
use Rattle.ncp_interface.specs.declared.sent_message.SentMessage.{SentMessage}
use Rattle.ncp_monitor.specs.declared.conn_state.ConnState.{ConnState}
use Rattle.ncp_monitor.specs.declared.conn_state.FactKind.{FactKind}
use Rattle.ncp_monitor.specs.ConnStates.{SeenTables, is_of_sockets, is_topic, same_topic, is_marked, is_return, is_return_on, is_conn_between, is_fact_between, is_due_between, tables_cleared}
use Rattle.ncp_interface.specs.Sockets.{is_senders}
use Rattle.ncp_monitor.specs.Replies.{is_due_of, due_at}
use Rattle.ncp_monitor.specs.Requests.{is_link_busy}
use Rattle.ncp_monitor.specs.Speaking.{lacks_cls, is_owed, reply_at, reply_left_out, cls_of, cls_left_out}
use Rattle.ncp_monitor.proofs.Shapes.{Say}
use Rattle.ncp_monitor.proofs.LinkOrder.{Sockets, about}
use Rattle.ncp_monitor.proofs.Seeing.{seen}
use Rattle.ncp_monitor.proofs.Firsts.{first, Unique, found_first, unique_filter}
use Rattle.ncp_proof_monitor_allocation.proofs.KeptEnds.{kept}
use Rattle.ncp_proof_monitor_allocation.proofs.Tallies.{Tallies, none_tallies, suspended_tally}
use Rattle.ncp_proof_monitor_allocation.proofs.OwnMoves.{says_of, all_says}
use Rattle.ncp_proof_monitor_allocation.proofs.Changed.{pair_at, kept_of}
use Rattle.ncp_proof_monitor_allocation.proofs.SeenTables.{conn_seen, seen_of, is_suspended, suspended_of, links_of, receives_at}
use Rattle.ncp_proof_monitor_allocation.proofs.Users.{found_at_first}
use Rattle.ncp_proof_monitor_allocation.proofs.Meets.{same_conns}
use Rattle.ncp_proof_monitor_allocation.proofs.Echoing.{is_eco, ecos}
use Rattle.ncp_proof_monitor_allocation.proofs.Came.{asks_in, has_come}
use Rattle.ncp_proof_monitor_allocation.proofs.Filtered.{Within, unpassed, first_within, any_within, unique_within, none_inside, filter_none}
use Rattle.ncp_proof_monitor_allocation.proofs.Words.{count_of, link_given}
use Rattle.ncp_proof_monitor_allocation.proofs.Plain.{Plain, returns_due}
use Rattle.ncp_proof_monitor_allocation.proofs.PlainSteps.{plain_shapes}
use Rattle.ncp_proof_monitor_allocation.proofs.TextErrors.{AllAdmitted, admitted_wider}
use Rattle.ncp_proof_monitor_allocation.proofs.Counted.{is_worded, counted_begins, counted_wider}
use Rattle.ncp_proof_monitor_replies.specs.Owed.{Item, nothing_ended, Owed}
use Rattle.ncp_proof_monitor_replies.proofs.Owed.{owed_within, owed_of}
use Rattle.ncp_proof_monitor_replies.proofs.OwedItems.{item_of, items, sent_suspended, links_sent, items_of, gone_of, OwedBy, items_alike}
use Rattle.ncp_proof_monitor_replies.proofs.OwedSteps.{owed_said}
use Rattle.ncp_proof_monitor_allocation.proofs.Elsewhere.{Alike}
use Rattle.ncp_proof_monitor_host.proofs.Spoken.{Tells, Clear}

-- what is looked at alone
inside : {A : Type 0} (s t : A → Bool) → Within s t → (xs : List A) → filter s (filter t xs) ≡ filter s xs
inside s t w [] = refl
inside s t w (x ∷ xs) = go (t x) refl (inside s t w xs)
  where
    go : (b : Bool) → t x ≡ b → filter s (filter t xs) ≡ filter s xs → filter s (if b then x ∷ filter t xs else filter t xs) ≡ (if s x then x ∷ filter s xs else filter s xs)
    go true e rest = ap (λ (zs : List _). if s x then x ∷ zs else zs) rest
    go false e rest = rest ∙ sym (ap (λ (b : Bool). if b then x ∷ filter s xs else filter s xs) (unpassed s t w x e))

-- ---- what is looked at is between the two

module _ (me n : ℕ) where
  conns_within : (u : Sockets) → Within (is_of_sockets me n u.0 u.1) (is_conn_between me n)
  conns_within u conn e = (and_parts (is_conn_between me n conn) (conn.local == u.0) (and_parts (is_conn_between me n conn && conn.local == u.0) (conn.remote == u.1) e).0).0

  topics_within : (what : FactKind) → Within (is_topic me n what) (is_fact_between me n)
  topics_within what known_fact e = (and_parts (is_fact_between me n known_fact) (same_topic known_fact.fact_kind what) e).0

  pending_within : Within (is_due_of me n true) (is_due_between me n)
  pending_within due e = (and_parts (is_due_between me n due) (beq due.host true) e).0

-- ---- nothing was said

module _ (me n : ℕ) (b : SeenTables) (clear : Clear me n b) where
  pub clear_conn : (u : Sockets) → conn_seen me n b u ≡ None
  clear_conn u = sym (first_within (is_of_sockets me n u.0 u.1) (is_conn_between me n) (conns_within me n u) b.conns) ∙ ap (first (is_of_sockets me n u.0 u.1)) clear.0

  pub clear_fact : (what : FactKind) → is_marked me n what b ≡ false
  clear_fact what = sym (any_within (is_topic me n what) (is_fact_between me n) (topics_within me n what) b.known_facts) ∙ ap (list_any (is_topic me n what)) clear.1.0

  clear_unique : (u : Sockets) → Unique (is_of_sockets me n u.0 u.1) b.conns
  clear_unique u = unique_within (is_of_sockets me n u.0 u.1) (is_conn_between me n) (conns_within me n u) b.conns (subst (Unique (is_of_sockets me n u.0 u.1)) (sym clear.0) tt)

  none_returned : (host : Bool) (link : ℕ) → returns_due me n host link b.pending_replies ≡ 0
  none_returned host link = ap length (none_inside (is_return me n host link) (is_due_between me n) within b.pending_replies clear.1.1)
    where
      within : Within (is_return me n host link) (is_due_between me n)
      within due e = (and_parts (is_due_between me n due) (beq due.host host) (and_parts (is_due_of me n host due) (is_return_on link due.wanted) e).0).0

  clear_plain : Plain me n b
  clear_plain = record {
    unopened = λ u e. ap count_of (clear_conn u);
    recalled = λ link z. inl (none_returned false link);
    users = λ link. inl (none_returned true link);
  }

  pub clear_owed : (m : Ends) (w : List Command) → items_of me n b w ≡ [] → OwedBy me n m w b
  clear_owed m w e =
      subst (λ (xs : List Item). Owed (is_due_of me n true) (gone_of m) nothing_ended xs b.pending_replies) (sym e)
      (owed_of (is_due_of me n true) (is_due_between me n) (pending_within me n) (gone_of m) nothing_ended [] b.pending_replies (subst (Owed (is_due_of me n true) (gone_of m) nothing_ended []) (sym clear.1.1) tt))

-- ---- while a host is not up, RST and RRP alone wait

pub record Calm (w : List Command) : Type 0 where
  pub says : all_says w ≡ []
  pub unworded : filter is_worded w ≡ []
  pub items : (suspended : ℕ → Bool) (links : Sockets → Option ℕ) → items suspended links w ≡ []
  pub admits : (me n : ℕ) (b : SeenTables) → AllAdmitted me n w b
  pub none : ecos w ≡ 0

pub calm : (w : List Command) → others w ≡ [] → Calm w
calm [] e = record { says = refl; unworded = refl; items = λ suspended links. refl; admits = λ me n b. tt; none = refl }
calm (Rst ∷ w) e = let k = calm w e in let z = k.none in record { says = k.says; unworded = k.unworded; items = k.items; admits = λ me n b. ((λ t. absurd (cc t)), k.admits me n b); none = omega (arith, z) }
calm (Rrp ∷ w) e = let k = calm w e in let z = k.none in record { says = k.says; unworded = k.unworded; items = k.items; admits = λ me n b. ((λ t. absurd (cc t)), k.admits me n b); none = omega (arith, z) }
calm (c ∷ w) e = absurd (cc e)

pub begins_reports : (me n : ℕ) (awaited : Bool) (w : List Command) (b : SeenTables) → others w ≡ [] → Clear me n b → Tells me n no_ends awaited w b
begins_reports me n awaited w b quiet clear = record {
  meets = record {
    tally =
        subst (λ (x : List (Sockets × Say)). Tallies receives_at (links_of me n b) (suspended_of me n b) x (kept_of no_ends) (seen_of me n b)) (sym k.says)
        (suspended_tally receives_at (links_of me n b) (suspended_of me n b) (links_of me n b) (suspended_of me n b) [] (λ (u : Sockets). None) (λ (u : Sockets). None) (kept_of no_ends) (seen_of me n b)
        (λ l z. z)
        (λ u r. (r, (ap (kept (sends (pair_at u))) (get-empty pair_cmp (pair_at u)), ap seen (clear_conn me n b clear u))))
        (none_tallies receives_at (links_of me n b) (suspended_of me n b)));
    unique = clear_unique me n b clear;
    linked = λ u conn link e r l. let nay : None ≡ Some conn = sym (clear_conn me n b clear u) ∙ e in absurd (cc nay);
  };
  held = λ u e g r s h. let nay : None ≡ Some e = sym (get-empty pair_cmp (pair_at u)) ∙ g in absurd (cc nay);
  echoing = λ r.
      subst (λ (i : ℕ). i + bit (is_marked me n (FactKind.Asks true) b) ≤ bit awaited) (sym k.none)
      (subst (λ (x : Bool). 0 + bit x ≤ bit awaited) (sym (clear_fact me n b clear (FactKind.Asks true))) (omega arith));
  came = λ u e g r h. let nay : None ≡ Some e = sym (get-empty pair_cmp (pair_at u)) ∙ g in absurd (cc nay);
  counted = counted_begins me n no_ends w b (λ pair. get-empty pair_cmp pair) k.unworded (clear_plain me n b clear) (k.admits me n b);
  owed = clear_owed me n b clear no_ends w (k.items (sent_suspended me n b) (links_sent me n b));
}
  where
    k : Calm w
    k = calm w quiet

-- nothing is left out
none_at : {A : Type 0} (t p : A → Bool) (xs : List A) → Within t p → filter p xs ≡ [] → first t xs ≡ None
none_at t p xs w e = sym (first_within t p w xs) ∙ ap (first t) e

pub clear_reply : (me n : ℕ) (b : SeenTables) → Clear me n b → reply_left_out me n b ≡ None
clear_reply me n b clear = go (position (is_owed me n) b.pending_replies) refl
  where
    none : first (is_owed me n) b.pending_replies ≡ None
    none = none_at (is_owed me n) (is_due_between me n) b.pending_replies (λ due e. pending_within me n due (and_parts (is_due_of me n true due) due.mandatory e).0) clear.1.1

    go : (o : Option ℕ) → position (is_owed me n) b.pending_replies ≡ o → reply_at b.pending_replies o ≡ None
    go None e = refl
    go (Some i) e = absurd (cc (sym none ∙ found_first (is_owed me n) b.pending_replies i (due_at b.pending_replies i) e))

pub clear_cls : (me n : ℕ) (kept : List SentMessage) (b : SeenTables) → Clear me n b → cls_left_out me n kept b ≡ None
clear_cls me n kept b clear = ap (option_map cls_of) (found_at_first (lacks_cls me n kept) b.conns ∙ none_at (lacks_cls me n kept) (is_conn_between me n) b.conns within clear.0)
  where
    within : Within (lacks_cls me n kept) (is_conn_between me n)
    within conn e = go (is_conn_between me n conn) e
      where
        go : (x : Bool) → (x && not conn.suspended && conn.peer_left && not conn.host_left && (if is_senders conn.local then not (is_link_busy me n conn.link kept) else not conn.came)) ≡ true → x ≡ true
        go true e = refl
        go false e = absurd (cc e)

pub clear_cleared : (me n : ℕ) (b : SeenTables) → Clear me n (tables_cleared me n b)
clear_cleared me n b = (filter_none (is_conn_between me n) b.conns, (filter_none (is_fact_between me n) b.known_facts, filter_none (is_due_between me n) b.pending_replies))

-- ---- what is said between others

module _ (me n : ℕ) (b now : SeenTables) (alike : Alike me n b now) where
  pub alike_clear : Clear me n b → Clear me n now
  alike_clear clear = (alike.conns ∙ clear.0, (alike.known_facts ∙ clear.1.0, alike.pending_replies ∙ clear.1.1))

  alike_conn : (u : Sockets) → conn_seen me n now u ≡ conn_seen me n b u
  alike_conn u =
      sym (first_within (is_of_sockets me n u.0 u.1) (is_conn_between me n) (conns_within me n u) now.conns)
      ∙ ap (first (is_of_sockets me n u.0 u.1)) alike.conns
      ∙ first_within (is_of_sockets me n u.0 u.1) (is_conn_between me n) (conns_within me n u) b.conns

  alike_fact : (what : FactKind) → is_marked me n what now ≡ is_marked me n what b
  alike_fact what =
      sym (any_within (is_topic me n what) (is_fact_between me n) (topics_within me n what) now.known_facts)
      ∙ ap (list_any (is_topic me n what)) alike.known_facts
      ∙ any_within (is_topic me n what) (is_fact_between me n) (topics_within me n what) b.known_facts

  alike_suspended : (u : Sockets) → suspended_of me n now u ≡ suspended_of me n b u
  alike_suspended u = ap is_suspended (alike_conn u)

  alike_returns : (host : Bool) (link : ℕ) → returns_due me n host link now.pending_replies ≡ returns_due me n host link b.pending_replies
  alike_returns host link =
      ap length
      (sym (inside (is_return me n host link) (is_due_between me n) within now.pending_replies)
      ∙ ap (filter (is_return me n host link)) alike.pending_replies
      ∙ inside (is_return me n host link) (is_due_between me n) within b.pending_replies)
    where
      within : Within (is_return me n host link) (is_due_between me n)
      within due e = (and_parts (is_due_between me n due) (beq due.host host) (and_parts (is_due_of me n host due) (is_return_on link due.wanted) e).0).0

  alike_plain : Plain me n b → Plain me n now
  alike_plain plain =
      plain_shapes me n b now (λ u. ap seen (alike_conn u)) (λ u. ap count_of (alike_conn u))
      (λ host link. let same = alike_returns host link in inr (omega (arith, same), alike_fact (FactKind.LinkSuspended (not host) link))) plain

  alike_owed : (m : Ends) (w : List Command) → OwedBy me n m w b → OwedBy me n m w now
  alike_owed m w o =
      subst (λ (xs : List Item). Owed (is_due_of me n true) (gone_of m) nothing_ended xs now.pending_replies)
      (sym (items_alike (sent_suspended me n b) (sent_suspended me n now) (links_sent me n b) (links_sent me n now) (λ link. alike_fact (FactKind.LinkSuspended false link)) (λ u s. ap (λ (x : Option ConnState). link_given true (seen x)) (alike_conn u)) w))
      (owed_of (is_due_of me n true) (is_due_between me n) (pending_within me n) (gone_of m) nothing_ended (items_of me n b w) now.pending_replies
      (subst (Owed (is_due_of me n true) (gone_of m) nothing_ended (items_of me n b w)) (sym alike.pending_replies)
      (owed_within (is_due_of me n true) (is_due_between me n) (pending_within me n) (gone_of m) nothing_ended (items_of me n b w) b.pending_replies o)))

  pub alike_reports : (m : Ends) (awaited : Bool) (w : List Command) → Tells me n m awaited w b → Tells me n m awaited w now
  alike_reports m awaited w t = record {
    meets = record {
      tally =
          suspended_tally receives_at (links_of me n b) (suspended_of me n b) (links_of me n now) (suspended_of me n now) (all_says w) (kept_of m) (seen_of me n b) (kept_of m) (seen_of me n now)
          (λ l z. alike_fact (FactKind.LinkSuspended true l) ∙ z)
          (λ u r. (sym (alike_suspended u) ∙ r, (refl, ap seen (alike_conn u)))) t.meets.tally;
      unique = λ u.
          unique_within (is_of_sockets me n u.0 u.1) (is_conn_between me n) (conns_within me n u) now.conns
          (subst (Unique (is_of_sockets me n u.0 u.1)) (sym alike.conns) (unique_filter (is_of_sockets me n u.0 u.1) (is_conn_between me n) b.conns (t.meets.unique u)));
      linked = λ u conn link e r l. alike_fact (FactKind.LinkSuspended (receives_at u) link) ∙ t.meets.linked u conn link (sym (alike_conn u) ∙ e) r l;
    };
    held = λ u e g r s h. alike_fact (FactKind.LinkSuspended false e.link) ∙ t.held u e g (sym (alike_suspended u) ∙ r) s h;
    echoing = λ r. subst (λ (x : Bool). ecos w + bit x ≤ bit awaited) (sym (alike_fact (FactKind.Asks true))) (t.echoing (sym (alike_fact (FactKind.EchoesRest true)) ∙ r));
    came = λ u e g r h. by_came u e (t.came u e g r h);
    counted = counted_wider me n m w w b now alike_conn (λ host link z. alike_fact (FactKind.LinkSuspended host link) ∙ z) refl (alike_plain t.counted.plain)
        (admitted_wider me n w b now (λ bytes z. alike_fact (FactKind.Admits true bytes) ∙ z) t.counted.admitted) t.counted;
    owed = alike_owed m w t.owed;
  }
    where
      by_came : (u : Sockets) (e : Endpoint)
          → (suspended_of me n b u ≡ true) ⊎ ((if asks_in (about u (all_says w)) then is_marked me n (FactKind.LinkSuspended true e.link) b else has_come (conn_seen me n b u)) ≡ true)
          → (suspended_of me n now u ≡ true) ⊎ ((if asks_in (about u (all_says w)) then is_marked me n (FactKind.LinkSuspended true e.link) now else has_come (conn_seen me n now u)) ≡ true)
      by_came u e (inl r) = inl (alike_suspended u ∙ r)
      by_came u e (inr k) =
          inr
          (ap (λ (x : Bool). if asks_in (about u (all_says w)) then x else has_come (conn_seen me n now u)) (alike_fact (FactKind.LinkSuspended true e.link))
          ∙ ap (λ (o : Option ConnState). if asks_in (about u (all_says w)) then is_marked me n (FactKind.LinkSuspended true e.link) b else has_come o) (alike_conn u)
          ∙ k)

-- ---- an RRP is sent, or another command that concerns no connection and no link, and is no reply and no
-- ECO

pub silent_reports : (me n : ℕ) (c : Command) (m : Ends) (awaited : Bool) (w : List Command) (b : SeenTables) → says_of c ≡ [] → is_worded c ≡ false → item_of (sent_suspended me n b) (links_sent me n b) c ≡ [] → is_eco c ≡ false
    → Tells me n m awaited (c ∷ w) b → Tells me n m awaited w b
silent_reports me n c m awaited w b s j i k t = record {
  meets = same_conns me n m (c ∷ w) w b b refl (λ on link z. z) (sym none) t.meets;
  held = t.held;
  echoing = λ r. let h = t.echoing r in let z = ap bit k in omega (arith, h, z);
  came = subst (λ (x : List (Sockets × Say)). (u : Sockets) (e : Endpoint) → get m (pair_at u) ≡ Some e → receives (pair_at u) ≡ true → 0 < length e.stored
      → (suspended_of me n b u ≡ true) ⊎ ((if asks_in (about u x) then is_marked me n (FactKind.LinkSuspended true e.link) b else has_come (conn_seen me n b u)) ≡ true)) none t.came;
  counted = counted_wider me n m (c ∷ w) w b b (λ u. refl) (λ host link z. z) (ap (λ (x : Bool). if x then c ∷ filter is_worded w else filter is_worded w) (sym j)) t.counted.plain t.counted.admitted.1 t.counted;
  owed = owed_said me n m c w b i t.owed;
}
  where
    none : all_says (c ∷ w) ≡ all_says w
    none = ap (λ (x : List (Sockets × Say)). x ++ all_says w) s
