-- The replies of a host that are due are those that wait, through all that the host does by itself, and through the requests and
-- CLSs of the other: it sends on no link on which it did not send before, but for that of an RTS.
use Rattle.std.proofs.Common.{◌≡◌, ◌⊎◌, inl, inr, ℕ, ◌==◌, Bool, true, false, not, ◌&&◌, ◌||◌, if◌then◌else◌, List, [], ◌∷◌, ◌++◌, length, Option, None, Some, is_some, eq-eqb, refl, sym, ap, ◌∙◌, subst, arith}
use Rattle.std.specs.FinMap.{get}
use Rattle.std.specs.List.{filter, list_any, position}
use Rattle.std.proofs.lemmas.Bool.{and_parts, eqb-true}
use Rattle.ncp_wire.specs.declared.command.Command.{Command}
use Rattle.ncp_wire.specs.declared.command.Command.TheVariants.{Cls, Ret, Erp, Err}
use Rattle.ncp_model.specs.declared.pair.Pair.{Pair}
use Rattle.ncp_model.specs.Pairs.{sends}
use Rattle.ncp_model.specs.Endpoint.{Endpoint, or_new, is_closing}
use Rattle.ncp_model.specs.Effect.{end_after}
use Rattle.ncp_model.specs.Commands.{hear_rts, hear_str, hear_cls}
use Rattle.ncp_model.specs.Texts.{Rfnm, Incomplete, Dead}
use Rattle.ncp_model.specs.Ends.{Ends, map_after}
use Rattle.ncp_model.specs.EndpointEvents.{EndpointEvent, happens}
use Rattle.ncp_model.specs.Demux.{passes}
use Rattle.ncp_proof_endpoint.specs.Sound.{SoundAt}
use Rattle.ncp_monitor.specs.declared.pending_reply.PendingReply.{PendingReply}
use Rattle.ncp_monitor.specs.declared.conn_state.ConnState.{ConnState}
use Rattle.ncp_monitor.specs.declared.conn_state.FactKind.{FactKind}
use Rattle.ncp_monitor.specs.ConnStates.{SeenTables, is_of_sockets, has_link, conn_at_index, is_marked, is_return}
use Rattle.ncp_interface.specs.Sockets.{is_senders, is_number_given}
use Rattle.ncp_monitor.specs.Replies.{is_due_of}
use Rattle.ncp_monitor.proofs.Shapes.{Shape, Ask, Leave, their_step, others_of}
use Rattle.ncp_monitor.proofs.LinkOrder.{Sockets}
use Rattle.ncp_monitor.proofs.BooksAt.{HasSockets, has_sockets}
use Rattle.ncp_monitor.proofs.Seeing.{seen}
use Rattle.ncp_proof_monitor_allocation.proofs.KeptEnds.{kept, number_if}
use Rattle.ncp_proof_monitor_allocation.proofs.OwnMoves.{sockets_of, is_of_host, moves}
use Rattle.ncp_proof_monitor_allocation.proofs.Changed.{OneEnd}
use Rattle.ncp_proof_monitor_allocation.proofs.SeenTables.{conn_seen, seen_of, OneSeen}
use Rattle.ncp_proof_monitor_allocation.proofs.Users.{first_passes}
use Rattle.ncp_proof_monitor_allocation.proofs.TidyBooks.{Tidy}
use Rattle.ncp_proof_monitor_allocation.proofs.LinkPlaces.{UserAt, user_seen, none_has}
use Rattle.ncp_proof_monitor_allocation.proofs.Plain.{Plain, OpenOn, returns_due}
use Rattle.ncp_proof_monitor_allocation.proofs.Words.{link_given, is_open_on}
use Rattle.ncp_proof_monitor_allocation.proofs.RequestsCome.{one_end}
use Rattle.ncp_proof_monitor_allocation.proofs.HeldLinks.{moved_others}
use Rattle.ncp_proof_monitor_allocation.proofs.EndsHear.{rts_heard, str_heard, cls_heard}
use Rattle.ncp_proof_monitor_allocation.proofs.CallsCounted.{is_call}
use Rattle.ncp_proof_monitor_replies.specs.Owed.{IsReturnOf}
use Rattle.ncp_proof_monitor_replies.proofs.OwedItems.{links_sent, is_open_sender, OwedBy, joined, none_after}
use Rattle.ncp_proof_monitor_replies.proofs.OwedSteps.{owed_more, owed_closing, owed_moves, owed_link, owed_size, owed_their_leave}

-- ---- an end that is not on its way out was not

abbrev pub StillGoing : Option Endpoint → Bool → Type 0
StillGoing None before = Unit {0}
StillGoing (Some e) before = is_closing e ≡ false → before ≡ false

new_going : (o : Option Endpoint) → StillGoing o false
new_going None = tt
new_going (Some e) = λ _. refl

pub still_going : (pair : Pair) (what : EndpointEvent) (before : Option Endpoint) → StillGoing (happens pair what before).after (is_closing (or_new before))
still_going pair what None = new_going (happens pair what None).after
still_going pair (EndpointEvent.Is_answered Rfnm) (Some e) = grind arith
still_going pair (EndpointEvent.Is_answered Incomplete) (Some e) = λ g. g
still_going pair (EndpointEvent.Is_answered Dead) (Some e) = λ g. g
still_going pair what (Some e) = grind arith

-- ---- it sends on a link on which it sent before

unsaid : (b : Bool) → not b ≡ true → b ≡ false
unsaid true e = absurd (cc e)
unsaid false e = refl

pub sends_as_before : (pair : Pair) (before after : Option Endpoint) (link : ℕ) → StillGoing after (is_closing (or_new before)) → (sends pair ≡ true → others_of (kept (sends pair) after) ≡ Some link → others_of (kept (sends pair) before) ≡ Some link)
    → passes (is_open_sender link) pair after ≡ true → passes (is_open_sender link) pair before ≡ true
sends_as_before pair before None link g h k = absurd (cc k)
sends_as_before pair before (Some e) link g h k =
    let outer = and_parts (sends pair && e.heard && e.link == link) (not (is_closing e)) k in
    let mid = and_parts (sends pair && e.heard) (e.link == link) outer.0 in
    let inner = and_parts (sends pair) e.heard mid.0 in
    go before (g (unsaid (is_closing e) outer.1)) inner.0 (h inner.0
    (ap (λ (x : Bool). others_of (kept x (Some e))) inner.0 ∙ ap (λ (x : Bool). number_if x e.link) inner.1 ∙ ap (λ (x : ℕ). Some x) (eqb-true e.link link mid.1)))
  where
    go : (o : Option Endpoint) → is_closing (or_new o) ≡ false → sends pair ≡ true → others_of (kept (sends pair) o) ≡ Some link → passes (is_open_sender link) pair o ≡ true
    go None g s k = absurd (cc k)
    go (Some x) g s k = by x.heard refl (sym (ap (λ (y : Bool). others_of (kept y (Some x))) s) ∙ k)
      where
        by : (y : Bool) → x.heard ≡ y → number_if y x.link ≡ Some link → passes (is_open_sender link) pair (Some x) ≡ true
        by false e n = absurd (cc n)
        by true e n =
            let is : x.link ≡ link = cc n in
            ap (λ (y : Bool). y && x.heard && x.link == link && not (is_closing x)) s
            ∙ ap (λ (y : Bool). y && x.link == link && not (is_closing x)) e
            ∙ ap (λ (y : ℕ). y == link && not (is_closing x)) is
            ∙ ap (λ (y : Bool). y && not (is_closing x)) (eq-eqb link link refl)
            ∙ ap not g

-- by what it does itself
pub host_sends : (pair : Pair) (what : EndpointEvent) (before : Option Endpoint) (link : ℕ) → is_of_host what ≡ true → SoundAt pair before → passes (is_open_sender link) pair (happens pair what before).after ≡ true → passes (is_open_sender link) pair before ≡ true
host_sends pair what before link h sound =
    sends_as_before pair before (happens pair what before).after link (still_going pair what before)
    (λ s o. moved_others (sends pair) pair before (happens pair what before).after (happens pair what before).made link (moves pair what before h sound) o)

-- ---- what it makes by a call is no reply

abbrev pub is_any_reply : Command → Bool
is_any_reply (Erp byte) = true
is_any_reply (Err code shown) = true
is_any_reply (Ret link messages bits) = true
is_any_reply c = false

abbrev pub has_reply : List Command → Bool
has_reply [] = false
has_reply (c ∷ cs) = is_any_reply c || has_reply cs

pub none_replied : (pair : Pair) (what : EndpointEvent) (before : Option Endpoint) → is_call what ≡ true → has_reply (happens pair what before).made ≡ false
none_replied pair (EndpointEvent.Asks_to_send of_size with_room own full) before h = grind arith
none_replied pair (EndpointEvent.Asks_to_receive with_room on own full) before h = grind arith
none_replied pair (EndpointEvent.Closes full) None h = refl
none_replied pair (EndpointEvent.Closes full) (Some e) h = grind arith
none_replied pair (EndpointEvent.Gives text) before h = refl
none_replied pair (EndpointEvent.Takes bytes) None h = refl
none_replied pair (EndpointEvent.Takes bytes) (Some e) h = grind arith
none_replied pair (EndpointEvent.Allocates m b full) None h = refl
none_replied pair (EndpointEvent.Allocates m b full) (Some e) h = grind arith
none_replied pair (EndpointEvent.Calls_back m b full) None h = refl
none_replied pair (EndpointEvent.Calls_back m b full) (Some e) h = grind arith
none_replied pair (EndpointEvent.Interrupts full) None h = refl
none_replied pair (EndpointEvent.Interrupts full) (Some e) h = grind arith
none_replied pair (EndpointEvent.Is_answered Rfnm) None h = refl
none_replied pair (EndpointEvent.Is_answered Rfnm) (Some e) h = grind arith
none_replied pair (EndpointEvent.Is_answered Incomplete) before h = refl
none_replied pair (EndpointEvent.Is_answered Dead) before h = refl
none_replied pair what before h = absurd (cc h)

module _ (me n : ℕ) where
  -- commands that are no replies, such as CLSs, are queued after the others
  pub owed_unreplied : (m : Ends) (w u : List Command) (b : SeenTables) → has_reply u ≡ false → OwedBy me n m w b → OwedBy me n m (w ++ u) b
  owed_unreplied m w [] b e o = subst (λ (x : List Command). OwedBy me n m x b) (sym (none_after w)) o
  owed_unreplied m w (c ∷ u) b e o =
      subst (λ (x : List Command). OwedBy me n m x b) (joined w (c ∷ []) u) (owed_unreplied m (w ++ c ∷ []) u b (later c e) (one c e))
    where
      later : (c : Command) → (is_any_reply c || has_reply u) ≡ false → has_reply u ≡ false
      later c e = by (is_any_reply c) e
        where
          by : (x : Bool) → (x || has_reply u) ≡ false → has_reply u ≡ false
          by true e = absurd (cc e)
          by false e = e

      one : (c : Command) → (is_any_reply c || has_reply u) ≡ false → OwedBy me n m (w ++ c ∷ []) b
      one (Cls my your) e = owed_closing me n m w my your b o
      one (Erp byte) e = absurd (cc e)
      one (Err code shown) e = absurd (cc e)
      one (Ret link messages bits) e = absurd (cc e)
      one c e = owed_more me n m w (c ∷ []) b refl o

  -- a call, or an answer to a text
  pub owed_call : (m now : Ends) (pair : Pair) (what : EndpointEvent) (w : List Command) (b : SeenTables) → OneEnd m now pair (happens pair what (get m pair)).after → is_call what ≡ true → is_of_host what ≡ true → SoundAt pair (get m pair)
      → OwedBy me n m w b → OwedBy me n now (w ++ (happens pair what (get m pair)).made) b
  owed_call m now pair what w b one call host sound o =
      owed_unreplied now w (happens pair what (get m pair)).made b (none_replied pair what (get m pair) call)
      (owed_moves me n m now pair (happens pair what (get m pair)).after w b one (λ link any. host_sends pair what (get m pair) link host sound) o)

  -- ---- for which links RETs are due

  pub none_due : (link : ℕ) (pending_replies : List PendingReply) → returns_due me n true link pending_replies ≡ 0 → list_any (IsReturnOf (is_due_of me n true) link) pending_replies ≡ false
  none_due link [] e = refl
  none_due link (due ∷ pending_replies) e = go (is_return me n true link due) refl e (none_due link pending_replies)
    where
      go : (x : Bool) → is_return me n true link due ≡ x → length (if x then due ∷ filter (is_return me n true link) pending_replies else filter (is_return me n true link) pending_replies) ≡ 0
          → (returns_due me n true link pending_replies ≡ 0 → list_any (IsReturnOf (is_due_of me n true) link) pending_replies ≡ false) → (is_return me n true link due || list_any (IsReturnOf (is_due_of me n true) link) pending_replies) ≡ false
      go true k e later = absurd (cc e)
      go false k e later = ap (λ (x : Bool). x || list_any (IsReturnOf (is_due_of me n true) link) pending_replies) k ∙ later e

  -- the life of who sends on a link
  conn_there : (b : SeenTables) (u : Sockets) (link : ℕ) → is_senders u.0 ≡ true → link_given true (seen_of me n b u) ≡ Some link → (conn : ConnState) × ((conn_seen me n b u ≡ Some conn) × (conn.link ≡ Some link))
  conn_there b u link s g = go (conn_seen me n b u) refl g
    where
      go : (o : Option ConnState) → conn_seen me n b u ≡ o → link_given true (seen o) ≡ Some link → (conn : ConnState) × ((conn_seen me n b u ≡ Some conn) × (conn.link ≡ Some link))
      go None e g = absurd (cc g)
      go (Some conn) e g =
          let is = has_sockets me n u.0 u.1 conn (first_passes (is_of_sockets me n u.0 u.1) b.conns conn e) in
          (conn, (e, sym (ap (λ (x : Bool). if x then conn.link else conn.size) (ap is_senders is.local ∙ s)) ∙ g))

  open_given : (link : ℕ) (x : Option Shape) → is_open_on true link x ≡ true → link_given true x ≡ Some link
  open_given link None e = absurd (cc e)
  open_given link (Some s) e = by s.others (and_parts (is_some s.own && is_some s.others && not s.left) (is_number_given s.others link) e).1
    where
      by : (o : Option ℕ) → is_number_given o link ≡ true → o ≡ Some link
      by None e = absurd (cc e)
      by (Some given) e = ap (λ (x : ℕ). Some x) (eqb-true given link e)

  -- a link that nobody has
  pub none_unused : (b : SeenTables) (link : ℕ) → Plain me n b → Tidy b → position (has_link me n false link) b.conns ≡ None → list_any (IsReturnOf (is_due_of me n true) link) b.pending_replies ≡ false
  none_unused b link plain tidy free = go (plain.users link)
    where
      go : (returns_due me n true link b.pending_replies ≡ 0) ⊎ ((is_marked me n (FactKind.LinkSuspended false link) b ≡ false) × OpenOn me n b link) → list_any (IsReturnOf (is_due_of me n true) link) b.pending_replies ≡ false
      go (inl e) = none_due link b.pending_replies e
      go (inr (z, k)) =
          let conn = conn_there b k.u link k.sends (open_given link (seen_of me n b k.u) k.is) in
          absurd (none_has me n false link b tidy free k.u conn.0 conn.1.0 (ap not k.sends) conn.1.1)

  -- that of one that the host has left
  pub none_left : (b : SeenTables) (p : Sockets) (s : Shape) (link : ℕ) → Plain me n b → Tidy b → is_senders p.0 ≡ true → seen_of me n b p ≡ Some s → s.left ≡ true → links_sent me n b p ≡ Some link → list_any (IsReturnOf (is_due_of me n true) link) b.pending_replies ≡ false
  none_left b p s link plain tidy sender is left given = go (plain.users link)
    where
      user : (u : Sockets) → is_senders u.0 ≡ true → links_sent me n b u ≡ Some link → UserAt me n false link b u
      user u z g = let conn = conn_there b u link z g in user_seen me n false link b tidy u conn.0 conn.1.0 (ap not z) conn.1.1

      alike : (u : Sockets) → UserAt me n false link b u → UserAt me n false link b p → u ≡ p
      alike u x y =
          let place : x.place ≡ y.place = cc (sym x.found ∙ y.found) in
          let at = subst (λ (i : ℕ). HasSockets me n u.0 u.1 (conn_at_index b.conns i)) place x.sockets in
          both u p (sym at.local ∙ y.sockets.local) (sym at.remote ∙ y.sockets.remote)
        where
          both : (u v : Sockets) → u.0 ≡ v.0 → u.1 ≡ v.1 → u ≡ v
          both (a, b) (c, d) e f = ap (λ (x : ℕ). (x, b)) e ∙ ap (λ (x : ℕ). (c, x)) f

      unleft : (x : Option Shape) → is_open_on true link x ≡ true → (t : Shape) → x ≡ Some t → t.left ≡ false
      unleft None e t k = absurd (cc e)
      unleft (Some y) e t k =
          let is_it : y ≡ t = cc k in
          let parts = and_parts (is_some y.own && is_some y.others && not y.left) (is_number_given y.others link) e in
          ap (λ (z : Shape). z.left) (sym is_it) ∙ unsaid y.left (and_parts (is_some y.own && is_some y.others) (not y.left) parts.0).1

      go : (returns_due me n true link b.pending_replies ≡ 0) ⊎ ((is_marked me n (FactKind.LinkSuspended false link) b ≡ false) × OpenOn me n b link) → list_any (IsReturnOf (is_due_of me n true) link) b.pending_replies ≡ false
      go (inl e) = none_due link b.pending_replies e
      go (inr (z, k)) =
          let at = alike k.u (user k.u k.sends (open_given link (seen_of me n b k.u) k.is)) (user p sender given) in
          let nay : true ≡ false = sym left ∙ unleft (seen_of me n b k.u) k.is s (ap (seen_of me n b) at ∙ is) in absurd (cc nay)

  -- ---- requests and CLSs of the other that are right

  module _ (m : Ends) (w : List Command) (b : SeenTables) where
    pub owed_rts : (pair : Pair) (link by_peer : ℕ) (taken : Bool) (after : SeenTables) → Plain me n b → Tidy b → position (has_link me n false link) b.conns ≡ None
        → OneSeen me n b after (sockets_of pair) (their_step (Ask link) (seen_of me n b (sockets_of pair))) → links_sent me n b (sockets_of pair) ≡ None
        → OwedBy me n m w b → OwedBy me n (map_after m pair (hear_rts pair link taken by_peer (get m pair))) w after
    owed_rts pair link by_peer taken after plain tidy free one before o =
        owed_link me n (map_after m pair (hear_rts pair link taken by_peer (get m pair))) w b after (sockets_of pair) link one (none_unused b link plain tidy free) before
        (owed_moves me n m (map_after m pair (hear_rts pair link taken by_peer (get m pair))) pair (end_after (get m pair) (hear_rts pair link taken by_peer (get m pair))) w b (one_end m pair (hear_rts pair link taken by_peer (get m pair))) there o)
      where
        there : (l : ℕ) → list_any (IsReturnOf (is_due_of me n true) l) b.pending_replies ≡ true → passes (is_open_sender l) pair (end_after (get m pair) (hear_rts pair link taken by_peer (get m pair))) ≡ true → passes (is_open_sender l) pair (get m pair) ≡ true
        there l due k =
            sends_as_before pair (get m pair) (end_after (get m pair) (hear_rts pair link taken by_peer (get m pair))) l (still_going pair (EndpointEvent.Rts_comes link taken by_peer) (get m pair)) (λ s x. by (rts_heard pair link taken by_peer (get m pair) l s x)) k
          where
            by : (others_of (kept (sends pair) (get m pair)) ≡ Some l) ⊎ (link ≡ l) → others_of (kept (sends pair) (get m pair)) ≡ Some l
            by (inl e) = e
            by (inr e) = let nay : true ≡ false = sym due ∙ ap (λ (x : ℕ). list_any (IsReturnOf (is_due_of me n true) x) b.pending_replies) (sym e) ∙ none_unused b link plain tidy free in absurd (cc nay)

    str_moves : (pair : Pair) (size by_peer : ℕ) → OwedBy me n m w b → OwedBy me n (map_after m pair (hear_str pair size by_peer (get m pair))) w b
    str_moves pair size by_peer o =
        owed_moves me n m (map_after m pair (hear_str pair size by_peer (get m pair))) pair (end_after (get m pair) (hear_str pair size by_peer (get m pair))) w b (one_end m pair (hear_str pair size by_peer (get m pair)))
        (λ l any. sends_as_before pair (get m pair) (end_after (get m pair) (hear_str pair size by_peer (get m pair))) l (still_going pair (EndpointEvent.Str_comes size by_peer) (get m pair)) (λ s x. str_heard pair size by_peer (get m pair) l s x)) o

    pub owed_str : (pair : Pair) (size by_peer : ℕ) (after : SeenTables) (s : Option Shape) → is_senders pair.local ≡ false → OneSeen me n b after (sockets_of pair) s → OwedBy me n m w b → OwedBy me n (map_after m pair (hear_str pair size by_peer (get m pair))) w after
    owed_str pair size by_peer after s r one o = owed_size me n (map_after m pair (hear_str pair size by_peer (get m pair))) w b after (sockets_of pair) s one r (str_moves pair size by_peer o)

    cls_moves : (pair : Pair) → OwedBy me n m w b → OwedBy me n (map_after m pair (hear_cls pair (get m pair))) w b
    cls_moves pair o =
        owed_moves me n m (map_after m pair (hear_cls pair (get m pair))) pair (end_after (get m pair) (hear_cls pair (get m pair))) w b (one_end m pair (hear_cls pair (get m pair)))
        (λ l any. sends_as_before pair (get m pair) (end_after (get m pair) (hear_cls pair (get m pair))) l (still_going pair EndpointEvent.Cls_comes (get m pair)) (λ s x. cls_heard pair (get m pair) (sends pair) l x)) o

    -- and the host makes at most its own CLS
    pub owed_cls : (pair : Pair) (after : SeenTables) (made : List Command) → has_reply made ≡ false → Plain me n b → Tidy b → OneSeen me n b after (sockets_of pair) (their_step Leave (seen_of me n b (sockets_of pair)))
        → OwedBy me n m w b → OwedBy me n (map_after m pair (hear_cls pair (get m pair))) (w ++ made) after
    owed_cls pair after made unreplied plain tidy one o =
        owed_unreplied (map_after m pair (hear_cls pair (get m pair))) w made after unreplied
        (owed_their_leave me n (map_after m pair (hear_cls pair (get m pair))) w b after (sockets_of pair) one none (cls_moves pair o))
      where
        none : (link : ℕ) → is_senders pair.local ≡ true → links_sent me n b (sockets_of pair) ≡ Some link → link_given true (their_step Leave (seen_of me n b (sockets_of pair))) ≡ None → list_any (IsReturnOf (is_due_of me n true) link) b.pending_replies ≡ false
        none link s given over = go (seen_of me n b (sockets_of pair)) refl given over
          where
            go : (x : Option Shape) → seen_of me n b (sockets_of pair) ≡ x → link_given true x ≡ Some link → link_given true (their_step Leave x) ≡ None → list_any (IsReturnOf (is_due_of me n true) link) b.pending_replies ≡ false
            go None e g v = absurd (cc g)
            go (Some t) e g v = by t.left refl v
              where
                by : (l : Bool) → t.left ≡ l → link_given true (if l then None else Some (record t { cls = true })) ≡ None → list_any (IsReturnOf (is_due_of me n true) link) b.pending_replies ≡ false
                by true l v = none_left b (sockets_of pair) t link plain tidy s e l given
                by false l v = let nay : None ≡ Some link = sym v ∙ g in absurd (cc nay)
