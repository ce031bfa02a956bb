-- The pending replies of a host are the queued ones, through refused commands, and through unclear ones:
-- then the connection and the requested link are suspended.
use Rattle.std.proofs.Common.{◌≡◌, ◌⊎◌, inl, inr, ℕ, Bool, true, false, List, [], ◌∷◌, ◌++◌, Some, sym, ap, ◌∙◌, subst}
use Rattle.std.specs.FinMap.{get}
use Rattle.std.specs.List.{list_any}
use Rattle.ncp_wire.specs.declared.command.Command.{Command}
use Rattle.ncp_model.specs.declared.pair.Pair.{Pair}
use Rattle.ncp_model.specs.declared.outcomes.Heard.{Heard}
use Rattle.ncp_model.specs.Pairs.{sends}
use Rattle.ncp_model.specs.Effect.{Effect, answer, closing, end_after, made_by_hearing}
use Rattle.ncp_model.specs.Commands.{hear_rts, hear_str, hear_cls}
use Rattle.ncp_model.specs.Ends.{Ends, map_after}
use Rattle.ncp_model.specs.Demux.{passes}
use Rattle.ncp_model.specs.EndpointEvents.{EndpointEvent}
use Rattle.ncp_monitor.specs.declared.pending_reply.ExpectedReply.{ExpectedReply}
use Rattle.ncp_monitor.specs.declared.conn_state.FactKind.{FactKind}
use Rattle.ncp_monitor.specs.ConnStates.{SeenTables, link_suspended_now, suspended_pair}
use Rattle.ncp_monitor.specs.Replies.{is_due_of, owes}
use Rattle.ncp_monitor.proofs.Shapes.{others_of}
use Rattle.ncp_proof_monitor_allocation.proofs.KeptEnds.{kept}
use Rattle.ncp_proof_monitor_allocation.proofs.OwnMoves.{sockets_of}
use Rattle.ncp_proof_monitor_allocation.proofs.Resting.{link_suspended_pending, fact_room, due_room}
use Rattle.ncp_proof_monitor_allocation.proofs.RequestsCome.{one_end}
use Rattle.ncp_proof_monitor_allocation.proofs.EndsHear.{rts_heard, str_heard, cls_heard}
use Rattle.ncp_proof_monitor_replies.proofs.HostMakes.{HostMade, MakesNothing, MakesCls, MakesReply}
use Rattle.ncp_proof_monitor_replies.specs.Owed.{IsReturnOf}
use Rattle.ncp_proof_monitor_replies.proofs.OwedItems.{sent_suspended, links_sent, is_open_sender, OwedBy, none_after}
use Rattle.ncp_proof_monitor_replies.proofs.OwedSteps.{owed_closing, owed_moves, owed_link_suspended, owed_pair_suspended, none_returns, made_reply, unmade_reply}
use Rattle.ncp_proof_monitor_allocation.proofs.Plain.{is_ret_wanted}
use Rattle.ncp_proof_monitor_replies.proofs.OwedMoves.{still_going, sends_as_before}

module _ (me n : ℕ) where
  -- ---- what is refused: the ERR is made, and nothing else happens

  -- ---- the host makes nothing, its own CLS, or a reply that may be given

  pub owed_made : (m : Ends) (w : List Command) (mid : SeenTables) (pair : Pair) (act : Effect Heard) (wanted : ExpectedReply) → is_ret_wanted wanted ≡ false → HostMade wanted pair act
      → (owes (record { at = me; peer = n; sent = false }) wanted false mid).full ≡ false → OwedBy me n m w mid → OwedBy me n m (w ++ made_by_hearing (answer act)) (owes (record { at = me; peer = n; sent = false }) wanted false mid)
  owed_made m w mid pair act wanted r made room o = go made
    where
      after : SeenTables
      after = owes (record { at = me; peer = n; sent = false }) wanted false mid

      by_made : (u : List Command) → made_by_hearing (answer act) ≡ u → OwedBy me n m (w ++ u) after → OwedBy me n m (w ++ made_by_hearing (answer act)) after
      by_made u e = subst (λ (x : List Command). OwedBy me n m (w ++ x) after) (sym e)

      go : HostMade wanted pair act → OwedBy me n m (w ++ made_by_hearing (answer act)) after
      go (MakesNothing e) = by_made [] e (subst (λ (x : List Command). OwedBy me n m x after) (sym (none_after w)) (unmade_reply me n m w mid wanted room r o))
      go (MakesCls e) = by_made (closing pair ∷ []) e (unmade_reply me n m (w ++ closing pair ∷ []) mid wanted room r (owed_closing me n m w pair.local pair.remote mid o))
      go (MakesReply reply e fit) = by_made (reply ∷ []) e (made_reply me n m w mid wanted false reply room r fit.fits (fit.item (sent_suspended me n mid) (links_sent me n mid)) o)

  -- ---- what is unclear

  module _ (m : Ends) (w : List Command) (b : SeenTables) (pair : Pair) where
    -- an RTS: the connection is suspended, and the link
    pub owed_rts_unclear : (link by_peer : ℕ) (taken : Bool) (wanted : ExpectedReply) → is_ret_wanted wanted ≡ false → HostMade wanted pair (hear_rts pair link taken by_peer (get m pair))
        → (owes (record { at = me; peer = n; sent = false }) wanted false (link_suspended_now me n false link (suspended_pair me n pair.local pair.remote b))).full ≡ false → OwedBy me n m w b
        → OwedBy me n (map_after m pair (hear_rts pair link taken by_peer (get m pair))) (w ++ made_by_hearing (answer (hear_rts pair link taken by_peer (get m pair))))
        (owes (record { at = me; peer = n; sent = false }) wanted false (link_suspended_now me n false link (suspended_pair me n pair.local pair.remote b)))
    owed_rts_unclear link by_peer taken wanted r made room o =
        owed_made (map_after m pair act) w mid pair act wanted r made room
        (owed_moves me n m (map_after m pair act) pair (end_after (get m pair) act) w mid (one_end m pair act) there
        (owed_link_suspended me n m w before false link mid_room (owed_pair_suspended me n m w (sockets_of pair) b before_room o)))
      where
        act : Effect Heard
        act = hear_rts pair link taken by_peer (get m pair)

        before : SeenTables
        before = suspended_pair me n pair.local pair.remote b

        mid : SeenTables
        mid = link_suspended_now me n false link before

        mid_room : mid.full ≡ false
        mid_room = due_room mid (record { at = me; peer = n; host = true; wanted = wanted; mandatory = false }) room

        before_room : before.full ≡ false
        before_room = fact_room me n (FactKind.LinkSuspended false link) before mid_room

        none : list_any (IsReturnOf (is_due_of me n true) link) mid.pending_replies ≡ false
        none = ap (list_any (IsReturnOf (is_due_of me n true) link)) (link_suspended_pending me n false link before) ∙ none_returns me n link before.pending_replies

        there : (l : ℕ) → list_any (IsReturnOf (is_due_of me n true) l) mid.pending_replies ≡ true → passes (is_open_sender l) pair (end_after (get m pair) act) ≡ true → passes (is_open_sender l) pair (get m pair) ≡ true
        there l due k = sends_as_before pair (get m pair) (end_after (get m pair) act) l (still_going pair (EndpointEvent.Rts_comes link taken by_peer) (get m pair)) (λ s x. by (rts_heard pair link taken by_peer (get m pair) l s x)) k
          where
            by : (others_of (kept (sends pair) (get m pair)) ≡ Some l) ⊎ (link ≡ l) → others_of (kept (sends pair) (get m pair)) ≡ Some l
            by (inl e) = e
            by (inr e) = let nay : true ≡ false = sym due ∙ ap (λ (x : ℕ). list_any (IsReturnOf (is_due_of me n true) x) mid.pending_replies) (sym e) ∙ none in absurd (cc nay)

    -- an STR, or a CLS: the connection is suspended
    rested : (act : Effect Heard) (wanted : ExpectedReply) → is_ret_wanted wanted ≡ false → HostMade wanted pair act → ((l : ℕ) → passes (is_open_sender l) pair (end_after (get m pair) act) ≡ true → passes (is_open_sender l) pair (get m pair) ≡ true)
        → (owes (record { at = me; peer = n; sent = false }) wanted false (suspended_pair me n pair.local pair.remote b)).full ≡ false → OwedBy me n m w b
        → OwedBy me n (map_after m pair act) (w ++ made_by_hearing (answer act)) (owes (record { at = me; peer = n; sent = false }) wanted false (suspended_pair me n pair.local pair.remote b))
    rested act wanted r made there room o =
        let mid = suspended_pair me n pair.local pair.remote b in
        owed_made (map_after m pair act) w mid pair act wanted r made room
        (owed_moves me n m (map_after m pair act) pair (end_after (get m pair) act) w mid (one_end m pair act) (λ l due k. there l k)
        (owed_pair_suspended me n m w (sockets_of pair) b (due_room mid (record { at = me; peer = n; host = true; wanted = wanted; mandatory = false }) room) o))

    pub owed_str_unclear : (size by_peer : ℕ) (wanted : ExpectedReply) → is_ret_wanted wanted ≡ false → HostMade wanted pair (hear_str pair size by_peer (get m pair))
        → (owes (record { at = me; peer = n; sent = false }) wanted false (suspended_pair me n pair.local pair.remote b)).full ≡ false → OwedBy me n m w b
        → OwedBy me n (map_after m pair (hear_str pair size by_peer (get m pair))) (w ++ made_by_hearing (answer (hear_str pair size by_peer (get m pair))))
        (owes (record { at = me; peer = n; sent = false }) wanted false (suspended_pair me n pair.local pair.remote b))
    owed_str_unclear size by_peer wanted r made room o =
        rested (hear_str pair size by_peer (get m pair)) wanted r made
        (λ l k. sends_as_before pair (get m pair) (end_after (get m pair) (hear_str pair size by_peer (get m pair))) l (still_going pair (EndpointEvent.Str_comes size by_peer) (get m pair)) (λ s x. str_heard pair size by_peer (get m pair) l s x) k) room o

    pub owed_cls_unclear : (wanted : ExpectedReply) → is_ret_wanted wanted ≡ false → HostMade wanted pair (hear_cls pair (get m pair))
        → (owes (record { at = me; peer = n; sent = false }) wanted false (suspended_pair me n pair.local pair.remote b)).full ≡ false → OwedBy me n m w b
        → OwedBy me n (map_after m pair (hear_cls pair (get m pair))) (w ++ made_by_hearing (answer (hear_cls pair (get m pair))))
        (owes (record { at = me; peer = n; sent = false }) wanted false (suspended_pair me n pair.local pair.remote b))
    owed_cls_unclear wanted r made room o =
        rested (hear_cls pair (get m pair)) wanted r made
        (λ l k. sends_as_before pair (get m pair) (end_after (get m pair) (hear_cls pair (get m pair))) l (still_going pair EndpointEvent.Cls_comes (get m pair)) (λ s x. cls_heard pair (get m pair) (sends pair) l x) k) room o
