-- The replies of a host that are due are those that wait, after what the host says: requests and CLSs, ECO, ERP and ERR.
use Rattle.std.proofs.Common.{◌≡◌, ◌⊎◌, inl, inr, ℕ, Bool, true, false, not, if◌then◌else◌, List, [], ◌∷◌, Option, None, Some, eq-eqb, refl, sym, ap, ◌∙◌, subst}
use Rattle.std.specs.List.{filter, list_any}
use Rattle.std.proofs.Math.Bool.{beq}
use Rattle.ncp_wire.specs.declared.command.Command.{Command}
use Rattle.ncp_wire.specs.declared.command.Command.TheVariants.{Cls, Eco, Erp, Err}
use Rattle.ncp_model.specs.Ends.{Ends}
use Rattle.ncp_monitor.specs.declared.pending_reply.ExpectedReply.{ExpectedReply}
use Rattle.ncp_monitor.specs.declared.finding.Rule.{Rule}
use Rattle.ncp_interface.specs.declared.sent_message.SentMessage.{SentMessage}
use Rattle.ncp_monitor.specs.declared.conn_state.ConnState.{ConnState}
use Rattle.ncp_interface.specs.declared.request.Request.{Request}
use Rattle.ncp_interface.specs.declared.request.Request.TheVariants.{Link, Size}
use Rattle.ncp_monitor.specs.declared.conn_state.FactKind.{FactKind}
use Rattle.ncp_monitor.specs.declared.observed_flow.ObservedFlow.{ObservedFlow}
use Rattle.ncp_monitor.specs.declared.observed_flow.Acceptance.TheVariants.{Right, Unclear}
use Rattle.ncp_monitor.specs.ConnStates.{SeenTables, is_of_sockets, conn_of, index_with_sockets, is_marked, facts_now, facts_no_more, suspended_pair}
use Rattle.ncp_interface.specs.Sockets.{is_senders}
use Rattle.ncp_monitor.specs.Replies.{is_due_of, error_wanted, reply_rule, after_reply}
use Rattle.ncp_monitor.specs.Requests.{suspended_asked, asks, tables_after_request, closes_side, after_cls}
use Rattle.ncp_monitor.specs.Texts.{is_error_admitted}
use Rattle.ncp_monitor.specs.Speaking.{after_right_cls, after_eco, answers_echo, error_rule, after_error}
use Rattle.ncp_monitor.proofs.Shapes.{Leave, own_step}
use Rattle.ncp_monitor.proofs.LinkOrder.{Sockets}
use Rattle.ncp_monitor.proofs.Firsts.{Unique}
use Rattle.ncp_monitor.proofs.BooksAt.{has_sockets, conn_first}
use Rattle.ncp_monitor.proofs.Seeing.{seen, is_of, number_in}
use Rattle.ncp_proof_monitor_allocation.proofs.SeenTables.{conn_seen, seen_of, is_suspended, suspended_of, OneSeen, asked_seen, closed_seen}
use Rattle.ncp_proof_monitor_allocation.proofs.Users.{Linked, first_passes}
use Rattle.ncp_proof_monitor_allocation.proofs.Resting.{fact_room, due_room, pending_without}
use Rattle.ncp_proof_monitor_allocation.proofs.Replying.{links_stay}
use Rattle.ncp_proof_monitor_allocation.proofs.Plain.{Plain, OpenOn, returns_due}
use Rattle.ncp_proof_monitor_allocation.proofs.Words.{link_given}
use Rattle.ncp_proof_monitor_allocation.proofs.TextErrors.{is_text_error}
use Rattle.ncp_proof_monitor_replies.specs.Owed.{Gives, EndsOn, nothing_ended, IsReturnOf}
use Rattle.ncp_proof_monitor_replies.proofs.Owed.{no_ends, owed_same}
use Rattle.ncp_proof_monitor_replies.proofs.OwedItems.{ends_of, item_of, sent_suspended, links_sent, items_of, gone_of, OwedBy}
use Rattle.ncp_proof_monitor_replies.proofs.OwedSteps.{owed_stays, owed_owes, owed_fact, owed_said, owed_first, own_reply_right, own_reply_owed, owed_link_suspended, owed_pair_suspended, owed_own_ask, owed_own_leave, owed_own_end}
use Rattle.ncp_proof_monitor_replies.proofs.OwedMoves.{none_due}
use Rattle.ncp_proof_monitor_replies.proofs.AfterCls.{link_ended, right_cls_is, cls_stays}

module _ (me n : ℕ) where
  abbrev saying : ObservedFlow
  saying = record { at = me; peer = n; sent = true }

  -- ---- requests

  owed_asked : (m : Ends) (w : List Command) (p : Sockets) (request : Request) (b : SeenTables) → (suspended_asked saying request (suspended_pair me n p.0 p.1 b)).full ≡ false → OwedBy me n m w b → OwedBy me n m w (suspended_asked saying request (suspended_pair me n p.0 p.1 b))
  owed_asked m w p (Link link) b f o =
      owed_link_suspended me n m w (suspended_pair me n p.0 p.1 b) true link f (owed_pair_suspended me n m w p b (fact_room me n (FactKind.LinkSuspended true link) (suspended_pair me n p.0 p.1 b) f) o)
  owed_asked m w p (Size size) b f o = owed_pair_suspended me n m w p b f o

  -- its connection or its link is suspended
  pub owed_ask_unclear : (m : Ends) (c : Command) (w : List Command) (p : Sockets) (request : Request) (b : SeenTables) → item_of (sent_suspended me n b) (links_sent me n b) c ≡ []
      → (tables_after_request (record { at = me; peer = n; sent = true }) c p.0 p.1 request (Unclear None) b).full ≡ false → OwedBy me n m (c ∷ w) b → OwedBy me n m w (tables_after_request (record { at = me; peer = n; sent = true }) c p.0 p.1 request (Unclear None) b)
  owed_ask_unclear m c w p request b item f o =
      let mid = suspended_asked saying request (suspended_pair me n p.0 p.1 b) in
      owed_owes me n m w mid (error_wanted 3 3 c) false f
      (owed_asked m w p request b (due_room mid (record { at = me; peer = n; host = false; wanted = error_wanted 3 3 c; mandatory = false }) f) (owed_said me n m c w b item o))

  pub owed_ask_right : (m : Ends) (c : Command) (w : List Command) (p : Sockets) (request : Request) (b : SeenTables) → item_of (sent_suspended me n b) (links_sent me n b) c ≡ [] → is_of (is_senders p.0) true request ≡ true
      → (tables_after_request (record { at = me; peer = n; sent = true }) c p.0 p.1 request Right b).full ≡ false → OwedBy me n m (c ∷ w) b → OwedBy me n m w (tables_after_request (record { at = me; peer = n; sent = true }) c p.0 p.1 request Right b)
  owed_ask_right m c w p request b item sex f o =
      owed_own_ask me n m w b (asks saying p.0 p.1 request b (index_with_sockets me n p.0 p.1 b.conns)) p (number_in request) (asked_seen me n true p b request sex f) (owed_said me n m c w b item o)

  -- ---- CLSs

  link_of_conn : (b : SeenTables) (p : Sockets) (conn : ConnState) → conn_seen me n b p ≡ Some conn → is_senders p.0 ≡ true → links_sent me n b p ≡ conn.link
  link_of_conn b p conn e s =
      let local = (has_sockets me n p.0 p.1 conn (first_passes (is_of_sockets me n p.0 p.1) b.conns conn e)).local in
      ap (λ (o : Option ConnState). link_given true (seen o)) e ∙ ap (λ (x : Bool). if x then conn.link else conn.size) (ap is_senders local ∙ s)

  cls_item : (b : SeenTables) (my your : ℕ) (o : Option ℕ) → is_senders my ≡ true → links_sent me n b (my, your) ≡ o → item_of (sent_suspended me n b) (links_sent me n b) (Cls my your) ≡ ends_of o
  cls_item b my your o s l = ap (λ (x : Bool). if x then ends_of (links_sent me n b (my, your)) else []) s ∙ ap ends_of l

  no_item : (b : SeenTables) (my your : ℕ) → is_senders my ≡ false → item_of (sent_suspended me n b) (links_sent me n b) (Cls my your) ≡ []
  no_item b my your s = ap (λ (x : Bool). if x then ends_of (links_sent me n b (my, your)) else []) s

  -- the CLS of a suspended connection: its link is suspended too, and no RET is pending for it
  suspended_said : (m : Ends) (my your : ℕ) (w : List Command) (b : SeenTables) → Plain me n b → Linked me n b → suspended_of me n b (my, your) ≡ true → OwedBy me n m (Cls my your ∷ w) b → OwedBy me n m w b
  suspended_said m my your w b plain linked r o = go (is_senders my) refl
    where
      none : (link : ℕ) → is_senders my ≡ true → links_sent me n b (my, your) ≡ Some link → list_any (IsReturnOf (is_due_of me n true) link) b.pending_replies ≡ false
      none link s l = by_conn (conn_seen me n b (my, your)) refl r
        where
          by_conn : (x : Option ConnState) → conn_seen me n b (my, your) ≡ x → is_suspended x ≡ true → list_any (IsReturnOf (is_due_of me n true) link) b.pending_replies ≡ false
          by_conn None e r = absurd (cc r)
          by_conn (Some conn) e r = by_users (plain.users link)
            where
              given : conn.link ≡ Some link
              given = sym (link_of_conn b (my, your) conn e s) ∙ l

              marked : is_marked me n (FactKind.LinkSuspended false link) b ≡ true
              marked = ap (λ (x : Bool). is_marked me n (FactKind.LinkSuspended (not x) link) b) (sym s) ∙ linked (my, your) conn link e r given

              by_users : (returns_due me n true link b.pending_replies ≡ 0) ⊎ ((is_marked me n (FactKind.LinkSuspended false link) b ≡ false) × OpenOn me n b link) → list_any (IsReturnOf (is_due_of me n true) link) b.pending_replies ≡ false
              by_users (inl e) = none_due me n link b.pending_replies e
              by_users (inr (z, k)) = let nay : true ≡ false = sym marked ∙ z in absurd (cc nay)

      on : is_senders my ≡ true → (l : Option ℕ) → links_sent me n b (my, your) ≡ l → OwedBy me n m w b
      on s None l = owed_said me n m (Cls my your) w b (cls_item b my your None s l) o
      on s (Some link) l =
          owed_same (is_due_of me n true) (gone_of m) nothing_ended link (EndsOn link ∷ items_of me n b w) (items_of me n b w) b.pending_replies (none link s l)
          (ap (λ (x : Bool). if x then no_ends link (items_of me n b w) else EndsOn link ∷ no_ends link (items_of me n b w)) (eq-eqb link link refl))
          (owed_first me n m (Cls my your) w b (EndsOn link) (cls_item b my your (Some link) s l) o)

      go : (x : Bool) → is_senders my ≡ x → OwedBy me n m w b
      go false s = owed_said me n m (Cls my your) w b (no_item b my your s) o
      go true s = on s (links_sent me n b (my, your)) refl

  pub owed_leave_unclear : (m : Ends) (my your : ℕ) (w : List Command) (b : SeenTables) → Plain me n b → Linked me n b → suspended_of me n b (my, your) ≡ true
      → (after_cls (record { at = me; peer = n; sent = true }) (Cls my your) my your (Unclear None) b).full ≡ false → OwedBy me n m (Cls my your ∷ w) b → OwedBy me n m w (after_cls (record { at = me; peer = n; sent = true }) (Cls my your) my your (Unclear None) b)
  owed_leave_unclear m my your w b plain linked r f o =
      let mid = suspended_pair me n my your b in
      owed_owes me n m w mid (error_wanted 4 3 (Cls my your)) false f
      (owed_pair_suspended me n m w (my, your) b (due_room mid (record { at = me; peer = n; host = false; wanted = error_wanted 4 3 (Cls my your); mandatory = false }) f) (suspended_said m my your w b plain linked r o))

  -- ---- one that is right: no RET is due any more

  pub owed_leave_right : (m : Ends) (kept : List SentMessage) (my your : ℕ) (w : List Command) (b : SeenTables) → Unique (is_of_sockets me n my your) b.conns → OwedBy me n m (Cls my your ∷ w) b
      → OwedBy me n m w (after_right_cls (record { at = me; peer = n; sent = true }) kept (conn_of me n my your b.conns) Right (after_cls (record { at = me; peer = n; sent = true }) (Cls my your) my your Right b))
  owed_leave_right m kept my your w b unique o = go (conn_of me n my your b.conns) (sym (conn_first me n my your b.conns))
    where
      closed : SeenTables
      closed = closes_side saying b (index_with_sockets me n my your b.conns)

      one : OneSeen me n b closed (my, your) (own_step Leave (seen_of me n b (my, your)))
      one = closed_seen me n true (my, your) b unique

      over : Option ConnState → SeenTables
      over x = after_right_cls saying kept x Right closed

      -- no link is ended
      unlinked : (x : Option ConnState) → item_of (sent_suspended me n b) (links_sent me n b) (Cls my your) ≡ [] → (is_senders my ≡ true → links_sent me n b (my, your) ≡ None) → link_ended true x ≡ None → OwedBy me n m w (over x)
      unlinked x item l e =
          let k = right_cls_is me n kept true x closed in
          owed_stays me n m w closed (over x) (cls_stays me n true x closed (over x) k) (ap (filter (is_due_of me n true)) (sym (k.pending_replies ∙ ap (λ (v : Option ℕ). pending_without me n true v closed.pending_replies) e)))
          (owed_own_leave me n m w b closed (my, your) one l (owed_said me n m (Cls my your) w b item o))

      by_link : (x : Option ConnState) → is_senders my ≡ true → (l : Option ℕ) → links_sent me n b (my, your) ≡ l → link_ended true x ≡ l → OwedBy me n m w (over x)
      by_link x s None l e = unlinked x (cls_item b my your None s l) (λ z. l) e
      by_link x s (Some link) l e =
          let k = right_cls_is me n kept true x closed in
          owed_own_end me n m my your w b closed (over x) link one s l (cls_stays me n true x closed (over x) k) (k.pending_replies ∙ ap (λ (v : Option ℕ). pending_without me n true v closed.pending_replies) e) o

      go : (x : Option ConnState) → conn_seen me n b (my, your) ≡ x → OwedBy me n m w (over x)
      go None e = by_sex (is_senders my) refl
        where
          none : links_sent me n b (my, your) ≡ None
          none = ap (λ (y : Option ConnState). link_given true (seen y)) e

          by_sex : (y : Bool) → is_senders my ≡ y → OwedBy me n m w (over None)
          by_sex true s = unlinked None (cls_item b my your None s none) (λ z. none) refl
          by_sex false s = unlinked None (no_item b my your s) (λ z. none) refl
      go (Some conn) e = by_sex (is_senders my) refl
        where
          local : conn.local ≡ my
          local = (has_sockets me n my your conn (first_passes (is_of_sockets me n my your) b.conns conn e)).local

          by_sex : (y : Bool) → is_senders my ≡ y → OwedBy me n m w (over (Some conn))
          by_sex true s = by_link (Some conn) s conn.link (link_of_conn b (my, your) conn e s) (ap (λ (x : Bool). if beq x true then conn.link else None) (ap is_senders local ∙ s))
          by_sex false s = unlinked (Some conn) (no_item b my your s) (λ z. let nay : true ≡ false = sym z ∙ s in absurd (cc nay)) (ap (λ (x : Bool). if beq x true then conn.link else None) (ap is_senders local ∙ s))

  -- ---- ECO, ERP and ERR

  pub owed_eco : (m : Ends) (byte : ℕ) (w : List Command) (b : SeenTables) → (after_eco (record { at = me; peer = n; sent = true }) byte b).full ≡ false → OwedBy me n m (Eco byte ∷ w) b → OwedBy me n m w (after_eco (record { at = me; peer = n; sent = true }) byte b)
  owed_eco m byte w b f o =
      owed_owes me n m w (facts_now me n (FactKind.Asks true) b) (ExpectedReply.Echo byte) true f (owed_fact me n m w b (FactKind.Asks true) (λ link. refl) (owed_said me n m (Eco byte) w b refl o))

  -- of either side
  pub owed_answers : (m : Ends) (sent : Bool) (w : List Command) (b : SeenTables) → OwedBy me n m w b → OwedBy me n m w (answers_echo (record { at = me; peer = n; sent = sent }) b)
  owed_answers m sent w b o = go (is_marked me n (FactKind.Asks (not sent)) b)
    where
      go : (x : Bool) → OwedBy me n m w (if x then facts_no_more me n (FactKind.Asks (not sent)) b else facts_now me n (FactKind.EchoesRest (not sent)) b)
      go true = owed_stays me n m w b (facts_no_more me n (FactKind.Asks (not sent)) b) (record { suspended = λ link. links_stay me n (not sent) false link b; links = λ u s. refl }) refl o
      go false = owed_fact me n m w b (FactKind.EchoesRest (not sent)) (λ link. refl) o

  pub owed_erp : (m : Ends) (byte : ℕ) (w : List Command) (b : SeenTables) → OwedBy me n m (Erp byte ∷ w) b
      → OwedBy me n m w (answers_echo (record { at = me; peer = n; sent = true }) (after_reply (record { at = me; peer = n; sent = true }) (Erp byte) b))
  owed_erp m byte w b o = owed_answers m true w (after_reply saying (Erp byte) b) (own_reply_owed me n m (Erp byte) w b refl o)

  -- an ERR is admitted where it is about a text, and only there
  pub record ErrorGoes (m : Ends) (code : ℕ) (shown : List ℕ) (w : List Command) (b : SeenTables) : Type 0 where
    pub none : error_rule (record { at = me; peer = n; sent = true }) code shown b ≡ None
    pub owed : OwedBy me n m w (after_error (record { at = me; peer = n; sent = true }) code shown b)

  pub owed_error : (m : Ends) (code : ℕ) (shown : List ℕ) (w : List Command) (b : SeenTables) → is_error_admitted (record { at = me; peer = n; sent = true }) code shown b ≡ is_text_error (Err code shown)
      → OwedBy me n m (Err code shown ∷ w) b → ErrorGoes m code shown w b
  owed_error m code shown w b same o = go (is_text_error (Err code shown)) refl
    where
      go : (x : Bool) → is_text_error (Err code shown) ≡ x → ErrorGoes m code shown w b
      go true e = record {
        none = ap (λ (x : Bool). if x then None else reply_rule saying (Err code shown) (Rule.ErrUnjust code shown) b) (same ∙ e);
        owed = subst (λ (x : Bool). OwedBy me n m w (if x then b else after_reply saying (Err code shown) b)) (sym (same ∙ e)) (owed_said me n m (Err code shown) w b (ap (λ (x : Bool). if x then [] else Gives (Err code shown) ∷ []) e) o);
      }
      go false e =
          let item : item_of (sent_suspended me n b) (links_sent me n b) (Err code shown) ≡ Gives (Err code shown) ∷ [] = ap (λ (x : Bool). if x then [] else Gives (Err code shown) ∷ []) e in
          record {
            none = ap (λ (x : Bool). if x then None else reply_rule saying (Err code shown) (Rule.ErrUnjust code shown) b) (same ∙ e) ∙ own_reply_right me n m (Err code shown) w b (Rule.ErrUnjust code shown) item o;
            owed = subst (λ (x : Bool). OwedBy me n m w (if x then b else after_reply saying (Err code shown) b)) (sym (same ∙ e)) (own_reply_owed me n m (Err code shown) w b item o);
          }
