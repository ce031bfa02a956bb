-- The connection tables after a right CLS, besides its effect on its connection: no RET of a sender is
-- pending any longer for its link, and an unacknowledged text of the host may find no receiver.
use Rattle.std.proofs.Common.{◌≡◌, ℕ, Bool, true, false, not, ◌&&◌, if◌then◌else◌, List, Option, None, Some, refl, sym, ap, ◌∙◌}
use Rattle.std.specs.Prelude.{Result, Ok}
use Rattle.std.specs.List.{filter}
use Rattle.std.proofs.Math.Bool.{beq}
use Rattle.std.proofs.lemmas.Bool.{and_parts}
use Rattle.ncp_leader.specs.declared.fault.MessageFault.{MessageFault}
use Rattle.ncp_leader.specs.Message.{Message, message_in}
use Rattle.ncp_model.specs.Ends.{Ends}
use Rattle.ncp_wire.specs.declared.command.Command.{Command}
use Rattle.ncp_monitor.specs.declared.pending_reply.PendingReply.{PendingReply}
use Rattle.ncp_interface.specs.declared.sent_message.SentMessage.{SentMessage}
use Rattle.ncp_monitor.specs.declared.conn_state.ConnState.{ConnState}
use Rattle.ncp_monitor.specs.declared.conn_state.FactKind.{FactKind}
use Rattle.ncp_monitor.specs.declared.observed_flow.ObservedFlow.{ObservedFlow}
use Rattle.ncp_monitor.specs.declared.observed_flow.Acceptance.TheVariants.{Right}
use Rattle.ncp_interface.specs.Slots.{position_of, kept_at, is_slot_empty}
use Rattle.ncp_monitor.specs.ConnStates.{SeenTables, is_of_sockets, is_marked, is_return, is_return_on, returns_dropped}
use Rattle.ncp_interface.specs.Sockets.{is_senders}
use Rattle.ncp_monitor.specs.Replies.{is_due_of}
use Rattle.ncp_monitor.specs.Texts.{text_shown, speaker_of, admits_out, message_out_at}
use Rattle.ncp_monitor.specs.Speaking.{after_right_cls}
use Rattle.ncp_monitor.proofs.Firsts.{first}
use Rattle.ncp_monitor.proofs.Seeing.{seen}
use Rattle.ncp_proof_monitor_allocation.proofs.Echoing.{fact_other}
use Rattle.ncp_proof_monitor_allocation.proofs.Resting.{fact_conns, fact_pending, fact_keeps, pending_without}
use Rattle.ncp_proof_monitor_allocation.proofs.Words.{link_given}
use Rattle.ncp_proof_monitor_allocation.proofs.Meets.{Meets, same_conns}
use Rattle.ncp_proof_monitor_allocation.proofs.Filtered.{filter_others}
use Rattle.ncp_proof_monitor_replies.proofs.OwedItems.{OwedBy}
use Rattle.ncp_proof_monitor_replies.proofs.OwedSteps.{ItemsStay, theirs_distinct, owed_stays}

-- the link of a sender that sent it
abbrev pub link_ended : Bool → Option ConnState → Option ℕ
link_ended sent None = None
link_ended sent (Some conn) = if beq (is_senders conn.local) sent then conn.link else None

pub record RightCls (me n : ℕ) (sent : Bool) (conn : Option ConnState) (closed after : SeenTables) : Type 0 where
  pub conns : after.conns ≡ closed.conns
  pub known_facts : (on : Bool) (link : ℕ) → is_marked me n (FactKind.LinkSuspended on link) after ≡ is_marked me n (FactKind.LinkSuspended on link) closed
  pub echoes : (host : Bool) → is_marked me n (FactKind.EchoesRest host) after ≡ is_marked me n (FactKind.EchoesRest host) closed
  pub asks : (host : Bool) → is_marked me n (FactKind.Asks host) after ≡ is_marked me n (FactKind.Asks host) closed
  pub keeps : (what : FactKind) → is_marked me n what closed ≡ true → is_marked me n what after ≡ true
  pub pending_replies : after.pending_replies ≡ pending_without me n sent (link_ended sent conn) closed.pending_replies

module _ (me n : ℕ) (kept : List SentMessage) (sent : Bool) where
  abbrev flow : ObservedFlow
  flow = record { at = me; peer = n; sent = sent }

  -- an unacknowledged text
  record Marked (b after : SeenTables) : Type 0 where
    pub conns : after.conns ≡ b.conns
    pub known_facts : (on : Bool) (link : ℕ) → is_marked me n (FactKind.LinkSuspended on link) after ≡ is_marked me n (FactKind.LinkSuspended on link) b
    pub echoes : (host : Bool) → is_marked me n (FactKind.EchoesRest host) after ≡ is_marked me n (FactKind.EchoesRest host) b
    pub asks : (host : Bool) → is_marked me n (FactKind.Asks host) after ≡ is_marked me n (FactKind.Asks host) b
    pub keeps : (what : FactKind) → is_marked me n what b ≡ true → is_marked me n what after ≡ true
    pub pending_replies : after.pending_replies ≡ b.pending_replies

  unmarked : (b : SeenTables) → Marked b b
  unmarked b = record { conns = refl; known_facts = λ on link. refl; echoes = λ host. refl; asks = λ host. refl; keeps = λ what z. z; pending_replies = refl }

  out_marked : (o : Option ℕ) (b : SeenTables) → Marked b (message_out_at flow kept o b)
  out_marked None b = unmarked b
  out_marked (Some place) b = go (is_slot_empty (kept_at kept place).slot) (message_in (kept_at kept place).message)
    where
      go : (x : Bool) (r : Result Message MessageFault) → Marked b (if x then b else admits_out flow r b)
      go true r = unmarked b
      go false (Ok message) =
          let what : FactKind = FactKind.Admits (not sent) (text_shown (speaker_of flow) message) in
          record {
            conns = fact_conns me n what b;
            known_facts = λ on link. fact_other me n what (FactKind.LinkSuspended on link) b refl;
            echoes = λ host. fact_other me n what (FactKind.EchoesRest host) b refl;
            asks = λ host. fact_other me n what (FactKind.Asks host) b refl;
            keeps = λ other z. fact_keeps me n what b other z;
            pending_replies = fact_pending me n what b;
          }
      go false (Result.Err fault) = unmarked b

  pub right_cls_is : (conn : Option ConnState) (closed : SeenTables) → RightCls me n sent conn closed (after_right_cls (record { at = me; peer = n; sent = sent }) kept conn Right closed)
  right_cls_is None closed = record { conns = refl; known_facts = λ on link. refl; echoes = λ host. refl; asks = λ host. refl; keeps = λ what z. z; pending_replies = refl }
  right_cls_is (Some conn) closed = go (is_senders conn.local) conn.link refl refl
    where
      out : Option ℕ → SeenTables
      out None = closed
      out (Some link) = message_out_at flow kept (position_of me n link kept) closed

      drop_on : SeenTables → Option ℕ → SeenTables
      drop_on conn_tables None = conn_tables
      drop_on conn_tables (Some link) = returns_dropped me n sent link conn_tables

      left_out : Bool → Option ℕ → SeenTables
      left_out s l = if sent && s then out l else closed

      over : Bool → Option ℕ → SeenTables
      over s l = if beq s sent then drop_on (left_out s l) l else left_out s l

      marked : (s : Bool) (l : Option ℕ) → Marked closed (left_out s l)
      marked s l = by (sent && s) l
        where
          by : (x : Bool) (l : Option ℕ) → Marked closed (if x then out l else closed)
          by true None = unmarked closed
          by true (Some link) = out_marked (position_of me n link kept) closed
          by false l = unmarked closed

      go : (s : Bool) (l : Option ℕ) → is_senders conn.local ≡ s → conn.link ≡ l → RightCls me n sent (Some conn) closed (over s l)
      go s l e k = by (beq s sent) refl l k (marked s l)
        where
          ended : (x : Bool) → beq s sent ≡ x → link_ended sent (Some conn) ≡ (if x then conn.link else None)
          ended x y = ap (λ (z : Bool). if beq z sent then conn.link else None) e ∙ ap (λ (z : Bool). if z then conn.link else None) y

          by : (x : Bool) → beq s sent ≡ x → (l : Option ℕ) → conn.link ≡ l → Marked closed (left_out s l) → RightCls me n sent (Some conn) closed (if x then drop_on (left_out s l) l else left_out s l)
          by false y l k mk = record {
            conns = mk.conns;
            known_facts = mk.known_facts;
            echoes = mk.echoes;
            asks = mk.asks;
            keeps = mk.keeps;
            pending_replies = mk.pending_replies ∙ sym (ap (λ (v : Option ℕ). pending_without me n sent v closed.pending_replies) (ended false y));
          }
          by true y None k mk = record {
            conns = mk.conns;
            known_facts = mk.known_facts;
            echoes = mk.echoes;
            asks = mk.asks;
            keeps = mk.keeps;
            pending_replies = mk.pending_replies ∙ sym (ap (λ (v : Option ℕ). pending_without me n sent v closed.pending_replies) (ended true y ∙ k));
          }
          by true y (Some link) k mk = record {
            conns = mk.conns;
            known_facts = mk.known_facts;
            echoes = mk.echoes;
            asks = mk.asks;
            keeps = mk.keeps;
            pending_replies = ap (λ (ds : List PendingReply). pending_without me n sent (Some link) ds) mk.pending_replies ∙ sym (ap (λ (v : Option ℕ). pending_without me n sent v closed.pending_replies) (ended true y ∙ k));
          }

-- so what waits is the same, and what is seen of connections

pub cls_stays : (me n : ℕ) (sent : Bool) (conn : Option ConnState) (closed after : SeenTables) → RightCls me n sent conn closed after → ItemsStay me n closed after
cls_stays me n sent conn closed after k = record {
  suspended = k.known_facts false;
  links = λ u s. ap (λ (xs : List ConnState). link_given true (seen (first (is_of_sockets me n u.0 u.1) xs))) k.conns;
}

pub cls_meets_so : (me n : ℕ) (m : Ends) (w : List Command) (sent : Bool) (conn : Option ConnState) (closed after : SeenTables) → RightCls me n sent conn closed after → Meets me n m w closed → Meets me n m w after
cls_meets_so me n m w sent conn closed after k meets = same_conns me n m w w closed after k.conns (λ on link z. k.known_facts on link ∙ z) refl meets

-- the replies of the host, after a CLS of the other
pub their_cls_owed : (me n : ℕ) (m : Ends) (w : List Command) (conn : Option ConnState) (closed after : SeenTables) → RightCls me n false conn closed after → OwedBy me n m w closed → OwedBy me n m w after
their_cls_owed me n m w conn closed after k o =
    owed_stays me n m w closed after (cls_stays me n false conn closed after k) (sym (ap (filter (is_due_of me n true)) k.pending_replies ∙ theirs (link_ended false conn) closed.pending_replies)) o
  where
    theirs : (o : Option ℕ) (pending_replies : List PendingReply) → filter (is_due_of me n true) (pending_without me n false o pending_replies) ≡ filter (is_due_of me n true) pending_replies
    theirs None pending_replies = refl
    theirs (Some link) pending_replies =
        filter_others (is_due_of me n true) (is_return me n false link) pending_replies (λ due r. theirs_distinct me n due (and_parts (is_due_of me n false due) (is_return_on link due.wanted) r).0)
