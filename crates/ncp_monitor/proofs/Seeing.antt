-- A connection that is seen, as a shape: what a request or a CLS of either side is to it, and what it leaves.
use Rattle.std.proofs.Common.{◌≡◌, ℕ, Bool, true, false, not, ◌&&◌, if◌then◌else◌, Option, None, Some, is_some, refl, sym, ap, ◌∙◌}
use Rattle.std.proofs.lemmas.Bool.{and_parts}
use Rattle.ncp_wire.specs.declared.command.Command.{Command}
use Rattle.ncp_monitor.specs.declared.finding.Rule.TheVariants as rule
use Rattle.ncp_monitor.specs.declared.conn_state.ConnState.{ConnState}
use Rattle.ncp_interface.specs.declared.request.Request.{Request}
use Rattle.ncp_interface.specs.declared.request.Request.TheVariants.{Link, Size}
use Rattle.ncp_monitor.specs.declared.observed_flow.ObservedFlow.{ObservedFlow}
use Rattle.ncp_monitor.specs.declared.observed_flow.Acceptance.TheVariants.{Right, Refused, Unclear}
use Rattle.ncp_monitor.specs.ConnStates.{SeenTables, has_sent_cls, has_sent_request, with_request_sent}
use Rattle.ncp_interface.specs.Sockets.{is_senders}
use Rattle.ncp_monitor.specs.Requests.{link_acceptance, conn_acceptance, left_acceptance}
use Rattle.ncp_monitor.proofs.Shapes.{Shape, Ask, Leave, legal, own_step, their_legal, their_step}
use Rattle.ncp_monitor.proofs.BooksAt.{after_left}

-- a receiver asks with a link, a sender with a size
abbrev pub of_conn : ConnState → Shape
of_conn conn = record {
  own = if is_senders conn.local then conn.size else conn.link;
  others = if is_senders conn.local then conn.link else conn.size;
  left = conn.host_left;
  cls = conn.peer_left;
}

abbrev pub seen : Option ConnState → Option Shape
seen None = None
seen (Some conn) = Some (of_conn conn)

-- whose request it is, of which socket: that of the host, by whether it is a sender's, or that of the other
abbrev pub is_of : Bool → Bool → Request → Bool
is_of sending sent (Link link) = if sent then not sending else sending
is_of sending sent (Size size) = if sent then sending else not sending

abbrev pub number_in : Request → ℕ
number_in (Link link) = link
number_in (Size size) = size

-- ---- a request of the host

own_number : (conn : ConnState) (request : Request) → is_of (is_senders conn.local) true request ≡ true → has_sent_request conn request ≡ is_some (of_conn conn).own
own_number conn (Link link) k = go (is_senders conn.local) k
  where
    go : (b : Bool) → not b ≡ true → is_some conn.link ≡ is_some (if b then conn.size else conn.link)
    go true k = absurd (cc k)
    go false k = refl
own_number conn (Size size) k = ap (λ (b : Bool). is_some (if b then conn.size else conn.link)) (sym k)

pub own_right : (flow : ObservedFlow) (c : Command) (request : Request) (conn_tables : SeenTables) (conn : ConnState) → flow.sent ≡ true → is_of (is_senders conn.local) true request ≡ true → conn.suspended ≡ false
    → legal (Ask (number_in request)) (Some (of_conn conn)) ≡ true → conn_acceptance flow c request conn_tables (Some conn) ≡ link_acceptance flow c request conn_tables
own_right flow c request conn_tables conn s k r l =
    let parts = and_parts (not (is_some (of_conn conn).own)) (not conn.host_left) l in
    ap (λ (b : Bool). if b then Unclear None else if has_sent_cls conn flow.sent then Unclear (Some (rule.Unended c conn.since)) else if has_sent_request conn request then Refused (rule.AskedAgain c conn.since) else link_acceptance flow c request conn_tables) r
    ∙ ap (λ (b : Bool). if (if b then conn.host_left else conn.peer_left) then Unclear (Some (rule.Unended c conn.since)) else if has_sent_request conn request then Refused (rule.AskedAgain c conn.since) else link_acceptance flow c request conn_tables) s
    ∙ ap (λ (b : Bool). if b then Unclear (Some (rule.Unended c conn.since)) else if has_sent_request conn request then Refused (rule.AskedAgain c conn.since) else link_acceptance flow c request conn_tables) (isnt conn.host_left parts.1)
    ∙ ap (λ (b : Bool). if b then Refused (rule.AskedAgain c conn.since) else link_acceptance flow c request conn_tables) (own_number conn request k ∙ isnt (is_some (of_conn conn).own) parts.0)
  where
    isnt : (b : Bool) → not b ≡ true → b ≡ false
    isnt true e = absurd (cc e)
    isnt false e = refl

pub own_asked : (conn : ConnState) (request : Request) → is_of (is_senders conn.local) true request ≡ true → Some (of_conn (with_request_sent conn request)) ≡ own_step (Ask (number_in request)) (Some (of_conn conn))
own_asked conn (Link link) k = go (is_senders conn.local) k
  where
    go : (b : Bool) → not b ≡ true
        → ◌≡◌ {A = Option Shape} (Some (record { own = if b then conn.size else Some link; others = if b then Some link else conn.size; left = conn.host_left; cls = conn.peer_left }))
        (Some (record { own = Some link; others = if b then conn.link else conn.size; left = conn.host_left; cls = conn.peer_left }))
    go true k = absurd (cc k)
    go false k = refl
own_asked conn (Size size) k = go (is_senders conn.local) k
  where
    go : (b : Bool) → b ≡ true
        → ◌≡◌ {A = Option Shape} (Some (record { own = if b then Some size else conn.link; others = if b then conn.link else Some size; left = conn.host_left; cls = conn.peer_left }))
        (Some (record { own = Some size; others = if b then conn.link else conn.size; left = conn.host_left; cls = conn.peer_left }))
    go true k = refl
    go false k = absurd (cc k)

-- ---- a request of the other

their_number : (conn : ConnState) (request : Request) → is_of (is_senders conn.local) false request ≡ true → has_sent_request conn request ≡ is_some (of_conn conn).others
their_number conn (Link link) k = ap (λ (b : Bool). is_some (if b then conn.link else conn.size)) (sym k)
their_number conn (Size size) k = go (is_senders conn.local) k
  where
    go : (b : Bool) → not b ≡ true → is_some conn.size ≡ is_some (if b then conn.link else conn.size)
    go true k = absurd (cc k)
    go false k = refl

pub their_asked : (conn : ConnState) (request : Request) → is_of (is_senders conn.local) false request ≡ true → Some (of_conn (with_request_sent conn request)) ≡ their_step (Ask (number_in request)) (Some (of_conn conn))
their_asked conn (Link link) k = go (is_senders conn.local) k
  where
    go : (b : Bool) → b ≡ true
        → ◌≡◌ {A = Option Shape} (Some (record { own = if b then conn.size else Some link; others = if b then Some link else conn.size; left = conn.host_left; cls = conn.peer_left }))
        (Some (record { own = if b then conn.size else conn.link; others = Some link; left = conn.host_left; cls = conn.peer_left }))
    go true k = refl
    go false k = absurd (cc k)
their_asked conn (Size size) k = go (is_senders conn.local) k
  where
    go : (b : Bool) → not b ≡ true
        → ◌≡◌ {A = Option Shape} (Some (record { own = if b then Some size else conn.link; others = if b then conn.link else Some size; left = conn.host_left; cls = conn.peer_left }))
        (Some (record { own = if b then conn.size else conn.link; others = Some size; left = conn.host_left; cls = conn.peer_left }))
    go true k = absurd (cc k)
    go false k = refl

-- where it is right it may be said
pub their_right : (flow : ObservedFlow) (c : Command) (request : Request) (conn_tables : SeenTables) (conn : ConnState) → flow.sent ≡ false → is_of (is_senders conn.local) false request ≡ true
    → conn_acceptance flow c request conn_tables (Some conn) ≡ Right → (conn.suspended ≡ false) × (their_legal (Ask (number_in request)) (Some (of_conn conn)) ≡ true)
their_right flow c request conn_tables conn s k v = go conn.suspended conn.peer_left (has_sent_request conn request) refl refl refl
    (sym (ap (λ (b : Bool). if conn.suspended then Unclear None else if (if b then conn.host_left else conn.peer_left) then Unclear (Some (rule.Unended c conn.since)) else if has_sent_request conn request then Refused (rule.AskedAgain c conn.since) else link_acceptance flow c request conn_tables) s) ∙ v)
  where
    go : (r p a : Bool) → conn.suspended ≡ r → conn.peer_left ≡ p → has_sent_request conn request ≡ a
        → (if r then Unclear None else if p then Unclear (Some (rule.Unended c conn.since)) else if a then Refused (rule.AskedAgain c conn.since) else link_acceptance flow c request conn_tables) ≡ Right
        → (conn.suspended ≡ false) × ((not (is_some (of_conn conn).others) && not conn.peer_left) ≡ true)
    go true p a x y z e = absurd (cc e)
    go false true a x y z e = absurd (cc e)
    go false false true x y z e = absurd (cc e)
    go false false false x y z e = (x, ap (λ (b : Bool). not b && not conn.peer_left) (sym (their_number conn request k) ∙ z) ∙ ap not y)

-- ---- a CLS

pub own_left : (conn : ConnState) → seen (after_left true (Some conn)) ≡ own_step Leave (Some (of_conn conn))
own_left conn = go conn.peer_left refl
  where
    go : (b : Bool) → conn.peer_left ≡ b → seen (if true && b then None else Some (record conn { host_left = true })) ≡ (if b then None else Some (record (of_conn conn) { left = true }))
    go true e = refl
    go false e = refl

pub their_left : (conn : ConnState) → seen (after_left false (Some conn)) ≡ their_step Leave (Some (of_conn conn))
their_left conn = go conn.host_left
  where
    go : (b : Bool) → seen (if b && true then None else Some (record conn { peer_left = true })) ≡ (if b then None else Some (record (of_conn conn) { cls = true }))
    go true = refl
    go false = refl

pub own_leaves : (flow : ObservedFlow) (c : Command) (conn : ConnState) → flow.sent ≡ true → conn.suspended ≡ false → legal Leave (Some (of_conn conn)) ≡ true → left_acceptance flow c (Some conn) ≡ Right
own_leaves flow c conn s r l =
    ap (λ (b : Bool). if b then Unclear None else if has_sent_cls conn flow.sent then Unclear (Some (rule.ClsAgain c conn.since)) else Right) r
    ∙ ap (λ (b : Bool). if (if b then conn.host_left else conn.peer_left) then Unclear (Some (rule.ClsAgain c conn.since)) else Right) s
    ∙ go conn.host_left l
  where
    go : (b : Bool) → not b ≡ true → (if b then Unclear (Some (rule.ClsAgain c conn.since)) else Right) ≡ Right
    go true e = absurd (cc e)
    go false e = refl

pub their_leaves : (flow : ObservedFlow) (c : Command) (conn : ConnState) → flow.sent ≡ false → left_acceptance flow c (Some conn) ≡ Right → (conn.suspended ≡ false) × (their_legal Leave (Some (of_conn conn)) ≡ true)
their_leaves flow c conn s v = go conn.suspended conn.peer_left refl refl
    (sym (ap (λ (b : Bool). if conn.suspended then Unclear None else if (if b then conn.host_left else conn.peer_left) then Unclear (Some (rule.ClsAgain c conn.since)) else Right) s) ∙ v)
  where
    go : (r p : Bool) → conn.suspended ≡ r → conn.peer_left ≡ p → (if r then Unclear None else if p then Unclear (Some (rule.ClsAgain c conn.since)) else Right) ≡ Right → (conn.suspended ≡ false) × (not conn.peer_left ≡ true)
    go true p x y e = absurd (cc e)
    go false true x y e = absurd (cc e)
    go false false x y e = (x, ap not y)
