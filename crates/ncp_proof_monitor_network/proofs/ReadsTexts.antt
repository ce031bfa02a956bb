-- A text of either side, while nothing is suspended: no violation is found exactly when the side may send
-- it, and afterwards the tables read as the flow with this text.
use Rattle.std.proofs.Common.{◌≡◌, ℕ, ◌≤◌, ◌==◌, Bool, true, false, not, ◌&&◌, ◌||◌, if◌then◌else◌, List, [], ◌∷◌, ◌++◌, length, Option, None, Some, is_some, eq-eqb, refl, sym, ap, ◌∙◌, subst, arith}
use Rattle.std.specs.Prelude.{nat_lt}
use Rattle.std.specs.List.{filter, list_any, position}
use Rattle.std.specs.Option.{option_to_list}
use Rattle.std.proofs.lemmas.Bool.{eqb-true}
use Rattle.std.proofs.lemmas.Bool.Decides.{nat_tests}
use Rattle.ncp_leader.specs.Message.{Message}
use Rattle.ncp_monitor.specs.declared.pending_reply.PendingReply.{PendingReply}
use Rattle.ncp_monitor.specs.declared.finding.Rule.{Rule}
use Rattle.ncp_monitor.specs.declared.finding.Unopened.{Unopened}
use Rattle.ncp_monitor.specs.declared.link_target.LinkTarget.{LinkTarget}
use Rattle.ncp_monitor.specs.declared.conn_state.ConnState.{ConnState}
use Rattle.ncp_monitor.specs.declared.conn_state.FactKind.{FactKind}
use Rattle.ncp_monitor.specs.declared.observed_flow.ObservedFlow.{ObservedFlow}
use Rattle.ncp_monitor.specs.ConnStates.{SeenTables, has_link, has_sent_cls, conn_at_index, is_topic, is_marked, put_conn}
use Rattle.ncp_interface.specs.Sockets.{is_senders}
use Rattle.ncp_monitor.specs.Replies.{is_due_of}
use Rattle.ncp_monitor.specs.Allocation.{is_any}
use Rattle.ncp_monitor.specs.Texts.{is_closed_for, text_target, size_rule, over_text_rule, open_text_rules, demuxed_text_rules, text_rules, conn_came_at, after_text_came, used, admits_error_if, over_suspended, demuxed_after_text, conn_tables_after_text}
use Rattle.ncp_monitor.proofs.LinkOrder.{Sockets}
use Rattle.ncp_monitor.proofs.Seeing.{of_conn}
use Rattle.ncp_proof_monitor_allocation.proofs.LinkPlaces.{UserAt, HasUser, AllUnique, LeadsTo, ToRest, ToNobody, ToClosed, ToUnasked, ToOpen, user_found, text_leads, renumbered_unique}
use Rattle.ncp_proof_monitor_replies.proofs.TheirText.{SameAt, came_at, came_facts}
use Rattle.ncp_proof_monitor_allocation.proofs.Words.{Count}
use Rattle.ncp_proof_monitor_network.proofs.Tallied.{counted_off}
use Rattle.ncp_proof_monitor_network.proofs.Said.{Said, number_by, TextLegal, after_text_by}
use Rattle.ncp_proof_monitor_network.proofs.UsersSaid.{fit_text}
use Rattle.ncp_proof_monitor_network.proofs.OwesSteps.{owes_text}
use Rattle.ncp_proof_monitor_network.proofs.PendingOwed.{AreDue}
use Rattle.ncp_proof_monitor_network.proofs.ReadAs.{ReadAs}
use Rattle.ncp_proof_monitor_network.proofs.ReadsLinks.{LeadsOpen, user_uses, shape_is, open_is, open_leads, leads_led, led_leads, counted_conn, read_counted}

-- ---- with the same shapes and counts

read_same : (me n : ℕ) (b after : SeenTables) (y : Said) → ((u : Sockets) → SameAt me n b after u) → AllUnique me n after → after.known_facts ≡ b.known_facts → after.pending_replies ≡ b.pending_replies → ReadAs me n b y → ReadAs me n after y
read_same me n b after y same unique known_facts pending_replies r = record {
  shapes = λ u. (same u).seen ∙ r.shapes u;
  counts = λ u. (same u).count ∙ r.counts u;
  calm = λ u. (same u).suspended ∙ r.calm u;
  unique = unique;
  links = λ on link. marked (FactKind.LinkSuspended on link) ∙ r.links on link;
  echoes = λ host. marked (FactKind.EchoesRest host) ∙ r.echoes host;
  admits = λ host bytes. marked (FactKind.Admits host bytes) ∙ r.admits host bytes;
  asks = λ host. marked (FactKind.Asks host) ∙ r.asks host;
  pending_replies = λ s. subst (λ (ds : List PendingReply). AreDue s (filter (is_due_of me n s) ds) (y.owing s)) (sym pending_replies) (r.pending_replies s);
  returning = r.returning;
  fit = r.fit;
}
  where
    marked : (what : FactKind) → is_marked me n what after ≡ is_marked me n what b
    marked what = ap (list_any (is_topic me n what)) known_facts

-- a text is seen to have come: the connections are there once
came_unique : (me n on : ℕ) (b : SeenTables) → AllUnique me n b → AllUnique me n (after_text_came (record { at = me; peer = n; sent = false }) on b)
came_unique me n on b unique = by (position (has_link me n true on) b.conns) refl
  where
    by : (o : Option ℕ) → position (has_link me n true on) b.conns ≡ o → AllUnique me n (conn_came_at b o)
    by None e = unique
    by (Some place) e = go (conn_at_index b.conns place).peer_left
      where
        came : AllUnique me n (put_conn b (Some place) (record (conn_at_index b.conns place) { came = true }))
        came = at (user_found me n true on b unique place e)
          where
            at : HasUser me n true on b place → AllUnique me n (put_conn b (Some place) (record (conn_at_index b.conns place) { came = true }))
            at it =
                let old = conn_at_index b.conns it.user.place in
                subst (λ (i : ℕ). AllUnique me n (put_conn b (Some i) (record (conn_at_index b.conns i) { came = true }))) it.there
                (renumbered_unique me n true on b it.u it.user old.messages old.bits old.recall true unique)

        go : (y : Bool) → AllUnique me n (if y then b else put_conn b (Some place) (record (conn_at_index b.conns place) { came = true }))
        go true = unique
        go false = came

read_came : (me n on : ℕ) (b : SeenTables) (y : Said) → ReadAs me n b y → ReadAs me n (after_text_came (record { at = me; peer = n; sent = false }) on b) y
read_came me n on b y r =
    read_same me n b (after_text_came (record { at = me; peer = n; sent = false }) on b) y (came_at me n on b r.unique) (came_unique me n on b r.unique) (came_facts me n on b).0 (came_facts me n on b).1 r

-- ---- where it leads

module _ (me n : ℕ) (s : Bool) (link : ℕ) (message : Message) (b : SeenTables) (x : Said) (r : ReadAs me n b x) where
  abbrev flow : ObservedFlow
  flow = record { at = me; peer = n; sent = s }

  abbrev led : LinkTarget
  led = text_target flow link b

  abbrev To : Sockets → Type 0
  To = LeadsOpen me n s b x r (not s) link

  abbrev size : ℕ
  size = message.size

  abbrev bits : ℕ
  bits = length message.text

  pub record TextLeads (u : Sockets) (l : To u) : Type 0 where
    pub leads : led ≡ LinkTarget.Open l.user.place
    pub rules : open_text_rules link message (conn_at_index b.conns l.user.place) ≡ []

  unclosed : (conn : ConnState) → is_closed_for flow conn ≡ false → has_sent_cls conn s ≡ false
  unclosed conn e = go (has_sent_cls conn s) e
    where
      go : (y : Bool) → (y || (s && conn.peer_left)) ≡ false → y ≡ false
      go true e = absurd (cc e)
      go false e = refl

  text_opens : demuxed_text_rules link message b led ≡ [] → (u : Sockets) × ((l : To u) × TextLeads u l)
  text_opens v = go (text_leads me n s link b r.unique)
    where
      nay : (l : LinkTarget) (wrong : Rule) → led ≡ l → demuxed_text_rules link message b l ≡ wrong ∷ [] → ⊥
      nay l wrong e k = let no : wrong ∷ [] ≡ [] = sym (ap (demuxed_text_rules link message b) e ∙ k) ∙ v in cc no

      go : LeadsTo me n (is_closed_for flow) (not s) link b led → (u : Sockets) × ((l : To u) × TextLeads u l)
      go (ToRest e m) = let no : true ≡ false = sym m ∙ r.links (not s) link in absurd (cc no)
      go (ToNobody e m p) = absurd (nay LinkTarget.Nobody (Rule.TextNotOpen link Unopened.NoPair) e refl)
      go (ToClosed e m u user k) = absurd (nay LinkTarget.Closed (Rule.TextNotOpen link Unopened.Closed) e refl)
      go (ToUnasked u user e m k) = absurd (nay (LinkTarget.Unasked user.place) (Rule.TextNotOpen link Unopened.NotAsked) e refl)
      go (ToOpen u user e m given k) =
          let conn = conn_at_index b.conns user.place in
          let to : To u = open_leads me n s b x r (not s) link u (user_uses me n s b x r (not s) link u user) (open_is me n s b x r (not s) link u user given (unclosed conn k.0) k.1) in
          let at : user.place ≡ to.user.place = cc (sym user.found ∙ to.user.found) in (
            u,
            (
              to,
              record {
                leads = e ∙ ap (λ (i : ℕ). LinkTarget.Open i) at;
                rules = ap (λ (i : ℕ). open_text_rules link message (conn_at_index b.conns i)) (sym at) ∙ sym (ap (demuxed_text_rules link message b) e) ∙ v;
              },
            ),
          )

  -- ---- its rules

  its_size : (u : Sockets) (l : To u) → number_by s (x.shapes u) ≡ (conn_at_index b.conns l.user.place).size
  its_size u l = ap (number_by s) (shape_is me n s b x r (not s) link u l.user) ∙ by s (is_senders (conn_at_index b.conns l.user.place).local) (sender s (is_senders (conn_at_index b.conns l.user.place).local) (ap (λ (y : ℕ). not (is_senders y)) l.user.sockets.local ∙ l.user.receives)) refl
    where
      sender : (t y : Bool) → not y ≡ not t → y ≡ t
      sender true true e = refl
      sender true false e = absurd (cc e)
      sender false true e = absurd (cc e)
      sender false false e = refl

      by : (t y : Bool) → y ≡ t → is_senders (conn_at_index b.conns l.user.place).local ≡ y → number_by t (Some (of_conn (conn_at_index b.conns l.user.place))) ≡ (conn_at_index b.conns l.user.place).size
      by true true e i = ap (λ (z : Bool). if z then (conn_at_index b.conns l.user.place).size else (conn_at_index b.conns l.user.place).link) i
      by true false e i = absurd (cc e)
      by false true e i = absurd (cc e)
      by false false e i = ap (λ (z : Bool). if z then (conn_at_index b.conns l.user.place).link else (conn_at_index b.conns l.user.place).size) i

  no_rules : (o p : Option Rule) → option_to_list o ++ option_to_list p ≡ [] → (o ≡ None) × (p ≡ None)
  no_rules None None v = (refl, refl)
  no_rules None (Some wrong) v = absurd (cc v)
  no_rules (Some wrong) p v = absurd (cc v)

  -- within what is allocated
  some_left : (conn : ConnState) → over_text_rule link bits conn ≡ None → (1 ≤ conn.messages) × (bits ≤ conn.bits)
  some_left conn v = go (conn.messages == 0) (nat_lt conn.bits bits) refl refl v
    where
      not_none : (y : ℕ) → (y == 0) ≡ false → 1 ≤ y
      not_none y e = grind (arith, nat_tests)

      not_more : (y z : ℕ) → nat_lt y z ≡ false → z ≤ y
      not_more y z e = grind (arith, nat_tests)

      go : (y z : Bool) → (conn.messages == 0) ≡ y → nat_lt conn.bits bits ≡ z → (if y || z then Some (Rule.TextOver link conn.messages bits conn.bits) else None) ≡ None → (1 ≤ conn.messages) × (bits ≤ conn.bits)
      go true z e i v = absurd (cc v)
      go false true e i v = absurd (cc v)
      go false false e i v = (not_none conn.messages e, not_more conn.bits bits i)

  enough_left : (conn : ConnState) → 1 ≤ conn.messages → bits ≤ conn.bits → over_text_rule link bits conn ≡ None
  enough_left conn e i =
      ap (λ (y : Bool). if y || nat_lt conn.bits bits then Some (Rule.TextOver link conn.messages bits conn.bits) else None) (some conn.messages e)
      ∙ ap (λ (y : Bool). if y then Some (Rule.TextOver link conn.messages bits conn.bits) else None) (under bits conn.bits i)
    where
      some : (y : ℕ) → 1 ≤ y → (y == 0) ≡ false
      some y e = grind (arith, nat_tests)

      under : (y z : ℕ) → y ≤ z → nat_lt z y ≡ false
      under y z e = grind (arith, nat_tests)

  sized : (o : Option ℕ) → is_some o ≡ true → size_rule link size o ≡ None → o ≡ Some size
  sized None i v = absurd (cc i)
  sized (Some asked) i v = go (size == asked) refl v
    where
      go : (y : Bool) → (size == asked) ≡ y → (if y then None else Some (Rule.TextSize link size asked)) ≡ None → Some asked ≡ Some size
      go true e v = ap (λ (z : ℕ). Some z) (sym (eqb-true size asked e))
      go false e v = absurd (cc v)

  abbrev Takes : Sockets → Type 0
  Takes u = (number_by s (x.shapes u) ≡ Some size) × (1 ≤ (x.counts u).messages) × (bits ≤ (x.counts u).bits)

  legal_of : (u : Sockets) (l : To u) → TextLeads u l → is_some (conn_at_index b.conns l.user.place).size ≡ true → TextLegal s link size bits x
  legal_of u l t i =
      let conn = conn_at_index b.conns l.user.place in
      let two = no_rules (size_rule link size conn.size) (over_text_rule link bits conn) t.rules in
      let left = some_left conn two.1 in
      leads_led me n s b x r (not s) link u Takes l
      (its_size u l ∙ sized conn.size i two.0, subst (λ (c : Count). 1 ≤ c.messages) l.counted left.0, subst (λ (c : Count). bits ≤ c.bits) l.counted left.1)

  -- ---- the books after it

  abbrev after_it : (u : Sockets) → To u → SeenTables
  after_it u l = put_conn b (Some l.user.place) (counted_conn me n s b x r (not s) link (counted_off 1 bits) (conn_at_index b.conns l.user.place).came (conn_at_index b.conns l.user.place))

  taken : (u : Sockets) (l : To u) → TextLeads u l → conn_tables_after_text flow link message b ≡ after_text_came flow link (after_it u l)
  taken u l t =
      ap (demuxed_after_text flow link message b) t.leads
      ∙ ap (λ (rules : List Rule). admits_error_if (is_any rules) flow message (over_suspended (is_any rules) flow link (after_text_came flow link (put_conn b (Some l.user.place) (used bits (conn_at_index b.conns l.user.place)))))) t.rules

  read_taken : TextLegal s link size bits x → (u : Sockets) (l : To u) → ReadAs me n (after_it u l) (after_text_by s link bits x)
  read_taken legal u l =
      read_counted me n s b x r (not s) link u l (counted_off 1 bits) (conn_at_index b.conns l.user.place).came (after_it u l) (after_text_by s link bits x) refl refl (λ v. refl) (λ v. refl) (λ t. refl) r.pending_replies
      (owes_text s x r.returning link bits) (fit_text s link size bits x legal r.fit)

  -- ---- what may be sent

  open_text : (u : Sockets) (l : To u) → is_closed_for flow (conn_at_index b.conns l.user.place) ≡ false → is_some (conn_at_index b.conns l.user.place).size ≡ true → led ≡ LinkTarget.Open l.user.place
  open_text u l c z = go (text_leads me n s link b r.unique)
    where
      at_one : (v : Sockets) (other : UserAt me n (not s) link b v) → other.place ≡ l.user.place
      at_one v other = cc (sym other.found ∙ l.user.found)

      go : LeadsTo me n (is_closed_for flow) (not s) link b led → led ≡ LinkTarget.Open l.user.place
      go (ToRest e m) = let no : true ≡ false = sym m ∙ r.links (not s) link in absurd (cc no)
      go (ToNobody e m p) = let no : None ≡ Some l.user.place = sym p ∙ l.user.found in absurd (cc no)
      go (ToClosed e m v other k) =
          let no : true ≡ false = sym k ∙ ap (λ (i : ℕ). is_closed_for flow (conn_at_index b.conns i)) (at_one v other) ∙ c in absurd (cc no)
      go (ToUnasked v other e m k) =
          let no : false ≡ true = sym (ap is_some k.1) ∙ ap (λ (i : ℕ). is_some (conn_at_index b.conns i).size) (at_one v other) ∙ z in absurd (cc no)
      go (ToOpen v other e m given k) = e ∙ ap (λ (i : ℕ). LinkTarget.Open i) (at_one v other)

  leads_of : (u : Sockets) (l : To u) → is_closed_for flow (conn_at_index b.conns l.user.place) ≡ false → Takes u → TextLeads u l
  leads_of u l c k = record {
    leads = open_text u l c (ap is_some given);
    rules = ap (λ (o : Option ℕ). option_to_list (size_rule link size o) ++ option_to_list (over_text_rule link bits (conn_at_index b.conns l.user.place))) given
        ∙ ap (λ (y : Bool). option_to_list (if y then None else Some (Rule.TextSize link size size)) ++ option_to_list (over_text_rule link bits (conn_at_index b.conns l.user.place))) (eq-eqb size size refl)
        ∙ ap option_to_list (enough_left (conn_at_index b.conns l.user.place) (subst (λ (d : Count). 1 ≤ d.messages) (sym l.counted) k.1) (subst (λ (d : Count). bits ≤ d.bits) (sym l.counted) k.2));
  }
    where
      given : (conn_at_index b.conns l.user.place).size ≡ Some size
      given = sym (its_size u l) ∙ k.0

-- ---- a text of the host

pub read_own_text : (me n link : ℕ) (message : Message) (b : SeenTables) (x : Said) → ReadAs me n b x → b.full ≡ false → text_rules (record { at = me; peer = n; sent = true }) link message b ≡ []
    → TextLegal true link message.size (length message.text) x × ReadAs me n (conn_tables_after_text (record { at = me; peer = n; sent = true }) link message b) (after_text_by true link (length message.text) x)
read_own_text me n link message b x r f v = (
  legal,
  subst (λ (z : SeenTables). ReadAs me n z (after_text_by true link (length message.text) x)) (sym (taken me n true link message b x r to.0 to.1.0 to.1.1)) (read_taken me n true link message b x r legal to.0 to.1.0),
)
  where
    to : (u : Sockets) × ((l : To me n true link message b x r u) × TextLeads me n true link message b x r u l)
    to = text_opens me n true link message b x r (sym (ap (λ (y : Bool). if y then [] else demuxed_text_rules link message b (text_target (record { at = me; peer = n; sent = true }) link b)) f) ∙ v)

    legal : TextLegal true link message.size (length message.text) x
    legal = legal_of me n true link message b x r to.0 to.1.0 to.1.1 to.1.0.sized

-- ---- a text of the other

pub read_their_text : (me n link : ℕ) (message : Message) (b : SeenTables) (x : Said) → ReadAs me n b x → TextLegal false link message.size (length message.text) x
    → (text_rules (record { at = me; peer = n; sent = false }) link message b ≡ []) × ReadAs me n (conn_tables_after_text (record { at = me; peer = n; sent = false }) link message b) (after_text_by false link (length message.text) x)
read_their_text me n link message b x r legal = (
  by b.full,
  subst (λ (z : SeenTables). ReadAs me n z (after_text_by false link (length message.text) x)) (sym (taken me n false link message b x r to.0 to.1.0 leads))
      (read_came me n link (after_it me n false link message b x r to.0 to.1.0) (after_text_by false link (length message.text) x) (read_taken me n false link message b x r legal to.0 to.1.0)),
)
  where
    to : (u : Sockets) × (To me n false link message b x r u × Takes me n false link message b x r u)
    to = led_leads me n false b x r true link (Takes me n false link message b x r) legal

    or_false : (y : Bool) → y ≡ false → (y || false) ≡ false
    or_false y e = ap (λ (z : Bool). z || false) e

    leads : TextLeads me n false link message b x r to.0 to.1.0
    leads = leads_of me n false link message b x r to.0 to.1.0 (or_false (has_sent_cls (conn_at_index b.conns to.1.0.user.place) false) to.1.0.unleft) to.1.1

    by : (y : Bool) → (if y then [] else demuxed_text_rules link message b (text_target (record { at = me; peer = n; sent = false }) link b)) ≡ []
    by true = refl
    by false = ap (demuxed_text_rules link message b) leads.leads ∙ leads.rules
