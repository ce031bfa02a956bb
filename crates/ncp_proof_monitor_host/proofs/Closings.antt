-- A sender's CLS is sent while none of its texts is unacknowledged. If no command is queued, no CLS is
-- missing: a connection that the other host has closed is closed by the host too, or holds text, or has
-- an unacknowledged text.
use Rattle.std.proofs.Common.{◌≡◌, ℕ, ◌==◌, Bool, true, false, not, ◌&&◌, if◌then◌else◌, List, [], ◌∷◌, Option, None, Some, is_some, ◌⊎◌, inl, inr, eq-eqb, refl, sym, ap, ◌∙◌, subst, arith}
use Rattle.std.specs.Prelude.{option_map}
use Rattle.std.specs.FinMap.{get}
use Rattle.std.specs.List.{list_any}
use Rattle.std.proofs.lemmas.Bool.{eqb-true, and_parts}
use Rattle.ncp_wire.specs.declared.command.Command.{Command}
use Rattle.ncp_wire.specs.declared.command.Command.TheVariants.{Cls}
use Rattle.ncp_slot.specs.Slot.{is_empty}
use Rattle.ncp_slot.specs.Slots.{LinkSlots, slot_at}
use Rattle.ncp_model.specs.declared.pair.Pair.{Pair}
use Rattle.ncp_model.specs.Pairs.{sends, receives, is_proper}
use Rattle.ncp_model.specs.Endpoint.{Endpoint}
use Rattle.ncp_model.specs.Ends.{Ends, hears_link}
use Rattle.ncp_model.specs.Demux.{passes}
use Rattle.ncp_proof_endpoint.specs.Sound.{SoundAt}
use Rattle.ncp_proof_progress.specs.Idle.{LeavingAt}
use Rattle.ncp_peer.specs.Soundness.{is_end_busy, pair_hears_link, Agree}
use Rattle.ncp_monitor.specs.declared.finding.Rule.{Rule}
use Rattle.ncp_interface.specs.declared.sent_message.SentMessage.{SentMessage}
use Rattle.ncp_monitor.specs.declared.conn_state.ConnState.{ConnState}
use Rattle.ncp_monitor.specs.declared.conn_state.FactKind.{FactKind}
use Rattle.ncp_monitor.specs.declared.observed_flow.ObservedFlow.{ObservedFlow}
use Rattle.ncp_monitor.specs.ConnStates.{SeenTables, is_of_sockets, is_conn_between, has_link, conn_of, is_marked}
use Rattle.ncp_interface.specs.Sockets.{is_senders}
use Rattle.ncp_monitor.specs.Requests.{is_link_busy, link_out_rule, text_out_rule}
use Rattle.ncp_interface.specs.Slots.{is_busy_on}
use Rattle.ncp_monitor.specs.Speaking.{lacks_cls, cls_of, cls_left_out}
use Rattle.ncp_monitor.proofs.Shapes.{Shape, Say, Leave, Agrees, others_of, others_were}
use Rattle.ncp_monitor.proofs.LinkOrder.{Sockets, about}
use Rattle.ncp_monitor.proofs.Firsts.{first, Unique}
use Rattle.ncp_monitor.proofs.BooksAt.{has_sockets, conn_first}
use Rattle.ncp_monitor.proofs.Seeing.{of_conn, seen}
use Rattle.ncp_proof_monitor_allocation.proofs.KeptEnds.{of_end, kept, number_if}
use Rattle.ncp_proof_monitor_allocation.proofs.OwnMoves.{all_says, sockets_of}
use Rattle.ncp_proof_monitor_allocation.proofs.Tallies.{same_self}
use Rattle.ncp_proof_monitor_allocation.proofs.Changed.{pair_at, kept_of}
use Rattle.ncp_proof_monitor_allocation.proofs.SeenTables.{conn_seen, seen_of, is_suspended, suspended_of}
use Rattle.ncp_proof_monitor_allocation.proofs.Users.{first_passes, found_at_first}
use Rattle.ncp_proof_monitor_allocation.proofs.Meets.{Meets}
use Rattle.ncp_proof_monitor_allocation.proofs.Untaken.{Held}
use Rattle.ncp_proof_monitor_allocation.proofs.TidyBooks.{passed_over, each_first, OnDataLink, Tidy}
use Rattle.ncp_proof_monitor_host.proofs.BusySlots.{HasText, BusySlots}
use Rattle.ncp_proof_monitor_allocation.proofs.Proper.{ProperEnds}
use Rattle.ncp_proof_monitor_allocation.proofs.Came.{has_come, Came, left_since, kept_there}
use Rattle.ncp_proof_monitor_host.proofs.Carries.{ShowsBusy}

-- two of a list that pass a test, which one passes at most, are one
pub two_are_one : {A : Type 0} (t r s : A → Bool) (xs : List A) (x y : A) → Unique t xs → first r xs ≡ Some x → t x ≡ true → first s xs ≡ Some y → t y ≡ true → x ≡ y
two_are_one t r s [] x y u f a g b = absurd (cc f)
two_are_one t r s (z ∷ zs) x y (h, u) f a g b = go (r z) (s z) (λ i j. two_are_one t r s zs x y u i a j b) f g
  where
    apart : (q : _ → Bool) (v : _) → t z ≡ true → first q zs ≡ Some v → t v ≡ true → ⊥
    apart q v k e p = let nay : true ≡ false = sym p ∙ passed_over t q zs v (h k) e in cc nay

    go : (i j : Bool) → (first r zs ≡ Some x → first s zs ≡ Some y → x ≡ y) → (if i then Some z else first r zs) ≡ Some x → (if j then Some z else first s zs) ≡ Some y → x ≡ y
    go true true rest e k = let is : z ≡ x = cc e in let as_well : z ≡ y = cc k in sym is ∙ as_well
    go true false rest e k = let is : z ≡ x = cc e in absurd (apart s y (ap t is ∙ a) k b)
    go false true rest e k = let is : z ≡ y = cc k in absurd (apart r x (ap t is ∙ b) e a)
    go false false rest e k = rest e k

sending_socket : (pair : Pair) → sends pair ≡ true → is_senders pair.local ≡ true
sending_socket pair s = grind arith

module _ (me n : ℕ) (b : SeenTables) where
  -- a connection that the host sends on has its link
  has_its_link_seen : (u : Sockets) (conn : ConnState) (link : ℕ) → conn_seen me n b u ≡ Some conn → is_senders u.0 ≡ true → conn.link ≡ Some link → has_link me n false link conn ≡ true
  has_its_link_seen u conn link e s l =
      let is = has_sockets me n u.0 u.1 conn (first_passes (is_of_sockets me n u.0 u.1) b.conns conn e) in
      let sender : is_senders conn.local ≡ true = ap is_senders is.local ∙ s in
      rw (eq-eqb conn.at me is.at, eq-eqb conn.peer n is.peer, sender, l, eq-eqb link link refl) refl

  -- and no other
  one_sender : (u v : Sockets) (x y : ConnState) (link : ℕ) → Tidy b → conn_seen me n b u ≡ Some x → conn_seen me n b v ≡ Some y → is_senders u.0 ≡ true → is_senders v.0 ≡ true → x.link ≡ Some link → y.link ≡ Some link → u ≡ v
  one_sender u v x y link tidy e f s r k l =
      let is : x ≡ y = two_are_one (has_link me n false link) (is_of_sockets me n u.0 u.1) (is_of_sockets me n v.0 v.1) b.conns x y (tidy.alone me n false link) e (has_its_link_seen u x link e s k) f (has_its_link_seen v y link f r l) in
      let a = has_sockets me n u.0 u.1 x (first_passes (is_of_sockets me n u.0 u.1) b.conns x e) in
      let c = has_sockets me n v.0 v.1 y (first_passes (is_of_sockets me n v.0 v.1) b.conns y f) in
      let local : u.0 ≡ v.0 = sym a.local ∙ ap (λ (z : ConnState). z.local) is ∙ c.local in
      let remote : u.1 ≡ v.1 = sym a.remote ∙ ap (λ (z : ConnState). z.remote) is ∙ c.remote in
      ap (λ (z : ℕ). (z, u.1)) local ∙ ap (λ (z : ℕ). (v.0, z)) remote

module _ (me n : ℕ) (m : Ends) (slots : LinkSlots) (messages : List SentMessage) (b : SeenTables) where
  abbrev the_host : ObservedFlow
  the_host = record { at = me; peer = n; sent = true }

  -- ---- no text is unacknowledged while a CLS is queued

  module _ (w : List Command) (sound : (pair : Pair) → SoundAt pair (get m pair)) (held : Held me n m b) (tidy : Tidy b) (my your : ℕ) (meets : Meets me n m (Cls my your ∷ w) b) where
    abbrev its : Sockets
    its = (my, your)

    -- an end that is busy on the link of this connection, which does not rest
    none_busy : (conn : ConnState) (link : ℕ) → conn_seen me n b its ≡ Some conn → is_senders my ≡ true → conn.suspended ≡ false → conn.link ≡ Some link → is_marked me n (FactKind.LinkSuspended false link) b ≡ false → HasText m link → ⊥
    none_busy conn link there sender calm its_link unmarked text = at_end (get m q) refl text.1 text.2
      where
        q : Pair
        q = text.0

        left : (e : Endpoint) → get m q ≡ Some e → sends q ≡ true → e.heard ≡ true → e.link ≡ link → q ≡ pair_at its → e.left ≡ true
        left e g s h l is =
            let here : kept_of m its ≡ Some (of_end true e) = kept_there m its e true (ap (get m) (sym is) ∙ g) (ap sends (sym is) ∙ s) in
            let first_about : about its (all_says (Cls my your ∷ w)) ≡ Leave ∷ about its (all_says w) = ap (λ (y : Bool). if y then Leave ∷ about its (all_says w) else about its (all_says w)) (same_self its) in
            left_since (about its (all_says w)) (of_end true e) (seen_of me n b its) link (ap (λ (y : Bool). number_if y e.link) h ∙ ap (λ (y : ℕ). Some y) l)
            (subst (λ (o : List Say). Agrees o (Some (of_end true e)) (seen_of me n b its)) first_about
            (subst (λ y. Agrees (about its (all_says (Cls my your ∷ w))) y (seen_of me n b its)) here (meets.tally.pairs its (ap is_suspended there ∙ calm))))

        by_conn : (o : Option ConnState) (e : Endpoint) → conn_seen me n b (sockets_of q) ≡ o → others_of (seen o) ≡ Some link → sends q ≡ true → q ≡ pair_at its
        by_conn None e f o s = absurd (cc o)
        by_conn (Some other) e f o s =
            let local : is_senders other.local ≡ true = ap is_senders (has_sockets me n q.local q.remote other (first_passes (is_of_sockets me n q.local q.remote) b.conns other f)).local ∙ sending_socket q s in
            let has : other.link ≡ Some link = sym (ap (λ (x : Bool). if x then other.link else other.size) local) ∙ o in
            ap pair_at (one_sender me n b (sockets_of q) its other conn link tidy f there (sending_socket q s) sender has its_link)

        at_end : (o : Option Endpoint) → get m q ≡ o → passes (hears_link link) q o ≡ true → is_end_busy o ≡ true → ⊥
        at_end None g h y = cc h
        at_end (Some e) g h y = by_rest (suspended_of me n b (sockets_of q)) refl
          where
            outer : ((sends q && e.heard) ≡ true) × ((e.link == link) ≡ true)
            outer = and_parts (sends q && e.heard) (e.link == link) h

            inner : (sends q ≡ true) × (e.heard ≡ true)
            inner = and_parts (sends q) e.heard outer.0

            on_it : e.link ≡ link
            on_it = eqb-true e.link link outer.1

            shape : others_of (kept_of m (sockets_of q)) ≡ Some link
            shape = ap others_of (kept_there m (sockets_of q) e true g inner.0) ∙ ap (λ (x : Bool). number_if x e.link) inner.1 ∙ ap (λ (x : ℕ). Some x) on_it

            by_rest : (r : Bool) → suspended_of me n b (sockets_of q) ≡ r → ⊥
            by_rest true r =
                let marked : is_marked me n (FactKind.LinkSuspended false link) b ≡ true = ap (λ (x : ℕ). is_marked me n (FactKind.LinkSuspended false x) b) (sym on_it) ∙ held (sockets_of q) e g r inner.0 inner.1 in
                let nay : true ≡ false = sym marked ∙ unmarked in cc nay
            by_rest false r =
                let is = by_conn (conn_seen me n b (sockets_of q)) e refl
                (others_were (about (sockets_of q) (all_says (Cls my your ∷ w))) (kept_of m (sockets_of q)) (seen_of me n b (sockets_of q)) link (meets.tally.pairs (sockets_of q) r) shape) inner.0 in
                let mandatory : SoundAt q (Some e) = subst (SoundAt q) g (sound q) in
                let nay : true ≡ false = sym (left e g inner.0 inner.1 on_it is) ∙ mandatory.out y in cc nay

    pub no_text_out : BusySlots m slots → ShowsBusy me n messages slots → text_out_rule the_host (Cls my your) messages b (conn_of me n my your b.conns) ≡ None
    no_text_out busy shows = ap (text_out_rule the_host (Cls my your) messages b) (conn_first me n my your b.conns) ∙ at_conn (conn_seen me n b its) refl
      where
        at_conn : (o : Option ConnState) → conn_seen me n b its ≡ o → text_out_rule the_host (Cls my your) messages b o ≡ None
        at_conn None e = refl
        at_conn (Some conn) e = by_sex (is_senders conn.local) refl
          where
            local : conn.local ≡ my
            local = (has_sockets me n my your conn (first_passes (is_of_sockets me n my your) b.conns conn e)).local

            by_link : is_senders my ≡ true → (o : Option ℕ) → conn.link ≡ o → link_out_rule the_host (Cls my your) messages b o ≡ None
            by_link s None l = refl
            by_link s (Some link) l = by (list_any (is_busy_on me n link) messages) (is_marked me n (FactKind.LinkSuspended false link) b) refl refl
              where
                by : (x y : Bool) → list_any (is_busy_on me n link) messages ≡ x → is_marked me n (FactKind.LinkSuspended false link) b ≡ y → (if x && not y then Some (Rule.TextOut (Cls my your) link) else None) ≡ None
                by true true f k = refl
                by false y f k = refl
                by true false f k = by_rest conn.suspended refl
                  where
                    used : (link == 0) ≡ false
                    used = each_first OnDataLink (is_of_sockets me n my your) b.conns conn tidy.ranged e link l

                    not_zero : link ≡ 0 → ⊥
                    not_zero z = let nay : true ≡ false = sym (eq-eqb link 0 z) ∙ used in cc nay

                    by_rest : (r : Bool) → conn.suspended ≡ r → Some (Rule.TextOut (Cls my your) link) ≡ None
                    by_rest true r =
                        let marked : is_marked me n (FactKind.LinkSuspended false link) b ≡ true = sym (ap (λ (x : Bool). is_marked me n (FactKind.LinkSuspended (not x) link) b) s) ∙ meets.linked its conn link e r l in
                        let nay : true ≡ false = sym marked ∙ k in absurd (cc nay)
                    by_rest false r = absurd (none_busy conn link e s r l k (busy link not_zero (shows link used ∙ ap not f)))

            by_sex : (x : Bool) → is_senders conn.local ≡ x → (if true && x then link_out_rule the_host (Cls my your) messages b conn.link else None) ≡ None
            by_sex true s = by_link (ap is_senders (sym local) ∙ s) conn.link refl
            by_sex false s = refl

  -- ---- nothing waits: no CLS is left out

  record Lacks (conn : ConnState) : Type 0 where
    pub between : is_conn_between me n conn ≡ true
    pub calm : conn.suspended ≡ false
    pub closed : conn.peer_left ≡ true
    pub unleft : conn.host_left ≡ false
    pub still : (if is_senders conn.local then not (is_link_busy me n conn.link messages) else not conn.came) ≡ true

  nots : (x : Bool) → not x ≡ true → x ≡ false
  nots true e = absurd (cc e)
  nots false e = refl

  lacks_parts : (conn : ConnState) → lacks_cls me n messages conn ≡ true → Lacks conn
  lacks_parts conn e =
      let last : Bool = if is_senders conn.local then not (is_link_busy me n conn.link messages) else not conn.came in
      let a = and_parts (is_conn_between me n conn && not conn.suspended && conn.peer_left && not conn.host_left) last e in
      let c = and_parts (is_conn_between me n conn && not conn.suspended && conn.peer_left) (not conn.host_left) a.0 in
      let d = and_parts (is_conn_between me n conn && not conn.suspended) conn.peer_left c.0 in
      let f = and_parts (is_conn_between me n conn) (not conn.suspended) d.0 in
      record { between = f.0; calm = nots conn.suspended f.1; closed = d.1; unleft = nots conn.host_left c.1; still = a.1 }

  module _ (sound : (pair : Pair) → SoundAt pair (get m pair)) (propers : ProperEnds m) (agree : Agree m slots) (leaving : (q : Pair) → LeavingAt q (get m q)) (shows : ShowsBusy me n messages slots) (meets : Meets me n m [] b) (came : Came me n m [] b) where
    own_passes : (conn : ConnState) → is_conn_between me n conn ≡ true → is_of_sockets me n conn.local conn.remote conn ≡ true
    own_passes conn k =
        ap (λ (x : Bool). x && (conn.local == conn.local) && (conn.remote == conn.remote)) k
        ∙ ap (λ (x : Bool). true && x && (conn.remote == conn.remote)) (eq-eqb conn.local conn.local refl)
        ∙ eq-eqb conn.remote conn.remote refl

    its_own : (conn : ConnState) → first (lacks_cls me n messages) b.conns ≡ Some conn → is_conn_between me n conn ≡ true → conn_seen me n b (conn.local, conn.remote) ≡ Some conn
    its_own conn f k = go (conn_seen me n b (conn.local, conn.remote)) refl
      where
        own : ConnState → Bool
        own = is_of_sockets me n conn.local conn.remote

        go : (o : Option ConnState) → conn_seen me n b (conn.local, conn.remote) ≡ o → conn_seen me n b (conn.local, conn.remote) ≡ Some conn
        go None e = let nay : true ≡ false = sym (own_passes conn k) ∙ passed_over own (lacks_cls me n messages) b.conns conn e f in absurd (cc nay)
        go (Some other) e =
            let is : other ≡ conn = two_are_one own own (lacks_cls me n messages) b.conns other conn (meets.unique (conn.local, conn.remote)) e (first_passes own b.conns other e) f (own_passes conn k) in
            e ∙ ap (λ (x : ConnState). Some x) is

    no_end : (x : Bool) (s : Shape) → kept x None ≡ Some s → ⊥
    no_end x s e = cc e

    of_sex : (pair : Pair) → is_proper pair ≡ true → sends pair ≡ is_senders pair.local
    of_sex pair p = grind arith

    of_other_sex : (pair : Pair) → is_proper pair ≡ true → is_senders pair.local ≡ false → receives pair ≡ true
    of_other_sex pair p s = grind arith

    closes : (conn : ConnState) → conn_seen me n b (conn.local, conn.remote) ≡ Some conn → Lacks conn → ⊥
    closes conn there l = at_end (get m (pair_at u)) refl
      where
        u : Sockets
        u = (conn.local, conn.remote)

        same_shape : Some (of_conn conn) ≡ kept_of m u
        same_shape = ap seen (sym there) ∙ meets.tally.pairs u (ap is_suspended there ∙ l.calm)

        at_end : (o : Option Endpoint) → get m (pair_at u) ≡ o → ⊥
        at_end None g = no_end (sends (pair_at u)) (of_conn conn) (sym (same_shape ∙ ap (kept (sends (pair_at u))) g))
        at_end (Some e) g = by_sex (is_senders conn.local) refl
          where
            proper : is_proper (pair_at u) ≡ true
            proper = propers (pair_at u) (ap is_some g)

            is : of_conn conn ≡ of_end (sends (pair_at u)) e
            is = let k : Some (of_conn conn) ≡ Some (of_end (sends (pair_at u)) e) = same_shape ∙ ap (kept (sends (pair_at u))) g in cc k

            at_e : SoundAt (pair_at u) (Some e)
            at_e = subst (SoundAt (pair_at u)) g (sound (pair_at u))

            goes : LeavingAt (pair_at u) (Some e)
            goes = subst (LeavingAt (pair_at u)) g (leaving (pair_at u))

            due : e.leaving ≡ true
            due = at_e.shut (sym (ap (λ (x : Shape). x.cls) is) ∙ l.closed)

            -- a sender has a text out
            out : is_senders conn.local ≡ true → ⊥
            out s = by_hearing (agree.out (pair_at u) (ap is_end_busy g ∙ goes.busy due (of_sex (pair_at u) proper ∙ s)))
              where
                by_hearing : (on : ℕ) × ((on ≡ 0) → ⊥) × (pair_hears_link on (pair_at u) m ≡ true) × (is_empty (slot_at slots on) ≡ false) → ⊥
                by_hearing o = not_still (list_any (is_busy_on me n on) messages) refl
                  where
                    on : ℕ
                    on = o.0

                    heard : (sends (pair_at u) && e.heard && (e.link == on)) ≡ true
                    heard = ap (passes (hears_link on) (pair_at u)) (sym g) ∙ o.2

                    outer : ((sends (pair_at u) && e.heard) ≡ true) × ((e.link == on) ≡ true)
                    outer = and_parts (sends (pair_at u) && e.heard) (e.link == on) heard

                    inner : (sends (pair_at u) ≡ true) × (e.heard ≡ true)
                    inner = and_parts (sends (pair_at u)) e.heard outer.0

                    its_link : conn.link ≡ Some on
                    its_link =
                        sym (ap (λ (x : Bool). if x then conn.link else conn.size) s)
                        ∙ ap (λ (x : Shape). x.others) is
                        ∙ ap (λ (x : Bool). number_if e.heard (if x then e.link else e.size)) inner.0
                        ∙ ap (λ (x : Bool). number_if x e.link) inner.1
                        ∙ ap (λ (x : ℕ). Some x) (eqb-true e.link on outer.1)

                    used : (on == 0) ≡ false
                    used = go (on == 0) refl
                      where
                        go : (x : Bool) → (on == 0) ≡ x → (on == 0) ≡ false
                        go true z = absurd (o.1 (eqb-true on 0 z))
                        go false z = z

                    busy_now : false ≡ not (list_any (is_busy_on me n on) messages)
                    busy_now = sym o.3 ∙ shows on used

                    idle : not (list_any (is_busy_on me n on) messages) ≡ true
                    idle = sym (ap (λ (x : Option ℕ). not (is_link_busy me n x messages)) its_link) ∙ sym (ap (λ (x : Bool). if x then not (is_link_busy me n conn.link messages) else not conn.came) s) ∙ l.still

                    not_still : (x : Bool) → list_any (is_busy_on me n on) messages ≡ x → ⊥
                    not_still x z = let nay : false ≡ true = busy_now ∙ idle in cc nay

            -- a receiver holds text, and one came
            holds : is_senders conn.local ≡ false → ⊥
            holds s = by_coming (came u e g recv (goes.holds due recv))
              where
                recv : receives (pair_at u) ≡ true
                recv = of_other_sex (pair_at u) proper s

                by_coming : (suspended_of me n b u ≡ true) ⊎ (has_come (conn_seen me n b u) ≡ true) → ⊥
                by_coming (inl r) = let nay : true ≡ false = sym r ∙ ap is_suspended there ∙ l.calm in cc nay
                by_coming (inr c) =
                    let some : conn.came ≡ true = sym (ap has_come there) ∙ c in
                    let none : not conn.came ≡ true = sym (ap (λ (x : Bool). if x then not (is_link_busy me n conn.link messages) else not conn.came) s) ∙ l.still in
                    let nay : not true ≡ true = ap not (sym some) ∙ none in cc nay

            by_sex : (x : Bool) → is_senders conn.local ≡ x → ⊥
            by_sex true s = out s
            by_sex false s = holds s

    pub no_cls_left : cls_left_out me n messages b ≡ None
    no_cls_left = ap (λ (o : Option ConnState). option_map cls_of o) (found_at_first (lacks_cls me n messages) b.conns) ∙ go (first (lacks_cls me n messages) b.conns) refl
      where
        go : (o : Option ConnState) → first (lacks_cls me n messages) b.conns ≡ o → option_map cls_of o ≡ None
        go None f = refl
        go (Some conn) f =
            let l = lacks_parts conn (first_passes (lacks_cls me n messages) b.conns conn f) in
            absurd (closes conn (its_own conn f l.between) l)
