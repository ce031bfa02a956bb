-- What names a link leads to the connection that has it, which is the only one; and what is seen of all connections where other
-- numbers stand in its place.
use Rattle.std.proofs.Common.{◌≡◌, ℕ, ◌==◌, Bool, true, false, not, ◌&&◌, ◌||◌, if◌then◌else◌, List, [], ◌∷◌, Option, None, Some, is_some, inl, eq-eqb, refl, sym, ap, ◌∙◌, subst}
use Rattle.std.specs.List.{position}
use Rattle.std.proofs.Math.Bool.{beq}
use Rattle.std.proofs.lemmas.Bool.{eqb-true, and_parts}
use Rattle.std.proofs.lemmas.List.Quantifiers.{position-Some}
use Rattle.ncp_monitor.specs.declared.link_target.LinkTarget.{LinkTarget}
use Rattle.ncp_monitor.specs.declared.conn_state.ConnState.{ConnState}
use Rattle.ncp_monitor.specs.declared.conn_state.FactKind.{FactKind}
use Rattle.ncp_monitor.specs.declared.observed_flow.ObservedFlow.{ObservedFlow}
use Rattle.ncp_monitor.specs.ConnStates.{SeenTables, unasked_conn, is_of_sockets, is_conn_between, has_link, has_sent_cls, conn_at_index, is_marked, put_conn}
use Rattle.ncp_interface.specs.Sockets.{is_senders, is_number_given}
use Rattle.ncp_monitor.specs.Allocation.{target_by, target_at, target_on}
use Rattle.ncp_monitor.specs.Texts.{is_closed_for, text_target_at, text_target}
use Rattle.ncp_monitor.proofs.LinkOrder.{Sockets, same, same_is}
use Rattle.ncp_monitor.proofs.Firsts.{first, set_first, found_first, none_first, set_found, Unique}
use Rattle.ncp_monitor.proofs.BooksAt.{HasSockets, has_sockets, others_distinct}
use Rattle.ncp_monitor.proofs.Seeing.{of_conn, seen}
use Rattle.ncp_proof_monitor_allocation.proofs.SeenTables.{conn_seen, seen_of, is_suspended, suspended_of, receives_at, others_are}
use Rattle.ncp_proof_monitor_allocation.proofs.Users.{Linked, first_passes}
use Rattle.ncp_proof_monitor_allocation.proofs.TidyBooks.{Tidy, passed_over, unique_put, put_tidy, range_there, numbered}
use Rattle.ncp_proof_monitor_allocation.proofs.Words.{is_open_on}

-- ---- one that passes a test is found by it, where at most one passes

pub first_only : {A : Type 0} (t s : A → Bool) (xs : List A) (z : A) → Unique t xs → t z ≡ true → first s xs ≡ Some z → first t xs ≡ Some z
first_only t s [] z u k e = absurd (cc e)
first_only t s (x ∷ xs) z (h, u) k e = go (t x) refl (s x) (first_only t s xs z u k) e
  where
    go : (a : Bool) → t x ≡ a → (b : Bool) → (first s xs ≡ Some z → first t xs ≡ Some z) → (if b then Some x else first s xs) ≡ Some z → (if a then Some x else first t xs) ≡ Some z
    go true j true rest e = e
    go true j false rest e = let nay : true ≡ false = sym k ∙ passed_over t s xs z (h j) e in absurd (cc nay)
    go false j true rest e = let is : x ≡ z = cc e in let nay : false ≡ true = sym j ∙ ap t is ∙ k in absurd (cc nay)
    go false j false rest e = rest e

-- another in its place: by a test that it passes, as what stood there did
pub first_put : {A : Type 0} (t s : A → Bool) (xs : List A) (y old : A) → Unique t xs → first s xs ≡ Some old → t old ≡ true → t y ≡ true → first t (set_first s y xs) ≡ Some y
first_put t s [] y old u e k j = absurd (cc e)
first_put t s (x ∷ xs) y old (h, u) e k j = go (s x) (t x) refl (λ f. first_put t s xs y old u f k j) e
  where
    go : (b a : Bool) → t x ≡ a → (first s xs ≡ Some old → first t (set_first s y xs) ≡ Some y) → (if b then Some x else first s xs) ≡ Some old → first t (if b then y ∷ xs else x ∷ set_first s y xs) ≡ Some y
    go true a i rest e = ap (λ (c : Bool). if c then Some y else first t xs) j
    go false true i rest e = let nay : true ≡ false = sym k ∙ passed_over t s xs old (h i) e in absurd (cc nay)
    go false false i rest e = ap (λ (c : Bool). if c then Some x else first t (set_first s y xs)) i ∙ rest e

-- and by one that neither passes
pub other_put : {A : Type 0} (t s : A → Bool) (xs : List A) (y old : A) → first s xs ≡ Some old → t old ≡ false → t y ≡ false → first t (set_first s y xs) ≡ first t xs
other_put t s [] y old e k j = refl
other_put {A} t s (x ∷ xs) y old e k j = go (s x) (λ f. other_put t s xs y old f k j) e
  where
    go : (b : Bool) → (first s xs ≡ Some old → first t (set_first s y xs) ≡ first t xs) → (if b then Some x else first s xs) ≡ Some old → first t (if b then y ∷ xs else x ∷ set_first s y xs) ≡ (if t x then Some x else first t xs)
    go true rest e =
        let is : x ≡ old = cc e in
        ap (λ (c : Bool). if c then Some y else first t xs) j ∙ sym (ap (λ (c : Bool). if c then Some x else first t xs) (ap t is ∙ k))
    go false rest e = ap (λ (o : Option A). if t x then Some x else o) (rest e)

-- ---- the user of a link

-- the connection of these sockets has the link, at index `place`
pub record UserAt (me n : ℕ) (host : Bool) (link : ℕ) (b : SeenTables) (u : Sockets) : Type 0 where
  pub place : ℕ
  pub found : position (has_link me n host link) b.conns ≡ Some place
  pub seen : conn_seen me n b u ≡ Some (conn_at_index b.conns place)
  pub sockets : HasSockets me n u.0 u.1 (conn_at_index b.conns place)
  pub receives : receives_at u ≡ host
  pub given : (conn_at_index b.conns place).link ≡ Some link

pub record HasUser (me n : ℕ) (host : Bool) (link : ℕ) (b : SeenTables) (place : ℕ) : Type 0 where
  pub u : Sockets
  pub user : UserAt me n host link b u
  pub there : user.place ≡ place

abbrev pub AllUnique : ℕ → ℕ → SeenTables → Type 0
AllUnique me n b = (u : Sockets) → Unique (is_of_sockets me n u.0 u.1) b.conns

given_link : (o : Option ℕ) (link : ℕ) → is_number_given o link ≡ true → o ≡ Some link
given_link None link e = absurd (cc e)
given_link (Some given) link e = ap (λ (x : ℕ). Some x) (eqb-true given link e)

of_host : (s host : Bool) → not (beq s host) ≡ true → not s ≡ host
of_host true true e = absurd (cc e)
of_host true false e = refl
of_host false true e = refl
of_host false false e = absurd (cc e)

is_host : (s host : Bool) → not s ≡ host → not (beq s host) ≡ true
is_host true true e = absurd (cc e)
is_host true false e = refl
is_host false true e = refl
is_host false false e = absurd (cc e)

pub has_sockets_so : (me n : ℕ) (u : Sockets) (conn : ConnState) → HasSockets me n u.0 u.1 conn → is_of_sockets me n u.0 u.1 conn ≡ true
has_sockets_so me n u conn h =
    ap (λ (x : ℕ). x == me && conn.peer == n && conn.local == u.0 && conn.remote == u.1) h.at
    ∙ ap (λ (x : ℕ). me == me && x == n && conn.local == u.0 && conn.remote == u.1) h.peer
    ∙ ap (λ (x : ℕ). me == me && n == n && x == u.0 && conn.remote == u.1) h.local
    ∙ ap (λ (x : ℕ). me == me && n == n && u.0 == u.0 && x == u.1) h.remote
    ∙ rw (eq-eqb me me refl, eq-eqb n n refl, eq-eqb u.0 u.0 refl, eq-eqb u.1 u.1 refl) refl

module _ (me n : ℕ) (host : Bool) (link : ℕ) where
  abbrev has : ConnState → Bool
  has = has_link me n host link

  has_is : (conn : ConnState) → has conn ≡ true → (is_conn_between me n conn ≡ true) × ((not (is_senders conn.local) ≡ host) × (conn.link ≡ Some link))
  has_is conn e =
      let a = and_parts (is_conn_between me n conn && not (beq (is_senders conn.local) host)) (is_number_given conn.link link) e in
      let c = and_parts (is_conn_between me n conn) (not (beq (is_senders conn.local) host)) a.0 in
      (c.0, (of_host (is_senders conn.local) host c.1, given_link conn.link link a.1))

  has_so : (u : Sockets) (conn : ConnState) → HasSockets me n u.0 u.1 conn → receives_at u ≡ host → conn.link ≡ Some link → has conn ≡ true
  has_so u conn h r g =
      ap (λ (x : ℕ). x == me && conn.peer == n && not (beq (is_senders conn.local) host) && is_number_given conn.link link) h.at
      ∙ ap (λ (x : ℕ). me == me && x == n && not (beq (is_senders conn.local) host) && is_number_given conn.link link) h.peer
      ∙ ap (λ (x : ℕ). me == me && n == n && not (beq (is_senders x) host) && is_number_given conn.link link) h.local
      ∙ ap (λ (x : Bool). me == me && n == n && x && is_number_given conn.link link) (is_host (is_senders u.0) host r)
      ∙ ap (λ (x : Option ℕ). me == me && n == n && true && is_number_given x link) g
      ∙ rw (eq-eqb me me refl, eq-eqb n n refl, eq-eqb link link refl) refl

  -- the connection found by a link is the one observed for its sockets
  pub user_found : (b : SeenTables) → AllUnique me n b → (place : ℕ) → position has b.conns ≡ Some place → HasUser me n host link b place
  user_found b unique place e = record {
    u = u;
    user = record {
      place = place;
      found = e;
      seen = first_only (is_of_sockets me n u.0 u.1) has b.conns conn (unique u) (has_sockets_so me n u conn own) (found_first has b.conns place (unasked_conn 0 0 0 0) e);
      sockets = own;
      receives = its.1.0;
      given = its.1.1;
    };
    there = refl;
  }
    where
      conn : ConnState
      conn = conn_at_index b.conns place

      u : Sockets
      u = (conn.local, conn.remote)

      its : (is_conn_between me n conn ≡ true) × ((not (is_senders conn.local) ≡ host) × (conn.link ≡ Some link))
      its = has_is conn (position-Some has b.conns place (unasked_conn 0 0 0 0) e).1

      own : HasSockets me n u.0 u.1 conn
      own =
          let two = and_parts (conn.at == me) (conn.peer == n) its.0 in
          record { at = eqb-true conn.at me two.0; peer = eqb-true conn.peer n two.1; local = refl; remote = refl }

  -- whose life has it is its user
  pub user_seen : (b : SeenTables) → Tidy b → (u : Sockets) (conn : ConnState) → conn_seen me n b u ≡ Some conn → receives_at u ≡ host → conn.link ≡ Some link → UserAt me n host link b u
  user_seen b tidy u conn s r g = go (position has b.conns) refl
    where
      own : HasSockets me n u.0 u.1 conn
      own = has_sockets me n u.0 u.1 conn (first_passes (is_of_sockets me n u.0 u.1) b.conns conn s)

      first_has : first has b.conns ≡ Some conn
      first_has = first_only has (is_of_sockets me n u.0 u.1) b.conns conn (tidy.alone me n host link) (has_so u conn own r g) s

      go : (o : Option ℕ) → position has b.conns ≡ o → UserAt me n host link b u
      go None e = let nay : None ≡ Some conn = sym (none_first has b.conns e) ∙ first_has in absurd (cc nay)
      go (Some i) e =
          let same_conn : conn ≡ conn_at_index b.conns i = cc (sym first_has ∙ found_first has b.conns i (unasked_conn 0 0 0 0) e) in
          record {
            place = i;
            found = e;
            seen = s ∙ ap (λ (x : ConnState). Some x) same_conn;
            sockets = subst (HasSockets me n u.0 u.1) same_conn own;
            receives = r;
            given = ap (λ (x : ConnState). x.link) (sym same_conn) ∙ g;
          }

  -- if the search finds no connection with the link, none has it
  pub none_has : (b : SeenTables) → Tidy b → position has b.conns ≡ None → (u : Sockets) (conn : ConnState) → conn_seen me n b u ≡ Some conn → receives_at u ≡ host → conn.link ≡ Some link → ⊥
  none_has b tidy e u conn s r g = let user = user_seen b tidy u conn s r g in let nay : None ≡ Some user.place = sym e ∙ user.found in cc nay

  -- where the link does not rest, its user does not
  pub user_calm : (b : SeenTables) → Linked me n b → is_marked me n (FactKind.LinkSuspended host link) b ≡ false → (u : Sockets) → UserAt me n host link b u → suspended_of me n b u ≡ false
  user_calm b linked unmarked u user = go (suspended_of me n b u) refl
    where
      go : (x : Bool) → suspended_of me n b u ≡ x → suspended_of me n b u ≡ false
      go false e = e
      go true e =
          let marked = linked u (conn_at_index b.conns user.place) link user.seen (sym (ap is_suspended user.seen) ∙ e) user.given in
          let nay : true ≡ false = sym marked ∙ ap (λ (x : Bool). is_marked me n (FactKind.LinkSuspended x link) b) user.receives ∙ unmarked in absurd (cc nay)

-- ---- where what names a link leads

abbrev pub AtPlace : (ConnState → Bool) → SeenTables → ℕ → Bool → Option ℕ → Type 0
AtPlace closed b place left size = (closed (conn_at_index b.conns place) ≡ left) × ((conn_at_index b.conns place).size ≡ size)

-- closed: the one who speaks has closed it
pub data LeadsTo (me n : ℕ) (closed : ConnState → Bool) (host : Bool) (link : ℕ) (b : SeenTables) (led : LinkTarget) : Type 0 where
  ToRest : led ≡ LinkTarget.Rests → is_marked me n (FactKind.LinkSuspended host link) b ≡ true → LeadsTo me n closed host link b led
  ToNobody : led ≡ LinkTarget.Nobody → is_marked me n (FactKind.LinkSuspended host link) b ≡ false → position (has_link me n host link) b.conns ≡ None → LeadsTo me n closed host link b led
  ToClosed : led ≡ LinkTarget.Closed → is_marked me n (FactKind.LinkSuspended host link) b ≡ false → (u : Sockets) → (user : UserAt me n host link b u) → closed (conn_at_index b.conns user.place) ≡ true → LeadsTo me n closed host link b led
  ToUnasked : (u : Sockets) → (user : UserAt me n host link b u) → led ≡ LinkTarget.Unasked user.place → is_marked me n (FactKind.LinkSuspended host link) b ≡ false → AtPlace closed b user.place false None → LeadsTo me n closed host link b led
  ToOpen : (u : Sockets) → (user : UserAt me n host link b u) → led ≡ LinkTarget.Open user.place → is_marked me n (FactKind.LinkSuspended host link) b ≡ false → (size : ℕ) → AtPlace closed b user.place false (Some size)
      → LeadsTo me n closed host link b led

module _ (me n : ℕ) (closed : ConnState → Bool) (host : Bool) (link : ℕ) (b : SeenTables) (unique : AllUnique me n b) where
  abbrev led_to : Option ℕ → LinkTarget
  led_to None = LinkTarget.Nobody
  led_to (Some place) = target_by (closed (conn_at_index b.conns place)) (conn_at_index b.conns place) place

  abbrev led_by : Bool → Option ℕ → LinkTarget
  led_by marked o = if marked then LinkTarget.Rests else led_to o

  user_led : (u : Sockets) (user : UserAt me n host link b u) (led : LinkTarget) → led ≡ led_to (Some user.place) → is_marked me n (FactKind.LinkSuspended host link) b ≡ false → LeadsTo me n closed host link b led
  user_led u user led e m = go (closed conn) conn.size refl refl (e ∙ ap (λ (o : Option ℕ). if closed conn then LinkTarget.Closed else if is_some o && is_some conn.size then LinkTarget.Open user.place else LinkTarget.Unasked user.place) user.given)
    where
      conn : ConnState
      conn = conn_at_index b.conns user.place

      go : (x : Bool) (o : Option ℕ) → closed conn ≡ x → conn.size ≡ o → led ≡ (if x then LinkTarget.Closed else if is_some o then LinkTarget.Open user.place else LinkTarget.Unasked user.place) → LeadsTo me n closed host link b led
      go true o k s f = ToClosed f m u user k
      go false None k s f = ToUnasked u user f m (k, s)
      go false (Some size) k s f = ToOpen u user f m size (k, s)

  leads : (led : LinkTarget) → led ≡ led_by (is_marked me n (FactKind.LinkSuspended host link) b) (position (has_link me n host link) b.conns) → LeadsTo me n closed host link b led
  leads led e = go (is_marked me n (FactKind.LinkSuspended host link) b) (position (has_link me n host link) b.conns) refl refl e
    where
      go : (marked : Bool) (o : Option ℕ) → is_marked me n (FactKind.LinkSuspended host link) b ≡ marked → position (has_link me n host link) b.conns ≡ o → led ≡ led_by marked o → LeadsTo me n closed host link b led
      go true o m p f = ToRest f m
      go false None m p f = ToNobody f m p
      go false (Some place) m p f =
          let it = user_found me n host link b unique place p in
          user_led it.u it.user led (f ∙ ap (λ (x : ℕ). led_to (Some x)) (sym it.there)) m

module _ (me n : ℕ) (sent : Bool) where
  abbrev flow : ObservedFlow
  flow = record { at = me; peer = n; sent = sent }

  abbrev sent_cls : ConnState → Bool
  sent_cls conn = has_sent_cls conn sent

  -- a command
  pub command_leads : (host : Bool) (link : ℕ) (b : SeenTables) → AllUnique me n b → LeadsTo me n sent_cls host link b (target_on flow (record { host = host; link = link }) b)
  command_leads host link b unique = leads me n sent_cls host link b unique (target_on flow (record { host = host; link = link }) b) (by (is_marked me n (FactKind.LinkSuspended host link) b) (position (has_link me n host link) b.conns))
    where
      by : (marked : Bool) (o : Option ℕ) → (if marked then LinkTarget.Rests else target_at flow b.conns o) ≡ led_by me n sent_cls host link b unique marked o
      by true o = refl
      by false None = refl
      by false (Some place) = refl

  -- a text
  pub text_leads : (link : ℕ) (b : SeenTables) → AllUnique me n b → LeadsTo me n (is_closed_for flow) (not sent) link b (text_target flow link b)
  text_leads link b unique = leads me n (is_closed_for flow) (not sent) link b unique (text_target flow link b) (by (is_marked me n (FactKind.LinkSuspended (not sent) link) b) (position (has_link me n (not sent) link) b.conns))
    where
      by : (marked : Bool) (o : Option ℕ) → (if marked then LinkTarget.Rests else text_target_at flow b.conns o) ≡ led_by me n (is_closed_for flow) (not sent) link b unique marked o
      by true o = refl
      by false None = refl
      by false (Some place) = refl

-- ---- where it is open

-- it leads to the open connection of these sockets
pub record OpensAt (me n : ℕ) (host : Bool) (link : ℕ) (b : SeenTables) (led : LinkTarget) (u : Sockets) : Type 0 where
  pub user : UserAt me n host link b u
  pub leads : led ≡ LinkTarget.Open user.place

-- both have asked, and the host has not left
pub record OpenConn (conn : ConnState) (link : ℕ) : Type 0 where
  pub given : conn.link ≡ Some link
  pub size : ℕ
  pub sized : conn.size ≡ Some size
  pub unleft : conn.host_left ≡ false

pub open_conn : (sends : Bool) (link : ℕ) (conn : ConnState) → is_senders conn.local ≡ sends → is_open_on sends link (Some (of_conn conn)) ≡ true → OpenConn conn link
open_conn sends link conn same_sex e = go sends conn.link conn.size conn.host_left refl refl refl (sym (ap (λ (x : Bool). openly sends x conn.link conn.size conn.host_left) same_sex) ∙ e)
  where
    openly : Bool → Bool → Option ℕ → Option ℕ → Bool → Bool
    openly sends x on size left = is_some (if x then size else on) && is_some (if x then on else size) && not left && is_number_given (if sends then (if x then on else size) else (if x then size else on)) link

    unleft : (b : Bool) → (b && true) ≡ true → b ≡ true
    unleft true e = refl
    unleft false e = absurd (cc e)

    go : (s : Bool) (on size : Option ℕ) (left : Bool) → conn.link ≡ on → conn.size ≡ size → conn.host_left ≡ left → openly s s on size left ≡ true → OpenConn conn link
    go true None (Some k) left a b c e = absurd (cc e)
    go true None None left a b c e = absurd (cc e)
    go true (Some l) None left a b c e = absurd (cc e)
    go true (Some l) (Some k) true a b c e = absurd (cc e)
    go true (Some l) (Some k) false a b c e = record { given = a ∙ ap (λ (x : ℕ). Some x) (eqb-true l link e); size = k; sized = b; unleft = c }
    go false None (Some k) left a b c e = absurd (cc e)
    go false None None left a b c e = absurd (cc e)
    go false (Some l) None left a b c e = absurd (cc e)
    go false (Some l) (Some k) true a b c e = absurd (cc e)
    go false (Some l) (Some k) false a b c e = record { given = a ∙ ap (λ (x : ℕ). Some x) (eqb-true l link e); size = k; sized = b; unleft = c }

module _ (me n : ℕ) (closed : ConnState → Bool) (host : Bool) (link : ℕ) (b : SeenTables) (led : LinkTarget) where
  -- of one whose life has the link and a size, not closed: there
  pub to_open : Tidy b → (u : Sockets) (conn : ConnState) (size : ℕ) → conn_seen me n b u ≡ Some conn → receives_at u ≡ host → conn.link ≡ Some link → conn.size ≡ Some size → closed conn ≡ false → is_marked me n (FactKind.LinkSuspended host link) b ≡ false
      → LeadsTo me n closed host link b led → OpensAt me n host link b led u
  to_open tidy u conn size s r g z k m l = go l
    where
      user : UserAt me n host link b u
      user = user_seen me n host link b tidy u conn s r g

      its : conn_at_index b.conns user.place ≡ conn
      its = cc (sym user.seen ∙ s)

      at_one : (v : Sockets) (other : UserAt me n host link b v) → other.place ≡ user.place
      at_one v other = cc (sym other.found ∙ user.found)

      there : (place : ℕ) → place ≡ user.place → conn_at_index b.conns place ≡ conn
      there place e = ap (conn_at_index b.conns) e ∙ its

      go : LeadsTo me n closed host link b led → OpensAt me n host link b led u
      go (ToRest e x) = let nay : true ≡ false = sym x ∙ m in absurd (cc nay)
      go (ToNobody e x p) = let nay : None ≡ Some user.place = sym p ∙ user.found in absurd (cc nay)
      go (ToClosed e x v other y) = let nay : true ≡ false = sym y ∙ ap closed (there other.place (at_one v other)) ∙ k in absurd (cc nay)
      go (ToUnasked v other e x y) = let nay : None ≡ Some size = sym y.1 ∙ ap (λ (i : ConnState). i.size) (there other.place (at_one v other)) ∙ z in absurd (cc nay)
      go (ToOpen v other e x given y) = record { user = user; leads = e ∙ ap (λ (i : ℕ). LinkTarget.Open i) (at_one v other) }

-- what the host says of an open connection whose link does not rest leads to it
pub own_open : (me n : ℕ) (b : SeenTables) → Tidy b → AllUnique me n b → (u : Sockets) (link : ℕ) → is_open_on (is_senders u.0) link (seen_of me n b u) ≡ true → is_marked me n (FactKind.LinkSuspended (receives_at u) link) b ≡ false
    → OpensAt me n (receives_at u) link b (target_on (flow me n true) (record { host = receives_at u; link = link }) b) u
own_open me n b tidy unique u link e m = go (conn_seen me n b u) refl e
  where
    go : (o : Option ConnState) → conn_seen me n b u ≡ o → is_open_on (is_senders u.0) link (seen o) ≡ true → OpensAt me n (receives_at u) link b (target_on (flow me n true) (record { host = receives_at u; link = link }) b) u
    go None s e = absurd (cc e)
    go (Some conn) s e =
        let local = (has_sockets me n u.0 u.1 conn (first_passes (is_of_sockets me n u.0 u.1) b.conns conn s)).local in
        let is = open_conn (is_senders u.0) link conn (ap is_senders local) e in
        to_open me n (sent_cls me n true) (receives_at u) link b (target_on (flow me n true) (record { host = receives_at u; link = link }) b) tidy u conn is.size s refl is.given is.sized is.unleft m
        (command_leads me n true (receives_at u) link b unique)

-- and a text of it, where the other has not closed
pub own_text_open : (me n : ℕ) (b : SeenTables) → Tidy b → AllUnique me n b → (u : Sockets) (conn : ConnState) (link size : ℕ) → conn_seen me n b u ≡ Some conn → receives_at u ≡ false → conn.link ≡ Some link → conn.size ≡ Some size
    → conn.host_left ≡ false → conn.peer_left ≡ false → is_marked me n (FactKind.LinkSuspended false link) b ≡ false → OpensAt me n false link b (text_target (flow me n true) link b) u
own_text_open me n b tidy unique u conn link size s r g z k j m =
    to_open me n (is_closed_for (flow me n true)) false link b (text_target (flow me n true) link b) tidy u conn size s r g z
    (ap (λ (x : Bool). x || (true && conn.peer_left)) k ∙ j) m
    (text_leads me n true link b unique)

-- ---- the same connection with other numbers

module _ (me n : ℕ) (host : Bool) (link : ℕ) (b : SeenTables) (u : Sockets) (user : UserAt me n host link b u) (messages bits : ℕ) (recall came : Bool) where
  abbrev old : ConnState
  old = conn_at_index b.conns user.place

  abbrev conn : ConnState
  conn = numbered messages bits recall came old

  abbrev pub renumbered : SeenTables
  renumbered = put_conn b (Some user.place) conn

  abbrev its : ConnState → Bool
  its = has_link me n host link

  as_set : renumbered.conns ≡ set_first its conn b.conns
  as_set = set_found its conn b.conns user.place (unasked_conn 0 0 0 0) user.found

  was : first its b.conns ≡ Some old
  was = found_first its b.conns user.place (unasked_conn 0 0 0 0) user.found

  own : is_of_sockets me n u.0 u.1 old ≡ true
  own = has_sockets_so me n u old user.sockets

  apart : (v : Sockets) → same v u ≡ false → is_of_sockets me n v.0 v.1 old ≡ false
  apart v d = others_distinct me n u.0 u.1 v.0 v.1 (others_are v u d) old own

  pub renumbered_here : AllUnique me n b → conn_seen me n renumbered u ≡ Some conn
  renumbered_here unique = ap (first (is_of_sockets me n u.0 u.1)) as_set ∙ first_put (is_of_sockets me n u.0 u.1) its b.conns conn old (unique u) was own own

  pub renumbered_others : (v : Sockets) → same v u ≡ false → conn_seen me n renumbered v ≡ conn_seen me n b v
  renumbered_others v d = ap (first (is_of_sockets me n v.0 v.1)) as_set ∙ other_put (is_of_sockets me n v.0 v.1) its b.conns conn old was (apart v d) (apart v d)

  pub renumbered_seen : AllUnique me n b → (v : Sockets) → seen_of me n renumbered v ≡ seen_of me n b v
  renumbered_seen unique v = go (same v u) refl
    where
      go : (x : Bool) → same v u ≡ x → seen_of me n renumbered v ≡ seen_of me n b v
      go true s =
          let here : seen_of me n renumbered u ≡ seen_of me n b u = ap seen (renumbered_here unique) ∙ sym (ap seen user.seen) in
          subst (λ (y : Sockets). seen_of me n renumbered y ≡ seen_of me n b y) (sym (same_is v u s)) here
      go false s = ap seen (renumbered_others v s)

  pub renumbered_suspended : AllUnique me n b → (v : Sockets) → suspended_of me n renumbered v ≡ suspended_of me n b v
  renumbered_suspended unique v = go (same v u) refl
    where
      go : (x : Bool) → same v u ≡ x → suspended_of me n renumbered v ≡ suspended_of me n b v
      go true s =
          let here : suspended_of me n renumbered u ≡ suspended_of me n b u = ap is_suspended (renumbered_here unique) ∙ sym (ap is_suspended user.seen) in
          subst (λ (y : Sockets). suspended_of me n renumbered y ≡ suspended_of me n b y) (sym (same_is v u s)) here
      go false s = ap is_suspended (renumbered_others v s)

  pub renumbered_unique : AllUnique me n b → AllUnique me n renumbered
  renumbered_unique unique v = subst (Unique (is_of_sockets me n v.0 v.1)) (sym as_set) (unique_put (is_of_sockets me n v.0 v.1) its b.conns conn old was (λ z. inl z) (unique v))

  pub renumbered_tidy : Tidy b → Tidy renumbered
  renumbered_tidy tidy = put_tidy its b.conns user.place conn user.found (λ at peer other on z. inl z) (range_there its b.conns user.place user.found tidy) tidy

  pub renumbered_linked : AllUnique me n b → Linked me n b → Linked me n renumbered
  renumbered_linked unique linked v one on s r g = go (same v u) refl
    where
      go : (x : Bool) → same v u ≡ x → is_marked me n (FactKind.LinkSuspended (receives_at v) on) b ≡ true
      go true d =
          let is : conn ≡ one = cc (sym (renumbered_here unique) ∙ ap (conn_seen me n renumbered) (sym (same_is v u d)) ∙ s) in
          subst (λ (y : Sockets). is_marked me n (FactKind.LinkSuspended (receives_at y) on) b ≡ true) (sym (same_is v u d))
          (linked u old on user.seen (ap (λ (x : ConnState). x.suspended) is ∙ r) (ap (λ (x : ConnState). x.link) is ∙ g))
      go false d = linked v one on (sym (renumbered_others v d) ∙ s) r g
