-- A link that does not rest, and that no connection has that does not rest, has no user: then a request of the host with it
-- is right.
use Rattle.std.proofs.Common.{◌≡◌, ℕ, ◌==◌, Bool, true, false, not, ◌&&◌, if◌then◌else◌, List, [], ◌∷◌, Option, None, Some, eq-eqb, refl, sym, ap, ◌∙◌}
use Rattle.std.specs.List.{position}
use Rattle.std.proofs.Math.Bool.{beq}
use Rattle.std.proofs.lemmas.Bool.{eqb-true, and_parts}
use Rattle.ncp_wire.specs.declared.command.Command.{Command}
use Rattle.ncp_monitor.specs.declared.conn_state.ConnState.{ConnState}
use Rattle.ncp_interface.specs.declared.request.Request.{Request}
use Rattle.ncp_monitor.specs.declared.conn_state.FactKind.{FactKind}
use Rattle.ncp_monitor.specs.declared.observed_flow.ObservedFlow.{ObservedFlow}
use Rattle.ncp_monitor.specs.declared.observed_flow.Acceptance.TheVariants.{Right, Unclear}
use Rattle.ncp_monitor.specs.ConnStates.{SeenTables, unasked_conn, is_of_sockets, is_conn_between, has_link, conn_found, conn_of, user_of, is_marked}
use Rattle.ncp_interface.specs.Sockets.{is_senders, is_number_given}
use Rattle.ncp_monitor.specs.Requests.{range_rule, link_suspended, link_acceptance, conn_acceptance, ranged_acceptance, request_acceptance, left_acceptance}
use Rattle.ncp_monitor.proofs.Shapes.{Ask, Leave, legal}
use Rattle.ncp_monitor.proofs.LinkOrder.{Sockets, Lacks, number_of}
use Rattle.ncp_monitor.proofs.Firsts.{first, found_first, none_first, Unique}
use Rattle.ncp_monitor.proofs.BooksAt.{has_sockets, conn_first}
use Rattle.ncp_monitor.proofs.Seeing.{seen, is_of, number_in, own_right, own_leaves}
use Rattle.ncp_proof_monitor_allocation.proofs.SeenTables.{conn_seen, seen_of, is_suspended, suspended_of, links_of, receives_at}

pub first_passes : {A : Type 0} (t : A → Bool) (xs : List A) (z : A) → first t xs ≡ Some z → t z ≡ true
first_passes t [] z e = absurd (cc e)
first_passes t (x ∷ xs) z e = go (t x) refl (first_passes t xs z) e
  where
    go : (b : Bool) → t x ≡ b → (first t xs ≡ Some z → t z ≡ true) → (if b then Some x else first t xs) ≡ Some z → t z ≡ true
    go true k rest e = let same : x ≡ z = cc e in ap t (sym same) ∙ k
    go false k rest e = rest e

-- what no connection of any sockets passes, no connection passes
pub none_used : (me n : ℕ) (t : ConnState → Bool) (conns : List ConnState) → ((x : ConnState) → t x ≡ true → is_conn_between me n x ≡ true) → ((u : Sockets) → Unique (is_of_sockets me n u.0 u.1) conns)
    → ((u : Sockets) (conn : ConnState) → first (is_of_sockets me n u.0 u.1) conns ≡ Some conn → t conn ≡ false) → first t conns ≡ None
none_used me n t [] between unique p = refl
none_used me n t (x ∷ xs) between unique p = go (t x) refl (none_used me n t xs between (λ u. (unique u).1) behind)
  where
    behind : (u : Sockets) (conn : ConnState) → first (is_of_sockets me n u.0 u.1) xs ≡ Some conn → t conn ≡ false
    behind u conn e = by (is_of_sockets me n u.0 u.1 x) refl
      where
        by : (b : Bool) → is_of_sockets me n u.0 u.1 x ≡ b → t conn ≡ false
        by true k = let nay : None ≡ Some conn = sym ((unique u).0 k) ∙ e in absurd (cc nay)
        by false k = p u conn (ap (λ (b : Bool). if b then Some x else first (is_of_sockets me n u.0 u.1) xs) k ∙ e)

    own : is_conn_between me n x ≡ true → is_of_sockets me n x.local x.remote x ≡ true
    own k =
        ap (λ (b : Bool). b && (x.local == x.local) && (x.remote == x.remote)) k
        ∙ ap (λ (b : Bool). true && b && (x.remote == x.remote)) (eq-eqb x.local x.local refl)
        ∙ eq-eqb x.remote x.remote refl

    here : is_conn_between me n x ≡ true → t x ≡ false
    here k = p (x.local, x.remote) x (ap (λ (b : Bool). if b then Some x else first (is_of_sockets me n x.local x.remote) xs) (own k))

    go : (b : Bool) → t x ≡ b → first t xs ≡ None → (if b then Some x else first t xs) ≡ None
    go true k rest = let nay : true ≡ false = sym k ∙ here (between x k) in absurd (cc nay)
    go false k rest = rest

pub found_at_first : (t : ConnState → Bool) (conns : List ConnState) → conn_found conns (position t conns) ≡ first t conns
found_at_first t conns = go (position t conns) refl
  where
    go : (o : Option ℕ) → position t conns ≡ o → conn_found conns o ≡ first t conns
    go None e = sym (none_first t conns e)
    go (Some i) e = sym (found_first t conns i (unasked_conn 0 0 0 0) e)

used_between : (me n link : ℕ) (host : Bool) (x : ConnState) → has_link me n host link x ≡ true → is_conn_between me n x ≡ true
used_between me n link host x e =
    (and_parts (is_conn_between me n x) (not (beq (is_senders x.local) host)) (and_parts (is_conn_between me n x && not (beq (is_senders x.local) host)) (is_number_given x.link link) e).0).0

-- the link of a suspended connection is suspended
abbrev pub Linked : ℕ → ℕ → SeenTables → Type 0
Linked me n conn_tables = (u : Sockets) (conn : ConnState) (link : ℕ) → conn_seen me n conn_tables u ≡ Some conn → conn.suspended ≡ true → conn.link ≡ Some link → is_marked me n (FactKind.LinkSuspended (receives_at u) link) conn_tables ≡ true

given_is : (o : Option ℕ) (link : ℕ) → is_number_given o link ≡ true → o ≡ Some link
given_is None link e = absurd (cc e)
given_is (Some given) link e = ap (λ (x : ℕ). Some x) (eqb-true given link e)

not_host : (b : Bool) → not (beq b true) ≡ true → b ≡ false
not_host true e = absurd (cc e)
not_host false e = refl

module _ (me n link : ℕ) (conn_tables : SeenTables) (unique : (u : Sockets) → Unique (is_of_sockets me n u.0 u.1) conn_tables.conns) (linked : Linked me n conn_tables) where
  pub unused : links_of me n conn_tables link ≡ false → ((u : Sockets) → suspended_of me n conn_tables u ≡ false → receives_at u ≡ true → Lacks link (seen_of me n conn_tables u)) → user_of me n true link conn_tables.conns ≡ None
  unused unmarked lacks = found_at_first (has_link me n true link) conn_tables.conns ∙ none_used me n (has_link me n true link) conn_tables.conns (used_between me n link true) unique none
    where
      none : (u : Sockets) (conn : ConnState) → conn_seen me n conn_tables u ≡ Some conn → has_link me n true link conn ≡ false
      none u conn e = go (has_link me n true link conn) refl
        where
          go : (b : Bool) → has_link me n true link conn ≡ b → has_link me n true link conn ≡ false
          go false k = k
          go true k = absurd (by conn.suspended refl)
            where
              parts : ((is_conn_between me n conn && not (beq (is_senders conn.local) true)) ≡ true) × (is_number_given conn.link link ≡ true)
              parts = and_parts (is_conn_between me n conn && not (beq (is_senders conn.local) true)) (is_number_given conn.link link) k

              receiver : is_senders conn.local ≡ false
              receiver = not_host (is_senders conn.local) (and_parts (is_conn_between me n conn) (not (beq (is_senders conn.local) true)) parts.0).1

              its : conn.link ≡ Some link
              its = given_is conn.link link parts.1

              local : conn.local ≡ u.0
              local = (has_sockets me n u.0 u.1 conn (first_passes (is_of_sockets me n u.0 u.1) conn_tables.conns conn e)).local

              here : receives_at u ≡ true
              here = ap (λ (x : ℕ). not (is_senders x)) (sym local) ∙ ap not receiver

              by : (r : Bool) → conn.suspended ≡ r → ⊥
              by true r =
                  let m : is_marked me n (FactKind.LinkSuspended true link) conn_tables ≡ true = ap (λ (b : Bool). is_marked me n (FactKind.LinkSuspended b link) conn_tables) (sym here) ∙ linked u conn link e r its in
                  let nay : true ≡ false = sym m ∙ unmarked in cc nay
              by false r =
                  lacks u (ap is_suspended e ∙ r) here
                  (ap (λ (o : Option ConnState). number_of (seen o)) e ∙ ap (λ (b : Bool). if b then conn.size else conn.link) receiver ∙ its)

  -- ---- the verdict of what the host says

  abbrev said : ObservedFlow
  said = record { at = me; peer = n; sent = true }

  -- where the connection does not rest, and the request is right but for its link
  own_conn_right : (c : Command) (request : Request) (o : Option ConnState) → ((conn : ConnState) → o ≡ Some conn → is_of (is_senders conn.local) true request ≡ true) → is_suspended o ≡ false → legal (Ask (number_in request)) (seen o) ≡ true
      → conn_acceptance said c request conn_tables o ≡ link_acceptance said c request conn_tables
  own_conn_right c request None k r l = refl
  own_conn_right c request (Some conn) k r l = own_right said c request conn_tables conn refl (k conn refl) r l

  pub own_request_right : (c : Command) (p : Sockets) (request : Request) → is_of (is_senders p.0) true request ≡ true → range_rule c request ≡ None → link_suspended said request conn_tables ≡ false → suspended_of me n conn_tables p ≡ false
      → legal (Ask (number_in request)) (seen_of me n conn_tables p) ≡ true → link_acceptance said c request conn_tables ≡ Right → request_acceptance said c p.0 p.1 true request conn_tables ≡ Right
  own_request_right c p request k range suspended r l right =
      ap (ranged_acceptance said c p.0 p.1 request conn_tables) range
      ∙ ap (λ (b : Bool). if b then Unclear None else conn_acceptance said c request conn_tables (conn_of me n p.0 p.1 conn_tables.conns)) suspended
      ∙ ap (conn_acceptance said c request conn_tables) (conn_first me n p.0 p.1 conn_tables.conns)
      ∙ own_conn_right c request (conn_seen me n conn_tables p) local r l
      ∙ right
    where
      local : (conn : ConnState) → conn_seen me n conn_tables p ≡ Some conn → is_of (is_senders conn.local) true request ≡ true
      local conn e = ap (λ (x : ℕ). is_of (is_senders x) true request) (has_sockets me n p.0 p.1 conn (first_passes (is_of_sockets me n p.0 p.1) conn_tables.conns conn e)).local ∙ k

  -- a CLS
  pub own_cls_right : (c : Command) (p : Sockets) → suspended_of me n conn_tables p ≡ false → legal Leave (seen_of me n conn_tables p) ≡ true → left_acceptance said c (conn_of me n p.0 p.1 conn_tables.conns) ≡ Right
  own_cls_right c p r l = ap (left_acceptance said c) (conn_first me n p.0 p.1 conn_tables.conns) ∙ go (conn_seen me n conn_tables p) r l
    where
      go : (o : Option ConnState) → is_suspended o ≡ false → legal Leave (seen o) ≡ true → left_acceptance said c o ≡ Right
      go None r l = absurd (cc l)
      go (Some conn) r l = own_leaves said c conn refl r l
