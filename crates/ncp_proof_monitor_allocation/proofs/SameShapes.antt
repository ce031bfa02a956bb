-- Two connection tables with the same shapes and the same suspended connections: if one matches the
-- host's state and its queued commands, so does the other.
use Rattle.std.proofs.Common.{◌≡◌, ℕ, Bool, true, false, if◌then◌else◌, List, ◌⊎◌, inl, inr, refl, sym, ap, ◌∙◌, subst}
use Rattle.ncp_wire.specs.declared.command.Command.{Command}
use Rattle.ncp_model.specs.Ends.{Ends}
use Rattle.ncp_monitor.specs.declared.conn_state.ConnState.{ConnState}
use Rattle.ncp_monitor.specs.declared.conn_state.FactKind.{FactKind}
use Rattle.ncp_monitor.specs.ConnStates.{SeenTables, is_of_sockets, is_marked}
use Rattle.ncp_monitor.proofs.LinkOrder.{Sockets, same, same_is, about}
use Rattle.ncp_monitor.proofs.Firsts.{first, Unique}
use Rattle.ncp_monitor.proofs.Seeing.{seen}
use Rattle.ncp_proof_monitor_allocation.proofs.OwnMoves.{all_says}
use Rattle.ncp_proof_monitor_allocation.proofs.Tallies.{suspended_tally}
use Rattle.ncp_proof_monitor_allocation.proofs.Changed.{kept_of}
use Rattle.ncp_proof_monitor_allocation.proofs.SeenTables.{conn_seen, seen_of, is_suspended, suspended_of, links_of, receives_at}
use Rattle.ncp_proof_monitor_allocation.proofs.Users.{Linked}
use Rattle.ncp_proof_monitor_allocation.proofs.LinkPlaces.{UserAt, AllUnique, renumbered, renumbered_here, renumbered_others, renumbered_seen, renumbered_suspended, renumbered_unique, renumbered_linked}
use Rattle.ncp_proof_monitor_allocation.proofs.Meets.{Meets}
use Rattle.ncp_proof_monitor_allocation.proofs.Untaken.{Held}
use Rattle.ncp_proof_monitor_allocation.proofs.Came.{asks_in, has_come, Came}

pub record SameShapes (me n : ℕ) (b now : SeenTables) : Type 0 where
  pub shapes : (v : Sockets) → seen_of me n now v ≡ seen_of me n b v
  pub suspended : (v : Sockets) → suspended_of me n now v ≡ suspended_of me n b v
  pub came : (v : Sockets) → has_come (conn_seen me n b v) ≡ true → has_come (conn_seen me n now v) ≡ true
  pub links : (on : Bool) (link : ℕ) → is_marked me n (FactKind.LinkSuspended on link) b ≡ true → is_marked me n (FactKind.LinkSuspended on link) now ≡ true
  pub unique : AllUnique me n now
  pub linked : Linked me n now

-- ---- what meets, goes on meeting

pub shapes_meets : (me n : ℕ) (m : Ends) (w : List Command) (b now : SeenTables) → SameShapes me n b now → Meets me n m w b → Meets me n m w now
shapes_meets me n m w b now k meets = record {
  tally =
      suspended_tally receives_at (links_of me n b) (suspended_of me n b) (links_of me n now) (suspended_of me n now) (all_says w) (kept_of m) (seen_of me n b) (kept_of m) (seen_of me n now)
      (λ link z. k.links true link z) (λ v r. (sym (k.suspended v) ∙ r, (refl, k.shapes v))) meets.tally;
  unique = k.unique;
  linked = k.linked;
}

pub shapes_held : (me n : ℕ) (m : Ends) (b now : SeenTables) → SameShapes me n b now → Held me n m b → Held me n m now
shapes_held me n m b now k held u e g r s h = k.links false e.link (held u e g (sym (k.suspended u) ∙ r) s h)

pub shapes_came : (me n : ℕ) (m : Ends) (w : List Command) (b now : SeenTables) → SameShapes me n b now → Came me n m w b → Came me n m w now
shapes_came me n m w b now k came u e g r s = go (came u e g r s)
  where
    by : (x : Bool) → (if x then is_marked me n (FactKind.LinkSuspended true e.link) b else has_come (conn_seen me n b u)) ≡ true → (if x then is_marked me n (FactKind.LinkSuspended true e.link) now else has_come (conn_seen me n now u)) ≡ true
    by true z = k.links true e.link z
    by false z = k.came u z

    go : (suspended_of me n b u ≡ true) ⊎ ((if asks_in (about u (all_says w)) then is_marked me n (FactKind.LinkSuspended true e.link) b else has_come (conn_seen me n b u)) ≡ true)
        → (suspended_of me n now u ≡ true) ⊎ ((if asks_in (about u (all_says w)) then is_marked me n (FactKind.LinkSuspended true e.link) now else has_come (conn_seen me n now u)) ≡ true)
    go (inl z) = inl (k.suspended u ∙ z)
    go (inr z) = inr (by (asks_in (about u (all_says w))) z)

-- ---- the same connections

pub conns_same : (me n : ℕ) (b now : SeenTables) → now.conns ≡ b.conns → ((on : Bool) (link : ℕ) → is_marked me n (FactKind.LinkSuspended on link) b ≡ true → is_marked me n (FactKind.LinkSuspended on link) now ≡ true) → AllUnique me n b → Linked me n b → SameShapes me n b now
conns_same me n b now l links unique linked = record {
  shapes = λ v. ap seen (there v);
  suspended = λ v. ap is_suspended (there v);
  came = λ v z. ap has_come (there v) ∙ z;
  links = links;
  unique = λ v. subst (Unique (is_of_sockets me n v.0 v.1)) (sym l) (unique v);
  linked = λ v conn link e r g. links (receives_at v) link (linked v conn link (sym (there v) ∙ e) r g);
}
  where
    there : (v : Sockets) → conn_seen me n now v ≡ conn_seen me n b v
    there v = ap (λ (xs : List ConnState). first (is_of_sockets me n v.0 v.1) xs) l

-- with other numbers of one
module _ (me n : ℕ) (host : Bool) (link : ℕ) (b : SeenTables) (u : Sockets) (user : UserAt me n host link b u) (messages bits : ℕ) (recall came : Bool) (unique : AllUnique me n b) (linked : Linked me n b) where
  pub numbered_same : (has_come (conn_seen me n b u) ≡ true → came ≡ true) → SameShapes me n b (renumbered me n host link b u user messages bits recall came)
  numbered_same still = record {
    shapes = λ v. renumbered_seen me n host link b u user messages bits recall came unique v;
    suspended = λ v. renumbered_suspended me n host link b u user messages bits recall came unique v;
    came = λ v z. by v (same v u) refl z;
    links = λ on l z. z;
    unique = renumbered_unique me n host link b u user messages bits recall came unique;
    linked = renumbered_linked me n host link b u user messages bits recall came unique linked;
  }
    where
      by : (v : Sockets) (x : Bool) → same v u ≡ x → has_come (conn_seen me n b v) ≡ true → has_come (conn_seen me n (renumbered me n host link b u user messages bits recall came) v) ≡ true
      by v true s z =
          ap (λ (y : Sockets). has_come (conn_seen me n (renumbered me n host link b u user messages bits recall came) y)) (same_is v u s)
          ∙ ap has_come (renumbered_here me n host link b u user messages bits recall came unique)
          ∙ still (ap (λ (y : Sockets). has_come (conn_seen me n b y)) (sym (same_is v u s)) ∙ z)
      by v false s z = ap has_come (renumbered_others me n host link b u user messages bits recall came v s) ∙ z

pub shapes_then : (me n : ℕ) (a b c : SeenTables) → SameShapes me n a b → SameShapes me n b c → SameShapes me n a c
shapes_then me n a b c j k = record {
  shapes = λ v. k.shapes v ∙ j.shapes v;
  suspended = λ v. k.suspended v ∙ j.suspended v;
  came = λ v z. k.came v (j.came v z);
  links = λ on link z. k.links on link (j.links on link z);
  unique = k.unique;
  linked = k.linked;
}
