-- Where a link that does not rest leads, as it is seen, to nobody, or to a connection that the other has closed: no end of the host
-- heard that link, or it is on its way out, and a command of the other that names the link changes nothing.
use Rattle.std.proofs.Common.{◌≡◌, ℕ, Bool, true, false, not, if◌then◌else◌, List, [], ◌∷◌, Option, None, Some, ◌⊎◌, inl, inr, refl, sym, ap, ◌∙◌, subst}
use Rattle.std.specs.List.{position}
use Rattle.std.proofs.lemmas.Bool.{and_parts}
use Rattle.ncp_wire.specs.declared.command.Command.{Command}
use Rattle.ncp_wire.specs.declared.command.Command.TheVariants.{All, Gvb, Inr}
use Rattle.ncp_model.specs.declared.pair.Pair.{Pair}
use Rattle.ncp_model.specs.declared.outcomes.Heard.{Heard}
use Rattle.ncp_model.specs.declared.outcomes.Heard.TheVariants.{Reply}
use Rattle.ncp_model.specs.Pairs.{sends, is_receive}
use Rattle.ncp_model.specs.Endpoint.{Endpoint, is_closing}
use Rattle.ncp_model.specs.Effect.{Effect, answer, error_of, made_by_hearing, not_connected}
use Rattle.ncp_model.specs.Commands.{at_open, all_at, gvb_at, interrupted}
use Rattle.ncp_model.specs.Ends.{Ends, sender_on, end_of, demux_command, hear, map_after_at}
use Rattle.ncp_proof_endpoint.specs.Sound.{SoundAt}
use Rattle.ncp_proof_machine.proofs.EndsGood.{EndsInvariant}
use Rattle.ncp_monitor.specs.declared.conn_state.ConnState.{ConnState}
use Rattle.ncp_monitor.specs.declared.conn_state.FactKind.{FactKind}
use Rattle.ncp_monitor.specs.ConnStates.{SeenTables, is_of_sockets, has_link, conn_at_index, is_marked}
use Rattle.ncp_interface.specs.Sockets.{is_senders}
use Rattle.ncp_monitor.proofs.Shapes.{Shape, Say, Ask, Leave, Agrees, own_step, others_of, is_closed, others_were}
use Rattle.ncp_monitor.proofs.LinkOrder.{Sockets, about}
use Rattle.ncp_monitor.proofs.BooksAt.{has_sockets}
use Rattle.ncp_monitor.proofs.Seeing.{of_conn, seen}
use Rattle.ncp_proof_monitor_allocation.proofs.KeptEnds.{kept, number_if}
use Rattle.ncp_proof_monitor_allocation.proofs.OwnMoves.{all_says, sockets_of}
use Rattle.ncp_proof_monitor_allocation.proofs.Changed.{pair_at, kept_of}
use Rattle.ncp_proof_monitor_allocation.proofs.SeenTables.{conn_seen, seen_of, suspended_of, receives_at}
use Rattle.ncp_proof_monitor_allocation.proofs.Users.{first_passes}
use Rattle.ncp_proof_monitor_allocation.proofs.Untaken.{Held}
use Rattle.ncp_proof_monitor_allocation.proofs.TidyBooks.{Tidy}
use Rattle.ncp_proof_monitor_allocation.proofs.LinkPlaces.{UserAt, user_seen, none_has}
use Rattle.ncp_proof_monitor_allocation.proofs.LinksHeard.{closed_going}
use Rattle.ncp_proof_monitor_allocation.proofs.LinksReach.{Led, led_sender}
use Rattle.ncp_proof_monitor_allocation.proofs.LinksOpen.{Unheeded, unheeded, same_ends}

-- ---- a connection that the other has closed is closed at the host, if the host has heard of it

still_closed : (c : Say) (m : Option Shape) → (is_closed m ≡ true) ⊎ (others_of m ≡ None) → (is_closed (own_step c m) ≡ true) ⊎ (others_of (own_step c m) ≡ None)
still_closed (Ask n) None k = inr refl
still_closed (Ask n) (Some s) k = k
still_closed Leave None k = inr refl
still_closed Leave (Some s) k = go s.cls refl k
  where
    go : (x : Bool) → s.cls ≡ x → (s.cls ≡ true) ⊎ (s.others ≡ None) → (is_closed (if x then None else Some (record s { left = true })) ≡ true) ⊎ (others_of (if x then None else Some (record s { left = true })) ≡ None)
    go true e k = inr refl
    go false e k = k

pub closed_stays : (q : List Say) (e m : Option Shape) (l : ℕ) → (is_closed m ≡ true) ⊎ (others_of m ≡ None) → Agrees q e m → others_of e ≡ Some l → is_closed e ≡ true
closed_stays [] e m l (inl k) a o = ap is_closed (sym a) ∙ k
closed_stays [] e m l (inr k) a o = absurd (cc (sym k ∙ ap others_of a ∙ o))
closed_stays (c ∷ q) e m l k (r, a) o = closed_stays q e (own_step c m) l (still_closed c m k) a o

-- ---- what is seen of an end that heard the link

pub record HeardSeen (me n on : ℕ) (b : SeenTables) (pair : Pair) (e : Endpoint) : Type 0 where
  pub conn : ConnState
  pub seen : conn_seen me n b (sockets_of pair) ≡ Some conn
  pub sends : receives_at (sockets_of pair) ≡ false
  pub given : conn.link ≡ Some on
  pub closed : conn.peer_left ≡ true → is_closing e ≡ true

module _ (me n on : ℕ) (m : Ends) (w : List Command) (b : SeenTables) (good : EndsInvariant m) (tidy : Tidy b) (held : Held me n m b) (pairs : (u : Sockets) → suspended_of me n b u ≡ false → Agrees (about u (all_says w)) (kept_of m u) (seen_of me n b u)) (unmarked : is_marked me n (FactKind.LinkSuspended false on) b ≡ false) where
  pub heard_seen : (pair : Pair) (e : Endpoint) → Led m on (sends pair) e.heard pair e → HeardSeen me n on b pair e
  heard_seen pair e l = by_rest (suspended_of me n b u) refl
    where
      u : Sockets
      u = sockets_of pair

      q : List Say
      q = about u (all_says w)

      sender : is_senders pair.local ≡ true
      sender = (and_parts (is_senders pair.local) (is_receive pair.remote) l.sex).0

      shape : others_of (kept_of m u) ≡ Some on
      shape =
          ap (λ (o : Option Endpoint). others_of (kept (sends pair) o)) l.there
          ∙ ap (λ (x : Bool). others_of (kept x (Some e))) l.sex
          ∙ ap (λ (x : Bool). number_if x e.link) l.marked
          ∙ ap (λ (x : ℕ). Some x) l.its_link

      shut : is_closed (kept_of m u) ≡ true → is_closing e ≡ true
      shut k = closed_going pair e (subst (SoundAt pair) l.there (good.sound pair)) (sym (ap (λ (o : Option Endpoint). is_closed (kept (sends pair) o)) l.there) ∙ k)

      by_conn : (o : Option ConnState) → conn_seen me n b u ≡ o → Agrees q (kept_of m u) (seen o) → HeardSeen me n on b pair e
      by_conn None f a = absurd (cc (others_were q (kept_of m u) None on a shape))
      by_conn (Some conn) f a =
          let local = (has_sockets me n u.0 u.1 conn (first_passes (is_of_sockets me n u.0 u.1) b.conns conn f)).local in
          record {
            conn = conn;
            seen = f;
            sends = ap not sender;
            given = sym (ap (λ (x : Bool). if x then conn.link else conn.size) (ap is_senders local ∙ sender)) ∙ others_were q (kept_of m u) (Some (of_conn conn)) on a shape;
            closed = λ k. shut (closed_stays q (kept_of m u) (Some (of_conn conn)) on (inl k) a shape);
          }

      by_rest : (r : Bool) → suspended_of me n b u ≡ r → HeardSeen me n on b pair e
      by_rest true r =
          let marked : is_marked me n (FactKind.LinkSuspended false on) b ≡ true = ap (λ (x : ℕ). is_marked me n (FactKind.LinkSuspended false x) b) (sym l.its_link) ∙ held u e l.there r l.sex l.marked in
          absurd (cc (marked, unmarked))
      by_rest false r = by_conn (conn_seen me n b u) refl (pairs u r)

  -- ---- nobody has the link: no end heard it

  pub none_heard : position (has_link me n false on) b.conns ≡ None → sender_on on m ≡ None
  none_heard p = go (sender_on on m) refl
    where
      go : (o : Option (Pair × Endpoint)) → sender_on on m ≡ o → o ≡ None
      go None f = refl
      go (Some q) f =
          let s = heard_seen q.0 q.1 (led_sender m on q.0 q.1 f) in
          absurd (none_has me n false on b tidy p (sockets_of q.0) s.conn s.seen s.sends s.given)

  -- ---- the other has closed it: the end is on its way out

  pub user_out : (u : Sockets) (user : UserAt me n false on b u) → (conn_at_index b.conns user.place).peer_left ≡ true → (q : Pair × Endpoint) → sender_on on m ≡ Some q → is_closing q.1 ≡ true
  user_out u user c q f =
      let s = heard_seen q.0 q.1 (led_sender m on q.0 q.1 f) in
      let other = user_seen me n false on b tidy (sockets_of q.0) s.conn s.seen s.sends s.given in
      let place : other.place ≡ user.place = cc (sym other.found ∙ user.found) in
      let conn : conn_at_index b.conns other.place ≡ s.conn = cc (sym other.seen ∙ s.seen) in
      s.closed (ap (λ (x : ConnState). x.peer_left) (sym conn) ∙ ap (λ (x : ℕ). (conn_at_index b.conns x).peer_left) place ∙ c)

  -- the end that has the link is that of its user
  pub end_of_user : (u : Sockets) (user : UserAt me n false on b u) (q : Pair × Endpoint) → sender_on on m ≡ Some q → q.0 ≡ pair_at u
  end_of_user u user q f =
      let s = heard_seen q.0 q.1 (led_sender m on q.0 q.1 f) in
      let other = user_seen me n false on b tidy (sockets_of q.0) s.conn s.seen s.sends s.given in
      let place : other.place ≡ user.place = cc (sym other.found ∙ user.found) in
      let first_same : q.0.local ≡ u.0 = sym other.sockets.local ∙ ap (λ (x : ℕ). (conn_at_index b.conns x).local) place ∙ user.sockets.local in
      let second_same : q.0.remote ≡ u.1 = sym other.sockets.remote ∙ ap (λ (x : ℕ). (conn_at_index b.conns x).remote) place ∙ user.sockets.remote in
      ap (λ (x : ℕ). pair_at (x, q.0.remote)) first_same ∙ ap (λ (x : ℕ). pair_at (u.0, x)) second_same

  -- ---- each command

  pub record Unknown (c : Command) : Type 0 where
    pub ends : map_after_at m (demux_command c m) (hear c m) ≡ m
    pub made : made_by_hearing (answer (hear c m)) ≡ error_of not_connected c ∷ []

  unknown : (c : Command) (act : Endpoint → Effect Heard) → hear c m ≡ at_open c act (end_of (sender_on on m)) → position (has_link me n false on) b.conns ≡ None → Unknown c
  unknown c act h p =
      let k = h ∙ ap (λ (o : Option (Pair × Endpoint)). at_open c act (end_of o)) (none_heard p) in
      record { ends = ap (map_after_at m (demux_command c m)) k ∙ same_ends m (demux_command c m) (Reply (error_of not_connected c)); made = ap (λ (x : Effect Heard). made_by_hearing (answer x)) k }

  pub all_unknown : (x y : ℕ) → position (has_link me n false on) b.conns ≡ None → Unknown (All on x y)
  all_unknown x y p = unknown (All on x y) (all_at on x y) refl p

  pub gvb_unknown : (x y : ℕ) → position (has_link me n false on) b.conns ≡ None → Unknown (Gvb on x y)
  gvb_unknown x y p = unknown (Gvb on x y) (gvb_at on x y) refl p

  pub inr_unknown : position (has_link me n false on) b.conns ≡ None → Unknown (Inr on)
  inr_unknown p = unknown (Inr on) interrupted refl p

  pub all_closed : (x y : ℕ) (u : Sockets) (user : UserAt me n false on b u) → (conn_at_index b.conns user.place).peer_left ≡ true → Unheeded m (All on x y)
  all_closed x y u user c = unheeded m (All on x y) (all_at on x y) (sender_on on m) refl (λ q f. inl (user_out u user c q f))

  pub gvb_closed : (x y : ℕ) (u : Sockets) (user : UserAt me n false on b u) → (conn_at_index b.conns user.place).peer_left ≡ true → Unheeded m (Gvb on x y)
  gvb_closed x y u user c = unheeded m (Gvb on x y) (gvb_at on x y) (sender_on on m) refl (λ q f. inl (user_out u user c q f))

  pub inr_closed : (u : Sockets) (user : UserAt me n false on b u) → (conn_at_index b.conns user.place).peer_left ≡ true → Unheeded m (Inr on)
  inr_closed u user c = unheeded m (Inr on) interrupted (sender_on on m) refl (λ q f. inl (user_out u user c q f))
