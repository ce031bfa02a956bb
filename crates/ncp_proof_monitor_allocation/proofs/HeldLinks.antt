-- If a connection is suspended, the link that its sending end heard is suspended too, after any action of
-- the host and any command that it hears.
use Rattle.std.proofs.Common.{◌≡◌, ℕ, Bool, true, false, not, if◌then◌else◌, List, [], ◌∷◌, Option, None, Some, ◌⊎◌, inl, inr, refl, sym, ap, ◌∙◌}
use Rattle.std.specs.Prelude.{slice_set}
use Rattle.std.specs.FinMap.{get}
use Rattle.std.specs.List.{list_any, position}
use Rattle.std.proofs.lemmas.Bool.{and_parts}
use Rattle.std.proofs.lemmas.List.Quantifiers.{position-Some}
use Rattle.ncp_wire.specs.declared.command.Command.{Command}
use Rattle.ncp_model.specs.declared.pair.Pair.{Pair}
use Rattle.ncp_model.specs.Pairs.{is_receive, sends}
use Rattle.ncp_model.specs.Endpoint.{Endpoint}
use Rattle.ncp_model.specs.Ends.{Ends}
use Rattle.ncp_monitor.specs.declared.conn_state.ConnState.{ConnState}
use Rattle.ncp_monitor.specs.declared.conn_state.FactKind.{FactKind}
use Rattle.ncp_monitor.specs.ConnStates.{SeenTables, unasked_conn, is_of_sockets, conn_at_index, is_topic, is_marked, with_conn, link_suspended_now, suspended_pair}
use Rattle.ncp_interface.specs.Sockets.{is_senders}
use Rattle.ncp_monitor.proofs.Shapes.{Shape, own_step, others_of, others_were}
use Rattle.ncp_monitor.proofs.LinkOrder.{Sockets, same, same_is, about}
use Rattle.ncp_monitor.proofs.Firsts.{first, found_first, none_first}
use Rattle.ncp_monitor.proofs.BooksAt.{has_sockets}
use Rattle.ncp_monitor.proofs.Seeing.{seen}
use Rattle.ncp_proof_monitor_allocation.proofs.KeptEnds.{kept, number_if}
use Rattle.ncp_proof_monitor_allocation.proofs.OwnMoves.{all_says, sockets_of, Moved, Silent, Says}
use Rattle.ncp_proof_monitor_allocation.proofs.Changed.{pair_at, kept_of, OneEnd, one_shape}
use Rattle.ncp_proof_monitor_allocation.proofs.SeenTables.{conn_seen, seen_of, is_suspended, suspended_of, receives_at, OneSeen}
use Rattle.ncp_proof_monitor_allocation.proofs.Users.{first_passes}
use Rattle.ncp_proof_monitor_allocation.proofs.Resting.{OneSuspended, fact_made}
use Rattle.ncp_proof_monitor_allocation.proofs.Meets.{Meets}
use Rattle.ncp_proof_monitor_allocation.proofs.Untaken.{Held}

-- ---- by the shapes that are kept

abbrev pub HeldBy : ℕ → ℕ → (Sockets → Option Shape) → SeenTables → Type 0
HeldBy me n e b = (u : Sockets) (link : ℕ) → suspended_of me n b u ≡ true → sends (pair_at u) ≡ true → others_of (e u) ≡ Some link → is_marked me n (FactKind.LinkSuspended false link) b ≡ true

pub held_by : (me n : ℕ) (m : Ends) (b : SeenTables) → Held me n m b → HeldBy me n (kept_of m) b
held_by me n m b held u link r s o = go (get m (pair_at u)) refl (sends (pair_at u)) s o
  where
    go : (x : Option Endpoint) → get m (pair_at u) ≡ x → (k : Bool) → k ≡ true → others_of (kept k x) ≡ Some link → is_marked me n (FactKind.LinkSuspended false link) b ≡ true
    go None g k d o = absurd (cc o)
    go (Some e) g false d o = absurd (cc d)
    go (Some e) g true d o = by e.heard refl o
      where
        by : (h : Bool) → e.heard ≡ h → number_if h e.link ≡ Some link → is_marked me n (FactKind.LinkSuspended false link) b ≡ true
        by false x o = absurd (cc o)
        by true x o = let is : e.link ≡ link = cc o in ap (λ (y : ℕ). is_marked me n (FactKind.LinkSuspended false y) b) (sym is) ∙ held u e g r s x

pub by_held : (me n : ℕ) (m : Ends) (b : SeenTables) → HeldBy me n (kept_of m) b → Held me n m b
by_held me n m b held u e g r s h =
    held u e.link r s
    (ap (λ (o : Option Endpoint). others_of (kept (sends (pair_at u)) o)) g
    ∙ ap (λ (x : Bool). others_of (kept x (Some e))) s
    ∙ ap (λ (x : Bool). number_if x e.link) h)

-- ---- nothing more is suspended, and nothing more is heard

pub fewer_held : (me n : ℕ) (d e : Sockets → Option Shape) (b after : SeenTables) → ((u : Sockets) → suspended_of me n after u ≡ true → suspended_of me n b u ≡ true)
    → ((link : ℕ) → is_marked me n (FactKind.LinkSuspended false link) b ≡ true → is_marked me n (FactKind.LinkSuspended false link) after ≡ true)
    → ((u : Sockets) (link : ℕ) → others_of (d u) ≡ Some link → others_of (e u) ≡ Some link) → HeldBy me n e b → HeldBy me n d after
fewer_held me n d e b after suspended known_facts others held u link r s o = known_facts link (held u link (suspended u r) s (others u link o))

-- with the same connections, and links that rest still at rest
pub same_held : (me n : ℕ) (m : Ends) (b after : SeenTables) → after.conns ≡ b.conns
    → ((on : Bool) (link : ℕ) → is_marked me n (FactKind.LinkSuspended on link) b ≡ true → is_marked me n (FactKind.LinkSuspended on link) after ≡ true) → Held me n m b → Held me n m after
same_held me n m b after l k held u e g r s h = k false e.link (held u e g (sym (ap (λ (xs : List ConnState). is_suspended (first (is_of_sockets me n u.0 u.1) xs)) l) ∙ r) s h)

-- ---- the host does something, and says something of it, or nothing

pub moved_others : (sending : Bool) (pair : Pair) (before after : Option Endpoint) (made : List Command) (link : ℕ) → Moved sending pair before after made → others_of (kept sending after) ≡ Some link → others_of (kept sending before) ≡ Some link
moved_others sending pair before after made link (Silent none s) o = ap others_of (sym s) ∙ o
moved_others sending pair before after made link (Says c said l s) o =
    others_were (c ∷ []) (own_step c (kept sending before)) (kept sending before) link (l, refl) (ap others_of (sym s) ∙ o)

pub host_held : (me n : ℕ) (m now : Ends) (b : SeenTables) (pair : Pair) (after : Option Endpoint) (made : List Command) → OneEnd m now pair after → Moved (sends pair) pair (get m pair) after made → Held me n m b → Held me n now b
host_held me n m now b pair after made one moved held =
    by_held me n now b (fewer_held me n (kept_of now) (kept_of m) b b (λ u r. r) (λ link k. k) others (held_by me n m b held))
  where
    others : (u : Sockets) (link : ℕ) → others_of (kept_of now u) ≡ Some link → others_of (kept_of m u) ≡ Some link
    others u link o = go (same u (sockets_of pair)) refl (ap others_of (sym (one_shape m now pair after (kept (sends pair) after) one refl u)) ∙ o)
      where
        go : (x : Bool) → same u (sockets_of pair) ≡ x → others_of (if x then kept (sends pair) after else kept_of m u) ≡ Some link → others_of (kept_of m u) ≡ Some link
        go true s o = ap (λ (v : Sockets). others_of (kept_of m v)) (same_is u (sockets_of pair) s) ∙ moved_others (sends pair) pair (get m pair) after made link moved o
        go false s o = o

-- ---- what is right is heard of a connection that does not rest

pub heard_held : (me n : ℕ) (m now : Ends) (b after : SeenTables) (pair : Pair) (end : Option Endpoint) (s : Option Shape) → OneEnd m now pair end → OneSeen me n b after (sockets_of pair) s → suspended_of me n b (sockets_of pair) ≡ false
    → Held me n m b → Held me n now after
heard_held me n m now b after pair end s one seen calm held = by_held me n now after by
  where
    by : HeldBy me n (kept_of now) after
    by u link r k o = go (same u (sockets_of pair)) refl (ap others_of (sym (one_shape m now pair end (kept (sends pair) end) one refl u)) ∙ o)
      where
        go : (x : Bool) → same u (sockets_of pair) ≡ x → others_of (if x then kept (sends pair) end else kept_of m u) ≡ Some link → is_marked me n (FactKind.LinkSuspended false link) after ≡ true
        go true d o =
            let nay : true ≡ false = sym r ∙ ap (suspended_of me n after) (same_is u (sockets_of pair) d) ∙ seen.calm calm in absurd (cc nay)
        go false d o =
            ap (list_any (is_topic me n (FactKind.LinkSuspended false link))) seen.known_facts
            ∙ held_by me n m b held u link (sym (ap is_suspended (seen.others u d)) ∙ r) k o

-- ---- a connection comes to rest

-- its link is suspended with it
pub its_link_suspended : (me n : ℕ) (p : Sockets) (b : SeenTables) (conn : ConnState) (link : ℕ) → (suspended_pair me n p.0 p.1 b).full ≡ false → conn_seen me n b p ≡ Some conn → conn.link ≡ Some link
    → is_marked me n (FactKind.LinkSuspended (receives_at p) link) (suspended_pair me n p.0 p.1 b) ≡ true
its_link_suspended me n p b conn link f s l = go (position its b.conns) refl f
  where
    its : ConnState → Bool
    its = is_of_sockets me n p.0 p.1

    put_there : ℕ → SeenTables
    put_there i = record b { conns = slice_set b.conns i (record (conn_at_index b.conns i) { suspended = true }) }

    what : ℕ → ℕ → FactKind
    what i given = FactKind.LinkSuspended (not (is_senders (conn_at_index b.conns i).local)) given

    link_rested : ℕ → Option ℕ → SeenTables
    link_rested i None = put_there i
    link_rested i (Some given) = link_suspended_now me n (not (is_senders (conn_at_index b.conns i).local)) given (put_there i)

    rested : Option ℕ → SeenTables
    rested None = with_conn b (record (unasked_conn me n p.0 p.1) { suspended = true })
    rested (Some i) = link_rested i (conn_at_index b.conns i).link

    by : (i : ℕ) (o : Option ℕ) → position its b.conns ≡ Some i → o ≡ Some link → (link_rested i o).full ≡ false → is_marked me n (FactKind.LinkSuspended (receives_at p) link) (link_rested i o) ≡ true
    by i None e x f = absurd (cc x)
    by i (Some given) e x f =
        let same_link : given ≡ link = cc x in
        let local = (has_sockets me n p.0 p.1 (conn_at_index b.conns i) (position-Some its b.conns i (unasked_conn 0 0 0 0) e).1).local in
        ap (λ (y : ℕ). is_marked me n (FactKind.LinkSuspended (not (is_senders p.0)) y) (link_rested i (Some given))) (sym same_link)
        ∙ ap (λ (y : ℕ). is_marked me n (FactKind.LinkSuspended (not (is_senders y)) given) (link_rested i (Some given))) (sym local)
        ∙ fact_made me n (what i given) (put_there i) f

    go : (o : Option ℕ) → position its b.conns ≡ o → (rested o).full ≡ false → is_marked me n (FactKind.LinkSuspended (receives_at p) link) (rested o) ≡ true
    go None e f = let nay : None ≡ Some conn = sym (none_first its b.conns e) ∙ s in absurd (cc nay)
    go (Some i) e f =
        let is : conn_at_index b.conns i ≡ conn = cc (sym (found_first its b.conns i (unasked_conn 0 0 0 0) e) ∙ s) in
        by i (conn_at_index b.conns i).link e (ap (λ (y : ConnState). y.link) is ∙ l) f

pub suspended_held : (me n : ℕ) (m now : Ends) (w : List Command) (b mid : SeenTables) (pair : Pair) (after : Option Endpoint) → OneEnd m now pair after → OneSuspended me n b mid (sockets_of pair)
    → ((conn : ConnState) (link : ℕ) → conn_seen me n b (sockets_of pair) ≡ Some conn → conn.link ≡ Some link → is_marked me n (FactKind.LinkSuspended (receives_at (sockets_of pair)) link) mid ≡ true)
    → ((link : ℕ) → sends pair ≡ true → others_of (kept (sends pair) after) ≡ Some link → (others_of (kept (sends pair) (get m pair)) ≡ Some link) ⊎ (is_marked me n (FactKind.LinkSuspended false link) mid ≡ true))
    → Meets me n m w b → Held me n m b → Held me n now mid
suspended_held me n m now w b mid pair after one k link_suspended heard meets held = by_held me n now mid by
  where
    p : Sockets
    p = sockets_of pair

    was : (link : ℕ) → sends pair ≡ true → others_of (kept_of m p) ≡ Some link → is_marked me n (FactKind.LinkSuspended false link) mid ≡ true
    was link s o = at_rest (suspended_of me n b p) refl
      where
        sender : is_senders pair.local ≡ true
        sender = (and_parts (is_senders pair.local) (is_receive pair.remote) s).0

        by_conn : (x : Option ConnState) → conn_seen me n b p ≡ x → others_of (seen x) ≡ Some link → is_marked me n (FactKind.LinkSuspended false link) mid ≡ true
        by_conn None f o = absurd (cc o)
        by_conn (Some conn) f o =
            let local = (has_sockets me n pair.local pair.remote conn (first_passes (is_of_sockets me n pair.local pair.remote) b.conns conn f)).local in
            let its : conn.link ≡ Some link = sym (ap (λ (x : Bool). if x then conn.link else conn.size) (ap is_senders local ∙ sender)) ∙ o in
            ap (λ (x : Bool). is_marked me n (FactKind.LinkSuspended (not x) link) mid) (sym sender) ∙ link_suspended conn link f its

        at_rest : (r : Bool) → suspended_of me n b p ≡ r → is_marked me n (FactKind.LinkSuspended false link) mid ≡ true
        at_rest true r = k.known_facts (FactKind.LinkSuspended false link) (held_by me n m b held p link r s o)
        at_rest false r = by_conn (conn_seen me n b p) refl (others_were (about p (all_says w)) (kept_of m p) (seen_of me n b p) link (meets.tally.pairs p r) o)

    by : HeldBy me n (kept_of now) mid
    by u link r s o = go (same u p) refl (ap others_of (sym (one_shape m now pair after (kept (sends pair) after) one refl u)) ∙ o)
      where
        here : (sends pair ≡ true) → (others_of (kept (sends pair) (get m pair)) ≡ Some link) ⊎ (is_marked me n (FactKind.LinkSuspended false link) mid ≡ true) → is_marked me n (FactKind.LinkSuspended false link) mid ≡ true
        here s (inl o) = was link s o
        here s (inr e) = e

        go : (x : Bool) → same u p ≡ x → others_of (if x then kept (sends pair) after else kept_of m u) ≡ Some link → is_marked me n (FactKind.LinkSuspended false link) mid ≡ true
        go true d o = let t = ap (λ (v : Sockets). sends (pair_at v)) (sym (same_is u p d)) ∙ s in here t (heard link t o)
        go false d o = k.known_facts (FactKind.LinkSuspended false link) (held_by me n m b held u link (sym (ap is_suspended (k.seen u d)) ∙ r) s o)
