-- Where a request of the other with a link is right, no sending end of the host heard that link.
use Rattle.std.proofs.Common.{◌≡◌, ℕ, ◌==◌, Bool, true, false, ◌&&◌, if◌then◌else◌, List, Option, None, Some, eq-eqb, refl, sym, ap, ◌∙◌}
use Rattle.std.specs.FinMap.{get}
use Rattle.std.proofs.lemmas.Bool.{eqb-true, and_parts}
use Rattle.ncp_wire.specs.declared.command.Command.{Command}
use Rattle.ncp_model.specs.declared.pair.Pair.{Pair}
use Rattle.ncp_model.specs.Pairs.{sends, is_receive}
use Rattle.ncp_model.specs.Endpoint.{Endpoint}
use Rattle.ncp_model.specs.Ends.{Ends, any, hears_link}
use Rattle.ncp_model.specs.Demux.{passes}
use Rattle.ncp_model.proofs.Lookups.{none-any}
use Rattle.ncp_monitor.specs.declared.finding.Rule.{Rule}
use Rattle.ncp_monitor.specs.declared.conn_state.ConnState.{ConnState}
use Rattle.ncp_monitor.specs.declared.conn_state.FactKind.{FactKind}
use Rattle.ncp_monitor.specs.declared.observed_flow.ObservedFlow.{ObservedFlow}
use Rattle.ncp_monitor.specs.declared.observed_flow.Acceptance.TheVariants.{Right, Refused, Unclear}
use Rattle.ncp_monitor.specs.ConnStates.{SeenTables, is_of_sockets, has_link, user_of, is_marked}
use Rattle.ncp_interface.specs.Sockets.{is_senders}
use Rattle.ncp_monitor.specs.Requests.{used_acceptance}
use Rattle.ncp_monitor.proofs.Shapes.{others_of, others_were}
use Rattle.ncp_monitor.proofs.LinkOrder.{Sockets, about}
use Rattle.ncp_monitor.proofs.Firsts.{first}
use Rattle.ncp_monitor.proofs.BooksAt.{has_sockets}
use Rattle.ncp_monitor.proofs.Seeing.{seen}
use Rattle.ncp_proof_monitor_allocation.proofs.KeptEnds.{kept}
use Rattle.ncp_proof_monitor_allocation.proofs.OwnMoves.{all_says, sockets_of}
use Rattle.ncp_proof_monitor_allocation.proofs.Changed.{pair_at, kept_of}
use Rattle.ncp_proof_monitor_allocation.proofs.SeenTables.{conn_seen, seen_of, suspended_of}
use Rattle.ncp_proof_monitor_allocation.proofs.Users.{first_passes, found_at_first}
use Rattle.ncp_proof_monitor_allocation.proofs.Meets.{Meets}
use Rattle.ncp_proof_monitor_allocation.proofs.TidyBooks.{passed_over}

-- a sending end heard its link, and its connection is suspended: the link is suspended too
abbrev pub Held : ℕ → ℕ → Ends → SeenTables → Type 0
Held me n m b = (u : Sockets) (e : Endpoint) → get m (pair_at u) ≡ Some e → suspended_of me n b u ≡ true → sends (pair_at u) ≡ true → e.heard ≡ true → is_marked me n (FactKind.LinkSuspended false e.link) b ≡ true

module _ (me n link : ℕ) (m : Ends) (w : List Command) (b : SeenTables) where
  abbrev from_other : ObservedFlow
  from_other = record { at = me; peer = n; sent = false }

  no_user : (c : Command) → used_acceptance from_other c (user_of me n false link b.conns) ≡ Right → user_of me n false link b.conns ≡ None
  no_user c v = go (user_of me n false link b.conns) refl v
    where
      go : (o : Option ConnState) → user_of me n false link b.conns ≡ o → used_acceptance from_other c o ≡ Right → user_of me n false link b.conns ≡ None
      go None e v = e
      go (Some conn) e v = by conn.peer_left v
        where
          by : (x : Bool) → (if x then Unclear (Some (Rule.LinkUsed c conn.local conn.remote)) else Refused (Rule.LinkUsed c conn.local conn.remote)) ≡ Right → user_of me n false link b.conns ≡ None
          by true v = absurd (cc v)
          by false v = absurd (cc v)

  pub untaken : (c : Command) → used_acceptance from_other c (user_of me n false link b.conns) ≡ Right → is_marked me n (FactKind.LinkSuspended false link) b ≡ false → Held me n m b → Meets me n m w b → any (hears_link link) m ≡ false
  untaken c v unmarked held meets = none-any (hears_link link) m (λ q. at_pair q (get m q) refl)
    where
      unused : first (has_link me n false link) b.conns ≡ None
      unused = sym (found_at_first (has_link me n false link) b.conns) ∙ no_user c v

      -- the life of an end that heard the link has it
      user_there : (q : Pair) (e : Endpoint) (conn : ConnState) → conn_seen me n b (sockets_of q) ≡ Some conn → sends q ≡ true → others_of (seen (Some conn)) ≡ Some link → has_link me n false link conn ≡ true
      user_there q e conn f s o =
          let is = has_sockets me n q.local q.remote conn (first_passes (is_of_sockets me n q.local q.remote) b.conns conn f) in
          let sender : is_senders conn.local ≡ true = ap is_senders is.local ∙ (and_parts (is_senders q.local) (is_receive q.remote) s).0 in
          let given : conn.link ≡ Some link = sym (ap (λ (x : Bool). if x then conn.link else conn.size) sender) ∙ o in
          rw (eq-eqb conn.at me is.at, eq-eqb conn.peer n is.peer, sender, given, eq-eqb link link refl) refl

      at_end : (q : Pair) (e : Endpoint) → get m q ≡ Some e → sends q ≡ true → e.heard ≡ true → e.link ≡ link → ⊥
      at_end q e g s h l = by_rest (suspended_of me n b (sockets_of q)) refl
        where
          shape : others_of (kept_of m (sockets_of q)) ≡ Some link
          shape =
              ap (λ (o : Option Endpoint). others_of (kept (sends q) o)) g
              ∙ ap (λ (x : Bool). others_of (kept x (Some e))) s
              ∙ ap (λ (x : Bool). if x then Some e.link else None) h
              ∙ ap (λ (x : ℕ). Some x) l

          by_conn : (o : Option ConnState) → conn_seen me n b (sockets_of q) ≡ o → others_of (seen o) ≡ Some link → ⊥
          by_conn None f o = cc o
          by_conn (Some conn) f o =
              let nay : true ≡ false = sym (user_there q e conn f s o) ∙ passed_over (has_link me n false link) (is_of_sockets me n q.local q.remote) b.conns conn unused f in cc nay

          by_rest : (r : Bool) → suspended_of me n b (sockets_of q) ≡ r → ⊥
          by_rest true r =
              let marked : is_marked me n (FactKind.LinkSuspended false link) b ≡ true = ap (λ (x : ℕ). is_marked me n (FactKind.LinkSuspended false x) b) (sym l) ∙ held (sockets_of q) e g r s h in
              let nay : true ≡ false = sym marked ∙ unmarked in cc nay
          by_rest false r =
              by_conn (conn_seen me n b (sockets_of q)) refl
              (others_were (about (sockets_of q) (all_says w)) (kept_of m (sockets_of q)) (seen_of me n b (sockets_of q)) link (meets.tally.pairs (sockets_of q) r) shape)

      at_pair : (q : Pair) (o : Option Endpoint) → get m q ≡ o → passes (hears_link link) q o ≡ false
      at_pair q None g = refl
      at_pair q (Some e) g = go (sends q && e.heard && (e.link == link)) refl
        where
          go : (x : Bool) → (sends q && e.heard && (e.link == link)) ≡ x → (sends q && e.heard && (e.link == link)) ≡ false
          go false k = k
          go true k =
              let outer = and_parts (sends q && e.heard) (e.link == link) k in
              let inner = and_parts (sends q) e.heard outer.0 in
              absurd (at_end q e g inner.0 inner.1 (eqb-true e.link link outer.1))
