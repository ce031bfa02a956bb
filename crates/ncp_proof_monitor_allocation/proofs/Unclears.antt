-- The observed state still matches the host's after a received command with an unknown result: the
-- connection is suspended from then on.
use Rattle.std.proofs.Common.{◌≡◌, ℕ, Bool, true, false, if◌then◌else◌, List, [], ◌∷◌, ◌++◌, Option, Some, refl, sym, ap, ◌∙◌, subst}
use Rattle.ncp_wire.specs.declared.command.Command.{Command}
use Rattle.ncp_model.specs.declared.pair.Pair.{Pair}
use Rattle.ncp_model.specs.Pairs.{sends}
use Rattle.ncp_model.specs.Endpoint.{Endpoint}
use Rattle.ncp_model.specs.Effect.{closing}
use Rattle.ncp_model.specs.Ends.{Ends}
use Rattle.ncp_monitor.specs.declared.conn_state.FactKind.{FactKind}
use Rattle.ncp_monitor.specs.ConnStates.{SeenTables}
use Rattle.ncp_monitor.proofs.Shapes.{Shape, Say, Leave, new_shape, legal, own_step}
use Rattle.ncp_monitor.proofs.LinkOrder.{Sockets, same, same_is, put}
use Rattle.ncp_monitor.proofs.Seeing.{seen}
use Rattle.ncp_proof_monitor_allocation.proofs.KeptEnds.{kept}
use Rattle.ncp_proof_monitor_allocation.proofs.OwnMoves.{all_says, sockets_of}
use Rattle.ncp_proof_monitor_allocation.proofs.Tallies.{Tallies, suspended_tally, leaves_tallies, same_self}
use Rattle.ncp_proof_monitor_allocation.proofs.Changed.{pair_at, kept_of, OneEnd, unlike}
use Rattle.ncp_proof_monitor_allocation.proofs.SeenTables.{seen_of, suspended_of, links_of, receives_at}
use Rattle.ncp_proof_monitor_allocation.proofs.Users.{Linked}
use Rattle.ncp_proof_monitor_allocation.proofs.Resting.{OneSuspended}
use Rattle.ncp_proof_monitor_allocation.proofs.Meets.{Meets, distinct_from}
use Rattle.ncp_proof_monitor_allocation.proofs.Comes.{says_append}

module _ (me n : ℕ) (m now : Ends) (pair : Pair) (after : Option Endpoint) (w : List Command) (b : SeenTables) where
  kept_elsewhere : OneEnd m now pair after → (u : Sockets) → same u (sockets_of pair) ≡ false → kept_of now u ≡ kept_of m u
  kept_elsewhere one u d = ap (kept (sends (pair_at u))) (one.elsewhere (pair_at u) (unlike u (sockets_of pair) d))

  -- the host does to that end what it does, and says nothing of it
  pub unclear_meets : (mid : SeenTables) → OneEnd m now pair after → OneSuspended me n b mid (sockets_of pair) → Linked me n mid → Meets me n m w b → Meets me n now w mid
  unclear_meets mid one k linked meets = record {
    tally =
        suspended_tally receives_at (links_of me n b) (suspended_of me n b) (links_of me n mid) (suspended_of me n mid) (all_says w) (kept_of m) (seen_of me n b) (kept_of now) (seen_of me n mid)
        (λ l z. k.known_facts (FactKind.LinkSuspended true l) z)
        (λ u r. let a = distinct_from me n m b mid (sockets_of pair) k u r in (a.0, (kept_elsewhere one u a.1, ap seen (k.seen u a.1)))) meets.tally;
    unique = λ u. k.unique u (meets.unique u);
    linked = linked;
  }

-- a CLS of a suspended connection is queued last
pub suspended_leave : (me n : ℕ) (m : Ends) (w : List Command) (b : SeenTables) (pair : Pair) → suspended_of me n b (sockets_of pair) ≡ true → Meets me n m w b → Meets me n m (w ++ closing pair ∷ []) b
suspended_leave me n m w b pair r meets = record {
  tally =
      subst (λ (x : List (Sockets × Say)). Tallies receives_at (links_of me n b) (suspended_of me n b) x (kept_of m) (seen_of me n b)) (sym (says_append w (closing pair ∷ [])))
      (suspended_tally receives_at (links_of me n b) (suspended_of me n b) (links_of me n b) (suspended_of me n b) (all_says w ++ (p, Leave) ∷ []) (put mid p (own_step Leave (mid p))) (seen_of me n b) (kept_of m) (seen_of me n b)
      (λ l z. z)
      (λ u z. (z, (elsewhere u (apart u z) (own_step Leave (mid p)), refl)))
      (leaves_tallies receives_at (links_of me n b) (suspended_of me n b) (all_says w) mid (seen_of me n b) p may
      (suspended_tally receives_at (links_of me n b) (suspended_of me n b) (links_of me n b) (suspended_of me n b) (all_says w) (kept_of m) (seen_of me n b) mid (seen_of me n b)
      (λ l z. z)
      (λ u z. (z, (there u (apart u z), refl))) meets.tally)));
  unique = meets.unique;
  linked = meets.linked;
}
  where
    p : Sockets
    p = sockets_of pair

    -- one that may leave, in place of the kept one: nothing has to be known of a suspended connection
    mid : Sockets → Option Shape
    mid = put (kept_of m) p (Some new_shape)

    may : legal Leave (mid p) ≡ true
    may = ap (λ (x : Bool). legal Leave (if x then Some new_shape else kept_of m p)) (same_self p)

    apart : (u : Sockets) → suspended_of me n b u ≡ false → same u p ≡ false
    apart u z = go (same u p) refl
      where
        go : (x : Bool) → same u p ≡ x → same u p ≡ false
        go true e = let nay : true ≡ false = sym r ∙ sym (ap (suspended_of me n b) (same_is u p e)) ∙ z in absurd (cc nay)
        go false e = e

    there : (u : Sockets) → same u p ≡ false → mid u ≡ kept_of m u
    there u d = ap (λ (x : Bool). if x then Some new_shape else kept_of m u) d

    elsewhere : (u : Sockets) → same u p ≡ false → (s : Option Shape) → kept_of m u ≡ put mid p s u
    elsewhere u d s = sym (ap (λ (x : Bool). if x then s else mid u) d ∙ there u d)
