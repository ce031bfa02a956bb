-- What a side owes after the CLS of a connection: where it is the sender, all but the RETs of that connection, which are just
-- those for its link; where it is not, as before.
use Rattle.std.proofs.Common.{◌≡◌, ℕ, ◌==◌, Bool, true, false, not, if◌then◌else◌, List, [], ◌∷◌, Some, eq-eqb, refl, sym, ap, ◌∙◌}
use Rattle.std.proofs.lemmas.Bool.{eqb-true}
use Rattle.ncp_monitor.specs.ConnStates.{is_return_on}
use Rattle.ncp_monitor.proofs.LinkOrder.{Sockets, same, same_is}
use Rattle.ncp_proof_monitor_network.specs.Owing.{Owing, Echoes, Returning, is_owed_of, has_echo}
use Rattle.ncp_proof_monitor_network.proofs.Tallied.{by_side, owing_without}
use Rattle.ncp_proof_monitor_network.proofs.Said.{Said}
use Rattle.ncp_proof_monitor_network.proofs.UsersSaid.{same_self}
use Rattle.ncp_proof_monitor_network.proofs.PendingOwed.{reply_owed, LinkIsOf, IsOwedRightly, OwesRightly}

-- a side owes no reply for a connection on which it does not send, and none for one without a link
pub none_of_it : (s : Bool) (x : Said) (u : Sockets) → ((l : ℕ) → x.users (not s) l ≡ Some u → ⊥) → (owing : List Owing) → OwesRightly s x.shapes x.users x.counts owing → owing_without u owing ≡ owing
none_of_it s x u none [] o = refl
none_of_it s x u none (o ∷ owing) (h, rest) = ap (λ (y : Bool). if not y then o ∷ owing_without u owing else owing_without u owing) (its o h) ∙ ap (λ (os : List Owing). o ∷ os) (none_of_it s x u none owing rest)
  where
    its : (o : Owing) → IsOwedRightly s x.shapes x.users x.counts o owing → is_owed_of u o ≡ false
    its (Echoes byte) h = refl
    its (Returning v link messages bits) h = go (same v u) refl
      where
        go : (y : Bool) → same v u ≡ y → same v u ≡ false
        go false e = e
        go true e = absurd (none link (h.user ∙ ap (λ (w : Sockets). Some w) (same_is v u e)))

-- of one that has a link, just those for it
pub link_is_its : (s : Bool) (x : Said) (u : Sockets) (link : ℕ) → x.users (not s) link ≡ Some u → ((l : ℕ) → x.users (not s) l ≡ Some u → l ≡ link) → (owing : List Owing) → OwesRightly s x.shapes x.users x.counts owing → LinkIsOf u link owing
link_is_its s x u link its only [] o = tt
link_is_its s x u link its only (o ∷ owing) (h, rest) = (is o h, link_is_its s x u link its only owing rest)
  where
    is : (o : Owing) → IsOwedRightly s x.shapes x.users x.counts o owing → is_return_on link (reply_owed o) ≡ is_owed_of u o
    is (Echoes byte) h = refl
    is (Returning v on messages bits) h = go (on == link) refl (same v u) refl
      where
        go : (y : Bool) → (on == link) ≡ y → (z : Bool) → same v u ≡ z → y ≡ z
        go true e true k = refl
        go false e false k = refl
        go true e false k =
            let at : Some v ≡ Some u = sym h.user ∙ ap (x.users (not s)) (eqb-true on link e) ∙ its in
            let is : v ≡ u = cc at in
            let nay : true ≡ false = sym (ap (λ (w : Sockets). same w u) is ∙ same_self u) ∙ k in absurd (cc nay)
        go false e true k =
            let is : on ≡ link = only on (h.user ∙ ap (λ (w : Sockets). Some w) (same_is v u k)) in
            let nay : true ≡ false = sym (eq-eqb on link is) ∙ e in absurd (cc nay)

pub echo_without : (u : Sockets) (owing : List Owing) → has_echo owing ≡ has_echo (owing_without u owing)
echo_without u [] = refl
echo_without u (Echoes byte ∷ owing) = refl
echo_without u (Returning v link messages bits ∷ owing) = go (same v u) (echo_without u owing)
  where
    go : (y : Bool) → has_echo owing ≡ has_echo (owing_without u owing) → has_echo owing ≡ has_echo (if not y then Returning v link messages bits ∷ owing_without u owing else owing_without u owing)
    go true rest = rest
    go false rest = rest

-- of what each owes: of the one it is this, of the other as it was
pub each_side : (P : Bool → List Owing → Type 0) (s : Bool) (now : List Owing) (owing : Bool → List Owing) → P s now → P (not s) (owing (not s)) → (t : Bool) → P t (by_side s now owing t)
each_side P true now owing a b true = a
each_side P true now owing a b false = b
each_side P false now owing a b true = b
each_side P false now owing a b false = a
