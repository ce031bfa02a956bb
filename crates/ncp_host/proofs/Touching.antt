-- What bits leave as it was: all but what the host has for one peer.
use Rattle.std.proofs.Common.{◌≡◌, ◌≢◌, ◌⊎◌, ℕ, ◌==◌, Bool, true, false, if◌then◌else◌, List, [], ◌∷◌, Option, None, Some, Result, Ok, inl, inr, refl, sym, ap, subst, ◌∙◌, arith}
use Rattle.ncp_leader.specs.declared.leader.Leader.{Leader}
use Rattle.ncp_leader.specs.declared.leader.Short.{Short}
use Rattle.ncp_leader.specs.Leader.{leader_in}
use Rattle.ncp_peer.specs.PeerState.{PeerState}
use Rattle.ncp_peer.specs.Hearing.{is_kind}
use Rattle.ncp_host.specs.Host.{Host, state_in, state_of, at_peer, numbers_of}
use Rattle.ncp_host.specs.Arrivals.{OnlyNamedPeerChanges, OthersStay, OneIgnored, one_other, after_from, after_hearing}

differs : (a n other : ℕ) → (a == n) ≡ true → other ≢ n → (a == other) ≡ false
differs a n other e d = grind arith

pub others_stay : (ps : List (ℕ × PeerState)) (n other : ℕ) (f : PeerState → PeerState) → other ≢ n → state_in (at_peer n f ps) other ≡ state_in ps other
others_stay [] n other f d = refl
others_stay (p ∷ ps) n other f d = go (p.0 == n) refl (others_stay ps n other f d)
  where
    go : (b : Bool) → (p.0 == n) ≡ b → state_in (at_peer n f ps) other ≡ state_in ps other
        → state_in (if b then (p.0, f p.1) ∷ ps else p ∷ at_peer n f ps) other ≡ (if p.0 == other then Some p.1 else state_in ps other)
    go true e rest =
        let no : (p.0 == other) ≡ false = differs p.0 n other e d in
        ap (λ b. if b then Some (f p.1) else state_in ps other) no ∙ sym (ap (λ b. if b then Some p.1 else state_in ps other) no)
    go false e rest = ap (λ (o : Option PeerState). if p.0 == other then Some p.1 else o) rest

pub numbers_stay : (ps : List (ℕ × PeerState)) (n : ℕ) (f : PeerState → PeerState) → numbers_of (at_peer n f ps) ≡ numbers_of ps
numbers_stay [] n f = refl
numbers_stay (p ∷ ps) n f = go (p.0 == n) (numbers_stay ps n f)
  where
    go : (b : Bool) → numbers_of (at_peer n f ps) ≡ numbers_of ps → numbers_of (if b then (p.0, f p.1) ∷ ps else p ∷ at_peer n f ps) ≡ p.0 ∷ numbers_of ps
    go true rest = refl
    go false rest = ap (λ (ns : List ℕ). p.0 ∷ ns) rest

pub only_named : (leader : Leader) (bits : List Bool) (h : Host) → OthersStay leader.host h (after_hearing leader bits h) ⊎ OneIgnored h (after_hearing leader bits h)
only_named leader bits h = go (is_kind leader.kind) (state_of h leader.host)
  where
    go : (b : Bool) (o : Option PeerState)
        → OthersStay leader.host h (if b then after_from o leader bits h else one_other h) ⊎ OneIgnored h (if b then after_from o leader bits h else one_other h)
    go true (Some s) = inl (record { me = refl; numbers = numbers_stay h.peers leader.host _; others = λ other d. others_stay h.peers leader.host other _ d; ignored = refl })
    go true None = inr (inr (inr refl))
    go false o = inr (inr (inl refl))

pub only_named_by : (leader : Leader) (bits : List Bool) (h now : Host) → ◌≡◌ {A = Result Leader Short} (Ok leader) (leader_in bits) → now ≡ after_hearing leader bits h → OnlyNamedPeerChanges (leader_in bits) h now
only_named_by leader bits h now e is =
    subst (λ (r : Result Leader Short). OnlyNamedPeerChanges r h now) e
    (subst (λ (x : Host). OthersStay leader.host h x ⊎ OneIgnored h x) (sym is) (only_named leader bits h))
