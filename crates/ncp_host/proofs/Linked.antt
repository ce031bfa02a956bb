-- Hosts whose slots are of just the links that have one are told apart by what is saved of them.
use Rattle.std.proofs.Common.{◌≡◌, ◌<◌, ℕ, zero, suc, List, [], ◌∷◌, length, get_or, refl, ap₂, arith}
use Rattle.std.specs.List.{All, AllZip, zip}
use Rattle.ncp_slot.specs.Links.{HasItsLinks}
use Rattle.ncp_slot.proofs.Links.{same_slots}
use Rattle.ncp_peer.specs.PeerState.{PeerState}
use Rattle.ncp_host.specs.Host.{Host, numbers_of}
use Rattle.ncp_peer.specs.SavedPeer.{AreAlike}
use Rattle.ncp_host.specs.Saved.{saved, HaveTheirLinks}
use Rattle.ncp_host.proofs.Apart.{byte_distinct, hosts_distinct}

behind : (p : ℕ × PeerState) (ps : List (ℕ × PeerState)) → HaveTheirLinks (p ∷ ps) → HaveTheirLinks ps
behind p ps all = λ k d l. all (suc k) d (omega (arith, l))

same_peers : (ps qs : List (ℕ × PeerState)) → HaveTheirLinks ps → HaveTheirLinks qs → numbers_of ps ≡ numbers_of qs → AllZip (λ (p q : ℕ × PeerState). AreAlike p.1 q.1) ps qs → ps ≡ qs
same_peers [] [] hp hq ns all = refl
same_peers [] (q ∷ qs) hp hq ns all = absurd all
same_peers (p ∷ ps) [] hp hq ns all = absurd all
same_peers (p ∷ ps) (q ∷ qs) hp hq ns all =
    let numbers = byte_distinct p.0 q.0 (numbers_of ps) (numbers_of qs) ns in
    let slots : p.1.slots ≡ q.1.slots = same_slots p.1.slots q.1.slots (hp 0 p (omega arith)) (hq 0 q (omega arith)) all.0.slots in
    let here : p ≡ q = λ i. (numbers.0 i, record { peer = all.0.peer i; slots = slots i; counts = all.0.counts i }) in
    ap₂ (λ (x : ℕ × PeerState) xs. x ∷ xs) here (same_peers ps qs (behind p ps hp) (behind q qs hq) numbers.1 all.1)

pub same_hosts : (one other : Host) → HaveTheirLinks one.peers → HaveTheirLinks other.peers → saved one ≡ saved other → one ≡ other
same_hosts one other ho ht e =
    let alike = hosts_distinct one other e in
    let peers = same_peers one.peers other.peers ho ht alike.numbers alike.peers in
    λ i. record { me = alike.me i; peers = peers i; ignored = alike.ignored i }

-- peers beside their numbers
pub linked_beside : (ns : List ℕ) (ss : List PeerState) → All (λ (s : PeerState). HasItsLinks s.slots) ss → (k : ℕ) (d : ℕ × PeerState) → k < length (zip ns ss) → HasItsLinks (get_or (zip ns ss) k d).1.slots
linked_beside [] ss all k d l = absurd (omega (arith, l))
linked_beside (n ∷ ns) [] all k d l = absurd (omega (arith, l))
linked_beside (n ∷ ns) (s ∷ ss) all zero d l = all 0 s (omega arith)
linked_beside (n ∷ ns) (s ∷ ss) all (suc k) d l = linked_beside ns ss (λ j e m. all (suc j) e (omega (arith, m))) k d (omega (arith, l))

-- one peer alone
pub alone : (s : PeerState) → HasItsLinks s.slots → (k : ℕ) (d : PeerState) → k < length (s ∷ []) → HasItsLinks (get_or (s ∷ []) k d).slots
alone s has zero d l = has
alone s has (suc k) d l = absurd (omega (arith, l))
