-- Peers that are read one after the other, beside their numbers.
use Rattle.std.proofs.Common.{◌≡◌, ℕ, zero, suc, ◌<◌, ◌≤◌, ◌&&◌, Bool, true, false, not, nat_le, List, [], ◌∷◌, ◌++◌, length, refl, sym, ap, ◌∙◌, arith, get_or, Some}
use Rattle.std.specs.List.{All, zip}
use Rattle.std.proofs.lemmas.List.{append-nil}
use Rattle.ncp_saved.specs.Values.{listed}
use Rattle.ncp_peer.specs.PeerState.{PeerState}
use Rattle.ncp_peer.specs.SavedPeer.{state_saved}
use Rattle.ncp_peer.specs.Soundness.{IsWell, AreWell}
use Rattle.ncp_peer.specs.Loading.{FitsIn}
use Rattle.ncp_host.specs.Host.{Host, are_peers, are_distinct, is_one_of, numbers_of}
use Rattle.ncp_host.specs.Saved.{file_name, ignored_saved, peer_saved, saved}
use Rattle.ncp_host.specs.Loading.{version_in}

pub zip_push : (ns : List ℕ) (ss : List PeerState) (n : ℕ) (s : PeerState) → length ss ≡ length ns → zip (ns ++ n ∷ []) (ss ++ s ∷ []) ≡ zip ns ss ++ (n, s) ∷ []
zip_push [] [] n s e = refl
zip_push [] (t ∷ ss) n s e = absurd (omega (arith, e))
zip_push (m ∷ ns) [] n s e = absurd (omega (arith, e))
zip_push (m ∷ ns) (t ∷ ss) n s e = ap (λ (ps : List (ℕ × PeerState)). (m, t) ∷ ps) (zip_push ns ss n s (omega (arith, e)))

pub numbers_zip : (ns : List ℕ) (ss : List PeerState) → length ss ≡ length ns → numbers_of (zip ns ss) ≡ ns
numbers_zip [] ss e = refl
numbers_zip (m ∷ ns) [] e = absurd (omega (arith, e))
numbers_zip (m ∷ ns) (t ∷ ss) e = ap (λ (ms : List ℕ). m ∷ ms) (numbers_zip ns ss (omega (arith, e)))

pub zip_long : (ns : List ℕ) (ss : List PeerState) → length ss ≡ length ns → length (zip ns ss) ≡ length ns
zip_long [] ss e = refl
zip_long (m ∷ ns) [] e = absurd (omega (arith, e))
zip_long (m ∷ ns) (t ∷ ss) e = let h = zip_long ns ss (omega (arith, e)) in omega (arith, h)

first_of : (a b : Bool) → (a && b) ≡ true → a ≡ true
first_of true b e = refl
first_of false b e = absurd (cc)

last_of : (a b : Bool) → (a && b) ≡ true → b ≡ true
last_of true b e = e
last_of false b e = absurd (cc)

at_most : (a b : ℕ) → nat_le a b ≡ true → a ≤ b
at_most a b e = grind arith

numbers_long : (ps : List (ℕ × PeerState)) → length (numbers_of ps) ≡ length ps
numbers_long [] = refl
numbers_long (p ∷ ps) = let h = numbers_long ps in omega (arith, h)

-- a host has no more than eight peers
pub few_peers : (me : ℕ) (ps : List (ℕ × PeerState)) → are_peers me (numbers_of ps) ≡ true → length ps ≤ 8
few_peers me ps good =
    let n = at_most (length (numbers_of ps)) 8 (last_of (nat_le 1 (length (numbers_of ps))) (nat_le (length (numbers_of ps)) 8) (first_of _ (are_distinct (numbers_of ps)) (first_of _ (not (is_one_of me (numbers_of ps))) good))) in
    let e = numbers_long ps in
    omega (arith, n, e)

pub peer_pieces : (p : ℕ × PeerState) (now more : List ℕ) → now ≡ peer_saved p ++ more → now ≡ (p.0 ∷ []) ++ (state_saved p.1 ++ more)
unfolding peer_saved
peer_pieces p now more e = e

-- the name and the version, and then the host
pub host_pieces : (h : Host) (bytes : List ℕ) → bytes ≡ saved h → bytes ≡ (file_name ++ 1 ∷ []) ++ (h.me ∷ (ignored_saved h.ignored ++ (listed peer_saved h.peers ++ [])))
unfolding saved
host_pieces h bytes e = e ∙ ap (λ (w : List ℕ). (file_name ++ 1 ∷ []) ++ (h.me ∷ (ignored_saved h.ignored ++ w))) (sym (append-nil (listed peer_saved h.peers)))

pub host_version : (h : Host) (bytes : List ℕ) → bytes ≡ saved h → version_in bytes ≡ Some 1
unfolding saved
host_version h bytes e = ap version_in e

-- peers that are well, beside their numbers
pub fit_beside : (ns : List ℕ) (ss : List PeerState) → All (λ (s : PeerState). IsWell s → FitsIn s) ss → AreWell (zip ns ss) → (k : ℕ) (d : ℕ × PeerState) → k < length (zip ns ss) → FitsIn (get_or (zip ns ss) k d).1
fit_beside [] ss all well k d l = absurd (omega (arith, l))
fit_beside (n ∷ ns) [] all well k d l = absurd (omega (arith, l))
fit_beside (n ∷ ns) (s ∷ ss) all well zero d l = all 0 s (omega arith) well.0
fit_beside (n ∷ ns) (s ∷ ss) all well (suc k) d l = fit_beside ns ss (λ j e m. all (suc j) e (omega (arith, m))) well.1 k d (omega (arith, l))
