-- A host keeps its number and its peers, whatever is done.
use Rattle.std.proofs.Common.{◌≡◌, ◌<◌, ℕ, suc, ◌==◌, Bool, true, false, ◌||◌, if◌then◌else◌, List, [], ◌∷◌, map, get_or, Option, None, Some, Result, Ok, Err, refl, sym, ap, ◌∙◌, arith}
use Rattle.ncp_leader.specs.declared.leader.Leader.{Leader}
use Rattle.ncp_leader.specs.declared.leader.Short.{Short}
use Rattle.ncp_leader.specs.Leader.{leader_in}
use Rattle.ncp_model.specs.Peers.{Take}
use Rattle.ncp_peer.specs.PeerState.{PeerState, new_state, state_calls, answer_comes}
use Rattle.ncp_peer.specs.Output.{next_of}
use Rattle.ncp_host.specs.Host.{Host, numbers_of, at_peer, changed, is_one_of, new_host, state_of}
use Rattle.ncp_peer.specs.Hearing.{is_kind, after_bits}
use Rattle.ncp_host.specs.Arrivals.{after_from, after_with, after_received, one_other}
use Rattle.ncp_host.specs.Turns.{after_turn, first_goes}
use Rattle.ncp_transcript.specs.declared.call.Call.{Call}
use Rattle.ncp_transcript.specs.declared.note.HostNote.{HostNote}
use Rattle.ncp_transcript.specs.declared.note.HostNote.TheVariants as notes
use Rattle.ncp_transcript.specs.Asked.{Asked, asked_in, state_after_asked, host_after_asked}
use Rattle.ncp_transcript.specs.After.{after_call, after_note}
use Rattle.ncp_transcript.specs.Runs.{host_began}

pub numbers_new : (ns : List ℕ) → numbers_of (map (λ n. (n, new_state)) ns) ≡ ns
numbers_new [] = refl
numbers_new (n ∷ ns) = ap (λ (ms : List ℕ). n ∷ ms) (numbers_new ns)

pub began_new : (me : ℕ) (ns : List ℕ) → host_began (new_host me ns) ≡ new_host me ns
began_new me ns = ap (new_host me) (numbers_new ns)

numbers_at : (ps : List (ℕ × PeerState)) (n : ℕ) (f : PeerState → PeerState) → numbers_of (at_peer n f ps) ≡ numbers_of ps
numbers_at [] n f = refl
numbers_at (p ∷ ps) n f = go (p.0 == n) (numbers_at ps n f)
  where
    go : (b : Bool) → numbers_of (at_peer n f ps) ≡ numbers_of ps → numbers_of (if b then (p.0, f p.1) ∷ ps else p ∷ at_peer n f ps) ≡ p.0 ∷ numbers_of ps
    go true rest = refl
    go false rest = ap (λ (ns : List ℕ). p.0 ∷ ns) rest

numbers_turn : (ps : List (ℕ × PeerState)) → numbers_of (after_turn ps) ≡ numbers_of ps
unfolding after_turn
numbers_turn [] = refl
numbers_turn (p ∷ ps) = go (next_of p.0 p.1) (numbers_turn ps)
  where
    go : (o : Option (ℕ × List Bool)) → numbers_of (after_turn ps) ≡ numbers_of ps → numbers_of (first_goes o p ps (after_turn ps)) ≡ p.0 ∷ numbers_of ps
    go None rest = ap (λ (ns : List ℕ). p.0 ∷ ns) rest
    go (Some out) rest = refl

began_changed : (n : ℕ) (f : PeerState → PeerState) (h : Host) → host_began (changed n f h) ≡ host_began h
began_changed n f h = ap (new_host h.me) (numbers_at h.peers n f)

began_heard : (bits : List Bool) (h : Host) → host_began (after_received bits h) ≡ host_began h
began_heard bits h = go (leader_in bits)
  where
    from : (leader : Leader) (b : Bool) (o : Option PeerState) → host_began (if b then after_from o leader bits h else one_other h) ≡ host_began h
    from leader true (Some s) = began_changed leader.host (after_bits leader bits) h
    from leader true None = refl
    from leader false o = refl

    go : (r : Result Leader Short) → host_began (after_with r bits h) ≡ host_began h
    go (Err short) = refl
    go (Ok leader) = from leader (is_kind leader.kind) (state_of h leader.host)

began_called : (call : Call) (h : Host) → host_began (after_call call h) ≡ host_began h
began_called call h = go (asked_in call)
  where
    go : (o : Option (ℕ × Asked)) → host_began (host_after_asked o h) ≡ host_began h
    go None = refl
    go (Some (peer, asked)) = began_changed peer (state_after_asked asked) h

pub began_noted : (note : HostNote) (h : Host) → host_began (after_note note h) ≡ host_began h
began_noted (notes.Done call) h = began_called call h
began_noted (notes.Took peer pair bytes text) h = began_changed peer (state_calls pair (Take bytes)) h
began_noted (notes.Out message) h = ap (new_host h.me) (numbers_turn h.peers)
began_noted (notes.In message received) h = began_heard message h
began_noted (notes.Answered peer link answer received) h = began_changed peer (answer_comes link answer) h
began_noted note h = refl

-- what has begun as another host has its number and its peers

pub same_me : (h after : Host) → host_began after ≡ host_began h → after.me ≡ h.me
same_me h after e = ap (λ (x : Host). x.me) e

pub same_peers : (h after : Host) → host_began after ≡ host_began h → numbers_of after.peers ≡ numbers_of h.peers
same_peers h after e = sym (numbers_new (numbers_of after.peers)) ∙ ap (λ (x : Host). numbers_of x.peers) e ∙ numbers_new (numbers_of h.peers)

same_number : (m n : ℕ) → (m == n) ≡ true → m ≡ n
same_number m n e = grind arith

-- one of bytes is a byte
pub one_fits : (ns : List ℕ) → ((k : ℕ) → get_or ns k 0 < 256) → (n : ℕ) → is_one_of n ns ≡ true → n < 256
one_fits [] fits n e = absurd (cc e)
one_fits (m ∷ ns) fits n e = go (m == n) refl e (one_fits ns (λ (k : ℕ). fits (suc k)) n)
  where
    go : (b : Bool) → (m == n) ≡ b → (b || is_one_of n ns) ≡ true → (is_one_of n ns ≡ true → n < 256) → n < 256
    go true s e rest = let small : m < 256 = fits 0 in let same : m ≡ n = same_number m n s in omega arith
    go false s e rest = rest e
