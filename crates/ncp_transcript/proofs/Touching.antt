-- What is done with one peer leaves what the host has for the others.
use Rattle.std.proofs.Common.{◌≡◌, ◌≢◌, ℕ, ◌==◌, Bool, true, false, if◌then◌else◌, List, [], ◌∷◌, Option, None, Some, Result, Ok, Err, refl, sym, ap, ◌∙◌, arith}
use Rattle.ncp_leader.specs.declared.leader.Leader.{Leader}
use Rattle.ncp_leader.specs.declared.leader.Short.{Short}
use Rattle.ncp_leader.specs.Leader.{leader_in}
use Rattle.ncp_model.specs.Peers.{Take}
use Rattle.ncp_peer.specs.PeerState.{PeerState, state_calls, answer_comes}
use Rattle.ncp_peer.specs.Output.{next_of, after_output}
use Rattle.ncp_host.specs.Host.{Host, state_in, state_of, at_peer}
use Rattle.ncp_peer.specs.Hearing.{is_kind, after_bits}
use Rattle.ncp_host.specs.Arrivals.{after_from, after_with, after_received, one_other}
use Rattle.ncp_host.specs.Turns.{after_turn, first_goes}
use Rattle.ncp_transcript.specs.declared.call.Call.{Call}
use Rattle.ncp_transcript.specs.declared.note.HostNote.{HostNote}
use Rattle.ncp_transcript.specs.declared.note.HostNote.TheVariants as notes
use Rattle.ncp_transcript.specs.Asked.{Asked, asked_in, peer_asked, state_after_asked, host_after_asked}
use Rattle.ncp_transcript.specs.After.{after_call, after_note}
use Rattle.ncp_transcript.specs.Touching.{peer_touched, sender_of, first_peer, next_peer, touched}

apart : (a other : ℕ) → ◌≢◌ {A = Option ℕ} (Some a) (Some other) → (a == other) ≡ false
apart a other d = go (a == other) refl
  where
    go : (b : Bool) → (a == other) ≡ b → (a == other) ≡ false
    go false e = e
    go true e = let same : a ≡ other = grind arith in absurd (d (ap Some same))

same_number : (a n : ℕ) → (a == n) ≡ true → a ≡ n
same_number a n e = grind arith

-- one that is changed is not looked at
passed : (p : ℕ × PeerState) (s : PeerState) (rest : Option PeerState) (other : ℕ) → (p.0 == other) ≡ false → (if p.0 == other then Some s else rest) ≡ (if p.0 == other then Some p.1 else rest)
passed p s rest other e = ap (λ b. if b then Some s else rest) e ∙ sym (ap (λ b. if b then Some p.1 else rest) e)

at_other : (ps : List (ℕ × PeerState)) (n other : ℕ) (f : PeerState → PeerState) → ◌≢◌ {A = Option ℕ} (Some n) (Some other) → state_in (at_peer n f ps) other ≡ state_in ps other
at_other [] n other f d = refl
at_other (p ∷ ps) n other f d = go (p.0 == n) refl (at_other ps n other f d)
  where
    go : (b : Bool) → (p.0 == n) ≡ b → state_in (at_peer n f ps) other ≡ state_in ps other
        → state_in (if b then (p.0, f p.1) ∷ ps else p ∷ at_peer n f ps) other ≡ (if p.0 == other then Some p.1 else state_in ps other)
    go true e rest = passed p (f p.1) (state_in ps other) other (ap (λ (k : ℕ). k == other) (same_number p.0 n e) ∙ apart n other d)
    go false e rest = ap (λ (o : Option PeerState). if p.0 == other then Some p.1 else o) rest

in_turn : (ps : List (ℕ × PeerState)) (other : ℕ) → next_peer ps ≢ Some other → state_in (after_turn ps) other ≡ state_in ps other
unfolding after_turn
in_turn [] other d = refl
in_turn (p ∷ ps) other d = go (next_of p.0 p.1) (in_turn ps other) d
  where
    go : (o : Option (ℕ × List Bool)) → (next_peer ps ≢ Some other → state_in (after_turn ps) other ≡ state_in ps other)
        → first_peer o p.0 (next_peer ps) ≢ Some other → state_in (first_goes o p ps (after_turn ps)) other ≡ (if p.0 == other then Some p.1 else state_in ps other)
    go None rest d = ap (λ (o : Option PeerState). if p.0 == other then Some p.1 else o) (rest d)
    go (Some out) rest d = passed p (after_output out.0 out.1 p.1) (state_in ps other) other (apart p.0 other d)

heard : (bits : List Bool) (h : Host) (other : ℕ) → sender_of (leader_in bits) ≢ Some other → state_of (after_received bits h) other ≡ state_of h other
heard bits h other d = go (leader_in bits) d
  where
    from : (leader : Leader) (b : Bool) (o : Option PeerState) → ◌≢◌ {A = Option ℕ} (Some leader.host) (Some other) → state_of (if b then after_from o leader bits h else one_other h) other ≡ state_of h other
    from leader true (Some s) d = at_other h.peers leader.host other (after_bits leader bits) d
    from leader true None d = refl
    from leader false o d = refl

    go : (r : Result Leader Short) → sender_of r ≢ Some other → state_of (after_with r bits h) other ≡ state_of h other
    go (Err short) d = refl
    go (Ok leader) d = from leader (is_kind leader.kind) (state_of h leader.host) d

called : (call : Call) (h : Host) (other : ℕ) → peer_touched call ≢ Some other → state_of (after_call call h) other ≡ state_of h other
called call h other d = go (asked_in call) d
  where
    go : (o : Option (ℕ × Asked)) → peer_asked o ≢ Some other → state_of (host_after_asked o h) other ≡ state_of h other
    go None d = refl
    go (Some (peer, asked)) d = at_other h.peers peer other (state_after_asked asked) d

pub others_stay : (note : HostNote) (h : Host) (other : ℕ) → touched note h ≢ Some other → state_of (after_note note h) other ≡ state_of h other
others_stay (notes.Done call) h other d = called call h other d
others_stay (notes.Took peer pair bytes text) h other d = at_other h.peers peer other (state_calls pair (Take bytes)) d
others_stay (notes.Out message) h other d = in_turn h.peers other d
others_stay (notes.In message received) h other d = heard message h other d
others_stay (notes.Answered peer link answer received) h other d = at_other h.peers peer other (answer_comes link answer) d
others_stay note h other d = refl
