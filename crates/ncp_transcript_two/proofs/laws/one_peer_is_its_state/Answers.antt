use Rattle.std.proofs.Common.{◌≡◌, ℕ, ◌==◌, Bool, true, if◌then◌else◌, List, None, Some, Result, Ok, sym, ap, ◌∙◌, ◌∷◌, []}
use Rattle.std.proofs.lemmas.Bool.{eq-eqb}
use Rattle.ncp_leader.specs.declared.leader.Leader.{Leader}
use Rattle.ncp_host.specs.declared.ignored.Ignored.{Ignored}
use Rattle.ncp_peer.specs.PeerState.{PeerState}
use Rattle.ncp_leader.specs.declared.leader.Short.{Short}
use Rattle.ncp_leader.specs.Leader.{leader_in}
use Rattle.ncp_peer.specs.Hearing.{is_kind, after_bits}
use Rattle.ncp_host.specs.Host.{Host, state_of}
use Rattle.ncp_host.specs.Arrivals as arrivals
use Rattle.ncp_transcript_two.specs.OnePeer.{one_peer}
use Rattle.ncp_transcript_two.proofs.OnePeer.{turn-message}
use Rattle.ncp_transcript_two.specs.World as worlds
use Rattle.ncp_transcript_two.proofs.laws.one_peer_is_its_state.Goals as goal

after : (me number : ℕ) (i : Ignored) (s : PeerState) (bits : List Bool) (l : Leader) → leader_in bits ≡ Ok l → is_kind l.kind ≡ true → l.host ≡ number
    → arrivals.after_received bits (one_peer me number i s) ≡ one_peer me number i (worlds.state_after_received bits s)
after me number i s bits l e k n =
    let h : Host = one_peer me number i s in
    let same : (number == l.host) ≡ true = eq-eqb number l.host (sym n) in
    ap (λ (r : Result Leader Short). arrivals.after_with r bits h) e
    ∙ ap (λ (b : Bool). if b then arrivals.after_from (state_of h l.host) l bits h else arrivals.one_other h) k
    ∙ ap (λ (b : Bool). arrivals.after_from (if b then Some s else None) l bits h) same
    ∙ ap (λ (b : Bool). (let x : Host = record h { peers = if b then (number, after_bits l bits s) ∷ [] else (number, s) ∷ [] } in x)) same
    ∙ ap (λ (r : Result Leader Short). one_peer me number i (worlds.state_after_with r bits s)) (sym e)

pub returns-clause-after : goal.returns-clause-after
returns-clause-after c = after

pub returns-clause-out : goal.returns-clause-out
returns-clause-out c = λ me number i s. turn-message number s
