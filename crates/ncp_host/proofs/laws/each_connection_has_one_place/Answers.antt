use Rattle.std.proofs.Common.{◌≡◌, ℕ, ◌≤◌, Option, None, Some, Result, Ok, ap}
use Rattle.ncp_model.specs.declared.pair.Pair.{Pair}
use Rattle.ncp_model.specs.declared.call_fault.CallFault.{CallFault}
use Rattle.ncp_conn.specs.declared.record.Record.{Record}
use Rattle.ncp_conn.specs.Records.{record_in}
use Rattle.ncp_conn.specs.Listing.{connection_in}
use Rattle.ncp_conn.proofs.Listing.{place_has_record, record_has_room, place_is_one, places_end}
use Rattle.ncp_peer.specs.PeerState.{PeerState}
use Rattle.ncp_host.specs.Host.{if_known, state_of}
use Rattle.ncp_peer.specs.PeerCalls.{record_answer}
use Rattle.ncp_host.proofs.laws.each_connection_has_one_place.Goals as goal

abbrev told : ℕ → Option PeerState → Result (Option (Pair × Record)) CallFault
told place o = if_known o (λ s. Ok (connection_in place s.peer.ends))

abbrev known : Pair → Option PeerState → Result Record CallFault
known pair o = if_known o (λ s. record_answer (record_in pair s.peer.ends))

is_told : (place : ℕ) (s : PeerState) (x : Option (Pair × Record)) → told place (Some s) ≡ Ok x → connection_in place s.peer.ends ≡ x
is_told place s x h = cc

is_some : (o : Option Record) (r : Record) → record_answer o ≡ Ok r → o ≡ Some r
is_some None r h = absurd (cc)
is_some (Some s) r h = cc

there : (o : Option PeerState) (place : ℕ) (pair : Pair) (r : Record) → told place o ≡ Ok (Some (pair, r)) → known pair o ≡ Ok r
there None place pair r h = absurd (cc)
there (Some s) place pair r h = ap record_answer (place_has_record s.peer.ends place pair r (is_told place s (Some (pair, r)) h))

each : (o : Option PeerState) (pair : Pair) (r : Record) → known pair o ≡ Ok r → (place : ℕ) × (told place o ≡ Ok (Some (pair, r)))
each None pair r h = absurd (cc)
each (Some s) pair r h =
    let p = record_has_room s.peer.ends pair r (is_some (record_in pair s.peer.ends) r h) in
    (p.0, ap (λ (x : Option (Pair × Record)). Ok x) p.1)

once : (o : Option PeerState) (one other : ℕ) (pair : Pair) (r s : Record) → told one o ≡ Ok (Some (pair, r)) → told other o ≡ Ok (Some (pair, s)) → one ≡ other
once None one other pair r s h g = absurd (cc)
once (Some p) one other pair r s h g = place_is_one p.peer.ends one other pair r s (is_told one p (Some (pair, r)) h) (is_told other p (Some (pair, s)) g)

behind : (o : Option PeerState) (place more : ℕ) → told place o ≡ Ok None → place ≤ more → told more o ≡ Ok None
behind None place more h l = absurd (cc)
behind (Some s) place more h l = ap (λ (x : Option (Pair × Record)). Ok x) (places_end s.peer.ends place more (is_told place s None h) l)

pub returns-clause-there : goal.returns-clause-there
returns-clause-there c number place pair r h told = there (state_of h number) place pair r told

pub returns-clause-each : goal.returns-clause-each
returns-clause-each c number pair r h known = each (state_of h number) pair r known

pub returns-clause-once : goal.returns-clause-once
returns-clause-once c number here there pair r s h one other = once (state_of h number) here there pair r s one other

pub returns-clause-following : goal.returns-clause-following
returns-clause-following c number place more h none l = behind (state_of h number) place more none l
