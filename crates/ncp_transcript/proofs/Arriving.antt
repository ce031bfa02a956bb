-- The answer of a peer is what the host receives as one.
use Rattle.std.proofs.Common.{◌≡◌, ℕ, ◌==◌, Bool, true, false, ◌||◌, if◌then◌else◌, List, Option, None, Some, Result, Ok, Err, refl, sym, ap, ◌∙◌, arith}
use Rattle.ncp_leader.specs.declared.leader.Leader.{Leader}
use Rattle.ncp_leader.specs.declared.leader.Short.{Short}
use Rattle.ncp_leader.specs.Leader.{leader_in}
use Rattle.ncp_leader.specs.Message.{message_in}
use Rattle.ncp_peer.specs.PeerState.{PeerState, answer_comes}
use Rattle.ncp_peer.specs.Hearing.{regular, rfnm, destination_dead, incomplete, is_kind, answer_of, answer_received, message_after, message_received}
use Rattle.ncp_host.specs.Host.{Host, state_of, changed}
use Rattle.ncp_host.specs.Arrivals.{after_from, after_with, after_received, received_from, received_with, received_in, one_other}
use Rattle.ncp_peer.specs.declared.received.Received.TheVariants as received
use Rattle.ncp_transcript.specs.Noting.{is_answer, if_peer, answer_with, answer_in}
use Rattle.ncp_transcript.specs.Runs.{answer_returned}

not_regular : (kind : ℕ) → is_answer kind ≡ true → (kind == regular) ≡ false
not_regular kind e = grind arith

says_something : (kind : ℕ) → is_answer kind ≡ true → is_kind kind ≡ true
says_something kind e = ap (λ b. b || kind == rfnm || kind == destination_dead || kind == incomplete) (not_regular kind e) ∙ e

-- what the host is after it
after_leader : (leader l : Leader) (bits : List Bool) (h : Host) (a : Bool) (s : Option PeerState) → is_answer leader.kind ≡ a → state_of h leader.host ≡ s
    → (if a then if_peer s leader else None) ≡ Some l
    → (if is_kind leader.kind then after_from (state_of h leader.host) leader bits h else one_other h) ≡ changed l.host (answer_comes l.link (answer_of l.kind)) h
after_leader leader l bits h false s ea es e = absurd (cc e)
after_leader leader l bits h true None ea es e = absurd (cc e)
after_leader leader l bits h true (Some s) ea es e =
    let is : leader ≡ l = cc in
    ap (λ b. if b then after_from (state_of h leader.host) leader bits h else one_other h) (says_something leader.kind ea)
    ∙ ap (λ (o : Option PeerState). after_from o leader bits h) es
    ∙ ap (λ b. changed leader.host (λ (x : PeerState). if b then message_after leader.link bits (message_in bits) x else answer_comes leader.link (answer_of leader.kind) x) h) (not_regular leader.kind ea)
    ∙ ap (λ (x : Leader). changed x.host (answer_comes x.link (answer_of x.kind)) h) is

-- and what it received
returned_leader : (leader l : Leader) (bits : List Bool) (h : Host) (a : Bool) (s : Option PeerState) → is_answer leader.kind ≡ a → state_of h leader.host ≡ s
    → (if a then if_peer s leader else None) ≡ Some l
    → answer_returned (state_of h l.host) l.link ≡ Some (if is_kind leader.kind then received_from (state_of h leader.host) leader bits else received.Other leader.kind)
returned_leader leader l bits h false s ea es e = absurd (cc e)
returned_leader leader l bits h true None ea es e = absurd (cc e)
returned_leader leader l bits h true (Some s) ea es e =
    let is : leader ≡ l = cc in
    ap (λ (x : Leader). answer_returned (state_of h x.host) x.link) (sym is)
    ∙ ap (λ (o : Option PeerState). answer_returned o leader.link) es
    ∙ ap (λ b. Some (if b then message_received leader.link (message_in bits) s else answer_received leader.link s)) (sym (not_regular leader.kind ea))
    ∙ ap (λ (o : Option PeerState). Some (received_from o leader bits)) (sym es)
    ∙ ap (λ b. Some (if b then received_from (state_of h leader.host) leader bits else received.Other leader.kind)) (sym (says_something leader.kind ea))

pub after_answer : (bits : List Bool) (h : Host) (l : Leader) → answer_in bits h ≡ Some l → after_received bits h ≡ changed l.host (answer_comes l.link (answer_of l.kind)) h
after_answer bits h l e = go (leader_in bits) e
  where
    go : (r : Result Leader Short) → answer_with r h ≡ Some l → after_with r bits h ≡ changed l.host (answer_comes l.link (answer_of l.kind)) h
    go (Err short) e = absurd (cc e)
    go (Ok leader) e = after_leader leader l bits h (is_answer leader.kind) (state_of h leader.host) refl refl e

pub answer_body : (bits : List Bool) (h : Host) (l : Leader) → answer_in bits h ≡ Some l → answer_returned (state_of h l.host) l.link ≡ Some (received_in bits h)
answer_body bits h l e = go (leader_in bits) e
  where
    go : (r : Result Leader Short) → answer_with r h ≡ Some l → answer_returned (state_of h l.host) l.link ≡ Some (received_with r bits h)
    go (Err short) e = absurd (cc e)
    go (Ok leader) e = returned_leader leader l bits h (is_answer leader.kind) (state_of h leader.host) refl refl e
