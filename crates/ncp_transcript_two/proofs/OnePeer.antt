-- A host whose one peer has this number.
use Rattle.std.proofs.Common.{◌≡◌, ℕ, ◌==◌, Bool, true, false, if◌then◌else◌, List, [], ◌∷◌, Option, None, Some, Result, Ok, refl, sym, ap, ◌∙◌}
use Rattle.std.proofs.lemmas.Bool.{eq-eqb, eqb-true}
use Rattle.ncp_leader.specs.declared.leader.Leader.{Leader}
use Rattle.ncp_leader.specs.Leader.{leader_in}
use Rattle.ncp_peer.specs.declared.received.Received.TheVariants as cases
use Rattle.ncp_peer.specs.PeerState.{PeerState}
use Rattle.ncp_peer.specs.Hearing.{is_kind, answer_of, after_bits}
use Rattle.ncp_host.specs.Host.{Host, numbers_of, state_in, state_of, at_peer, changed}
use Rattle.ncp_host.specs.Arrivals as arrivals
use Rattle.ncp_host.specs.Turns.{message_in_turn, after_turn, first_message, first_goes}
use Rattle.ncp_peer.specs.Output.{next_of, after_next, message_on}
use Rattle.ncp_transcript.specs.declared.note.HostNote.TheVariants as of_host
use Rattle.ncp_transcript.specs.Noting.{is_answer, if_peer, answer_with, note_as, note_of_bits}
use Rattle.ncp_transcript_two.specs.World as worlds
use Rattle.ncp_transcript_two.specs.Seen.{state_or_new, had_for}

-- the peers of such a host
pub the_peer : (n : ℕ) (ps : List (ℕ × PeerState)) → numbers_of ps ≡ n ∷ [] → ps ≡ (n, state_or_new (state_in ps n)) ∷ []
the_peer n [] e = absurd (cc e)
the_peer n (p ∷ q ∷ ps) e = absurd (cc e)
the_peer n (p ∷ []) e =
    let same : p.0 ≡ n = cc e in
    ap (λ (m : ℕ). (m, p.1) ∷ []) same
    ∙ ap (λ (b : Bool). (n, state_or_new (if b then Some p.1 else None)) ∷ []) (sym (eq-eqb p.0 n same))

in_one : (n : ℕ) (s : PeerState) → state_in ((n, s) ∷ []) n ≡ Some s
in_one n s = ap (λ (b : Bool). if b then Some s else None) (eq-eqb n n refl)

pub has-peer : (n : ℕ) (h : Host) → numbers_of h.peers ≡ n ∷ [] → state_of h n ≡ Some (had_for n h)
has-peer n h e = ap (λ (ps : List (ℕ × PeerState)). state_in ps n) (the_peer n h.peers e) ∙ in_one n (had_for n h)

-- it has no other
pub only-peer : (n m : ℕ) (s : PeerState) (ps : List (ℕ × PeerState)) → numbers_of ps ≡ n ∷ [] → state_in ps m ≡ Some s → m ≡ n
only-peer n m s [] e k = absurd (cc e)
only-peer n m s (p ∷ q ∷ ps) e k = absurd (cc e)
only-peer n m s (p ∷ []) e k = go (p.0 == m) refl k
  where
    go : (b : Bool) → (p.0 == m) ≡ b → (if b then Some p.1 else None) ≡ Some s → m ≡ n
    go true t k = let same : p.0 ≡ n = cc e in sym (eqb-true p.0 m t) ∙ same
    go false t k = absurd (cc k)

-- something happens to what it has for it
pub had-changed : (n : ℕ) (f : PeerState → PeerState) (h : Host) → numbers_of h.peers ≡ n ∷ [] → had_for n (changed n f h) ≡ f (had_for n h)
had-changed n f h e =
    ap (λ (ps : List (ℕ × PeerState)). state_or_new (state_in (at_peer n f ps) n)) (the_peer n h.peers e)
    ∙ ap (λ (b : Bool). state_or_new (state_in (if b then (n, f (had_for n h)) ∷ [] else (n, had_for n h) ∷ []) n)) (eq-eqb n n refl)
    ∙ ap state_or_new (in_one n (f (had_for n h)))

-- its next message

pub turn-message : (n : ℕ) (s : PeerState) → message_in_turn ((n, s) ∷ []) ≡ message_on (next_of n s)
unfolding message_in_turn
turn-message n s = go (next_of n s)
  where
    go : (o : Option (ℕ × List Bool)) → first_message o None ≡ message_on o
    go None = refl
    go (Some x) = refl

turn-after : (n : ℕ) (s : PeerState) → after_turn ((n, s) ∷ []) ≡ (n, after_next (next_of n s) s) ∷ []
unfolding after_turn
turn-after n s = go (next_of n s)
  where
    go : (o : Option (ℕ × List Bool)) → first_goes o (n, s) [] [] ≡ (n, after_next o s) ∷ []
    go None = refl
    go (Some x) = refl

pub next-message : (n : ℕ) (h : Host) → numbers_of h.peers ≡ n ∷ [] → message_in_turn h.peers ≡ message_on (next_of n (had_for n h))
next-message n h e = ap message_in_turn (the_peer n h.peers e) ∙ turn-message n (had_for n h)

pub had-sent : (n : ℕ) (h : Host) → numbers_of h.peers ≡ n ∷ [] → state_or_new (state_in (after_turn h.peers) n) ≡ after_next (next_of n (had_for n h)) (had_for n h)
had-sent n h e =
    let s : PeerState = had_for n h in
    ap (λ (ps : List (ℕ × PeerState)). state_or_new (state_in (after_turn ps) n)) (the_peer n h.peers e)
    ∙ ap (λ (ps : List (ℕ × PeerState)). state_or_new (state_in ps n)) (turn-after n s)
    ∙ ap state_or_new (in_one n (after_next (next_of n s) s))

-- bits that come to it from that peer

module _ (h : Host) (bits : List Bool) (l : Leader) (one : numbers_of h.peers ≡ l.host ∷ []) (led : leader_in bits ≡ Ok l) (kind : is_kind l.kind ≡ true) where
  pub received-same : arrivals.received_in bits h ≡ worlds.received bits (had_for l.host h)
  received-same =
      ap (λ (r : Result Leader _). arrivals.received_with r bits h) led
      ∙ ap (λ (b : Bool). if b then arrivals.received_from (state_of h l.host) l bits else cases.Other l.kind) kind
      ∙ ap (λ (o : Option PeerState). arrivals.received_from o l bits) (has-peer l.host h one)
      ∙ ap (λ (r : Result Leader _). worlds.state_received_with r bits (had_for l.host h)) (sym led)

  pub had-received : had_for l.host (arrivals.after_received bits h) ≡ worlds.state_after_received bits (had_for l.host h)
  had-received =
      ap (λ (r : Result Leader _). had_for l.host (arrivals.after_with r bits h)) led
      ∙ ap (λ (b : Bool). had_for l.host (if b then arrivals.after_from (state_of h l.host) l bits h else arrivals.one_other h)) kind
      ∙ ap (λ (o : Option PeerState). had_for l.host (arrivals.after_from o l bits h)) (has-peer l.host h one)
      ∙ had-changed l.host (after_bits l bits) h one
      ∙ ap (λ (r : Result Leader _). worlds.state_after_with r bits (had_for l.host h)) (sym led)

-- they are noted as a message, or as an answer

pub noted-message : (h : Host) (bits : List Bool) (l : Leader) → leader_in bits ≡ Ok l → is_answer l.kind ≡ false → note_of_bits bits h ≡ of_host.In bits (arrivals.received_in bits h)
noted-message h bits l led f =
    ap (λ (o : Option Leader). note_as o bits (arrivals.received_in bits h))
    (ap (λ (r : Result Leader _). answer_with r h) led ∙ ap (λ (b : Bool). if b then if_peer (state_of h l.host) l else None) f)

pub noted-answer : (h : Host) (bits : List Bool) (l : Leader) → numbers_of h.peers ≡ l.host ∷ [] → leader_in bits ≡ Ok l → is_answer l.kind ≡ true
    → note_of_bits bits h ≡ of_host.Answered l.host l.link (answer_of l.kind) (arrivals.received_in bits h)
noted-answer h bits l one led t =
    ap (λ (o : Option Leader). note_as o bits (arrivals.received_in bits h))
    (ap (λ (r : Result Leader _). answer_with r h) led
    ∙ ap (λ (b : Bool). if b then if_peer (state_of h l.host) l else None) t
    ∙ ap (λ (o : Option PeerState). if_peer o l) (has-peer l.host h one))
