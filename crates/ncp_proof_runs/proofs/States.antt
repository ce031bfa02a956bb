-- What a host keeps for a peer after a note: what the note makes of it, if it names the peer.
use Rattle.std.proofs.Common.{◌≡◌, ℕ, ◌==◌, Bool, true, false, not, ◌||◌, if◌then◌else◌, List, [], ◌∷◌, Option, None, Some, Result, Ok, Err, refl, sym, ap, ◌∙◌, arith}
use Rattle.std.proofs.lemmas.Bool.{eqb-true, and_parts}
use Rattle.ncp_leader.specs.declared.leader.Leader.{Leader}
use Rattle.ncp_leader.specs.declared.leader.Short.{Short}
use Rattle.ncp_peer.specs.PeerState.{PeerState, answer_comes}
use Rattle.ncp_peer.specs.Hearing.{regular, rfnm, destination_dead, incomplete, is_kind, answer_of, after_bits}
use Rattle.ncp_peer.specs.Output.{next_of, after_output}
use Rattle.ncp_host.specs.Host.{Host, state_in, state_of, at_peer, changed, numbers_of, is_one_of, are_distinct}
use Rattle.ncp_host.specs.Arrivals.{one_other, after_with, after_hearing, after_from}
use Rattle.ncp_host.specs.Turns.{message_in_turn, after_turn, first_message, first_goes}
use Rattle.ncp_transcript.specs.Asked.{asked_in, Asked, state_after_asked, host_after_asked, peer_of_call, peer_asked}
use Rattle.ncp_transcript.specs.declared.call.Call.{Call}
use Rattle.ncp_transcript.specs.After.{after_call}
use Rattle.ncp_transcript.specs.Noting.{is_answer, if_peer, answer_with}
use Rattle.ncp_proof_runs.specs.Peers.{peer_of_leader, is_this_number, state_asked, bits_for}

-- a peer's state, where the host has the peer, after what happened if it did
abbrev pub done : Bool → (PeerState → PeerState) → Option PeerState → Option PeerState
done b f None = None
done b f (Some s) = Some (if b then f s else s)

pub done_not : (f : PeerState → PeerState) (o : Option PeerState) → o ≡ done false f o
done_not f None = refl
done_not f (Some s) = refl

pub done_nothing : (b : Bool) (o : Option PeerState) → o ≡ done b (λ s. s) o
done_nothing b None = refl
done_nothing true (Some s) = refl
done_nothing false (Some s) = refl

pub at_peer-state : (ps : List (ℕ × PeerState)) (k n : ℕ) (f : PeerState → PeerState) → state_in (at_peer k f ps) n ≡ done (k == n) f (state_in ps n)
at_peer-state [] k n f = refl
at_peer-state (p ∷ ps) k n f = go (p.0 == k) (p.0 == n) refl refl (at_peer-state ps k n f)
  where
    same : (p.0 == k) ≡ true → (p.0 == n) ≡ (k == n)
    same e = ap (λ (i : ℕ). i == n) (eqb-true p.0 k e)

    apart : (p.0 == k) ≡ false → (p.0 == n) ≡ true → (k == n) ≡ false
    apart e g = grind arith

    first : (c : Bool) → (p.0 == n) ≡ c → (k == n) ≡ c → (if c then Some (f p.1) else state_in ps n) ≡ done (k == n) f (if c then Some p.1 else state_in ps n)
    first true g h = ap (λ (b : Bool). Some (if b then f p.1 else p.1)) (sym h)
    first false g h = done_not f (state_in ps n) ∙ ap (λ (b : Bool). done b f (state_in ps n)) (sym h)

    go : (b c : Bool) → (p.0 == k) ≡ b → (p.0 == n) ≡ c → state_in (at_peer k f ps) n ≡ done (k == n) f (state_in ps n)
        → state_in (if b then (p.0, f p.1) ∷ ps else p ∷ at_peer k f ps) n ≡ done (k == n) f (if p.0 == n then Some p.1 else state_in ps n)
    go true c e g rest = ap (λ (i : Bool). if i then Some (f p.1) else state_in ps n) g ∙ first c g (sym (same e) ∙ g) ∙ ap (λ (i : Bool). done (k == n) f (if i then Some p.1 else state_in ps n)) (sym g)
    go false true e g rest =
        ap (λ (i : Bool). if i then Some p.1 else state_in (at_peer k f ps) n) g
        ∙ ap (λ (i : Bool). Some (if i then f p.1 else p.1)) (sym (apart e g))
        ∙ ap (λ (i : Bool). done (k == n) f (if i then Some p.1 else state_in ps n)) (sym g)
    go false false e g rest =
        ap (λ (i : Bool). if i then Some p.1 else state_in (at_peer k f ps) n) g
        ∙ rest
        ∙ ap (λ (i : Bool). done (k == n) f (if i then Some p.1 else state_in ps n)) (sym g)

pub changed-state : (h : Host) (k n : ℕ) (f : PeerState → PeerState) → state_of (changed k f h) n ≡ done (k == n) f (state_of h n)
changed-state h k n f = at_peer-state h.peers k n f

-- a call of which something is asked names the peer of whom it is asked
pub asked-peer : (call : Call) (peer : ℕ) (asked : Asked) → asked_in call ≡ Some (peer, asked) → peer_of_call call ≡ Some peer
asked-peer (Call.State peer pair) n asked e = absurd (cc)
asked-peer (Call.Phase peer) n asked e = absurd (cc)
asked-peer (Call.Echoed peer) n asked e = absurd (cc)
asked-peer (Call.Errors peer) n asked e = absurd (cc)
asked-peer (Call.Counts peer) n asked e = absurd (cc)
asked-peer (Call.Waiting peer place) n asked e = absurd (cc)
asked-peer (Call.Kept peer link) n asked e = absurd (cc)
asked-peer call n asked e = ap peer_asked e

pub called-state : (call : Call) (h : Host) (n : ℕ) → state_of (after_call call h) n ≡ done (is_this_number n (peer_of_call call)) (state_asked (asked_in call)) (state_of h n)
called-state call h n = go (asked_in call) refl
  where
    go : (a : Option (ℕ × Asked)) → asked_in call ≡ a → state_of (host_after_asked a h) n ≡ done (is_this_number n (peer_of_call call)) (state_asked a) (state_of h n)
    go None e = done_nothing _ (state_of h n)
    go (Some (peer, asked)) e = changed-state h peer n (state_after_asked asked) ∙ ap (λ (o : Option ℕ). done (is_this_number n o) (state_after_asked asked) (state_of h n)) (sym (asked-peer call peer asked e))

-- The order of turns.

pub message_cons : (p : ℕ × PeerState) (ps : List (ℕ × PeerState)) → message_in_turn (p ∷ ps) ≡ first_message (next_of p.0 p.1) (message_in_turn ps)
unfolding message_in_turn
message_cons p ps = refl

after_cons : (p : ℕ × PeerState) (ps : List (ℕ × PeerState)) → after_turn (p ∷ ps) ≡ first_goes (next_of p.0 p.1) p ps (after_turn ps)
unfolding after_turn
after_cons p ps = refl

pub message_nil : message_in_turn [] ≡ None
unfolding message_in_turn
message_nil = refl

itself : (n : ℕ) → (n == n) ≡ true
itself n = grind arith

-- a peer that is there is one of the numbers
pub peer_there : (ps : List (ℕ × PeerState)) (n : ℕ) (s : PeerState) → state_in ps n ≡ Some s → is_one_of n (numbers_of ps) ≡ true
peer_there [] n s e = absurd (cc)
peer_there (p ∷ ps) n s e = go (p.0 == n) (peer_there ps n s) e
  where
    go : (b : Bool) → (state_in ps n ≡ Some s → is_one_of n (numbers_of ps) ≡ true) → (if b then Some p.1 else state_in ps n) ≡ Some s → (b || is_one_of n (numbers_of ps)) ≡ true
    go true rest e = refl
    go false rest e = rest e

-- the peer whose turn it is, and the link
pub record Turn (ps : List (ℕ × PeerState)) (message : List Bool) : Type 0 where
  pub n : ℕ
  pub s : PeerState
  pub on : ℕ
  pub found : state_in ps n ≡ Some s
  pub next : next_of n s ≡ Some (on, message)
  pub after : after_turn ps ≡ at_peer n (after_output on message) ps

pub turn : (ps : List (ℕ × PeerState)) (message : List Bool) → are_distinct (numbers_of ps) ≡ true → message_in_turn ps ≡ Some message → Turn ps message
turn [] message d e = let no : None ≡ Some message = sym message_nil ∙ e in absurd (cc)
turn (p ∷ ps) message d e = go (turn ps message (and_parts (not (is_one_of p.0 (numbers_of ps))) (are_distinct (numbers_of ps)) d).1) (next_of p.0 p.1) refl
  where
    parts : (not (is_one_of p.0 (numbers_of ps)) ≡ true) × (are_distinct (numbers_of ps) ≡ true)
    parts = and_parts (not (is_one_of p.0 (numbers_of ps))) (are_distinct (numbers_of ps)) d

    told : (o : Option (ℕ × List Bool)) → next_of p.0 p.1 ≡ o → first_message o (message_in_turn ps) ≡ Some message
    told o q = ap (λ x. first_message x (message_in_turn ps)) (sym q) ∙ sym (message_cons p ps) ∙ e

    other : (n : ℕ) (s : PeerState) → state_in ps n ≡ Some s → (p.0 == n) ≡ false
    other n s f = by (p.0 == n) refl
      where
        by : (b : Bool) → (p.0 == n) ≡ b → b ≡ false
        by true g =
            let one : is_one_of p.0 (numbers_of ps) ≡ true = ap (λ (k : ℕ). is_one_of k (numbers_of ps)) (eqb-true p.0 n g) ∙ peer_there ps n s f in
            let no : not true ≡ true = ap not (sym one) ∙ parts.0 in absurd (cc)
        by false g = refl

    go : (message_in_turn ps ≡ Some message → Turn ps message) → (o : Option (ℕ × List Bool)) → next_of p.0 p.1 ≡ o → Turn (p ∷ ps) message
    go rest None q =
        let r = rest (told None q) in
        let no = other r.n r.s r.found in
        record {
          n = r.n;
          s = r.s;
          on = r.on;
          found = ap (λ (b : Bool). if b then Some p.1 else state_in ps r.n) no ∙ r.found;
          next = r.next;
          after = after_cons p ps ∙ ap (λ o. first_goes o p ps (after_turn ps)) q ∙ ap (λ (xs : List (ℕ × PeerState)). p ∷ xs) r.after ∙ sym (ap (λ (b : Bool). if b then (p.0, after_output r.on message p.1) ∷ ps else p ∷ at_peer r.n (after_output r.on message) ps) no);
        }
    go rest (Some out) q =
        let same : out.1 ≡ message = let i : Some out.1 ≡ Some message = told (Some out) q in cc in
        record {
          n = p.0;
          s = p.1;
          on = out.0;
          found = ap (λ (b : Bool). if b then Some p.1 else state_in ps p.0) (itself p.0);
          next = q ∙ ap (λ (m : List Bool). Some (out.0, m)) same;
          after = after_cons p ps ∙ ap (λ o. first_goes o p ps (after_turn ps)) q ∙ ap (λ (m : List Bool). (p.0, after_output out.0 m p.1) ∷ ps) same ∙ sym (ap (λ (b : Bool). if b then (p.0, after_output out.0 message p.1) ∷ ps else p ∷ at_peer p.0 (after_output out.0 message) ps) (itself p.0));
        }

-- Bits that come, which are no answer of a peer.

pub kind_first : (k : ℕ) (b : Bool) → (k == regular) ≡ b → is_kind k ≡ (b || is_answer k)
kind_first k true e = ap (λ (b : Bool). b || k == rfnm || k == destination_dead || k == incomplete) e
kind_first k false e = ap (λ (b : Bool). b || k == rfnm || k == destination_dead || k == incomplete) e

pub bits-state : (r : Result Leader Short) (bits : List Bool) (h : Host) (n : ℕ) → answer_with r h ≡ None → state_of (after_with r bits h) n ≡ done (is_this_number n (peer_of_leader r)) (bits_for r bits) (state_of h n)
bits-state (Err short) bits h n e = done_not (bits_for (Err short) bits) (state_of h n)
bits-state (Ok leader) bits h n e = go (leader.kind == regular) refl
  where
    unknown : (o : Option PeerState) → state_of h leader.host ≡ None → o ≡ state_of h n → state_of h n ≡ done (leader.host == n) (bits_for (Ok leader) bits) (state_of h n)
    unknown o none i = by (leader.host == n) refl
      where
        by : (b : Bool) → (leader.host == n) ≡ b → state_of h n ≡ done b (bits_for (Ok leader) bits) (state_of h n)
        by true g = let nobody : state_of h n ≡ None = ap (state_of h) (sym (eqb-true leader.host n g)) ∙ none in nobody ∙ ap (done true (bits_for (Ok leader) bits)) (sym nobody)
        by false g = done_not (bits_for (Ok leader) bits) (state_of h n)

    same : (leader.kind == regular) ≡ true → (o : Option PeerState) → done (leader.host == n) (after_bits leader bits) o ≡ done (leader.host == n) (bits_for (Ok leader) bits) o
    same g None = refl
    same g (Some s) = ap (λ (b : Bool). Some (if leader.host == n then (if b then bits_for (Ok leader) bits s else answer_comes leader.link (answer_of leader.kind) s) else s)) g

    from : (leader.kind == regular) ≡ true → (o : Option PeerState) → state_of h leader.host ≡ o → state_of (after_from o leader bits h) n ≡ done (leader.host == n) (bits_for (Ok leader) bits) (state_of h n)
    from g None f = unknown (state_of h n) f refl
    from g (Some s) f = changed-state h leader.host n (after_bits leader bits) ∙ same g (state_of h n)

    -- the answer of a host that is no peer, or another type
    rest : (b : Bool) (o : Option PeerState) → is_answer leader.kind ≡ b → state_of h leader.host ≡ o → (if b then if_peer o leader else None) ≡ None
        → state_of (if b then after_from o leader bits h else one_other h) n ≡ state_of h n
    rest true None g f none = refl
    rest true (Some s) g f none = absurd (cc)
    rest false o g f none = refl

    go : (b : Bool) → (leader.kind == regular) ≡ b → state_of (after_hearing leader bits h) n ≡ done (is_this_number n (if b then Some leader.host else None)) (bits_for (Ok leader) bits) (state_of h n)
    go true g = ap (λ (b : Bool). state_of (if b then after_from (state_of h leader.host) leader bits h else one_other h) n) (kind_first leader.kind true g) ∙ from g (state_of h leader.host) refl
    go false g =
        ap (λ (b : Bool). state_of (if b then after_from (state_of h leader.host) leader bits h else one_other h) n) (kind_first leader.kind false g)
        ∙ rest (is_answer leader.kind) (state_of h leader.host) refl refl e
        ∙ done_not (bits_for (Ok leader) bits) (state_of h n)
