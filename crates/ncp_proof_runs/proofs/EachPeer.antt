-- Each peer by itself, over a whole run.
use Rattle.std.proofs.Common.{◌≡◌, ℕ, ◌<◌, ◌==◌, Bool, true, false, cond, ◌||◌, if◌then◌else◌, List, [], ◌∷◌, map, Option, None, Some, Result, Ok, Err, refl, sym, ap, ◌∙◌, subst}
use Rattle.ncp_leader.specs.declared.leader.Leader.{Leader}
use Rattle.ncp_leader.specs.declared.leader.Short.{Short}
use Rattle.ncp_leader.specs.Leader.{leader_in}
use Rattle.ncp_slot.specs.Slot.{kept_message}
use Rattle.ncp_slot.proofs.Places.{slot_at-no_slots}
use Rattle.ncp_peer.specs.PeerState.{PeerState, new_state}
use Rattle.ncp_peer.specs.Hearing.{is_kind, after_bits}
use Rattle.ncp_host.specs.Host.{Host, state_in, state_of, at_peer, numbers_of, is_one_of, are_distinct, new_host}
use Rattle.ncp_host.specs.Arrivals.{after_with, after_from, one_other}
use Rattle.ncp_transcript.specs.declared.note.HostNote.{HostNote}
use Rattle.ncp_transcript.specs.After.{after_note, after_notes}
use Rattle.ncp_transcript.specs.Runs.{IsHostSaid, IsHostRun}
use Rattle.ncp_proof_runs.specs.Peers.{FromBeginning, names, notes_of_peer, note_for, notes_for}
use Rattle.ncp_proof_runs.proofs.Said.{IsRunOf}
use Rattle.ncp_proof_runs.proofs.States.{done, peer_there}
use Rattle.ncp_proof_runs.proofs.Ready.{Addressed}
use Rattle.ncp_proof_runs.proofs.PeerRuns.{addressed-after}
use Rattle.ncp_proof_runs.proofs.HostRuns.{Holds, some_same, out-turn, note-state, note-said}
use Rattle.ncp_transcript.specs.Asked.{Asked, asked_in, state_after_asked, host_after_asked}

-- A host keeps its peers.

changed-numbers : (ps : List (ℕ × PeerState)) (k : ℕ) (f : PeerState → PeerState) → numbers_of (at_peer k f ps) ≡ numbers_of ps
changed-numbers [] k f = refl
changed-numbers (p ∷ ps) k f = go (p.0 == k) (changed-numbers ps k f)
  where
    go : (b : Bool) → numbers_of (at_peer k f ps) ≡ numbers_of ps → numbers_of (if b then (p.0, f p.1) ∷ ps else p ∷ at_peer k f ps) ≡ p.0 ∷ numbers_of ps
    go true rest = refl
    go false rest = ap (λ (ns : List ℕ). p.0 ∷ ns) rest

called-numbers : (asked : Option (ℕ × Asked)) (h : Host) → numbers_of (host_after_asked asked h).peers ≡ numbers_of h.peers
called-numbers None h = refl
called-numbers (Some (peer, asked)) h = changed-numbers h.peers peer (state_after_asked asked)

bits-numbers : (r : Result Leader Short) (bits : List Bool) (h : Host) → numbers_of (after_with r bits h).peers ≡ numbers_of h.peers
bits-numbers (Err short) bits h = refl
bits-numbers (Ok leader) bits h = go (is_kind leader.kind) (state_of h leader.host)
  where
    go : (b : Bool) (o : Option PeerState) → numbers_of (if b then after_from o leader bits h else one_other h).peers ≡ numbers_of h.peers
    go true None = refl
    go true (Some s) = changed-numbers h.peers leader.host (after_bits leader bits)
    go false o = refl

note-numbers : (ns : List ℕ) (note : HostNote) (h : Host) → Holds ns h → IsHostSaid note h → numbers_of (after_note note h).peers ≡ numbers_of h.peers
note-numbers ns (HostNote.Done call) h k p = called-numbers (asked_in call) h
note-numbers ns (HostNote.Took peer pair bytes text) h k p = changed-numbers h.peers peer _
note-numbers ns (HostNote.Out message) h k p = let t = out-turn ns h message k p in ap numbers_of t.after ∙ changed-numbers h.peers t.n _
note-numbers ns (HostNote.In message received) h k p = bits-numbers (leader_in message) message h
note-numbers ns (HostNote.Answered peer link how received) h k p = changed-numbers h.peers peer _
note-numbers ns other h k p = refl

-- each of its peers was there before, and is as the note made it
was_there : (b : Bool) (f : PeerState → PeerState) (o : Option PeerState) (now : PeerState) → done b f o ≡ Some now → (s : PeerState) × (o ≡ Some s) × (now ≡ (if b then f s else s))
was_there b f None now e = absurd (cc)
was_there b f (Some s) now e = (s, refl, sym (some_same e))

pub holds-after : (ns : List ℕ) (note : HostNote) (h : Host) → Holds ns h → IsHostSaid note h → Holds ns (after_note note h)
holds-after ns note h k p = record { distinct = k.distinct; numbers = note-numbers ns note h k p ∙ k.numbers; good = good }
  where
    good : (n : ℕ) (now : PeerState) → state_of (after_note note h) n ≡ Some now → (n < 256) × Addressed n now
    good n now e = by (names n note) refl (was_there (names n note) (note_for note) (state_of h n) now (sym (note-state ns note h n k p) ∙ e))
      where
        by : (b : Bool) → names n note ≡ b → (s : PeerState) × (state_of h n ≡ Some s) × (now ≡ (if names n note then note_for note s else s)) → (n < 256) × Addressed n now
        by true g w =
            let before = k.good n w.0 w.1 in
            let is : now ≡ note_for note w.0 = w.2 ∙ ap (λ (b : Bool). if b then note_for note w.0 else w.0) g in
            (before.0, subst (λ (x : PeerState). Addressed n x) (sym is) (addressed-after n note w.0 (note-said ns note h n w.0 k p w.1 g) before.1))
        by false g w =
            let before = k.good n w.0 w.1 in
            let is : now ≡ w.0 = w.2 ∙ ap (λ (b : Bool). if b then note_for note w.0 else w.0) g in
            (before.0, subst (λ (x : PeerState). Addressed n x) (sym is) before.1)

-- the notes of a peer are all that matters to it, and they are a run
pub record Apart (n : ℕ) (all : List HostNote) (h : Host) (s : PeerState) : Type 0 where
  pub state : state_of (after_notes all h) n ≡ Some (notes_for (notes_of_peer n all) s)
  pub run : IsRunOf n (notes_of_peer n all) s

pub apart : (ns : List ℕ) (all : List HostNote) (h : Host) (n : ℕ) (s : PeerState) → Holds ns h → IsHostRun all h → state_of h n ≡ Some s → Apart n all h s
apart ns [] h n s k p e = record { state = e; run = tt }
apart ns (note ∷ rest) h n s k p e = go (names n note) refl (λ next there. apart ns rest (after_note note h) n next (holds-after ns note h k p.0) p.1 there)
  where
    told : (b : Bool) → names n note ≡ b → state_of (after_note note h) n ≡ Some (if b then note_for note s else s)
    told b g = note-state ns note h n k p.0 ∙ ap (done (names n note) (note_for note)) e ∙ ap (λ (c : Bool). Some (if c then note_for note s else s)) g

    go : (b : Bool) → names n note ≡ b → ((next : PeerState) → state_of (after_note note h) n ≡ Some next → Apart n rest (after_note note h) next) → Apart n (note ∷ rest) h s
    go true g more =
        let r = more (note_for note s) (told true g) in
        let is : notes_of_peer n (note ∷ rest) ≡ note ∷ notes_of_peer n rest = ap (λ (c : Bool). cond c (note ∷ notes_of_peer n rest) (notes_of_peer n rest)) g in
        record {
          state = r.state ∙ ap (λ (xs : List HostNote). Some (notes_for xs s)) (sym is);
          run = subst (λ (xs : List HostNote). IsRunOf n xs s) (sym is) (note-said ns note h n s k p.0 e g, r.run);
        }
    go false g more =
        let r = more s (told false g) in
        let is : notes_of_peer n (note ∷ rest) ≡ notes_of_peer n rest = ap (λ (c : Bool). cond c (note ∷ notes_of_peer n rest) (notes_of_peer n rest)) g in
        record {
          state = r.state ∙ ap (λ (xs : List HostNote). Some (notes_for xs s)) (sym is);
          run = subst (λ (xs : List HostNote). IsRunOf n xs s) (sym is) r.run;
        }

-- The beginning.

new-numbers : (ns : List ℕ) → numbers_of (map (λ n. (n, new_state)) ns) ≡ ns
new-numbers [] = refl
new-numbers (n ∷ ns) = ap (λ (xs : List ℕ). n ∷ xs) (new-numbers ns)

pub new-state : (ns : List ℕ) (n : ℕ) → is_one_of n ns ≡ true → state_in (map (λ n. (n, new_state)) ns) n ≡ Some new_state
new-state [] n e = absurd (cc)
new-state (m ∷ ns) n e = go (m == n) e (new-state ns n)
  where
    go : (b : Bool) → (b || is_one_of n ns) ≡ true → (is_one_of n ns ≡ true → state_in (map (λ n. (n, new_state)) ns) n ≡ Some new_state) → (if b then Some new_state else state_in (map (λ n. (n, new_state)) ns) n) ≡ Some new_state
    go true e rest = refl
    go false e rest = rest e

only-new : (ns : List ℕ) (n : ℕ) (s : PeerState) → state_in (map (λ n. (n, new_state)) ns) n ≡ Some s → s ≡ new_state
only-new [] n s e = absurd (cc)
only-new (m ∷ ns) n s e = go (m == n) (only-new ns n s) e
  where
    go : (b : Bool) → (state_in (map (λ n. (n, new_state)) ns) n ≡ Some s → s ≡ new_state) → (if b then Some new_state else state_in (map (λ n. (n, new_state)) ns) n) ≡ Some s → s ≡ new_state
    go true rest e = sym (some_same e)
    go false rest e = rest e

new-addressed : (n : ℕ) → Addressed n new_state
new-addressed n on message e = let no : None ≡ Some message = sym (ap kept_message (slot_at-no_slots on)) ∙ e in absurd (cc)

pub new-holds : (me : ℕ) (ns : List ℕ) → are_distinct ns ≡ true → ((n : ℕ) → is_one_of n ns ≡ true → n < 256) → Holds ns (new_host me ns)
new-holds me ns d l = record {
  distinct = d;
  numbers = new-numbers ns;
  good = λ n s e. (
    l n (ap (is_one_of n) (sym (new-numbers ns)) ∙ peer_there (map (λ n. (n, new_state)) ns) n s e),
    subst (λ (x : PeerState). Addressed n x) (sym (only-new ns n s e)) (new-addressed n),
  );
}

pub each_peer : (me : ℕ) (ns : List ℕ) (all : List HostNote) (n : ℕ) → FromBeginning me ns all → is_one_of n ns ≡ true → Apart n all (new_host me ns) new_state
each_peer me ns all n from e = apart ns all (new_host me ns) n new_state (new-holds me ns from.distinct from.places) from.run (new-state ns n e)
