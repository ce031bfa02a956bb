-- Two hosts among others, by the notes of each that name the other.
use Rattle.std.proofs.Common.{◌≡◌, ◌≢◌, ◌<◌, ℕ, ◌==◌, Bool, true, false, not, ◌||◌, if◌then◌else◌, List, [], ◌∷◌, Some, refl, sym, ap, ◌∙◌, subst}
use Rattle.std.proofs.lemmas.Bool.{and_parts, eq-eqb, eqb-true}
use Rattle.ncp_host.specs.Host.{Host, numbers_of, state_of, is_one_of, are_peers, new_host}
use Rattle.ncp_peer.specs.PeerState.{new_state}
use Rattle.ncp_transcript.specs.After.{after_notes}
use Rattle.ncp_transcript_two.specs.Seen.{state_or_new, had_for}
use Rattle.ncp_transcript.specs.declared.note.HostNote.{HostNote}
use Rattle.ncp_transcript.specs.Runs.{IsHostRun, IsHostTranscript}
use Rattle.ncp_transcript_two.specs.declared.side.Side.TheVariants.{A, B}
use Rattle.ncp_proof_runs.specs.Peers.{FromBeginning, names, notes_of_peer, notes_for}
use Rattle.ncp_proof_runs.specs.WhatIsKept.{OfItsPeers}
use Rattle.ncp_proof_runs.proofs.Begun.{is_run}
use Rattle.ncp_statement.specs.Statement.{link_state}
use Rattle.ncp_proof_statement.specs.Notes.{SidedNotes, notes_by, as_notes, NotedCallsFit, mutual_notes}
use Rattle.ncp_proof_statement.specs.HonestRuns.{IsHonestRunAmong, IsHonestRun}
use Rattle.ncp_proof_statement.specs.Finished.{seen_of, seen_between}

pub noted-a : (a b : ℕ) (ns : SidedNotes) → notes_of_peer b (notes_by A ns) ≡ notes_by A (mutual_notes a b ns)
noted-a a b [] = refl
noted-a a b ((A, note) ∷ ns) = go (names b note) (noted-a a b ns)
  where
    go : (t : Bool) → notes_of_peer b (notes_by A ns) ≡ notes_by A (mutual_notes a b ns) → (if t then note ∷ notes_of_peer b (notes_by A ns) else notes_of_peer b (notes_by A ns)) ≡ notes_by A (if t then (A, note) ∷ mutual_notes a b ns else mutual_notes a b ns)
    go true k = ap (λ (xs : List HostNote). note ∷ xs) k
    go false k = k
noted-a a b ((B, note) ∷ ns) = go (names a note) (noted-a a b ns)
  where
    go : (t : Bool) → notes_of_peer b (notes_by A ns) ≡ notes_by A (mutual_notes a b ns) → notes_of_peer b (notes_by A ns) ≡ notes_by A (if t then (B, note) ∷ mutual_notes a b ns else mutual_notes a b ns)
    go true k = k
    go false k = k

pub noted-b : (a b : ℕ) (ns : SidedNotes) → notes_of_peer a (notes_by B ns) ≡ notes_by B (mutual_notes a b ns)
noted-b a b [] = refl
noted-b a b ((B, note) ∷ ns) = go (names a note) (noted-b a b ns)
  where
    go : (t : Bool) → notes_of_peer a (notes_by B ns) ≡ notes_by B (mutual_notes a b ns) → (if t then note ∷ notes_of_peer a (notes_by B ns) else notes_of_peer a (notes_by B ns)) ≡ notes_by B (if t then (B, note) ∷ mutual_notes a b ns else mutual_notes a b ns)
    go true k = ap (λ (xs : List HostNote). note ∷ xs) k
    go false k = k
noted-b a b ((A, note) ∷ ns) = go (names b note) (noted-b a b ns)
  where
    go : (t : Bool) → notes_of_peer a (notes_by B ns) ≡ notes_by B (mutual_notes a b ns) → notes_of_peer a (notes_by B ns) ≡ notes_by B (if t then (A, note) ∷ mutual_notes a b ns else mutual_notes a b ns)
    go true k = k
    go false k = k

fit : (a b : ℕ) (ns : SidedNotes) → NotedCallsFit ns → NotedCallsFit (mutual_notes a b ns)
fit a b [] f = tt
fit a b ((A, note) ∷ ns) f = go (names b note) (fit a b ns f.1)
  where
    go : (t : Bool) → NotedCallsFit (mutual_notes a b ns) → NotedCallsFit (if t then (A, note) ∷ mutual_notes a b ns else mutual_notes a b ns)
    go true k = (f.0, k)
    go false k = k
fit a b ((B, note) ∷ ns) f = go (names a note) (fit a b ns f.1)
  where
    go : (t : Bool) → NotedCallsFit (mutual_notes a b ns) → NotedCallsFit (if t then (B, note) ∷ mutual_notes a b ns else mutual_notes a b ns)
    go true k = (f.0, k)
    go false k = k

no_own : (me : ℕ) (ns : List ℕ) → are_peers me ns ≡ true → is_one_of me ns ≡ false
no_own me ns e = go (is_one_of me ns) (and_parts _ _ e).1
  where
    go : (t : Bool) → not t ≡ true → t ≡ false
    go true h = absurd (cc h)
    go false h = refl

pub differ : (x y : Host) → are_peers x.me (numbers_of x.peers) ≡ true → is_one_of y.me (numbers_of x.peers) ≡ true → x.me ≢ y.me
differ x y peers has e =
    let is : is_one_of x.me (numbers_of x.peers) ≡ true = ap (λ (n : ℕ). is_one_of n (numbers_of x.peers)) e ∙ has in
    let no : true ≡ false = sym is ∙ no_own x.me (numbers_of x.peers) peers in
    cc no

module _ (x y : Host) (ns : SidedNotes) (t : IsHonestRunAmong x y ns) where
  pub two : OfItsPeers (λ me h n own. IsHostRun own (new_host me (n ∷ []))) → IsHonestRun x.me y.me (mutual_notes x.me y.me ns)
  two alone = record {
    differ = differ x y t.run_x.peers t.x_has_y;
    fits_a = t.run_y.fits x.me t.y_has_x;
    fits_b = t.run_x.fits y.me t.x_has_y;
    run_a = subst (λ (xs : List HostNote). IsHostRun xs (new_host x.me (y.me ∷ []))) (noted-a x.me y.me ns) (alone x.me (numbers_of x.peers) (notes_by A ns) y.me (is_run (notes_by A ns) x t.run_x) t.x_has_y);
    run_b = subst (λ (xs : List HostNote). IsHostRun xs (new_host y.me (x.me ∷ []))) (noted-b x.me y.me ns) (alone y.me (numbers_of y.peers) (notes_by B ns) x.me (is_run (notes_by B ns) y t.run_y) t.y_has_x);
    calls = fit x.me y.me ns t.calls;
    honest = t.honest;
  }

-- What each has for the other.

twice : (n : ℕ) (all : List HostNote) → notes_of_peer n (notes_of_peer n all) ≡ notes_of_peer n all
twice n [] = refl
twice n (note ∷ rest) = go (names n note) refl (twice n rest)
  where
    go : (t : Bool) → names n note ≡ t → notes_of_peer n (notes_of_peer n rest) ≡ notes_of_peer n rest → notes_of_peer n (if t then note ∷ notes_of_peer n rest else notes_of_peer n rest) ≡ (if t then note ∷ notes_of_peer n rest else notes_of_peer n rest)
    go true e k = ap (λ (t : Bool). if t then note ∷ notes_of_peer n (notes_of_peer n rest) else notes_of_peer n (notes_of_peer n rest)) e ∙ ap (λ (xs : List HostNote). note ∷ xs) k
    go false e k = k

itself : (n : ℕ) → is_one_of n (n ∷ []) ≡ true
itself n = ap (λ (t : Bool). t || false) (eq-eqb n n refl)

single : (n m : ℕ) → m < 256 → is_one_of n (m ∷ []) ≡ true → n < 256
single n m small has = go (m == n) refl has
  where
    go : (t : Bool) → (m == n) ≡ t → (t || false) ≡ true → n < 256
    go true e h = subst (λ (k : ℕ). k < 256) (eqb-true m n e) small
    go false e h = absurd (cc h)

abbrev pub Kept : Type 0
Kept = OfItsPeers (λ me h n own. state_of h n ≡ Some (notes_for own new_state))

pub has-state : Kept → (h : Host) (all own : List HostNote) (n : ℕ) → IsHostTranscript all h → is_one_of n (numbers_of h.peers) ≡ true → notes_of_peer n all ≡ own → IsHostRun own (new_host h.me (n ∷ [])) → state_of (after_notes own (new_host h.me (n ∷ []))) n ≡ state_of h n
has-state kept h all own n t has is run =
    let here : state_of h n ≡ Some (notes_for own new_state) =
    ap (λ (x : Host). state_of x n) t.state ∙ kept h.me (numbers_of h.peers) all n (is_run all h t) has ∙ ap (λ (xs : List HostNote). Some (notes_for xs new_state)) is in
    let alone : FromBeginning h.me (n ∷ []) own = record { distinct = refl; places = λ m e. single m n (t.fits n has) e; run = run } in
    let same : notes_of_peer n own ≡ own = ap (notes_of_peer n) (sym is) ∙ twice n all ∙ is in
    let there : state_of (after_notes own (new_host h.me (n ∷ []))) n ≡ Some (notes_for own new_state) =
    kept h.me (n ∷ []) own n alone (itself n) ∙ ap (λ (xs : List HostNote). Some (notes_for xs new_state)) same in
    there ∙ sym here

has-same : Kept → (h : Host) (all own : List HostNote) (n : ℕ) → IsHostTranscript all h → is_one_of n (numbers_of h.peers) ≡ true → notes_of_peer n all ≡ own → IsHostRun own (new_host h.me (n ∷ [])) → had_for n (after_notes own (new_host h.me (n ∷ []))) ≡ had_for n h
has-same kept h all own n t has is run = ap state_or_new (has-state kept h all own n t has is run)

pub seen-same : (x y : Host) (ns : SidedNotes) → IsHonestRunAmong x y ns → IsHonestRun x.me y.me (mutual_notes x.me y.me ns) → Kept → seen_of x.me y.me (mutual_notes x.me y.me ns) ≡ seen_between x y ns
seen-same x y ns t two kept = λ i. record {
  here = x.me;
  there = y.me;
  this = has-same kept x (notes_by A ns) (notes_by A (mutual_notes x.me y.me ns)) y.me t.run_x t.x_has_y (noted-a x.me y.me ns) two.run_a i;
  that = has-same kept y (notes_by B ns) (notes_by B (mutual_notes x.me y.me ns)) x.me t.run_y t.y_has_x (noted-b x.me y.me ns) two.run_b i;
  going = λ on. link_state A on (as_notes (mutual_notes x.me y.me ns));
  coming = λ on. link_state B on (as_notes (mutual_notes x.me y.me ns));
}
