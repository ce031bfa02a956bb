-- The histories of two hosts are those of the notes of each, over a whole transcript.
use Rattle.std.proofs.Common.{◌≡◌, ◌<◌, ℕ, ◌==◌, Bool, true, false, ◌||◌, if◌then◌else◌, List, [], ◌∷◌, ◌++◌, None, Some, refl, sym, ap, ◌∙◌, subst, arith}
use Rattle.std.proofs.lemmas.Bool.{eqb-true}
use Rattle.std.proofs.lemmas.List.Elements.{filter-append}
use Rattle.std.specs.FinMap.{empty, get-empty}
use Rattle.ncp_model.specs.declared.pair.Pair.{Pair}
use Rattle.ncp_model.specs.Pairs.{pair_cmp}
use Rattle.ncp_proof_endpoint.specs.Histories.{PairHistory, no_past}
use Rattle.ncp_proof_machine.specs.Hosts.{or_no_past}
use Rattle.ncp_proof_machine.specs.Hosts.{past_of}
use Rattle.ncp_peer.specs.PeerState.{PeerState, new_state}
use Rattle.ncp_host.specs.Host.{Host, state_of, is_one_of}
use Rattle.ncp_transcript.specs.declared.note.HostNote.{HostNote}
use Rattle.ncp_transcript.specs.After.{after_note, after_notes}
use Rattle.ncp_transcript.specs.Runs.{IsHostRun}
use Rattle.ncp_proof_runs.specs.Peers.{names, notes_of_peer, note_for, notes_for}
use Rattle.ncp_proof_runs.specs.Histories.{past_by, past_from, past_so_far}
use Rattle.ncp_proof_runs.proofs.HostRuns.{Holds}
use Rattle.ncp_proof_runs.proofs.EachPeer.{apart, holds-after, new-holds}
use Rattle.ncp_transcript_two.specs.Tie.{IsOfModel}
use Rattle.ncp_transcript_two.specs.Watch.{Both, no_histories}
use Rattle.ncp_transcript_two.specs.Seen.{state_or_new, seen, as_rules, body_of, side_of, watched, histories}
use Rattle.ncp_transcript_two.specs.Sides.{notes_at_side, notes_at}
use Rattle.ncp_transcript_two.specs.declared.side.Side.{Side}
use Rattle.ncp_transcript_two.specs.declared.side.Side.TheVariants.{A, B}
use Rattle.ncp_transcript_two.specs.declared.note.Note.{Note}
use Rattle.ncp_transcript_two.specs.Between.{Hosts, other, side_number, host_of, hosts_after_note}
use Rattle.ncp_transcript_two.specs.Transcript.{IsRun, began, IsTranscript}
use Rattle.ncp_transcript_two.specs.OfRules.{histories_of}
use Rattle.ncp_transcript_two.proofs.SeenSteps.{Stand}
use Rattle.ncp_transcript_two.proofs.SeenRuns.{stands-at}
use Rattle.ncp_transcript_two.proofs.Runs.{new-ties}
use Rattle.ncp_transcript_two.proofs.Headlines.{stands, new}
use Rattle.ncp_transcript_two.proofs.Growing.{began_noted}
use Rattle.ncp_transcript_two.proofs.OneSide.{of_event}
use Rattle.ncp_proof_promises.proofs.MadeWalking.{ours}
use Rattle.ncp_proof_statement.proofs.Walking.{mine, step-here}

-- One list of notes behind another.

past-joined : (pair : Pair) (some more : List HostNote) (s : PeerState) (x : PairHistory) → past_from pair (some ++ more) s x ≡ past_from pair more (notes_for some s) (past_from pair some s x)
past-joined pair [] more s x = refl
past-joined pair (note ∷ some) more s x = past-joined pair some more (note_for note s) (past_by pair note s x)

holds-all : (ns : List ℕ) (all : List HostNote) (h : Host) → Holds ns h → IsHostRun all h → Holds ns (after_notes all h)
holds-all ns [] h k r = k
holds-all ns (note ∷ rest) h k r = holds-all ns rest (after_note note h) (holds-after ns note h k r.0) r.1

-- The numbers of the hosts stay.

pub stays : (side : Side) (note : Note) (w : Hosts) → side_number (other side) (hosts_after_note note w) ≡ side_number (other side) w
stays A note w = ap (λ (x : Hosts). x.number_b) (began_noted note w)
stays B note w = ap (λ (x : Hosts). x.number_a) (began_noted note w)

module _ (pair : Pair) (side : Side) where
  abbrev HoldsOne : Hosts → Type 0
  HoldsOne w = Holds (side_number (other side) w ∷ []) (host_of side w)

  abbrev HasOne : Hosts → Type 0
  HasOne w = state_of (host_of side w) (side_number (other side) w) ≡ Some (ours side w)

  -- the notes that are still to come, at the hosts as they are
  walk : (ns : List Note) (w : Hosts) → IsRun ns w → Stand w → IsOfModel (seen w) → HoldsOne w → HasOne w → (p : Both)
      → past_of (mine side (histories ns w p)) pair ≡ past_from pair (notes_of_peer (side_number (other side) w) (notes_at side ns)) (ours side w) (past_of (mine side p) pair)
  walk [] w r k m h one p = refl
  walk (note ∷ ns) w r k m h one p =
      let n : ℕ = side_number (other side) w in
      let next : Hosts = hosts_after_note note w in
      let own : List HostNote = notes_at_side side note in
      let x : PairHistory = past_of (mine side p) pair in
      let now : Both = watched (as_rules (side_of note)) (body_of note) (seen w) p in
      let same : side_number (other side) next ≡ n = stays side note w in
      let lead = of_event side r.0.0 note w r.0.1 in
      let here = apart (n ∷ []) own (host_of side w) n (ours side w) h lead.0 one in
      let there : state_of (host_of side next) (side_number (other side) next) ≡ Some (notes_for (notes_of_peer n own) (ours side w)) =
      ap (λ (j : ℕ). state_of (host_of side next) j) same ∙ ap (λ (g : Host). state_of g n) lead.1 ∙ here.state in
      let moved : ours side next ≡ notes_for (notes_of_peer n own) (ours side w) = ap state_or_new there in
      let holds : HoldsOne next =
      subst (λ (j : ℕ). Holds (j ∷ []) (host_of side next)) (sym same)
      (subst (λ (g : Host). Holds (n ∷ []) g) (sym lead.1) (holds-all (n ∷ []) own (host_of side w) h lead.0)) in
      let after_it = stands-at (note ∷ []) w (r.0, tt) k m in
      walk ns next r.1 after_it.0 after_it.1 holds (there ∙ ap Some (sym moved)) now
      ∙ ap (λ (j : ℕ). past_from pair (notes_of_peer j (notes_at side ns)) (ours side next) (past_of (mine side now) pair)) same
      ∙ ap (λ (s : PeerState). past_from pair (notes_of_peer n (notes_at side ns)) s (past_of (mine side now) pair)) moved
      ∙ ap (λ (y : PairHistory). past_from pair (notes_of_peer n (notes_at side ns)) (notes_for (notes_of_peer n own) (ours side w)) y) (step-here pair side w k m.0 m.1 r.0.0 note r.0.1 p)
      ∙ sym (past-joined pair (notes_of_peer n own) (notes_of_peer n (notes_at side ns)) (ours side w) x)
      ∙ ap (λ (xs : List HostNote). past_from pair xs (ours side w) x) (sym (filter-append (names n) own (notes_at side ns)))

-- The beginning.

one-place : (n m : ℕ) → n < 256 → is_one_of m (n ∷ []) ≡ true → m < 256
one-place n m l e = go (n == m) refl e
  where
    go : (b : Bool) → (n == m) ≡ b → (b || false) ≡ true → m < 256
    go true q e = let is : n ≡ m = eqb-true n m q in subst (λ (k : ℕ). k < 256) is l
    go false q e = absurd (cc)

itself : (n : ℕ) → (n == n) ≡ true
itself n = grind arith

new-one : (n : ℕ) → (if n == n then Some new_state else None) ≡ Some new_state
new-one n = ap (λ (b : Bool). if b then Some new_state else None) (itself n)

first-past : (pair : Pair) → past_of empty pair ≡ no_past
first-past pair = ap or_no_past (get-empty pair_cmp pair)

module _ (ns : List Note) (w : Hosts) (t : IsTranscript ns w) (pair : Pair) where
  from-new : (side : Side) → Holds (side_number (other side) (began w) ∷ []) (host_of side (began w)) → state_of (host_of side (began w)) (side_number (other side) (began w)) ≡ Some new_state
      → past_of (mine side (histories_of ns w)) pair ≡ past_so_far pair (notes_of_peer (side_number (other side) (began w)) (notes_at side ns))
  from-new side h one =
      let is : ours side (began w) ≡ new_state = ap state_or_new one in
      walk pair side ns (began w) t.run (stands ns w t) (new-ties (seen (began w)) (new ns w t)) h (one ∙ ap Some (sym is)) no_histories
      ∙ ap (λ (s : PeerState). past_from pair (notes_of_peer (side_number (other side) (began w)) (notes_at side ns)) s (past_of (mine side no_histories) pair)) is
      ∙ ap (λ (x : PairHistory). past_from pair (notes_of_peer (side_number (other side) (began w)) (notes_at side ns)) new_state x) (none side)
    where
      none : (side : Side) → past_of (mine side no_histories) pair ≡ no_past
      none A = first-past pair
      none B = first-past pair

  pub here : past_of (histories_of ns w).this pair ≡ past_so_far pair (notes_of_peer w.number_b (notes_at A ns))
  here = from-new A (new-holds w.number_a (w.number_b ∷ []) refl (λ m e. one-place w.number_b m t.fits_b e)) (new-one w.number_b)

  pub there : past_of (histories_of ns w).that pair ≡ past_so_far pair (notes_of_peer w.number_a (notes_at B ns))
  there = from-new B (new-holds w.number_b (w.number_a ∷ []) refl (λ m e. one-place w.number_a m t.fits_a e)) (new-one w.number_a)
