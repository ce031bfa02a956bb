-- What is watched of two hosts is what the notes of each say was made and came, over a whole transcript.
use Rattle.std.proofs.Common.{◌≡◌, ◌<◌, ℕ, ◌==◌, Bool, true, false, ◌||◌, if◌then◌else◌, List, [], ◌∷◌, ◌++◌, None, Some, refl, sym, ap, ◌∙◌, subst, arith}
use Rattle.std.proofs.lemmas.Bool.{eqb-true, eq-eqb}
use Rattle.std.proofs.lemmas.List.Elements.{filter-append}
use Rattle.ncp_peer.specs.PeerState.{PeerState, new_state}
use Rattle.ncp_host.specs.Host.{Host, state_of, is_one_of}
use Rattle.ncp_transcript.specs.declared.note.HostNote.{HostNote}
use Rattle.ncp_transcript.specs.After.{after_note, after_notes}
use Rattle.ncp_transcript.specs.Runs.{IsHostRun}
use Rattle.ncp_proof_runs.specs.Peers.{names, notes_of_peer, note_for, notes_for}
use Rattle.ncp_proof_runs.proofs.HostRuns.{Holds}
use Rattle.ncp_proof_runs.proofs.EachPeer.{apart, holds-after, new-holds}
use Rattle.ncp_transcript_two.specs.Tie.{IsOfModel}
use Rattle.ncp_transcript_two.specs.Seen.{state_or_new, seen, as_rules, body_of, side_of}
use Rattle.ncp_transcript_two.specs.Sides.{notes_at_side, notes_at}
use Rattle.ncp_transcript_two.specs.declared.side.Side.{Side}
use Rattle.ncp_transcript_two.specs.declared.side.Side.TheVariants.{A, B}
use Rattle.ncp_transcript_two.specs.declared.note.Note.{Note}
use Rattle.ncp_transcript_two.specs.Between.{Hosts, other, side_number, host_of, hosts_after_note}
use Rattle.ncp_transcript_two.specs.Transcript.{IsRun, began, IsTranscript}
use Rattle.ncp_transcript_two.proofs.SeenSteps.{Stand}
use Rattle.ncp_transcript_two.proofs.SeenRuns.{stands-at}
use Rattle.ncp_transcript_two.proofs.Runs.{new-ties}
use Rattle.ncp_transcript_two.proofs.Headlines.{stands, new}
use Rattle.ncp_transcript_two.proofs.Growing.{began_noted}
use Rattle.ncp_transcript_two.proofs.OneSide.{of_event}
use Rattle.ncp_peer.specs.PeerState.{control_link}
use Rattle.ncp_proof_runs.specs.Links.{LinkSoFar, nothing_noted, noted_by, link_noted_from}
use Rattle.ncp_proof_runs.specs.Making.{Made, made_by_note, made_from, nothing_made, made_of}
use Rattle.ncp_proof_promises.specs.Since.{Watches, watch_at, none_watched, watches_if_body, watched_from}
use Rattle.ncp_proof_promises.proofs.MadeMatched.{IsWatched}
use Rattle.ncp_proof_promises.proofs.MadeWalking.{ours, step-here}

-- One list of notes behind another.

made-joined : (some more : List HostNote) (s : PeerState) (t : LinkSoFar) (l : Made) → made_from (some ++ more) s t l ≡ made_from more (notes_for some s) (link_noted_from control_link some t) (made_from some s t l)
made-joined [] more s t l = refl
made-joined (note ∷ some) more s t l = made-joined some more (note_for note s) (noted_by control_link note t) (made_by_note note s t l)

holds-all : (ns : List ℕ) (all : List HostNote) (h : Host) → Holds ns h → IsHostRun all h → Holds ns (after_notes all h)
holds-all ns [] h k r = k
holds-all ns (note ∷ rest) h k r = holds-all ns rest (after_note note h) (holds-after ns note h k r.0) r.1

-- The numbers of the hosts stay.

stays : (side : Side) (note : Note) (w : Hosts) → side_number (other side) (hosts_after_note note w) ≡ side_number (other side) w
stays A note w = ap (λ (x : Hosts). x.number_b) (began_noted note w)
stays B note w = ap (λ (x : Hosts). x.number_a) (began_noted note w)

module _ (side : Side) where
  abbrev HoldsOne : Hosts → Type 0
  HoldsOne w = Holds (side_number (other side) w ∷ []) (host_of side w)

  abbrev HasOne : Hosts → Type 0
  HasOne w = state_of (host_of side w) (side_number (other side) w) ≡ Some (ours side w)

  -- the notes that are still to come, at the hosts as they are
  walk : (ns : List Note) (w : Hosts) → IsRun ns w → Stand w → IsOfModel (seen w) → HoldsOne w → HasOne w → (p : Watches) (t : LinkSoFar) (l : Made) → IsWatched (watch_at side p) l
      → IsWatched (watch_at side (watched_from ns w p)) (made_from (notes_of_peer (side_number (other side) w) (notes_at side ns)) (ours side w) t l)
  walk [] w r k m h one p t l i = i
  walk (note ∷ ns) w r k m h one p t l i =
      let n : ℕ = side_number (other side) w in
      let next : Hosts = hosts_after_note note w in
      let own : List HostNote = notes_at_side side note in
      let s : PeerState = ours side w in
      let now : Watches = watches_if_body (as_rules (side_of note)) (body_of note) (seen w) p in
      let more : List HostNote = notes_at side ns in
      let later : LinkSoFar = link_noted_from control_link (notes_of_peer n own) t in
      let have : Made = made_from (notes_of_peer n own) s t l in
      let same : side_number (other side) next ≡ n = stays side note w in
      let lead = of_event side r.0.0 note w r.0.1 in
      let here = apart (n ∷ []) own (host_of side w) n s h lead.0 one in
      let there : state_of (host_of side next) (side_number (other side) next) ≡ Some (notes_for (notes_of_peer n own) s) =
      ap (λ (j : ℕ). state_of (host_of side next) j) same ∙ ap (λ (g : Host). state_of g n) lead.1 ∙ here.state in
      let moved : ours side next ≡ notes_for (notes_of_peer n own) s = ap state_or_new there in
      let holds : HoldsOne next =
      subst (λ (j : ℕ). Holds (j ∷ []) (host_of side next)) (sym same)
      (subst (λ (g : Host). Holds (n ∷ []) g) (sym lead.1) (holds-all (n ∷ []) own (host_of side w) h lead.0)) in
      let after_it = stands-at (note ∷ []) w (r.0, tt) k m in
      let last : IsWatched (watch_at side (watched_from ns next now)) (made_from (notes_of_peer (side_number (other side) next) more) (ours side next) later have) =
      walk ns next r.1 after_it.0 after_it.1 holds (there ∙ ap Some (sym moved)) now later have (step-here side w k m.0 m.1 r.0.0 note r.0.1 p t l i) in
      subst (λ (x : Made). IsWatched (watch_at side (watched_from ns next now)) x)
      (ap (λ (j : ℕ). made_from (notes_of_peer j more) (ours side next) later have) same
      ∙ ap (λ (y : PeerState). made_from (notes_of_peer n more) y later have) moved
      ∙ sym (made-joined (notes_of_peer n own) (notes_of_peer n more) s t l)
      ∙ ap (λ (xs : List HostNote). made_from xs s t l) (sym (filter-append (names n) own more)))
      last

-- The beginning.

one-place : (n m : ℕ) → n < 256 → is_one_of m (n ∷ []) ≡ true → m < 256
one-place n m l e = go (n == m) refl e
  where
    go : (b : Bool) → (n == m) ≡ b → (b || false) ≡ true → m < 256
    go true q e = let is : n ≡ m = eqb-true n m q in subst (λ (k : ℕ). k < 256) is l
    go false q e = absurd (cc)

new-one : (n : ℕ) → (if n == n then Some new_state else None) ≡ Some new_state
new-one n = ap (λ (b : Bool). if b then Some new_state else None) (eq-eqb n n refl)

module _ (ns : List Note) (w : Hosts) (t : IsTranscript ns w) where
  from-new : (side : Side) → Holds (side_number (other side) (began w) ∷ []) (host_of side (began w)) → state_of (host_of side (began w)) (side_number (other side) (began w)) ≡ Some new_state
      → IsWatched (watch_at side (watched_from ns (began w) none_watched)) (made_of (notes_of_peer (side_number (other side) (began w)) (notes_at side ns)))
  from-new side h one =
      let is : ours side (began w) ≡ new_state = ap state_or_new one in
      subst (λ (s : PeerState). IsWatched (watch_at side (watched_from ns (began w) none_watched)) (made_from (notes_of_peer (side_number (other side) (began w)) (notes_at side ns)) s nothing_noted nothing_made)) is
      (walk side ns (began w) t.run (stands ns w t) (new-ties (seen (began w)) (new ns w t)) h (one ∙ ap Some (sym is)) none_watched nothing_noted nothing_made (none side))
    where
      none : (side : Side) → IsWatched (watch_at side none_watched) nothing_made
      none A = (refl, refl, omega arith)
      none B = (refl, refl, omega arith)

  pub watched-alike : (side : Side) → IsWatched (watch_at side (watched_from ns (began w) none_watched)) (made_of (notes_of_peer (side_number (other side) w) (notes_at side ns)))
  watched-alike A = from-new A (new-holds w.number_a (w.number_b ∷ []) refl (λ m e. one-place w.number_b m t.fits_b e)) (new-one w.number_b)
  watched-alike B = from-new B (new-holds w.number_b (w.number_a ∷ []) refl (λ m e. one-place w.number_a m t.fits_a e)) (new-one w.number_a)
