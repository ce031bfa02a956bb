-- What `take` answers goes on in what was given.
use Rattle.std.proofs.Common.{◌≡◌, ◌≤◌, ℕ, Bool, true, false, if◌then◌else◌, List, [], ◌∷◌, ◌++◌, length, Option, None, Some, refl, sym, ap, ◌∙◌, subst, arith}
use Rattle.std.proofs.lemmas.List.{append_assoc, append-nil}
use Rattle.std.specs.FinMap.{get}
use Rattle.ncp_model.specs.declared.pair.Pair.{Pair}
use Rattle.ncp_model.specs.Pairs.{sends, receives, counterpart}
use Rattle.ncp_model.specs.Endpoint.{Endpoint, is_live, or_new}
use Rattle.ncp_proof_endpoint.specs.Histories.{PairHistory, IsPrefix}
use Rattle.ncp_proof_machine.specs.Hosts.{past_of}
use Rattle.ncp_peer.specs.PeerState.{PeerState, new_state}
use Rattle.ncp_host.specs.Host.{Host, numbers_of, state_of}
use Rattle.ncp_transcript.specs.declared.note.HostNote.{HostNote}
use Rattle.ncp_transcript.specs.Runs.{IsHostSaid}
use Rattle.ncp_proof_runs.specs.Peers.{notes_of_peer}
use Rattle.ncp_proof_runs.specs.Histories.{past_so_far}
use Rattle.ncp_proof_runs.proofs.Begun.{is_run, is_kept}
use Rattle.ncp_proof_runs.proofs.InRuns.{kept_as_noted}
use Rattle.ncp_transcript_two.specs.Watch.{Both}
use Rattle.ncp_transcript_two.specs.Seen.{seen, state_or_new}
use Rattle.ncp_transcript_two.specs.Sides.{notes_at}
use Rattle.ncp_transcript_two.specs.declared.side.Side.{Side}
use Rattle.ncp_transcript_two.specs.declared.side.Side.TheVariants.{A, B}
use Rattle.ncp_transcript_two.specs.declared.note.Note.{Note}
use Rattle.ncp_transcript_two.specs.Between.{Hosts, other, side_number, host_of, hosts_after_notes}
use Rattle.ncp_transcript_two.specs.Transcript.{began, IsTranscript}
use Rattle.ncp_transcript_two.specs.OfRules.{histories_of}
use Rattle.ncp_transcript_two.proofs.OnePeer.{only-peer}
use Rattle.ncp_transcript_two.proofs.OneSide.{DemuxedAt, of_event, by_itself}
use Rattle.ncp_transcript_two.proofs.SeenRuns.{stands-at}
use Rattle.ncp_transcript_two.proofs.Impossible.{said_at, run_before}
use Rattle.ncp_transcript_two.proofs.Runs.{new-ties}
use Rattle.ncp_transcript_two.proofs.Headlines.{stands, new}
use Rattle.ncp_proof_promises.proofs.Standing.{kept-for}
use Rattle.ncp_proof_promises.proofs.Beginnings.{begins}
use Rattle.ncp_statement.specs.Statement.{UserEvent, taken, given, allowed, WithinAllowance}
use Rattle.ncp_proof_statement.specs.Since.{uses_by, did_run, tallied, Takings, no_takings, takings_with, TakenSince, no_givings, givings_with}
use Rattle.ncp_proof_statement.proofs.Noted.{took-known, noted-from}
use Rattle.ncp_proof_statement.proofs.Receiving.{Held, held-at, taken-tallied, allowed-tallied, run-kept}
use Rattle.ncp_proof_statement.proofs.Sending
use Rattle.ncp_proof_statement.proofs.Sending.{given-tallied}
use Rattle.ncp_proof_promises.proofs.CallsNoted.{only-one}
use Rattle.ncp_proof_promises.proofs.MadeWalking.{ours}
use Rattle.ncp_proof_statement.proofs.Walking.{mine}
use Rattle.ncp_proof_statement.proofs.Walk.{here, there}
use Rattle.ncp_proof_statement.proofs.Using.{taken-by, given-by, allowed-by}

-- What was taken and given, by the histories.

of-live : (o : Option Endpoint) (past : PairHistory) (x : Takings) → is_live o ≡ true → TakenSince o past x → x.taken ≡ past.taken
of-live None past x live k = absurd (cc)
of-live (Some e) past x live k = (k.0 live).0

live-taken : (q : Pair) (s noted : PeerState) (past : PairHistory) (x : Takings) → noted ≡ s → is_live (get s.peer.ends q) ≡ true → TakenSince (get noted.peer.ends q) past x → x.taken ≡ past.taken
live-taken q s noted past x is live k = of-live (get noted.peer.ends q) past x (ap (λ (y : PeerState). is_live (get y.peer.ends q)) is ∙ live) k

module _ (ns : List Note) (w : Hosts) (t : IsTranscript ns w) where
  pub agree : (side : Side) (pair : Pair) → past_of (mine side (histories_of ns w)) pair ≡ past_so_far pair (notes_of_peer (side_number (other side) w) (notes_at side ns))
  agree A pair = here ns w t pair
  agree B pair = there ns w t pair

  -- the notes of the host of a side for the other, and the uses that they tell
  abbrev pub Own : Side → List HostNote
  Own side = notes_of_peer (side_number (other side) w) (notes_at side ns)

  pub told-uses : (side : Side) (q : Pair) → uses_by q (Own side) ≡ did_run q (Own side) new_state
  told-uses side q =
      let h : Host = host_of side w in
      noted-from h.me (numbers_of h.peers) (side_number (other side) w) q [] (notes_at side ns) (is_run (notes_at side ns) h (by_itself ns w side t))

  pub taken-told : (side : Side) (q : Pair) → taken side q ns ≡ (tallied takings_with no_takings (did_run q (Own side) new_state)).taken
  taken-told side q = taken-by q side ns w t ∙ taken-tallied (uses_by q (Own side)) no_takings ∙ ap (λ (us : List UserEvent). (tallied takings_with no_takings us).taken) (told-uses side q)

  allowed-told : (side : Side) (q : Pair) → allowed side q ns ≡ (tallied takings_with no_takings (did_run q (Own side) new_state)).allowed
  allowed-told side q = allowed-by q side ns w t ∙ allowed-tallied (uses_by q (Own side)) no_takings ∙ ap (λ (us : List UserEvent). (tallied takings_with no_takings us).allowed) (told-uses side q)

  given-told : (side : Side) (q : Pair) → given side q ns ≡ (tallied givings_with no_givings (did_run q (Own side) new_state)).given
  given-told side q = given-by q side ns w t ∙ given-tallied (uses_by q (Own side)) true [] ∙ ap (λ (us : List UserEvent). (tallied givings_with no_givings us).given) (told-uses side q)

  pub taken-is : (side : Side) (q : Pair) → receives q ≡ true → is_live (get (ours side w).peer.ends q) ≡ true → taken side q ns ≡ (past_of (mine side (histories_of ns w)) q).taken
  taken-is side q r live =
      let n : ℕ = side_number (other side) w in
      let h : Host = host_of side w in
      let all : List HostNote = notes_at side ns in
      let alone = by_itself ns w side t in
      let noted = kept_as_noted h.me (numbers_of h.peers) all n (ours side w) (is_run all h alone) (is_kept all h n (Some (ours side w)) alone (kept-for ns w side t)) in
      let k = ((run-kept q (notes_of_peer n all)).1 r).1 in
      taken-told side q
      ∙ live-taken q (ours side w) _ (past_so_far q (notes_of_peer n all)) _ (sym noted) live k
      ∙ sym (ap (λ (x : PairHistory). x.taken) (agree side q))

  pub given-is : (side : Side) (p : Pair) → sends p ≡ true → (none : Bool) × ((past_of (mine side (histories_of ns w)) p).given ≡ (if none then [] else given side p ns))
  given-is side p r =
      let g = Sending.run-kept p (Own side) r in (
        g.0,
        ap (λ (x : PairHistory). x.given) (agree side p)
            ∙ g.1.0
            ∙ ap (λ (x : List Bool). if g.0 then [] else x) (sym (given-told side p)),
      )

  pub allowance : WithinAllowance ns
  allowance side q =
      subst (λ (x : List Bool). length x ≤ allowed side q ns) (sym (taken-told side q))
      (subst (λ (m : ℕ). length (tallied takings_with no_takings (did_run q (Own side) new_state)).taken ≤ m) (sym (allowed-told side q)) (run-kept q (Own side)).0)

-- The text that is taken goes on what was taken.

pub none-before : (xs ys : List Bool) → xs ++ ys ≡ [] → xs ≡ []
none-before [] ys e = refl
none-before (x ∷ xs) ys e = absurd (cc)

goes-on : (t text later past_taken stored got rest past_given g : List Bool) (none : Bool) → t ≡ past_taken → got ≡ past_taken ++ stored → stored ≡ text ++ later → got ++ rest ≡ past_given → past_given ≡ (if none then [] else g)
    → (more : List Bool) × (g ≡ (t ++ text) ++ more)
goes-on t text later past_taken stored got rest past_given g none is held front begins said = go none said
  where
    whole : got ≡ (t ++ text) ++ later
    whole = held ∙ ap (λ (x : List Bool). x ++ stored) (sym is) ∙ ap (λ (x : List Bool). t ++ x) front ∙ sym (append_assoc t text later)

    go : (b : Bool) → past_given ≡ (if b then [] else g) → (more : List Bool) × (g ≡ (t ++ text) ++ more)
    go true s =
        let empty : (t ++ text) ++ (later ++ rest) ≡ [] = sym (append_assoc (t ++ text) later rest) ∙ ap (λ (x : List Bool). x ++ rest) (sym whole) ∙ begins ∙ s in
        (g, ap (λ (x : List Bool). x ++ g) (sym (none-before (t ++ text) (later ++ rest) empty)))
    go false s = (later ++ rest, sym s ∙ sym begins ∙ ap (λ (x : List Bool). x ++ rest) whole ∙ append_assoc (t ++ text) later rest)

-- what was got at a side begins what was given at the other, and was taken there or is held
pub record Carried (side : Side) (q : Pair) (w : Hosts) (p : Both) : Type 0 where
  pub begins : is_live (get (ours side w).peer.ends q) ≡ true → IsPrefix (past_of (mine side p) q).got (past_of (mine (other side) p) (counterpart q)).given
  pub kept : is_live (get (ours side w).peer.ends q) ≡ true → (or_new (get (ours side w).peer.ends q)).left ≡ false → (past_of (mine side p) q).got ≡ (past_of (mine side p) q).taken ++ (or_new (get (ours side w).peer.ends q)).stored

pub counterpart-sends : (pair : Pair) → receives pair ≡ true → sends (counterpart pair) ≡ true
counterpart-sends pair e = grind arith

-- the host before a text was taken had it
pub before-take : (before after : List Note) (w : Hosts) (side : Side) (peer : ℕ) (q : Pair) (bytes : ℕ) (text : List Bool) → IsTranscript (before ++ Note.Called side (HostNote.Took peer q bytes text) ∷ after) w
    → Held q (get (ours side (hosts_after_notes before (began w))).peer.ends q) text
before-take before after w side peer q bytes text t =
    let note : Note = Note.Called side (HostNote.Took peer q bytes text) in
    let v : Hosts = hosts_after_notes before (began w) in
    let s = said_at before after note (began w) t.run in
    let m = stands-at before (began w) (run_before before (note ∷ after) (began w) t.run) (stands (before ++ note ∷ after) w t) (new-ties (seen (began w)) (new (before ++ note ∷ after) w t)) in
    let said : IsHostSaid (HostNote.Took peer q bytes text) (host_of side v) = own side v (of_event side s.0 note v s.1) in
    let had = took-known (state_of (host_of side v) peer) peer q bytes text said in
    let is : peer ≡ side_number (other side) v = only-peer (side_number (other side) v) peer had.0 (host_of side v).peers (only-one side v m.0) had.1 in
    let same : ours side v ≡ had.0 = ap (λ (n : ℕ). state_or_new (state_of (host_of side v) n)) (sym is) ∙ ap state_or_new had.1 in
    subst (λ (x : PeerState). Held q (get x.peer.ends q) text) (sym same) (held-at q bytes had.0 text had.2)
  where
    own : (side : Side) (v : Hosts) → DemuxedAt side (Note.Called side (HostNote.Took peer q bytes text)) v → IsHostSaid (HostNote.Took peer q bytes text) (host_of side v)
    own A v l = l.0.0
    own B v l = l.0.0

pub took-goes-on : (before after : List Note) (w : Hosts) (side : Side) (peer : ℕ) (q : Pair) (bytes : ℕ) (text : List Bool) → IsTranscript (before ++ Note.Called side (HostNote.Took peer q bytes text) ∷ after) w
    → (IsTranscript before (hosts_after_notes before (began w)) → sends (counterpart q) ≡ true → Carried side q (hosts_after_notes before (began w)) (histories_of before (hosts_after_notes before (began w))))
    → (rest : List Bool) × (given (other side) (counterpart q) before ≡ (taken side q before ++ text) ++ rest)
took-goes-on before after w side peer q bytes text t link_state =
    let v : Hosts = hosts_after_notes before (began w) in
    let u : IsTranscript before v = begins before (Note.Called side (HostNote.Took peer q bytes text) ∷ after) w t in
    let h = before-take before after w side peer q bytes text t in
    let sender = counterpart-sends q h.receives_it in
    let c = link_state u sender in
    let g = given-is before v u (other side) (counterpart q) sender in
    let b = c.begins h.live in
    goes-on _ text h.later _ _ _ b.0 _ _ g.0 (taken-is before v u side q h.receives_it h.live) (c.kept h.live h.there) h.front b.1 g.1

-- at every moment at which an end is open and was not left
pub held-begins : (ns : List Note) (w : Hosts) → IsTranscript ns w → (side : Side) (q : Pair) → receives q ≡ true → is_live (get (ours side w).peer.ends q) ≡ true → (or_new (get (ours side w).peer.ends q)).left ≡ false
    → Carried side q w (histories_of ns w) → (rest : List Bool) × (given (other side) (counterpart q) ns ≡ (taken side q ns ++ (or_new (get (ours side w).peer.ends q)).stored) ++ rest)
held-begins ns w t side q r live left_not c =
    let stored : List Bool = (or_new (get (ours side w).peer.ends q)).stored in
    let g = given-is ns w t (other side) (counterpart q) (counterpart-sends q r) in
    let b = c.begins live in
    goes-on _ stored [] _ stored _ b.0 _ _ g.0 (taken-is ns w t side q r live) (c.kept live left_not) (sym (append-nil stored)) b.1 g.1
