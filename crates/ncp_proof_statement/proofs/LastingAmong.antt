-- An honest run of two hosts among others stays one over a restart of one of them for the other, if none of the unanswered messages had arrived.
use Rattle.std.proofs.Common.{◌≡◌, ◌<◌, ℕ, Bool, true, false, nat_lt, if◌then◌else◌, List, [], ◌∷◌, ◌++◌, Option, None, Some, refl, sym, ap, ◌∙◌, subst}
use Rattle.std.specs.List.{list_all}
use Rattle.std.proofs.lemmas.Bool.{and_parts, eq-eqb}
use Rattle.std.proofs.lemmas.List.{append-nil}
use Rattle.ncp_wire.specs.declared.answer.Answer.TheVariants.{Incomplete}
use Rattle.ncp_peer.specs.PeerState.{PeerState, is_answered, answer_comes}
use Rattle.ncp_peer.specs.declared.received.Received.{Received}
use Rattle.ncp_peer.specs.Output.{links}
use Rattle.ncp_host.specs.Host.{Host, new_host, numbers_of, state_of, is_one_of}
use Rattle.ncp_host.specs.Arrivals.{after_received}
use Rattle.ncp_host.specs.Restarting.{incomplete_bits, is_message_out, incomplete_comes, after_restart}
use Rattle.ncp_host.proofs.Restarting.{state_at}
use Rattle.ncp_transcript.specs.declared.note.HostNote.{HostNote}
use Rattle.ncp_transcript.specs.After.{after_note, after_notes}
use Rattle.ncp_transcript.specs.Runs.{IsHostRun, IsHostTranscript, host_began}
use Rattle.ncp_transcript.proofs.Beginning.{began_noted, same_peers}
use Rattle.ncp_transcript.proofs.Growing.{transcript_grows}
use Rattle.ncp_proof_runs.specs.Peers.{names}
use Rattle.ncp_transcript_two.specs.declared.side.Side.TheVariants.{A, B}
use Rattle.ncp_statement.specs.Statement.{Delivers}
use Rattle.ncp_proof_statement.specs.Notes.{SidedNotes, notes_by, as_notes, mutual_notes}
use Rattle.ncp_proof_statement.specs.HonestRuns.{IsHonestRun, IsHonestRunAmong}
use Rattle.ncp_proof_statement.specs.Restarts.{answer_noted_if, incompletes_noted, notes_of_restart, noted_at, with_restart, NoneArrived}
use Rattle.ncp_proof_statement.proofs.Between.{noted-a, noted-b, Kept, has-state}
use Rattle.ncp_proof_statement.proofs.Restarting.{is_received, restarts-run}
use Rattle.ncp_proof_statement.proofs.Lasting.{small, noted-append, noted-here, noted-there-a, noted-there-b, fit-append, fit-restart, goes-on}

-- The notes of a restart depend on the state for the peer alone.

abbrev gone : ℕ → Option PeerState → Option PeerState
gone on None = None
gone on (Some s) = if is_answered on s then Some (answer_comes on Incomplete s) else Some s

gone-state : (peer on : ℕ) (h : Host) → peer < 256 → on < 256 → state_of (incomplete_comes peer on h) peer ≡ gone on (state_of h peer)
gone-state peer on h n o = go (state_of h peer) refl
  where
    stays : is_message_out on (state_of h peer) ≡ false → incomplete_comes peer on h ≡ h
    stays out = ap (λ (b : Bool). if b then after_received (incomplete_bits peer on) h else h) out

    by : (s : PeerState) → state_of h peer ≡ Some s → (b : Bool) → is_answered on s ≡ b → state_of (incomplete_comes peer on h) peer ≡ (if b then Some (answer_comes on Incomplete s) else Some s)
    by s e true t =
        ap (λ (x : Host). state_of x peer) (ap (λ (b : Bool). if b then after_received (incomplete_bits peer on) h else h) (ap (is_message_out on) e ∙ t) ∙ is_received peer on h s n o e)
        ∙ state_at h.peers peer (answer_comes on Incomplete) s e
    by s e false t = ap (λ (x : Host). state_of x peer) (stays (ap (is_message_out on) e ∙ t)) ∙ e

    go : (x : Option PeerState) → state_of h peer ≡ x → state_of (incomplete_comes peer on h) peer ≡ gone on (state_of h peer)
    go None e = ap (λ (x : Host). state_of x peer) (stays (ap (is_message_out on) e)) ∙ e ∙ sym (ap (gone on) e)
    go (Some s) e = by s e (is_answered on s) refl ∙ sym (ap (gone on) e)

noted-same : (peer : ℕ) → peer < 256 → (ons : List ℕ) → list_all (λ on. nat_lt on 256) ons ≡ true → (h k : Host) → state_of h peer ≡ state_of k peer → incompletes_noted peer ons h ≡ incompletes_noted peer ons k
noted-same peer n [] o h k e = refl
noted-same peer n (on ∷ ons) o h k e =
    let both : (nat_lt on 256 ≡ true) × (list_all (λ on. nat_lt on 256) ons ≡ true) = and_parts _ _ o in
    let next : state_of (incomplete_comes peer on h) peer ≡ state_of (incomplete_comes peer on k) peer =
    gone-state peer on h n (small on both.0) ∙ ap (gone on) e ∙ sym (gone-state peer on k n (small on both.0)) in
    ap (λ (x : Option PeerState). answer_noted_if (is_message_out on x) peer on (incompletes_noted peer ons (incomplete_comes peer on h))) e
    ∙ ap (answer_noted_if (is_message_out on (state_of k peer)) peer on) (noted-same peer n ons both.1 (incomplete_comes peer on h) (incomplete_comes peer on k) next)

-- All of them name the peer.

mutual-append : (a b : ℕ) (xs ys : SidedNotes) → mutual_notes a b (xs ++ ys) ≡ mutual_notes a b xs ++ mutual_notes a b ys
mutual-append a b [] ys = refl
mutual-append a b ((A, note) ∷ xs) ys = go (names b note) (mutual-append a b xs ys)
  where
    go : (t : Bool) → mutual_notes a b (xs ++ ys) ≡ mutual_notes a b xs ++ mutual_notes a b ys
        → (if t then (A, note) ∷ mutual_notes a b (xs ++ ys) else mutual_notes a b (xs ++ ys)) ≡ (if t then (A, note) ∷ mutual_notes a b xs else mutual_notes a b xs) ++ mutual_notes a b ys
    go true k = ap (λ (ns : SidedNotes). (A, note) ∷ ns) k
    go false k = k
mutual-append a b ((B, note) ∷ xs) ys = go (names a note) (mutual-append a b xs ys)
  where
    go : (t : Bool) → mutual_notes a b (xs ++ ys) ≡ mutual_notes a b xs ++ mutual_notes a b ys
        → (if t then (B, note) ∷ mutual_notes a b (xs ++ ys) else mutual_notes a b (xs ++ ys)) ≡ (if t then (B, note) ∷ mutual_notes a b xs else mutual_notes a b xs) ++ mutual_notes a b ys
    go true k = ap (λ (ns : SidedNotes). (B, note) ∷ ns) k
    go false k = k

mutual-a : (a b : ℕ) (ons : List ℕ) (h : Host) → mutual_notes a b (noted_at A (incompletes_noted b ons h)) ≡ noted_at A (incompletes_noted b ons h)
mutual-a a b [] h = refl
mutual-a a b (on ∷ ons) h = go (is_message_out on (state_of h b)) (mutual-a a b ons (incomplete_comes b on h))
  where
    go : (t : Bool) → mutual_notes a b (noted_at A (incompletes_noted b ons (incomplete_comes b on h))) ≡ noted_at A (incompletes_noted b ons (incomplete_comes b on h))
        → mutual_notes a b (noted_at A (answer_noted_if t b on (incompletes_noted b ons (incomplete_comes b on h)))) ≡ noted_at A (answer_noted_if t b on (incompletes_noted b ons (incomplete_comes b on h)))
    go false k = k
    go true k =
        let rest : SidedNotes = mutual_notes a b (noted_at A (incompletes_noted b ons (incomplete_comes b on h))) in
        ap (λ (t : Bool). if t then (A, HostNote.Answered b on Incomplete Received.Answered) ∷ rest else rest) (eq-eqb b b refl) ∙ ap (λ (ns : SidedNotes). (A, HostNote.Answered b on Incomplete Received.Answered) ∷ ns) k

mutual-b : (a b : ℕ) (ons : List ℕ) (h : Host) → mutual_notes a b (noted_at B (incompletes_noted a ons h)) ≡ noted_at B (incompletes_noted a ons h)
mutual-b a b [] h = refl
mutual-b a b (on ∷ ons) h = go (is_message_out on (state_of h a)) (mutual-b a b ons (incomplete_comes a on h))
  where
    go : (t : Bool) → mutual_notes a b (noted_at B (incompletes_noted a ons (incomplete_comes a on h))) ≡ noted_at B (incompletes_noted a ons (incomplete_comes a on h))
        → mutual_notes a b (noted_at B (answer_noted_if t a on (incompletes_noted a ons (incomplete_comes a on h)))) ≡ noted_at B (answer_noted_if t a on (incompletes_noted a ons (incomplete_comes a on h)))
    go false k = k
    go true k =
        let rest : SidedNotes = mutual_notes a b (noted_at B (incompletes_noted a ons (incomplete_comes a on h))) in
        ap (λ (t : Bool). if t then (B, HostNote.Answered a on Incomplete Received.Answered) ∷ rest else rest) (eq-eqb a a refl) ∙ ap (λ (ns : SidedNotes). (B, HostNote.Answered a on Incomplete Received.Answered) ∷ ns) k

-- A transcript with more notes.

transcript-more : (all more : List HostNote) (h : Host) → IsHostTranscript all h → IsHostRun more h → IsHostTranscript (all ++ more) (after_notes more h)
transcript-more all [] h t r = subst (λ (ns : List HostNote). IsHostTranscript ns h) (sym (append-nil all)) t
transcript-more all (n ∷ more) h t r =
    subst (λ (ns : List HostNote). IsHostTranscript ns (after_notes more (after_note n h))) (assoc all)
    (transcript-more (all ++ n ∷ []) more (after_note n h) (transcript_grows all (all ++ n ∷ []) n h (after_note n h) t r.0 refl refl) r.1)
  where
    assoc : (us : List HostNote) → (us ++ n ∷ []) ++ more ≡ us ++ n ∷ more
    assoc [] = refl
    assoc (u ∷ us) = ap (λ (ns : List HostNote). u ∷ ns) (assoc us)

began-all : (ns : List HostNote) (h : Host) → host_began (after_notes ns h) ≡ host_began h
began-all [] h = refl
began-all (n ∷ ns) h = began-all ns (after_note n h) ∙ began_noted n h

module _ (x y : Host) (ns : SidedNotes) (t : IsHonestRunAmong x y ns) (two : IsHonestRun x.me y.me (mutual_notes x.me y.me ns)) (kept : Kept) where
  pub goes-on-a : NoneArrived A (mutual_notes x.me y.me ns) → IsHonestRunAmong (after_restart y.me x) y (ns ++ noted_at A (notes_of_restart y.me x))
  goes-on-a none =
      let rest : List HostNote = notes_of_restart y.me x in
      let few : y.me < 256 = t.run_x.fits y.me t.x_has_y in
      let run = restarts-run y.me x few in
      let x' : Host = after_notes rest x in
      let began : host_began x' ≡ host_began x = began-all rest x in
      let me : x'.me ≡ x.me = ap (λ (h : Host). h.me) began in
      let numbers : numbers_of x'.peers ≡ numbers_of x.peers = same_peers x x' began in
      let h : Host = after_notes (notes_by A (mutual_notes x.me y.me ns)) (new_host x.me (y.me ∷ [])) in
      let state : state_of h y.me ≡ state_of x y.me = has-state kept x (notes_by A ns) (notes_by A (mutual_notes x.me y.me ns)) y.me t.run_x t.x_has_y (noted-a x.me y.me ns) two.run_a in
      let is : mutual_notes x.me y.me (ns ++ noted_at A rest) ≡ with_restart A x.me y.me (mutual_notes x.me y.me ns) =
      mutual-append x.me y.me ns (noted_at A rest)
      ∙ ap (λ (ms : SidedNotes). mutual_notes x.me y.me ns ++ ms) (mutual-a x.me y.me links x)
      ∙ ap (λ (ms : List HostNote). mutual_notes x.me y.me ns ++ noted_at A ms) (noted-same y.me few links refl x h (sym state)) in
      subst (λ (z : Host). IsHonestRunAmong z y (ns ++ noted_at A rest)) run.1 (record {
        run_x = subst (λ (xs : List HostNote). IsHostTranscript xs x') (sym (noted-append A ns (noted_at A rest) ∙ ap (λ (xs : List HostNote). notes_by A ns ++ xs) (noted-here A rest)))
            (transcript-more (notes_by A ns) rest x t.run_x run.0);
        run_y = subst (λ (xs : List HostNote). IsHostTranscript xs y) (sym (noted-append B ns (noted_at A rest) ∙ ap (λ (xs : List HostNote). notes_by B ns ++ xs) (noted-there-a rest) ∙ append-nil (notes_by B ns))) t.run_y;
        x_has_y = ap (is_one_of y.me) numbers ∙ t.x_has_y;
        y_has_x = ap (λ (m : ℕ). is_one_of m (numbers_of y.peers)) me ∙ t.y_has_x;
        calls = fit-append ns (noted_at A rest) t.calls (fit-restart A y.me links x);
        honest = subst (λ (m : ℕ). Delivers m y.me (as_notes (mutual_notes m y.me (ns ++ noted_at A rest)))) (sym me)
            (subst (λ (ms : SidedNotes). Delivers x.me y.me (as_notes ms)) (sym is) (goes-on x.me y.me (mutual_notes x.me y.me ns) two A none).honest);
      })

  pub goes-on-b : NoneArrived B (mutual_notes x.me y.me ns) → IsHonestRunAmong x (after_restart x.me y) (ns ++ noted_at B (notes_of_restart x.me y))
  goes-on-b none =
      let rest : List HostNote = notes_of_restart x.me y in
      let few : x.me < 256 = t.run_y.fits x.me t.y_has_x in
      let run = restarts-run x.me y few in
      let y' : Host = after_notes rest y in
      let began : host_began y' ≡ host_began y = began-all rest y in
      let me : y'.me ≡ y.me = ap (λ (h : Host). h.me) began in
      let numbers : numbers_of y'.peers ≡ numbers_of y.peers = same_peers y y' began in
      let h : Host = after_notes (notes_by B (mutual_notes x.me y.me ns)) (new_host y.me (x.me ∷ [])) in
      let state : state_of h x.me ≡ state_of y x.me = has-state kept y (notes_by B ns) (notes_by B (mutual_notes x.me y.me ns)) x.me t.run_y t.y_has_x (noted-b x.me y.me ns) two.run_b in
      let is : mutual_notes x.me y.me (ns ++ noted_at B rest) ≡ with_restart B x.me y.me (mutual_notes x.me y.me ns) =
      mutual-append x.me y.me ns (noted_at B rest)
      ∙ ap (λ (ms : SidedNotes). mutual_notes x.me y.me ns ++ ms) (mutual-b x.me y.me links y)
      ∙ ap (λ (ms : List HostNote). mutual_notes x.me y.me ns ++ noted_at B ms) (noted-same x.me few links refl y h (sym state)) in
      subst (λ (z : Host). IsHonestRunAmong x z (ns ++ noted_at B rest)) run.1 (record {
        run_x = subst (λ (xs : List HostNote). IsHostTranscript xs x) (sym (noted-append A ns (noted_at B rest) ∙ ap (λ (xs : List HostNote). notes_by A ns ++ xs) (noted-there-b rest) ∙ append-nil (notes_by A ns))) t.run_x;
        run_y = subst (λ (xs : List HostNote). IsHostTranscript xs y') (sym (noted-append B ns (noted_at B rest) ∙ ap (λ (xs : List HostNote). notes_by B ns ++ xs) (noted-here B rest)))
            (transcript-more (notes_by B ns) rest y t.run_y run.0);
        x_has_y = ap (λ (m : ℕ). is_one_of m (numbers_of x.peers)) me ∙ t.x_has_y;
        y_has_x = ap (is_one_of x.me) numbers ∙ t.y_has_x;
        calls = fit-append ns (noted_at B rest) t.calls (fit-restart B x.me links y);
        honest = subst (λ (m : ℕ). Delivers x.me m (as_notes (mutual_notes x.me m (ns ++ noted_at B rest)))) (sym me)
            (subst (λ (ms : SidedNotes). Delivers x.me y.me (as_notes ms)) (sym is) (goes-on x.me y.me (mutual_notes x.me y.me ns) two B none).honest);
      })
