-- What came from the subnet is noted with the host and the link that the note of the world has.
use Rattle.std.proofs.Common.{◌≡◌, ◌≤◌, ℕ, Bool, true, false, if◌then◌else◌, List, [], ◌∷◌, ◌++◌, Option, None, Some, Ok, refl, sym, ap, ◌∙◌, subst, arith}
use Rattle.ncp_leader.specs.declared.leader.Leader.{Leader}
use Rattle.ncp_leader.specs.Leader.{leader_in}
use Rattle.ncp_slot.specs.Slots.{slot_at}
use Rattle.ncp_proof_machine.specs.Hosts as hosts
use Rattle.ncp_peer.specs.Hearing.{rfnm, incomplete, destination_dead, answer_of}
use Rattle.ncp_peer.specs.Output.{leader_to}
use Rattle.ncp_host.specs.Arrivals.{received_in}
use Rattle.ncp_subnet.specs.Messages.{arriving, answer_about}
use Rattle.ncp_transcript.specs.declared.note.HostNote.{HostNote}
use Rattle.ncp_transcript.specs.Noting.{is_answer, note_of_bits}
use Rattle.ncp_transcript_two.specs.Subnet.{Holds, Free, Accepted, Delivered, Lost, Dead, from_host, answer_bits}
use Rattle.ncp_transcript_two.specs.Tie.{Refines}
use Rattle.ncp_transcript_two.specs.declared.side.Side.{Side}
use Rattle.ncp_transcript_two.specs.declared.side.Side.TheVariants.{A, B}
use Rattle.ncp_transcript_two.specs.declared.event.Event.{Event}
use Rattle.ncp_transcript_two.specs.declared.event.Event.TheVariants as events
use Rattle.ncp_transcript_two.specs.declared.note.Move.TheVariants as moves
use Rattle.ncp_transcript_two.specs.declared.note.Note.{Note}
use Rattle.ncp_transcript_two.specs.declared.note.Note.TheVariants as notes
use Rattle.ncp_transcript_two.specs.Between.{Hosts, other, side_number, hosts_after_note, hosts_after_notes}
use Rattle.ncp_transcript_two.specs.Happening.{Noted, note_of_coming, note_of_answering}
use Rattle.ncp_transcript_two.specs.Transcript.{began, IsTranscript}
use Rattle.ncp_transcript_two.specs.Seen.{seen}
use Rattle.ncp_transcript_two.specs.Naming.{IsMessageFrom, IsAnswerAbout}
use Rattle.ncp_transcript_two.proofs.Written.{answer_leader, answer-led}
use Rattle.ncp_transcript_two.proofs.OnePeer.{noted-message, noted-answer}
use Rattle.ncp_transcript_two.proofs.Flights.{IsOut, delivered-out, lost-out, dead-out}
use Rattle.ncp_transcript_two.proofs.Ties.{tied-swapped}
use Rattle.ncp_transcript_two.proofs.Runs.{new-ties}
use Rattle.ncp_transcript_two.proofs.Growing.{began_noted}
use Rattle.ncp_transcript_two.proofs.SeenSteps.{Stand}
use Rattle.ncp_transcript_two.proofs.SeenMoves.{sent-led, leader-parts}
use Rattle.ncp_transcript_two.proofs.SeenRuns.{counterpart, stand-counterpart, stands-at}
use Rattle.ncp_transcript_two.proofs.Impossible.{said_at, run_before}
use Rattle.ncp_transcript_two.proofs.Headlines.{stands, new}

-- Of side A.

abbrev ComeNamed : Option (List Bool) → ℕ → ℕ → Hosts → Type 0
ComeNamed None number link w = Unit {0}
ComeNamed (Some bits) number link w = IsMessageFrom number link (note_of_bits bits w.b)

abbrev pub AnswerNamed : Option (List Bool) → ℕ → ℕ → Hosts → Type 0
AnswerNamed None number link w = Unit {0}
AnswerNamed (Some bits) number link w = IsAnswerAbout number link (note_of_bits bits w.a)

module _ (w : Hosts) (k : Stand w) (x : hosts.TwoNodes) (t : Refines x (seen w)) where
  come-named : (link : ℕ) (h : Holds) → (seen w).going link ≡ h → ComeNamed (arriving w.number_a h) w.number_a link w
  come-named link Free e = tt
  come-named link Delivered e = tt
  come-named link Lost e = tt
  come-named link Dead e = tt
  come-named link (Accepted m) e =
      let bits : List Bool = from_host w.number_a m in
      let l : Leader = leader_to w.number_a link in
      let front : leader_in bits ≡ Ok l = (sent-led link x (seen w) m t e).1 in
      let parts = leader-parts bits l front in
      (bits, received_in bits w.b, noted-message w.b bits l front refl, ap (λ (y : Leader). y.host) parts.1, ap (λ (y : Leader). y.link) parts.1)

  told : (link kind : ℕ) → IsOut link (slot_at (seen w).this.slots link) → kind ≤ 15 → is_answer kind ≡ true → IsAnswerAbout w.number_b link (note_of_bits (answer_bits kind w.number_b link) w.a)
  told link kind out few is =
      let bits : List Bool = answer_bits kind w.number_b link in
      let l : Leader = answer_leader kind w.number_b link in
      let front : leader_in bits ≡ Ok l = answer-led kind w.number_b link (record { flags = omega arith; kind = few; host = k.fits_b; link = out.fits; low = omega arith }) in
      (answer_of kind, received_in bits w.a, noted-answer w.a bits l k.a front is)

  pub answer-named : (link : ℕ) (h : Holds) → (seen w).going link ≡ h → AnswerNamed (answer_about w.number_b link h) w.number_b link w
  answer-named link Free e = tt
  answer-named link (Accepted m) e = tt
  answer-named link Delivered e = told link rfnm (delivered-out link x (seen w) t e) (omega arith) refl
  answer-named link Lost e = told link incomplete (lost-out link x (seen w) t e) (omega arith) refl
  answer-named link Dead e = told link destination_dead (dead-out link x (seen w) t e) (omega arith) refl

-- Of either side.

abbrev Named : Note → Hosts → Type 0
Named (notes.Called side note) w = Unit {0}
Named (notes.Out side note) w = Unit {0}
Named (notes.Came side link note) w = IsMessageFrom (side_number side w) link note
Named (notes.Lost side link) w = Unit {0}
Named (notes.FoundDead side link) w = Unit {0}
Named (notes.Answered side link note) w = IsAnswerAbout (side_number (other side) w) link note
Named (notes.Nothing side link wanted) w = Unit {0}

a-came : (link : ℕ) (o : Option (List Bool)) (w : Hosts) → ComeNamed o w.number_a link w → Named (note_of_coming A link o w) w
a-came link None w n = tt
a-came link (Some bits) w n = n

b-came : (link : ℕ) (o : Option (List Bool)) (w : Hosts) → ComeNamed o w.number_b link (counterpart w) → Named (note_of_coming B link o w) w
b-came link None w n = tt
b-came link (Some bits) w n = n

a-answered : (link : ℕ) (o : Option (List Bool)) (w : Hosts) → AnswerNamed o w.number_b link w → Named (note_of_answering A link o w) w
a-answered link None w n = tt
a-answered link (Some bits) w n = n

b-answered : (link : ℕ) (o : Option (List Bool)) (w : Hosts) → AnswerNamed o w.number_a link (counterpart w) → Named (note_of_answering B link o w) w
b-answered link None w n = tt
b-answered link (Some bits) w n = n

lost-named : (side : Side) (link : ℕ) (b : Bool) (w : Hosts) → Named (if b then notes.Lost side link else notes.Nothing side link moves.Lose) w
lost-named side link true w = tt
lost-named side link false w = tt

dead-named : (side : Side) (link : ℕ) (b : Bool) (w : Hosts) → Named (if b then notes.FoundDead side link else notes.Nothing side link moves.Dead) w
dead-named side link true w = tt
dead-named side link false w = tt

module _ (w : Hosts) (k : Stand w) (x : hosts.TwoNodes) (t : Refines x (seen w)) where
  back : Refines (hosts.nodes_swapped x) (seen (counterpart w))
  back = tied-swapped x (seen w) t

  named : (event : Event) (note : Note) → Noted event note w → Named note w
  named (events.Call side call) note n = subst (λ (m : Note). Named m w) (sym n.said) tt
  named (events.Out side) note n = subst (λ (m : Note). Named m w) (sym n) tt
  named (events.Lose side link) note n = subst (λ (m : Note). Named m w) (sym n) (lost-named side link _ w)
  named (events.Dead side link) note n = subst (λ (m : Note). Named m w) (sym n) (dead-named side link _ w)
  named (events.Deliver A link) note n = subst (λ (m : Note). Named m w) (sym n) (a-came link (arriving w.number_a ((seen w).going link)) w (come-named w k x t link ((seen w).going link) refl))
  named (events.Deliver B link) note n = subst (λ (m : Note). Named m w) (sym n) (b-came link (arriving w.number_b ((seen w).coming link)) w (come-named (counterpart w) (stand-counterpart w k) (hosts.nodes_swapped x) back link ((seen w).coming link) refl))
  named (events.Answer A link) note n = subst (λ (m : Note). Named m w) (sym n) (a-answered link (answer_about w.number_b link ((seen w).going link)) w (answer-named w k x t link ((seen w).going link) refl))
  named (events.Answer B link) note n = subst (λ (m : Note). Named m w) (sym n) (b-answered link (answer_about w.number_a link ((seen w).coming link)) w (answer-named (counterpart w) (stand-counterpart w k) (hosts.nodes_swapped x) back link ((seen w).coming link) refl))

-- the numbers of the hosts stay

began_all : (ns : List Note) (w : Hosts) → began (hosts_after_notes ns w) ≡ began w
began_all [] w = refl
began_all (n ∷ ns) w = began_all ns (hosts_after_note n w) ∙ began_noted n w

number_stays : (side : Side) (ns : List Note) (w : Hosts) → side_number side (hosts_after_notes ns (began w)) ≡ side_number side w
number_stays A ns w = ap (λ (x : Hosts). x.number_a) (began_all ns (began w))
number_stays B ns w = ap (λ (x : Hosts). x.number_b) (began_all ns (began w))

module _ (before after : List Note) (w : Hosts) where
  at : (note : Note) → IsTranscript (before ++ note ∷ after) w → Named note (hosts_after_notes before (began w))
  at note t =
      let s = said_at before after note (began w) t.run in
      let m = stands-at before (began w) (run_before before (note ∷ after) (began w) t.run) (stands (before ++ note ∷ after) w t) (new-ties (seen (began w)) (new (before ++ note ∷ after) w t)) in
      named (hosts_after_notes before (began w)) m.0 m.1.0 m.1.1 s.0 note s.1

  pub came-named : (side : Side) (link : ℕ) (note : HostNote) → IsTranscript (before ++ notes.Came side link note ∷ after) w → IsMessageFrom (side_number side w) link note
  came-named side link note t = subst (λ (n : ℕ). IsMessageFrom n link note) (number_stays side before w) (at (notes.Came side link note) t)

  pub answered-named : (side : Side) (link : ℕ) (note : HostNote) → IsTranscript (before ++ notes.Answered side link note ∷ after) w → IsAnswerAbout (side_number (other side) w) link note
  answered-named side link note t = subst (λ (n : ℕ). IsAnswerAbout n link note) (number_stays (other side) before w) (at (notes.Answered side link note) t)
