-- A restart with nothing unanswered is none; and an honest run of two hosts stays one over a restart, if none of the unanswered messages had arrived.
use Rattle.std.proofs.Common.{◌≡◌, ◌≢◌, ◌<◌, ◌≤◌, ◌+◌, ◌==◌, inl, inr, ℕ, zero, suc, Bool, true, false, ◌&&◌, nat_lt, if◌then◌else◌, List, [], ◌∷◌, ◌++◌, Option, None, Some, refl, sym, ap, ◌∙◌, subst, arith}
use Rattle.std.specs.List.{list_all, range_with_len}
use Rattle.std.proofs.lemmas.Bool.{and_parts}
use Rattle.std.proofs.lemmas.Bool.Decides.{eqb_tells}
use Rattle.std.proofs.lemmas.List.{append-nil}
use Rattle.ncp_wire.specs.declared.answer.Answer.{Answer}
use Rattle.ncp_wire.specs.declared.answer.Answer.TheVariants.{Rfnm, Incomplete, Dead}
use Rattle.ncp_slot.specs.declared.slot.Slot.TheVariants as slots
use Rattle.ncp_slot.specs.Slot.{answered, is_travelling}
use Rattle.ncp_slot.specs.Slots.{LinkSlot, HasSlot, slot_at, with_slot}
use Rattle.ncp_slot.proofs.Places.{slot_at-with_slot_same, slot_at-with_slot_other}
use Rattle.ncp_subnet.specs.declared.transit.Transit.TheVariants.{Free, Accepted, Delivered}
use Rattle.ncp_subnet.specs.Messages.{link_in}
use Rattle.ncp_subnet.specs.Ways.{OnLink}
use Rattle.ncp_proof_machine.specs.Hosts.{Node}
use Rattle.ncp_proof_machine.specs.Delivery.{Link}
use Rattle.ncp_peer.specs.PeerState.{PeerState, is_answered, answer_taken, answer_comes}
use Rattle.ncp_peer.specs.Counting.{one_more}
use Rattle.ncp_peer.specs.Output.{links}
use Rattle.ncp_host.specs.Host.{Host, new_host, state_of, changed}
use Rattle.ncp_host.specs.Arrivals.{after_received}
use Rattle.ncp_host.specs.Restarting.{incomplete_bits, is_message_out, incomplete_comes}
use Rattle.ncp_host.proofs.Restarting.{state_at}
use Rattle.ncp_transcript.specs.declared.note.HostNote.{HostNote}
use Rattle.ncp_transcript.specs.declared.note.HostNote.TheVariants as of_host
use Rattle.ncp_transcript.specs.After.{after_note, after_notes}
use Rattle.ncp_transcript.specs.Runs.{IsHostRun}
use Rattle.ncp_transcript_two.specs.declared.side.Side.{Side}
use Rattle.ncp_transcript_two.specs.declared.side.Side.TheVariants.{A, B}
use Rattle.ncp_transcript_two.specs.declared.note.Note.{Note}
use Rattle.ncp_transcript_two.specs.Between.{other}
use Rattle.ncp_transcript_two.specs.Honest.{MessageEvent, Sent, Arrives, Acked, Nacked, Other, InFlight, Clear, Flying, Landed, answer_event, if_on, HonestFrom}
use Rattle.ncp_transcript_two.specs.Seen.{state_or_new, seen}
use Rattle.ncp_transcript_two.specs.Sides.{if_same}
use Rattle.ncp_transcript_two.specs.Subnet.{TransitByLink}
use Rattle.ncp_transcript_two.specs.Tie.{MessageState, Nowhere, Waits, Goes, Came, Failed, Died, Kept, slot_of, holds_of, LinkRefines, Represents}
use Rattle.ncp_transcript_two.proofs.Headlines.{of-model}
use Rattle.ncp_statement.specs.Statement.{is_same, number, message_event_of, message_events_of, link_state_from, link_state}
use Rattle.ncp_proof_statement.specs.Notes.{SidedNotes, notes_by, as_note, as_notes, NotedCallsFit}
use Rattle.ncp_proof_statement.specs.HonestRuns.{IsHonestRun, WorldOf}
use Rattle.ncp_proof_statement.specs.Restarts.{answer_noted_if, incompletes_noted, notes_of_restart, NoneUnanswered, noted_at, with_restart, NoneArrived}
use Rattle.ncp_proof_statement.proofs.Deeds.{as_transit}
use Rattle.ncp_proof_statement.proofs.Filling.{in-world}
use Rattle.ncp_proof_statement.proofs.Restarting.{is_received, restarts-run}

-- With nothing unanswered there is no note.

abbrev AllSlots : List ℕ → Type 0
AllSlots [] = Unit {0}
AllSlots (on ∷ ons) = HasSlot on × AllSlots ons

range-slots : (n a : ℕ) → 2 ≤ a → a + n ≤ 72 → AllSlots (range_with_len a n)
range-slots zero a low high = tt
range-slots (suc n) a low high = ((λ e. absurd (omega (arith, e)), omega arith), range-slots n (a + 1) (omega arith) (omega arith))

all-slots : AllSlots links
all-slots = ((λ e. absurd (cc e), omega arith), range-slots 70 2 (omega arith) (omega arith))

none-on : (peer : ℕ) (ons : List ℕ) (h : Host) → AllSlots ons → NoneUnanswered peer h → incompletes_noted peer ons h ≡ []
none-on peer [] h has none = refl
none-on peer (on ∷ ons) h has none =
    let out : is_message_out on (state_of h peer) ≡ false = none on has.0 in
    ap (λ (b : Bool). answer_noted_if b peer on (incompletes_noted peer ons (incomplete_comes peer on h))) out
    ∙ ap (incompletes_noted peer ons) (ap (λ (b : Bool). if b then after_received (incomplete_bits peer on) h else h) out)
    ∙ none-on peer ons h has.1 none

pub no-notes : (peer : ℕ) (h : Host) → NoneUnanswered peer h → notes_of_restart peer h ≡ []
no-notes peer h none = none-on peer links h all-slots none

-- An Incomplete Transmission on one link: what is unanswered after it was so before, on another link.

not-travelling : (slot : LinkSlot) → is_travelling (answered Incomplete slot) ≡ false
not-travelling slots.Empty = refl
not-travelling (slots.Ready m) = refl
not-travelling (slots.Travelling m) = refl
not-travelling (slots.Held m) = refl

abbrev WasOut : ℕ → ℕ → Option PeerState → Type 0
WasOut on k was = ((on == k) ≡ false) × (is_message_out k was ≡ true)

still-out : (on k : ℕ) (s : PeerState) → is_answered k (answer_taken on Incomplete s) ≡ true → WasOut on k (Some s)
still-out on k s out = elim (eqb_tells on k) [
  | inl y ↦
      let here : is_travelling (slot_at (with_slot s.slots on (answered Incomplete (slot_at s.slots on))) k) ≡ false =
      ap (λ (j : ℕ). is_travelling (slot_at (with_slot s.slots on (answered Incomplete (slot_at s.slots on))) j)) (sym y.1)
      ∙ ap is_travelling (slot_at-with_slot_same s.slots on (answered Incomplete (slot_at s.slots on)))
      ∙ not-travelling (slot_at s.slots on) in
      absurd (cc (here, out))
  | inr other ↦ (other.0, ap is_travelling (sym (slot_at-with_slot_other s.slots on (answered Incomplete (slot_at s.slots on)) k (λ e. other.1 (sym e)))) ∙ out)
]

comes-out : (peer on k : ℕ) (h : Host) → peer < 256 → on < 256 → is_message_out on (state_of h peer) ≡ true → is_message_out k (state_of (incomplete_comes peer on h) peer) ≡ true → WasOut on k (state_of h peer)
comes-out peer on k h n o out after = go (state_of h peer) refl out
  where
    go : (x : Option PeerState) → state_of h peer ≡ x → is_message_out on x ≡ true → WasOut on k (state_of h peer)
    go None e t = absurd (cc t)
    go (Some s) e t =
        let now : incomplete_comes peer on h ≡ changed peer (answer_comes on Incomplete) h = ap (λ (b : Bool). if b then after_received (incomplete_bits peer on) h else h) out ∙ is_received peer on h s n o e in
        let state : state_of (incomplete_comes peer on h) peer ≡ Some (answer_comes on Incomplete s) = ap (λ (x : Host). state_of x peer) now ∙ state_at h.peers peer (answer_comes on Incomplete) s e in
        let taken : answer_comes on Incomplete s ≡ answer_taken on Incomplete s = ap (λ (b : Bool). if b then answer_taken on Incomplete s else record s { counts = record s.counts { stray = one_more s.counts.stray } }) t in
        let later : is_answered k (answer_taken on Incomplete s) ≡ true = ap (is_answered k) (sym taken) ∙ sym (ap (is_message_out k) state) ∙ after in
        subst (WasOut on k) (sym e) (still-out on k s later)

-- The notes of a restart are honest after others, on each link and of each side.

abbrev IsFlying : InFlight → Type 0
IsFlying q = (m : List Bool) × (q ≡ Flying m)

pub small : (on : ℕ) → nat_lt on 256 ≡ true → on < 256
small on h = grind arith

abbrev AreHonest : Side → Side → ℕ → ℕ → InFlight → List HostNote → Type 0
AreHonest s by k n q ns = HonestFrom n q (message_events_of s k (as_notes (noted_at by ns)))

abbrev events_after : Side → Side → ℕ → ℕ → List ℕ → Host → List MessageEvent
events_after s by k peer ons h = message_events_of s k (as_notes (noted_at by (incompletes_noted peer ons h)))

honest-on : (s by : Side) (t : Bool) → is_same s by ≡ t → (k n peer : ℕ) → peer < 256 → (ons : List ℕ) → list_all (λ on. nat_lt on 256) ons ≡ true → (h : Host) (q : InFlight)
    → (t ≡ true → is_message_out k (state_of h peer) ≡ true → IsFlying q) → AreHonest s by k n q (incompletes_noted peer ons h)
honest-on s by t is k n peer l [] o h q f = tt
honest-on s by t is k n peer l (on ∷ ons) o h q f =
    let both : (nat_lt on 256 ≡ true) × (list_all (λ on. nat_lt on 256) ons ≡ true) = and_parts _ _ o in
    go (small on both.0) (honest-on s by t is k n peer l ons both.1) (is_message_out on (state_of h peer)) refl
  where
    go : on < 256 → ((x : Host) (p : InFlight) → (t ≡ true → is_message_out k (state_of x peer) ≡ true → IsFlying p) → HonestFrom n p (events_after s by k peer ons x)) → (b : Bool) → is_message_out on (state_of h peer) ≡ b
        → AreHonest s by k n q (answer_noted_if b peer on (incompletes_noted peer ons (incomplete_comes peer on h)))
    go low more false e = subst (λ (x : Host). HonestFrom n q (events_after s by k peer ons x)) (sym (ap (λ (b : Bool). if b then after_received (incomplete_bits peer on) h else h) e)) (more h q f)
    go low more true e =
        let h' : Host = incomplete_comes peer on h in
        let was : is_message_out k (state_of h' peer) ≡ true → WasOut on k (state_of h peer) = comes-out peer on k h l low e in
        let passes : HonestFrom n q (events_after s by k peer ons h') = more h' q (λ y out. f y (was out).1) in
        let cleared : (on == k) ≡ true → HonestFrom n Clear (events_after s by k peer ons h') = λ here. more h' Clear (λ y out. absurd (cc ((was out).0, here))) in
        subst (λ (b : Bool). HonestFrom n q (if_on (b && (on == k)) Nacked ∷ events_after s by k peer ons h')) (sym is) (by-side t refl passes cleared)
      where
        by-side : (b : Bool) → t ≡ b → HonestFrom n q (events_after s by k peer ons (incomplete_comes peer on h)) → ((on == k) ≡ true → HonestFrom n Clear (events_after s by k peer ons (incomplete_comes peer on h)))
            → HonestFrom n q (if_on (b && (on == k)) Nacked ∷ events_after s by k peer ons (incomplete_comes peer on h))
        by-side false y passes cleared = passes
        by-side true y passes cleared = elim (eqb_tells on k) [
          | inl z ↦
              let flies : IsFlying q = f y (ap (λ (j : ℕ). is_message_out j (state_of h peer)) (sym z.1) ∙ e) in
              subst (λ (b : Bool). HonestFrom n q (if_on b Nacked ∷ events_after s by k peer ons (incomplete_comes peer on h))) (sym z.0)
              (subst (λ (p : InFlight). HonestFrom n p (Nacked ∷ events_after s by k peer ons (incomplete_comes peer on h))) (sym flies.1) (cleared z.0))
          | inr other ↦ subst (λ (b : Bool). HonestFrom n q (if_on b Nacked ∷ events_after s by k peer ons (incomplete_comes peer on h))) (sym other.0) passes
        ]

-- What is in flight on a link after events, and what the notes say that the subnet has there.

abbrev flight_after : InFlight → List MessageEvent → InFlight
flight_after p [] = p
flight_after p (Other ∷ ds) = flight_after p ds
flight_after p (Sent m ∷ ds) = flight_after (Flying m) ds
flight_after p (Arrives m ∷ ds) = flight_after Landed ds
flight_after p (Acked ∷ ds) = flight_after Clear ds
flight_after p (Nacked ∷ ds) = flight_after Clear ds

honest-append : (n : ℕ) (p : InFlight) (xs ys : List MessageEvent) → HonestFrom n p xs → HonestFrom n (flight_after p xs) ys → HonestFrom n p (xs ++ ys)
honest-append n p [] ys h k = k
honest-append n p (Other ∷ xs) ys h k = honest-append n p xs ys h k
honest-append n Clear (Sent m ∷ xs) ys h k = honest-append n (Flying m) xs ys h k
honest-append n (Flying x) (Sent m ∷ xs) ys h k = absurd h
honest-append n Landed (Sent m ∷ xs) ys h k = absurd h
honest-append n Clear (Arrives m ∷ xs) ys h k = absurd h
honest-append n (Flying x) (Arrives m ∷ xs) ys h k = (h.0, honest-append n Landed xs ys h.1 k)
honest-append n Landed (Arrives m ∷ xs) ys h k = absurd h
honest-append n Clear (Acked ∷ xs) ys h k = absurd h
honest-append n (Flying x) (Acked ∷ xs) ys h k = absurd h
honest-append n Landed (Acked ∷ xs) ys h k = honest-append n Clear xs ys h k
honest-append n Clear (Nacked ∷ xs) ys h k = absurd h
honest-append n (Flying x) (Nacked ∷ xs) ys h k = honest-append n Clear xs ys h k
honest-append n Landed (Nacked ∷ xs) ys h k = absurd h

module _ (s : Side) (k : ℕ) (ns : SidedNotes) where
  abbrev SameAfter : OnLink → InFlight → Type 0
  SameAfter t p = link_state_from s k t (as_notes ns) ≡ as_transit (flight_after p (message_events_of s k (as_notes ns)))

  abbrev Goes_on : Type 0
  Goes_on = (p : InFlight) → SameAfter (as_transit p) p

  after-sent : Goes_on → (b : Bool) (m : List Bool) (p : InFlight) → link_state_from s k (if b then Accepted m else as_transit p) (as_notes ns) ≡ as_transit (flight_after p (if_on b (Sent m) ∷ message_events_of s k (as_notes ns)))
  after-sent on true m p = on (Flying m)
  after-sent on false m p = on p

  after-came : Goes_on → (b : Bool) (m : List Bool) (p : InFlight) → link_state_from s k (if b then Delivered else as_transit p) (as_notes ns) ≡ as_transit (flight_after p (if_on b (Arrives m) ∷ message_events_of s k (as_notes ns)))
  after-came on true m p = on Landed
  after-came on false m p = on p

  after-answered : Goes_on → (b : Bool) (e : MessageEvent) → ((q : InFlight) (ds : List MessageEvent) → flight_after q (e ∷ ds) ≡ flight_after Clear ds) → (p : InFlight)
      → link_state_from s k (if b then Free else as_transit p) (as_notes ns) ≡ as_transit (flight_after p (if_on b e ∷ message_events_of s k (as_notes ns)))
  after-answered on true e clears p = on Clear ∙ ap as_transit (sym (clears p (message_events_of s k (as_notes ns))))
  after-answered on false e clears p = on p

answer-clears : (how : Answer) (q : InFlight) (ds : List MessageEvent) → flight_after q (answer_event how ∷ ds) ≡ flight_after Clear ds
answer-clears Rfnm q ds = refl
answer-clears Incomplete q ds = refl
answer-clears Dead q ds = refl

in-flight : (s : Side) (k : ℕ) (ns : SidedNotes) (p : InFlight) → SameAfter s k ns (as_transit p) p
in-flight s k [] p = refl
in-flight s k ((by, of_host.Refused call fault) ∷ ns) p = in-flight s k ns p
in-flight s k ((by, of_host.Done call) ∷ ns) p = in-flight s k ns p
in-flight s k ((by, of_host.Took peer pair bytes text) ∷ ns) p = in-flight s k ns p
in-flight s k ((by, of_host.State peer pair r) ∷ ns) p = in-flight s k ns p
in-flight s k ((by, of_host.Phase peer flags) ∷ ns) p = in-flight s k ns p
in-flight s k ((by, of_host.Echoed peer byte) ∷ ns) p = in-flight s k ns p
in-flight s k ((by, of_host.Errors peer errors) ∷ ns) p = in-flight s k ns p
in-flight s k ((by, of_host.Counts peer counts) ∷ ns) p = in-flight s k ns p
in-flight s k ((by, of_host.Waiting peer place command) ∷ ns) p = in-flight s k ns p
in-flight s k ((by, of_host.Kept peer link message) ∷ ns) p = in-flight s k ns p
in-flight s k ((by, of_host.Ignored ignored) ∷ ns) p = in-flight s k ns p
in-flight s k ((by, of_host.Out m) ∷ ns) p = after-sent s k ns (in-flight s k ns) (is_same s by && (link_in m == k)) m p
in-flight s k ((by, of_host.Nothing) ∷ ns) p = in-flight s k ns p
in-flight s k ((by, of_host.In m r) ∷ ns) p = after-came s k ns (in-flight s k ns) (is_same s (other by) && (link_in m == k)) m p
in-flight s k ((by, of_host.Answered peer link how r) ∷ ns) p = after-answered s k ns (in-flight s k ns) (is_same s by && (link == k)) (answer_event how) (answer-clears how) p

-- What is unanswered at a host is in transit.

in-transit : {M : Type 0} (write : M → List Bool) (P : M → Type 0) (link : Link M) (slot : LinkSlot) (holds : OnLink) → LinkRefines write P link slot holds → is_travelling slot ≡ true → holds ≢ Free
in-transit {M} write P link slot holds r out free = go r.place (sym (ap is_travelling r.in_slot) ∙ out) (sym r.in_subnet ∙ free)
  where
    go : (place : MessageState M) → is_travelling (slot_of write place) ≡ true → holds_of write place ≡ Free → ⊥
    go Nowhere t e = absurd (cc t)
    go (Waits m) t e = absurd (cc t)
    go (Goes m) t e = absurd (cc e)
    go (Came m) t e = absurd (cc e)
    go (Failed m) t e = absurd (cc e)
    go (Died m) t e = absurd (cc e)
    go (Kept m) t e = absurd (cc t)

out-in-transit : (there : ℕ) (n : Node) (s : PeerState) (u : TransitByLink) → Represents there n s u → (on : ℕ) → is_answered on s ≡ true → u on ≢ Free
out-in-transit there n s u r on out = elim (eqb_tells on 0) [
  | inl y ↦ λ free. in-transit _ _ n.control (slot_at s.slots 0) (u 0) r.control (ap (λ (j : ℕ). is_travelling (slot_at s.slots j)) (sym y.1) ∙ out) (ap u (sym y.1) ∙ free)
  | inr other ↦ in-transit _ _ (n.texts on) (slot_at s.slots on) (u on) (r.texts on other.0) out
]

had-out : (o : Option PeerState) (on : ℕ) → is_message_out on o ≡ true → is_answered on (state_or_new o) ≡ true
had-out None on e = absurd (cc e)
had-out (Some s) on e = e

flies : (q : InFlight) (t : OnLink) → t ≡ as_transit q → t ≢ Free → t ≢ Delivered → IsFlying q
flies Clear t e f d = absurd (f e)
flies (Flying m) t e f d = (m, refl)
flies Landed t e f d = absurd (d e)

module _ (a b : ℕ) (ns : SidedNotes) (t : IsHonestRun a b ns) where
  k : WorldOf a b ns
  k = in-world a b ns t

  transit-a : (on : ℕ) → is_message_out on (state_of (after_notes (notes_by A ns) (new_host a (b ∷ []))) b) ≡ true → link_state A on (as_notes ns) ≢ Free
  transit-a on out free =
      let r = of-model k.more k.world k.is in
      let same : state_of k.world.a k.world.number_b ≡ state_of (after_notes (notes_by A ns) (new_host a (b ∷ []))) b = λ i. state_of (k.host_a i) (k.number_b i) in
      out-in-transit k.world.number_b _ (seen k.world).this (seen k.world).going r.1.this on (had-out (state_of k.world.a k.world.number_b) on (ap (is_message_out on) same ∙ out)) (k.links A on ∙ free)

  transit-b : (on : ℕ) → is_message_out on (state_of (after_notes (notes_by B ns) (new_host b (a ∷ []))) a) ≡ true → link_state B on (as_notes ns) ≢ Free
  transit-b on out free =
      let r = of-model k.more k.world k.is in
      let same : state_of k.world.b k.world.number_a ≡ state_of (after_notes (notes_by B ns) (new_host b (a ∷ []))) a = λ i. state_of (k.host_b i) (k.number_a i) in
      out-in-transit k.world.number_a _ (seen k.world).that (seen k.world).coming r.1.that on (had-out (state_of k.world.b k.world.number_a) on (ap (is_message_out on) same ∙ out)) (k.links B on ∙ free)

-- The notes of two hosts, one list after the other.

as-notes-append : (xs ys : SidedNotes) → as_notes (xs ++ ys) ≡ as_notes xs ++ as_notes ys
as-notes-append [] ys = refl
as-notes-append (x ∷ xs) ys = ap (λ (ns : List Note). as_note x.0 x.1 ∷ ns) (as-notes-append xs ys)

events-append : (s : Side) (on : ℕ) (xs ys : List Note) → message_events_of s on (xs ++ ys) ≡ message_events_of s on xs ++ message_events_of s on ys
events-append s on [] ys = refl
events-append s on (x ∷ xs) ys = ap (λ (ds : List MessageEvent). message_event_of s on x ∷ ds) (events-append s on xs ys)

pub noted-append : (s : Side) (xs ys : SidedNotes) → notes_by s (xs ++ ys) ≡ notes_by s xs ++ notes_by s ys
noted-append s [] ys = refl
noted-append s (x ∷ xs) ys = ap (λ (ns : List HostNote). if_same s x.0 x.1 ++ ns) (noted-append s xs ys) ∙ assoc (if_same s x.0 x.1) (notes_by s xs) (notes_by s ys)
  where
    assoc : (us vs ws : List HostNote) → us ++ (vs ++ ws) ≡ (us ++ vs) ++ ws
    assoc [] vs ws = refl
    assoc (u ∷ us) vs ws = ap (λ (xs : List HostNote). u ∷ xs) (assoc us vs ws)

pub noted-here : (s : Side) (ns : List HostNote) → notes_by s (noted_at s ns) ≡ ns
noted-here A [] = refl
noted-here B [] = refl
noted-here A (n ∷ ns) = ap (λ (xs : List HostNote). n ∷ xs) (noted-here A ns)
noted-here B (n ∷ ns) = ap (λ (xs : List HostNote). n ∷ xs) (noted-here B ns)

pub noted-there-a : (ns : List HostNote) → notes_by B (noted_at A ns) ≡ []
noted-there-a [] = refl
noted-there-a (n ∷ ns) = noted-there-a ns

pub noted-there-b : (ns : List HostNote) → notes_by A (noted_at B ns) ≡ []
noted-there-b [] = refl
noted-there-b (n ∷ ns) = noted-there-b ns

pub fit-append : (xs ys : SidedNotes) → NotedCallsFit xs → NotedCallsFit ys → NotedCallsFit (xs ++ ys)
fit-append [] ys f g = g
fit-append (x ∷ xs) ys f g = (f.0, fit-append xs ys f.1 g)

pub fit-restart : (s : Side) (peer : ℕ) (ons : List ℕ) (h : Host) → NotedCallsFit (noted_at s (incompletes_noted peer ons h))
fit-restart s peer [] h = tt
fit-restart s peer (on ∷ ons) h = go (is_message_out on (state_of h peer)) (fit-restart s peer ons (incomplete_comes peer on h))
  where
    go : (b : Bool) → NotedCallsFit (noted_at s (incompletes_noted peer ons (incomplete_comes peer on h))) → NotedCallsFit (noted_at s (answer_noted_if b peer on (incompletes_noted peer ons (incomplete_comes peer on h))))
    go true f = (tt, f)
    go false f = f

run-append : (xs ys : List HostNote) (h : Host) → IsHostRun xs h → IsHostRun ys (after_notes xs h) → IsHostRun (xs ++ ys) h
run-append [] ys h r more = more
run-append (x ∷ xs) ys h r more = (r.0, run-append xs ys (after_note x h) r.1 more)

module _ (a b : ℕ) (ns : SidedNotes) (t : IsHonestRun a b ns) where
  honest-with : (by : Side) (peer : ℕ) (h : Host) → peer < 256 → ((on : ℕ) → is_message_out on (state_of h peer) ≡ true → link_state by on (as_notes ns) ≢ Free) → NoneArrived by ns
      → (s : Side) (on : ℕ) → HonestFrom (number a b s) Clear (message_events_of s on (as_notes (ns ++ noted_at by (notes_of_restart peer h))))
  honest-with by peer h l transit none s on =
      let rest : List HostNote = notes_of_restart peer h in
      let flying : is_same s by ≡ true → is_message_out on (state_of h peer) ≡ true → IsFlying (flight_after Clear (message_events_of s on (as_notes ns))) =
      λ y out. subst (λ (x : Side). IsFlying (flight_after Clear (message_events_of x on (as_notes ns)))) (sym (same-side s by y))
      (flies (flight_after Clear (message_events_of by on (as_notes ns))) (link_state by on (as_notes ns)) (in-flight by on ns Clear) (transit on out) (none on)) in
      subst (HonestFrom (number a b s) Clear) (sym (ap (message_events_of s on) (as-notes-append ns (noted_at by rest)) ∙ events-append s on (as_notes ns) (as_notes (noted_at by rest))))
      (honest-append (number a b s) Clear (message_events_of s on (as_notes ns)) (message_events_of s on (as_notes (noted_at by rest))) (t.honest s on)
      (honest-on s by (is_same s by) refl on (number a b s) peer l links refl h (flight_after Clear (message_events_of s on (as_notes ns))) flying))
    where
      same-side : (x y : Side) → is_same x y ≡ true → x ≡ y
      same-side A A e = refl
      same-side B B e = refl
      same-side A B e = absurd (cc e)
      same-side B A e = absurd (cc e)

  pub goes-on : (side : Side) → NoneArrived side ns → IsHonestRun a b (with_restart side a b ns)
  goes-on A none =
      let h : Host = after_notes (notes_by A ns) (new_host a (b ∷ [])) in
      let rest : List HostNote = notes_of_restart b h in
      record {
        differ = t.differ;
        fits_a = t.fits_a;
        fits_b = t.fits_b;
        run_a = subst (λ (xs : List HostNote). IsHostRun xs (new_host a (b ∷ []))) (sym (noted-append A ns (noted_at A rest) ∙ ap (λ (xs : List HostNote). notes_by A ns ++ xs) (noted-here A rest)))
            (run-append (notes_by A ns) rest (new_host a (b ∷ [])) t.run_a (restarts-run b h t.fits_b).0);
        run_b = subst (λ (xs : List HostNote). IsHostRun xs (new_host b (a ∷ []))) (sym (noted-append B ns (noted_at A rest) ∙ ap (λ (xs : List HostNote). notes_by B ns ++ xs) (noted-there-a rest) ∙ append-nil (notes_by B ns)))
            t.run_b;
        calls = fit-append ns (noted_at A rest) t.calls (fit-restart A b links h);
        honest = honest-with A b h t.fits_b (transit-a a b ns t) none;
      }
  goes-on B none =
      let h : Host = after_notes (notes_by B ns) (new_host b (a ∷ [])) in
      let rest : List HostNote = notes_of_restart a h in
      record {
        differ = t.differ;
        fits_a = t.fits_a;
        fits_b = t.fits_b;
        run_a = subst (λ (xs : List HostNote). IsHostRun xs (new_host a (b ∷ []))) (sym (noted-append A ns (noted_at B rest) ∙ ap (λ (xs : List HostNote). notes_by A ns ++ xs) (noted-there-b rest) ∙ append-nil (notes_by A ns)))
            t.run_a;
        run_b = subst (λ (xs : List HostNote). IsHostRun xs (new_host b (a ∷ []))) (sym (noted-append B ns (noted_at B rest) ∙ ap (λ (xs : List HostNote). notes_by B ns ++ xs) (noted-here B rest)))
            (run-append (notes_by B ns) rest (new_host b (a ∷ [])) t.run_b (restarts-run a h t.fits_a).0);
        calls = fit-append ns (noted_at B rest) t.calls (fit-restart B a links h);
        honest = honest-with B a h t.fits_a (transit-b a b ns t) none;
      }
