-- Two hosts with the subnet between them: the records at the interface of each are its whole recording.
use Rattle.std.proofs.Common.{◌≡◌, ℕ, ◌<◌, ◌==◌, Bool, true, false, not, ◌||◌, if◌then◌else◌, List, [], ◌∷◌, ◌++◌, Option, None, Some, refl, sym, ap, ◌∙◌, subst, arith}
use Rattle.std.proofs.lemmas.Bool.{ne_eqb, eqb-true}
use Rattle.std.proofs.lemmas.List.{append_assoc, append-nil}
use Rattle.ncp_host.specs.Host.{is_one_of, are_peers}
use Rattle.ncp_host.specs.Turns.{next_output}
use Rattle.ncp_subnet.specs.Transit.{is_accepted}
use Rattle.ncp_subnet.specs.Messages.{arriving, answer_about}
use Rattle.ncp_transcript.specs.declared.input.Input.{Input}
use Rattle.ncp_transcript.specs.declared.note.HostNote.{HostNote}
use Rattle.ncp_transcript.specs.declared.call.Call.{Call}
use Rattle.ncp_transcript.specs.After.{after_notes}
use Rattle.ncp_transcript.specs.Noting.{CallNoted, note_of_bits, note_of_message, note_of_output}
use Rattle.ncp_transcript_two.specs.declared.side.Side.{Side}
use Rattle.ncp_transcript_two.specs.declared.side.Side.TheVariants.{A, B}
use Rattle.ncp_transcript_two.specs.declared.event.Event.{Event}
use Rattle.ncp_transcript_two.specs.declared.note.Move.{Move}
use Rattle.ncp_transcript_two.specs.declared.note.Note.{Note}
use Rattle.ncp_transcript_two.specs.Between.{Hosts, new_hosts, other, side_number, host_of, transit_of, hosts_after_note}
use Rattle.ncp_transcript_two.specs.Happening.{Noted, note_of_coming, note_of_answering}
use Rattle.ncp_transcript_two.specs.Seen.{CallFits}
use Rattle.ncp_transcript_two.specs.Sides.{notes_at_side, notes_at}
use Rattle.ncp_transcript_two.specs.Transcript.{AreNotes, Noted_world, new_world, AreSteps}
use Rattle.ncp_transcript_two.proofs.OneSide.{of_event}
use Rattle.ncp_interface.specs.declared.imp_direction.ImpDirection.{ImpDirection}
use Rattle.ncp_interface.specs.declared.imp_direction.ImpDirection.TheVariants.{ToImp, FromImp}
use Rattle.ncp_monitor.specs.declared.finding.Rule.{Rule}
use Rattle.ncp_monitor.specs.Judged.{new_monitor}
use Rattle.ncp_monitor.proofs.Passing.{Pass}
use Rattle.ncp_proof_monitor.specs.Recordings.{gone_by, spares, is_of_messages_and_phase, at_interface, found_at, NobodyBlamed}
use Rattle.ncp_proof_monitor.specs.Worlds.{comes_to, goes_from, passes_between, world_file, NeitherBlamed}
use Rattle.ncp_proof_monitor.proofs.FileWalk.{none_blamed}
use Rattle.ncp_proof_monitor.proofs.Recorded.{Recorded, at_own, at_other, nothing_recorded, input_recorded, both_recorded, recorded_spares}

-- ---- one record

went_own : (me : ℕ) (o : Option (List Bool)) → at_interface me (goes_from me (note_of_message o)) ≡ gone_by (note_of_message o) ++ []
went_own me None = refl
went_own me (Some message) = at_own me ToImp message

went_other : (me host : ℕ) (note : HostNote) → (host == me) ≡ false → at_interface me (goes_from host note) ≡ []
went_other me host (HostNote.Out message) d = at_other me host ToImp message d
went_other me host other d = refl

-- ---- one event, at one side

abbrev Part : Side → Event → Note → Hosts → Type 0
Part side event note w = Recorded (side_number side w) (passes_between event note w) (notes_at_side side note) (host_of side w)

abbrev Apart : Hosts → Type 0
Apart w = ((w.number_a == w.number_b) ≡ false) × ((w.number_b == w.number_a) ≡ false)

called : (side by : Side) (call : Call) (n : HostNote) (w : Hosts) → CallNoted call n (host_of by w) → CallFits call → Part side (Event.Call by call) (Note.Called by n) w
called A A call n w c f = input_recorded w.number_a [] w.a (Input.Call call) n c (f, tt) refl
called A B call n w c f = nothing_recorded w.number_a [] w.a refl
called B A call n w c f = nothing_recorded w.number_b [] w.b refl
called B B call n w c f = input_recorded w.number_b [] w.b (Input.Call call) n c (f, tt) refl

went : (side by : Side) (w : Hosts) → Apart w → Part side (Event.Out by) (Note.Out by (note_of_output (host_of by w))) w
went A A w d = input_recorded w.number_a (goes_from w.number_a (note_of_output w.a)) w.a Input.Out (note_of_output w.a) refl tt (went_own w.number_a (next_output w.a))
went A B w d = nothing_recorded w.number_a (goes_from w.number_b (note_of_output w.b)) w.a (went_other w.number_a w.number_b (note_of_output w.b) d.1)
went B A w d = nothing_recorded w.number_b (goes_from w.number_a (note_of_output w.a)) w.b (went_other w.number_b w.number_a (note_of_output w.a) d.0)
went B B w d = input_recorded w.number_b (goes_from w.number_b (note_of_output w.b)) w.b Input.Out (note_of_output w.b) refl tt (went_own w.number_b (next_output w.b))

-- bits that come, with the note of what the subnet did
abbrev Come : Side → Side → Note → Option (List Bool) → Hosts → Type 0
Come side to note o w = Recorded (side_number side w) (comes_to (side_number to w) o) (notes_at_side side note) (host_of side w)

to_own : (side : Side) (bits : List Bool) (w : Hosts) → Recorded (side_number side w) (comes_to (side_number side w) (Some bits)) (note_of_bits bits (host_of side w) ∷ []) (host_of side w)
to_own side bits w =
    input_recorded (side_number side w) (comes_to (side_number side w) (Some bits)) (host_of side w) (Input.In bits) (note_of_bits bits (host_of side w)) refl tt (at_own (side_number side w) FromImp bits)

to_other : (side to : Side) (bits : List Bool) (w : Hosts) → (side_number to w == side_number side w) ≡ false → Recorded (side_number side w) (comes_to (side_number to w) (Some bits)) [] (host_of side w)
to_other side to bits w d = nothing_recorded (side_number side w) (comes_to (side_number to w) (Some bits)) (host_of side w) (at_other (side_number side w) (side_number to w) FromImp bits d)

delivered : (side by : Side) (link : ℕ) (o : Option (List Bool)) (w : Hosts) → Apart w → Come side (other by) (note_of_coming by link o w) o w
delivered side by link None w d = nothing_recorded (side_number side w) [] (host_of side w) refl
delivered A A link (Some bits) w d = to_other A B bits w d.1
delivered A B link (Some bits) w d = to_own A bits w
delivered B A link (Some bits) w d = to_own B bits w
delivered B B link (Some bits) w d = to_other B A bits w d.0

told : (side by : Side) (link : ℕ) (o : Option (List Bool)) (w : Hosts) → Apart w → Come side by (note_of_answering by link o w) o w
told side by link None w d = nothing_recorded (side_number side w) [] (host_of side w) refl
told A A link (Some bits) w d = to_own A bits w
told A B link (Some bits) w d = to_other A B bits w d.1
told B A link (Some bits) w d = to_other B A bits w d.0
told B B link (Some bits) w d = to_own B bits w

part : (side : Side) (event : Event) (note : Note) (w : Hosts) → Apart w → Noted event note w → Part side event note w
part side (Event.Call by call) note w d k = subst (λ (n : Note). Part side (Event.Call by call) n w) (sym k.said) (called side by call k.of_host w k.noted k.fits)
part side (Event.Out by) note w d k = subst (λ (n : Note). Part side (Event.Out by) n w) (sym k) (went side by w d)
part side (Event.Lose by link) note w d k = subst (λ (n : Note). Part side (Event.Lose by link) n w) (sym k) (go (is_accepted (transit_of by link w)))
  where
    go : (b : Bool) → Part side (Event.Lose by link) (if b then Note.Lost by link else Note.Nothing by link Move.Lose) w
    go true = nothing_recorded (side_number side w) [] (host_of side w) refl
    go false = nothing_recorded (side_number side w) [] (host_of side w) refl
part side (Event.Dead by link) note w d k = subst (λ (n : Note). Part side (Event.Dead by link) n w) (sym k) (go (is_accepted (transit_of by link w)))
  where
    go : (b : Bool) → Part side (Event.Dead by link) (if b then Note.FoundDead by link else Note.Nothing by link Move.Dead) w
    go true = nothing_recorded (side_number side w) [] (host_of side w) refl
    go false = nothing_recorded (side_number side w) [] (host_of side w) refl
part side (Event.Deliver by link) note w d k =
    subst (λ (n : Note). Part side (Event.Deliver by link) n w) (sym k) (delivered side by link (arriving (side_number by w) (transit_of by link w)) w d)
part side (Event.Answer by link) note w d k =
    subst (λ (n : Note). Part side (Event.Answer by link) n w) (sym k) (told side by link (answer_about (side_number (other by) w) link (transit_of by link w)) w d)

-- ---- all events, at one side

a_stays : (note : Note) (w : Hosts) → (hosts_after_note note w).number_a ≡ w.number_a
a_stays (Note.Called A note) w = refl
a_stays (Note.Called B note) w = refl
a_stays (Note.Out A note) w = refl
a_stays (Note.Out B note) w = refl
a_stays (Note.Came A link note) w = refl
a_stays (Note.Came B link note) w = refl
a_stays (Note.Lost side link) w = refl
a_stays (Note.FoundDead side link) w = refl
a_stays (Note.Answered A link note) w = refl
a_stays (Note.Answered B link note) w = refl
a_stays (Note.Nothing side link wanted) w = refl

b_stays : (note : Note) (w : Hosts) → (hosts_after_note note w).number_b ≡ w.number_b
b_stays (Note.Called A note) w = refl
b_stays (Note.Called B note) w = refl
b_stays (Note.Out A note) w = refl
b_stays (Note.Out B note) w = refl
b_stays (Note.Came A link note) w = refl
b_stays (Note.Came B link note) w = refl
b_stays (Note.Lost side link) w = refl
b_stays (Note.FoundDead side link) w = refl
b_stays (Note.Answered A link note) w = refl
b_stays (Note.Answered B link note) w = refl
b_stays (Note.Nothing side link wanted) w = refl

number_stays : (side : Side) (note : Note) (w : Hosts) → side_number side (hosts_after_note note w) ≡ side_number side w
number_stays A note w = a_stays note w
number_stays B note w = b_stays note w

distinct_stays : (note : Note) (w : Hosts) → Apart w → Apart (hosts_after_note note w)
distinct_stays note w d = (
  ap (λ (i : ℕ). i == (hosts_after_note note w).number_b) (a_stays note w) ∙ ap (λ (i : ℕ). w.number_a == i) (b_stays note w) ∙ d.0,
  ap (λ (i : ℕ). i == (hosts_after_note note w).number_a) (b_stays note w) ∙ ap (λ (i : ℕ). w.number_b == i) (a_stays note w) ∙ d.1,
)

pub whole : (side : Side) (happened : List Event) (noted : List Note) (w : Hosts) → Apart w → AreNotes happened noted w → Recorded (side_number side w) (world_file happened noted w) (notes_at side noted) (host_of side w)
whole side [] [] w d p = nothing_recorded (side_number side w) [] (host_of side w) refl
whole side [] (note ∷ noted) w d p = absurd p
whole side (event ∷ happened) [] w d p = absurd p
whole side (event ∷ happened) (note ∷ noted) w d p =
    let now : Hosts = hosts_after_note note w in
    let file : List (ℕ × ImpDirection × List Bool) = world_file happened noted now in
    let later : List HostNote = notes_at side noted in
    let more : Recorded (side_number side now) file later (host_of side now) = whole side happened noted now (distinct_stays note w d) p.1 in
    both_recorded (side_number side w) (passes_between event note w) file (notes_at_side side note) later (host_of side w) (part side event note w d p.0)
    (subst (λ (i : ℕ). Recorded i file later (after_notes (notes_at_side side note) (host_of side w))) (number_stays side note w)
    (subst (Recorded (side_number side now) file later) (of_event side event note w p.0).1 more))

-- the notes of the steps
pub steps_noted : (happened : List Event) (before now : Noted_world) → AreSteps happened before now → (all : List Note) × (now.notes ≡ before.notes ++ all) × AreNotes happened all before.hosts
steps_noted [] before now e = ([], ap (λ (w : Noted_world). w.notes) e ∙ sym (append-nil before.notes), tt)
steps_noted (event ∷ happened) before now s =
    let rest = steps_noted happened s.0 now s.2 in
    let note = s.1.0 in (
      note ∷ rest.0,
      rest.1 ∙ ap (λ (xs : List Note). xs ++ rest.0) s.1.2 ∙ append_assoc before.notes (note ∷ []) rest.0,
      (s.1.1, subst (AreNotes happened rest.0) s.1.3 rest.2),
    )

-- ---- one side, by what is found of its whole recording

one_peer : (me n : ℕ) → (n == me) ≡ false → are_peers me (n ∷ []) ≡ true
one_peer me n d = ap (λ (b : Bool). not (b || false)) d

pub small_peer : (n : ℕ) → n < 256 → (m : ℕ) → is_one_of m (n ∷ []) ≡ true → m < 256
small_peer n l m e = go (n == m) refl e
  where
    go : (b : Bool) → (n == m) ≡ b → (b || false) ≡ true → m < 256
    go true f e = let same : n ≡ m = eqb-true n m f in omega (arith, same, l)
    go false f e = absurd (cc)

spares_side : (judged : Rule → Bool) → NobodyBlamed judged → (side : Side) (a b : ℕ) (file : List (ℕ × ImpDirection × List Bool)) (noted : List HostNote) → (a == b) ≡ false → (b == a) ≡ false → a < 256 → b < 256 → Recorded (side_number side (new_hosts a b)) file noted (host_of side (new_hosts a b))
    → Pass (spares judged (side_number side (new_hosts a b))) (found_at (new_monitor false) (side_number side (new_hosts a b)) file)
spares_side judged none A a b file noted d e k l r = recorded_spares judged none a (b ∷ []) file noted (one_peer a b e) (small_peer b l) k r
spares_side judged none B a b file noted d e k l r = recorded_spares judged none b (a ∷ []) file noted (one_peer b a d) (small_peer a k) l r

-- rules that report no violation by a host in its whole recording report none by either of two hosts
pub neither_by : (judged : Rule → Bool) → NobodyBlamed judged → NeitherBlamed judged
neither_by judged none a b happened now side differ k l steps =
    let w = steps_noted happened (new_world a b) now steps in
    let d : (a == b) ≡ false = ne_eqb a b differ in
    let e : (b == a) ≡ false = ne_eqb b a (λ x. differ (sym x)) in
    subst (λ (all : List Note). Pass (spares judged (side_number side (new_hosts a b))) (found_at (new_monitor false) (side_number side (new_hosts a b)) (world_file happened all (new_hosts a b)))) (sym w.1)
    (spares_side judged none side a b (world_file happened w.0 (new_hosts a b)) (notes_at side w.0) d e k l (whole side happened w.0 (new_hosts a b) (d, e) w.2))

pub neither_blamed : NeitherBlamed is_of_messages_and_phase
neither_blamed = neither_by is_of_messages_and_phase none_blamed
