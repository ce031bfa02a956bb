-- Properties of two to eight hosts as a kind of hosts.
use Rattle.std.proofs.Common.{if◌then◌else◌, ◌≡◌, ◌≢◌, ◌≤◌, ℕ, zero, suc, ◌==◌, Bool, true, false, not, ◌&&◌, ◌||◌, List, [], ◌∷◌, ◌++◌, length, Option, None, Some, is_some, refl, sym, ap, ◌∙◌, subst}
use Rattle.std.specs.Prelude.{slice_get, nat_le}
use Rattle.std.proofs.lemmas.Bool.{ne_eqb, eqb-true, eq-eqb, and_parts}
use Rattle.ncp_wire.specs.declared.links.TheConstants.{LAST_LINK}
use Rattle.ncp_subnet.specs.declared.transit.Transit.TheVariants.{Free, Accepted, Delivered, Lost, Dead}
use Rattle.ncp_subnet.specs.Transit.{is_accepted, answer_kind}
use Rattle.ncp_subnet.specs.Messages.{arriving, answer_about}
use Rattle.ncp_subnet.specs.Subnet.{transit_at}
use Rattle.ncp_subnet.specs.Ways.{OnLink}
use Rattle.ncp_host.specs.Host.{is_one_of, are_distinct}
use Rattle.ncp_host.specs.Turns.{next_output}
use Rattle.ncp_transcript.specs.declared.call.Call.TheVariants as calls
use Rattle.ncp_transcript.specs.declared.note.HostNote.TheVariants as of_host
use Rattle.ncp_transcript.specs.After.{after_note}
use Rattle.ncp_transcript.specs.Noting.{note_of_message}
use Rattle.ncp_transcript_two.specs.declared.side.Side.TheVariants.{A}
use Rattle.ncp_transcript_two.specs.Between.{Hosts}
use Rattle.ncp_transcript_two.specs.Happening.{note_of_coming, note_of_answering}
use Rattle.ncp_transcript_many.specs.declared.many_event.ManyEvent.{ManyEvent}
use Rattle.ncp_transcript_many.specs.declared.many_event.ManyEvent.TheVariants as events
use Rattle.ncp_transcript_many.specs.declared.many_note.ManyNote.{ManyNote}
use Rattle.ncp_transcript_many.specs.declared.many_note.ManyNote.TheVariants as many
use Rattle.ncp_transcript_many.specs.declared.limits.TheConstants.{MAX_HOSTS}
use Rattle.ncp_transcript_many.specs.Numbered.{at_thing}
use Rattle.ncp_transcript_many.specs.Network.{Network, numbers_in, is_there, host_at, between, after_many}
use Rattle.ncp_transcript_many.specs.ManyHappening.{ends_of, as_of_two, are_two, are_there, by_numbers, IsOfTwo, IfThere, ManyNoted}
use Rattle.ncp_transcript_many.specs.ManyTranscript.{Noted_many, IsManyTranscript}
use Rattle.ncp_transcript_many.proofs.ManyRuns.{transcript-grows}
use Rattle.ncp_proof_recovery.specs.ManySettling.{IsStillTo, AreSettled, many_says_nothing}
use Rattle.ncp_proof_recovery.proofs.ManyGoing.{tried-once}
use Rattle.ncp_proof_recovery.proofs.ManyResting.{none-out, quiescent, wakes, call-says}
use Rattle.ncp_world.specs.Kinds.{IsTriedOf, WouldReportNothing, AreTwoAt, GoOnce}
use Rattle.ncp_world.specs.ManyKind.{many_kind}
use Rattle.ncp_world.specs.TwoLaws.{OneNote, out_noted_once, delivery_noted_once, answer_noted_once, wake_noted_once}

-- What reports nothing changes nothing.

at-same : {A : Type 0} (number : ℕ) (f : A → A) (xs : List (ℕ × A)) → ((a : A) → f a ≡ a) → at_thing number f xs ≡ xs
at-same number f [] e = refl
at-same {A} number f (x ∷ xs) e = go (x.0 == number) (at-same number f xs e)
  where
    go : (b : Bool) → at_thing number f xs ≡ xs → (if b then (x.0, f x.1) ∷ xs else x ∷ at_thing number f xs) ≡ x ∷ xs
    go true rest = ap (λ (a : A). (x.0, a) ∷ xs) (e x.1)
    go false rest = ap (λ (ys : List (ℕ × A)). x ∷ ys) rest

pub many_unchanged : (note : ManyNote) (m : Network) → many_says_nothing note ≡ true → after_many note m ≡ m
many_unchanged (many.Nothing event) m says = refl
many_unchanged (many.Out host of_host.Nothing) m says =
    let same : at_thing host (after_note of_host.Nothing) m.hosts ≡ m.hosts = at-same host (after_note of_host.Nothing) m.hosts (λ h. refl) in
    λ i. record { hosts = same i; subnet = m.subnet }
many_unchanged (many.Out host (of_host.Refused call fault)) m says = absurd (cc says)
many_unchanged (many.Out host (of_host.Done call)) m says = absurd (cc says)
many_unchanged (many.Out host (of_host.Took peer pair bytes text)) m says = absurd (cc says)
many_unchanged (many.Out host (of_host.State peer pair state)) m says = absurd (cc says)
many_unchanged (many.Out host (of_host.Phase peer flags)) m says = absurd (cc says)
many_unchanged (many.Out host (of_host.Echoed peer byte)) m says = absurd (cc says)
many_unchanged (many.Out host (of_host.Errors peer errors)) m says = absurd (cc says)
many_unchanged (many.Out host (of_host.Counts peer counts)) m says = absurd (cc says)
many_unchanged (many.Out host (of_host.Waiting peer place command)) m says = absurd (cc says)
many_unchanged (many.Out host (of_host.Kept peer link message)) m says = absurd (cc says)
many_unchanged (many.Out host (of_host.Ignored ignored)) m says = absurd (cc says)
many_unchanged (many.Out host (of_host.Out message)) m says = absurd (cc says)
many_unchanged (many.Out host (of_host.In message received)) m says = absurd (cc says)
many_unchanged (many.Out host (of_host.Answered peer link answer received)) m says = absurd (cc says)
many_unchanged (many.Called host note) m says = absurd (cc says)
many_unchanged (many.Came from to link note) m says = absurd (cc says)
many_unchanged (many.Lost from to link) m says = absurd (cc says)
many_unchanged (many.FoundDead from to link) m says = absurd (cc says)
many_unchanged (many.Answered from to link note) m says = absurd (cc says)

pub many_grow : (ns : List ManyNote) (m : Network) (event : ManyEvent) (note : ManyNote) → IsManyTranscript ns m → ManyNoted event note m → IsManyTranscript (ns ++ note ∷ []) (after_many note m)
many_grow ns m event note t noted = transcript-grows ns (ns ++ note ∷ []) note m (after_many note m) t (event, noted) refl refl

pub many_out_goes : (from : ℕ) (before now : Noted_many) → IsTriedOf many_kind (events.Out from) true before now → GoOnce many_kind before now
many_out_goes from before now tried = tried-once (events.Out from) before now tt tried

pub many_deliver_goes : (from to link : ℕ) (before now : Noted_many) → IsTriedOf many_kind (events.Deliver from to link) true before now → GoOnce many_kind before now
many_deliver_goes from to link before now tried = tried-once (events.Deliver from to link) before now tt tried

pub many_answer_goes : (from to link : ℕ) (before now : Noted_many) → IsTriedOf many_kind (events.Answer from to link) true before now → GoOnce many_kind before now
many_answer_goes from to link before now tried = tried-once (events.Answer from to link) before now tt tried

-- The row of numbers: each that is there has a place, what has a place is there, and each has one place.

abbrev PlacedIn : List ℕ → ℕ → Type 0
PlacedIn ns n = (k : ℕ) × (slice_get ns k ≡ Some n)

placed-in : (ns : List ℕ) (n : ℕ) → is_one_of n ns ≡ true → PlacedIn ns n
placed-in [] n there = absurd (cc there)
placed-in (m ∷ ns) n there = go (m == n) refl there (placed-in ns n)
  where
    go : (b : Bool) → (m == n) ≡ b → (b || is_one_of n ns) ≡ true → (is_one_of n ns ≡ true → PlacedIn ns n) → PlacedIn (m ∷ ns) n
    go true e h rest = (0, ap (λ (x : ℕ). Some x) (eqb-true m n e))
    go false e h rest = let r = rest h in (suc r.0, r.1)

there-at : (ns : List ℕ) (k n : ℕ) → slice_get ns k ≡ Some n → is_one_of n ns ≡ true
there-at [] k n e = absurd (cc e)
there-at (m ∷ ns) zero n e = let same : m ≡ n = cc in ap (λ (b : Bool). b || is_one_of n ns) (eq-eqb m n same)
there-at (m ∷ ns) (suc k) n e = go (m == n) (there-at ns k n e)
  where
    go : (b : Bool) → is_one_of n ns ≡ true → (b || is_one_of n ns) ≡ true
    go true h = refl
    go false h = h

-- a number that stands first stands nowhere else
not-again : (ns : List ℕ) (m k n : ℕ) → not (is_one_of m ns) ≡ true → m ≡ n → slice_get ns k ≡ Some n → ⊥
not-again ns m k n apart same e = go (is_one_of m ns) (subst (λ (x : ℕ). is_one_of x ns ≡ true) (sym same) (there-at ns k n e)) apart
  where
    go : (b : Bool) → b ≡ true → not b ≡ true → ⊥
    go true i o = absurd (cc o)
    go false i o = absurd (cc i)

pub differ-at : (ns : List ℕ) (i j a b : ℕ) → are_distinct ns ≡ true → slice_get ns i ≡ Some a → slice_get ns j ≡ Some b → i ≢ j → a ≢ b
differ-at [] i j a b d e f differ same = absurd (cc e)
differ-at (m ∷ ns) zero zero a b d e f differ same = differ refl
differ-at (m ∷ ns) zero (suc j) a b d e f differ same =
    let first : m ≡ a = cc e in
    not-again ns m j b (and_parts (not (is_one_of m ns)) (are_distinct ns) d).0 (first ∙ same) f
differ-at (m ∷ ns) (suc i) zero a b d e f differ same =
    let first : m ≡ b = cc f in
    not-again ns m i a (and_parts (not (is_one_of m ns)) (are_distinct ns) d).0 (first ∙ sym same) e
differ-at (m ∷ ns) (suc i) (suc j) a b d e f differ same =
    differ-at ns i j a b (and_parts (not (is_one_of m ns)) (are_distinct ns) d).1 e f (λ k. differ (ap suc k)) same

-- Two hosts at two places are there, and differ.

both-there : (a b : Bool) (from to : ℕ) → a ≡ true → b ≡ true → from ≢ to → (a && b && not (from == to)) ≡ true
both-there a b from to i j d = rw (i, j, ne_eqb from to d) refl

module _ (i j : ℕ) (from to : ℕ) (ns : List ManyNote) (m : Network) (t : IsManyTranscript ns m) (two : AreTwoAt many_kind i j from to m) where
  from-there : is_there from m ≡ true
  from-there = there-at (numbers_in m) i from two.0

  to-there : is_there to m ≡ true
  to-there = there-at (numbers_in m) j to two.1

  apart : from ≢ to
  apart =
      let numbers = numbers_in m in
      differ-at numbers i j from to (and_parts (nat_le 2 (length numbers) && nat_le (length numbers) MAX_HOSTS) (are_distinct numbers) t.hosts).1 two.0 two.1 two.2

  both : are_two from to m ≡ true
  both = both-there (is_there from m) (is_there to m) from to from-there to-there apart

-- What is noted of a message that is sent, delivered or answered reports something just if there is one.

noted-there : (event : ManyEvent) (note : ManyNote) (m : Network) → are_there event m ≡ true → ManyNoted event note m → IsOfTwo event note m
noted-there event note m there noted = subst (λ (b : Bool). IfThere b event note m) there noted

out-said : (from : ℕ) (o : Option (List Bool)) → many_says_nothing (many.Out from (note_of_message o)) ≡ not (is_some o)
out-said from None = refl
out-said from (Some message) = refl

coming-said : (from to link : ℕ) (t : OnLink) (w : Hosts) → many_says_nothing (by_numbers from to (note_of_coming A link (arriving from t) w)) ≡ not (is_accepted t)
coming-said from to link Free w = refl
coming-said from to link (Accepted message) w = refl
coming-said from to link Delivered w = refl
coming-said from to link Lost w = refl
coming-said from to link Dead w = refl

answering-said : (from to link : ℕ) (t : OnLink) (w : Hosts) → many_says_nothing (by_numbers from to (note_of_answering A link (answer_about to link t) w)) ≡ not (is_some (answer_kind t))
answering-said from to link Free w = refl
answering-said from to link (Accepted message) w = refl
answering-said from to link Delivered w = refl
answering-said from to link Lost w = refl
answering-said from to link Dead w = refl

pub many_out_says : (i from : ℕ) (note : ManyNote) (m : Network) → slice_get (many_kind.names m) i ≡ Some from → ManyNoted (events.Out from) note m → many_says_nothing note ≡ not (many_kind.ready from m)
many_out_says i from note m at noted =
    let two = noted-there (events.Out from) note m (there-at (numbers_in m) i from at) noted in
    ap many_says_nothing (two.said ∙ ap (by_numbers from from) two.noted) ∙ out-said from (next_output (host_at from m))

pub many_deliver_says : (i j link : ℕ) (from to : ℕ) (ns : List ManyNote) (note : ManyNote) (m : Network) → IsManyTranscript ns m → AreTwoAt many_kind i j from to m → ManyNoted (events.Deliver from to link) note m
    → many_says_nothing note ≡ not (is_accepted (many_kind.transit from to m link))
many_deliver_says i j link from to ns note m t are noted =
    let two = noted-there (events.Deliver from to link) note m (both i j from to ns m t are) noted in
    ap many_says_nothing (two.said ∙ ap (by_numbers from to) two.noted) ∙ coming-said from to link (transit_at m.subnet from to link) (between from to m)

pub many_answer_says : (i j link : ℕ) (from to : ℕ) (ns : List ManyNote) (note : ManyNote) (m : Network) → IsManyTranscript ns m → AreTwoAt many_kind i j from to m → ManyNoted (events.Answer from to link) note m
    → many_says_nothing note ≡ not (is_some (answer_kind (many_kind.transit from to m link)))
many_answer_says i j link from to ns note m t are noted =
    let two = noted-there (events.Answer from to link) note m (both i j from to ns m t are) noted in
    ap many_says_nothing (two.said ∙ ap (by_numbers from to) two.noted) ∙ answering-said from to link (transit_at m.subnet from to link) (between from to m)

module _ (i j : ℕ) (from to : ℕ) (before : Noted_many) (t : IsManyTranscript before.notes before.hosts) (two : AreTwoAt many_kind i j from to before.hosts) (none : WouldReportNothing many_kind (events.Out from) before.hosts) where
  abbrev here : is_there from before.hosts ≡ true
  here = from-there i j from to before.notes before.hosts t two

  abbrev there : is_there to before.hosts ≡ true
  there = to-there i j from to before.notes before.hosts t two

  abbrev differ : from ≢ to
  differ = apart i j from to before.notes before.hosts t two

  abbrev are : are_two from to before.hosts ≡ true
  are = both i j from to before.notes before.hosts t two

  none-ready : next_output (host_at from before.hosts) ≡ None
  none-ready = none-out before from here before (none.0, none.1, none.2, refl)

  pub many-wakes : (link : ℕ) (tried : Bool) (now : Noted_many) → is_some (many_kind.kept from to before.hosts link) ≡ true → WouldReportNothing many_kind (events.Deliver from to link) before.hosts → WouldReportNothing many_kind (events.Answer from to link) before.hosts
      → IsTriedOf many_kind (events.Call from (calls.Wake to)) tried before now → (tried ≡ true) × GoOnce many_kind before now
  many-wakes link true now kept came_not answered_not wake = (
    refl,
    wakes before t from to here there differ are none-ready link before before now kept (came_not.0, came_not.1, came_not.2, refl) (answered_not.0, answered_not.1, answered_not.2, refl) wake,
  )
  many-wakes link false now kept came_not answered_not wake = absurd (call-says before t from to here there differ are none-ready before now refl wake)

  pub many-rests : ((link : ℕ) → link ≤ LAST_LINK → many_kind.kept from to before.hosts link ≡ None) → IsStillTo from to before.hosts
  many-rests kept = quiescent before t from to here there differ are none-ready kept

pub many_wake_goes : (i j link : ℕ) (from to : ℕ) (tried : Bool) (before now : Noted_many) → IsManyTranscript before.notes before.hosts → AreTwoAt many_kind i j from to before.hosts → WouldReportNothing many_kind (events.Out from) before.hosts
    → is_some (many_kind.kept from to before.hosts link) ≡ true → WouldReportNothing many_kind (events.Deliver from to link) before.hosts → WouldReportNothing many_kind (events.Answer from to link) before.hosts
    → IsTriedOf many_kind (many_kind.wake from to before.hosts) tried before now → (tried ≡ true) × GoOnce many_kind before now
many_wake_goes i j link from to tried before now t two none kept came_not answered_not wake = many-wakes i j from to before t two none link tried now kept came_not answered_not wake

pub many_rest : (i j : ℕ) (from to : ℕ) (ns : List ManyNote) (m : Network) → IsManyTranscript ns m → AreTwoAt many_kind i j from to m → WouldReportNothing many_kind (events.Out from) m
    → ((link : ℕ) → link ≤ LAST_LINK → many_kind.kept from to m link ≡ None) → IsStillTo from to m
many_rest i j from to ns m t two none kept = many-rests i j from to (record { hosts = m; notes = ns }) t two none kept

pub many_settle : (m : Network) → ((i j : ℕ) (from to : ℕ) → AreTwoAt many_kind i j from to m → IsStillTo from to m) → AreSettled m
many_settle m still a b there_a there_b differ =
    let p = placed-in (numbers_in m) a there_a in
    let q = placed-in (numbers_in m) b there_b in
    let apart : p.0 ≢ q.0 = λ e. let same : Some a ≡ Some b = sym p.1 ∙ ap (slice_get (numbers_in m)) e ∙ q.1 in differ (cc same) in
    (still p.0 q.0 a b (p.1, q.1, apart), still q.0 p.0 b a (q.1, p.1, λ e. apart (sym e)))

-- an event that needs no user has one note

abbrev pub OneNoteOfMany : ManyEvent → Type 0
OneNoteOfMany event = (note again : ManyNote) (m : Network) → ManyNoted event note m → ManyNoted event again m → note ≡ again

one-there : (b : Bool) (event : ManyEvent) (note again : ManyNote) (m : Network) → OneNote (as_of_two event) → IfThere b event note m → IfThere b event again m → note ≡ again
one-there true event note again m one a b =
    let two = between (ends_of event).0 (ends_of event).1 m in
    a.said ∙ ap (by_numbers (ends_of event).0 (ends_of event).1) (one a.two b.two two a.noted b.noted) ∙ sym b.said
one-there false event note again m one a b = a ∙ sym b

pub out_noted_once_of_many : (from : ℕ) → OneNoteOfMany (events.Out from)
out_noted_once_of_many from note again m a b = one-there (is_there from m) (events.Out from) note again m (out_noted_once A) a b

pub delivery_noted_once_of_many : (from to link : ℕ) → OneNoteOfMany (events.Deliver from to link)
delivery_noted_once_of_many from to link note again m a b = one-there (are_two from to m) (events.Deliver from to link) note again m (delivery_noted_once A link) a b

pub answer_noted_once_of_many : (from to link : ℕ) → OneNoteOfMany (events.Answer from to link)
answer_noted_once_of_many from to link note again m a b = one-there (are_two from to m) (events.Answer from to link) note again m (answer_noted_once A link) a b

pub wake_noted_once_of_many : (from peer : ℕ) → OneNoteOfMany (events.Call from (calls.Wake peer))
wake_noted_once_of_many from peer note again m a b = one-there (is_there from m) (events.Call from (calls.Wake peer)) note again m (wake_noted_once A peer) a b
