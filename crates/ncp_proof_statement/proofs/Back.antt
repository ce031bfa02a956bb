-- What the two hosts of a transcript note is what two hosts note by themselves.
use Rattle.std.proofs.Common.{◌≡◌, ℕ, Bool, true, false, if◌then◌else◌, List, [], ◌∷◌, ◌++◌, Option, None, Some, refl, sym, ap, ◌∙◌, subst}
use Rattle.std.proofs.lemmas.List.{append_assoc}
use Rattle.ncp_subnet.specs.Messages.{link_in, arriving, answer_about}
use Rattle.ncp_subnet.specs.Transit.{is_accepted}
use Rattle.ncp_host.specs.Host.{Host}
use Rattle.ncp_host.specs.Turns.{next_output}
use Rattle.ncp_transcript.specs.declared.call.Call.{Call}
use Rattle.ncp_transcript.specs.declared.note.HostNote.{HostNote}
use Rattle.ncp_transcript.specs.declared.note.HostNote.TheVariants as of_host
use Rattle.ncp_transcript.specs.Noting.{CallNoted, note_of_message}
use Rattle.ncp_transcript.specs.Runs.{IsHostRun, host_began}
use Rattle.ncp_transcript.proofs.Beginning.{began_noted}
use Rattle.ncp_transcript.proofs.AskedCalls.{reads, CallOutcome, Was_done, Was_taken, Was_refused, Was_read, outcome-noted}
use Rattle.ncp_transcript_two.specs.declared.side.Side.{Side}
use Rattle.ncp_transcript_two.specs.declared.side.Side.TheVariants.{A, B}
use Rattle.ncp_transcript_two.specs.declared.event.Event.{Event}
use Rattle.ncp_transcript_two.specs.declared.event.Event.TheVariants as events
use Rattle.ncp_transcript_two.specs.declared.note.Move.TheVariants as moves
use Rattle.ncp_transcript_two.specs.declared.note.Note.{Note}
use Rattle.ncp_transcript_two.specs.declared.note.Note.TheVariants as notes
use Rattle.ncp_transcript_two.specs.Between.{Hosts, other, side_number, host_of, transit_of, hosts_after_note, hosts_after_notes}
use Rattle.ncp_transcript_two.specs.Happening.{Noted as Transition, note_of_coming, note_of_answering}
use Rattle.ncp_transcript_two.specs.Honest.{MessageEvent, Sent, Arrives, Acked, Nacked, Other, InFlight, Clear, Flying, Landed, HonestFrom}
use Rattle.ncp_transcript_two.specs.Naming.{IsMessageFrom, IsAnswerAbout}
use Rattle.ncp_transcript_two.specs.Seen.{CallFits}
use Rattle.ncp_transcript_two.specs.Sides.{if_same, notes_at_side, notes_at}
use Rattle.ncp_transcript_two.specs.Transcript.{began, IsTranscript}
use Rattle.ncp_transcript_two.proofs.Naming.{came-named, answered-named}
use Rattle.ncp_transcript_two.proofs.OneSide.{by_itself}
use Rattle.ncp_transcript_two.proofs.Impossible.{said_at}
use Rattle.ncp_statement.specs.Statement.{number, message_event_of, message_events_of, Delivers}
use Rattle.ncp_proof_statement.specs.Notes.{SidedNotes, notes_by, as_note, as_notes, NotedCallFits, NotedCallsFit, without_subnet}
use Rattle.ncp_proof_statement.specs.HonestRuns.{IsHonestRun, WorldOf, IsOfWorld}

-- What a call and an output are noted as.

abbrev Shape : Side → HostNote → Note → Type 0
Shape by hn note = (as_note by hn ≡ note) × NotedCallFits hn

abbrev Shaped : Note → Type 0
Shaped (notes.Called by hn) = Shape by hn (notes.Called by hn)
Shaped (notes.Out by hn) = Shape by hn (notes.Out by hn)
Shaped note = Unit {0}

read-shape : (by : Side) (hn : HostNote) (call : Call) → reads hn ≡ Some call → Shape by hn (notes.Called by hn)
read-shape by (of_host.Refused c fault) call e = absurd (cc e)
read-shape by (of_host.Done c) call e = absurd (cc e)
read-shape by (of_host.Took peer pair bytes text) call e = absurd (cc e)
read-shape by (of_host.State peer pair r) call e = (refl, tt)
read-shape by (of_host.Phase peer flags) call e = (refl, tt)
read-shape by (of_host.Echoed peer byte) call e = (refl, tt)
read-shape by (of_host.Errors peer errors) call e = (refl, tt)
read-shape by (of_host.Counts peer counts) call e = (refl, tt)
read-shape by (of_host.Waiting peer place command) call e = (refl, tt)
read-shape by (of_host.Kept peer link message) call e = (refl, tt)
read-shape by (of_host.Ignored ignored) call e = (refl, tt)
read-shape by (of_host.Out m) call e = absurd (cc e)
read-shape by of_host.Nothing call e = absurd (cc e)
read-shape by (of_host.In m told) call e = absurd (cc e)
read-shape by (of_host.Answered peer link how told) call e = absurd (cc e)

call-shape : (by : Side) (call : Call) (hn : HostNote) (h : Host) → CallNoted call hn h → CallFits call → Shape by hn (notes.Called by hn)
call-shape by call hn h noted fits = go hn (outcome-noted call hn h noted)
  where
    go : (n : HostNote) → CallOutcome call h n → Shape by n (notes.Called by n)
    go n (Was_done peer asked s at says is) = (refl, fits)
    go n (Was_taken peer pair bytes text s at says is) = (refl, subst CallFits is fits)
    go n (Was_refused fault why) = (refl, fits)
    go n (Was_read read is) = read-shape by read call is

out-shape : (by : Side) (o : Option (List Bool)) → Shaped (notes.Out by (note_of_message o))
out-shape by None = (refl, tt)
out-shape by (Some m) = (refl, tt)

coming-shape : (side : Side) (link : ℕ) (o : Option (List Bool)) (w : Hosts) → Shaped (note_of_coming side link o w)
coming-shape side link None w = tt
coming-shape side link (Some bits) w = tt

answering-shape : (side : Side) (link : ℕ) (o : Option (List Bool)) (w : Hosts) → Shaped (note_of_answering side link o w)
answering-shape side link None w = tt
answering-shape side link (Some bits) w = tt

lost-shape : (side : Side) (link : ℕ) (b : Bool) → Shaped (if b then notes.Lost side link else notes.Nothing side link moves.Lose)
lost-shape side link true = tt
lost-shape side link false = tt

dead-shape : (side : Side) (link : ℕ) (b : Bool) → Shaped (if b then notes.FoundDead side link else notes.Nothing side link moves.Dead)
dead-shape side link true = tt
dead-shape side link false = tt

shaped : (event : Event) (note : Note) (w : Hosts) → Transition event note w → Shaped note
shaped (events.Call side call) note w k = subst Shaped (sym k.said) (call-shape side call k.of_host (host_of side w) k.noted k.fits)
shaped (events.Out side) note w k = subst Shaped (sym k) (out-shape side (next_output (host_of side w)))
shaped (events.Deliver side link) note w k = subst Shaped (sym k) (coming-shape side link (arriving (side_number side w) (transit_of side link w)) w)
shaped (events.Lose side link) note w k = subst Shaped (sym k) (lost-shape side link (is_accepted (transit_of side link w)))
shaped (events.Dead side link) note w k = subst Shaped (sym k) (dead-shape side link (is_accepted (transit_of side link w)))
shaped (events.Answer side link) note w k = subst Shaped (sym k) (answering-shape side link (answer_about (side_number (other side) w) link (transit_of side link w)) w)

-- What came, and what was answered.

came-shape : (by : Side) (link number : ℕ) (hn : HostNote) → IsMessageFrom number link hn → Shape (other by) hn (notes.Came by link hn)
came-shape by link number hn (m, r, is, host, on) =
    subst (λ (n : HostNote). Shape (other by) n (notes.Came by link n)) (sym is)
    (ap (λ (s : Side). notes.Came s (link_in m) (of_host.In m r)) (twice by) ∙ ap (λ (l : ℕ). notes.Came by l (of_host.In m r)) on, tt)
  where
    twice : (s : Side) → other (other s) ≡ s
    twice A = refl
    twice B = refl

answered-shape : (by : Side) (link number : ℕ) (hn : HostNote) → IsAnswerAbout number link hn → Shape by hn (notes.Answered by link hn)
answered-shape by link number hn (how, r, is) = subst (λ (n : HostNote). Shape by n (notes.Answered by link n)) (sym is) (refl, tt)

-- All notes.

record Collected (ns : List Note) : Type 0 where
  pub heard : SidedNotes
  pub same : as_notes heard ≡ without_subnet ns
  pub fits : NotedCallsFit heard
  pub sides : (side : Side) → notes_by side heard ≡ notes_at side ns

one : (by : Side) (hn : HostNote) (note : Note) (ns : List Note) → Shape by hn note → (without_subnet (note ∷ ns) ≡ note ∷ without_subnet ns) → ((side : Side) → notes_at_side side note ≡ if_same side by hn) → Collected ns → Collected (note ∷ ns)
one by hn note ns s keeps at c = record {
  heard = (by, hn) ∷ c.heard;
  same = ap (λ (n : Note). n ∷ as_notes c.heard) s.0 ∙ ap (λ (xs : List Note). note ∷ xs) c.same ∙ sym keeps;
  fits = (s.1, c.fits);
  sides = λ side. ap (λ (xs : List HostNote). xs ++ notes_by side c.heard) (sym (at side)) ∙ ap (λ (xs : List HostNote). notes_at_side side note ++ xs) (c.sides side);
}

none : (note : Note) (ns : List Note) → (without_subnet (note ∷ ns) ≡ without_subnet ns) → ((side : Side) → notes_at_side side note ≡ []) → Collected ns → Collected (note ∷ ns)
none note ns drops at c = record {
  heard = c.heard;
  same = c.same ∙ sym drops;
  fits = c.fits;
  sides = λ side. c.sides side ∙ ap (λ (xs : List HostNote). xs ++ notes_at side ns) (sym (at side));
}

shift : (w : Hosts) (before : List Note) (note : Note) (ns : List Note) → IsTranscript (before ++ note ∷ ns) w → IsTranscript ((before ++ note ∷ []) ++ ns) w
shift w before note ns t = subst (λ (xs : List Note). IsTranscript xs w) (sym (append_assoc before (note ∷ []) ns)) t

said-shape : (w : Hosts) (before : List Note) (note : Note) (ns : List Note) → IsTranscript (before ++ note ∷ ns) w → Shaped note
said-shape w before note ns t = let s = said_at before ns note (began w) t.run in shaped s.0 note (hosts_after_notes before (began w)) s.1

collect : (w : Hosts) (before ns : List Note) → IsTranscript (before ++ ns) w → Collected ns
collect w before [] t = record { heard = []; same = refl; fits = tt; sides = λ side. refl }
collect w before (notes.Called by hn ∷ ns) t = one by hn (notes.Called by hn) ns (said-shape w before (notes.Called by hn) ns t) refl (λ side. refl) (collect w (before ++ notes.Called by hn ∷ []) ns (shift w before (notes.Called by hn) ns t))
collect w before (notes.Out by hn ∷ ns) t = one by hn (notes.Out by hn) ns (said-shape w before (notes.Out by hn) ns t) refl (λ side. refl) (collect w (before ++ notes.Out by hn ∷ []) ns (shift w before (notes.Out by hn) ns t))
collect w before (notes.Came by link hn ∷ ns) t = one (other by) hn (notes.Came by link hn) ns (came-shape by link (side_number by w) hn (came-named before ns w by link hn t)) refl (λ side. refl) (collect w (before ++ notes.Came by link hn ∷ []) ns (shift w before (notes.Came by link hn) ns t))
collect w before (notes.Answered by link hn ∷ ns) t = one by hn (notes.Answered by link hn) ns (answered-shape by link (side_number (other by) w) hn (answered-named before ns w by link hn t)) refl (λ side. refl) (collect w (before ++ notes.Answered by link hn ∷ []) ns (shift w before (notes.Answered by link hn) ns t))
collect w before (notes.Lost by link ∷ ns) t = none (notes.Lost by link) ns refl (λ side. refl) (collect w (before ++ notes.Lost by link ∷ []) ns (shift w before (notes.Lost by link) ns t))
collect w before (notes.FoundDead by link ∷ ns) t = none (notes.FoundDead by link) ns refl (λ side. refl) (collect w (before ++ notes.FoundDead by link ∷ []) ns (shift w before (notes.FoundDead by link) ns t))
collect w before (notes.Nothing by link wanted ∷ ns) t = none (notes.Nothing by link wanted) ns refl (λ side. refl) (collect w (before ++ notes.Nothing by link wanted ∷ []) ns (shift w before (notes.Nothing by link wanted) ns t))

-- Honest notes are so without those of the subnet.

honest-on : (n : ℕ) (d : MessageEvent) (ds es : List MessageEvent) → ((p : InFlight) → HonestFrom n p ds → HonestFrom n p es) → (p : InFlight) → HonestFrom n p (d ∷ ds) → HonestFrom n p (d ∷ es)
honest-on n Other ds es k p h = k p h
honest-on n (Sent m) ds es k Clear h = k (Flying m) h
honest-on n (Sent m) ds es k (Flying x) h = absurd h
honest-on n (Sent m) ds es k Landed h = absurd h
honest-on n (Arrives m) ds es k Clear h = absurd h
honest-on n (Arrives m) ds es k (Flying x) h = (h.0, k Landed h.1)
honest-on n (Arrives m) ds es k Landed h = absurd h
honest-on n Acked ds es k Clear h = absurd h
honest-on n Acked ds es k (Flying x) h = absurd h
honest-on n Acked ds es k Landed h = k Clear h
honest-on n Nacked ds es k Clear h = absurd h
honest-on n Nacked ds es k (Flying x) h = k Clear h
honest-on n Nacked ds es k Landed h = absurd h

honest-kept : (n : ℕ) (side : Side) (on : ℕ) (ns : List Note) (p : InFlight) → HonestFrom n p (message_events_of side on ns) → HonestFrom n p (message_events_of side on (without_subnet ns))
honest-kept n side on [] p h = h
honest-kept n side on (notes.Called by hn ∷ ns) p h = honest-on n Other (message_events_of side on ns) (message_events_of side on (without_subnet ns)) (honest-kept n side on ns) p h
honest-kept n side on (notes.Out by hn ∷ ns) p h = honest-on n (message_event_of side on (notes.Out by hn)) (message_events_of side on ns) (message_events_of side on (without_subnet ns)) (honest-kept n side on ns) p h
honest-kept n side on (notes.Came by link hn ∷ ns) p h = honest-on n (message_event_of side on (notes.Came by link hn)) (message_events_of side on ns) (message_events_of side on (without_subnet ns)) (honest-kept n side on ns) p h
honest-kept n side on (notes.Answered by link hn ∷ ns) p h = honest-on n (message_event_of side on (notes.Answered by link hn)) (message_events_of side on ns) (message_events_of side on (without_subnet ns)) (honest-kept n side on ns) p h
honest-kept n side on (notes.Lost by link ∷ ns) p h = honest-kept n side on ns p h
honest-kept n side on (notes.FoundDead by link ∷ ns) p h = honest-kept n side on ns p h
honest-kept n side on (notes.Nothing by link wanted ∷ ns) p h = honest-kept n side on ns p h

-- The hosts began as new ones.

stays : (side : Side) (note : Note) (w : Hosts) → host_began (host_of side (hosts_after_note note w)) ≡ host_began (host_of side w)
stays A (notes.Called A n) w = began_noted n w.a
stays A (notes.Called B n) w = refl
stays B (notes.Called A n) w = refl
stays B (notes.Called B n) w = began_noted n w.b
stays A (notes.Out A n) w = began_noted n w.a
stays A (notes.Out B n) w = refl
stays B (notes.Out A n) w = refl
stays B (notes.Out B n) w = began_noted n w.b
stays A (notes.Came A link n) w = refl
stays A (notes.Came B link n) w = began_noted n w.a
stays B (notes.Came A link n) w = began_noted n w.b
stays B (notes.Came B link n) w = refl
stays A (notes.Lost by link) w = refl
stays B (notes.Lost by link) w = refl
stays A (notes.FoundDead by link) w = refl
stays B (notes.FoundDead by link) w = refl
stays A (notes.Answered A link n) w = began_noted n w.a
stays A (notes.Answered B link n) w = refl
stays B (notes.Answered A link n) w = refl
stays B (notes.Answered B link n) w = began_noted n w.b
stays side (notes.Nothing by link wanted) w = refl

stays-all : (side : Side) (ns : List Note) (w : Hosts) → host_began (host_of side (hosts_after_notes ns w)) ≡ host_began (host_of side w)
stays-all side [] w = refl
stays-all side (note ∷ ns) w = stays-all side ns (hosts_after_note note w) ∙ stays side note w

pub back : (ns : List Note) (w : Hosts) → IsTranscript ns w → Delivers w.number_a w.number_b ns → (heard : SidedNotes) × IsHonestRun w.number_a w.number_b heard × (as_notes heard ≡ without_subnet ns)
back ns w t delivers =
    let c : Collected ns = collect w [] ns t in
    let first : (side : Side) → host_began (host_of side w) ≡ host_began (host_of side (began w)) = λ side. ap (λ (x : Hosts). host_began (host_of side x)) t.state ∙ stays-all side ns (began w) in
    let runs : (side : Side) → IsHostRun (notes_by side c.heard) (host_began (host_of side (began w))) =
    λ side. subst (IsHostRun (notes_by side c.heard)) (first side) (subst (λ (xs : List HostNote). IsHostRun xs (host_began (host_of side w))) (sym (c.sides side)) (by_itself ns w side t).run) in (
      c.heard,
      record {
        differ = t.differ;
        fits_a = t.fits_a;
        fits_b = t.fits_b;
        run_a = runs A;
        run_b = runs B;
        calls = c.fits;
        honest = λ side on. subst (λ (xs : List Note). HonestFrom (number w.number_a w.number_b side) Clear (message_events_of side on xs)) (sym c.same) (honest-kept (number w.number_a w.number_b side) side on ns Clear (delivers side on));
      },
      c.same,
    )

-- From the notes of both the notes of each are read back.

abbrev back_from : Note → List (Side × HostNote)
back_from (notes.Called by hn) = (by, hn) ∷ []
back_from (notes.Out by hn) = (by, hn) ∷ []
back_from (notes.Came by link hn) = (other by, hn) ∷ []
back_from (notes.Answered by link hn) = (by, hn) ∷ []
back_from note = []

abbrev all_back : List Note → SidedNotes
all_back [] = []
all_back (n ∷ ns) = back_from n ++ all_back ns

read-back : (by : Side) (hn : HostNote) → back_from (as_note by hn) ≡ (by, hn) ∷ []
read-back by (of_host.Refused c fault) = refl
read-back by (of_host.Done c) = refl
read-back by (of_host.Took peer pair bytes text) = refl
read-back by (of_host.State peer pair r) = refl
read-back by (of_host.Phase peer flags) = refl
read-back by (of_host.Echoed peer byte) = refl
read-back by (of_host.Errors peer errors) = refl
read-back by (of_host.Counts peer counts) = refl
read-back by (of_host.Waiting peer place command) = refl
read-back by (of_host.Kept peer link message) = refl
read-back by (of_host.Ignored ignored) = refl
read-back by (of_host.Out m) = refl
read-back by of_host.Nothing = refl
read-back A (of_host.In m told) = refl
read-back B (of_host.In m told) = refl
read-back by (of_host.Answered peer link how told) = refl

all-read-back : (ns : SidedNotes) → all_back (as_notes ns) ≡ ns
all-read-back [] = refl
all-read-back ((by, hn) ∷ ns) = ap (λ (xs : SidedNotes). xs ++ all_back (as_notes ns)) (read-back by hn) ∙ ap (λ (xs : SidedNotes). (by, hn) ∷ xs) (all-read-back ns)

pub of-world : (a b : ℕ) (ns : SidedNotes) → ((more : List Note) (w : Hosts) → IsTranscript more w → Delivers w.number_a w.number_b more) → IsOfWorld a b ns → IsHonestRun a b ns
of-world a b ns delivers (more, w, t, na, nb, same) =
    let k = back more w t (delivers more w t) in
    let is : k.0 ≡ ns = sym (all-read-back k.0) ∙ ap all_back (k.2 ∙ same) ∙ all-read-back ns in
    subst (IsHonestRun a b) is (subst (λ (n : ℕ). IsHonestRun n b k.0) na (subst (λ (n : ℕ). IsHonestRun w.number_a n k.0) nb k.1))

pub to-world : (a b : ℕ) (ns : SidedNotes) → WorldOf a b ns → IsOfWorld a b ns
to-world a b ns k = (k.more, k.world, k.is, k.number_a, k.number_b, k.notes)
