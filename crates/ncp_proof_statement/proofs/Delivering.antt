-- What the notes of a transcript say of the messages on one link is what the notes of the rules say.
use Rattle.std.proofs.Common.{◌≡◌, ℕ, Bool, true, false, List, [], ◌∷◌, ◌++◌, Option, None, Some, refl, sym, ap, ◌∙◌, subst}
use Rattle.ncp_proof_machine.specs.Resets.{Party}
use Rattle.ncp_transcript.specs.declared.note.HostNote.{HostNote}
use Rattle.ncp_transcript.specs.Asked.{Asked, asked_in}
use Rattle.ncp_transcript_two.specs.World.{WorldNote}
use Rattle.std.proofs.lemmas.List.{append_assoc}
use Rattle.ncp_wire.specs.declared.answer.Answer.{Answer}
use Rattle.ncp_peer.specs.declared.received.Received.{Received}
use Rattle.ncp_transcript_two.specs.Between.{Hosts, other, side_number}
use Rattle.ncp_transcript_two.specs.Transcript.{IsTranscript}
use Rattle.ncp_transcript_two.specs.Naming.{IsAnswerAbout}
use Rattle.ncp_transcript_two.proofs.Naming.{answered-named}
use Rattle.ncp_transcript_two.specs.Subnet.{from_host}
use Rattle.ncp_transcript_two.specs.Honest.{MessageEvent, Sent, Arrives, Acked, Nacked, Other, InFlight, Clear, Flying, Landed, HonestFrom, sent_from, messages_coming, came, message_event_in, message_events_in, sent}
use Rattle.ncp_transcript_two.specs.declared.side.Side.{Side}
use Rattle.ncp_transcript_two.specs.declared.side.Side.TheVariants.{A, B}
use Rattle.ncp_transcript_two.specs.declared.note.Note.{Note}
use Rattle.ncp_transcript_two.specs.Seen.{as_rules, done, body_of, side_of, notes_of, told}
use Rattle.ncp_statement.specs.Statement.{message_event_of, message_events_of}

abbrev strip : List MessageEvent → List MessageEvent
strip [] = []
strip (Other ∷ ds) = strip ds
strip (d ∷ ds) = d ∷ strip ds

strip-append : (xs ys : List MessageEvent) → strip (xs ++ ys) ≡ strip xs ++ strip ys
strip-append [] ys = refl
strip-append (Sent m ∷ xs) ys = ap (λ (ds : List MessageEvent). Sent m ∷ ds) (strip-append xs ys)
strip-append (Arrives m ∷ xs) ys = ap (λ (ds : List MessageEvent). Arrives m ∷ ds) (strip-append xs ys)
strip-append (Acked ∷ xs) ys = ap (λ (ds : List MessageEvent). Acked ∷ ds) (strip-append xs ys)
strip-append (Nacked ∷ xs) ys = ap (λ (ds : List MessageEvent). Nacked ∷ ds) (strip-append xs ys)
strip-append (Other ∷ xs) ys = strip-append xs ys

deeds-append : (side : Party) (on : ℕ) (xs ys : List WorldNote) → message_events_in side on (xs ++ ys) ≡ message_events_in side on xs ++ message_events_in side on ys
deeds-append side on [] ys = refl
deeds-append side on (x ∷ xs) ys = ap (λ (ds : List MessageEvent). message_event_in side on x ∷ ds) (deeds-append side on xs ys)

abbrev Same : Side → ℕ → Note → Type 0
Same side on note = strip (message_event_of side on note ∷ []) ≡ strip (message_events_in (as_rules side) on (notes_of (as_rules (side_of note)) (body_of note)))

call-same : (side by : Side) (on : ℕ) (o : Option (ℕ × Asked)) → [] ≡ strip (message_events_in (as_rules side) on (notes_of (as_rules by) (done o)))
call-same side by on None = refl
call-same A A on (Some (peer, asked)) = refl
call-same A B on (Some (peer, asked)) = refl
call-same B A on (Some (peer, asked)) = refl
call-same B B on (Some (peer, asked)) = refl

abbrev Linked : Note → Type 0
Linked (Note.Answered by link hn) = (n : ℕ) × IsAnswerAbout n link hn
Linked note = Unit {0}

linked : (before rest : List Note) (note : Note) (w : Hosts) → IsTranscript (before ++ note ∷ rest) w → Linked note
linked before rest (Note.Answered by link hn) w t = (side_number (other by) w, answered-named before rest w by link hn t)
linked before rest note w t = tt

answer-same : (side by : Side) (on link n : ℕ) (how : Answer) (r : Received) → Same side on (Note.Answered by link (HostNote.Answered n link how r))
answer-same A A on link n how r = refl
answer-same A B on link n how r = refl
answer-same B A on link n how r = refl
answer-same B B on link n how r = refl

same : (side by : Side) (on : ℕ) (note : Note) → Linked note → Same side on note
same side by on (Note.Answered at link hn) (n, (how, r, is)) = subst (λ (h : HostNote). Same side on (Note.Answered at link h)) (sym is) (answer-same side at on link n how r)
same side by on (Note.Called at (HostNote.Done call)) e = call-same side at on (asked_in call)
same A by on (Note.Called A hn) e = refl
same A by on (Note.Called B hn) e = refl
same B by on (Note.Called A hn) e = refl
same B by on (Note.Called B hn) e = refl
same A by on (Note.Out A (HostNote.Out m)) e = refl
same A by on (Note.Out A hn) e = refl
same A by on (Note.Out B (HostNote.Out m)) e = refl
same A by on (Note.Out B hn) e = refl
same B by on (Note.Out A (HostNote.Out m)) e = refl
same B by on (Note.Out A hn) e = refl
same B by on (Note.Out B (HostNote.Out m)) e = refl
same B by on (Note.Out B hn) e = refl
same A by on (Note.Came A link (HostNote.In m r)) e = refl
same A by on (Note.Came A link hn) e = refl
same A by on (Note.Came B link (HostNote.In m r)) e = refl
same A by on (Note.Came B link hn) e = refl
same B by on (Note.Came A link (HostNote.In m r)) e = refl
same B by on (Note.Came A link hn) e = refl
same B by on (Note.Came B link (HostNote.In m r)) e = refl
same B by on (Note.Came B link hn) e = refl
same A by on (Note.Lost A link) e = refl
same A by on (Note.Lost B link) e = refl
same B by on (Note.Lost A link) e = refl
same B by on (Note.Lost B link) e = refl
same A by on (Note.FoundDead A link) e = refl
same A by on (Note.FoundDead B link) e = refl
same B by on (Note.FoundDead A link) e = refl
same B by on (Note.FoundDead B link) e = refl
same A by on (Note.Nothing A link k) e = refl
same A by on (Note.Nothing B link k) e = refl
same B by on (Note.Nothing A link k) e = refl
same B by on (Note.Nothing B link k) e = refl

pub all-same : (side : Side) (on : ℕ) (before ns : List Note) (w : Hosts) → IsTranscript (before ++ ns) w → strip (message_events_of side on ns) ≡ strip (message_events_in (as_rules side) on (told ns))
all-same side on before [] w t = refl
all-same side on before (note ∷ ns) w t =
    strip-append (message_event_of side on note ∷ []) (message_events_of side on ns)
    ∙ ap (λ (ds : List MessageEvent). ds ++ strip (message_events_of side on ns)) (same side (side_of note) on note (linked before ns note w t))
    ∙ ap (λ (ds : List MessageEvent). strip (message_events_in (as_rules side) on (notes_of (as_rules (side_of note)) (body_of note))) ++ ds) (all-same side on (before ++ note ∷ []) ns w (subst (λ (xs : List Note). IsTranscript xs w) (sym (append_assoc before (note ∷ []) ns)) t))
    ∙ sym (strip-append (message_events_in (as_rules side) on (notes_of (as_rules (side_of note)) (body_of note))) (message_events_in (as_rules side) on (told ns)))
    ∙ ap strip (sym (deeds-append (as_rules side) on (notes_of (as_rules (side_of note)) (body_of note)) (told ns)))

coming-strip : (ds : List MessageEvent) → messages_coming ds ≡ messages_coming (strip ds)
coming-strip [] = refl
coming-strip (Sent m ∷ ds) = coming-strip ds
coming-strip (Arrives m ∷ ds) = ap (λ (ms : List (List Bool)). m ∷ ms) (coming-strip ds)
coming-strip (Acked ∷ ds) = coming-strip ds
coming-strip (Nacked ∷ ds) = coming-strip ds
coming-strip (Other ∷ ds) = coming-strip ds

sent-strip : (n : ℕ) (fresh : Bool) (ds : List MessageEvent) → sent_from n fresh ds ≡ sent_from n fresh (strip ds)
sent-strip n fresh [] = refl
sent-strip n true (Sent m ∷ ds) = ap (λ (ms : List (List Bool)). from_host n m ∷ ms) (sent-strip n true ds)
sent-strip n false (Sent m ∷ ds) = sent-strip n false ds
sent-strip n fresh (Arrives m ∷ ds) = sent-strip n fresh ds
sent-strip n fresh (Acked ∷ ds) = sent-strip n true ds
sent-strip n fresh (Nacked ∷ ds) = sent-strip n false ds
sent-strip n fresh (Other ∷ ds) = sent-strip n fresh ds

pub coming-same : (side : Side) (on : ℕ) (ns : List Note) (w : Hosts) → IsTranscript ns w → messages_coming (message_events_of side on ns) ≡ came (as_rules side) on (told ns)
coming-same side on ns w t = coming-strip (message_events_of side on ns) ∙ ap messages_coming (all-same side on [] ns w t) ∙ sym (coming-strip (message_events_in (as_rules side) on (told ns)))

pub sent-same : (n : ℕ) (side : Side) (on : ℕ) (ns : List Note) (w : Hosts) → IsTranscript ns w → sent_from n true (message_events_of side on ns) ≡ sent n (as_rules side) on (told ns)
sent-same n side on ns w t = sent-strip n true (message_events_of side on ns) ∙ ap (sent_from n true) (all-same side on [] ns w t) ∙ sym (sent-strip n true (message_events_in (as_rules side) on (told ns)))

-- an honest subnet, with and without what is none of the link

without : (n : ℕ) (p : InFlight) (ds : List MessageEvent) → HonestFrom n p ds → HonestFrom n p (strip ds)
without n p [] h = h
without n Clear (Sent m ∷ ds) h = without n (Flying m) ds h
without n Clear (Arrives m ∷ ds) h = absurd h
without n Clear (Acked ∷ ds) h = absurd h
without n Clear (Nacked ∷ ds) h = absurd h
without n Clear (Other ∷ ds) h = without n Clear ds h
without n (Flying f) (Sent m ∷ ds) h = absurd h
without n (Flying f) (Arrives m ∷ ds) h = (h.0, without n Landed ds h.1)
without n (Flying f) (Acked ∷ ds) h = absurd h
without n (Flying f) (Nacked ∷ ds) h = without n Clear ds h
without n (Flying f) (Other ∷ ds) h = without n (Flying f) ds h
without n Landed (Sent m ∷ ds) h = absurd h
without n Landed (Arrives m ∷ ds) h = absurd h
without n Landed (Acked ∷ ds) h = without n Clear ds h
without n Landed (Nacked ∷ ds) h = absurd h
without n Landed (Other ∷ ds) h = without n Landed ds h

back : (n : ℕ) (p : InFlight) (ds : List MessageEvent) → HonestFrom n p (strip ds) → HonestFrom n p ds
back n p [] h = h
back n Clear (Sent m ∷ ds) h = back n (Flying m) ds h
back n Clear (Arrives m ∷ ds) h = absurd h
back n Clear (Acked ∷ ds) h = absurd h
back n Clear (Nacked ∷ ds) h = absurd h
back n Clear (Other ∷ ds) h = back n Clear ds h
back n (Flying f) (Sent m ∷ ds) h = absurd h
back n (Flying f) (Arrives m ∷ ds) h = (h.0, back n Landed ds h.1)
back n (Flying f) (Acked ∷ ds) h = absurd h
back n (Flying f) (Nacked ∷ ds) h = back n Clear ds h
back n (Flying f) (Other ∷ ds) h = back n (Flying f) ds h
back n Landed (Sent m ∷ ds) h = absurd h
back n Landed (Arrives m ∷ ds) h = absurd h
back n Landed (Acked ∷ ds) h = back n Clear ds h
back n Landed (Nacked ∷ ds) h = absurd h
back n Landed (Other ∷ ds) h = back n Landed ds h

pub honest-same : (n : ℕ) (side : Side) (on : ℕ) (ns : List Note) (w : Hosts) → IsTranscript ns w → HonestFrom n Clear (message_events_in (as_rules side) on (told ns)) → HonestFrom n Clear (message_events_of side on ns)
honest-same n side on ns w t h = back n Clear (message_events_of side on ns) (subst (HonestFrom n Clear) (sym (all-same side on [] ns w t)) (without n Clear (message_events_in (as_rules side) on (told ns)) h))
