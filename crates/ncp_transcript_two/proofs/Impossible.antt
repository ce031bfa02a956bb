-- Nothing is noted only where nothing can be.
use Rattle.std.proofs.Common.{◌≡◌, ℕ, Bool, true, false, if◌then◌else◌, List, [], ◌∷◌, ◌++◌, Option, None, Some, refl, sym, subst}
use Rattle.ncp_leader.specs.declared.leader.Leader.{Leader}
use Rattle.ncp_host.specs.Host.{Host}
use Rattle.ncp_host.specs.Arrivals.{received_in}
use Rattle.ncp_host.specs.Turns.{next_output}
use Rattle.ncp_subnet.specs.Transit.{is_accepted, answer_kind}
use Rattle.ncp_subnet.specs.declared.transit.Transit.TheVariants.{Free, Accepted, Delivered, Lost, Dead}
use Rattle.ncp_subnet.specs.Messages.{arriving, answer_about}
use Rattle.ncp_subnet.specs.Ways.{OnLink}
use Rattle.ncp_transcript.specs.declared.call.Call.{Call}
use Rattle.ncp_transcript.specs.declared.note.HostNote.{HostNote}
use Rattle.ncp_transcript.specs.declared.note.HostNote.TheVariants as of_host
use Rattle.ncp_transcript.specs.Noting.{CallNoted, note_as, note_of_bits, note_of_message, answer_in}
use Rattle.ncp_transcript.proofs.AskedCalls.{reads, CallOutcome, Was_done, Was_taken, Was_refused, Was_read, outcome-noted}
use Rattle.ncp_transcript_two.specs.declared.side.Side.{Side}
use Rattle.ncp_transcript_two.specs.declared.event.Event.{Event}
use Rattle.ncp_transcript_two.specs.declared.event.Event.TheVariants as events
use Rattle.ncp_transcript_two.specs.declared.note.Move.{Move}
use Rattle.ncp_transcript_two.specs.declared.note.Move.TheVariants as moves
use Rattle.ncp_transcript_two.specs.declared.note.Note.{Note}
use Rattle.ncp_transcript_two.specs.declared.note.Note.TheVariants as notes
use Rattle.ncp_transcript_two.specs.Between.{Hosts, other, side_number, host_of, transit_of, hosts_after_note, hosts_after_notes}
use Rattle.ncp_transcript_two.specs.Happening.{note_of_coming, note_of_answering, Noted}
use Rattle.ncp_transcript_two.specs.Transcript.{IsSaid, IsRun, began, IsTranscript}
use Rattle.ncp_transcript_two.specs.Impossible.{IsImpossible}

-- a note of a run says what the rules say at the state before it
pub said_at : (before after : List Note) (note : Note) (w : Hosts) → IsRun (before ++ note ∷ after) w → IsSaid note (hosts_after_notes before w)
said_at [] after note w r = r.0
said_at (first ∷ before) after note w r = said_at before after note (hosts_after_note first w) r.1

-- and the notes before it are a run
pub run_before : (before more : List Note) (w : Hosts) → IsRun (before ++ more) w → IsRun before w
run_before [] more w r = tt
run_before (first ∷ before) more w r = (r.0, run_before before more (hosts_after_note first w) r.1)

-- what the note of an event is not

cannot_come : (from : ℕ) (t : OnLink) → arriving from t ≡ None → is_accepted t ≡ false
cannot_come from Free e = refl
cannot_come from (Accepted m) e = absurd (cc e)
cannot_come from Delivered e = refl
cannot_come from Lost e = refl
cannot_come from Dead e = refl

cannot_answer : (to link : ℕ) (t : OnLink) → answer_about to link t ≡ None → answer_kind t ≡ None
cannot_answer to link Free e = refl
cannot_answer to link (Accepted m) e = refl
cannot_answer to link Delivered e = absurd (cc e)
cannot_answer to link Lost e = absurd (cc e)
cannot_answer to link Dead e = absurd (cc e)

-- what a host notes of a call, and of bits, says something
abbrev pub is_nothing : HostNote → Bool
is_nothing of_host.Nothing = true
is_nothing other = false

read_says : (note : HostNote) (call : Call) → reads note ≡ Some call → is_nothing note ≡ false
read_says of_host.Nothing call e = absurd (cc e)
read_says note call e = refl

call_says : (call : Call) (note : HostNote) (h : Host) → CallNoted call note h → is_nothing note ≡ false
call_says call note h noted = go note (outcome-noted call note h noted)
  where
    go : (n : HostNote) → CallOutcome call h n → is_nothing n ≡ false
    go n (Was_done peer asked s at says by) = refl
    go n (Was_taken peer pair bytes text s at says is) = refl
    go n (Was_refused fault why) = refl
    go n (Was_read read by) = read_says read call by

bits_say : (bits : List Bool) (h : Host) → is_nothing (note_of_bits bits h) ≡ false
bits_say bits h = go (answer_in bits h)
  where
    go : (o : Option Leader) → is_nothing (note_as o bits (received_in bits h)) ≡ false
    go None = refl
    go (Some leader) = refl

-- What a note of nothing says; the others say nothing here.

abbrev pub InVain : Note → Hosts → Type 0
InVain (notes.Called side note) w = is_nothing note ≡ false
InVain (notes.Out side note) w = is_nothing note ≡ true → next_output (host_of side w) ≡ None
InVain (notes.Came side link note) w = is_nothing note ≡ false
InVain (notes.Lost side link) w = Unit {0}
InVain (notes.FoundDead side link) w = Unit {0}
InVain (notes.Answered side link note) w = is_nothing note ≡ false
InVain (notes.Nothing side link wanted) w = IsImpossible wanted (transit_of side link w)

out_in_vain : (o : Option (List Bool)) → is_nothing (note_of_message o) ≡ true → o ≡ None
out_in_vain None e = refl
out_in_vain (Some m) e = absurd (cc e)

came_in_vain : (side : Side) (link : ℕ) (o : Option (List Bool)) (w : Hosts) → arriving (side_number side w) (transit_of side link w) ≡ o → InVain (note_of_coming side link o w) w
came_in_vain side link None w e = cannot_come (side_number side w) (transit_of side link w) e
came_in_vain side link (Some bits) w e = bits_say bits (host_of (other side) w)

answered_in_vain : (side : Side) (link : ℕ) (o : Option (List Bool)) (w : Hosts) → answer_about (side_number (other side) w) link (transit_of side link w) ≡ o → InVain (note_of_answering side link o w) w
answered_in_vain side link None w e = cannot_answer (side_number (other side) w) link (transit_of side link w) e
answered_in_vain side link (Some bits) w e = bits_say bits (host_of side w)

lost_in_vain : (side : Side) (link : ℕ) (b : Bool) (w : Hosts) → is_accepted (transit_of side link w) ≡ b → InVain (if b then notes.Lost side link else notes.Nothing side link moves.Lose) w
lost_in_vain side link true w e = tt
lost_in_vain side link false w e = e

dead_in_vain : (side : Side) (link : ℕ) (b : Bool) (w : Hosts) → is_accepted (transit_of side link w) ≡ b → InVain (if b then notes.FoundDead side link else notes.Nothing side link moves.Dead) w
dead_in_vain side link true w e = tt
dead_in_vain side link false w e = e

pub in_vain : (event : Event) (note : Note) (w : Hosts) → Noted event note w → InVain note w
in_vain (events.Call side call) note w k = subst (λ (n : Note). InVain n w) (sym k.said) (call_says call k.of_host (host_of side w) k.noted)
in_vain (events.Out side) note w k = subst (λ (n : Note). InVain n w) (sym k) (out_in_vain (next_output (host_of side w)))
in_vain (events.Deliver side link) note w k = subst (λ (n : Note). InVain n w) (sym k) (came_in_vain side link (arriving (side_number side w) (transit_of side link w)) w refl)
in_vain (events.Lose side link) note w k = subst (λ (n : Note). InVain n w) (sym k) (lost_in_vain side link (is_accepted (transit_of side link w)) w refl)
in_vain (events.Dead side link) note w k = subst (λ (n : Note). InVain n w) (sym k) (dead_in_vain side link (is_accepted (transit_of side link w)) w refl)
in_vain (events.Answer side link) note w k = subst (λ (n : Note). InVain n w) (sym k) (answered_in_vain side link (answer_about (side_number (other side) w) link (transit_of side link w)) w refl)

module _ (before after : List Note) (w : Hosts) where
  at : (note : Note) → IsTranscript (before ++ note ∷ after) w → InVain note (hosts_after_notes before (began w))
  at note t = let s = said_at before after note (began w) t.run in in_vain s.0 note (hosts_after_notes before (began w)) s.1

  pub moves-vain : (side : Side) (link : ℕ) (wanted : Move) → IsTranscript (before ++ notes.Nothing side link wanted ∷ after) w → IsImpossible wanted (transit_of side link (hosts_after_notes before (began w)))
  moves-vain side link wanted t = at (notes.Nothing side link wanted) t

  pub out-vain : (side : Side) → IsTranscript (before ++ notes.Out side of_host.Nothing ∷ after) w → next_output (host_of side (hosts_after_notes before (began w))) ≡ None
  out-vain side t = at (notes.Out side of_host.Nothing) t refl

  pub called-vain : (side : Side) → IsTranscript (before ++ notes.Called side of_host.Nothing ∷ after) w → ⊥
  called-vain side t = absurd (cc (at (notes.Called side of_host.Nothing) t))

  pub came-vain : (side : Side) (link : ℕ) → IsTranscript (before ++ notes.Came side link of_host.Nothing ∷ after) w → ⊥
  came-vain side link t = absurd (cc (at (notes.Came side link of_host.Nothing) t))

  pub answered-vain : (side : Side) (link : ℕ) → IsTranscript (before ++ notes.Answered side link of_host.Nothing ∷ after) w → ⊥
  answered-vain side link t = absurd (cc (at (notes.Answered side link of_host.Nothing) t))
