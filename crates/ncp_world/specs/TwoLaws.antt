-- Properties of two hosts as a kind of hosts.
use Rattle.std.proofs.Common.{◌≡◌, ◌≢◌, ◌≤◌, ℕ, zero, suc, Bool, true, false, not, List, [], ◌∷◌, ◌++◌, Option, None, Some, is_some, inl, inr, refl, sym, ap, ◌∙◌}
use Rattle.std.specs.Prelude.{slice_get}
use Rattle.ncp_wire.specs.declared.links.TheConstants.{LAST_LINK}
use Rattle.ncp_subnet.specs.declared.transit.Transit.TheVariants.{Free, Accepted, Delivered, Lost, Dead}
use Rattle.ncp_subnet.specs.Transit.{is_accepted, answer_kind}
use Rattle.ncp_subnet.specs.Messages.{arriving, answer_about}
use Rattle.ncp_subnet.specs.Ways.{OnLink}
use Rattle.ncp_host.specs.Host.{Host}
use Rattle.ncp_host.specs.Turns.{next_output}
use Rattle.ncp_transcript.specs.declared.call.Call.TheVariants as calls
use Rattle.ncp_transcript.specs.declared.note.HostNote.{HostNote}
use Rattle.ncp_transcript.specs.declared.note.HostNote.TheVariants as of_host
use Rattle.ncp_transcript.specs.Answers.{answer_to}
use Rattle.ncp_transcript.specs.Noting.{CallNoted, note_of_message}
use Rattle.ncp_transcript_two.specs.declared.side.Side.{Side}
use Rattle.ncp_transcript_two.specs.declared.side.Side.TheVariants.{A, B}
use Rattle.ncp_transcript_two.specs.declared.event.Event.{Event}
use Rattle.ncp_transcript_two.specs.declared.event.Event.TheVariants as events
use Rattle.ncp_transcript_two.specs.declared.note.Note.{Note}
use Rattle.ncp_transcript_two.specs.declared.note.Note.TheVariants as notes
use Rattle.ncp_transcript_two.specs.Between.{Hosts, other, side_number, host_of, transit_of, hosts_after_note}
use Rattle.ncp_transcript_two.specs.Happening.{Noted, note_of_coming, note_of_answering}
use Rattle.ncp_transcript_two.specs.Seen.{seen}
use Rattle.ncp_transcript_two.specs.Transcript.{IsTranscript, Noted_world}
use Rattle.ncp_transcript_two.proofs.Growing.{transcript_grows}
use Rattle.ncp_proof_quiescence.specs.Settled.{IsSettled}
use Rattle.ncp_proof_quiescence.specs.Settling.{IsStillAt, says_nothing}
use Rattle.ncp_proof_quiescence.proofs.Going.{tried-once}
use Rattle.ncp_proof_quiescence.proofs.Resting.{quiescent, wakes}
use Rattle.ncp_world.specs.Kinds.{IsTriedOf, WouldReportNothing, AreTwoAt, GoOnce}
use Rattle.ncp_world.specs.TwoKind.{two_kind}

none_out : (side : Side) (w : Hosts) → hosts_after_note (notes.Out side of_host.Nothing) w ≡ w
none_out A w = refl
none_out B w = refl

pub two_unchanged : (note : Note) (w : Hosts) → says_nothing note ≡ true → hosts_after_note note w ≡ w
two_unchanged (notes.Nothing side link wanted) w says = refl
two_unchanged (notes.Out side of_host.Nothing) w says = none_out side w
two_unchanged (notes.Out side (of_host.Refused call fault)) w says = absurd (cc says)
two_unchanged (notes.Out side (of_host.Done call)) w says = absurd (cc says)
two_unchanged (notes.Out side (of_host.Took peer pair bytes text)) w says = absurd (cc says)
two_unchanged (notes.Out side (of_host.State peer pair state)) w says = absurd (cc says)
two_unchanged (notes.Out side (of_host.Phase peer flags)) w says = absurd (cc says)
two_unchanged (notes.Out side (of_host.Echoed peer byte)) w says = absurd (cc says)
two_unchanged (notes.Out side (of_host.Errors peer errors)) w says = absurd (cc says)
two_unchanged (notes.Out side (of_host.Counts peer counts)) w says = absurd (cc says)
two_unchanged (notes.Out side (of_host.Waiting peer place command)) w says = absurd (cc says)
two_unchanged (notes.Out side (of_host.Kept peer link message)) w says = absurd (cc says)
two_unchanged (notes.Out side (of_host.Ignored ignored)) w says = absurd (cc says)
two_unchanged (notes.Out side (of_host.Out message)) w says = absurd (cc says)
two_unchanged (notes.Out side (of_host.In message received)) w says = absurd (cc says)
two_unchanged (notes.Out side (of_host.Answered peer link answer received)) w says = absurd (cc says)
two_unchanged (notes.Called side note) w says = absurd (cc says)
two_unchanged (notes.Came side link note) w says = absurd (cc says)
two_unchanged (notes.Lost side link) w says = absurd (cc says)
two_unchanged (notes.FoundDead side link) w says = absurd (cc says)
two_unchanged (notes.Answered side link note) w says = absurd (cc says)

pub two_grow : (ns : List Note) (w : Hosts) (event : Event) (note : Note) → IsTranscript ns w → Noted event note w → IsTranscript (ns ++ note ∷ []) (hosts_after_note note w)
two_grow ns w event note t noted = transcript_grows ns (ns ++ note ∷ []) note w (hosts_after_note note w) t (event, noted) refl refl

-- What is noted of a message that is sent, delivered or answered reports something just if there is one.

out_said : (side : Side) (o : Option (List Bool)) → says_nothing (notes.Out side (note_of_message o)) ≡ not (is_some o)
out_said side None = refl
out_said side (Some message) = refl

coming_said : (side : Side) (link from : ℕ) (t : OnLink) (w : Hosts) → says_nothing (note_of_coming side link (arriving from t) w) ≡ not (is_accepted t)
coming_said side link from Free w = refl
coming_said side link from (Accepted message) w = refl
coming_said side link from Delivered w = refl
coming_said side link from Lost w = refl
coming_said side link from Dead w = refl

answering_said : (side : Side) (link to : ℕ) (t : OnLink) (w : Hosts) → says_nothing (note_of_answering side link (answer_about to link t) w) ≡ not (is_some (answer_kind t))
answering_said side link to Free w = refl
answering_said side link to (Accepted message) w = refl
answering_said side link to Delivered w = refl
answering_said side link to Lost w = refl
answering_said side link to Dead w = refl

pub two_out_says : (i : ℕ) (from : Side) (note : Note) (w : Hosts) → slice_get (two_kind.names w) i ≡ Some from → Noted (events.Out from) note w → says_nothing note ≡ not (two_kind.ready from w)
two_out_says i from note w at noted = ap says_nothing noted ∙ out_said from (next_output (host_of from w))

pub two_deliver_says : (i j link : ℕ) (from to : Side) (ns : List Note) (note : Note) (w : Hosts) → IsTranscript ns w → AreTwoAt two_kind i j from to w → Noted (events.Deliver from link) note w
    → says_nothing note ≡ not (is_accepted (two_kind.transit from to w link))
two_deliver_says i j link from to ns note w t two noted = ap says_nothing noted ∙ coming_said from link (side_number from w) (transit_of from link w) w

pub two_answer_says : (i j link : ℕ) (from to : Side) (ns : List Note) (note : Note) (w : Hosts) → IsTranscript ns w → AreTwoAt two_kind i j from to w → Noted (events.Answer from link) note w
    → says_nothing note ≡ not (is_some (answer_kind (two_kind.transit from to w link)))
two_answer_says i j link from to ns note w t two noted = ap says_nothing noted ∙ answering_said from link (side_number (other from) w) (transit_of from link w) w

pub two_out_goes : (from : Side) (before now : Noted_world) → IsTriedOf two_kind (events.Out from) true before now → GoOnce two_kind before now
two_out_goes from before now tried = tried-once (events.Out from) before now tt tried

pub two_deliver_goes : (from to : Side) (link : ℕ) (before now : Noted_world) → IsTriedOf two_kind (events.Deliver from link) true before now → GoOnce two_kind before now
two_deliver_goes from to link before now tried = tried-once (events.Deliver from link) before now tt tried

pub two_answer_goes : (from to : Side) (link : ℕ) (before now : Noted_world) → IsTriedOf two_kind (events.Answer from link) true before now → GoOnce two_kind before now
two_answer_goes from to link before now tried = tried-once (events.Answer from link) before now tt tried

-- of two, one is the other of the other
the_other : (i j : ℕ) (from to : Side) → slice_get (A ∷ B ∷ []) i ≡ Some from → slice_get (A ∷ B ∷ []) j ≡ Some to → i ≢ j → to ≡ other from
the_other zero zero from to e f differ = absurd (differ refl)
the_other zero (suc zero) from to e f differ = let a : A ≡ from = cc e in let b : B ≡ to = cc f in sym b ∙ ap other a
the_other zero (suc (suc j)) from to e f differ = absurd (cc f)
the_other (suc zero) zero from to e f differ = let a : A ≡ to = cc f in let b : B ≡ from = cc e in sym a ∙ ap other b
the_other (suc zero) (suc zero) from to e f differ = absurd (differ refl)
the_other (suc zero) (suc (suc j)) from to e f differ = absurd (cc f)
the_other (suc (suc i)) j from to e f differ = absurd (cc e)

other_number : (i j : ℕ) (from to : Side) (w : Hosts) → AreTwoAt two_kind i j from to w → side_number to w ≡ side_number (other from) w
other_number i j from to w two = ap (λ (s : Side). side_number s w) (the_other i j from to two.0 two.1 two.2)

pub two_wake_goes : (i j link : ℕ) (from to : Side) (tried : Bool) (before now : Noted_world) → IsTranscript before.notes before.hosts → AreTwoAt two_kind i j from to before.hosts → WouldReportNothing two_kind (events.Out from) before.hosts
    → is_some (two_kind.kept from to before.hosts link) ≡ true → WouldReportNothing two_kind (events.Deliver from link) before.hosts → WouldReportNothing two_kind (events.Answer from link) before.hosts
    → IsTriedOf two_kind (two_kind.wake from to before.hosts) tried before now → (tried ≡ true) × GoOnce two_kind before now
two_wake_goes i j link from to true before now t two none kept came_not answered_not wake = (
  refl,
  wakes before t from link (side_number to before.hosts) true before before before now (none.0, none.1, none.2, refl) (other_number i j from to before.hosts two) kept
      (came_not.0, came_not.1, came_not.2, refl) (answered_not.0, answered_not.1, answered_not.2, refl) wake,
)
two_wake_goes i j link from to false before now t two none kept came_not answered_not wake = absurd (cc (sym wake.2 ∙ ap says_nothing wake.1.said))

pub two_rest : (i j : ℕ) (from to : Side) (ns : List Note) (w : Hosts) → IsTranscript ns w → AreTwoAt two_kind i j from to w → WouldReportNothing two_kind (events.Out from) w
    → ((link : ℕ) → link ≤ LAST_LINK → two_kind.kept from to w link ≡ None) → IsStillAt from w
two_rest i j from to ns w t two none kept =
    let before : Noted_world = record { hosts = w; notes = ns } in
    (quiescent before t from (side_number to w) before (none.0, none.1, none.2, refl) (other_number i j from to w two) kept).1

pub two_settle : (w : Hosts) → ((i j : ℕ) (from to : Side) → AreTwoAt two_kind i j from to w → IsStillAt from w) → IsSettled (seen w)
two_settle w still = (still 0 1 A B (refl, refl, λ e. absurd (cc e)), still 1 0 B A (refl, refl, λ e. absurd (cc e)))

-- an event that needs no user has one note

abbrev pub OneNote : Event → Type 0
OneNote event = (note again : Note) (w : Hosts) → Noted event note w → Noted event again w → note ≡ again

woken_once : (peer : ℕ) (note : HostNote) (h : Host) → CallNoted (calls.Wake peer) note h → note ≡ answer_to (calls.Wake peer) h
woken_once peer note h (inl is) = is
woken_once peer note h (inr full) = absurd (cc full.takes)

pub out_noted_once : (from : Side) → OneNote (events.Out from)
out_noted_once from note again w a b = a ∙ sym b

pub delivery_noted_once : (from : Side) (link : ℕ) → OneNote (events.Deliver from link)
delivery_noted_once from link note again w a b = a ∙ sym b

pub answer_noted_once : (from : Side) (link : ℕ) → OneNote (events.Answer from link)
answer_noted_once from link note again w a b = a ∙ sym b

pub wake_noted_once : (from : Side) (peer : ℕ) → OneNote (events.Call from (calls.Wake peer))
wake_noted_once from peer note again w a b =
    let same : a.of_host ≡ b.of_host = woken_once peer a.of_host (host_of from w) a.noted ∙ sym (woken_once peer b.of_host (host_of from w) b.noted) in
    a.said ∙ ap (notes.Called from) same ∙ sym b.said
