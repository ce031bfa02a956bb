-- What says what the rules of two say: for each kind of note, from what is in transit and from the host.
use Rattle.std.proofs.Common.{◌≡◌, ℕ, Bool, true, false, if◌then◌else◌, List, Option, None, Some, refl, sym, ap, ◌∙◌}
use Rattle.ncp_subnet.specs.declared.transit.Transit.TheVariants.{Accepted}
use Rattle.ncp_subnet.specs.Transit.{is_accepted, answer_kind}
use Rattle.ncp_subnet.specs.Messages.{from_host, answer_bits, arriving, answering}
use Rattle.ncp_transcript.specs.declared.call.Call.{Call}
use Rattle.ncp_transcript.specs.declared.note.HostNote.{HostNote}
use Rattle.ncp_transcript.specs.Noting.{CallNoted, note_of_bits, note_of_output}
use Rattle.ncp_transcript_two.specs.declared.side.Side.{Side}
use Rattle.ncp_transcript_two.specs.declared.event.Event.TheVariants as events
use Rattle.ncp_transcript_two.specs.declared.note.Move.TheVariants as moves
use Rattle.ncp_transcript_two.specs.declared.note.Note.TheVariants as notes
use Rattle.ncp_transcript_two.specs.Seen.{CallFits}
use Rattle.ncp_transcript_two.specs.Between.{Hosts, other, side_number, host_of, transit_of}
use Rattle.ncp_transcript_two.specs.Happening.{note_of_coming, note_of_answering}
use Rattle.ncp_transcript_two.specs.Transcript.{IsSaid}

module _ (side : Side) (w : Hosts) where
  pub said-called : (call : Call) (n : HostNote) → CallNoted call n (host_of side w) → CallFits call → IsSaid (notes.Called side n) w
  said-called call n noted fits = (events.Call side call, record { of_host = n; said = refl; noted = noted; fits = fits })

  pub said-out : (n : HostNote) → n ≡ note_of_output (host_of side w) → IsSaid (notes.Out side n) w
  said-out n is = (events.Out side, ap (notes.Out side) is)

  pub said-came : (link : ℕ) (m : List Bool) (n : HostNote) → transit_of side link w ≡ Accepted m → n ≡ note_of_bits (from_host (side_number side w) m) (host_of (other side) w) → IsSaid (notes.Came side link n) w
  said-came link m n there is = (events.Deliver side link, ap (notes.Came side link) is ∙ sym (ap (λ (o : Option (List Bool)). note_of_coming side link o w) (ap (arriving (side_number side w)) there)))

  pub said-lost : (link : ℕ) → is_accepted (transit_of side link w) ≡ true → IsSaid (notes.Lost side link) w
  said-lost link there = (events.Lose side link, sym (ap (λ (b : Bool). if b then notes.Lost side link else notes.Nothing side link moves.Lose) there))

  pub said-dead : (link : ℕ) → is_accepted (transit_of side link w) ≡ true → IsSaid (notes.FoundDead side link) w
  said-dead link there = (events.Dead side link, sym (ap (λ (b : Bool). if b then notes.FoundDead side link else notes.Nothing side link moves.Dead) there))

  pub said-answered : (link kind : ℕ) (n : HostNote) → answer_kind (transit_of side link w) ≡ Some kind → n ≡ note_of_bits (answer_bits kind (side_number (other side) w) link) (host_of side w) → IsSaid (notes.Answered side link n) w
  said-answered link kind n there is = (events.Answer side link, ap (notes.Answered side link) is ∙ sym (ap (λ (o : Option ℕ). note_of_answering side link (answering (side_number (other side) w) link o) w) there))

  pub said-never-came : (link : ℕ) → arriving (side_number side w) (transit_of side link w) ≡ None → IsSaid (notes.Nothing side link moves.Deliver) w
  said-never-came link none = (events.Deliver side link, sym (ap (λ (o : Option (List Bool)). note_of_coming side link o w) none))

  pub said-never-lost : (link : ℕ) → is_accepted (transit_of side link w) ≡ false → IsSaid (notes.Nothing side link moves.Lose) w
  said-never-lost link none = (events.Lose side link, sym (ap (λ (b : Bool). if b then notes.Lost side link else notes.Nothing side link moves.Lose) none))

  pub said-never-dead : (link : ℕ) → is_accepted (transit_of side link w) ≡ false → IsSaid (notes.Nothing side link moves.Dead) w
  said-never-dead link none = (events.Dead side link, sym (ap (λ (b : Bool). if b then notes.FoundDead side link else notes.Nothing side link moves.Dead) none))

  pub said-never-answered : (link : ℕ) → answer_kind (transit_of side link w) ≡ None → IsSaid (notes.Nothing side link moves.Answer) w
  said-never-answered link none = (events.Answer side link, sym (ap (λ (o : Option ℕ). note_of_answering side link (answering (side_number (other side) w) link o) w) none))
