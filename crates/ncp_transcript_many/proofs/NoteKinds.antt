-- The kinds of notes of many hosts, each with what it says of the state before it.
use Rattle.std.proofs.Common.{◌≡◌, ℕ, Bool, true, false, if◌then◌else◌, List, Option, None, Some, refl, sym, ap, ◌∙◌, subst}
use Rattle.ncp_host.specs.Turns.{next_output}
use Rattle.ncp_subnet.specs.declared.transit.Transit.TheVariants.{Free, Accepted, Delivered, Lost, Dead}
use Rattle.ncp_subnet.specs.Transit.{is_accepted, answer_kind}
use Rattle.ncp_subnet.specs.Messages.{from_host, answer_bits, arriving, answering}
use Rattle.ncp_subnet.specs.Ways.{OnLink}
use Rattle.ncp_subnet.specs.Subnet.{transit_at}
use Rattle.ncp_transcript.specs.declared.call.Call.{Call}
use Rattle.ncp_transcript.specs.declared.note.HostNote.{HostNote}
use Rattle.ncp_transcript.specs.declared.note.HostNote.TheVariants as of_host
use Rattle.ncp_transcript.specs.Noting.{CallNoted, note_of_bits, note_of_message}
use Rattle.ncp_transcript_two.specs.declared.side.Side.TheVariants.{A}
use Rattle.ncp_transcript_two.specs.declared.note.Move.TheVariants as moves
use Rattle.ncp_transcript_two.specs.declared.note.Note.TheVariants as notes
use Rattle.ncp_transcript_two.specs.Seen.{CallFits}
use Rattle.ncp_transcript_two.specs.Happening.{note_of_coming, note_of_answering}
use Rattle.ncp_transcript_many.specs.declared.many_event.ManyEvent.{ManyEvent}
use Rattle.ncp_transcript_many.specs.declared.many_event.ManyEvent.TheVariants as events
use Rattle.ncp_transcript_many.specs.declared.many_note.ManyNote.{ManyNote}
use Rattle.ncp_transcript_many.specs.declared.many_note.ManyNote.TheVariants as many
use Rattle.ncp_transcript_many.specs.Network.{Network, is_there, host_at, between}
use Rattle.ncp_transcript_many.specs.ManyHappening.{are_two, are_there, by_numbers, IfThere, ManyNoted}

-- what holds of each kind of note
pub record Kinds (m : Network) (P : ManyNote → Type 0) : Type 0 where
  pub called : (host : ℕ) (call : Call) (note : HostNote) → is_there host m ≡ true → CallNoted call note (host_at host m) → CallFits call → P (many.Called host note)
  pub goes : (host : ℕ) (message : List Bool) → is_there host m ≡ true → next_output (host_at host m) ≡ Some message → P (many.Out host (of_host.Out message))
  pub still : (host : ℕ) → is_there host m ≡ true → next_output (host_at host m) ≡ None → P (many.Out host of_host.Nothing)
  pub came : (from to link : ℕ) (message : List Bool) → are_two from to m ≡ true → transit_at m.subnet from to link ≡ Accepted message
      → P (many.Came from to link (note_of_bits (from_host from message) (host_at to m)))
  pub lost : (from to link : ℕ) → are_two from to m ≡ true → is_accepted (transit_at m.subnet from to link) ≡ true → P (many.Lost from to link)
  pub dead : (from to link : ℕ) → are_two from to m ≡ true → is_accepted (transit_at m.subnet from to link) ≡ true → P (many.FoundDead from to link)
  pub answered : (from to link kind : ℕ) → are_two from to m ≡ true → answer_kind (transit_at m.subnet from to link) ≡ Some kind
      → P (many.Answered from to link (note_of_bits (answer_bits kind to link) (host_at from m)))
  pub never_came : (from to link : ℕ) → are_two from to m ≡ true → arriving from (transit_at m.subnet from to link) ≡ None → P (many.Nothing (events.Deliver from to link))
  pub never_lost : (from to link : ℕ) → are_two from to m ≡ true → is_accepted (transit_at m.subnet from to link) ≡ false → P (many.Nothing (events.Lose from to link))
  pub never_dead : (from to link : ℕ) → are_two from to m ≡ true → is_accepted (transit_at m.subnet from to link) ≡ false → P (many.Nothing (events.Dead from to link))
  pub never_answered : (from to link : ℕ) → are_two from to m ≡ true → answer_kind (transit_at m.subnet from to link) ≡ None → P (many.Nothing (events.Answer from to link))
  pub absent : (event : ManyEvent) → are_there event m ≡ false → P (many.Nothing event)

module _ (m : Network) (P : ManyNote → Type 0) (k : Kinds m P) where
  pub each-kind : (event : ManyEvent) (note : ManyNote) → ManyNoted event note m → P note
  each-kind (events.Call host call) note s = go (is_there host m) refl s
    where
      go : (b : Bool) → is_there host m ≡ b → IfThere b (events.Call host call) note m → P note
      go true e s = subst P (sym (s.said ∙ ap (by_numbers host host) s.noted.said)) (k.called host call s.noted.of_host e s.noted.noted s.noted.fits)
      go false e s = subst P (sym s) (k.absent (events.Call host call) e)
  each-kind (events.Out host) note s = go (is_there host m) refl s
    where
      by_output : is_there host m ≡ true → (o : Option (List Bool)) → next_output (host_at host m) ≡ o → P (many.Out host (note_of_message o))
      by_output e None is = k.still host e is
      by_output e (Some message) is = k.goes host message e is

      go : (b : Bool) → is_there host m ≡ b → IfThere b (events.Out host) note m → P note
      go true e s = subst P (sym (s.said ∙ ap (by_numbers host host) s.noted)) (by_output e (next_output (host_at host m)) refl)
      go false e s = subst P (sym s) (k.absent (events.Out host) e)
  each-kind (events.Deliver from to link) note s = go (are_two from to m) refl s
    where
      by_transit : are_two from to m ≡ true → (x : OnLink) → transit_at m.subnet from to link ≡ x → P (by_numbers from to (note_of_coming A link (arriving from x) (between from to m)))
      by_transit e Free is = k.never_came from to link e (ap (arriving from) is)
      by_transit e (Accepted message) is = k.came from to link message e is
      by_transit e Delivered is = k.never_came from to link e (ap (arriving from) is)
      by_transit e Lost is = k.never_came from to link e (ap (arriving from) is)
      by_transit e Dead is = k.never_came from to link e (ap (arriving from) is)

      go : (b : Bool) → are_two from to m ≡ b → IfThere b (events.Deliver from to link) note m → P note
      go true e s = subst P (sym (s.said ∙ ap (by_numbers from to) s.noted)) (by_transit e (transit_at m.subnet from to link) refl)
      go false e s = subst P (sym s) (k.absent (events.Deliver from to link) e)
  each-kind (events.Lose from to link) note s = go (are_two from to m) refl s
    where
      by_transit : are_two from to m ≡ true → (b : Bool) → is_accepted (transit_at m.subnet from to link) ≡ b → P (by_numbers from to (if b then notes.Lost A link else notes.Nothing A link moves.Lose))
      by_transit e true is = k.lost from to link e is
      by_transit e false is = k.never_lost from to link e is

      go : (b : Bool) → are_two from to m ≡ b → IfThere b (events.Lose from to link) note m → P note
      go true e s = subst P (sym (s.said ∙ ap (by_numbers from to) s.noted)) (by_transit e (is_accepted (transit_at m.subnet from to link)) refl)
      go false e s = subst P (sym s) (k.absent (events.Lose from to link) e)
  each-kind (events.Dead from to link) note s = go (are_two from to m) refl s
    where
      by_transit : are_two from to m ≡ true → (b : Bool) → is_accepted (transit_at m.subnet from to link) ≡ b → P (by_numbers from to (if b then notes.FoundDead A link else notes.Nothing A link moves.Dead))
      by_transit e true is = k.dead from to link e is
      by_transit e false is = k.never_dead from to link e is

      go : (b : Bool) → are_two from to m ≡ b → IfThere b (events.Dead from to link) note m → P note
      go true e s = subst P (sym (s.said ∙ ap (by_numbers from to) s.noted)) (by_transit e (is_accepted (transit_at m.subnet from to link)) refl)
      go false e s = subst P (sym s) (k.absent (events.Dead from to link) e)
  each-kind (events.Answer from to link) note s = go (are_two from to m) refl s
    where
      by_transit : are_two from to m ≡ true → (o : Option ℕ) → answer_kind (transit_at m.subnet from to link) ≡ o → P (by_numbers from to (note_of_answering A link (answering to link o) (between from to m)))
      by_transit e None is = k.never_answered from to link e is
      by_transit e (Some kind) is = k.answered from to link kind e is

      go : (b : Bool) → are_two from to m ≡ b → IfThere b (events.Answer from to link) note m → P note
      go true e s = subst P (sym (s.said ∙ ap (by_numbers from to) s.noted)) (by_transit e (answer_kind (transit_at m.subnet from to link)) refl)
      go false e s = subst P (sym s) (k.absent (events.Answer from to link) e)
