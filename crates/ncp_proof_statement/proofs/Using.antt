-- What users did, by the notes of a transcript, is what they did by the notes of each host for the other.
use Rattle.std.proofs.Common.{◌≡◌, ℕ, ◌+◌, Bool, true, false, cond, if◌then◌else◌, List, [], ◌∷◌, ◌++◌, Option, None, Some, refl, sym, ap, ◌∙◌, subst}
use Rattle.std.proofs.lemmas.Bool.{eq-eqb}
use Rattle.std.proofs.lemmas.List.Elements.{filter-append}
use Rattle.ncp_leader.specs.declared.leader.Leader.{Leader}
use Rattle.ncp_model.specs.declared.pair.Pair.{Pair}
use Rattle.ncp_host.specs.Arrivals.{received_in}
use Rattle.ncp_host.specs.Turns.{next_output}
use Rattle.ncp_peer.specs.declared.received.Received.{Received}
use Rattle.ncp_subnet.specs.Messages.{arriving, answer_about}
use Rattle.ncp_transcript.specs.declared.call.Call.{Call}
use Rattle.ncp_transcript.specs.declared.note.HostNote.{HostNote}
use Rattle.ncp_transcript.proofs.AskedCalls.{reads}
use Rattle.ncp_transcript.specs.Noting.{CallNoted, answer_in, note_as, note_of_bits, note_of_message}
use Rattle.ncp_proof_runs.specs.Peers.{names, notes_of_peer}
use Rattle.ncp_transcript_two.specs.Sides.{if_same, notes_at_side, notes_at}
use Rattle.ncp_transcript_two.specs.declared.side.Side.{Side}
use Rattle.ncp_transcript_two.specs.declared.side.Side.TheVariants.{A, B}
use Rattle.ncp_transcript_two.specs.declared.event.Event.{Event}
use Rattle.ncp_transcript_two.specs.declared.note.Move.{Move}
use Rattle.ncp_transcript_two.specs.declared.note.Note.{Note}
use Rattle.ncp_transcript_two.specs.Between.{Hosts, other, side_number, host_of, transit_of, hosts_after_note}
use Rattle.ncp_transcript_two.specs.Happening.{Noted, note_of_coming, note_of_answering}
use Rattle.ncp_transcript_two.specs.Transcript.{IsRun, began, IsTranscript}
use Rattle.ncp_transcript_two.proofs.SeenSteps.{Stand}
use Rattle.ncp_transcript_two.proofs.SeenRuns.{stand-after}
use Rattle.ncp_transcript_two.proofs.Headlines.{stands}
use Rattle.ncp_statement.specs.Statement.{UserEvent, Asked, Gave, TookBits, AllowedBits, CalledBack, OtherEvent, user_event_of, user_event_at, user_events, taken_from, given_from, allowed_from, taken, given, allowed}
use Rattle.ncp_proof_statement.specs.Since.{uses_by}
use Rattle.ncp_proof_promises.proofs.CallsNoted.{asked-names, own-kinds}
use Rattle.ncp_proof_statement.proofs.Walk.{stays}

-- without what is none of the pair

abbrev pub strip : List UserEvent → List UserEvent
strip [] = []
strip (OtherEvent ∷ us) = strip us
strip (u ∷ us) = u ∷ strip us

taken-strip : (us : List UserEvent) (t : List Bool) → taken_from t us ≡ taken_from t (strip us)
taken-strip [] t = refl
taken-strip (Asked ∷ us) t = taken-strip us []
taken-strip (Gave text ∷ us) t = taken-strip us t
taken-strip (TookBits text ∷ us) t = taken-strip us (t ++ text)
taken-strip (AllowedBits bits ∷ us) t = taken-strip us t
taken-strip (CalledBack ∷ us) t = taken-strip us t
taken-strip (UserEvent.Closed ∷ us) t = taken-strip us t
taken-strip (OtherEvent ∷ us) t = taken-strip us t

given-strip : (us : List UserEvent) (anew : Bool) (g : List Bool) → given_from anew g us ≡ given_from anew g (strip us)
given-strip [] anew g = refl
given-strip (Asked ∷ us) anew g = given-strip us true g
given-strip (Gave text ∷ us) true g = given-strip us false text
given-strip (Gave text ∷ us) false g = given-strip us false (g ++ text)
given-strip (TookBits text ∷ us) anew g = given-strip us anew g
given-strip (AllowedBits bits ∷ us) anew g = given-strip us anew g
given-strip (CalledBack ∷ us) anew g = given-strip us anew g
given-strip (UserEvent.Closed ∷ us) anew g = given-strip us anew g
given-strip (OtherEvent ∷ us) anew g = given-strip us anew g

allowed-strip : (us : List UserEvent) (a : ℕ) → allowed_from a us ≡ allowed_from a (strip us)
allowed-strip [] a = refl
allowed-strip (Asked ∷ us) a = allowed-strip us 0
allowed-strip (Gave text ∷ us) a = allowed-strip us a
allowed-strip (TookBits text ∷ us) a = allowed-strip us a
allowed-strip (AllowedBits bits ∷ us) a = allowed-strip us (a + bits)
allowed-strip (CalledBack ∷ us) a = allowed-strip us a
allowed-strip (UserEvent.Closed ∷ us) a = allowed-strip us a
allowed-strip (OtherEvent ∷ us) a = allowed-strip us a

strip-append : (us vs : List UserEvent) → strip (us ++ vs) ≡ strip us ++ strip vs
strip-append [] vs = refl
strip-append (Asked ∷ us) vs = ap (λ (xs : List UserEvent). Asked ∷ xs) (strip-append us vs)
strip-append (Gave text ∷ us) vs = ap (λ (xs : List UserEvent). Gave text ∷ xs) (strip-append us vs)
strip-append (TookBits text ∷ us) vs = ap (λ (xs : List UserEvent). TookBits text ∷ xs) (strip-append us vs)
strip-append (AllowedBits bits ∷ us) vs = ap (λ (xs : List UserEvent). AllowedBits bits ∷ xs) (strip-append us vs)
strip-append (CalledBack ∷ us) vs = ap (λ (xs : List UserEvent). CalledBack ∷ xs) (strip-append us vs)
strip-append (UserEvent.Closed ∷ us) vs = ap (λ (xs : List UserEvent). UserEvent.Closed ∷ xs) (strip-append us vs)
strip-append (OtherEvent ∷ us) vs = strip-append us vs

module _ (pair : Pair) where
  by-append : (xs ys : List HostNote) → uses_by pair (xs ++ ys) ≡ uses_by pair xs ++ uses_by pair ys
  by-append [] ys = refl
  by-append (x ∷ xs) ys = ap (λ (us : List UserEvent). user_event_of pair x ∷ us) (by-append xs ys)

  abbrev UseStep : Side → Note → Hosts → Type 0
  UseStep side note w = strip (user_event_at side pair note ∷ []) ≡ strip (uses_by pair (notes_of_peer (side_number (other side) w) (notes_at_side side note)))

  nothing : (b : Bool) (hn : HostNote) → user_event_of pair hn ≡ OtherEvent → strip (user_event_of pair hn ∷ []) ≡ strip (uses_by pair (cond b (hn ∷ []) []))
  nothing true hn e = refl
  nothing false hn e = ap (λ (u : UserEvent). strip (u ∷ [])) e

  aside : (b : Bool) (hn : HostNote) → user_event_of pair hn ≡ OtherEvent → [] ≡ strip (uses_by pair (cond b (hn ∷ []) []))
  aside true hn e = ap (λ (u : UserEvent). strip (u ∷ [])) (sym e)
  aside false hn e = refl

  named : (b : Bool) (hn : HostNote) → b ≡ true → strip (user_event_of pair hn ∷ []) ≡ strip (uses_by pair (cond b (hn ∷ []) []))
  named true hn e = refl
  named false hn e = absurd (cc e)

  module _ (side : Side) (w : Hosts) (k : Stand w) where
    abbrev Own : HostNote → Type 0
    Own hn = strip (user_event_of pair hn ∷ []) ≡ strip (uses_by pair (notes_of_peer (side_number (other side) w) (hn ∷ [])))

    quiet : (hn : HostNote) → user_event_of pair hn ≡ OtherEvent → Own hn
    quiet hn e = nothing (names (side_number (other side) w) hn) hn e

    own-took : (q : Pair) (bytes : ℕ) (text : List Bool) → Own (HostNote.Took (side_number (other side) w) q bytes text)
    own-took q bytes text = named (names (side_number (other side) w) (HostNote.Took (side_number (other side) w) q bytes text)) (HostNote.Took (side_number (other side) w) q bytes text) (eq-eqb (side_number (other side) w) (side_number (other side) w) refl)

    was-read : (hn : HostNote) (call : Call) → reads hn ≡ Some call → Own hn
    was-read (HostNote.Done call) of e = absurd (cc e)
    was-read (HostNote.Took peer q bytes text) of e = absurd (cc e)
    was-read hn of e = quiet hn refl

    own : (call : Call) (hn : HostNote) → CallNoted call hn (host_of side w) → Own hn
    own =
        own-kinds side w k Own
        (λ call asked is. named (names (side_number (other side) w) (HostNote.Done call)) (HostNote.Done call) (asked-names (side_number (other side) w) call asked is))
        own-took
        (λ call fault. quiet (HostNote.Refused call fault) refl)
        was-read

  called : (side by : Side) (w : Hosts) → Stand w → (call : Call) (hn : HostNote) → CallNoted call hn (host_of by w) → UseStep side (Note.Called by hn) w
  called A A w k call hn c = own A w k call hn c
  called B B w k call hn c = own B w k call hn c
  called A B w k call hn c = refl
  called B A w k call hn c = refl

  -- what is no call is no use, at whichever side it is noted
  no-use : (side at : Side) (hn : HostNote) (n : ℕ) → user_event_of pair hn ≡ OtherEvent → [] ≡ strip (uses_by pair (notes_of_peer n (if_same side at hn)))
  no-use A A hn n e = aside (names n hn) hn e
  no-use B B hn n e = aside (names n hn) hn e
  no-use A B hn n e = refl
  no-use B A hn n e = refl

  out-use : (o : Option (List Bool)) → user_event_of pair (note_of_message o) ≡ OtherEvent
  out-use None = refl
  out-use (Some m) = refl

  bits-use : (o : Option Leader) (bits : List Bool) (r : Received) → user_event_of pair (note_as o bits r) ≡ OtherEvent
  bits-use None bits r = refl
  bits-use (Some l) bits r = refl

  came-here : (side by : Side) (link : ℕ) (o : Option (List Bool)) (w : Hosts) → UseStep side (note_of_coming by link o w) w
  came-here side by link None w = refl
  came-here side by link (Some m) w = no-use side (other by) (note_of_bits m (host_of (other by) w)) (side_number (other side) w) (bits-use (answer_in m (host_of (other by) w)) m (received_in m (host_of (other by) w)))

  answered-here : (side by : Side) (link : ℕ) (o : Option (List Bool)) (w : Hosts) → UseStep side (note_of_answering by link o w) w
  answered-here side by link None w = refl
  answered-here side by link (Some m) w = no-use side by (note_of_bits m (host_of by w)) (side_number (other side) w) (bits-use (answer_in m (host_of by w)) m (received_in m (host_of by w)))

  lost-here : (side by : Side) (link : ℕ) (b : Bool) (w : Hosts) → UseStep side (if b then Note.Lost by link else Note.Nothing by link Move.Lose) w
  lost-here side by link true w = refl
  lost-here side by link false w = refl

  dead-here : (side by : Side) (link : ℕ) (b : Bool) (w : Hosts) → UseStep side (if b then Note.FoundDead by link else Note.Nothing by link Move.Dead) w
  dead-here side by link true w = refl
  dead-here side by link false w = refl

  use-step : (side : Side) (w : Hosts) → Stand w → (event : Event) (note : Note) → Noted event note w → UseStep side note w
  use-step side w k (Event.Call by call) note n = subst (λ (y : Note). UseStep side y w) (sym n.said) (called side by w k call n.of_host n.noted)
  use-step side w k (Event.Out by) note n = subst (λ (y : Note). UseStep side y w) (sym n) (no-use side by (note_of_message (next_output (host_of by w))) (side_number (other side) w) (out-use (next_output (host_of by w))))
  use-step side w k (Event.Deliver by link) note n = subst (λ (y : Note). UseStep side y w) (sym n) (came-here side by link (arriving (side_number by w) (transit_of by link w)) w)
  use-step side w k (Event.Lose by link) note n = subst (λ (y : Note). UseStep side y w) (sym n) (lost-here side by link _ w)
  use-step side w k (Event.Dead by link) note n = subst (λ (y : Note). UseStep side y w) (sym n) (dead-here side by link _ w)
  use-step side w k (Event.Answer by link) note n = subst (λ (y : Note). UseStep side y w) (sym n) (answered-here side by link (answer_about (side_number (other by) w) link (transit_of by link w)) w)

  uses-walk : (side : Side) (ns : List Note) (w : Hosts) → IsRun ns w → Stand w → strip (user_events side pair ns) ≡ strip (uses_by pair (notes_of_peer (side_number (other side) w) (notes_at side ns)))
  uses-walk side [] w r k = refl
  uses-walk side (note ∷ ns) w r k =
      let n : ℕ = side_number (other side) w in
      let own_notes : List HostNote = notes_of_peer n (notes_at_side side note) in
      let rest : List HostNote = notes_of_peer n (notes_at side ns) in
      strip-append (user_event_at side pair note ∷ []) (user_events side pair ns)
      ∙ ap (λ (us : List UserEvent). us ++ strip (user_events side pair ns)) (use-step side w k r.0.0 note r.0.1)
      ∙ ap (λ (us : List UserEvent). strip (uses_by pair own_notes) ++ us) (uses-walk side ns (hosts_after_note note w) r.1 (stand-after note w k))
      ∙ ap (λ (j : ℕ). strip (uses_by pair own_notes) ++ strip (uses_by pair (notes_of_peer j (notes_at side ns)))) (stays side note w)
      ∙ sym (strip-append (uses_by pair own_notes) (uses_by pair rest))
      ∙ ap strip (sym (by-append own_notes rest))
      ∙ ap (λ (xs : List HostNote). strip (uses_by pair xs)) (sym (filter-append (names n) (notes_at_side side note) (notes_at side ns)))

  pub same-uses : (side : Side) (ns : List Note) (w : Hosts) → IsTranscript ns w → strip (user_events side pair ns) ≡ strip (uses_by pair (notes_of_peer (side_number (other side) w) (notes_at side ns)))
  same-uses A ns w t = uses-walk A ns (began w) t.run (stands ns w t)
  same-uses B ns w t = uses-walk B ns (began w) t.run (stands ns w t)

  pub taken-by : (side : Side) (ns : List Note) (w : Hosts) → IsTranscript ns w → taken side pair ns ≡ taken_from [] (uses_by pair (notes_of_peer (side_number (other side) w) (notes_at side ns)))
  taken-by side ns w t = taken-strip (user_events side pair ns) [] ∙ ap (taken_from []) (same-uses side ns w t) ∙ sym (taken-strip (uses_by pair (notes_of_peer (side_number (other side) w) (notes_at side ns))) [])

  pub given-by : (side : Side) (ns : List Note) (w : Hosts) → IsTranscript ns w → given side pair ns ≡ given_from true [] (uses_by pair (notes_of_peer (side_number (other side) w) (notes_at side ns)))
  given-by side ns w t = given-strip (user_events side pair ns) true [] ∙ ap (given_from true []) (same-uses side ns w t) ∙ sym (given-strip (uses_by pair (notes_of_peer (side_number (other side) w) (notes_at side ns))) true [])

  pub allowed-by : (side : Side) (ns : List Note) (w : Hosts) → IsTranscript ns w → allowed side pair ns ≡ allowed_from 0 (uses_by pair (notes_of_peer (side_number (other side) w) (notes_at side ns)))
  allowed-by side ns w t = allowed-strip (user_events side pair ns) 0 ∙ ap (allowed_from 0) (same-uses side ns w t) ∙ sym (allowed-strip (uses_by pair (notes_of_peer (side_number (other side) w) (notes_at side ns))) 0)
