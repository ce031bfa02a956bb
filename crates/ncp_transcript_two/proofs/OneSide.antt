-- The notes of one side are a run of its host.
use Rattle.std.proofs.Common.{◌≡◌, ◌≢◌, ◌<◌, ◌^◌, ℕ, zero, suc, Bool, true, false, if◌then◌else◌, List, [], ◌∷◌, ◌++◌, get_or, Option, None, Some, refl, sym, ap, ◌∙◌, subst, arith}
use Rattle.std.proofs.lemmas.Bool.{ne_eqb}
use Rattle.std.proofs.lemmas.List.{append_assoc, append-nil}
use Rattle.ncp_host.specs.Host.{Host, are_peers, new_host}
use Rattle.ncp_transcript.specs.declared.note.HostNote.{HostNote}
use Rattle.ncp_transcript.specs.declared.input.Input.TheVariants as inputs
use Rattle.ncp_transcript.specs.After as after
use Rattle.ncp_transcript.specs.Noting.{note_of_bits, note_of_output}
use Rattle.ncp_transcript.specs.Runs as runs
use Rattle.ncp_transcript.proofs.Beginning.{one_fits}
use Rattle.ncp_transcript.proofs.Growing as growing
use Rattle.ncp_transcript.proofs.Saying.{noted_said}
use Rattle.ncp_subnet.specs.Transit.{is_accepted}
use Rattle.ncp_subnet.specs.Messages.{arriving, answer_about}
use Rattle.ncp_transcript_two.specs.declared.side.Side.{Side}
use Rattle.ncp_transcript_two.specs.declared.side.Side.TheVariants.{A, B}
use Rattle.ncp_transcript_two.specs.declared.event.Event.{Event}
use Rattle.ncp_transcript_two.specs.declared.event.Event.TheVariants as events
use Rattle.ncp_transcript_two.specs.declared.note.Move.TheVariants as moves
use Rattle.ncp_transcript_two.specs.declared.note.Note.{Note}
use Rattle.ncp_transcript_two.specs.declared.note.Note.TheVariants as notes
use Rattle.ncp_transcript_two.specs.Between.{Hosts, other, side_number, host_of, transit_of, hosts_after_note, hosts_after_notes}
use Rattle.ncp_transcript_two.specs.Happening.{Noted, note_of_coming, note_of_answering}
use Rattle.ncp_transcript_two.specs.Transcript.{IsRun, began, IsTranscript}
use Rattle.ncp_transcript_two.specs.Sides.{notes_at_side, notes_at}

-- these notes are a run of this host, and lead to that one
abbrev pub Leads : List HostNote → Host → Host → Type 0
Leads ns h last = runs.IsHostRun ns h × (last ≡ after.after_notes ns h)

abbrev pub DemuxedAt : Side → Note → Hosts → Type 0
DemuxedAt side note w = Leads (notes_at_side side note) (host_of side w) (host_of side (hosts_after_note note w))

called : (side by : Side) (n : HostNote) (w : Hosts) → runs.IsHostSaid n (host_of by w) → DemuxedAt side (notes.Called by n) w
called A A n w s = ((s, tt), refl)
called A B n w s = (tt, refl)
called B A n w s = (tt, refl)
called B B n w s = ((s, tt), refl)

went : (side by : Side) (n : HostNote) (w : Hosts) → runs.IsHostSaid n (host_of by w) → DemuxedAt side (notes.Out by n) w
went A A n w s = ((s, tt), refl)
went A B n w s = (tt, refl)
went B A n w s = (tt, refl)
went B B n w s = ((s, tt), refl)

arrived : (side by : Side) (link : ℕ) (n : HostNote) (w : Hosts) → runs.IsHostSaid n (host_of (other by) w) → DemuxedAt side (notes.Came by link n) w
arrived A A link n w s = (tt, refl)
arrived A B link n w s = ((s, tt), refl)
arrived B A link n w s = ((s, tt), refl)
arrived B B link n w s = (tt, refl)

heard : (side by : Side) (link : ℕ) (n : HostNote) (w : Hosts) → runs.IsHostSaid n (host_of by w) → DemuxedAt side (notes.Answered by link n) w
heard A A link n w s = ((s, tt), refl)
heard A B link n w s = (tt, refl)
heard B A link n w s = (tt, refl)
heard B B link n w s = ((s, tt), refl)

lost : (side by : Side) (link : ℕ) (w : Hosts) → DemuxedAt side (notes.Lost by link) w
lost A A link w = (tt, refl)
lost A B link w = (tt, refl)
lost B A link w = (tt, refl)
lost B B link w = (tt, refl)

found_dead : (side by : Side) (link : ℕ) (w : Hosts) → DemuxedAt side (notes.FoundDead by link) w
found_dead A A link w = (tt, refl)
found_dead A B link w = (tt, refl)
found_dead B A link w = (tt, refl)
found_dead B B link w = (tt, refl)

pub of_event : (side : Side) (event : Event) (note : Note) (w : Hosts) → Noted event note w → DemuxedAt side note w
of_event side (events.Call by call) note w k =
    subst (λ (n : Note). DemuxedAt side n w) (sym k.said) (called side by k.of_host w (noted_said (inputs.Call call) k.of_host (host_of by w) k.noted))
of_event side (events.Out by) note w k =
    subst (λ (n : Note). DemuxedAt side n w) (sym k) (went side by (note_of_output (host_of by w)) w (noted_said inputs.Out (note_of_output (host_of by w)) (host_of by w) refl))
of_event side (events.Deliver by link) note w k = subst (λ (n : Note). DemuxedAt side n w) (sym k) (go (arriving (side_number by w) (transit_of by link w)))
  where
    go : (o : Option (List Bool)) → DemuxedAt side (note_of_coming by link o w) w
    go None = (tt, refl)
    go (Some bits) = arrived side by link (note_of_bits bits (host_of (other by) w)) w (noted_said (inputs.In bits) (note_of_bits bits (host_of (other by) w)) (host_of (other by) w) refl)
of_event side (events.Lose by link) note w k = subst (λ (n : Note). DemuxedAt side n w) (sym k) (go (is_accepted (transit_of by link w)))
  where
    go : (b : Bool) → DemuxedAt side (if b then notes.Lost by link else notes.Nothing by link moves.Lose) w
    go true = lost side by link w
    go false = (tt, refl)
of_event side (events.Dead by link) note w k = subst (λ (n : Note). DemuxedAt side n w) (sym k) (go (is_accepted (transit_of by link w)))
  where
    go : (b : Bool) → DemuxedAt side (if b then notes.FoundDead by link else notes.Nothing by link moves.Dead) w
    go true = found_dead side by link w
    go false = (tt, refl)
of_event side (events.Answer by link) note w k = subst (λ (n : Note). DemuxedAt side n w) (sym k) (go (answer_about (side_number (other by) w) link (transit_of by link w)))
  where
    go : (o : Option (List Bool)) → DemuxedAt side (note_of_answering by link o w) w
    go None = (tt, refl)
    go (Some bits) = heard side by link (note_of_bits bits (host_of by w)) w (noted_said (inputs.In bits) (note_of_bits bits (host_of by w)) (host_of by w) refl)

pub run_joined : (some more : List HostNote) (h : Host) → runs.IsHostRun some h → runs.IsHostRun more (after.after_notes some h) → runs.IsHostRun (some ++ more) h
run_joined [] more h r rest = rest
run_joined (n ∷ ns) more h r rest = (r.0, run_joined ns more (after.after_note n h) r.1 rest)

of_run : (side : Side) (ns : List Note) (w : Hosts) → IsRun ns w → Leads (notes_at side ns) (host_of side w) (host_of side (hosts_after_notes ns w))
of_run side [] w r = (tt, refl)
of_run side (note ∷ rest) w r =
    let first = of_event side r.0.0 note w r.0.1 in
    let more = of_run side rest (hosts_after_note note w) r.1 in (
      run_joined (notes_at_side side note) (notes_at side rest) (host_of side w) first.0 (subst (runs.IsHostRun (notes_at side rest)) first.1 more.0),
      more.1 ∙ ap (after.after_notes (notes_at side rest)) first.1 ∙ sym (growing.after_append (notes_at_side side note) (notes_at side rest) (host_of side w)),
    )

-- A run of a new host is a transcript.

pub grown : (more some : List HostNote) (h : Host) → runs.IsHostTranscript some h → runs.IsHostRun more h → runs.IsHostTranscript (some ++ more) (after.after_notes more h)
grown [] some h t r = subst (λ (ns : List HostNote). runs.IsHostTranscript ns h) (sym (append-nil some)) t
grown (n ∷ ns) some h t r =
    subst (λ (xs : List HostNote). runs.IsHostTranscript xs (after.after_notes ns (after.after_note n h))) (append_assoc some (n ∷ []) ns)
    (grown ns (some ++ n ∷ []) (after.after_note n h) (growing.transcript_grows some (some ++ n ∷ []) n h (after.after_note n h) t r.0 refl refl) r.1)

one_peer : (a b : ℕ) → a ≢ b → are_peers a (b ∷ []) ≡ true
one_peer a b differ = rw (ne_eqb b a (λ e. differ (sym e))) refl

one_byte : (b : ℕ) → b < 2 ^ 8 → (k : ℕ) → get_or (b ∷ []) k 0 < 256
one_byte b fits zero = fits
one_byte b fits (suc k) = omega arith

begins : (a b : ℕ) → a ≢ b → b < 2 ^ 8 → runs.IsHostTranscript [] (new_host a (b ∷ []))
begins a b differ fits = growing.transcript_new a (b ∷ []) (new_host a (b ∷ [])) (one_peer a b differ) (one_fits (b ∷ []) (one_byte b fits)) refl

pub by_itself : (ns : List Note) (w : Hosts) (side : Side) → IsTranscript ns w → runs.IsHostTranscript (notes_at side ns) (host_of side w)
by_itself ns w A t =
    let r = of_run A ns (began w) t.run in
    subst (runs.IsHostTranscript (notes_at A ns)) (sym (ap (host_of A) t.state ∙ r.1)) (grown (notes_at A ns) [] (new_host w.number_a (w.number_b ∷ [])) (begins w.number_a w.number_b t.differ t.fits_b) r.0)
by_itself ns w B t =
    let r = of_run B ns (began w) t.run in
    subst (runs.IsHostTranscript (notes_at B ns)) (sym (ap (host_of B) t.state ∙ r.1)) (grown (notes_at B ns) [] (new_host w.number_b (w.number_a ∷ [])) (begins w.number_b w.number_a (λ e. t.differ (sym e)) t.fits_a) r.0)
