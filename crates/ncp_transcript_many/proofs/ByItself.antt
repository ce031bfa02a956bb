-- The notes of one host among many are a run of it.
use Rattle.std.proofs.Common.{◌≡◌, ℕ, ◌==◌, Bool, true, false, not, ◌&&◌, nat_le, if◌then◌else◌, List, [], ◌∷◌, length, Option, None, Some, refl, sym, ap, ◌∙◌, subst}
use Rattle.std.proofs.lemmas.Bool.{eqb-true, and_parts}
use Rattle.ncp_subnet.specs.declared.transit.Transit.TheVariants.{Delivered, Free}
use Rattle.ncp_subnet.specs.Transit.{is_accepted}
use Rattle.ncp_subnet.specs.Messages.{arriving, answer_about}
use Rattle.ncp_subnet.specs.Subnet.{transit_at}
use Rattle.ncp_host.specs.Host.{are_distinct, new_host}
use Rattle.ncp_transcript.specs.declared.note.HostNote.{HostNote}
use Rattle.ncp_transcript.specs.declared.input.Input.TheVariants as inputs
use Rattle.ncp_transcript.specs.After as after
use Rattle.ncp_transcript.specs.Noting.{note_of_bits, note_of_output}
use Rattle.ncp_transcript.specs.Runs as runs
use Rattle.ncp_transcript.proofs.Growing as growing
use Rattle.ncp_transcript.proofs.Saying.{noted_said}
use Rattle.ncp_proof_runs.specs.Peers.{FromBeginning}
use Rattle.ncp_transcript_two.specs.declared.side.Side.TheVariants.{A}
use Rattle.ncp_transcript_two.specs.declared.note.Move.TheVariants as moves
use Rattle.ncp_transcript_two.specs.declared.note.Note.TheVariants as notes
use Rattle.ncp_transcript_two.specs.Happening.{note_of_coming, note_of_answering}
use Rattle.ncp_transcript_two.proofs.OneSide.{Leads, run_joined, grown}
use Rattle.ncp_transcript_many.specs.declared.many_event.ManyEvent.{ManyEvent}
use Rattle.ncp_transcript_many.specs.declared.many_event.ManyEvent.TheVariants as events
use Rattle.ncp_transcript_many.specs.declared.many_note.ManyNote.{ManyNote}
use Rattle.ncp_transcript_many.specs.Network.{Network, numbers_in, is_there, others, host_at, between, host_notes, put_transit, after_many, after_many_notes}
use Rattle.ncp_transcript_many.specs.ManyHappening.{are_two, by_numbers, IfThere, ManyNoted}
use Rattle.ncp_transcript_many.specs.ManyTranscript.{IsManyRun, network_began, IsManyTranscript}
use Rattle.ncp_transcript_many.specs.Pairs.{if_at, note_at_host, notes_at_host}
use Rattle.ncp_transcript_many.proofs.Others.{other-of, others-distinct, others-fit}
use Rattle.ncp_transcript_many.proofs.Crowds.{many-new, host-here, host-there}

-- what a note says of a host leads it from one state to the next
abbrev pub DemuxedAtHost : ℕ → ManyNote → Network → Type 0
DemuxedAtHost k note m = Leads (note_at_host k note) (host_at k m) (host_at k (after_many note m))

at-host : (k host : ℕ) (note : HostNote) (m : Network) → is_there host m ≡ true → runs.IsHostSaid note (host_at host m) → Leads (if_at k host note) (host_at k m) (host_at k (host_notes host note m))
at-host k host note m there said = go (host == k) refl
  where
    go : (b : Bool) → (host == k) ≡ b → Leads (if b then note ∷ [] else []) (host_at k m) (host_at k (host_notes host note m))
    go true e = subst (λ (j : ℕ). Leads (note ∷ []) (host_at j m) (host_at j (host_notes host note m))) (eqb-true host k e) ((said, tt), host-here host note m there)
    go false e = (tt, host-there host k note m e)

-- the two hosts of a message are there
pub two-there : (from to : ℕ) (m : Network) → are_two from to m ≡ true → (is_there from m ≡ true) × (is_there to m ≡ true) × (not (from == to) ≡ true)
two-there from to m e =
    let p = and_parts (is_there from m && is_there to m) (not (from == to)) e in
    let q = and_parts (is_there from m) (is_there to m) p.0 in (q.0, q.1, p.1)

module _ (k : ℕ) (m : Network) where
  abbrev At : ManyNote → Type 0
  At note = DemuxedAtHost k note m

  delivered-at : (from to link : ℕ) → is_there to m ≡ true → (o : Option (List Bool)) → At (by_numbers from to (note_of_coming A link o (between from to m)))
  delivered-at from to link there None = (tt, refl)
  delivered-at from to link there (Some bits) =
      let note : HostNote = note_of_bits bits (host_at to m) in
      at-host k to note (put_transit from to link Delivered m) there (noted_said (inputs.In bits) note (host_at to m) refl)

  answered-at : (from to link : ℕ) → is_there from m ≡ true → (o : Option (List Bool)) → At (by_numbers from to (note_of_answering A link o (between from to m)))
  answered-at from to link there None = (tt, refl)
  answered-at from to link there (Some bits) =
      let note : HostNote = note_of_bits bits (host_at from m) in
      at-host k from note (put_transit from to link Free m) there (noted_said (inputs.In bits) note (host_at from m) refl)

  lost-at : (from to link : ℕ) (b : Bool) → At (by_numbers from to (if b then notes.Lost A link else notes.Nothing A link moves.Lose))
  lost-at from to link true = (tt, refl)
  lost-at from to link false = (tt, refl)

  dead-at : (from to link : ℕ) (b : Bool) → At (by_numbers from to (if b then notes.FoundDead A link else notes.Nothing A link moves.Dead))
  dead-at from to link true = (tt, refl)
  dead-at from to link false = (tt, refl)

  of-there : (event : ManyEvent) (note : ManyNote) (b : Bool) → IfThere b event note m → (IfThere true event note m → b ≡ true → At note) → At note
  of-there event note true s there = there s refl
  of-there event note false s there = subst At (sym s) (tt, refl)

  pub said-at : (event : ManyEvent) (note : ManyNote) → ManyNoted event note m → DemuxedAtHost k note m
  said-at (events.Call host call) note t = of-there (events.Call host call) note (is_there host m) t (λ s there.
      subst At (sym (s.said ∙ ap (by_numbers host host) s.noted.said)) (at-host k host s.noted.of_host m there (noted_said (inputs.Call call) s.noted.of_host (host_at host m) s.noted.noted)))
  said-at (events.Out host) note t = of-there (events.Out host) note (is_there host m) t (λ s there.
      subst At (sym (s.said ∙ ap (by_numbers host host) s.noted)) (at-host k host (note_of_output (host_at host m)) m there (noted_said inputs.Out (note_of_output (host_at host m)) (host_at host m) refl)))
  said-at (events.Deliver from to link) note t = of-there (events.Deliver from to link) note (are_two from to m) t (λ s there.
      subst At (sym (s.said ∙ ap (by_numbers from to) s.noted)) (delivered-at from to link (two-there from to m there).1 (arriving from (transit_at m.subnet from to link))))
  said-at (events.Lose from to link) note t = of-there (events.Lose from to link) note (are_two from to m) t (λ s there.
      subst At (sym (s.said ∙ ap (by_numbers from to) s.noted)) (lost-at from to link (is_accepted (transit_at m.subnet from to link))))
  said-at (events.Dead from to link) note t = of-there (events.Dead from to link) note (are_two from to m) t (λ s there.
      subst At (sym (s.said ∙ ap (by_numbers from to) s.noted)) (dead-at from to link (is_accepted (transit_at m.subnet from to link))))
  said-at (events.Answer from to link) note t = of-there (events.Answer from to link) note (are_two from to m) t (λ s there.
      subst At (sym (s.said ∙ ap (by_numbers from to) s.noted)) (answered-at from to link (two-there from to m there).0 (answer_about to link (transit_at m.subnet from to link))))

leads-run : (k : ℕ) (ns : List ManyNote) (m : Network) → IsManyRun ns m → Leads (notes_at_host k ns) (host_at k m) (host_at k (after_many_notes ns m))
leads-run k [] m r = (tt, refl)
leads-run k (note ∷ rest) m r =
    let one = said-at k m r.0.0 note r.0.1 in
    let more = leads-run k rest (after_many note m) r.1 in (
      run_joined (note_at_host k note) (notes_at_host k rest) (host_at k m) one.0 (subst (runs.IsHostRun (notes_at_host k rest)) one.1 more.0),
      more.1 ∙ ap (after.after_notes (notes_at_host k rest)) one.1 ∙ sym (growing.after_append (note_at_host k note) (notes_at_host k rest) (host_at k m)),
    )

pub by-itself : (ns : List ManyNote) (m : Network) (k : ℕ) → IsManyTranscript ns m → is_there k m ≡ true → runs.IsHostTranscript (notes_at_host k ns) (host_at k m)
by-itself ns m k t there =
    let all : List ℕ = numbers_in m in
    let r = leads-run k ns (network_began m) t.run in
    let new : host_at k (network_began m) ≡ new_host k (others k all) = many-new all k there in
    let begins : runs.IsHostTranscript [] (host_at k (network_began m)) = growing.transcript_new k (others k all) (host_at k (network_began m)) (others-fit k all t.hosts there) (λ n e. t.fits n (other-of k n all e)) new in
    subst (runs.IsHostTranscript (notes_at_host k ns)) (sym (ap (host_at k) t.state ∙ r.1)) (grown (notes_at_host k ns) [] (host_at k (network_began m)) begins r.0)

-- Its notes are a run from its beginning, with the others as its peers; and it is what they leave.

pub host-from : (ns : List ManyNote) (m : Network) (k : ℕ) → IsManyTranscript ns m → is_there k m ≡ true → FromBeginning k (others k (numbers_in m)) (notes_at_host k ns)
host-from ns m k t there =
    let all : List ℕ = numbers_in m in
    record {
      distinct = others-distinct k all (and_parts (nat_le 2 (length all) && nat_le (length all) 8) (are_distinct all) t.hosts).1;
      places = λ n e. t.fits n (other-of k n all e);
      run = subst (runs.IsHostRun (notes_at_host k ns)) (many-new all k there) (leads-run k ns (network_began m) t.run).0;
    }

pub host-led : (ns : List ManyNote) (m : Network) (k : ℕ) → IsManyTranscript ns m → is_there k m ≡ true → host_at k m ≡ after.after_notes (notes_at_host k ns) (new_host k (others k (numbers_in m)))
host-led ns m k t there =
    ap (host_at k) t.state ∙ (leads-run k ns (network_began m) t.run).1 ∙ ap (after.after_notes (notes_at_host k ns)) (many-new (numbers_in m) k there)
