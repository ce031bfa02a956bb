-- A world of two, with numbers for its sides, is one of many.
use Rattle.std.proofs.Common.{◌≡◌, ◌≢◌, ◌<◌, ℕ, ◌==◌, Bool, true, false, not, ◌&&◌, ◌||◌, if◌then◌else◌, List, [], ◌∷◌, map, Option, None, Some, refl, sym, ap, ◌∙◌, subst}
use Rattle.std.proofs.lemmas.Bool.{eq-eqb, ne_eqb, eqb-true, and_from, or_right}
use Rattle.ncp_subnet.specs.Transit.{is_accepted}
use Rattle.ncp_subnet.specs.Messages.{arriving, answer_about}
use Rattle.ncp_subnet.specs.Subnet.{Subnet, new_subnet}
use Rattle.ncp_host.specs.Host.{Host, is_one_of, new_host}
use Rattle.ncp_transcript.specs.After as after
use Rattle.ncp_transcript.specs.Noting.{CallNoted, note_of_output}
use Rattle.ncp_transcript_two.specs.declared.side.Side.TheVariants.{A, B}
use Rattle.ncp_transcript_two.specs.declared.event.Event.{Event}
use Rattle.ncp_transcript_two.specs.declared.event.Event.TheVariants as two_events
use Rattle.ncp_transcript_two.specs.declared.note.Move.TheVariants as moves
use Rattle.ncp_transcript_two.specs.declared.note.Note.{Note}
use Rattle.ncp_transcript_two.specs.declared.note.Note.TheVariants as notes
use Rattle.ncp_transcript_two.specs.Between.{Hosts, new_hosts, transit_of, hosts_after_note, hosts_after_notes}
use Rattle.ncp_transcript_two.specs.Happening.{Noted, note_of_coming, note_of_answering, note_of_delivery, note_of_loss, note_of_death, note_of_answer}
use Rattle.ncp_transcript_two.specs.Transcript as worlds
use Rattle.ncp_transcript_two.proofs.Growing.{began_noted}
use Rattle.ncp_transcript_two.proofs.SeenRuns.{counterpart}
use Rattle.ncp_transcript_many.specs.declared.many_event.ManyEvent.{ManyEvent}
use Rattle.ncp_transcript_many.specs.declared.many_note.ManyNote.{ManyNote}
use Rattle.ncp_transcript_many.specs.declared.many_note.ManyNote.TheVariants as many
use Rattle.ncp_transcript_many.specs.Numbered.{at_thing}
use Rattle.ncp_transcript_many.specs.Network.{Network, is_there, are_hosts, others, new_network, host_or_none, host_at, between, network_of, after_many, after_many_notes}
use Rattle.ncp_transcript_many.specs.ManyHappening.{are_two, are_there, event_by_numbers, by_numbers, IsOfTwo, IfThere, ManyNoted}
use Rattle.ncp_transcript_many.specs.ManyTranscript.{IsManySaid, IsManyRun, network_began, IsManyTranscript}

abbrev world : ℕ → ℕ → Subnet → Host → Host → Hosts
world a b subnet h k = record { number_a = a; number_b = b; a = h; b = k; subnet = subnet }

abbrev network : Subnet → List (ℕ × Host) → Network
network subnet hosts = record { hosts = hosts; subnet = subnet }

-- One event of two hosts.

module _ (w : Hosts) (differ : w.number_a ≢ w.number_b) where
  a-there : is_there w.number_a (network_of w) ≡ true
  a-there = ap (λ (t : Bool). t || is_one_of w.number_a (w.number_b ∷ [])) (eq-eqb w.number_a w.number_a refl)

  b-there : is_there w.number_b (network_of w) ≡ true
  b-there = or_right (w.number_a == w.number_b) (is_one_of w.number_b (w.number_b ∷ [])) (ap (λ (t : Bool). t || false) (eq-eqb w.number_b w.number_b refl))

  apart : (w.number_a == w.number_b) ≡ false
  apart = ne_eqb w.number_a w.number_b differ

  apart-back : (w.number_b == w.number_a) ≡ false
  apart-back = ne_eqb w.number_b w.number_a (λ e. differ (sym e))

  a-two : are_two w.number_a w.number_b (network_of w) ≡ true
  a-two = and_from (is_there w.number_a (network_of w) && is_there w.number_b (network_of w)) (not (w.number_a == w.number_b)) (and_from (is_there w.number_a (network_of w)) (is_there w.number_b (network_of w)) a-there b-there) (ap not apart)

  b-two : are_two w.number_b w.number_a (network_of w) ≡ true
  b-two = and_from (is_there w.number_b (network_of w) && is_there w.number_a (network_of w)) (not (w.number_b == w.number_a)) (and_from (is_there w.number_b (network_of w)) (is_there w.number_a (network_of w)) b-there a-there) (ap not apart-back)

  host-a : host_at w.number_a (network_of w) ≡ w.a
  host-a = ap (λ (t : Bool). host_or_none w.number_a (if t then Some w.a else (if w.number_b == w.number_a then Some w.b else None))) (eq-eqb w.number_a w.number_a refl)

  host-b : host_at w.number_b (network_of w) ≡ w.b
  host-b =
      ap (λ (t : Bool). host_or_none w.number_b (if t then Some w.a else (if w.number_b == w.number_b then Some w.b else None))) apart
      ∙ ap (λ (t : Bool). host_or_none w.number_b (if t then Some w.b else None)) (eq-eqb w.number_b w.number_b refl)

  between-same : between w.number_a w.number_b (network_of w) ≡ w
  between-same =
      ap (λ (h : Host). world w.number_a w.number_b w.subnet h (host_at w.number_b (network_of w))) host-a
      ∙ ap (world w.number_a w.number_b w.subnet w.a) host-b

  between-counterpart : between w.number_b w.number_a (network_of w) ≡ counterpart w
  between-counterpart =
      ap (λ (h : Host). world w.number_b w.number_a w.subnet h (host_at w.number_a (network_of w))) host-b
      ∙ ap (world w.number_b w.number_a w.subnet w.b) host-a

  -- what side B does is what side A does of the two turned

  came-counterpart : (link : ℕ) (o : Option (List Bool)) → by_numbers w.number_a w.number_b (note_of_coming B link o w) ≡ by_numbers w.number_b w.number_a (note_of_coming A link o (counterpart w))
  came-counterpart link None = refl
  came-counterpart link (Some bits) = refl

  answered-counterpart : (link : ℕ) (o : Option (List Bool)) → by_numbers w.number_a w.number_b (note_of_answering B link o w) ≡ by_numbers w.number_b w.number_a (note_of_answering A link o (counterpart w))
  answered-counterpart link None = refl
  answered-counterpart link (Some bits) = refl

  lost-counterpart : (link : ℕ) (t : Bool) → by_numbers w.number_a w.number_b (if t then notes.Lost B link else notes.Nothing B link moves.Lose) ≡ by_numbers w.number_b w.number_a (if t then notes.Lost A link else notes.Nothing A link moves.Lose)
  lost-counterpart link true = refl
  lost-counterpart link false = refl

  dead-counterpart : (link : ℕ) (t : Bool) → by_numbers w.number_a w.number_b (if t then notes.FoundDead B link else notes.Nothing B link moves.Dead) ≡ by_numbers w.number_b w.number_a (if t then notes.FoundDead A link else notes.Nothing A link moves.Dead)
  dead-counterpart link true = refl
  dead-counterpart link false = refl

  there : (event : ManyEvent) (note : ManyNote) → are_there event (network_of w) ≡ true → IsOfTwo event note (network_of w) → ManyNoted event note (network_of w)
  there event note e s = subst (λ (t : Bool). IfThere t event note (network_of w)) (sym e) s

  of-two : (event : Event) (note : Note) → Noted event note w → ManyNoted (event_by_numbers w.number_a w.number_b event) (by_numbers w.number_a w.number_b note) (network_of w)
  of-two (two_events.Call A call) note k = there (event_by_numbers w.number_a w.number_b (two_events.Call A call)) (by_numbers w.number_a w.number_b note) a-there (record {
    two = notes.Called A k.of_host;
    noted = record { of_host = k.of_host; said = refl; noted = subst (CallNoted call k.of_host) (sym host-a) k.noted; fits = k.fits };
    said = ap (by_numbers w.number_a w.number_b) k.said;
  })
  of-two (two_events.Call B call) note k = there (event_by_numbers w.number_a w.number_b (two_events.Call B call)) (by_numbers w.number_a w.number_b note) b-there (record {
    two = notes.Called A k.of_host;
    noted = record { of_host = k.of_host; said = refl; noted = subst (CallNoted call k.of_host) (sym host-b) k.noted; fits = k.fits };
    said = ap (by_numbers w.number_a w.number_b) k.said;
  })
  of-two (two_events.Out A) note k = there (event_by_numbers w.number_a w.number_b (two_events.Out A)) (by_numbers w.number_a w.number_b note) a-there (record {
    two = notes.Out A (note_of_output (host_at w.number_a (network_of w)));
    noted = refl;
    said = ap (by_numbers w.number_a w.number_b) k ∙ ap (λ (h : Host). many.Out w.number_a (note_of_output h)) (sym host-a);
  })
  of-two (two_events.Out B) note k = there (event_by_numbers w.number_a w.number_b (two_events.Out B)) (by_numbers w.number_a w.number_b note) b-there (record {
    two = notes.Out A (note_of_output (host_at w.number_b (network_of w)));
    noted = refl;
    said = ap (by_numbers w.number_a w.number_b) k ∙ ap (λ (h : Host). many.Out w.number_b (note_of_output h)) (sym host-b);
  })
  of-two (two_events.Deliver A link) note k = there (event_by_numbers w.number_a w.number_b (two_events.Deliver A link)) (by_numbers w.number_a w.number_b note) a-two (record {
    two = note_of_delivery A link (between w.number_a w.number_b (network_of w));
    noted = refl;
    said = ap (by_numbers w.number_a w.number_b) (k ∙ ap (note_of_delivery A link) (sym between-same));
  })
  of-two (two_events.Deliver B link) note k = there (event_by_numbers w.number_a w.number_b (two_events.Deliver B link)) (by_numbers w.number_a w.number_b note) b-two (record {
    two = note_of_delivery A link (between w.number_b w.number_a (network_of w));
    noted = refl;
    said =
        ap (by_numbers w.number_a w.number_b) k
        ∙ came-counterpart link (arriving w.number_b (transit_of B link w))
        ∙ ap (λ (x : Hosts). by_numbers w.number_b w.number_a (note_of_delivery A link x)) (sym between-counterpart);
  })
  of-two (two_events.Lose A link) note k = there (event_by_numbers w.number_a w.number_b (two_events.Lose A link)) (by_numbers w.number_a w.number_b note) a-two (record {
    two = note_of_loss A link (between w.number_a w.number_b (network_of w));
    noted = refl;
    said = ap (by_numbers w.number_a w.number_b) (k ∙ ap (note_of_loss A link) (sym between-same));
  })
  of-two (two_events.Lose B link) note k = there (event_by_numbers w.number_a w.number_b (two_events.Lose B link)) (by_numbers w.number_a w.number_b note) b-two (record {
    two = note_of_loss A link (between w.number_b w.number_a (network_of w));
    noted = refl;
    said =
        ap (by_numbers w.number_a w.number_b) k
        ∙ lost-counterpart link (is_accepted (transit_of B link w))
        ∙ ap (λ (x : Hosts). by_numbers w.number_b w.number_a (note_of_loss A link x)) (sym between-counterpart);
  })
  of-two (two_events.Dead A link) note k = there (event_by_numbers w.number_a w.number_b (two_events.Dead A link)) (by_numbers w.number_a w.number_b note) a-two (record {
    two = note_of_death A link (between w.number_a w.number_b (network_of w));
    noted = refl;
    said = ap (by_numbers w.number_a w.number_b) (k ∙ ap (note_of_death A link) (sym between-same));
  })
  of-two (two_events.Dead B link) note k = there (event_by_numbers w.number_a w.number_b (two_events.Dead B link)) (by_numbers w.number_a w.number_b note) b-two (record {
    two = note_of_death A link (between w.number_b w.number_a (network_of w));
    noted = refl;
    said =
        ap (by_numbers w.number_a w.number_b) k
        ∙ dead-counterpart link (is_accepted (transit_of B link w))
        ∙ ap (λ (x : Hosts). by_numbers w.number_b w.number_a (note_of_death A link x)) (sym between-counterpart);
  })
  of-two (two_events.Answer A link) note k = there (event_by_numbers w.number_a w.number_b (two_events.Answer A link)) (by_numbers w.number_a w.number_b note) a-two (record {
    two = note_of_answer A link (between w.number_a w.number_b (network_of w));
    noted = refl;
    said = ap (by_numbers w.number_a w.number_b) (k ∙ ap (note_of_answer A link) (sym between-same));
  })
  of-two (two_events.Answer B link) note k = there (event_by_numbers w.number_a w.number_b (two_events.Answer B link)) (by_numbers w.number_a w.number_b note) b-two (record {
    two = note_of_answer A link (between w.number_b w.number_a (network_of w));
    noted = refl;
    said =
        ap (by_numbers w.number_a w.number_b) k
        ∙ answered-counterpart link (answer_about w.number_a link (transit_of B link w))
        ∙ ap (λ (x : Hosts). by_numbers w.number_b w.number_a (note_of_answer A link x)) (sym between-counterpart);
  })

  -- what a note leaves

  at-a : (f : Host → Host) → (w.number_a, f w.a) ∷ (w.number_b, w.b) ∷ [] ≡ at_thing w.number_a f ((w.number_a, w.a) ∷ (w.number_b, w.b) ∷ [])
  at-a f = ap (λ (t : Bool). if t then (w.number_a, f w.a) ∷ (w.number_b, w.b) ∷ [] else (w.number_a, w.a) ∷ at_thing w.number_a f ((w.number_b, w.b) ∷ [])) (sym (eq-eqb w.number_a w.number_a refl))

  at-b : (f : Host → Host) → (w.number_a, w.a) ∷ (w.number_b, f w.b) ∷ [] ≡ at_thing w.number_b f ((w.number_a, w.a) ∷ (w.number_b, w.b) ∷ [])
  at-b f =
      ap (λ (t : Bool). (w.number_a, w.a) ∷ (if t then (w.number_b, f w.b) ∷ [] else (w.number_b, w.b) ∷ [])) (sym (eq-eqb w.number_b w.number_b refl))
      ∙ ap (λ (t : Bool). if t then (w.number_a, f w.a) ∷ (w.number_b, w.b) ∷ [] else (w.number_a, w.a) ∷ at_thing w.number_b f ((w.number_b, w.b) ∷ [])) (sym apart)

  crowd-after : (note : Note) → network_of (hosts_after_note note w) ≡ after_many (by_numbers w.number_a w.number_b note) (network_of w)
  crowd-after (notes.Called A note) = ap (network _) (at-a (after.after_note note))
  crowd-after (notes.Called B note) = ap (network _) (at-b (after.after_note note))
  crowd-after (notes.Out A note) = ap (network _) (at-a (after.after_note note))
  crowd-after (notes.Out B note) = ap (network _) (at-b (after.after_note note))
  crowd-after (notes.Came A link note) = ap (network _) (at-b (after.after_note note))
  crowd-after (notes.Came B link note) = ap (network _) (at-a (after.after_note note))
  crowd-after (notes.Lost A link) = refl
  crowd-after (notes.Lost B link) = refl
  crowd-after (notes.FoundDead A link) = refl
  crowd-after (notes.FoundDead B link) = refl
  crowd-after (notes.Answered A link note) = ap (network _) (at-a (after.after_note note))
  crowd-after (notes.Answered B link note) = ap (network _) (at-b (after.after_note note))
  crowd-after (notes.Nothing A link wanted) = refl
  crowd-after (notes.Nothing B link wanted) = refl

-- A run of two hosts, whose numbers stay.

abbrev numbers : Hosts → ℕ × ℕ
numbers w = (w.number_a, w.number_b)

abbrev named : ℕ × ℕ → List Note → List ManyNote
named p ns = map (by_numbers p.0 p.1) ns

differ-after : (note : Note) (w : Hosts) → w.number_a ≢ w.number_b → (hosts_after_note note w).number_a ≢ (hosts_after_note note w).number_b
differ-after note w differ e = differ (sym (ap (λ (x : Hosts). x.number_a) (began_noted note w)) ∙ e ∙ ap (λ (x : Hosts). x.number_b) (began_noted note w))

numbers-stay : (note : Note) (w : Hosts) (p : ℕ × ℕ) → numbers w ≡ p → numbers (hosts_after_note note w) ≡ p
numbers-stay note w p e = ap numbers (began_noted note w) ∙ e

run-of : (ns : List Note) (w : Hosts) (p : ℕ × ℕ) → w.number_a ≢ w.number_b → numbers w ≡ p → worlds.IsRun ns w → IsManyRun (named p ns) (network_of w)
run-of [] w p differ e r = tt
run-of (note ∷ rest) w p differ e r =
    let said : IsManySaid (by_numbers w.number_a w.number_b note) (network_of w) = (event_by_numbers w.number_a w.number_b r.0.0, of-two w differ r.0.0 note r.0.1) in
    let next : network_of (hosts_after_note note w) ≡ after_many (by_numbers p.0 p.1 note) (network_of w) = crowd-after w differ note ∙ ap (λ (q : ℕ × ℕ). after_many (by_numbers q.0 q.1 note) (network_of w)) e in (
      subst (λ (q : ℕ × ℕ). IsManySaid (by_numbers q.0 q.1 note) (network_of w)) e said,
      subst (IsManyRun (named p rest)) next (run-of rest (hosts_after_note note w) p (differ-after note w differ) (numbers-stay note w p e) r.1),
    )

after-of : (ns : List Note) (w : Hosts) (p : ℕ × ℕ) → w.number_a ≢ w.number_b → numbers w ≡ p → network_of (hosts_after_notes ns w) ≡ after_many_notes (named p ns) (network_of w)
after-of [] w p differ e = refl
after-of (note ∷ rest) w p differ e =
    let next : network_of (hosts_after_note note w) ≡ after_many (by_numbers p.0 p.1 note) (network_of w) = crowd-after w differ note ∙ ap (λ (q : ℕ × ℕ). after_many (by_numbers q.0 q.1 note) (network_of w)) e in
    after-of rest (hosts_after_note note w) p (differ-after note w differ) (numbers-stay note w p e) ∙ ap (after_many_notes (named p rest)) next

-- The beginning.

module _ (a b : ℕ) (differ : a ≢ b) where
  two-hosts : are_hosts (a ∷ b ∷ []) ≡ true
  two-hosts = rw (ne_eqb b a (λ e. differ (sym e))) refl

  a-others : others a (a ∷ b ∷ []) ≡ b ∷ []
  a-others = rw (eq-eqb a a refl, ne_eqb b a (λ e. differ (sym e))) refl

  b-others : others b (a ∷ b ∷ []) ≡ a ∷ []
  b-others = rw (eq-eqb b b refl, ne_eqb a b differ) refl

  crowd-new : network_of (new_hosts a b) ≡ new_network (a ∷ b ∷ [])
  crowd-new =
      ap (λ (ns : List ℕ). network (new_subnet (a ∷ b ∷ [])) ((a, new_host a ns) ∷ (b, new_host b (a ∷ [])) ∷ [])) (sym a-others)
      ∙ ap (λ (ns : List ℕ). network (new_subnet (a ∷ b ∷ [])) ((a, new_host a (others a (a ∷ b ∷ []))) ∷ (b, new_host b ns) ∷ [])) (sym b-others)

  two-fit : a < 256 → b < 256 → (n : ℕ) → is_one_of n (a ∷ b ∷ []) ≡ true → n < 256
  two-fit fits_a fits_b n e = go (a == n) refl (b == n) refl e
    where
      go : (t : Bool) → (a == n) ≡ t → (u : Bool) → (b == n) ≡ u → (t || (u || false)) ≡ true → n < 256
      go true f u g e = subst (λ (i : ℕ). i < 256) (eqb-true a n f) fits_a
      go false f true g e = subst (λ (i : ℕ). i < 256) (eqb-true b n g) fits_b
      go false f false g e = absurd (cc e)

pub two-by-numbers : (ns : List Note) (w : Hosts) → worlds.IsTranscript ns w → IsManyTranscript (map (by_numbers w.number_a w.number_b) ns) (network_of w)
two-by-numbers ns w t =
    let new : network_of (worlds.began w) ≡ network_began (network_of w) = crowd-new w.number_a w.number_b t.differ in
    record {
      hosts = two-hosts w.number_a w.number_b t.differ;
      fits = two-fit w.number_a w.number_b t.differ t.fits_a t.fits_b;
      run = subst (IsManyRun (named (numbers w) ns)) new (run-of ns (worlds.began w) (numbers w) t.differ refl t.run);
      state = ap network_of t.state ∙ after-of ns (worlds.began w) (numbers w) t.differ refl ∙ ap (after_many_notes (named (numbers w) ns)) new;
    }
