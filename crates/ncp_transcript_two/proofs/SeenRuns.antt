-- A transcript is a run of the rules, of what is seen.
use Rattle.std.proofs.Common.{◌≡◌, ℕ, Bool, true, false, if◌then◌else◌, List, [], ◌∷◌, ◌++◌, Option, None, Some, refl, sym, ap, ◌∙◌, subst}
use Rattle.ncp_proof_machine.specs.Resets.{This, That}
use Rattle.ncp_proof_machine.specs.Resets as rules
use Rattle.ncp_proof_machine.specs.Hosts as hosts
use Rattle.ncp_subnet.specs.Messages.{arriving, answer_about}
use Rattle.ncp_subnet.specs.Transit.{is_accepted}
use Rattle.ncp_subnet.specs.Subnet.{Subnet, has_way, new_subnet}
use Rattle.ncp_transcript.specs.declared.note.HostNote.{HostNote}
use Rattle.ncp_transcript.specs.declared.note.HostNote.TheVariants as of_host
use Rattle.ncp_transcript.specs.Noting.{note_of_bits, note_of_output}
use Rattle.ncp_transcript.specs.After as transcripts
use Rattle.ncp_transcript.proofs.Beginning.{began_noted, same_peers}
use Rattle.ncp_transcript_two.specs.World.{World, swap, NoteBody, Nothing, WorldEvent, at, turned_back, moves, world_run_from, notes_from}
use Rattle.ncp_transcript_two.specs.World as worlds
use Rattle.ncp_transcript_two.specs.Watch.{Both, histories_from}
use Rattle.ncp_transcript_two.specs.Tie.{Refines, IsMove, AreEvents, IsOfModel}
use Rattle.ncp_transcript_two.specs.declared.side.Side.TheVariants.{A, B}
use Rattle.ncp_transcript_two.specs.declared.event.Event.TheVariants as events
use Rattle.ncp_transcript_two.specs.declared.event.Event as happens
use Rattle.ncp_transcript_two.specs.declared.note.Move.TheVariants as wanted
use Rattle.ncp_transcript_two.specs.declared.note.Note.{Note}
use Rattle.ncp_transcript_two.specs.declared.note.Note.TheVariants as notes
use Rattle.ncp_transcript_two.specs.Between.{Hosts, accepted_from, is_taken, subnet_after_out, host_notes_it, sent_out, hosts_after_note, hosts_after_notes}
use Rattle.ncp_transcript_two.specs.Happening.{note_of_coming, note_of_answering, Noted}
use Rattle.ncp_transcript_two.specs.Transcript.{IsRun}
use Rattle.ncp_transcript_two.specs.Seen.{seen, as_rules, call_body, body_in, answer_body, body_of, side_of, notes_of, told, watched, histories}
use Rattle.ncp_transcript_two.proofs.Accepting.{taken_yes, taken_no}
use Rattle.ncp_transcript_two.proofs.Ties.{tied-swapped}
use Rattle.ncp_transcript_two.proofs.Runs.{step-ties}
use Rattle.ncp_transcript_two.proofs.Fitting.{note-fits}
use Rattle.ncp_transcript_two.proofs.SeenSteps.{Stand, Does, call-does}
use Rattle.ncp_transcript_two.proofs.SeenMoves.{out-does, deliver-does, lose-does, die-does, answer-does}

-- The hosts stand so after each note.

stand-a : (w : Hosts) → Stand w → (n : HostNote) → Stand (record w { a = transcripts.after_note n w.a })
stand-a w k n = record { differ = k.differ; fits_a = k.fits_a; fits_b = k.fits_b; a = same_peers w.a (transcripts.after_note n w.a) (began_noted n w.a) ∙ k.a; b = k.b; to_b = k.to_b; to_a = k.to_a }

stand-b : (w : Hosts) → Stand w → (n : HostNote) → Stand (record w { b = transcripts.after_note n w.b })
stand-b w k n = record { differ = k.differ; fits_a = k.fits_a; fits_b = k.fits_b; a = k.a; b = same_peers w.b (transcripts.after_note n w.b) (began_noted n w.b) ∙ k.b; to_b = k.to_b; to_a = k.to_a }

abbrev way_in : ℕ → ℕ → List (ℕ × ℕ) → Bool
way_in from to ways = has_way (record { ways = ways; in_transit = (new_subnet []).in_transit }) from to

stand-subnet : (w : Hosts) → Stand w → (s : Subnet) → s.ways ≡ w.subnet.ways → Stand (record w { subnet = s })
stand-subnet w k s e = record { differ = k.differ; fits_a = k.fits_a; fits_b = k.fits_b; a = k.a; b = k.b; to_b = ap (way_in w.number_a w.number_b) e ∙ k.to_b; to_a = ap (way_in w.number_b w.number_a) e ∙ k.to_a }

taken-ways : (from : ℕ) (m : List Bool) (s : Subnet) → (accepted_from from m s).ways ≡ s.ways
taken-ways from m s = go (is_taken s from m) refl
  where
    go : (b : Bool) → is_taken s from m ≡ b → (accepted_from from m s).ways ≡ s.ways
    go true e = ap (λ (x : Subnet). x.ways) (taken_yes s from m e)
    go false e = ap (λ (x : Subnet). x.ways) (taken_no s from m e)

pub out-ways : (from : ℕ) (n : HostNote) (s : Subnet) → (subnet_after_out from n s).ways ≡ s.ways
out-ways from (of_host.Out m) s = taken-ways from m s
out-ways from (of_host.Refused call fault) s = refl
out-ways from (of_host.Done call) s = refl
out-ways from (of_host.Took peer pair bytes text) s = refl
out-ways from (of_host.State peer pair r) s = refl
out-ways from (of_host.Phase peer flags) s = refl
out-ways from (of_host.Echoed peer byte) s = refl
out-ways from (of_host.Errors peer errors) s = refl
out-ways from (of_host.Counts peer counts) s = refl
out-ways from (of_host.Waiting peer place command) s = refl
out-ways from (of_host.Kept peer link message) s = refl
out-ways from (of_host.Ignored ignored) s = refl
out-ways from of_host.Nothing s = refl
out-ways from (of_host.In message received) s = refl
out-ways from (of_host.Answered peer link answer received) s = refl

pub stand-after : (note : Note) (w : Hosts) → Stand w → Stand (hosts_after_note note w)
stand-after (notes.Called A n) w k = stand-a w k n
stand-after (notes.Called B n) w k = stand-b w k n
stand-after (notes.Out A n) w k = stand-subnet (host_notes_it A n w) (stand-a w k n) (subnet_after_out w.number_a n w.subnet) (out-ways w.number_a n w.subnet)
stand-after (notes.Out B n) w k = stand-subnet (host_notes_it B n w) (stand-b w k n) (subnet_after_out w.number_b n w.subnet) (out-ways w.number_b n w.subnet)
stand-after (notes.Came A link n) w k = stand-subnet (host_notes_it B n w) (stand-b w k n) _ refl
stand-after (notes.Came B link n) w k = stand-subnet (host_notes_it A n w) (stand-a w k n) _ refl
stand-after (notes.Lost side link) w k = stand-subnet w k _ refl
stand-after (notes.FoundDead side link) w k = stand-subnet w k _ refl
stand-after (notes.Answered A link n) w k = stand-subnet (host_notes_it A n w) (stand-a w k n) _ refl
stand-after (notes.Answered B link n) w k = stand-subnet (host_notes_it B n w) (stand-b w k n) _ refl
stand-after (notes.Nothing side link move) w k = k

-- On either side.

abbrev pub DoesOn : rules.Party → Option NoteBody → World → World → Type 0
DoesOn side None v x = x ≡ v
DoesOn side (Some t) v x = (st : worlds.WorldStep) × IsMove st × (at side st v ≡ (x, t))

on-this : (o : Option NoteBody) (v x : World) → Does o v x → DoesOn This o v x
on-this None v x d = d
on-this (Some t) v x d = d

on-that : (o : Option NoteBody) (v x : World) → Does o (swap v) (swap x) → DoesOn That o v x
on-that None v x d = ap swap d
on-that (Some t) v x (st, ok, is) = (st, ok, ap turned_back is)

abbrev pub counterpart : Hosts → Hosts
counterpart w = record { number_a = w.number_b; number_b = w.number_a; a = w.b; b = w.a; subnet = w.subnet }

pub stand-counterpart : (w : Hosts) → Stand w → Stand (counterpart w)
stand-counterpart w k = record { differ = λ e. k.differ (sym e); fits_a = k.fits_b; fits_b = k.fits_a; a = k.b; b = k.a; to_b = k.to_a; to_a = k.to_b }

module _ (w : Hosts) (k : Stand w) (x : hosts.TwoNodes) (t : Refines x (seen w)) where
  abbrev pub Following : Note → Type 0
  Following n = DoesOn (as_rules (side_of n)) (body_of n) (seen w) (seen (hosts_after_note n w))

  abbrev OfA : Note → Type 0
  OfA n = Does (body_of n) (seen w) (seen (hosts_after_note n w))

  abbrev Turned : Note → Type 0
  Turned n = Does (body_of n) (seen (counterpart w)) (seen (hosts_after_note n (counterpart w)))

  k' : Stand (counterpart w)
  k' = stand-counterpart w k

  t' : Refines (hosts.nodes_swapped x) (seen (counterpart w))
  t' = tied-swapped x (seen w) t

  a-came : (link : ℕ) (o : Option (List Bool)) → OfA (note_of_coming A link o w) → Following (note_of_coming A link o w)
  a-came link None d = d
  a-came link (Some bits) d = on-this (body_in link (note_of_bits bits w.b)) (seen w) _ d

  b-came : (link : ℕ) (o : Option (List Bool)) → Turned (note_of_coming A link o (counterpart w)) → Following (note_of_coming B link o w)
  b-came link None d = on-that (Some Nothing) (seen w) (seen w) d
  b-came link (Some bits) d = on-that (body_in link (note_of_bits bits w.a)) (seen w) (seen (hosts_after_note (notes.Came B link (note_of_bits bits w.a)) w)) d

  a-answered : (link : ℕ) (o : Option (List Bool)) → OfA (note_of_answering A link o w) → Following (note_of_answering A link o w)
  a-answered link None d = d
  a-answered link (Some bits) d = on-this (answer_body link (note_of_bits bits w.a)) (seen w) _ d

  b-answered : (link : ℕ) (o : Option (List Bool)) → Turned (note_of_answering A link o (counterpart w)) → Following (note_of_answering B link o w)
  b-answered link None d = on-that (Some Nothing) (seen w) (seen w) d
  b-answered link (Some bits) d = on-that (answer_body link (note_of_bits bits w.b)) (seen w) (seen (hosts_after_note (notes.Answered B link (note_of_bits bits w.b)) w)) d

  a-lost : (link : ℕ) (b : Bool) → OfA (if b then notes.Lost A link else notes.Nothing A link wanted.Lose) → Following (if b then notes.Lost A link else notes.Nothing A link wanted.Lose)
  a-lost link true d = d
  a-lost link false d = d

  b-lost : (link : ℕ) (b : Bool) → Turned (if b then notes.Lost A link else notes.Nothing A link wanted.Lose) → Following (if b then notes.Lost B link else notes.Nothing B link wanted.Lose)
  b-lost link true d = on-that (body_of (notes.Lost B link)) (seen w) (seen (hosts_after_note (notes.Lost B link) w)) d
  b-lost link false d = on-that (Some Nothing) (seen w) (seen w) d

  a-dead : (link : ℕ) (b : Bool) → OfA (if b then notes.FoundDead A link else notes.Nothing A link wanted.Dead) → Following (if b then notes.FoundDead A link else notes.Nothing A link wanted.Dead)
  a-dead link true d = d
  a-dead link false d = d

  b-dead : (link : ℕ) (b : Bool) → Turned (if b then notes.FoundDead A link else notes.Nothing A link wanted.Dead) → Following (if b then notes.FoundDead B link else notes.Nothing B link wanted.Dead)
  b-dead link true d = on-that (body_of (notes.FoundDead B link)) (seen w) (seen (hosts_after_note (notes.FoundDead B link) w)) d
  b-dead link false d = on-that (Some Nothing) (seen w) (seen w) d

  pub event-does : (event : happens.Event) (note : Note) → Noted event note w → Following note
  event-does (events.Call A call) note n = subst Following (sym n.said) (on-this (call_body n.of_host) (seen w) _ (call-does w k call n.of_host n.noted (note-fits call n.of_host w.a n.noted n.fits)))
  event-does (events.Call B call) note n = subst Following (sym n.said) (on-that (call_body n.of_host) (seen w) (seen (host_notes_it B n.of_host w)) (call-does (counterpart w) k' call n.of_host n.noted (note-fits call n.of_host w.b n.noted n.fits)))
  event-does (events.Out A) note n = subst Following (sym n) (out-does w k x t)
  event-does (events.Out B) note n = subst Following (sym n) (on-that (body_of (notes.Out B (note_of_output w.b))) (seen w) (seen (sent_out B (note_of_output w.b) w)) (out-does (counterpart w) k' (hosts.nodes_swapped x) t'))
  event-does (events.Deliver A link) note n = subst Following (sym n) (a-came link (arriving w.number_a ((seen w).going link)) (deliver-does w k x t link ((seen w).going link) refl))
  event-does (events.Deliver B link) note n = subst Following (sym n) (b-came link (arriving w.number_b ((seen w).coming link)) (deliver-does (counterpart w) k' (hosts.nodes_swapped x) t' link ((seen w).coming link) refl))
  event-does (events.Lose A link) note n = subst Following (sym n) (a-lost link (is_accepted ((seen w).going link)) (lose-does w k x t link ((seen w).going link) refl))
  event-does (events.Lose B link) note n = subst Following (sym n) (b-lost link (is_accepted ((seen w).coming link)) (lose-does (counterpart w) k' (hosts.nodes_swapped x) t' link ((seen w).coming link) refl))
  event-does (events.Dead A link) note n = subst Following (sym n) (a-dead link (is_accepted ((seen w).going link)) (die-does w k x t link ((seen w).going link) refl))
  event-does (events.Dead B link) note n = subst Following (sym n) (b-dead link (is_accepted ((seen w).coming link)) (die-does (counterpart w) k' (hosts.nodes_swapped x) t' link ((seen w).coming link) refl))
  event-does (events.Answer A link) note n = subst Following (sym n) (a-answered link (answer_about w.number_b link ((seen w).going link)) (answer-does w k x t link ((seen w).going link) refl))
  event-does (events.Answer B link) note n = subst Following (sym n) (b-answered link (answer_about w.number_a link ((seen w).coming link)) (answer-does (counterpart w) k' (hosts.nodes_swapped x) t' link ((seen w).coming link) refl))

-- One note after the other.

pub record Follows (ns : List Note) (w : Hosts) (v : World) : Type 0 where
  pub events : List WorldEvent
  pub are : AreEvents events
  pub state : world_run_from events v ≡ seen (hosts_after_notes ns w)
  pub said : notes_from events v ≡ told ns
  pub watches : (p : Both) → histories_from events v p ≡ histories ns w p

-- a note that tells nothing
quiet-follows : (note : Note) (ns : List Note) (w : Hosts) → body_of note ≡ None → seen (hosts_after_note note w) ≡ seen w → Follows ns (hosts_after_note note w) (seen (hosts_after_note note w)) → Follows (note ∷ ns) w (seen w)
quiet-follows note ns w none same f =
    let rest : Follows ns (hosts_after_note note w) (seen w) = subst (Follows ns (hosts_after_note note w)) same f in
    record {
      events = rest.events;
      are = rest.are;
      state = rest.state;
      said = rest.said ∙ ap (λ (o : Option NoteBody). notes_of (as_rules (side_of note)) o ++ told ns) (sym none);
      watches = λ p. rest.watches p ∙ ap (λ (o : Option NoteBody). histories ns (hosts_after_note note w) (watched (as_rules (side_of note)) o (seen w) p)) (sym none);
    }

-- a note of a move of the rules
told-follows : (note : Note) (ns : List Note) (w : Hosts) (t : NoteBody) → body_of note ≡ Some t → DoesOn (as_rules (side_of note)) (Some t) (seen w) (seen (hosts_after_note note w)) → Follows ns (hosts_after_note note w) (seen (hosts_after_note note w)) → Follows (note ∷ ns) w (seen w)
told-follows note ns w t says (st, ok, is) rest =
    let side : rules.Party = as_rules (side_of note) in
    let e : WorldEvent = record { side = side; step = st } in
    record {
      events = e ∷ rest.events;
      are = (ok, rest.are);
      state = ap (λ (d : World × NoteBody). world_run_from rest.events d.0) is ∙ rest.state;
      said =
          ap (λ (d : World × NoteBody). (let n : worlds.WorldNote = record { side = side; told = d.1 } in n ∷ notes_from rest.events d.0)) is
          ∙ ap (λ (ms : List worlds.WorldNote). (let n : worlds.WorldNote = record { side = side; told = t } in n ∷ ms)) rest.said
          ∙ ap (λ (o : Option NoteBody). notes_of side o ++ told ns) (sym says);
      watches = λ p.
          ap (λ (d : World × NoteBody). histories_from rest.events d.0 (watched side (Some d.1) (seen w) p)) is
          ∙ rest.watches (watched side (Some t) (seen w) p)
          ∙ ap (λ (o : Option NoteBody). histories ns (hosts_after_note note w) (watched side o (seen w) p)) (sym says);
    }

of-model-after : (note : Note) (w : Hosts) (o : Option NoteBody) → DoesOn (as_rules (side_of note)) o (seen w) (seen (hosts_after_note note w)) → IsOfModel (seen w) → IsOfModel (seen (hosts_after_note note w))
of-model-after note w None same m = subst IsOfModel (sym same) m
of-model-after note w (Some t) (st, ok, is) m = subst IsOfModel (ap (λ (d : World × NoteBody). d.0) is) (step-ties (as_rules (side_of note)) st (seen w) ok m)

pub follows : (ns : List Note) (w : Hosts) → IsRun ns w → Stand w → IsOfModel (seen w) → Follows ns w (seen w)
follows [] w run k m = record { events = []; are = tt; state = refl; said = refl; watches = λ p. refl }
follows (note ∷ ns) w run k m =
    let did : DoesOn (as_rules (side_of note)) (body_of note) (seen w) (seen (hosts_after_note note w)) = event-does w k m.0 m.1 run.0.0 note run.0.1 in
    go (body_of note) refl did (follows ns (hosts_after_note note w) run.1 (stand-after note w k) (of-model-after note w (body_of note) did m))
  where
    go : (o : Option NoteBody) → body_of note ≡ o → DoesOn (as_rules (side_of note)) o (seen w) (seen (hosts_after_note note w)) → Follows ns (hosts_after_note note w) (seen (hosts_after_note note w)) → Follows (note ∷ ns) w (seen w)
    go None e d rest = quiet-follows note ns w e d rest
    go (Some t) e d rest = told-follows note ns w t e d rest

-- the hosts after notes are each other's only peers, and what is seen of them is of the model
pub stands-at : (ns : List Note) (w : Hosts) → IsRun ns w → Stand w → IsOfModel (seen w) → Stand (hosts_after_notes ns w) × IsOfModel (seen (hosts_after_notes ns w))
stands-at [] w run k m = (k, m)
stands-at (note ∷ ns) w run k m =
    stands-at ns (hosts_after_note note w) run.1 (stand-after note w k) (of-model-after note w (body_of note) (event-does w k m.0 m.1 run.0.0 note run.0.1) m)
