-- Meant for other crates too: they cite what is public here.
--
-- Each event that happens by itself lowers the work that is left.
use Rattle.std.proofs.Common.{◌≡◌, ◌≢◌, ◌≤◌, ◌<◌, ◌+◌, ℕ, zero, suc, ◌==◌, Bool, true, false, if◌then◌else◌, List, [], ◌∷◌, ◌++◌, length, Option, None, Some, Ok, refl, sym, ap, ◌∙◌, subst, arith}
use Rattle.std.proofs.lemmas.Bool.{both_ways, eq-eqb, eqb-true}
use Rattle.std.proofs.lemmas.List.{length-append}
use Rattle.ncp_slot.specs.Slots.{LinkSlot, slot_at}
use Rattle.ncp_wire.specs.declared.links.TheConstants.{FIRST_LINK, DATA_LINKS}
use Rattle.ncp_model.specs.Effect.{is_data_link}
use Rattle.ncp_proof_machine.specs.Delivery.{Link}
use Rattle.ncp_proof_machine.specs.Resets.{Party, This, That}
use Rattle.ncp_proof_machine.specs.Hosts.{TextOut, Node, NodeStep, TwoNodes, node_at, nodes_swapped, start}
use Rattle.ncp_leader.specs.declared.kinds.TheConstants.{RFNM, INCOMPLETE, DESTINATION_DEAD}
use Rattle.ncp_subnet.specs.Transit.{is_accepted, answer_kind}
use Rattle.ncp_subnet.specs.Messages.{arriving, answer_about}
use Rattle.ncp_subnet.proofs.Places.{transit_at-same}
use Rattle.ncp_peer.specs.PeerState.{PeerState}
use Rattle.ncp_transcript.specs.declared.note.HostNote.{HostNote}
use Rattle.ncp_transcript.specs.declared.call.Call.{Call}
use Rattle.ncp_transcript.specs.Noting.{note_of_bits, note_of_message}
use Rattle.ncp_host.specs.Turns.{next_output}
use Rattle.ncp_transcript_two.specs.Subnet.{Holds, TransitByLink, Free, Accepted, Delivered, Lost, Dead}
use Rattle.ncp_transcript.specs.Asked.{Asks_wake, Reply, Replied}
use Rattle.ncp_transcript_two.specs.World.{World, NoteBody, Called, at, WorldStep, moves, swap}
use Rattle.ncp_transcript_two.specs.Tie.{MessageState, Nowhere, Waits, Goes, Came, Failed, Died, Kept, slot_of, model_of, holds_of, OfMessage, LinkRefines, control_bits, text_as_message, AreCommands, IsTextOn, Represents, IsMove, Refines}
use Rattle.ncp_transcript_two.specs.declared.side.Side.{Side}
use Rattle.ncp_transcript_two.specs.declared.side.Side.TheVariants.{A, B}
use Rattle.ncp_transcript_two.specs.declared.event.Event.{Event}
use Rattle.ncp_transcript_two.specs.declared.note.Move.{Move}
use Rattle.ncp_transcript_two.specs.declared.note.Note.{Note}
use Rattle.ncp_transcript_two.specs.Between.{Hosts, other, side_number, host_of, transit_of, hosts_after_note, hosts_after_notes}
use Rattle.ncp_transcript_two.specs.Happening.{note_of_coming, note_of_answering, Noted}
use Rattle.ncp_transcript_two.specs.Transcript.{IsSaid, began, IsTranscript, Noted_world}
use Rattle.ncp_transcript_two.specs.Seen.{seen, as_rules, side_of, body_of, body_in, answer_body, call_body}
use Rattle.ncp_transcript_two.proofs.Ties.{IsFor, Leads, tied-swapped}
use Rattle.ncp_transcript_two.proofs.Runs.{moves-tie}
use Rattle.ncp_transcript_two.proofs.SeenSteps.{Stand}
use Rattle.ncp_transcript_two.proofs.SeenRuns.{DoesOn, event-does, stand-after}
use Rattle.ncp_transcript_two.proofs.Headlines.{new, stands}
use Rattle.ncp_proof_progress.specs.HostsWork.{work, BothFit, one_if_held, held_texts}
use Rattle.ncp_proof_progress.proofs.HostsWork.{at-fit, at-paid, counterpart-fit, start-fits, start-work}
use Rattle.ncp_proof_quiescence.specs.NotesWork.{notes_move, notes_allow}
use Rattle.ncp_proof_quiescence.proofs.Leading.{on-data}
use Rattle.ncp_proof_quiescence.proofs.Running.{note-on, starts, from}
use Rattle.ncp_proof_quiescence.specs.Settled.{is_held}
use Rattle.ncp_proof_quiescence.specs.Settling.{had_at, ByItself, AllByThemselves, GoesOn, IsWithinWork}

-- A wake moves one message at least where one is held.

held-among : (texts : ℕ → Link TextOut) (many first on : ℕ) → first ≤ on → on < first + many → one_if_held (texts on).slot ≡ 1 → 1 ≤ held_texts texts many first
unfolding held_texts
held-among texts zero first on l h e = absurd (omega (arith, l, h))
held-among texts (suc many) first on l h e = go (first == on) refl (λ m. held-among texts many (suc first) on m (omega (arith, h)) e)
  where
    go : (b : Bool) → (first == on) ≡ b → (suc first ≤ on → 1 ≤ held_texts texts many (suc first)) → 1 ≤ one_if_held (texts first).slot + held_texts texts many (suc first)
    go true z rest = let i : one_if_held (texts first).slot ≡ 1 = ap (λ (k : ℕ). one_if_held (texts k).slot) (eqb-true first on z) ∙ e in omega (arith, i)
    go false z rest =
        let apart : first ≢ on = λ s. both_ways (first == on) z (eq-eqb first on s) in
        let k = rest (omega (arith, l, apart)) in
        omega (arith, k)

held-slot : {M : Type 0} (write : M → List Bool) (P : M → Type 0) (l : Link M) (s : LinkSlot) (h : Holds) → LinkRefines write P l s h → is_held s ≡ true → (m : M) × P m × (one_if_held l.slot ≡ 1)
held-slot {M = M} write P l s h c k = go c.place c.model c.in_slot c.fits
  where
    go : (place : MessageState M) → l ≡ model_of place → s ≡ slot_of write place → OfMessage P place → (m : M) × P m × (one_if_held l.slot ≡ 1)
    go Nowhere a b f = absurd (both_ways (is_held s) (ap is_held b) k)
    go (Waits m) a b f = absurd (both_ways (is_held s) (ap is_held b) k)
    go (Goes m) a b f = absurd (both_ways (is_held s) (ap is_held b) k)
    go (Came m) a b f = absurd (both_ways (is_held s) (ap is_held b) k)
    go (Failed m) a b f = absurd (both_ways (is_held s) (ap is_held b) k)
    go (Died m) a b f = absurd (both_ways (is_held s) (ap is_held b) k)
    go (Kept m) a b f = (m, f, ap (λ (x : Link M). one_if_held x.slot) a)

wakes-one : (there : ℕ) (n : Node) (s : PeerState) (u : TransitByLink) → Represents there n s u → (on : ℕ) → is_held (slot_at s.slots on) ≡ true → 1 ≤ one_if_held n.control.slot + held_texts n.texts DATA_LINKS FIRST_LINK
wakes-one there n s u k on h = go (on == 0) refl
  where
    go : (b : Bool) → (on == 0) ≡ b → 1 ≤ one_if_held n.control.slot + held_texts n.texts DATA_LINKS FIRST_LINK
    go true z =
        let i = (held-slot (control_bits there) AreCommands n.control (slot_at s.slots 0) (u 0) k.control (subst (λ (j : ℕ). is_held (slot_at s.slots j) ≡ true) (eqb-true on 0 z) h)).2 in
        omega (arith, i)
    go false z =
        let t = held-slot (text_as_message there on) (IsTextOn on) (n.texts on) (slot_at s.slots on) (u on) (k.texts on z) h in
        let d : is_data_link on ≡ true = on-data on z t.1.0 in
        let l : FIRST_LINK ≤ on = grind (arith, d) in
        let m : on < FIRST_LINK + DATA_LINKS = grind (arith, d) in
        let i = held-among n.texts DATA_LINKS FIRST_LINK on l m t.2 in
        omega (arith, i)

-- the model goes on to a world for which this one stands, with less work
abbrev Lowered : World → TwoNodes → Type 0
Lowered v x = (y : TwoNodes) × Refines y v × BothFit y × (work y + 1 ≤ work x)

wake-by : (reply : Reply) (side : Party) (step : NodeStep) (x y : TwoNodes) → BothFit x → IsFor (Called Asks_wake reply) side step x → node_at side step x ≡ y
    → 1 ≤ one_if_held x.this.control.slot + held_texts x.this.texts DATA_LINKS FIRST_LINK → BothFit y × (work y + 1 ≤ work x)
wake-by reply This NodeStep.Wakes x y b f e m =
    let p = at-paid This NodeStep.Wakes x b tt in
    subst (λ (z : TwoNodes). BothFit z × (work z + 1 ≤ work x)) e (at-fit This NodeStep.Wakes x b, omega (arith, p, m))
wake-by reply side step x y b f e m = absurd f

-- what a side holds, as it is seen from there
abbrev HoldsAt : Party → World → Type 0
HoldsAt This v = (on : ℕ) × (is_held (slot_at v.this.slots on) ≡ true)
HoldsAt That v = (on : ℕ) × (is_held (slot_at v.that.slots on) ≡ true)

wake-moves : (reply : Reply) (st : WorldStep) (v : World) (x : TwoNodes) → IsMove st → Refines x v → BothFit x → (moves st v).1 ≡ Called Asks_wake reply → HoldsAt This v → Lowered (moves st v).0 x
wake-moves reply st v x ok t b is h =
    let r = moves-tie st x v ok t in
    let l : Leads (Called Asks_wake reply) x r.0 = subst (λ (told : NoteBody). Leads told x r.0) is r.4 in
    let p = wake-by reply l.0 l.1 x r.0 b l.2 l.3 (wakes-one v.there x.this v.this v.going t.this h.0 h.1) in
    (r.0, r.1, p.0, p.1)

wake-on : (reply : Reply) (side : Party) (st : WorldStep) (v : World) (x : TwoNodes) → IsMove st → Refines x v → BothFit x → (at side st v).1 ≡ Called Asks_wake reply → HoldsAt side v → Lowered (at side st v).0 x
wake-on reply This st v x ok t b is h = wake-moves reply st v x ok t b is h
wake-on reply That st v x ok t b is h =
    let r = wake-moves reply st (swap v) (nodes_swapped x) ok (tied-swapped x v t) (counterpart-fit x b) is h in
    let q = r.3 in
    (nodes_swapped r.0, tied-swapped r.0 (moves st (swap v)).0 r.1, counterpart-fit r.0 r.2, omega (arith, q))

-- A message that comes, and one that is answered, changes what is in transit; so its note tells of it.

never-came : (side : Side) (link : ℕ) (n : HostNote) (w : Hosts) → is_accepted (transit_of side link w) ≡ true → seen (hosts_after_note (Note.Came side link n) w) ≡ seen w → ⊥
never-came A link n w a e =
    both_ways (is_accepted (transit_of A link w)) (sym (ap (λ (v : World). is_accepted (v.going link)) e) ∙ ap is_accepted (transit_at-same w.subnet w.number_a w.number_b link Delivered)) a
never-came B link n w a e =
    both_ways (is_accepted (transit_of B link w)) (sym (ap (λ (v : World). is_accepted (v.coming link)) e) ∙ ap is_accepted (transit_at-same w.subnet w.number_b w.number_a link Delivered)) a

never-answered : (side : Side) (link kind : ℕ) (n : HostNote) (w : Hosts) → answer_kind (transit_of side link w) ≡ Some kind → seen (hosts_after_note (Note.Answered side link n) w) ≡ seen w → ⊥
never-answered A link kind n w a e =
    let none : Some kind ≡ None = sym a ∙ sym (ap (λ (v : World). answer_kind (v.going link)) e) ∙ ap answer_kind (transit_at-same w.subnet w.number_a w.number_b link Free) in
    absurd (cc none)
never-answered B link kind n w a e =
    let none : Some kind ≡ None = sym a ∙ sym (ap (λ (v : World). answer_kind (v.coming link)) e) ∙ ap answer_kind (transit_at-same w.subnet w.number_b w.number_a link Free) in
    absurd (cc none)

accepted-of : (number : ℕ) (t : Holds) (bits : List Bool) → arriving number t ≡ Some bits → is_accepted t ≡ true
accepted-of number Free bits e = absurd (cc e)
accepted-of number (Accepted m) bits e = refl
accepted-of number Delivered bits e = absurd (cc e)
accepted-of number Lost bits e = absurd (cc e)
accepted-of number Dead bits e = absurd (cc e)

kind-of : (number link : ℕ) (t : Holds) (bits : List Bool) → answer_about number link t ≡ Some bits → (kind : ℕ) × (answer_kind t ≡ Some kind)
kind-of number link Free bits e = absurd (cc e)
kind-of number link (Accepted m) bits e = absurd (cc e)
kind-of number link Delivered bits e = (RFNM, refl)
kind-of number link Lost bits e = (INCOMPLETE, refl)
kind-of number link Dead bits e = (DESTINATION_DEAD, refl)

-- One event.

module _ (w : Hosts) (k : Stand w) (x : TwoNodes) (t : Refines x (seen w)) (b : BothFit x) where
  abbrev Does : Note → Type 0
  Does note = DoesOn (as_rules (side_of note)) (body_of note) (seen w) (seen (hosts_after_note note w))

  abbrev Pays : Note → Type 0
  Pays note = Does note → ByItself note w → Lowered (seen (hosts_after_note note w)) x

  out-pays : (side : Side) (o : Option (List Bool)) → Pays (Note.Out side (note_of_message o))
  out-pays side None d own = absurd own
  out-pays side (Some m) d own = let r = note-on (Note.Out side (HostNote.Out m)) w x (body_of (Note.Out side (HostNote.Out m))) d t b in let i = r.3 in (r.0, r.1, r.2, omega (arith, i))

  came-pays : (side : Side) (link : ℕ) (n : HostNote) → is_accepted (transit_of side link w) ≡ true → Pays (Note.Came side link n)
  came-pays side link (HostNote.In m received) a d own =
      let note : Note = Note.Came side link (HostNote.In m received) in
      let r = note-on note w x (body_of note) d t b in
      let i = r.3 in
      (r.0, r.1, r.2, omega (arith, i))
  came-pays side link n a d own = absurd (never-came side link n w a d)

  answer-pays : (side : Side) (link kind : ℕ) (n : HostNote) → answer_kind (transit_of side link w) ≡ Some kind → Pays (Note.Answered side link n)
  answer-pays side link kind (HostNote.Answered peer on answer received) a d own =
      let note : Note = Note.Answered side link (HostNote.Answered peer on answer received) in
      let r = note-on note w x (body_of note) d t b in
      let i = r.3 in
      (r.0, r.1, r.2, omega (arith, i))
  answer-pays side link kind n a d own = absurd (never-answered side link kind n w a d)

  came-of : (side : Side) (link : ℕ) (o : Option (List Bool)) → arriving (side_number side w) (transit_of side link w) ≡ o → Pays (note_of_coming side link o w)
  came-of side link None e d own = absurd own
  came-of side link (Some bits) e d own = came-pays side link (note_of_bits bits (host_of (other side) w)) (accepted-of (side_number side w) (transit_of side link w) bits e) d own

  answer-of : (side : Side) (link : ℕ) (o : Option (List Bool)) → answer_about (side_number (other side) w) link (transit_of side link w) ≡ o → Pays (note_of_answering side link o w)
  answer-of side link None e d own = absurd own
  answer-of side link (Some bits) e d own =
      let a = kind-of (side_number (other side) w) link (transit_of side link w) bits e in
      answer-pays side link a.0 (note_of_bits bits (host_of side w)) a.1 d own

  holds-at : (side : Side) → (on : ℕ) × (is_held (slot_at (had_at side w).slots on) ≡ true) → HoldsAt (as_rules side) (seen w)
  holds-at A h = h
  holds-at B h = h

  call-pays : (side : Side) (n : HostNote) → Pays (Note.Called side n)
  call-pays side (HostNote.Done (Call.Wake peer)) (st, ok, is) own =
      let r = wake-on (Replied (Ok tt)) (as_rules side) st (seen w) x ok t b (ap (λ (d : World × NoteBody). d.1) is) (holds-at side own) in
      subst (λ (d : World × NoteBody). Lowered d.0 x) is r
  call-pays side n d own = absurd own

  lost-pays : (side : Side) (link : ℕ) (yes : Bool) → Pays (if yes then Note.Lost side link else Note.Nothing side link Move.Lose)
  lost-pays side link true d own = absurd own
  lost-pays side link false d own = absurd own

  dead-pays : (side : Side) (link : ℕ) (yes : Bool) → Pays (if yes then Note.FoundDead side link else Note.Nothing side link Move.Dead)
  dead-pays side link true d own = absurd own
  dead-pays side link false d own = absurd own

  pays : (event : Event) (note : Note) → Noted event note w → Pays note
  pays (Event.Call side call) note n = subst Pays (sym n.said) (call-pays side n.of_host)
  pays (Event.Out side) note n = subst Pays (sym n) (out-pays side (next_output (host_of side w)))
  pays (Event.Deliver side link) note n = subst Pays (sym n) (came-of side link (arriving (side_number side w) (transit_of side link w)) refl)
  pays (Event.Lose side link) note n = subst Pays (sym n) (lost-pays side link (is_accepted (transit_of side link w)))
  pays (Event.Dead side link) note n = subst Pays (sym n) (dead-pays side link (is_accepted (transit_of side link w)))
  pays (Event.Answer side link) note n = subst Pays (sym n) (answer-of side link (answer_about (side_number (other side) w) link (transit_of side link w)) refl)

  once : (note : Note) → IsSaid note w → ByItself note w → Lowered (seen (hosts_after_note note w)) x
  once note said own = pays said.0 note said.1 (event-does w k x t said.0 note said.1) own

-- All of them.

all-paid : (ns : List Note) (w : Hosts) (x : TwoNodes) → AllByThemselves ns w → Stand w → Refines x (seen w) → BothFit x → length ns ≤ work x
all-paid [] w x a k t b = omega arith
all-paid (note ∷ ns) w x a k t b =
    let r = once w k x t b note a.0 a.1 in
    let i = r.3 in
    let q = all-paid ns (hosts_after_note note w) r.0 a.2 (stand-after note w k) r.1 r.2 in
    omega (arith, i, q)

pub within : (before now : Noted_world) → IsTranscript before.notes before.hosts → GoesOn before now → IsWithinWork before now
within before now t (made, a, longer, after) =
    let ns : List Note = before.notes in
    let w : Hosts = before.hosts in
    let f = from ns (began w) start t.run (stands ns w t) (starts (seen (began w)) (new ns w t)) start-fits in
    let x : TwoNodes = f.1.0 in
    let i = f.1.3 in
    let z = start-work in
    let tied : Refines x (seen w) = subst (λ (h : Hosts). Refines x (seen h)) (sym t.state) f.1.1 in
    let l = all-paid made w x a (subst Stand (sym t.state) f.0) tied f.1.2 in
    let many : length now.notes ≡ length ns + length made = ap length longer ∙ length-append ns made in
    (x, tied, omega (arith, i, z), omega (arith, l, many))
