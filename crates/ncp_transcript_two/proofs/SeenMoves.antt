-- What the subnet does is what the rules say, seen of side A.
use Rattle.std.proofs.Common.{◌≡◌, ◌<◌, ◌≤◌, ℕ, ◌==◌, ◌^◌, Bool, true, false, nat_le, nat_lt, if◌then◌else◌, List, length, Option, None, Some, Result, Ok, Err, refl, sym, ap, ◌∙◌, arith, subst}
use Rattle.std.proofs.lemmas.Bool.{eqb-true, ltb-false}
use Rattle.ncp_numbers.specs.Bytes.{bits_of_bytes}
use Rattle.ncp_wire.specs.Spelling.{spellings}
use Rattle.ncp_leader.specs.declared.leader.Leader.{Leader}
use Rattle.ncp_leader.specs.declared.leader.TheConstants.{LEADER_BITS}
use Rattle.ncp_leader.specs.declared.leader.Short.{Short}
use Rattle.ncp_leader.specs.Leader.{leader_in, leader_at}
use Rattle.ncp_wire.specs.declared.answer.Answer.{Answer}
use Rattle.ncp_wire.specs.declared.answer.Answer.TheVariants.{Rfnm, Incomplete}
use Rattle.ncp_wire.specs.declared.answer.Answer.TheVariants as answer_kinds
use Rattle.ncp_slot.specs.Slots.{LinkSlot, slot_at}
use Rattle.ncp_slot.specs.declared.slot.Slot.TheVariants as slots
use Rattle.ncp_proof_machine.specs.Delivery.{Link}
use Rattle.ncp_model.specs.Peers.{Peer}
use Rattle.ncp_proof_machine.specs.Hosts.{TextOut}
use Rattle.ncp_proof_machine.specs.Hosts as hosts
use Rattle.ncp_peer.specs.PeerState.{PeerState, answer_comes}
use Rattle.ncp_leader.specs.Message.{message_in}
use Rattle.ncp_transcript.specs.Noting.{is_answer}
use Rattle.ncp_peer.specs.Hearing.{is_wrong_link, is_kind, message_after, answer_of, rfnm, incomplete, destination_dead}
use Rattle.ncp_host.specs.Host.{changed}
use Rattle.ncp_host.specs.Arrivals as arrivals
use Rattle.ncp_peer.specs.Output.{next_of, message_on, leader_to, after_output, after_next, output_by, links}
use Rattle.ncp_host.specs.Turns.{after_next_output}
use Rattle.ncp_leader.specs.declared.kinds.TheConstants.{REGULAR}
use Rattle.ncp_subnet.specs.Messages.{arriving, answer_about, host_in}
use Rattle.ncp_subnet.specs.Transit.{is_free, is_accepted}
use Rattle.ncp_subnet.specs.Ways.{OnLink}
use Rattle.ncp_subnet.specs.Subnet.{Subnet, has_way, transit_at, with_transit}
use Rattle.ncp_transcript.specs.declared.note.HostNote.{HostNote}
use Rattle.ncp_transcript.specs.declared.note.HostNote.TheVariants as of_host
use Rattle.ncp_transcript.specs.Noting.{note_of_bits, note_of_message, note_of_output}
use Rattle.ncp_transcript_two.specs.Subnet.{Holds, Free, Accepted, Delivered, Lost, Dead, set_at, link_in, from_host, answer_bits}
use Rattle.ncp_transcript_two.specs.World.{World, NoteBody, Out, In, Went_lost, Went_dead, Answered, Nothing, Goes_out, Is_delivered, Is_lost, Finds_dead, Is_answered, goes, delivers, loses, dies, answers_for}
use Rattle.ncp_transcript_two.specs.World as worlds
use Rattle.ncp_transcript_two.specs.Tie.{MessageState, Nowhere, Waits, Goes, Came, Failed, Died, Kept, slot_of, holds_of, LinkRefines, control_bits, text_as_message, AreCommands, IsTextOn, Refines}
use Rattle.ncp_transcript_two.specs.declared.side.Side.TheVariants.{A}
use Rattle.ncp_transcript_two.specs.declared.note.Move.TheVariants as wanted
use Rattle.ncp_transcript_two.specs.declared.note.Note.{Note}
use Rattle.ncp_transcript_two.specs.declared.note.Note.TheVariants as notes
use Rattle.ncp_transcript_two.specs.Between.{Hosts, is_regular, accepted_from, sent_out, hosts_after_note}
use Rattle.ncp_transcript_two.specs.Happening.{note_of_coming, note_of_answering}
use Rattle.ncp_transcript_two.specs.Seen.{had_for, seen, body_out, body_of}
use Rattle.ncp_transcript_two.proofs.Accepting.{taken_yes, both, of_le}
use Rattle.ncp_transcript_two.proofs.OnePeer.{had-changed, next-message, had-sent, received-same, had-received, noted-message, noted-answer}
use Rattle.ncp_transcript_two.proofs.Links.{set_at-same, Comes, delivered}
use Rattle.ncp_transcript_two.proofs.Comings.{small}
use Rattle.ncp_transcript_two.proofs.Goings.{Found, found, not_true, links-right, out-ties}
use Rattle.ncp_transcript_two.proofs.Flights.{out-link, delivered-out, lost-out, dead-out}
use Rattle.ncp_transcript_two.proofs.Written.{led, from_host-message, control_text, answer_leader, answer-led}
use Rattle.ncp_transcript_two.proofs.SeenSteps.{Stand, Does, seen_with}

-- The leader of a message that the subnet has, as it was sent and as it comes.

pub sent-led : (on : ℕ) (x : hosts.TwoNodes) (v : World) (m : List Bool) → Refines x v → v.going on ≡ Accepted m → (leader_in m ≡ Ok (leader_to v.there on)) × (leader_in (from_host v.here m) ≡ Ok (leader_to v.here on))
sent-led on x v m t e = go (on == 0) refl
  where
    by_control : v.going 0 ≡ Accepted m → (leader_in m ≡ Ok (leader_to v.there 0)) × (leader_in (from_host v.here m) ≡ Ok (leader_to v.here 0))
    by_control e =
        let c : Comes (control_bits v.there) AreCommands x.this.control (slot_at v.this.slots 0) m = delivered (control_bits v.there) AreCommands x.this.control (slot_at v.this.slots 0) (v.going 0) m t.this.control e in
        let text : List Bool = bits_of_bytes (spellings c.what) in (
          ap leader_in c.written ∙ led v.there 0 8 text t.this.number (omega arith) (control_text c.what c.fits),
          ap (λ (b : List Bool). leader_in (from_host v.here b)) c.written ∙ ap leader_in (from_host-message v.here v.there 0 8 text) ∙ led v.here 0 8 text t.that.number (omega arith) (control_text c.what c.fits),
        )

    go : (b : Bool) → (on == 0) ≡ b → (leader_in m ≡ Ok (leader_to v.there on)) × (leader_in (from_host v.here m) ≡ Ok (leader_to v.here on))
    go true z = subst (λ (k : ℕ). v.going k ≡ Accepted m → (leader_in m ≡ Ok (leader_to v.there k)) × (leader_in (from_host v.here m) ≡ Ok (leader_to v.here k))) (sym (eqb-true on 0 z)) by_control e
    go false z =
        let c : Comes (text_as_message v.there on) (IsTextOn on) (x.this.texts on) (slot_at v.this.slots on) m = delivered (text_as_message v.there on) (IsTextOn on) (x.this.texts on) (slot_at v.this.slots on) (v.going on) m (t.this.texts on z) e in (
          ap leader_in c.written ∙ led v.there on c.what.of_size c.what.bits t.this.number (small on c.fits.0) c.fits.1,
          ap (λ (b : List Bool). leader_in (from_host v.here b)) c.written ∙ ap leader_in (from_host-message v.here v.there on c.what.of_size c.what.bits) ∙ led v.here on c.what.of_size c.what.bits t.that.number (small on c.fits.0) c.fits.1,
        )

pub leader-parts : (m : List Bool) (l : Leader) → leader_in m ≡ Ok l → (nat_le LEADER_BITS (length m) ≡ true) × (leader_at m ≡ l)
leader-parts m l e = go (nat_lt (length m) LEADER_BITS) refl e
  where
    go : (b : Bool) → nat_lt (length m) LEADER_BITS ≡ b → ◌≡◌ {A = Result Leader Short} (if b then Err (record {}) else Ok (leader_at m)) (Ok l) → (nat_le LEADER_BITS (length m) ≡ true) × (leader_at m ≡ l)
    go true h e = absurd (cc e)
    go false h e = (of_le LEADER_BITS (length m) (ltb-false (length m) LEADER_BITS h), cc e)

-- A message goes out: its link is free.

free-of : {M : Type 0} (write : M → List Bool) (P : M → Type 0) (l : Link M) (s : LinkSlot) (h : Holds) → LinkRefines write P l s h → (number on : ℕ) (p : Peer) (m : List Bool) → output_by s number on p ≡ Some m → h ≡ Free
free-of write P l s h c number on p m o = go c.place c.in_slot c.in_subnet
  where
    stuck : (r : List Bool) → s ≡ slots.Travelling r → h ≡ Free
    stuck r e = let none : None ≡ Some m = ap (λ (x : LinkSlot). output_by x number on p) (sym e) ∙ o in absurd (cc none)

    held : (r : List Bool) → s ≡ slots.Held r → h ≡ Free
    held r e = let none : None ≡ Some m = ap (λ (x : LinkSlot). output_by x number on p) (sym e) ∙ o in absurd (cc none)

    go : (place : MessageState _) → s ≡ slot_of write place → h ≡ holds_of write place → h ≡ Free
    go Nowhere a b = b
    go (Waits x) a b = b
    go (Goes x) a b = stuck (write x) a
    go (Came x) a b = stuck (write x) a
    go (Failed x) a b = stuck (write x) a
    go (Died x) a b = stuck (write x) a
    go (Kept x) a b = held (write x) a

pub record Leaves (v : World) (out : ℕ × List Bool) : Type 0 where
  led : leader_in out.1 ≡ Ok (leader_to v.there (link_in out.1))
  free : v.going (link_in out.1) ≡ Free

pub leaves : (x : hosts.TwoNodes) (v : World) (out : ℕ × List Bool) → Refines x v → next_of v.there v.this ≡ Some out → Leaves v out
leaves x v out t e = record { led = first; free = subst (λ (k : ℕ). v.going k ≡ Free) (sym link) (go (out.0 == 0) refl) }
  where
    f : Found v.there v.this out
    f = found v.there links v.this out e links-right

    right : is_wrong_link out.0 ≡ false
    right = not_true (is_wrong_link out.0) f.0

    link : link_in out.1 ≡ out.0
    link = out-link out.0 x v out.1 (slot_at v.this.slots out.0) right t refl f.1

    first : leader_in out.1 ≡ Ok (leader_to v.there (link_in out.1))
    first =
        let after = out-ties x v out t e in
        (sent-led (link_in out.1) after.0 (record v { this = after_output out.0 out.1 v.this; going = set_at (link_in out.1) (Accepted out.1) v.going }) out.1 after.1 (set_at-same (link_in out.1) (Accepted out.1) v.going)).0

    go : (b : Bool) → (out.0 == 0) ≡ b → v.going out.0 ≡ Free
    go true z =
        let zero : out.0 ≡ 0 = eqb-true out.0 0 z in
        ap v.going zero ∙ free-of (control_bits v.there) AreCommands x.this.control (slot_at v.this.slots 0) (v.going 0) t.this.control v.there out.0 v.this.peer out.1 (ap (λ (k : ℕ). output_by (slot_at v.this.slots k) v.there out.0 v.this.peer) (sym zero) ∙ f.1)
    go false z = free-of (text_as_message v.there out.0) (IsTextOn out.0) (x.this.texts out.0) (slot_at v.this.slots out.0) (v.going out.0) (t.this.texts out.0 z) v.there out.0 v.this.peer out.1 f.1

module _ (w : Hosts) (k : Stand w) (x : hosts.TwoNodes) (t : Refines x (seen w)) where
  takes : (out : ℕ × List Bool) → next_of w.number_b (had_for w.number_b w.a) ≡ Some out → accepted_from w.number_a out.1 w.subnet ≡ with_transit w.subnet w.number_a w.number_b (link_in out.1) (Accepted out.1)
  takes out e =
      let m : List Bool = out.1 in
      let go : Leaves (seen w) out = leaves x (seen w) out t e in
      let parts : (nat_le LEADER_BITS (length m) ≡ true) × (leader_at m ≡ leader_to w.number_b (link_in m)) = leader-parts m (leader_to w.number_b (link_in m)) go.led in
      let to_b : host_in m ≡ w.number_b = ap (λ (l : Leader). l.host) parts.1 in
      let regular : is_regular m ≡ true = both _ _ parts.0 (ap (λ (l : Leader). l.kind == REGULAR) parts.1) in
      let way : has_way w.subnet w.number_a (host_in m) ≡ true = ap (has_way w.subnet w.number_a) to_b ∙ k.to_b in
      let free : is_free (transit_at w.subnet w.number_a (host_in m) (link_in m)) ≡ true = ap (λ (n : ℕ). is_free (transit_at w.subnet w.number_a n (link_in m))) to_b ∙ ap (λ (o : OnLink). is_free o) go.free in
      taken_yes w.subnet w.number_a m (both _ _ (both _ _ regular way) free)
      ∙ ap (λ (n : ℕ). with_transit w.subnet w.number_a n (link_in m) (Accepted m)) to_b

  abbrev Sends : HostNote → Type 0
  Sends n = Does (Some (body_out n)) (seen w) (seen (sent_out A n w))

  pub out-does : Sends (note_of_output w.a)
  out-does = go (next_of w.number_b (had_for w.number_b w.a)) refl
    where
      go : (o : Option (ℕ × List Bool)) → next_of w.number_b (had_for w.number_b w.a) ≡ o → Sends (note_of_output w.a)
      go None e = subst Sends (sym (ap note_of_message (next-message w.number_b w.a k.a ∙ ap message_on e))) (Goes_out, tt, ap (λ (o : Option (ℕ × List Bool)). goes o (seen w)) e)
      go (Some out) e =
          let m : List Bool = out.1 in
          let after : PeerState = after_output out.0 m (had_for w.number_b w.a) in
          let sent : had_for w.number_b (after_next_output w.a) ≡ after = had-sent w.number_b w.a k.a ∙ ap (λ (o : Option (ℕ × List Bool)). after_next o (had_for w.number_b w.a)) e in
          let is : seen (sent_out A (of_host.Out m) w) ≡ record (seen w) { this = after; going = set_at (link_in m) (Accepted m) (seen w).going } =
          ap (λ (s : Subnet). (let y : Hosts = record w { a = after_next_output w.a; subnet = s } in seen y)) (takes out e)
          ∙ seen_with w k.differ (link_in m) (Accepted m) (after_next_output w.a) w.b after (had_for w.number_a w.b) sent refl in
          subst Sends (sym (ap note_of_message (next-message w.number_b w.a k.a ∙ ap message_on e)))
          (Goes_out, tt, ap (λ (o : Option (ℕ × List Bool)). goes o (seen w)) e ∙ ap (λ (y : World). (y, Out m)) (sym is))

  -- A message comes.

  abbrev Comes_as : ℕ → Note → Type 0
  Comes_as link n = Does (body_of n) (seen w) (seen (hosts_after_note n w))

  pub deliver-does : (link : ℕ) (h : Holds) → (seen w).going link ≡ h → Comes_as link (note_of_coming A link (arriving w.number_a h) w)
  deliver-does link Free e = (Is_delivered link, tt, ap (λ (h : Holds). delivers link h (seen w)) e)
  deliver-does link Delivered e = (Is_delivered link, tt, ap (λ (h : Holds). delivers link h (seen w)) e)
  deliver-does link Lost e = (Is_delivered link, tt, ap (λ (h : Holds). delivers link h (seen w)) e)
  deliver-does link Dead e = (Is_delivered link, tt, ap (λ (h : Holds). delivers link h (seen w)) e)
  deliver-does link (Accepted m) e =
      let bits : List Bool = from_host w.number_a m in
      let l : Leader = leader_to w.number_a link in
      let front : leader_in bits ≡ Ok l = (sent-led link x (seen w) m t e).1 in
      let that : had_for w.number_a (arrivals.after_received bits w.b) ≡ worlds.state_after_received bits (had_for w.number_a w.b) = had-received w.b bits l k.b front refl in
      let got : arrivals.received_in bits w.b ≡ worlds.received bits (had_for w.number_a w.b) = received-same w.b bits l k.b front refl in
      subst (λ (n : HostNote). Comes_as link (notes.Came A link n)) (sym (noted-message w.b bits l front refl)) (
        Is_delivered link,
        tt,
        ap (λ (h : Holds). delivers link h (seen w)) e
            ∙ (λ i. (sym (seen_with w k.differ link Delivered w.a (arrivals.after_received bits w.b) (had_for w.number_b w.a) (worlds.state_after_received bits (had_for w.number_a w.b)) refl that) i, In link bits (sym got i))),
      )

  -- It is lost, or finds its destination dead.

  pub lose-does : (link : ℕ) (h : Holds) → (seen w).going link ≡ h → Comes_as link (if is_accepted h then notes.Lost A link else notes.Nothing A link wanted.Lose)
  lose-does link Free e = (Is_lost link, tt, ap (λ (h : Holds). loses link h (seen w)) e)
  lose-does link Delivered e = (Is_lost link, tt, ap (λ (h : Holds). loses link h (seen w)) e)
  lose-does link Lost e = (Is_lost link, tt, ap (λ (h : Holds). loses link h (seen w)) e)
  lose-does link Dead e = (Is_lost link, tt, ap (λ (h : Holds). loses link h (seen w)) e)
  lose-does link (Accepted m) e = (
    Is_lost link,
    tt,
    ap (λ (h : Holds). loses link h (seen w)) e ∙ ap (λ (y : World). (y, Went_lost link)) (sym (seen_with w k.differ link Lost w.a w.b (had_for w.number_b w.a) (had_for w.number_a w.b) refl refl)),
  )

  pub die-does : (link : ℕ) (h : Holds) → (seen w).going link ≡ h → Comes_as link (if is_accepted h then notes.FoundDead A link else notes.Nothing A link wanted.Dead)
  die-does link Free e = (Finds_dead link, tt, ap (λ (h : Holds). dies link h (seen w)) e)
  die-does link Delivered e = (Finds_dead link, tt, ap (λ (h : Holds). dies link h (seen w)) e)
  die-does link Lost e = (Finds_dead link, tt, ap (λ (h : Holds). dies link h (seen w)) e)
  die-does link Dead e = (Finds_dead link, tt, ap (λ (h : Holds). dies link h (seen w)) e)
  die-does link (Accepted m) e = (
    Finds_dead link,
    tt,
    ap (λ (h : Holds). dies link h (seen w)) e ∙ ap (λ (y : World). (y, Went_dead link)) (sym (seen_with w k.differ link Dead w.a w.b (had_for w.number_b w.a) (had_for w.number_a w.b) refl refl)),
  )

  -- It is answered.

  answers : (link kind : ℕ) (how : Answer) → link < 2 ^ 8 → kind ≤ 15 → is_answer kind ≡ true → is_kind kind ≡ true → answer_of kind ≡ how
      → answers_for link ((seen w).going link) (seen w) ≡ worlds.world_answers link how (answer_bits kind w.number_b link) (seen w)
      → Comes_as link (notes.Answered A link (note_of_bits (answer_bits kind w.number_b link) w.a))
  answers link kind how small few is says name does =
      let bits : List Bool = answer_bits kind w.number_b link in
      let l : Leader = answer_leader kind w.number_b link in
      let front : leader_in bits ≡ Ok l = answer-led kind w.number_b link (record { flags = omega arith; kind = few; host = k.fits_b; link = small; low = omega arith }) in
      let got : arrivals.received_in bits w.a ≡ worlds.received bits (had_for w.number_b w.a) = received-same w.a bits l k.a front says in
      let this : had_for w.number_b (changed w.number_b (answer_comes link (answer_of kind)) w.a) ≡ worlds.state_after_received bits (had_for w.number_b w.a) =
      had-changed w.number_b (answer_comes link (answer_of kind)) w.a k.a ∙ sym (answer-comes kind link few small is) in
      subst (λ (n : HostNote). Comes_as link (notes.Answered A link n)) (sym (noted-answer w.a bits l k.a front is)) (
        Is_answered link,
        tt,
        does
            ∙ (λ i. (sym (seen_with w k.differ link Free (changed w.number_b (answer_comes link (answer_of kind)) w.a) w.b (worlds.state_after_received bits (had_for w.number_b w.a)) (had_for w.number_a w.b) this refl) i, Answered link (sym name i) (sym got i))),
      )
    where
      answer-comes : (kind link : ℕ) → kind ≤ 15 → link < 2 ^ 8 → is_answer kind ≡ true → worlds.state_after_received (answer_bits kind w.number_b link) (had_for w.number_b w.a) ≡ answer_comes link (answer_of kind) (had_for w.number_b w.a)
      answer-comes kind link few small is =
          let l : Leader = answer_leader kind w.number_b link in
          let bits : List Bool = answer_bits kind w.number_b link in
          let no : (kind == 0) ≡ false = grind (arith, is) in
          ap (λ (r : Result Leader _). worlds.state_after_with r bits (had_for w.number_b w.a)) (answer-led kind w.number_b link (record { flags = omega arith; kind = few; host = k.fits_b; link = small; low = omega arith }))
          ∙ ap (λ (b : Bool). if b then message_after link bits (message_in bits) (had_for w.number_b w.a) else answer_comes link (answer_of kind) (had_for w.number_b w.a)) no

  pub answer-does : (link : ℕ) (h : Holds) → (seen w).going link ≡ h → Comes_as link (note_of_answering A link (answer_about w.number_b link h) w)
  answer-does link Free e = (Is_answered link, tt, ap (λ (h : Holds). answers_for link h (seen w)) e)
  answer-does link (Accepted m) e = (Is_answered link, tt, ap (λ (h : Holds). answers_for link h (seen w)) e)
  answer-does link Delivered e = answers link rfnm Rfnm (delivered-out link x (seen w) t e).fits (omega arith) refl refl refl (ap (λ (h : Holds). answers_for link h (seen w)) e)
  answer-does link Lost e = answers link incomplete Incomplete (lost-out link x (seen w) t e).fits (omega arith) refl refl refl (ap (λ (h : Holds). answers_for link h (seen w)) e)
  answer-does link Dead e = answers link destination_dead answer_kinds.Dead (dead-out link x (seen w) t e).fits (omega arith) refl refl refl (ap (λ (h : Holds). answers_for link h (seen w)) e)
