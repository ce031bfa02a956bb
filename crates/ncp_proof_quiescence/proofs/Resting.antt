-- Meant for other crates too: they cite what is public here.
--
-- Where a side has nothing ready, its lowest link that keeps a message moves, or holds it; and where none keeps one,
-- nothing of the side is ready, in transit or held.
use Rattle.std.proofs.Common.{◌≡◌, ◌≤◌, ℕ, ◌==◌, Bool, true, false, List, [], ◌∷◌, Option, None, Some, Ok, is_some, inl, inr, refl, sym, ap, ◌∙◌, subst}
use Rattle.std.proofs.lemmas.Bool.{both_ways, eqb-true}
use Rattle.ncp_slot.specs.declared.slot.Slot.{Slot}
use Rattle.ncp_wire.specs.declared.links.TheConstants.{LAST_LINK}
use Rattle.ncp_slot.specs.Slot.{kept_message}
use Rattle.ncp_slot.specs.Slots.{HasSlot, LinkSlot, slot_at}
use Rattle.ncp_slot.proofs.Places.{slot_at-no_slots}
use Rattle.ncp_proof_machine.specs.Hosts.{Node, run}
use Rattle.ncp_subnet.specs.Transit.{is_accepted, answer_kind}
use Rattle.ncp_subnet.specs.Messages.{arriving, answer_about}
use Rattle.ncp_proof_machine.specs.Delivery.{Link}
use Rattle.ncp_peer.specs.PeerState.{PeerState}
use Rattle.ncp_host.specs.Host.{Host, numbers_of, state_of, is_one_of, if_known}
use Rattle.ncp_peer.specs.PeerCalls.{kept_for}
use Rattle.ncp_peer.specs.Hearing.{is_wrong_link}
use Rattle.ncp_peer.specs.Output.{next_of, message_on, output_by, output_on, links}
use Rattle.ncp_host.specs.Turns.{next_output}
use Rattle.ncp_proof_runs.proofs.Ready.{none_is}
use Rattle.ncp_transcript.specs.declared.call.Call.{Call}
use Rattle.ncp_transcript.specs.declared.note.HostNote.{HostNote}
use Rattle.ncp_transcript.specs.Notes.{done_or_refused}
use Rattle.ncp_transcript.specs.Noting.{CallNoted, note_of_message}
use Rattle.ncp_transcript_two.specs.Subnet.{Holds, TransitByLink, Free, Accepted, Delivered, Lost, Dead}
use Rattle.ncp_transcript_two.specs.Tie.{MessageState, Nowhere, Waits, Goes, Came, Failed, Died, Kept, slot_of, holds_of, OfMessage, LinkRefines, control_bits, text_as_message, AreCommands, IsTextOn, Represents}
use Rattle.ncp_transcript_two.specs.declared.side.Side.{Side}
use Rattle.ncp_transcript_two.specs.declared.side.Side.TheVariants.{A, B}
use Rattle.ncp_transcript_two.specs.declared.event.Event.{Event}
use Rattle.ncp_transcript_two.specs.declared.note.Note.{Note}
use Rattle.ncp_transcript_two.specs.Between.{Hosts, other, side_number, host_of, transit_of, hosts_after_note, hosts_after_notes}
use Rattle.ncp_transcript_two.specs.Happening.{note_of_coming, note_of_answering, Noted}
use Rattle.ncp_transcript_two.specs.Transcript.{began, IsTranscript, Noted_world}
use Rattle.ncp_transcript_two.specs.Seen.{state_or_new, seen}
use Rattle.ncp_transcript_two.proofs.OnePeer.{next-message}
use Rattle.ncp_transcript_two.proofs.SeenSteps.{Stand}
use Rattle.ncp_transcript_two.proofs.SeenRuns.{stand-after}
use Rattle.ncp_transcript_two.proofs.Headlines.{stands, of-model}
use Rattle.ncp_proof_quiescence.proofs.Leading.{on-data}
use Rattle.ncp_proof_quiescence.specs.Settled.{is_held, IsStill}
use Rattle.ncp_proof_quiescence.proofs.OfModel.{a-link, not-ready}
use Rattle.ncp_proof_quiescence.specs.Settling.{had_at, flow_of, ByItself, GoesOrQuiescentAt, says_nothing, IsTried}

-- The hosts of a transcript.

stand-notes : (ns : List Note) (w : Hosts) → Stand w → Stand (hosts_after_notes ns w)
stand-notes [] w k = k
stand-notes (note ∷ ns) w k = stand-notes ns (hosts_after_note note w) (stand-after note w k)

pub stand-of : (ns : List Note) (w : Hosts) → IsTranscript ns w → Stand w
stand-of ns w t = subst Stand (sym t.state) (stand-notes ns (began w) (stands ns w t))

pub peers-at : (side : Side) (w : Hosts) → Stand w → numbers_of (host_of side w).peers ≡ side_number (other side) w ∷ []
peers-at A w k = k.a
peers-at B w k = k.b

-- what a side has, and what of the model it stands for
abbrev pub StandsAt : Side → Hosts → Type 0
StandsAt side w = (n : Node) × Represents (side_number (other side) w) n (had_at side w) (flow_of side w)

pub stands-at : (side : Side) (ns : List Note) (w : Hosts) → IsTranscript ns w → StandsAt side w
stands-at A ns w t = let m = of-model ns w t in ((run m.0).this, m.1.this)
stands-at B ns w t = let m = of-model ns w t in ((run m.0).that, m.1.that)

-- what is kept, by the peer's state

pub kept-is : (o : Option PeerState) (on : ℕ) → kept_for o on ≡ kept_message (slot_at (state_or_new o).slots on)
kept-is None on = sym (ap kept_message (slot_at-no_slots on))
kept-is (Some s) on = refl

-- One side, of which nothing is ready.

module _ (there : ℕ) (n : Node) (s : PeerState) (u : TransitByLink) (k : Represents there n s u) (out : next_of there s ≡ None) where
  -- nothing is kept on a link: so nothing is in transit there

  empty-of : (slot : LinkSlot) → kept_message slot ≡ None → slot ≡ Slot.Empty
  empty-of Slot.Empty e = refl
  empty-of (Slot.Ready m) e = absurd (cc e)
  empty-of (Slot.Travelling m) e = absurd (cc e)
  empty-of (Slot.Held m) e = absurd (cc e)

  free-of : {M : Type 0} (write : M → List Bool) (P : M → Type 0) (l : Link M) (slot : LinkSlot) (h : Holds) → LinkRefines write P l slot h → slot ≡ Slot.Empty → h ≡ Free
  free-of {M = M} write P l slot h c e = go c.place c.in_slot c.in_subnet
    where
      go : (place : MessageState M) → slot ≡ slot_of write place → h ≡ holds_of write place → h ≡ Free
      go Nowhere a b = b
      go (Waits m) a b = b
      go (Goes m) a b = absurd (cc (sym e ∙ a))
      go (Came m) a b = absurd (cc (sym e ∙ a))
      go (Failed m) a b = absurd (cc (sym e ∙ a))
      go (Died m) a b = absurd (cc (sym e ∙ a))
      go (Kept m) a b = b

  free-on : (on : ℕ) → slot_at s.slots on ≡ Slot.Empty → u on ≡ Free
  free-on on e = go (on == 0) refl
    where
      go : (b : Bool) → (on == 0) ≡ b → u on ≡ Free
      go true z =
          let i : on ≡ 0 = eqb-true on 0 z in
          ap u i ∙ free-of (control_bits there) AreCommands n.control (slot_at s.slots 0) (u 0) k.control (subst (λ (j : ℕ). slot_at s.slots j ≡ Slot.Empty) i e)
      go false z = free-of (text_as_message there on) (IsTextOn on) (n.texts on) (slot_at s.slots on) (u on) (k.texts on z) e

  pub still : ((on : ℕ) → on ≤ LAST_LINK → kept_message (slot_at s.slots on) ≡ None) → IsStill there s u
  still none = record {
    out = out;
    free = λ on h. free-on on (empty-of (slot_at s.slots on) (none on h.1));
    awake = λ on h. ap is_held (empty-of (slot_at s.slots on) (none on h.1));
  }

  -- something is kept on a link where nothing can come or be answered: so it is held

  held-of : {M : Type 0} (write : M → List Bool) (P : M → Type 0) (l : Link M) (slot : LinkSlot) (h : Holds) → LinkRefines write P l slot h → is_some (kept_message slot) ≡ true
      → is_accepted h ≡ false → answer_kind h ≡ None → ((r : List Bool) (m : M) → P m → slot ≡ Slot.Ready r → ⊥) → is_held slot ≡ true
  held-of {M = M} write P l slot h c kept here away ready = go c.place c.in_slot c.in_subnet c.fits
    where
      go : (place : MessageState M) → slot ≡ slot_of write place → h ≡ holds_of write place → OfMessage P place → is_held slot ≡ true
      go Nowhere a b f = absurd (both_ways (is_some (kept_message slot)) (ap (λ (x : LinkSlot). is_some (kept_message x)) a) kept)
      go (Waits m) a b f = absurd (ready (write m) m f a)
      go (Goes m) a b f = absurd (both_ways (is_accepted h) here (ap is_accepted b))
      go (Came m) a b f = absurd (cc (sym away ∙ ap answer_kind b))
      go (Failed m) a b f = absurd (cc (sym away ∙ ap answer_kind b))
      go (Died m) a b f = absurd (cc (sym away ∙ ap answer_kind b))
      go (Kept m) a b f = ap is_held a

  pub held-on : (on : ℕ) → is_some (kept_message (slot_at s.slots on)) ≡ true → is_accepted (u on) ≡ false → answer_kind (u on) ≡ None → is_held (slot_at s.slots on) ≡ true
  held-on on kept here away = go (on == 0) refl
    where
      never : is_one_of on links ≡ true → (r : List Bool) → slot_at s.slots on ≡ Slot.Ready r → ⊥
      never l r e = not-ready on there s (none_is there s links on out l) r e

      go : (b : Bool) → (on == 0) ≡ b → is_held (slot_at s.slots on) ≡ true
      go true z =
          let i : 0 ≡ on = sym (eqb-true on 0 z) in
          held-of (control_bits there) AreCommands n.control (slot_at s.slots on) (u on)
          (subst (λ (j : ℕ). LinkRefines (control_bits there) AreCommands n.control (slot_at s.slots j) (u j)) i k.control) kept here away
          (λ r m f e. never (subst (λ (j : ℕ). is_one_of j links ≡ true) i refl) r e)
      go false z =
          held-of (text_as_message there on) (IsTextOn on) (n.texts on) (slot_at s.slots on) (u on) (k.texts on z) kept here away
          (λ r m f e. never (a-link on (on-data on z f.0)) r e)

-- Of a transcript: no link of a side is ready, as it was asked for its next message.

no-message : (side : Side) (o : Option (List Bool)) → says_nothing (Note.Out side (note_of_message o)) ≡ true → o ≡ None
no-message side None says = refl
no-message side (Some m) says = absurd (cc says)

none-next : (o : Option (ℕ × List Bool)) → message_on o ≡ None → o ≡ None
none-next None e = refl
none-next (Some out) e = absurd (cc e)

module _ (w : Noted_world) (t : IsTranscript w.notes w.hosts) (side : Side) where
  none-out : (after : Noted_world) → IsTried (Event.Out side) false w after → next_of (side_number (other side) w.hosts) (had_at side w.hosts) ≡ None
  none-out after (note, noted, says, same) =
      let none : next_output (host_of side w.hosts) ≡ None = no-message side (next_output (host_of side w.hosts)) (ap says_nothing (sym noted) ∙ says) in
      none-next (next_of (side_number (other side) w.hosts) (had_at side w.hosts))
      (sym (next-message (side_number (other side) w.hosts) (host_of side w.hosts) (peers-at side w.hosts (stand-of w.notes w.hosts t))) ∙ none)

  -- none is kept: the side is still
  pub quiescent : (peer : ℕ) (after : Noted_world) → IsTried (Event.Out side) false w after → peer ≡ side_number (other side) after.hosts
      → ((link : ℕ) → link ≤ LAST_LINK → kept_for (state_of (host_of side after.hosts) peer) link ≡ None) → GoesOrQuiescentAt side false w after
  quiescent peer after tried p none =
      let same : after ≡ w = tried.3 in
      let by_number : (link : ℕ) → link ≤ LAST_LINK → kept_for (state_of (host_of side after.hosts) (side_number (other side) after.hosts)) link ≡ None =
      subst (λ (n : ℕ). (link : ℕ) → link ≤ LAST_LINK → kept_for (state_of (host_of side after.hosts) n) link ≡ None) p none in
      let here : (link : ℕ) → link ≤ LAST_LINK → kept_for (state_of (host_of side w.hosts) (side_number (other side) w.hosts)) link ≡ None =
      subst (λ (x : Noted_world). (link : ℕ) → link ≤ LAST_LINK → kept_for (state_of (host_of side x.hosts) (side_number (other side) x.hosts)) link ≡ None) same by_number in
      let s = stands-at side w.notes w.hosts t in (
        same,
        still (side_number (other side) w.hosts) s.0 (had_at side w.hosts) (flow_of side w.hosts) s.1 (none-out after tried)
            (λ on h. sym (kept-is (state_of (host_of side w.hosts) (side_number (other side) w.hosts)) on) ∙ here on h),
      )

  -- a wake of a peer that is there is done

  known-of : (o : Option PeerState) (on : ℕ) → is_some (kept_for o on) ≡ true → (s : PeerState) × (o ≡ Some s)
  known-of None on e = absurd (cc e)
  known-of (Some s) on e = (s, refl)

  woken : (peer : ℕ) (s : PeerState) (h : Host) (n : HostNote) → state_of h peer ≡ Some s → CallNoted (Call.Wake peer) n h → n ≡ HostNote.Done (Call.Wake peer)
  woken peer s h n e (inl is) = is ∙ ap (λ (o : Option PeerState). done_or_refused (Call.Wake peer) (if_known o (λ x. Ok tt))) e
  woken peer s h n e (inr want) = absurd (cc want.takes)

  cannot-come : (link : ℕ) (h : Holds) → says_nothing (note_of_coming side link (arriving (side_number side w.hosts) h) w.hosts) ≡ true → is_accepted h ≡ false
  cannot-come link Free says = refl
  cannot-come link (Accepted m) says = absurd (cc says)
  cannot-come link Delivered says = refl
  cannot-come link Lost says = refl
  cannot-come link Dead says = refl

  cannot-answer : (link : ℕ) (h : Holds) → says_nothing (note_of_answering side link (answer_about (side_number (other side) w.hosts) link h) w.hosts) ≡ true → answer_kind h ≡ None
  cannot-answer link Free says = refl
  cannot-answer link (Accepted m) says = refl
  cannot-answer link Delivered says = absurd (cc says)
  cannot-answer link Lost says = absurd (cc says)
  cannot-answer link Dead says = absurd (cc says)

  wake-done : (link peer : ℕ) (b : Bool) (now : Noted_world) → peer ≡ side_number (other side) w.hosts → next_of (side_number (other side) w.hosts) (had_at side w.hosts) ≡ None
      → is_some (kept_for (state_of (host_of side w.hosts) peer) link) ≡ true → is_accepted (transit_of side link w.hosts) ≡ false → answer_kind (transit_of side link w.hosts) ≡ None
      → IsTried (Event.Call side (Call.Wake peer)) b w now → GoesOrQuiescentAt side b w now
  wake-done link peer true now p out kept here away (note, noted, says, longer, after) =
      let o : Option PeerState = state_of (host_of side w.hosts) (side_number (other side) w.hosts) in
      let there : is_some (kept_for o link) ≡ true = subst (λ (n : ℕ). is_some (kept_for (state_of (host_of side w.hosts) n) link) ≡ true) p kept in
      let known = known-of (state_of (host_of side w.hosts) peer) link kept in
      let said : note ≡ Note.Called side (HostNote.Done (Call.Wake peer)) = noted.said ∙ ap (Note.Called side) (woken peer known.0 (host_of side w.hosts) noted.of_host known.1 noted.noted) in
      let s = stands-at side w.notes w.hosts t in
      let held : is_held (slot_at (had_at side w.hosts).slots link) ≡ true =
      held-on (side_number (other side) w.hosts) s.0 (had_at side w.hosts) (flow_of side w.hosts) s.1 out link (sym (ap is_some (kept-is o link)) ∙ there) here away in
      (note, (Event.Call side (Call.Wake peer), noted), subst (λ (x : Note). ByItself x w.hosts) (sym said) (link, held), longer, after)
  wake-done link peer false now p out kept here away (note, noted, says, same) = absurd (cc (sym says ∙ ap says_nothing noted.said))

  pub wakes : (link peer : ℕ) (b : Bool) (n1 n2 n3 n4 : Noted_world) → IsTried (Event.Out side) false w n1 → peer ≡ side_number (other side) n1.hosts
      → is_some (kept_for (state_of (host_of side n1.hosts) peer) link) ≡ true → IsTried (Event.Deliver side link) false n1 n2 → IsTried (Event.Answer side link) false n2 n3
      → IsTried (Event.Call side (Call.Wake peer)) b n3 n4 → GoesOrQuiescentAt side b w n4
  wakes link peer b n1 n2 n3 n4 none p kept came_not answered_not call =
      let e1 : n1 ≡ w = none.3 in
      let e2 : n2 ≡ w = came_not.3 ∙ e1 in
      let e3 : n3 ≡ w = answered_not.3 ∙ e2 in
      let c : IsTried (Event.Deliver side link) false w n2 = subst (λ (x : Noted_world). IsTried (Event.Deliver side link) false x n2) e1 came_not in
      let a : IsTried (Event.Answer side link) false w n3 = subst (λ (x : Noted_world). IsTried (Event.Answer side link) false x n3) e2 answered_not in
      wake-done link peer b n4
      (p ∙ ap (λ (x : Noted_world). side_number (other side) x.hosts) e1)
      (none-out n1 none)
      (subst (λ (x : Noted_world). is_some (kept_for (state_of (host_of side x.hosts) peer) link) ≡ true) e1 kept)
      (cannot-come link (transit_of side link w.hosts) (ap says_nothing (sym c.1) ∙ c.2))
      (cannot-answer link (transit_of side link w.hosts) (ap says_nothing (sym a.1) ∙ a.2))
      (subst (λ (x : Noted_world). IsTried (Event.Call side (Call.Wake peer)) b x n4) e3 call)
