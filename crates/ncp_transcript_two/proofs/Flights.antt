-- Each link of a run passes the machine of turns.
use Rattle.std.proofs.Common.{◌≡◌, ◌<◌, ℕ, ◌^◌, ◌==◌, Bool, true, false, if◌then◌else◌, List, [], ◌∷◌, Option, None, Some, refl, sym, ap, ◌∙◌, arith, subst}
use Rattle.std.proofs.lemmas.Bool.{both_ways, eq-eqb, eqb-true, ne_eqb}
use Rattle.ncp_numbers.specs.Bytes.{bits_of_bytes}
use Rattle.ncp_wire.specs.declared.command.Command.{Command}
use Rattle.ncp_wire.specs.Spelling.{spellings}
use Rattle.ncp_slot.specs.Slots.{LinkSlot}
use Rattle.ncp_slot.specs.declared.slot.Slot.TheVariants as slots
use Rattle.ncp_wire.specs.declared.answer.Answer.TheVariants.{Rfnm, Incomplete}
use Rattle.ncp_wire.specs.declared.answer.Answer.TheVariants as answer_kinds
use Rattle.ncp_slot.proofs.Places.{slot_at-with_slot_same, slot_at-no_slots}
use Rattle.ncp_peer.specs.Hearing.{is_wrong_link, rfnm, incomplete, destination_dead}
use Rattle.ncp_peer.specs.Output.{message_to, output_by, made_on, control_message, text_message, links, next_of}
use Rattle.ncp_transcript_two.specs.Subnet.{answer_bits}
use Rattle.ncp_slot.specs.Slots.{LinkSlots, slot_at, with_slot}
use Rattle.ncp_slot.specs.Slot.{woken}
use Rattle.ncp_slot.proofs.Waking.{slot_at-all_woken}
use Rattle.ncp_proof_machine.specs.Resets.{Party, This, That}
use Rattle.ncp_model.specs.Peers.{Peer}
use Rattle.ncp_proof_machine.specs.Hosts as hosts
use Rattle.ncp_peer.specs.PeerState.{PeerState}
use Rattle.ncp_transcript_two.specs.Subnet.{Holds, Free, Accepted, Delivered, Lost, Dead, TransitByLink, set_at, from_host}
use Rattle.ncp_transcript.specs.Asked.{Asked, Asks, Asks_echo, Asks_reset, Asks_wake, state_after_asked}
use Rattle.ncp_transcript_two.specs.World.{World, state_after_received}
use Rattle.ncp_transcript_two.specs.World as worlds
use Rattle.ncp_transcript_two.specs.Tie.{Came, Failed, Died, control_bits, text_as_message, AreCommands, IsTextOn, Refines}
use Rattle.ncp_transcript_two.proofs.Ties.{tied-swapped}
use Rattle.ncp_transcript_two.proofs.Comings.{small}
use Rattle.ncp_model.specs.Sending.{next_commands}
use Rattle.ncp_model.specs.Effect.{answer}
use Rattle.ncp_model.specs.Ends.{cut_in}
use Rattle.ncp_transcript_two.specs.Subnet.{link_in}
use Rattle.ncp_transcript_two.specs.Tie.{AreEvents, IsNewWorld, IsOfModel}
use Rattle.ncp_transcript_two.specs.World.{Call_is_made, Goes_out, Is_delivered, Is_lost, Finds_dead, Is_answered, WorldEvent, moves, goes, delivers, loses, dies, answers_for, at, step}
use Rattle.ncp_transcript_two.specs.World.{notes_from}
use Rattle.ncp_transcript_two.specs.Honest.{MessageEvent, Sent, message_event_of_body, message_event_in, message_events_in, if_on, number_of_side}
use Rattle.ncp_transcript_two.specs.Honest as honest
use Rattle.ncp_transcript_two.proofs.Turns.{Flight, Idle, Away, Here, Passes, Flies}
use Rattle.ncp_transcript_two.proofs.Turns as turns
use Rattle.ncp_transcript_two.proofs.Slots.{hears_all-slots}
use Rattle.ncp_transcript_two.proofs.Comings.{control-heard, text-heard}
use Rattle.ncp_transcript_two.proofs.Answering.{answered-is}
use Rattle.ncp_transcript_two.proofs.Goings.{Found, found, not_true, links-right, link-of}
use Rattle.ncp_transcript_two.proofs.Links.{away}
use Rattle.ncp_transcript_two.proofs.Runs.{step-ties}
use Rattle.ncp_transcript_two.proofs.Written.{answer_comes-is}
use Rattle.ncp_transcript_two.proofs.Links.{Comes, delivered, Answers, taken, refused, found_dead, Again, again, Apart, all_distinct, set_at-apart, set_at-same, with_slot-apart}

abbrev pub flight_of : LinkSlot → Holds → Flight
flight_of slots.Empty h = Idle
flight_of (slots.Ready m) h = turns.Again m
flight_of (slots.Travelling m) Free = Away m
flight_of (slots.Travelling m) (Accepted n) = Away m
flight_of (slots.Travelling m) Delivered = Here
flight_of (slots.Travelling m) Lost = Away m
flight_of (slots.Travelling m) Dead = Away m
flight_of (slots.Held m) h = turns.Again m

abbrev pub on_link : ℕ → LinkSlots → TransitByLink → Flight
on_link k sl u = flight_of (slot_at sl k) (u k)

abbrev pub flight_at : Party → ℕ → World → Flight
flight_at This k v = on_link k v.this.slots v.going
flight_at That k v = on_link k v.that.slots v.coming

-- a link on which nothing is done

apart-sym : (a b : ℕ) → (a == b) ≡ false → (b == a) ≡ false
apart-sym a b f = ne_eqb b a (λ (e : b ≡ a). both_ways (a == b) f (eq-eqb a b (sym e)))

unmoved : (on k : ℕ) (sl sl' : LinkSlots) (u u' : TransitByLink) → Apart on (slot_at sl) (slot_at sl') → Apart on u u' → (on == k) ≡ false → on_link k sl' u' ≡ on_link k sl u
unmoved on k sl sl' u u' p q f =
    ap (λ (x : LinkSlot). flight_of x (u' k)) (p k (apart-sym on k f)) ∙ ap (flight_of (slot_at sl k)) (q k (apart-sym on k f))

-- on the link itself, or on another one
either : (number on k : ℕ) (d : MessageEvent) (f g : ℕ → Flight) → ((on == k) ≡ false → g k ≡ f k) → Passes number (f on) d (g on) → Passes number (f k) (if_on (on == k) d) (g k)
either number on k d f g others this = go (on == k) refl
  where
    go : (b : Bool) → (on == k) ≡ b → Passes number (f k) (if_on b d) (g k)
    go true e = subst (λ (j : ℕ). Passes number (f j) d (g j)) (eqb-true on k e) this
    go false e = others e

-- what is out is in its slot, on a link that fits

pub record IsOut (on : ℕ) (s : LinkSlot) : Type 0 where
  pub message : List Bool
  pub in_slot : s ≡ slots.Travelling message
  pub fits : on < 2 ^ 8

accepted-out : (on : ℕ) (w : hosts.TwoNodes) (v : World) (m : List Bool) → Refines w v → v.going on ≡ Accepted m → slot_at v.this.slots on ≡ slots.Travelling m
accepted-out on w v m t e = go (on == 0) refl
  where
    go : (b : Bool) → (on == 0) ≡ b → slot_at v.this.slots on ≡ slots.Travelling m
    go true z =
        let zero : on ≡ 0 = eqb-true on 0 z in
        ap (slot_at v.this.slots) zero ∙ (away (control_bits v.there) AreCommands w.this.control (slot_at v.this.slots 0) (v.going 0) m t.this.control (ap v.going (sym zero) ∙ e)).2
    go false z = (away (text_as_message v.there on) (IsTextOn on) (w.this.texts on) (slot_at v.this.slots on) (v.going on) m (t.this.texts on z) e).2

pub delivered-out : (on : ℕ) (w : hosts.TwoNodes) (v : World) → Refines w v → v.going on ≡ Delivered → IsOut on (slot_at v.this.slots on)
delivered-out on w v t e = go (on == 0) refl
  where
    go : (b : Bool) → (on == 0) ≡ b → IsOut on (slot_at v.this.slots on)
    go true z =
        let zero : on ≡ 0 = eqb-true on 0 z in
        let a : Answers (control_bits v.there) AreCommands Came w.this.control (slot_at v.this.slots 0) = taken (control_bits v.there) AreCommands w.this.control (slot_at v.this.slots 0) (v.going 0) t.this.control (ap v.going (sym zero) ∙ e) in
        record { message = control_bits v.there a.what; in_slot = ap (slot_at v.this.slots) zero ∙ a.written; fits = omega (arith, zero) }
    go false z =
        let a : Answers (text_as_message v.there on) (IsTextOn on) Came (w.this.texts on) (slot_at v.this.slots on) = taken (text_as_message v.there on) (IsTextOn on) (w.this.texts on) (slot_at v.this.slots on) (v.going on) (t.this.texts on z) e in
        record { message = text_as_message v.there on a.what; in_slot = a.written; fits = small on a.fits.0 }

pub lost-out : (on : ℕ) (w : hosts.TwoNodes) (v : World) → Refines w v → v.going on ≡ Lost → IsOut on (slot_at v.this.slots on)
lost-out on w v t e = go (on == 0) refl
  where
    go : (b : Bool) → (on == 0) ≡ b → IsOut on (slot_at v.this.slots on)
    go true z =
        let zero : on ≡ 0 = eqb-true on 0 z in
        let a : Answers (control_bits v.there) AreCommands Failed w.this.control (slot_at v.this.slots 0) = refused (control_bits v.there) AreCommands w.this.control (slot_at v.this.slots 0) (v.going 0) t.this.control (ap v.going (sym zero) ∙ e) in
        record { message = control_bits v.there a.what; in_slot = ap (slot_at v.this.slots) zero ∙ a.written; fits = omega (arith, zero) }
    go false z =
        let a : Answers (text_as_message v.there on) (IsTextOn on) Failed (w.this.texts on) (slot_at v.this.slots on) = refused (text_as_message v.there on) (IsTextOn on) (w.this.texts on) (slot_at v.this.slots on) (v.going on) (t.this.texts on z) e in
        record { message = text_as_message v.there on a.what; in_slot = a.written; fits = small on a.fits.0 }

pub dead-out : (on : ℕ) (w : hosts.TwoNodes) (v : World) → Refines w v → v.going on ≡ Dead → IsOut on (slot_at v.this.slots on)
dead-out on w v t e = go (on == 0) refl
  where
    go : (b : Bool) → (on == 0) ≡ b → IsOut on (slot_at v.this.slots on)
    go true z =
        let zero : on ≡ 0 = eqb-true on 0 z in
        let a : Answers (control_bits v.there) AreCommands Died w.this.control (slot_at v.this.slots 0) = found_dead (control_bits v.there) AreCommands w.this.control (slot_at v.this.slots 0) (v.going 0) t.this.control (ap v.going (sym zero) ∙ e) in
        record { message = control_bits v.there a.what; in_slot = ap (slot_at v.this.slots) zero ∙ a.written; fits = omega (arith, zero) }
    go false z =
        let a : Answers (text_as_message v.there on) (IsTextOn on) Died (w.this.texts on) (slot_at v.this.slots on) = found_dead (text_as_message v.there on) (IsTextOn on) (w.this.texts on) (slot_at v.this.slots on) (v.going on) (t.this.texts on z) e in
        record { message = text_as_message v.there on a.what; in_slot = a.written; fits = small on a.fits.0 }

-- the subnet loses a message

lose-passes : (on k : ℕ) (w : hosts.TwoNodes) (v : World) (h : Holds) → Refines w v → v.going on ≡ h → Passes v.here (flight_at This k v) (message_event_of_body k (loses on h v).1) (flight_at This k (loses on h v).0)
lose-passes on k w v Free t e = refl
lose-passes on k w v Delivered t e = refl
lose-passes on k w v Lost t e = refl
lose-passes on k w v Dead t e = refl
lose-passes on k w v (Accepted m) t e = go (on == k) refl
  where
    at_on : on_link on v.this.slots (set_at on Lost v.going) ≡ on_link on v.this.slots v.going
    at_on =
        let s : slot_at v.this.slots on ≡ slots.Travelling m = accepted-out on w v m t e in
        ap (λ (x : LinkSlot). flight_of x (set_at on Lost v.going on)) s ∙ ap (flight_of (slots.Travelling m)) (set_at-same on Lost v.going)
        ∙ sym (ap (λ (x : LinkSlot). flight_of x (v.going on)) s ∙ ap (flight_of (slots.Travelling m)) e)

    go : (b : Bool) → (on == k) ≡ b → on_link k v.this.slots (set_at on Lost v.going) ≡ on_link k v.this.slots v.going
    go true f = subst (λ (j : ℕ). on_link j v.this.slots (set_at on Lost v.going) ≡ on_link j v.this.slots v.going) (eqb-true on k f) at_on
    go false f = unmoved on k v.this.slots v.this.slots v.going (set_at on Lost v.going) (all_distinct on (slot_at v.this.slots)) (set_at-apart on Lost v.going) f

die-passes : (on k : ℕ) (w : hosts.TwoNodes) (v : World) (h : Holds) → Refines w v → v.going on ≡ h → Passes v.here (flight_at This k v) (message_event_of_body k (dies on h v).1) (flight_at This k (dies on h v).0)
die-passes on k w v Free t e = refl
die-passes on k w v Delivered t e = refl
die-passes on k w v Lost t e = refl
die-passes on k w v Dead t e = refl
die-passes on k w v (Accepted m) t e = go (on == k) refl
  where
    at_on : on_link on v.this.slots (set_at on Dead v.going) ≡ on_link on v.this.slots v.going
    at_on =
        let s : slot_at v.this.slots on ≡ slots.Travelling m = accepted-out on w v m t e in
        ap (λ (x : LinkSlot). flight_of x (set_at on Dead v.going on)) s ∙ ap (flight_of (slots.Travelling m)) (set_at-same on Dead v.going)
        ∙ sym (ap (λ (x : LinkSlot). flight_of x (v.going on)) s ∙ ap (flight_of (slots.Travelling m)) e)

    go : (b : Bool) → (on == k) ≡ b → on_link k v.this.slots (set_at on Dead v.going) ≡ on_link k v.this.slots v.going
    go true f = subst (λ (j : ℕ). on_link j v.this.slots (set_at on Dead v.going) ≡ on_link j v.this.slots v.going) (eqb-true on k f) at_on
    go false f = unmoved on k v.this.slots v.this.slots v.going (set_at on Dead v.going) (all_distinct on (slot_at v.this.slots)) (set_at-apart on Dead v.going) f

-- a message is delivered

deliver-passes : (on k : ℕ) (w : hosts.TwoNodes) (v : World) (h : Holds) → Refines w v → v.going on ≡ h → Passes v.here (flight_at This k v) (message_event_of_body k (delivers on h v).1) (flight_at This k (delivers on h v).0)
deliver-passes on k w v Free t e = refl
deliver-passes on k w v Delivered t e = refl
deliver-passes on k w v Lost t e = refl
deliver-passes on k w v Dead t e = refl
deliver-passes on k w v (Accepted m) t e =
    either v.here on k (honest.Arrives (from_host v.here m)) (λ (j : ℕ). on_link j v.this.slots v.going) (λ (j : ℕ). on_link j v.this.slots (set_at on Delivered v.going))
    (unmoved on k v.this.slots v.this.slots v.going (set_at on Delivered v.going) (all_distinct on (slot_at v.this.slots)) (set_at-apart on Delivered v.going))
    (subst (λ (f : Flight). Passes v.here f (honest.Arrives (from_host v.here m)) (on_link on v.this.slots (set_at on Delivered v.going))) (sym before) (refl, after))
  where
    s : slot_at v.this.slots on ≡ slots.Travelling m
    s = accepted-out on w v m t e

    before : on_link on v.this.slots v.going ≡ Away m
    before = ap (λ (x : LinkSlot). flight_of x (v.going on)) s ∙ ap (flight_of (slots.Travelling m)) e

    after : on_link on v.this.slots (set_at on Delivered v.going) ≡ Here
    after = ap (λ (x : LinkSlot). flight_of x (set_at on Delivered v.going on)) s ∙ ap (flight_of (slots.Travelling m)) (set_at-same on Delivered v.going)

-- the slots of the host to which it comes are as they were

that-slots : (on : ℕ) (w : hosts.TwoNodes) (v : World) (m : List Bool) → Refines w v → v.going on ≡ Accepted m → (state_after_received (from_host v.here m) v.that).slots ≡ v.that.slots
that-slots on w v m t e = go (on == 0) refl
  where
    go : (b : Bool) → (on == 0) ≡ b → (state_after_received (from_host v.here m) v.that).slots ≡ v.that.slots
    go true z =
        let c : Comes (control_bits v.there) AreCommands w.this.control (slot_at v.this.slots 0) m = delivered (control_bits v.there) AreCommands w.this.control (slot_at v.this.slots 0) (v.going 0) m t.this.control (ap v.going (sym (eqb-true on 0 z)) ∙ e) in
        ap (λ (s : PeerState). s.slots) (control-heard w v m t c) ∙ hears_all-slots c.what v.that
    go false z =
        let c : Comes (text_as_message v.there on) (IsTextOn on) (w.this.texts on) (slot_at v.this.slots on) m = delivered (text_as_message v.there on) (IsTextOn on) (w.this.texts on) (slot_at v.this.slots on) (v.going on) m (t.this.texts on z) e in
        ap (λ (s : PeerState). s.slots) (text-heard on w v m t z c)

deliver-that : (on k : ℕ) (w : hosts.TwoNodes) (v : World) (h : Holds) → Refines w v → v.going on ≡ h → flight_at That k (delivers on h v).0 ≡ flight_at That k v
deliver-that on k w v Free t e = refl
deliver-that on k w v Delivered t e = refl
deliver-that on k w v Lost t e = refl
deliver-that on k w v Dead t e = refl
deliver-that on k w v (Accepted m) t e = ap (λ (sl : LinkSlots). on_link k sl v.coming) (that-slots on w v m t e)

-- a message is answered

answer-passes : (on k : ℕ) (w : hosts.TwoNodes) (v : World) (h : Holds) → Refines w v → v.going on ≡ h → Passes v.here (flight_at This k v) (message_event_of_body k (answers_for on h v).1) (flight_at This k (answers_for on h v).0)
answer-passes on k w v Free t e = refl
answer-passes on k w v (Accepted m) t e = refl
answer-passes on k w v Delivered t e = subst (λ (x : LinkSlots). Passes v.here (on_link k v.this.slots v.going) (if_on (on == k) honest.Acked) (on_link k x u)) (sym now) (
    either v.here on k honest.Acked (λ (j : ℕ). on_link j v.this.slots v.going) (λ (j : ℕ). on_link j sl u)
    (unmoved on k v.this.slots sl v.going u (with_slot-apart on slots.Empty v.this.slots) (set_at-apart on Free v.going))
    (subst (λ (f : Flight). Passes v.here f honest.Acked (on_link on sl u)) (sym before) after))
  where
    o : IsOut on (slot_at v.this.slots on)
    o = delivered-out on w v t e

    sl : LinkSlots
    sl = with_slot v.this.slots on slots.Empty

    u : TransitByLink
    u = set_at on Free v.going

    now : (state_after_received (answer_bits rfnm v.there on) v.this).slots ≡ sl
    now = ap (λ (s : PeerState). s.slots) ((answer_comes-is v.there on v.this t.this.number o.fits).0 ∙ answered-is on Rfnm o.message v.this o.in_slot)

    before : on_link on v.this.slots v.going ≡ Here
    before = ap (λ (x : LinkSlot). flight_of x (v.going on)) o.in_slot ∙ ap (flight_of (slots.Travelling o.message)) e

    after : on_link on sl u ≡ Idle
    after = ap (λ (x : LinkSlot). flight_of x (u on)) (slot_at-with_slot_same v.this.slots on slots.Empty)
answer-passes on k w v Lost t e = subst (λ (x : LinkSlots). Passes v.here (on_link k v.this.slots v.going) (if_on (on == k) honest.Nacked) (on_link k x u)) (sym now) (
    either v.here on k honest.Nacked (λ (j : ℕ). on_link j v.this.slots v.going) (λ (j : ℕ). on_link j sl u)
    (unmoved on k v.this.slots sl v.going u (with_slot-apart on (slots.Ready o.message) v.this.slots) (set_at-apart on Free v.going))
    (subst (λ (f : Flight). Passes v.here f honest.Nacked (on_link on sl u)) (sym before) after))
  where
    o : IsOut on (slot_at v.this.slots on)
    o = lost-out on w v t e

    sl : LinkSlots
    sl = with_slot v.this.slots on (slots.Ready o.message)

    u : TransitByLink
    u = set_at on Free v.going

    now : (state_after_received (answer_bits incomplete v.there on) v.this).slots ≡ sl
    now = ap (λ (s : PeerState). s.slots) ((answer_comes-is v.there on v.this t.this.number o.fits).1 ∙ answered-is on Incomplete o.message v.this o.in_slot)

    before : on_link on v.this.slots v.going ≡ Away o.message
    before = ap (λ (x : LinkSlot). flight_of x (v.going on)) o.in_slot ∙ ap (flight_of (slots.Travelling o.message)) e

    after : on_link on sl u ≡ turns.Again o.message
    after = ap (λ (x : LinkSlot). flight_of x (u on)) (slot_at-with_slot_same v.this.slots on (slots.Ready o.message))
answer-passes on k w v Dead t e = subst (λ (x : LinkSlots). Passes v.here (on_link k v.this.slots v.going) (if_on (on == k) honest.Nacked) (on_link k x u)) (sym now) (
    either v.here on k honest.Nacked (λ (j : ℕ). on_link j v.this.slots v.going) (λ (j : ℕ). on_link j sl u)
    (unmoved on k v.this.slots sl v.going u (with_slot-apart on (slots.Held o.message) v.this.slots) (set_at-apart on Free v.going))
    (subst (λ (f : Flight). Passes v.here f honest.Nacked (on_link on sl u)) (sym before) after))
  where
    o : IsOut on (slot_at v.this.slots on)
    o = dead-out on w v t e

    sl : LinkSlots
    sl = with_slot v.this.slots on (slots.Held o.message)

    u : TransitByLink
    u = set_at on Free v.going

    now : (state_after_received (answer_bits destination_dead v.there on) v.this).slots ≡ sl
    now = ap (λ (s : PeerState). s.slots) ((answer_comes-is v.there on v.this t.this.number o.fits).2 ∙ answered-is on answer_kinds.Dead o.message v.this o.in_slot)

    before : on_link on v.this.slots v.going ≡ Away o.message
    before = ap (λ (x : LinkSlot). flight_of x (v.going on)) o.in_slot ∙ ap (flight_of (slots.Travelling o.message)) e

    after : on_link on sl u ≡ turns.Again o.message
    after = ap (λ (x : LinkSlot). flight_of x (u on)) (slot_at-with_slot_same v.this.slots on (slots.Held o.message))

-- a message goes out

made-link : (number on : ℕ) (p : Peer) (m : List Bool) → on < 2 ^ 8 → made_on number on p ≡ Some m → link_in m ≡ on
made-link number on p m o e = go (on == 0) refl e
  where
    by_commands : (ds : List Command) → control_message number ds ≡ Some m → link_in m ≡ 0
    by_commands [] e = absurd (cc e)
    by_commands (c ∷ cs) e = let x : control_bits number (c ∷ cs) ≡ m = cc e in ap link_in (sym x) ∙ link-of number 0 8 (bits_of_bytes (spellings (c ∷ cs))) (omega arith)

    by_text : (t : Option (ℕ × List Bool)) → text_message number on t ≡ Some m → link_in m ≡ on
    by_text None e = absurd (cc e)
    by_text (Some t) e = let x : message_to number on t.0 t.1 ≡ m = cc e in ap link_in (sym x) ∙ link-of number on t.0 t.1 o

    go : (b : Bool) → (on == 0) ≡ b → (if b then control_message number (next_commands p.phase.waiting) else text_message number on (answer (cut_in on p.ends))) ≡ Some m → link_in m ≡ on
    go true z e = by_commands (next_commands p.phase.waiting) e ∙ sym (eqb-true on 0 z)
    go false z e = by_text (answer (cut_in on p.ends)) e

ready-link : (on : ℕ) (w : hosts.TwoNodes) (v : World) (r : List Bool) → is_wrong_link on ≡ false → Refines w v → slot_at v.this.slots on ≡ slots.Ready r → link_in r ≡ on
ready-link on w v r f t s = go (on == 0) refl
  where
    go : (b : Bool) → (on == 0) ≡ b → link_in r ≡ on
    go true z =
        let zero : on ≡ 0 = eqb-true on 0 z in
        let a : Again (control_bits v.there) AreCommands w.this.control r = again (control_bits v.there) AreCommands w.this.control (slot_at v.this.slots 0) (v.going 0) r t.this.control (ap (slot_at v.this.slots) (sym zero) ∙ s) in
        ap link_in a.written ∙ link-of v.there 0 8 (bits_of_bytes (spellings a.what)) (omega arith) ∙ sym zero
    go false z =
        let a : Again (text_as_message v.there on) (IsTextOn on) (w.this.texts on) r = again (text_as_message v.there on) (IsTextOn on) (w.this.texts on) (slot_at v.this.slots on) (v.going on) r (t.this.texts on z) s in
        ap link_in a.written ∙ link-of v.there on a.what.of_size a.what.bits (small on f)

pub out-link : (on : ℕ) (w : hosts.TwoNodes) (v : World) (m : List Bool) (s : LinkSlot) → is_wrong_link on ≡ false → Refines w v → slot_at v.this.slots on ≡ s → output_by s v.there on v.this.peer ≡ Some m → link_in m ≡ on
out-link on w v m slots.Empty f t s e = made-link v.there on v.this.peer m (small on f) e
out-link on w v m (slots.Ready r) f t s e = let x : r ≡ m = cc e in ap link_in (sym x) ∙ ready-link on w v r f t s
out-link on w v m (slots.Travelling r) f t s e = absurd (cc e)
out-link on w v m (slots.Held r) f t s e = absurd (cc e)

out-passes : (k : ℕ) (w : hosts.TwoNodes) (v : World) (o : Option (ℕ × List Bool)) → Refines w v → next_of v.there v.this ≡ o → Passes v.here (flight_at This k v) (message_event_of_body k (goes o v).1) (flight_at This k (goes o v).0)
out-passes k w v None t e = refl
out-passes k w v (Some out) t e = subst (λ (j : ℕ). Passes v.here (on_link k v.this.slots v.going) (if_on (j == k) (Sent m)) (on_link k sl (set_at j (Accepted m) v.going))) (sym link) (
    either v.here on k (Sent m) (λ (j : ℕ). on_link j v.this.slots v.going) (λ (j : ℕ). on_link j sl u)
    (unmoved on k v.this.slots sl v.going u (with_slot-apart on (slots.Travelling m) v.this.slots) (set_at-apart on (Accepted m) v.going))
    (go (slot_at v.this.slots on) refl f.1))
  where
    f : Found v.there v.this out
    f = found v.there links v.this out e links-right

    on : ℕ
    on = out.0

    m : List Bool
    m = out.1

    link : link_in m ≡ on
    link = out-link on w v m (slot_at v.this.slots on) (not_true (is_wrong_link on) f.0) t refl f.1

    sl : LinkSlots
    sl = with_slot v.this.slots on (slots.Travelling m)

    u : TransitByLink
    u = set_at on (Accepted m) v.going

    after : on_link on sl u ≡ Away m
    after = ap (λ (x : LinkSlot). flight_of x (u on)) (slot_at-with_slot_same v.this.slots on (slots.Travelling m)) ∙ ap (flight_of (slots.Travelling m)) (set_at-same on (Accepted m) v.going)

    go : (s : LinkSlot) → slot_at v.this.slots on ≡ s → output_by s v.there on v.this.peer ≡ Some m → Passes v.here (on_link on v.this.slots v.going) (Sent m) (on_link on sl u)
    go slots.Empty s e = subst (λ (x : LinkSlot). Passes v.here (flight_of x (v.going on)) (Sent m) (on_link on sl u)) (sym s) after
    go (slots.Ready r) s e = let x : r ≡ m = cc e in subst (λ (x : LinkSlot). Passes v.here (flight_of x (v.going on)) (Sent m) (on_link on sl u)) (sym s) (sym x, after ∙ ap Away (sym x))
    go (slots.Travelling r) s e = absurd (cc e)
    go (slots.Held r) s e = absurd (cc e)

out-that : (k : ℕ) (v : World) (o : Option (ℕ × List Bool)) → flight_at That k (goes o v).0 ≡ flight_at That k v
out-that k v None = refl
out-that k v (Some out) = refl

lose-that : (on k : ℕ) (v : World) (h : Holds) → flight_at That k (loses on h v).0 ≡ flight_at That k v
lose-that on k v Free = refl
lose-that on k v (Accepted m) = refl
lose-that on k v Delivered = refl
lose-that on k v Lost = refl
lose-that on k v Dead = refl

die-that : (on k : ℕ) (v : World) (h : Holds) → flight_at That k (dies on h v).0 ≡ flight_at That k v
die-that on k v Free = refl
die-that on k v (Accepted m) = refl
die-that on k v Delivered = refl
die-that on k v Lost = refl
die-that on k v Dead = refl

answer-that : (on k : ℕ) (v : World) (h : Holds) → flight_at That k (answers_for on h v).0 ≡ flight_at That k v
answer-that on k v Free = refl
answer-that on k v (Accepted m) = refl
answer-that on k v Delivered = refl
answer-that on k v Lost = refl
answer-that on k v Dead = refl

-- a call moves no message, not even one that was held

woken-flight : (s : LinkSlot) (h : Holds) → flight_of (woken s) h ≡ flight_of s h
woken-flight slots.Empty h = refl
woken-flight (slots.Ready m) h = refl
woken-flight (slots.Travelling m) h = refl
woken-flight (slots.Held m) h = refl

call-passes : (asked : Asked) (k : ℕ) (s : PeerState) (u : TransitByLink) → on_link k (state_after_asked asked s).slots u ≡ on_link k s.slots u
call-passes (Asks pair call) k s u = refl
call-passes (Asks_echo byte) k s u = refl
call-passes Asks_reset k s u = refl
call-passes Asks_wake k s u = ap (λ (x : LinkSlot). flight_of x (u k)) (slot_at-all_woken s.slots k) ∙ woken-flight (slot_at s.slots k) (u k)

-- each move

move-passes : (st : worlds.WorldStep) (k : ℕ) (w : hosts.TwoNodes) (v : World) → Refines w v → Passes v.here (flight_at This k v) (message_event_of_body k (moves st v).1) (flight_at This k (moves st v).0)
move-passes (Call_is_made asked) k w v t = call-passes asked k v.this v.going
move-passes Goes_out k w v t = out-passes k w v (next_of v.there v.this) t refl
move-passes (Is_delivered on) k w v t = deliver-passes on k w v (v.going on) t refl
move-passes (Is_lost on) k w v t = lose-passes on k w v (v.going on) t refl
move-passes (Finds_dead on) k w v t = die-passes on k w v (v.going on) t refl
move-passes (Is_answered on) k w v t = answer-passes on k w v (v.going on) t refl

move-that : (st : worlds.WorldStep) (k : ℕ) (w : hosts.TwoNodes) (v : World) → Refines w v → flight_at That k (moves st v).0 ≡ flight_at That k v
move-that (Call_is_made asked) k w v t = refl
move-that Goes_out k w v t = out-that k v (next_of v.there v.this)
move-that (Is_delivered on) k w v t = deliver-that on k w v (v.going on) t refl
move-that (Is_lost on) k w v t = lose-that on k v (v.going on)
move-that (Finds_dead on) k w v t = die-that on k v (v.going on)
move-that (Is_answered on) k w v t = answer-that on k v (v.going on)

pub step-passes : (at_side : Party) (st : worlds.WorldStep) (v : World) → IsOfModel v → (side : Party) (k : ℕ)
    → Passes (number_of_side v.here v.there side) (flight_at side k v) (message_event_in side k (record { side = at_side; told = (at at_side st v).1 })) (flight_at side k (at at_side st v).0)
step-passes This st v t This k = move-passes st k t.0 v t.1
step-passes This st v t That k = move-that st k t.0 v t.1
step-passes That st v t That k = move-passes st k (hosts.nodes_swapped t.0) (worlds.swap v) (tied-swapped t.0 v t.1)
step-passes That st v t This k = move-that st k (hosts.nodes_swapped t.0) (worlds.swap v) (tied-swapped t.0 v t.1)

-- the hosts keep their numbers

abbrev pub Numbers : World → World → Type 0
Numbers v x = (x.here ≡ v.here) × (x.there ≡ v.there)

goes-numbers : (o : Option (ℕ × List Bool)) (v : World) → Numbers v (goes o v).0
goes-numbers None v = (refl, refl)
goes-numbers (Some out) v = (refl, refl)

delivers-numbers : (on : ℕ) (h : Holds) (v : World) → Numbers v (delivers on h v).0
delivers-numbers on Free v = (refl, refl)
delivers-numbers on (Accepted m) v = (refl, refl)
delivers-numbers on Delivered v = (refl, refl)
delivers-numbers on Lost v = (refl, refl)
delivers-numbers on Dead v = (refl, refl)

loses-numbers : (on : ℕ) (h : Holds) (v : World) → Numbers v (loses on h v).0
loses-numbers on Free v = (refl, refl)
loses-numbers on (Accepted m) v = (refl, refl)
loses-numbers on Delivered v = (refl, refl)
loses-numbers on Lost v = (refl, refl)
loses-numbers on Dead v = (refl, refl)

dies-numbers : (on : ℕ) (h : Holds) (v : World) → Numbers v (dies on h v).0
dies-numbers on Free v = (refl, refl)
dies-numbers on (Accepted m) v = (refl, refl)
dies-numbers on Delivered v = (refl, refl)
dies-numbers on Lost v = (refl, refl)
dies-numbers on Dead v = (refl, refl)

answers-numbers : (on : ℕ) (h : Holds) (v : World) → Numbers v (answers_for on h v).0
answers-numbers on Free v = (refl, refl)
answers-numbers on (Accepted m) v = (refl, refl)
answers-numbers on Delivered v = (refl, refl)
answers-numbers on Lost v = (refl, refl)
answers-numbers on Dead v = (refl, refl)

moves-numbers : (st : worlds.WorldStep) (v : World) → Numbers v (moves st v).0
moves-numbers (Call_is_made asked) v = (refl, refl)
moves-numbers Goes_out v = goes-numbers (next_of v.there v.this) v
moves-numbers (Is_delivered on) v = delivers-numbers on (v.going on) v
moves-numbers (Is_lost on) v = loses-numbers on (v.going on) v
moves-numbers (Finds_dead on) v = dies-numbers on (v.going on) v
moves-numbers (Is_answered on) v = answers-numbers on (v.going on) v

at-number : (at_side : Party) (st : worlds.WorldStep) (v : World) (side : Party) → number_of_side (at at_side st v).0.here (at at_side st v).0.there side ≡ number_of_side v.here v.there side
at-number This st v This = (moves-numbers st v).0
at-number This st v That = (moves-numbers st v).1
at-number That st v This = (moves-numbers st (worlds.swap v)).1
at-number That st v That = (moves-numbers st (worlds.swap v)).0

pub flies : (es : List WorldEvent) (v : World) → AreEvents es → IsOfModel v → (side : Party) (k : ℕ) → Flies (number_of_side v.here v.there side) (flight_at side k v) (message_events_in side k (notes_from es v))
flies [] v ok t side k = tt
flies (e ∷ es) v ok t side k = (
  flight_at side k (step e v).0,
  step-passes e.side e.step v t side k,
  subst (λ (n : ℕ). Flies n (flight_at side k (step e v).0) (message_events_in side k (notes_from es (step e v).0))) (at-number e.side e.step v side)
      (flies es (step e v).0 ok.1 (step-ties e.side e.step v ok.0 t) side k),
)

pub new-idle : (v : World) → IsNewWorld v → (side : Party) (k : ℕ) → flight_at side k v ≡ Idle
new-idle v n This k = ap (λ (s : PeerState). flight_of (slot_at s.slots k) (v.going k)) n.this ∙ ap (λ (x : LinkSlot). flight_of x (v.going k)) (slot_at-no_slots k)
new-idle v n That k = ap (λ (s : PeerState). flight_of (slot_at s.slots k) (v.coming k)) n.that ∙ ap (λ (x : LinkSlot). flight_of x (v.coming k)) (slot_at-no_slots k)
