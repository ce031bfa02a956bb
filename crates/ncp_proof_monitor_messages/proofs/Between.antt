-- Two hosts with the subnet between them, as the model has them, through each event; and what passes with it.
use Rattle.std.proofs.Common.{◌≡◌, ◌≢◌, ℕ, ◌<◌, ◌==◌, Bool, true, false, nat_le, if◌then◌else◌, List, [], ◌∷◌, length, Option, None, Some, Ok, refl, sym, ap, ◌∙◌, subst, arith}
use Rattle.std.proofs.lemmas.Bool.{eq-eqb, eqb-true, ne_eqb}
use Rattle.ncp_numbers.specs.Bytes.{bits_of_bytes}
use Rattle.ncp_leader.specs.declared.kinds.TheConstants.{REGULAR}
use Rattle.ncp_leader.specs.declared.leader.Leader.{Leader}
use Rattle.ncp_leader.specs.declared.leader.TheConstants.{LEADER_BITS}
use Rattle.ncp_leader.specs.Leader.{leader_in, leader_at}
use Rattle.ncp_wire.specs.Spelling.{spellings}
use Rattle.ncp_slot.specs.declared.slot.Slot.{Slot}
use Rattle.ncp_slot.specs.Slots.{LinkSlot, slot_at}
use Rattle.ncp_subnet.specs.Messages.{host_in, link_in}
use Rattle.ncp_subnet.specs.Transit.{is_free, answer_kind}
use Rattle.ncp_subnet.specs.Ways.{OnLink}
use Rattle.ncp_subnet.specs.Subnet.{has_way, transit_at, with_transit, new_subnet}
use Rattle.ncp_subnet.proofs.NewRows.{has_way-new, transit-new}
use Rattle.ncp_proof_machine.specs.Delivery.{Link}
use Rattle.ncp_proof_machine.specs.Hosts.{TwoNodes, nodes_swapped}
use Rattle.ncp_model.specs.Peers.{Peer}
use Rattle.ncp_peer.specs.PeerState.{new_state}
use Rattle.ncp_peer.specs.Hearing.{is_wrong_link}
use Rattle.ncp_peer.specs.Output.{leader_to, message_to, links, next_of, message_on, output_by, after_output}
use Rattle.ncp_host.specs.Turns.{next_output}
use Rattle.ncp_transcript.specs.declared.note.HostNote.{HostNote}
use Rattle.ncp_transcript_two.specs.Subnet.{Holds, Free, Accepted, Delivered, Lost, Dead, set_at, from_host, answer_bits}
use Rattle.ncp_transcript_two.specs.World.{World, NoteBody}
use Rattle.ncp_transcript_two.specs.Tie.{MessageState, Nowhere, Waits, Goes, Came, Failed, Died, Kept, slot_of, holds_of, LinkRefines, control_bits, text_as_message, AreCommands, IsText, IsTextOn, Refines, IsOfModel}
use Rattle.ncp_transcript_two.specs.declared.event.Event.{Event}
use Rattle.ncp_transcript_two.specs.declared.note.Note.{Note}
use Rattle.ncp_transcript_two.specs.Between.{Hosts, new_hosts, is_regular, accepted_from, subnet_after_out, hosts_after_note}
use Rattle.ncp_transcript_two.specs.Happening.{Noted}
use Rattle.ncp_transcript_two.specs.Seen.{state_or_new, had_for, seen, as_rules, body_of, side_of}
use Rattle.ncp_transcript_two.proofs.Accepting.{taken_yes, both}
use Rattle.ncp_transcript_two.proofs.OnePeer.{next-message}
use Rattle.ncp_transcript_two.proofs.Links.{set_at-same, Comes, delivered}
use Rattle.ncp_transcript_two.proofs.Comings.{small}
use Rattle.ncp_transcript_two.proofs.Goings.{Found, found, not_true, links-right, out-ties}
use Rattle.ncp_transcript_two.proofs.Flights.{out-link, delivered-out, lost-out, dead-out}
use Rattle.ncp_transcript_two.proofs.Ties.{tied-swapped}
use Rattle.ncp_transcript_two.proofs.Runs.{step-ties, new-ties}
use Rattle.ncp_transcript_two.proofs.Written.{led, from_host-message, control_text, answer_leader, answer-led}
use Rattle.ncp_transcript_two.proofs.SeenSteps.{Stand}
use Rattle.ncp_transcript_two.proofs.SeenMoves.{sent-led, leader-parts}
use Rattle.ncp_transcript_two.proofs.SeenRuns.{stand-after, DoesOn, counterpart, stand-counterpart, event-does}
use Rattle.ncp_interface.specs.Events.{is_answer}
use Rattle.ncp_interface.specs.Slots.{same_but_host}
use Rattle.ncp_proof_monitor_messages.proofs.Near.{near}

pub record Joined (w : Hosts) : Type 0 where
  pub stand : Stand w
  pub model : IsOfModel (seen w)

pub turned_joined : (w : Hosts) → Joined w → Joined (counterpart w)
turned_joined w k = record { stand = stand-counterpart w k.stand; model = (nodes_swapped k.model.0, tied-swapped k.model.0 (seen w) k.model.1) }

of_model : (note : Note) (w : Hosts) (o : Option NoteBody) → DoesOn (as_rules (side_of note)) o (seen w) (seen (hosts_after_note note w)) → IsOfModel (seen w) → IsOfModel (seen (hosts_after_note note w))
of_model note w None same m = subst IsOfModel (sym same) m
of_model note w (Some t) (st, ok, is) m = subst IsOfModel (ap (λ (d : World × NoteBody). d.0) is) (step-ties (as_rules (side_of note)) st (seen w) ok m)

pub joined_after : (event : Event) (note : Note) (w : Hosts) → Noted event note w → Joined w → Joined (hosts_after_note note w)
joined_after event note w n k = record {
  stand = stand-after note w k.stand;
  model = of_model note w (body_of note) (event-does w k.stand k.model.0 k.model.1 event note n) k.model;
}

-- ---- a message is sent

free_of : {M : Type 0} (write : M → List Bool) (P : M → Type 0) (l : Link M) (s : LinkSlot) (h : Holds) → LinkRefines write P l s h → (number on : ℕ) (p : Peer) (m : List Bool) → output_by s number on p ≡ Some m → h ≡ Free
free_of write P l s h c number on p m o = go c.place c.in_slot c.in_subnet
  where
    stuck : (r : List Bool) → s ≡ Slot.Travelling r → h ≡ Free
    stuck r e = let none : None ≡ Some m = ap (λ (x : LinkSlot). output_by x number on p) (sym e) ∙ o in absurd (cc none)

    held : (r : List Bool) → s ≡ Slot.Held r → h ≡ Free
    held r e = let none : None ≡ Some m = ap (λ (x : LinkSlot). output_by x number on p) (sym e) ∙ o in absurd (cc none)

    go : (place : MessageState _) → s ≡ slot_of write place → h ≡ holds_of write place → h ≡ Free
    go Nowhere a b = b
    go (Waits x) a b = b
    go (Goes x) a b = stuck (write x) a
    go (Came x) a b = stuck (write x) a
    go (Failed x) a b = stuck (write x) a
    go (Died x) a b = stuck (write x) a
    go (Kept x) a b = held (write x) a

-- of side A
pub record Leaves (w : Hosts) (m : List Bool) : Type 0 where
  pub on : ℕ
  pub led : leader_in m ≡ Ok (leader_to w.number_b on)
  pub free : transit_at w.subnet w.number_a w.number_b on ≡ Free
  pub takes : subnet_after_out w.number_a (HostNote.Out m) w.subnet ≡ with_transit w.subnet w.number_a w.number_b on (Accepted m)
  pub next : next_of w.number_b (had_for w.number_b w.a) ≡ Some (on, m)
  pub right : is_wrong_link on ≡ false
  pub ready : output_by (slot_at (had_for w.number_b w.a).slots on) w.number_b on (had_for w.number_b w.a).peer ≡ Some m

some_out : (o : Option (ℕ × List Bool)) (m : List Bool) → message_on o ≡ Some m → (on : ℕ) × (o ≡ Some (on, m))
some_out None m e = absurd (cc)
some_out (Some out) m e = let same : out.1 ≡ m = cc in (out.0, ap (λ (x : List Bool). Some (out.0, x)) same)

pub leaves : (w : Hosts) (m : List Bool) → Joined w → next_output w.a ≡ Some m → Leaves w m
leaves w m k q = go (some_out (next_of w.number_b (had_for w.number_b w.a)) m (sym (next-message w.number_b w.a k.stand.a) ∙ q))
  where
    v : World
    v = seen w

    x : TwoNodes
    x = k.model.0

    t : Refines x v
    t = k.model.1

    go : (on : ℕ) × (next_of w.number_b (had_for w.number_b w.a) ≡ Some (on, m)) → Leaves w m
    go (on, e) = record { on = on; led = led_on; free = free; takes = takes; next = e; right = not_true (is_wrong_link on) f.0; ready = f.1 }
      where
        f : Found v.there v.this (on, m)
        f = found v.there links v.this (on, m) e links-right

        link : link_in m ≡ on
        link = out-link on x v m (slot_at v.this.slots on) (not_true (is_wrong_link on) f.0) t refl f.1

        first : leader_in m ≡ Ok (leader_to v.there (link_in m))
        first =
            let after = out-ties x v (on, m) t e in
            (sent-led (link_in m) after.0 (record v { this = after_output on m v.this; going = set_at (link_in m) (Accepted m) v.going }) m after.1 (set_at-same (link_in m) (Accepted m) v.going)).0

        led_on : leader_in m ≡ Ok (leader_to w.number_b on)
        led_on = first ∙ ap (λ (j : ℕ). Ok (leader_to w.number_b j)) link

        by : (b : Bool) → (on == 0) ≡ b → v.going on ≡ Free
        by true z =
            let zero : on ≡ 0 = eqb-true on 0 z in
            ap v.going zero ∙ free_of (control_bits v.there) AreCommands x.this.control (slot_at v.this.slots 0) (v.going 0) t.this.control v.there on v.this.peer m (ap (λ (j : ℕ). output_by (slot_at v.this.slots j) v.there on v.this.peer) (sym zero) ∙ f.1)
        by false z = free_of (text_as_message v.there on) (IsTextOn on) (x.this.texts on) (slot_at v.this.slots on) (v.going on) (t.this.texts on z) v.there on v.this.peer m f.1

        free : transit_at w.subnet w.number_a w.number_b on ≡ Free
        free = by (on == 0) refl

        takes : accepted_from w.number_a m w.subnet ≡ with_transit w.subnet w.number_a w.number_b on (Accepted m)
        takes =
            let parts : (nat_le LEADER_BITS (length m) ≡ true) × (leader_at m ≡ leader_to w.number_b on) = leader-parts m (leader_to w.number_b on) led_on in
            let to_b : host_in m ≡ w.number_b = ap (λ (l : Leader). l.host) parts.1 in
            let regular : is_regular m ≡ true = both _ _ parts.0 (ap (λ (l : Leader). l.kind == REGULAR) parts.1) in
            let way : has_way w.subnet w.number_a (host_in m) ≡ true = ap (has_way w.subnet w.number_a) to_b ∙ k.stand.to_b in
            let is_clear : is_free (transit_at w.subnet w.number_a (host_in m) (link_in m)) ≡ true = ap (λ (n : ℕ). is_free (transit_at w.subnet w.number_a n (link_in m))) to_b ∙ ap (λ (j : ℕ). is_free (transit_at w.subnet w.number_a w.number_b j)) link ∙ ap (λ (o : OnLink). is_free o) free in
            taken_yes w.subnet w.number_a m (both _ _ (both _ _ regular way) is_clear)
            ∙ ap (λ (n : ℕ). with_transit w.subnet w.number_a n (link_in m) (Accepted m)) to_b ∙ ap (λ (j : ℕ). with_transit w.subnet w.number_a w.number_b j (Accepted m)) link

-- ---- it comes

-- what the subnet has of side A, as it was written
pub record Written (w : Hosts) (on : ℕ) (m : List Bool) : Type 0 where
  pub size : ℕ
  pub text : List Bool
  pub fits : IsText size text
  pub few : on < 256
  pub is : m ≡ message_to w.number_b on size text

pub written : (w : Hosts) (on : ℕ) (m : List Bool) → Joined w → transit_at w.subnet w.number_a w.number_b on ≡ Accepted m → Written w on m
written w on m k e = go (on == 0) refl
  where
    v : World
    v = seen w

    x : TwoNodes
    x = k.model.0

    t : Refines x v
    t = k.model.1

    zero_on : v.going 0 ≡ Accepted m → Written w 0 m
    zero_on e =
        let c : Comes (control_bits v.there) AreCommands x.this.control (slot_at v.this.slots 0) m = delivered (control_bits v.there) AreCommands x.this.control (slot_at v.this.slots 0) (v.going 0) m t.this.control e in
        record { size = 8; text = bits_of_bytes (spellings c.what); fits = control_text c.what c.fits; few = omega arith; is = c.written }

    go : (b : Bool) → (on == 0) ≡ b → Written w on m
    go true z = subst (λ (j : ℕ). v.going j ≡ Accepted m → Written w j m) (sym (eqb-true on 0 z)) zero_on e
    go false z =
        let c : Comes (text_as_message v.there on) (IsTextOn on) (x.this.texts on) (slot_at v.this.slots on) m = delivered (text_as_message v.there on) (IsTextOn on) (x.this.texts on) (slot_at v.this.slots on) (v.going on) m (t.this.texts on z) e in
        record { size = c.what.of_size; text = c.what.bits; fits = c.fits.1; few = small on c.fits.0; is = c.written }

pub comes_as : (w : Hosts) (on : ℕ) (m : List Bool) (r : Written w on m) → from_host w.number_a m ≡ message_to w.number_a on r.size r.text
comes_as w on m r = ap (from_host w.number_a) r.is ∙ from_host-message w.number_a w.number_b on r.size r.text

pub comes_led : (w : Hosts) (on : ℕ) (m : List Bool) → Joined w → Written w on m → leader_in (from_host w.number_a m) ≡ Ok (leader_to w.number_a on)
comes_led w on m k r = ap leader_in (comes_as w on m r) ∙ led w.number_a on r.size r.text k.stand.fits_a r.few r.fits

pub comes_near : (w : Hosts) (on : ℕ) (m : List Bool) → Written w on m → same_but_host m (from_host w.number_a m) ≡ true
comes_near w on m r = ap (same_but_host m) (comes_as w on m r) ∙ ap (λ (x : List Bool). same_but_host x (message_to w.number_a on r.size r.text)) r.is ∙ near w.number_a w.number_b on r.size r.text

-- ---- it is answered

pub record AnswerLed (w : Hosts) (on kind : ℕ) : Type 0 where
  pub led : leader_in (answer_bits kind w.number_b on) ≡ Ok (answer_leader kind w.number_b on)
  pub not_regular : (kind == 0) ≡ false
  pub is_one : is_answer kind ≡ true

pub answer_leads : (w : Hosts) (on kind : ℕ) → Joined w → answer_kind (transit_at w.subnet w.number_a w.number_b on) ≡ Some kind → AnswerLed w on kind
answer_leads w on kind k e = go (transit_at w.subnet w.number_a w.number_b on) refl e
  where
    x : TwoNodes
    x = k.model.0

    t : Refines x (seen w)
    t = k.model.1

    go : (h : OnLink) → transit_at w.subnet w.number_a w.number_b on ≡ h → answer_kind h ≡ Some kind → AnswerLed w on kind
    go Free q e = absurd (cc)
    go (Accepted m) q e = absurd (cc)
    go Delivered q e =
        let is : 5 ≡ kind = cc in
        subst (AnswerLed w on) is (record { led = answer-led 5 w.number_b on (record { flags = omega arith; kind = omega arith; host = k.stand.fits_b; link = (delivered-out on x (seen w) t q).fits; low = omega arith }); not_regular = refl; is_one = refl })
    go Lost q e =
        let is : 9 ≡ kind = cc in
        subst (AnswerLed w on) is (record { led = answer-led 9 w.number_b on (record { flags = omega arith; kind = omega arith; host = k.stand.fits_b; link = (lost-out on x (seen w) t q).fits; low = omega arith }); not_regular = refl; is_one = refl })
    go Dead q e =
        let is : 7 ≡ kind = cc in
        subst (AnswerLed w on) is (record { led = answer-led 7 w.number_b on (record { flags = omega arith; kind = omega arith; host = k.stand.fits_b; link = (dead-out on x (seen w) t q).fits; low = omega arith }); not_regular = refl; is_one = refl })

-- ---- the beginning

two : (a b : ℕ) → a ≢ b → has_way (new_subnet (a ∷ b ∷ [])) a b ≡ true
two a b differ = has_way-new (a ∷ b ∷ []) a b ∙ rw (eq-eqb a a refl, eq-eqb b b refl, ne_eqb a b differ) refl

back : (a b : ℕ) → a ≢ b → has_way (new_subnet (a ∷ b ∷ [])) b a ≡ true
back a b differ = has_way-new (a ∷ b ∷ []) b a ∙ rw (eq-eqb a a refl, eq-eqb b b refl, ne_eqb a b differ, ne_eqb b a (λ e. differ (sym e))) refl

new_had : (n : ℕ) → state_or_new (if n == n then Some new_state else None) ≡ new_state
new_had n = ap (λ (b : Bool). state_or_new (if b then Some new_state else None)) (eq-eqb n n refl)

pub new_joined : (a b : ℕ) → a ≢ b → a < 256 → b < 256 → Joined (new_hosts a b)
new_joined a b differ k l = record {
  stand = record { differ = differ; fits_a = k; fits_b = l; a = refl; b = refl; to_b = two a b differ; to_a = back a b differ };
  model = new-ties (seen (new_hosts a b)) (record {
    here = k;
    there = l;
    this = new_had b;
    that = new_had a;
    going = λ on. transit-new (a ∷ b ∷ []) a b on;
    coming = λ on. transit-new (a ∷ b ∷ []) b a on;
  });
}
