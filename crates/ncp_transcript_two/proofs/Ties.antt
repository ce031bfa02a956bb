-- Each step of the world of bits is some step of the model.
use Rattle.std.proofs.Common.{◌≡◌, ℕ, zero, suc, ◌+◌, ◌==◌, Bool, true, false, ◌&&◌, List, Some, refl, sym, ap, ◌∙◌, arith, subst}
use Rattle.std.specs.List.{list_all, range_with_len}
use Rattle.std.proofs.lemmas.Bool.{both_ways, eqb-true, ne_eqb}
use Rattle.ncp_slot.specs.Slots.{LinkSlot}
use Rattle.ncp_slot.specs.Slot.{is_empty}
use Rattle.ncp_slot.specs.Slots.{LinkSlots, slot_at, is_quiet, all_woken}
use Rattle.ncp_slot.specs.Slot.{woken}
use Rattle.ncp_slot.proofs.Waking.{slot_at-all_woken}
use Rattle.ncp_proof_machine.specs.Delivery.{Link, undelivered}
use Rattle.ncp_proof_machine.specs.Delivery as model
use Rattle.ncp_proof_machine.specs.Resets.{Party, This, That}
use Rattle.ncp_proof_machine.specs.Delivery.{answer_of_transit}
use Rattle.ncp_proof_machine.specs.Moving.{put_if_any, first_waiting, as_text}
use Rattle.ncp_slot.specs.Slot.{ready_message}
use Rattle.ncp_model.specs.Effect.{answer}
use Rattle.ncp_model.specs.Ends.{cut_in}
use Rattle.ncp_wire.specs.declared.answer.Answer.{Answer}
use Rattle.ncp_wire.specs.declared.command.Command.{Command}
use Rattle.ncp_peer.specs.Hearing.{is_wrong_link}
use Rattle.ncp_model.specs.Peers.{Peer}
use Rattle.ncp_model.specs.Peers as peers
use Rattle.ncp_proof_machine.specs.Hosts.{TextOut, Node, all_empty, set_link, peer_of}
use Rattle.ncp_proof_machine.specs.Hosts as hosts
use Rattle.ncp_peer.specs.PeerState.{PeerState}
use Rattle.ncp_transcript_two.specs.Subnet.{Holds, Accepted, Lost, Dead, TransitByLink, set_at}
use Rattle.ncp_transcript.specs.Asked.{reply_to, Asked, Asks, Asks_echo, Asks_reset, Asks_wake, state_after_asked}
use Rattle.ncp_transcript_two.specs.World.{NoteBody, Called, Out, In, Went_lost, Went_dead, Answered, Nothing, World}
use Rattle.ncp_transcript_two.specs.World as worlds
use Rattle.ncp_transcript_two.specs.Tie.{MessageState, Nowhere, Waits, Goes, Came, Failed, Died, Kept, model_of, slot_of, LinkRefines, control_bits, text_as_message, AreCommands, IsTextOn, Represents, IsReachable, Begins, Goes_on, Refines, IsAsked}
use Rattle.ncp_proof_machine.specs.Hosts.{Pasts}
use Rattle.ncp_transcript_two.specs.Watch.{pasts_after_call, pasts_after_asked}
use Rattle.ncp_transcript_two.proofs.Histories.{calls-pasts, echo-pasts, reset-pasts}
use Rattle.ncp_proof_machine.proofs.EndsGood.{EndsInvariant}
use Rattle.ncp_transcript_two.specs.Tie.{FieldsInRange}
use Rattle.ncp_transcript_two.proofs.Reaching.{good-here}
use Rattle.ncp_transcript_two.proofs.Well.{calls-well, echo-well, reset-well}
use Rattle.ncp_proof_machine.proofs.Seeing.{calls_agree, echoes_agree, resets_agree}
use Rattle.ncp_transcript_two.proofs.Unmoved.{Unmoved, calls-unmoved, echo-unmoved, reset-unmoved}
use Rattle.ncp_transcript_two.proofs.Links.{carried, delivered, lost, died, wakes, Texts, texts_changed, all_distinct, set_at-apart, set_at-same, set_link-apart, set_link-same, zero_distinct}

-- a link of texts
abbrev pub OnText : ℕ → Type 0
OnText on = ((on == 0) ≡ false) × (is_wrong_link on ≡ false)

-- what a note tells of is this step of the model, which has the message for it
abbrev pub IsFor : NoteBody → Party → hosts.NodeStep → hosts.TwoNodes → Type 0
IsFor (Called (Asks pair call) reply) This (hosts.Calls p c) w = (p ≡ pair) × (c ≡ call)
IsFor (Called (Asks_echo byte) reply) This (hosts.Calls_echo b) w = Unit {0}
IsFor (Called Asks_reset reply) This hosts.Calls_reset w = Unit {0}
IsFor (Called Asks_wake reply) This hosts.Wakes w = Unit {0}
IsFor (Out m) This (hosts.Sends n) w = (cs : List Command) × (ready_message (put_if_any (first_waiting n w.this.host.phase.waiting) w.this.control.slot) ≡ Some cs)
IsFor (Out m) This (hosts.Sends_text on) w = OnText on × (t : TextOut) × (ready_message (put_if_any (as_text (answer (cut_in on w.this.ends))) (w.this.texts on).slot) ≡ Some t)
IsFor (In link m r) That hosts.Hears w = (cs : List Command) × (w.this.control.subnet ≡ model.Accepted cs)
IsFor (In link m r) That (hosts.Hears_text on head) w = OnText on × (t : TextOut) × ((w.this.texts on).subnet ≡ model.Accepted t)
IsFor (Went_lost link) This hosts.Loses w = (cs : List Command) × (w.this.control.subnet ≡ model.Accepted cs)
IsFor (Went_lost link) This (hosts.Loses_text on) w = OnText on × (t : TextOut) × ((w.this.texts on).subnet ≡ model.Accepted t)
IsFor (Went_dead link) This hosts.Dies w = (cs : List Command) × (w.this.control.subnet ≡ model.Accepted cs)
IsFor (Went_dead link) This (hosts.Text_dies on) w = OnText on × (t : TextOut) × ((w.this.texts on).subnet ≡ model.Accepted t)
IsFor (Answered link how r) This hosts.Is_answered w = (cs : List Command) × (a : Answer) × (w.this.control.slot ≡ model.Travelling cs) × (answer_of_transit w.this.control.subnet ≡ Some a)
IsFor (Answered link how r) This (hosts.Text_is_answered on) w = OnText on × (t : TextOut) × (a : Answer) × ((w.this.texts on).slot ≡ model.Travelling t) × (answer_of_transit (w.this.texts on).subnet ≡ Some a)
IsFor told side step w = ⊥

-- the step by which the model comes from one world to another, where something is noted
abbrev pub Leads : NoteBody → hosts.TwoNodes → hosts.TwoNodes → Type 0
Leads Nothing w x = x ≡ w
Leads told w x = (side : Party) × (step : hosts.NodeStep) × IsFor told side step w × (hosts.node_at side step w ≡ x)

-- the model goes on to a world that this one stands for, as is told
abbrev pub FollowsWith : NoteBody → hosts.TwoNodes → Pasts → Pasts → World → Type 0
FollowsWith told w a b v = (x : hosts.TwoNodes) × Refines x v × (x.this.pasts ≡ a) × (x.that.pasts ≡ b) × Leads told w x

-- and the histories are as they were
abbrev pub Follows : NoteBody → hosts.TwoNodes → World → Type 0
Follows told w v = FollowsWith told w w.this.pasts w.that.pasts v

-- the other way round

pub reached-swapped : {w : hosts.TwoNodes} → IsReachable w → IsReachable (hosts.nodes_swapped w)
reached-swapped Begins = Begins
reached-swapped (Goes_on r This step) = Goes_on (reached-swapped r) That step
reached-swapped (Goes_on r That step) = Goes_on (reached-swapped r) This step

pub tied-swapped : (w : hosts.TwoNodes) (v : World) → Refines w v → Refines (hosts.nodes_swapped w) (worlds.swap v)
tied-swapped w v t = record { reached = reached-swapped t.reached; this = t.that; that = t.this }

-- the data links are quiet in both

text-empty : (there on : ℕ) (l : Link TextOut) (s : LinkSlot) (h : Holds) → LinkRefines (text_as_message there on) (IsTextOn on) l s h → is_empty s ≡ is_empty l.slot
text-empty there on l s h c = go c.place c.model c.in_slot
  where
    go : (p : MessageState TextOut) → l ≡ model_of p → s ≡ slot_of (text_as_message there on) p → is_empty s ≡ is_empty l.slot
    go Nowhere a b = ap (λ (x : LinkSlot). is_empty x) b ∙ sym (ap (λ (k : Link TextOut). is_empty k.slot) a)
    go (Waits x) a b = ap (λ (x : LinkSlot). is_empty x) b ∙ sym (ap (λ (k : Link TextOut). is_empty k.slot) a)
    go (Goes x) a b = ap (λ (x : LinkSlot). is_empty x) b ∙ sym (ap (λ (k : Link TextOut). is_empty k.slot) a)
    go (Came x) a b = ap (λ (x : LinkSlot). is_empty x) b ∙ sym (ap (λ (k : Link TextOut). is_empty k.slot) a)
    go (Failed x) a b = ap (λ (x : LinkSlot). is_empty x) b ∙ sym (ap (λ (k : Link TextOut). is_empty k.slot) a)
    go (Died x) a b = ap (λ (x : LinkSlot). is_empty x) b ∙ sym (ap (λ (k : Link TextOut). is_empty k.slot) a)
    go (Kept x) a b = ap (λ (x : LinkSlot). is_empty x) b ∙ sym (ap (λ (k : Link TextOut). is_empty k.slot) a)

all-quiet : (there : ℕ) (t : ℕ → Link TextOut) (s : LinkSlots) (u : TransitByLink) → Texts there t s u → (many from : ℕ) → list_all (λ (k : ℕ). is_empty (slot_at s k)) (range_with_len (suc from) many) ≡ all_empty t many (suc from)
unfolding all_empty
all-quiet there t s u c zero from = refl
all-quiet there t s u c (suc many) from =
    let on : ℕ = suc from in
    let next : on + 1 ≡ suc on = omega arith in
    let test : ℕ → Bool = λ k. is_empty (slot_at s k) in
    ap (λ (b : Bool). b && list_all test (range_with_len (on + 1) many)) (text-empty there on (t on) (slot_at s on) (u on) (c on (ne_eqb on 0 (λ (e : on ≡ 0). omega (arith, e)))))
    ∙ ap (λ (b : Bool). is_empty (t on).slot && b) (ap (λ (k : ℕ). list_all test (range_with_len k many)) next ∙ all-quiet there t s u c many on)

pub quiet-is : (there : ℕ) (t : ℕ → Link TextOut) (s : LinkSlots) (u : TransitByLink) → Texts there t s u → is_quiet s ≡ all_empty t 70 2
unfolding is_quiet
quiet-is there t s u c = all-quiet there t s u c 70 1

-- the host goes on, and its links are as they were
pub stays : (there : ℕ) (n m : Node) (s r : PeerState) (u : TransitByLink) → Represents there n s u → Unmoved n m → r.slots ≡ s.slots → r.peer ≡ peer_of m → FieldsInRange r.peer → Represents there m r u
stays there n m s r u k q e p wl = record {
  number = k.number;
  peer = p;
  control = carried (control_bits there) AreCommands n.control m.control (slot_at s.slots 0) (slot_at r.slots 0) (u 0) (u 0) q.0 (ap (λ (x : LinkSlots). slot_at x 0) e) refl k.control;
  texts = λ on f. carried (text_as_message there on) (IsTextOn on) (n.texts on) (m.texts on) (slot_at s.slots on) (slot_at r.slots on) (u on) (u on) (ap (λ (t : ℕ → Link TextOut). t on) q.1) (ap (λ (x : LinkSlots). slot_at x on) e) refl (k.texts on f);
  well = wl;
}

-- calls

pub call-ties : (asked : Asked) (w : hosts.TwoNodes) (v : World) → IsAsked asked → Refines w v → FollowsWith (Called asked (reply_to asked v.this)) w (pasts_after_asked asked v.this.peer w.this.pasts) w.that.pasts (record v { this = state_after_asked asked v.this })
call-ties (Asks pair call) w v ok t = (
  hosts.node_at This (hosts.Calls pair call) w,
  record {
    reached = Goes_on t.reached This (hosts.Calls pair call);
    this = stays v.there w.this (hosts.node_calls pair call w.this) v.this (state_after_asked (Asks pair call) v.this) v.going t.this (calls-unmoved pair call w.this) refl
        (ap (peers.calls pair call) t.this.peer ∙ sym (calls_agree pair call w.this))
        (calls-well pair call v.this.peer ok.0 ok.1 ((subst (λ (p : Peer). EndsInvariant p.ends) (sym t.this.peer) (good-here w t.reached)).limits pair) t.this.well);
    that = t.that;
  },
  calls-pasts pair call w.this ∙ ap (λ (p : Peer). pasts_after_call pair call p w.this.pasts) (sym t.this.peer),
  refl,
  (This, hosts.Calls pair call, (refl, refl), refl),
)
call-ties (Asks_echo byte) w v ok t = (
  hosts.node_at This (hosts.Calls_echo byte) w,
  record {
    reached = Goes_on t.reached This (hosts.Calls_echo byte);
    this = stays v.there w.this (hosts.node_calls_echo byte w.this) v.this (state_after_asked (Asks_echo byte) v.this) v.going t.this (echo-unmoved byte w.this) refl
        (ap (peers.calls_echo byte) t.this.peer ∙ sym (echoes_agree byte w.this)) (echo-well byte v.this.peer ok t.this.well);
    that = t.that;
  },
  echo-pasts byte w.this,
  refl,
  (This, hosts.Calls_echo byte, tt, refl),
)
call-ties Asks_reset w v ok t = (
  hosts.node_at This hosts.Calls_reset w,
  record {
    reached = Goes_on t.reached This hosts.Calls_reset;
    this = stays v.there w.this (hosts.node_calls_reset w.this) v.this (state_after_asked Asks_reset v.this) v.going t.this (reset-unmoved w.this) refl
        (ap (λ (b : Bool). peers.calls_reset b v.this.peer) (quiet-is v.there w.this.texts v.this.slots v.going t.this.texts) ∙ ap (peers.calls_reset (hosts.quiet w.this)) t.this.peer ∙ sym (resets_agree w.this))
        (reset-well (is_quiet v.this.slots) v.this.peer t.this.well);
    that = t.that;
  },
  reset-pasts w.this,
  refl,
  (This, hosts.Calls_reset, tt, refl),
)
call-ties Asks_wake w v ok t = (
  hosts.node_at This hosts.Wakes w,
  record {
    reached = Goes_on t.reached This hosts.Wakes;
    this = record {
      number = t.this.number;
      peer = t.this.peer;
      control = carried (control_bits v.there) AreCommands (record { slot = woken w.this.control.slot; subnet = w.this.control.subnet }) (record { slot = woken w.this.control.slot; subnet = w.this.control.subnet }) (woken (slot_at v.this.slots 0)) (slot_at (all_woken v.this.slots) 0) (v.going 0) (v.going 0)
          refl (slot_at-all_woken v.this.slots 0) refl (wakes (control_bits v.there) AreCommands w.this.control (slot_at v.this.slots 0) (v.going 0) t.this.control);
      texts = λ on z. carried (text_as_message v.there on) (IsTextOn on) (record { slot = woken (w.this.texts on).slot; subnet = (w.this.texts on).subnet }) (record { slot = woken (w.this.texts on).slot; subnet = (w.this.texts on).subnet }) (woken (slot_at v.this.slots on)) (slot_at (all_woken v.this.slots) on) (v.going on) (v.going on)
          refl (slot_at-all_woken v.this.slots on) refl (wakes (text_as_message v.there on) (IsTextOn on) (w.this.texts on) (slot_at v.this.slots on) (v.going on) (t.this.texts on z));
      well = t.this.well;
    };
    that = t.that;
  },
  refl,
  refl,
  (This, hosts.Wakes, tt, refl),
)

-- the subnet loses a message

lose-control : (w : hosts.TwoNodes) (v : World) (m : List Bool) → Refines w v → v.going 0 ≡ Accepted m → Follows (Went_lost 0) w (record v { going = set_at 0 Lost v.going })
lose-control w v m t e = (
  hosts.node_at This hosts.Loses w,
  record {
    reached = Goes_on t.reached This hosts.Loses;
    this = record {
      number = t.this.number;
      peer = t.this.peer;
      control = lost (control_bits v.there) AreCommands w.this.control (slot_at v.this.slots 0) (v.going 0) m t.this.control e;
      texts = texts_changed v.there 0 w.this.texts w.this.texts v.this.slots v.this.slots v.going (set_at 0 Lost v.going)
          (all_distinct 0 w.this.texts) (all_distinct 0 (slot_at v.this.slots)) (set_at-apart 0 Lost v.going) (λ f. absurd (both_ways true f refl)) t.this.texts;
      well = t.this.well;
    };
    that = t.that;
  },
  refl,
  refl,
  (let c = delivered (control_bits v.there) AreCommands w.this.control (slot_at v.this.slots 0) (v.going 0) m t.this.control e in (This, hosts.Loses, (c.what, c.there), refl)),
)

lose-text : (on : ℕ) (w : hosts.TwoNodes) (v : World) (m : List Bool) → (on == 0) ≡ false → Refines w v → v.going on ≡ Accepted m → Follows (Went_lost on) w (record v { going = set_at on Lost v.going })
lose-text on w v m f t e = (
  hosts.node_at This (hosts.Loses_text on) w,
  record {
    reached = Goes_on t.reached This (hosts.Loses_text on);
    this = record {
      number = t.this.number;
      peer = t.this.peer;
      control = carried (control_bits v.there) AreCommands w.this.control w.this.control (slot_at v.this.slots 0) (slot_at v.this.slots 0) (v.going 0) (set_at on Lost v.going 0) refl refl (set_at-apart on Lost v.going 0 (zero_distinct on f)) t.this.control;
      texts = texts_changed v.there on w.this.texts (set_link on after w.this.texts) v.this.slots v.this.slots v.going (set_at on Lost v.going)
          (set_link-apart on after w.this.texts) (all_distinct on (slot_at v.this.slots)) (set_at-apart on Lost v.going)
          (λ _. carried (text_as_message v.there on) (IsTextOn on) after (set_link on after w.this.texts on) (slot_at v.this.slots on) (slot_at v.this.slots on) Lost (set_at on Lost v.going on) (set_link-same on after w.this.texts) refl (set_at-same on Lost v.going)
          (lost (text_as_message v.there on) (IsTextOn on) (w.this.texts on) (slot_at v.this.slots on) (v.going on) m (t.this.texts on f) e))
          t.this.texts;
      well = t.this.well;
    };
    that = t.that;
  },
  refl,
  refl,
  (let c = delivered (text_as_message v.there on) (IsTextOn on) (w.this.texts on) (slot_at v.this.slots on) (v.going on) m (t.this.texts on f) e in (This, hosts.Loses_text on, ((f, c.fits.0), c.what, c.there), refl)),
)
  where
    after : Link TextOut
    after = record (w.this.texts on) { subnet = undelivered model.Lost (w.this.texts on).subnet }

pub lose-ties : (on : ℕ) (w : hosts.TwoNodes) (v : World) (m : List Bool) → Refines w v → v.going on ≡ Accepted m → Follows (Went_lost on) w (record v { going = set_at on Lost v.going })
lose-ties on w v m t e = go (on == 0) refl
  where
    go : (b : Bool) → (on == 0) ≡ b → Follows (Went_lost on) w (record v { going = set_at on Lost v.going })
    go true z = subst (λ (k : ℕ). v.going k ≡ Accepted m → Follows (Went_lost k) w (record v { going = set_at k Lost v.going })) (sym (eqb-true on 0 z)) (lose-control w v m t) e
    go false z = lose-text on w v m z t e

-- the subnet finds the destination of a message dead

die-control : (w : hosts.TwoNodes) (v : World) (m : List Bool) → Refines w v → v.going 0 ≡ Accepted m → Follows (Went_dead 0) w (record v { going = set_at 0 Dead v.going })
die-control w v m t e = (
  hosts.node_at This hosts.Dies w,
  record {
    reached = Goes_on t.reached This hosts.Dies;
    this = record {
      number = t.this.number;
      peer = t.this.peer;
      control = died (control_bits v.there) AreCommands w.this.control (slot_at v.this.slots 0) (v.going 0) m t.this.control e;
      texts = texts_changed v.there 0 w.this.texts w.this.texts v.this.slots v.this.slots v.going (set_at 0 Dead v.going)
          (all_distinct 0 w.this.texts) (all_distinct 0 (slot_at v.this.slots)) (set_at-apart 0 Dead v.going) (λ f. absurd (both_ways true f refl)) t.this.texts;
      well = t.this.well;
    };
    that = t.that;
  },
  refl,
  refl,
  (let c = delivered (control_bits v.there) AreCommands w.this.control (slot_at v.this.slots 0) (v.going 0) m t.this.control e in (This, hosts.Dies, (c.what, c.there), refl)),
)

die-text : (on : ℕ) (w : hosts.TwoNodes) (v : World) (m : List Bool) → (on == 0) ≡ false → Refines w v → v.going on ≡ Accepted m → Follows (Went_dead on) w (record v { going = set_at on Dead v.going })
die-text on w v m f t e = (
  hosts.node_at This (hosts.Text_dies on) w,
  record {
    reached = Goes_on t.reached This (hosts.Text_dies on);
    this = record {
      number = t.this.number;
      peer = t.this.peer;
      control = carried (control_bits v.there) AreCommands w.this.control w.this.control (slot_at v.this.slots 0) (slot_at v.this.slots 0) (v.going 0) (set_at on Dead v.going 0) refl refl (set_at-apart on Dead v.going 0 (zero_distinct on f)) t.this.control;
      texts = texts_changed v.there on w.this.texts (set_link on after w.this.texts) v.this.slots v.this.slots v.going (set_at on Dead v.going)
          (set_link-apart on after w.this.texts) (all_distinct on (slot_at v.this.slots)) (set_at-apart on Dead v.going)
          (λ _. carried (text_as_message v.there on) (IsTextOn on) after (set_link on after w.this.texts on) (slot_at v.this.slots on) (slot_at v.this.slots on) Dead (set_at on Dead v.going on) (set_link-same on after w.this.texts) refl (set_at-same on Dead v.going)
          (died (text_as_message v.there on) (IsTextOn on) (w.this.texts on) (slot_at v.this.slots on) (v.going on) m (t.this.texts on f) e))
          t.this.texts;
      well = t.this.well;
    };
    that = t.that;
  },
  refl,
  refl,
  (let c = delivered (text_as_message v.there on) (IsTextOn on) (w.this.texts on) (slot_at v.this.slots on) (v.going on) m (t.this.texts on f) e in (This, hosts.Text_dies on, ((f, c.fits.0), c.what, c.there), refl)),
)
  where
    after : Link TextOut
    after = record (w.this.texts on) { subnet = undelivered model.Dead (w.this.texts on).subnet }

pub die-ties : (on : ℕ) (w : hosts.TwoNodes) (v : World) (m : List Bool) → Refines w v → v.going on ≡ Accepted m → Follows (Went_dead on) w (record v { going = set_at on Dead v.going })
die-ties on w v m t e = go (on == 0) refl
  where
    go : (b : Bool) → (on == 0) ≡ b → Follows (Went_dead on) w (record v { going = set_at on Dead v.going })
    go true z = subst (λ (k : ℕ). v.going k ≡ Accepted m → Follows (Went_dead k) w (record v { going = set_at k Dead v.going })) (sym (eqb-true on 0 z)) (die-control w v m t) e
    go false z = die-text on w v m z t e
