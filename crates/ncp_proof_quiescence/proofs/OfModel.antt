-- Meant for other crates too: they cite what is public here.
--
-- Where nothing can happen to a world of bits, nothing moves in the world of the model for which it stands.
use Rattle.std.proofs.Common.{◌≡◌, ◌≢◌, ◌≤◌, ◌<◌, ◌+◌, ◌-◌, ℕ, zero, suc, ◌==◌, Bool, true, false, ◌||◌, nat_le, if◌then◌else◌, List, [], ◌∷◌, length, All, Option, None, Some, refl, sym, ap, ◌∙◌, arith}
use Rattle.std.specs.List.{range_with_len}
use Rattle.std.proofs.lemmas.Bool.{both_ways, ne_eqb, eq-eqb}
use Rattle.std.proofs.lemmas.List.Elements.{All-head}
use Rattle.ncp_wire.specs.declared.command.Command.{Command}
use Rattle.ncp_wire.specs.Spelling.{IsCommand, spelling}
use Rattle.ncp_control.proofs.Reading.{spelling_short}
use Rattle.ncp_slot.specs.Slot.{ready_message}
use Rattle.ncp_slot.specs.Slots.{HasSlot, LinkSlot, slot_at}
use Rattle.ncp_model.specs.declared.limits.TheConstants.{MAX_CONTROL}
use Rattle.ncp_wire.specs.declared.links.TheConstants.{FIRST_LINK, DATA_LINKS}
use Rattle.ncp_model.specs.Effect.{answer, is_data_link}
use Rattle.ncp_model.specs.Ends.{cut_in}
use Rattle.ncp_model.specs.Sending.{fitting, next_commands}
use Rattle.ncp_model.specs.Peers.{Peer}
use Rattle.ncp_proof_machine.specs.Delivery.{Slot, Link, idle}
use Rattle.ncp_proof_machine.specs.Delivery
use Rattle.ncp_proof_machine.specs.Resets.{This, That}
use Rattle.ncp_proof_machine.specs.Hosts.{TextOut, Node, nodes_swapped, NodeStep, Sends, Sends_text, Hears, Hears_text, Loses, Loses_text, Dies, Text_dies, Is_answered, Text_is_answered, Wakes, TwoNodes}
use Rattle.ncp_proof_machine.specs.Moving.{put_if_any, first_waiting, as_text}
use Rattle.ncp_peer.specs.PeerState.{PeerState}
use Rattle.ncp_host.specs.Host.{is_one_of}
use Rattle.ncp_peer.specs.Output.{links, output_by, output_on, control_message, text_message}
use Rattle.ncp_proof_runs.proofs.Ready.{none_is}
use Rattle.ncp_transcript_two.specs.Subnet.{Holds, TransitByLink, Free}
use Rattle.ncp_transcript_two.specs.World.{World}
use Rattle.ncp_transcript_two.specs.Tie.{MessageState, Nowhere, Waits, Goes, Came, Failed, Died, Kept, slot_of, model_of, holds_of, LinkRefines, control_bits, text_as_message, AreCommands, IsTextOn, Represents, Refines}
use Rattle.ncp_proof_progress.specs.HostsWork.{IsOnDataLink, moved, held_texts, one_if_any, one_if_accepted, one_if_told, one_if_held}
use Rattle.ncp_proof_progress.specs.Idle.{IsSettledInModel}
use Rattle.ncp_proof_quiescence.specs.Settled.{is_held, IsStill, IsSettled}

-- the links of a host are those on which a message may be

among : (on from many : ℕ) → from ≤ on → on < from + many → is_one_of on (range_with_len from many) ≡ true
among on from zero l h = absurd (omega (arith, l, h))
among on from (suc many) l h = go (from == on) refl (λ m. among on (from + 1) many m (omega (arith, h)))
  where
    go : (b : Bool) → (from == on) ≡ b → (from + 1 ≤ on → is_one_of on (range_with_len (from + 1) many) ≡ true) → ((from == on) || is_one_of on (range_with_len (from + 1) many)) ≡ true
    go true e rest = ap (λ (b : Bool). b || is_one_of on (range_with_len (from + 1) many)) e
    go false e rest =
        let apart : from ≢ on = λ s. both_ways (from == on) e (eq-eqb from on s) in
        ap (λ (b : Bool). b || is_one_of on (range_with_len (from + 1) many)) e ∙ rest (omega (arith, l, apart))

pub a-link : (on : ℕ) → is_data_link on ≡ true → is_one_of on links ≡ true
a-link on d =
    let l : 2 ≤ on = grind (arith, d) in
    let h : on < 72 = grind (arith, d) in
    let e : (0 == on) ≡ false = ne_eqb 0 on (λ z. omega (arith, z, l)) in
    ap (λ (b : Bool). b || is_one_of on (range_with_len 2 70)) e ∙ among on 2 70 l h

has-slot : (on : ℕ) → is_data_link on ≡ true → HasSlot on
has-slot on d =
    let l : 2 ≤ on = grind (arith, d) in
    let h : on < 72 = grind (arith, d) in
    (λ e. omega (arith, e, l), omega (arith, h))

none-has : HasSlot 0
none-has = (λ e. omega (arith, e), omega arith)

-- a link on which nothing is in transit, held or ready has nothing
nothing-there : {M : Type 0} (write : M → List Bool) (P : M → Type 0) (l : Link M) (s : LinkSlot) (h : Holds) → LinkRefines write P l s h → h ≡ Free → is_held s ≡ false → ((r : List Bool) → s ≡ Slot.Ready r → ⊥) → (l ≡ idle) × (s ≡ Slot.Empty)
nothing-there write P l s h c f k n = go c.place c.model c.in_slot c.in_subnet
  where
    go : (place : MessageState _) → l ≡ model_of place → s ≡ slot_of write place → h ≡ holds_of write place → (l ≡ idle) × (s ≡ Slot.Empty)
    go Nowhere a b d = (a, b)
    go (Waits m) a b d = absurd (n (write m) b)
    go (Goes m) a b d = absurd (cc (sym f ∙ d))
    go (Came m) a b d = absurd (cc (sym f ∙ d))
    go (Failed m) a b d = absurd (cc (sym f ∙ d))
    go (Died m) a b d = absurd (cc (sym f ∙ d))
    go (Kept m) a b d = absurd (both_ways (is_held s) k (ap is_held b))

pub not-ready : (on number : ℕ) (s : PeerState) → output_on number on s ≡ None → (r : List Bool) → slot_at s.slots on ≡ Slot.Ready r → ⊥
not-ready on number s o r e = cc (sym (ap (λ (x : LinkSlot). output_by x number on s.peer) e) ∙ o)

-- and where no message is made nothing waits

none-next : (cs : List Command) → All IsCommand cs → next_commands cs ≡ [] → cs ≡ []
none-next [] a e = refl
none-next (c ∷ cs) a e = go (nat_le (length (spelling c)) MAX_CONTROL) refl
  where
    short : nat_le (length (spelling c)) MAX_CONTROL ≡ true
    short = let l = spelling_short c (All-head IsCommand c cs a) in grind (arith, l)

    go : (b : Bool) → nat_le (length (spelling c)) MAX_CONTROL ≡ b → (c ∷ cs) ≡ []
    go true t = absurd (cc (sym (ap (λ (b : Bool). if b then c ∷ fitting (MAX_CONTROL - length (spelling c)) cs else []) t) ∙ e))
    go false t = absurd (both_ways (nat_le (length (spelling c)) MAX_CONTROL) t short)

none-made : (number : ℕ) (cs : List Command) → control_message number cs ≡ None → cs ≡ []
none-made number [] e = refl
none-made number (c ∷ cs) e = absurd (cc e)

no-text-made : (number on : ℕ) (o : Option (ℕ × List Bool)) → text_message number on o ≡ None → o ≡ None
no-text-made number on None e = refl
no-text-made number on (Some t) e = absurd (cc e)

-- one host, and what it has in transit
pub record Quiet (n : Node) (s : PeerState) : Type 0 where
  pub control : n.control ≡ idle
  pub slot : slot_at s.slots 0 ≡ Slot.Empty
  pub waiting : n.host.phase.waiting ≡ []
  pub texts : (on : ℕ) → is_data_link on ≡ true → n.texts on ≡ idle
  pub slots : (on : ℕ) → is_data_link on ≡ true → slot_at s.slots on ≡ Slot.Empty
  pub sendable : (on : ℕ) → is_data_link on ≡ true → answer (cut_in on n.ends) ≡ None

not-control : (on : ℕ) → is_data_link on ≡ true → (on == 0) ≡ false
not-control on d = grind (arith, d)

pub quiet-one : (there : ℕ) (n : Node) (s : PeerState) (u : TransitByLink) → Represents there n s u → IsStill there s u → Quiet n s
quiet-one there n s u k q = record {
  control = control.0;
  slot = control.1;
  waiting = ap (λ (p : Peer). p.phase.waiting) (sym k.peer) ∙ none-next s.peer.phase.waiting k.well.waiting (none-made there (next_commands s.peer.phase.waiting) (sym (ap (λ (x : LinkSlot). output_by x there 0 s.peer) control.1) ∙ out 0 refl));
  texts = λ on d. (text on d).0;
  slots = λ on d. (text on d).1;
  sendable = λ on d. ap (λ (p : Peer). answer (cut_in on p.ends)) (sym k.peer) ∙ no-text-made there on (answer (cut_in on s.peer.ends)) (made on d);
}
  where
    out : (on : ℕ) → is_one_of on links ≡ true → output_on there on s ≡ None
    out on h = none_is there s links on q.out h

    control : (n.control ≡ idle) × (slot_at s.slots 0 ≡ Slot.Empty)
    control = nothing-there (control_bits there) AreCommands n.control (slot_at s.slots 0) (u 0) k.control (q.free 0 none-has) (q.awake 0 none-has) (not-ready 0 there s (out 0 refl))

    text : (on : ℕ) → is_data_link on ≡ true → (n.texts on ≡ idle) × (slot_at s.slots on ≡ Slot.Empty)
    text on d = nothing-there (text_as_message there on) (IsTextOn on) (n.texts on) (slot_at s.slots on) (u on) (k.texts on (not-control on d)) (q.free on (has-slot on d)) (q.awake on (has-slot on d)) (not-ready on there s (out on (a-link on d)))

    made : (on : ℕ) → is_data_link on ≡ true → text_message there on (answer (cut_in on s.peer.ends)) ≡ None
    made on d =
        sym (ap (λ (b : Bool). if b then control_message there (next_commands s.peer.phase.waiting) else text_message there on (answer (cut_in on s.peer.ends))) (not-control on d))
        ∙ (sym (ap (λ (x : LinkSlot). output_by x there on s.peer) (text on d).1) ∙ out on (a-link on d))

-- no step goes with a message then

no-texts-held : (texts : ℕ → Link TextOut) (many from : ℕ) → ((on : ℕ) → from ≤ on → on < from + many → texts on ≡ idle) → held_texts texts many from ≡ 0
unfolding held_texts
no-texts-held texts zero from h = refl
no-texts-held texts (suc many) from h =
    let k = no-texts-held texts many (suc from) (λ on l m. h on (omega (arith, l)) (omega (arith, m))) in
    let i : one_if_held (texts from).slot ≡ 0 = ap (λ (l : Link TextOut). one_if_held l.slot) (h from (omega arith) (omega arith)) in
    omega (arith, k, i)

in-range : (on : ℕ) → FIRST_LINK ≤ on → on < FIRST_LINK + DATA_LINKS → is_data_link on ≡ true
in-range on l h = grind arith

nothing-moves : (w : TwoNodes) (s t : PeerState) → Quiet w.this s → Quiet w.that t → (step : NodeStep) → IsOnDataLink step → moved step w ≡ 0
nothing-moves w s t a b (Sends n) l =
    ap (λ (k : Link (List Command)). one_if_any (ready_message (put_if_any (first_waiting n w.this.host.phase.waiting) k.slot))) a.control
    ∙ ap (λ (q : List Command). one_if_any (ready_message (put_if_any (first_waiting n q) Delivery.Empty))) a.waiting
nothing-moves w s t a b (Sends_text on) d =
    ap (λ (k : Link TextOut). one_if_any (ready_message (put_if_any (as_text (answer (cut_in on w.this.ends))) k.slot))) (a.texts on d)
    ∙ ap (λ (o : Option (ℕ × List Bool)). one_if_any (ready_message (put_if_any (as_text o) Delivery.Empty))) (a.sendable on d)
nothing-moves w s t a b Hears l = ap (λ (k : Link (List Command)). one_if_accepted k.subnet) b.control
nothing-moves w s t a b (Hears_text on head) d = ap (λ (k : Link TextOut). one_if_accepted k.subnet) (b.texts on d)
nothing-moves w s t a b Loses l = ap (λ (k : Link (List Command)). one_if_accepted k.subnet) a.control
nothing-moves w s t a b (Loses_text on) d = ap (λ (k : Link TextOut). one_if_accepted k.subnet) (a.texts on d)
nothing-moves w s t a b Dies l = ap (λ (k : Link (List Command)). one_if_accepted k.subnet) a.control
nothing-moves w s t a b (Text_dies on) d = ap (λ (k : Link TextOut). one_if_accepted k.subnet) (a.texts on d)
nothing-moves w s t a b Is_answered l = ap (λ (k : Link (List Command)). one_if_told k.slot k.subnet) a.control
nothing-moves w s t a b (Text_is_answered on) d = ap (λ (k : Link TextOut). one_if_told k.slot k.subnet) (a.texts on d)
nothing-moves w s t a b Wakes l =
    let i : one_if_held w.this.control.slot ≡ 0 = ap (λ (k : Link (List Command)). one_if_held k.slot) a.control in
    let k : held_texts w.this.texts DATA_LINKS FIRST_LINK ≡ 0 = no-texts-held w.this.texts DATA_LINKS FIRST_LINK (λ on l m. a.texts on (in-range on l m)) in
    omega (arith, i, k)
nothing-moves w s t a b step l = refl

pub settled-of : (w : TwoNodes) (v : World) → Refines w v → IsSettled v → IsSettledInModel w
settled-of w v t q = go
  where
    a : Quiet w.this v.this
    a = quiet-one v.there w.this v.this v.going t.this q.0

    b : Quiet w.that v.that
    b = quiet-one v.here w.that v.that v.coming t.that q.1

    go : IsSettledInModel w
    go This step l = nothing-moves w v.this v.that a b step l
    go That step l = nothing-moves (nodes_swapped w) v.that v.this b a step l
