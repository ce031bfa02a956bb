-- Nothing that comes is refused.
use Rattle.std.proofs.Common.{◌≡◌, ◌<◌, ◌≤◌, ◌^◌, ℕ, ◌==◌, Bool, true, false, ◌||◌, if◌then◌else◌, List, [], ◌∷◌, Option, None, Some, Result, Ok, refl, sym, ap, ◌∙◌, arith, subst}
use Rattle.std.proofs.lemmas.Bool.{eqb-true}
use Rattle.ncp_numbers.specs.Bytes.{bits_of_bytes}
use Rattle.ncp_wire.specs.Spelling.{spellings}
use Rattle.ncp_leader.specs.Message.{Message, message_with, message_in}
use Rattle.ncp_peer.specs.Hearing.{is_wrong_link}
use Rattle.ncp_peer.specs.Output.{leader_to, next_of}
use Rattle.ncp_slot.specs.Slots.{slot_at}
use Rattle.ncp_model.specs.Phase.{up}
use Rattle.ncp_proof_machine.specs.Delivery as model
use Rattle.ncp_proof_machine.specs.Resets.{Party, This, That}
use Rattle.ncp_model.specs.Peers.{Peer}
use Rattle.ncp_proof_machine.specs.Hosts.{TextOut, Node}
use Rattle.ncp_proof_machine.specs.Hosts as hosts
use Rattle.ncp_peer.specs.declared.received.Received.TheVariants as cases
use Rattle.ncp_peer.specs.PeerState.{PeerState}
use Rattle.ncp_peer.specs.Hearing as hearing
use Rattle.ncp_transcript_two.specs.Subnet.{Holds, Free, Accepted, Delivered, Lost, Dead, from_host, answer_bits}
use Rattle.ncp_transcript_two.specs.World.{World}
use Rattle.ncp_transcript_two.specs.World as worlds
use Rattle.ncp_transcript_two.specs.Tie.{control_bits, text_as_message, AreCommands, IsTextOn, IsReachable, Goes_on, Refines}
use Rattle.ncp_transcript_two.proofs.Ties.{tied-swapped}
use Rattle.ncp_transcript_two.proofs.Comings.{small}
use Rattle.ncp_model.specs.Effect.{answer}
use Rattle.ncp_transcript_two.specs.Tie.{AreEvents, IsOfModel}
use Rattle.ncp_transcript_two.specs.World.{Call_is_made, Goes_out, Is_delivered, Is_lost, Finds_dead, Is_answered, WorldEvent, moves, goes, delivers, loses, dies, answers_for, at, step}
use Rattle.ncp_transcript_two.specs.World.{received, notes_from}
use Rattle.ncp_transcript_two.specs.Refused.{is_refused_text, is_refused, refuses, any_refused}
use Rattle.ncp_transcript_two.proofs.Runs.{step-ties}
use Rattle.ncp_transcript_two.proofs.Reaching.{of-reached}
use Rattle.ncp_proof_headline.proofs.HostsHeld.{ever}
use Rattle.ncp_model.specs.declared.outcomes.Took.{Took}
use Rattle.ncp_model.specs.declared.outcomes.Took.TheVariants as took
use Rattle.ncp_model.specs.EndpointEvents.{outcome_of_text, is_violation}
use Rattle.ncp_model.specs.Ends.{text_in}
use Rattle.ncp_transcript_two.proofs.Written.{comes-received, control_text, from_host-message}
use Rattle.ncp_transcript_two.proofs.Links.{Comes, delivered}
use Rattle.ncp_leader.specs.declared.leader.Leader.{Leader}
use Rattle.ncp_leader.specs.declared.leader.Short.{Short}
use Rattle.ncp_leader.specs.Leader.{leader_in}
use Rattle.ncp_slot.specs.Slots.{LinkSlot}
use Rattle.ncp_slot.specs.Slot.{is_travelling}
use Rattle.ncp_transcript_two.proofs.Written.{answer_leader, answer-led}
use Rattle.ncp_transcript_two.proofs.Flights.{IsOut, delivered-out, lost-out, dead-out}

or_right : (a b : Bool) → (a || b) ≡ false → b ≡ false
or_right true b e = absurd (cc e)
or_right false b e = e

-- no ERR is made, and no text answered as one that may not come
safe : (w : hosts.TwoNodes) → IsReachable w → w.that.violated ≡ false
safe w r = of-reached (λ (x : hosts.TwoNodes). x.that.violated ≡ false) (λ (es : List hosts.NodeEvent). (ever es).holds.joined.that.safe) w r

good_text : (k : Took) → is_violation (outcome_of_text k) ≡ false → is_refused_text k ≡ false
good_text took.Admitted e = refl
good_text took.Late e = refl
good_text took.WrongSize e = absurd (cc e)
good_text took.Over e = absurd (cc e)
good_text took.NotOpen e = absurd (cc e)

control-good : (w : hosts.TwoNodes) (v : World) (m : List Bool) → Refines w v → v.going 0 ≡ Accepted m → is_refused (received (from_host v.here m) v.that) ≡ false
control-good w v m t e =
    let c : Comes (control_bits v.there) AreCommands w.this.control (slot_at v.this.slots 0) m = delivered (control_bits v.there) AreCommands w.this.control (slot_at v.this.slots 0) (v.going 0) m t.this.control e in
    ap (λ (x : List Bool). is_refused (received (from_host v.here x) v.that)) c.written
    ∙ ap (λ (x : List Bool). is_refused (received x v.that)) (from_host-message v.here v.there 0 8 (bits_of_bytes (spellings c.what)))
    ∙ ap is_refused (comes-received v.here 0 8 (bits_of_bytes (spellings c.what)) v.that t.that.number (omega arith) (control_text c.what c.fits))

text-is : (on : ℕ) (m : Message) (s : PeerState) → is_wrong_link on ≡ false → (on == 0) ≡ false → hearing.message_received on (Ok m) s ≡ hearing.text_received on m s
text-is on m s f z = rw (f, z) refl

-- what the model says of a text that comes
text-safe : (on : ℕ) (head : List Bool) (x : TextOut) (n : Node) → (hosts.node_hears_text on head x n).violated ≡ false → up n.host.phase ≡ true → is_refused_text (answer (text_in on x.of_size x.bits n.ends)) ≡ false
text-safe on head x n e u = good_text (answer (text_in on x.of_size x.bits n.ends)) (or_right n.violated _ (ap (λ (b : Bool). (if b then hosts.node_takes_text on head x n else n).violated) (sym u) ∙ e))

text-good : (on : ℕ) (w : hosts.TwoNodes) (v : World) (m : List Bool) → (on == 0) ≡ false → Refines w v → v.going on ≡ Accepted m → is_refused (received (from_host v.here m) v.that) ≡ false
text-good on w v m z t e =
    ap (λ (x : List Bool). is_refused (received (from_host v.here x) v.that)) c.written
    ∙ ap (λ (x : List Bool). is_refused (received x v.that)) (from_host-message v.here v.there on c.what.of_size c.what.bits)
    ∙ ap is_refused (comes-received v.here on c.what.of_size c.what.bits v.that t.that.number (small on c.fits.0) c.fits.1)
    ∙ ap is_refused (text-is on (message_with (leader_to v.here on) c.what.of_size c.what.bits) v.that c.fits.0 z)
    ∙ ap (λ (p : Peer). is_refused (if up p.phase then cases.Text (answer (text_in on c.what.of_size c.what.bits p.ends)) else cases.NotUp)) t.that.peer
    ∙ go (up w.that.host.phase) refl
  where
    c : Comes (text_as_message v.there on) (IsTextOn on) (w.this.texts on) (slot_at v.this.slots on) m
    c = delivered (text_as_message v.there on) (IsTextOn on) (w.this.texts on) (slot_at v.this.slots on) (v.going on) m (t.this.texts on z) e

    clean : (hosts.node_hears_text on [] c.what w.that).violated ≡ false
    clean = subst (λ (x : model.MessageTransit TextOut). (hosts.nodes_swapped (hosts.node_text_comes on [] x (hosts.nodes_swapped w))).that.violated ≡ false) c.there (safe (hosts.node_at That (hosts.Hears_text on []) w) (Goes_on t.reached That (hosts.Hears_text on [])))

    go : (b : Bool) → up w.that.host.phase ≡ b → is_refused (if b then cases.Text (answer (text_in on c.what.of_size c.what.bits w.that.ends)) else cases.NotUp) ≡ false
    go true u = text-safe on [] c.what w.that clean u
    go false u = refl

deliver-good : (on : ℕ) (w : hosts.TwoNodes) (v : World) (h : Holds) → Refines w v → v.going on ≡ h → refuses (delivers on h v).1 ≡ false
deliver-good on w v Free t e = refl
deliver-good on w v Delivered t e = refl
deliver-good on w v Lost t e = refl
deliver-good on w v Dead t e = refl
deliver-good on w v (Accepted m) t e = go (on == 0) refl
  where
    go : (b : Bool) → (on == 0) ≡ b → is_refused (received (from_host v.here m) v.that) ≡ false
    go true z = control-good w v m t (ap v.going (sym (eqb-true on 0 z)) ∙ e)
    go false z = text-good on w v m z t e

out-good : (o : Option (ℕ × List Bool)) (v : World) → refuses (goes o v).1 ≡ false
out-good None v = refl
out-good (Some out) v = refl

lose-good : (on : ℕ) (h : Holds) (v : World) → refuses (loses on h v).1 ≡ false
lose-good on Free v = refl
lose-good on (Accepted m) v = refl
lose-good on Delivered v = refl
lose-good on Lost v = refl
lose-good on Dead v = refl

die-good : (on : ℕ) (h : Holds) (v : World) → refuses (dies on h v).1 ≡ false
die-good on Free v = refl
die-good on (Accepted m) v = refl
die-good on Delivered v = refl
die-good on Lost v = refl
die-good on Dead v = refl

-- an answer is to a message that is out
answer-told : (on kind : ℕ) (v : World) (out : IsOut on (slot_at v.this.slots on)) → v.there < 2 ^ 8 → kind ≤ 15 → (kind == hearing.regular) ≡ false → is_refused (received (answer_bits kind v.there on) v.this) ≡ false
answer-told on kind v out n few other =
    let bits : List Bool = answer_bits kind v.there on in
    let l : Leader = answer_leader kind v.there on in
    let front : leader_in bits ≡ Ok l = answer-led kind v.there on (record { flags = omega arith; kind = few; host = n; link = out.fits; low = omega arith }) in
    ap (λ (r : Result Leader Short). is_refused (worlds.state_received_with r bits v.this)) front
    ∙ ap (λ (b : Bool). is_refused (if b then hearing.message_received on (message_in bits) v.this else hearing.answer_received on v.this)) other
    ∙ ap (λ (s : LinkSlot). is_refused (if is_travelling s then cases.Answered else cases.Stray)) out.in_slot

answer-good : (on : ℕ) (w : hosts.TwoNodes) (v : World) (h : Holds) → Refines w v → v.going on ≡ h → refuses (answers_for on h v).1 ≡ false
answer-good on w v Free t e = refl
answer-good on w v (Accepted m) t e = refl
answer-good on w v Delivered t e = answer-told on hearing.rfnm v (delivered-out on w v t e) t.this.number (omega arith) refl
answer-good on w v Lost t e = answer-told on hearing.incomplete v (lost-out on w v t e) t.this.number (omega arith) refl
answer-good on w v Dead t e = answer-told on hearing.destination_dead v (dead-out on w v t e) t.this.number (omega arith) refl

move-good : (st : worlds.WorldStep) (w : hosts.TwoNodes) (v : World) → Refines w v → refuses (moves st v).1 ≡ false
move-good (Call_is_made asked) w v t = refl
move-good Goes_out w v t = out-good (next_of v.there v.this) v
move-good (Is_delivered on) w v t = deliver-good on w v (v.going on) t refl
move-good (Is_lost on) w v t = lose-good on (v.going on) v
move-good (Finds_dead on) w v t = die-good on (v.going on) v
move-good (Is_answered on) w v t = answer-good on w v (v.going on) t refl

step-good : (side : Party) (st : worlds.WorldStep) (v : World) → IsOfModel v → refuses (at side st v).1 ≡ false
step-good This st v t = move-good st t.0 v t.1
step-good That st v t = move-good st (hosts.nodes_swapped t.0) (worlds.swap v) (tied-swapped t.0 v t.1)

pub none-refused : (es : List WorldEvent) (v : World) → AreEvents es → IsOfModel v → any_refused (notes_from es v) ≡ false
none-refused [] v ok t = refl
none-refused (e ∷ es) v ok t =
    ap (λ (b : Bool). b || any_refused (notes_from es (step e v).0)) (step-good e.side e.step v t)
    ∙ none-refused es (step e v).0 ok.1 (step-ties e.side e.step v ok.0 t)
