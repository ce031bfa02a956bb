-- How what comes is judged.
use Rattle.std.proofs.Common.{◌≡◌, ℕ, ◌==◌, Bool, true, false, ◌||◌, if◌then◌else◌, All, List, [], ◌∷◌, ◌++◌, length, Option, None, Some, Result, refl, sym, ap, ◌∙◌, arith, subst}
use Rattle.std.specs.List.{list_any}
use Rattle.std.proofs.lemmas.Bool.{eqb-true}
use Rattle.std.proofs.lemmas.List.Elements.{All-head, All-tail}
use Rattle.ncp_numbers.specs.Bytes.{bytes_of, bits_of_bytes}
use Rattle.ncp_numbers.proofs.Packing.{bytes_of-bits_of_bytes}
use Rattle.ncp_leader.specs.declared.fault.MessageFault.{MessageFault}
use Rattle.ncp_leader.specs.Message.{Message}
use Rattle.ncp_wire.specs.declared.command.Command.{Command}
use Rattle.ncp_wire.specs.declared.command.Command.TheVariants.{Rst, Rrp, Eco}
use Rattle.ncp_wire.specs.Spelling.{spellings, IsCommand}
use Rattle.ncp_control.specs.Reading.{commands_in, fault_in}
use Rattle.ncp_control.proofs.Reading.{spellings_small, spelled_alone}
use Rattle.ncp_slot.specs.Slots.{slot_at}
use Rattle.ncp_proof_machine.specs.Delivery.{MessageTransit}
use Rattle.ncp_proof_machine.specs.Resets.{This, That, is_up}
use Rattle.ncp_model.specs.declared.outcomes.Heard.{Heard}
use Rattle.ncp_model.specs.Effect.{answer, made_by_hearing}
use Rattle.ncp_model.specs.Ends.{hear}
use Rattle.ncp_model.specs.EndpointEvents.{of_reply, of_hearing, is_violation}
use Rattle.ncp_model.specs.Phase.{up}
use Rattle.ncp_model.specs.Peers.{Peer, echo_replies}
use Rattle.ncp_proof_machine.specs.Hosts.{Node, NodeEvent, NodeStep, TwoNodes, message_comes, node_at, node_hears, node_hears_all, node_hears_other, nodes_swapped}
use Rattle.ncp_proof_machine.proofs.HostsStand.{hearing-stands}
use Rattle.ncp_proof_machine.proofs.HostsStand.{NodesStand}
use Rattle.ncp_proof_headline.proofs.HostsHeld.{ever}
use Rattle.ncp_peer.specs.declared.received.Received.{Received}
use Rattle.ncp_peer.specs.PeerState.{PeerState}
use Rattle.ncp_peer.specs.Hearing.{state_hears, state_hears_all}
use Rattle.ncp_transcript_two.specs.Subnet.{Holds, Free, Accepted, Delivered, Lost, Dead, TransitByLink, from_host}
use Rattle.ncp_transcript.specs.Asked.{Asked, Reply}
use Rattle.ncp_transcript_two.specs.World.{World, NoteBody, Call_is_made, Goes_out, Is_delivered, Is_lost, Finds_dead, Is_answered, moves, goes, delivers, loses, dies, answers_for, WorldEvent, WorldStep, received, state_after_received}
use Rattle.ncp_transcript_two.specs.Tie.{control_bits, AreCommands, Represents, IsReachable, Goes_on, Refines, IsMove}
use Rattle.ncp_transcript_two.specs.Refused.{refuses}
use Rattle.ncp_transcript_two.specs.Underway.{text_read, text_of, commands_of}
use Rattle.ncp_transcript_two.proofs.Links.{Comes, delivered}
use Rattle.ncp_transcript_two.proofs.Written.{read, control_text, from_host-message, comes-received}
use Rattle.ncp_transcript_two.proofs.Comings.{hears-stands, control-heard}
use Rattle.ncp_transcript_two.proofs.Reaching.{of-reached, stands-there}
use Rattle.ncp_transcript_two.proofs.Refusals.{none-refused}
use Rattle.ncp_peer.specs.Output.{next_of}
use Rattle.ncp_proof_promises.specs.Judged.{ActsOnce, MakesNoErr, NoneErrs, is_error}

-- a control message that comes, as the model has it
abbrev pub ControlComes : TwoNodes → World → List Bool → Type 0
ControlComes w v m = Comes (control_bits v.there) AreCommands w.this.control (slot_at v.this.slots 0) m

pub control-comes : (w : TwoNodes) (v : World) (m : List Bool) → Refines w v → v.going 0 ≡ Accepted m → ControlComes w v m
control-comes w v m t e = delivered (control_bits v.there) AreCommands w.this.control (slot_at v.this.slots 0) (v.going 0) m t.this.control e

-- its commands are read from it
pub control-read : (w : TwoNodes) (v : World) (m : List Bool) → Refines w v → (c : ControlComes w v m) → commands_of (from_host v.here m) ≡ c.what
control-read w v m t c =
    let text : List Bool = bits_of_bytes (spellings c.what) in
    ap (λ (x : List Bool). commands_of (from_host v.here x)) c.written
    ∙ ap commands_of (from_host-message v.here v.there 0 8 text)
    ∙ ap (λ (r : Result Message MessageFault). commands_in (bytes_of (text_read r))) (read v.here 0 8 text t.that.number (omega arith) (control_text c.what c.fits))
    ∙ ap commands_in (bytes_of-bits_of_bytes (spellings c.what) (spellings_small c.what c.fits.0))
    ∙ (spelled_alone c.what c.fits.0).0

-- and it has no fault
control-faultless : (w : TwoNodes) (v : World) (m : List Bool) → Refines w v → (c : ControlComes w v m) → fault_in (bytes_of (text_of (from_host v.here m))) ≡ None
control-faultless w v m t c =
    let text : List Bool = bits_of_bytes (spellings c.what) in
    ap (λ (x : List Bool). fault_in (bytes_of (text_of (from_host v.here x)))) c.written
    ∙ ap (λ (x : List Bool). fault_in (bytes_of (text_of x))) (from_host-message v.here v.there 0 8 text)
    ∙ ap (λ (r : Result Message MessageFault). fault_in (bytes_of (text_read r))) (read v.here 0 8 text t.that.number (omega arith) (control_text c.what c.fits))
    ∙ ap fault_in (bytes_of-bits_of_bytes (spellings c.what) (spellings_small c.what c.fits.0))
    ∙ (spelled_alone c.what c.fits.0).1

control-told : (w : TwoNodes) (v : World) (m : List Bool) → Refines w v → (c : ControlComes w v m) → received (from_host v.here m) v.that ≡ Received.Control (length c.what)
control-told w v m t c =
    let text : List Bool = bits_of_bytes (spellings c.what) in
    ap (λ (x : List Bool). received (from_host v.here x) v.that) c.written
    ∙ ap (λ (x : List Bool). received x v.that) (from_host-message v.here v.there 0 8 text)
    ∙ comes-received v.here 0 8 text v.that t.that.number (omega arith) (control_text c.what c.fits)
    ∙ ap (λ (bs : List ℕ). Received.Control (length (commands_in bs))) (bytes_of-bits_of_bytes (spellings c.what) (spellings_small c.what c.fits.0))
    ∙ ap (λ (cs : List Command). Received.Control (length cs)) (spelled_alone c.what c.fits.0).0

pub acts : (w : TwoNodes) (v : World) (m : List Bool) → Refines w v → v.going 0 ≡ Accepted m
    → (received (from_host v.here m) v.that ≡ Received.Control (length (commands_of (from_host v.here m)))) × (state_after_received (from_host v.here m) v.that ≡ state_hears_all (commands_of (from_host v.here m)) v.that)
acts w v m t e =
    let c : ControlComes w v m = control-comes w v m t e in
    let r : commands_of (from_host v.here m) ≡ c.what = control-read w v m t c in (
      control-told w v m t c ∙ ap (λ (cs : List Command). Received.Control (length cs)) (sym r),
      control-heard w v m t c ∙ ap (λ (cs : List Command). state_hears_all cs v.that) (sym r),
    )

-- on link 0
pub on_control : (on : ℕ) (v : World) (m : List Bool) → (on == 0) ≡ true → v.going on ≡ Accepted m → v.going 0 ≡ Accepted m
on_control on v m z e = ap v.going (sym (eqb-true on 0 z)) ∙ e

pub hears_all-stands : (here : ℕ) (cs : List Command) (n : Node) (s : PeerState) (u : TransitByLink) → All IsCommand cs → NodesStand n → Represents here n s u → Represents here (node_hears_all cs n) (state_hears_all cs s) u
hears_all-stands here [] n s u f g k = k
hears_all-stands here (c ∷ cs) n s u f g k =
    hears_all-stands here cs (node_hears c n) (state_hears c s) u (All-tail IsCommand c cs f) (hearing-stands c n g) (hears-stands here c n s u (All-head IsCommand c cs f) g k)

-- No command of it is answered by an ERR.

or_left : (a b : Bool) → (a || b) ≡ false → a ≡ false
or_left true b e = absurd (cc e)
or_left false b e = refl

or_right : (a b : Bool) → (a || b) ≡ false → b ≡ false
or_right true b e = absurd (cc e)
or_right false b e = e

clean-one : (c : Command) (n : Node) → (node_hears c n).violated ≡ false → n.violated ≡ false
clean-one Rst n e = e
clean-one Rrp n e = e
clean-one c n e = go (is_up n.host) e
  where
    go : (b : Bool) → (if b then node_hears_other c n else n).violated ≡ false → n.violated ≡ false
    go true e = or_left n.violated _ e
    go false e = e

pub clean : (cs : List Command) (n : Node) → (node_hears_all cs n).violated ≡ false → n.violated ≡ false
clean [] n e = e
clean (c ∷ cs) n e = clean-one c n (clean cs (node_hears c n) e)

no-echo-errs : (c : Command) → list_any is_error (echo_replies c) ≡ false
no-echo-errs (Eco byte) = refl
no-echo-errs c = refl

right-reply : (d : Command) → is_violation (of_reply d) ≡ false → is_error d ≡ false
right-reply (Command.Err code bytes) e = absurd (cc e)
right-reply d e = refl

no-err : (a : Heard) (c : Command) → is_violation (of_hearing a) ≡ false → list_any is_error (made_by_hearing a ++ echo_replies c) ≡ false
no-err Heard.Nothing c e = no-echo-errs c
no-err (Heard.Reply d) c e = rw (right-reply d e) (no-echo-errs c)
no-err Heard.Late c e = no-echo-errs c
no-err Heard.Full c e = no-echo-errs c

pub right-one : (c : Command) (n : Node) → (node_hears c n).violated ≡ false → up n.host.phase ≡ true → list_any is_error (made_by_hearing (answer (hear c n.ends)) ++ echo_replies c) ≡ false
right-one Rst n e u = refl
right-one Rrp n e u = refl
right-one c n e u = no-err (answer (hear c n.ends)) c (or_right n.violated _ (ap (λ (b : Bool). (if b then node_hears_other c n else n).violated) (sym u) ∙ e))

none-errs : (here : ℕ) (cs : List Command) (n : Node) (s : PeerState) (u : TransitByLink) → All IsCommand cs → NodesStand n → Represents here n s u → (node_hears_all cs n).violated ≡ false → NoneErrs cs s
none-errs here [] n s u f g k e = tt
none-errs here (c ∷ cs) n s u f g k e = (
  λ a. ap (λ (p : Peer). list_any is_error (made_by_hearing (answer (hear c p.ends)) ++ echo_replies c)) k.peer
      ∙ right-one c n (clean cs (node_hears c n) e) (ap (λ (p : Peer). up p.phase) (sym k.peer) ∙ a),
  none-errs here cs (node_hears c n) (state_hears c s) u (All-tail IsCommand c cs f) (hearing-stands c n g) (hears-stands here c n s u (All-head IsCommand c cs f) g k) e,
)

safe : (w : TwoNodes) → IsReachable w → w.that.violated ≡ false
safe w r = of-reached (λ (x : TwoNodes). x.that.violated ≡ false) (λ (es : List NodeEvent). (ever es).holds.joined.that.safe) w r

control-right : (w : TwoNodes) (v : World) (m : List Bool) → Refines w v → v.going 0 ≡ Accepted m → NoneErrs (commands_of (from_host v.here m)) v.that
control-right w v m t e =
    let c : ControlComes w v m = control-comes w v m t e in
    let violates : MessageTransit (List Command) → Bool = λ x. (nodes_swapped (message_comes x (nodes_swapped w))).that.violated in
    subst (λ (cs : List Command). NoneErrs cs v.that) (sym (control-read w v m t c))
    (none-errs v.here c.what w.that v.that v.coming c.fits.0 (stands-there w t.reached) t.that
    (sym (ap violates c.there) ∙ safe (node_at That NodeStep.Hears w) (Goes_on t.reached That NodeStep.Hears)))

-- Each step.

deliver-acts : (on : ℕ) (w : TwoNodes) (v : World) (h : Holds) → Refines w v → v.going on ≡ h → ActsOnce (delivers on h v).1 v (delivers on h v).0
deliver-acts on w v (Accepted m) t e = λ z. let k = acts w v m t (on_control on v m z e) in (k.0, k.1, refl)
deliver-acts on w v Free t e = tt
deliver-acts on w v Delivered t e = tt
deliver-acts on w v Lost t e = tt
deliver-acts on w v Dead t e = tt

-- of a note that is no coming nothing is said
module _ (P : NoteBody → World → World → Type 0) (v : World) (said : (asked : Asked) (reply : Reply) (after : World) → P (NoteBody.Called asked reply) v after)
    (out : (m : List Bool) (after : World) → P (NoteBody.Out m) v after) (lost : (on : ℕ) (after : World) → P (NoteBody.Went_lost on) v after) (dead : (on : ℕ) (after : World) → P (NoteBody.Went_dead on) v after)
    (told : (on : ℕ) (how : _) (r : Received) (after : World) → P (NoteBody.Answered on how r) v after) (nothing : P NoteBody.Nothing v v) where
  pub out-says : (o : Option (ℕ × List Bool)) → P (goes o v).1 v (goes o v).0
  out-says None = nothing
  out-says (Some m) = out m.1 _

  pub lose-says : (on : ℕ) (h : Holds) → P (loses on h v).1 v (loses on h v).0
  lose-says on (Accepted m) = lost on _
  lose-says on Free = nothing
  lose-says on Delivered = nothing
  lose-says on Lost = nothing
  lose-says on Dead = nothing

  pub die-says : (on : ℕ) (h : Holds) → P (dies on h v).1 v (dies on h v).0
  die-says on (Accepted m) = dead on _
  die-says on Free = nothing
  die-says on Delivered = nothing
  die-says on Lost = nothing
  die-says on Dead = nothing

  pub answer-says : (on : ℕ) (h : Holds) → P (answers_for on h v).1 v (answers_for on h v).0
  answer-says on (Accepted m) = nothing
  answer-says on Free = nothing
  answer-says on Delivered = told on _ _ _
  answer-says on Lost = told on _ _ _
  answer-says on Dead = told on _ _ _

pub acts-once : (st : WorldStep) (x : TwoNodes) (v : World) → IsMove st → Refines x v → ActsOnce (moves st v).1 v (moves st v).0
acts-once (Call_is_made asked) x v ok t = tt
acts-once Goes_out x v ok t = out-says ActsOnce v (λ a r w. tt) (λ m w. tt) (λ on w. tt) (λ on w. tt) (λ on how r w. tt) tt (next_of v.there v.this)
acts-once (Is_delivered on) x v ok t = deliver-acts on x v (v.going on) t refl
acts-once (Is_lost on) x v ok t = lose-says ActsOnce v (λ a r w. tt) (λ m w. tt) (λ on w. tt) (λ on w. tt) (λ on how r w. tt) tt on (v.going on)
acts-once (Finds_dead on) x v ok t = die-says ActsOnce v (λ a r w. tt) (λ m w. tt) (λ on w. tt) (λ on w. tt) (λ on how r w. tt) tt on (v.going on)
acts-once (Is_answered on) x v ok t = answer-says ActsOnce v (λ a r w. tt) (λ m w. tt) (λ on w. tt) (λ on w. tt) (λ on how r w. tt) tt on (v.going on)

-- nothing that comes is refused
unrefused : (on : ℕ) (x : TwoNodes) (v : World) → Refines x v → refuses (delivers on (v.going on) v).1 ≡ false
unrefused on x v t =
    let e : WorldEvent = record { side = This; step = Is_delivered on } in
    or_left (refuses (delivers on (v.going on) v).1) false (none-refused (e ∷ []) v (tt, tt) (x, t))

deliver-right : (on : ℕ) (w : TwoNodes) (v : World) (h : Holds) → Refines w v → v.going on ≡ h → refuses (delivers on h v).1 ≡ false → MakesNoErr (delivers on h v).1 v (delivers on h v).0
deliver-right on w v (Accepted m) t e r = (
  λ z. let f = on_control on v m z e in (control-faultless w v m t (control-comes w v m t f), control-right w v m t f),
  r,
)
deliver-right on w v Free t e r = tt
deliver-right on w v Delivered t e r = tt
deliver-right on w v Lost t e r = tt
deliver-right on w v Dead t e r = tt

pub makes-no-err : (st : WorldStep) (x : TwoNodes) (v : World) → IsMove st → Refines x v → MakesNoErr (moves st v).1 v (moves st v).0
makes-no-err (Call_is_made asked) x v ok t = tt
makes-no-err Goes_out x v ok t = out-says MakesNoErr v (λ a r w. tt) (λ m w. tt) (λ on w. tt) (λ on w. tt) (λ on how r w. tt) tt (next_of v.there v.this)
makes-no-err (Is_delivered on) x v ok t = deliver-right on x v (v.going on) t refl (unrefused on x v t)
makes-no-err (Is_lost on) x v ok t = lose-says MakesNoErr v (λ a r w. tt) (λ m w. tt) (λ on w. tt) (λ on w. tt) (λ on how r w. tt) tt on (v.going on)
makes-no-err (Finds_dead on) x v ok t = die-says MakesNoErr v (λ a r w. tt) (λ m w. tt) (λ on w. tt) (λ on w. tt) (λ on how r w. tt) tt on (v.going on)
makes-no-err (Is_answered on) x v ok t = answer-says MakesNoErr v (λ a r w. tt) (λ m w. tt) (λ on w. tt) (λ on w. tt) (λ on how r w. tt) tt on (v.going on)
