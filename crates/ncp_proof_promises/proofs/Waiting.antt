-- A host that waits for an RRP acts on nothing but RST and RRP.
use Rattle.std.proofs.Common.{◌≡◌, ℕ, ◌==◌, Bool, true, false, if◌then◌else◌, List, [], ◌∷◌, Option, None, Some, Ok, refl, sym, ap, ◌∙◌, arith, subst}
use Rattle.std.specs.List.{filter, list_any}
use Rattle.ncp_wire.specs.declared.command.Command.{Command}
use Rattle.ncp_wire.specs.declared.command.Command.TheVariants.{Rst, Rrp}
use Rattle.ncp_leader.specs.Message.{Message, message_with}
use Rattle.ncp_wire.specs.declared.answer.Answer.{Answer}
use Rattle.ncp_wire.specs.declared.answer.Answer.TheVariants.{Rfnm, Incomplete, Dead}
use Rattle.ncp_slot.specs.declared.slot.Slot.{Slot}
use Rattle.ncp_slot.specs.Slots.{LinkSlot, LinkSlots, slot_at, is_quiet}
use Rattle.ncp_proof_machine.specs.Resets.{is_up, ResetHost}
use Rattle.ncp_proof_machine.proofs.Waiting.{settling, waiting}
use Rattle.ncp_model.specs.Ends.{no_ends, text_in}
use Rattle.ncp_model.specs.Effect.{answer}
use Rattle.ncp_model.specs.Phase.{Phase, up, is_resetting, resets, is_rrp, is_other}
use Rattle.ncp_model.specs.Peers.{Peer, cleared, cuts, frees, peer_sends, settles}
use Rattle.ncp_proof_machine.specs.Hosts.{Node, NodeEvent, TwoNodes}
use Rattle.ncp_proof_machine.proofs.HostsBase.{reactions, hears_all-host}
use Rattle.ncp_proof_headline.proofs.HostsHeld.{ever}
use Rattle.ncp_peer.specs.declared.received.Received.{Received}
use Rattle.ncp_peer.specs.PeerState.{PeerState, after_answer, answer_comes}
use Rattle.ncp_peer.specs.Hearing.{is_wrong_link, message_received, state_hears, state_hears_all, text_received}
use Rattle.ncp_peer.specs.Output.{leader_to, next_of, after_by}
use Rattle.ncp_transcript_two.specs.Subnet.{Holds, Free, Accepted, Delivered, Lost, TransitByLink, from_host}
use Rattle.ncp_transcript_two.specs.Subnet
use Rattle.ncp_transcript.specs.Asked.{Asked, Asks, Asks_echo, Asks_reset, Asks_wake, state_after_asked}
use Rattle.ncp_transcript_two.specs.World.{World, Call_is_made, Goes_out, Is_delivered, Is_lost, Finds_dead, Is_answered, moves, goes, delivers, loses, dies, answers_for, WorldStep, received, state_after_received}
use Rattle.ncp_transcript_two.specs.Tie.{text_as_message, IsTextOn, IsReachable, Refines, IsMove}
use Rattle.ncp_transcript_two.specs.Underway.{commands_of}
use Rattle.ncp_transcript_two.proofs.Links.{Comes, delivered}
use Rattle.ncp_transcript_two.proofs.Written.{from_host-message, comes-received, answer_comes-is}
use Rattle.ncp_transcript_two.proofs.Comings.{small, text-heard, control-heard}
use Rattle.ncp_transcript_two.proofs.Answering.{answered-is}
use Rattle.ncp_transcript_two.proofs.Flights.{IsOut, delivered-out, lost-out, dead-out}
use Rattle.ncp_transcript_two.proofs.Reaching.{of-reached, stands-there}
use Rattle.ncp_transcript_two.proofs.Runs.{moves-tie}
use Rattle.ncp_proof_promises.specs.Resetting.{AwaitsReply, StillWaits, DropsOthers, OnlyResetsAct}
use Rattle.ncp_proof_promises.proofs.Judging.{ControlComes, control-comes, control-read, acts, on_control, hears_all-stands}

down : (p : Phase) → p.wait ≡ true → up p ≡ false
down p w = grind arith

resetting : (p : Phase) → p.wait ≡ true → is_resetting p ≡ true
resetting p w = grind arith

stays : (b : Bool) (x p : Peer) → b ≡ false → (if b then x else p) ≡ p
stays b x p e = ap (λ (c : Bool). if c then x else p) e

-- calls

call-stays : (asked : Asked) (s : PeerState) → AwaitsReply s → (state_after_asked asked s).peer ≡ s.peer
call-stays (Asks pair call) s w = stays (up s.peer.phase) _ s.peer (down s.peer.phase w)
call-stays (Asks_echo byte) s w = stays (up s.peer.phase) _ s.peer (down s.peer.phase w)
call-stays Asks_reset s w = ap (λ (c : Bool). if c then s.peer else cleared (resets (is_quiet s.slots) s.peer.phase) s.peer) (resetting s.peer.phase w)
call-stays Asks_wake s w = refl

-- a host that is not up has no end, and lets nothing wait but RST and RRP

none-here : (w : TwoNodes) → IsReachable w → is_up w.this.host ≡ false → (w.this.ends ≡ no_ends) × (filter is_other w.this.host.phase.waiting ≡ [])
none-here w r = of-reached (λ (x : TwoNodes). is_up x.this.host ≡ false → (x.this.ends ≡ no_ends) × (filter is_other x.this.host.phase.waiting ≡ []))
    (λ (es : List NodeEvent) e. let k = (ever es).holds.joined in (k.this.none e, k.kept.this.waiting e)) w r

none-there : (w : TwoNodes) → IsReachable w → is_up w.that.host ≡ false → (w.that.ends ≡ no_ends) × (filter is_other w.that.host.phase.waiting ≡ [])
none-there w r = of-reached (λ (x : TwoNodes). is_up x.that.host ≡ false → (x.that.ends ≡ no_ends) × (filter is_other x.that.host.phase.waiting ≡ []))
    (λ (es : List NodeEvent) e. let k = (ever es).holds.joined in (k.that.none e, k.kept.that.waiting e)) w r

pub still-here : (w : TwoNodes) (v : World) → Refines w v → AwaitsReply v.this → StillWaits v.this
still-here w v t a =
    let k = none-here w t.reached (ap (λ (p : Peer). up p.phase) (sym t.this.peer) ∙ down v.this.peer.phase a) in
    (a, ap (λ (p : Peer). p.ends) t.this.peer ∙ k.0, ap (λ (p : Peer). filter is_other p.phase.waiting) t.this.peer ∙ k.1)

pub still-there : (w : TwoNodes) (v : World) → Refines w v → AwaitsReply v.that → StillWaits v.that
still-there w v t a =
    let k = none-there w t.reached (ap (λ (p : Peer). up p.phase) (sym t.that.peer) ∙ down v.that.peer.phase a) in
    (a, ap (λ (p : Peer). p.ends) t.that.peer ∙ k.0, ap (λ (p : Peer). filter is_other p.phase.waiting) t.that.peer ∙ k.1)

-- what goes out

abbrev SameFlag : Peer → Peer → Type 0
SameFlag p q = (q.phase.wait ≡ p.phase.wait) × (q.echoes ≡ p.echoes)

out-same : (s : LinkSlot) (on : ℕ) (p : Peer) → SameFlag p (after_by s on p)
out-same Slot.Empty on p = go (on == 0)
  where
    go : (b : Bool) → SameFlag p (if b then peer_sends p else cuts on p)
    go true = (refl, refl)
    go false = (refl, refl)
out-same (Slot.Ready m) on p = (refl, refl)
out-same (Slot.Travelling m) on p = (refl, refl)
out-same (Slot.Held m) on p = (refl, refl)

-- answers

answer-waits : (on : ℕ) (how : Answer) (sl : LinkSlots) (p : Peer) → p.phase.wait ≡ true → ((after_answer on how sl p).phase.wait ≡ true) × ((after_answer on how sl p).echoes ≡ p.echoes)
answer-waits on Rfnm sl p w = go (on == 0)
  where
    go : (b : Bool) → ((settles (is_quiet sl) (if b then p else frees on p)).phase.wait ≡ true) × ((if b then p else frees on p).echoes ≡ p.echoes)
    go true = (settling (is_quiet sl) p.phase w, refl)
    go false =
        let e : frees on p ≡ p = stays (up p.phase) _ p (down p.phase w) in
        (ap (λ (q : Peer). (settles (is_quiet sl) q).phase.wait) e ∙ settling (is_quiet sl) p.phase w, ap (λ (q : Peer). q.echoes) e)
answer-waits on Incomplete sl p w = (w, refl)
answer-waits on Dead sl p w = (w, refl)

answered-waits : (on : ℕ) (how : Answer) (s r : PeerState) → IsOut on (slot_at s.slots on) → r ≡ answer_comes on how s → AwaitsReply s → AwaitsReply r × (r.peer.echoes ≡ s.peer.echoes)
answered-waits on how s r o e w =
    let same = e ∙ answered-is on how o.message s o.in_slot in
    subst (λ (x : PeerState). AwaitsReply x × (x.peer.echoes ≡ s.peer.echoes)) (sym same) (answer-waits on how _ s.peer w)

-- what comes

drops-one : (c : Command) (s : PeerState) → AwaitsReply s → is_other c ≡ true → (state_hears c s).peer ≡ s.peer
drops-one Rst s w o = absurd (cc o)
drops-one Rrp s w o = absurd (cc o)
drops-one c s w o = stays (up s.peer.phase) _ s.peer (down s.peer.phase w)

drops-others : (cs : List Command) (s : PeerState) → DropsOthers cs s
drops-others [] s = tt
drops-others (c ∷ cs) s = (drops-one c s, drops-others cs (state_hears c s))

control-waits : (w : TwoNodes) (v : World) (m : List Bool) → Refines w v → (c : ControlComes w v m) → AwaitsReply v.that → list_any is_rrp c.what ≡ false → AwaitsReply (state_hears_all c.what v.that)
control-waits w v m t c a e =
    let n : Node = w.that in
    let k = hears_all-stands v.here c.what n v.that v.coming c.fits.0 (stands-there w t.reached) t.that in
    ap (λ (p : Peer). p.phase.wait) k.peer
    ∙ ap (λ (h : ResetHost). h.phase.wait) (hears_all-host c.what n)
    ∙ waiting c.what (reactions c.what n) n.host (ap (λ (p : Peer). p.phase.wait) (sym t.that.peer) ∙ a) e

text-is : (on : ℕ) (m : Message) (s : PeerState) → is_wrong_link on ≡ false → (on == 0) ≡ false → message_received on (Ok m) s ≡ text_received on m s
text-is on m s f z = rw (f, z) refl

text-drops : (on : ℕ) (w : TwoNodes) (v : World) (m : List Bool) → (on == 0) ≡ false → Refines w v → v.going on ≡ Accepted m → AwaitsReply v.that
    → (received (from_host v.here m) v.that ≡ Received.NotUp) × ((state_after_received (from_host v.here m) v.that).peer ≡ v.that.peer)
text-drops on w v m z t e a = (
  ap (λ (x : List Bool). received (from_host v.here x) v.that) c.written
      ∙ ap (λ (x : List Bool). received x v.that) (from_host-message v.here v.there on c.what.of_size c.what.bits)
      ∙ comes-received v.here on c.what.of_size c.what.bits v.that t.that.number (small on c.fits.0) c.fits.1
      ∙ text-is on (message_with (leader_to v.here on) c.what.of_size c.what.bits) v.that c.fits.0 z
      ∙ ap (λ (b : Bool). if b then Received.Text (answer (text_in on c.what.of_size c.what.bits v.that.peer.ends)) else Received.NotUp) (down v.that.peer.phase a),
  ap (λ (s : PeerState). s.peer) (text-heard on w v m t z c) ∙ stays (up v.that.peer.phase) _ v.that.peer (down v.that.peer.phase a),
)
  where
    c : Comes (text_as_message v.there on) (IsTextOn on) (w.this.texts on) (slot_at v.this.slots on) m
    c = delivered (text_as_message v.there on) (IsTextOn on) (w.this.texts on) (slot_at v.this.slots on) (v.going on) m (t.this.texts on z) e

-- Each step, with the world after it.

abbrev After : WorldStep → World → World
After st v = (moves st v).0

call-acts : (asked : Asked) (v : World) → OnlyResetsAct (moves (Call_is_made asked) v).1 v (After (Call_is_made asked) v)
call-acts asked v = (call-stays asked v.this, refl)

out-acts : (o : Option (ℕ × List Bool)) (v : World) (y : TwoNodes) → Refines y (goes o v).0 → OnlyResetsAct (goes o v).1 v (goes o v).0
out-acts None v y u = (refl, refl)
out-acts (Some out) v y u = (
  λ w. let k = out-same (slot_at v.this.slots out.0) out.0 v.this.peer in (still-here y (goes (Some out) v).0 u (k.0 ∙ w), k.1),
  refl,
)

deliver-acts : (on : ℕ) (w : TwoNodes) (v : World) (h : Holds) → Refines w v → v.going on ≡ h → (y : TwoNodes) → Refines y (delivers on h v).0 → OnlyResetsAct (delivers on h v).1 v (delivers on h v).0
deliver-acts on w v (Accepted m) t e y u = (
  λ a. (
    λ z. text-drops on w v m z t e a,
    λ z. (
      (acts w v m t (on_control on v m z e)).1,
      drops-others (commands_of (from_host v.here m)) v.that,
      λ none.
          let c : ControlComes w v m = control-comes w v m t (on_control on v m z e) in
          let r : commands_of (from_host v.here m) ≡ c.what = control-read w v m t c in
          still-there y (delivers on (Accepted m) v).0 u
          (subst (λ (s : PeerState). AwaitsReply s) (sym (control-heard w v m t c)) (control-waits w v m t c a (ap (λ (cs : List Command). list_any is_rrp cs) (sym r) ∙ none))),
    ),
  ),
  refl,
)
deliver-acts on w v Free t e y u = (refl, refl)
deliver-acts on w v Delivered t e y u = (refl, refl)
deliver-acts on w v Lost t e y u = (refl, refl)
deliver-acts on w v Subnet.Dead t e y u = (refl, refl)

lose-acts : (on : ℕ) (h : Holds) (v : World) → OnlyResetsAct (loses on h v).1 v (loses on h v).0
lose-acts on (Accepted m) v = (refl, refl)
lose-acts on Free v = (refl, refl)
lose-acts on Delivered v = (refl, refl)
lose-acts on Lost v = (refl, refl)
lose-acts on Subnet.Dead v = (refl, refl)

die-acts : (on : ℕ) (h : Holds) (v : World) → OnlyResetsAct (dies on h v).1 v (dies on h v).0
die-acts on (Accepted m) v = (refl, refl)
die-acts on Free v = (refl, refl)
die-acts on Delivered v = (refl, refl)
die-acts on Lost v = (refl, refl)
die-acts on Subnet.Dead v = (refl, refl)

answer-acts : (on : ℕ) (w : TwoNodes) (v : World) (h : Holds) → Refines w v → v.going on ≡ h → (y : TwoNodes) → Refines y (answers_for on h v).0 → OnlyResetsAct (answers_for on h v).1 v (answers_for on h v).0
answer-acts on w v Delivered t e y u =
    let o = delivered-out on w v t e in
    (λ a. let k = answered-waits on Rfnm v.this _ o (answer_comes-is v.there on v.this t.this.number o.fits).0 a in (still-here y (answers_for on Delivered v).0 u k.0, k.1), refl)
answer-acts on w v Lost t e y u =
    let o = lost-out on w v t e in
    (λ a. let k = answered-waits on Incomplete v.this _ o (answer_comes-is v.there on v.this t.this.number o.fits).1 a in (still-here y (answers_for on Lost v).0 u k.0, k.1), refl)
answer-acts on w v Subnet.Dead t e y u =
    let o = dead-out on w v t e in
    (λ a. let k = answered-waits on Dead v.this _ o (answer_comes-is v.there on v.this t.this.number o.fits).2 a in (still-here y (answers_for on Subnet.Dead v).0 u k.0, k.1), refl)
answer-acts on w v Free t e y u = (refl, refl)
answer-acts on w v (Accepted m) t e y u = (refl, refl)

pub only-resets-act : (st : WorldStep) (x : TwoNodes) (v : World) → IsMove st → Refines x v → OnlyResetsAct (moves st v).1 v (moves st v).0
only-resets-act (Call_is_made asked) x v ok t = call-acts asked v
only-resets-act Goes_out x v ok t = let r = moves-tie Goes_out x v ok t in out-acts (next_of v.there v.this) v r.0 r.1
only-resets-act (Is_delivered on) x v ok t = let r = moves-tie (Is_delivered on) x v ok t in deliver-acts on x v (v.going on) t refl r.0 r.1
only-resets-act (Is_lost on) x v ok t = lose-acts on (v.going on) v
only-resets-act (Finds_dead on) x v ok t = die-acts on (v.going on) v
only-resets-act (Is_answered on) x v ok t = let r = moves-tie (Is_answered on) x v ok t in answer-acts on x v (v.going on) t refl r.0 r.1
