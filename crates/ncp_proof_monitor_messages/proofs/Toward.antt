-- What is seen of a host at the interface of the other, through what happens to each: this host is seen, at the interface of
-- that one.
use Rattle.std.proofs.Common.{◌≡◌, ℕ, ◌+◌, Bool, true, false, ◌&&◌, List, [], ◌∷◌, ◌++◌, refl, sym, ap, ◌∙◌, arith}
use Rattle.ncp_wire.specs.declared.command.Command.{Command}
use Rattle.ncp_slot.specs.Slots.{is_quiet}
use Rattle.ncp_model.specs.Phase.{Phase, up, is_reset}
use Rattle.ncp_model.proofs.ResetLists.{bit, rsts, rrps, others, others-append}
use Rattle.ncp_transcript_two.specs.World.{World}
use Rattle.ncp_transcript_two.specs.Underway.{underway}
use Rattle.ncp_monitor.specs.declared.view.View.{View}
use Rattle.ncp_monitor.specs.Views.{awaits_reply, is_answered_too_often}
use Rattle.ncp_proof_monitor.proofs.Phased.{Phased}
use Rattle.ncp_proof_monitor.proofs.PhaseSteps.{Unheard}
use Rattle.ncp_proof_monitor_messages.proofs.PeerSeen.{Beside}
use Rattle.ncp_proof_monitor_messages.proofs.Counts.{line, Counts, within_of}

-- the first message begins with an RST or an RRP; if no command is on the line, none was sent
abbrev pub Opens : List Command → Bool → Type 0
Opens [] began = began ≡ false
Opens (c ∷ cs) began = is_reset c ≡ true

-- no connection was asked for yet
pub record Bare (v : World) : Type 0 where
  pub unheard : Unheard v.this.peer.ends
  pub this_quiet : is_quiet v.this.slots ≡ true
  pub that_quiet : is_quiet v.that.slots ≡ true
  pub none : others (line v.that v.coming) ≡ []

-- at the interface of this host it was seen to begin, or not
pub record Toward (v : World) (view : View) (began : Bool) : Type 0 where
  pub beside : Beside v.that.peer.phase view
  pub calm : awaits_reply view.peer.wait ≡ true → others (line v.this v.going) ≡ []
  pub bare : view.peer.began ≡ false → Bare v
  pub opens : view.peer.began ≡ false → Opens (line v.this v.going) began

-- ---- what follows of it

-- before anything was seen of the peer the host is not up
pub not_up : (k : Phase) (q : Bool) (view : View) → Beside k view → Phased k q view → view.peer.began ≡ false → up k ≡ false
not_up k q view b p e = go (up k) refl
  where
    go : (u : Bool) → up k ≡ u → u ≡ false
    go false f = refl
    go true f =
        let waits = b.waits in
        let asked = b.asked in
        let own = b.own in
        let unborn = b.unborn e in
        let alone = b.alone e in
        let began = p.began in
        absurd (grind arith)

-- a host that waits for a reply is not up
down_waits : (p : Phase) → p.wait ≡ true → up p ≡ false
down_waits p e = grind arith

waits_one : (w : Bool) (rest : ℕ) (h : Bool) → bit w + rest ≡ bit h → w ≡ true → h ≡ true
waits_one true rest true e f = refl
waits_one true rest false e f = absurd (omega (arith, e))
waits_one false rest h e f = absurd (cc)

-- while a reply of the host is owed to it, the peer waits
pub peer_waits : (v : World) (view : View) → Counts v → Beside v.that.peer.phase view → awaits_reply view.peer.wait ≡ true → v.this.peer.phase.wait ≡ true
peer_waits v view c b e =
    let w = (within_of v view c b).waits in
    waits_one (awaits_reply view.peer.wait) (rsts (underway v.this v.going) + rrps (line v.that v.coming)) v.this.peer.phase.wait (let g = w in omega (arith, g)) e

both_none : (xs ys : List Command) → xs ≡ [] → ys ≡ [] → xs ++ ys ≡ []
both_none xs ys e f = ap (λ (zs : List Command). zs ++ ys) e ∙ f

-- and then nothing else is underway from it
pub nothing_else : (v : World) (view : View) (began : Bool) → Counts v → Toward v view began → awaits_reply view.peer.wait ≡ true → others (underway v.this v.going) ≡ []
nothing_else v view began c t e =
    others-append (line v.this v.going) v.this.peer.phase.waiting
    ∙ both_none (others (line v.this v.going)) (others v.this.peer.phase.waiting) (t.calm e) (c.calm (down_waits v.this.peer.phase (peer_waits v view c t.beside e)))

pub none_waits : (v : World) (view : View) → Counts v → Beside v.that.peer.phase view → awaits_reply view.peer.wait ≡ true → others v.this.peer.phase.waiting ≡ []
none_waits v view c b e = c.calm (down_waits v.this.peer.phase (peer_waits v view c b e))

-- a host waits for a reply only while its data links are quiet, by what is seen at its own interface
pub quiet_waits : (p : Phase) (q : Bool) (own : View) → Phased p q own → Beside p own → p.wait ≡ true → q ≡ true
quiet_waits p q own k b e = go (awaits_reply own.host.wait) refl
  where
    clear : (s a : Bool) → a ≡ false → (s && a) ≡ false
    clear true true e = absurd (cc e)
    clear true false e = refl
    clear false a e = refl

    go : (w : Bool) → awaits_reply own.host.wait ≡ w → q ≡ true
    go true f = k.wait_quiet f
    go false f = k.rst_quiet (clear own.suspended (is_answered_too_often own.host.wait) b.own_sure) (let a = b.asked in let o = b.own in grind arith)

-- the first that waits, where nothing was seen of the host
pub first_reset : (c : Command) (u : List Command) (p : Phase) (q : Bool) (own : View) → Phased (record p { waiting = c ∷ u }) q own → own.host.began ≡ false → is_reset c ≡ true
first_reset c u p q own k e = go (is_reset c) refl
  where
    go : (b : Bool) → is_reset c ≡ b → b ≡ true
    go true f = refl
    go false f =
        let calm = k.calm in
        let order = k.order in
        let began = k.began e in
        absurd (grind arith)

-- the prefix of what waits
pub front_none : (cs rest all : List Command) → cs ++ rest ≡ all → others all ≡ [] → others cs ≡ []
front_none cs rest all e o = nil_front (others cs) (others rest) (sym (others-append cs rest) ∙ ap others e ∙ o)
  where
    nil_front : (xs ys : List Command) → xs ++ ys ≡ [] → xs ≡ []
    nil_front [] ys f = refl
    nil_front (x ∷ xs) ys f = absurd (cc f)
