-- A count of the resets underway between two hosts (queued or in flight): for each reset begun there is
-- one RST underway, one RRP owed, or one RRP underway. With that, the relation of the monitor's view to a
-- host's phase is its relation to the commands underway.
use Rattle.std.proofs.Common.{◌≡◌, ◌+◌, false, List, [], sym, ap, ◌∙◌, subst, arith}
use Rattle.ncp_wire.specs.declared.command.Command.{Command}
use Rattle.ncp_slot.specs.Slots.{slot_at}
use Rattle.ncp_model.specs.Phase.{Phase, up}
use Rattle.ncp_model.specs.Peers.{Peer}
use Rattle.ncp_model.proofs.ResetLists.{bit, rsts, rrps, others, after_rst, rsts-append, rrps-append}
use Rattle.ncp_proof_machine.specs.Resets.{on_line, commands_underway}
use Rattle.ncp_proof_machine.proofs.ResetKept.{Kept}
use Rattle.ncp_proof_machine.specs.Hosts.{NodeEvent, TwoNodes}
use Rattle.ncp_proof_headline.proofs.HostsHeld.{ever}
use Rattle.ncp_peer.specs.PeerState.{PeerState}
use Rattle.ncp_transcript_two.specs.Subnet.{TransitByLink}
use Rattle.ncp_transcript_two.specs.World.{World}
use Rattle.ncp_transcript_two.specs.Tie.{IsReachable, IsOfModel}
use Rattle.ncp_transcript_two.specs.Underway.{not_come, commands_out, underway}
use Rattle.ncp_transcript_two.proofs.Reaching.{of-reached}
use Rattle.ncp_transcript_two.proofs.Underway.{underway-is}
use Rattle.ncp_monitor.specs.declared.view.View.{View}
use Rattle.ncp_monitor.specs.Views.{awaits_reply}
use Rattle.ncp_proof_monitor_messages.proofs.PeerSeen.{Beside, Within}

-- the commands of the message that was sent and has not arrived
abbrev pub line : PeerState → TransitByLink → List Command
line s u = commands_out (not_come (slot_at s.slots 0) (u 0))

pub record Counts (v : World) : Type 0 where
  pub there : rsts (underway v.this v.going) + bit v.that.peer.phase.owe + rrps (underway v.that v.coming) ≡ bit v.this.peer.phase.wait
  pub back : rsts (underway v.that v.coming) + bit v.this.peer.phase.owe + rrps (underway v.this v.going) ≡ bit v.that.peer.phase.wait
  pub still : after_rst (underway v.this v.going) ≡ []
  pub calm : up v.this.peer.phase ≡ false → others v.this.peer.phase.waiting ≡ []

abbrev KeptIn : TwoNodes → Type 0
KeptIn w = Kept w.this.host w.that.host (on_line w.this.control.slot w.this.control.subnet) (on_line w.that.control.slot w.that.control.subnet)

kept_in : (w : TwoNodes) → IsReachable w → KeptIn w
kept_in w r = of-reached (λ (x : TwoNodes). KeptIn x) (λ (es : List NodeEvent). (ever es).holds.joined.kept) w r

pub counts : (v : World) → IsOfModel v → Counts v
counts v m = record { there = there; back = back; still = still; calm = calm }
  where
    w : TwoNodes
    w = m.0

    k : KeptIn w
    k = kept_in w m.1.reached

    u_is : underway v.this v.going ≡ commands_underway w.this.host w.this.control
    u_is = underway-is v.there w.this v.this v.going m.1.this

    x_is : underway v.that v.coming ≡ commands_underway w.that.host w.that.control
    x_is = underway-is v.here w.that v.that v.coming m.1.that

    this_is : v.this.peer.phase ≡ w.this.host.phase
    this_is = ap (λ (p : Peer). p.phase) m.1.this.peer

    that_is : v.that.peer.phase ≡ w.that.host.phase
    that_is = ap (λ (p : Peer). p.phase) m.1.that.peer

    there : rsts (underway v.this v.going) + bit v.that.peer.phase.owe + rrps (underway v.that v.coming) ≡ bit v.this.peer.phase.wait
    there =
        ap (λ (u : List Command). rsts u + bit v.that.peer.phase.owe + rrps (underway v.that v.coming)) u_is
        ∙ ap (λ (u : List Command). rsts (commands_underway w.this.host w.this.control) + bit v.that.peer.phase.owe + rrps u) x_is
        ∙ ap (λ (p : Phase). rsts (commands_underway w.this.host w.this.control) + bit p.owe + rrps (commands_underway w.that.host w.that.control)) that_is
        ∙ k.there.count ∙ ap (λ (p : Phase). bit p.wait) (sym this_is)

    back : rsts (underway v.that v.coming) + bit v.this.peer.phase.owe + rrps (underway v.this v.going) ≡ bit v.that.peer.phase.wait
    back =
        ap (λ (u : List Command). rsts u + bit v.this.peer.phase.owe + rrps (underway v.this v.going)) x_is
        ∙ ap (λ (u : List Command). rsts (commands_underway w.that.host w.that.control) + bit v.this.peer.phase.owe + rrps u) u_is
        ∙ ap (λ (p : Phase). rsts (commands_underway w.that.host w.that.control) + bit p.owe + rrps (commands_underway w.this.host w.this.control)) this_is
        ∙ k.here.count ∙ ap (λ (p : Phase). bit p.wait) (sym that_is)

    still : after_rst (underway v.this v.going) ≡ []
    still = ap after_rst u_is ∙ k.there.still

    calm : up v.this.peer.phase ≡ false → others v.this.peer.phase.waiting ≡ []
    calm e = ap (λ (p : Phase). others p.waiting) this_is ∙ k.this.waiting (ap up (sym this_is) ∙ e)

-- ---- from the one to the other

pub within_of : (v : World) (view : View) → Counts v → Beside v.that.peer.phase view → Within v.this.peer.phase (line v.that v.coming) (underway v.this v.going) view
within_of v view c b = record {
  told = b.told;
  waits = waits;
  mandatory = b.mandatory;
  asked = asked;
  own = b.own;
  own_sure = b.own_sure;
  unborn = b.unborn;
  alone = b.alone;
}
  where
    x : List Command
    x = line v.that v.coming

    q : List Command
    q = v.that.peer.phase.waiting

    waits : bit (awaits_reply view.peer.wait) + rsts (underway v.this v.going) + rrps x ≡ bit v.this.peer.phase.wait
    waits = let e : rrps (underway v.that v.coming) ≡ rrps x + rrps q = rrps-append x q in let f = c.there in let g = b.waits in omega (arith, e, f, g)

    asked : view.peer.asked ≡ rsts x + bit v.this.peer.phase.owe + rrps (underway v.this v.going)
    asked = let e : rsts (underway v.that v.coming) ≡ rsts x + rsts q = rsts-append x q in let f = c.back in let g = b.asked in omega (arith, e, f, g)

pub beside_of : (v : World) (view : View) → Counts v → Within v.this.peer.phase (line v.that v.coming) (underway v.this v.going) view → Beside v.that.peer.phase view
beside_of v view c b = record {
  told = b.told;
  waits = waits;
  mandatory = b.mandatory;
  asked = asked;
  own = b.own;
  own_sure = b.own_sure;
  unborn = b.unborn;
  alone = b.alone;
}
  where
    x : List Command
    x = line v.that v.coming

    q : List Command
    q = v.that.peer.phase.waiting

    waits : bit (awaits_reply view.peer.wait) ≡ bit v.that.peer.phase.owe + rrps q
    waits = let e : rrps (underway v.that v.coming) ≡ rrps x + rrps q = rrps-append x q in let f = c.there in let g = b.waits in omega (arith, e, f, g)

    asked : view.peer.asked + rsts q ≡ bit v.that.peer.phase.wait
    asked = let e : rsts (underway v.that v.coming) ≡ rsts x + rsts q = rsts-append x q in let f = c.back in let g = b.asked in omega (arith, e, f, g)

-- where the host alone did something, and what is underway from the peer and on the line to it is what it was
pub recount : (v now : World) (view : View) → Counts v → Counts now → now.this.peer.phase ≡ v.this.peer.phase → line now.that now.coming ≡ line v.that v.coming → underway now.this now.going ≡ underway v.this v.going
    → Beside v.that.peer.phase view → Beside now.that.peer.phase view
recount v now view c d phase x u b =
    beside_of now view d
    (subst (λ (p : Phase). Within p (line now.that now.coming) (underway now.this now.going) view) (sym phase)
    (subst (λ (y : List Command). Within v.this.peer.phase y (underway now.this now.going) view) (sym x)
    (subst (λ (y : List Command). Within v.this.peer.phase (line v.that v.coming) y view) (sym u) (within_of v view c b))))
