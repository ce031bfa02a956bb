use Rattle.std.proofs.Common.{◌≡◌, List, All, refl, sym, ap, subst}
use Rattle.std.proofs.lemmas.List.Elements.{All-nil, All-cons}
use Rattle.ncp_model.specs.declared.pair.Pair.{Pair}
use Rattle.ncp_model.specs.Ends.{Ends}
use Rattle.ncp_model.specs.Peers.{Peer}
use Rattle.ncp_conn.specs.Walking.{AreItsPairs}
use Rattle.ncp_peer.specs.Soundness.{IsPlaced}
use Rattle.ncp_peer.proofs.Placed.{all_placed}
use Rattle.ncp_peer.proofs.association.Association.are_placed.Goals as goal

pub loop-pair-init : goal.loop-pair-init
loop-pair-init g c =
    let ends : c.self.inside.table ≡ c.args.self.now.ends = ap (λ (p : Peer). p.ends) c.self.view_is in
    let at_first : AreItsPairs c.pairs-pair-items.result c.args.self.now.ends = subst (λ (m : Ends). AreItsPairs c.pairs-pair-items.result m) ends c.pairs-pair-items.ensures in
    let are : AreItsPairs c.into_iter-pair-iterator.result c.args.self.now.ends = subst (λ (ps : List Pair). AreItsPairs ps c.args.self.now.ends) (sym c.into_iter-pair-iterator.ensures.into_iter_gives) at_first in
    (tt, tt, λ each. all_placed c.args.self.now.ends c.args.slots.now c.into_iter-pair-iterator.result are each)

pub loop-pair-preserved : goal.loop-pair-preserved
loop-pair-preserved g c =
    (tt, tt, λ each. c.loop-pair.invariant.2 (subst (λ (ps : List Pair). All (IsPlaced c.args.self.now.ends c.args.slots.now) ps) (sym c.in-Some.ensures.steps) (All-cons (IsPlaced c.args.self.now.ends c.args.slots.now) c.in-Some.pair c.next.new.self (c.is_placed.ensures.placed c.if-not-is_placed.false) each)))

pub returns : goal.returns
returns g c = record { placed = λ _. c.loop-pair.invariant.2 (subst (λ (ps : List Pair). All (IsPlaced c.args.self.now.ends c.args.slots.now) ps) (sym c.in-None.ensures.steps.0) (All-nil (IsPlaced c.args.self.now.ends c.args.slots.now))); agrees = λ a h. refl }
