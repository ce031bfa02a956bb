-- Where nothing moves any more after a reset, both hosts have recovered.
use Rattle.std.proofs.Common.{◌≡◌, ◌<◌, Bool, true, false, ◌&&◌, not, ◌||◌, List, [], ◌∷◌, ◌++◌, inl, inr, ◌⊎◌, refl, sym, ap, ◌∙◌, subst, arith}
use Rattle.std.proofs.lemmas.Bool.{both_ways}
use Rattle.ncp_wire.specs.declared.command.Command.{Command}
use Rattle.ncp_model.specs.Phase.{is_resetting}
use Rattle.ncp_model.proofs.ResetLists.{rsts}
use Rattle.ncp_proof_machine.specs.Resets.{Party, This, That, is_up}
use Rattle.ncp_proof_machine.specs.Hosts.{Node, TwoNodes, nodes_swapped, NodeEvent, Calls_reset, node_at, run_from, run, start}
use Rattle.ncp_proof_machine.specs.HostRuns.{by}
use Rattle.ncp_proof_headline.proofs.HostsHeld.{Ever, ever, ever-swapped}
use Rattle.ncp_proof_progress.specs.Idle.{IsSettledInModel, IsIdle}
use Rattle.ncp_proof_progress.specs.Finished.{IsAtRest, IsFinished}
use Rattle.ncp_proof_progress.proofs.PairsFinished.{ever-finished}
use Rattle.ncp_proof_progress.proofs.AtRest.{none-going}
use Rattle.ncp_proof_recovery.specs.Recovery.{IsUndisturbed, IsFresh, HaveRecovered, node_of_party}
use Rattle.ncp_proof_recovery.proofs.Lines.{line}
use Rattle.ncp_proof_recovery.proofs.Anew.{Asked, Rises}
use Rattle.ncp_proof_recovery.proofs.Recovering.{Bare, Asking, Begun, Recovers, run-recovers, reset-recovers}

no-asked : (n : Node) → IsIdle n → line n.control ++ n.host.phase.waiting ≡ [] → Asked n.host (line n.control) → ⊥
no-asked n i e (inl w) = both_ways n.host.phase.want i.want w
no-asked n i e (inr (r, d)) = let z : 0 < 0 = subst (λ (u : List Command). 0 < rsts u) e r in omega (arith, z)

rises-up : (n : Node) → IsAtRest n → Rises n.host → is_up n.host ≡ true
rises-up n r d =
    let e : n.host.phase.down ≡ false = go n.host.phase.down n.host.phase.owe r.idle.owe d in
    rw (e, r.idle.want, r.idle.owe, r.wait) refl
  where
    go : (b c : Bool) → c ≡ false → (b && not c) ≡ false → b ≡ false
    go false c f e = refl
    go true false f e = e
    go true true f e = absurd (cc f)

fresh : (n : Node) → IsAtRest n → Rises n.host → Bare n → IsFresh n
fresh n r d b = record { up = rises-up n r d; ends = b.0; echo = b.1 }

recovered : (w : TwoNodes) → Ever w → IsAtRest w.this → IsAtRest w.that → Asking w.this ⊎ Begun w.this w.that → HaveRecovered w
recovered w t i j (inl p) = absurd (no-asked w.this i.idle (none-going w t i.idle j.idle) p.0)
recovered w t i j (inr b) = (fresh w.this i b.0.this b.1, fresh w.that j b.0.that b.2)

pub side-recovered : (asker : Party) (w : TwoNodes) → Ever w → IsAtRest w.this → IsAtRest w.that → Recovers asker w → HaveRecovered w
side-recovered This w t i j p = recovered w t i j p
side-recovered That w t i j p = let r = recovered (nodes_swapped w) (ever-swapped w t) j i p in (r.1, r.0)

run-more : (es fs : List NodeEvent) (w : TwoNodes) → run_from (es ++ fs) w ≡ run_from fs (run_from es w)
run-more [] fs w = refl
run-more (e ∷ es) fs w = run-more es fs (node_at e.side e.step w)

pub ever-recovered : (asker : Party) (before quiet : List NodeEvent) → is_resetting (node_of_party asker (run before)).host.phase ≡ false → IsUndisturbed quiet
    → let w = run (before ++ by asker Calls_reset ∷ quiet) in
    IsSettledInModel w → HaveRecovered w
ever-recovered asker before quiet e q s =
    let es : List NodeEvent = before ++ by asker Calls_reset ∷ quiet in
    let b : TwoNodes = node_at asker Calls_reset (run before) in
    let same : run es ≡ run_from quiet b = run-more before (by asker Calls_reset ∷ quiet) start in
    let one : run (before ++ by asker Calls_reset ∷ []) ≡ b = run-more before (by asker Calls_reset ∷ []) start in
    let r : Recovers asker (run_from quiet b) = run-recovers asker quiet b (subst Ever one (ever (before ++ by asker Calls_reset ∷ []))) q (reset-recovers asker (run before) e) in
    let f = ever-finished es s in
    side-recovered asker (run es) (ever es) f.this f.that (subst (Recovers asker) (sym same) r)
