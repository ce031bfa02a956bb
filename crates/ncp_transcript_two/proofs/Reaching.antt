-- What the model reaches is a run of it.
use Rattle.std.proofs.Common.{◌≡◌, List, [], ◌∷◌, ◌++◌, refl, ap, ◌∙◌, subst}
use Rattle.ncp_proof_machine.specs.Hosts.{TwoNodes, NodeEvent, node_at, run, run_from, start}
use Rattle.ncp_proof_machine.proofs.EndsGood.{EndsInvariant}
use Rattle.ncp_proof_machine.proofs.HostsStand.{NodesStand, ever-stand}
use Rattle.ncp_transcript_two.specs.Tie.{IsReachable, Begins, Goes_on}

run_more : (es fs : List NodeEvent) (w : TwoNodes) → run_from (es ++ fs) w ≡ run_from fs (run_from es w)
run_more [] fs w = refl
run_more (e ∷ es) fs w = run_more es fs (node_at e.side e.step w)

pub reached-run : {w : TwoNodes} → IsReachable w → (es : List NodeEvent) × (run es ≡ w)
reached-run Begins = ([], refl)
reached-run (Goes_on r side step) =
    let p = reached-run r in
    (p.0 ++ record { side = side; step = step } ∷ [], run_more p.0 (record { side = side; step = step } ∷ []) start ∙ ap (node_at side step) p.1)

-- a law of all runs is one of all that is reached
pub of-reached : (P : TwoNodes → Type 0) → ((es : List NodeEvent) → P (run es)) → (w : TwoNodes) → IsReachable w → P w
of-reached P law w r = let p = reached-run r in subst P p.1 (law p.0)

-- all ends there are sound and in their limits
pub good-here : (w : TwoNodes) → IsReachable w → EndsInvariant w.this.ends
good-here w r = of-reached (λ (x : TwoNodes). EndsInvariant x.this.ends) (λ (es : List NodeEvent). (ever-stand es).0.good) w r

pub stands-there : (w : TwoNodes) → IsReachable w → NodesStand w.that
stands-there w r = of-reached (λ (x : TwoNodes). NodesStand x.that) (λ (es : List NodeEvent). (ever-stand es).1) w r
