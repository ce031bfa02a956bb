use Rattle.std.proofs.Common.{◌≡◌, true, List}
use Rattle.ncp_model.specs.declared.pair.Pair.{Pair}
use Rattle.ncp_model.specs.Pairs.{sends}
use Rattle.ncp_proof_machine.specs.Hosts.{TwoNodes, nodes_swapped, NodeEvent, run}
use Rattle.ncp_proof_headline.specs.Headline.{AmountsAgreeInModel, OnOneLink, WithinAllocationInModel, PartedInModel, TakenOrHeld, BeginsInModel, BothWaysInModel}
use Rattle.ncp_proof_machine.proofs.HostsStand.{BothStand}
use Rattle.ncp_proof_headline.proofs.Ties.{Owners}
use Rattle.ncp_proof_headline.proofs.HostsHeld.{Holds, ever, ever-swapped}
use Rattle.ncp_proof_headline.proofs.HostsHeadline.{amounts_agree, on_one_link, within, parted, held_all, begins}
use Rattle.ncp_proof_headline.proofs.headline.hosts_lose_and_make_nothing.Goals as goal

-- what holds one way of two hosts that are tied holds either way
either_way : (P : Pair → TwoNodes → Type 0) → ((own own' : Owners) (w : TwoNodes) → Holds own own' w → BothStand w → (pair : Pair) → sends pair ≡ true → P pair w)
    → (events : List NodeEvent) (pair : Pair) → sends pair ≡ true → BothWaysInModel (P pair) (run events)
either_way P f events pair s =
    let t = ever events in
    let u = ever-swapped (run events) t in
    (f t.own t.own' (run events) t.holds t.stand pair s, f u.own u.own' (nodes_swapped (run events)) u.holds u.stand pair s)

pub returns-clause-safe : goal.returns-clause-safe
returns-clause-safe c = λ es. (ever es).holds.joined.this.safe

pub returns-clause-safe_there : goal.returns-clause-safe_there
returns-clause-safe_there c = λ es. (ever es).holds.joined.that.safe

pub returns-clause-amounts : goal.returns-clause-amounts
returns-clause-amounts c = either_way AmountsAgreeInModel amounts_agree

pub returns-clause-link : goal.returns-clause-link
returns-clause-link c = either_way OnOneLink on_one_link

pub returns-clause-allocation : goal.returns-clause-allocation
returns-clause-allocation c = either_way WithinAllocationInModel within

pub returns-clause-parted : goal.returns-clause-parted
returns-clause-parted c = either_way PartedInModel parted

pub returns-clause-held : goal.returns-clause-held
returns-clause-held c = either_way TakenOrHeld held_all

pub returns-clause-beginning : goal.returns-clause-beginning
returns-clause-beginning c = either_way BeginsInModel begins
