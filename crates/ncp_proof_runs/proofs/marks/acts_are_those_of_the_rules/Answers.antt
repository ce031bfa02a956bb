use Rattle.std.proofs.Common.{None, sym, subst}
use Rattle.std.specs.FinMap.{get}
use Rattle.ncp_peer.specs.PeerState.{PeerState}
use Rattle.ncp_proof_runs.specs.Peers.{notes_of_peer}
use Rattle.ncp_proof_runs.specs.Acts.{AreActs, acts_of}
use Rattle.ncp_proof_runs.proofs.ActsOfRuns.{acts-from-nothing}
use Rattle.ncp_proof_runs.proofs.InRuns.{kept_as_noted}
use Rattle.ncp_proof_runs.proofs.marks.acts_are_those_of_the_rules.Goals as goal

pub returns : goal.returns
returns c me ns all n s pair from there =
    subst (λ (x : PeerState). AreActs pair None (acts_of pair (notes_of_peer n all)) (get x.peer.ends pair)) (sym (kept_as_noted me ns all n s from there)) (acts-from-nothing pair (notes_of_peer n all))
