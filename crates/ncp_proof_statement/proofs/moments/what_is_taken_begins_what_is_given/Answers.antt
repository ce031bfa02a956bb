use Rattle.std.proofs.Common.{◌≡◌, subst}
use Rattle.ncp_model.specs.declared.pair.Pair.{Pair}
use Rattle.ncp_model.specs.Pairs.{counterpart}
use Rattle.ncp_proof_endpoint.specs.Histories.{EndpointWithHistory, IsPrefix}
use Rattle.ncp_proof_connection.specs.Sharing.{shared, Shared}
use Rattle.ncp_proof_machine.specs.Hosts.{Pasts, TwoNodes, run, nodes_swapped, past_of}
use Rattle.ncp_proof_headline.specs.Tied.{watched_at, IsTied}
use Rattle.ncp_transcript_two.specs.declared.side.Side.TheVariants.{A, B}
use Rattle.ncp_proof_statement.proofs.EachMoment.{at-each-moment}
use Rattle.ncp_proof_statement.proofs.moments.what_is_taken_begins_what_is_given.Goals as goal

-- what a machine says of its ends, said of the hosts and of their histories
said : (v : TwoNodes) (s : Shared) (p : Pair) (h k : Pasts) → v.this.pasts ≡ h → v.that.pasts ≡ k → s.sender p ≡ watched_at v.this p → s.receiver p ≡ watched_at v.that (counterpart p) → IsPrefix (s.receiver p).past.taken (s.sender p).past.given
    → IsPrefix (past_of k (counterpart p)).taken (past_of h p).given
said v s p h k e f a b m =
    subst (λ (x : Pasts). IsPrefix (past_of x (counterpart p)).taken (past_of h p).given) f
    (subst (λ (x : Pasts). IsPrefix (past_of v.that.pasts (counterpart p)).taken (past_of x p).given) e
    (subst (λ (x : EndpointWithHistory). IsPrefix x.past.taken (past_of v.this.pasts p).given) b
    (subst (λ (x : EndpointWithHistory). IsPrefix (s.receiver p).past.taken x.past.given) a m)))

pub returns : goal.returns
returns c ns w t A pair =
    let m = c.transcripts_are_of_the_model.ensures ns w t in
    let tied : IsTied (run m.0) = c.hosts_are_tied_to_machines.ensures.there m.0 in
    at-each-moment ns w t A pair (λ s. said (run m.0) (shared tied.0) pair _ _ m.2 m.3 (tied.2 pair s).0 (tied.2 pair s).1 (c.each_loses_and_makes_nothing.ensures.taken tied.0 pair tied.1 s))
returns c ns w t B pair =
    let m = c.transcripts_are_of_the_model.ensures ns w t in
    let tied : IsTied (nodes_swapped (run m.0)) = c.hosts_are_tied_to_machines.ensures.back m.0 in
    at-each-moment ns w t B pair (λ s. said (nodes_swapped (run m.0)) (shared tied.0) pair _ _ m.3 m.2 (tied.2 pair s).0 (tied.2 pair s).1 (c.each_loses_and_makes_nothing.ensures.taken tied.0 pair tied.1 s))
