use Rattle.std.proofs.Common.{List, subst}
use Rattle.ncp_pipe.specs.Pipe.{Step}
use Rattle.ncp_pipe.specs.Accounts.{user_steps, ArePrefixes, texts_taken, texts_given}
use Rattle.ncp_proof_pipe.proofs.OfUsers.{taken-by-user-steps, given-by-user-steps}
use Rattle.ncp_proof_pipe.proofs.ends.connections_give_each_bit_once.Goals as goal

pub returns : goal.returns
returns c es pair m sd =
    let k = c.connections_are_pipes.ensures es pair m sd in
    let b = c.each_bit_is_taken_once.ensures k.0 _ k.2 in
    subst (λ (us : List Step). ArePrefixes (texts_taken us) (texts_given us)) k.3
    (subst (λ ts. ArePrefixes ts (texts_given (user_steps k.0))) (taken-by-user-steps k.0) (subst (λ gs. ArePrefixes (texts_taken k.0) gs) (given-by-user-steps k.0) b))
