use Rattle.std.proofs.Common.{◌≡◌, length, List, suc, ap, arith}
use Rattle.ncp_wire.specs.declared.command.Command.{Command}
use Rattle.ncp_model.specs.Peers.{Peer}
use Rattle.ncp_proof_promises.proofs.examples.acts_before_the_answer_are_seen.Goals as goal

pub returns-clause-made : goal.returns-clause-made
returns-clause-made c asked reply v after w e k =
    let more : length after.this.peer.phase.waiting ≡ suc (length v.this.peer.phase.waiting) = ap (λ (cs : List Command). length cs) e in
    let same : length after.this.peer.phase.waiting ≡ length v.this.peer.phase.waiting = ap (λ (p : Peer). length p.phase.waiting) (k.0 w) in
    omega (arith, more, same)
