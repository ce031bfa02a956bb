use Rattle.std.proofs.Common.{◌∷◌, [], ℕ, ap}
use Rattle.ncp_leader.proofs.Fronts.{first_byte}
use Rattle.ncp_leader.proofs.leader.leader_bytes.Goals as goal

pub returns-clause-bytes : goal.returns-clause-bytes
returns-clause-bytes c = ap (λ (n : ℕ). n ∷ c.args.leader.host ∷ c.args.leader.link ∷ c.args.leader.low ∷ []) (first_byte c.args.leader.flags c.args.leader.kind c.requires.flags c.requires.kind)
