-- A leader as bytes (BBN 1822, section 3: the 32-bit leader).
use Rattle.std.specs.Prelude.{ℕ, ◌+◌, ◌*◌, ◌^◌, List, [], ◌∷◌}
use Rattle.ncp_leader.specs.declared.leader.Leader.{Leader}

-- its four bytes; the first has the flags and the type
abbrev pub leader_bytes : Leader → List ℕ
leader_bytes leader = (leader.flags * 2 ^ 4 + leader.kind) ∷ leader.host ∷ leader.link ∷ leader.low ∷ []
