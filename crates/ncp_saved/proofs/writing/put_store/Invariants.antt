use Rattle.std.proofs.Common.{◌≡◌, ◌++◌, length}
use Rattle.ncp_numbers.specs.Bytes.{bytes_of}
use Rattle.ncp_saved.proofs.writing.put_store.Given as goal

-- what is written, and what is left to be written
abbrev pub invariant-loop-out : goal.invariant-loop-out
invariant-loop-out g l = l.out.items ++ bytes_of (g.S.BitStore.held l.store) ≡ l.initial.out.items ++ bytes_of (g.S.BitStore.held l.initial.store)

-- so many bits are left
abbrev pub decreases-loop-out : goal.decreases-loop-out
decreases-loop-out g l = length (g.S.BitStore.held l.store)
