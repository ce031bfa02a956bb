use Rattle.std.proofs.Common.{◌≡◌, ◌≤◌, ◌++◌, [], List, Bool, ℕ, length}
use Rattle.ncp_saved.specs.Values.{bits_saved}
use Rattle.ncp_saved.proofs.Pieces.{Midway}
use Rattle.ncp_saved.proofs.reader.Reader.stored.Given as goal

-- the bits that are in the store, and those that are left
abbrev pub invariant-loop-left : goal.invariant-loop-left
invariant-loop-left g l = record {
  capacity : g.S.BitStore.capacity l.store ≡ g.S.BitStore.capacity l.fn.store;
  midway : (bits : List Bool) (rest : List ℕ) → g.S.BitStore.held l.fn.store ≡ [] → length bits ≤ g.S.BitStore.capacity l.fn.store → l.fn.self ≡ bits_saved bits ++ rest → Midway (g.S.BitStore.held l.store) l.left l.self bits rest;
}

-- so many bits are left
abbrev pub decreases-loop-left : goal.decreases-loop-left
decreases-loop-left g l = l.left
