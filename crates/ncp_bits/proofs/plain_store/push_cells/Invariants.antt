use Rattle.std.proofs.Common.{◌≡◌, ◌++◌, take}
use Rattle.ncp_bits.proofs.plain_store.push_cells.Given as goal

abbrev pub invariant-loop-cell : goal.invariant-loop-cell
invariant-loop-cell l = l.bits ≡ l.initial.bits ++ take l.cell-index l.cells
