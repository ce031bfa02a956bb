use Rattle.std.proofs.Common.{◌≡◌, ◌+◌, ◌++◌, take, length}
use Rattle.ncp_bits.proofs.plain_store.write_part.Given as goal

abbrev pub invariant-loop-place : goal.invariant-loop-place
invariant-loop-place l = record {
  written : take (l.at + l.place) l.cells ≡ take l.at l.initial.cells ++ take l.place l.part;
  len : length l.cells ≡ length l.initial.cells;
}
