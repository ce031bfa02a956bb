use Rattle.std.proofs.Common.{◌≡◌, vec_len, vec_capacity, take}
use Rattle.ncp_host.proofs.host.copied_peers.Given as goal

-- the first of the peers are copied
abbrev pub invariant-loop-place : goal.invariant-loop-place
invariant-loop-place g l = record {
  copied : l.copies.items ≡ take l.place l.peers;
  len : vec_len l.copies ≡ l.place;
  capacity : vec_capacity l.copies ≡ vec_capacity l.initial.copies;
}
