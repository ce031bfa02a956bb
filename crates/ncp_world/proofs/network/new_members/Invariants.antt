use Rattle.std.proofs.Common.{◌≡◌, map, take, vec_len, vec_capacity}
use Rattle.ncp_host.specs.Host.{new_host}
use Rattle.ncp_transcript_many.specs.Network.{others}
use Rattle.ncp_world.proofs.network.new_members.Given as goal

abbrev pub invariant-loop-number : goal.invariant-loop-number
invariant-loop-number g l = record {
  made : l.members.items ≡ map (λ n. (n, new_host n (others n l.hosts))) (take l.number-index l.hosts);
  len : vec_len l.members ≡ l.number-index;
  capacity : vec_capacity l.members ≡ vec_capacity l.initial.members;
}
