-- Pairs of sockets (NIC 8246, sockets: an even one receives, an odd one sends, and a connection joins one
-- of each). That each pair is checked separately is this profile's rule.
use Rattle.std.specs.Prelude.{ℕ, ◌%◌, ◌==◌, Bool, ◌&&◌, ◌||◌}
use Rattle.std.specs.declared.cmp.Ordering.{Ordering}
use Rattle.std.specs.Ordering.{nat_cmp, ordering_then}
use Rattle.ncp_model.specs.declared.pair.Pair.{Pair}

-- a receive socket is even
abbrev pub is_receive : ℕ → Bool
is_receive socket = socket % 2 == 0

-- a send socket is odd
abbrev pub is_send : ℕ → Bool
is_send socket = socket % 2 == 1

-- this host is the sender
abbrev pub sends : Pair → Bool
sends pair = is_send pair.local && is_receive pair.remote

-- this host is the receiver
abbrev pub receives : Pair → Bool
receives pair = is_receive pair.local && is_send pair.remote

-- one socket sends, and the other receives
abbrev pub is_proper : Pair → Bool
is_proper pair = sends pair || receives pair

-- equal sockets: the same connection
abbrev pub same : Pair → Pair → Bool
same a b = a.local == b.local && a.remote == b.remote

-- ordered by this host's socket, then by the peer's
abbrev pub pair_cmp : Pair → Pair → Ordering
pair_cmp a b = ordering_then (nat_cmp a.local b.local) (nat_cmp a.remote b.remote)

-- the pair as the peer names it
abbrev pub counterpart : Pair → Pair
counterpart pair = record { local = pair.remote; remote = pair.local }
