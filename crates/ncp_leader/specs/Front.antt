-- The part of a regular message before its text: leader and prefix (NIC 8246, message form).
use Rattle.std.specs.Prelude.{ℕ, Bool, List, ◌++◌}
use Rattle.ncp_numbers.specs.Numbers.{bits_of}
use Rattle.ncp_leader.specs.declared.leader.Leader.{Leader}
use Rattle.ncp_leader.specs.Leader.{leader_bits}
use Rattle.ncp_leader.specs.Message.{eight_zeros}

-- the leader, eight zeros, the byte size, the byte count, and eight zeros: `message_bits` up to its text
abbrev pub front_bits : Leader → ℕ → ℕ → List Bool
front_bits leader size count = leader_bits leader ++ eight_zeros ++ bits_of 8 size ++ bits_of 16 count ++ eight_zeros
