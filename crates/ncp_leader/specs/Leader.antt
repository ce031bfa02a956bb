-- A leader and its bits (BBN 1822, section 3: the 32-bit leader). Offsets count from 0; the standard
-- counts bits from 1.
use Rattle.std.specs.Prelude.{◌≡◌, ◌<◌, ◌≤◌, ℕ, ◌^◌, Bool, List, ◌++◌, length, nat_lt, Result, Ok, Err, if◌then◌else◌}
use Rattle.ncp_numbers.specs.Numbers.{bits_of}
pub use Rattle.ncp_numbers.specs.Numbers.{number_at}
use Rattle.ncp_leader.specs.declared.leader.Leader.{Leader}
use Rattle.ncp_leader.specs.declared.leader.Short.{Short}
use Rattle.ncp_leader.specs.declared.leader.TheConstants.{LEADER_BITS, MAX_FLAGS, MAX_KIND}

-- each field fits its bits
pub record IsLeader (leader : Leader) : Type 0 where
  pub flags : leader.flags ≤ MAX_FLAGS
  pub kind : leader.kind ≤ MAX_KIND
  pub host : leader.host < 2 ^ 8
  pub link : leader.link < 2 ^ 8
  pub low : leader.low < 2 ^ 8

-- flags, type, host, link, low field
abbrev pub leader_bits : Leader → List Bool
leader_bits leader =
    bits_of 4 leader.flags ++ bits_of 4 leader.kind ++ bits_of 8 leader.host ++ bits_of 8 leader.link ++ bits_of 8 leader.low

-- the bits start with a leader; the rest is arbitrary
pub record BeginsWith (bits : List Bool) (leader : Leader) : Type 0 where
  pub fits : IsLeader leader
  pub rest : List Bool
  pub form : bits ≡ leader_bits leader ++ rest

-- the link: bits 17 to 24
abbrev pub link_at : List Bool → ℕ
link_at bits = number_at bits 16 8

-- the leader with the fields at these offsets
abbrev pub leader_at : List Bool → Leader
leader_at bits = record {
  flags = number_at bits 0 4;
  kind = number_at bits 4 4;
  host = number_at bits 8 8;
  link = link_at bits;
  low = number_at bits 24 8;
}

-- the leader with which the bits start
abbrev pub leader_in : List Bool → Result Leader Short
leader_in bits = if nat_lt (length bits) LEADER_BITS then Err (record {}) else Ok (leader_at bits)
