-- Messages that the subnet accepts and delivers, as lists of bits (BBN 1822, section 3).
use Rattle.std.specs.Prelude.{◌≡◌, ◌≤◌, ℕ, Bool, List, ◌++◌, length, take, drop, Option, Some, None}
use Rattle.ncp_numbers.specs.Numbers.{bits_of}
use Rattle.ncp_leader.specs.declared.leader.TheConstants.{LEADER_BITS}
use Rattle.ncp_leader.specs.Leader.{leader_at, leader_bits}
use Rattle.ncp_subnet.specs.declared.transit.Transit.{Transit}
use Rattle.ncp_leader.specs.declared.kinds.TheConstants.{REGULAR}
use Rattle.ncp_subnet.specs.Transit.{accepted_message, answer_kind}

-- a regular message: it has a leader of that type
abbrev pub IsRegular : List Bool → Type 0
IsRegular message = (LEADER_BITS ≤ length message) × ((leader_at message).kind ≡ REGULAR)

-- the destination and the link in its leader
abbrev pub host_in : List Bool → ℕ
host_in message = (leader_at message).host

abbrev pub link_in : List Bool → ℕ
link_in message = (leader_at message).link

-- a message as received from a host: bits 9 to 16 are that host's number in place of the destination's
unfoldable pub from_host : ℕ → List Bool → List Bool
from_host from message = take 8 message ++ bits_of 8 from ++ drop 16 message

-- the answer about a message to a host on a link: a leader of that type, whose flags and low field are zero
unfoldable pub answer_bits : ℕ → ℕ → ℕ → List Bool
answer_bits kind host link = leader_bits (record { flags = 0; kind = kind; host = host; link = link; low = 0 })

-- the message as it will be delivered, if one has not arrived yet
abbrev pub coming : ℕ → Option (List Bool) → Option (List Bool)
coming from None = None
coming from (Some message) = Some (from_host from message)

abbrev pub arriving : ℕ → Transit (List Bool) → Option (List Bool)
arriving from transit = coming from (accepted_message transit)

-- the pending answer, if any
abbrev pub answering : ℕ → ℕ → Option ℕ → Option (List Bool)
answering host link None = None
answering host link (Some kind) = Some (answer_bits kind host link)

abbrev pub answer_about : ℕ → ℕ → Transit (List Bool) → Option (List Bool)
answer_about host link transit = answering host link (answer_kind transit)
