-- The transit keys in the theorems about the subnet; and a message as an example.
use Rattle.std.specs.Prelude.{ℕ, Bool, List, [], ◌∷◌}
use Rattle.ncp_numbers.specs.Bytes.{bits_of_bytes}
use Rattle.ncp_subnet.specs.Ways.{OnLink}
use Rattle.ncp_subnet.specs.Subnet.{Subnet, with_transit}

-- for each subnet before and after a transit was put on a link
abbrev pub AfterPutting : (Subnet → Subnet → ℕ → ℕ → ℕ → OnLink → Type 0) → Type 0
AfterPutting holds =
    (subnet : Subnet) (from to link : ℕ) (transit : OnLink) → holds subnet (with_transit subnet from to link transit) from to link transit

-- RST on link 3, with this number of a host in its leader
abbrev pub rst_with_host : ℕ → List Bool
rst_with_host host = bits_of_bytes (0 ∷ host ∷ 3 ∷ 0 ∷ 0 ∷ 8 ∷ 0 ∷ 1 ∷ 0 ∷ 12 ∷ [])
