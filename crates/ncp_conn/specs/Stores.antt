-- Stores of bits, and their bounds.
use Rattle.std.specs.Prelude.{ℕ, ◌≡◌, ◌≤◌, ◌+◌, Bool, false, List, [], length, Option, None, Some}
use Rattle.ncp_model.specs.declared.pair.Pair.{Pair}
use Rattle.ncp_model.specs.declared.limits.TheConstants.{MAX_ROOM}
use Rattle.ncp_wire.specs.declared.links.TheConstants.{LAST_LINK}
use Rattle.ncp_model.specs.Pairs.{sends}

-- the bits of a store; none without a store
abbrev pub stored_in : {S : Type 0} → (S → List Bool) → Option S → List Bool
stored_in held None = []
stored_in held (Some store) = held store

-- the capacity of a store in bits; 0 without a store
abbrev pub room_in : {S : Type 0} → (S → ℕ) → Option S → ℕ
room_in capacity None = 0
room_in capacity (Some store) = capacity store

-- the invariant of an entry: it has no room before its local request, and never more than a store may
-- have; an endpoint that is no sender has room for the outstanding bits besides the held ones; its link
-- is at most the last
pub record Fits (pair : Pair) (asked : Bool) (link bits : ℕ) (stored : List Bool) (room : ℕ) : Type 0 where
  pub unasked : asked ≡ false → room ≡ 0
  pub small : room ≤ MAX_ROOM
  pub outstanding : sends pair ≡ false → bits + length stored ≤ room
  pub last : link ≤ LAST_LINK
