-- Memory sources and sinks, and when their calls fail.
use Rattle.std.specs.Prelude.{◌≡◌, ℕ, ◌+◌, ◌-◌, ◌<◌, ◌⊎◌, ◌^◌, min, Bool, List, Option, Some}

pub record Reading : Type 0 where
  pub left : List ℕ
  pub reads : ℕ
  pub fails_at : Option ℕ
  pub failed : Bool

-- a read into a piece that is not empty fails if no read is left, or if it is the read chosen to fail,
-- counted from 1
abbrev pub ReadFails : Reading → ℕ → Type 0
ReadFails source room = (0 < room) × ((source.reads ≡ 0) ⊎ (source.fails_at ≡ Some (2 ^ 32 - source.reads)))

pub record Writing : Type 0 where
  pub written : List ℕ
  pub room : ℕ
  pub writes : ℕ
  pub fails_at : Option ℕ
  pub failed : Bool

-- the number of the next write; it saturates
abbrev pub write_number : Writing → ℕ
write_number sink = min (sink.writes + 1) (2 ^ 32 - 1)

-- the number of writes left until that number saturates
abbrev pub writes_left : Writing → ℕ
writes_left sink = 2 ^ 32 - 1 - sink.writes

-- a write fails if it has bytes and no room is left, or it is the write chosen to fail, counted from 1
abbrev pub WriteFails : Writing → ℕ → Type 0
WriteFails sink bytes = (sink.fails_at ≡ Some (write_number sink)) ⊎ ((sink.room ≡ 0) × (0 < bytes))
