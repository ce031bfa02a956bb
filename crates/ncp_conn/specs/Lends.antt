-- The state of a slab after a value in it was mutably borrowed.
use Rattle.std.specs.Prelude.{ℕ}
use Rattle.std.specs.Borrow.{Lends, Fml, RattleType, MutBor}
use Rattle.slab.specs.Slab.{Slab, with_value}
use Rattle.ncp_conn.specs.contracts.fixed_slab.FixedSlab.{the_row}

-- the key has the value that was last written
abbrev pub lends_value : (T : RattleType) → MutBor (Slab T.Denot) → ℕ → MutBor T.Denot → Fml
lends_value T s key r = Lends (the_row T) T s r (with_value s.now key)
