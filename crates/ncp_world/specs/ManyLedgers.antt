-- The ledger of a connection between two of two to eight hosts.
use Rattle.std.specs.Prelude.{ℕ, if◌then◌else◌, Option, None}
use Rattle.ncp_model.specs.declared.pair.Pair.{Pair}
use Rattle.ncp_transcript_two.specs.declared.ledger.Ledger.{Ledger}
use Rattle.ncp_transcript_two.specs.declared.side.Side.TheVariants.{A}
use Rattle.ncp_transcript_two.specs.Ledgers.{ledger_of}
use Rattle.ncp_transcript_many.specs.Network.{Network, between}
use Rattle.ncp_transcript_many.specs.ManyHappening.{are_two}
use Rattle.ncp_world.specs.Reckoning.{ledger_read}

-- the ledger of a pair that sends from one host to another, as that of these two; none if one is absent,
-- or if both are the same
abbrev pub many_ledger : ℕ → ℕ → Pair → Network → Option Ledger
many_ledger from to pair m = if are_two from to m then ledger_of A pair (between from to m) else None

-- the same as computed
abbrev pub many_ledger_read : ℕ → ℕ → Pair → Network → Option Ledger
many_ledger_read from to pair m = if are_two from to m then ledger_read A pair (between from to m) else None
