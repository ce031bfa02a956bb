-- The stored bits of a connection: whether more fit, and a connection restored with its store.
use Rattle.std.specs.Prelude.{◌≡◌, ◌≤◌, ◌+◌, ℕ, Bool, false, List, length, Option}
use Rattle.ncp_model.specs.declared.pair.Pair.{Pair}
use Rattle.ncp_model.specs.Pairs.{sends}
use Rattle.ncp_model.specs.Endpoint.{Endpoint}
use Rattle.ncp_conn.specs.declared.record.Record.{Record}
use Rattle.ncp_conn.specs.Stores.{stored_in, room_in}
use Rattle.ncp_conn.specs.Restoring.{end_told}

-- the endpoint with this record, and the bits and the room of a store
abbrev pub told_end : {S : Type 0} → (S → List Bool) → (S → ℕ) → Record → Option S → Endpoint
told_end held capacity r store = end_told r (stored_in held store) (room_in capacity store)

-- at an endpoint that is no sender, `more` bits fit besides the held and the outstanding ones
abbrev pub FitsAfter : ℕ → Pair × Endpoint → Type 0
FitsAfter more p = sends p.0 ≡ false → p.1.bits + length p.1.stored + more ≤ p.1.room
