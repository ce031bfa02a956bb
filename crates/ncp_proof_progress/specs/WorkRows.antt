-- Definitions for the examples of the measure.
use Rattle.std.specs.Prelude.{ℕ, Option}
use Rattle.ncp_model.specs.declared.pair.Pair.{Pair}
use Rattle.ncp_model.specs.Endpoint.{Endpoint}
use Rattle.ncp_model.specs.EndpointEvents.{EndpointEvent, happens}
use Rattle.ncp_model.specs.Rows.{ones, counting}
use Rattle.ncp_proof_progress.specs.Work.{happened_work}

-- the work after this event at an end
abbrev pub work_by : Pair → EndpointEvent → Option Endpoint → ℕ
work_by pair what before = happened_work pair (happens pair what before)

-- a sender with a stored byte, and an allocation for it
abbrev pub loaded_end : Endpoint
loaded_end = record (counting 1 8) { stored = ones 8 }
