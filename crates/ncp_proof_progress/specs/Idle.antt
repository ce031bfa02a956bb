-- What keeps a host from being finished: what a leaving end, and a reset, wait for.
use Rattle.std.specs.Prelude.{◌≡◌, ◌<◌, ℕ, true, false, [], length, Option, None, Some}
use Rattle.ncp_model.specs.declared.pair.Pair.{Pair}
use Rattle.ncp_model.specs.Pairs.{sends, receives}
use Rattle.ncp_model.specs.Endpoint.{Endpoint}
use Rattle.ncp_model.specs.Effect.{answer, is_data_link}
use Rattle.ncp_model.specs.Ends.{cut_in}
use Rattle.ncp_proof_machine.specs.Delivery.{idle}
use Rattle.ncp_proof_machine.specs.Resets.{Party}
use Rattle.ncp_proof_machine.specs.Hosts.{Node, TwoNodes, NodeStep, quiet}
use Rattle.ncp_proof_progress.specs.HostsWork.{IsOnDataLink, moved_at}

-- A leaving sender has a text unacknowledged; a leaving receiver has received its peer's CLS, and holds
-- text (NIC 8246, CLS; that a CLS waits for these is this profile's rule).
abbrev pub Leaving : Pair → Endpoint → Type 0
Leaving pair e = record {
  busy : e.leaving ≡ true → sends pair ≡ true → e.busy ≡ true;
  shut : e.leaving ≡ true → receives pair ≡ true → e.cls ≡ true;
  holds : e.leaving ≡ true → receives pair ≡ true → 0 < length e.stored;
}

abbrev pub LeavingAt : Pair → Option Endpoint → Type 0
LeavingAt pair None = Unit {0}
LeavingAt pair (Some e) = Leaving pair e

-- An RST wanted and an RRP owed wait for an unacknowledged text, and for nothing else (NIC 8246, RST and
-- RRP; that they wait for it is this profile's rule).
abbrev pub ResetsWait : Node → Type 0
ResetsWait n = record {
  want : quiet n ≡ true → n.host.phase.want ≡ false;
  owe : quiet n ≡ true → n.host.phase.owe ≡ false;
}

-- Quiescent: no step of either host moves a message, and none is held.
abbrev pub IsSettledInModel : TwoNodes → Type 0
IsSettledInModel w = (side : Party) (step : NodeStep) → IsOnDataLink step → moved_at side step w ≡ 0

-- No link has a message, no command is queued, no text may be sent, no RST is wanted and no RRP owed.
abbrev pub IsIdle : Node → Type 0
IsIdle n = record {
  control : n.control ≡ idle;
  texts : (on : ℕ) → is_data_link on ≡ true → n.texts on ≡ idle;
  waiting : n.host.phase.waiting ≡ [];
  sendable : (on : ℕ) → is_data_link on ≡ true → answer (cut_in on n.ends) ≡ None;
  want : n.host.phase.want ≡ false;
  owe : n.host.phase.owe ≡ false;
}
