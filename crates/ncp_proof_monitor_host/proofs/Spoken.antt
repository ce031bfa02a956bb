-- What is known between a host and one peer of what is said on the control link: while the host is up with the peer, and the
-- session does not rest, all that was said meets what the host keeps; and while one of them is asked for a reply to a reset,
-- nothing was said.
use Rattle.std.specs.Prelude.{◌≡◌, ◌<◌, ℕ, ◌+◌, Bool, true, false, List, []}
use Rattle.std.specs.List.{filter}
use Rattle.ncp_wire.specs.declared.command.Command.{Command}
use Rattle.ncp_model.specs.Ends.{Ends}
use Rattle.ncp_model.specs.Phase.{up}
use Rattle.ncp_model.specs.Peers.{Peer}
use Rattle.ncp_model.proofs.ResetLists.{bit, rsts, rrps}
use Rattle.ncp_monitor.specs.declared.view.View.{View}
use Rattle.ncp_monitor.specs.Views.{awaits_reply}
use Rattle.ncp_monitor.specs.ConnStates.{SeenTables, is_conn_between, is_fact_between, is_due_between}
use Rattle.ncp_proof_monitor_allocation.proofs.Meets.{Meets}
use Rattle.ncp_proof_monitor_allocation.proofs.Untaken.{Held}
use Rattle.ncp_proof_monitor_allocation.proofs.Echoing.{Echoing}
use Rattle.ncp_proof_monitor_allocation.proofs.Came.{Came}
use Rattle.ncp_proof_monitor_allocation.proofs.Counted.{Counted}
use Rattle.ncp_proof_monitor_replies.proofs.OwedItems.{OwedBy}

-- ---- what was said, and what the host keeps

-- awaited: the host awaits an ERP; w: what waits at it
pub record Tells (me n : ℕ) (m : Ends) (awaited : Bool) (w : List Command) (b : SeenTables) : Type 0 where
  pub meets : Meets me n m w b
  pub held : Held me n m b
  pub echoing : Echoing me n awaited w b
  pub came : Came me n m w b
  pub counted : Counted me n m w b
  pub owed : OwedBy me n m w b

-- ---- between two hosts nothing was said

abbrev pub Clear : ℕ → ℕ → SeenTables → Type 0
Clear me n b = (filter (is_conn_between me n) b.conns ≡ []) × ((filter (is_fact_between me n) b.known_facts ≡ []) × (filter (is_due_between me n) b.pending_replies ≡ []))

-- ---- all that is known of a peer, while there is room in the books

pub record Spoken (me n : ℕ) (p : Peer) (v : View) (b : SeenTables) : Type 0 where
  -- an RRP is owed, or waits, and the host acted on nothing before it; it does not while it is to be made
  pub owed : v.suspended ≡ false → v.acted ≡ false → 0 < rrps p.phase.waiting + bit p.phase.owe → Clear me n b
  pub unmade : v.suspended ≡ false → p.phase.owe ≡ true → Clear me n b
  pub waits : awaits_reply v.host.wait ≡ true → Clear me n b
  -- the host is up, and no RST is queued, which an RRP that came too early would have answered
  pub tells : v.suspended ≡ false → rsts p.phase.waiting ≡ 0 → up p.phase ≡ true → Tells me n p.ends p.echoes.awaited p.phase.waiting b
