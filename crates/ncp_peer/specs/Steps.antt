-- Steps used in the contracts of private functions. A reader of the promises can skip them.
use Rattle.std.specs.Prelude.{◌≡◌, ◌<◌, ◌≤◌, ◌%◌, ℕ, Bool, List, [], ◌∷◌, length, Option, None, Some, Result, Ok, Err}
use Rattle.ncp_wire.specs.declared.command.Command.{Command}
use Rattle.ncp_wire.specs.declared.fault.CommandFault.{CommandFault}
use Rattle.ncp_model.specs.declared.limits.TheConstants.{MAX_TEXT}
use Rattle.ncp_model.specs.declared.outcomes.Heard.{Heard}
use Rattle.ncp_model.specs.declared.outcomes.Heard.TheVariants as heard
use Rattle.ncp_model.specs.Effect.{made_by_hearing}
use Rattle.ncp_model.specs.Peers.{Peer, PairCall, falls, makes, hears, hears_fault, calls, comes_of, reply}
use Rattle.ncp_model.specs.declared.pair.Pair.{Pair}
use Rattle.ncp_model.specs.declared.call_fault.CallFault.{CallFault}
use Rattle.ncp_peer.specs.declared.counts.Counts.{Counts}
use Rattle.ncp_peer.specs.Counting.{counts_after, counts_after_fault}
use Rattle.ncp_peer.specs.PeerCalls.{DoneOrNoMemory}

-- the effect of a table's answer to a command
abbrev pub by_hearing : Heard → Peer → Peer
by_hearing heard.Full p = falls p
by_hearing answer p = makes (made_by_hearing answer) p

-- the effect of an item of a control text, and of items in order
abbrev pub heard_item : Bool → Result Command CommandFault → Peer × Counts → Peer × Counts
heard_item quiet (Ok c) s = (hears quiet c s.0, counts_after c s.0 s.1)
heard_item quiet (Err fault) s = (hears_fault fault s.0, counts_after_fault s.0 s.1)

abbrev pub heard_items : Bool → List (Result Command CommandFault) → Peer × Counts → Peer × Counts
heard_items quiet [] s = s
heard_items quiet (x ∷ xs) s = heard_items quiet xs (heard_item quiet x s)

-- a text of whole bytes that fits a message
pub record IsWhole (size : ℕ) (text : List Bool) : Type 0 where
  pub some : 0 < size
  pub fits : length text ≤ MAX_TEXT
  pub whole : length text % size ≡ 0

abbrev pub IsWholeIfAny : Option (ℕ × List Bool) → Type 0
IsWholeIfAny None = Unit {0}
IsWholeIfAny (Some text) = IsWhole text.0 text.1

-- the possible effects on an association of a call that allocates
abbrev pub CalledOrNoMemory : Pair → PairCall → Result (Unit {0}) CallFault → Peer → Peer → Type 0
CalledOrNoMemory pair call result before now = DoneOrNoMemory (reply (comes_of pair call before)) (calls pair call before) result before now
