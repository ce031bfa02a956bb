use Rattle.std.proofs.Common.{sym, ◌∙◌}
use Rattle.ncp_slot.specs.Slots.{slot_at}
use Rattle.ncp_peer.proofs.SlotKinds.{kind_ready, kind_held, kind_out}
use Rattle.ncp_peer.proofs.peer.saving.kind_of.Goals as goal

pub returns-then-is_ready : goal.returns-then-is_ready
returns-then-is_ready c message kept = kind_ready (slot_at c.args.slots.now c.args.link) message (sym c.if-is_ready.true ∙ c.is_ready.ensures) kept

pub returns-then-is_held : goal.returns-then-is_held
returns-then-is_held c message kept = kind_held (slot_at c.args.slots.now c.args.link) message (sym c.if-is_held.true ∙ c.is_held.ensures) kept

pub returns-else-is_held : goal.returns-else-is_held
returns-else-is_held c message kept = kind_out (slot_at c.args.slots.now c.args.link) message (sym c.if-is_ready.false ∙ c.is_ready.ensures) (sym c.if-is_held.false ∙ c.is_held.ensures) kept
