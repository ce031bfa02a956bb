use Rattle.std.proofs.Common.{◌<◌, length, sym, ◌∙◌, arith}
use Rattle.ncp_wire.specs.declared.command.Command.TheVariants.{Nop}
use Rattle.ncp_model.specs.Phase.{is_reset}
use Rattle.ncp_phase.proofs.Strikes.{turned_kept, turned_struck, turned_none}
use Rattle.ncp_phase.proofs.queue.Queue.strike.Goals.{in-Some+then-is_reset, in-Some+else-is_reset, in_default}
use Rattle.ncp_phase.proofs.queue.Queue.strike.Goals as goal

inside : (c : goal.Joined-pop_front) → c.loop-place._place < length c.self.inside.commands.items
inside c = omega (arith, c.loop-place-test.true, c.len-place-end.ensures.len)

pub loop-place-preserved : goal.loop-place-preserved
loop-place-preserved c = elim c.match-pop_front.branch [
  | in-Some+then-is_reset w ↦ rw w.self-inside-is (turned_kept is_reset c.self.inside.commands.items c.loop-place._place w.in-Some.command c.loop-place.self-inside.commands c.pop_front.new.self w.push_back.new.self (inside c) c.loop-place.invariant (sym w.in-Some.is ∙ c.pop_front.ensures.value) c.pop_front.ensures.items (sym w.is_reset.ensures ∙ w.if-is_reset.true) w.push_back.ensures.items)
  | in-Some+else-is_reset w ↦ rw w.self-inside-is (turned_struck is_reset c.self.inside.commands.items c.loop-place._place w.in-Some.command c.loop-place.self-inside.commands c.pop_front.new.self (inside c) c.loop-place.invariant (sym w.in-Some.is ∙ c.pop_front.ensures.value) c.pop_front.ensures.items (sym w.is_reset.ensures ∙ w.if-is_reset.false))
  | in_default w ↦ absurd (turned_none is_reset c.self.inside.commands.items c.loop-place._place Nop c.loop-place.self-inside.commands (inside c) c.loop-place.invariant (sym w.in_default.is ∙ c.pop_front.ensures.value))
]
