use Rattle.std.proofs.Common.{◌-◌, take, ap, ◌∙◌, arith}
use Rattle.ncp_interface.proofs.Keeping.{forgets, forgets_last}
use Rattle.ncp_interface.proofs.sent_messages.SentMessages.forget.Goals.{then-place-left, else-place-left}
use Rattle.ncp_interface.proofs.sent_messages.SentMessages.forget.Goals as goal

pub returns : goal.returns
returns c = elim c.if-place-left.branch [
  | then-place-left w ↦
      ap (λ inside. take (c.self.inside.count - 1) inside.all.items) w.self-inside-is
      ∙ forgets c.self.inside.all.items c.args.self.now w.remove-over.new.self.items c.self.inside.count c.args.place c.self.view_is c.requires c.self.invariant.1 w.remove-over.ensures.items
  | else-place-left w ↦
      ap (λ inside. take (c.self.inside.count - 1) inside.all.items) w.self-inside-is
      ∙ forgets_last c.self.inside.all.items c.args.self.now c.self.inside.count c.args.place c.self.view_is c.requires c.self.invariant.1 (omega (arith, w.if-place-left.false))
]
