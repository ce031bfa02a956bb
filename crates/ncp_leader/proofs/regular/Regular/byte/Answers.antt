use Rattle.std.proofs.Common.{◌+◌, ◌*◌, ℕ, slice_range, ap, ◌∙◌}
use Rattle.ncp_leader.specs.Message.{Message, message_byte_at}
use Rattle.ncp_leader.proofs.regular.Regular.byte.Goals as goal

pub returns-clause-bits : goal.returns-clause-bits
returns-clause-bits c =
    c.slice.ensures.bits
    ∙ ap (λ (width : ℕ). slice_range c.self.inside.text (width * c.from.result) (width * c.from.result + width)) c.from-width.ensures
    ∙ ap (λ (place : ℕ). slice_range c.self.inside.text (c.self.inside.size * place) (c.self.inside.size * place + c.self.inside.size)) c.from.ensures
    ∙ ap (λ (m : Message). message_byte_at m c.args.place) c.self.view_is

pub returns-clause-len : goal.returns-clause-len
returns-clause-len c = c.slice.ensures.len ∙ c.from-width.ensures ∙ ap (λ (m : Message). m.size) c.self.view_is
