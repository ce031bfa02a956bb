use Rattle.std.proofs.Common.{◌+◌, ◌-◌, ◌*◌, ap, ◌∙◌, arith}
use Rattle.std.proofs.lemmas.List.{take_all}
use Rattle.ncp_leader.specs.Message.{Message}
use Rattle.ncp_leader.proofs.regular.Regular.text.Goals as goal

pub returns-clause-text : goal.returns-clause-text
returns-clause-text c =
    c.slice.ensures.bits
    ∙ take_all (0 + c.len.result - 0) c.self.inside.text (omega (arith, c.len.ensures.len))
    ∙ ap (λ (m : Message). m.text) c.self.view_is

pub returns-clause-whole : goal.returns-clause-whole
returns-clause-whole c =
    c.slice.ensures.len ∙ c.len.ensures.len ∙ c.self.invariant.whole ∙ ap (λ (m : Message). m.size * m.count) c.self.view_is
