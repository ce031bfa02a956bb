use Rattle.std.proofs.Common.{◌≡◌, false, sym, ◌∙◌}
use Rattle.std.specs.List.{list_any}
use Rattle.ncp_model.specs.Phase.{is_rrp}
use Rattle.ncp_phase.proofs.Waits.{one_rrp, few_owing}
use Rattle.ncp_phase.proofs.phase.Phase.answer.Goals as goal

pub invariant_of-self : goal.invariant_of-self
invariant_of-self c =
    let none : list_any is_rrp c.self.inside.waiting ≡ false = sym c.has_rrp.ensures ∙ c.if-not-has_rrp.true in
    let f = one_rrp c.self.inside.waiting (few_owing _ c.self.invariant c.if-not-self.false) c.self.invariant.rst none in
    rw c.push.ensures (record { place = f.place; rst = f.rst; rrp = f.rrp; few = λ _. f.few })
