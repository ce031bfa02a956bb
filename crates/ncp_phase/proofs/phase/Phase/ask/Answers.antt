use Rattle.std.proofs.Common.{◌≡◌, false, sym, ◌∙◌}
use Rattle.std.specs.List.{list_any}
use Rattle.ncp_model.specs.Phase.{is_rst}
use Rattle.ncp_phase.proofs.Waits.{one_rst, few_wanting}
use Rattle.ncp_phase.proofs.phase.Phase.ask.Goals as goal

pub invariant_of-self : goal.invariant_of-self
invariant_of-self c =
    let none : list_any is_rst c.self.inside.waiting ≡ false = sym c.has_rst.ensures ∙ c.if-not-has_rst.true in
    let f = one_rst c.self.inside.waiting (few_wanting _ c.self.invariant c.if-not-self.false) c.self.invariant.rrp none in
    rw c.push.ensures (record { place = f.place; rst = f.rst; rrp = f.rrp; few = λ _. f.few })
