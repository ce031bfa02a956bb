use Rattle.std.proofs.Common.{◌≡◌, ◌<◌, false, length, sym, ◌∙◌, arith}
use Rattle.std.specs.List.{list_any}
use Rattle.ncp_model.specs.Phase.{is_rst}
use Rattle.ncp_phase.proofs.Waits.{waits_rst}
use Rattle.ncp_phase.proofs.phase.Phase.restore_rst.Goals as goal

pub invariant_of-self : goal.invariant_of-self
invariant_of-self c =
    let none : list_any is_rst c.self.inside.waiting ≡ false = sym c.has_rst.ensures ∙ c.if-not-has_rst.true in
    let place : length c.self.inside.waiting < 512 = omega (arith, c.len.ensures.len, c.if-len-lt-MAX_WAITING.true) in
    rw c.push.ensures (waits_rst _ c.self.invariant place none)
