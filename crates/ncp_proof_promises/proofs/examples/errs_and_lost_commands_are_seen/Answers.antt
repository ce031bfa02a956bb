use Rattle.std.proofs.Common.{◌≡◌, true, false, sym, ap, ◌∙◌}
use Rattle.std.specs.List.{list_any}
use Rattle.ncp_proof_promises.specs.Judged.{is_error}
use Rattle.ncp_proof_promises.proofs.examples.errs_and_lost_commands_are_seen.Goals as goal

pub returns-clause-going : goal.returns-clause-going
returns-clause-going c s u code bytes cs e k =
    let never : true ≡ false = ap (list_any is_error) (sym e) ∙ k.0 in
    absurd (cc never)
