-- The statuses with which the program ends.
use Rattle.std.proofs.Common.{◌≡◌, Bool, Result, Ok, Err, refl}
use Rattle.std.specs.Prelude.{IsErr}
use Rattle.ncp_play_notes.specs.declared.fault.PlayFault.{PlayFault}
use Rattle.ncp_play_program.specs.Obeying.{status_after}

-- after a fault it is 2
pub after_fault : (answer : Result Bool PlayFault) → IsErr answer → status_after answer ≡ 2
after_fault (Ok good) e = absurd (cc)
after_fault (Err fault) e = refl
