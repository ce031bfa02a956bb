use Rattle.std.proofs.Common.{◌≡◌, ◌≤◌, ◌++◌, ℕ, List, [], All, length}
use Rattle.ncp_model.specs.declared.outcomes.Error.{Error}
use Rattle.ncp_model.specs.declared.limits.TheConstants.{MAX_ERRORS}
use Rattle.ncp_saved.specs.Values.{listed, error_saved}
use Rattle.ncp_phase.specs.Restoring.{HasAllData}
use Rattle.ncp_peer.proofs.ListRead.{IsAt}
use Rattle.ncp_peer.proofs.reading.read_errors.Given as goal

-- the errors that are read are kept, and the others are left
abbrev pub invariant-loop-place : goal.invariant-loop-place
invariant-loop-place l =
    (errors : List Error) (rest : List ℕ) → length errors ≤ MAX_ERRORS → All HasAllData errors → l.fn.echoes.errors ≡ [] → l.fn.reader ≡ listed error_saved errors ++ rest
    → IsAt error_saved errors rest l.reader l._place (λ done. l.echoes ≡ record l.fn.echoes { errors = done })
