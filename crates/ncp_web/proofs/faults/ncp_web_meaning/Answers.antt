-- The bytes of the name are those of the string that is looked for.
use Rattle.std.proofs.Common.{◌≢◌, ℕ, List, subst}
use Rattle.std.specs.List.{All}
use Rattle.ncp_web.specs.Meanings.{meanings}
use Rattle.ncp_web.proofs.faults.ncp_web_meaning.Goals as goal

pub returns-in-None-clause-unknown : goal.returns-in-None-clause-unknown
returns-in-None-clause-unknown c = λ answer utf8. subst (λ (name : List ℕ). All (λ entry. entry.0 ≢ name) meanings) c.in-Ok.ensures.cases.0 c.in-None.ensures.unknown
