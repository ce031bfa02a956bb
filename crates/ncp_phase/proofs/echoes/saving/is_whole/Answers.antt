use Rattle.std.proofs.Common.{IfSome, Option, sym, subst}
use Rattle.std.specs.Option.{option_copied}
use Rattle.ncp_phase.specs.Restoring.{HasAllData}
use Rattle.ncp_phase.proofs.echoes.saving.is_whole.Goals as goal

pub returns-in-Some : goal.returns-in-Some
returns-in-Some c = subst (λ (o : Option _). IfSome (option_copied o) HasAllData) (sym c.in-Some.is) c.put_command-bytes.ensures.command.1
