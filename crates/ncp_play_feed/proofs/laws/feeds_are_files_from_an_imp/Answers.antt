use Rattle.std.proofs.Common.{refl}
use Rattle.ncp_play_feed.proofs.laws.feeds_are_files_from_an_imp.Goals as goal

pub returns-clause-from_imp : goal.returns-clause-from_imp
returns-clause-from_imp c = λ bytes messages fault. (λ h. h, λ h. h)

pub returns-clause-to_imp : goal.returns-clause-to_imp
returns-clause-to_imp c = λ bytes. (refl, refl)

pub returns-clause-short : goal.returns-clause-short
returns-clause-short c = (refl, refl)
