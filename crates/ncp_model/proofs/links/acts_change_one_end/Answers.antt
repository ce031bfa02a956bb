use Rattle.std.specs.FinMap.{get-empty}
use Rattle.ncp_model.specs.Pairs.{pair_cmp}
use Rattle.ncp_model.proofs.EndsAfter.{after-at, after-elsewhere, after-put}
use Rattle.ncp_model.proofs.links.acts_change_one_end.Goals as goal

pub returns-clause-there : goal.returns-clause-there
returns-clause-there g c = after-at

pub returns-clause-elsewhere : goal.returns-clause-elsewhere
returns-clause-elsewhere g c = after-elsewhere

pub returns-clause-put : goal.returns-clause-put
returns-clause-put g c = after-put

pub returns-clause-cleared : goal.returns-clause-cleared
returns-clause-cleared g c = λ pair. get-empty pair_cmp pair
