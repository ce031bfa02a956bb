use Rattle.std.proofs.Common.{◌==◌, not, rules, tests}
use Rattle.std.proofs.lemmas.Iterator.{YieldsList-from_slice, items_from_collect}
use Rattle.std.proofs.lemmas.Iterator.Consumers.{YieldsList-from_copied, YieldsList-from_filter}
use Rattle.ncp_world.proofs.network.others.Goals as goal

pub returns : goal.returns
returns c =
    items_from_collect c.collect.result c.collect.ensures.ran
    (YieldsList-from_filter _ (λ n. not (n == c.args.number)) (YieldsList-from_copied (YieldsList-from_slice c.args.numbers.now cc)) c.filter.ensures.closure (λ x r q k. search (rules, tests)))
