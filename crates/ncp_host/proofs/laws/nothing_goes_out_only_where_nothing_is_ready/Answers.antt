use Rattle.ncp_host.proofs.laws.nothing_goes_out_only_where_nothing_is_ready.Goals as goal

pub returns-clause-first : goal.returns-clause-first
returns-clause-first c on p ps has ready next = cc (ready, next.0 on has)

pub returns-clause-following : goal.returns-clause-following
returns-clause-following c on p q ps has ready next = cc (ready, next.1.0 on has)

pub returns-clause-none : goal.returns-clause-none
returns-clause-none c message next = next
