use Rattle.std.proofs.Common.{refl, Option}
use Rattle.std.proofs.lemmas.Result.{on_err_weaker}
use Rattle.ncp_model.specs.declared.pair.Pair.{Pair}
use Rattle.ncp_model.specs.Endpoint.{Endpoint}
use Rattle.ncp_model.specs.Calls.{give}
use Rattle.ncp_conn.proofs.Tables.{its_pair, got, got_none, kept_acted, ends_acted, ends_kept, pair_answer, pair_table, none_answer, none_table, still_there}
use Rattle.ncp_conn.proofs.table.Table.give_part.Goals as goal

pub returns-in_default-clause-answer : goal.returns-in_default-clause-answer
returns-in_default-clause-answer g c =
    none_answer (λ (p : Pair) (o : Option Endpoint). give p c.args.text o) c.args.pair c.args.self.now _ (got_none c.self.inside.entries c.args.self.now c.self.view_is c.self.invariant c.args.pair c.in_default.ensures.found) refl

pub returns-in_default-clause-table : goal.returns-in_default-clause-table
returns-in_default-clause-table g c =
    none_table (λ (p : Pair) (o : Option Endpoint). give p c.args.text o) c.args.pair c.args.self.now _ (got_none c.self.inside.entries c.args.self.now c.self.view_is c.self.invariant c.args.pair c.in_default.ensures.found) refl

pub invariant_of-self : goal.invariant_of-self
invariant_of-self g c = kept_acted c.self.inside.entries c.settle.new.self c.in-Some.key c.index_mut.result.now c.give-answer.new.self c.index_mut.ensures.value c.settle.ensures _ c.self.invariant c.give-answer.ensures.entry c.give-answer.ensures.marks

pub returns-clause-answer : goal.returns-clause-answer
returns-clause-answer g c =
    pair_answer (λ (p : Pair) (o : Option Endpoint). give p c.args.text o) c.index_mut.result.now c.args.pair c.args.self.now _ (its_pair c.self.inside.entries.slab c.in-Some.key c.args.pair c.index_mut.result.now c.in-Some.ensures.found c.index_mut.ensures.value)
    (got c.self.inside.entries c.args.self.now c.self.view_is c.self.invariant c.in-Some.key c.args.pair c.index_mut.result.now c.index_mut.ensures.value (its_pair c.self.inside.entries.slab c.in-Some.key c.args.pair c.index_mut.result.now c.in-Some.ensures.found c.index_mut.ensures.value))
    c.give-answer.ensures.answer

pub returns-clause-table : goal.returns-clause-table
returns-clause-table g c =
    pair_table (λ (p : Pair) (o : Option Endpoint). give p c.args.text o) c.index_mut.result.now c.args.pair c.args.self.now _ (its_pair c.self.inside.entries.slab c.in-Some.key c.args.pair c.index_mut.result.now c.in-Some.ensures.found c.index_mut.ensures.value)
    (got c.self.inside.entries c.args.self.now c.self.view_is c.self.invariant c.in-Some.key c.args.pair c.index_mut.result.now c.index_mut.ensures.value (its_pair c.self.inside.entries.slab c.in-Some.key c.args.pair c.index_mut.result.now c.in-Some.ensures.found c.index_mut.ensures.value))
    (ends_acted c.self.inside.entries c.settle.new.self c.in-Some.key c.index_mut.result.now c.give-answer.new.self c.index_mut.ensures.value c.settle.ensures _ c.args.self.now c.self.view_is c.self.invariant c.give-answer.ensures.entry)

pub returns-clause-err : goal.returns-clause-err
returns-clause-err g c =
    on_err_weaker c.give-answer.result
    (λ e. ends_kept c.self.inside.entries c.settle.new.self c.in-Some.key c.index_mut.result.now c.give-answer.new.self c.index_mut.ensures.value c.settle.ensures c.args.self.now c.self.view_is c.self.invariant e)
    c.give-answer.ensures.err

pub settle-requires : goal.settle-requires
settle-requires g c = still_there c.self.inside.entries c.in-Some.key c.index_mut.result.now c.give-answer.new.self c.index_mut.ensures.value
