use Rattle.std.proofs.Common.{◌≡◌, true, refl, sym, ap, ◌∙◌, Option}
use Rattle.std.specs.FinMap.{get}
use Rattle.ncp_wire.specs.declared.command.Command.{Command}
use Rattle.ncp_wire.specs.declared.command.Command.TheVariants.{Cls}
use Rattle.ncp_model.specs.declared.pair.Pair.{Pair}
use Rattle.ncp_model.specs.declared.outcomes.Heard.TheVariants.{Reply}
use Rattle.ncp_model.specs.Pairs.{is_proper}
use Rattle.ncp_model.specs.Endpoint.{Endpoint}
use Rattle.ncp_model.specs.Effect.{answer, error_of, no_socket}
use Rattle.ncp_model.specs.Commands.{hear_cls_at}
use Rattle.ncp_model.specs.Ends.{map_after}
use Rattle.ncp_conn.proofs.Tables.{its_pair, got, got_none, kept_acted, ends_acted, pair_answer, pair_table, none_answer, none_table, cls_proper, still_there}
use Rattle.ncp_conn.proofs.table.Table.hear_cls.Goals as goal

pub returns-in_default-clause-answer : goal.returns-in_default-clause-answer
returns-in_default-clause-answer g c =
    let proper : is_proper c.args.pair ≡ true = sym c.is_proper.ensures ∙ c.if-not-is_proper.false in
    none_answer (λ (p : Pair) (o : Option Endpoint). hear_cls_at p o) c.args.pair c.args.self.now _ (got_none c.self.inside.entries c.args.self.now c.self.view_is c.self.invariant c.args.pair c.in_default.ensures.found) (c.refused-in_default.ensures ∙ ap (λ (x : Command). Reply (error_of no_socket x)) c.requires)
    ∙ ap answer (sym (cls_proper c.args.pair (get c.args.self.now c.args.pair) proper))

pub returns-in_default-clause-table : goal.returns-in_default-clause-table
returns-in_default-clause-table g c =
    let proper : is_proper c.args.pair ≡ true = sym c.is_proper.ensures ∙ c.if-not-is_proper.false in
    none_table (λ (p : Pair) (o : Option Endpoint). hear_cls_at p o) c.args.pair c.args.self.now _ (got_none c.self.inside.entries c.args.self.now c.self.view_is c.self.invariant c.args.pair c.in_default.ensures.found) refl
    ∙ ap (map_after c.args.self.now c.args.pair) (sym (cls_proper c.args.pair (get c.args.self.now c.args.pair) proper))

pub hear_cls-answer-requires : goal.hear_cls-answer-requires
hear_cls-answer-requires g c =
    let p = its_pair c.self.inside.entries.slab c.in-Some.key c.args.pair c.index_mut.result.now c.in-Some.ensures.found c.index_mut.ensures.value in
    c.requires ∙ ap (λ (k : Pair). Cls k.remote k.local) (sym p)

pub invariant_of-self : goal.invariant_of-self
invariant_of-self g c =
    kept_acted c.self.inside.entries c.settle.new.self c.in-Some.key c.index_mut.result.now c.hear_cls-answer.new.self c.index_mut.ensures.value c.settle.ensures _ c.self.invariant c.hear_cls-answer.ensures.entry c.hear_cls-answer.ensures.marks

pub returns-clause-answer : goal.returns-clause-answer
returns-clause-answer g c =
    let proper : is_proper c.args.pair ≡ true = sym c.is_proper.ensures ∙ c.if-not-is_proper.false in
    let p = its_pair c.self.inside.entries.slab c.in-Some.key c.args.pair c.index_mut.result.now c.in-Some.ensures.found c.index_mut.ensures.value in
    pair_answer (λ (p : Pair) (o : Option Endpoint). hear_cls_at p o) c.index_mut.result.now c.args.pair c.args.self.now _ p
    (got c.self.inside.entries c.args.self.now c.self.view_is c.self.invariant c.in-Some.key c.args.pair c.index_mut.result.now c.index_mut.ensures.value p)
    c.hear_cls-answer.ensures.answer
    ∙ ap answer (sym (cls_proper c.args.pair (get c.args.self.now c.args.pair) proper))

pub returns-clause-table : goal.returns-clause-table
returns-clause-table g c =
    let proper : is_proper c.args.pair ≡ true = sym c.is_proper.ensures ∙ c.if-not-is_proper.false in
    let p = its_pair c.self.inside.entries.slab c.in-Some.key c.args.pair c.index_mut.result.now c.in-Some.ensures.found c.index_mut.ensures.value in
    pair_table (λ (p : Pair) (o : Option Endpoint). hear_cls_at p o) c.index_mut.result.now c.args.pair c.args.self.now _ p
    (got c.self.inside.entries c.args.self.now c.self.view_is c.self.invariant c.in-Some.key c.args.pair c.index_mut.result.now c.index_mut.ensures.value p)
    (ends_acted c.self.inside.entries c.settle.new.self c.in-Some.key c.index_mut.result.now c.hear_cls-answer.new.self c.index_mut.ensures.value c.settle.ensures _ c.args.self.now c.self.view_is c.self.invariant c.hear_cls-answer.ensures.entry)
    ∙ ap (map_after c.args.self.now c.args.pair) (sym (cls_proper c.args.pair (get c.args.self.now c.args.pair) proper))

pub settle-requires : goal.settle-requires
settle-requires g c = still_there c.self.inside.entries c.in-Some.key c.index_mut.result.now c.hear_cls-answer.new.self c.index_mut.ensures.value
