use Rattle.std.proofs.Common.{◌≡◌, ◌∙◌, List, ◌∷◌, [], ◌++◌, length, Result, sym, ap, arith}
use Rattle.std.proofs.lemmas.List.{append_assoc, append-nil, length-append}
use Rattle.ncp_wire.specs.declared.command.Command.{Command}
use Rattle.ncp_wire.specs.declared.fault.CommandFault.{CommandFault}
use Rattle.ncp_monitor.specs.Phases.{after_items}
use Rattle.ncp_monitor.specs.Talked.{after_talked, talked_findings}
use Rattle.ncp_interface.specs.Contents.{items_said}
use Rattle.ncp_monitor.proofs.Items.{found_more, view_more, said_more, fewer}
use Rattle.ncp_monitor.proofs.monitor.judge_items.Goals as goal

pub judge_said-requires : goal.judge_said-requires
judge_said-requires c =
    let n = fewer c.loop-item.yielded c.loop-item.item-iterator c.into_iter-item-iterator.result c.in-Some.item c.next.new.self c.loop-item.invariant.items c.in-Some.ensures.steps in
    let m = ap (λ (xs : List (Result Command CommandFault)). length xs) c.into_iter-item-iterator.ensures.into_iter_gives in
    omega (arith, n, m, c.new-item-items.ensures.count, c.len-bits.ensures.len, c.len-bits.ensures.fits, c.loop-item.invariant.len, c.requires.few)

pub loop-item-preserved : goal.loop-item-preserved
loop-item-preserved c = record {
  can = tt;
  ends = tt;
  items = append_assoc c.loop-item.yielded (c.in-Some.item ∷ []) c.next.new.self ∙ ap (λ items. c.loop-item.yielded ++ items) (sym c.in-Some.ensures.steps) ∙ c.loop-item.invariant.items;
  view = view_more c.args.judge_context.context c.loop-item.yielded c.in-Some.item c.args.view.now c.loop-item.view c.judge_said.new.view c.loop-item.invariant.view c.judge_said.ensures.view;
  conn_tables = said_more c.args.judge_context.context c.args.judge_context.flow c.args.judge_context.kept.now c.loop-item.yielded c.in-Some.item c.args.view.now c.loop-item.view c.args.conn_tables.now c.loop-item.conn_tables c.judge_said.new.conn_tables
      c.loop-item.invariant.view c.loop-item.invariant.conn_tables c.judge_said.ensures.conn_tables;
  found = found_more c.args.judge_context.context c.args.judge_context.flow c.args.judge_context.kept.now c.loop-item.yielded c.in-Some.item c.args.view.now c.loop-item.view c.args.conn_tables.now c.loop-item.conn_tables c.args.found.now c.loop-item.found c.judge_said.new.found
      c.loop-item.invariant.view c.loop-item.invariant.conn_tables c.loop-item.invariant.found c.judge_said.ensures.found;
  len = let l = length-append c.loop-item.yielded (c.in-Some.item ∷ []) in omega (arith, l, c.judge_said.ensures.len, c.loop-item.invariant.len);
}

pub returns-clause-view : goal.returns-clause-view
returns-clause-view c =
    let all : c.loop-item.yielded ≡ items_said c.args.text = sym (append-nil c.loop-item.yielded) ∙ ap (λ items. c.loop-item.yielded ++ items) (sym c.in-None.ensures.steps.0) ∙ c.loop-item.invariant.items ∙ c.into_iter-item-iterator.ensures.into_iter_gives ∙ c.new-item-items.ensures.items in
    c.loop-item.invariant.view ∙ ap (λ items. after_items c.args.judge_context.context items c.args.view.now) all

pub returns-clause-conn_tables : goal.returns-clause-conn_tables
returns-clause-conn_tables c =
    let all : c.loop-item.yielded ≡ items_said c.args.text = sym (append-nil c.loop-item.yielded) ∙ ap (λ items. c.loop-item.yielded ++ items) (sym c.in-None.ensures.steps.0) ∙ c.loop-item.invariant.items ∙ c.into_iter-item-iterator.ensures.into_iter_gives ∙ c.new-item-items.ensures.items in
    c.loop-item.invariant.conn_tables ∙ ap (λ items. after_talked c.args.judge_context.context c.args.judge_context.flow c.args.judge_context.kept.now items c.args.view.now c.args.conn_tables.now) all

pub returns-clause-found : goal.returns-clause-found
returns-clause-found c =
    let all : c.loop-item.yielded ≡ items_said c.args.text = sym (append-nil c.loop-item.yielded) ∙ ap (λ items. c.loop-item.yielded ++ items) (sym c.in-None.ensures.steps.0) ∙ c.loop-item.invariant.items ∙ c.into_iter-item-iterator.ensures.into_iter_gives ∙ c.new-item-items.ensures.items in
    c.loop-item.invariant.found ∙ ap (λ items. c.args.found.now ++ talked_findings c.args.judge_context.context c.args.judge_context.flow c.args.judge_context.kept.now items c.args.view.now c.args.conn_tables.now) all

pub returns-clause-len : goal.returns-clause-len
returns-clause-len c =
    let all = sym (append-nil c.loop-item.yielded) ∙ ap (λ items. c.loop-item.yielded ++ items) (sym c.in-None.ensures.steps.0) ∙ c.loop-item.invariant.items ∙ c.into_iter-item-iterator.ensures.into_iter_gives in
    let n = ap (λ (xs : List (Result Command CommandFault)). length xs) all in
    omega (arith, n, c.new-item-items.ensures.count, c.len-bits.ensures.len, c.len-bits.ensures.fits, c.loop-item.invariant.len, c.requires.few)
