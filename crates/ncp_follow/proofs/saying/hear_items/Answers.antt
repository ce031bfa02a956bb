use Rattle.std.proofs.Common.{◌≡◌, ◌∙◌, ◌∷◌, [], ◌++◌, sym, ap}
use Rattle.std.proofs.lemmas.List.{append_assoc, append-nil}
use Rattle.ncp_follow.specs.Followed.{session_after_all, tables_after_all}
use Rattle.ncp_interface.specs.Contents.{items_said}
use Rattle.ncp_follow.proofs.Items.{session_step, tables_step}
use Rattle.ncp_follow.proofs.saying.hear_items.Goals as goal

pub loop-item-preserved : goal.loop-item-preserved
loop-item-preserved c = record {
  can = tt;
  ends = tt;
  items = append_assoc c.loop-item.yielded (c.in-Some.item ∷ []) c.next.new.self ∙ ap (λ items. c.loop-item.yielded ++ items) (sym c.in-Some.ensures.steps) ∙ c.loop-item.invariant.items;
  session = session_step c.args.observation.now c.loop-item.yielded c.in-Some.item c.args.session c.loop-item.session c.hear_item-session.result c.loop-item.invariant.session c.hear_item-session.ensures.session;
  tables = tables_step c.args.observation.now c.loop-item.yielded c.in-Some.item c.args.session c.loop-item.session c.args.tables.now c.loop-item.tables c.hear_item-session.new.tables
      c.loop-item.invariant.session c.loop-item.invariant.tables c.hear_item-session.ensures.tables;
}

pub returns-clause-session : goal.returns-clause-session
returns-clause-session c =
    let all : c.loop-item.yielded ≡ items_said c.args.text = sym (append-nil c.loop-item.yielded) ∙ ap (λ items. c.loop-item.yielded ++ items) (sym c.in-None.ensures.steps.0) ∙ c.loop-item.invariant.items ∙ c.into_iter-item-iterator.ensures.into_iter_gives ∙ c.new-item-items.ensures.items in
    c.loop-item.invariant.session ∙ ap (λ items. session_after_all c.args.observation.now items c.args.session) all

pub returns-clause-tables : goal.returns-clause-tables
returns-clause-tables c =
    let all : c.loop-item.yielded ≡ items_said c.args.text = sym (append-nil c.loop-item.yielded) ∙ ap (λ items. c.loop-item.yielded ++ items) (sym c.in-None.ensures.steps.0) ∙ c.loop-item.invariant.items ∙ c.into_iter-item-iterator.ensures.into_iter_gives ∙ c.new-item-items.ensures.items in
    c.loop-item.invariant.tables ∙ ap (λ items. tables_after_all c.args.observation.now items c.args.session c.args.tables.now) all
