use Rattle.std.proofs.Common.{refl, sym, ◌∙◌, Option, None, Some}
use Rattle.ncp_model.specs.declared.pair.Pair.{Pair}
use Rattle.ncp_model.specs.Endpoint.{Endpoint}
use Rattle.ncp_model.specs.Texts.{hear_text}
use Rattle.ncp_model.specs.Ends.{uses_link, receiver_on, end_of}
use Rattle.ncp_conn.proofs.Indexes.{led_test, led_has}
use Rattle.ncp_conn.proofs.Tables.{no_receiver, receiver_is, kept_acted, ends_acted, link_answer, link_table, uses_not_sends, still_there}
use Rattle.ncp_conn.proofs.table.Table.text.Goals as goal

pub returns-in_default-clause-answer : goal.returns-in_default-clause-answer
returns-in_default-clause-answer g c =
    link_answer (λ (o : Option (Pair × Endpoint)). hear_text c.args.size c.args.text (end_of o)) (receiver_on c.args.link c.args.self.now) None _ (no_receiver c.self.inside.entries c.args.self.now c.self.view_is c.self.invariant c.args.link (sym c.key.ensures ∙ c.in_default.is)) refl

pub returns-in_default-clause-table : goal.returns-in_default-clause-table
returns-in_default-clause-table g c =
    link_table (λ (o : Option (Pair × Endpoint)). hear_text c.args.size c.args.text (end_of o)) (receiver_on c.args.link c.args.self.now) None c.args.self.now _ (no_receiver c.self.inside.entries c.args.self.now c.self.view_is c.self.invariant c.args.link (sym c.key.ensures ∙ c.in_default.is)) refl

pub hear_text-answer-requires : goal.hear_text-answer-requires
hear_text-answer-requires g c =
    uses_not_sends c.args.link c.index_mut.result.now (led_test uses_link c.self.inside.entries.receivers c.self.inside.entries.slab c.self.invariant.receivers c.args.link c.in-Some.key c.index_mut.result.now (sym c.key.ensures ∙ c.in-Some.is) c.index_mut.ensures.value)

pub invariant_of-self : goal.invariant_of-self
invariant_of-self g c = kept_acted c.self.inside.entries c.settle.new.self c.in-Some.key c.index_mut.result.now c.hear_text-answer.new.self c.index_mut.ensures.value c.settle.ensures _ c.self.invariant c.hear_text-answer.ensures.entry c.hear_text-answer.ensures.marks

pub returns-clause-answer : goal.returns-clause-answer
returns-clause-answer g c =
    link_answer (λ (o : Option (Pair × Endpoint)). hear_text c.args.size c.args.text (end_of o)) (receiver_on c.args.link c.args.self.now) (Some c.index_mut.result.now) _ (receiver_is c.self.inside.entries c.args.self.now c.self.view_is c.self.invariant c.args.link c.in-Some.key c.index_mut.result.now (sym c.key.ensures ∙ c.in-Some.is) c.index_mut.ensures.value) c.hear_text-answer.ensures.answer

pub returns-clause-table : goal.returns-clause-table
returns-clause-table g c =
    link_table (λ (o : Option (Pair × Endpoint)). hear_text c.args.size c.args.text (end_of o)) (receiver_on c.args.link c.args.self.now) (Some c.index_mut.result.now) c.args.self.now _ (receiver_is c.self.inside.entries c.args.self.now c.self.view_is c.self.invariant c.args.link c.in-Some.key c.index_mut.result.now (sym c.key.ensures ∙ c.in-Some.is) c.index_mut.ensures.value)
    (ends_acted c.self.inside.entries c.settle.new.self c.in-Some.key c.index_mut.result.now c.hear_text-answer.new.self c.index_mut.ensures.value c.settle.ensures _ c.args.self.now c.self.view_is c.self.invariant c.hear_text-answer.ensures.entry)

pub index_mut-requires : goal.index_mut-requires
index_mut-requires g c = led_has uses_link c.self.inside.entries.receivers c.self.inside.entries.slab c.self.invariant.receivers c.args.link c.in-Some.key (sym c.key.ensures ∙ c.in-Some.is)

pub settle-requires : goal.settle-requires
settle-requires g c = still_there c.self.inside.entries c.in-Some.key c.index_mut.result.now c.hear_text-answer.new.self c.index_mut.ensures.value
