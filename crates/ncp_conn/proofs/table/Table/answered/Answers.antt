use Rattle.std.proofs.Common.{refl, sym, ◌∙◌, Option, None, Some}
use Rattle.ncp_model.specs.declared.pair.Pair.{Pair}
use Rattle.ncp_model.specs.Endpoint.{Endpoint}
use Rattle.ncp_model.specs.Texts.{Rfnm}
use Rattle.ncp_model.specs.Ends.{answered_at, hears_link}
use Rattle.ncp_model.specs.Ends.{hears_link, sender_on}
use Rattle.ncp_conn.proofs.Indexes.{led_test, led_has}
use Rattle.ncp_conn.proofs.Tables.{no_sender, sender_is, kept_acted, ends_acted, link_answer, link_table, hears_sends, still_there}
use Rattle.ncp_conn.proofs.table.Table.answered.Goals as goal

pub returns-in_default-clause-answer : goal.returns-in_default-clause-answer
returns-in_default-clause-answer g c =
    link_answer (λ (o : Option (Pair × Endpoint)). answered_at Rfnm o) (sender_on c.args.link c.args.self.now) None _ (no_sender c.self.inside.entries c.args.self.now c.self.view_is c.self.invariant c.args.link (sym c.key.ensures ∙ c.in_default.is)) refl

pub returns-in_default-clause-table : goal.returns-in_default-clause-table
returns-in_default-clause-table g c =
    link_table (λ (o : Option (Pair × Endpoint)). answered_at Rfnm o) (sender_on c.args.link c.args.self.now) None c.args.self.now _ (no_sender c.self.inside.entries c.args.self.now c.self.view_is c.self.invariant c.args.link (sym c.key.ensures ∙ c.in_default.is)) refl

pub answered-answer-requires : goal.answered-answer-requires
answered-answer-requires g c =
    hears_sends c.args.link c.index_mut.result.now (led_test hears_link c.self.inside.entries.senders c.self.inside.entries.slab c.self.invariant.senders c.args.link c.in-Some.key c.index_mut.result.now (sym c.key.ensures ∙ c.in-Some.is) c.index_mut.ensures.value)

pub invariant_of-self : goal.invariant_of-self
invariant_of-self g c = kept_acted c.self.inside.entries c.settle.new.self c.in-Some.key c.index_mut.result.now c.answered-answer.new.self c.index_mut.ensures.value c.settle.ensures _ c.self.invariant c.answered-answer.ensures.entry c.answered-answer.ensures.marks

pub returns-clause-answer : goal.returns-clause-answer
returns-clause-answer g c =
    link_answer (λ (o : Option (Pair × Endpoint)). answered_at Rfnm o) (sender_on c.args.link c.args.self.now) (Some c.index_mut.result.now) _ (sender_is c.self.inside.entries c.args.self.now c.self.view_is c.self.invariant c.args.link c.in-Some.key c.index_mut.result.now (sym c.key.ensures ∙ c.in-Some.is) c.index_mut.ensures.value) c.answered-answer.ensures.answer

pub returns-clause-table : goal.returns-clause-table
returns-clause-table g c =
    link_table (λ (o : Option (Pair × Endpoint)). answered_at Rfnm o) (sender_on c.args.link c.args.self.now) (Some c.index_mut.result.now) c.args.self.now _ (sender_is c.self.inside.entries c.args.self.now c.self.view_is c.self.invariant c.args.link c.in-Some.key c.index_mut.result.now (sym c.key.ensures ∙ c.in-Some.is) c.index_mut.ensures.value)
    (ends_acted c.self.inside.entries c.settle.new.self c.in-Some.key c.index_mut.result.now c.answered-answer.new.self c.index_mut.ensures.value c.settle.ensures _ c.args.self.now c.self.view_is c.self.invariant c.answered-answer.ensures.entry)

pub index_mut-requires : goal.index_mut-requires
index_mut-requires g c = led_has hears_link c.self.inside.entries.senders c.self.inside.entries.slab c.self.invariant.senders c.args.link c.in-Some.key (sym c.key.ensures ∙ c.in-Some.is)

pub settle-requires : goal.settle-requires
settle-requires g c = still_there c.self.inside.entries c.in-Some.key c.index_mut.result.now c.answered-answer.new.self c.index_mut.ensures.value
