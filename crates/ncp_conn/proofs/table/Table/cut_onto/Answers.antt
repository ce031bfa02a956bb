use Rattle.std.proofs.Common.{◌++◌, refl, sym, ap, ◌∙◌, Option, None, Some}
use Rattle.ncp_model.specs.declared.pair.Pair.{Pair}
use Rattle.ncp_model.specs.Endpoint.{Endpoint}
use Rattle.std.proofs.lemmas.List.{append-nil}
use Rattle.ncp_model.specs.Effect.{answer}
use Rattle.ncp_model.specs.Ends.{cut_at, hears_link}
use Rattle.ncp_model.specs.Ends.{sender_on}
use Rattle.ncp_conn.proofs.Tables.{no_sender, sender_is, kept_acted, ends_acted, link_table, still_there}
use Rattle.ncp_conn.specs.Cutting.{cut_text}
use Rattle.ncp_conn.proofs.Indexes.{led_has}
use Rattle.ncp_conn.proofs.table.Table.cut_onto.Goals as goal

pub returns-in_default-clause-bits : goal.returns-in_default-clause-bits
returns-in_default-clause-bits g c =
    sym (append-nil c.args.bits.now)
    ∙ ap (λ (o : Option (Pair × Endpoint)). c.args.bits.now ++ cut_text (answer (cut_at o))) (sym (no_sender c.self.inside.entries c.args.self.now c.self.view_is c.self.invariant c.args.link (sym c.key.ensures ∙ c.in_default.is)))

pub returns-in_default-clause-table : goal.returns-in_default-clause-table
returns-in_default-clause-table g c =
    link_table (λ (o : Option (Pair × Endpoint)). cut_at o) (sender_on c.args.link c.args.self.now) None c.args.self.now _ (no_sender c.self.inside.entries c.args.self.now c.self.view_is c.self.invariant c.args.link (sym c.key.ensures ∙ c.in_default.is)) refl

pub invariant_of-self : goal.invariant_of-self
invariant_of-self g c = kept_acted c.self.inside.entries c.settle.new.self c.in-Some.key c.index_mut.result.now c.cut_onto.new.self c.index_mut.ensures.value c.settle.ensures _ c.self.invariant c.cut_onto.ensures.entry c.cut_onto.ensures.marks

pub returns-clause-bits : goal.returns-clause-bits
returns-clause-bits g c =
    c.cut_onto.ensures.bits
    ∙ ap (λ (o : Option (Pair × Endpoint)). c.args.bits.now ++ cut_text (answer (cut_at o))) (sym (sender_is c.self.inside.entries c.args.self.now c.self.view_is c.self.invariant c.args.link c.in-Some.key c.index_mut.result.now (sym c.key.ensures ∙ c.in-Some.is) c.index_mut.ensures.value))

pub returns-clause-table : goal.returns-clause-table
returns-clause-table g c =
    link_table (λ (o : Option (Pair × Endpoint)). cut_at o) (sender_on c.args.link c.args.self.now) (Some c.index_mut.result.now) c.args.self.now _ (sender_is c.self.inside.entries c.args.self.now c.self.view_is c.self.invariant c.args.link c.in-Some.key c.index_mut.result.now (sym c.key.ensures ∙ c.in-Some.is) c.index_mut.ensures.value)
    (ends_acted c.self.inside.entries c.settle.new.self c.in-Some.key c.index_mut.result.now c.cut_onto.new.self c.index_mut.ensures.value c.settle.ensures _ c.args.self.now c.self.view_is c.self.invariant c.cut_onto.ensures.entry)

pub index_mut-requires : goal.index_mut-requires
index_mut-requires g c = led_has hears_link c.self.inside.entries.senders c.self.inside.entries.slab c.self.invariant.senders c.args.link c.in-Some.key (sym c.key.ensures ∙ c.in-Some.is)

pub settle-requires : goal.settle-requires
settle-requires g c = still_there c.self.inside.entries c.in-Some.key c.index_mut.result.now c.cut_onto.new.self c.index_mut.ensures.value
