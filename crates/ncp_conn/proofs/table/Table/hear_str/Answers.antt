use Rattle.std.proofs.Common.{◌≡◌, true, false, nat_le, refl, sym, ap, subst, ◌∙◌, Option}
use Rattle.ncp_wire.specs.declared.command.Command.{Command}
use Rattle.ncp_model.specs.declared.pair.Pair.{Pair}
use Rattle.ncp_model.specs.declared.outcomes.Heard.{Heard}
use Rattle.ncp_model.specs.declared.outcomes.Heard.TheVariants.{Nothing, Reply}
use Rattle.ncp_model.specs.Pairs.{receives}
use Rattle.ncp_model.specs.Endpoint.{Endpoint, or_new, is_ended}
use Rattle.ncp_model.specs.Effect.{Becomes, answer, error_of, wrong_parameters}
use Rattle.ncp_model.specs.Commands.{heard_size}
use Rattle.ncp_model.specs.Ends.{count, is_by_peer, map_after, wrong_str_in}
use Rattle.ncp_conn.specs.Asking.{Enters}
use Rattle.ncp_conn.proofs.Tables.{its_pair, got, got_none, ends_asked, pair_table, still_there}
use Rattle.ncp_conn.proofs.Requests.{new_heard_size, new_entry, entered, kept_hears_size, right_str, str_wrong, str_full, str_new, str_more}
use Rattle.ncp_conn.proofs.table.Table.hear_str.Goals as goal

pub returns-then-is_wrong_str-clause-answer : goal.returns-then-is_wrong_str-clause-answer
returns-then-is_wrong_str-clause-answer g c =
    let wrong : wrong_str_in c.args.pair c.args.size c.args.self.now ≡ true = sym c.is_wrong_str.ensures ∙ c.if-is_wrong_str.true in
    c.refused.ensures ∙ ap (λ (x : Command). Reply (error_of wrong_parameters x)) c.requires ∙ ap answer (sym (str_wrong c.args.pair c.args.size c.args.self.now wrong))

pub returns-then-is_wrong_str-clause-table : goal.returns-then-is_wrong_str-clause-table
returns-then-is_wrong_str-clause-table g c =
    let wrong : wrong_str_in c.args.pair c.args.size c.args.self.now ≡ true = sym c.is_wrong_str.ensures ∙ c.if-is_wrong_str.true in
    ap (map_after c.args.self.now c.args.pair) (sym (str_wrong c.args.pair c.args.size c.args.self.now wrong))

pub returns-then-is_full-clause-answer : goal.returns-then-is_full-clause-answer
returns-then-is_full-clause-answer g c =
    let right : wrong_str_in c.args.pair c.args.size c.args.self.now ≡ false = sym c.is_wrong_str.ensures ∙ c.if-is_wrong_str.false in
    let none = got_none c.self.inside.entries c.args.self.now c.self.view_is c.self.invariant c.args.pair c.in_default.ensures.found in
    let b : nat_le 64 (count is_by_peer c.args.self.now) ≡ true = sym c.is_full.ensures ∙ c.if-is_full.true in
    ap answer (sym (str_full c.args.pair c.args.size c.args.self.now right none b))

pub returns-then-is_full-clause-table : goal.returns-then-is_full-clause-table
returns-then-is_full-clause-table g c =
    let right : wrong_str_in c.args.pair c.args.size c.args.self.now ≡ false = sym c.is_wrong_str.ensures ∙ c.if-is_wrong_str.false in
    let none = got_none c.self.inside.entries c.args.self.now c.self.view_is c.self.invariant c.args.pair c.in_default.ensures.found in
    let b : nat_le 64 (count is_by_peer c.args.self.now) ≡ true = sym c.is_full.ensures ∙ c.if-is_full.true in
    ap (map_after c.args.self.now c.args.pair) (sym (str_full c.args.pair c.args.size c.args.self.now right none b))

pub enter-requires : goal.enter-requires
enter-requires g c =
    let right : wrong_str_in c.args.pair c.args.size c.args.self.now ≡ false = sym c.is_wrong_str.ensures ∙ c.if-is_wrong_str.false in
    let none = got_none c.self.inside.entries c.args.self.now c.self.view_is c.self.invariant c.args.pair c.in_default.ensures.found in
    let b : nat_le 64 (count is_by_peer c.args.self.now) ≡ false = sym c.is_full.ensures ∙ c.if-is_full.false in
    let e = new_entry c.hear_size.new.self c.new-entry.result c.args.pair (heard_size c.args.size) c.hear_size.ensures c.new-entry.ensures in
    record { enters = subst (λ (p : Pair × Endpoint). Enters c.args.self.now p) (sym e) (new_heard_size c.args.self.now c.args.pair none c.args.size (right_str c.args.pair c.args.size c.args.self.now right) b) }

pub returns-in_default-clause-answer : goal.returns-in_default-clause-answer
returns-in_default-clause-answer g c =
    let right : wrong_str_in c.args.pair c.args.size c.args.self.now ≡ false = sym c.is_wrong_str.ensures ∙ c.if-is_wrong_str.false in
    let none = got_none c.self.inside.entries c.args.self.now c.self.view_is c.self.invariant c.args.pair c.in_default.ensures.found in
    let b : nat_le 64 (count is_by_peer c.args.self.now) ≡ false = sym c.is_full.ensures ∙ c.if-is_full.false in
    ap answer (sym (str_new c.args.pair c.args.size c.args.self.now right none b))

pub returns-in_default-clause-table : goal.returns-in_default-clause-table
returns-in_default-clause-table g c =
    let right : wrong_str_in c.args.pair c.args.size c.args.self.now ≡ false = sym c.is_wrong_str.ensures ∙ c.if-is_wrong_str.false in
    let none = got_none c.self.inside.entries c.args.self.now c.self.view_is c.self.invariant c.args.pair c.in_default.ensures.found in
    let b : nat_le 64 (count is_by_peer c.args.self.now) ≡ false = sym c.is_full.ensures ∙ c.if-is_full.false in
    let e = new_entry c.hear_size.new.self c.new-entry.result c.args.pair (heard_size c.args.size) c.hear_size.ensures c.new-entry.ensures in
    entered {A = Heard} c.args.self.now _ c.args.pair c.hear_size.new.self (heard_size c.args.size) Nothing refl none e c.enter.ensures
    ∙ ap (λ (o : Option Endpoint). map_after c.args.self.now c.args.pair (Becomes (heard_size c.args.size (or_new o)) Nothing)) none
    ∙ ap (map_after c.args.self.now c.args.pair) (sym (str_new c.args.pair c.args.size c.args.self.now right none b))

pub invariant_of-self : goal.invariant_of-self
invariant_of-self g c =
    let right : wrong_str_in c.args.pair c.args.size c.args.self.now ≡ false = sym c.is_wrong_str.ensures ∙ c.if-is_wrong_str.false in
    let p = its_pair c.self.inside.entries.slab c.in-Some.key c.args.pair c.index_mut.result.now c.in-Some.ensures.found c.index_mut.ensures.value in
    let sex : receives c.index_mut.result.now.0 ≡ true = ap (λ (k : Pair). receives k) p ∙ (right_str c.args.pair c.args.size c.args.self.now right) in
    kept_hears_size c.self.inside.entries c.lead.new.self c.in-Some.key c.index_mut.result.now c.hear_size-2.new.self c.index_mut.ensures.value c.lead.ensures c.self.invariant c.args.size c.hear_size-2.ensures sex

pub returns-clause-answer : goal.returns-clause-answer
returns-clause-answer g c =
    let right : wrong_str_in c.args.pair c.args.size c.args.self.now ≡ false = sym c.is_wrong_str.ensures ∙ c.if-is_wrong_str.false in
    let p = its_pair c.self.inside.entries.slab c.in-Some.key c.args.pair c.index_mut.result.now c.in-Some.ensures.found c.index_mut.ensures.value in
    ap answer (sym (str_more c.args.pair c.args.size c.args.self.now right c.index_mut.result.now.1 (got c.self.inside.entries c.args.self.now c.self.view_is c.self.invariant c.in-Some.key c.args.pair c.index_mut.result.now c.index_mut.ensures.value p)))

pub returns-clause-table : goal.returns-clause-table
returns-clause-table g c =
    let right : wrong_str_in c.args.pair c.args.size c.args.self.now ≡ false = sym c.is_wrong_str.ensures ∙ c.if-is_wrong_str.false in
    let p = its_pair c.self.inside.entries.slab c.in-Some.key c.args.pair c.index_mut.result.now c.in-Some.ensures.found c.index_mut.ensures.value in
    pair_table {A = Heard} (λ (k : Pair) (o : Option Endpoint). Becomes (heard_size c.args.size (or_new o)) Nothing) c.index_mut.result.now c.args.pair c.args.self.now _ p
    (got c.self.inside.entries c.args.self.now c.self.view_is c.self.invariant c.in-Some.key c.args.pair c.index_mut.result.now c.index_mut.ensures.value p)
    (ends_asked c.self.inside.entries c.lead.new.self c.in-Some.key c.index_mut.result.now c.hear_size-2.new.self c.index_mut.ensures.value c.lead.ensures (ap (λ (p : Pair × Endpoint). is_ended p.1) c.hear_size-2.ensures) c.self.invariant (Becomes (heard_size c.args.size c.index_mut.result.now.1) Nothing) c.args.self.now c.self.view_is c.hear_size-2.ensures)
    ∙ ap (λ (o : Option Endpoint). map_after {A = Heard} c.args.self.now c.args.pair (Becomes (heard_size c.args.size (or_new o)) Nothing)) (got c.self.inside.entries c.args.self.now c.self.view_is c.self.invariant c.in-Some.key c.args.pair c.index_mut.result.now c.index_mut.ensures.value p)
    ∙ ap (map_after c.args.self.now c.args.pair) (sym (str_more c.args.pair c.args.size c.args.self.now right c.index_mut.result.now.1 (got c.self.inside.entries c.args.self.now c.self.view_is c.self.invariant c.in-Some.key c.args.pair c.index_mut.result.now c.index_mut.ensures.value p)))

pub lead-requires : goal.lead-requires
lead-requires g c = still_there c.self.inside.entries c.in-Some.key c.index_mut.result.now c.hear_size-2.new.self c.index_mut.ensures.value
