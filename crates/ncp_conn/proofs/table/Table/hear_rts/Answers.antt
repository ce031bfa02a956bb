use Rattle.std.proofs.Common.{◌≡◌, true, false, nat_le, refl, sym, ap, subst, ◌∙◌, Option}
use Rattle.ncp_wire.specs.declared.command.Command.{Command}
use Rattle.ncp_model.specs.declared.pair.Pair.{Pair}
use Rattle.ncp_model.specs.declared.outcomes.Heard.{Heard}
use Rattle.ncp_model.specs.declared.outcomes.Heard.TheVariants.{Nothing, Reply}
use Rattle.ncp_model.specs.Pairs.{sends}
use Rattle.ncp_model.specs.Endpoint.{Endpoint, or_new, is_ended}
use Rattle.ncp_model.specs.Effect.{Becomes, answer, error_of, wrong_parameters}
use Rattle.ncp_model.specs.Commands.{heard_link}
use Rattle.ncp_model.specs.Ends.{count, is_by_peer, hears_link, map_after, wrong_rts_in}
use Rattle.ncp_conn.specs.Asking.{Enters}
use Rattle.ncp_conn.proofs.Tables.{its_pair, got, got_none, sum_is, zero_from, ends_asked, pair_table, still_there}
use Rattle.ncp_conn.proofs.Requests.{new_heard_link, new_entry, entered, kept_hears_link, right_rts, rts_wrong, rts_full, rts_new, rts_more}
use Rattle.ncp_conn.proofs.table.Table.hear_rts.Goals as goal

pub returns-then-is_wrong_rts-clause-answer : goal.returns-then-is_wrong_rts-clause-answer
returns-then-is_wrong_rts-clause-answer g c =
    let wrong : wrong_rts_in c.args.pair c.args.link c.args.self.now ≡ true = sym c.is_wrong_rts.ensures ∙ c.if-is_wrong_rts.true in
    c.refused.ensures ∙ ap (λ (x : Command). Reply (error_of wrong_parameters x)) c.requires ∙ ap answer (sym (rts_wrong c.args.pair c.args.link c.args.self.now wrong))

pub returns-then-is_wrong_rts-clause-table : goal.returns-then-is_wrong_rts-clause-table
returns-then-is_wrong_rts-clause-table g c =
    let wrong : wrong_rts_in c.args.pair c.args.link c.args.self.now ≡ true = sym c.is_wrong_rts.ensures ∙ c.if-is_wrong_rts.true in
    ap (map_after c.args.self.now c.args.pair) (sym (rts_wrong c.args.pair c.args.link c.args.self.now wrong))

pub returns-then-is_full-clause-answer : goal.returns-then-is_full-clause-answer
returns-then-is_full-clause-answer g c =
    let right : wrong_rts_in c.args.pair c.args.link c.args.self.now ≡ false = sym c.is_wrong_rts.ensures ∙ c.if-is_wrong_rts.false in
    let none = got_none c.self.inside.entries c.args.self.now c.self.view_is c.self.invariant c.args.pair c.in_default.ensures.found in
    let b : nat_le 64 (count is_by_peer c.args.self.now) ≡ true = sym c.is_full.ensures ∙ c.if-is_full.true in
    ap answer (sym (rts_full c.args.pair c.args.link c.args.self.now right none b))

pub returns-then-is_full-clause-table : goal.returns-then-is_full-clause-table
returns-then-is_full-clause-table g c =
    let right : wrong_rts_in c.args.pair c.args.link c.args.self.now ≡ false = sym c.is_wrong_rts.ensures ∙ c.if-is_wrong_rts.false in
    let none = got_none c.self.inside.entries c.args.self.now c.self.view_is c.self.invariant c.args.pair c.in_default.ensures.found in
    let b : nat_le 64 (count is_by_peer c.args.self.now) ≡ true = sym c.is_full.ensures ∙ c.if-is_full.true in
    ap (map_after c.args.self.now c.args.pair) (sym (rts_full c.args.pair c.args.link c.args.self.now right none b))

pub enter-requires : goal.enter-requires
enter-requires g c =
    let right : wrong_rts_in c.args.pair c.args.link c.args.self.now ≡ false = sym c.is_wrong_rts.ensures ∙ c.if-is_wrong_rts.false in
    let none = got_none c.self.inside.entries c.args.self.now c.self.view_is c.self.invariant c.args.pair c.in_default.ensures.found in
    let b : nat_le 64 (count is_by_peer c.args.self.now) ≡ false = sym c.is_full.ensures ∙ c.if-is_full.false in
    let e = new_entry c.hear_link.new.self c.new-entry.result c.args.pair (heard_link c.args.link) c.hear_link.ensures c.new-entry.ensures in
    record { enters = subst (λ (p : Pair × Endpoint). Enters c.args.self.now p) (sym e) (new_heard_link c.args.self.now c.args.pair none c.args.link (right_rts c.args.pair c.args.link c.args.self.now right).0 b (right_rts c.args.pair c.args.link c.args.self.now right).1) }

pub returns-in_default-clause-answer : goal.returns-in_default-clause-answer
returns-in_default-clause-answer g c =
    let right : wrong_rts_in c.args.pair c.args.link c.args.self.now ≡ false = sym c.is_wrong_rts.ensures ∙ c.if-is_wrong_rts.false in
    let none = got_none c.self.inside.entries c.args.self.now c.self.view_is c.self.invariant c.args.pair c.in_default.ensures.found in
    let b : nat_le 64 (count is_by_peer c.args.self.now) ≡ false = sym c.is_full.ensures ∙ c.if-is_full.false in
    ap answer (sym (rts_new c.args.pair c.args.link c.args.self.now right none b))

pub returns-in_default-clause-table : goal.returns-in_default-clause-table
returns-in_default-clause-table g c =
    let right : wrong_rts_in c.args.pair c.args.link c.args.self.now ≡ false = sym c.is_wrong_rts.ensures ∙ c.if-is_wrong_rts.false in
    let none = got_none c.self.inside.entries c.args.self.now c.self.view_is c.self.invariant c.args.pair c.in_default.ensures.found in
    let b : nat_le 64 (count is_by_peer c.args.self.now) ≡ false = sym c.is_full.ensures ∙ c.if-is_full.false in
    let e = new_entry c.hear_link.new.self c.new-entry.result c.args.pair (heard_link c.args.link) c.hear_link.ensures c.new-entry.ensures in
    entered {A = Heard} c.args.self.now _ c.args.pair c.hear_link.new.self (heard_link c.args.link) Nothing refl none e c.enter.ensures
    ∙ ap (λ (o : Option Endpoint). map_after c.args.self.now c.args.pair (Becomes (heard_link c.args.link (or_new o)) Nothing)) none
    ∙ ap (map_after c.args.self.now c.args.pair) (sym (rts_new c.args.pair c.args.link c.args.self.now right none b))

pub invariant_of-self : goal.invariant_of-self
invariant_of-self g c =
    let right : wrong_rts_in c.args.pair c.args.link c.args.self.now ≡ false = sym c.is_wrong_rts.ensures ∙ c.if-is_wrong_rts.false in
    let p = its_pair c.self.inside.entries.slab c.in-Some.key c.args.pair c.index_mut.result.now c.in-Some.ensures.found c.index_mut.ensures.value in
    let sex : sends c.index_mut.result.now.0 ≡ true = ap (λ (k : Pair). sends k) p ∙ (right_rts c.args.pair c.args.link c.args.self.now right).0 in
    kept_hears_link c.self.inside.entries c.lead.new.self c.in-Some.key c.index_mut.result.now c.hear_link-2.new.self c.index_mut.ensures.value c.lead.ensures c.self.invariant c.args.link c.hear_link-2.ensures sex (sym (ap (λ (o : Option Endpoint). (or_new o).heard) (got c.self.inside.entries c.args.self.now c.self.view_is c.self.invariant c.in-Some.key c.args.pair c.index_mut.result.now c.index_mut.ensures.value p)) ∙ (right_rts c.args.pair c.args.link c.args.self.now right).3) (sym (sum_is c.self.inside.entries c.args.self.now c.self.view_is c.self.invariant (hears_link c.args.link)) ∙ zero_from (count (hears_link c.args.link) c.args.self.now) (right_rts c.args.pair c.args.link c.args.self.now right).1)

pub returns-clause-answer : goal.returns-clause-answer
returns-clause-answer g c =
    let right : wrong_rts_in c.args.pair c.args.link c.args.self.now ≡ false = sym c.is_wrong_rts.ensures ∙ c.if-is_wrong_rts.false in
    let p = its_pair c.self.inside.entries.slab c.in-Some.key c.args.pair c.index_mut.result.now c.in-Some.ensures.found c.index_mut.ensures.value in
    ap answer (sym (rts_more c.args.pair c.args.link c.args.self.now right c.index_mut.result.now.1 (got c.self.inside.entries c.args.self.now c.self.view_is c.self.invariant c.in-Some.key c.args.pair c.index_mut.result.now c.index_mut.ensures.value p)))

pub returns-clause-table : goal.returns-clause-table
returns-clause-table g c =
    let right : wrong_rts_in c.args.pair c.args.link c.args.self.now ≡ false = sym c.is_wrong_rts.ensures ∙ c.if-is_wrong_rts.false in
    let p = its_pair c.self.inside.entries.slab c.in-Some.key c.args.pair c.index_mut.result.now c.in-Some.ensures.found c.index_mut.ensures.value in
    pair_table {A = Heard} (λ (k : Pair) (o : Option Endpoint). Becomes (heard_link c.args.link (or_new o)) Nothing) c.index_mut.result.now c.args.pair c.args.self.now _ p
    (got c.self.inside.entries c.args.self.now c.self.view_is c.self.invariant c.in-Some.key c.args.pair c.index_mut.result.now c.index_mut.ensures.value p)
    (ends_asked c.self.inside.entries c.lead.new.self c.in-Some.key c.index_mut.result.now c.hear_link-2.new.self c.index_mut.ensures.value c.lead.ensures (ap (λ (p : Pair × Endpoint). is_ended p.1) c.hear_link-2.ensures) c.self.invariant (Becomes (heard_link c.args.link c.index_mut.result.now.1) Nothing) c.args.self.now c.self.view_is c.hear_link-2.ensures)
    ∙ ap (λ (o : Option Endpoint). map_after {A = Heard} c.args.self.now c.args.pair (Becomes (heard_link c.args.link (or_new o)) Nothing)) (got c.self.inside.entries c.args.self.now c.self.view_is c.self.invariant c.in-Some.key c.args.pair c.index_mut.result.now c.index_mut.ensures.value p)
    ∙ ap (map_after c.args.self.now c.args.pair) (sym (rts_more c.args.pair c.args.link c.args.self.now right c.index_mut.result.now.1 (got c.self.inside.entries c.args.self.now c.self.view_is c.self.invariant c.in-Some.key c.args.pair c.index_mut.result.now c.index_mut.ensures.value p)))

pub lead-requires : goal.lead-requires
lead-requires g c = still_there c.self.inside.entries c.in-Some.key c.index_mut.result.now c.hear_link-2.new.self c.index_mut.ensures.value
