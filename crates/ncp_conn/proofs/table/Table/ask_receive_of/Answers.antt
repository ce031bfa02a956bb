use Rattle.std.proofs.Common.{◌≡◌, ◌<◌, true, refl, sym, ap, subst, ◌∙◌, arith, Option}
use Rattle.std.specs.List.{count_by}
use Rattle.slab.specs.Slab.{values}
use Rattle.ncp_model.specs.declared.pair.Pair.{Pair}
use Rattle.ncp_model.specs.Pairs.{receives}
use Rattle.ncp_model.specs.Endpoint.{Endpoint, or_new, is_ended}
use Rattle.ncp_model.specs.Effect.{Becomes}
use Rattle.ncp_model.specs.Calls.{asked_to_receive}
use Rattle.ncp_model.specs.Ends.{count, has_asked, uses_link}
use Rattle.ncp_conn.specs.Asking.{Enters}
use Rattle.ncp_conn.proofs.Tables.{its_pair, got, got_none, sum_is, zero_from, ends_asked, pair_table, still_there}
use Rattle.ncp_conn.proofs.Requests.{new_receiver, new_entry, entered, kept_asks_receive}
use Rattle.ncp_conn.proofs.table.Table.ask_receive_of.Goals as goal

pub enter-requires : goal.enter-requires
enter-requires g c =
    let none = got_none c.self.inside.entries c.args.self.now c.self.view_is c.self.invariant c.args.pair c.in_default.ensures.found in
    let e = new_entry c.ask_receive.new.self c.new-entry.result c.args.pair (asked_to_receive c.args.link (g.S.BitStore.capacity c.args.store)) c.ask_receive.ensures c.new-entry.ensures in
    record { enters = subst (λ (p : Pair × Endpoint). Enters c.args.self.now p) (sym e) (new_receiver c.args.self.now c.args.pair none c.args.link (g.S.BitStore.capacity c.args.store) c.requires.receives c.requires.may.own c.requires.link) }

pub returns-in_default : goal.returns-in_default
returns-in_default g c =
    let none = got_none c.self.inside.entries c.args.self.now c.self.view_is c.self.invariant c.args.pair c.in_default.ensures.found in
    let e = new_entry c.ask_receive.new.self c.new-entry.result c.args.pair (asked_to_receive c.args.link (g.S.BitStore.capacity c.args.store)) c.ask_receive.ensures c.new-entry.ensures in
    entered c.args.self.now _ c.args.pair c.ask_receive.new.self (asked_to_receive c.args.link (g.S.BitStore.capacity c.args.store)) (tt {0}) refl none e c.enter.ensures

pub ask_receive-requires-2-clause-first : goal.ask_receive-requires-2-clause-first
ask_receive-requires-2-clause-first g c =
    let p = its_pair c.self.inside.entries.slab c.in-Some.key c.args.pair c.index_mut.result.now c.in-Some.ensures.found c.index_mut.ensures.value in
    sym (ap (λ (o : Option Endpoint). (or_new o).asked) (got c.self.inside.entries c.args.self.now c.self.view_is c.self.invariant c.in-Some.key c.args.pair c.index_mut.result.now c.index_mut.ensures.value p)) ∙ c.requires.may.first

pub invariant_of-self : goal.invariant_of-self
invariant_of-self g c =
    let p = its_pair c.self.inside.entries.slab c.in-Some.key c.args.pair c.index_mut.result.now c.in-Some.ensures.found c.index_mut.ensures.value in
    let sex : receives c.index_mut.result.now.0 ≡ true = ap (λ (k : Pair). receives k) p ∙ c.requires.receives in
    let a : count has_asked c.args.self.now ≡ count_by has_asked (values c.self.inside.entries.slab) = sum_is c.self.inside.entries c.args.self.now c.self.view_is c.self.invariant has_asked in
    let less : count_by has_asked (values c.self.inside.entries.slab) < 64 = let x = c.requires.may.own in omega (arith, a, x) in
    kept_asks_receive c.self.inside.entries c.lead.new.self c.in-Some.key c.index_mut.result.now c.ask_receive-2.new.self c.index_mut.ensures.value c.lead.ensures c.self.invariant c.args.link (g.S.BitStore.capacity c.args.store) c.ask_receive-2.ensures sex (sym (ap (λ (o : Option Endpoint). (or_new o).asked) (got c.self.inside.entries c.args.self.now c.self.view_is c.self.invariant c.in-Some.key c.args.pair c.index_mut.result.now c.index_mut.ensures.value p)) ∙ c.requires.may.first) less (sym (sum_is c.self.inside.entries c.args.self.now c.self.view_is c.self.invariant (uses_link c.args.link)) ∙ zero_from (count (uses_link c.args.link) c.args.self.now) c.requires.link)

pub returns : goal.returns
returns g c =
    let p = its_pair c.self.inside.entries.slab c.in-Some.key c.args.pair c.index_mut.result.now c.in-Some.ensures.found c.index_mut.ensures.value in
    pair_table (λ (k : Pair) (o : Option Endpoint). Becomes (asked_to_receive c.args.link (g.S.BitStore.capacity c.args.store) (or_new o)) (tt {0})) c.index_mut.result.now c.args.pair c.args.self.now _ p
    (got c.self.inside.entries c.args.self.now c.self.view_is c.self.invariant c.in-Some.key c.args.pair c.index_mut.result.now c.index_mut.ensures.value p)
    (ends_asked c.self.inside.entries c.lead.new.self c.in-Some.key c.index_mut.result.now c.ask_receive-2.new.self c.index_mut.ensures.value c.lead.ensures (ap (λ (p : Pair × Endpoint). is_ended p.1) c.ask_receive-2.ensures) c.self.invariant (Becomes (asked_to_receive c.args.link (g.S.BitStore.capacity c.args.store) c.index_mut.result.now.1) (tt {0})) c.args.self.now c.self.view_is c.ask_receive-2.ensures)

pub lead-requires : goal.lead-requires
lead-requires g c = still_there c.self.inside.entries c.in-Some.key c.index_mut.result.now c.ask_receive-2.new.self c.index_mut.ensures.value
