use Rattle.std.proofs.Common.{◌≡◌, sym, ap, subst, Option}
use Rattle.std.specs.Result.{IfOk}
use Rattle.ncp_model.specs.Endpoint.{Endpoint, or_new}
use Rattle.ncp_conn.specs.Stores.{stored_in, room_in}
use Rattle.ncp_conn.proofs.Tables.{its_pair, got, got_none}
use Rattle.ncp_conn.proofs.table.Table.stored.Goals as goal

pub returns-in_default-clause-stored : goal.returns-in_default-clause-stored
returns-in_default-clause-stored g c = ap (λ (o : Option Endpoint). (or_new o).stored) (sym (got_none c.self.inside.entries c.args.self.now c.self.view_is c.self.invariant c.args.pair c.in_default.ensures.found))

pub returns-in_default-clause-room : goal.returns-in_default-clause-room
returns-in_default-clause-room g c = ap (λ (o : Option Endpoint). (or_new o).room) (sym (got_none c.self.inside.entries c.args.self.now c.self.view_is c.self.invariant c.args.pair c.in_default.ensures.found))

its_end : (g : _) (c : goal.After-copied_store g) → c.index.result.now.1 ≡ or_new (Rattle.std.specs.FinMap.get c.args.self.now c.args.pair)
its_end g c = ap or_new (sym (got c.self.inside.entries c.args.self.now c.self.view_is c.self.invariant c.in-Some.key c.args.pair c.index.result.now c.index.ensures (its_pair c.self.inside.entries.slab c.in-Some.key c.args.pair c.index.result.now c.in-Some.ensures.found c.index.ensures)))

pub returns-clause-stored : goal.returns-clause-stored
returns-clause-stored g c = subst (λ (e : Endpoint). IfOk c.copied_store.result (λ store. stored_in g.S.BitStore.held store ≡ e.stored)) (its_end g c) c.copied_store.ensures.stored

pub returns-clause-room : goal.returns-clause-room
returns-clause-room g c = subst (λ (e : Endpoint). IfOk c.copied_store.result (λ store. room_in g.S.BitStore.capacity store ≡ e.room)) (its_end g c) c.copied_store.ensures.room
