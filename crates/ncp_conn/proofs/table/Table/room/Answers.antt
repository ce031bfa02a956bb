use Rattle.std.proofs.Common.{sym, ap, ◌∙◌, Option, Some}
use Rattle.ncp_model.specs.Endpoint.{Endpoint}
use Rattle.ncp_conn.specs.Listing.{room_if_any}
use Rattle.ncp_conn.proofs.Tables.{its_pair, got, got_none}
use Rattle.ncp_conn.proofs.table.Table.room.Goals as goal

pub returns-in_default : goal.returns-in_default
returns-in_default g c = ap (λ (o : Option Endpoint). room_if_any o) (sym (got_none c.self.inside.entries c.args.self.now c.self.view_is c.self.invariant c.args.pair c.in_default.ensures.found))

pub returns : goal.returns
returns g c =
    ap Some c.room.ensures.room
    ∙ ap (λ (o : Option Endpoint). room_if_any o) (sym (got c.self.inside.entries c.args.self.now c.self.view_is c.self.invariant c.in-Some.key c.args.pair c.index.result.now c.index.ensures (its_pair c.self.inside.entries.slab c.in-Some.key c.args.pair c.index.result.now c.in-Some.ensures.found c.index.ensures)))
