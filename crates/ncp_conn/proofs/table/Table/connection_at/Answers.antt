use Rattle.std.proofs.Common.{Some, sym, ap, ◌∙◌}
use Rattle.ncp_conn.specs.Listing.{with_record}
use Rattle.ncp_conn.proofs.Listing.{at_place, nowhere}
use Rattle.ncp_conn.proofs.table.Table.connection_at.Goals as goal

pub returns-in_default : goal.returns-in_default
returns-in_default g c = ap with_record (sym (nowhere c.self.inside.entries c.args.self.now c.self.view_is c.self.invariant c.args.place (sym c.in_default.ensures.placed)))

pub returns : goal.returns
returns g c =
    (λ i. Some (c.pair.ensures i, c.record.ensures i))
    ∙ ap with_record (sym (at_place c.self.inside.entries c.args.self.now c.self.view_is c.self.invariant c.args.place c.in-Some.key c.index-entry.result.now (sym c.in-Some.ensures.placed) c.index-entry.ensures))
