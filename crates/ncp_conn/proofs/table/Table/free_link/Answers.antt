use Rattle.std.proofs.Common.{ℕ, Bool, not, sym, ap, ◌∙◌}
use Rattle.ncp_model.specs.Ends.{lowest}
use Rattle.ncp_conn.proofs.Tables.{is_used}
use Rattle.ncp_conn.proofs.table.Table.free_link.Goals as goal

pub returns : goal.returns
returns g c = c.free_from.ensures ∙ ap (λ (t : ℕ → Bool). lowest t 70 2) (λ i on. not (sym (is_used c.self.inside.entries c.args.self.now c.self.view_is c.self.invariant on) i))
