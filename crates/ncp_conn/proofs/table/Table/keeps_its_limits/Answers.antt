use Rattle.std.proofs.Common.{◌≤◌, ℕ, sym, subst}
use Rattle.ncp_model.specs.Ends.{has_asked, is_by_peer, hears_link, uses_link}
use Rattle.ncp_conn.proofs.Tables.{sum_is}
use Rattle.ncp_conn.proofs.table.Table.keeps_its_limits.Goals as goal

pub returns-clause-own : goal.returns-clause-own
returns-clause-own g c = subst (λ (n : ℕ). n ≤ 64) (sym (sum_is c.self.inside.entries c.args.self.now c.self.view_is c.self.invariant has_asked)) c.self.invariant.table.own

pub returns-clause-by_peer : goal.returns-clause-by_peer
returns-clause-by_peer g c = subst (λ (n : ℕ). n ≤ 64) (sym (sum_is c.self.inside.entries c.args.self.now c.self.view_is c.self.invariant is_by_peer)) c.self.invariant.table.by_peer

pub returns-clause-hears : goal.returns-clause-hears
returns-clause-hears g c = λ on. subst (λ (n : ℕ). n ≤ 1) (sym (sum_is c.self.inside.entries c.args.self.now c.self.view_is c.self.invariant (hears_link on))) (c.self.invariant.table.hears on)

pub returns-clause-uses : goal.returns-clause-uses
returns-clause-uses g c = λ on. subst (λ (n : ℕ). n ≤ 1) (sym (sum_is c.self.inside.entries c.args.self.now c.self.view_is c.self.invariant (uses_link on))) (c.self.invariant.table.uses on)
