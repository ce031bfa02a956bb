use Rattle.std.proofs.Common.{ℕ, ap, ◌∙◌, sym, nat_lt}
use Rattle.ncp_model.specs.Ends.{count, has_asked, is_by_peer}
use Rattle.ncp_conn.proofs.Tables.{sum_is}
use Rattle.ncp_conn.proofs.Requests.{when}
use Rattle.ncp_conn.proofs.table.Table.has_room_for.Goals as goal

pub returns-then-is_asked : goal.returns-then-is_asked
returns-then-is_asked g c =
    ap (λ (n : ℕ). nat_lt n 64) (c.own_requests.ensures ∙ sym (sum_is c.self.inside.entries c.args.self.now c.self.view_is c.self.invariant has_asked))
    ∙ sym (when c.args.entry.now.1.asked (nat_lt (count has_asked c.args.self.now) 64) (nat_lt (count is_by_peer c.args.self.now) 64) (sym c.if-is_asked.ensures))
