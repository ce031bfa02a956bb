use Rattle.std.proofs.Common.{sym, ap, ◌∙◌, Option}
use Rattle.ncp_model.specs.declared.pair.Pair.{Pair}
use Rattle.ncp_model.specs.Endpoint.{Endpoint}
use Rattle.ncp_model.specs.Effect.{answer}
use Rattle.ncp_model.specs.Ends.{cut_at}
use Rattle.ncp_conn.specs.Cutting.{cut_sizes}
use Rattle.ncp_conn.proofs.Tables.{no_sender, sender_is}
use Rattle.ncp_conn.proofs.table.Table.next_size.Goals as goal

pub returns-in-Some : goal.returns-in-Some
returns-in-Some g c =
    c.next_size.ensures
    ∙ ap (λ (o : Option (Pair × Endpoint)). cut_sizes (answer (cut_at o))) (sym (sender_is c.self.inside.entries c.args.self.now c.self.view_is c.self.invariant c.args.link c.in-Some.key c.index.result.now (sym c.key.ensures ∙ c.in-Some.is) c.index.ensures))

pub returns-in-None : goal.returns-in-None
returns-in-None g c =
    ap (λ (o : Option (Pair × Endpoint)). cut_sizes (answer (cut_at o))) (sym (no_sender c.self.inside.entries c.args.self.now c.self.view_is c.self.invariant c.args.link (sym c.key.ensures ∙ c.in-None.is)))
