use Rattle.std.proofs.Common.{sym, ap, ◌∙◌}
use Rattle.ncp_model.specs.declared.pair.Pair.{Pair}
use Rattle.ncp_model.specs.Endpoint.{Endpoint}
use Rattle.ncp_conn.proofs.Sizes.{size_cut}
use Rattle.ncp_conn.proofs.entry.Entry.next_size.Goals as goal

pub returns : goal.returns
returns g c =
    size_cut c.args.self.now c.self.inside.size c.bytes_to_send.result (ap (λ (p : Pair × Endpoint). p.1.size) c.self.view_is) c.bytes_to_send.ensures.bytes (sym c.can_send.ensures ∙ c.if-not-can_send.false)
