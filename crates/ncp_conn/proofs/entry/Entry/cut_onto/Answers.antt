use Rattle.std.proofs.Common.{◌≡◌, ap, ◌∙◌, arith}
use Rattle.ncp_model.specs.declared.pair.Pair.{Pair}
use Rattle.ncp_model.specs.Endpoint.{Endpoint}
use Rattle.ncp_conn.proofs.Cutting.{cut_takes}
use Rattle.ncp_conn.proofs.entry.Entry.cut_onto.Goals as goal

pub overflow_mul-count : goal.overflow_mul-count
overflow_mul-count g c =
    let takes = cut_takes c.args.self.now.1 c.bytes_to_send.result c.from.result c.bytes_to_send.ensures.bytes (c.from.ensures ∙ ap (λ (p : Pair × Endpoint). p.1.size) c.self.view_is) in
    let most = takes.2 in
    record { fits = omega (arith, most) }

pub overflow_cast-self : goal.overflow_cast-self
overflow_cast-self g c =
    let takes = cut_takes c.args.self.now.1 c.bytes_to_send.result c.from.result c.bytes_to_send.ensures.bytes (c.from.ensures ∙ ap (λ (p : Pair × Endpoint). p.1.size) c.self.view_is) in
    let most = takes.2 in
    record { fits = omega (arith, most) }

pub overflow_sub-self-2 : goal.overflow_sub-self-2
overflow_sub-self-2 g c =
    let takes = cut_takes c.args.self.now.1 c.bytes_to_send.result c.from.result c.bytes_to_send.ensures.bytes (c.from.ensures ∙ ap (λ (p : Pair × Endpoint). p.1.size) c.self.view_is) in
    let bits : c.self.inside.bits ≡ c.args.self.now.1.bits = ap (λ (p : Pair × Endpoint). p.1.bits) c.self.view_is in
    let less = takes.1 in
    omega (arith, bits, less)

pub move_stored-requires-clause-fits : goal.move_stored-requires-clause-fits
move_stored-requires-clause-fits g c =
    let takes = cut_takes c.args.self.now.1 c.bytes_to_send.result c.from.result c.bytes_to_send.ensures.bytes (c.from.ensures ∙ ap (λ (p : Pair × Endpoint). p.1.size) c.self.view_is) in
    let most = takes.2 in
    omega (arith, most)
