use Rattle.std.proofs.Common.{sym, ap, ◌∙◌}
use Rattle.ncp_embed.specs.Exports.{arrived_in, after_bits_read}
use Rattle.ncp_embed.proofs.Calling.{found}
use Rattle.ncp_embed.proofs.bits.ncp_embed_receive.Goals as goal

pub returns-clause-arrived : goal.returns-clause-arrived
returns-clause-arrived c =
    let there = ap (λ at. arrived_in c.in-Ok.came at c.args.arrived.now) (found c.take.result c.in-Some.held c.deref_mut.result.now c.args.handle.now.host c.in-Some.is c.take.ensures.held c.deref_mut.ensures.value) in
    let came = ap (λ came. after_bits_read came (λ bits. arrived_in bits c.args.handle.now.host c.args.arrived.now) c.args.arrived.now) (sym c.in-Ok.is ∙ c.from_bytes.ensures.read) in
    c.receive.ensures.arrived ∙ there ∙ came
