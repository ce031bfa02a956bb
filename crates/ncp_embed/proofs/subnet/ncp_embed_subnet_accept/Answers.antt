use Rattle.std.proofs.Common.{Some, refl, sym, ap, ◌∙◌}
use Rattle.ncp_bits.specs.Bits.{read_bytes}
use Rattle.ncp_subnet.specs.Subnet.{Subnet}
use Rattle.ncp_embed.specs.SubnetExports.{subnet_carried}
use Rattle.ncp_embed.proofs.Accepting.{found, accepted, refused}
use Rattle.ncp_embed.proofs.subnet.ncp_embed_subnet_accept.Goals as goal

pub returns-in-Err-answer-clause-accepts : goal.returns-in-Err-answer-clause-accepts
returns-in-Err-answer-clause-accepts c =
    let read = sym (sym c.in-Ok.is ∙ c.from_bytes.ensures.read) in
    let there = found c.take.result c.in-Some.carried c.deref_mut.result.now c.args.net.now.subnet c.in-Some.is c.take.ensures.link_state c.deref_mut.ensures.value in
    let stays = c.put.ensures ∙ ap (λ (s : Subnet). Some (subnet_carried s)) c.in-Err-answer.ensures.err in
    refused (read_bytes c.args.bytes.now c.args.bits) c.in-Ok.came c.args.from c.args.net.now.subnet c.deref_mut.result.now c.put.new.net.subnet c.subnet_code.result c.in-Err-answer.fault
    read there stays c.subnet_code.ensures c.in-Err-answer.ensures.first

pub returns-in-Ok-answer-clause-accepts : goal.returns-in-Ok-answer-clause-accepts
returns-in-Ok-answer-clause-accepts c =
    let read = sym (sym c.in-Ok.is ∙ c.from_bytes.ensures.read) in
    let there = found c.take.result c.in-Some.carried c.deref_mut.result.now c.args.net.now.subnet c.in-Some.is c.take.ensures.link_state c.deref_mut.ensures.value in
    let changed = c.put.ensures ∙ ap (λ (s : Subnet). Some (subnet_carried s)) c.in-Ok-answer.ensures.ok in
    accepted (read_bytes c.args.bytes.now c.args.bits) c.in-Ok.came c.args.from c.args.net.now.subnet c.deref_mut.result.now c.put.new.net.subnet read there changed (c.in-Ok-answer.ensures.variant.0 refl)
