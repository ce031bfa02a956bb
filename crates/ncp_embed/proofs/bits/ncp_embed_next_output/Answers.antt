use Rattle.std.proofs.Common.{Bool, if◌then◌else◌, ap}
use Rattle.std.proofs.lemmas.Bool.{le-ltb}
use Rattle.ncp_host.specs.Turns.{next_output}
use Rattle.ncp_embed.specs.Exports.{any_of, size_of_message}
use Rattle.ncp_embed.specs.Buffers.{found_in_host}
use Rattle.ncp_embed.proofs.Calling.{found}
use Rattle.ncp_embed.proofs.bits.ncp_embed_next_output.Goals as goal

pub returns-clause-bits : goal.returns-clause-bits
returns-clause-bits c =
    let wrote = c.write_next-code.ensures.bits in
    let there = ap (λ at. any_of size_of_message (found_in_host next_output at) c.args.bits.now) (found c.take.result c.in-Some.held c.deref_mut.result.now c.args.handle.now.host c.in-Some.is c.take.ensures.held c.deref_mut.ensures.value) in
    let room = ap (λ (short : Bool). if short then c.args.bits.now else any_of size_of_message (found_in_host next_output c.args.handle.now.host) c.args.bits.now) (le-ltb _ _ c.if-out-lt-LONGEST_MESSAGE.false) in
    cc
