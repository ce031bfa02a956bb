use Rattle.std.proofs.Common.{ℕ, List, length, ap, ◌∙◌}
use Rattle.ncp_embed.specs.Exports.{bytes_saved, over}
use Rattle.ncp_embed.proofs.Calling.{found}
use Rattle.ncp_embed.proofs.saving.ncp_embed_save.Goals as goal

pub returns-in-Ok-clause-size : goal.returns-in-Ok-clause-size
returns-in-Ok-clause-size c told =
    let there = found c.take.result c.in-Some.held c.deref.result.now c.args.handle.now.host c.in-Some.is c.take.ensures.held c.deref.ensures in
    let bytes = c.deref-in-Ok.ensures.value ∙ c.in-Ok.ensures.saved ∙ ap bytes_saved there in
    c.write_bytes.ensures.size ∙ ap length bytes

pub returns-in-Ok-clause-written : goal.returns-in-Ok-clause-written
returns-in-Ok-clause-written c done =
    let there = found c.take.result c.in-Some.held c.deref.result.now c.args.handle.now.host c.in-Some.is c.take.ensures.held c.deref.ensures in
    let bytes = c.deref-in-Ok.ensures.value ∙ c.in-Ok.ensures.saved ∙ ap bytes_saved there in
    c.write_bytes.ensures.written done ∙ ap (λ (bytes : List ℕ). over bytes (length bytes) c.args.out.now) bytes
