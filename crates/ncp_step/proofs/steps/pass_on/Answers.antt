use Rattle.std.proofs.Common.{Bool, List, sym, ap, ◌∙◌}
use Rattle.ncp_transcript.specs.declared.note.HostNote.{HostNote}
use Rattle.ncp_transcript_two.specs.Between.{accepted_from, subnet_after_out}
use Rattle.ncp_transcript_two.proofs.Accepting.{accepting}
use Rattle.ncp_step.proofs.steps.pass_on.Goals as goal

pub returns-in-Out : goal.returns-in-Out
returns-in-Out c =
    accepting c.args.subnet.now c.accept_part-taken.new.self c.args.from c.whole.result c.accept_part-taken.result c.accept_part-taken.ensures.variant c.accept_part-taken.ensures.ok c.accept_part-taken.ensures.err
    ∙ ap (λ (m : List Bool). accepted_from c.args.from m c.args.subnet.now) c.whole.ensures
    ∙ ap (λ (n : HostNote). subnet_after_out c.args.from n c.args.subnet.now) (sym c.in-Out.is)
