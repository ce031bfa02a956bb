use Rattle.std.proofs.Common.{◌-◌, Bool, List, length, sym, ap, ◌∙◌, subst}
use Rattle.std.specs.Prelude.{slice_get}
use Rattle.ncp_transcript_two.specs.declared.note.Note.{Note}
use Rattle.ncp_example_file.specs.Calls.{was_accepted, IsCounted}
use Rattle.ncp_example_file.proofs.Noting.{counted}
use Rattle.ncp_example_file.proofs.calls.call.Goals as goal

pub returns : goal.returns
returns g c = record {
  counted =
      subst (λ (b : Bool). IsCounted c.args.by c.args.call b c.args.world.now.notes c.step.new.world.notes)
      (sym (c.was_accepted.ensures ∙ ap (λ (ns : List Note). was_accepted (slice_get ns (length ns - 1))) c.transcript.ensures.notes))
      (counted c.args.by c.args.call c.args.world.now c.step.new.world c.requires c.in_ok-step.ensures.step);
}
