use Rattle.std.proofs.Common.{ℕ, ◌-◌, List, length, sym, ap, ◌∙◌, subst}
use Rattle.std.specs.Prelude.{slice_get}
use Rattle.ncp_transcript_two.specs.declared.side.Side.TheVariants.{B}
use Rattle.ncp_transcript_two.specs.declared.note.Note.{Note}
use Rattle.ncp_example_file.specs.Accounts.{MissesAtMost}
use Rattle.ncp_example_file.specs.Calls.{bits_taken}
use Rattle.ncp_example_file.proofs.Transferring.{at_receiver, take-misses, take-gives-nothing}
use Rattle.ncp_example_file.proofs.transfer.take_held.Goals as goal

pub returns-clause-given : goal.returns-clause-given
returns-clause-given g c = take-gives-nothing c.args.world.now c.step.new.world 1 4294967295 c.in_ok-step.ensures.step

pub returns-clause-taken : goal.returns-clause-taken
returns-clause-taken g c size m =
    subst (λ (n : ℕ). MissesAtMost n size B at_receiver c.step.new.world.notes)
    (sym (c.saturating_sub.ensures ∙ ap (λ (n : ℕ). c.args.missing - n) (c.bits_taken.ensures ∙ ap (λ (ns : List Note). bits_taken (slice_get ns (length ns - 1))) c.transcript.ensures.notes)))
    (take-misses c.args.world.now c.step.new.world 1 4294967295 c.in_ok-step.ensures.step c.args.missing size m)
