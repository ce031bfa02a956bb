use Rattle.std.proofs.Common.{◌∙◌, List, Option, ℕ, sym, subst}
use Rattle.ncp_play_files.specs.Converted.{next_at}
use Rattle.ncp_play_files.specs.Turning.{ReadsMessage}
use Rattle.ncp_play_files.proofs.converting.take_on.Goals as goal

pub returns-clause-output : goal.returns-clause-output
returns-clause-output g c = λ bytes a.
    subst (λ (left : Option (List ℕ)). ReadsMessage (next_at c.args.turn.from c.args.turn.wanted) bytes c.take_next-found.result c.take_next-found.new.message c.take_next-found.new.input.window.now left) (sym c.stop_at_fault.ensures.left)
    (c.take_next-found.ensures.output bytes a)

pub returns-clause-mark : goal.returns-clause-mark
returns-clause-mark g c = c.stop_at_fault.ensures.mark ∙ c.take_next-found.ensures.mark

pub returns-clause-reads : goal.returns-clause-reads
returns-clause-reads g c = rw (c.stop_at_fault.ensures.left, c.stop_at_fault.ensures.reads) c.take_next-found.ensures.reads

pub returns-clause-taken : goal.returns-clause-taken
returns-clause-taken g c = rw (c.stop_at_fault.ensures.left, c.stop_at_fault.ensures.reads) c.take_next-found.ensures.taken

pub returns-clause-read_measure : goal.returns-clause-read_measure
returns-clause-read_measure g c = rw c.stop_at_fault.ensures.reads c.take_next-found.ensures.read_measure

pub returns-clause-lowers : goal.returns-clause-lowers
returns-clause-lowers g c = rw c.stop_at_fault.ensures.reads c.take_next-found.ensures.lowers

pub returns-clause-waited : goal.returns-clause-waited
returns-clause-waited g c = rw c.stop_at_fault.ensures.reads c.take_next-found.ensures.waited
