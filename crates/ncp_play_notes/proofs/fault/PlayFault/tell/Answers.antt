use Rattle.std.proofs.Common.{◌∙◌, ◌++◌, List, ℕ, ap}
use Rattle.ncp_play_notes.specs.Faults.{fault_line}
use Rattle.ncp_play_notes.proofs.Writing.{wrote}
use Rattle.ncp_play_notes.proofs.fault.PlayFault.tell.Goals as goal

pub returns-clause-output : goal.returns-clause-output
returns-clause-output g c = λ was e.
    wrote was (fault_line c.args.self) c.push_fault.new.page c.flush.new.self (g.W.Sink.written c.args.sink.now) (g.W.Sink.written c.flush.new.sink) c.flush.result e
    (c.push_fault.ensures ∙ ap (λ (page : List ℕ). page ++ fault_line c.args.self) c.new-page.ensures) c.flush.ensures.ok c.flush.ensures.err
