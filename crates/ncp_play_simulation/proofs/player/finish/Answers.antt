use Rattle.std.proofs.Common.{◌≡◌, ◌∙◌, false, sym}
use Rattle.ncp_play_notes.specs.Faults.{play_write_failed}
use Rattle.ncp_play_simulation.proofs.PlayedLines.{finish_flushed, finish_broken}
use Rattle.ncp_play_simulation.proofs.player.finish.Goals as goal

pub returns-in-Ok-clause-output : goal.returns-in-Ok-clause-output
returns-in-Ok-clause-output g c = λ rendering began was world number told.
    let w = g.W.Sink in
    let other : play_write_failed c.args.played ≡ false = sym c.requires ∙ sym c.failed.ensures ∙ c.if-failed.false in
    finish_flushed g.C.Simulation.rules rendering began was world number c.args.out.now.page.now (w.written c.args.out.now.sink.now) c.args.played told c.flush.new.self.page.now (w.written c.flush.new.self.sink.now) other c.in-Ok.ensures.ok

pub returns-in-Err-clause-output : goal.returns-in-Err-clause-output
returns-in-Err-clause-output g c = λ rendering began was world number told.
    let w = g.W.Sink in
    let other : play_write_failed c.args.played ≡ false = sym c.requires ∙ sym c.failed.ensures ∙ c.if-failed.false in
    finish_broken g.C.Simulation.rules rendering began was world number c.args.out.now.page.now (w.written c.args.out.now.sink.now) c.args.played told (w.written c.flush.new.self.sink.now) other c.in-Err.ensures.err
