use Rattle.ncp_play_files.proofs.CountedFiles.{counted_ok, counted_err}
use Rattle.ncp_play_files.proofs.counting.count.Goals as goal

pub returns-in-Ok-clause-output : goal.returns-in-Ok-clause-output
returns-in-Ok-clause-output g c = λ bytes was e f.
    counted_ok bytes was (g.S.Source.left c.pass_through.new.source) (g.W.Sink.written c.pass_through.new.sink) c.new.result c.in-Ok.field-0 c.new.ensures (c.in-Ok.ensures.output bytes was e f)

pub returns-in-Err-clause-output : goal.returns-in-Err-clause-output
returns-in-Err-clause-output g c = λ bytes was e f.
    counted_err bytes was (g.S.Source.left c.pass_through.new.source) (g.W.Sink.written c.pass_through.new.sink) c.new.result c.in-Err.fault c.new.ensures (c.in-Err.ensures.output bytes was e f)
