use Rattle.ncp_play_files.specs.Shown.{ShownAs, ShownCut, show_pass}
use Rattle.ncp_play_files.proofs.PassProgress.{written_ok, written_err}
use Rattle.ncp_play_files.proofs.ShownFiles.{shown_as, shown_cut, shown_longer}
use Rattle.ncp_play_files.proofs.showing.show.Goals as goal

pub returns-in-Ok-clause-output : goal.returns-in-Ok-clause-output
returns-in-Ok-clause-output g c = λ bytes was e f.
    written_ok show_pass tt ShownAs ShownCut shown_as shown_cut shown_longer bytes was (g.S.Source.left c.pass_through.new.source) (g.W.Sink.written c.pass_through.new.sink) c.in-Ok.field-0 (c.in-Ok.ensures.output bytes was e f)

pub returns-in-Err-clause-output : goal.returns-in-Err-clause-output
returns-in-Err-clause-output g c = λ bytes was e f.
    written_err show_pass tt ShownAs ShownCut shown_as shown_cut shown_longer bytes was (g.S.Source.left c.pass_through.new.source) (g.W.Sink.written c.pass_through.new.sink) c.in-Err.fault (c.in-Err.ensures.output bytes was e f)
