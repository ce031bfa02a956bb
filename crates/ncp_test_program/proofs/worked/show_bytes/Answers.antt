use Rattle.std.proofs.Common.{Some, refl, ap}
use Rattle.ncp_player.specs.Memory.{Reading}
use Rattle.ncp_test_program.proofs.worked.show_bytes.Goals as goal

pub returns : goal.returns
returns c = record { shown = (Some c.show.new.source.left, c.show.ensures.output c.args.file.now c.args.lines.now.written (ap (λ (s : Reading). Some s.left) c.new.ensures) refl) }
