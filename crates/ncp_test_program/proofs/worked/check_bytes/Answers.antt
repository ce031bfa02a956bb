use Rattle.std.proofs.Common.{Some, refl, ap}
use Rattle.ncp_player.specs.Memory.{Reading}
use Rattle.ncp_test_program.proofs.worked.check_bytes.Goals as goal

pub returns : goal.returns
returns c = record { checked = (Some c.check.new.source.left, c.check.ensures.output c.args.file.now c.args.line.now.written (ap (λ (s : Reading). Some s.left) c.new.ensures) refl) }
