use Rattle.std.proofs.Common.{◌∙◌, ap}
use Rattle.ncp_play_files.specs.declared.version.Version.{Version}
use Rattle.ncp_play_files.specs.Converted.{capture_point_in}
use Rattle.ncp_play_files.proofs.converting.turn_of.Goals as goal

pub returns-clause-given : goal.returns-clause-given
returns-clause-given c = c.capture_point_in-2.ensures ∙ ap (λ (to : Version). capture_point_in to c.args.direction c.args.host) c.other_version-to.ensures
