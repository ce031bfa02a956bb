use Rattle.std.proofs.Common.{◌≡◌, take}
use Rattle.ncp_follow.specs.Tables.{end_all}
use Rattle.ncp_follow.proofs.tables.end_all.Given as goal

abbrev pub invariant-loop-track : goal.invariant-loop-track
invariant-loop-track l = record {
  told : l.told ≡ end_all l.observation.number l.observation.at l.observation.peer l.end (take l.track-index l.tracks) l.initial.told;
}
