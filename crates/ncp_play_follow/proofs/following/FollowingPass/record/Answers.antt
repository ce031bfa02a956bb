use Rattle.std.proofs.Common.{ap}
use Rattle.ncp_play_files.specs.Versions.{Recorded}
use Rattle.ncp_play_follow.proofs.FollowedPasses.{heard, state_of}
use Rattle.ncp_play_follow.proofs.following.FollowingPass.record.Goals as goal

pub returns-clause-state : goal.returns-clause-state
returns-clause-state g c =
    let old = c.args.self.now in
    let seen : Recorded = record { capture_point = c.args.capture_point; message = c.args.message } in
    ap (state_of old.letters) (heard old.follower.now c.hear.new.self c.args.number.now seen c.number.result c.is_sent.result c.host_of.result c.copy_from_part.new.self c.hear.ensures c.number.ensures c.is_sent.ensures c.host_of.ensures c.copy_from_part.ensures)
