use Rattle.std.proofs.Common.{false, rules, ◌≡◌, [], Some, subst}
use Rattle.ncp_follow.specs.declared.follower.Follower.{Follower}
use Rattle.ncp_play_follow.specs.FollowedFiles.{Follows}
use Rattle.ncp_web.proofs.files.followed.Goals as goal

pub returns : goal.returns
returns c =
    let left : Some c.new-source.result.left ≡ Some c.args.input.now = search rules in
    let was : Some c.args.sink.now.written ≡ Some [] = search rules in (
      Some c.follow.new.source.left,
      subst (λ (f : Follower). Follows false f c.args.input.now [] (Some c.follow.new.source.left) (Some c.follow.new.sink.written) c.follow.result) c.in-Ok.ensures (c.follow.ensures.output c.args.input.now [] left was),
    )
