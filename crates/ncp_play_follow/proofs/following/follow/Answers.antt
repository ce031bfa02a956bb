use Rattle.ncp_play_follow.proofs.FollowedPasses.{follows_ok, follows_err}
use Rattle.ncp_play_follow.proofs.following.follow.Goals as goal

pub returns-in-Ok-clause-output : goal.returns-in-Ok-clause-output
returns-in-Ok-clause-output g c = λ bytes was e f.
    follows_ok c.args.letters c.args.follower.now bytes was (g.S.Source.left c.pass_through.new.source) (g.W.Sink.written c.pass_through.new.sink) c.in-Ok.field-0 (c.in-Ok.ensures.output bytes was e f)

pub returns-in-Err-clause-output : goal.returns-in-Err-clause-output
returns-in-Err-clause-output g c = λ bytes was e f.
    follows_err c.args.letters c.args.follower.now bytes was (g.S.Source.left c.pass_through.new.source) (g.W.Sink.written c.pass_through.new.sink) c.in-Err.fault (c.in-Err.ensures.output bytes was e f)
