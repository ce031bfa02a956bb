use Rattle.ncp_play_follow.proofs.SaidTexts.{follows_text}
use Rattle.ncp_play_follow.proofs.text.follow_text.Goals as goal

pub returns-clause-output : goal.returns-clause-output
returns-clause-output g c = λ bytes was e f.
    follows_text c.args.wanted c.args.follower.now bytes was (g.S.Source.left c.pass_through.new.source) (g.W.Sink.written c.pass_through.new.sink) c.pass_through.result c.forget_text.new.self c.new.result c.forget_text.ensures c.new.ensures (c.pass_through.ensures.output bytes was e f)
