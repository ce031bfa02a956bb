use Rattle.std.proofs.Common.{rules, ◌≡◌, [], Some}
use Rattle.ncp_web.proofs.scripts.host_played.Goals as goal

pub returns : goal.returns
returns c =
    let left : Some c.new-source.result.left ≡ Some c.args.input.now = search rules in
    let was : Some c.args.sink.now.written ≡ Some [] = search rules in
    (Some c.play_host.new.source.left, c.play_host.ensures.output c.args.input.now [] left was)
