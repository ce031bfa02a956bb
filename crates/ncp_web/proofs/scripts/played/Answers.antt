use Rattle.std.proofs.Common.{rules, ◌≡◌, [], Some}
use Rattle.ncp_web.proofs.scripts.played.Goals as goal

pub returns : goal.returns
returns c =
    let left : Some c.new-source.result.left ≡ Some c.args.input.now = search rules in
    let was : Some c.args.sink.now.written ≡ Some [] = search rules in
    (λ two. (Some c.play_world.new.source.left, c.play_world.ensures.output c.args.input.now [] left was two), λ many. (Some c.play_world.new.source.left, c.play_world.ensures.many c.args.input.now [] left was many))
