use Rattle.std.proofs.Common.{rules, ◌≡◌, [], Some}
use Rattle.ncp_web.proofs.files.shown.Goals as goal

pub returns : goal.returns
returns c =
    let left : Some c.new-source.result.left ≡ Some c.args.input.now = search rules in
    let was : Some c.args.sink.now.written ≡ Some [] = search rules in
    (Some c.show.new.source.left, c.show.ensures.output c.args.input.now [] left was)
