use Rattle.std.proofs.Common.{rules, ◌≡◌, [], Some}
use Rattle.ncp_web.proofs.files.checked.Goals as goal

pub returns : goal.returns
returns c =
    let left : Some c.new-source.result.left ≡ Some c.args.input.now = search rules in
    let was : Some c.args.sink.now.written ≡ Some [] = search rules in
    (Some c.check.new.source.left, c.check.ensures.output c.args.input.now [] left was)
