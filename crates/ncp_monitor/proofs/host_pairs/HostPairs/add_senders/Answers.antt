use Rattle.std.proofs.Common.{Bool, List, take, sym, ap, ◌∙◌, arith}
use Rattle.std.specs.List.{fold}
use Rattle.std.proofs.lemmas.List.Sums.{fold_more}
use Rattle.ncp_interface.specs.declared.sent_message.SentMessage.{SentMessage}
use Rattle.ncp_monitor.specs.Resets.{doubting_sender}
use Rattle.ncp_monitor.proofs.host_pairs.HostPairs.add_senders.Goals as goal

pub loop-one-preserved : goal.loop-one-preserved
loop-one-preserved c =
    let f = doubting_sender c.args.at in
    let before = fold f c.args.self.now (take c.loop-one.one-index c.args.kept.now) in
    c.add_sender.ensures ∙ ap (λ (pairs : List Bool). f pairs c.one-item.result) c.loop-one.invariant ∙ ap (λ (one : SentMessage). f before one) c.one-item.is
    ∙ sym (fold_more f c.args.self.now c.args.kept.now c.loop-one.one-index c.one-item.result (omega (arith, c.loop-one-test.true, c.loop-one.auto.one-index-end)))
