use Rattle.std.proofs.Common.{Bool, List, ap, ◌∙◌}
use Rattle.ncp_interface.specs.declared.sent_message.SentMessage.{SentMessage}
use Rattle.ncp_monitor.specs.Resets.{doubting_senders, doubting_peers}
use Rattle.ncp_monitor.proofs.monitor.Monitor.reset.Goals as goal

pub returns : goal.returns
returns c =
    let was = c.args.self.now in
    let at = c.args.at in
    ap (λ (pairs : List Bool). record was { in_doubt = pairs; kept = c.reset_at.new.self })
    (c.add_peers.ensures ∙ ap (λ (pairs : List Bool). doubting_peers at was.views pairs) (c.add_senders.ensures ∙ ap (λ (kept : List SentMessage). doubting_senders at kept was.in_doubt) c.as_slice.ensures))
    ∙ ap (λ (kept : List SentMessage). record was { in_doubt = doubting_peers at was.views (doubting_senders at was.kept was.in_doubt); kept = kept }) c.reset_at.ensures
