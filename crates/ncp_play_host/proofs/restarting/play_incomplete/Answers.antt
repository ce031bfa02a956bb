use Rattle.std.proofs.Common.{sym, ap, ◌∙◌}
use Rattle.ncp_host.specs.Host.{Host, state_of}
use Rattle.ncp_host.specs.Restarting.{is_message_out}
use Rattle.ncp_play_host.proofs.Incompletes.{plays_one}
use Rattle.ncp_play_host.proofs.restarting.play_incomplete.Goals as goal

pub returns-in-Ok-true-clause-events : goal.returns-in-Ok-true-clause-events
returns-in-Ok-true-clause-events g c =
    plays_one c.args.peer c.args.link c.args.alone.now c.play_input.new.alone c.incomplete.result (is_message_out c.args.link (state_of c.args.alone.now.host c.args.peer)) c.play_input.result c.incomplete.ensures
    (sym c.in-Ok-true.field-0-test ∙ c.in-Ok-true.ensures ∙ ap (λ (h : Host). is_message_out c.args.link (state_of h c.args.peer)) c.host.ensures) c.play_input.ensures.events
