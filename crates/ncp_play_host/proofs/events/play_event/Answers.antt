use Rattle.ncp_play_host.proofs.Inputs.{one_input}
use Rattle.ncp_play_host.proofs.events.play_event.Goals as goal

pub returns-in-Input-clause-events : goal.returns-in-Input-clause-events
returns-in-Input-clause-events g c = rw c.in-Input.is (one_input c.in-Input.input c.args.alone.now c.play_input.new.alone c.play_input.result c.play_input.ensures.events)
