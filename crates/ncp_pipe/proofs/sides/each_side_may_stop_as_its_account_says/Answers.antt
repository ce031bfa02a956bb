use Rattle.std.proofs.Common.{◌≡◌, false, refl, sym, ◌∙◌}
use Rattle.ncp_pipe.specs.Pipe.{Step}
use Rattle.ncp_pipe.specs.Pipe as pipes
use Rattle.ncp_pipe.specs.Sides.{is_sender_step, is_receiver_step, is_sender_stop, is_at_sender, is_at_receiver}
use Rattle.ncp_pipe.proofs.Weaving.{same-among}
use Rattle.ncp_pipe.proofs.SenderWeaving.{sender-woven}
use Rattle.ncp_pipe.proofs.ReceiverWeaving.{receiver-woven}
use Rattle.ncp_pipe.proofs.sides.each_side_may_stop_as_its_account_says.Goals as goal

calls-at-sender : (x : Step) → is_at_sender x ≡ false → is_sender_step x ≡ false
calls-at-sender pipes.Asks_to_send e = absurd (cc e)
calls-at-sender (pipes.Gives text) e = absurd (cc e)
calls-at-sender pipes.Closes_sender e = absurd (cc e)
calls-at-sender x e = refl

stops-at-sender : (x : Step) → is_at_sender x ≡ false → is_sender_stop x ≡ false
stops-at-sender pipes.Leaves_sender e = absurd (cc e)
stops-at-sender pipes.Cuts_sender e = absurd (cc e)
stops-at-sender x e = refl

calls-at-receiver : (x : Step) → is_at_receiver x ≡ false → is_receiver_step x ≡ false
calls-at-receiver pipes.Asks_to_receive e = absurd (cc e)
calls-at-receiver (pipes.Takes text) e = absurd (cc e)
calls-at-receiver (pipes.Allows bits) e = absurd (cc e)
calls-at-receiver pipes.Calls_back e = absurd (cc e)
calls-at-receiver pipes.Closes_receiver e = absurd (cc e)
calls-at-receiver x e = refl

pub returns : goal.returns
returns c steps sender receiver q dropped r s t held cs ct =
    let one = sender-woven steps q sender r s cs in
    let two = receiver-woven one.steps q receiver dropped held one.run t (ct ∙ sym (same-among is_receiver_step is_at_receiver calls-at-receiver one.steps steps one.beside)) in (
      two.steps,
      two.run,
      same-among is_sender_step is_at_sender calls-at-sender two.steps one.steps two.beside ∙ one.called ∙ cs,
      two.called ∙ ct,
      same-among is_sender_stop is_at_sender stops-at-sender two.steps one.steps two.beside ∙ one.stops,
      two.stops,
    )
