use Rattle.std.proofs.Common.{◌≡◌, Bool, List, sym, ap, ◌∙◌}
use Rattle.ncp_model.specs.Peers.{Give}
use Rattle.ncp_host.specs.Calls.{call_reply, after_call_to}
use Rattle.ncp_transcript.specs.declared.call.Call.TheVariants as calls
use Rattle.ncp_transcript.specs.Notes.{done_or_refused}
use Rattle.ncp_transcript.proofs.Doing.{done_or_stays}
use Rattle.ncp_transcript.proofs.calls.give.Goals as goal

pub returns-clause-note : goal.returns-clause-note
returns-clause-note g c =
    let peer = c.args.peer in let pair = c.args.pair in let h = c.args.host.now in let copy = c.in_ok-noted.noted in
    let same : copy ≡ c.args.text.now = c.in_ok-noted.ensures in
    c.done.ensures ∙ ap (done_or_refused (calls.Give peer pair copy)) c.give_part-reply.ensures.reply
    ∙ ap (λ (bits : List Bool). done_or_refused (calls.Give peer pair copy) (call_reply peer pair (Give bits) h)) c.whole.ensures
    ∙ ap (λ (bits : List Bool). done_or_refused (calls.Give peer pair bits) (call_reply peer pair (Give c.args.text.now) h)) same

pub returns-clause-host : goal.returns-clause-host
returns-clause-host g c =
    let peer = c.args.peer in let pair = c.args.pair in let h = c.args.host.now in
    done_or_stays (calls.Give peer pair c.in_ok-noted.noted) c.give_part-reply.result c.done.result h c.give_part-reply.new.self c.done.ensures
    (c.give_part-reply.ensures.host ∙ ap (λ (bits : List Bool). after_call_to peer pair (Give bits) h) (c.whole.ensures ∙ sym c.in_ok-noted.ensures)) c.give_part-reply.ensures.err
