use Rattle.std.proofs.Common.{ap, ◌∙◌}
use Rattle.ncp_host.specs.Calls.{take_reply}
use Rattle.ncp_transcript.specs.declared.call.Call.TheVariants as calls
use Rattle.ncp_transcript.specs.declared.note.HostNote.TheVariants.{Took}
use Rattle.ncp_transcript.specs.Notes.{returned_or_refused}
use Rattle.ncp_transcript.proofs.calls.take.Goals as goal

pub returns-in-Ok-clause-note : goal.returns-in-Ok-clause-note
returns-in-Ok-clause-note g c =
    let peer = c.args.peer in let pair = c.args.pair in let bytes = c.args.bytes in
    ap (Took peer pair bytes) c.pack_in_room.ensures ∙ ap (returned_or_refused (calls.Take peer pair bytes) (Took peer pair bytes)) {y = take_reply peer pair bytes c.args.host.now} c.in-Ok.ensures.reply

pub returns-in-Ok-clause-host : goal.returns-in-Ok-clause-host
returns-in-Ok-clause-host g c = c.in-Ok.ensures.host

pub returns-in-Err-clause-note : goal.returns-in-Err-clause-note
returns-in-Err-clause-note g c =
    let peer = c.args.peer in let pair = c.args.pair in let bytes = c.args.bytes in
    ap (returned_or_refused (calls.Take peer pair bytes) (Took peer pair bytes)) {y = take_reply peer pair bytes c.args.host.now} c.in-Err.ensures.reply

pub returns-in-Err-clause-host : goal.returns-in-Err-clause-host
returns-in-Err-clause-host g c = c.in-Err.ensures.err
