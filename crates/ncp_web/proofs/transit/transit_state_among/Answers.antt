use Rattle.std.proofs.Common.{List, sym, ap, ◌∙◌, subst}
use Rattle.ncp_transcript_many.specs.declared.many_note.ManyNote.{ManyNote}
use Rattle.ncp_transcript_many.specs.ManyHappening.{are_two}
use Rattle.ncp_transcript_many.specs.ManyTranscript.{IsManyTranscript, Noted_many}
use Rattle.ncp_web.specs.declared.transit.TransitState.TheVariants.{Free}
use Rattle.ncp_web.specs.TransitStates.{transit_state_printed_of_many, last_printed}
use Rattle.ncp_web.proofs.Sides.{of-two-there}
use Rattle.ncp_web.proofs.transit.transit_state_among.Goals as goal

pub returns : goal.returns
returns c =
    let many = c.args.of_many.now.hosts.hosts in let sender = c.args.sender in let peer = c.args.peer in let link = c.args.link in
    let run = subst (λ (it : Noted_many). IsManyTranscript it.notes it.hosts) c.many-many.ensures c.transcript.ensures.run in
    let notes = c.transcript.ensures.notes ∙ ap (λ (it : Noted_many). it.notes) c.many-many.ensures in
    let there = sym (c.are_two.ensures ∙ ap (λ (it : Noted_many). are_two sender peer it.hosts) c.many-many.ensures) ∙ c.if-not-are_two.false in
    c.transit_state_of_many.ensures ∙ ap (λ (ns : List ManyNote). last_printed (transit_state_printed_of_many sender peer link) ns Free) notes
    ∙ of-two-there sender peer link many.hosts many.notes there run (c.what_goes_out_of_each_of_many_is_taken.ensures many.notes many.hosts run)
