use Rattle.std.proofs.Common.{List, sym, ap, ◌∙◌, subst}
use Rattle.ncp_transcript_two.specs.declared.note.Note.{Note}
use Rattle.ncp_transcript_two.specs.Transcript.{IsTranscript, Noted_world}
use Rattle.ncp_web.specs.declared.transit.TransitState.TheVariants.{Free}
use Rattle.ncp_web.specs.TransitStates.{transit_state_printed, last_printed}
use Rattle.ncp_web.specs.Sessions.{side_at}
use Rattle.ncp_web.proofs.Sides.{of-two-sides}
use Rattle.ncp_web.proofs.transit.transit_state_between.Goals as goal

pub returns : goal.returns
returns c =
    let named = c.args.two.now.first.hosts in let world = c.args.two.now.hosts.hosts in let side = c.in-Some.side in let link = c.args.link in
    let run = subst (λ (it : Noted_world). IsTranscript it.notes it.hosts) c.world.ensures c.transcript.ensures.run in
    let notes = c.transcript.ensures.notes ∙ ap (λ (it : Noted_world). it.notes) c.world.ensures in
    c.transit_state_of_two.ensures ∙ ap (λ (ns : List Note). last_printed (transit_state_printed side link) ns Free) notes
    ∙ of-two-sides (side_at named c.args.sender) (side_at named c.args.peer) link world.hosts side c.in-Some-side_of.other world.notes (sym c.side_of.ensures ∙ c.in-Some.is)
    (sym c.side_of-2.ensures ∙ c.in-Some-side_of.is) (sym c.is_same.ensures ∙ c.if-is_same.false) run (c.each_output_is_accepted_after_its_note.ensures world.notes world.hosts run)
