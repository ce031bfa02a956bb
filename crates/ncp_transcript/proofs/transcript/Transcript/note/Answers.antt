use Rattle.std.proofs.Common.{◌≡◌, List, [], ◌∷◌, ◌++◌, refl, ap, ◌∙◌, subst}
use Rattle.ncp_transcript.specs.declared.note.HostNote.{HostNote}
use Rattle.ncp_transcript.specs.Alone.{IsHostStep}
use Rattle.ncp_transcript.proofs.Growing.{if_err}
use Rattle.ncp_transcript.proofs.transcript.Transcript.note.Goals as goal

pub returns-in_err-reserve-clause-err : goal.returns-in_err-reserve-clause-err
returns-in_err-reserve-clause-err g c =
    let same : (c.reserve.new.self.items ≡ c.args.self.now) × (c.args.host.now ≡ c.args.host.now) = (c.reserve.ensures.items ∙ c.self.view_is, refl) in
    if_err _ same

pub returns-clause-step : goal.returns-clause-step
returns-clause-step g c =
    subst (λ (was : List HostNote). IsHostStep c.args.input.now (record { host = c.args.host.now; notes = was }) (record { host = c.note_of.new.host; notes = c.push_reserved.new.self.items })) c.self.view_is (
      c.in_ok-note.note,
      c.in_ok-note.ensures.note,
      c.push_reserved.ensures.items ∙ ap (λ (ns : List HostNote). ns ++ c.in_ok-note.note ∷ []) c.reserve.ensures.items,
      c.in_ok-note.ensures.host,
    )
