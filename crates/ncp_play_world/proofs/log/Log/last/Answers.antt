use Rattle.std.proofs.Common.{◌-◌, List, length, sym, ap, ◌∙◌}
use Rattle.std.specs.Prelude.{slice_get}
use Rattle.ncp_play_world.proofs.Staging.{settled_so, noted_so, none_so}
use Rattle.ncp_play_world.proofs.log.Log.last.Goals as goal

pub returns-in_err-note-in-None : goal.returns-in_err-note-in-None
returns-in_err-note-in-None g c =
    rw c.from_residual.ensures
    (none_so g.H.AnyHosts.kind c.self.inside.hosts c.self.inside.marks.marks.items c.self.inside.marks.since c.self.invariant c.args.self.now c.self.view_is
    (sym c.in-None.is ∙ c.last.ensures) (c.in_err-note-in-None.ensures.value ∙ ap (λ (notes : List _). slice_get notes (length notes - 1)) c.transcript.ensures.notes))

pub returns-in-Some : goal.returns-in-Some
returns-in-Some g c = settled_so g.H.AnyHosts.kind c.self.inside.hosts c.self.inside.marks.marks.items c.self.inside.marks.since c.self.invariant c.args.self.now c.self.view_is c.in-Some.many (sym c.in-Some.is ∙ c.last.ensures)

pub returns-in_ok-note-in-None : goal.returns-in_ok-note-in-None
returns-in_ok-note-in-None g c =
    noted_so g.H.AnyHosts.kind c.self.inside.hosts c.self.inside.marks.marks.items c.self.inside.marks.since c.self.invariant c.args.self.now c.self.view_is c.in_ok-note-in-None.note.now
    (sym c.in-None.is ∙ c.last.ensures) (c.in_ok-note-in-None.ensures.value ∙ ap (λ (notes : List _). slice_get notes (length notes - 1)) c.transcript.ensures.notes)
