use Rattle.std.specs.Box.{boxed_slice_items}
use Rattle.std.proofs.Common.{◌≡◌, refl, ap, ◌∙◌, subst}
use Rattle.std.specs.Vec.{with_items}
use Rattle.std.proofs.lemmas.List.{with_items_is}
use Rattle.ncp_transcript_many.specs.declared.many_event.ManyEvent.TheVariants as events
use Rattle.ncp_transcript_many.specs.declared.many_note.ManyNote.TheVariants as many
use Rattle.ncp_transcript_many.specs.Network.{Network, is_there, after_many}
use Rattle.ncp_transcript_many.specs.ManyHappening.{ManyNoted}
use Rattle.ncp_world.proofs.Noting.{noted-call, crowd-is, lent, on-err}
use Rattle.ncp_world.proofs.network.Network.call.Goals as goal

pub returns-clause-note : goal.returns-clause-note
returns-clause-note g c =
    let was : Network = record { hosts = c.deref_mut.result.now; subnet = c.self.inside.subnet } in
    let same : was ≡ c.args.self.now = lent c.deref_mut.result.now (boxed_slice_items c.self.inside.members) c.self.inside.subnet c.args.self.now c.deref_mut.ensures.value c.self.view_is in
    let there = ap (is_there c.args.host) same ∙ c.requires in
    subst (λ (m : Network). ManyNoted (events.Call c.args.host c.args.call.now) (many.Called c.args.host c.in_ok-note.note) m) same (noted-call was c.args.host c.args.call.now c.in_ok-note.note there c.in_ok-note.ensures.note c.called.ensures.fits)

pub returns-clause-network : goal.returns-clause-network
returns-clause-network g c =
    let was : Network = record { hosts = c.deref_mut.result.now; subnet = c.self.inside.subnet } in
    let same : was ≡ c.args.self.now = lent c.deref_mut.result.now (boxed_slice_items c.self.inside.members) c.self.inside.subnet c.args.self.now c.deref_mut.ensures.value c.self.view_is in
    let note = many.Called c.args.host c.in_ok-note.note in
    crowd-is (with_items c.self.inside.members.items c.called.new.members).items c.self.inside.subnet (after_many note was)
    (with_items_is c.self.inside.members.items c.called.new.members (c.called.auto.members ∙ c.deref_mut.ensures.len) ∙ c.in_ok-note.ensures.hosts)
    refl
    ∙ ap (after_many note) same

pub returns-in_err-note-clause-err : goal.returns-in_err-note-clause-err
returns-in_err-note-clause-err g c =
    on-err c.from_residual.result
    (crowd-is (with_items c.self.inside.members.items c.called.new.members).items c.self.inside.subnet (record { hosts = (boxed_slice_items c.self.inside.members); subnet = c.self.inside.subnet })
    (with_items_is c.self.inside.members.items c.called.new.members (c.called.auto.members ∙ c.deref_mut.ensures.len) ∙ c.in_err-note.ensures.err ∙ c.deref_mut.ensures.value) refl ∙ c.self.view_is)
