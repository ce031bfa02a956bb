use Rattle.std.specs.Box.{boxed_slice_items}
use Rattle.std.proofs.Common.{◌≡◌, Option, IfOk, sym, ap, ◌∙◌, subst}
use Rattle.std.specs.Vec.{with_items}
use Rattle.std.proofs.lemmas.List.{with_items_is}
use Rattle.ncp_subnet.specs.declared.transit.Transit.{Transit}
use Rattle.ncp_transcript.specs.declared.note.HostNote.{HostNote}
use Rattle.ncp_step.specs.Noted.{put_noted}
use Rattle.ncp_transcript_many.specs.declared.many_event.ManyEvent.TheVariants as events
use Rattle.ncp_transcript_many.specs.declared.many_note.ManyNote.TheVariants as many
use Rattle.ncp_transcript_many.specs.Network.{Network, after_many}
use Rattle.ncp_transcript_many.specs.ManyHappening.{are_two, ManyNoted}
use Rattle.ncp_world.specs.Found.{at_noted}
use Rattle.ncp_world.proofs.Noting.{noted-answer, vain-answer, crowd-is, lent, on-err}
use Rattle.ncp_world.proofs.network.Network.answer.Goals.{in-Some, in-None}
use Rattle.ncp_world.proofs.network.Network.answer.Goals as goal

pub returns-clause-note : goal.returns-clause-note
returns-clause-note g c =
    let was : Network = record { hosts = c.deref_mut.result.now; subnet = c.self.inside.subnet } in
    let same : was ≡ c.args.self.now = lent c.deref_mut.result.now (boxed_slice_items c.self.inside.members) c.self.inside.subnet c.args.self.now c.deref_mut.ensures.value c.self.view_is in
    let there = ap (are_two c.args.from c.args.to) same ∙ c.requires in
    subst (λ (m : Network). IfOk c.match-branch-2.result (λ note. ManyNoted (events.Answer c.args.from c.args.to c.args.link) note m)) same (elim c.match-branch-2.branch [
      | in-Some w ↦ rw w.result-is (noted-answer was c.args.from c.args.to c.args.link there w.in-Some.note (sym w.in-Some.is ∙ c.in_ok-note.ensures.note))
      | in-None w ↦ rw w.result-is (vain-answer was c.args.from c.args.to c.args.link there (sym w.in-None.is ∙ c.in_ok-note.ensures.note))
    ])

pub returns-clause-network : goal.returns-clause-network
returns-clause-network g c =
    let was : Network = record { hosts = c.deref_mut.result.now; subnet = c.self.inside.subnet } in
    let same : was ≡ c.args.self.now = lent c.deref_mut.result.now (boxed_slice_items c.self.inside.members) c.self.inside.subnet c.args.self.now c.deref_mut.ensures.value c.self.view_is in
    let it = c.in_ok-note in
    let hosts = with_items_is c.self.inside.members.items c.answered.new.members (c.answered.auto.members ∙ c.deref_mut.ensures.len) in
    elim c.match-branch-2.branch [
      | in-Some w ↦ rw w.result-is (
          let note = many.Answered c.args.from c.args.to c.args.link w.in-Some.note in
          crowd-is (with_items c.self.inside.members.items c.answered.new.members).items c.answered.new.subnet (after_many note was)
          (hosts ∙ it.ensures.hosts ∙ ap (λ (o : Option HostNote). at_noted c.args.from o was.hosts) w.in-Some.is)
          (it.ensures.subnet ∙ ap (λ (o : Option HostNote). put_noted o c.args.from c.args.to c.args.link Transit.Free was.subnet) w.in-Some.is)
          ∙ ap (after_many note) same
          )
      | in-None w ↦ rw w.result-is (
          crowd-is (with_items c.self.inside.members.items c.answered.new.members).items c.answered.new.subnet was
          (hosts ∙ it.ensures.hosts ∙ ap (λ (o : Option HostNote). at_noted c.args.from o was.hosts) w.in-None.is)
          (it.ensures.subnet ∙ ap (λ (o : Option HostNote). put_noted o c.args.from c.args.to c.args.link Transit.Free was.subnet) w.in-None.is)
          ∙ same
          )
    ]

pub returns-clause-err : goal.returns-clause-err
returns-clause-err g c = elim c.match-branch-2.branch [ in-Some w ↦ rw w.result-is tt | in-None w ↦ rw w.result-is tt ]

pub returns-in_err-note-clause-err : goal.returns-in_err-note-clause-err
returns-in_err-note-clause-err g c =
    on-err c.from_residual.result
    (crowd-is (with_items c.self.inside.members.items c.answered.new.members).items c.answered.new.subnet (record { hosts = (boxed_slice_items c.self.inside.members); subnet = c.self.inside.subnet })
    (with_items_is c.self.inside.members.items c.answered.new.members (c.answered.auto.members ∙ c.deref_mut.ensures.len) ∙ c.in_err-note.ensures.err ∙ c.deref_mut.ensures.value) c.in_err-note.ensures.kept ∙ c.self.view_is)
