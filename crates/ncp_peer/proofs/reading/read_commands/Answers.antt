-- Each command that is read is queued behind those before it.
use Rattle.std.proofs.Common.{◌≡◌, ◌++◌, ◌∷◌, List, inl, inr, refl, sym, ap, ap₂, ◌∙◌, subst, arith}
use Rattle.ncp_wire.specs.declared.command.Command.{Command}
use Rattle.ncp_model.specs.Phase.{Phase}
use Rattle.ncp_saved.specs.Values.{listed, command_saved}
use Rattle.ncp_saved.specs.Reading.{HasItsData}
use Rattle.ncp_phase.specs.Waiting.{QueueFits}
use Rattle.ncp_phase.specs.Restoring.{phase_with, restored}
use Rattle.ncp_phase.proofs.Restored.{next_restored}
use Rattle.ncp_peer.proofs.ListRead.{at_mark, at_next, at_most}
use Rattle.ncp_peer.proofs.TableRead.{next_has}
use Rattle.ncp_peer.proofs.reading.read_commands.Goals as goal

pub returns-in_err-mark : goal.returns-in_err-mark
returns-in_err-mark c = record {
  reads = λ flags waiting rest queue told down e.
      elim (at_mark command_saved waiting rest c.loop-place.reader c.mark.new.self c.loop-place._place _ c.mark.result (c.loop-place.invariant flags waiting rest queue told down e) c.mark.ensures.reads) [
        | inl end ↦ absurd (let was = c.in_err-mark.was in let is = end.0 in cc)
        | inr more ↦ absurd (let was = c.in_err-mark.was in let is = more.0 in cc)
      ];
}

pub returns-then-not-branch : goal.returns-then-not-branch
returns-then-not-branch c = record {
  reads = λ flags waiting rest queue told down e.
      let at = c.loop-place.invariant flags waiting rest queue told down e in
      elim (at_mark command_saved waiting rest c.loop-place.reader c.mark.new.self c.loop-place._place _ c.mark.result at c.mark.ensures.reads) [
        | inl end ↦ (refl, at.holds ∙ ap (phase_with flags) end.1, end.2)
        | inr more ↦ absurd (let was = c.in_ok-mark.was in let is = more.0 in let no = c.if-not-branch.true in cc)
      ];
}

pub returns-in_err-command : goal.returns-in_err-command
returns-in_err-command c = record {
  reads = λ flags waiting rest queue told down e.
      let at = c.loop-place.invariant flags waiting rest queue told down e in
      elim (at_mark command_saved waiting rest c.loop-place.reader c.mark.new.self c.loop-place._place _ c.mark.result at c.mark.ensures.reads) [
        | inl end ↦ absurd (let was = c.in_ok-mark.was in let is = end.0 in let yes = c.if-not-branch.false in cc)
        | inr more ↦
            let next = more.1 in
            absurd (let read = c.command.ensures.reads next.next (listed command_saved next.others ++ rest) (next_has HasItsData waiting at.done next.others next.next told next.joined) next.bytes in let was = c.in_err-command.was in cc)
      ];
}

pub loop-place-preserved : goal.loop-place-preserved
loop-place-preserved c = λ flags waiting rest queue told down e.
    let at = c.loop-place.invariant flags waiting rest queue told down e in
    elim (at_mark command_saved waiting rest c.loop-place.reader c.mark.new.self c.loop-place._place _ c.mark.result at c.mark.ensures.reads) [
      | inl end ↦ absurd (let was = c.in_ok-mark.was in let is = end.0 in let yes = c.if-not-branch.false in cc)
      | inr more ↦
          let next = more.1 in
          let read = c.command.ensures.reads next.next (listed command_saved next.others ++ rest) (next_has HasItsData waiting at.done next.others next.next told next.joined) next.bytes in
          let same : c.in_ok-command.field-0 ≡ next.next = (let was = c.in_ok-command.was in let is = read.0 in cc) in
          let fits : QueueFits (phase_with flags (at.done ++ next.next ∷ next.others)) = subst (λ (xs : List Command). QueueFits (phase_with flags xs)) (sym next.joined) queue in
          at_next command_saved waiting rest c.loop-place.reader c.mark.new.self c.command.new.self c.loop-place._place _ _ at next read.1
          (c.restore.ensures ∙ ap₂ (λ (k : Command) (p : Phase). restored k p) same at.holds ∙ next_restored flags at.done next.others next.next fits)
    ]

pub returns : goal.returns
returns c = record {
  reads = λ flags waiting rest queue told down e.
      let most = at_most command_saved waiting rest c.loop-place.reader c.loop-place._place _ (c.loop-place.invariant flags waiting rest queue told down e) in
      absurd (let n = c.loop-place-test.false in let few = queue.place in omega (arith, most, n, few));
}
