use Rattle.std.proofs.Common.{◌≡◌, ◌+◌, ◌∙◌, List, [], ◌∷◌, ◌++◌, take, sym, ap, arith}
use Rattle.std.proofs.lemmas.List.{take_more, take_all}
use Rattle.ncp_slot.specs.declared.slot.Slot.TheVariants.{Empty}
use Rattle.ncp_slot.specs.declared.laws.LinkNote.{LinkNote}
use Rattle.ncp_slot.specs.Deeds.{deeds_of}
use Rattle.ncp_slot.specs.Steps.{slot_after, note_at}
use Rattle.ncp_slot.proofs.Runs.{slot_from, notes_from, slot_from-push, notes_from-push, leads_all, are_notes_all, does_all}
use Rattle.ncp_slot.proofs.Turns.{OneAnswerBetween-does, SameAfterFailure-does, OthersInOrder-does, PutsTold-leads, AnswersTold-leads, HandsTold-leads, slot_told-does}
use Rattle.ncp_slot.proofs.laws.run_link.Goals as goal

pub loop-event-preserved : goal.loop-event-preserved
loop-event-preserved c =
    let so_far = take c.loop-event.event-index c.args.events.now in
    let more : take (c.loop-event.event-index + 1) c.args.events.now ≡ so_far ++ c.event-item.result ∷ [] =
    take_more c.args.events.now c.loop-event.event-index c.event-item.result c.loop-event-test.true ∙ ap (λ e. so_far ++ e ∷ []) (sym c.event-item.is) in
    let note : c.note_event.result ≡ note_at (slot_from Empty so_far) c.event-item.result = c.note_event.ensures.note ∙ ap (λ s. note_at s c.event-item.result) c.loop-event.invariant.slot in
    record {
      len = omega arith;
      room = omega arith;
      notes = c.push_reserved.ensures.items ∙ ap (λ (notes : List LinkNote). notes ++ c.note_event.result ∷ []) c.loop-event.invariant.notes
          ∙ ap (λ n. notes_from Empty so_far ++ n ∷ []) note ∙ sym (notes_from-push Empty so_far c.event-item.result) ∙ ap (notes_from Empty) (sym more);
      slot = c.note_event.ensures.slot ∙ ap (λ s. slot_after s c.event-item.result) c.loop-event.invariant.slot ∙ sym (slot_from-push Empty so_far c.event-item.result) ∙ ap (slot_from Empty) (sym more);
      others = λ other ne. c.note_event.ensures.others other ne (c.loop-event.invariant.others other ne);
    }

-- the notes are those of all events
notes_is : (c : goal.After-loop-event) → c.loop-event.notes.items ≡ notes_from Empty c.args.events.now
notes_is c = c.loop-event.invariant.notes ∙ ap (notes_from Empty) (take_all c.loop-event.event-index c.args.events.now c.loop-event-test.false)

pub returns-clause-notes : goal.returns-clause-notes
returns-clause-notes c = are_notes_all c.args.events.now c.loop-event.notes.items (notes_is c)

pub returns-clause-between : goal.returns-clause-between
returns-clause-between c = OneAnswerBetween-does _ _ (does_all c.args.events.now c.loop-event.notes.items (notes_is c))

pub returns-clause-again : goal.returns-clause-again
returns-clause-again c = SameAfterFailure-does _ _ (does_all c.args.events.now c.loop-event.notes.items (notes_is c))

pub returns-clause-in_order : goal.returns-clause-in_order
returns-clause-in_order c = OthersInOrder-does (deeds_of c.args.events.now c.loop-event.notes.items) (slot_from Empty c.args.events.now) (does_all c.args.events.now c.loop-event.notes.items (notes_is c))

pub returns-clause-puts : goal.returns-clause-puts
returns-clause-puts c = PutsTold-leads _ _ (leads_all c.args.events.now c.loop-event.notes.items (notes_is c))

pub returns-clause-answers : goal.returns-clause-answers
returns-clause-answers c = AnswersTold-leads _ _ (leads_all c.args.events.now c.loop-event.notes.items (notes_is c))

pub returns-clause-hands : goal.returns-clause-hands
returns-clause-hands c = HandsTold-leads _ _ (leads_all c.args.events.now c.loop-event.notes.items (notes_is c))

pub returns-clause-slot : goal.returns-clause-slot
returns-clause-slot c =
    c.loop-event.invariant.slot ∙ ap (slot_from Empty) (take_all c.loop-event.event-index c.args.events.now c.loop-event-test.false)
    ∙ sym (slot_told-does (deeds_of c.args.events.now c.loop-event.notes.items) (slot_from Empty c.args.events.now) (does_all c.args.events.now c.loop-event.notes.items (notes_is c)))
