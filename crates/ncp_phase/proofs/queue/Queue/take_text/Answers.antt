use Rattle.std.proofs.Common.{ℕ, List, length, drop, sym, ap, ◌∙◌, arith}
use Rattle.ncp_wire.specs.Spelling.{spellings}
use Rattle.ncp_model.specs.Sending.{next_commands}
use Rattle.ncp_phase.proofs.Filling.{filled_more, returned_full}
use Rattle.ncp_phase.proofs.queue.Queue.take_text.Goals as goal

pub loop-place-preserved : goal.loop-place-preserved
loop-place-preserved c = record {
  filled = filled_more c.self.inside.commands.items c.loop-place._place c.loop-place.self-inside.commands.items c.pop_front.new.self.items c.loop-place.text.items c.as_slice.result.now c.try_extend_from_slice.new.self.items c.in-Some.command
      (omega (arith, c.loop-place-test.true, c.len-place-end.ensures.len)) c.loop-place.invariant.filled (sym c.in-Some.is ∙ c.copied.ensures ∙ c.front.ensures)
      (c.as_slice.ensures.value ∙ c.put_command-bytes.ensures.spelling)
      (omega (arith, ap (λ (xs : List ℕ). length xs) c.as_slice.ensures.value, c.if-len.false, c.len.ensures.value, c.len-in-loop-place.ensures.value, c.loop-place.invariant.filled.room))
      (rw c.unwrap.ensures at c.try_extend_from_slice.ensures.ok) (ap (λ b. b.items) c.pop_front.ensures.items);
  capacity = ap (λ b. b.capacity) c.pop_front.ensures.items ∙ c.loop-place.invariant.capacity;
}

pub returns-then-len-clause-text : goal.returns-then-len-clause-text
returns-then-len-clause-text c =
    (returned_full c.self.inside.commands.items c.loop-place._place c.loop-place.self-inside.commands.items c.loop-place.text.items c.put_command-bytes.result.items c.in-Some.command
    (omega (arith, c.loop-place-test.true, c.len-place-end.ensures.len)) c.loop-place.invariant.filled (sym c.in-Some.is ∙ c.copied.ensures ∙ c.front.ensures) c.put_command-bytes.ensures.spelling
    (omega (arith, c.if-len.true, c.len.ensures.value, c.len-in-loop-place.ensures.value, c.loop-place.invariant.filled.room))).text
    ∙ ap (λ cs. spellings (next_commands cs)) c.self.view_is

pub returns-then-len-clause-rest : goal.returns-then-len-clause-rest
returns-then-len-clause-rest c =
    (returned_full c.self.inside.commands.items c.loop-place._place c.loop-place.self-inside.commands.items c.loop-place.text.items c.put_command-bytes.result.items c.in-Some.command
    (omega (arith, c.loop-place-test.true, c.len-place-end.ensures.len)) c.loop-place.invariant.filled (sym c.in-Some.is ∙ c.copied.ensures ∙ c.front.ensures) c.put_command-bytes.ensures.spelling
    (omega (arith, c.if-len.true, c.len.ensures.value, c.len-in-loop-place.ensures.value, c.loop-place.invariant.filled.room))).rest
    ∙ ap (λ cs. drop (length (next_commands cs)) cs) c.self.view_is
