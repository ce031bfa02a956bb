use Rattle.std.proofs.Common.{ℕ, List, Some, rules, sym, ap, ◌∙◌}
use Rattle.ncp_play_script.specs.Calls.{Read}
use Rattle.ncp_play_script.specs.FirstLines.{numbers_first, few_first}
use Rattle.ncp_play_script.proofs.Peers.{in_front, none_in_front, one_in_front, all_in_front, one_numbered, is_taken, one_fits}
use Rattle.ncp_play_script.proofs.first_lines.numbers_first.Goals as goal

pub loop-words-init : goal.loop-words-init
loop-words-init c = record {
  read = ap few_first (sym (none_in_front (numbers_first c.args.words.now)) ∙ ap (λ (items : List ℕ). in_front items (numbers_first c.args.words.now)) (sym c.new-numbers.ensures));
  room = search rules;
}

pub returns : goal.returns
returns c =
    let read = c.loop-words.numbers.items in
    sym (c.loop-words.invariant.read ∙ all_in_front read c.loop-words.words c.loop-words.invariant.room (sym c.ends_at.ensures ∙ c.loop-words-test.false))

pub loop-words-preserved : goal.loop-words-preserved
loop-words-preserved c =
    let read = c.loop-words.numbers.items in
    let number = c.in_ok-number.number in
    let behind = c.next_u8.new.self in
    let taken = is_taken c.try_push.result c.ok.result c.in_ok-ok.field-0 c.ok.ensures.value c.in_ok-ok.was c.try_push.ensures.ok in
    record {
      read = c.loop-words.invariant.read
          ∙ ap (λ (found : Read (List ℕ)). few_first (in_front read found)) (one_numbered c.loop-words.words (sym c.ends_at.ensures ∙ c.loop-words-test.true) (Some (number, behind)) c.in_ok-number.ensures)
          ∙ ap few_first (one_in_front read number (numbers_first behind))
          ∙ ap (λ (items : List ℕ). few_first (in_front items (numbers_first behind))) (sym taken.1);
      room = one_fits read c.try_push.new.self.items number taken.1 (c.try_push.ensures.variant.0 taken.0);
    }
