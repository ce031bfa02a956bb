-- The first bytes are the spelling, and no spelling is longer than what is looked at.
use Rattle.std.proofs.Common.{◌≡◌, ◌++◌, ◌+◌, ◌-◌, ◌≤◌, List, ℕ, Ok, min, length, take, sym, ap, ◌∙◌, subst, length-append, arith}
use Rattle.std.proofs.Math.Seq.{take-append-add}
use Rattle.std.specs.Result.{IsOkAnd}
use Rattle.ncp_wire.specs.declared.command.Command.{Command}
use Rattle.ncp_wire.specs.Spelling.{IsCommand, spelling}
use Rattle.ncp_control.proofs.Reading.{spelling_short}
use Rattle.ncp_saved.proofs.reader.Reader.other_command.Goals as goal

front_is : (inside all rest : List ℕ) (command : Command) (count : ℕ) → IsCommand command → inside ≡ all → all ≡ spelling command ++ rest → count ≡ min (length inside) 12
    → take count inside ≡ spelling command ++ take (count - length (spelling command)) rest
front_is inside all rest command count fits same e is =
    let short : length (spelling command) ≤ 12 = spelling_short command fits in
    let long : length inside ≡ length (spelling command) + length rest = ap length (same ∙ e) ∙ length-append (spelling command) rest in
    let n : count ≡ length (spelling command) + (count - length (spelling command)) = omega (arith, short, long, is) in
    ap (take count) (same ∙ e) ∙ ap (λ (k : ℕ). take k (spelling command ++ rest)) n ∙ take-append-add (spelling command) rest (count - length (spelling command))

pub returns-in_err-command : goal.returns-in_err-command
returns-in_err-command c = record {
  reads = λ command rest fits e.
      let is = c.first_command.ensures.reads command _ fits (front_is c.self.inside.bytes.now c.args.self.now rest command c.min-count.result fits c.self.view_is e c.min-count.ensures) in
      absurd (let was = c.in_err-command.was in cc);
}

pub returns-in_err-take : goal.returns-in_err-take
returns-in_err-take c = record {
  reads = λ command rest fits e.
      let is = c.first_command.ensures.reads command _ fits (front_is c.self.inside.bytes.now c.args.self.now rest command c.min-count.result fits c.self.view_is e c.min-count.ensures) in
      let same : c.in_ok-command.command ≡ command = (let was = c.in_ok-command.was in cc) in
      let count : length (spelling command) ≡ c.len.result = ap (λ k. length (spelling k)) (sym same) ∙ ap length (sym c.put_command.ensures.spelling) ∙ sym c.len.ensures.value in
      let t = c.take.ensures.bytes (spelling command) rest count e in
      absurd (subst (λ r. IsOkAnd r (λ bytes. bytes.now ≡ spelling command)) c.in_err-take.was t.0);
}

pub returns : goal.returns
returns c = record {
  reads = λ command rest fits e.
      let is = c.first_command.ensures.reads command _ fits (front_is c.self.inside.bytes.now c.args.self.now rest command c.min-count.result fits c.self.view_is e c.min-count.ensures) in
      let same : c.in_ok-command.command ≡ command = (let was = c.in_ok-command.was in cc) in
      let count : length (spelling command) ≡ c.len.result = ap (λ k. length (spelling k)) (sym same) ∙ ap length (sym c.put_command.ensures.spelling) ∙ sym c.len.ensures.value in
      (ap Ok same, (c.take.ensures.bytes (spelling command) rest count e).1);
}
