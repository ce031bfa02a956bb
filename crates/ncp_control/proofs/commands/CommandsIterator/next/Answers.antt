use Rattle.std.proofs.Common.{◌≡◌, ◌∷◌, length, Ok, Err, refl, sym, ap, ◌∙◌, arith}
use Rattle.ncp_numbers.specs.Bytes.{bytes_of}
use Rattle.ncp_control.specs.Reading.{items_in}
use Rattle.ncp_control.proofs.Reading.{items_fault}
use Rattle.ncp_control.proofs.Items.{none_met, command_met}
use Rattle.ncp_control.proofs.commands.CommandsIterator.next.Goals as goal

pub returns-then-is_empty-clause-steps : goal.returns-then-is_empty-clause-steps
returns-then-is_empty-clause-steps c =
    let none = none_met c.self.inside.text (c.if-is_empty.ensures.0 refl) in
    (sym c.self.view_is ∙ none, sym c.self.view_is ∙ none)

-- a command, and what is met behind it
met : (c : goal.After-self-1) → c.args.self.now ≡ Ok c.in-Ok.command ∷ items_in (bytes_of c.in-Ok.rest)
met c = sym c.self.view_is ∙ command_met c.self.inside.text c.in-Ok.rest c.in-Ok.command c.self.invariant c.in-Ok.ensures.command c.in-Ok.ensures.rest

pub returns-in-Ok-clause-steps : goal.returns-in-Ok-clause-steps
returns-in-Ok-clause-steps c = met c

pub returns-in-Ok-clause-goes : goal.returns-in-Ok-clause-goes
returns-in-Ok-clause-goes c = record {
  on = λ finite. (tt, tt, let l = ap length (met c) in omega arith);
  keeps = tt;
  rests = λ finite. tt;
}

-- a fault, and nothing behind it
failed : (c : goal.After-self-in-Err-1) → c.args.self.now ≡ Err c.in-Err.fault ∷ items_in (bytes_of c.slice-self-inside.result)
failed c =
    sym c.self.view_is
    ∙ items_fault (bytes_of c.self.inside.text) c.in-Err.fault c.in-Err.ensures.command c.in-Err.ensures.rest
    ∙ ap (λ items. Err c.in-Err.fault ∷ items) (sym (none_met c.slice-self-inside.result c.slice-self-inside.ensures.len))

pub returns-in-Err-clause-steps : goal.returns-in-Err-clause-steps
returns-in-Err-clause-steps c = failed c

pub returns-in-Err-clause-goes : goal.returns-in-Err-clause-goes
returns-in-Err-clause-goes c = record {
  on = λ finite. (tt, tt, let l = ap length (failed c) in omega arith);
  keeps = tt;
  rests = λ finite. tt;
}
