use Rattle.std.proofs.Common.{◌≡◌, ◌+◌, ◌-◌, ◌++◌, List, Bool, ap, ◌∙◌, arith}
use Rattle.std.proofs.lemmas.List.{take_all}
use Rattle.std.proofs.lemmas.Result.{IfOk-at_ok}
use Rattle.ncp_bits.proofs.part.Part.to_bits.Goals as goal

pub returns : goal.returns
returns c =
    IfOk-at_ok (λ _. c.append.new.self ≡ c.new-bits.result ++ c.slice.result) c.unwrap.ensures c.append.ensures.ok
    ∙ ap (λ (bits : List Bool). bits ++ c.slice.result) c.new-bits.ensures
    ∙ c.slice.ensures.bits
    ∙ take_all (0 + c.len.result - 0) c.args.self.now (omega arith)
