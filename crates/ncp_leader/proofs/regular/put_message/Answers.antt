use Rattle.std.proofs.Common.{◌≡◌, ℕ, ◌/◌, List, Bool, ◌++◌, length, ap, ◌∙◌}
use Rattle.std.proofs.lemmas.Result.{IfOk-at_ok}
use Rattle.ncp_leader.proofs.Fronts.{front_text}
use Rattle.ncp_leader.proofs.regular.put_message.Goals as goal

pub returns-clause-bits : goal.returns-clause-bits
returns-clause-bits c =
    let counted : c.len.result / c.from.result ≡ length c.args.text / c.args.size = ap (λ (k : ℕ). k / c.from.result) c.len.ensures.len ∙ ap (λ (k : ℕ). length c.args.text / k) c.from.ensures in
    IfOk-at_ok (λ _. c.append.new.self ≡ c.put_front.new.bits ++ c.args.text) c.unwrap.ensures c.append.ensures.ok
    ∙ ap (λ (xs : List Bool). xs ++ c.args.text) c.put_front.ensures.bits
    ∙ front_text c.args.leader.now c.args.size (c.len.result / c.from.result) c.args.text counted
