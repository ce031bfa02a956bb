use Rattle.std.proofs.Common.{◌≡◌, ◌++◌, ◌*◌, ◌/◌, ℕ, List, Bool, length, sym, ap, ◌∙◌, arith}
use Rattle.std.proofs.lemmas.Result.{IfOk-at_ok}
use Rattle.ncp_numbers.specs.Bytes.{bits_of_bytes}
use Rattle.ncp_leader.specs.Front.{front_bits}
use Rattle.ncp_leader.proofs.Fronts.{front_text}
use Rattle.ncp_peer.specs.Output.{leader_to}
use Rattle.ncp_peer.proofs.sending.write_control.Goals as goal

pub returns : goal.returns
returns c =
    let count : ℕ = length c.args.bytes.now in
    let long : length (bits_of_bytes c.args.bytes.now) ≡ 8 * count = ap (λ (bits : List Bool). length bits) (sym c.bits_of_text.ensures.bits) ∙ c.bits_of_text.ensures.len in
    let counted : count ≡ length (bits_of_bytes c.args.bytes.now) / 8 = omega (arith, long) in
    IfOk-at_ok (λ _. c.append.new.self ≡ c.write_front.new.message ++ c.bits_of_text.result) c.unwrap.ensures c.append.ensures.ok
    ∙ ap (λ (bits : List Bool). bits ++ c.bits_of_text.result) c.write_front.ensures.front
    ∙ ap (λ (bits : List Bool). front_bits (leader_to c.args.number 0) 8 count ++ bits) c.bits_of_text.ensures.bits
    ∙ front_text (leader_to c.args.number 0) 8 count (bits_of_bytes c.args.bytes.now) counted
