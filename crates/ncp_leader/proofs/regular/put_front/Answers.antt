use Rattle.std.proofs.Common.{◌≡◌, ℕ, List, Bool, Ok, sym, ◌∙◌}
use Rattle.std.proofs.lemmas.Result.{IfOk-at_ok}
use Rattle.ncp_numbers.specs.Bytes.{bits_of_bytes}
use Rattle.ncp_bits.specs.Bits.{read_bytes}
use Rattle.ncp_leader.proofs.Fronts.{front, front_read, front_is, not_refused}
use Rattle.ncp_leader.proofs.regular.put_front.Goals as goal

pub unwrap-requires : goal.unwrap-requires
unwrap-requires c =
    let there = rw (c.leader_bytes.ensures.bytes, c.to_be_bytes.ensures) at c.copy_from_bytes.ensures.err in
    not_refused c.copy_from_bytes.result (read_bytes (front c.args.leader.now c.args.size c.args.count) 72) (bits_of_bytes (front c.args.leader.now c.args.size c.args.count)) (front_read c.args.leader.now c.args.size c.args.count) there

pub returns-clause-bits : goal.returns-clause-bits
returns-clause-bits c =
    let there = rw (c.leader_bytes.ensures.bytes, c.to_be_bytes.ensures) at c.copy_from_bytes.ensures.ok in
    let read = IfOk-at_ok (λ _. read_bytes (front c.args.leader.now c.args.size c.args.count) 72 ≡ Ok c.copy_from_bytes.new.self) c.unwrap.ensures there in
    let bits : c.copy_from_bytes.new.self ≡ bits_of_bytes (front c.args.leader.now c.args.size c.args.count) = let e : Ok c.copy_from_bytes.new.self ≡ Ok (bits_of_bytes (front c.args.leader.now c.args.size c.args.count)) = sym read ∙ front_read c.args.leader.now c.args.size c.args.count in cc in
    bits ∙ front_is c.args.leader.now c.args.size c.args.count c.requires.kind
